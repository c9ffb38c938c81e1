-- What the rows of the code hold, before and after.
use Rattle.std.specs.Prelude.{ℕ, zero, suc, ◌+◌, ◌≤◌, ◌<◌, ◌≡◌, List, [], ◌∷◌, length, take, drop}
use Rattle.std.proofs.lemmas.List.Edits.{sets}
use Rattle.settle.specs.Payments.{table_length, how_many}
use Rattle.settle.specs.Settlement.{accounts}
use Rattle.settle.specs.Rules.{Good}
use Rattle.queue.specs.Tests.{Outcome, stays, try_of}
use Rattle.queue.specs.declared.Step.{Step}

-- a batch's row stands in the table
pub record Stands (batches : List ℕ) (place : ℕ) : Type 0 where
  pub t_long : length batches ≡ table_length
  pub placed : place < 32
  pub few : how_many batches place ≤ 100

-- each queued batch keeps the table rules
unfoldable pub AllGood : List ℕ → List ℕ → Type 0
AllGood t [] = Unit {0}
AllGood t (p ∷ q) = Good t p × AllGood t q

-- 1 + 2 + .. + n: the most tries that a queue of n makes
unfoldable pub most : ℕ → ℕ
most zero = 0
most (suc n) = suc n + most n

-- a turn is noted
pub record Noted (s : Step) (p : ℕ) (q : List ℕ) (w : ℕ) (r : List ℕ) (k : ℕ) (q' : List ℕ) (w' : ℕ) (r' : List ℕ) (k' : ℕ) : Type 0 where
  pub queue : q' ≡ sets q w (stays s p)
  pub kept : w' ≡ w + length (stays s p)
  pub row : r' ≡ sets r k (try_of s p)
  pub tries : k' ≡ k + length (try_of s p)

-- a walk has left what the model says, `o`: the queue moved up to its head, the tries from the place reached so far, nothing else changed
pub record Walked (o : Outcome) (l q r : List ℕ) (k : ℕ) (b' m' q' : List ℕ) (w' : ℕ) (r' : List ℕ) (k' : ℕ) : Type 0 where
  pub books : accounts b' l ≡ o.books
  pub memory : m' ≡ o.memory
  pub queue : q' ≡ sets q 0 o.queue
  pub kept : w' ≡ length o.queue
  pub row : r' ≡ sets r k o.tries
  pub tries : k' ≡ k + length o.tries

-- a test has; past its n places the queue's row is as before
pub record Tested (o : Outcome) (l q : List ℕ) (n : ℕ) (r : List ℕ) (k : ℕ) (b' m' q' : List ℕ) (w' : ℕ) (r' : List ℕ) (k' : ℕ) : Type 0 where
  pub books : accounts b' l ≡ o.books
  pub memory : m' ≡ o.memory
  pub queue : take w' q' ≡ o.queue
  pub rest : drop n q' ≡ drop n q
  pub kept : w' ≡ length o.queue
  pub row : r' ≡ sets r k o.tries
  pub tries : k' ≡ k + length o.tries
