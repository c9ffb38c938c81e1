-- The words of the promises: a true memory, settled batches in turn, what a bank is brought and costs.
use Rattle.std.specs.Prelude.{ℕ, zero, suc, ◌+◌, ◌≡◌, ◌⊎◌, true, false, cond, List, [], ◌∷◌, eqb, get_or, set}
use Rattle.settle.specs.Payments.{Payment, credit, debit, Need, needs_of}
use Rattle.settle.specs.Settlement.{Accounts, accounts, is_covered, verdict}
pub use Rattle.settle.specs.Rules.{All}
use Rattle.settle.specs.Rules.{NoRepeats, Ranged, Distinct, credits, debits}
use Rattle.settle.specs.declared.Verdict.TheVariants.{Passes}
use Rattle.queue.specs.Tests.{settle}

-- a debit of bank k is uncovered
pub data Uncovered (a : Accounts) : List Need → ℕ → Type 0 where
  here : {n : Need} {ns : List Need} → is_covered a n ≡ false → Uncovered a (n ∷ ns) n.bank
  there : {n : Need} {k : ℕ} {ns : List Need} → Uncovered a ns k → Uncovered a (n ∷ ns) k

-- a memory is true: where a batch is held at a bank, a debit of that bank is uncovered
abbrev pub Held : Accounts → List Payment → ℕ → Type 0
Held a ps zero = Unit {0}
Held a ps (suc k) = Uncovered a (needs_of ps) k

abbrev pub True : (ℕ → List Payment) → Accounts → List ℕ → Type 0
True batch a m = (p : ℕ) → Held a (batch p) (get_or m p 0)

-- a bank has a debit among the needs; each batch is held at a bank with a debit in it, or at none
unfoldable pub Payer : ℕ → List Need → Type 0
Payer k [] = ⊥
Payer k (n ∷ ns) = (n.bank ≡ k) ⊎ Payer k ns

abbrev pub Names : List Payment → ℕ → Type 0
Names ps zero = Unit {0}
Names ps (suc k) = Payer k (needs_of ps)

abbrev pub Named : (ℕ → List Payment) → List ℕ → Type 0
Named batch m = (p : ℕ) → Names (batch p) (get_or m p 0)

-- a sub-limit change
unfoldable pub sublimited : Accounts → ℕ → ℕ → Accounts
sublimited a k v = accounts a.balances (set a.sublimits k v)

-- every need covered by its own bank
abbrev pub AllCovered : Accounts → List Need → Type 0
AllCovered a [] = Unit {0}
AllCovered a (n ∷ ns) = (is_covered a n ≡ true) × AllCovered a ns

-- the settled batches in turn: each was covered on the accounts that it found, and left them settled to the next
pub data Trail (batch : ℕ → List Payment) : Accounts → List ℕ → Accounts → Type 0 where
  halt : {a : Accounts} → Trail batch a [] a
  pass : {a v : Accounts} {p : ℕ} {ps : List ℕ} → AllCovered a (needs_of (batch p)) → Trail batch (settle a (batch p)) ps v → Trail batch a (p ∷ ps) v

-- no queued batch would pass
abbrev pub Stuck : (ℕ → List Payment) → Accounts → List ℕ → Type 0
Stuck batch a q = All (λ p. verdict a (batch p) ≡ Passes → ⊥) q

-- a place that is none of these; no place of the first is one of the second; no place twice
abbrev pub Off : ℕ → List ℕ → Type 0
Off p q = All (λ x. x ≡ p → ⊥) q

abbrev pub Apart : List ℕ → List ℕ → Type 0
Apart q d = All (λ x. Off x d) q

abbrev pub Once : List ℕ → Type 0
Once ps = NoRepeats (λ p x. x ≡ p → ⊥) ps

-- a batch that keeps the table rules
pub record Fair (ps : List Payment) : Type 0 where
  pub ranged : Ranged ps
  pub distinct : Distinct ps
  pub even : credits ps ≡ debits ps

-- what some batches bring bank k, and what they cost it
unfoldable pub brought : ℕ → List Payment → ℕ
brought k [] = 0
brought k (credit j c ∷ ps) = cond (eqb j k) c 0 + brought k ps
brought k (debit l j c ∷ ps) = brought k ps

unfoldable pub taken : ℕ → List Payment → ℕ
taken k [] = 0
taken k (credit j c ∷ ps) = taken k ps
taken k (debit l j c ∷ ps) = cond (eqb j k) c 0 + taken k ps

unfoldable pub brought_by : ℕ → List (List Payment) → ℕ
brought_by k [] = 0
brought_by k (b ∷ bs) = brought k b + brought_by k bs

unfoldable pub taken_by : ℕ → List (List Payment) → ℕ
taken_by k [] = 0
taken_by k (b ∷ bs) = taken k b + taken_by k bs
