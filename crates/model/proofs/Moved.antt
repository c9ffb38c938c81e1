-- What an action may move: nothing, one batch place, or one sub-limit; and what it moves, it wakes.
use Prim.Native.Nat.{ℕ}
use mathlib.Core.Path.{◌≡◌, refl, ◌∙◌}
use mathlib.Core.List.{List, [], ◌∷◌}
use lib.Dec.{eqb}
use lib.ListN.{get_or, set}
use lib.Seq.{get_or-set_other}
use borrow.Author.Tests.{eqb-true, eqb-false}
use Rattle.request_read.specs.whole.Request.{request_at}
use Rattle.request_read.specs.declared.whole.Reading.{Reading}
use Rattle.settle.specs.Settlement.{Accounts}
use Rattle.queue.specs.Promise.{True, sublimited}
use Rattle.queue.proofs.MemoryLaws.{by_bool}
use Rattle.queue.proofs.Agree.{forgets, true_sublimit}
use Rattle.model.specs.Kinds.{Own}
use Rattle.model.specs.State.{Batch, Place, free, live, Batches, Known, State, place_at, payments_at}
use Rattle.model.specs.Messages.{first_batch, Acted, bank, place, ended, with_message}
use Rattle.model.specs.Changes.{with_letter}
use Rattle.model.specs.Calls.{act, woken}
use Rattle.model.proofs.Doing.{Start, going, begun, Did, sent, idle, sublimits, letters, alone, repeats, recalls, completes, grows, rejects, did}

-- all places but p are as before
abbrev pub Beside : Batches → Batches → ℕ → Type 0
Beside b c p = (q : ℕ) → (q ≡ p → ⊥) → place_at c q ≡ place_at b q

pub data Moved (s : State) (a : Acted) : Type 0 where
  still : a.wakes ≡ [] → a.books ≡ s.books → a.batches ≡ s.batches → Moved s a
  one : (p : ℕ) → a.wakes ≡ place p ∷ [] → a.books ≡ s.books → Beside s.batches a.batches p → Moved s a
  sub : (k v : ℕ) → a.wakes ≡ bank k ∷ [] → a.books ≡ sublimited s.books k v → a.batches ≡ s.batches → Moved s a

pub set_beside : (ps : List Place) (p : ℕ) (x : Place) (q : ℕ) → (q ≡ p → ⊥) → get_or (set ps p x) q free ≡ get_or ps q free
set_beside ps p x q h = get_or-set_other ps p q x free h

module _ (s : State) where
  -- a batch place that is set, or emptied, on batches that differ there at the most
  pub put_beside : (b : Batches) (p : ℕ) (x : Place) → Beside s.batches b p → (q : ℕ) → (q ≡ p → ⊥) → get_or (set b.places p x) q free ≡ place_at s.batches q
  put_beside b p x h q e = set_beside b.places p x q e ∙ h q e

  pub ended_beside : (b : Batches) (p : ℕ) → Beside s.batches b p → Beside s.batches (ended b p) p
  unfolding ended
  ended_beside b p h = put_beside b p free h

  pub same_beside : (p : ℕ) → Beside s.batches s.batches p
  same_beside p q e = refl

  pub start_beside : (r : Reading) {b : Batches} {k : Known} {p : ℕ} {x : Batch} → Start s r b k p x → Beside s.batches b p
  start_beside r (going {p = p} i e) = same_beside p
  start_beside r (begun {p = p} a u v) = put_beside s.batches p (live (first_batch s r)) (same_beside p)

  moved_did : (r : Reading) {a : Acted} → Did s r a → Moved s a
  moved_did r (sent (idle n)) = still refl refl refl
  moved_did r (sublimits k v b l) = sub k v refl refl refl
  moved_did r (letters k x p c m w) = one p refl refl (put_beside s.batches p (with_letter k x (place_at s.batches p)) (same_beside p))
  moved_did r (sent (alone n y q w)) = still refl refl refl
  moved_did r (sent (repeats p c f i)) = one p refl refl (ended_beside s.batches p (same_beside p))
  moved_did r (sent (recalls p f n w)) = one p refl refl (ended_beside s.batches p (same_beside p))
  moved_did r (sent (completes stream b k p x j d e f)) = one p refl refl (put_beside b p (live (with_message s r x)) (start_beside r j.start))
  moved_did r (sent (grows stream b k p x j d e)) = one p refl refl (put_beside b p (live (with_message s r x)) (start_beside r j.start))
  moved_did r (sent (rejects f b k p x j)) = one p refl refl (ended_beside b p (start_beside r j.start))

  -- every action
  pub moved : (x : Own) (input : List ℕ) → Moved s (act s x input)
  moved x input = moved_did (request_at input) (did s x input)

-- ---- the memory stays true

-- batches that differ at one place, which forgets
pub true_beside : (b c : Batches) (a : Accounts) (m : List ℕ) (p : ℕ) → Beside b c p → True (payments_at b) a m → True (payments_at c) a (set m p 0)
true_beside b c a m p h t q =
    by_bool (eqb q p)
    (λ e. rw (eqb-true q p e, forgets) tt)
    (λ e. rw (get_or-set_other m p q 0 0 (eqb-false q p e), h q (eqb-false q p e)) (t q))

pub true_moved : (s : State) (a : Acted) (m : List ℕ) → Moved s a → True (payments_at s.batches) s.books m → True (payments_at a.batches) a.books (woken a.wakes m)
unfolding woken
true_moved s a m (still w b c) t = rw (w, b, c) t
true_moved s a m (one p w b h) t = rw (w, b) (true_beside s.batches a.batches s.books m p h t)
true_moved s a m (sub k v w b c) t = rw (w, b, c) (true_sublimit (payments_at s.batches) s.books k v m t)
