-- Laws of the turn of one batch, in the terms of the code.
use mathlib.Core.Path.{◌≡◌, refl, sym, ap, ◌∙◌}
use mathlib.Core.Bool.{Bool, true, false, cond}
use mathlib.Core.List.{List, [], ◌∷◌, map}
use Prim.Native.Nat.{ℕ, suc, ◌+◌, ◌*◌, ◌<◌}
use native.Mathlib.Omega.{arith}
use native.Mathlib.Numerals.{add-one}
use mir.Syntax.{w64}
use mir.Val.{Fits}
use lib.Dec.{ltb}
use lib.ListN.{get_or, set}
use Rattle.settle.specs.Payments.{Payment, credit, debit, row_payments, needs_of}
use Rattle.settle.specs.Settlement.{Accounts, accounts, is_covered, first_uncovered, verdict, settled}
use Rattle.settle.specs.Rules.{Ranged, Books, Good, Ready}
use Rattle.settle.specs.declared.Verdict.{Verdict}
use Rattle.settle.specs.declared.Verdict.TheVariants.{Passes, Stops}
use Rattle.settle.proofs.Money.{can_settle, total_kept, settled_length}
use Rattle.queue.specs.Memory.{credited, wake}
use Rattle.queue.specs.Tests.{turned, omits, remember, turn}
use Rattle.queue.specs.Rows.{Noted}
use Rattle.queue.specs.declared.Step.{Step}
use Rattle.queue.specs.declared.Step.TheVariants.{Omitted, Failed, Passed}
use Rattle.queue.proofs.MemoryLaws.{by_bool}
use Rattle.queue.proofs.Steps.{turn_omits, turn_passes, turn_fails, by_turn}

module _ (m : List ℕ) (p : ℕ) (quick : Bool) where
  pub omits_quick : quick ≡ true → ltb 0 (get_or m p 0) ≡ omits quick m p
  unfolding omits
  omits_quick e = rw e

  pub omits_plain : quick ≡ false → false ≡ omits quick m p
  unfolding omits
  omits_plain e = rw e

-- the bank of a verdict is below 64
first_inside : (a : Accounts) (ps : List Payment) (k : ℕ) → Ranged ps → verdict a ps ≡ Stops k → k < 64
unfolding first_uncovered needs_of Ranged
first_inside a [] k r e = let z : ◌≡◌ {A = ℕ} 0 1 = cc in absurd (omega arith)
first_inside a (credit j c ∷ ps) k r e = first_inside a ps k r.1 e
first_inside a (debit l j c ∷ ps) k r e =
    by_bool (is_covered a (record { letters = l; bank = j; cents = c }))
    (λ t. first_inside a ps k r.1 (rw t at e))
    (λ t. let f : Stops j ≡ Stops k = rw t at e in let g : j ≡ k = cc in omega (arith, r.0.0))

module _ (b l t : List ℕ) (place : ℕ) (books : Books b l) (good : Good t place) where
  module _ (v : Verdict) (told : v ≡ first_uncovered (accounts b l) (needs_of (row_payments t place))) where
    pub ready : v ≡ Passes → Ready b t place
    ready e =
        record {
          t_long = good.t_long;
          placed = good.placed;
          few = good.few;
          payable = can_settle (accounts b l) (row_payments t place) books.b_long books.bounded good.ranged good.distinct (sym told ∙ e);
        }

    pub fits_held : (k : ℕ) → v ≡ Stops k → Fits w64 (k + 1)
    fits_held k e = omega (arith, first_inside (accounts b l) (row_payments t place) k good.ranged (sym told ∙ e))

-- a turn, by what the code finds
module _ (quick : Bool) (b l t m : List ℕ) (p : ℕ) (x : Bool) (told : x ≡ omits quick m p) where
  pub is_omitted : x ≡ true → turned Omitted (accounts b l) m ≡ turn quick (row_payments t) (accounts b l) m p
  is_omitted e = sym (turn_omits quick (row_payments t) (accounts b l) m p (sym told ∙ e))

  module _ (v : Verdict) (said : v ≡ first_uncovered (accounts b l) (needs_of (row_payments t p))) (no : x ≡ false) where
    pub is_passed : (b' m' : List ℕ) → v ≡ Passes → b' ≡ settled b (row_payments t p) → m' ≡ map (wake (credited (row_payments t p))) m
        → turned Passed (accounts b' l) m' ≡ turn quick (row_payments t) (accounts b l) m p
    is_passed b' m' e f g = rw (f, g) (sym (turn_passes quick (row_payments t) (accounts b l) m p (sym told ∙ no) (sym said ∙ e)))

    failed : (k : ℕ) → v ≡ Stops k → turned Failed (accounts b l) (remember quick m p k) ≡ turn quick (row_payments t) (accounts b l) m p
    failed k e = sym (turn_fails quick (row_payments t) (accounts b l) m p (sym told ∙ no) k (sym said ∙ e))

    pub is_remembered_lem : (k : ℕ) → v ≡ Stops k → quick ≡ true → turned Failed (accounts b l) (set m p (k + 1)) ≡ turn quick (row_payments t) (accounts b l) m p
    unfolding remember
    is_remembered_lem k e q =
        ap (λ (n : ℕ). turned Failed (accounts b l) (set m p n)) (add-one k)
        ∙ ap (λ (y : Bool). turned Failed (accounts b l) (cond y (set m p (suc k)) m)) (sym q)
        ∙ failed k e

    pub is_failed : (k : ℕ) → v ≡ Stops k → quick ≡ false → turned Failed (accounts b l) m ≡ turn quick (row_payments t) (accounts b l) m p
    unfolding remember
    is_failed k e q = ap (λ (y : Bool). turned Failed (accounts b l) (cond y (set m p (suc k)) m)) (sym q) ∙ failed k e

-- the books are kept
pub turn_books : (quick : Bool) (t : List ℕ) (a : Accounts) (m : List ℕ) (p : ℕ) → Books a.balances a.sublimits → Good t p
    → Books (turn quick (row_payments t) a m p).books.balances (turn quick (row_payments t) a m p).books.sublimits
turn_books quick t a m p books good =
    by_turn quick (row_payments t) a m p
    (λ e u. rw u books)
    (λ e v u. rw u
    (record {
      b_long = settled_length a.balances (row_payments t p) ∙ books.b_long;
      l_long = books.l_long;
      bounded = omega (arith, total_kept a.balances (row_payments t p) (ready a.balances a.sublimits t p books good Passes (sym v) refl).payable good.even, books.bounded);
    }))
    (λ e k v u. rw u books)

-- a turn is noted
module _ (s : Step) (p : ℕ) (q : List ℕ) (w : ℕ) (r : List ℕ) (k : ℕ) where
  pub note_omitted : s ≡ Omitted → Noted s p q w r k (set q w p) (w + 1) r k
  note_omitted e = record { queue = rw e; kept = rw e; row = rw e; tries = rw e (omega arith) }

  pub note_failed : s ≡ Failed → Noted s p q w r k (set q w p) (w + 1) (set r k (2 * p)) (k + 1)
  note_failed e = record { queue = rw e; kept = rw e; row = rw e; tries = rw e }

  pub note_passed : s ≡ Passed → Noted s p q w r k q w (set r k (2 * p + 1)) (k + 1)
  note_passed e = record { queue = rw e; kept = rw e (omega arith); row = rw e; tries = rw e }
