-- Theorems of settlement: the total is kept, and a batch that passes can be settled in its words.
use mathlib.Core.Path.{◌≡◌, refl, ◌∙◌}
use mathlib.Core.Logic.{◌≢◌}
use mathlib.Core.Bool.{Bool, true, false, cond}
use mathlib.Core.List.{List, [], ◌∷◌}
use Prim.Native.Nat.{ℕ, zero, suc, ◌+◌, ◌-◌, ◌≤◌, ◌<◌}
use native.Mathlib.Nat.{le_of_suc-le-suc}
use native.Mathlib.Omega.{arith}
use lib.Dec.{leb}
use lib.ListN.{length, get_or, set}
use lib.Seq.{get_or-set_other}
use borrow.Author.Tests.{leb-true}
use Rattle.chars.specs.Words.{bytes, member}
use Rattle.settle.specs.Cover.{esa, covered}
use Rattle.settle.specs.Payments.{Payment, credit, debit, bank_of, Need, needs_of}
use Rattle.settle.specs.Settlement.{Accounts, is_covered, first_uncovered, verdict, paid, settled}
use Rattle.settle.specs.Rules.{sum, debits, credits, Apart, Distinct, Ranged, Fits, Payable, AllPayable}
use Rattle.settle.specs.declared.Verdict.TheVariants.{Passes, Stops}
use Rattle.settle.proofs.Laws.{paid_length}

sum_set : (b : List ℕ) (k v : ℕ) → k < length b → sum (set b k v) + get_or b k 0 ≡ sum b + v
sum_set [] k v h = let z : ◌≡◌ {A = ℕ} 0 1 = omega arith in omega arith
sum_set (x ∷ xs) zero v h = omega arith
sum_set (x ∷ xs) (suc k) v h = omega (arith, sum_set xs k v (le_of_suc-le-suc h))

pub total : (b : List ℕ) (ps : List Payment) → AllPayable b ps → sum (settled b ps) + debits ps ≡ sum b + credits ps
unfolding settled AllPayable debits credits paid Fits
total b [] h = refl
total b (credit k c ∷ ps) h = omega (arith, total (set b k (get_or b k 0 + c)) ps h.1, sum_set b k (get_or b k 0 + c) h.0.inside)
total b (debit l k c ∷ ps) h = omega (arith, total (set b k (get_or b k 0 - c)) ps h.1, sum_set b k (get_or b k 0 - c) h.0.inside, h.0.fits)

pub total_kept : (b : List ℕ) (ps : List Payment) → AllPayable b ps → credits ps ≡ debits ps → sum (settled b ps) ≡ sum b
total_kept b ps h e = omega (arith, total b ps h)

-- each payment by itself, then all in turn
unfoldable Each : List ℕ → List Payment → Type 0
Each b [] = Unit {0}
Each b (p ∷ ps) = Payable b p × Each b ps

set_fits : (b : List ℕ) (k v : ℕ) (q : Payment) → bank_of q ≢ k → Fits b q → Fits (set b k v) q
unfolding Fits
set_fits b k v (credit j c) d h = rw (get_or-set_other b k j v 0 d) h
set_fits b k v (debit l j c) d h = rw (get_or-set_other b k j v 0 d) h

paid_fits : (b : List ℕ) (p q : Payment) → bank_of q ≢ bank_of p → Fits b q → Fits (paid b p) q
unfolding paid
paid_fits b (credit k c) q d h = set_fits b k (get_or b k 0 + c) q d h
paid_fits b (debit l k c) q d h = set_fits b k (get_or b k 0 - c) q d h

each_paid : (b : List ℕ) (p : Payment) (ps : List Payment) → Apart (bank_of p) ps → Each b ps → Each (paid b p) ps
unfolding Each Apart
each_paid b p [] a h = tt
each_paid b p (q ∷ qs) a h = (record { inside = rw (paid_length b p) h.0.inside; fits = paid_fits b p q a.0 h.0.fits }, each_paid b p qs a.1 h.1)

in_turn : (b : List ℕ) (ps : List Payment) → Distinct ps → Each b ps → AllPayable b ps
unfolding AllPayable Distinct Apart Each
in_turn b [] d h = tt
in_turn b (p ∷ ps) d h = (h.0, in_turn (paid b p) ps d.1 (each_paid b p ps d.0 h.1))

-- a covered debit is no more than the balance
pub covered_money : (letters balance sublimit cents : ℕ) → covered letters balance sublimit cents ≡ true → cents ≤ balance
unfolding covered
covered_money letters balance sublimit cents h = go (member (esa letters) (bytes "P")) (member (esa letters) (bytes " A")) h
  where
    go : (t u : Bool) → cond t (leb cents balance) (cond u (leb (cents + sublimit) balance) false) ≡ true → cents ≤ balance
    go true u e = leb-true cents balance e
    go false true e = omega (arith, leb-true (cents + sublimit) balance e)
    go false false e = let z : ◌≡◌ {A = ℕ} 0 1 = cc in omega arith

-- what a verdict of Passes says of the first need and of the others
pub passes_cons : (a : Accounts) (n : Need) (ns : List Need) → first_uncovered a (n ∷ ns) ≡ Passes → (is_covered a n ≡ true) × (first_uncovered a ns ≡ Passes)
unfolding first_uncovered
passes_cons a n ns h = go (is_covered a n) h
  where
    go : (t : Bool) → cond t (first_uncovered a ns) (Stops n.bank) ≡ Passes → (t ≡ true) × (first_uncovered a ns ≡ Passes)
    go true e = (refl, e)
    go false e = let z : ◌≡◌ {A = ℕ} 0 1 = cc in (cc, cc)

passed : (a : Accounts) (ps : List Payment) → length a.balances ≡ 64 → ((k : ℕ) → get_or a.balances k 0 ≤ 6400000000000000) → Ranged ps → verdict a ps ≡ Passes → Each a.balances ps
unfolding needs_of Each Ranged Fits
passed a [] n m r h = tt
passed a (credit k c ∷ ps) n m r h = (record { inside = rw n r.0.0; fits = omega (arith, m k, r.0.1) }, passed a ps n m r.1 h)
passed a (debit l k c ∷ ps) n m r h =
    let w = passes_cons a (record { letters = l; bank = k; cents = c }) (needs_of ps) h in
    (record { inside = rw n r.0.0; fits = covered_money l (get_or a.balances k 0) (get_or a.sublimits k 0) c w.0 }, passed a ps n m r.1 w.1)

pub at_most_sum : (b : List ℕ) (k : ℕ) → get_or b k 0 ≤ sum b
at_most_sum [] k = omega arith
at_most_sum (x ∷ xs) zero = omega arith
at_most_sum (x ∷ xs) (suc k) = omega (arith, at_most_sum xs k)

pub settled_length : (b : List ℕ) (ps : List Payment) → length (settled b ps) ≡ length b
unfolding settled
settled_length b [] = refl
settled_length b (p ∷ ps) = settled_length (paid b p) ps ∙ paid_length b p

-- a batch that passes can be settled
pub can_settle : (a : Accounts) (ps : List Payment) → length a.balances ≡ 64 → sum a.balances ≤ 6400000000000000 → Ranged ps → Distinct ps → verdict a ps ≡ Passes → AllPayable a.balances ps
can_settle a ps n m r d h = in_turn a.balances ps d (passed a ps n (λ k. omega (arith, at_most_sum a.balances k)) r h)
