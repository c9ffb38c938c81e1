-- Each balance is the opening balance and credits less debits of the batches settled; the total is kept, and no balance leaves its range.
use mathlib.Core.Path.{◌≡◌, refl, sym, ap, ◌∙◌}
use mathlib.Core.Bool.{cond}
use mathlib.Core.List.{List, [], ◌∷◌, map}
use Prim.Native.Nat.{ℕ, ◌+◌, ◌-◌, ◌≤◌, ◌<◌}
use native.Mathlib.Omega.{arith}
use lib.Dec.{eqb}
use lib.ListN.{length, get_or, set, length-set}
use lib.Seq.{get_or-set_other, get_or-set_same}
use borrow.Author.Tests.{eqb-true, eqb-false}
use Rattle.settle.specs.Payments.{Payment, credit, debit, needs_of}
use Rattle.settle.specs.Settlement.{Accounts, paid, settled}
use Rattle.settle.specs.Rules.{sum, Apart, Distinct, Books}
use Rattle.settle.proofs.Money.{covered_money, can_settle, total_kept, settled_length}
use Rattle.queue.specs.Promise.{AllCovered, Trail, halt, pass, All, Fair, brought, taken, brought_by, taken_by}
use Rattle.queue.proofs.MemoryLaws.{by_bool}
use Rattle.queue.proofs.Trail.{covered_passes}

-- each debit is at most its bank's balance
unfoldable Fit : List ℕ → List Payment → Type 0
Fit l [] = Unit {0}
Fit l (credit j c ∷ ps) = Fit l ps
Fit l (debit t j c ∷ ps) = (c ≤ get_or l j 0) × Fit l ps

covered_fit : (a : Accounts) (ps : List Payment) → AllCovered a (needs_of ps) → Fit a.balances ps
unfolding Fit needs_of
covered_fit a [] h = tt
covered_fit a (credit j c ∷ ps) h = covered_fit a ps h
covered_fit a (debit t j c ∷ ps) h = (covered_money t (get_or a.balances j 0) (get_or a.sublimits j 0) c h.0, covered_fit a ps h.1)

fit_other : (l : List ℕ) (k v : ℕ) (ps : List Payment) → Apart k ps → Fit l ps → Fit (set l k v) ps
unfolding Fit Apart
fit_other l k v [] n h = tt
fit_other l k v (credit j c ∷ ps) n h = fit_other l k v ps n.1 h
fit_other l k v (debit t j c ∷ ps) n h = (rw (get_or-set_other l k j v 0 n.0) h.0, fit_other l k v ps n.1 h.1)

up : (l : List ℕ) (j k c : ℕ) → k < length l → get_or (set l j (get_or l j 0 + c)) k 0 ≡ get_or l k 0 + cond (eqb j k) c 0
up l j k c h =
    by_bool (eqb j k)
    (λ e. rw (e, eqb-true j k e) (get_or-set_same l k (get_or l k 0 + c) 0 h))
    (λ e. rw e (omega (arith, get_or-set_other l j k (get_or l j 0 + c) 0 (λ q. eqb-false j k e (sym q)))))

down : (l : List ℕ) (j k c : ℕ) → k < length l → c ≤ get_or l j 0 → get_or (set l j (get_or l j 0 - c)) k 0 + cond (eqb j k) c 0 ≡ get_or l k 0
down l j k c h f =
    by_bool (eqb j k)
    (λ e. let g : c ≤ get_or l k 0 = rw (eqb-true j k e) at f in rw (e, eqb-true j k e) (omega (arith, get_or-set_same l k (get_or l k 0 - c) 0 h)))
    (λ e. rw e (omega (arith, get_or-set_other l j k (get_or l j 0 - c) 0 (λ q. eqb-false j k e (sym q)))))

settled_sum : (l : List ℕ) (ps : List Payment) (k : ℕ) → k < length l → Distinct ps → Fit l ps → get_or (settled l ps) k 0 + taken k ps ≡ get_or l k 0 + brought k ps
unfolding settled paid brought taken Distinct Apart Fit
settled_sum l [] k h d f = refl
settled_sum l (credit j c ∷ ps) k h d f =
    let v : ℕ = get_or l j 0 + c in
    omega (arith, settled_sum (set l j v) ps k (rw length-set h) d.1 (fit_other l j v ps d.0 f), up l j k c h)
settled_sum l (debit t j c ∷ ps) k h d f =
    let v : ℕ = get_or l j 0 - c in
    omega (arith, settled_sum (set l j v) ps k (rw length-set h) d.1 (fit_other l j v ps d.0 f.1), down l j k c h f.0)

module _ {batch : ℕ → List Payment} where
  pub trail_length : {a v : Accounts} {ps : List ℕ} → Trail batch a ps v → length v.balances ≡ length a.balances
  trail_length halt = refl
  trail_length (pass {a = a} {p = p} e t) = trail_length t ∙ settled_length a.balances (batch p)

  pub trail_sublimits : {a v : Accounts} {ps : List ℕ} → Trail batch a ps v → v.sublimits ≡ a.sublimits
  trail_sublimits halt = refl
  trail_sublimits (pass e t) = trail_sublimits t

  pub trail_sum : {a v : Accounts} {ps : List ℕ} → All (λ p. Fair (batch p)) ps → (k : ℕ) → k < length a.balances → Trail batch a ps v
      → get_or v.balances k 0 + taken_by k (map batch ps) ≡ get_or a.balances k 0 + brought_by k (map batch ps)
  unfolding brought_by taken_by
  trail_sum f k h halt = refl
  trail_sum f k h (pass {a = a} {p = p} e t) =
      omega (arith, settled_sum a.balances (batch p) k h f.0.distinct (covered_fit a (batch p) e), trail_sum f.1 k (rw settled_length h) t)

  -- the total is kept at each settlement, and with it the range of each balance
  pub trail_total : {a v : Accounts} {ps : List ℕ} → All (λ p. Fair (batch p)) ps → Books a.balances a.sublimits → Trail batch a ps v → sum v.balances ≡ sum a.balances
  trail_total f h halt = refl
  trail_total f h (pass {a = a} {p = p} e t) =
      let g : sum (settled a.balances (batch p)) ≡ sum a.balances =
      total_kept a.balances (batch p) (can_settle a (batch p) h.b_long h.bounded f.0.ranged f.0.distinct (covered_passes a (needs_of (batch p)) e)) f.0.even in
      trail_total f.1 (record { b_long = settled_length a.balances (batch p) ∙ h.b_long; l_long = h.l_long; bounded = omega (arith, h.bounded) }) t ∙ g

  pub trail_books : {a v : Accounts} {ps : List ℕ} → All (λ p. Fair (batch p)) ps → Books a.balances a.sublimits → Trail batch a ps v → Books v.balances v.sublimits
  trail_books f h t = record { b_long = trail_length t ∙ h.b_long; l_long = ap length (trail_sublimits t) ∙ h.l_long; bounded = omega (arith, trail_total f h t, h.bounded) }
