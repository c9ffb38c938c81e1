-- On rows of batches that keep the rules the test is the model's.
use Prim.Native.Nat.{ℕ, ◌≤◌, ◌<◌}
use mathlib.Core.Path.{◌≡◌, refl, ap}
use mathlib.Core.Bool.{Bool}
use mathlib.Core.List.{List, [], ◌∷◌}
use native.Mathlib.Omega.{arith}
use borrow.Author.Tests.{leb-true, leb-false}
use lib.Dec.{leb}
use lib.ListN.{length, get_or, take, get_or-eq_default}
use lib.Seq.{length-take-le}
use Rattle.settle.specs.Payments.{Payment, row_payments}
use Rattle.settle.specs.Settlement.{accounts}
use Rattle.settle.specs.Rules.{Books, Good}
use Rattle.queue.specs.Tests.{test, fuel}
use Rattle.queue.specs.Rows.{AllGood}
use Rattle.queue.specs.Promise.{All}
use Rattle.queue.proofs.MemoryLaws.{by_bool}
use Rattle.model.specs.State.{Place, free, Batches, payments_at}
use Rattle.model.proofs.Counting.{times, all_times, times_all}
use Rattle.model.proofs.Standing.{Standing, vacant, building, awaits, stands, Stood, few_queued}
use Rattle.model.proofs.Settling.{Settles, all_settle}
use Rattle.tables.proofs.Held.{messages_fit}
use Rattle.call_orders.specs.Stages.{seen, Ready, places_in}
use Rattle.call_orders.proofs.Bridge.{FitsAt, payments_same, few_at}
use Rattle.call_texts.specs.Writing.{Legible}
use Rattle.call_texts.proofs.Laws.{legible}
use Rattle.call.specs.queue_test.Settling.{Testable, outcome_of}

-- what stands at a place fits its row
fits_there : (banks : ℕ) {x : Place} {i j : ℕ} → Standing banks x i j → FitsAt x
fits_there banks vacant = tt
fits_there banks (building {b = b} r l) = messages_fit banks b r.count.1 r.messages (omega arith)
fits_there banks (awaits {b = b} r c g) = messages_fit banks b r.count.1 r.messages (omega (arith, c.whole))
fits_there banks (stands {b = b} r c) = messages_fit banks b r.count.1 r.messages (omega (arith, c.whole))

-- a queued place is one of the 32

no_queue : (banks : ℕ) {x : Place} {i j : ℕ} → Standing banks x i j → x ≡ free → j ≡ 0
no_queue banks vacant e = refl
no_queue banks (building h l) e = refl
no_queue banks (awaits h c g) e = refl
no_queue banks (stands h c) e = let z : ◌≡◌ {A = ℕ} 0 1 = cc in absurd (omega arith)

below : (banks : ℕ) (b : Batches) → Stood banks b → (p : ℕ) → 0 < times p b.queue → p < 32
below banks b s p h =
    by_bool (leb 32 p)
    (λ e. absurd (omega (arith, no_queue banks (s.each p) (get_or-eq_default b.places free {n = p} (omega (arith, leb-true 32 p e, s.long))))))
    (λ e. leb-false 32 p e)

all_good : (t q : List ℕ) → All (λ p. Good t p) q → AllGood t q
unfolding AllGood
all_good t [] h = tt
all_good t (p ∷ q) h = (h.0, all_good t q h.1)

module _ (banks : ℕ) (t q : List ℕ) (nq : ℕ) (w : List ℕ) (nw : ℕ) (r : Ready t q nq w nw) (s : Stood banks (seen t q nq w nw)) where
  abbrev b : Batches
  b = seen t q nq w nw

  all_fit : (p : ℕ) → FitsAt (get_or (places_in t) p free)
  all_fit p = fits_there banks (s.each p)

  -- what the test reads is what the model has
  reads_model : row_payments t ≡ payments_at b
  reads_model = payments_same t r.table all_fit

  good_at : banks ≤ 64 → (p : ℕ) → 0 < times p (take nq q) → Good t p
  good_at l p h =
      let i = below banks b s p h in
      let g = all_times (λ x. Settles banks (payments_at b x)) p (take nq q) (all_settle banks l b s) h in
      let k : row_payments t p ≡ payments_at b p = ap (λ (f : ℕ → List Payment). f p) reads_model in
      record {
        t_long = r.table.long;
        placed = i;
        few = few_at t r.table all_fit p i;
        ranged = rw k g.fair.ranged;
        distinct = rw k g.fair.distinct;
        even = rw k g.fair.even;
      }

  pub test_legible : Legible t
  test_legible = legible banks b s t r.table.long refl

  pub testable : banks ≤ 64 → (balances sublimits m tries : List ℕ) → Books balances sublimits → length m ≡ 32 → 528 ≤ length tries
      → Testable balances sublimits t m q nq tries
  testable l balances sublimits m tries k e h = record {
    books = k;
    table = r.table;
    good = all_good t (take nq q) (times_all (λ p. Good t p) (take nq q) (good_at l));
    memory = e;
    few = omega (arith, length-take-le nq q r.queue, few_queued banks b s);
    queue = r.queue;
    tries = h;
  }

  pub outcome_so : (quick : Bool) (balances sublimits m : List ℕ)
      → outcome_of quick balances sublimits t m q nq ≡ test quick (payments_at b) (fuel b.queue) (accounts balances sublimits) m b.queue
  outcome_so quick balances sublimits m = ap (λ (f : ℕ → List Payment). test quick f (fuel (take nq q)) (accounts balances sublimits) m (take nq q)) reads_model
