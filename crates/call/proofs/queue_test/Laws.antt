-- The test, and what it settled answered and ended.
use Prim.Native.Nat.{ℕ, ◌+◌, ◌≤◌}
use mathlib.Core.Path.{◌≡◌, refl, sym, ap, subst, ◌∙◌}
use mathlib.Core.Bool.{Bool}
use mathlib.Core.List.{List, ◌++◌}
use native.Mathlib.Omega.{arith}
use lib.ListN.{length, take, drop, length-take}
use lib.Seq.{sets-eq, take_at, length-take-le, length-sets}
use Rattle.settle.specs.Payments.{row_payments}
use Rattle.settle.specs.Settlement.{accounts}
use Rattle.queue.specs.Tests.{Outcome, passed_of}
use Rattle.queue.specs.Rows.{most, Tested}
use Rattle.queue.specs.Memory.{forgotten}
use Rattle.queue.proofs.Promises.{most_below, tries_fit, settled_are_passes}
use Rattle.model.specs.Ending.{emptied, settled_replies}
use Rattle.call_orders.specs.Stages.{places_in, Emptied}
use Rattle.call_texts.specs.Writing.{Wrote, Room, batches_on, day_at}
use Rattle.call.specs.queue_test.Settling.{Testable, outcome_of, Ended}

pub room : (nq : ℕ) (r : List ℕ) → nq ≤ 32 → 528 ≤ length r → 0 + most nq ≤ length r
room nq r h k = omega (arith, most_below nq h)

module _ (quick : Bool) (balances sublimits t m q : List ℕ) (nq : ℕ) (r : List ℕ) (h : Testable balances sublimits t m q nq r) where
  abbrev o : Outcome
  o = outcome_of quick balances sublimits t m q nq

  few_queued : length (take nq q) ≤ 32
  few_queued = omega (arith, length-take-le nq q h.queue, h.few)

  few_tries : length o.tries ≤ length r
  few_tries = omega (arith, tries_fit quick (row_payments t) (accounts balances sublimits) m (take nq q) few_queued, h.tries)

  module _ (balances' m' q' : List ℕ) (nq' : ℕ) (r' : List ℕ) (k : ℕ) (g : Tested o sublimits q nq r 0 balances' m' q' nq' r' k) where
    pub tried_fits : k ≤ length r'
    tried_fits = omega (arith, g.tries, few_tries, ap length g.row, length-sets r 0 o.tries)

    told : take k r' ≡ o.tries
    told =
        let e : k ≡ length o.tries = omega (arith, g.tries) in
        let f : r' ≡ o.tries ++ drop (0 + length o.tries) r = g.row ∙ sets-eq o.tries r 0 (omega (arith, few_tries)) in
        rw (f, e) (take_at o.tries (drop (0 + length o.tries) r) (length o.tries) refl)

    passed : passed_of (take k r') ≡ o.done
    passed = ap passed_of told ∙ settled_are_passes quick (row_payments t) (accounts balances sublimits) m (take nq q)

    -- what passed is told by the tries
    pub passed_room : (date clock texts : ℕ) (out : List ℕ) (at : ℕ) → Room out at texts (settled_replies (day_at date clock) (batches_on t) o.done)
        → Room out at texts (settled_replies (day_at date clock) (batches_on t) (passed_of (take k r')))
    passed_room date clock texts out at x = subst (λ (d : List ℕ). Room out at texts (settled_replies (day_at date clock) (batches_on t) d)) (sym passed) x

    pub passed_wrote : (date clock texts : ℕ) (out : List ℕ) (at : ℕ) (out' : List ℕ) (to texts' : ℕ)
        → Wrote out at texts (settled_replies (day_at date clock) (batches_on t) (passed_of (take k r'))) out' to texts'
        → Wrote out at texts (settled_replies (day_at date clock) (batches_on t) o.done) out' to texts'
    passed_wrote date clock texts out at out' to texts' x =
        subst (λ (d : List ℕ). Wrote out at texts (settled_replies (day_at date clock) (batches_on t) d) out' to texts') passed x

    pub test_ended : (t₂ m₂ : List ℕ) → length q' ≡ length q → Emptied (passed_of (take k r')) t m' t₂ m₂
        → Ended o sublimits t r balances' t₂ m₂ q' nq' r' k
    test_ended t₂ m₂ l e =
        record {
          books = g.books;
          table = e.table;
          places = e.places ∙ ap (λ (d : List ℕ). emptied d (places_in t)) passed;
          memory = e.memory ∙ ap (λ (d : List ℕ). forgotten d m') passed ∙ ap (λ (x : List ℕ). forgotten o.done x) g.memory;
          queue = g.queue;
          queue_fits = fits;
          row = g.row;
          tried = omega (arith, g.tries);
        }
      where
        fits : nq' ≤ length q'
        fits = omega (arith, g.kept, ap length g.queue, length-take nq' q')
