-- Demand 3, kept by each call. After it no queued batch would pass; every payer of a settled batch covered its own
-- payment on the balances just before that batch; each balance is the day's opening balance plus credits less debits of the batches settled
-- since; the total never changes within a day.
use Rattle.std.specs.Prelude.{Ok, Err}
use Prim.Native.Nat.{ℕ, ◌+◌, ◌<◌}
use mathlib.Core.Path.{◌≡◌, refl, sym, ap, ◌∙◌}
use mathlib.Core.Bool.{Bool, true, false, cond}
use mathlib.Core.List.{List, [], ◌∷◌, ◌++◌, map}
use native.Mathlib.Omega.{arith}
use lib.ListN.{get_or}
use borrow.Author.Tests.{not-true}
use Rattle.request_read.specs.declared.whole.Reading.{Reading}
use Rattle.request_read.specs.whole.Request.{request_at}
use Rattle.settle.specs.Payments.{Payment}
use Rattle.settle.specs.Settlement.{Accounts, verdict}
use Rattle.settle.specs.declared.Verdict.TheVariants.{Passes}
use Rattle.settle.specs.Rules.{sum}
use Rattle.queue.specs.Promise.{Trail, All, Stuck, Off, Fair, sublimited, brought_by, taken_by}
use Rattle.queue.specs.Tests.{Outcome, fuel}
use Rattle.queue.proofs.Trail.{All-zip, test_trail, test_stuck, test_parted}
use Rattle.queue.proofs.Balances.{trail_sum, trail_total}
use Rattle.book_read.specs.Accounts.{banks_in}
use Rattle.book_read.specs.declared.Field.TheVariants.{Balance}
use Rattle.model.specs.Answers.{Answer}
use Rattle.model.specs.Kinds.{Kind, opens, steps, gives, kind_of, is_close, own_of}
use Rattle.model.specs.State.{Place, State, place_payments, payments_at}
use Rattle.model.specs.Messages.{Acted}
use Rattle.model.specs.Ending.{after_test}
use Rattle.model.specs.Days.{opened, opening_answer, column_of}
use Rattle.model.specs.Calls.{Call, Engine, is_open, judge, begun, tested, left, goes_on, closes, stepped, opened_by, performed, judged, call, cleared, day_for}
use Rattle.model.specs.Answered.{acted, outcome}
use Rattle.model.specs.Promises.{Ledger, no_ledger}
use Rattle.model.proofs.Agreement.{Faithful, true_acted, right_day_lem}
use Rattle.model.proofs.Counting.{times_once, off_none}
use Rattle.model.proofs.Standing.{at_most_once, emptied_off}
use Rattle.model.proofs.Settling.{gone_fair, house_books}
use Rattle.model.proofs.Doing.{Did, sent, idle, sublimits, letters, alone, repeats, recalls, completes, grows, rejects, did}
use Rattle.model.proofs.Keeping.{Readers, Kept, acted_stood, acted_house}

-- ---- the words

-- the batches that a call settles, in their order: only a call with a test settles any
abbrev pub settled_by : Answer → Kind → Engine → Call → List (List Payment)
settled_by (Err r) x e c = []
settled_by (Ok tt) opens e c = []
settled_by (Ok tt) steps e c = map (payments_at (acted e c).batches) (outcome e c).done
settled_by (Ok tt) (gives d) e c = []

abbrev pub anew : Answer → Engine → Call → Ledger → Ledger
anew (Ok tt) e c l = record { opening = column_of Balance (banks_in c.asked.input); gone = [] }
anew (Err r) e c l = l

abbrev pub ledger_by : Answer → Kind → Engine → Call → Ledger → Ledger
ledger_by (Err r) x e c l = l
ledger_by (Ok tt) opens e c l = anew (opening_answer e.state.day c.asked.input) e c l
ledger_by (Ok tt) steps e c l = record { opening = l.opening; gone = l.gone ++ settled_by (Ok tt) steps e c }
ledger_by (Ok tt) (gives d) e c l = l

unfoldable pub ledger : Engine → Call → Ledger → Ledger
ledger e c l = ledger_by (judge e.state c) (kind_of c.asked.action) e c l

-- what stands after a call
pub record Stands (e : Engine) (l : Ledger) : Type 0 where
  -- "after each call no queued batch would pass"
  pub stuck : Stuck (payments_at e.state.batches) e.state.books e.state.batches.queue
  -- "each balance is the day's opening balance plus credits less debits of the batches settled since"
  pub money : (k : ℕ) → k < 64 → get_or e.state.books.balances k 0 + taken_by k l.gone ≡ get_or l.opening k 0 + brought_by k l.gone
  -- "the total never changes within a day"
  pub total : sum e.state.books.balances ≡ sum l.opening

-- "every payer of a settled batch covered its own payment on the balances just before that batch": from the accounts that the action left to
-- those that the call leaves, v. A call without a test leaves the accounts, but for an opening
abbrev pub PaidBy : Answer → Kind → Engine → Call → Accounts → Type 0
PaidBy (Err r) x e c v = v ≡ e.state.books
PaidBy (Ok tt) opens e c v = Unit {0}
PaidBy (Ok tt) steps e c v = Trail (payments_at (acted e c).batches) (acted e c).books (outcome e c).done v
PaidBy (Ok tt) (gives d) e c v = v ≡ e.state.books

unfoldable pub Paid : Engine → Call → Type 0
Paid e c = PaidBy (judge e.state c) (kind_of c.asked.action) e c (call e c).engine.state.books

-- ---- the proofs

brought_append : (k : ℕ) (a b : List (List Payment)) → brought_by k (a ++ b) ≡ brought_by k a + brought_by k b
unfolding brought_by
brought_append k [] b = omega arith
brought_append k (x ∷ a) b = omega (arith, brought_append k a b)

taken_append : (k : ℕ) (a b : List (List Payment)) → taken_by k (a ++ b) ≡ taken_by k a + taken_by k b
unfolding taken_by
taken_append k [] b = omega arith
taken_append k (x ∷ a) b = omega (arith, taken_append k a b)

-- no action moves money
same_money : (s : State) (r : Reading) {a : Acted} → Did s r a → a.books.balances ≡ s.books.balances
unfolding sublimited
same_money s r (sent (idle n)) = refl
same_money s r (sublimits k x b l) = refl
same_money s r (letters k x p c m w) = refl
same_money s r (sent (alone n y q w)) = refl
same_money s r (sent (repeats p c f i)) = refl
same_money s r (sent (recalls p f n w)) = refl
same_money s r (sent (completes stream b k p x j d e f)) = refl
same_money s r (sent (grows stream b k p x j d e)) = refl
same_money s r (sent (rejects f b k p x j)) = refl

module _ (readers : Readers) (e : Engine) (c : Call) (k : Kept e.state) (f : Faithful e) (l : Ledger) (h : Stands e l) where
  abbrev s : State
  s = begun e.state c.asked.clock

  abbrev a : Acted
  a = acted e c

  abbrev o : Outcome
  o = outcome e c

  abbrev on : Ledger
  on = record { opening = l.opening; gone = l.gone ++ map (payments_at a.batches) o.done }

  same : a.books.balances ≡ e.state.books.balances
  unfolding begun
  same = same_money s (request_at c.asked.input) (did s (own_of c.asked.action) c.asked.input)

  paid : Trail (payments_at a.batches) a.books o.done o.books
  unfolding tested
  paid = test_trail c.asked.quick (payments_at a.batches) (fuel a.batches.queue) a.books _ a.batches.queue

  fair : All (λ p. Fair (payments_at a.batches p)) o.done
  unfolding tested
  fair = gone_fair s.house a.batches a.books c.asked.quick _ (acted_house readers e c k) (acted_stood readers e c k)

  tested_money : (i : ℕ) → i < 64 → get_or o.books.balances i 0 + taken_by i on.gone ≡ get_or l.opening i 0 + brought_by i on.gone
  tested_money i b =
      let g = map (payments_at a.batches) o.done in
      rw (brought_append i l.gone g, taken_append i l.gone g)
      (omega (arith, h.money i b, trail_sum fair i (omega (arith, (acted_house readers e c k).balances_long)) paid, ap (λ (x : List ℕ). get_or x i 0) same))

  tested_total : sum o.books.balances ≡ sum l.opening
  tested_total = trail_total fair (house_books s.house a.books (acted_house readers e c k)) paid ∙ ap sum same ∙ h.total

  -- the batches that are left have the payments that the test saw
  tested_stuck : Stuck (payments_at (left s a o)) o.books o.queue
  unfolding left after_test tested
  tested_stuck =
      let q : List ℕ = a.batches.queue in
      let b : ℕ → List Payment = payments_at a.batches in
      let once = times_once q (λ p. omega (arith, at_most_once s.house.banks ((acted_stood readers e c k).each p))) in
      All-zip (λ x. Off x o.done) (λ x. verdict o.books (b x) ≡ Passes → ⊥) (λ x. verdict o.books (payments_at (left s a o) x) ≡ Passes → ⊥) o.queue
      (λ x d n v. n (ap (λ (z : Place). verdict o.books (place_payments z)) (sym (emptied_off s.house.banks o.done a.batches.places x (off_none x o.done d))) ∙ v))
      (test_parted c.asked.quick b (fuel q) a.books _ q once).apart
      (test_stuck c.asked.quick b (fuel q) a.books _ q (λ y. true_acted e c f.true) (omega arith))

  goes_stands : Stands (goes_on s a o).engine on
  unfolding goes_on left after_test
  goes_stands = record { stuck = tested_stuck; money = tested_money; total = tested_total }

  closes_stands : Stands (closes s a o).engine on
  unfolding closes
  closes_stands = record { stuck = tt; money = tested_money; total = tested_total }

  ends_stands : (t : Bool) → Stands (cond t (closes s a o) (goes_on s a o)).engine on
  ends_stands true = closes_stands
  ends_stands false = goes_stands

  stepped_stands : Stands (stepped e c).engine on
  unfolding stepped
  stepped_stands = ends_stands (is_close c.asked.action)

  opened_stands : (r : Answer) → is_open e.state.day.phase ≡ false → Stands (opened_by r e c).engine (anew r e c l)
  unfolding opened brought_by taken_by
  opened_stands (Ok tt) i = record { stuck = rw (k.idle i) tt; money = λ n b. refl; total = refl }
  opened_stands (Err r) i = h

  performed_stands : (z : Kind) → day_for z e.state.day ≡ true → Stands (performed z e c).engine (ledger_by (Ok tt) z e c l)
  performed_stands opens i = opened_stands (opening_answer e.state.day c.asked.input) (not-true _ i)
  performed_stands steps i = stepped_stands
  performed_stands (gives d) i = record { stuck = h.stuck; money = h.money; total = h.total }

  judged_stands : (r : Answer) → judge e.state c ≡ r → Stands (judged r e c).engine (ledger_by r (kind_of c.asked.action) e c l)
  judged_stands (Ok tt) i = performed_stands (kind_of c.asked.action) (right_day_lem e.state c i)
  judged_stands (Err r) i = h

  ends_paid : (t : Bool) → Trail (payments_at a.batches) a.books o.done (cond t (closes s a o) (goes_on s a o)).engine.state.books
  unfolding closes goes_on
  ends_paid true = paid
  ends_paid false = paid

  stepped_paid : Trail (payments_at a.batches) a.books o.done (stepped e c).engine.state.books
  unfolding stepped
  stepped_paid = ends_paid (is_close c.asked.action)

  performed_paid : (z : Kind) → PaidBy (Ok tt) z e c (performed z e c).engine.state.books
  performed_paid opens = tt
  performed_paid steps = stepped_paid
  performed_paid (gives d) = refl

  judged_paid : (r : Answer) → PaidBy r (kind_of c.asked.action) e c (judged r e c).engine.state.books
  judged_paid (Ok tt) = performed_paid (kind_of c.asked.action)
  judged_paid (Err r) = refl

  pub call_stands : Paid e c × Stands (call e c).engine (ledger e c l)
  unfolding call ledger Paid
  call_stands = (judged_paid (judge e.state c), judged_stands (judge e.state c) refl)

pub fresh_stands : Stands cleared no_ledger
unfolding brought_by taken_by
fresh_stands = record { stuck = tt; money = λ k b. refl; total = refl }
