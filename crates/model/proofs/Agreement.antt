-- "Two queue tests, plain and quick. From a fresh start, over any sequence of calls, both give the same answers, response bytes, balances and
-- waiting batches in the same order; only their lists of tries may differ."
use Rattle.std.specs.Prelude.{Ok, Err}
use Prim.Native.Nat.{ℕ, suc}
use mathlib.Core.Path.{◌≡◌, refl, sym, ap, ◌∙◌}
use mathlib.Core.Bool.{Bool, true, false, ◌&&◌, cond, not}
use mathlib.Core.List.{List, [], ◌∷◌}
use native.Mathlib.Omega.{arith}
use lib.ListN.{get_or, set}
use lib.Dec.{leb}
use Rattle.chars.specs.declared.Refusal.{Refusal}
use Rattle.settle.specs.Settlement.{Accounts}
use Rattle.queue.specs.Promise.{True}
use Rattle.queue.specs.Tests.{Outcome, Seen, seen, fuel}
use Rattle.queue.specs.Memory.{forgotten}
use Rattle.queue.proofs.Agree.{tests_agree, true_test}
use Rattle.queue.proofs.Promises.{fresh_none}
use Rattle.settle.specs.Payments.{Payment}
use Rattle.chars.specs.declared.Refusal.TheVariants.{WrongMoment, ShortBuffer}
use Rattle.model.specs.Answers.{Answer}
use Rattle.model.specs.Kinds.{Kind, opens, steps, gives, kind_of, is_close, own_of}
use Rattle.model.specs.State.{free, Batches, State, no_memory, payments_at, with_place}
use Rattle.model.specs.Messages.{Acted}
use Rattle.model.specs.Ending.{emptied, after_test}
use Rattle.model.specs.Joining.{join}
use Rattle.model.specs.Days.{opening_answer, opened}
use Rattle.model.specs.Calls.{Call, Engine, is_open, right_clock, right_day, day_for, room_needed, rows_needed, judge, begun, act, woken, tested, replies, left, last_replies, goes_on, closes, stepped, opened_by, performed, judged, call, cleared}
use Rattle.model.specs.Course.{start, Deed, clears, calls}
use Rattle.model.specs.Promises.{View, by, chosen, view, views_by, SameSeen}
use Rattle.model.proofs.Moved.{set_beside, moved, true_beside, true_moved}

-- a memory that is true of the batches, and empty outside an open day
pub record Faithful (e : Engine) : Type 0 where
  pub true : True (payments_at e.state.batches) e.state.books e.memory
  pub idle : is_open e.state.day.phase ≡ false → (p : ℕ) → get_or e.memory p 0 ≡ 0

-- ---- the test, and the places that it empties

true_emptied : (done : List ℕ) (b : Batches) (a : Accounts) (m : List ℕ) → True (payments_at b) a m
    → True (payments_at (record { places = emptied done b.places; pending = b.pending; queue = b.queue })) a (forgotten done m)
unfolding emptied forgotten
true_emptied [] b a m t = t
true_emptied (p ∷ done) b a m t =
    true_emptied done (with_place b p free) a (set m p 0) (true_beside b (with_place b p free) a m p (set_beside b.places p free) t)

module _ (e : Engine) (c : Call) (t : True (payments_at e.state.batches) e.state.books e.memory) where
  abbrev s : State
  s = begun e.state c.asked.clock

  abbrev a : Acted
  a = act s (own_of c.asked.action) c.asked.input

  true_begun : True (payments_at s.batches) s.books e.memory
  unfolding begun join
  true_begun = t

  pub true_acted : True (payments_at a.batches) a.books (woken a.wakes e.memory)
  true_acted = true_moved s a e.memory (moved s (own_of c.asked.action) c.asked.input) true_begun

  pub true_tested : (q : Bool) → True (payments_at a.batches) (tested q a e.memory).books (tested q a e.memory).memory
  unfolding tested
  true_tested q = true_test (payments_at a.batches) q (fuel a.batches.queue) a.books (woken a.wakes e.memory) a.batches.queue true_acted

-- ---- agreement of one call

-- what is seen of a call depends on its test through what both tests agree on
module _ (s : State) (a : Acted) (o r : Outcome) (h : seen o ≡ seen r) where
  goes_alike : view (goes_on s a o) ≡ view (goes_on s a r)
  unfolding goes_on replies left
  goes_alike =
      ap (λ (z : Seen). view (goes_on s a (record { books = z.books; memory = []; queue = z.queue; done = z.done; tries = [] }))) h

  closes_alike : view (closes s a o) ≡ view (closes s a r)
  unfolding closes replies left last_replies
  closes_alike =
      ap (λ (z : Seen). view (closes s a (record { books = z.books; memory = []; queue = z.queue; done = z.done; tries = [] }))) h

  ends_alike : (t : Bool) → view (cond t (closes s a o) (goes_on s a o)) ≡ view (cond t (closes s a r) (goes_on s a r))
  ends_alike true = closes_alike
  ends_alike false = goes_alike

module _ (s : State) (m n : List ℕ) (c : Call) (x y : Bool) where
  abbrev one : Engine
  one = record { state = s; memory = m }

  abbrev two : Engine
  two = record { state = s; memory = n }

  stepped_alike : True (payments_at s.batches) s.books m → True (payments_at s.batches) s.books n → view (stepped one (by x c)) ≡ view (stepped two (by y c))
  unfolding stepped tested
  stepped_alike g h =
      let b : State = begun s c.asked.clock in
      let a : Acted = act b (own_of c.asked.action) c.asked.input in
      ends_alike b a (tested x a m) (tested y a n)
      (tests_agree (payments_at a.batches) x y (fuel a.batches.queue) a.books (woken a.wakes m) (woken a.wakes n) a.batches.queue
      (λ e. true_acted one (by x c) g) (λ e. true_acted two (by y c) h))
      (is_close c.asked.action)

  opened_alike : (r : Answer) → view (opened_by r one (by x c)) ≡ view (opened_by r two (by y c))
  opened_alike (Ok tt) = refl
  opened_alike (Err r) = refl

  performed_alike : (z : Kind) → True (payments_at s.batches) s.books m → True (payments_at s.batches) s.books n
      → view (performed z one (by x c)) ≡ view (performed z two (by y c))
  performed_alike opens g h = opened_alike (opening_answer s.day c.asked.input)
  performed_alike steps g h = stepped_alike g h
  performed_alike (gives d) g h = refl

  judged_alike : (r : Answer) → True (payments_at s.batches) s.books m → True (payments_at s.batches) s.books n
      → view (judged r one (by x c)) ≡ view (judged r two (by y c))
  judged_alike (Ok tt) g h = performed_alike (kind_of c.asked.action) g h
  judged_alike (Err r) g h = refl

  pub call_alike : True (payments_at s.batches) s.books m → True (payments_at s.batches) s.books n
      → view (call one (by x c)) ≡ view (call two (by y c))
  unfolding call judge
  call_alike g h = judged_alike (judge s c) g h

-- ---- the memory stays faithful

zeros_true : (b : ℕ → List Payment) (a : Accounts) (m : List ℕ) → ((p : ℕ) → get_or m p 0 ≡ 0) → True b a m
zeros_true b a m h p = rw (h p) tt

done_not_refused : {X : Type 0} {r : Refusal} → ◌≡◌ {A = Answer} (Err r) (Ok tt) → X
done_not_refused h = let z : ◌≡◌ {A = ℕ} 0 1 = cc in absurd (omega arith)

false_not_true : {X : Type 0} → ◌≡◌ {A = Bool} false true → X
false_not_true h = let z : ◌≡◌ {A = ℕ} 0 1 = cc in absurd (omega arith)

-- a call that is not refused at once came at the right moment
pub right_day_lem : (s : State) (c : Call) → judge s c ≡ Ok tt → right_day c.asked.action s.day ≡ true
unfolding judge
right_day_lem s c h = go (right_clock c.asked.action s.day c.asked.clock) (right_day c.asked.action s.day) h
  where
    go : (p q : Bool) → ◌≡◌ {A = Answer} (cond (p && q) (cond (leb (room_needed c.asked.action s) c.room && leb rows_needed c.rows) (Ok tt) (Err ShortBuffer)) (Err WrongMoment)) (Ok tt) → q ≡ true
    go true true h = refl
    go true false h = done_not_refused h
    go false q h = done_not_refused h

not_open : (t : Bool) → not t ≡ true → t ≡ false
not_open true h = false_not_true h
not_open false h = refl

module _ (e : Engine) (c : Call) (f : Faithful e) where
  abbrev s₁ : State
  s₁ = begun e.state c.asked.clock

  abbrev a₁ : Acted
  a₁ = act s₁ (own_of c.asked.action) c.asked.input

  abbrev o₁ : Outcome
  o₁ = tested c.asked.quick a₁ e.memory

  goes_faithful : is_open e.state.day.phase ≡ true → Faithful (goes_on s₁ a₁ o₁).engine
  unfolding goes_on left after_test begun
  goes_faithful h = record {
    true = true_emptied o₁.done a₁.batches o₁.books o₁.memory (true_tested e c f.true c.asked.quick);
    idle = λ g. false_not_true (sym g ∙ h);
  }

  closes_faithful : Faithful (closes s₁ a₁ o₁).engine
  unfolding closes
  closes_faithful = record { true = zeros_true _ _ no_memory fresh_none; idle = λ g. fresh_none }

  ends_faithful : (t : Bool) → is_open e.state.day.phase ≡ true → Faithful (cond t (closes s₁ a₁ o₁) (goes_on s₁ a₁ o₁)).engine
  ends_faithful true h = closes_faithful
  ends_faithful false h = goes_faithful h

  stepped_faithful : is_open e.state.day.phase ≡ true → Faithful (stepped e c).engine
  unfolding stepped
  stepped_faithful h = ends_faithful (is_close c.asked.action) h

  opened_faithful : (r : Answer) → is_open e.state.day.phase ≡ false → Faithful (opened_by r e c).engine
  unfolding opened
  opened_faithful (Ok tt) h = record { true = zeros_true _ _ e.memory (f.idle h); idle = λ g. f.idle h }
  opened_faithful (Err r) h = f

  performed_faithful : (z : Kind) → day_for z e.state.day ≡ true → Faithful (performed z e c).engine
  performed_faithful opens h = opened_faithful (opening_answer e.state.day c.asked.input) (not_open _ h)
  performed_faithful steps h = stepped_faithful h
  performed_faithful (gives d) h = record { true = f.true; idle = f.idle }

  judged_faithful : (r : Answer) → judge e.state c ≡ r → Faithful (judged r e c).engine
  judged_faithful (Ok tt) h = performed_faithful (kind_of c.asked.action) (right_day_lem e.state c h)
  judged_faithful (Err r) h = f

  pub call_faithful : Faithful (call e c).engine
  unfolding call
  call_faithful = judged_faithful (judge e.state c) refl

pub cleared_faithful : Faithful cleared
cleared_faithful = record { true = zeros_true _ _ no_memory fresh_none; idle = λ g. fresh_none }

-- ---- over any sequence of calls and clearings

runs_alike : (ds : List Deed) (x y : ℕ → Bool) (e f : Engine) → e.state ≡ f.state → Faithful e → Faithful f
    → views_by call e (chosen x ds) ≡ views_by call f (chosen y ds)
unfolding views_by chosen
runs_alike [] x y e f h p q = refl
runs_alike (clears ∷ ds) x y e f h p q = runs_alike ds x y cleared cleared refl cleared_faithful cleared_faithful
runs_alike (calls c ∷ ds) x y e f h p q =
    let t : True (payments_at e.state.batches) e.state.books f.memory = rw h q.true in
    let v : view (call e (by (x 0) c)) ≡ view (call f (by (y 0) c)) =
    call_alike e.state e.memory f.memory c (x 0) (y 0) p.true t
    ∙ ap (λ (z : State). view (call (record { state = z; memory = f.memory }) (by (y 0) c))) h in
    ap (λ (z : View). z ∷ views_by call (call e (by (x 0) c)).engine (chosen (λ i. x (suc i)) ds)) v
    ∙ ap (λ (l : List View). view (call f (by (y 0) c)) ∷ l)
    (runs_alike ds (λ i. x (suc i)) (λ i. y (suc i)) (call e (by (x 0) c)).engine (call f (by (y 0) c)).engine
    (ap (λ (z : View). z.state) v) (call_faithful e (by (x 0) c) p) (call_faithful f (by (y 0) c) q))

-- "From a fresh start, over any sequence of calls, both give the same answers, response bytes, balances and waiting batches"
pub tests_agree_all_days : SameSeen call
tests_agree_all_days ds x y = runs_alike ds x y start start refl cleared_faithful cleared_faithful
