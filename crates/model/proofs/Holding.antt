-- The quick test's memory: what it holds is of a queued batch, a bank with a debit there. Every call keeps that.
use Rattle.std.specs.Prelude.{Ok, Err}
use Prim.Native.Nat.{ℕ, zero, suc, ◌+◌, ◌≤◌, ◌<◌}
use mathlib.Core.Path.{◌≡◌, refl, sym, ap, ◌∙◌}
use mathlib.Core.Bool.{Bool, true, false, not, cond, false≢true}
use mathlib.Core.List.{List, [], ◌∷◌, map}
use native.Mathlib.Omega.{arith}
use lib.Dec.{eqb}
use lib.ListN.{length, get_or, set, length-set, length-map, get_or-map}
use lib.Seq.{get_or-set_other}
use borrow.Author.Tests.{eqb-true, eqb-false, eq-eqb}
use Rattle.chars.specs.Words.{member}
use Rattle.request_read.specs.whole.Request.{request_at}
use Rattle.request_read.specs.declared.whole.Reading.{Reading}
use Rattle.settle.specs.Payments.{Payment, credit, debit, needs_of}
use Rattle.settle.specs.Settlement.{Accounts, is_covered, first_uncovered}
use Rattle.settle.specs.declared.Verdict.TheVariants.{Stops}
use Rattle.queue.specs.Memory.{wake, forgotten}
use Rattle.queue.specs.Promise.{All}
use Rattle.queue.specs.Tests.{Outcome, some, remember, settle, walk, test, fuel}
use Rattle.queue.proofs.MemoryLaws.{by_bool, wake_yes, wake_no}
use Rattle.queue.proofs.Steps.{by_turn, walk_memory, test_stop, test_more}
use Rattle.queue.proofs.Trail.{walk_each}
use Rattle.queue.proofs.Agree.{forgets}
use Rattle.queue.proofs.Promises.{fresh_none}
use Rattle.book_read.specs.Range.{Each}
use Rattle.model.specs.Answers.{Answer}
use Rattle.model.specs.Kinds.{Kind, opens, steps, gives, kind_of, is_close, own_of}
use Rattle.model.specs.State.{Place, free, Batches, Known, Batch, State, no_batches, no_memory, place_payments, payments_at}
use Rattle.model.specs.Joining.{keep, by_time, time, is_due, join}
use Rattle.model.specs.Messages.{Acted, Waking, bank, place, ended, to_tail, may_queue, with_message}
use Rattle.model.specs.Changes.{has_debit}
use Rattle.model.specs.Ending.{emptied, after_test}
use Rattle.model.specs.Days.{opening_answer, opened}
use Rattle.model.specs.Calls.{Call, Engine, judge, begun, act, woken, tested, left, goes_on, closes, stepped, opened_by, performed, judged, call, cleared, run}
use Rattle.model.specs.Rules.{RightMemory}
use Rattle.model.proofs.Truth.{or_right}
use Rattle.model.proofs.Moved.{Moved, still, one, sub, moved}
use Rattle.model.proofs.Counting.{times, times_append, times_kept, no_member, a_member, times_all}
use Rattle.model.proofs.Standing.{emptied_off}
use Rattle.model.proofs.Settling.{test_times}
use Rattle.model.proofs.Doing.{Start, going, begun as begins, Did, sent, idle, sublimits, letters, alone, repeats, recalls, completes, grows, rejects, did}

-- what is held: of a place in q, a bank with a debit there
abbrev pub Holds : List ℕ → (ℕ → List Payment) → List ℕ → Type 0
Holds q batch m = (p k : ℕ) → get_or m p 0 ≡ suc k → (0 < times p q) × (has_debit k (batch p) ≡ true)

zero_held : {X : Type 0} {k : ℕ} → 0 ≡ suc k → X
zero_held e = absurd (omega arith)

-- ---- waking and forgetting

wake_held : (f : ℕ → Bool) (x k : ℕ) → wake f x ≡ suc k → x ≡ suc k
unfolding wake
wake_held f zero k h = zero_held h
wake_held f (suc j) k h = by_bool (f j) (λ e. let g : 0 ≡ suc k = sym (wake_yes f j e) ∙ h in zero_held g) (λ e. sym (wake_no f j e) ∙ h)

wakes : (f : ℕ → Bool) (m : List ℕ) (p : ℕ) → get_or (map (wake f) m) p 0 ≡ wake f (get_or m p 0)
unfolding wake
wakes f m p = get_or-map (wake f) m p 0

pub holds_woken : (q : List ℕ) (batch : ℕ → List Payment) (f : ℕ → Bool) (m : List ℕ) → Holds q batch m → Holds q batch (map (wake f) m)
holds_woken q batch f m h p k e = h p k (wake_held f (get_or m p 0) k (sym (wakes f m p) ∙ e))

-- ---- the test

module _ (quick : Bool) (batch : ℕ → List Payment) (all : List ℕ) where
  stops_debit : (a : Accounts) (ps : List Payment) (k : ℕ) → first_uncovered a (needs_of ps) ≡ Stops k → has_debit k ps ≡ true
  unfolding first_uncovered needs_of has_debit
  stops_debit a [] k h = let z : ◌≡◌ {A = ℕ} 0 1 = cc in absurd (omega arith)
  stops_debit a (credit j c ∷ ps) k h = stops_debit a ps k h
  stops_debit a (debit l j c ∷ ps) k h =
      by_bool (is_covered a (record { letters = l; bank = j; cents = c }))
      (λ e. let g : first_uncovered a (needs_of ps) ≡ Stops k = rw e at h in or_right (eqb j k) (has_debit k ps) (stops_debit a ps k g))
      (λ e. let g : Stops j ≡ Stops k = rw e at h in let i : j ≡ k = cc in rw (eq-eqb j k i))

  put_held : (m : List ℕ) (p k : ℕ) → Holds all batch m → 0 < times p all → has_debit k (batch p) ≡ true → Holds all batch (set m p (suc k))
  put_held m p k h t d q j e =
      by_bool (eqb q p)
      (λ f. let i : q ≡ p = eqb-true q p f in rw i (t, same m p (rw i at e)))
      (λ f. h q j (sym (get_or-set_other m p q (suc k) 0 (eqb-false q p f)) ∙ e))
    where
      same : (l : List ℕ) (i : ℕ) → get_or (set l i (suc k)) i 0 ≡ suc j → has_debit j (batch p) ≡ true
      same [] i e = zero_held e
      same (x ∷ l) zero e = let z : k ≡ j = omega arith in rw (sym z) d
      same (x ∷ l) (suc i) e = same l i e

  remember_held : (m : List ℕ) (p k : ℕ) → Holds all batch m → 0 < times p all → has_debit k (batch p) ≡ true → Holds all batch (remember quick m p k)
  unfolding remember
  remember_held m p k h t d = by_bool quick (λ e. rw e (put_held m p k h t d)) (λ e. rw e h)

  walk_held : (a : Accounts) (m q : List ℕ) → Holds all batch m → All (λ p. 0 < times p all) q → Holds all batch (walk quick batch a m q).memory
  unfolding walk
  walk_held a m [] h t = h
  walk_held a m (p ∷ q) h t =
      by_turn quick batch a m p
      (λ e w. rw w (walk_held a m q h t.1))
      (λ e v w. rw w (walk_held (settle a (batch p)) _ q (holds_woken all batch _ m h) t.1))
      (λ e k v w. rw w (walk_held a _ q (remember_held m p k h t.0 (stops_debit a (batch p) k v)) t.1))

  test_held : (f : ℕ) (a : Accounts) (m q : List ℕ) → Holds all batch m → All (λ p. 0 < times p all) q → Holds all batch (test quick batch f a m q).memory
  unfolding test
  test_held zero a m q h t = h
  test_held (suc f) a m q h t =
      let r : Outcome = walk quick batch a m q in
      by_bool (some r.done)
      (λ e. rw (test_more quick batch f a m q e) (test_held f r.books r.memory r.queue (walk_held a m q h t) (walk_each quick batch (λ p. 0 < times p all) a m q t).left))
      (λ e. rw (test_stop quick batch f a m q e) (walk_held a m q h t))

  test_long : (f : ℕ) (a : Accounts) (m q : List ℕ) → length (test quick batch f a m q).memory ≡ length m
  unfolding test
  test_long zero a m q = refl
  test_long (suc f) a m q =
      let r : Outcome = walk quick batch a m q in
      by_bool (some r.done)
      (λ e. rw (test_more quick batch f a m q e) (test_long f r.books r.memory r.queue ∙ walk_memory quick batch a m q))
      (λ e. rw (test_stop quick batch f a m q e) (walk_memory quick batch a m q))

-- ---- places that are forgotten

pub forgotten_off : (done m : List ℕ) (p : ℕ) → times p done ≡ 0 → get_or (forgotten done m) p 0 ≡ get_or m p 0
unfolding forgotten times
forgotten_off [] m p e = refl
forgotten_off (q ∷ done) m p e =
    by_bool (eqb q p)
    (λ f. absurd (let g : 1 + times p done ≡ 0 = rw f at e in omega arith))
    (λ f. let g : 0 + times p done ≡ 0 = rw f at e in forgotten_off done (set m q 0) p (omega arith) ∙ get_or-set_other m q p 0 0 (λ d. eqb-false q p f (sym d)))

stays_none : (done m : List ℕ) (p : ℕ) → get_or m p 0 ≡ 0 → get_or (forgotten done m) p 0 ≡ 0
unfolding forgotten
stays_none [] m p e = e
stays_none (q ∷ done) m p e =
    stays_none done (set m q 0) p
    (by_bool (eqb p q) (λ f. rw (eqb-true p q f, forgets)) (λ f. get_or-set_other m q p 0 0 (eqb-false p q f) ∙ e))

pub forgotten_on : (done m : List ℕ) (p : ℕ) → 0 < times p done → get_or (forgotten done m) p 0 ≡ 0
unfolding forgotten times
forgotten_on [] m p h = absurd (omega arith)
forgotten_on (q ∷ done) m p h =
    by_bool (eqb q p)
    (λ f. stays_none done (set m q 0) p (rw (eqb-true q p f, forgets)))
    (λ f. let g : 0 < 0 + times p done = rw f at h in forgotten_on done (set m q 0) p (omega arith))

pub forgotten_long : (done m : List ℕ) → length (forgotten done m) ≡ length m
unfolding forgotten
forgotten_long [] m = refl
forgotten_long (q ∷ done) m = forgotten_long done (set m q 0) ∙ length-set m q 0

-- ---- an action

module _ (s : State) (r : Reading) where
  start_queue : {b : Batches} {k : Known} {p : ℕ} {x : Batch} → Start s r b k p x → b.queue ≡ s.batches.queue
  start_queue (going a e) = refl
  start_queue (begins a u v) = refl

  tail_queue : (b : Batches) (x : Batch) (p q : ℕ) → times q b.queue ≤ times q (to_tail s r b x p).queue
  tail_queue b x p q = by_bool (may_queue s r x.activation) (λ e. rw e (omega (arith, times_append q b.queue (p ∷ [])))) (λ e. rw e (omega arith))

  ended_queue : (b : Batches) (p q : ℕ) → (q ≡ p → ⊥) → times q (ended b p).queue ≡ times q b.queue
  unfolding ended
  ended_queue b p q n = times_kept (λ x. not (eqb x p)) q b.queue (ap not (ne q n))
    where
      ne : (x : ℕ) → (x ≡ p → ⊥) → eqb x p ≡ false
      ne x m = by_bool (eqb x p) (λ e. absurd (m (eqb-true x p e))) (λ e. e)

  -- a queued place that the action does not name stays queued
  still_queued : {a : Acted} → Did s r a → (q : ℕ) → ((p : ℕ) → a.wakes ≡ place p ∷ [] → q ≡ p → ⊥) → times q s.batches.queue ≤ times q a.batches.queue
  still_queued (sent (idle n)) q h = omega arith
  still_queued (sublimits k x b l) q h = omega arith
  still_queued (letters k x p c m w) q h = omega arith
  still_queued (sent (alone n y i w)) q h = omega arith
  still_queued (sent (repeats p c f i)) q h = omega (arith, ended_queue s.batches p q (h p refl))
  still_queued (sent (recalls p f n w)) q h = omega (arith, ended_queue s.batches p q (h p refl))
  still_queued (sent (completes stream b k p x j d e f)) q h = omega (arith, ap (times q) (start_queue j.start), tail_queue b (with_message s r x) p q)
  still_queued (sent (grows stream b k p x j d e)) q h = omega (arith, ap (times q) (start_queue j.start))
  still_queued (sent (rejects f b k p x j)) q h = omega (arith, ap (times q) (start_queue j.start), ended_queue b p q (h p refl))

  acted_held : (a : Acted) (m : List ℕ) → Moved s a → ((q : ℕ) → ((p : ℕ) → a.wakes ≡ place p ∷ [] → q ≡ p → ⊥) → times q s.batches.queue ≤ times q a.batches.queue)
      → Holds s.batches.queue (payments_at s.batches) m → Holds a.batches.queue (payments_at a.batches) (woken a.wakes m)
  unfolding woken
  acted_held a m (still w b c) g h = rw (w, c) h
  acted_held a m (one p w b c) g h = rw w (λ q k e.
      by_bool (eqb q p)
      (λ f. zero_held (sym (forgets m p) ∙ rw (eqb-true q p f) at e))
      (λ f.
      let n : q ≡ p → ⊥ = eqb-false q p f in
      let i = h q k (sym (get_or-set_other m p q 0 0 n) ∙ e) in
      (omega (arith, i.0, g q (λ x y z. n (z ∙ sym (named p x (sym w ∙ y))))), ap (λ (y : Place). has_debit k (place_payments y)) (c q n) ∙ i.1)))
    where
      named : (x y : ℕ) → ◌≡◌ {A = List Waking} (place x ∷ []) (place y ∷ []) → x ≡ y
      named x y e = cc
  acted_held a m (sub k v w b c) g h = rw (w, c) (holds_woken s.batches.queue (payments_at s.batches) (eqb k) m h)

woken_long : (ws : List Waking) (m : List ℕ) → length (woken ws m) ≡ length m
unfolding woken
woken_long [] m = refl
woken_long (bank k ∷ ws) m = woken_long ws (map (wake (eqb k)) m) ∙ length-map m (wake (eqb k))
woken_long (place p ∷ ws) m = woken_long ws (set m p 0) ∙ length-set m p 0

-- ---- one call

holds_right : (b : Batches) (m : List ℕ) → length m ≡ 32 → Holds b.queue (payments_at b) m → RightMemory b m
holds_right b m l h = record { long = l; held = λ p k e. let i = h p k e in (a_member p b.queue i.0, i.1) }

right_holds : (b : Batches) (m : List ℕ) → RightMemory b m → Holds b.queue (payments_at b) m
right_holds b m r p k e = let i = r.held p k e in (some_times (times p b.queue) refl i.0, i.1)
  where
    some_times : (n : ℕ) → times p b.queue ≡ n → member p b.queue ≡ true → 0 < times p b.queue
    some_times zero f g = absurd (false≢true (sym (no_member p b.queue f) ∙ g))
    some_times (suc n) f g = omega arith

module _ (e : Engine) (c : Call) (h : RightMemory e.state.batches e.memory) where
  abbrev s₁ : State
  s₁ = begun e.state c.asked.clock

  abbrev a₁ : Acted
  a₁ = act s₁ (own_of c.asked.action) c.asked.input

  abbrev o₁ : Outcome
  o₁ = tested c.asked.quick a₁ e.memory

  pub begun_held : Holds s₁.batches.queue (payments_at s₁.batches) e.memory
  unfolding begun join
  begun_held p k f =
      let i = right_holds e.state.batches e.memory h p k f in
      (omega (arith, i.0, times_append p e.state.batches.queue (by_time (time c.asked.clock e.state.batches) [] (keep (is_due c.asked.clock e.state.batches) e.state.batches.pending))), i.1)

  acted_holds : Holds a₁.batches.queue (payments_at a₁.batches) (woken a₁.wakes e.memory)
  acted_holds = acted_held s₁ (request_at c.asked.input) a₁ e.memory (moved s₁ (own_of c.asked.action) c.asked.input) (still_queued s₁ (request_at c.asked.input) (did s₁ (own_of c.asked.action) c.asked.input)) begun_held

  pub tested_holds : Holds a₁.batches.queue (payments_at a₁.batches) o₁.memory
  unfolding tested
  tested_holds =
      test_held c.asked.quick (payments_at a₁.batches) a₁.batches.queue (fuel a₁.batches.queue) a₁.books (woken a₁.wakes e.memory) a₁.batches.queue acted_holds
      (times_all (λ p. 0 < times p a₁.batches.queue) a₁.batches.queue (λ p l. l))

  pub tested_counts : (p : ℕ) → times p o₁.queue + times p o₁.done ≡ times p a₁.batches.queue
  unfolding tested
  tested_counts p = test_times c.asked.quick (payments_at a₁.batches) (fuel a₁.batches.queue) p a₁.books (woken a₁.wakes e.memory) a₁.batches.queue

  left_holds : Holds (left s₁ a₁ o₁).queue (payments_at (left s₁ a₁ o₁)) (forgotten o₁.done o₁.memory)
  unfolding left after_test
  left_holds p k f = go (times p o₁.done) refl
    where
      go : (n : ℕ) → times p o₁.done ≡ n → (0 < times p o₁.queue) × (has_debit k (place_payments (get_or (emptied o₁.done a₁.batches.places) p free)) ≡ true)
      go zero d =
          let i = tested_holds p k (sym (forgotten_off o₁.done o₁.memory p d) ∙ f) in
          (omega (arith, tested_counts p, i.0), ap (λ (y : Place). has_debit k (place_payments y)) (emptied_off s₁.house.banks o₁.done a₁.batches.places p d) ∙ i.1)
      go (suc n) d = zero_held (sym (forgotten_on o₁.done o₁.memory p (omega arith)) ∙ f)

  pub tested_long : length o₁.memory ≡ 32
  unfolding tested
  tested_long =
      test_long c.asked.quick (payments_at a₁.batches) [] (fuel a₁.batches.queue) a₁.books (woken a₁.wakes e.memory) a₁.batches.queue
      ∙ woken_long a₁.wakes e.memory
      ∙ h.long

  left_long : length (forgotten o₁.done o₁.memory) ≡ 32
  left_long = forgotten_long o₁.done o₁.memory ∙ tested_long

  -- where the day goes on
  pub left_memory : RightMemory (left s₁ a₁ o₁) (forgotten o₁.done o₁.memory)
  left_memory = holds_right (left s₁ a₁ o₁) (forgotten o₁.done o₁.memory) left_long left_holds

  abbrev Right : Engine → Type 0
  Right x = RightMemory x.state.batches x.memory

  ends_right : (t : Bool) → Right (cond t (closes s₁ a₁ o₁) (goes_on s₁ a₁ o₁)).engine
  unfolding closes goes_on
  ends_right true = holds_right no_batches no_memory refl (λ p k f. zero_held (sym (fresh_none p) ∙ f))
  ends_right false = left_memory

  stepped_right : Right (stepped e c).engine
  unfolding stepped
  stepped_right = ends_right (is_close c.asked.action)

  opened_right : (r : Answer) → Right (opened_by r e c).engine
  unfolding opened
  opened_right (Ok tt) = h
  opened_right (Err r) = h

  performed_right : (z : Kind) → Right (performed z e c).engine
  performed_right opens = opened_right (opening_answer e.state.day c.asked.input)
  performed_right steps = stepped_right
  performed_right (gives d) = h

  judged_right : (r : Answer) → Right (judged r e c).engine
  judged_right (Ok tt) = performed_right (kind_of c.asked.action)
  judged_right (Err r) = h

  pub call_memory : RightMemory (call e c).engine.state.batches (call e c).engine.memory
  unfolding call
  call_memory = judged_right (judge e.state c)

runs_memory : (cs : List Call) (e : Engine) → RightMemory e.state.batches e.memory → Each (λ r. RightMemory r.engine.state.batches r.engine.memory) (run e cs)
unfolding run
runs_memory [] e h = tt
runs_memory (c ∷ cs) e h = let w = call_memory e c h in (w, runs_memory cs (call e c).engine w)

pub cleared_memory : RightMemory cleared.state.batches cleared.memory
cleared_memory = holds_right no_batches no_memory refl (λ p k f. zero_held (sym (fresh_none p) ∙ f))

-- over any calls from a fresh start
pub memory_always_right : (cs : List Call) → Each (λ r. RightMemory r.engine.state.batches r.engine.memory) (run cleared cs)
memory_always_right cs = runs_memory cs cleared cleared_memory
