-- The omission rule over any calls from a fresh start: the memory is what their history has left of a fresh one.
use Rattle.std.specs.Prelude.{Ok, Err}
use Prim.Native.Nat.{ℕ, zero, suc, ◌<◌}
use mathlib.Core.Path.{◌≡◌, refl, sym, ap, subst, ◌∙◌}
use mathlib.Core.Bool.{Bool, true, false, cond, false≢true}
use mathlib.Core.List.{List, [], ◌∷◌, ◌++◌, map}
use native.Mathlib.Omega.{arith}
use lib.Dec.{eqb, leb, ltb}
use lib.ListN.{length, get_or, set, replicate, length-set, get_or-eq_default}
use lib.Seq.{get_or-set_other, get_or-set_same, ext_get_or}
use borrow.Author.Tests.{eqb-true, eqb-false, ltb-true, ltb-false}
use Rattle.chars.specs.Words.{bytes, member}
use Rattle.codes.specs.declared.Code.{Code}
use Rattle.request_read.specs.whole.Request.{request_at}
use Rattle.request_read.specs.declared.whole.Reading.{Reading}
use Rattle.book_read.specs.Book.{most_money}
use Rattle.settle.specs.Payments.{Payment}
use Rattle.queue.specs.Memory.{wake, forgotten}
use Rattle.queue.specs.Tests.{Outcome, fuel}
use Rattle.queue.specs.Promise.{All}
use Rattle.queue.specs.History.{Event, after_event, replay, tried_events, Tries}
use Rattle.queue.proofs.MemoryLaws.{by_bool}
use Rattle.queue.proofs.Agree.{forgets}
use Rattle.queue.proofs.History.{replay_append, replay_length, test_replays, test_told}
use Rattle.queue.proofs.Promises.{fresh_none}
use Rattle.model.specs.Answers.{Answer}
use Rattle.model.specs.Kinds.{Kind, opens, steps, gives, kind_of, is_close, Own, receives, changes_sublimit, changes_status, nothing, own_of}
use Rattle.model.specs.State.{Batch, Place, free, live, Batches, Known, State, no_batches, no_memory, has_bin, place_at, payments_at, with_place}
use Rattle.model.specs.Messages.{Acted, bank_place, waiting, ended, message}
use Rattle.model.specs.Changes.{sub_limit, has_debit, with_letter, status}
use Rattle.model.specs.Days.{opening_answer}
use Rattle.model.specs.Calls.{Call, Engine, Result, judge, begun, act, woken, tested, left, goes_on, closes, stepped, opened_by, performed, judged, call}
use Rattle.model.specs.Ending.{emptied, after_test}
use Rattle.model.specs.Rules.{Valid, RightMemory}
use Rattle.model.specs.Answered.{acted, outcome}
use Rattle.model.specs.Course.{after}
use Rattle.model.specs.Happened.{accepted, is_anew, anew, acted_events, stepped_events, events_by, history, ByRule, ByRuleIn, TriesByRule}
use Rattle.model.proofs.Truth.{or_false}
use Rattle.model.proofs.Counting.{times, times_all}
use Rattle.model.proofs.Seeking.{by_found, no_times, Waiting, is_waiting}
use Rattle.model.proofs.Standing.{Standing, vacant, building, awaits, stands, Stood, emptied_off, emptied_on}
use Rattle.model.proofs.Doing.{Start, going, begun as begins, Told, idle, alone, repeats, recalls, completes, grows, rejects, did_message}
use Rattle.model.proofs.Moved.{Beside, set_beside, put_beside, ended_beside, same_beside, start_beside}
use Rattle.model.proofs.Placing.{around}
use Rattle.model.proofs.Keeping.{Readers, Kept, begun_stood, acted_stood}
use Rattle.model.proofs.Validity.{valid_kept, call_valid}
use Rattle.model.proofs.Holding.{Holds, begun_held, tested_holds, tested_counts, forgotten_on, forgotten_off, forgotten_long, tested_long, call_memory}

-- ---- queued places are among the 32, and a batch stands there

queued_live : (banks : ℕ) {x : Place} {m n : ℕ} → Standing banks x m n → x ≡ free → n ≡ 0
queued_live banks vacant e = refl
queued_live banks (building r l) e = refl
queued_live banks (awaits r k g) e = refl
queued_live banks (stands r k) e = let z : ◌≡◌ {A = ℕ} 0 1 = cc in absurd (omega arith)

pub queue_below : (banks : ℕ) (b : Batches) → Stood banks b → All (λ p. p < 32) b.queue
queue_below banks b h = times_all (λ p. p < 32) b.queue (λ p k. by_bool (ltb p 32)
    (λ e. ltb-true p 32 e)
    (λ e. absurd (let z = queued_live banks (h.each p) (get_or-eq_default b.places free {n = p} (omega (arith, ltb-false p 32 e, h.long))) in omega arith)))

-- ---- places that begin anew forget, and no other does

anew_same : (x : Place) → is_anew x x ≡ false
anew_same free = refl
anew_same (live b) = refl

module _ (b c : Batches) where
  anew_off : (n : ℕ) (m : List ℕ) (p : ℕ) → (p < n → is_anew (place_at b p) (place_at c p) ≡ false) → get_or (replay (anew n b c) m) p 0 ≡ get_or m p 0
  unfolding anew replay after_event
  anew_off zero m p h = refl
  anew_off (suc n) m p h =
      by_bool (is_anew (place_at b n) (place_at c n))
      (λ e. rw e (get_or-set_other (replay (anew n b c) m) n p 0 0 (λ d. false≢true (sym (h (omega arith)) ∙ rw d e)) ∙ anew_off n m p (λ l. h (omega arith))))
      (λ e. rw e (anew_off n m p (λ l. h (omega arith))))

  anew_on : (n : ℕ) (m : List ℕ) (p : ℕ) → p < n → is_anew (place_at b p) (place_at c p) ≡ true → get_or (replay (anew n b c) m) p 0 ≡ 0
  unfolding anew replay after_event
  anew_on zero m p l h = absurd (omega arith)
  anew_on (suc n) m p l h =
      by_bool (eqb p n)
      (λ f. let d : p ≡ n = eqb-true p n f in
      let e : is_anew (place_at b n) (place_at c n) ≡ true = rw (sym d) h in
      rw (e, d) (forgets (replay (anew n b c) m) n))
      (λ f. let d = eqb-false p n f in
      let r = anew_on n m p (omega arith) h in
      by_bool (is_anew (place_at b n) (place_at c n)) (λ e. rw e (get_or-set_other (replay (anew n b c) m) n p 0 0 d ∙ r)) (λ e. rw e r))

  -- none begins anew
  anew_quiet : (m : List ℕ) → ((p : ℕ) → is_anew (place_at b p) (place_at c p) ≡ false) → replay (anew 32 b c) m ≡ m
  anew_quiet m h = ext_get_or 0 (replay (anew 32 b c) m) m (replay_length (anew 32 b c) m) (λ p l. anew_off 32 m p (λ _. h p))

  -- one place is touched: it begins anew, or nothing was remembered there
  anew_one : (m : List ℕ) (p : ℕ) → length m ≡ 32 → Beside b c p → (is_anew (place_at b p) (place_at c p) ≡ false → get_or m p 0 ≡ 0) → set m p 0 ≡ replay (anew 32 b c) m
  anew_one m p n s h =
      ext_get_or 0 (set m p 0) (replay (anew 32 b c) m) (length-set m p 0 ∙ sym (replay_length (anew 32 b c) m)) (λ i l.
      by_bool (eqb i p)
      (λ f. let d : i ≡ p = eqb-true i p f in
      rw d (forgets m p ∙ sym (by_bool (is_anew (place_at b p) (place_at c p))
      (λ e. anew_on 32 m p (omega (arith, l, d, n, length-set m p 0)) e)
      (λ e. anew_off 32 m p (λ _. e) ∙ h e))))
      (λ f. let d = eqb-false i p f in
      get_or-set_other m p i 0 0 d ∙ sym (anew_off 32 m i (λ _. rw (s i d) (anew_same (place_at b i))))))

-- ---- what an action wakes is what has happened

none_held : (q : List ℕ) (batch : ℕ → List Payment) (m : List ℕ) (p : ℕ) → Holds q batch m → times p q ≡ 0 → get_or m p 0 ≡ 0
none_held q batch m p h z = go (get_or m p 0) refl
  where
    go : (n : ℕ) → get_or m p 0 ≡ n → get_or m p 0 ≡ 0
    go zero e = e
    go (suc k) e = absurd (let i = h p k e in omega (arith, i.0))

emptied_there : (ps : List Place) (p : ℕ) → get_or (set ps p free) p free ≡ free
emptied_there [] p = refl
emptied_there (x ∷ ps) zero = refl
emptied_there (x ∷ ps) (suc p) = emptied_there ps p

ended_anew : (c : Code) (x : Place) → has_bin c x ≡ true → is_anew x free ≡ true
ended_anew c free h = absurd (false≢true h)
ended_anew c (live b) h = refl

letter_quiet : (k x : ℕ) (y : Place) → is_anew y (with_letter k x y) ≡ false
letter_quiet k x free = refl
letter_quiet k x (live b) = refl

module _ (s : State) (h : Stood s.house.banks s.batches) (m : List ℕ) (n : length m ≡ 32) (held : Holds s.batches.queue (payments_at s.batches) m) where
  abbrev By : Acted → List Event → Type 0
  By a es = woken a.wakes m ≡ replay (es ++ anew 32 s.batches a.batches) m

  still : m ≡ replay (anew 32 s.batches s.batches) m
  still = sym (anew_quiet s.batches s.batches m (λ p. anew_same (place_at s.batches p)))

  unqueued : (p : ℕ) → times p s.batches.queue ≡ 0 → get_or m p 0 ≡ 0
  unqueued p z = none_held s.batches.queue (payments_at s.batches) m p held z

  started : (r : Reading) {b : Batches} {k : Known} {p : ℕ} {x : Batch} → Start s r b k p x → times p s.batches.queue ≡ 0
  started r (going i e) = (around s h r (going i e)).unqueued
  started r (begins a u v) = (around s h r (begins a u v)).unqueued

  told_replays : (r : Reading) {a : Acted} → Told s r a → By a []
  unfolding woken ended
  told_replays r (idle _) = still
  told_replays r (alone _ y q w) = still
  told_replays r (repeats p c f i) =
      anew_one s.batches (ended s.batches p) m p n (ended_beside s s.batches p (same_beside s p))
      (λ _. unqueued p (no_times p s.batches.queue (or_false (member p s.batches.pending) (member p s.batches.queue) i.idle).1))
  told_replays r (recalls p f w i) =
      anew_one s.batches (ended s.batches p) m p n (ended_beside s s.batches p (same_beside s p))
      (λ e. absurd (false≢true (sym e ∙ rw (emptied_there s.batches.places p) (ended_anew _ (place_at s.batches p) i.there.yes))))
  told_replays r (completes stream b k p x j d e f) =
      anew_one s.batches _ m p n (put_beside s b p _ (start_beside s r j.start)) (λ _. unqueued p (started r j.start))
  told_replays r (grows stream b k p x j d e) =
      anew_one s.batches _ m p n (put_beside s b p _ (start_beside s r j.start)) (λ _. unqueued p (started r j.start))
  told_replays r (rejects f b k p x j) =
      anew_one s.batches (ended b p) m p n (ended_beside s b p (start_beside s r j.start)) (λ _. unqueued p (started r j.start))

  message_quiet : (sender : ℕ) (q : Answer) → accepted s (receives sender) q ≡ []
  message_quiet sender (Ok tt) = refl
  message_quiet sender (Err r) = refl

  sublimit_replays : (code cents : ℕ) → By (sub_limit s code cents) (accepted s (changes_sublimit code cents) (sub_limit s code cents).answer)
  unfolding sub_limit woken replay after_event
  sublimit_replays code cents =
      by_found (bank_place s.house code)
      (λ k e. by_bool (leb cents most_money) (λ f. rw (e, f) (rw e (ap (map (wake (eqb k))) still))) (λ f. rw (e, f) still))
      (λ e. rw e still)

  letter_replays : (code : ℕ) (bin : Code) (letter : ℕ) → By (status s code bin letter) (accepted s (changes_status code bin letter) (status s code bin letter).answer)
  unfolding status woken replay after_event
  letter_replays code bin letter =
      by_bool (member letter (bytes "ADP"))
      (λ l. by_found (bank_place s.house code)
      (λ k e. by_found (waiting s.batches bin)
      (λ p f. by_bool (has_debit k (payments_at s.batches p))
      (λ d. let x : Place = with_letter k letter (place_at s.batches p) in
      rw (l, e, f, d) (rw f (sym (ap (λ (y : List ℕ). set y p 0) (anew_quiet s.batches (with_place s.batches p x) m (λ q.
      by_bool (eqb q p)
      (λ g. let i : q ≡ p = eqb-true q p g in
      rw i (subst (λ (y : Place). is_anew (place_at s.batches p) y ≡ false) (sym (there p x (is_waiting s.batches bin p f))) (letter_quiet k letter (place_at s.batches p))))
      (λ g. rw (set_beside s.batches.places p x q (eqb-false q p g)) (anew_same (place_at s.batches q)))))))))
      (λ d. rw (l, e, f, d) still))
      (λ f. rw (l, e, f) still))
      (λ e. rw (l, e) still))
      (λ l. rw l still)
    where
      there : (p : ℕ) (x : Place) → Waiting s.batches bin p → get_or (set s.batches.places p x) p free ≡ x
      there p x w = get_or-set_same s.batches.places p x free w.there.inside

  acts : (x : Own) (input : List ℕ) → By (act s x input) (accepted s x (act s x input).answer)
  unfolding act woken
  acts (receives sender) input = rw (message_quiet sender (message s sender (request_at input)).answer) (told_replays (request_at input) (did_message s (request_at input) sender))
  acts (changes_sublimit code cents) input = sublimit_replays code cents
  acts (changes_status code bin letter) input = letter_replays code bin letter
  acts nothing input = still

-- ---- one call

gone_anew : {X : Type 0} (x : Place) → is_anew x free ≡ false → (x ≡ free → X) → X
gone_anew free e h = h refl
gone_anew (live b) e h = absurd (false≢true (sym e))

module _ (readers : Readers) (e : Engine) (c : Call) (v : Valid e.state) (r : RightMemory e.state.batches e.memory) (es : List Event) (h : e.memory ≡ replay es no_memory) where
  abbrev s : State
  s = begun e.state c.asked.clock

  abbrev a : Acted
  a = acted e c

  abbrev o : Outcome
  o = outcome e c

  kept : Kept e.state
  kept = valid_kept e.state v

  acted_stands : Stood s.house.banks a.batches
  acted_stands = acted_stood readers e c kept

  -- after the action
  acted_memory : woken a.wakes e.memory ≡ replay (acted_events e c ++ es) no_memory
  unfolding acted_events
  acted_memory =
      acts s (begun_stood readers e c kept) e.memory r.long (begun_held e c r) (own_of c.asked.action) c.asked.input
      ∙ ap (replay (acted_events e c)) h
      ∙ sym (replay_append (acted_events e c) es no_memory)

  abbrev made : List Event
  made = tried_events c.asked.quick (payments_at a.batches) a.books o.tries

  -- after the test
  tested_memory : o.memory ≡ replay (made ++ (acted_events e c ++ es)) no_memory
  unfolding tested
  tested_memory =
      test_replays c.asked.quick (payments_at a.batches) (fuel a.batches.queue) a.books (woken a.wakes e.memory) a.batches.queue
      ∙ ap (replay made) acted_memory
      ∙ sym (replay_append made (acted_events e c ++ es) no_memory)

  -- the places that the test ended
  left_memory : forgotten o.done o.memory ≡ replay (anew 32 a.batches (left s a o)) o.memory
  unfolding left after_test
  left_memory =
      ext_get_or 0 (forgotten o.done o.memory) (replay (anew 32 a.batches (left s a o)) o.memory)
      (forgotten_long o.done o.memory ∙ sym (replay_length (anew 32 a.batches (left s a o)) o.memory))
      (λ p l. go p (omega (arith, l, forgotten_long o.done o.memory, tested_long e c r)) (times p o.done) refl)
    where
      go : (p : ℕ) → p < 32 → (n : ℕ) → times p o.done ≡ n → get_or (forgotten o.done o.memory) p 0 ≡ get_or (replay (anew 32 a.batches (left s a o)) o.memory) p 0
      go p l zero d =
          forgotten_off o.done o.memory p d
          ∙ sym (anew_off a.batches (left s a o) 32 o.memory p (λ _. rw (emptied_off s.house.banks o.done a.batches.places p d) (anew_same (place_at a.batches p))))
      go p l (suc n) d =
          let f : get_or (emptied o.done a.batches.places) p free ≡ free = emptied_on s.house.banks o.done a.batches.places p (omega arith) in
          forgotten_on o.done o.memory p (omega arith)
          ∙ sym (by_bool (is_anew (place_at a.batches p) (place_at (left s a o) p))
          (λ y. anew_on a.batches (left s a o) 32 o.memory p l y)
          (λ y. gone_anew (place_at a.batches p) (rw f at y) (λ z. absurd (omega (arith, queued_live s.house.banks (acted_stands.each p) z, tested_counts e c r p)))))

  -- the close ends all
  closed_memory : no_memory ≡ replay (anew 32 a.batches no_batches) o.memory
  closed_memory =
      ext_get_or 0 no_memory (replay (anew 32 a.batches no_batches) o.memory) (sym (tested_long e c r) ∙ sym (replay_length (anew 32 a.batches no_batches) o.memory))
      (λ p l. fresh_none p ∙ sym (by_bool (is_anew (place_at a.batches p) (place_at no_batches p))
      (λ y. anew_on a.batches no_batches 32 o.memory p l y)
      (λ y. anew_off a.batches no_batches 32 o.memory p (λ _. y)
      ∙ gone_anew (place_at a.batches p) (rw (none_there 32 p) at y) (λ z.
      none_held a.batches.queue (payments_at a.batches) o.memory p (tested_holds e c r) (queued_live s.house.banks (acted_stands.each p) z)))))
    where
      none_there : (n p : ℕ) → get_or (replicate n free) p free ≡ free
      none_there zero p = refl
      none_there (suc n) zero = refl
      none_there (suc n) (suc p) = none_there n p

  parted : (xs : List Event) → replay xs (replay (made ++ (acted_events e c ++ es)) no_memory) ≡ replay ((xs ++ (made ++ acted_events e c)) ++ es) no_memory
  parted xs =
      ap (replay xs) (replay_append made (acted_events e c ++ es) no_memory ∙ ap (replay made) (replay_append (acted_events e c) es no_memory))
      ∙ sym (replay_append (xs ++ (made ++ acted_events e c)) es no_memory
      ∙ replay_append xs (made ++ acted_events e c) (replay es no_memory)
      ∙ ap (replay xs) (replay_append made (acted_events e c) (replay es no_memory)))

  abbrev Told-by : Result → Type 0
  Told-by x = x.engine.memory ≡ replay (stepped_events e c x ++ es) no_memory

  ends_memory : (t : Bool) → Told-by (cond t (closes s a o) (goes_on s a o))
  unfolding closes goes_on
  ends_memory true = closed_memory ∙ ap (replay (anew 32 a.batches no_batches)) tested_memory ∙ parted (anew 32 a.batches no_batches)
  ends_memory false = left_memory ∙ ap (replay (anew 32 a.batches (left s a o))) tested_memory ∙ parted (anew 32 a.batches (left s a o))

  stepped_memory : Told-by (stepped e c)
  unfolding stepped
  stepped_memory = ends_memory (is_close c.asked.action)

  opened_memory : (q : Answer) → (opened_by q e c).engine.memory ≡ replay es no_memory
  opened_memory (Ok tt) = h
  opened_memory (Err q) = h

  performed_memory : (z : Kind) → (performed z e c).engine.memory ≡ replay (events_by e c (Ok tt) z (performed z e c) ++ es) no_memory
  performed_memory opens = opened_memory (opening_answer e.state.day c.asked.input)
  performed_memory steps = stepped_memory
  performed_memory (gives d) = h

  judged_memory : (j : Answer) → (judged j e c).engine.memory ≡ replay (events_by e c j (kind_of c.asked.action) (judged j e c) ++ es) no_memory
  judged_memory (Ok tt) = performed_memory (kind_of c.asked.action)
  judged_memory (Err q) = h

  call_history : (call e c).engine.memory ≡ replay (events_by e c (judge e.state c) (kind_of c.asked.action) (call e c) ++ es) no_memory
  unfolding call
  call_history = judged_memory (judge e.state c)

  -- the tries of the call
  tested_by_rule : Tries c.asked.quick (payments_at a.batches) (acted_events e c ++ es) a.books [] a.batches.queue false o.tries o.books o.queue
  unfolding tested
  tested_by_rule =
      test_told c.asked.quick (payments_at a.batches) no_memory fresh_none (fuel a.batches.queue) a.books (woken a.wakes e.memory)
      (acted_events e c ++ es) a.batches.queue (omega arith) acted_memory (queue_below s.house.banks a.batches acted_stands)

  ends_by_rule : (t : Bool) → TriesByRule e es c (cond t (closes s a o) (goes_on s a o))
  unfolding closes goes_on
  ends_by_rule true = record { queue = o.queue; tries = tested_by_rule }
  ends_by_rule false = record { queue = o.queue; tries = tested_by_rule }

  stepped_by_rule : TriesByRule e es c (stepped e c)
  unfolding stepped
  stepped_by_rule = ends_by_rule (is_close c.asked.action)

  opened_untried : (q : Answer) → (opened_by q e c).tries ≡ []
  opened_untried (Ok tt) = refl
  opened_untried (Err q) = refl

  performed_by_rule : (z : Kind) → ByRuleIn (Ok tt) z e es c (performed z e c)
  performed_by_rule opens = opened_untried (opening_answer e.state.day c.asked.input)
  performed_by_rule steps = stepped_by_rule
  performed_by_rule (gives d) = refl

  judged_by_rule : (j : Answer) → ByRuleIn j (kind_of c.asked.action) e es c (judged j e c)
  judged_by_rule (Ok tt) = performed_by_rule (kind_of c.asked.action)
  judged_by_rule (Err q) = refl

  pub call_by_rule : ByRule e es c (call e c)
  unfolding call
  call_by_rule = judged_by_rule (judge e.state c)

-- ---- any calls

pub after_memory : (readers : Readers) (cs : List Call) (e : Engine) (es : List Event) → Valid e.state → RightMemory e.state.batches e.memory → e.memory ≡ replay es no_memory
    → (after call e cs).memory ≡ replay (history e es cs) no_memory
unfolding after history
after_memory readers [] e es v r h = h
after_memory readers (c ∷ cs) e es v r h =
    after_memory readers cs (call e c).engine (events_by e c (judge e.state c) (kind_of c.asked.action) (call e c) ++ es)
    (call_valid readers e c v) (call_memory e c r) (call_history readers e c v r es h)
