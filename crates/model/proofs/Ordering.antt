-- What waits after a call waits in its order, and nothing is tried before its minute.
use Rattle.std.specs.Prelude.{Ok, Err}
use Prim.Native.Nat.{ℕ, zero, suc, ◌+◌, ◌*◌, ◌≤◌, ◌<◌}
use mathlib.Core.Path.{◌≡◌, refl, sym, ap, ◌∙◌}
use mathlib.Core.Bool.{Bool, true, false, ◌&&◌, ◌||◌, not, cond, false≢true}
use mathlib.Core.List.{List, [], ◌∷◌, ◌++◌, append-nil}
use native.Mathlib.Omega.{arith}
use lib.Dec.{eqb, leb, ltb}
use lib.ListN.{length, get_or, set, replicate}
use lib.Seq.{get_or-set_same}
use borrow.Author.Tests.{eqb-true, eqb-false, leb-true, le-leb, ne_eqb, not-true}
use Rattle.chars.specs.Words.{member}
use Rattle.clock.specs.Clock.{seconds_of_day, minutes_of_day, has_begun}
use Rattle.request_read.specs.declared.terms.Activation.{Activation}
use Rattle.request_read.specs.declared.terms.Activation.TheVariants.{AtOnce, Minute}
use Rattle.request_read.specs.whole.Request.{request_at}
use Rattle.request_read.specs.declared.whole.Reading.{Reading}
use Rattle.queue.specs.Tests.{Outcome, fuel}
use Rattle.queue.proofs.MemoryLaws.{by_bool}
use Rattle.chars.specs.declared.Refusal.TheVariants.{WrongMoment, ShortBuffer}
use Rattle.model.specs.Answers.{Answer}
use Rattle.model.specs.declared.Phase.{Phase}
use Rattle.model.specs.declared.Phase.TheVariants.{Fresh, Open, Closed}
use Rattle.model.specs.Kinds.{Kind, opens, steps, gives, kind_of, is_opens, is_opening, is_close, own_of}
use Rattle.model.specs.State.{payments_at, Batch, Place, free, live, Batches, Known, State, is_free, on_live, place_at, no_batches, with_place}
use Rattle.model.specs.Joining.{minute_of, place_minute, keep, by_time, time, is_due, join}
use Rattle.model.specs.Messages.{Acted, waits, is_complete, ended, may_queue, to_tail, with_message}
use Rattle.model.specs.Changes.{with_letter}
use Rattle.model.specs.Ending.{after_test}
use Rattle.model.specs.Calls.{Call, Engine, is_open, is_closed, right_day, day_for, room_needed, rows_needed, judge, begun, tested, woken, left, goes_on, closes, stepped, opened_by, performed, judged, call, cleared}
use Rattle.model.specs.Days.{opened, opening_answer}
use Rattle.model.specs.Answered.{acted, outcome}
use Rattle.model.specs.Rules.{RightMinute, Valid}
use Rattle.model.specs.Waiting.{all_places, is_live, is_new, has_started, joined_in, completed_now, OrderKept, Resting, OrderedBy, Ordered}
use Rattle.model.proofs.Truth.{or_right, and_true}
use Rattle.model.proofs.Refusals.{not_done}
use Rattle.model.proofs.Agreement.{right_day_lem}
use Rattle.model.proofs.Keeping.{Readers, Kept, begun_stood, acted_stood}
use Rattle.model.proofs.Validity.{valid_kept}
use Rattle.model.proofs.Counting.{times, times_append, times_other, times_by_time, no_member, a_member, times_all, times_once}
use Rattle.model.proofs.Standing.{Standing, vacant, building, awaits, stands, Stood, at_most_once, emptied_off, emptied_on}
use Rattle.model.proofs.Doing.{Start, going, begun as begins, Told, Did, sent, idle, sublimits, letters, alone, repeats, recalls, completes, grows, rejects, did}
use Rattle.model.proofs.Moved.{Beside, set_beside, put_beside, same_beside, start_beside}
use Rattle.model.proofs.Placing.{around}
use Rattle.model.proofs.Settling.{test_times}
use Rattle.model.proofs.Keeps.{keep_same, keep_all, keep_none, keep_keep, kept_in, keep_one, test_kept, test_tried}
use Rattle.model.proofs.Minutes.{by_minutes}

-- ---- (b) joining

minute_small : (a : Activation) → RightMinute a → minute_of a < minutes_of_day
minute_small AtOnce h = omega arith
minute_small (Minute m) h = h

right_minute : (banks : ℕ) {x : Place} {m n : ℕ} → Standing banks x m n → place_minute x < minutes_of_day
right_minute banks vacant = omega arith
right_minute banks (building {b = b} r l) = minute_small b.activation r.minute
right_minute banks (awaits {b = b} r k g) = minute_small b.activation r.minute
right_minute banks (stands {b = b} r k) = minute_small b.activation r.minute

joined_queue : (clock banks : ℕ) (b : Batches) → Stood banks b → (join clock b).queue ≡ b.queue ++ joined_in clock b
unfolding join joined_in
joined_queue clock banks b h =
    ap (λ (l : List ℕ). b.queue ++ l)
    (by_minutes (time clock b) minutes_of_day (keep (is_due clock b) b.pending)
    (times_all (λ p. time clock b p < minutes_of_day) (keep (is_due clock b) b.pending) (λ p i. right_minute banks (h.each p))))

-- ---- batches that are new

and_none : (x : Bool) → (x && false) ≡ false
and_none true = refl
and_none false = refl

-- a batch that stands and does not wait lacks a number
not_new : (banks : ℕ) {x : Place} {m n : ℕ} (w : Bool) → Standing banks x m n → (0 < m + n → w ≡ true) → (on_live x false is_complete && not w) ≡ false
not_new banks w vacant f = refl
not_new banks w (building {b = b} r l) f = rw (ne_eqb (length b.messages) b.count (λ e. omega arith)) refl
not_new banks w (awaits {b = b} r k g) f = rw (f (omega arith)) (and_none (is_complete b))
not_new banks w (stands {b = b} r k) f = rw (f (omega arith)) (and_none (is_complete b))

waits_some : (b : Batches) (p : ℕ) → 0 < times p b.pending + times p b.queue → waits b p ≡ true
waits_some b p h = go (times p b.pending) refl
  where
    go : (m : ℕ) → times p b.pending ≡ m → waits b p ≡ true
    go zero e = or_right (member p b.pending) (member p b.queue) (a_member p b.queue (omega arith))
    go (suc m) e = rw (a_member p b.pending (omega arith)) refl

module _ (s : State) (h : Stood s.house.banks s.batches) where
  old_place : (c : Batches) (p : ℕ) → place_at c p ≡ place_at s.batches p → is_new s.batches c p ≡ false
  old_place c p e = rw e (not_new s.house.banks (waits s.batches p) (h.each p) (waits_some s.batches p))

  free_place : (c : Batches) (p : ℕ) → place_at c p ≡ free → is_new s.batches c p ≡ false
  free_place c p e = rw e refl

  -- no batch is new where all places but one are as before, and that one holds none that is complete and did not wait
  none_new : (c : Batches) (p : ℕ) → Beside s.batches c p → is_new s.batches c p ≡ false → keep (is_new s.batches c) all_places ≡ []
  none_new c p b n =
      keep_none (is_new s.batches c) all_places (λ q i.
      by_bool (eqb q p) (λ e. rw (eqb-true q p e) n) (λ e. old_place c q (b q (eqb-false q p e))))

  -- ---- the orders that an action leaves, as far as batches stand in the end

  module _ (alive : ℕ → Bool) where
    record Order (a : Acted) : Type 0 where
      queue : keep alive a.batches.queue
          ≡ keep alive (s.batches.queue ++ keep (has_started s.day.clock a.batches) (keep (is_new s.batches a.batches) all_places))
      pending : keep alive a.batches.pending
          ≡ keep alive (s.batches.pending ++ keep (λ p. not (has_started s.day.clock a.batches p)) (keep (is_new s.batches a.batches) all_places))

    with_none : (f : ℕ → Bool) (l news : List ℕ) → news ≡ [] → keep alive (l ++ keep f news) ≡ keep alive l
    unfolding keep
    with_none f l news e = rw e (ap (keep alive) (append-nil l))

    quiet : (a : Acted) → keep (is_new s.batches a.batches) all_places ≡ [] → keep alive a.batches.queue ≡ keep alive s.batches.queue
        → keep alive a.batches.pending ≡ keep alive s.batches.pending → Order a
    quiet a n q w = record {
      queue = q ∙ sym (with_none (has_started s.day.clock a.batches) s.batches.queue (keep (is_new s.batches a.batches) all_places) n);
      pending = w ∙ sym (with_none (λ p. not (has_started s.day.clock a.batches p)) s.batches.pending (keep (is_new s.batches a.batches) all_places) n);
    }

    still : (a : Acted) → a.batches ≡ s.batches → Order a
    still a e =
        quiet a (keep_none (is_new s.batches a.batches) all_places (λ q i. old_place a.batches q (ap (λ (b : Batches). place_at b q) e)))
        (ap (λ (b : Batches). keep alive b.queue) e) (ap (λ (b : Batches). keep alive b.pending) e)

    without : (p : ℕ) (l : List ℕ) → alive p ≡ false → keep alive (keep (λ q. not (eqb q p)) l) ≡ keep alive l
    without p l d =
        keep_keep alive (λ q. not (eqb q p)) l
        ∙ keep_same (λ q. not (eqb q p) && alive q) alive l (λ q i. by_bool (eqb q p) (λ e. rw e (sym (ap alive (eqb-true q p e) ∙ d))) (λ e. rw e refl))

    emptied_there : (ps : List Place) (p : ℕ) → get_or (set ps p free) p free ≡ free
    emptied_there [] p = refl
    emptied_there (x ∷ ps) zero = refl
    emptied_there (x ∷ ps) (suc p) = emptied_there ps p

    gone : (a : Acted) (b : Batches) (p : ℕ) → a.batches ≡ ended b p → b.queue ≡ s.batches.queue → b.pending ≡ s.batches.pending → Beside s.batches b p
        → ((q : ℕ) → place_at a.batches q ≡ free → alive q ≡ false) → Order a
    unfolding ended
    gone a b p e q w i dead =
        let f : place_at a.batches p ≡ free = ap (λ (x : Batches). place_at x p) e ∙ emptied_there b.places p in
        quiet a
        (none_new a.batches p (λ x n. ap (λ (y : Batches). place_at y x) e ∙ set_beside b.places p free x n ∙ i x n) (free_place a.batches p f))
        (ap (λ (x : Batches). keep alive x.queue) e ∙ without p b.queue (dead p f) ∙ ap (keep alive) q)
        (ap (λ (x : Batches). keep alive x.pending) e ∙ without p b.pending (dead p f) ∙ ap (keep alive) w)

    start_queue : (r : Reading) {b : Batches} {k : Known} {p : ℕ} {x : Batch} → Start s r b k p x → (b.queue ≡ s.batches.queue) × (b.pending ≡ s.batches.pending)
    start_queue r (going a e) = (refl, refl)
    start_queue r (begins a u v) = (refl, refl)

    -- the place of the batch that a message joins does not wait
    unwaiting : (r : Reading) {b : Batches} {k : Known} {p : ℕ} {x : Batch} → Start s r b k p x → waits s.batches p ≡ false
    unwaiting r {b} {k} {p} j =
        let a = around s h r j in
        let q = start_queue r j in
        rw (no_member p s.batches.pending (ap (times p) (sym q.1) ∙ a.unheld), no_member p s.batches.queue (ap (times p) (sym q.0) ∙ a.unqueued)) refl

    started : (r : Reading) (a : Activation) → has_begun s.day.clock (minute_of a) ≡ may_queue s r a
    unfolding has_begun
    started r AtOnce = le-leb 0 s.day.clock (omega arith)
    started r (Minute m) = refl

    single : (f : ℕ → Bool) (p : ℕ) → f p ≡ true → keep f (p ∷ []) ≡ p ∷ []
    unfolding keep
    single f p e = rw e refl

    no_single : (f : ℕ → Bool) (p : ℕ) → f p ≡ false → keep f (p ∷ []) ≡ []
    unfolding keep
    no_single f p e = rw e refl

    module _ (r : Reading) (b : Batches) (y : Batch) (p : ℕ) where
      queue_yes : may_queue s r y.activation ≡ true → (to_tail s r b y p).queue ≡ b.queue ++ (p ∷ [])
      queue_yes m = rw m refl

      pending_yes : may_queue s r y.activation ≡ true → (to_tail s r b y p).pending ≡ b.pending
      pending_yes m = rw m refl

      queue_no : may_queue s r y.activation ≡ false → (to_tail s r b y p).queue ≡ b.queue
      queue_no m = rw m refl

      pending_no : may_queue s r y.activation ≡ false → (to_tail s r b y p).pending ≡ b.pending ++ (p ∷ [])
      pending_no m = rw m refl

    -- a batch that is complete now
    tail : (r : Reading) (b : Batches) (k : Known) (p : ℕ) (x y : Batch) → Start s r b k p x → is_complete y ≡ true → (a : Acted) → a.batches ≡ to_tail s r b y p → Order a
    tail r b k p x y j c a e =
        let ar = around s h r j in
        let there : place_at a.batches p ≡ live y = ap (λ (z : Batches). place_at z p) e ∙ get_or-set_same b.places p (live y) free (omega (arith, ar.long, ar.inside)) in
        let new : keep (is_new s.batches a.batches) all_places ≡ p ∷ [] =
        keep_one (is_new s.batches a.batches) p 0 32 (omega arith) (omega (arith, ar.inside)) (rw (there, c, unwaiting r j) refl)
        (λ q n. old_place a.batches q (ap (λ (z : Batches). place_at z q) e ∙ set_beside b.places p (live y) q n ∙ start_beside s r j q n)) in
        let t : has_started s.day.clock a.batches p ≡ may_queue s r y.activation = rw there (started r y.activation) in
        let q = start_queue r j in
        let f : ℕ → Bool = has_started s.day.clock a.batches in
        by_bool (may_queue s r y.activation)
        (λ m. record {
          queue = ap (λ (z : Batches). keep alive z.queue) e ∙ ap (keep alive) (queue_yes r b y p m ∙ ap (λ (l : List ℕ). l ++ (p ∷ [])) q.0)
              ∙ sym (ap (λ (l : List ℕ). keep alive (s.batches.queue ++ l)) (ap (keep f) new ∙ single f p (t ∙ m)));
          pending = ap (λ (z : Batches). keep alive z.pending) e ∙ ap (keep alive) (pending_yes r b y p m ∙ q.1)
              ∙ sym (ap (λ (l : List ℕ). keep alive (s.batches.pending ++ l)) (ap (keep (λ x. not (f x))) new ∙ no_single (λ x. not (f x)) p (ap not (t ∙ m))) ∙ ap (keep alive) (append-nil s.batches.pending));
        })
        (λ m. record {
          queue = ap (λ (z : Batches). keep alive z.queue) e ∙ ap (keep alive) (queue_no r b y p m ∙ q.0)
              ∙ sym (ap (λ (l : List ℕ). keep alive (s.batches.queue ++ l)) (ap (keep f) new ∙ no_single f p (t ∙ m)) ∙ ap (keep alive) (append-nil s.batches.queue));
          pending = ap (λ (z : Batches). keep alive z.pending) e ∙ ap (keep alive) (pending_no r b y p m ∙ ap (λ (l : List ℕ). l ++ (p ∷ [])) q.1)
              ∙ sym (ap (λ (l : List ℕ). keep alive (s.batches.pending ++ l)) (ap (keep (λ x. not (f x))) new ∙ single (λ x. not (f x)) p (ap not (t ∙ m))));
        })

    told_order : (r : Reading) {a : Acted} → Told s r a → ((q : ℕ) → place_at a.batches q ≡ free → alive q ≡ false) → Order a
    told_order r (idle n) dead = still _ refl
    told_order r (alone n y q w) dead = still _ refl
    told_order r (repeats p c f i) dead = gone _ s.batches p refl refl refl (same_beside s p) dead
    told_order r (recalls p f n w) dead = gone _ s.batches p refl refl refl (same_beside s p) dead
    told_order r (completes stream b k p x j d e f) dead = tail r b k p x (with_message s r x) j.start e _ refl
    told_order r (grows stream b k p x j d e) dead =
        let q = start_queue r j.start in
        let ar = around s h r j.start in
        quiet _
        (none_new (with_place b p (live (with_message s r x))) p (put_beside s b p (live (with_message s r x)) (start_beside s r j.start))
        (rw (get_or-set_same b.places p (live (with_message s r x)) free (omega (arith, ar.long, ar.inside)), e) refl))
        (ap (keep alive) q.0) (ap (keep alive) q.1)
    told_order r (rejects f b k p x j) dead = let q = start_queue r j.start in gone _ b p refl q.0 q.1 (start_beside s r j.start) dead

    did_order : (r : Reading) {a : Acted} → Did s r a → ((q : ℕ) → place_at a.batches q ≡ free → alive q ≡ false) → Order a
    did_order r (sent t) dead = told_order r t dead
    did_order r (sublimits k v b l) dead = still _ refl
    did_order r (letters k x p c m w) dead =
        quiet _
        (none_new (with_place s.batches p (with_letter k x (place_at s.batches p))) p (put_beside s s.batches p (with_letter k x (place_at s.batches p)) (same_beside s p))
        (rw w.busy (and_none (on_live (place_at (with_place s.batches p (with_letter k x (place_at s.batches p))) p) false is_complete))))
        refl refl

-- ---- minutes that have begun

letter_minute : (k x : ℕ) (y : Place) → place_minute (with_letter k x y) ≡ place_minute y
letter_minute k x free = refl
letter_minute k x (live b) = refl

begun_later : (now then minute : ℕ) → now ≤ then → has_begun now minute ≡ true → has_begun then minute ≡ true
unfolding has_begun
begun_later now then minute l h = le-leb (60 * minute) then (omega (arith, leb-true (60 * minute) now h))

-- each queued batch's minute has begun
abbrev pub Started : ℕ → Batches → Type 0
Started clock b = (p : ℕ) → 0 < times p b.queue → has_started clock b p ≡ true

join_started : (clock now : ℕ) (b : Batches) → now ≤ clock → Started now b → Started clock (join clock b)
unfolding join times
join_started clock now b l h p i = go (times p b.queue) refl
  where
    go : (n : ℕ) → times p b.queue ≡ n → has_started clock b p ≡ true
    go (suc n) e = begun_later now clock (place_minute (place_at b p)) l (h p (omega arith))
    go zero e =
        (kept_in (is_due clock b) p b.pending
        (omega (arith, e, i, times_append p b.queue (by_time (time clock b) [] (keep (is_due clock b) b.pending)), times_by_time (time clock b) p [] (keep (is_due clock b) b.pending)))).0

module _ (s : State) (h : Stood s.house.banks s.batches) (g : Started s.day.clock s.batches) where
  -- a queued place that is as it was, but for letters
  as_before : (c : Batches) (p : ℕ) → place_minute (place_at c p) ≡ place_minute (place_at s.batches p) → 0 < times p s.batches.queue → has_started s.day.clock c p ≡ true
  as_before c p e i = rw e (g p i)

  start_same : (r : Reading) {b : Batches} {k : Known} {p : ℕ} {x : Batch} → Start s r b k p x → b.queue ≡ s.batches.queue
  start_same r (going a e) = refl
  start_same r (begins a u v) = refl

  beside_started : (b c : Batches) (p q : ℕ) → b.queue ≡ s.batches.queue → Beside s.batches c p → times p b.queue ≡ 0 → 0 < times q b.queue → has_started s.day.clock c q ≡ true
  beside_started b c p q e d z i =
      let n : q ≡ p → ⊥ = (λ w. absurd (omega (arith, i, z, ap (λ (x : ℕ). times x b.queue) w))) in
      as_before c q (ap place_minute (d q n)) (rw (sym e) i)

  ended_started : (b : Batches) (p : ℕ) → b.queue ≡ s.batches.queue → Beside s.batches b p → Started s.day.clock (ended b p)
  unfolding ended
  ended_started b p e d q i =
      let k = kept_in (λ x. not (eqb x p)) q b.queue i in
      let n : q ≡ p → ⊥ = eqb-false q p (not_not (eqb q p) k.0) in
      as_before (ended b p) q (ap place_minute (set_beside b.places p free q n ∙ d q n)) (rw (sym e) k.1)
    where
      not_not : (x : Bool) → not x ≡ true → x ≡ false
      not_not true w = absurd (false≢true w)
      not_not false w = refl

  begins_now : (t : Reading) (a : Activation) → may_queue s t a ≡ true → has_begun s.day.clock (minute_of a) ≡ true
  unfolding has_begun
  begins_now t AtOnce e = le-leb 0 s.day.clock (omega arith)
  begins_now t (Minute m) e = e

  tail_started : (r : Reading) {b : Batches} {k : Known} {p : ℕ} {x : Batch} (y : Batch) → Start s r b k p x → Started s.day.clock (to_tail s r b y p)
  unfolding times
  tail_started r {b} {k} {p} y j q i =
      let ar = around s h r j in
      let there : get_or (set b.places p (live y)) p free ≡ live y = get_or-set_same b.places p (live y) free (omega (arith, ar.long, ar.inside)) in
      let d : Beside s.batches (to_tail s r b y p) p = put_beside s b p (live y) (start_beside s r j) in
      by_bool (may_queue s r y.activation)
      (λ m. by_bool (eqb q p)
      (λ w. rw (eqb-true q p w, there) (begins_now r y.activation m))
      (λ w. beside_started b (to_tail s r b y p) p q (start_same r j) d ar.unqueued (omega (arith, times_other q p b.queue (eqb-false q p w), rw m at i))))
      (λ m. beside_started b (to_tail s r b y p) p q (start_same r j) d ar.unqueued (rw m at i))

  told_started : (r : Reading) {a : Acted} → Told s r a → Started s.day.clock a.batches
  told_started r (idle n) = g
  told_started r (alone n y q w) = g
  told_started r (repeats p c f i) = ended_started s.batches p refl (same_beside s p)
  told_started r (recalls p f n w) = ended_started s.batches p refl (same_beside s p)
  told_started r (completes stream b k p x j d e f) = tail_started r (with_message s r x) j.start
  told_started r (grows stream b k p x j d e) =
      λ q i. beside_started b (with_place b p (live (with_message s r x))) p q (start_same r j.start) (put_beside s b p (live (with_message s r x)) (start_beside s r j.start)) (around s h r j.start).unqueued i
  told_started r (rejects f b k p x j) = ended_started b p (start_same r j.start) (start_beside s r j.start)

  did_started : (r : Reading) {a : Acted} → Did s r a → Started s.day.clock a.batches
  did_started r (sent t) = told_started r t
  did_started r (sublimits k v b l) = g
  did_started r (letters k x p c m w) =
      λ q i. as_before (with_place s.batches p (with_letter k x (place_at s.batches p))) q
      (by_bool (eqb q p)
      (λ e. let z : q ≡ p = eqb-true q p e in
      rw z (ap place_minute (get_or-set_same s.batches.places p (with_letter k x (place_at s.batches p)) free w.there.inside) ∙ letter_minute k x (place_at s.batches p)))
      (λ e. ap place_minute (set_beside s.batches.places p (with_letter k x (place_at s.batches p)) q (eqb-false q p e)))) i

-- ---- one call

queued_live : (banks : ℕ) {x : Place} {m n : ℕ} → Standing banks x m n → 0 < m + n → not (is_free x) ≡ true
queued_live banks vacant i = absurd (omega arith)
queued_live banks (building r l) i = absurd (omega arith)
queued_live banks (awaits r k g) i = refl
queued_live banks (stands r k) i = refl

not_early : (s : State) (c : Call) → judge s c ≡ Ok tt → kind_of c.asked.action ≡ steps → s.day.clock ≤ c.asked.clock
unfolding judge
not_early s c h k = go (ltb c.asked.clock seconds_of_day) (is_opening c.asked.action) (leb s.day.clock c.asked.clock) (right_day c.asked.action s.day) (ap is_opens k) refl h
  where
    go : (t o l v : Bool) → o ≡ false → leb s.day.clock c.asked.clock ≡ l
        → ◌≡◌ {A = Answer} (cond ((t && (o || l)) && v) (cond (leb (room_needed c.asked.action s) c.room && leb rows_needed c.rows) (Ok tt) (Err ShortBuffer)) (Err WrongMoment)) (Ok tt)
        → s.day.clock ≤ c.asked.clock
    go true false true v e f d = leb-true s.day.clock c.asked.clock f
    go true false false v e f d = not_done (sym d)
    go true true l v e f d = absurd (false≢true (sym e))
    go false o l v e f d = not_done (sym d)

module _ (readers : Readers) (e : Engine) (c : Call) (v : Valid e.state) (g : Started e.state.day.clock e.state.batches) where
  abbrev s : State
  s = begun e.state c.asked.clock

  abbrev a : Acted
  a = acted e c

  abbrev o : Outcome
  o = outcome e c

  kept : Kept e.state
  kept = valid_kept e.state v

  h : Stood s.house.banks s.batches
  h = begun_stood readers e c kept

  acted_stands : Stood s.house.banks a.batches
  acted_stands = acted_stood readers e c kept

  counts : (p : ℕ) → times p o.queue + times p o.done ≡ times p a.batches.queue
  unfolding tested
  counts p = test_times c.asked.quick (payments_at a.batches) (fuel a.batches.queue) p a.books (woken a.wakes e.memory) a.batches.queue

  begun_queue : s.batches.queue ≡ e.state.batches.queue ++ joined_in c.asked.clock e.state.batches
  unfolding begun
  begun_queue = joined_queue c.asked.clock e.state.house.banks e.state.batches kept.batches

  begun_pending : s.batches.pending ≡ keep (λ p. not (is_due c.asked.clock e.state.batches p)) e.state.batches.pending
  unfolding begun join
  begun_pending = refl

  module _ (end : Batches) (dead : (q : ℕ) → place_at a.batches q ≡ free → is_live end q ≡ false) where
    acted_order : Order s h (is_live end) a
    acted_order = did_order s h (is_live end) (request_at c.asked.input) (did s (own_of c.asked.action) c.asked.input) dead

    in_queue : keep (is_live end) a.batches.queue
        ≡ keep (is_live end) ((e.state.batches.queue ++ joined_in c.asked.clock e.state.batches) ++ keep (has_started c.asked.clock a.batches) (completed_now e c))
    unfolding completed_now begun
    in_queue = acted_order.queue ∙ ap (λ (l : List ℕ). keep (is_live end) (l ++ keep (has_started c.asked.clock a.batches) (completed_now e c))) begun_queue

    in_pending : keep (is_live end) a.batches.pending
        ≡ keep (is_live end) (keep (λ p. not (is_due c.asked.clock e.state.batches p)) e.state.batches.pending ++ keep (λ p. not (has_started c.asked.clock a.batches p)) (completed_now e c))
    unfolding completed_now begun
    in_pending = acted_order.pending ∙ ap (λ (l : List ℕ). keep (is_live end) (l ++ keep (λ p. not (has_started c.asked.clock a.batches p)) (completed_now e c))) begun_pending

  -- after the test
  left_place : (p : ℕ) → times p o.done ≡ 0 → place_at (left s a o) p ≡ place_at a.batches p
  unfolding left after_test
  left_place p d = emptied_off s.house.banks o.done a.batches.places p d

  left_free : (p : ℕ) → 0 < times p o.done → place_at (left s a o) p ≡ free
  unfolding left after_test
  left_free p d = emptied_on s.house.banks o.done a.batches.places p d

  left_dead : (q : ℕ) → place_at a.batches q ≡ free → is_live (left s a o) q ≡ false
  left_dead q f = go (times q o.done) refl
    where
      go : (n : ℕ) → times q o.done ≡ n → is_live (left s a o) q ≡ false
      go zero d = rw (left_place q d ∙ f) refl
      go (suc n) d = rw (left_free q (omega arith)) refl

  left_queue : o.queue ≡ keep (is_live (left s a o)) a.batches.queue
  unfolding tested
  left_queue =
      test_kept c.asked.quick (payments_at a.batches) (fuel a.batches.queue) a.books (woken a.wakes e.memory) a.batches.queue
      (times_once a.batches.queue (λ p. omega (arith, at_most_once s.house.banks (acted_stands.each p))))
      ∙ keep_same (λ p. not (member p o.done)) (is_live (left s a o)) a.batches.queue (λ p i. go p i (times p o.done) refl)
    where
      go : (p : ℕ) → 0 < times p a.batches.queue → (n : ℕ) → times p o.done ≡ n → not (member p o.done) ≡ is_live (left s a o) p
      go p i zero d = ap not (no_member p o.done d) ∙ sym (rw (left_place p d) (queued_live s.house.banks (acted_stands.each p) (omega arith)))
      go p i (suc n) d = ap not (a_member p o.done (omega arith)) ∙ sym (rw (left_free p (omega arith)) refl)

  left_pending : a.batches.pending ≡ keep (is_live (left s a o)) a.batches.pending
  left_pending =
      sym (keep_all (is_live (left s a o)) a.batches.pending (λ p i.
      rw (left_place p (omega (arith, counts p, at_most_once s.house.banks (acted_stands.each p)))) (queued_live s.house.banks (acted_stands.each p) (omega arith))))

  none_there : (n p : ℕ) → get_or (replicate n free) p free ≡ free
  none_there zero p = refl
  none_there (suc n) zero = refl
  none_there (suc n) (suc p) = none_there n p

  none_lives : (p : ℕ) → is_live no_batches p ≡ false
  none_lives p = rw (none_there 32 p) refl

  acted_started : kind_of c.asked.action ≡ steps → judge e.state c ≡ Ok tt → Started c.asked.clock a.batches
  unfolding begun
  acted_started k j =
      did_started s h (join_started c.asked.clock e.state.day.clock e.state.batches (not_early e.state c j k) g)
      (request_at c.asked.input) (did s (own_of c.asked.action) c.asked.input)

  ends_ordered : (t : Bool) → kind_of c.asked.action ≡ steps → judge e.state c ≡ Ok tt → OrderKept e c (cond t (closes s a o) (goes_on s a o))
  unfolding closes goes_on tested left after_test
  ends_ordered true k j = record {
    queue = sym (keep_none (is_live no_batches) a.batches.queue (λ p i. none_lives p)) ∙ in_queue no_batches (λ q f. none_lives q);
    pending = sym (keep_none (is_live no_batches) a.batches.pending (λ p i. none_lives p)) ∙ in_pending no_batches (λ q f. none_lives q);
    timely = test_tried c.asked.quick (payments_at a.batches) (λ p. has_started c.asked.clock a.batches p ≡ true) (fuel a.batches.queue) a.books (woken a.wakes e.memory) a.batches.queue
        (times_all (λ p. has_started c.asked.clock a.batches p ≡ true) a.batches.queue (acted_started k j));
  }
  ends_ordered false k j = record {
    queue = left_queue ∙ in_queue (left s a o) left_dead;
    pending = left_pending ∙ in_pending (left s a o) left_dead;
    timely = test_tried c.asked.quick (payments_at a.batches) (λ p. has_started c.asked.clock a.batches p ≡ true) (fuel a.batches.queue) a.books (woken a.wakes e.memory) a.batches.queue
        (times_all (λ p. has_started c.asked.clock a.batches p ≡ true) a.batches.queue (acted_started k j));
  }

  stepped_ordered : kind_of c.asked.action ≡ steps → judge e.state c ≡ Ok tt → OrderKept e c (stepped e c)
  unfolding stepped
  stepped_ordered k j = ends_ordered (is_close c.asked.action) k j

  opened_ordered : (r : Answer) → Resting e c (opened_by r e c)
  unfolding opened
  opened_ordered (Ok tt) = record { queue = refl; pending = refl }
  opened_ordered (Err r) = record { queue = refl; pending = refl }

  performed_ordered : (z : Kind) → kind_of c.asked.action ≡ z → judge e.state c ≡ Ok tt → OrderedBy e c (Ok tt) z (performed z e c)
  performed_ordered opens k j = opened_ordered (opening_answer e.state.day c.asked.input)
  performed_ordered steps k j = stepped_ordered k j
  performed_ordered (gives d) k j = record { queue = refl; pending = refl }

  judged_ordered : (j : Answer) → judge e.state c ≡ j → OrderedBy e c j (kind_of c.asked.action) (judged j e c)
  judged_ordered (Ok tt) i = performed_ordered (kind_of c.asked.action) refl i
  judged_ordered (Err r) i = record { queue = refl; pending = refl }

  pub call_ordered : Ordered e c (call e c)
  unfolding call
  call_ordered = judged_ordered (judge e.state c) refl

  -- and the minutes of what waits have begun after the call
  ends_started : (t : Bool) → kind_of c.asked.action ≡ steps → judge e.state c ≡ Ok tt → Started (cond t (closes s a o) (goes_on s a o)).engine.state.day.clock (cond t (closes s a o) (goes_on s a o)).engine.state.batches
  unfolding closes goes_on left after_test times begun
  ends_started true k j p i = absurd (omega arith)
  ends_started false k j p i =
      let d : 0 < times p o.queue = left_in p i in
      rw (left_place p (omega (arith, counts p, d, at_most_once s.house.banks (acted_stands.each p)))) (acted_started k j p (omega (arith, counts p, d)))
    where
      left_in : (p : ℕ) → 0 < times p (left s a o).queue → 0 < times p o.queue
      left_in p i = i

  stepped_started : kind_of c.asked.action ≡ steps → judge e.state c ≡ Ok tt → Started (stepped e c).engine.state.day.clock (stepped e c).engine.state.batches
  unfolding stepped
  stepped_started k j = ends_started (is_close c.asked.action) k j

  idle_started : is_open e.state.day.phase ≡ false → (clock : ℕ) → Started clock e.state.batches
  unfolding times
  idle_started i clock p w = absurd (omega (arith, w, ap (λ (b : Batches). times p b.queue) (kept.idle i)))

  opened_started : (r : Answer) → is_open e.state.day.phase ≡ false → Started (opened_by r e c).engine.state.day.clock (opened_by r e c).engine.state.batches
  unfolding opened
  opened_started (Ok tt) i = idle_started i c.asked.clock
  opened_started (Err r) i = g

  performed_started : (z : Kind) → kind_of c.asked.action ≡ z → judge e.state c ≡ Ok tt → day_for z e.state.day ≡ true → Started (performed z e c).engine.state.day.clock (performed z e c).engine.state.batches
  performed_started opens k j d = opened_started (opening_answer e.state.day c.asked.input) (not-true _ d)
  performed_started steps k j d = stepped_started k j
  performed_started (gives date) k j d = idle_started (shut e.state.day.phase (and_true _ _ d).0) c.asked.clock
    where
      shut : (p : Phase) → is_closed p ≡ true → is_open p ≡ false
      shut Fresh h = refl
      shut Open h = absurd (false≢true h)
      shut Closed h = refl

  judged_started : (j : Answer) → judge e.state c ≡ j → Started (judged j e c).engine.state.day.clock (judged j e c).engine.state.batches
  judged_started (Ok tt) i = performed_started (kind_of c.asked.action) refl i (right_day_lem e.state c i)
  judged_started (Err r) i = g

  pub call_started : Started (call e c).engine.state.day.clock (call e c).engine.state.batches
  unfolding call
  call_started = judged_started (judge e.state c) refl

pub cleared_started : Started cleared.state.day.clock cleared.state.batches
unfolding times
cleared_started p i = absurd (omega arith)
