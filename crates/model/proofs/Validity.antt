-- Each call keeps the table rules: 06 never comes from the engine's own tables.
use Rattle.std.specs.Prelude.{Ok, Err}
use Prim.Native.Nat.{ℕ, zero, suc, ◌+◌, ◌≤◌, ◌<◌}
use mathlib.Core.Path.{◌≡◌, refl, sym, ap, subst}
use mathlib.Core.Logic.{inl}
use mathlib.Core.Bool.{Bool, true, false, ◌||◌, ◌&&◌, cond, false≢true}
use native.Mathlib.Omega.{arith}
use lib.Dec.{ltb, leb}
use lib.ListN.{length, replicate, length-replicate, length-append}
use borrow.Author.Tests.{not-true, ltb-true}
use Rattle.chars.specs.declared.Refusal.{Refusal}
use Rattle.chars.specs.declared.Refusal.TheVariants.{WrongMoment, ShortBuffer}
use Rattle.request_read.specs.whole.Request.{request_at}
use Rattle.book_read.specs.Book.{book_check}
use Rattle.book_read.specs.Accounts.{day_in, banks_in}
use Rattle.queue.specs.Tests.{Outcome, fuel}
use Rattle.book_read.specs.Range.{Each}
use Rattle.model.specs.Answers.{Answer}
use Rattle.model.specs.declared.Phase.{Phase}
use Rattle.model.specs.declared.Phase.TheVariants.{Fresh, Open, Closed}
use Rattle.model.specs.Kinds.{Kind, opens, steps, gives, kind_of, is_opening, is_close, own_of}
use Rattle.model.specs.State.{Batch, Place, live, no_entry, State, fresh, no_batches, payments_at}
use Rattle.model.specs.Messages.{Acted, today}
use Rattle.model.specs.Joining.{join}
use Rattle.model.specs.Ending.{after_test, settled_replies}
use Rattle.model.specs.Days.{is_fresh, opened, is_later, checked, opening_answer}
use Rattle.model.specs.Calls.{Call, Engine, is_open, is_closed, room_needed, rows_needed, right_day, day_for, judge, begun, act, woken, tested, replies, left, last_replies, goes_on, closes, stepped, opened_by, book_given, performed, judged, call}
use Rattle.model.specs.Rules.{RightEntry, remembered, is_reference, is_bin, RightKnown, Opened, Idle, ValidIn, Valid, live_messages, noted_today}
use Rattle.model.proofs.Truth.{and_true}
use Rattle.model.proofs.Agreement.{right_day_lem}
use Rattle.model.proofs.Counting.{times}
use Rattle.model.proofs.Standing.{Standing, vacant, building, awaits, stands, stood, right, free_stood, at_most_once}
use Rattle.model.proofs.Settling.{test_times}
use Rattle.model.proofs.Doing.{did}
use Rattle.model.proofs.Noting.{once_later, entries_later}
use Rattle.model.proofs.Bins.{Binned, binned, bins_differ, bins_known}
use Rattle.model.proofs.Remembering.{known_kept, bins_kept, bins_emptied}
use Rattle.model.proofs.Answering.{Counted, counted, settled_live, close_few}
use Rattle.model.proofs.Keeping.{Readers, Kept, fresh_kept, sound_book, acted_stood, tested_stood, tested_house}

-- ---- the fresh start

each_replicate : {A : Type 0} (P : A → Type 0) (n : ℕ) (x : A) → P x → Each P (replicate n x)
each_replicate P zero x p = tt
each_replicate P (suc n) x p = (p, each_replicate P n x p)

fresh_known : RightKnown 0 fresh.known
fresh_known = record {
  references_long = length-replicate 2048 no_entry;
  bins_long = length-replicate 512 no_entry;
  references = each_replicate (RightEntry (λ c. is_reference c) 0) 2048 no_entry (inl refl);
  bins = each_replicate (RightEntry (λ c. is_bin c) 0) 512 no_entry (inl refl);
  references_once = tt;
  bins_once = tt;
}

-- ---- what the rules give, by the day's phase

kept_in : (s : State) (p : Phase) → s.day.phase ≡ p → ValidIn p s → Kept s
kept_in s Fresh e v = rw v fresh_kept
kept_in s Open e v = record { house = v.house; batches = stood s.house.banks s.batches v.batches; idle = λ g. absurd (false≢true (sym (rw e at g))) }
kept_in s Closed e v = record { house = v.0.house; batches = stood s.house.banks s.batches v.0.batches; idle = λ g. v.1 }

pub valid_kept : (s : State) → Valid s → Kept s
valid_kept s v = kept_in s s.day.phase refl v

pub open_in : (s : State) (p : Phase) → ValidIn p s → is_open p ≡ true → Opened s
open_in s Fresh v h = absurd (false≢true h)
open_in s Open v h = v
open_in s Closed v h = absurd (false≢true h)

pub closed_in : (s : State) (p : Phase) → ValidIn p s → is_closed p ≡ true → Opened s × Idle s
closed_in s Fresh v h = absurd (false≢true h)
closed_in s Open v h = absurd (false≢true h)
closed_in s Closed v h = v

closed_phase : (p : Phase) → is_closed p ≡ true → p ≡ Closed
closed_phase Fresh h = absurd (false≢true h)
closed_phase Open h = absurd (false≢true h)
closed_phase Closed h = refl

pub known_in : (s : State) (p : Phase) → ValidIn p s → RightKnown s.day.date s.known
known_in s Fresh v = rw v fresh_known
known_in s Open v = v.known
known_in s Closed v = v.0.known

later_in : (s : State) (p : Phase) (d : ℕ) → ValidIn p s → (is_fresh p || ltb s.day.date d) ≡ true → s.day.date ≤ d
later_in s Fresh d v h = let e : s.day.date ≡ 0 = ap (λ (x : State). x.day.date) v in omega arith
later_in s Open d v h = omega (arith, ltb-true s.day.date d h)
later_in s Closed d v h = omega (arith, ltb-true s.day.date d h)

is_later_lem : (a : Answer) (t : Bool) (r : Refusal) → checked a (cond t (Ok tt) (Err r)) ≡ Ok tt → t ≡ true
is_later_lem (Ok tt) true r h = refl
is_later_lem (Ok tt) false r h = let z : ◌≡◌ {A = ℕ} 0 1 = cc in absurd (omega arith)
is_later_lem (Err q) t r h = let z : ◌≡◌ {A = ℕ} 0 1 = cc in absurd (omega arith)

pub right_clock_lem : (s : State) (c : Call) → judge s c ≡ Ok tt → c.asked.clock < 86400
unfolding judge
right_clock_lem s c h =
    ltb-true c.asked.clock 86400 (go (ltb c.asked.clock 86400) (is_opening c.asked.action || leb s.day.clock c.asked.clock) (right_day c.asked.action s.day) h)
  where
    go : (t u v : Bool) → ◌≡◌ {A = Answer} (cond ((t && u) && v) (cond (leb (room_needed c.asked.action s) c.room && leb rows_needed c.rows) (Ok tt) (Err ShortBuffer)) (Err WrongMoment)) (Ok tt) → t ≡ true
    go true u v h = refl
    go false u v h = let z : ◌≡◌ {A = ℕ} 0 1 = cc in absurd (omega arith)

-- ---- one call

-- a live batch has a BIN
pub standing_bin : (banks : ℕ) {y : Place} {m n : ℕ} (x : Batch) → y ≡ live x → Standing banks y m n → is_bin x.bin ≡ true
standing_bin banks x e vacant = let z : ◌≡◌ {A = ℕ} 0 1 = cc in absurd (omega arith)
standing_bin banks x e (building {b = b} r l) = let d : b ≡ x = cc in rw (sym d) r.bin
standing_bin banks x e (awaits {b = b} r c g) = let d : b ≡ x = cc in rw (sym d) r.bin
standing_bin banks x e (stands {b = b} r c) = let d : b ≡ x = cc in rw (sym d) r.bin

module _ (readers : Readers) (e : Engine) (c : Call) (v : Valid e.state) where
  pub k : Kept e.state
  k = valid_kept e.state v

  abbrev s : State
  s = begun e.state c.asked.clock

  abbrev a : Acted
  a = act s (own_of c.asked.action) c.asked.input

  abbrev o : Outcome
  o = tested c.asked.quick a e.memory

  module _ (h : Opened e.state) where
    pub acted_known : RightKnown (today s) a.known
    unfolding begun
    acted_known = known_kept s (request_at c.asked.input) (readers.texts c.asked.input) h.known (did s (own_of c.asked.action) c.asked.input)

    acted_binned : Binned (remembered (today s) a.known.bins) a.batches.places
    unfolding begun join
    acted_binned =
        bins_kept s (request_at c.asked.input) (readers.texts c.asked.input) (binned _ e.state.batches.places h.bins_differ h.bins_remembered) (did s (own_of c.asked.action) c.asked.input)

    pub left_binned : Binned (remembered (today s) a.known.bins) (left s a o).places
    unfolding left after_test
    left_binned = bins_emptied _ o.done a.batches.places acted_binned

    pub acted_counted : Counted s a
    acted_counted = counted s (request_at c.asked.input) (readers.texts c.asked.input) (did s (own_of c.asked.action) c.asked.input)

    pub done_once : (p : ℕ) → times p o.done ≤ 1
    unfolding tested
    done_once p =
        omega (arith, test_times c.asked.quick (payments_at a.batches) (fuel a.batches.queue) p a.books (woken a.wakes e.memory) a.batches.queue, at_most_once s.house.banks ((acted_stood readers e c k).each p))

    -- texts and live messages after the test
    pub left_answered : length (replies s a o) + live_messages (left s a o).places ≤ live_messages s.batches.places + acted_counted.new
    unfolding replies left after_test
    left_answered =
        omega (arith, length-append a.replies (settled_replies s.day a.batches o.done), settled_live s.day a.batches o.done a.batches.places done_once (λ p l. refl), acted_counted.answered)

    pub room_today : e.state.day.texts + live_messages s.batches.places + acted_counted.new ≤ noted_today (today s) a.known.references
    unfolding begun join
    room_today = omega (arith, h.answered, acted_counted.noted_today_lem)

    pub close_answered : length (last_replies s a o) ≤ live_messages (left s a o).places
    unfolding last_replies
    close_answered =
        close_few s.day (today s) (left s a o) (λ p x i. standing_bin s.house.banks x i ((tested_stood readers e c k).each p)) a.known.bins acted_known.bins_once

    module _ (t : c.asked.clock < 86400) where
      goes_opened : Opened (goes_on s a o).engine.state
      unfolding goes_on begun
      goes_opened = record {
        date = h.date;
        clock = t;
        some_streams = h.some_streams;
        some_banks = h.some_banks;
        house = tested_house readers e c k;
        batches = right s.house.banks (left s a o) (tested_stood readers e c k);
        known = acted_known;
        bins_differ = bins_differ _ (left s a o).places left_binned;
        bins_remembered = bins_known _ (left s a o).places left_binned;
        answered = omega (arith, left_answered, room_today);
      }

      closes_opened : Opened (closes s a o).engine.state
      unfolding closes begun
      closes_opened = record {
        date = h.date;
        clock = t;
        some_streams = h.some_streams;
        some_banks = h.some_banks;
        house = tested_house readers e c k;
        batches = right s.house.banks no_batches (free_stood s.house.banks);
        known = acted_known;
        bins_differ = tt;
        bins_remembered = tt;
        answered = omega (arith, left_answered, room_today, close_answered, length-append (replies s a o) (last_replies s a o));
      }

      open_phase : (p : Phase) → is_open p ≡ true → p ≡ Open
      open_phase Fresh i = absurd (false≢true i)
      open_phase Open i = refl
      open_phase Closed i = absurd (false≢true i)

      valid_open : (x : State) → x.day.phase ≡ Open → Opened x → Valid x
      valid_open x i j = subst (λ (p : Phase). ValidIn p x) (sym i) j

      ends_valid : (u : Bool) → is_open e.state.day.phase ≡ true → Valid (cond u (closes s a o) (goes_on s a o)).engine.state
      unfolding closes goes_on begun
      ends_valid true i = (closes_opened, refl)
      ends_valid false i = valid_open (goes_on s a o).engine.state (open_phase e.state.day.phase i) goes_opened

      stepped_valid : is_open e.state.day.phase ≡ true → Valid (stepped e c).engine.state
      unfolding stepped
      stepped_valid i = ends_valid (is_close c.asked.action) i

  pub later : opening_answer e.state.day c.asked.input ≡ Ok tt → is_later e.state.day (day_in c.asked.input) ≡ true
  unfolding opening_answer
  later d = is_later_lem (book_check c.asked.input) (is_later e.state.day (day_in c.asked.input)) WrongMoment d

  opened_valid : (r : Answer) → opening_answer e.state.day c.asked.input ≡ r → c.asked.clock < 86400 → is_open e.state.day.phase ≡ false → Valid (opened_by r e c).engine.state
  unfolding opened
  opened_valid (Ok tt) d t i =
      let b = readers.books c.asked.input (sound_book e.state c.asked.input d) in
      let w = known_in e.state e.state.day.phase v in
      let l : e.state.day.date ≤ day_in c.asked.input = later_in e.state e.state.day.phase (day_in c.asked.input) v (later d) in
      record {
        date = b.date;
        clock = t;
        some_streams = b.some_streams;
        some_banks = b.some_banks;
        house = b.house;
        batches = rw (k.idle i) (right (length (banks_in c.asked.input)) no_batches (free_stood (length (banks_in c.asked.input))));
        known = record {
          references_long = w.references_long;
          bins_long = w.bins_long;
          references = entries_later e.state.day.date (day_in c.asked.input) l (λ x. is_reference x) e.state.known.references w.references;
          bins = entries_later e.state.day.date (day_in c.asked.input) l (λ x. is_bin x) e.state.known.bins w.bins;
          references_once = once_later e.state.day.date (day_in c.asked.input) l (λ x. is_reference x) e.state.known.references w.references w.references_once;
          bins_once = once_later e.state.day.date (day_in c.asked.input) l (λ x. is_bin x) e.state.known.bins w.bins w.bins_once;
        };
        bins_differ = rw (k.idle i) tt;
        bins_remembered = rw (k.idle i) tt;
        answered = rw (k.idle i) (omega arith);
      }
  opened_valid (Err r) d t i = v

  book_valid : (d : ℕ) → c.asked.clock < 86400 → is_closed e.state.day.phase ≡ true → Valid (book_given e c d).engine.state
  book_valid d t i =
      let w = closed_in e.state e.state.day.phase v i in
      subst (λ (p : Phase). ValidIn p (book_given e c d).engine.state) (sym (closed_phase e.state.day.phase i)) (
        record {
          date = w.0.date;
          clock = t;
          some_streams = w.0.some_streams;
          some_banks = w.0.some_banks;
          house = w.0.house;
          batches = w.0.batches;
          known = w.0.known;
          bins_differ = w.0.bins_differ;
          bins_remembered = w.0.bins_remembered;
          answered = w.0.answered;
        },
        w.1,
      )

  performed_valid : (z : Kind) → c.asked.clock < 86400 → day_for z e.state.day ≡ true → Valid (performed z e c).engine.state
  performed_valid opens t h = opened_valid (opening_answer e.state.day c.asked.input) refl t (not-true _ h)
  performed_valid steps t h = stepped_valid (open_in e.state e.state.day.phase v h) t h
  performed_valid (gives d) t h = book_valid d t (and_true (is_closed e.state.day.phase) _ h).0

  judged_valid : (r : Answer) → judge e.state c ≡ r → Valid (judged r e c).engine.state
  judged_valid (Ok tt) h = performed_valid (kind_of c.asked.action) (right_clock_lem e.state c h) (right_day_lem e.state c h)
  judged_valid (Err r) h = v

  pub call_valid : Valid (call e c).engine.state
  unfolding call
  call_valid = judged_valid (judge e.state c) refl

-- ---- any calls
