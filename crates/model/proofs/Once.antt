-- "Only a noted message is answered by a text, once", over any calls from a fresh start: each reference noted on a day is noted once, and has
-- been answered or awaits its answer. After the close none awaits.
use Rattle.std.specs.Prelude.{Ok, Err}
use Prim.Native.Nat.{ℕ, zero, suc, ◌+◌, ◌≤◌, ◌<◌}
use mathlib.Core.Path.{◌≡◌, refl, sym, ap, subst, ◌∙◌}
use mathlib.Core.Logic.{inl, inr}
use mathlib.Core.Bool.{Bool, true, false, ◌&&◌, ◌||◌, not, cond}
use mathlib.Core.List.{List, [], ◌∷◌, ◌++◌}
use native.Mathlib.Omega.{arith}
use lib.Dec.{eqb, ltb}
use lib.ListN.{replicate}
use borrow.Author.Tests.{not-true, eqb-true, ne_eqb, ltb-true}
use Rattle.codes.specs.declared.Code.{Code}
use Rattle.dates.specs.Dates.{is_remembered}
use Rattle.request_read.specs.whole.Request.{request_at}
use Rattle.book_read.specs.Accounts.{day_in}
use Rattle.queue.specs.Tests.{Outcome}
use Rattle.queue.proofs.MemoryLaws.{by_bool}
use Rattle.book_read.specs.Range.{Each}
use Rattle.model.specs.Answers.{Answer}
use Rattle.model.specs.declared.Phase.{Phase}
use Rattle.model.specs.declared.Phase.TheVariants.{Fresh, Open, Closed}
use Rattle.model.specs.Kinds.{Kind, opens, steps, gives, kind_of, is_close, own_of}
use Rattle.codes.specs.Codes.{no_code}
use Rattle.model.specs.State.{same_code, no_entry, Place, Entry, State, no_batches}
use Rattle.model.specs.Joining.{join}
use Rattle.model.specs.Messages.{Acted, today}
use Rattle.model.specs.Ending.{after_test, settled_replies}
use Rattle.model.specs.Days.{is_fresh, opened, opening_answer}
use Rattle.model.specs.Calls.{Call, Engine, is_open, judge, begun, replies, left, last_replies, goes_on, closes, stepped, opened_by, performed, judged, call, cleared, day_for}
use Rattle.model.specs.Rules.{RightEntry, is_reference, remembered, Unlike, AllUnlike, Opened, ValidIn, Valid}
use Rattle.model.specs.Answered.{acted, outcome, stepped_replies, replied_to, times_in, noted_on, references_of, awaiting_at, todays, awaiting, Accounted, starts_anew, answers_by, answers, answered_after}
use Rattle.model.specs.Course.{start, Deed, after, since}
use Rattle.model.proofs.Course.{since_course}
use Rattle.model.specs.Promises.{answered, then}
use Rattle.model.proofs.Noting.{same_sym, today_remembered}
use Rattle.model.proofs.Remembering.{same_code_lem}
use Rattle.model.proofs.Doing.{did}
use Rattle.model.proofs.Agreement.{right_day_lem}
use Rattle.model.proofs.Awaiting.{told, waits, times_in_append, told_append, balanced}
use Rattle.model.proofs.Ending.{settled_told, close_all_told}
use Rattle.model.proofs.Keeping.{Readers, tested_stood}
use Rattle.model.proofs.Validity.{k, known_in, open_in, standing_bin, later, acted_known, left_binned, done_once, call_valid}

-- ---- what is noted today is noted once

unlike_absent : (x c : Code) (l : List Code) → same_code c x ≡ true → Unlike c l → times_in x l ≡ 0
unfolding times_in
unlike_absent x c [] e u = refl
unlike_absent x c (d ∷ l) e u =
    let f : same_code d x ≡ false = ap (same_code d) (sym (same_code_lem c x e)) ∙ same_sym d c ∙ u.0 in
    rw f (omega (arith, unlike_absent x c l e u.1))

pub all_once : (x : Code) (l : List Code) → AllUnlike l → times_in x l ≤ 1
unfolding times_in
all_once x [] u = omega arith
all_once x (c ∷ l) u =
    by_bool (same_code c x)
    (λ e. rw e (omega (arith, unlike_absent x c l e u.0)))
    (λ e. rw e (omega (arith, all_once x l u.1)))

-- what was noted today is remembered
pub today_among : (x : Code) (day : ℕ) (es : List Entry) → times_in x (noted_on day es) ≤ times_in x (remembered day es)
unfolding noted_on times_in
today_among x day [] = omega arith
today_among x day (e ∷ es) =
    by_bool (same_code e.code no_code)
    (λ n. rw n (today_among x day es))
    (λ n.
    by_bool (eqb e.day day)
    (λ t. let m : is_remembered e.day day ≡ true = rw (eqb-true e.day day t) (today_remembered day) in rw (n, t, m) (omega (arith, today_among x day es)))
    (λ t.
    by_bool (is_remembered e.day day)
    (λ m. rw (n, t, m) (omega (arith, today_among x day es)))
    (λ m. rw (n, t, m) (today_among x day es))))

pub noted_once : (s : State) → Valid s → (x : Code) → times_in x (todays s) ≤ 1
noted_once s v x =
    omega (arith, today_among x s.day.date s.known.references, all_once x (remembered s.day.date s.known.references) (known_in s s.day.phase v).references_once)

-- ---- nothing is noted on a later day

entry_before : (is : Code → Bool) (day last : ℕ) (e : Entry) → last < day → RightEntry is last e → (not (same_code e.code no_code) && eqb e.day day) ≡ false
entry_before is day last e l (inl h) = rw h refl
entry_before is day last e l (inr h) = rw (ne_eqb e.day day (λ d. omega (arith, h.1))) (none (not (same_code e.code no_code)))
  where
    none : (u : Bool) → (u && false) ≡ false
    none true = refl
    none false = refl

pub none_before : (is : Code → Bool) (day last : ℕ) (es : List Entry) → last < day → Each (RightEntry is last) es → noted_on day es ≡ []
unfolding noted_on
none_before is day last [] l h = refl
none_before is day last (e ∷ es) l h = rw (entry_before is day last e l h.0) (none_before is day last es l h.1)

pub none_fresh : (day n : ℕ) → noted_on day (replicate n no_entry) ≡ []
unfolding noted_on
none_fresh day zero = refl
none_fresh day (suc n) = none_fresh day n

none_in : (s : State) (p : Phase) (day : ℕ) → ValidIn p s → (is_fresh p || ltb s.day.date day) ≡ true → noted_on day s.known.references ≡ []
none_in s Fresh day v h = rw v (none_fresh day 2048)
none_in s Open day v h = none_before (λ c. is_reference c) day s.day.date s.known.references (ltb-true s.day.date day h) v.known.references
none_in s Closed day v h = none_before (λ c. is_reference c) day s.day.date s.known.references (ltb-true s.day.date day h) v.0.known.references

none_wait : (x : Code) → waits x no_batches.places ≡ 0
unfolding awaiting_at references_of times_in
none_wait x = refl

-- ---- one call

abbrev Owed : Code → State → List Code → Type 0
Owed x s l = times_in x (todays s) ≡ times_in x l + times_in x (awaiting s)

module _ (readers : Readers) (e : Engine) (c : Call) (v : Valid e.state) (x : Code) (l : List Code) (h : Owed x e.state l) where
  abbrev s : State
  s = begun e.state c.asked.clock

  abbrev a : Acted
  a = acted e c

  abbrev o : Outcome
  o = outcome e c

  module _ (i : Opened e.state) where
    acted_owed : times_in x (noted_on (today s) a.known.references) ≡ times_in x l + (told x a.replies + waits x a.batches.places)
    unfolding begun join
    acted_owed = omega (arith, h, balanced s (request_at c.asked.input) (readers.texts c.asked.input) x (did s (own_of c.asked.action) c.asked.input))

    replies_told : told x (replies s a o) + waits x (left s a o).places ≡ told x a.replies + waits x a.batches.places
    unfolding replies left after_test
    replies_told =
        omega (
          arith,
          told_append x a.replies (settled_replies s.day a.batches o.done),
          settled_told x s.day a.batches o.done a.batches.places (done_once readers e c v i) (λ p n. refl),
        )

    last_told : told x (last_replies s a o) ≡ waits x (left s a o).places
    unfolding last_replies
    last_told =
        let b = left_binned readers e c v i in
        close_all_told s.day (today s) (left s a o) (λ p y q. standing_bin s.house.banks y q ((tested_stood readers e c (k readers e c v)).each p)) x b.differ
        a.known.bins (acted_known readers e c v i).bins_once (λ p y q. b.known p y.bin (rw q refl))

    ends_owed : (t : Bool) → Owed x (cond t (closes s a o) (goes_on s a o)).engine.state (l ++ replied_to (cond t (replies s a o ++ last_replies s a o) (replies s a o)))
    unfolding closes goes_on
    ends_owed true =
        omega (
          arith,
          times_in_append x l (replied_to (replies s a o ++ last_replies s a o)),
          told_append x (replies s a o) (last_replies s a o),
          none_wait x,
          acted_owed,
          replies_told,
          last_told,
        )
    ends_owed false = omega (arith, times_in_append x l (replied_to (replies s a o)), acted_owed, replies_told)

    stepped_owed : Owed x (stepped e c).engine.state (l ++ replied_to (stepped_replies e c))
    unfolding stepped
    stepped_owed = ends_owed (is_close c.asked.action)

  opened_owed : (r : Answer) → opening_answer e.state.day c.asked.input ≡ r → is_open e.state.day.phase ≡ false → Owed x (opened_by r e c).engine.state (starts_anew r l)
  unfolding opened times_in
  opened_owed (Ok tt) d i =
      omega (arith, ap (times_in x) (none_in e.state e.state.day.phase (day_in c.asked.input) v (later readers e c v d)), ap (λ (b : List Place). waits x b) (ap (λ y. y.places) ((k readers e c v).idle i)), none_wait x)
  opened_owed (Err r) d i = h

  performed_owed : (z : Kind) → day_for z e.state.day ≡ true → Owed x (performed z e c).engine.state (answers_by (Ok tt) z e c l)
  performed_owed opens i = opened_owed (opening_answer e.state.day c.asked.input) refl (not-true _ i)
  performed_owed steps i = stepped_owed (open_in e.state e.state.day.phase v i)
  performed_owed (gives d) i = h

  judged_owed : (r : Answer) → judge e.state c ≡ r → Owed x (judged r e c).engine.state (answers_by r (kind_of c.asked.action) e c l)
  judged_owed (Ok tt) i = performed_owed (kind_of c.asked.action) (right_day_lem e.state c i)
  judged_owed (Err r) i = h

  call_owed : Owed x (call e c).engine.state (answers e c l)
  unfolding call answers
  call_owed = judged_owed (judge e.state c) refl

-- ---- any calls

pub after_valid : (readers : Readers) (cs : List Call) (e : Engine) → Valid e.state → Valid (after call e cs).state
unfolding after
after_valid readers [] e v = v
after_valid readers (c ∷ cs) e v = after_valid readers cs (call e c).engine (call_valid readers e c v)

after_owed : (readers : Readers) (cs : List Call) (e : Engine) → Valid e.state → (x : Code) (l : List Code) → Owed x e.state l → Owed x (after call e cs).state (answered_after e l cs)
unfolding after answered_after
after_owed readers [] e v x l h = h
after_owed readers (c ∷ cs) e v x l h =
    after_owed readers cs (call e c).engine (call_valid readers e c v) x (answers e c l) (call_owed readers e c v x l h)

fresh_owed : (x : Code) → Owed x cleared.state []
unfolding times_in
fresh_owed x = omega (arith, ap (times_in x) (none_fresh 0 2048), none_wait x)

pub accounted : Readers → (ds : List Deed) → Accounted (then ds) (answered ds)
accounted readers ds = subst (λ (e : Engine). Accounted e.state (answered ds)) (sym (since_course call ds)) (record {
  each = λ x. after_owed readers (since ds) start refl x [] (fresh_owed x);
  once = λ x. noted_once (after call start (since ds)).state (after_valid readers (since ds) start refl) x;
})

-- "Only a noted message is answered by a text": a reference that was not noted that day has not been answered
pub only_noted : Readers → (ds : List Deed) (r : Code) → times_in r (todays (then ds)) ≡ 0 → times_in r (answered ds) ≡ 0
only_noted readers ds r h = omega (arith, (accounted readers ds).each r)

-- ", once": never twice, on no day
pub never_twice : Readers → (ds : List Deed) (r : Code) → times_in r (answered ds) ≤ 1
never_twice readers ds r = let i = accounted readers ds in omega (arith, i.each r, i.once r)

-- after the close no message awaits its answer
none_in_closed : (s : State) (p : Phase) → ValidIn p s → p ≡ Closed → awaiting s ≡ []
unfolding awaiting_at references_of
none_in_closed s Fresh v h = let z : ◌≡◌ {A = ℕ} 0 1 = cc in absurd (omega arith)
none_in_closed s Open v h = let z : ◌≡◌ {A = ℕ} 0 1 = cc in absurd (omega arith)
none_in_closed s Closed v h = rw v.1 refl

pub course_valid : Readers → (ds : List Deed) → Valid (then ds)
course_valid readers ds = subst (λ (e : Engine). Valid e.state) (sym (since_course call ds)) (after_valid readers (since ds) start refl)

pub none_left_at_close : Readers → (ds : List Deed) → (then ds).day.phase ≡ Closed → awaiting (then ds) ≡ []
none_left_at_close readers ds h = none_in_closed (then ds) (then ds).day.phase (course_valid readers ds) h

-- and each reference that was noted that day has been answered exactly once
pub answered_once : Readers → (ds : List Deed) → (then ds).day.phase ≡ Closed → (r : Code) → 0 < times_in r (todays (then ds)) → times_in r (answered ds) ≡ 1
unfolding times_in
answered_once readers ds h r n =
    let i = accounted readers ds in
    let z : times_in r (awaiting (then ds)) ≡ 0 = ap (times_in r) (none_left_at_close readers ds h) in
    omega (arith, i.each r, i.once r)
