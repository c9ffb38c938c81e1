-- What is promised of the engine, over any calls and clearings from a start. Each promise is a word about what a call leaves, f, so that it can be held
-- against any engine; `call` keeps them all.
use Rattle.std.specs.Prelude.{Ok, Err}
use Prim.Native.Nat.{ℕ, ◌≤◌, ◌<◌}
use mathlib.Core.Path.{◌≡◌, refl, sym, ap, subst, ◌∙◌}
use mathlib.Core.Bool.{Bool, true, false, cond}
use mathlib.Core.List.{List, [], ◌∷◌, ◌++◌, map, append-nil}
use Rattle.chars.specs.declared.Refusal.{Refusal}
use Rattle.codes.specs.declared.Code.{Code}
use Rattle.request_read.specs.whole.Request.{request_at}
use Rattle.settle.specs.Payments.{Payment}
use Rattle.settle.specs.Rules.{sum}
use Rattle.queue.specs.Tests.{Outcome, passed_of}
use Rattle.queue.specs.Promise.{Trail}
use Rattle.queue.specs.History.{replay}
use Rattle.queue.proofs.Promises.{settled_are_passes}
use Rattle.model.specs.Answers.{Answer}
use Rattle.model.specs.declared.Phase.TheVariants.{Closed}
use Rattle.model.specs.declared.Action.{Action}
use Rattle.model.specs.declared.Action.TheVariants.{Tick}
use Rattle.model.specs.Kinds.{Kind, opens, steps, gives, kind_of, is_close}
use Rattle.model.specs.State.{State, no_memory, payments_at}
use Rattle.model.specs.Messages.{Acted}
use Rattle.model.specs.Days.{opening_answer}
use Rattle.model.specs.Calls.{Call, Engine, Result, judge, begun, tested, woken, goes_on, closes, refused, stepped, opened_by, performed, judged, call, run}
use Rattle.model.specs.Rules.{Valid, RightMemory}
use Rattle.model.specs.LeftBehind.{LeftBehind}
use Rattle.model.specs.Answered.{acted, outcome, times_in, todays, awaiting, Accounted}
use Rattle.model.specs.Course.{start, Deed, calls, after, course, since}
use Rattle.model.specs.Happened.{history}
use Rattle.model.proofs.Course.{since_course, course_last}
use Rattle.model.specs.Promises.{Agree, Alike, Along, Always, BalancesFollow, Closes, Covered, CoveredBy, Enough, Ledger, NonePasses, Numbered, OpensRight, Stranger, StrangersLeaveAll, TestsByRule, Tried, Unchanged, Written, answered, asking, ledger_after, ledger_in, no_ledger, numbered_by, then, tries_by}
use Rattle.model.proofs.Agreement.{Faithful, call_faithful, cleared_faithful, tests_agree_all_days}
use Rattle.model.proofs.Refusals.{refusals_change_nothing, refused_openings_change_nothing}
use Rattle.model.proofs.Strangers.{a_stranger_is_a_tick}
use Rattle.model.specs.Lettered.{LettersStay}
use Rattle.model.proofs.LettersStay.{call_letters}
use Rattle.model.proofs.Demand.{ledger_by, ledger, anew, Stands, PaidBy, Paid, call_stands, fresh_stands}
use Rattle.model.proofs.Validity.{valid_kept, call_valid}
use Rattle.model.proofs.Output.{call_out}
use Rattle.model.proofs.Tries.{call_tries}
use Rattle.model.proofs.Replying.{out_is}
use Rattle.model.proofs.ReadBack.{call_read}
use Rattle.model.proofs.ClosingBook.{call_closes}
use Rattle.model.proofs.OpeningBook.{call_opens}
use Rattle.model.proofs.Once.{course_valid}
use Rattle.model.proofs.Once as once
use Rattle.model.proofs.Reading.{readers}
use Rattle.model.proofs.Leaving.{call_left}
use Rattle.model.specs.Waiting.{Ordered}
use Rattle.model.proofs.Ordering.{Started, call_ordered, call_started, cleared_started}
use Rattle.model.proofs.Omitting.{call_by_rule, after_memory}
use Rattle.model.proofs.Holding.{call_memory, cleared_memory}

-- ---- the engine after some calls and clearings

abbrev at : List Deed → Engine
at ds = course call start ds

valid : (ds : List Deed) → Valid (at ds).state
valid ds = course_valid readers ds

after_faithful : (cs : List Call) (e : Engine) → Faithful e → Faithful (after call e cs)
unfolding after
after_faithful [] e f = f
after_faithful (c ∷ cs) e f = after_faithful cs (call e c).engine (call_faithful e c f)

faithful : (ds : List Deed) → Faithful (at ds)
faithful ds = rw (since_course call ds) (after_faithful (since ds) start cleared_faithful)

-- ---- answers and tries of a call

module _ (e : Engine) (c : Call) where
  ends_number : (t : Bool) (s : State) (a : Acted) (o : Outcome) → (cond t (closes s a o) (goes_on s a o)).answer ≡ a.answer
  unfolding closes goes_on
  ends_number true s a o = refl
  ends_number false s a o = refl

  stepped_number : (stepped e c).answer ≡ (acted e c).answer
  unfolding stepped
  stepped_number = ends_number (is_close c.asked.action) (begun e.state c.asked.clock) (acted e c) (outcome e c)

  opened_number : (r : Answer) → (opened_by r e c).answer ≡ r
  opened_number (Ok tt) = refl
  opened_number (Err r) = refl

  performed_number : (z : Kind) → (performed z e c).answer ≡ numbered_by (Ok tt) z e c
  performed_number opens = opened_number (opening_answer e.state.day c.asked.input)
  performed_number steps = stepped_number
  performed_number (gives d) = refl

  judged_number : (j : Answer) → (judged j e c).answer ≡ numbered_by j (kind_of c.asked.action) e c
  judged_number (Ok tt) = performed_number (kind_of c.asked.action)
  judged_number (Err r) = refl

  pub call_number : Numbered e c (call e c)
  unfolding call
  call_number = judged_number (judge e.state c)

  ends_tries : (t : Bool) (s : State) (a : Acted) (o : Outcome) → (cond t (closes s a o) (goes_on s a o)).tries ≡ o.tries
  unfolding closes goes_on
  ends_tries true s a o = refl
  ends_tries false s a o = refl

  stepped_tries : (stepped e c).tries ≡ (outcome e c).tries
  unfolding stepped
  stepped_tries = ends_tries (is_close c.asked.action) (begun e.state c.asked.clock) (acted e c) (outcome e c)

  opened_tries : (r : Answer) → (opened_by r e c).tries ≡ []
  opened_tries (Ok tt) = refl
  opened_tries (Err r) = refl

  performed_tries : (z : Kind) → (performed z e c).tries ≡ tries_by (Ok tt) z e c
  performed_tries opens = opened_tries (opening_answer e.state.day c.asked.input)
  performed_tries steps = stepped_tries
  performed_tries (gives d) = refl

  judged_tries : (j : Answer) → (judged j e c).tries ≡ tries_by j (kind_of c.asked.action) e c
  judged_tries (Ok tt) = performed_tries (kind_of c.asked.action)
  judged_tries (Err r) = refl

  call_tried : Tried e c (call e c)
  unfolding call
  call_tried = judged_tries (judge e.state c)

  -- the settled batches are those whose tries passed
  passed : passed_of (outcome e c).tries ≡ (outcome e c).done
  unfolding tested
  passed = settled_are_passes c.asked.quick (payments_at (acted e c).batches) (acted e c).books (woken (acted e c).wakes e.memory) (acted e c).batches.queue

  stepped_passed : passed_of (stepped e c).tries ≡ (outcome e c).done
  stepped_passed = ap passed_of stepped_tries ∙ passed

  abbrev Settling : Result → Type 0
  Settling r = Trail (payments_at (acted e c).batches) (acted e c).books (passed_of r.tries) r.engine.state.books

  stepped_covered : Trail (payments_at (acted e c).batches) (acted e c).books (outcome e c).done (stepped e c).engine.state.books → Settling (stepped e c)
  stepped_covered h = rw stepped_passed h

  performed_covered : (z : Kind) → PaidBy (Ok tt) z e c (performed z e c).engine.state.books → CoveredBy (Ok tt) z e c (performed z e c)
  performed_covered opens h = tt
  performed_covered steps h = stepped_covered h
  performed_covered (gives d) h = h

  judged_covered : (j : Answer) → PaidBy j (kind_of c.asked.action) e c (judged j e c).engine.state.books → CoveredBy j (kind_of c.asked.action) e c (judged j e c)
  judged_covered (Ok tt) h = performed_covered (kind_of c.asked.action) h
  judged_covered (Err r) h = h

  call_covered : Paid e c → Covered e c (call e c)
  unfolding Paid call
  call_covered h = judged_covered (judge e.state c) h

  -- ---- the ledger of a call, read off its tries

  module _ (l : Ledger) where
    nothing_gone : l ≡ record { opening = l.opening; gone = l.gone ++ [] }
    nothing_gone = ap (λ (g : List (List Payment)). record { opening = l.opening; gone = g }) (sym (append-nil l.gone))

    stepped_ledger : ◌≡◌ {A = Ledger} (record { opening = l.opening; gone = l.gone ++ map (payments_at (acted e c).batches) (outcome e c).done })
        (record { opening = l.opening; gone = l.gone ++ map (payments_at (acted e c).batches) (passed_of (stepped e c).tries) })
    stepped_ledger = ap (λ (d : List ℕ). record { opening = l.opening; gone = l.gone ++ map (payments_at (acted e c).batches) d }) (sym stepped_passed)

    opened_ledger : (r : Answer) → anew r e c l ≡ ledger_in opens c.asked.input (acted e c) (opened_by r e c) l
    unfolding passed_of
    opened_ledger (Ok tt) = refl
    opened_ledger (Err r) = nothing_gone

    performed_ledger : (z : Kind) → ledger_by (Ok tt) z e c l ≡ ledger_in z c.asked.input (acted e c) (performed z e c) l
    unfolding passed_of
    performed_ledger opens = opened_ledger (opening_answer e.state.day c.asked.input)
    performed_ledger steps = stepped_ledger
    performed_ledger (gives d) = nothing_gone

    refused_ledger : (z : Kind) (r : Refusal) → l ≡ ledger_in z c.asked.input (acted e c) (refused e r) l
    unfolding passed_of
    refused_ledger opens r = nothing_gone
    refused_ledger steps r = nothing_gone
    refused_ledger (gives d) r = nothing_gone

    judged_ledger : (j : Answer) → ledger_by j (kind_of c.asked.action) e c l ≡ ledger_in (kind_of c.asked.action) c.asked.input (acted e c) (judged j e c) l
    judged_ledger (Ok tt) = performed_ledger (kind_of c.asked.action)
    judged_ledger (Err r) = refused_ledger (kind_of c.asked.action) r

    call_ledger : ledger e c l ≡ ledger_in (kind_of c.asked.action) c.asked.input (acted e c) (call e c) l
    unfolding ledger call
    call_ledger = judged_ledger (judge e.state c)

-- all that stands after some calls, with the ledger read off the tries
after_stands : (cs : List Call) (e : Engine) (l : Ledger) → Valid e.state → Faithful e → Stands e l → Stands (after call e cs) (ledger_after call e l cs)
unfolding after ledger_after
after_stands [] e l v f h = h
after_stands (c ∷ cs) e l v f h =
    after_stands cs (call e c).engine (ledger_in (kind_of c.asked.action) c.asked.input (acted e c) (call e c) l) (call_valid readers e c v) (call_faithful e c f)
    (subst (λ (z : Ledger). Stands (call e c).engine z) (call_ledger e c l) (call_stands readers e c (valid_kept e.state v) f l h).1)

stands : (ds : List Deed) → Stands (at ds) (ledger_after call start no_ledger (since ds))
stands ds = rw (since_course call ds) (after_stands (since ds) start no_ledger refl cleared_faithful fresh_stands)

told : (ds : List Deed) (c : Call) → Paid (at ds) c × Stands (call (at ds) c).engine (ledger (at ds) c (ledger_after call start no_ledger (since ds)))
told ds c = call_stands readers (at ds) c (valid_kept (at ds).state (valid ds)) (faithful ds) (ledger_after call start no_ledger (since ds)) (stands ds)

after_right : (cs : List Call) (e : Engine) → RightMemory e.state.batches e.memory → RightMemory (after call e cs).state.batches (after call e cs).memory
unfolding after
after_right [] e h = h
after_right (c ∷ cs) e h = after_right cs (call e c).engine (call_memory e c h)

memory_right : (ds : List Deed) → RightMemory (at ds).state.batches (at ds).memory
memory_right ds = rw (since_course call ds) (after_right (since ds) start cleared_memory)

-- the memory after any calls is what their history has left of a fresh one
remembered : (ds : List Deed) → (at ds).memory ≡ replay (history start [] (since ds)) no_memory
unfolding replay
remembered ds = rw (since_course call ds) (after_memory readers (since ds) start [] refl cleared_memory refl)

after_started : (cs : List Call) (e : Engine) → Valid e.state → Started e.state.day.clock e.state.batches
    → Started (after call e cs).state.day.clock (after call e cs).state.batches
unfolding after
after_started [] e v h = h
after_started (c ∷ cs) e v h = after_started cs (call e c).engine (call_valid readers e c v) (call_started readers e c v h)

started : (ds : List Deed) → Started (at ds).state.day.clock (at ds).state.batches
started ds = subst (λ (e : Engine). Started e.state.day.clock e.state.batches) (sym (since_course call ds)) (after_started (since ds) start refl cleared_started)

-- ---- demand 1: a refusal at once changes nothing; a call has one outcome

pub refusals_leave_all : Always call Unchanged
refusals_leave_all ds c = record { at_once = refusals_change_nothing (at ds) c; opening = refused_openings_change_nothing (at ds) c }

-- the column "left behind"
pub rows_are_kept : Always call LeftBehind
rows_are_kept ds c = call_left readers (at ds) c (valid ds)

pub one_outcome : (e : Engine) (c : Call) (x y : Result) → x ≡ call e c → y ≡ call e c → x ≡ y
one_outcome e c x y p q = p ∙ sym q

-- ---- the table rules hold from a fresh start on: 06 never comes from the engine's own tables

pub tables_keep_the_rules : Always call (λ e c r. Valid r.engine.state)
tables_keep_the_rules ds c = call_valid readers (at ds) c (valid ds)

-- ---- 33,705 bytes and 528 tries are enough

pub room_is_enough : Always call Enough
room_is_enough ds c = (call_out readers (at ds) c (valid ds), call_tries readers (at ds) c (valid_kept (at ds).state (valid ds)))

-- ---- demand 2: numbers, texts, and each noted message answered exactly once

pub numbers_are_right : Always call Numbered
numbers_are_right ds c = call_number (at ds) c

pub texts_read_back : Always call Written
texts_read_back ds c = (out_is (at ds) c, call_read readers (at ds) c (valid ds))

pub accounted : (ds : List Deed) → Accounted (then ds) (answered ds)
accounted ds = once.accounted readers ds

pub only_noted : (ds : List Deed) (r : Code) → times_in r (todays (then ds)) ≡ 0 → times_in r (answered ds) ≡ 0
only_noted ds r h = once.only_noted readers ds r h

pub never_twice : (ds : List Deed) (r : Code) → times_in r (answered ds) ≤ 1
never_twice ds r = once.never_twice readers ds r

pub none_left_at_close : (ds : List Deed) → (then ds).day.phase ≡ Closed → awaiting (then ds) ≡ []
none_left_at_close ds h = once.none_left_at_close readers ds h

pub answered_once : (ds : List Deed) → (then ds).day.phase ≡ Closed → (r : Code) → 0 < times_in r (todays (then ds)) → times_in r (answered ds) ≡ 1
answered_once ds h r n = once.answered_once readers ds h r n

-- ---- an opening leaves its book, and what was remembered

pub openings_are_right : Always call OpensRight
openings_are_right ds c = call_opens (at ds) c

-- ---- demand 3: the two tests agree; balances follow the settled batches; payers were covered; none that is left would pass

pub tries_are_right : Always call Tried
tries_are_right ds c = call_tried (at ds) c

-- the plain test tries every queued batch on every walk, the quick one omits a try "exactly if ..": over all that happened since the start
pub tests_by_rule : TestsByRule call
tests_by_rule ds c = call_by_rule readers (at ds) c (valid ds) (memory_right ds) (history start [] (since ds)) (remembered ds)

-- what waits after a call waits in its order, and nothing is tried before its minute
pub orders_are_kept : Always call Ordered
orders_are_kept ds c = call_ordered readers (at ds) c (valid ds) (started ds)

pub balances_follow : BalancesFollow call
balances_follow ds = let h = stands ds in record { each = h.money; total = h.total }

pub payers_covered : Always call Covered
payers_covered ds c = call_covered (at ds) c (told ds c).0

pub none_would_pass : Always call NonePasses
none_would_pass ds c = (told ds c).1.stuck

pub tests_agree : Agree call
tests_agree = record {
  alike = tests_agree_all_days;
  covered = payers_covered;
  none_passes = none_would_pass;
}

-- ---- a stranger's message leaves what a tick leaves

pub strangers_leave_all : Always call StrangersLeaveAll
strangers_leave_all ds c sender e =
    subst
    (λ (a : Action). Stranger (begun (at ds).state c.asked.clock) sender (request_at c.asked.input) → Alike (call (at ds) (asking a c)) (call (at ds) (asking Tick c)))
    (sym e)
    (a_stranger_is_a_tick (at ds) c sender)

-- ---- a status change changes one letter

pub letters_stay : Always call LettersStay
letters_stay ds c = call_letters (at ds) c

-- ---- the total never changes within a day

pub total_stays : (ds : List Deed) → sum (at ds).state.books.balances ≡ sum (ledger_after call start no_ledger (since ds)).opening
total_stays ds = (stands ds).total

-- ---- the closing book is accepted, carries the date given, and is the day's accounts again

pub closing_book_reads_back : Always call Closes
closing_book_reads_back ds c = call_closes (at ds) c (valid ds)

-- ---- what is always so is so of each result of `run`

run_along : (P : Engine → Call → Result → Type 0) → Always call P → (done : List Deed) (cs : List Call) → Along P (at done) cs (run (at done) cs)
unfolding run
run_along P h done [] = refl
run_along P h done (c ∷ cs) =
    (h done c, subst (λ (e : Engine). Along P e cs (run e cs)) (course_last call done c start) (run_along P h (done ++ (calls c ∷ [])) cs))

pub along_run : (P : Engine → Call → Result → Type 0) → Always call P → (cs : List Call) → Along P start cs (run start cs)
unfolding course
along_run P h cs = run_along P h [] cs
