-- "Shut out": engines that are none. Each breaks a promise that `call` keeps, on a day on which it can be seen.
use Rattle.std.specs.Prelude.{Ok, Err}
use Prim.Native.Nat.{ℕ, suc, ◌+◌, ◌-◌}
use mathlib.Core.Path.{◌≡◌, refl, sym, ap, subst, ◌∙◌}
use mathlib.Core.Bool.{Bool, true, false, ◌&&◌, not, cond, false≢true}
use mathlib.Core.List.{List, [], ◌∷◌, ◌++◌, map}
use native.Mathlib.Omega.{arith}
use lib.Dec.{eqb}
use lib.ListN.{length, get_or, replicate, get_or-map}
use Rattle.chars.specs.declared.Refusal.{Refusal}
use Rattle.chars.specs.declared.Refusal.TheVariants.{WrongMoment, Unequal, NothingThere, Malformed}
use Rattle.request_read.specs.whole.Request.{request_at}
use Rattle.request_read.specs.declared.whole.Reading.{Reading}
use Rattle.book_read.specs.Accounts.{Bank}
use Rattle.settle.specs.Payments.{Payment}
use Rattle.settle.specs.Settlement.{Accounts, verdict}
use Rattle.settle.specs.declared.Verdict.TheVariants.{Passes}
use Rattle.queue.specs.Tests.{Outcome, Turn, nothing_tried, noted, passed_of, turn}
use Rattle.queue.specs.declared.Step.{Step}
use Rattle.queue.specs.declared.Step.TheVariants.{Omitted, Failed, Passed}
use Rattle.queue.specs.History.{Event}
use Rattle.queue.specs.Promise.{Stuck, brought, taken, brought_by, taken_by}
use Rattle.queue.proofs.History.{tries_one}
use Rattle.model.specs.declared.Action.TheVariants.{Opening, Message, SubLimit, Tick, Close}
use Rattle.model.specs.Kinds.{Kind, opens, steps, gives, kind_of, is_opening, Own}
use Rattle.model.specs.State.{on_found, seek, is_free, free, live, with_place, Batches, Known, State, fresh, no_entry, no_batches, payments_at as placed}
use Rattle.model.specs.Messages.{Acted, Waking, place, first_batch, with_message}
use Rattle.model.specs.Joining.{keep}
use Rattle.model.specs.Days.{opening_answer, banks_of}
use Rattle.model.specs.Calls.{Call, Engine, Result, judge, act, woken, tested, opened_by, stepped, performed, judged, call, cleared}
use Rattle.model.specs.Course.{start, Deed, clears, calls, course, since, since_on}
use Rattle.model.specs.LeftBehind.{LeftBehind}
use Rattle.model.specs.Happened.{history, ByRuleIn}
use Rattle.model.specs.Waiting.{is_live, has_started, joined_in, completed_now, Ordered, OrderedBy}
use Rattle.model.specs.Answers.{Answer, answer_number}
use Rattle.model.specs.Answered.{acted}
use Rattle.model.specs.Promises.{Agree, Always, BalancesFollow, NonePasses, Numbered, OpensRight, SameSeen, TestsByRule, Tried, View, Written, by, chosen, is_done, ledger_after, no_ledger, view, views_by}
use Rattle.thm_wrong_engines.specs.Engines.{refusing, agreeing, doing_nothing, inventing, performed_by, judged_by, call_by, call_with, call_acting, never}
use Rattle.model.proofs.Refusals.{not_done}
use Rattle.model.proofs.Keeps.{keep_same}
use Rattle.model.proofs.Stories.{asked, says, alone, bank, begins_at, book, code, dr, pays, recall_of, request, timed, goes, reply132}
use Rattle.model.proofs.Promises.{numbers_are_right, texts_read_back, tries_are_right, rows_are_kept, tests_by_rule, orders_are_kept, openings_are_right}

-- with its own action and test it is the engine
performed_same : (z : Kind) (e : Engine) (c : Call) → performed_by act tested z e c ≡ performed z e c
unfolding stepped
performed_same opens e c = refl
performed_same steps e c = refl
performed_same (gives date) e c = refl

judged_same : (j : Answer) (e : Engine) (c : Call) → judged_by act tested j e c ≡ judged j e c
judged_same (Ok tt) e c = performed_same (kind_of c.asked.action) e c
judged_same (Err r) e c = refl

pub with_its_own : (e : Engine) (c : Call) → call_by act tested e c ≡ call e c
unfolding call
with_its_own e c = judged_same (judge e.state c) e c

-- ---- tests of their own

-- a test that tries until a batch passes, and does what it likes with the rest
abbrev pub on_pass : Step → Outcome → Outcome → Outcome
on_pass Omitted x y = y
on_pass Failed x y = y
on_pass Passed x y = x

unfoldable pub first_then : (Accounts → List ℕ → List ℕ → Outcome) → Bool → (ℕ → List Payment) → Accounts → List ℕ → List ℕ → Outcome
first_then rest quick batch a m [] = nothing_tried a m []
first_then rest quick batch a m (p ∷ q) =
    let t : Turn = turn quick batch a m p in
    noted t.step p (on_pass t.step (rest t.books t.memory q) (first_then rest quick batch t.books t.memory q))

-- stops after the first; or only pretends after it: the rest leave the queue as if they had passed
unfoldable pub claimed : Accounts → List ℕ → List ℕ → Outcome
claimed a m [] = nothing_tried a m []
claimed a m (p ∷ q) = noted Passed p (claimed a m q)

abbrev pub stopping : Bool → Acted → List ℕ → Outcome
stopping quick a m = first_then nothing_tried quick (placed a.batches) a.books (woken a.wakes m) a.batches.queue

abbrev pub pretending : Bool → Acted → List ℕ → Outcome
pretending quick a m = first_then claimed quick (placed a.batches) a.books (woken a.wakes m) a.batches.queue

-- a quick test that omits nothing, and a plain one that omits as the quick one does
abbrev pub omitting_none : Bool → Acted → List ℕ → Outcome
omitting_none quick a m = tested false a m

abbrev pub omitting_always : Bool → Acted → List ℕ → Outcome
omitting_always quick a m = tested true a m

-- a test after which the first that failed stands at the tail
abbrev pub head_last : List ℕ → List ℕ
head_last [] = []
head_last (p ∷ q) = q ++ (p ∷ [])

abbrev pub to_the_tail : Bool → Acted → List ℕ → Outcome
to_the_tail quick a m = let o : Outcome = tested quick a m in record { books = o.books; memory = o.memory; queue = head_last o.queue; done = o.done; tries = o.tries }

-- ---- actions of their own

-- one that wakes a batch wakes the one at place 0, too
abbrev pub more : List Waking → List Waking
more [] = []
more (w ∷ ws) = place 0 ∷ w ∷ ws

abbrev pub waking_others : State → Own → List ℕ → Acted
waking_others s x input =
    let a : Acted = act s x input in
    record { answer = a.answer; replies = a.replies; wakes = more a.wakes; books = a.books; batches = a.batches; known = a.known }

-- where a number is answered, the batches or the texts are other ones
abbrev pub on_number : ℕ → Answer → Acted → Acted → Acted
on_number n a x y = cond (eqb (answer_number a) n) x y

abbrev pub leaving_instead : ℕ → (State → List ℕ → Batches) → State → Own → List ℕ → Acted
leaving_instead n f s x input =
    let a : Acted = act s x input in
    on_number n a.answer (record { answer = a.answer; replies = a.replies; wakes = a.wakes; books = a.books; batches = f s input; known = a.known }) a

-- the batch that the message began stays
abbrev pub begun_stays : State → List ℕ → Batches
begun_stays s input =
    let r : Reading = request_at input in
    on_found (seek is_free s.batches.places) s.batches (λ p. with_place s.batches p (live (with_message s r (first_batch s r))))

-- all batches are gone
abbrev pub all_emptied : State → List ℕ → Batches
all_emptied s input = no_batches

abbrev pub writing_instead : ℕ → State → Own → List ℕ → Acted
writing_instead n s x input =
    let a : Acted = act s x input in
    on_number n a.answer (record { answer = a.answer; replies = []; wakes = a.wakes; books = a.books; batches = a.batches; known = a.known }) a

-- a complete batch is queued, whether or not its minute has begun
abbrev pub queueing : State → Own → List ℕ → Acted
queueing s x input =
    let a : Acted = act s x input in
    record {
      answer = a.answer;
      replies = a.replies;
      wakes = a.wakes;
      books = a.books;
      batches = record { places = a.batches.places; pending = []; queue = a.batches.queue ++ a.batches.pending };
      known = a.known;
    }

-- ---- openings of their own: something of the state before, or of a fresh one, stays

abbrev pub opening_as : (State → State → State) → Engine → Call → Result
opening_as f e c =
    let r : Result = call e c in
    cond (is_opening c.asked.action && is_done r.answer)
    (record { answer = r.answer; out = r.out; tries = r.tries; engine = record { state = f e.state r.engine.state; memory = r.engine.memory } })
    r

abbrev pub yesterdays_balances : State → State → State
yesterdays_balances s t = record { day = t.day; house = t.house; books = s.books; batches = t.batches; known = t.known }

abbrev pub forgetting : State → State → State
forgetting s t = record { day = t.day; house = t.house; books = t.books; batches = t.batches; known = fresh.known }

-- ---- days on which they show it

abbrev pub deeds : List Call → List Deed
deeds cs = map calls cs

abbrev opening : Call
opening = asked 9 0 0 Opening (book 9895 (bank "AAAA" 10000000 0 ∷ bank "BBBB" 0 0 ∷ []))

-- two batches wait for their minutes, which begin before the tick
abbrev earlier : List Call
earlier = opening ∷ asked 10 0 0 (Message 5) (timed "A1" "PROP0001" "1030") ∷ asked 10 0 1 (Message 5) (timed "A2" "PROP0002" "1015") ∷ []

abbrev due : Call
due = asked 10 31 0 Tick []

abbrev tick : Call
tick = asked 10 0 5 Tick []

-- a batch is held at BBBB; then the sub-limit of AAAA is changed
abbrev held : List Call
held = opening ∷ says 10 0 0 (request "H1" "PROP0001" "01/01" (pays "BBBB" "AAAA" "7," "AAA ")) ∷ []

-- and a second one behind it
abbrev second : Call
second = says 10 0 1 (request "H2" "PROP0002" "01/01" (pays "BBBB" "AAAA" "8," "AAA "))

abbrev later : Call
later = asked 10 0 2 (SubLimit (code "AAAA") 5) []

abbrev plain : Call
plain = by false tick

-- a batch whose sums differ, a recall of nothing, a BIN that is not being assembled any more
abbrev unequal : Call
unequal = says 10 0 2 (request "U1" "PROP0003" "01/01" (alone (dr "AAAA" "1," "AAA ")))

abbrev recall_nothing : Call
recall_nothing = says 10 0 2 (recall_of "U2" "PROP0009")

abbrev again : Call
again = says 10 0 2 (request "U3" "PROP0001" "01/01" (alone (dr "AAAA" "1," "AAA ")))

-- a batch that is not covered, for a minute that has not begun
abbrev early : Call
early = says 10 0 0 (request "E1" "PROP0001" "01/01" (begins_at "1030" (pays "BBBB" "AAAA" "7," "AAA ")))

-- a second day
abbrev one_day : List Call
one_day = held ++ (asked 17 0 0 Close [] ∷ [])

abbrev second_day : Call
second_day = asked 9 0 0 Opening (book 9896 (bank "AAAA" 5 0 ∷ bank "BBBB" 0 0 ∷ []))

-- what an engine leaves of a call after others
abbrev pub left_by : (Engine → Call → Result) → List Call → Call → Result
left_by f cs c = f (course f start (deeds cs)) c

-- a queued batch of place p, alone or before others, would pass
record Passing (r : Result) (p : ℕ) (others : List ℕ) : Type 0 where
  queue : r.engine.state.batches.queue ≡ p ∷ others
  passes : verdict r.engine.state.books (placed r.engine.state.batches p) ≡ Passes

record Shown : Type 0 where
  opens : (call start opening).answer ≡ Ok tt
  too_early : (call start due).answer ≡ Err WrongMoment
  texts : (left_by call earlier due).out ≡ reply132 "1" "A2" "PROP0002" "0\r\n:13E:270203103100" ++ reply132 "2" "A1" "PROP0001" "0\r\n:13E:270203103100"
  tries : (left_by call earlier due).tries ≡ 3 ∷ 1 ∷ []
  untried : (left_by call [] due).tries ≡ []
  idle : Passing (left_by (call_with never) earlier due) 1 (0 ∷ [])
  stopped : Passing (left_by (call_with stopping) earlier due) 0 []
  balance : get_or (course (call_with pretending) start (deeds (earlier ++ (due ∷ [])))).state.books.balances 0 0 ≡ 9990000
  opened_with : get_or (ledger_after (call_with pretending) start no_ledger (since (deeds (earlier ++ (due ∷ []))))).opening 0 0 ≡ 10000000
  claims : taken_by 0 (ledger_after (call_with pretending) start no_ledger (since (deeds (earlier ++ (due ∷ []))))).gone ≡ 20000
  brings : brought_by 0 (ledger_after (call_with pretending) start no_ledger (since (deeds (earlier ++ (due ∷ []))))).gone ≡ 0
  omitted : (left_by call held tick).tries ≡ []
  tried_again : (left_by (call_with omitting_none) held tick).tries ≡ 0 ∷ []
  plainly : (left_by call held plain).tries ≡ 0 ∷ []
  omitted_plainly : (left_by (call_with omitting_always) held plain).tries ≡ []
  spared : (left_by call held later).tries ≡ []
  woken_too : (left_by (call_acting waking_others) held later).tries ≡ 0 ∷ []

shown : Shown
unfolding goes course since_on passed_of brought_by brought taken_by taken ledger_after first_then claimed
shown = record {
  opens = refl;
  too_early = refl;
  texts = refl;
  tries = refl;
  untried = refl;
  idle = record { queue = refl; passes = refl };
  stopped = record { queue = refl; passes = refl };
  balance = refl;
  opened_with = refl;
  claims = refl;
  brings = refl;
  omitted = refl;
  tried_again = refl;
  plainly = refl;
  omitted_plainly = refl;
  spared = refl;
  woken_too = refl;
}

-- what the right engine and a wrong one leave of a refused call
pub record Refuses (f : Engine → Call → Result) (cs : List Call) (c : Call) (q : Refusal) : Type 0 where
  pub moment : judge (course call start (deeds cs)).state c ≡ Ok tt
  pub right : (left_by call cs c).answer ≡ Err q
  pub wrong : (left_by f cs c).answer ≡ Err q

abbrev pub stands_at : ℕ → Result → Bool
stands_at p r = is_free (get_or r.engine.state.batches.places p free)

abbrev queue_of : Result → List ℕ
queue_of r = r.engine.state.batches.queue

-- which of the 32 places are free
abbrev free_in : Result → List Bool
free_in r = map is_free r.engine.state.batches.places

-- all but the first n
abbrev all_but : ℕ → List Bool
all_but n = replicate n false ++ replicate (32 - n) true

abbrev first_balance : Result → ℕ
first_balance r = get_or (map (λ b. b.balance) (banks_of r.engine.state.house r.engine.state.books)) 0 0

record Ends : Type 0 where
  unequal_refused : Refuses (call_acting (leaving_instead 1 begun_stays)) (opening ∷ []) unequal Unequal
  unequal_ended : stands_at 0 (left_by call (opening ∷ []) unequal) ≡ true
  unequal_stays : stands_at 0 (left_by (call_acting (leaving_instead 1 begun_stays)) (opening ∷ []) unequal) ≡ false

ends : Ends
unfolding goes course
ends = record { unequal_refused = record { moment = refl; right = refl; wrong = refl }; unequal_ended = refl; unequal_stays = refl }

record Answers : Type 0 where
  recall_refused : Refuses (call_acting (writing_instead 2)) (opening ∷ []) recall_nothing NothingThere
  recall_answered : length (left_by call (opening ∷ []) recall_nothing).out ≡ 55
  recall_unanswered : length (left_by (call_acting (writing_instead 2)) (opening ∷ []) recall_nothing).out ≡ 0

answers : Answers
unfolding goes course
answers = record { recall_refused = record { moment = refl; right = refl; wrong = refl }; recall_answered = refl; recall_unanswered = refl }

record Others : Type 0 where
  again_refused : Refuses (call_acting (leaving_instead 87 all_emptied)) held again Malformed
  again_stands : stands_at 0 (left_by call held again) ≡ false
  again_emptied : stands_at 0 (left_by (call_acting (leaving_instead 87 all_emptied)) held again) ≡ true

others : Others
unfolding goes course
others = record { again_refused = record { moment = refl; right = refl; wrong = refl }; again_stands = refl; again_emptied = refl }

record Early : Type 0 where
  waits : queue_of (left_by call (opening ∷ []) early) ≡ []
  queued : queue_of (left_by (call_acting queueing) (opening ∷ []) early) ≡ 0 ∷ []
  right : free_in (left_by call (opening ∷ []) early) ≡ all_but 1
  wrong : free_in (left_by (call_acting queueing) (opening ∷ []) early) ≡ all_but 1

too_soon : Early
unfolding goes course
too_soon = record { waits = refl; queued = refl; right = refl; wrong = refl }

record Turned : Type 0 where
  in_order : queue_of (left_by call held second) ≡ 0 ∷ 1 ∷ []
  out_of_order : queue_of (left_by (call_with to_the_tail) held second) ≡ 1 ∷ 0 ∷ []
  right : free_in (left_by call held second) ≡ all_but 2
  wrong : free_in (left_by (call_with to_the_tail) held second) ≡ all_but 2

turned : Turned
unfolding goes course
turned = record { in_order = refl; out_of_order = refl; right = refl; wrong = refl }

record Old : Type 0 where
  opened : (left_by (opening_as yesterdays_balances) [] opening).answer ≡ Ok tt
  right : first_balance (left_by call [] opening) ≡ 10000000
  wrong : first_balance (left_by (opening_as yesterdays_balances) [] opening) ≡ 0
  account : get_or (course (opening_as yesterdays_balances) start (deeds (opening ∷ []))).state.books.balances 0 0 ≡ 0
  book_account_lem : get_or (ledger_after (opening_as yesterdays_balances) start no_ledger (since (deeds (opening ∷ [])))).opening 0 0 ≡ 10000000
  none_gone : (ledger_after (opening_as yesterdays_balances) start no_ledger (since (deeds (opening ∷ [])))).gone ≡ []

old : Old
unfolding goes course since_on ledger_after
old = record { opened = refl; right = refl; wrong = refl; account = refl; book_account_lem = refl; none_gone = refl }

record Forgets : Type 0 where
  opened : (left_by (opening_as forgetting) one_day second_day).answer ≡ Ok tt
  right : (get_or (course call start (deeds one_day)).state.known.references 0 no_entry).day ≡ 9895
  wrong : (get_or (left_by (opening_as forgetting) one_day second_day).engine.state.known.references 0 no_entry).day ≡ 0

forgets : Forgets
unfolding goes course
forgets = record { opened = refl; right = refl; wrong = refl }

-- ---- each is shut out

pub refusing_shut_out : (f : Engine → Call → Result) (q : Engine → Call → Refusal) → Always (refusing f q) Numbered → ⊥
unfolding course
refusing_shut_out f q h = not_done (sym shown.opens ∙ numbers_are_right [] opening ∙ sym (h [] opening))

pub agreeing_shut_out : (f : Engine → Call → Result) → Always (agreeing f) Numbered → ⊥
unfolding course
agreeing_shut_out f h = not_done (h [] due ∙ sym (numbers_are_right [] due) ∙ shown.too_early)

pub doing_nothing_shut_out : (a : Engine → Call → Answer) → Always (doing_nothing a) Written → ⊥
doing_nothing_shut_out a h =
    let z : ◌≡◌ {A = ℕ} 0 182 = ap length ((h (deeds earlier) due).0 ∙ sym (texts_read_back (deeds earlier) due).0 ∙ shown.texts) in
    omega arith

pub inventing_shut_out : (l : Call → List ℕ) → Always (inventing l) Tried → ⊥
inventing_shut_out l h =
    let z : ◌≡◌ {A = ℕ} (length (l due)) 2 = ap length (h (deeds earlier) due ∙ sym (tries_are_right (deeds earlier) due) ∙ shown.tries) in
    let y : ◌≡◌ {A = ℕ} (length (l due)) 0 = ap length (h [] due ∙ sym (tries_are_right [] due) ∙ shown.untried) in
    omega arith

-- by the rule there is one list of tries
same_tries : (j : Answer) (k : Kind) (e : Engine) (es : List Event) (c : Call) (r x : Result) → ByRuleIn j k e es c r → ByRuleIn j k e es c x → r.tries ≡ x.tries
same_tries (Err q) k e es c r x g h = g ∙ sym h
same_tries (Ok tt) opens e es c r x g h = g ∙ sym h
same_tries (Ok tt) steps e es c r x g h = tries_one c.asked.quick _ g.tries h.tries
same_tries (Ok tt) (gives date) e es c r x g h = g ∙ sym h

pub one_list_of_tries : (f : Engine → Call → Result) → TestsByRule f → (ds : List Deed) (c : Call) → (f (course f start ds) c).tries ≡ (call (course call start ds) c).tries
one_list_of_tries f h ds c =
    same_tries (judge (course call start ds).state c) (kind_of c.asked.action) (course call start ds) (history start [] (since ds)) c (f (course f start ds) c) (call (course call start ds) c) (h ds c) (tests_by_rule ds c)

pub omitting_none_shut_out : TestsByRule (call_with omitting_none) → ⊥
omitting_none_shut_out h =
    let z : ◌≡◌ {A = ℕ} 1 0 = ap length (sym shown.tried_again ∙ one_list_of_tries (call_with omitting_none) h (deeds held) tick ∙ shown.omitted) in
    omega arith

pub omitting_plainly_shut_out : TestsByRule (call_with omitting_always) → ⊥
omitting_plainly_shut_out h =
    let z : ◌≡◌ {A = ℕ} 0 1 = ap length (sym shown.omitted_plainly ∙ one_list_of_tries (call_with omitting_always) h (deeds held) plain ∙ shown.plainly) in
    omega arith

pub waking_others_shut_out : TestsByRule (call_acting waking_others) → ⊥
waking_others_shut_out h =
    let z : ◌≡◌ {A = ℕ} 1 0 = ap length (sym shown.woken_too ∙ one_list_of_tries (call_acting waking_others) h (deeds held) later ∙ shown.spared) in
    omega arith

-- what a refused call leaves is one thing
pub left_one : (f : Engine → Call → Result) (cs : List Call) (c : Call) (q : Refusal) → Always f LeftBehind → kind_of c.asked.action ≡ steps → Refuses f cs c q → left_by f cs c ≡ left_by call cs c
left_one f cs c q h k g = h (deeds cs) c g.moment k q g.wrong ∙ sym (rows_are_kept (deeds cs) c g.moment k q g.right)

pub unequal_kept_shut_out : Always (call_acting (leaving_instead 1 begun_stays)) LeftBehind → ⊥
unequal_kept_shut_out h =
    false≢true (sym ends.unequal_stays ∙ ap (stands_at 0) (left_one (call_acting (leaving_instead 1 begun_stays)) (opening ∷ []) unequal Unequal h refl ends.unequal_refused) ∙ ends.unequal_ended)

pub unanswered_recall_shut_out : Always (call_acting (writing_instead 2)) LeftBehind → ⊥
unanswered_recall_shut_out h =
    let z : ◌≡◌ {A = ℕ} 0 55 =
    sym answers.recall_unanswered ∙ ap (λ (r : Result). length r.out) (left_one (call_acting (writing_instead 2)) (opening ∷ []) recall_nothing NothingThere h refl answers.recall_refused) ∙ answers.recall_answered in
    omega arith

pub emptying_shut_out : Always (call_acting (leaving_instead 87 all_emptied)) LeftBehind → ⊥
emptying_shut_out h =
    false≢true (sym others.again_stands ∙ ap (stands_at 0) (sym (left_one (call_acting (leaving_instead 87 all_emptied)) held again Malformed h refl others.again_refused)) ∙ others.again_emptied)

-- in its order there is one queue of the same places
same_queue : (e : Engine) (c : Call) (j : Answer) (k : Kind) (r x : Result) → OrderedBy e c j k r → OrderedBy e c j k x → free_in r ≡ free_in x → queue_of r ≡ queue_of x
same_queue e c (Err q) k r x g h w = g.queue ∙ sym h.queue
same_queue e c (Ok tt) opens r x g h w = g.queue ∙ sym h.queue
same_queue e c (Ok tt) steps r x g h w =
    g.queue
    ∙ keep_same (is_live r.engine.state.batches) (is_live x.engine.state.batches)
    ((e.state.batches.queue ++ joined_in c.asked.clock e.state.batches) ++ keep (has_started c.asked.clock (acted e c).batches) (completed_now e c))
    (λ p i. ap not (sym (get_or-map is_free r.engine.state.batches.places p free) ∙ ap (λ (l : List Bool). get_or l p true) w ∙ get_or-map is_free x.engine.state.batches.places p free))
    ∙ sym h.queue
same_queue e c (Ok tt) (gives date) r x g h w = g.queue ∙ sym h.queue

one_queue : (f : Engine → Call → Result) (cs : List Call) (c : Call) → Always f Ordered → free_in (left_by f cs c) ≡ free_in (left_by call cs c) → queue_of (left_by f cs c) ≡ queue_of (left_by call cs c)
one_queue f cs c h w =
    same_queue (course call start (deeds cs)) c (judge (course call start (deeds cs)).state c) (kind_of c.asked.action) (left_by f cs c) (left_by call cs c) (h (deeds cs) c) (orders_are_kept (deeds cs) c) w

pub early_joining_shut_out : Always (call_acting queueing) Ordered → ⊥
early_joining_shut_out h =
    let z : ◌≡◌ {A = ℕ} 1 0 = ap length (sym too_soon.queued ∙ one_queue (call_acting queueing) (opening ∷ []) early h ((too_soon.wrong ∙ sym too_soon.right)) ∙ too_soon.waits) in
    omega arith

pub to_the_tail_shut_out : Always (call_with to_the_tail) Ordered → ⊥
to_the_tail_shut_out h =
    let z : ◌≡◌ {A = ℕ} 1 0 = ap (λ (l : List ℕ). get_or l 0 0) (sym turned.out_of_order ∙ one_queue (call_with to_the_tail) held second h ((turned.wrong ∙ sym turned.right)) ∙ turned.in_order) in
    omega arith

pub old_balances_shut_out : Always (opening_as yesterdays_balances) OpensRight → ⊥
unfolding course
old_balances_shut_out h =
    let z : ◌≡◌ {A = ℕ} 0 10000000 =
    sym old.wrong ∙ ap (λ (bs : List Bank). get_or (map (λ b. b.balance) bs) 0 0) ((h [] opening refl old.opened).banks ∙ sym (openings_are_right [] opening refl shown.opens).banks) ∙ old.right in
    omega arith

pub old_accounts_shut_out : BalancesFollow (opening_as yesterdays_balances) → ⊥
unfolding taken_by brought_by
old_accounts_shut_out h =
    let g = (h (deeds (opening ∷ []))).each 0 (omega arith) in
    let k : get_or (course (opening_as yesterdays_balances) start (deeds (opening ∷ []))).state.books.balances 0 0 + 0 ≡ get_or (ledger_after (opening_as yesterdays_balances) start no_ledger (since (deeds (opening ∷ [])))).opening 0 0 + 0 =
    rw old.none_gone at g in
    omega (arith, k, old.account, old.book_account_lem)

pub forgetting_shut_out : Always (opening_as forgetting) OpensRight → ⊥
forgetting_shut_out h =
    let z : ◌≡◌ {A = ℕ} 0 9895 =
    sym forgets.wrong ∙ ap (λ (k : Known). (get_or k.references 0 no_entry).day) (h (deeds one_day) second_day refl forgets.opened).known ∙ forgets.right in
    omega arith

not_stuck : (r : Result) (p : ℕ) (others : List ℕ) → Passing r p others
    → Stuck (placed r.engine.state.batches) r.engine.state.books r.engine.state.batches.queue → ⊥
not_stuck r p others g h =
    (subst (λ (q : List ℕ). Stuck (placed r.engine.state.batches) r.engine.state.books q) g.queue h).0 g.passes

pub never_settling_shut_out : Always (call_with never) NonePasses → ⊥
never_settling_shut_out h = not_stuck (left_by (call_with never) earlier due) 1 (0 ∷ []) shown.idle (h (deeds earlier) due)

pub stopping_shut_out : Always (call_with stopping) NonePasses → ⊥
stopping_shut_out h = not_stuck (left_by (call_with stopping) earlier due) 0 [] shown.stopped (h (deeds earlier) due)

pub pretending_shut_out : BalancesFollow (call_with pretending) → ⊥
pretending_shut_out h =
    let g = (h (deeds (earlier ++ (due ∷ [])))).each 0 (omega arith) in
    omega (arith, g, shown.balance, shown.opened_with, shown.claims, shown.brings)

-- two tests that are equally idle agree with each other, and are shut out all the same
module _ (e : Engine) (c : Call) (x y : Bool) where
  idle_performed : (z : Kind) → performed_by act never z e (by x c) ≡ performed_by act never z e (by y c)
  idle_performed opens = idle_opened (opening_answer e.state.day c.asked.input)
    where
      idle_opened : (r : Answer) → opened_by r e (by x c) ≡ opened_by r e (by y c)
      idle_opened (Ok tt) = refl
      idle_opened (Err r) = refl
  idle_performed steps = refl
  idle_performed (gives date) = refl

  idle_judged : (j : Answer) → judged_by act never j e (by x c) ≡ judged_by act never j e (by y c)
  idle_judged (Ok tt) = idle_performed (kind_of c.asked.action)
  idle_judged (Err r) = refl

  idle_same : call_with never e (by x c) ≡ call_with never e (by y c)
  unfolding judge
  idle_same = idle_judged (judge e.state c)

idle_alike : (ds : List Deed) (x y : ℕ → Bool) (e : Engine) → views_by (call_with never) e (chosen x ds) ≡ views_by (call_with never) e (chosen y ds)
unfolding views_by chosen
idle_alike [] x y e = refl
idle_alike (clears ∷ ds) x y e = idle_alike ds x y cleared
idle_alike (calls c ∷ ds) x y e =
    ap (λ (r : Result). view r ∷ views_by (call_with never) r.engine (chosen (λ i. x (suc i)) ds)) (idle_same e c (x 0) (y 0))
    ∙ ap (λ (l : List View). view (call_with never e (by (y 0) c)) ∷ l) (idle_alike ds (λ i. x (suc i)) (λ i. y (suc i)) (call_with never e (by (y 0) c)).engine)

pub idle_tests_alike : SameSeen (call_with never)
idle_tests_alike ds x y = idle_alike ds x y start

pub idle_tests_shut_out : Agree (call_with never) → ⊥
idle_tests_shut_out h = never_settling_shut_out h.none_passes
