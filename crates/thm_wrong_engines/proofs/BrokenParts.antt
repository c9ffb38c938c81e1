-- Ticket 1 of document 02: engines that do something else with a broken part. Each breaks a promise that `call` keeps, on a day on which it can be seen.
use Rattle.std.specs.Prelude.{Err}
use Prim.Native.Nat.{ℕ}
use Prim.Native.String.{String}
use mathlib.Core.Path.{◌≡◌, refl, sym, ap, ◌∙◌}
use mathlib.Core.Bool.{cond}
use mathlib.Core.List.{List, [], ◌∷◌, ◌++◌}
use native.Mathlib.Omega.{arith}
use lib.ListN.{get_or}
use Rattle.chars.specs.Words.{bytes}
use Rattle.chars.specs.declared.Refusal.{Refusal}
use Rattle.chars.specs.declared.Refusal.TheVariants.{WrongEsa, Malformed}
use Rattle.codes.specs.declared.Code.{Code}
use Rattle.text_fields.specs.declared.Break.{Break}
use Rattle.request_read.specs.whole.Request.{request_at, on_outcome}
use Rattle.request_read.specs.declared.whole.Outcome.{Outcome as Read}
use Rattle.request_read.specs.declared.whole.Outcome.TheVariants.{Settlement, Recall, Refused as Unread}
use Rattle.book_write.specs.Closing.{book_bytes}
use Rattle.model.specs.declared.Action.TheVariants.{Opening, Message}
use Rattle.model.specs.Answers.{answer_number}
use Rattle.model.specs.Kinds.{steps, kind_of, Own, receives, changes_sublimit, changes_status, nothing}
use Rattle.model.specs.State.{is_free, free, State, no_entry}
use Rattle.model.specs.Messages.{Acted, message}
use Rattle.model.specs.Calls.{Call, Engine, Result, act, call}
use Rattle.model.specs.Course.{course}
use Rattle.model.specs.LeftBehind.{LeftBehind}
use Rattle.model.specs.Promises.{Always, Numbered}
use Rattle.model.proofs.Stories.{asked, says, stream, flagged, request, alone, pays, dr, goes}
use Rattle.model.proofs.Promises.{numbers_are_right}
use Rattle.thm_wrong_engines.specs.Engines.{call_acting}
use Rattle.thm_wrong_engines.proofs.ShutOut.{deeds, left_by, Refuses, left_one}
use Rattle.thm_wrong_engines.specs.Breaking.{breaking, rightly, ending_nothing, ending_by_missing, sparing_credits, ending_by_strangers, ending87, noting_it, answering_it, ending_waiting}

-- with the right action for such a text it is the engine's own action
by_outcome_lem : (s : State) (sender : ℕ) (input : List ℕ) (o : Read) → (request_at input).outcome ≡ o
    → on_outcome o (act s (receives sender) input) (act s (receives sender) input) (rightly s sender input) ≡ act s (receives sender) input
unfolding act message
by_outcome_lem s sender input Settlement e = refl
by_outcome_lem s sender input Recall e = refl
by_outcome_lem s sender input (Unread b) e = rw e

pub breaking_rightly : (s : State) (x : Own) (input : List ℕ) → breaking rightly s x input ≡ act s x input
breaking_rightly s (receives sender) input = by_outcome_lem s sender input (request_at input).outcome refl
breaking_rightly s (changes_sublimit code cents) input = refl
breaking_rightly s (changes_status code bin letter) input = refl
breaking_rightly s nothing input = refl

-- ---- days: administrator 5 has PROP, 7 has CARD

abbrev opening : Call
opening = asked 9 0 0 Opening (book_bytes 9895 (stream "CARD" 7 ∷ stream "PROP" 5 ∷ []) (flagged "AAAA" 6 10000 0 ∷ flagged "BBBB" 6 0 0 ∷ []))

-- a batch is being assembled; another waits in the queue
abbrev assembled : List Call
assembled = opening ∷ says 10 0 0 (request "S1" "PROP0001" "01/02" (alone (dr "AAAA" "1," "AAA "))) ∷ []

abbrev queued : List Call
queued = opening ∷ says 10 0 0 (request "Q1" "PROP0001" "01/01" (pays "BBBB" "AAAA" "1," "AAA ")) ∷ []

-- a part of it with a wrong ESA letter, from its administrator and from a stranger
abbrev wrong_letter : List ℕ
wrong_letter = request "S2" "PROP0001" "02/02" (alone (dr "BBBB" "1," "XAA "))

abbrev wrong : Call
wrong = says 10 0 1 wrong_letter

abbrev strange : Call
strange = asked 10 0 1 (Message 7) wrong_letter

-- one that ends where 171 should stand; one with a 113 after CR
abbrev part : String → List ℕ
part lines = bytes ":20:S2\r\n:12:131\r\n:77E:\r\n:22A:PROP\r\n:119:PROP0001\r\n:16A:02/02\r\n" ++ bytes lines

abbrev cut : Call
cut = says 10 0 1 (part "")

abbrev credit : Call
credit = says 10 0 1 (part ":171:270203\r\n:127:CR\r\n:32B:AUD1,\r\n:113:AAA \r\n:102:BBBB\r\n:203:1\r\n")

-- ---- what is looked at: 1 where the batch at place 0 is live; the day of the second reference; the texts of the day

abbrev is_live : Result → ℕ
is_live r = cond (is_free (get_or r.engine.state.batches.places 0 free)) 0 1

abbrev second_noted : Result → ℕ
second_noted r = (get_or r.engine.state.known.references 1 no_entry).day

abbrev texts : Result → ℕ
texts r = r.engine.state.day.texts

-- a call that both answer with a number, and by which the right engine shows x and the wrong one y
record Differs (f : Engine → Call → Result) (cs : List Call) (c : Call) (q : Refusal) (look : Result → ℕ) (x y : ℕ) : Type 0 where
  kind : kind_of c.asked.action ≡ steps
  refuses : Refuses f cs c q
  right_shows : look (left_by call cs c) ≡ x
  wrong_shows : look (left_by f cs c) ≡ y

-- by the promise both would leave the same
same_shown : (f : Engine → Call → Result) (cs : List Call) (c : Call) (q : Refusal) (look : Result → ℕ) (x y : ℕ)
    → Differs f cs c q look x y → Always f LeftBehind → x ≡ y
same_shown f cs c q look x y d h = sym d.right_shows ∙ ap look (sym (left_one f cs c q h d.kind d.refuses)) ∙ d.wrong_shows

-- the engine with another action for broken texts
abbrev acting : (State → (sender : ℕ) → List ℕ → Break → Acted) → Engine → Call → Result
acting f = call_acting (breaking f)

record Shown : Type 0 where
  nothing_ends : Differs (acting ending_nothing) assembled wrong WrongEsa is_live 0 1
  missing_ends : Differs (acting ending_by_missing) assembled cut Malformed is_live 1 0
  credit_spared : Differs (acting sparing_credits) assembled credit Malformed is_live 0 1
  stranger_ends : Differs (acting ending_by_strangers) assembled strange WrongEsa is_live 1 0
  waiting_ends : Differs (acting ending_waiting) queued wrong WrongEsa is_live 1 0
  right_number : (left_by call assembled wrong).answer ≡ Err WrongEsa
  wrong_number : (left_by (acting ending87) assembled wrong).answer ≡ Err Malformed

shown : Shown
unfolding goes course
shown = record {
  nothing_ends = record { kind = refl; refuses = record { moment = refl; right = refl; wrong = refl }; right_shows = refl; wrong_shows = refl };
  missing_ends = record { kind = refl; refuses = record { moment = refl; right = refl; wrong = refl }; right_shows = refl; wrong_shows = refl };
  credit_spared = record { kind = refl; refuses = record { moment = refl; right = refl; wrong = refl }; right_shows = refl; wrong_shows = refl };
  stranger_ends = record { kind = refl; refuses = record { moment = refl; right = refl; wrong = refl }; right_shows = refl; wrong_shows = refl };
  waiting_ends = record { kind = refl; refuses = record { moment = refl; right = refl; wrong = refl }; right_shows = refl; wrong_shows = refl };
  right_number = refl;
  wrong_number = refl;
}

noted_shown : (f : List ℕ → Code) → Differs (acting (λ s sender input. noting_it s sender input f)) assembled wrong WrongEsa second_noted 0 9895
unfolding goes course
noted_shown f = record { kind = refl; refuses = record { moment = refl; right = refl; wrong = refl }; right_shows = refl; wrong_shows = refl }

answered_shown : (f : List ℕ → Code) → Differs (acting (λ s sender input. answering_it s sender input f)) assembled wrong WrongEsa texts 1 2
unfolding goes course
answered_shown f = record { kind = refl; refuses = record { moment = refl; right = refl; wrong = refl }; right_shows = refl; wrong_shows = refl }

-- ---- each is shut out

pub nothing_ending_shut_out : Always (acting ending_nothing) LeftBehind → ⊥
nothing_ending_shut_out h = let z : ◌≡◌ {A = ℕ} 0 1 = same_shown _ assembled wrong WrongEsa is_live 0 1 shown.nothing_ends h in omega arith

pub missing_ending_shut_out : Always (acting ending_by_missing) LeftBehind → ⊥
missing_ending_shut_out h = let z : ◌≡◌ {A = ℕ} 1 0 = same_shown _ assembled cut Malformed is_live 1 0 shown.missing_ends h in omega arith

pub sparing_credits_shut_out : Always (acting sparing_credits) LeftBehind → ⊥
sparing_credits_shut_out h = let z : ◌≡◌ {A = ℕ} 0 1 = same_shown _ assembled credit Malformed is_live 0 1 shown.credit_spared h in omega arith

pub strangers_ending_shut_out : Always (acting ending_by_strangers) LeftBehind → ⊥
strangers_ending_shut_out h = let z : ◌≡◌ {A = ℕ} 1 0 = same_shown _ assembled strange WrongEsa is_live 1 0 shown.stranger_ends h in omega arith

pub waiting_ending_shut_out : Always (acting ending_waiting) LeftBehind → ⊥
waiting_ending_shut_out h = let z : ◌≡◌ {A = ℕ} 1 0 = same_shown _ queued wrong WrongEsa is_live 1 0 shown.waiting_ends h in omega arith

pub always_87_shut_out : Always (acting ending87) Numbered → ⊥
always_87_shut_out h =
    let z : ◌≡◌ {A = ℕ} 87 80 =
    ap answer_number (sym shown.wrong_number ∙ h (deeds assembled) wrong ∙ sym (numbers_are_right (deeds assembled) wrong) ∙ shown.right_number) in
    omega arith

pub noting_shut_out : (f : List ℕ → Code) → Always (acting (λ s sender input. noting_it s sender input f)) LeftBehind → ⊥
noting_shut_out f h = let z : ◌≡◌ {A = ℕ} 0 9895 = same_shown _ assembled wrong WrongEsa second_noted 0 9895 (noted_shown f) h in omega arith

pub answering_shut_out : (f : List ℕ → Code) → Always (acting (λ s sender input. answering_it s sender input f)) LeftBehind → ⊥
answering_shut_out f h = let z : ◌≡◌ {A = ℕ} 1 2 = same_shown _ assembled wrong WrongEsa texts 1 2 (answered_shown f) h in omega arith
