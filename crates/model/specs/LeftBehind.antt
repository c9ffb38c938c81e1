-- "Refusal numbers", the column "left behind": what a call with steps leaves that answers a number, by the number.
use Rattle.std.specs.Prelude.{ℕ, ◌≡◌, cond, List, [], ◌∷◌, ◌++◌, eqb, set, Ok, Err}
use Rattle.chars.specs.Words.{member}
use Rattle.chars.specs.Refusals.{number_of}
use Rattle.chars.specs.declared.Refusal.{Refusal}
use Rattle.codes.specs.declared.Code.{Code}
use Rattle.request_read.specs.whole.Request.{request_at}
use Rattle.request_read.specs.declared.whole.Outcome.{Outcome as Read}
use Rattle.request_read.specs.declared.whole.Outcome.TheVariants.{Settlement, Recall, Refused as Unread}
use Rattle.request_read.specs.declared.whole.Reading.{Reading}
use Rattle.response_write.specs.declared.Outcome.TheVariants.{Rejected}
use Rattle.response_write.specs.declared.Answer.TheVariants.{Kept}
use Rattle.model.specs.Kinds.{steps, kind_of, Own, receives, changes_sublimit, changes_status, nothing, own_of}
use Rattle.model.specs.State.{on_found, seek, is_free, Message, free, Known, State, place_at, place_messages, place_bin}
use Rattle.model.specs.Replies.{settlement, recall, replies_to}
use Rattle.model.specs.Messages.{Acted, place, leaving, untouched, is_there, stream_place, administrator, is_broken_part, assembling, reference, bin, stream_code, is_known, with_reference, with_bin, arrived}
use Rattle.model.specs.Calls.{Call, Engine, Result, judge, begun, tested, goes_on}

module _ (s : State) (r : Reading) where
  -- "batch ended": its place is zeroed, and its messages are answered with the number. It was being assembled, so queue and order of completion
  -- are as they were
  abbrev pub batch_ended : Refusal → (p : ℕ) → List Message → Code → Known → Acted
  batch_ended q p messages bin k = record {
    answer = Err q;
    replies = replies_to messages bin (Rejected (number_of q));
    wakes = place p ∷ [];
    books = s.books;
    batches = record { places = set s.batches.places p free; pending = s.batches.pending; queue = s.batches.queue };
    known = k;
  }

  -- "rejects the batch with this message in it": the one that is being assembled, or the one that the message begins, whose BIN stays noted; for
  -- a BIN that is remembered and not being assembled "this message alone"
  abbrev pub own_ended : Refusal → Acted
  own_ended q =
      cond (is_known s r)
      (on_found (assembling s.batches (bin s r))
      (leaving s (Err q) (settlement (reference s r) (bin s r) (Rejected (number_of q)) ∷ []) [] s.batches (with_reference s r))
      (λ p. batch_ended q p (place_messages (place_at s.batches p) ++ (arrived s r ∷ [])) (place_bin (place_at s.batches p)) (with_reference s r)))
      (on_found (seek is_free s.batches.places) (untouched s q) (λ p. batch_ended q p (arrived s r ∷ []) (bin s r) (with_bin s r (with_reference s r))))

  -- the batch that the BIN is assembling ends, and nothing is noted; where none is, nothing is touched
  abbrev pub assembled_ended : Refusal → Acted
  assembled_ended q =
      on_found (assembling s.batches (bin s r)) (untouched s q) (λ p. batch_ended q p (place_messages (place_at s.batches p)) (bin s r) s.known)

  -- a 131: 01, and what breaks a rule of step 5 (87 only where the stream is in the book), ends its batch; 74 ends the batch being assembled, and notes
  -- nothing; 73 and 04 leave "clock, queue test"
  abbrev pub settlement_left : Refusal → Acted
  settlement_left q =
      cond (member (number_of q) (1 ∷ 76 ∷ 77 ∷ 78 ∷ 84 ∷ [])) (own_ended q)
      (cond (eqb (number_of q) 87) (cond (is_there (stream_place s.house (stream_code s r))) (own_ended q) (untouched s q))
      (cond (eqb (number_of q) 74) (assembled_ended q) (untouched s q)))

  -- a 133: with 02 its "reference is noted and its 134 written"; all other numbers leave "clock, queue test"
  abbrev pub recall_left : Refusal → Acted
  recall_left q =
      cond (eqb (number_of q) 2) (leaving s (Err q) (recall (reference s r) (Kept (number_of q)) ∷ []) [] s.batches (with_reference s r)) (untouched s q)

  -- 80, 81 and 87 of step 1 in a part that is broken after its BIN was read well: "the batch ends with the same code" if its administrator sent it
  abbrev pub part_left : (sender : ℕ) → Refusal → Acted
  part_left sender q =
      on_found (stream_place s.house (stream_code s r)) (untouched s q) (λ i.
      cond (eqb sender (administrator s.house i)) (assembled_ended q) (untouched s q))

  -- 80, 81, 87 and 88 of step 1 in any other text: "touches no batch"
  abbrev pub text_left : (sender : ℕ) → Read → Refusal → Acted
  text_left sender Settlement q = settlement_left q
  text_left sender Recall q = recall_left q
  text_left sender (Unread b) q = cond (is_broken_part r.head b) (part_left sender q) (untouched s q)

  -- a change that is refused leaves "clock, queue test"; a tick and the close are not refused
  abbrev pub left_by : Own → Refusal → Acted
  left_by (receives sender) q = text_left sender r.outcome q
  left_by (changes_sublimit code cents) q = untouched s q
  left_by (changes_status code bin letter) q = untouched s q
  left_by nothing q = untouched s q

-- a call whose action left `a` runs its queue test
abbrev pub finished : Engine → Call → Acted → Result
finished e c a = goes_on (begun e.state c.asked.clock) a (tested c.asked.quick a e.memory)

abbrev pub LeftBehind : Engine → Call → Result → Type 0
LeftBehind e c r = judge e.state c ≡ Ok tt → kind_of c.asked.action ≡ steps → (q : Refusal) → r.answer ≡ Err q
    → r ≡ finished e c (left_by (begun e.state c.asked.clock) (request_at c.asked.input) (own_of c.asked.action) q)
