-- "A message's action, first failure decides".
use Rattle.std.specs.Prelude.{ℕ, ◌/◌, ◌%◌, ◌^◌, Bool, true, false, ◌&&◌, ◌||◌, not, cond, List, [], ◌∷◌, ◌++◌, eqb, leb, length, get_or, take, set, Ok, Err}
use Rattle.chars.specs.Words.{member}
use Rattle.chars.specs.Refusals.{number_of}
use Rattle.chars.specs.declared.Refusal.{Refusal}
use Rattle.chars.specs.declared.Refusal.TheVariants.{Unequal, NothingThere, Recalled as WasRecalled, NoRoom, WrongSender, UsedReference, UnknownBank, SuspendedBank, PastDate, FutureDate, Malformed}
use Rattle.codes.specs.declared.Code.{Code}
use Rattle.clock.specs.Clock.{has_begun}
use Rattle.request_read.specs.declared.terms.Activation.{Activation}
use Rattle.request_read.specs.declared.terms.Activation.TheVariants.{AtOnce, Minute}
use Rattle.request_read.specs.declared.payments.Payment.{Payment as Line}
use Rattle.request_read.specs.declared.whole.Outcome.{Outcome as Read}
use Rattle.request_read.specs.declared.whole.Outcome.TheVariants.{Settlement, Recall, Refused as Unread}
use Rattle.request_read.specs.declared.whole.Head.{Head}
use Rattle.request_read.specs.declared.whole.Reading.{Reading}
use Rattle.request_read.specs.declared.whole.Reached.{Reached}
use Rattle.request_read.specs.declared.whole.Reached.TheVariants.{Nothing, Stream as ToStream, Bin as ToBin}
use Rattle.text_fields.specs.declared.Break.{Break}
use Rattle.book_read.specs.Accounts.{Stream}
use Rattle.settle.specs.Payments.{Payment, payment, bank_of}
use Rattle.settle.specs.Settlement.{Accounts}
use Rattle.settle.specs.Rules.{credits, debits}
use Rattle.response_write.specs.declared.Outcome.TheVariants.{Rejected}
use Rattle.response_write.specs.declared.Answer.TheVariants.{Recalled, Kept}
use Rattle.model.specs.Answers.{Answer}
use Rattle.model.specs.State.{Found, at, nowhere, on_found, seek, House, Message, Batch, free, live, Batches, Known, State, is_free, on_live, place_at, place_messages, payments_of, with_place, batch_of}
use Rattle.model.specs.Memory.{is_used, vacant, note}
use Rattle.model.specs.Replies.{Reply, settlement, recall, replies_to}
use Rattle.model.specs.Joining.{keep}

-- what happens to the quick test's memory: all batches held at a bank are to be tried again, or the batch at a place
pub data Waking : Type 0 where
  bank : ℕ → Waking
  place : ℕ → Waking

-- what an action leaves: its answer, its texts, what it wakes, and the parts of the state that an action may change
pub record Acted : Type 0 where
  pub answer : Answer
  pub replies : List Reply
  pub wakes : List Waking
  pub books : Accounts
  pub batches : Batches
  pub known : Known

-- ---- tests in their order

pub record Rule : Type 0 where
  pub holds : Bool
  pub fault : Refusal

abbrev pub rule : Bool → Refusal → Rule
rule h r = record { holds = h; fault = r }

unfoldable pub first_broken : List Rule → Answer
first_broken [] = Ok tt
first_broken (r ∷ rs) = cond r.holds (first_broken rs) (Err r.fault)

-- ---- banks and streams

-- "Stream not in the book"
unfoldable pub stream_place : House → ℕ → Found
stream_place h code = seek (λ s. eqb s.code code) h.streams

abbrev pub no_stream : Stream
no_stream = record { code = 0; sender = 0 }

abbrev pub administrator : House → ℕ → ℕ
administrator h i = (get_or h.streams i no_stream).sender

unfoldable pub bank_place : House → ℕ → Found
bank_place h code = seek (eqb code) (take h.banks h.codes)

abbrev pub is_suspended : House → ℕ → Bool
is_suspended h p = eqb (get_or h.flags p 0 % 2) 1

-- "stream bits (1 is the first stream)"
abbrev pub is_member : House → ℕ → ℕ → Bool
is_member h stream p = eqb (get_or h.flags p 0 / 2 / 2 ^ stream % 2) 1

-- ---- batches

abbrev pub is_there : Found → Bool
is_there (at p) = true
is_there nowhere = false

-- "an ended batch's place is zeroed"
unfoldable pub ended : Batches → ℕ → Batches
ended b p = record {
  places = set b.places p free;
  pending = keep (λ q. not (eqb q p)) b.pending;
  queue = keep (λ q. not (eqb q p)) b.queue;
}

abbrev pub waits : Batches → ℕ → Bool
waits b p = member p b.pending || member p b.queue

-- "BIN is being assembled": its batch is live, and neither pending nor queued
unfoldable pub assembling : Batches → Code → Found
assembling b bin = on_found (batch_of b bin) nowhere (λ p. cond (waits b p) nowhere (at p))

-- "a pending or queued batch"
unfoldable pub waiting : Batches → Code → Found
waiting b bin = on_found (batch_of b bin) nowhere (λ p. cond (waits b p) (at p) nowhere)

-- "count or activation unlike the first message's"
abbrev pub same_activation : Activation → Activation → Bool
same_activation AtOnce AtOnce = true
same_activation AtOnce (Minute n) = false
same_activation (Minute m) AtOnce = false
same_activation (Minute m) (Minute n) = eqb m n

-- "number already there"
abbrev pub has_number : ℕ → List Message → Bool
has_number n [] = false
has_number n (m ∷ ms) = eqb m.number n || has_number n ms

abbrev pub banks_in : List Payment → List ℕ
banks_in [] = []
banks_in (p ∷ ps) = bank_of p ∷ banks_in ps

-- "When all numbers are there": they differ and are at most the count
abbrev pub is_complete : Batch → Bool
is_complete b = eqb (length b.messages) b.count

abbrev pub is_even : Batch → Bool
is_even b = eqb (credits (payments_of b.messages)) (debits (payments_of b.messages))

-- "22A and 119 were read well"
abbrev pub has_address : Reached → Bool
has_address Nothing = false
has_address ToStream = false
has_address ToBin = true

-- "where step 1 fails in a 131 after 22A and 119 were read well"; but not by "a missing mandatory field (the text's end where a tag should stand, or,
-- where a line begins, anything but a tag expected there, save 113 after CR)"
abbrev pub is_broken_part : Head → Break → Bool
is_broken_part h b = eqb h.subtype.number 131 && (has_address h.address.reached && not b.missing)

-- what an accepted text is: "131 or 133"
pub data SubType : Type 0 where
  is131 : SubType
  is133 : SubType

abbrev pub by_sub_type : {A : Type 0} → SubType → A → A → A
by_sub_type is131 x y = x
by_sub_type is133 x y = y

-- ---- a message before the state

module _ (s : State) where
  abbrev pub today : ℕ
  today = s.day.date

  abbrev pub leaving : Answer → List Reply → List Waking → Batches → Known → Acted
  leaving a r w b k = record { answer = a; replies = r; wakes = w; books = s.books; batches = b; known = k }

  -- a refusal that touches no batch and notes nothing
  abbrev pub untouched : Refusal → Acted
  untouched r = leaving (Err r) [] [] s.batches s.known

  -- a batch is ended with a number, and its messages are answered
  abbrev pub rejecting : Refusal → ℕ → Batches → List Message → Code → Known → Acted
  rejecting r p b messages bin k = leaving (Err r) (replies_to messages bin (Rejected (number_of r))) (place p ∷ []) (ended b p) k

-- Steps 1 to 6 in their order. A step that finds no fault goes on with the next, its last argument.
module _ (s : State) (r : Reading) where
  abbrev pub reference : Code
  reference = r.head.reference.code

  abbrev pub bin : Code
  bin = r.head.address.bin.code

  abbrev pub stream_code : ℕ
  stream_code = r.head.address.stream.number

  -- the batch that the BIN is assembling is rejected with a number; the message that ends it is not noted
  abbrev pub reject_assembled : Refusal → Acted
  reject_assembled f =
      on_found (assembling s.batches bin) (untouched s f) (λ p.
      rejecting s f p s.batches (place_messages (place_at s.batches p)) bin s.known)

  -- ---- 1. "Tags and values in text order: the first break gives 87 .. No batch is touched." Ticket 1: "From now on, where step 1 fails in a 131
  -- after 22A and 119 were read well, the stream is known, the sender is its administrator and that BIN is being assembled, the batch ends with the
  -- same code. A fault before that point, or a missing mandatory field (..), touches no batch".

  unfoldable pub broken_part : (sender : ℕ) → Refusal → Acted
  broken_part sender f =
      on_found (stream_place s.house stream_code) (untouched s f) (λ i.
      cond (eqb sender (administrator s.house i)) (reject_assembled f) (untouched s f))

  abbrev pub on_text : (sender : ℕ) → Read → (SubType → Acted) → Acted
  on_text sender Settlement next = next is131
  on_text sender Recall next = next is133
  on_text sender (Unread b) next = cond (is_broken_part r.head b) (broken_part sender b.refusal) (untouched s b.refusal)

  -- ---- 2. "Stream not in the book 87; sender not that stream's administrator 73. No batch is touched."

  unfoldable pub on_sender : (sender : ℕ) → ((stream : ℕ) → Acted) → Acted
  on_sender sender next =
      on_found (stream_place s.house stream_code) (untouched s Malformed) (λ i.
      cond (eqb sender (administrator s.house i)) (next i) (untouched s WrongSender))

  -- ---- 3. "Reference used by any sender .. today or on one of the 14 days before: 74. For a 131 whose BIN is being assembled, that batch is
  -- rejected with 74."

  abbrev pub repeated : SubType → Acted
  repeated is131 = reject_assembled UsedReference
  repeated is133 = untouched s UsedReference

  abbrev pub on_reference : SubType → Acted → Acted
  on_reference t next = cond (is_used (today s) reference s.known.references) (repeated t) next

  -- ---- 4. "04 if no place for the reference is free, or if a 131's BIN is not remembered and there is no free batch or BIN place. No batch
  -- is touched. Otherwise the reference is noted"

  abbrev pub is_known : Bool
  is_known = is_used (today s) bin s.known.bins

  abbrev pub reference_fits : Bool
  reference_fits = is_there (vacant (today s) s.known.references)

  abbrev pub bin_fits : Bool
  bin_fits = is_known || (is_there (seek is_free s.batches.places) && is_there (vacant (today s) s.known.bins))

  abbrev pub fits : SubType → Bool
  fits is131 = reference_fits && bin_fits
  fits is133 = reference_fits

  abbrev pub with_reference : Known
  with_reference = record { references = note (today s) reference s.known.references; bins = s.known.bins }

  abbrev pub on_room : SubType → (Known → Acted) → Acted
  on_room t next = cond (fits t) (next with_reference) (untouched s NoRoom)

  -- ---- 5. "For 131: a remembered BIN that is not being assembled 87, this message alone. A new BIN is noted."

  abbrev pub first_batch : Batch
  first_batch = record { bin = bin; count = r.terms.count; activation = r.terms.activation; messages = [] }

  abbrev pub with_bin : Known → Known
  with_bin k = record { references = k.references; bins = note (today s) bin k.bins }

  -- the batch that the message joins: its place is that of a live batch, or one that step 4 found free
  unfoldable pub on_bin : Known → (Batches → Known → ℕ → Batch → Acted) → Acted
  on_bin k next =
      cond is_known
      (on_found (assembling s.batches bin)
      (leaving s (Err Malformed) (settlement reference bin (Rejected (number_of Malformed)) ∷ []) [] s.batches k)
      (λ p. on_live (place_at s.batches p) (untouched s Malformed) (next s.batches k p)))
      (on_found (seek is_free s.batches.places) (untouched s NoRoom)
      (λ p. next (with_place s.batches p (live first_batch)) (with_bin k) p first_batch))

  -- a payment by its bank's place
  abbrev pub line_bank : Line → ℕ
  line_bank l = on_found (bank_place s.house l.bank.number) 0 (λ p. p)

  abbrev pub line_payment : Line → Payment
  line_payment l = payment (line_bank l) l.amount.number l.letters.number

  unfoldable pub line_payments : List Line → List Payment
  line_payments [] = []
  line_payments (l ∷ ls) = line_payment l ∷ line_payments ls

  abbrev pub lines : List Line
  lines = take r.n r.payments

  abbrev pub arrived : Message
  arrived = record { reference = reference; number = r.terms.number; payments = line_payments lines }

  abbrev pub with_message : Batch → Batch
  with_message b = record { bin = b.bin; count = b.count; activation = b.activation; messages = b.messages ++ (arrived ∷ []) }

  -- "bank unknown 76, suspended 77, not in the stream 76, already in this batch 87"
  unfoldable pub line_rules : (stream : ℕ) → List ℕ → List Line → List Rule
  line_rules stream taken [] = []
  line_rules stream taken (l ∷ ls) =
      rule (on_found (bank_place s.house l.bank.number) false (λ p. true)) UnknownBank
      ∷ rule (not (is_suspended s.house (line_bank l))) SuspendedBank
      ∷ rule (is_member s.house stream (line_bank l)) UnknownBank
      ∷ rule (not (member (line_bank l) taken)) Malformed
      ∷ line_rules stream (line_bank l ∷ taken) ls

  -- "Then: count or activation unlike the first message's, or number already there, 87; date before today 78, after today 84; then each
  -- payment in order"
  unfoldable pub message_rules : (stream : ℕ) → Batch → List Rule
  message_rules stream b =
      rule (eqb r.terms.count b.count) Malformed
      ∷ rule (same_activation r.terms.activation b.activation) Malformed
      ∷ rule (not (has_number r.terms.number b.messages)) Malformed
      ∷ rule (leb (today s) r.terms.date.number) PastDate
      ∷ rule (leb r.terms.date.number (today s)) FutureDate
      ∷ line_rules stream (banks_in (payments_of b.messages)) lines

  -- "Any of these rejects the batch with this message in it."
  abbrev pub on_rules : Answer → Batches → Known → ℕ → Batch → Acted → Acted
  on_rules (Ok tt) b k p x next = next
  on_rules (Err f) b k p x next = rejecting s f p b x.messages x.bin k

  -- ---- 6. "When all numbers are there: 01, or pending if its activation minute has not begun, or the queue's tail."

  abbrev pub may_queue : Activation → Bool
  may_queue AtOnce = true
  may_queue (Minute m) = has_begun s.day.clock m

  abbrev pub to_tail : Batches → Batch → ℕ → Batches
  to_tail b x p = record {
    places = set b.places p (live x);
    pending = cond (may_queue x.activation) b.pending (b.pending ++ (p ∷ []));
    queue = cond (may_queue x.activation) (b.queue ++ (p ∷ [])) b.queue;
  }

  unfoldable pub completed : Batches → Known → ℕ → Batch → Acted
  completed b k p x =
      cond (is_complete x)
      (cond (is_even x)
      (leaving s (Ok tt) [] (place p ∷ []) (to_tail b x p) k)
      (rejecting s Unequal p b x.messages x.bin k))
      (leaving s (Ok tt) [] (place p ∷ []) (with_place b p (live x)) k)

  -- ---- "A recall acts on a pending or queued batch; else its 134 carries 02." "a 134 before the batch it recalls"

  unfoldable pub recalling : Known → Acted
  recalling k =
      on_found (waiting s.batches bin)
      (leaving s (Err NothingThere) (recall reference (Kept (number_of NothingThere)) ∷ []) [] s.batches k)
      (λ p. leaving s (Ok tt)
      (recall reference Recalled ∷ replies_to (place_messages (place_at s.batches p)) bin (Rejected (number_of WasRecalled)))
      (place p ∷ [])
      (ended s.batches p)
      k)

  -- ---- the steps together

  -- step 5's rules, then step 6: the batch x at place p takes the message
  unfoldable pub admit : (stream : ℕ) → Batches → Known → ℕ → Batch → Acted
  admit stream b k p x = on_rules (first_broken (message_rules stream x)) b k p (with_message x) (completed b k p (with_message x))

-- a text from a sender
unfoldable pub message : State → (sender : ℕ) → Reading → Acted
message s sender r =
    on_text s r sender r.outcome (λ t.
    on_sender s r sender (λ stream.
    on_reference s r t
    (on_room s r t (λ k.
    by_sub_type t (on_bin s r k (admit s r stream)) (recalling s r k)))))
