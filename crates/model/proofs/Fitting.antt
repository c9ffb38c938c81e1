-- The texts of a call fit: at most 321 of them, each of at most 105 bytes.
use Prim.Native.Nat.{ℕ, suc, ◌+◌, ◌*◌, ◌≤◌, ◌<◌}
use mathlib.Core.Path.{◌≡◌, refl, sym, ap, ◌∙◌}
use mathlib.Core.Bool.{true, false≢true}
use mathlib.Core.List.{List, [], ◌∷◌}
use native.Mathlib.Omega.{arith}
use lib.ListN.{length, get_or, length-append}
use borrow.Author.Tests.{lt-ltb}
use Rattle.chars.specs.Refusals.{number_of}
use Rattle.chars.specs.declared.Refusal.{Refusal}
use Rattle.chars.specs.declared.Refusal.TheVariants.{Unequal, NothingThere, Recalled as WasRecalled, NoRoom, WrongMoment, BrokenTables, ShortBuffer, BookLength, BookCheck, BookHeader, OutOfRange, BookTotal, WrongSender, UsedReference, UnknownBank, SuspendedBank, PastDate, WrongEsa, WrongLetter, FutureDate, Unsettled, Malformed, OtherSubType}
use Rattle.codes.specs.declared.Code.{Code}
use Rattle.dates.specs.Dates.{is_remembered}
use Rattle.request_read.specs.declared.whole.Reading.{Reading}
use Rattle.text_names.proofs.rules.Laws.{long_most, bin_eight}
use Rattle.response_write.specs.Texts.{answer_text}
use Rattle.response_write.specs.Values.{is_outcome, is_answer}
use Rattle.response_write.specs.declared.Outcome.{Outcome}
use Rattle.response_write.specs.declared.Outcome.TheVariants.{Settled, Rejected}
use Rattle.response_write.specs.declared.Answer.{Answer as Told}
use Rattle.response_write.specs.declared.Answer.TheVariants.{Recalled, Kept as Stays}
use Rattle.response_write.proofs.Laws.{rejected_length, settlement_length, recall_length, outcome_most}
use Rattle.queue.proofs.MemoryLaws.{by_bool}
use Rattle.book_read.specs.Range.{Each}
use Rattle.model.specs.State.{has_bin, Day, Message, Place, free, Batches, Entry, State, place_at, place_messages, place_bin, batch_of}
use Rattle.model.specs.Replies.{Reply, settlement, recall, bin_stream, replies_to, text_of, texts_from}
use Rattle.model.specs.Messages.{Acted, arrived, with_message, bin}
use Rattle.model.specs.Ending.{settled_replies, close_replies}
use Rattle.model.specs.Rules.{is_reference, is_bin, RightMessage, live_messages}
use Rattle.model.proofs.Seeking.{Answers, seek_answers, by_found}
use Rattle.model.proofs.Standing.{Standing, vacant, building, awaits, stands, Stood}
use Rattle.model.proofs.Settling.{each_append}
use Rattle.model.proofs.Admitting.{Gives, each_last}
use Rattle.model.proofs.Remembering.{same_code_lem, named_reference}
use Rattle.model.proofs.Placing.{starts}
use Rattle.model.proofs.Doing.{New, Alone, refuses, answers, Did, sent, idle, sublimits, letters, alone, repeats, recalls, completes, grows, rejects}

-- ---- one text

-- a reply has values that a text can hold
abbrev pub Fits : Reply → Type 0
Fits (settlement r b o) = (is_reference r ≡ true) × (is_bin b ≡ true) × (is_outcome o ≡ true)
Fits (recall r a) = (is_reference r ≡ true) × (is_answer a ≡ true)

answer_most : (a : Told) → length (answer_text a) ≤ 17
answer_most Recalled = omega arith
answer_most (Stays n) = omega (arith, rejected_length n)

text_fits : (n : ℕ) (y : Reply) → Fits y → length (text_of n y) ≤ 105
unfolding text_of
text_fits n (settlement r b o) h =
    omega (arith, settlement_length (record { number = n; reference = r; stream = bin_stream b; bin = b; outcome = o }) refl refl refl, long_most r, bin_eight b h.1, outcome_most o)
text_fits n (recall r a) h = omega (arith, recall_length (record { number = n; reference = r; answer = a }) refl refl, long_most r, answer_most a)

pub texts_fit : (n : ℕ) (ys : List Reply) → Each (λ y. Fits y) ys → length (texts_from n ys) ≤ 105 * length ys
unfolding texts_from
texts_fit n [] h = omega arith
texts_fit n (y ∷ ys) h = omega (arith, length-append (text_of (n + 1) y) (texts_from (n + 1) ys), text_fits (n + 1) y h.0, texts_fit (n + 1) ys h.1)

-- ---- the replies of an action, of the test, of the close

-- messages with references
abbrev pub Referring : List Message → Type 0
Referring ms = Each (λ m. is_reference m.reference ≡ true) ms

pub replies_fit : (ms : List Message) (c : Code) (o : Outcome) → Referring ms → is_bin c ≡ true → is_outcome o ≡ true → Each (λ y. Fits y) (replies_to ms c o)
unfolding replies_to
replies_fit [] c o r h i = tt
replies_fit (m ∷ ms) c o r h i = ((r.0, h, i), replies_fit ms c o r.1 h i)

-- every refusal number has two digits
pub two_digits : (f : Refusal) → number_of f < 100
two_digits Unequal = omega arith
two_digits NothingThere = omega arith
two_digits WasRecalled = omega arith
two_digits NoRoom = omega arith
two_digits WrongMoment = omega arith
two_digits BrokenTables = omega arith
two_digits ShortBuffer = omega arith
two_digits BookLength = omega arith
two_digits BookCheck = omega arith
two_digits BookHeader = omega arith
two_digits OutOfRange = omega arith
two_digits BookTotal = omega arith
two_digits WrongSender = omega arith
two_digits UsedReference = omega arith
two_digits UnknownBank = omega arith
two_digits SuspendedBank = omega arith
two_digits PastDate = omega arith
two_digits WrongEsa = omega arith
two_digits WrongLetter = omega arith
two_digits FutureDate = omega arith
two_digits Unsettled = omega arith
two_digits Malformed = omega arith
two_digits OtherSubType = omega arith

-- so a text can hold each
refused_told : (f : Refusal) → is_outcome (Rejected (number_of f)) ≡ true
unfolding is_outcome
refused_told f = lt-ltb (number_of f) 100 (two_digits f)

kept_told : (f : Refusal) → is_answer (Stays (number_of f)) ≡ true
unfolding is_answer
kept_told f = lt-ltb (number_of f) 100 (two_digits f)

recalled_told : is_answer Recalled ≡ true
unfolding is_answer
recalled_told = refl

settled_told : (d t : ℕ) → d < 36525 → t < 86400 → is_outcome (Settled d t) ≡ true
unfolding is_outcome
settled_told d t h k = rw (lt-ltb d 36525 h, lt-ltb t 86400 k) refl

pub right_referring : (banks n : ℕ) (ms : List Message) → Each (RightMessage banks n) ms → Referring ms
right_referring banks n [] h = tt
right_referring banks n (m ∷ ms) h = (h.0.reference, right_referring banks n ms h.1)

-- the references of a live batch's messages
place_referring : (banks : ℕ) {x : Place} {m n : ℕ} → Standing banks x m n → Referring (place_messages x)
place_referring banks vacant = tt
place_referring banks (building {b = b} r l) = right_referring banks b.count b.messages r.messages
place_referring banks (awaits {b = b} r d g) = right_referring banks b.count b.messages r.messages
place_referring banks (stands {b = b} r d) = right_referring banks b.count b.messages r.messages

-- the BIN of a live batch
live_bin : (banks : ℕ) (c : Code) {x : Place} {m n : ℕ} → Standing banks x m n → has_bin c x ≡ true → is_bin c ≡ true
live_bin banks c vacant h = absurd (false≢true h)
live_bin banks c (building {b = b} r l) h = ap (λ (z : Code). is_bin z) (sym (same_code_lem b.bin c h)) ∙ r.bin
live_bin banks c (awaits {b = b} r d g) h = ap (λ (z : Code). is_bin z) (sym (same_code_lem b.bin c h)) ∙ r.bin
live_bin banks c (stands {b = b} r d) h = ap (λ (z : Code). is_bin z) (sym (same_code_lem b.bin c h)) ∙ r.bin

place_fits : (banks : ℕ) (o : Outcome) → is_outcome o ≡ true → {x : Place} {m n : ℕ} → Standing banks x m n → Each (λ y. Fits y) (replies_to (place_messages x) (place_bin x) o)
unfolding replies_to
place_fits banks o i vacant = tt
place_fits banks o i (building {b = b} r l) = replies_fit b.messages b.bin o (right_referring banks b.count b.messages r.messages) r.bin i
place_fits banks o i (awaits {b = b} r d g) = replies_fit b.messages b.bin o (right_referring banks b.count b.messages r.messages) r.bin i
place_fits banks o i (stands {b = b} r d) = replies_fit b.messages b.bin o (right_referring banks b.count b.messages r.messages) r.bin i

module _ (s : State) (h : Stood s.house.banks s.batches) (r : Reading) (g : Gives r) where
  alone_fits : {y : Reply} → New s r → Alone s r y → Fits y
  alone_fits n (refuses f i) = (named_reference s r g n, (g.settlement i).bin, refused_told f)
  alone_fits n (answers f) = (named_reference s r g n, kept_told f)

  found_bin : (c : Code) (p : ℕ) → Answers (has_bin c) s.batches.places free p → is_bin c ≡ true
  found_bin c p a = live_bin s.house.banks c (h.each p) a.yes

  pub acted_fit : {a : Acted} → Did s r a → Each (λ y. Fits y) a.replies
  acted_fit (sent (idle n)) = tt
  acted_fit (sublimits k x b l) = tt
  acted_fit (letters k x p c m w) = tt
  acted_fit (sent (alone n y q w)) = (alone_fits w q, tt)
  acted_fit (sent (repeats p c f i)) = replies_fit (place_messages (place_at s.batches p)) c _ (place_referring s.house.banks (h.each p)) (found_bin c p i.there) (refused_told f)
  acted_fit (sent (recalls p f n w)) = (
    (named_reference s r g n, recalled_told),
    replies_fit (place_messages (place_at s.batches p)) (bin s r) (Rejected (number_of f)) (place_referring s.house.banks (h.each p)) (found_bin (bin s r) p w.there) (refused_told f),
  )
  acted_fit (sent (completes stream b k p x j d e f)) = tt
  acted_fit (sent (grows stream b k p x j d e)) = tt
  acted_fit (sent (rejects f b k p x j)) =
      let t = starts s h r (g.settlement j.settlement) j.start in
      replies_fit (with_message s r x).messages x.bin (Rejected (number_of f))
      (each_last (λ m. is_reference m.reference ≡ true) x.messages (arrived s r) (right_referring s.house.banks x.count x.messages t.messages) (named_reference s r g j.new))
      t.bin (refused_told f)

module _ (banks : ℕ) (b : Batches) (h : Stood banks b) where
  pub settled_fit : (d : Day) → d.date < 36525 → d.clock < 86400 → (done : List ℕ) → Each (λ y. Fits y) (settled_replies d b done)
  unfolding settled_replies
  settled_fit d i t [] = tt
  settled_fit d i t (p ∷ done) = each_append banks (λ y. Fits y) (replies_to (place_messages (place_at b p)) (place_bin (place_at b p)) (Settled d.date d.clock)) (settled_replies d b done) (place_fits banks (Settled d.date d.clock) (settled_told d.date d.clock i t) (h.each p)) (settled_fit d i t done)

  pub close_fit : (now : ℕ) (es : List Entry) → Each (λ y. Fits y) (close_replies now b es)
  unfolding close_replies
  close_fit now [] = tt
  close_fit now (e ∷ es) =
      by_bool (is_remembered e.day now)
      (λ t.
      by_found (batch_of b e.code)
      (λ p f.
      rw (t, f) (each_append banks (λ y. Fits y) (replies_to (place_messages (place_at b p)) e.code (Rejected (number_of Unsettled))) (close_replies now b es)
      (replies_fit (place_messages (place_at b p)) e.code _ (place_referring banks (h.each p)) (live_bin banks e.code (h.each p) (seek_answers (has_bin e.code) free b.places p f).yes) (refused_told Unsettled)) (close_fit now es)))
      (λ f. rw (t, f) (close_fit now es)))
      (λ t. rw t (close_fit now es))

  -- "32 live batches, 1 to 10 messages in a batch"
  pub ten : {x : Place} {m n : ℕ} → Standing banks x m n → length (place_messages x) ≤ 10
  ten vacant = omega arith
  ten (building r l) = omega (arith, r.count.1)
  ten (awaits r c g) = omega (arith, r.count.1, c.whole)
  ten (stands r c) = omega (arith, r.count.1, c.whole)

  tens : (ps : List Place) → ((p : ℕ) → length (place_messages (get_or ps p free)) ≤ 10) → live_messages ps ≤ 10 * length ps
  tens [] f = omega arith
  tens (x ∷ ps) f = omega (arith, f 0, tens ps (λ p. f (suc p)))

  pub few_messages : live_messages b.places ≤ 320
  few_messages = omega (arith, tens b.places (λ p. ten (h.each p)), h.long)
