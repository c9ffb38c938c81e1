-- The reading of a response, 132 or 134: "Their reader wants fields as in a request and a true time, and gives 87 at the first break,
-- 88 for another sub type."
use Rattle.std.specs.Prelude.{ℕ, ◌/◌, ◌%◌, cond, List, ltb, eqb, length, Option, Some, None, Result, Ok, Err}
use Rattle.chars.specs.Words.{bytes}
use Rattle.chars.specs.declared.Refusal.TheVariants.{OtherSubType}
use Rattle.clock.specs.Clock.{second_of}
use Rattle.dates.specs.Dates.{day_of}
use Rattle.text_scan.specs.Scan.{on_next, lit_at}
use Rattle.text_scan.specs.declared.Cursor.{Cursor}
use Rattle.text_values.specs.Values.{no_part, code_of, on_day}
use Rattle.text_values.specs.declared.Part.{Part}
use Rattle.text_fields.specs.Fields.{absent, broken, wrong, item, on_good, field_at}
use Rattle.text_fields.specs.declared.Break.{Break}
use Rattle.text_fields.specs.declared.Item.{Item}
use Rattle.text_fields.specs.declared.Kind.TheVariants.{Empty, Reference, Numeral, Word, Bin}
use Rattle.response_write.specs.declared.Outcome.{Outcome}
use Rattle.response_write.specs.declared.Outcome.TheVariants.{Settled, Rejected}
use Rattle.response_write.specs.declared.Answer.{Answer}
use Rattle.response_write.specs.declared.Answer.TheVariants.{Recalled, Kept}
use Rattle.response_read.specs.declared.Head.{Head}
use Rattle.response_read.specs.declared.Batch.{Batch}
use Rattle.response_read.specs.declared.Reply.TheVariants.{Settlement, Recall, Refused}
use Rattle.response_read.specs.declared.Parts.{Parts}
use Rattle.response_read.specs.declared.ReadResponse.{ReadResponse}

abbrev pub no_parts : Parts
no_parts = record { number = no_part; subtype = no_part; reference = no_part; stream = no_part; bin = no_part; status = no_part; detail = no_part }

-- "the first break" decides
abbrev pub refused : Break → ReadResponse
refused b = record { reply = Refused b; parts = no_parts }

-- "20 (`B` and seven digits ..)": the part holds its `B`
unfoldable pub response_number_at : List ℕ → Result (Item × Cursor) Break
response_number_at s =
    on_next (lit_at s 0 (bytes ":20:")) (Err (absent 0)) (λ a.
    on_good (field_at s a (bytes "B") (Numeral 7)) (λ b. Err (wrong 0)) (λ i c.
    Ok (item a i.part.end i.number, c)))

-- "77E, 21 (the request's reference)"
unfoldable pub request_reference_at : List ℕ → ℕ → Result (Item × Cursor) Break
request_reference_at s at =
    on_good (field_at s at (bytes ":77E:") Empty) Err (λ empty c.
    field_at s c.at (bytes ":21:") Reference)

-- "22A, 119"
unfoldable pub batch_at : List ℕ → ℕ → Result (Batch × Cursor) Break
batch_at s at =
    on_good (field_at s at (bytes ":22A:") (Word 4)) Err (λ stream c.
    on_good (field_at s c.at (bytes ":119:") (Bin stream.part)) Err (λ bin d.
    Ok (record { stream = stream; bin = bin }, d)))

abbrev pub on_second : {A : Type 0} → Option ℕ → A → (ℕ → A) → A
on_second (Some n) d k = k n
on_second None d k = d

-- "13E (date, HHMMSS)": "a true date of 2000 to 2099" and "a true time"
unfoldable pub settled_at : List ℕ → ℕ → Part → Result (Outcome × Part × Part × Cursor) Break
settled_at s at status =
    on_good (field_at s at (bytes ":13E:") (Numeral 12)) Err (λ i c.
    on_day (day_of (i.number / 1000000)) (Err (wrong at)) (λ day.
    on_second (second_of (i.number % 1000000)) (Err (wrong at)) (λ second.
    Ok (Settled day second, status, i.part, c))))

-- "432 (two digits)"
unfoldable pub rejected_at : List ℕ → ℕ → Part → Result (Outcome × Part × Part × Cursor) Break
rejected_at s at status =
    on_good (field_at s at (bytes ":432:") (Numeral 2)) Err (λ i c.
    Ok (Rejected i.number, status, i.part, c))

-- "451 (0 or 1)": what follows after 0, after 1, and after another digit
abbrev pub by_status : {A : Type 0} → ℕ → A → A → A → A
by_status n zero one other = cond (eqb n 0) zero (cond (eqb n 1) one other)

-- of a 132: "451 (0 or 1), then 13E after 0 or 432 after 1"
unfoldable pub ended_at : List ℕ → ℕ → Result (Outcome × Part × Part × Cursor) Break
ended_at s at =
    on_good (field_at s at (bytes ":451:") (Numeral 1)) Err (λ i c.
    by_status i.number (settled_at s c.at i.part) (rejected_at s c.at i.part) (Err (wrong at)))

-- of a 134: "451, and 432 after 1"
unfoldable pub answer_at : List ℕ → ℕ → Result (Answer × Part × Part × Cursor) Break
answer_at s at =
    on_good (field_at s at (bytes ":451:") (Numeral 1)) Err (λ i c.
    by_status i.number
    (Ok (Recalled, i.part, no_part, c))
    (on_good (field_at s c.at (bytes ":432:") (Numeral 2)) Err (λ n d. Ok (Kept n.number, i.part, n.part, d)))
    (Err (wrong at)))

abbrev pub on_of : {A : Type 0} → Result (Batch × Cursor) Break → (Break → A) → (Batch → Cursor → A) → A
on_of (Ok (b, c)) d k = k b c
on_of (Err b) d k = d b

abbrev pub on_how : {A : Type 0} → Result (Outcome × Part × Part × Cursor) Break → (Break → A) → (Outcome → Part → Part → Cursor → A) → A
on_how (Ok (o, p, q, c)) d k = k o p q c
on_how (Err b) d k = d b

abbrev pub on_with : {A : Type 0} → Result (Answer × Part × Part × Cursor) Break → (Break → A) → (Answer → Part → Part → Cursor → A) → A
on_with (Ok (a, p, q, c)) d k = k a p q c
on_with (Err b) d k = d b

-- nothing may follow the last field
abbrev pub ending : List ℕ → ℕ → ReadResponse → ReadResponse
ending s at r = cond (ltb at (length s)) (refused (absent at)) r

-- a 132 of its fields
unfoldable pub settlement_of : List ℕ → Head → Item → Batch → Outcome → Part → Part → ReadResponse
settlement_of s h reference b o status detail = record {
  reply = Settlement (record { number = h.number.number; reference = code_of s reference.part; stream = b.stream.number; bin = code_of s b.bin.part; outcome = o });
  parts = record { number = h.number.part; subtype = h.subtype.part; reference = reference.part; stream = b.stream.part; bin = b.bin.part; status = status; detail = detail };
}

-- a 134 of its fields
unfoldable pub recall_of : List ℕ → Head → Item → Answer → Part → Part → ReadResponse
recall_of s h reference a status detail = record {
  reply = Recall (record { number = h.number.number; reference = code_of s reference.part; answer = a });
  parts = record { number = h.number.part; subtype = h.subtype.part; reference = reference.part; stream = no_part; bin = no_part; status = status; detail = detail };
}

-- "132 lines: .. 77E, 21, 22A, 119, 451, then 13E .. or 432"
unfoldable pub settlement_at : List ℕ → ℕ → Head → ReadResponse
settlement_at s at h =
    on_good (request_reference_at s at) refused (λ reference c.
    on_of (batch_at s c.at) refused (λ b d.
    on_how (ended_at s d.at) refused (λ o status detail e.
    ending s e.at (settlement_of s h reference b o status detail))))

-- "134: .. 77E, 21, 451, and 432 after 1"
unfoldable pub recall_at : List ℕ → ℕ → Head → ReadResponse
recall_at s at h =
    on_good (request_reference_at s at) refused (λ reference c.
    on_with (answer_at s c.at) refused (λ a status detail d.
    ending s d.at (recall_of s h reference a status detail)))

abbrev pub head : Item → Item → Head
head number subtype = record { number = number; subtype = subtype }

-- "20, 12": "87 at the first break, 88 for another sub type"
unfoldable pub response_at : List ℕ → ReadResponse
response_at s =
    on_good (response_number_at s) refused (λ number c.
    on_good (field_at s c.at (bytes ":12:") (Numeral 3)) refused (λ t d.
    cond (eqb t.number 132) (settlement_at s d.at (head number t))
    (cond (eqb t.number 134) (recall_at s d.at (head number t))
    (refused (broken c.at OtherSubType)))))
