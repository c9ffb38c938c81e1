-- "The text has every field once, in this order, and nothing else".
use Rattle.std.specs.Prelude.{ℕ, List, [], ◌∷◌, cond, length, eqb, ltb, Result, Ok, Err}
use Rattle.chars.specs.Words.{bytes, member}
use Rattle.chars.specs.declared.Refusal.TheVariants.{OtherSubType}
use Rattle.codes.specs.Codes.{no_code}
use Rattle.text_scan.specs.declared.Cursor.{Cursor}
use Rattle.text_values.specs.Values.{no_part, code_of}
use Rattle.text_values.specs.declared.Part.{Part}
use Rattle.text_fields.specs.Fields.{absent, broken, nothing, place, on_good, field_at}
use Rattle.text_fields.specs.declared.Break.{Break}
use Rattle.text_fields.specs.declared.Item.{Item}
use Rattle.text_fields.specs.declared.Kind.TheVariants.{Empty, Reference, Numeral, Word, Bin, Count}
use Rattle.request_read.specs.terms.Terms.{no_terms, on_whole, terms_at}
use Rattle.request_read.specs.declared.terms.Terms.{Terms}
use Rattle.request_read.specs.payments.Payments.{none, payments_at}
use Rattle.request_read.specs.declared.payments.Payments.{Payments}
use Rattle.request_read.specs.declared.whole.Named.{Named}
use Rattle.request_read.specs.declared.whole.Reached.{Reached}
use Rattle.request_read.specs.declared.whole.Reached.TheVariants.{Nothing, Stream, Bin as Both}
use Rattle.request_read.specs.declared.whole.Address.{Address}
use Rattle.request_read.specs.declared.whole.Head.{Head}
use Rattle.request_read.specs.declared.whole.Outcome.{Outcome}
use Rattle.request_read.specs.declared.whole.Outcome.TheVariants.{Settlement, Recall, Refused}
use Rattle.request_read.specs.declared.whole.Reading.{Reading}
use Rattle.request_read.specs.declared.whole.Begun.{Begun}

-- a reference or a BIN and its code
unfoldable pub named_at : List ℕ → Part → Named
named_at s p = record { part = p; code = code_of s p }

abbrev pub no_name : Named
no_name = record { part = no_part; code = no_code }

abbrev pub address : Reached → Item → Named → Address
address r stream bin = record { reached = r; stream = stream; bin = bin }

abbrev pub nowhere : Address
nowhere = address Nothing nothing no_name

abbrev pub to_stream : Item → Address
to_stream stream = address Stream stream no_name

abbrev pub head : Named → Item → Address → Head
head reference t a = record { reference = reference; subtype = t; address = a }

abbrev pub bare : Outcome → Head → Reading
bare o h = record { outcome = o; head = h; terms = no_terms; payments = none; n = 0; count = nothing }

-- "the first break" decides; the sub type of a request, the stream and the BIN are kept where they were read well
abbrev pub refusal : Item → Break → Address → Reading
refusal t b a = bare (Refused b) (head no_name t a)

-- and none of them before
abbrev pub unread : Break → Reading
unread b = refusal nothing b nowhere

abbrev pub settlement : Head → Terms → Payments → Item → Reading
settlement h t p count = record { outcome = Settlement; head = h; terms = t; payments = p.items; n = p.n; count = count }

-- 77E, 22A and 119
unfoldable pub address_at : List ℕ → ℕ → Result (Address × Cursor) (Break × Address)
address_at s at =
    on_good (field_at s at (bytes ":77E:") Empty) (λ b. Err (b, nowhere)) (λ empty c.
    on_good (field_at s c.at (bytes ":22A:") (Word 4)) (λ b. Err (b, nowhere)) (λ stream d.
    on_good (field_at s d.at (bytes ":119:") (Bin stream.part)) (λ b. Err (b, to_stream stream)) (λ bin e.
    Ok (address Both stream (named_at s bin.part), e))))

abbrev pub on_to : {A : Type 0} → Result (Address × Cursor) (Break × Address) → (Break → Address → A) → (Address → Cursor → A) → A
on_to (Ok (a, c)) d k = k a c
on_to (Err (b, a)) d k = d b a

abbrev pub cut_by : Result Cursor Break → Break
cut_by (Ok c) = absent 0
cut_by (Err b) = b

abbrev pub on_done : {A : Type 0} → Result Cursor Break → (Break → A) → (Cursor → A) → A
on_done (Ok c) d k = k c
on_done (Err b) d k = d b

-- "and nothing else": whatever follows the last field breaks the text there
abbrev pub ending : List ℕ → ℕ → Head → Reading → Reading
ending s at h r = cond (ltb at (length s)) (refusal h.subtype (absent at) h.address) r

-- 16A, 171, 175, the payments, and 203, which counts them
unfoldable pub settlement_at : List ℕ → ℕ → Head → Reading
settlement_at s at h =
    on_whole (terms_at s at) (λ b. refusal h.subtype b h.address) (λ t c.
    on_done (payments_at s c.at).ending (λ b. refusal h.subtype b h.address) (λ d.
    on_good (field_at s d.at (bytes ":203:") (Count (payments_at s c.at).n)) (λ b. refusal h.subtype b h.address) (λ count e.
    ending s e.at h (settlement h t (payments_at s c.at) count))))

-- "A recall ends after 119."
unfoldable pub recall_at : List ℕ → ℕ → Head → Reading
recall_at s at h = ending s at h (bare Recall h)

-- what follows 12
unfoldable pub message_at : List ℕ → ℕ → Named → Item → Reading
message_at s at reference t =
    on_to (address_at s at) (refusal t) (λ a c.
    cond (eqb t.number 131) (settlement_at s c.at (head reference t a)) (recall_at s c.at (head reference t a)))

-- "Tags and values in text order: the first break gives 87; a well-formed sub type other than 131 or 133 gives 88 at that line"
unfoldable pub request_at : List ℕ → Reading
request_at s =
    on_good (field_at s 0 (bytes ":20:") Reference) unread (λ reference c.
    on_good (field_at s c.at (bytes ":12:") (Numeral 3)) unread (λ t d.
    cond (member t.number (131 ∷ 133 ∷ []))
    (message_at s d.at (named_at s reference.part) t)
    (unread (broken c.at OtherSubType))))

-- ---- the same in two parts: how a text begins, and what follows

abbrev pub broken_off : Item → Break → Address → Begun
broken_off t b a = record { outcome = Refused b; head = head no_name t a; next = place 0 }

-- 77E, 22A and 119
unfoldable pub addressed_at : List ℕ → ℕ → Named → Item → Begun
addressed_at s at reference t =
    on_to (address_at s at) (broken_off t) (λ a c.
    cond (eqb t.number 131)
    (record { outcome = Settlement; head = head reference t a; next = c })
    (record { outcome = Recall; head = head reference t a; next = c }))

-- 20 and 12 before them
unfoldable pub beginning_at : List ℕ → Begun
beginning_at s =
    on_good (field_at s 0 (bytes ":20:") Reference) (λ b. broken_off nothing b nowhere) (λ reference c.
    on_good (field_at s c.at (bytes ":12:") (Numeral 3)) (λ b. broken_off nothing b nowhere) (λ t d.
    cond (member t.number (131 ∷ 133 ∷ []))
    (addressed_at s d.at (named_at s reference.part) t)
    (broken_off nothing (broken c.at OtherSubType) nowhere)))

abbrev pub on_outcome : {A : Type 0} → Outcome → A → A → (Break → A) → A
on_outcome Settlement settles recalls breaks = settles
on_outcome Recall settles recalls breaks = recalls
on_outcome (Refused b) settles recalls breaks = breaks b

-- what is read of a text that begins so
unfoldable pub read_on : List ℕ → Begun → Reading
read_on s b =
    on_outcome b.outcome (settlement_at s b.next.at b.head) (recall_at s b.next.at b.head) (λ why. bare (Refused why) b.head)
