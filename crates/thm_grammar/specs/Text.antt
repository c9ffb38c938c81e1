-- The grammar of a request: "The text has every field once, in this order, and nothing else"; and what a reading says of such a text: the
-- numbers, and "each field as the part of the text where it stands".
use Rattle.std.specs.Prelude.{ℕ, suc, ◌+◌, ◌≤◌, ◌≡◌, List, [], ◌⊎◌, length, get_or}
use Rattle.std.proofs.Common.{inl, inr}
use Rattle.chars.specs.Words.{bytes}
use Rattle.codes.specs.Codes.{packed, long_of}
use Rattle.text_scan.specs.Spelling.{value_of}
use Rattle.text_values.specs.Values.{text_of}
use Rattle.text_values.specs.declared.Part.{Part}
use Rattle.text_values.specs.Grammar.{IsEmpty, IsReference, IsNumeral, IsWord, IsBin, IsNumbers, IsDate, IsTime, IsAmount, IsLetters, IsCount, cents_in}
use Rattle.text_fields.specs.Grammar.{Line}
use Rattle.request_read.specs.declared.terms.Activation.{Activation}
use Rattle.request_read.specs.declared.terms.Activation.TheVariants.{AtOnce, Minute}
use Rattle.request_read.specs.declared.payments.Payment.{Payment}
use Rattle.request_read.specs.declared.whole.Head.{Head}
use Rattle.request_read.specs.declared.whole.Reading.{Reading}
use Rattle.request_read.specs.payments.Payments.{no_payment}

-- ---- the text

-- the lines 20 to 119 of a sub type, and then r
pub record HeadText (kind : ℕ) (s r : List ℕ) : Type 0 where
  pub r₁ : List ℕ
  pub r₂ : List ℕ
  pub r₃ : List ℕ
  pub r₄ : List ℕ
  pub reference : Line (bytes ":20:") IsReference s r₁
  pub three_digits : Line (bytes ":12:") (λ (v : List ℕ). IsNumeral 3 v × (value_of 0 v ≡ kind)) r₁ r₂
  pub empty : Line (bytes ":77E:") IsEmpty r₂ r₃
  pub stream : Line (bytes ":22A:") (IsWord 4) r₃ r₄
  pub bin : Line (bytes ":119:") (IsBin stream.value) r₄ r

-- "A recall ends after 119."
abbrev pub RecallText : List ℕ → Type 0
RecallText s = HeadText 133 s []

-- "127, 32B, 113, 102: one payment .. 113 stands after DR and never after CR": l is a payment, and then r
pub data PaymentText : List ℕ → List ℕ → Type 0 where
  credit : {l m n r : List ℕ} → Line (bytes ":127:") (λ (v : List ℕ). v ≡ bytes "CR") l m → Line (bytes ":32B:") IsAmount m n → Line (bytes ":102:") (IsWord 4) n r → PaymentText l r
  debit : {l m n o r : List ℕ} → Line (bytes ":127:") (λ (v : List ℕ). v ≡ bytes "DR") l m → Line (bytes ":32B:") IsAmount m n → Line (bytes ":113:") IsLetters n o → Line (bytes ":102:") (IsWord 4) o r → PaymentText l r

-- so many payments, one after the other
pub data PaymentsText : ℕ → List ℕ → List ℕ → Type 0 where
  none_left : {r : List ℕ} → PaymentsText 0 r r
  one_more : {k : ℕ} {l m r : List ℕ} → PaymentText l m → PaymentsText k m r → PaymentsText (suc k) l r

-- what follows 119 in a settlement request
pub record BodyText (l : List ℕ) : Type 0 where
  pub r₂ : List ℕ
  pub r₃ : List ℕ
  pub r₄ : List ℕ
  pub r₅ : List ℕ
  pub numbers : Line (bytes ":16A:") IsNumbers l r₂
  pub date : Line (bytes ":171:") IsDate r₂ r₃
  pub activation : (r₃ ≡ r₄) ⊎ Line (bytes ":175:") IsTime r₃ r₄
  pub many : ℕ
  pub least : 1 ≤ many
  pub most : many ≤ 10
  pub payments : PaymentsText many r₄ r₅
  pub count : Line (bytes ":203:") (IsCount many) r₅ []

pub record SettlementText (s : List ℕ) : Type 0 where
  pub rest : List ℕ
  pub head : HeadText 131 s rest
  pub body : BodyText rest

-- ---- what a reading says of it

-- what the head says, by its lines: the numbers, and the parts
pub record HeadSays (kind : ℕ) (s r : List ℕ) (h : Head) : Type 0 where
  pub text : HeadText kind s r
  pub reference : h.reference.code ≡ long_of text.reference.value
  pub subtype : h.subtype.number ≡ kind
  pub stream : h.address.stream.number ≡ packed 4 text.stream.value
  pub bin : h.address.bin.code ≡ long_of text.bin.value
  pub reference_part : text_of s h.reference.part ≡ text.reference.value
  pub subtype_part : text_of s h.subtype.part ≡ text.three_digits.value
  pub stream_part : text_of s h.address.stream.part ≡ text.stream.value
  pub bin_part : text_of s h.address.bin.part ≡ text.bin.value

-- "the line may be missing": then its part is empty
abbrev pub ActivationSays : {l r : List ℕ} → ((l ≡ r) ⊎ Line (bytes ":175:") IsTime l r) → Activation → Type 0
ActivationSays (inl e) m = m ≡ AtOnce
ActivationSays (inr g) m = m ≡ Minute g.is.minute

abbrev pub ActivationPart : (s : List ℕ) {l r : List ℕ} → ((l ≡ r) ⊎ Line (bytes ":175:") IsTime l r) → Part → Type 0
ActivationPart s (inl e) p = text_of s p ≡ []
ActivationPart s (inr g) p = text_of s p ≡ g.value

-- the numbers of a payment: "127 is `CR` or `DR`", 0 and 1; a credit has no letters
pub record PaymentIs (side cents letters bank : ℕ) (p : Payment) : Type 0 where
  pub side_is : p.side.number ≡ side
  pub cents_are : p.amount.number ≡ cents
  pub letters_are : p.letters.number ≡ letters
  pub bank_is : p.bank.number ≡ bank

-- its parts of the text s
pub record PartsAre (s side amount letters bank : List ℕ) (p : Payment) : Type 0 where
  pub side_part : text_of s p.side.part ≡ side
  pub amount_part : text_of s p.amount.part ≡ amount
  pub letters_part : text_of s p.letters.part ≡ letters
  pub bank_part : text_of s p.bank.part ≡ bank

-- what a payment says, by its text; a credit's part of letters is empty
abbrev pub PaymentSays : {l r : List ℕ} → PaymentText l r → Payment → Type 0
PaymentSays (credit g₁ g₂ g₃) p = PaymentIs 0 (cents_in g₂.is) 0 (packed 4 g₃.value) p
PaymentSays (debit g₁ g₂ g₃ g₄) p = PaymentIs 1 (cents_in g₂.is) (packed 4 g₃.value) (packed 4 g₄.value) p

abbrev pub PaymentParts : (s : List ℕ) {l r : List ℕ} → PaymentText l r → Payment → Type 0
PaymentParts s (credit g₁ g₂ g₃) p = PartsAre s g₁.value g₂.value [] g₃.value p
PaymentParts s (debit g₁ g₂ g₃ g₄) p = PartsAre s g₁.value g₂.value g₃.value g₄.value p

-- and so many of them, which stand in a list from a place on
abbrev pub PaymentsSay : {k : ℕ} {l r : List ℕ} → ℕ → PaymentsText k l r → List Payment → Type 0
PaymentsSay n none_left items = Unit {0}
PaymentsSay n (one_more p q) items = PaymentSays p (get_or items n no_payment) × PaymentsSay (n + 1) q items

abbrev pub PaymentsParts : (s : List ℕ) {k : ℕ} {l r : List ℕ} → ℕ → PaymentsText k l r → List Payment → Type 0
PaymentsParts s n none_left items = Unit {0}
PaymentsParts s n (one_more p q) items = PaymentParts s p (get_or items n no_payment) × PaymentsParts s (n + 1) q items

-- what the lines after 119 say
pub record BodySays (l : List ℕ) (r : Reading) : Type 0 where
  pub text : BodyText l
  pub number : r.terms.number ≡ value_of 0 text.numbers.is.number
  pub count : r.terms.count ≡ value_of 0 text.numbers.is.count
  pub date : r.terms.date.number ≡ text.date.is.day
  pub activation : ActivationSays text.activation r.terms.activation
  pub n : r.n ≡ text.many
  pub size : length r.payments ≡ 10
  pub payments : PaymentsSay 0 text.payments r.payments

-- and their parts of the text s
pub record BodyParts (s : List ℕ) {l : List ℕ} (g : BodyText l) (r : Reading) : Type 0 where
  pub numbers : text_of s r.terms.numbers ≡ g.numbers.value
  pub date : text_of s r.terms.date.part ≡ g.date.value
  pub activation : ActivationPart s g.activation r.terms.activated
  pub payments : PaymentsParts s 0 g.payments r.payments
  pub count : text_of s r.count.part ≡ g.count.value

pub record SettlementSays (s : List ℕ) (r : Reading) : Type 0 where
  pub rest : List ℕ
  pub head : HeadSays 131 s rest r.head
  pub body : BodySays rest r
  pub parts : BodyParts s body.text r

abbrev pub RecallSays : List ℕ → Reading → Type 0
RecallSays s r = HeadSays 133 s [] r.head
