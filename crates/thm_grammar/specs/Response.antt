-- What the reading of a response hands back: "each field as the part of the text where it stands".
-- The text itself is that of `settlement_text` or `recall_text`.
use Rattle.std.specs.Prelude.{ℕ, ◌≡◌, List, [], ◌++◌}
use Rattle.chars.specs.Words.{bytes}
use Rattle.clock.specs.Clock.{hhmmss_of}
use Rattle.codes.specs.Codes.{short_text, long_text}
use Rattle.codes.specs.declared.Code.{Code}
use Rattle.dates.specs.Dates.{date_of}
use Rattle.text_put.specs.Digits.{digits_of}
use Rattle.text_values.specs.Values.{text_of}
use Rattle.text_values.specs.declared.Part.{Part}
use Rattle.response_write.specs.declared.Outcome.{Outcome}
use Rattle.response_write.specs.declared.Outcome.TheVariants.{Settled, Rejected}
use Rattle.response_write.specs.declared.Answer.{Answer}
use Rattle.response_write.specs.declared.Answer.TheVariants.{Recalled, Kept}
use Rattle.response_write.specs.declared.Settlement.{Settlement as Response132}
use Rattle.response_write.specs.declared.Recall.{Recall as Response134}
use Rattle.response_read.specs.declared.Parts.{Parts}
use Rattle.response_read.specs.declared.Reply.{Reply}
use Rattle.response_read.specs.declared.Reply.TheVariants.{Settlement, Recall, Refused}

-- "20 (`B` and seven digits ..), 12, 77E, 21 (the request's reference)"
pub record ReplyHeadParts (s : List ℕ) (number sub_type : ℕ) (reference : Code) (p : Parts) : Type 0 where
  pub number_part : text_of s p.number ≡ bytes "B" ++ digits_of 7 number
  pub subtype_part : text_of s p.subtype ≡ digits_of 3 sub_type
  pub reference_part : text_of s p.reference ≡ long_text reference

-- "22A, 119"
pub record BatchParts (s : List ℕ) (stream : ℕ) (bin : Code) (four long : Part) : Type 0 where
  pub stream_part : text_of s four ≡ short_text stream
  pub bin_part : text_of s long ≡ long_text bin

-- 451 and what follows it: "13E (date, HHMMSS) after 0 or 432 (two digits) after 1"
pub record EndParts (s status detail : List ℕ) (p q : Part) : Type 0 where
  pub status_part : text_of s p ≡ status
  pub detail_part : text_of s q ≡ detail

abbrev pub OutcomeParts : List ℕ → Outcome → Part → Part → Type 0
OutcomeParts s (Settled day second) p q = EndParts s (bytes "0") (digits_of 6 (date_of day) ++ digits_of 6 (hhmmss_of second)) p q
OutcomeParts s (Rejected number) p q = EndParts s (bytes "1") (digits_of 2 number) p q

-- "451, and 432 after 1"; after 0 the part is empty
abbrev pub AnswerParts : List ℕ → Answer → Part → Part → Type 0
AnswerParts s Recalled p q = EndParts s (bytes "0") [] p q
AnswerParts s (Kept number) p q = EndParts s (bytes "1") (digits_of 2 number) p q

pub record SettlementParts (s : List ℕ) (r : Response132) (p : Parts) : Type 0 where
  pub head : ReplyHeadParts s r.number 132 r.reference p
  pub batch : BatchParts s r.stream r.bin p.stream p.bin
  pub outcome : OutcomeParts s r.outcome p.status p.detail

-- a 134 has no lines 22A and 119: those parts are empty
pub record RecallParts (s : List ℕ) (r : Response134) (p : Parts) : Type 0 where
  pub head : ReplyHeadParts s r.number 134 r.reference p
  pub stream_part : text_of s p.stream ≡ []
  pub bin_part : text_of s p.bin ≡ []
  pub answer : AnswerParts s r.answer p.status p.detail

abbrev pub ReplyParts : List ℕ → Reply → Parts → Type 0
ReplyParts s (Settlement r) p = SettlementParts s r p
ReplyParts s (Recall r) p = RecallParts s r p
ReplyParts s (Refused b) p = Unit {0}
