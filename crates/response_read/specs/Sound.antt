-- The responses that a text can hold, by the characters of their codes, and the texts that are accepted.
use Rattle.std.specs.Prelude.{ℕ, ◌≤◌, ◌<◌, ◌≡◌, true, false, List, ◌++◌, length}
use Rattle.chars.specs.Chars.{is_digit, is_code}
use Rattle.codes.specs.Codes.{packed, long_of}
use Rattle.codes.specs.declared.Code.{Code}
use Rattle.text_names.specs.rules.Names.{forbidden}
use Rattle.text_scan.specs.Spelling.{All}
use Rattle.response_write.specs.Values.{is_outcome, is_answer}
use Rattle.response_write.specs.Texts.{settlement_text, recall_text}
use Rattle.response_write.specs.declared.Settlement.{Settlement as Response132}
use Rattle.response_write.specs.declared.Recall.{Recall as Response134}
use Rattle.response_read.specs.declared.Reply.{Reply}
use Rattle.response_read.specs.declared.Reply.TheVariants.{Settlement, Recall, Refused}

-- "reference, 1 to 16 of A-Z 0-9, not beginning RITS, ACLR or ASXC"
pub record Referred (c : Code) : Type 0 where
  pub name : List ℕ
  pub code : c ≡ long_of name
  pub some : 1 ≤ length name
  pub few : length name ≤ 16
  pub codes : All is_code name
  pub free : forbidden name ≡ false

-- "stream, 4 of A-Z 0-9", and "BIN: the 4 of the stream, then 4 digits"
pub record Named (stream : ℕ) (bin : Code) : Type 0 where
  pub four : List ℕ
  pub digits : List ℕ
  pub short : stream ≡ packed 4 four
  pub long : bin ≡ long_of (four ++ digits)
  pub size : length four ≡ 4
  pub more : length digits ≡ 4
  pub codes : All is_code four
  pub numerals : All is_digit digits

pub record Sound (r : Response132) : Type 0 where
  pub number : r.number < 10000000
  pub reference : Referred r.reference
  pub batch : Named r.stream r.bin
  pub outcome : is_outcome r.outcome ≡ true

pub record SoundRecall (r : Response134) : Type 0 where
  pub number : r.number < 10000000
  pub reference : Referred r.reference
  pub answer : is_answer r.answer ≡ true

-- a text that is accepted is the text of its response, and the response is sound
abbrev pub Back : List ℕ → Reply → Type 0
Back s (Settlement r) = (s ≡ settlement_text r) × Sound r
Back s (Recall r) = (s ≡ recall_text r) × SoundRecall r
Back s (Refused b) = Unit {0}

-- no text of more than 105 bytes is accepted
abbrev pub Shortness : List ℕ → Reply → Type 0
Shortness s (Settlement r) = length s ≤ 105
Shortness s (Recall r) = length s ≤ 69
Shortness s (Refused b) = Unit {0}
