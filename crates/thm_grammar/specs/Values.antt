-- What an accepted request gives: each value is one that document 01's table allows.
use Rattle.std.specs.Prelude.{ℕ, ◌≤◌, ◌<◌, ◌≡◌, List, ◌⊎◌, length, get_or}
use Rattle.codes.specs.Codes.{packed, long_of, short_end, short_text, long_text}
use Rattle.codes.specs.declared.Code.{Code}
use Rattle.dates.specs.Dates.{days_of_century}
use Rattle.clock.specs.Clock.{minutes_of_day}
use Rattle.text_values.specs.Grammar.{IsReference, IsWord, IsBin, IsLetters}
use Rattle.request_read.specs.declared.terms.Activation.{Activation}
use Rattle.request_read.specs.declared.terms.Activation.TheVariants.{AtOnce, Minute}
use Rattle.request_read.specs.payments.Payments.{no_payment}
use Rattle.request_read.specs.declared.payments.Payment.{Payment}
use Rattle.request_read.specs.declared.whole.Head.{Head}
use Rattle.request_read.specs.declared.whole.Reading.{Reading}
use Rattle.settle.specs.Rules.{most_cents}

-- the characters of a reference's or a BIN's code
pub record Spells (v : List ℕ) (c : Code) : Type 0 where
  pub code : c ≡ long_of v
  pub text : long_text c ≡ v

-- the four characters of a stream, a bank or of letters
pub record SpellsFour (v : List ℕ) (n : ℕ) : Type 0 where
  pub word : n ≡ packed 4 v
  pub small : n < short_end
  pub text : short_text n ≡ v

pub record GivenReference (c : Code) : Type 0 where
  pub value : List ℕ
  pub is : IsReference value
  pub spells : Spells value c

pub record GivenFour (n : ℕ) : Type 0 where
  pub value : List ℕ
  pub is : IsWord 4 value
  pub spells : SpellsFour value n

pub record GivenBin (stream : List ℕ) (c : Code) : Type 0 where
  pub value : List ℕ
  pub is : IsBin stream value
  pub spells : Spells value c

pub record GivenLetters (n : ℕ) : Type 0 where
  pub value : List ℕ
  pub is : IsLetters value
  pub spells : SpellsFour value n

pub record GivesHead (h : Head) : Type 0 where
  pub reference : GivenReference h.reference.code
  pub stream : GivenFour h.address.stream.number
  pub bin : GivenBin stream.value h.address.bin.code

-- "113 stands after DR and never after CR"
abbrev pub GivenSide : ℕ → ℕ → Type 0
GivenSide side letters = ((side ≡ 0) × (letters ≡ 0)) ⊎ ((side ≡ 1) × GivenLetters letters)

pub record GivesPayment (p : Payment) : Type 0 where
  pub side : GivenSide p.side.number p.letters.number
  pub money : p.amount.number ≤ most_cents
  pub bank : GivenFour p.bank.number

abbrev pub InDay : Activation → Type 0
InDay AtOnce = Unit {0}
InDay (Minute m) = m < minutes_of_day

pub record GivesSettlement (r : Reading) : Type 0 where
  pub head : GivesHead r.head
  pub subtype : r.head.subtype.number ≡ 131
  pub first : 1 ≤ r.terms.number
  pub number : r.terms.number ≤ r.terms.count
  pub count : r.terms.count ≤ 10
  pub day : r.terms.date.number < days_of_century
  pub minute : InDay r.terms.activation
  pub some : 1 ≤ r.n
  pub few : r.n ≤ 10
  pub places : length r.payments ≡ 10
  pub payments : (i : ℕ) → i < r.n → GivesPayment (get_or r.payments i no_payment)

pub record GivesRecall (r : Reading) : Type 0 where
  pub head : GivesHead r.head
  pub subtype : r.head.subtype.number ≡ 133
