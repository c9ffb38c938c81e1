-- The table rules of the house, in the groups in which they are tested.
use Rattle.std.specs.Prelude.{ℕ, ◌/◌, ◌^◌, ◌≤◌, ◌<◌, ◌≡◌, true, List, length, take, drop}
use Rattle.book_read.specs.Book.{most_money}
use Rattle.book_read.specs.Accounts.{Stream}
use Rattle.settle.specs.Rules.{sum}
use Rattle.book_read.specs.Range.{Each, Rising, is_short, stream_codes}
use Rattle.model.specs.State.{House}
use Rattle.tables.specs.declared.Desk.{Desk}
use Rattle.tables.specs.Rows.{streams_on}

-- the house of a desk and its columns
abbrev pub house_on : Desk → (codes flags : List ℕ) → House
house_on d codes flags = record { streams = streams_on d; banks = d.banks; codes = codes; flags = flags }

abbrev pub AllShort : List ℕ → Type 0
AllShort l = Each (λ x. is_short x ≡ true) l

abbrev pub AllZero : List ℕ → Type 0
AllZero l = Each (λ x. x ≡ 0) l

abbrev pub Sublimits : List ℕ → Type 0
Sublimits l = Each (λ x. x ≤ most_money) l

-- "a stream bit with no stream" is not there
abbrev pub Flagged : (streams : ℕ) → List ℕ → Type 0
Flagged streams l = Each (λ x. x / 2 < 2 ^ streams) l

pub record Lengths (codes flags balances sublimits : List ℕ) : Type 0 where
  pub codes_long : length codes ≡ 64
  pub flags_long : length flags ≡ 64
  pub balances_long : length balances ≡ 64
  pub sublimits_long : length sublimits ≡ 64

pub record RightStreams (xs : List Stream) : Type 0 where
  pub few : length xs ≤ 8
  pub codes : Each (λ x. is_short x.code ≡ true) xs
  pub administrators : Each (λ x. (1 ≤ x.sender) × (x.sender ≤ 255)) xs
  pub rise : Rising (stream_codes xs)

-- of the first banks, in use
pub record RightBanks (streams banks : ℕ) (codes flags : List ℕ) : Type 0 where
  pub codes_right : AllShort (take banks codes)
  pub rise : Rising (take banks codes)
  pub flags_right : Flagged streams (take banks flags)

-- "account records past it zero"
pub record ZeroPast (banks : ℕ) (codes flags balances sublimits : List ℕ) : Type 0 where
  pub codes_past : AllZero (drop banks codes)
  pub flags_past : AllZero (drop banks flags)
  pub balances_past : AllZero (drop banks balances)
  pub sublimits_past : AllZero (drop banks sublimits)

-- "Balances, their total and sub-limits"
pub record RightMoney (balances sublimits : List ℕ) : Type 0 where
  pub sublimits_right : Sublimits sublimits
  pub total : sum balances ≤ most_money
