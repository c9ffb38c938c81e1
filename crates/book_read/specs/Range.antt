-- The range of a book: what its date, its streams and its banks may be.
use Rattle.std.specs.Prelude.{ℕ, ◌/◌, ◌^◌, ◌≤◌, ◌<◌, ◌≡◌, Bool, true, ◌&&◌, List, [], ◌∷◌, ltb, length}
use Rattle.chars.specs.Chars.{is_code}
use Rattle.codes.specs.Codes.{short_end, short_text}
use Rattle.dates.specs.Dates.{days_of_century, sum}
pub use Rattle.text_names.specs.rules.Names.{all_are}
use Rattle.book_read.specs.declared.Field.TheVariants.{Code, Flags, Balance, Sublimit}
use Rattle.book_read.specs.Book.{most_money}
use Rattle.book_read.specs.Accounts.{Stream, Bank, column}

-- something holds of each of a list
abbrev pub Each : {A : Type 0} → (A → Type 0) → List A → Type 0
Each P [] = Unit {0}
Each P (x ∷ xs) = P x × Each P xs

-- "4 of A-Z 0-9", as a number
abbrev pub is_short : ℕ → Bool
is_short v = ltb v short_end && all_are is_code (short_text v)

-- "Codes rise strictly."
abbrev pub Rising : List ℕ → Type 0
Rising [] = Unit {0}
Rising (x ∷ []) = Unit {0}
Rising (x ∷ y ∷ l) = (x < y) × Rising (y ∷ l)

abbrev pub stream_codes : List Stream → List ℕ
stream_codes [] = []
stream_codes (x ∷ xs) = x.code ∷ stream_codes xs

pub record InRange (day : ℕ) (streams : List Stream) (banks : List Bank) : Type 0 where
  -- "a true date of 2000 to 2099"
  pub date : day < days_of_century
  -- "1 to 64 banks, 1 to 8 streams"
  pub some_streams : 1 ≤ length streams
  pub few_streams : length streams ≤ 8
  pub some_banks : 1 ≤ length banks
  pub few_banks : length banks ≤ 64
  -- "stream 4, administrator 1 to 255", "Codes rise strictly."
  pub stream_codes_short : Each (λ x. is_short x.code ≡ true) streams
  pub administrators : Each (λ x. (1 ≤ x.sender) × (x.sender ≤ 255)) streams
  pub streams_rise : Rising (stream_codes streams)
  -- "bank 4, flag 0 active or 1 suspended, stream bits (1 is the first stream)", and no "stream bit with no stream"
  pub bank_codes : Each (λ x. is_short x ≡ true) (column Code banks)
  pub banks_rise : Rising (column Code banks)
  pub flags_right : Each (λ x. x / 2 < 2 ^ length streams) (column Flags banks)
  -- "Balances, their total and sub-limits run from 0 to 6,400,000,000,000,000."
  pub balances_right : Each (λ x. x ≤ most_money) (column Balance banks)
  pub sublimits_right : Each (λ x. x ≤ most_money) (column Sublimit banks)
  pub total : sum (column Balance banks) ≤ most_money
