-- What the bytes of a book can hold, whether it is in range or not.
use Rattle.std.specs.Prelude.{ℕ, ◌/◌, ◌^◌, ◌≤◌, ◌<◌, List, length}
use Rattle.codes.specs.Codes.{short_end}
use Rattle.dates.specs.Dates.{days_of_century}
use Rattle.book_read.specs.Accounts.{Stream, Bank}
use Rattle.book_read.specs.Range.{Each}

-- four bytes of code, one of administrator
pub record FitStream (x : Stream) : Type 0 where
  pub code : x.code < short_end
  pub sender : x.sender < 256

-- four bytes of code, one of stream bits, eight of each amount
pub record FitBank (x : Bank) : Type 0 where
  pub code : x.code < short_end
  pub bits : x.flags / 2 < 256
  pub balance : x.balance < 256 ^ 8
  pub sublimit : x.sublimit < 256 ^ 8

-- a date that six digits tell, counts that the headers take, and entries that fit; codes need be none, and money may be past its range
pub record Fitting (day : ℕ) (streams : List Stream) (banks : List Bank) : Type 0 where
  pub date : day < days_of_century
  pub few_streams : length streams ≤ 8
  pub some_banks : 1 ≤ length banks
  pub few_banks : length banks ≤ 64
  pub streams_fit : Each FitStream streams
  pub banks_fit : Each FitBank banks
