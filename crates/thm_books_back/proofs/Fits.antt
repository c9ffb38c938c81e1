-- What is in range fits into the bytes of a book: the range, entry by entry.
use Prim.Native.Nat.{ℕ, ◌/◌, ◌^◌, ◌≤◌, ◌<◌}
use mathlib.Core.Path.{◌≡◌}
use mathlib.Core.Bool.{true}
use mathlib.Core.List.{List, [], ◌∷◌}
use native.Mathlib.Nat.{pow-le-pow_right}
use native.Mathlib.Omega.{arith}
use lib.Dec.{ltb}
use lib.ListN.{length}
use borrow.Author.Tests.{ltb-true}
use Rattle.codes.specs.Codes.{short_end}
use Rattle.book_read.specs.declared.Field.TheVariants.{Code, Flags, Balance, Sublimit}
use Rattle.book_read.specs.Book.{most_money}
use Rattle.book_read.specs.Accounts.{Stream, Bank, column}
use Rattle.book_read.specs.Range.{Each, is_short, InRange}
use Rattle.book_read.proofs.Accepted.{both}
use Rattle.book_read.proofs.Ranging.{RightStream, RightBank}
use Rattle.thm_books_back.specs.Fitting.{FitStream, FitBank, Fitting}

right_streams : (xs : List Stream) → Each (λ x. is_short x.code ≡ true) xs → Each (λ x. (1 ≤ x.sender) × (x.sender ≤ 255)) xs → Each RightStream xs
right_streams [] c a = tt
right_streams (x ∷ xs) c a = (record { code = c.0; sender = a.0 }, right_streams xs c.1 a.1)

right_banks : (n : ℕ) (bs : List Bank) → Each (λ x. is_short x ≡ true) (column Code bs) → Each (λ x. x / 2 < 2 ^ n) (column Flags bs)
    → Each (λ x. x ≤ most_money) (column Balance bs) → Each (λ x. x ≤ most_money) (column Sublimit bs) → Each (RightBank n) bs
right_banks n [] c f b l = tt
right_banks n (x ∷ bs) c f b l = (record { code = c.0; flags = f.0; balance = b.0; sublimit = l.0 }, right_banks n bs c.1 f.1 b.1 l.1)

pub short_fits : (c : ℕ) → is_short c ≡ true → c < short_end
short_fits c h = ltb-true c short_end (both (ltb c short_end) _ h).0

pub stream_fits : (x : Stream) → RightStream x → FitStream x
stream_fits x t = record { code = short_fits x.code t.code; sender = omega (arith, t.sender.1) }

pub bank_fits : (n : ℕ) → n ≤ 8 → (x : Bank) → RightBank n x → FitBank x
bank_fits n few x t = record {
  code = short_fits x.code t.code;
  bits = omega (arith, t.flags, pow-le-pow_right {n = 2} (omega arith) {i = n} {j = 8} few);
  balance = omega (arith, t.balance);
  sublimit = omega (arith, t.sublimit);
}

pub each_so : {A : Type 0} (P Q : A → Type 0) → ((x : A) → P x → Q x) → (l : List A) → Each P l → Each Q l
each_so P Q f [] e = tt
each_so P Q f (x ∷ l) e = (f x e.0, each_so P Q f l e.1)

module _ {day : ℕ} {xs : List Stream} {bs : List Bank} (g : InRange day xs bs) where
  pub all_streams : Each RightStream xs
  all_streams = right_streams xs g.stream_codes_short g.administrators

  pub all_banks : Each (RightBank (length xs)) bs
  all_banks = right_banks (length xs) bs g.bank_codes g.flags_right g.balances_right g.sublimits_right

  pub in_range_fits : Fitting day xs bs
  in_range_fits = record {
    date = g.date;
    few_streams = g.few_streams;
    some_banks = g.some_banks;
    few_banks = g.few_banks;
    streams_fit = each_so RightStream FitStream stream_fits xs all_streams;
    banks_fit = each_so (RightBank (length xs)) FitBank (bank_fits (length xs) g.few_streams) bs all_banks;
  }
