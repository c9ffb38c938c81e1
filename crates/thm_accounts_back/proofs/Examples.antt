-- Accounts worked out: examples/two-banks.account is told; with administrator 0 it is read, and the check refuses its book.
use Rattle.std.specs.Prelude.{Ok}
use Prim.Native.Nat.{ℕ, ◌≤◌}
use mathlib.Core.Path.{◌≡◌, refl}
use mathlib.Core.Bool.{true}
use mathlib.Core.List.{List}
use native.Mathlib.Omega.{arith}
use lib.ListN.{length}
use Rattle.chars.specs.Words.{bytes}
use Rattle.chars.specs.Chars.{is_digit, is_letter, is_code, digit_value}
use Rattle.codes.specs.Codes.{pack_on, short_at}
use Rattle.dates.specs.Dates.{february, months, days_in, is_true, day_of}
use Rattle.text_scan.specs.Scan.{begins, lit_at, run, code_at, digits, digits_at, number_at}
use Rattle.cli_request.specs.Account.{line_over, is_plain, line_from, line_after, first_line}
use Rattle.book_read.specs.Book.{book_check}
use Rattle.book_read.specs.Accounts.{Rows, roomy}
use Rattle.cli_book.specs.Account.{cents_at, title_at, date_at, administrator_at, stream_at, streams_on, streams_at, named_at, bit_on, bits_on, bits_at, standing_at, money_at, bank_at, banks_on, banks_at, total_at, end_at, rows_at, book_account}
use Rattle.book_write.specs.Closing.{streams_of, banks_of}
use Rattle.thm_books_back.specs.Reopened.{Reopened}
use Rattle.thm_accounts_back.specs.Recounted.{book_of, rows_of, told_streams, told_banks, composed, Orderly}
use Rattle.thm_accounts_back.proofs.Theorems.{recounted, in_range_told}

abbrev two_banks : List ℕ
two_banks = bytes "accepted book\ndate 270203\nstream PROP 5\nbank AAAA active 10000000 3000000 PROP\nbank BBBB suspended 0 0\ntotal 10000000\n"

abbrev unserved : List ℕ
unserved = bytes "accepted book\ndate 270203\nstream PROP 0\nbank AAAA active 5 0 PROP\ntotal 5\n"

abbrev Told : List ℕ → Type 0
Told s = Orderly (told_streams (book_account s)) (told_banks (book_account s))

both_read : (((book_account two_banks).stop ≡ Ok tt) × Told two_banks) × (((book_account unserved).stop ≡ Ok tt) × (Told unserved → ⊥))
unfolding is_digit is_letter is_code digit_value pack_on short_at february months days_in is_true day_of begins lit_at run code_at digits digits_at number_at line_over is_plain line_from line_after first_line cents_at title_at date_at administrator_at stream_at streams_on streams_at named_at bit_on bits_on bits_at standing_at money_at bank_at banks_on banks_at total_at end_at rows_at book_account streams_of banks_of
both_read = (
  (
    refl,
    record {
      administrators = (omega arith, tt);
      streams_rise = tt;
      banks_rise = (omega arith, tt);
      sublimits_right = (omega arith, (omega arith, tt));
      total = omega arith;
    },
  ),
  (refl, λ o. let some : 1 ≤ 0 = o.administrators.0 in omega arith),
)

module _ (out : List ℕ) (into : Rows) (room : 2560 ≤ length out) (wide : roomy into ≡ true) where
  pub two_banks_told : (book_check (composed out (book_account two_banks)) ≡ Ok tt) × Reopened out (book_of (book_account two_banks)) (rows_of (book_account two_banks)) into
  two_banks_told =
      let r = recounted two_banks out into both_read.0.0 room wide in
      in_range_told two_banks out into both_read.0.0 room wide (r.range.1 both_read.0.1)

  pub unserved_refused : book_check (composed out (book_account unserved)) ≡ Ok tt → ⊥
  unserved_refused h =
      let r = recounted unserved out into both_read.1.0 room wide in
      both_read.1.1 (r.range.0 (r.judged.0 h))
