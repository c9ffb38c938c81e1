-- A book that is composed from its account reads back as the account, or the account is not in range.
use Rattle.std.specs.Prelude.{Ok}
use Prim.Native.Nat.{ℕ, ◌*◌, ◌/◌, ◌^◌, ◌≤◌, ◌<◌}
use mathlib.Core.Path.{◌≡◌, ap}
use mathlib.Core.Bool.{true}
use mathlib.Core.List.{List, [], ◌∷◌}
use mathlib.Core.Logic.{◌↔◌}
use native.Mathlib.Nat.{pow-le-pow_right}
use native.Mathlib.Omega.{arith}
use lib.ListN.{length}
use borrow.Author.Tests.{le-leb}
use Rattle.dates.specs.Dates.{sum}
use Rattle.book_read.specs.declared.Field.{Field}
use Rattle.book_read.specs.declared.Field.TheVariants.{Code, Flags, Balance}
use Rattle.book_read.specs.Book.{most_money, book_check}
use Rattle.book_read.specs.Accounts.{Stream, Bank, Rows, field_of, column, roomy}
use Rattle.book_read.specs.Range.{Each, is_short, InRange}
use Rattle.book_read.proofs.Ranging.{each_all}
use Rattle.book_read.proofs.Filling.{map_each, each_length}
use Rattle.cli_book.specs.declared.BookAccount.{BookAccount}
use Rattle.cli_book.specs.Account.{book_account}
use Rattle.book_write.specs.Closing.{blocks_for, stream_of, bank_of, streams_of, banks_of, holding_columns, holding_rows, holds}
use Rattle.thm_books_back.specs.Fitting.{FitStream, FitBank, Fitting}
use Rattle.thm_books_back.specs.Reopened.{size_of, Reopened}
use Rattle.thm_books_back.proofs.Fits.{short_fits, each_so}
use Rattle.thm_books_back.proofs.Theorems.{accepted_exactly, made, put_there, write_then_read}
use Rattle.thm_accounts_back.specs.Recounted.{book_of, rows_of, told_streams, told_banks, composed, Orderly, Recounted}
use Rattle.thm_accounts_back.proofs.Whole.{Whole, account_whole}

each_both : {A : Type 0} (P Q : A → Type 0) (l : List A) → Each P l → Each Q l → Each (λ x. P x × Q x) l
each_both P Q [] p q = tt
each_both P Q (x ∷ l) p q = ((p.0, q.0), each_both P Q l p.1 q.1)

-- a part is no more than the whole
each_part : (most : ℕ) (l : List ℕ) → sum l ≤ most → Each (λ x. x ≤ most) l
each_part most [] h = tt
each_part most (x ∷ l) h = (omega arith, each_part most l (omega arith))

module _ {a : BookAccount} (w : Whole a) where
  abbrev n : ℕ
  n = (book_of a).streams

  abbrev m : ℕ
  m = (book_of a).banks

  -- the rows hold what the account counts
  rows_hold : holds (book_of a) (rows_of a) ≡ true
  unfolding holding_rows holding_columns
  rows_hold = rw (
    w.streams.size,
    w.banks.codes.size,
    w.banks.flags.size,
    w.banks.balances.size,
    w.banks.sublimits.size,
    le-leb 1 n (omega (arith, w.some_streams)),
    le-leb n 8 (omega (arith, w.streams.few)),
    le-leb 1 m (omega (arith, w.some_banks)),
    le-leb m 64 (omega (arith, w.banks.few)),
    le-leb (2 * n) 16 (omega (arith, w.streams.few)),
  )

  abbrev stream_at : ℕ → Stream
  stream_at = stream_of a.streams.row

  abbrev bank_at : ℕ → Bank
  bank_at = bank_of a.banks.codes a.banks.flags a.banks.balances a.banks.sublimits

  many_streams : length (told_streams a) ≡ n
  unfolding streams_of
  many_streams = each_length stream_at 0 n

  many_banks : length (told_banks a) ≡ m
  unfolding banks_of
  many_banks = each_length bank_at 0 m

  each_stream : (P : Stream → Type 0) → ((i : ℕ) → i < n → P (stream_at i)) → Each P (told_streams a)
  unfolding streams_of
  each_stream P h = each_all P stream_at 0 n (λ i p q. h i (omega arith))

  each_bank : (P : Bank → Type 0) → ((i : ℕ) → i < m → P (bank_at i)) → Each P (told_banks a)
  unfolding banks_of
  each_bank P h = each_all P bank_at 0 m (λ i p q. h i (omega arith))

  each_field : (P : ℕ → Type 0) (f : Field) → ((i : ℕ) → i < m → P (field_of f (bank_at i))) → Each P (column f (told_banks a))
  unfolding banks_of
  each_field P f h = rw (map_each (field_of f) bank_at 0 m) (each_all P (λ i. field_of f (bank_at i)) 0 m (λ i p q. h i (omega arith)))

  -- and the bytes of a book can hold it
  fitting : Fitting a.day (told_streams a) (told_banks a)
  fitting = record {
    date = w.date;
    few_streams = rw many_streams w.streams.few;
    some_banks = rw many_banks w.some_banks;
    few_banks = rw many_banks w.banks.few;
    streams_fit = each_stream FitStream (λ i p. record { code = short_fits _ (w.streams.codes i p); sender = w.streams.senders i p });
    banks_fit =
        each_bank FitBank (λ i p.
        record {
          code = short_fits _ (w.banks.codes.all i p);
          bits = omega (arith, w.banks.flags.all i p, pow-le-pow_right {n = 2} (omega arith) {i = n} {j = 8} w.streams.few);
          balance = omega (arith, w.banks.balances.all i p);
          sublimit = omega (arith, w.banks.sublimits.all i p);
        });
  }

  -- what is orderly is in range, for the rest was read so
  orderly_ranged : Orderly (told_streams a) (told_banks a) → InRange a.day (told_streams a) (told_banks a)
  orderly_ranged o = record {
    date = w.date;
    some_streams = rw many_streams w.some_streams;
    few_streams = rw many_streams w.streams.few;
    some_banks = rw many_banks w.some_banks;
    few_banks = rw many_banks w.banks.few;
    stream_codes_short = each_stream (λ x. is_short x.code ≡ true) w.streams.codes;
    administrators =
        each_both (λ x. 1 ≤ x.sender) (λ x. x.sender ≤ 255) (told_streams a) o.administrators
        (each_stream (λ x. x.sender ≤ 255) (λ i p. omega (arith, w.streams.senders i p)));
    streams_rise = o.streams_rise;
    bank_codes = each_field (λ x. is_short x ≡ true) Code w.banks.codes.all;
    banks_rise = o.banks_rise;
    flags_right = rw many_streams (each_field (λ x. x / 2 < 2 ^ n) Flags w.banks.flags.all);
    balances_right = each_part most_money (column Balance (told_banks a)) o.total;
    sublimits_right = o.sublimits_right;
    total = o.total;
  }

  ranged_orderly : InRange a.day (told_streams a) (told_banks a) → Orderly (told_streams a) (told_banks a)
  ranged_orderly g = record {
    administrators = each_so (λ x. (1 ≤ x.sender) × (x.sender ≤ 255)) (λ x. 1 ≤ x.sender) (λ x h. h.0) (told_streams a) g.administrators;
    streams_rise = g.streams_rise;
    banks_rise = g.banks_rise;
    sublimits_right = g.sublimits_right;
    total = g.total;
  }

  module _ (out : List ℕ) (room : 2560 ≤ length out) where
    -- 64 banks fill five blocks at the most
    enough : size_of (book_of a) ≤ length out
    unfolding blocks_for
    enough = omega (arith, w.banks.few)

    judged : (book_check (composed out a) ≡ Ok tt) ↔ InRange a.day (told_streams a) (told_banks a)
    judged = rw (put_there out (book_of a) (rows_of a) rows_hold enough fitting) (accepted_exactly a.day (told_streams a) (told_banks a) fitting)

    in_range_read : (into : Rows) → roomy into ≡ true → InRange a.day (told_streams a) (told_banks a) → Reopened out (book_of a) (rows_of a) into
    in_range_read into wide g = write_then_read out (book_of a) (rows_of a) into rows_hold g enough wide

    recount : (into : Rows) → roomy into ≡ true → Recounted out a into
    recount into wide = record {
      written = ap (λ x. x.answer) (made out (book_of a) (rows_of a) rows_hold enough);
      judged = judged;
      range = (ranged_orderly, orderly_ranged);
      read = λ h. in_range_read into wide (judged.0 h);
    }

-- whatever the text of the account: if it was read to its end, a buffer for five blocks is enough
pub recounted : (s out : List ℕ) (into : Rows) → (book_account s).stop ≡ Ok tt → 2560 ≤ length out → roomy into ≡ true → Recounted out (book_account s) into
recounted s out into h room wide = recount (account_whole s h) out room into wide

-- an account in range is told: its book is written, accepted and read back
pub in_range_told : (s out : List ℕ) (into : Rows) → (book_account s).stop ≡ Ok tt → 2560 ≤ length out → roomy into ≡ true
    → InRange (book_account s).day (told_streams (book_account s)) (told_banks (book_account s))
    → (book_check (composed out (book_account s)) ≡ Ok tt) × Reopened out (book_of (book_account s)) (rows_of (book_account s)) into
in_range_told s out into h room wide g =
    let r = recounted s out into h room wide in
    (r.judged.1 g, r.read (r.judged.1 g))
