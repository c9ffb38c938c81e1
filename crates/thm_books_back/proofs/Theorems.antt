-- Books that are written and read again, books that are read and written again.
use Rattle.std.specs.Prelude.{Ok}
use Prim.Native.Nat.{ℕ, ◌+◌, ◌*◌, ◌≤◌}
use mathlib.Core.Path.{◌≡◌, sym, ◌∙◌, ap}
use mathlib.Core.Bool.{true}
use mathlib.Core.List.{List}
use mathlib.Core.Logic.{◌↔◌}
use native.Mathlib.Omega.{arith}
use lib.ListN.{length, take, drop}
use lib.Seq.{sets, sets-eq, take_at}
use borrow.Author.Tests.{le-leb}
use Rattle.codes.specs.Codes.{Bytes}
use Rattle.book_read.specs.declared.Book.{Book}
use Rattle.book_read.specs.Book.{blocks_in, bank_count, book_rules, book_check}
use Rattle.book_read.specs.Block.{entries_at}
use Rattle.book_read.specs.Accounts.{Stream, Bank, Rows, day_in, streams_in, banks_in, roomy, filled, book_in, read_book}
use Rattle.book_read.specs.Range.{InRange}
use Rattle.book_read.proofs.Accepted.{accepted, none_broken}
use Rattle.book_read.proofs.Ranging.{accepted_in_range}
use Rattle.book_read.proofs.Filling.{each_length}
use Rattle.book_write.specs.Closing.{blocks_for, book_bytes, stream_of, bank_of, streams_of, banks_of, holds, write_book}
use Rattle.thm_books_back.specs.Reopened.{size_of, again, Reopened}
use Rattle.thm_books_back.specs.Fitting.{Fitting}
use Rattle.thm_books_back.proofs.Fits.{in_range_fits}
use Rattle.thm_books_back.proofs.Again.{written_again}
use Rattle.thm_books_back.proofs.Kept.{kept, streams_kept, banks_kept}
use Rattle.thm_books_back.proofs.Whole.{all_hold, book_long, blocks_in_lem, count, banks_counted_lem, day_back, streams_back, banks_back}

-- every book that is written from accounts in range is accepted
pub written_accepted : (day : ℕ) (streams : List Stream) (banks : List Bank) → InRange day streams banks → book_check (book_bytes day streams banks) ≡ Ok tt
unfolding book_check
written_accepted day streams banks g = none_broken (book_rules (book_bytes day streams banks)) (all_hold day streams banks (in_range_fits g) g)

-- accounts that the bytes of a book can hold read back as they are, in range or not
pub fitting_reads_back : (day : ℕ) (streams : List Stream) (banks : List Bank) → Fitting day streams banks
    → (day_in (book_bytes day streams banks) ≡ day) × (streams_in (book_bytes day streams banks) ≡ streams) × (banks_in (book_bytes day streams banks) ≡ banks)
fitting_reads_back day streams banks f = (day_back day streams banks f, streams_back day streams banks f, banks_back day streams banks f)

pub written_reads_back : (day : ℕ) (streams : List Stream) (banks : List Bank) → InRange day streams banks
    → (day_in (book_bytes day streams banks) ≡ day) × (streams_in (book_bytes day streams banks) ≡ streams) × (banks_in (book_bytes day streams banks) ≡ banks)
written_reads_back day streams banks g = fitting_reads_back day streams banks (in_range_fits g)

-- so of these just the ones in range are accepted
pub accepted_exactly : (day : ℕ) (streams : List Stream) (banks : List Bank) → Fitting day streams banks
    → (book_check (book_bytes day streams banks) ≡ Ok tt) ↔ InRange day streams banks
accepted_exactly day streams banks f =
    let back = fitting_reads_back day streams banks f in (
      (λ h. rw (back.0, back.1, back.2) at (accepted_in_range (book_bytes day streams banks) h)),
      written_accepted day streams banks,
    )

-- so too by way of the functions: rows `t` with the day and the counts of `b` that `write` put into a buffer, read into other rows
module _ (out : List ℕ) (b : Book) (t : Rows) where
  abbrev xs : List Stream
  xs = streams_of t b.streams

  abbrev bs : List Bank
  bs = banks_of t b.banks

  abbrev s : List ℕ
  s = book_bytes b.day xs bs

  abbrev size : ℕ
  size = size_of b

  streams_many : length xs ≡ b.streams
  unfolding streams_of
  streams_many = each_length (stream_of t.streams) 0 b.streams

  banks_many : length bs ≡ b.banks
  unfolding banks_of
  banks_many = each_length (bank_of t.codes t.flags t.balances t.sublimits) 0 b.banks

  module _ (h : holds b t ≡ true) (room : size ≤ length out) where
    pub made : write_book out b t ≡ record { out = sets out 0 s; answer = Ok size }
    unfolding write_book
    made = rw (h, le-leb size (length out) room)

    pub put_there : Fitting b.day xs bs → take size (write_book out b t).out ≡ s
    put_there f =
        let long : length s ≡ size = book_long b.day xs bs f ∙ ap (λ (n : ℕ). 512 * blocks_for n) banks_many in
        ap (λ w. take size w.out) made
        ∙ ap (take size) (sets-eq s out 0 (omega arith))
        ∙ take_at s (drop (0 + length s) out) size long

  module _ (into : Rows) (h : holds b t ≡ true) (g : InRange b.day xs bs) (room : size ≤ length out) (wide : roomy into ≡ true) where
    fits : Fitting b.day xs bs
    fits = in_range_fits g

    counts : (entries_at s 0 ≡ b.streams) × (bank_count s (blocks_in s) ≡ b.banks)
    counts = (
      count b.day xs bs fits ∙ streams_many,
      ap (bank_count s) (blocks_in_lem b.day xs bs fits) ∙ banks_counted_lem b.day xs bs fits ∙ banks_many,
    )

    sound : book_check s ≡ Ok tt
    sound = written_accepted b.day xs bs g

    book_same : book_in s ≡ b
    unfolding book_in
    book_same = rw (day_back b.day xs bs fits, counts.0, counts.1)

    read_so : again out b t into ≡ record { rows = filled s into; answer = Ok b }
    unfolding read_book
    read_so = ap (λ (l : List ℕ). read_book l into) (put_there h room fits) ∙ rw (wide, sound, book_same)

    pub write_then_read : Reopened out b t into
    write_then_read = record {
      written = ap (λ w. w.answer) (made h room);
      book = ap (λ w. w.answer) read_so;
      streams =
          ap (λ w. streams_of w.rows b.streams) read_so ∙ ap (streams_of (filled s into)) (sym counts.0)
          ∙ streams_kept s (accepted s sound) into wide ∙ streams_back b.day xs bs fits;
      banks =
          ap (λ w. banks_of w.rows b.banks) read_so ∙ ap (banks_of (filled s into)) (sym counts.1)
          ∙ banks_kept s (accepted s sound) into wide ∙ banks_back b.day xs bs fits;
    }

-- an accepted book, read and written again, is the same bytes: one book of accounts has one file
pub same_again : (s : List ℕ) → Bytes s → book_check s ≡ Ok tt → book_bytes (day_in s) (streams_in s) (banks_in s) ≡ s
same_again s b h = written_again s b (accepted s h)

-- so too by way of the rows: what `read` leaves in them, given to `write`, is the book itself, and nothing past it
pub read_then_write : (s : List ℕ) → Bytes s → book_check s ≡ Ok tt → (t : Rows) → roomy t ≡ true → (out : List ℕ) → length s ≤ length out
    → write_book out (book_in s) (filled s t) ≡ record { out = sets out 0 s; answer = Ok (length s) }
read_then_write s b h t r out l = kept s (accepted s h) t r b out l
