-- Laws of opening and of the closing book.
use Rattle.std.specs.Result.{result_unwrap_or}
use Rattle.std.specs.Prelude.{Option, Some, None, Result, Ok, Err}
use Prim.Native.Nat.{ℕ, zero, suc, ◌+◌, ◌*◌, ◌-◌, ◌≤◌, ◌<◌}
use mathlib.Core.Path.{◌≡◌, refl, sym, ap, ◌∙◌}
use mathlib.Core.Bool.{Bool, true, false, not, cond}
use mathlib.Core.List.{List, [], ◌∷◌}
use native.Mathlib.Omega.{arith}
use native.Mathlib.Numerals.{add-one}
use borrow.Author.Tests.{le-leb, not-true, not-false}
use lib.ListN.{length, get_or, set, take, drop, replicate, length-replicate}
use lib.Seq.{sets, sets-eq, take-suc-set, take-suc, take_all}
use Rattle.chars.specs.declared.Refusal.{Refusal}
use Rattle.chars.specs.declared.Refusal.TheVariants.{WrongMoment}
use Rattle.dates.specs.Dates.{day_of}
use Rattle.book_read.specs.declared.Book.{Book}
use Rattle.book_read.specs.Book.{book_check}
use Rattle.book_read.specs.Accounts.{Stream, Rows, rows_of, streams_in, banks_in, stream_row, filled as filled_rows, book_in, room_for, With, on_answer, read_book}
use Rattle.book_read.proofs.Filling.{each_length}
use Rattle.book_write.specs.Closing.{Made, book_bytes, blocks_for, holding_columns, holding_rows, streams_of, banks_of, write_book}
use Rattle.model.specs.Answers.{Answer}
use Rattle.model.specs.declared.Phase.TheVariants.{Open}
use Rattle.model.specs.Days.{is_later, on_date, opening_answer}
use Rattle.model.proofs.Reading.{readers}
use Rattle.tables.specs.declared.Desk.{Desk}
use Rattle.tables.specs.Words.{filled}
use Rattle.tables.specs.Rows.{streams_on}
use Rattle.tables.specs.Moment.{day_on}
use Rattle.call_day.specs.Opening.{Columns, columns, Full, book_desk, book_columns, opened_on, banks_on}

-- ---- a column that is replaced

module _ (l b : List ℕ) (i : ℕ) (same : length l ≡ length b) (inv : take i l ≡ take i b) where
  pub replace_turn : i < length l → take (i + 1) (set l i (get_or b i 0)) ≡ take (i + 1) b
  replace_turn h = rw (add-one i) (take-suc-set l i (get_or b i 0) h ∙ rw inv (sym (take-suc b i 0 (omega arith))))

  pub replace_end : length l ≤ i → l ≡ b
  replace_end h = sym (take_all i l h) ∙ inv ∙ take_all i b (omega arith)

pub all_replaced : {a b c d x y z w : List ℕ} → a ≡ x → b ≡ y → c ≡ z → d ≡ w → columns a b c d ≡ columns x y z w
all_replaced e f g h = rw (e, f, g, h)

-- ---- the closing book

pub day_number_lem : (x : Option ℕ) (date k : ℕ) → x ≡ day_of date → x ≡ Some k → k ≡ on_date (day_of date)
day_number_lem x date k e f = rw (sym e, f)

pub day_untrue : (x : Option ℕ) (date : ℕ) → x ≡ day_of date → x ≡ None → 0 ≡ on_date (day_of date)
day_untrue x date e f = rw (sym e, f)

module _ (out : List ℕ) (d : Desk) (codes flags balances sublimits : List ℕ) (date day : ℕ) (n₁ : 1 ≤ d.n) (n₂ : d.n ≤ 8) (b₁ : 1 ≤ d.banks) (b₂ : d.banks ≤ 64)
    (w : length d.streams ≡ 16) (f : Full (columns codes flags balances sublimits)) (room : 512 * blocks_for d.banks ≤ length out) (g : day ≡ on_date (day_of date)) where
  abbrev book : Book
  book = record { day = day; streams = d.n; banks = d.banks }

  abbrev rows : Rows
  rows = rows_of d.streams codes flags balances sublimits

  holds : holding_rows book (length d.streams) (length codes) (length flags) (length balances) (length sublimits) ≡ true
  unfolding holding_rows holding_columns
  holds =
      rw (
        le-leb 1 d.n n₁,
        le-leb d.n 8 n₂,
        le-leb 1 d.banks b₁,
        le-leb d.banks 64 b₂,
        le-leb (2 * d.n) (length d.streams) (omega arith),
        le-leb d.banks (length codes) (omega (arith, f.codes)),
        le-leb d.banks (length flags) (omega (arith, f.flags)),
        le-leb d.banks (length balances) (omega (arith, f.balances)),
        le-leb d.banks (length sublimits) (omega (arith, f.sublimits)),
      )

  made : write_book out book rows ≡ record { out = sets out 0 (book_bytes (on_date (day_of date)) (streams_on d) (banks_on d (columns codes flags balances sublimits))); answer = Ok (512 * blocks_for d.banks) }
  unfolding write_book streams_of banks_of
  made = rw (holds, le-leb (512 * blocks_for d.banks) (length out) room, g)

  module _ (o : List ℕ) (a : Result ℕ Refusal) (is : record { out = o; answer = a } ≡ write_book out book rows) where
    pub book_bytes_lem : o ≡ sets out 0 (book_bytes (on_date (day_of date)) (streams_on d) (banks_on d (columns codes flags balances sublimits)))
    book_bytes_lem = ap (λ (x : Made). x.out) (is ∙ made)

    answered : a ≡ Ok (512 * blocks_for d.banks)
    answered = ap (λ (x : Made). x.answer) (is ∙ made)

    pub book_length : (n : ℕ) → n ≡ result_unwrap_or a 0 → n ≡ 512 * blocks_for d.banks
    book_length n e = e ∙ rw answered

-- ---- an opening

drop_zeros : (k n : ℕ) → drop {A = ℕ} k (replicate n 0) ≡ replicate (n - k) 0
drop_zeros zero n = let e : n - 0 ≡ n = omega arith in rw e
drop_zeros (suc k) zero = let e : 0 - suc k ≡ 0 = omega arith in rw e
drop_zeros (suc k) (suc n) = let e : suc n - suc k ≡ n - k = omega arith in rw e (drop_zeros k n)

row_length : (xs : List Stream) → length (stream_row xs) ≡ 2 * length xs
row_length [] = refl
row_length (x ∷ xs) = omega (arith, row_length xs)

-- a row of zeros, filled from its beginning
zero_filled : (n : ℕ) (l : List ℕ) → length l ≤ n → sets (replicate n 0) 0 l ≡ filled n l
zero_filled n l h =
    let e : 0 + length l ≡ length l = omega arith in
    sets-eq l (replicate n 0) 0 (omega (arith, length-replicate {A = ℕ} n 0)) ∙ rw (e, drop_zeros (length l) n)

abbrev rows_zero : Rows
rows_zero = rows_of (replicate 16 0) (replicate 64 0) (replicate 64 0) (replicate 64 0) (replicate 64 0)

abbrev read_as : Answer → List ℕ → With (Result Book Refusal)
read_as k book = on_answer k (record { rows = filled_rows book rows_zero; answer = Ok (book_in book) }) (λ r. record { rows = rows_zero; answer = Err r })

module _ (book : List ℕ) where
  read_zero : read_book book rows_zero ≡ read_as (book_check book) book
  unfolding read_book room_for
  read_zero = refl

  module _ (d : Desk) (clock : ℕ) (x : Columns) (streams codes flags balances sublimits : List ℕ) (a : Result Book Refusal)
      (is : record { rows = rows_of streams codes flags balances sublimits; answer = a } ≡ read_book book rows_zero) where
    abbrev Opens : Answer → Desk → Columns → Type 0
    Opens r e y = record { answer = r; desk = e; columns = y } ≡ opened_on (opening_answer (day_on d) book) d clock book x

    so : (k : Answer) → book_check book ≡ k → record { rows = rows_of streams codes flags balances sublimits; answer = a } ≡ read_as k book
    so k e = is ∙ read_zero ∙ rw e

    refused_by : (k : Answer) → book_check book ≡ k → (f : Refusal) → a ≡ Err f → Opens (Err f) d x
    unfolding opening_answer
    refused_by (Ok tt) e f h =
        let g : a ≡ Ok (book_in book) = ap (λ (z : With (Result Book Refusal)). z.answer) (so (Ok tt) e) in
        let z : ◌≡◌ {A = ℕ} 0 1 = cc in
        absurd (omega arith)
    refused_by (Err r) e f h =
        let g : a ≡ Err r = ap (λ (z : With (Result Book Refusal)). z.answer) (so (Err r) e) in
        let j : r ≡ f = cc in
        rw (e, j)

    pub open_refused : (f : Refusal) → a ≡ Err f → Opens (Err f) d x
    open_refused f h = refused_by (book_check book) refl f h

    module _ (held : Book) (h : a ≡ Ok held) where
      sound_by : (k : Answer) → book_check book ≡ k → book_check book ≡ Ok tt
      sound_by (Ok tt) e = e
      sound_by (Err r) e =
          let g : a ≡ Err r = ap (λ (z : With (Result Book Refusal)). z.answer) (so (Err r) e) in
          let z : ◌≡◌ {A = ℕ} 0 1 = cc in
          absurd (omega arith)

      sound : book_check book ≡ Ok tt
      sound = sound_by (book_check book) refl

      read_rows : rows_of streams codes flags balances sublimits ≡ filled_rows book rows_zero
      read_rows = ap (λ (z : With (Result Book Refusal)). z.rows) (so (Ok tt) sound)

      is_book : held ≡ book_in book
      is_book = let g : a ≡ Ok (book_in book) = ap (λ (z : With (Result Book Refusal)). z.answer) (so (Ok tt) sound) in cc

      module _ (t : Bool) (l : t ≡ is_later (day_on d) held.day) where
        answer_is : opening_answer (day_on d) book ≡ cond t (Ok tt) (Err WrongMoment)
        unfolding opening_answer book_in
        answer_is = rw (sound, l, is_book)

        pub open_early : not t ≡ true → Opens (Err WrongMoment) d x
        open_early n = rw (answer_is, not-true t n)

        streams_are : streams ≡ filled 16 (stream_row (streams_in book))
        unfolding filled_rows
        streams_are =
            let n = (readers.books book sound).house.few_streams in
            ap (λ (z : Rows). z.streams) read_rows ∙ zero_filled 16 (stream_row (streams_in book)) (omega (arith, row_length (streams_in book)))

        desk_is : record { phase = Open; date = held.day; clock = clock; texts = 0; banks = held.banks; streams = streams; n = held.streams } ≡ book_desk clock book
        unfolding book_in banks_in streams_in
        desk_is = rw (is_book, streams_are, each_length, each_length)

        columns_are : columns codes flags balances sublimits ≡ book_columns book
        unfolding filled_rows
        columns_are = ap (λ (z : Rows). columns z.codes z.flags z.balances z.sublimits) read_rows

        pub open_done : not t ≡ false → (c f b m : List ℕ) → columns c f b m ≡ columns codes flags balances sublimits
            → Opens (Ok tt) (record { phase = Open; date = held.day; clock = clock; texts = 0; banks = held.banks; streams = streams; n = held.streams }) (columns c f b m)
        open_done n c f b m e = rw (answer_is, not-false t n, desk_is, e, columns_are)
