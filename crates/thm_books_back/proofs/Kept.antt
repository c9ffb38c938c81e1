-- Rows that were read from a book hold its streams and banks: written again they give the same book.
use Rattle.std.specs.Prelude.{Ok}
use Prim.Native.Nat.{ℕ, zero, suc, ◌+◌, ◌*◌, ◌≤◌, ◌<◌}
use mathlib.Core.Path.{◌≡◌, refl, sym, ◌∙◌, ap}
use mathlib.Core.Bool.{true}
use mathlib.Core.List.{List, map}
use native.Mathlib.Nat.{zero-add, add-zero}
use native.Mathlib.Omega.{arith}
use lib.ListN.{length, get_or, drop, get_or-append}
use lib.Seq.{sets, sets-eq, length-sets}
use borrow.Author.Tests.{le-leb}
use Rattle.codes.specs.Codes.{Bytes}
use Rattle.book_read.specs.declared.Field.{Field}
use Rattle.book_read.specs.declared.Field.TheVariants.{Code, Flags, Balance, Sublimit}
use Rattle.book_read.specs.Block.{entries_at}
use Rattle.book_read.specs.Book.{each, blocks_in, bank_place, bank_count}
use Rattle.book_read.specs.Accounts.{Stream, Bank, Rows, stream_at, bank_at, stream_row, field_of, streams_in, banks_in, roomy, filled, book_in}
use Rattle.book_write.specs.Closing.{stream_of, bank_of, streams_of, banks_of, holding_columns, holding_rows, write_book}
use Rattle.book_read.proofs.Accepted.{Accepted, streams_few, streams_most, banks_most}
use Rattle.book_read.proofs.Filling.{Room, room, map_each, each_length}
use Rattle.thm_books_back.proofs.Again.{written_again, blocks_are, banks_some, size}

-- the first places of a row
row_at : (l vs : List ℕ) (i : ℕ) → length vs ≤ length l → i < length vs → get_or (sets l 0 vs) i 0 ≡ get_or vs i 0
row_at l vs i h p = ap (λ (r : List ℕ). get_or r i 0) (sets-eq vs l 0 (omega arith)) ∙ get_or-append vs (drop (0 + length vs) l) 0 i p

each_at : (f : ℕ → ℕ) (i n j : ℕ) → j < n → get_or (each f i n) j 0 ≡ f (i + j)
each_at f i zero j h = absurd (omega arith)
each_at f i (suc n) zero h = ap f (sym (add-zero i))
each_at f i (suc n) (suc j) h = each_at f (i + 1) n j (omega arith) ∙ ap f (omega arith)

each_same : {A : Type 0} (f g : ℕ → A) (i n : ℕ) → ((j : ℕ) → j < i + n → f j ≡ g j) → each f i n ≡ each g i n
each_same f g i zero h = refl
each_same f g i (suc n) h = rw (h i (omega arith), each_same f g (i + 1) n (λ j q. h j (omega arith)))

-- a column that holds a field of each
column_at : (l : List ℕ) (field : Field) (f : ℕ → Bank) (n j : ℕ) → n ≤ length l → j < n → get_or (sets l 0 (map (field_of field) (each f 0 n))) j 0 ≡ field_of field (f j)
column_at l field f n j h p =
    let g : ℕ → ℕ = λ i. field_of field (f i) in
    ap (λ (r : List ℕ). get_or (sets l 0 r) j 0) (map_each (field_of field) f 0 n)
    ∙ row_at l (each g 0 n) j (rw (each_length g 0 n) h) (rw (each_length g 0 n) p)
    ∙ each_at g 0 n j p ∙ ap g (zero-add j)

-- the row of streams
row_length : (f : ℕ → Stream) (i n : ℕ) → length (stream_row (each f i n)) ≡ 2 * n
row_length f i zero = refl
row_length f i (suc n) = omega (arith, row_length f (i + 1) n)

row_code : (f : ℕ → Stream) (i n j : ℕ) → j < n → get_or (stream_row (each f i n)) (2 * j) 0 ≡ (f (i + j)).code
row_code f i zero j h = absurd (omega arith)
row_code f i (suc n) zero h = ap (λ (k : ℕ). (f k).code) (sym (add-zero i))
row_code f i (suc n) (suc j) h =
    let z : 2 * suc j ≡ suc (suc (2 * j)) = omega arith in
    let y : i + 1 + j ≡ i + suc j = omega arith in
    rw z (row_code f (i + 1) n j (omega arith) ∙ ap (λ (k : ℕ). (f k).code) y)

row_sender : (f : ℕ → Stream) (i n j : ℕ) → j < n → get_or (stream_row (each f i n)) (2 * j + 1) 0 ≡ (f (i + j)).sender
row_sender f i zero j h = absurd (omega arith)
row_sender f i (suc n) zero h = ap (λ (k : ℕ). (f k).sender) (sym (add-zero i))
row_sender f i (suc n) (suc j) h =
    let z : 2 * suc j + 1 ≡ suc (suc (2 * j + 1)) = omega arith in
    let y : i + 1 + j ≡ i + suc j = omega arith in
    rw z (row_sender f (i + 1) n j (omega arith) ∙ ap (λ (k : ℕ). (f k).sender) y)

module _ (s : List ℕ) (g : Accepted s) (t : Rows) (h : roomy t ≡ true) where
  wide : Room (length t.streams) (length t.codes) (length t.flags) (length t.balances) (length t.sublimits)
  wide = room (length t.streams) (length t.codes) (length t.flags) (length t.balances) (length t.sublimits) h

  pub banks_kept : banks_of (filled s t) (bank_count s (blocks_in s)) ≡ banks_in s
  unfolding banks_of banks_in filled
  banks_kept =
      let f : ℕ → Bank = λ i. bank_at s (bank_place i) in
      let n = bank_count s (blocks_in s) in
      let few = banks_most g in
      each_same (bank_of (filled s t).codes (filled s t).flags (filled s t).balances (filled s t).sublimits) f 0 n
      (λ j q.
      let p : j < n = omega arith in
      rw (
        column_at t.codes Code f n j (omega (arith, wide.for_codes)) p,
        column_at t.flags Flags f n j (omega (arith, wide.for_flags)) p,
        column_at t.balances Balance f n j (omega (arith, wide.for_balances)) p,
        column_at t.sublimits Sublimit f n j (omega (arith, wide.for_sublimits)) p,
      ))

  pub streams_kept : streams_of (filled s t) (entries_at s 0) ≡ streams_in s
  unfolding streams_of streams_in filled
  streams_kept =
      let f : ℕ → Stream = λ i. stream_at s (8 * i + 16) in
      let n = entries_at s 0 in
      let few = streams_most g in
      let long : length (stream_row (each f 0 n)) ≡ 2 * n = row_length f 0 n in
      each_same (stream_of (filled s t).streams) f 0 n
      (λ j q.
      let p : j < n = omega arith in
      rw (
        row_at t.streams (stream_row (each f 0 n)) (2 * j) (omega (arith, wide.for_streams)) (omega arith),
        row_at t.streams (stream_row (each f 0 n)) (2 * j + 1) (omega (arith, wide.for_streams)) (omega arith),
        row_code f 0 n j p,
        row_sender f 0 n j p,
        zero-add j,
      ))

  holds_filled : Bytes s → holding_rows (book_in s) (length (filled s t).streams) (length (filled s t).codes) (length (filled s t).flags) (length (filled s t).balances) (length (filled s t).sublimits) ≡ true
  unfolding holding_rows holding_columns book_in filled
  holds_filled b =
      let n = entries_at s 0 in
      let m = bank_count s (blocks_in s) in
      let few = streams_most g in
      let most = banks_most g in
      rw (
        length-sets t.streams 0 (stream_row (streams_in s)),
        length-sets t.codes 0 (map (field_of Code) (banks_in s)),
        length-sets t.flags 0 (map (field_of Flags) (banks_in s)),
        length-sets t.balances 0 (map (field_of Balance) (banks_in s)),
        length-sets t.sublimits 0 (map (field_of Sublimit) (banks_in s)),
        le-leb 1 n (streams_few g),
        le-leb n 8 few,
        le-leb 1 m (banks_some s b g),
        le-leb m 64 most,
        le-leb (2 * n) (length t.streams) (omega (arith, wide.for_streams)),
        le-leb m (length t.codes) (omega (arith, wide.for_codes)),
        le-leb m (length t.flags) (omega (arith, wide.for_flags)),
        le-leb m (length t.balances) (omega (arith, wide.for_balances)),
        le-leb m (length t.sublimits) (omega (arith, wide.for_sublimits)),
      )

  -- what `read` left in the rows, given to `write`, is the book itself
  pub kept : Bytes s → (out : List ℕ) → length s ≤ length out
      → write_book out (book_in s) (filled s t) ≡ record { out = sets out 0 s; answer = Ok (length s) }
  unfolding write_book book_in
  kept b out l =
      rw (holds_filled b, blocks_are s b g, ← size s b g, le-leb (length s) (length out) l, banks_kept, streams_kept, written_again s b g)
