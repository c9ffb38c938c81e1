-- The whole book of accounts that its bytes can hold: its length, its blocks and what it says; in range, every rule.
use Prim.Native.Nat.{ℕ, zero, suc, ◌+◌, ◌*◌, ◌-◌, ◌%◌, ◌≤◌, ◌<◌}
use mathlib.Core.Path.{◌≡◌, refl, sym, ◌∙◌, ap}
use mathlib.Core.Bool.{true}
use mathlib.Core.List.{List, [], ◌∷◌, ◌++◌, append-nil}
use native.Mathlib.Omega.{arith}
use lib.ListN.{length, take, drop, length-append}
use borrow.Author.Tests.{le-leb}
use Rattle.text_put.proofs.Laws.{digits_length}
use Rattle.text_put.specs.Digits.{digits_of}
use Rattle.dates.specs.Dates.{date_of, sum}
use Rattle.book_read.specs.declared.Field.TheVariants.{Code, Balance}
use Rattle.book_read.specs.Block.{head, entries_at}
use Rattle.book_read.specs.Book.{most_money, blocks_in, length_right, each, bank_place, bank_count, balance_of, total_right, book_rules, stream_rules, bank_blocks}
use Rattle.book_read.specs.Accounts.{Stream, Bank, bank_at, day_in, streams_in, banks_in, field_of, column}
use Rattle.book_write.specs.Closing.{stream_bytes, bank_bytes, joined, stream_block, bank_block, bank_blocks_of, blocks_for, book_bytes}
use Rattle.book_read.specs.Range.{InRange}
use Rattle.book_read.proofs.Accepted.{AllHold, hold_join}
use Rattle.book_read.proofs.Filling.{map_each}
use Rattle.book_read.proofs.Leaves.{before_first}
use Rattle.book_write.proofs.Storing.{stream_length, bank_length}
use Rattle.book_write.proofs.Sealing.{joined_length, sealed_length}
use Rattle.thm_books_back.proofs.Blocks.{after}
use Rattle.thm_books_back.specs.Fitting.{Fitting}
use Rattle.thm_books_back.proofs.Fits.{all_streams, all_banks}
use Rattle.thm_books_back.proofs.Written.{rising_first, streams_count, day_read, streams_read, streams_hold, Banked, banked, take_most}

-- the length of a book
pub stream_long : (day : ℕ) (xs : List Stream) (blocks : ℕ) → length xs ≤ 8 → length (stream_block day xs blocks) ≡ 512
unfolding stream_block
stream_long day xs blocks few =
    sealed_length (((head 83 0 (length xs) blocks ++ digits_of 6 (date_of day)) ++ (0 ∷ 0 ∷ [])) ++ joined stream_bytes xs)
    (simp (length-append, digits_length, joined_length stream_bytes 8 stream_length xs) (omega arith))

pub banks_long : (blocks n k : ℕ) (bs : List Bank) → length (bank_blocks_of blocks k n bs) ≡ 512 * n
unfolding bank_blocks_of bank_block
banks_long blocks zero k bs = refl
banks_long blocks (suc n) k bs =
    let b = take 20 bs in
    let few = take_most 20 bs in
    rw (
      length-append,
      sealed_length (head 66 k (length b) blocks ++ joined bank_bytes b) (simp (joined_length bank_bytes 24 bank_length b) (omega arith)),
      banks_long blocks n (k + 1) (drop 20 bs),
    )
    (omega arith)

module _ (day : ℕ) (xs : List Stream) (bs : List Bank) (f : Fitting day xs bs) where
  abbrev s : List ℕ
  s = book_bytes day xs bs

  abbrev blocks : ℕ
  blocks = blocks_for (length bs)

  abbrev tail : List ℕ
  tail = bank_blocks_of blocks 1 (blocks - 1) bs

  -- 2 to 5 blocks, all but the last full
  blocks_fit : (2 ≤ blocks) × (blocks ≤ 5) × (length bs ≤ 20 * (blocks - 1)) × (20 * (blocks - 1) < length bs + 20)
  unfolding blocks_for
  blocks_fit = (omega (arith, f.some_banks), omega (arith, f.few_banks), omega arith, omega arith)

  pub book_long : length s ≡ 512 * blocks
  unfolding book_bytes
  book_long = length-append (stream_block day xs blocks) tail ∙ rw (stream_long day xs blocks f.few_streams, banks_long blocks (blocks - 1) 1 bs) (omega (arith, blocks_fit.0))

  pub blocks_in_lem : blocks_in s ≡ blocks
  blocks_in_lem = rw book_long (omega arith)

  length_holds : length_right s ≡ true
  unfolding length_right
  length_holds =
      let z : length s % 512 ≡ 0 = rw book_long (omega arith) in
      rw (z, blocks_in_lem, le-leb 2 blocks blocks_fit.0, le-leb blocks 5 blocks_fit.1)

  in_streams : drop 0 s ≡ stream_block day xs blocks ++ tail
  unfolding book_bytes
  in_streams = refl

  in_banks : drop 512 s ≡ tail ++ []
  in_banks = after s 0 512 (stream_block day xs blocks) tail in_streams (stream_long day xs blocks f.few_streams) ∙ sym (append-nil tail)

  pub count : entries_at s 0 ≡ length xs
  count = streams_count s day xs blocks tail in_streams f.few_streams

  the_banks : Banked s blocks (length xs) 1 (blocks - 1) bs
  the_banks =
      let e : 1 + (blocks - 1) ≡ blocks = omega (arith, blocks_fit.0) in
      banked s blocks (length xs) f.few_streams count (blocks - 1) 1 bs [] (omega arith) e in_banks
      f.some_banks blocks_fit.2 blocks_fit.3 (omega (arith, f.few_banks)) f.banks_fit

  pub banks_counted_lem : bank_count s blocks ≡ length bs
  unfolding bank_count
  banks_counted_lem =
      let z : 1 + (blocks - 1) - 1 ≡ blocks - 1 = omega arith in
      let l : entries_at s (512 * (blocks - 1)) ≡ length bs - 20 * (blocks - 1 - 1) = rw z at the_banks.last in
      rw l (omega (arith, blocks_fit.0, blocks_fit.3))

  pub banks_back : banks_in s ≡ bs
  unfolding banks_in
  banks_back = rw (blocks_in_lem, banks_counted_lem) the_banks.read

  pub streams_back : streams_in s ≡ xs
  streams_back = streams_read s day xs blocks tail in_streams f.few_streams f.streams_fit

  pub day_back : day_in s ≡ day
  day_back = day_read s day xs blocks tail in_streams f.few_streams f.date

  module _ (g : InRange day xs bs) where
    total_holds : total_right s (bank_count s (blocks_in s)) ≡ true
    unfolding total_right banks_in
    total_holds =
        let n = bank_count s (blocks_in s) in
        let same : each (balance_of s) 0 n ≡ column Balance bs = sym (map_each (field_of Balance) (λ (i : ℕ). bank_at s (bank_place i)) 0 n) ∙ ap (column Balance) banks_back in
        rw same (le-leb (sum (column Balance bs)) most_money g.total)

    pub all_hold : AllHold (book_rules s)
    unfolding book_rules
    all_hold =
        let streams : AllHold (stream_rules s (blocks_in s)) =
        rw blocks_in_lem (streams_hold s day xs blocks tail in_streams f.few_streams f.streams_fit g.date g.some_streams (all_streams g) g.streams_rise) in
        let banks : AllHold (bank_blocks s (blocks_in s) 1 (blocks_in s - 1)) =
        rw blocks_in_lem (the_banks.rules 0 (all_banks g) (rising_first (column Code bs) g.bank_codes g.banks_rise) (sym (before_first s 1 (omega arith)))) in
        (length_holds, hold_join (stream_rules s (blocks_in s)) _ streams (hold_join (bank_blocks s (blocks_in s) 1 (blocks_in s - 1)) _ banks (total_holds, tt)))
