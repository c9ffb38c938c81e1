-- The book: its blocks, the rules in their order, and what an accepted book says.
use Rattle.chars.specs.declared.Refusal.{Refusal}
use Rattle.std.specs.Prelude.{ℕ, zero, suc, ◌+◌, ◌*◌, ◌-◌, ◌/◌, ◌%◌, List, [], ◌∷◌, ◌++◌, Bool, true, false, ◌&&◌, cond, length, get_or, drop, ltb, leb, eqb}
use Rattle.std.specs.Prelude.{Option, Some, None, Result}
use Rattle.chars.specs.Words.{within}
use Rattle.codes.specs.Codes.{short_at}
use Rattle.text_scan.specs.Scan.{on_next, code_at, number_at}
use Rattle.dates.specs.Dates.{day_of, sum}
use Rattle.chars.specs.declared.Refusal.TheVariants.{BookLength, BookTotal}
use Rattle.book_read.specs.Block.{Rule, rule, first_broken, little, entries_at, zeros_at, block_rules}

-- "Balances, their total and sub-limits run from 0 to 6,400,000,000,000,000."
abbrev pub most_money : ℕ
most_money = 6400000000000000

-- four of A-Z 0-9
abbrev pub code_right : List ℕ → ℕ → Bool
code_right s at = on_next (code_at s at 4) false (λ e. true)

-- "date digits at 8-13"
abbrev pub numbered : Option (ℕ × ℕ) → Option ℕ
numbered (Some (v, e)) = day_of v
numbered None = None

unfoldable pub date_in : List ℕ → Option ℕ
date_in s = numbered (number_at s 8 6)

abbrev pub is_day : Option ℕ → Bool
is_day (Some k) = true
is_day None = false

-- "entries of 8 at 16: stream 4, administrator 1 to 255, three zeros"
unfoldable pub stream_right : List ℕ → ℕ → Bool
stream_right s at = code_right s at && (within 1 255 (get_or s (at + 4) 0) && zeros_at s (at + 5) 3)

-- the bits past the first n
unfoldable pub bits_past : ℕ → ℕ → ℕ
bits_past zero bits = bits
bits_past (suc n) bits = bits_past n (bits / 2)

-- "entries of 24 at 8: bank 4, flag 0 active or 1 suspended, stream bits (1 is the first stream), two zeros, balance 8,
-- sub-limit 8", "a stream bit with no stream too"
abbrev pub balance_at : List ℕ → ℕ → ℕ
balance_at s at = little 8 (drop (at + 8) s)

abbrev pub sublimit_at : List ℕ → ℕ → ℕ
sublimit_at s at = little 8 (drop (at + 16) s)

unfoldable pub bank_right : List ℕ → ℕ → ℕ → Bool
bank_right s streams at =
    code_right s at
    && (leb (get_or s (at + 4) 0) 1
    && (eqb (bits_past streams (get_or s (at + 5) 0)) 0
    && (zeros_at s (at + 6) 2 && (leb (balance_at s at) most_money && leb (sublimit_at s at) most_money))))

-- "length not 2 to 5 blocks 11"
abbrev pub blocks_in : List ℕ → ℕ
blocks_in s = length s / 512

unfoldable pub length_right : List ℕ → Bool
length_right s = eqb (length s % 512) 0 && within 2 5 (blocks_in s)

-- 1 to 8 streams and a true date; the two bytes after it are unused
unfoldable pub streams_counted : List ℕ → Bool
streams_counted s = within 1 8 (entries_at s 0) && (is_day (date_in s) && zeros_at s 14 2)

-- "Block 0 is S"
unfoldable pub stream_rules : List ℕ → ℕ → List Rule
stream_rules s blocks = block_rules s 0 83 0 blocks (streams_counted s) 16 8 (stream_right s) 0

-- "20 entries in each but the last", and 64 banks at the most; none is empty
unfoldable pub banks_counted : ℕ → ℕ → ℕ → Bool
banks_counted blocks k n = cond (ltb (k + 1) blocks) (eqb n 20) (within 1 20 n && leb (20 * (k - 1) + n) 64)

-- the code of the last bank of the block before
unfoldable pub code_before : List ℕ → ℕ → ℕ
code_before s k = cond (leb k 1) 0 (short_at s (512 * k - 48))

-- "The others are B"
unfoldable pub bank_rules : List ℕ → ℕ → ℕ → List Rule
bank_rules s blocks k =
    block_rules s (512 * k) 66 k blocks (banks_counted blocks k (entries_at s (512 * k))) 8 24 (bank_right s (entries_at s 0)) (code_before s k)

-- n blocks of banks from block k on
unfoldable pub bank_blocks : List ℕ → ℕ → ℕ → ℕ → List Rule
bank_blocks s blocks k zero = []
bank_blocks s blocks k (suc n) = bank_rules s blocks k ++ bank_blocks s blocks (k + 1) n

-- f of each of the n numbers from i on
abbrev pub each : {A : Type 0} → (ℕ → A) → ℕ → ℕ → List A
each f i zero = []
each f i (suc n) = f i ∷ each f (i + 1) n

-- the place of a bank's entry, and how many there are
unfoldable pub bank_place : ℕ → ℕ
bank_place i = 512 * (i / 20 + 1) + (24 * (i % 20) + 8)

unfoldable pub bank_count : List ℕ → ℕ → ℕ
bank_count s blocks = 20 * (blocks - 2) + entries_at s (512 * (blocks - 1))

-- "last the total 15": the total of the first n banks
abbrev pub balance_of : List ℕ → ℕ → ℕ
balance_of s i = balance_at s (bank_place i)

unfoldable pub total_right : List ℕ → ℕ → Bool
total_right s n = leb (sum (each (balance_of s) 0 n)) most_money

-- "Order: length not 2 to 5 blocks 11; then by block ..; last the total 15."
unfoldable pub book_rules : List ℕ → List Rule
book_rules s =
    rule (length_right s) BookLength
    ∷ (stream_rules s (blocks_in s) ++ (bank_blocks s (blocks_in s) 1 (blocks_in s - 1) ++ (rule (total_right s (bank_count s (blocks_in s))) BookTotal ∷ [])))

unfoldable pub book_check : List ℕ → Result (Unit {0}) Refusal
book_check s = first_broken (book_rules s)
