-- The bytes of a book: entries, blocks and their checks, and the book of given accounts.
use Rattle.chars.specs.declared.Refusal.{Refusal}
use Rattle.std.specs.Prelude.{ℕ, zero, suc, ◌+◌, ◌*◌, ◌-◌, ◌/◌, ◌%◌, ◌≤◌, List, [], ◌∷◌, ◌++◌, Bool, ◌&&◌, cond, length, get_or, take, drop, replicate, leb}
use Rattle.std.specs.Prelude.{Result, Ok, Err}
use Rattle.std.proofs.lemmas.List.Edits.{sets}
use Rattle.chars.specs.Words.{within}
use Rattle.codes.specs.Codes.{short_text}
use Rattle.checksum.specs.Sum.{block_sum}
use Rattle.dates.specs.Dates.{date_of}
use Rattle.text_put.specs.Digits.{digits_of}
use Rattle.chars.specs.declared.Refusal.TheVariants.{BrokenTables, ShortBuffer}
use Rattle.book_read.specs.declared.Book.{Book}
use Rattle.book_read.specs.Block.{head}
use Rattle.book_read.specs.Book.{each}
use Rattle.book_read.specs.Accounts.{Stream, Bank, Rows}

-- "Little-endian": w bytes of a number
unfoldable pub little_of : ℕ → ℕ → List ℕ
little_of zero v = []
little_of (suc w) v = v % 256 ∷ little_of w (v / 256)

-- "stream 4, administrator 1 to 255, three zeros"
unfoldable pub stream_bytes : Stream → List ℕ
stream_bytes x = short_text x.code ++ (x.sender % 256 ∷ 0 ∷ 0 ∷ 0 ∷ [])

-- "bank 4, flag 0 active or 1 suspended, stream bits (1 is the first stream), two zeros, balance 8, sub-limit 8"
unfoldable pub bank_bytes : Bank → List ℕ
bank_bytes b =
    ((short_text b.code ++ (b.flags % 2 ∷ b.flags / 2 % 256 ∷ 0 ∷ 0 ∷ [])) ++ little_of 8 b.balance) ++ little_of 8 b.sublimit

-- the bytes of one after another
abbrev pub joined : {A : Type 0} → (A → List ℕ) → List A → List ℕ
joined f [] = []
joined f (x ∷ xs) = f x ++ joined f xs

-- "Unused bytes are zero. At 508 stands the sum of the 127 words before it, modulo 2^32."
abbrev pub padded : List ℕ → List ℕ
padded l = l ++ replicate (508 - length l) 0

unfoldable pub sealed : List ℕ → List ℕ
sealed l = padded l ++ little_of 4 (block_sum (padded l) 0)

-- the same in a buffer, for the block at a place whose entries end at `end`
unfoldable pub sealed_at : List ℕ → ℕ → ℕ → List ℕ
sealed_at out at end =
    let filled = sets out (at + end) (replicate (508 - end) 0) in
    sets filled (at + 508) (little_of 4 (block_sum filled at))

-- "Block 0 is S: date digits at 8-13, entries of 8 at 16"
unfoldable pub stream_block : ℕ → List Stream → ℕ → List ℕ
stream_block day xs blocks =
    sealed (((head 83 0 (length xs) blocks ++ digits_of 6 (date_of day)) ++ (0 ∷ 0 ∷ [])) ++ joined stream_bytes xs)

-- "The others are B, entries of 24 at 8"
unfoldable pub bank_block : ℕ → ℕ → List Bank → List ℕ
bank_block blocks k bs = sealed (head 66 k (length bs) blocks ++ joined bank_bytes bs)

-- "20 entries in each but the last": n blocks from block k on
unfoldable pub bank_blocks_of : ℕ → ℕ → ℕ → List Bank → List ℕ
bank_blocks_of blocks k zero bs = []
bank_blocks_of blocks k (suc n) bs = bank_block blocks k (take 20 bs) ++ bank_blocks_of blocks (k + 1) n (drop 20 bs)

-- how many blocks a book of n banks has
unfoldable pub blocks_for : ℕ → ℕ
blocks_for n = (n + 19) / 20 + 1

unfoldable pub book_bytes : ℕ → List Stream → List Bank → List ℕ
book_bytes day xs bs =
    stream_block day xs (blocks_for (length bs)) ++ bank_blocks_of (blocks_for (length bs)) 1 (blocks_for (length bs) - 1) bs

-- the streams and the banks that rows hold
abbrev pub stream_of : List ℕ → ℕ → Stream
stream_of row i = record { code = get_or row (2 * i) 0; sender = get_or row (2 * i + 1) 0 }

abbrev pub bank_of : List ℕ → List ℕ → List ℕ → List ℕ → ℕ → Bank
bank_of codes flags balances sublimits i =
    record { code = get_or codes i 0; flags = get_or flags i 0; balance = get_or balances i 0; sublimit = get_or sublimits i 0 }

-- columns that hold n banks
pub record Reaching (n : ℕ) (codes flags balances sublimits : List ℕ) : Type 0 where
  pub in_codes : n ≤ length codes
  pub in_flags : n ≤ length flags
  pub in_balances : n ≤ length balances
  pub in_sublimits : n ≤ length sublimits

unfoldable pub streams_of : Rows → ℕ → List Stream
streams_of t n = each (stream_of t.streams) 0 n

unfoldable pub banks_of : Rows → ℕ → List Bank
banks_of t n = each (bank_of t.codes t.flags t.balances t.sublimits) 0 n

-- columns, by their lengths, that hold m banks; 1 to 8 streams and 1 to 64 banks, and rows that hold them
unfoldable pub holding_columns : ℕ → ℕ → ℕ → ℕ → ℕ → Bool
holding_columns m codes flags balances sublimits = leb m codes && (leb m flags && (leb m balances && leb m sublimits))

unfoldable pub holding_rows : Book → ℕ → ℕ → ℕ → ℕ → ℕ → Bool
holding_rows b streams codes flags balances sublimits =
    within 1 8 b.streams
    && (within 1 64 b.banks
    && (leb (2 * b.streams) streams && holding_columns b.banks codes flags balances sublimits))

abbrev pub holds : Book → Rows → Bool
holds b t =
    holding_rows b (length t.streams) (length t.codes) (length t.flags) (length t.balances) (length t.sublimits)

-- what a buffer holds after a writing, and the answer
pub record Made : Type 0 where
  pub out : List ℕ
  pub answer : Result ℕ Refusal

-- 06 for counts out of range or rows that are too short, then 07 for a buffer under the book's own length; then the book, and nothing past it
unfoldable pub write_book : List ℕ → Book → Rows → Made
write_book out b t =
    cond (holds b t)
    (cond (leb (512 * blocks_for b.banks) (length out))
    (record { out = sets out 0 (book_bytes b.day (streams_of t b.streams) (banks_of t b.banks)); answer = Ok (512 * blocks_for b.banks) })
    (record { out = out; answer = Err ShortBuffer }))
    (record { out = out; answer = Err BrokenTables })
