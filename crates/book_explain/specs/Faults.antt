-- The tests of a book one by one, in 01's order, and what is told of the first that fails.
use Rattle.std.specs.Prelude.{Result, Ok, Err, ℕ, zero, suc, ◌+◌, ◌*◌, ◌-◌, List, [], ◌∷◌, ◌++◌, Bool, cond, get_or, ltb, leb, eqb}
use Rattle.chars.specs.Words.{within}
use Rattle.chars.specs.declared.Refusal.{Refusal}
use Rattle.chars.specs.declared.Refusal.TheVariants.{BookLength, BookCheck, BookHeader, OutOfRange, BookTotal}
use Rattle.codes.specs.Codes.{short_at}
use Rattle.book_read.specs.Block.{Rule, entries_at, head_right, zeros_at, unused_right, check_right, entries_right}
use Rattle.book_read.specs.Book.{most_money, code_right, is_day, date_in, stream_right, bits_past, balance_at, sublimit_at, bank_right, blocks_in, length_right, stream_rules, banks_counted, code_before, bank_rules, bank_count, total_right}
use Rattle.book_explain.specs.declared.Flaw.{Flaw}
use Rattle.book_explain.specs.declared.Flaw.TheVariants.{WrongLength, WrongSum, WrongHead, WrongCount, UntrueDate, AfterDate, Unused, NoCode, NotAbove, NoAdministrator, WrongFlag, NoStream, EntryZeros, HighBalance, HighSublimit, HighTotal}
use Rattle.book_explain.specs.declared.Spot.{Spot}

-- "length .. 11; then by block: check 12, header (its counts too), untrue date or unused bytes 13, entries 14 ..; last the total 15"
abbrev pub refusal_of : Flaw → Refusal
refusal_of WrongLength = BookLength
refusal_of WrongSum = BookCheck
refusal_of WrongHead = BookHeader
refusal_of WrongCount = BookHeader
refusal_of UntrueDate = BookHeader
refusal_of AfterDate = BookHeader
refusal_of Unused = BookHeader
refusal_of NoCode = OutOfRange
refusal_of NotAbove = OutOfRange
refusal_of NoAdministrator = OutOfRange
refusal_of WrongFlag = OutOfRange
refusal_of NoStream = OutOfRange
refusal_of EntryZeros = OutOfRange
refusal_of HighBalance = OutOfRange
refusal_of HighSublimit = OutOfRange
refusal_of HighTotal = BookTotal

-- what the tests of a book give: nothing, or the first that fails
abbrev pub Finding : Type 0
Finding = Result (Unit {0}) Spot

-- the answer of the book's check that goes with a finding
abbrev pub answer_of : Finding → Result (Unit {0}) Refusal
answer_of (Ok u) = Ok tt
answer_of (Err p) = Err (refusal_of p.flaw)

-- a test, whether it holds, and what is told where it fails
pub record Test : Type 0 where
  pub holds : Bool
  pub spot : Spot

abbrev pub test : ℕ → ℕ → Bool → Flaw → Test
test k i h f = record { holds = h; spot = record { block = k; entry = i; flaw = f } }

-- the first test that fails
unfoldable pub first_failed : List Test → Finding
first_failed [] = Ok tt
first_failed (t ∷ ts) = let later = first_failed ts in cond t.holds later (Err t.spot)

-- "check 12", "Bytes 0-1 `BF`, 2 `S` or `B`, 3 block number from 0, 4 entries, 5 blocks in all, 6-7 zero."
abbrev pub head_tests : List ℕ → (k letter blocks : ℕ) → List Test
head_tests s k letter blocks =
    test k 0 (check_right s (512 * k)) WrongSum ∷ test k 0 (head_right s (512 * k) letter k blocks) WrongHead ∷ []

-- "1 to 8 streams", "date digits at 8-13"; the two bytes after it are unused
abbrev pub date_tests : List ℕ → List Test
date_tests s =
    test 0 0 (within 1 8 (entries_at s 0)) WrongCount
    ∷ test 0 0 (is_day (date_in s)) UntrueDate
    ∷ test 0 0 (zeros_at s 14 2) AfterDate
    ∷ []

-- "Unused bytes are zero"
abbrev pub unused_test : List ℕ → (k first width : ℕ) → Test
unused_test s k first width = test k 0 (unused_right s (512 * k) (first + width * entries_at s (512 * k))) Unused

-- "entries of 8 at 16: stream 4, administrator 1 to 255, three zeros", "Codes rise strictly."
abbrev pub stream_entry : List ℕ → (i before at : ℕ) → List Test
stream_entry s i before at =
    test 0 i (code_right s at) NoCode
    ∷ test 0 i (ltb before (short_at s at)) NotAbove
    ∷ test 0 i (within 1 255 (get_or s (at + 4) 0)) NoAdministrator
    ∷ test 0 i (zeros_at s (at + 5) 3) EntryZeros
    ∷ []

-- "Balances, their total and sub-limits run from 0 to 6,400,000,000,000,000."
abbrev pub money_tests : List ℕ → (k i at : ℕ) → List Test
money_tests s k i at =
    test k i (leb (balance_at s at) most_money) HighBalance ∷ test k i (leb (sublimit_at s at) most_money) HighSublimit ∷ []

-- "entries of 24 at 8: bank 4, flag 0 active or 1 suspended, stream bits (1 is the first stream), two zeros, balance 8,
-- sub-limit 8", "a stream bit with no stream too"
abbrev pub bank_entry : List ℕ → (streams k i before at : ℕ) → List Test
bank_entry s streams k i before at =
    test k i (code_right s at) NoCode
    ∷ test k i (ltb before (short_at s at)) NotAbove
    ∷ test k i (leb (get_or s (at + 4) 0) 1) WrongFlag
    ∷ test k i (eqb (bits_past streams (get_or s (at + 5) 0)) 0) NoStream
    ∷ test k i (zeros_at s (at + 6) 2) EntryZeros
    ∷ money_tests s k i at

-- n entries from entry i on, which stands at a place behind an entry with the code before
unfoldable pub entry_tests : List ℕ → ℕ → (ℕ → ℕ → ℕ → List Test) → (i before at n : ℕ) → List Test
entry_tests s width tests i before at zero = []
entry_tests s width tests i before at (suc n) = tests i before at ++ entry_tests s width tests (i + 1) (short_at s at) (at + width) n

-- "Block 0 is S"
unfoldable pub stream_tests : List ℕ → ℕ → List Test
stream_tests s blocks =
    head_tests s 0 83 blocks
    ++ (date_tests s ++ (unused_test s 0 16 8 ∷ entry_tests s 8 (stream_entry s) 0 0 16 (entries_at s 0)))

-- "The others are B"
unfoldable pub bank_tests : List ℕ → (blocks k : ℕ) → List Test
bank_tests s blocks k =
    head_tests s k 66 blocks
    ++ (test k 0 (banks_counted blocks k (entries_at s (512 * k))) WrongCount
    ∷ unused_test s k 8 24
    ∷ entry_tests s 24 (bank_entry s (entries_at s 0) k) 0 (code_before s k) (512 * k + 8) (entries_at s (512 * k)))

-- n blocks of banks from block k on
unfoldable pub bank_block_tests : List ℕ → (blocks k n : ℕ) → List Test
bank_block_tests s blocks k zero = []
bank_block_tests s blocks k (suc n) = bank_tests s blocks k ++ bank_block_tests s blocks (k + 1) n

-- "Order: length not 2 to 5 blocks 11; then by block ..; last the total 15."
unfoldable pub book_tests : List ℕ → List Test
book_tests s =
    test 0 0 (length_right s) WrongLength
    ∷ (stream_tests s (blocks_in s)
    ++ (bank_block_tests s (blocks_in s) 1 (blocks_in s - 1)
    ++ (test 0 0 (total_right s (bank_count s (blocks_in s))) HighTotal ∷ [])))

unfoldable pub book_finding : List ℕ → Finding
book_finding s = first_failed (book_tests s)

-- the rules of block k, and whether its first i entries are right, as the book's check has them
abbrev pub block_rules_at : List ℕ → ℕ → List Rule
block_rules_at s zero = stream_rules s (blocks_in s)
block_rules_at s (suc k) = bank_rules s (blocks_in s) (suc k)

abbrev pub entries_right_at : List ℕ → (k i : ℕ) → Bool
entries_right_at s zero i = entries_right s 8 (stream_right s) 0 16 i
entries_right_at s (suc k) i = entries_right s 24 (bank_right s (entries_at s 0)) (code_before s (suc k)) (512 * suc k + 8) i
