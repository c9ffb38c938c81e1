-- A block of 512 bytes, over its letter, the place and width of its entries and their test.
use Rattle.std.specs.Prelude.{ℕ, zero, suc, ◌+◌, ◌*◌, ◌-◌, List, [], ◌∷◌, Bool, true, ◌&&◌, cond, get_or, drop, replicate, ltb, eqb, Result, Ok, Err}
use Rattle.codes.specs.Codes.{short_at}
use Rattle.checksum.specs.Sum.{block_sum}
use Rattle.text_scan.specs.Scan.{begins}
use Rattle.chars.specs.declared.Refusal.{Refusal}
use Rattle.chars.specs.declared.Refusal.TheVariants.{BookCheck, BookHeader, OutOfRange}

-- a rule, whether it holds, and the number that its break gives
pub record Rule : Type 0 where
  pub holds : Bool
  pub fault : Refusal

abbrev pub rule : Bool → Refusal → Rule
rule h r = record { holds = h; fault = r }

-- the number of the first rule that is broken
unfoldable pub first_broken : List Rule → Result (Unit {0}) Refusal
first_broken [] = Ok tt
first_broken (r ∷ rs) = let later = first_broken rs in cond r.holds later (Err r.fault)

-- "Little-endian": the first w bytes of a list as a number
unfoldable pub little : ℕ → List ℕ → ℕ
little zero l = 0
little (suc w) l = get_or l 0 0 + 256 * little w (drop 1 l)

-- "Bytes 0-1 `BF`, 2 `S` or `B`, 3 block number from 0, 4 entries, 5 blocks in all, 6-7 zero."
abbrev pub head : ℕ → ℕ → ℕ → ℕ → List ℕ
head letter number entries blocks = 66 ∷ 70 ∷ letter ∷ number ∷ entries ∷ blocks ∷ 0 ∷ 0 ∷ []

-- how many entries the block at a place says that it has
abbrev pub entries_at : List ℕ → ℕ → ℕ
entries_at s at = get_or s (at + 4) 0

unfoldable pub head_right : List ℕ → ℕ → ℕ → ℕ → ℕ → Bool
head_right s at letter number blocks = begins (head letter number (entries_at s at) blocks) (drop at s)

-- n zeros
unfoldable pub zeros_at : List ℕ → ℕ → ℕ → Bool
zeros_at s at n = begins (replicate n 0) (drop at s)

-- "Unused bytes are zero": from the end of the entries to the check
unfoldable pub unused_right : List ℕ → ℕ → ℕ → Bool
unused_right s at end = zeros_at s (at + end) (508 - end)

-- "header (its counts too), untrue date or unused bytes": `counted` is the test of its counts and, where it has one, of its date
unfoldable pub header_right : List ℕ → (at letter number blocks : ℕ) → Bool → (first width : ℕ) → Bool
header_right s at letter number blocks counted first width =
    head_right s at letter number blocks && (counted && unused_right s at (first + width * entries_at s at))

-- "At 508 stands the sum of the 127 words before it, modulo 2^32."
unfoldable pub check_right : List ℕ → ℕ → Bool
check_right s at = eqb (little 4 (drop (at + 508) s)) (block_sum s at)

-- "Codes rise strictly." n entries from a place on, each above the code before it and right by itself
unfoldable pub entries_right : List ℕ → ℕ → (ℕ → Bool) → ℕ → ℕ → ℕ → Bool
entries_right s width right before at zero = true
entries_right s width right before at (suc n) =
    (ltb before (short_at s at) && right at) && entries_right s width right (short_at s at) (at + width) n

-- "by block: check 12, header (its counts too), untrue date or unused bytes 13, entries 14"
abbrev pub block_rules : List ℕ → (at letter number blocks : ℕ) → Bool → (first width : ℕ) → (ℕ → Bool) → ℕ → List Rule
block_rules s at letter number blocks counted first width right before =
    rule (check_right s at) BookCheck
    ∷ rule (header_right s at letter number blocks counted first width) BookHeader
    ∷ rule (entries_right s width right before (at + first) (entries_at s at)) OutOfRange
    ∷ []
