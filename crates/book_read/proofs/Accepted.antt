-- What a book that is accepted is: every rule holds.
use Rattle.std.specs.Prelude.{Ok, Err}
use Prim.Native.Nat.{ℕ, zero, suc, ◌+◌, ◌*◌, ◌-◌, ◌%◌, ◌≤◌, ◌<◌}
use mathlib.Core.Path.{◌≡◌, refl}
use mathlib.Core.Bool.{Bool, true, false, ◌&&◌, false≢true}
use mathlib.Core.List.{List, [], ◌∷◌, ◌++◌}
use native.Mathlib.Omega.{arith}
use native.Mathlib.Nat.{add-zero}
use lib.ListN.{length}
use lib.Dec.{leb, eqb}
use borrow.Author.Tests.{leb-true, eqb-true, lt-ltb, le-ltb}
use Rattle.chars.specs.Words.{within}
use Rattle.chars.proofs.Laws.{range_low, range_high}
use Rattle.book_read.specs.Block.{Rule, first_broken, entries_at, head_right, header_right, unused_right, check_right, entries_right, zeros_at}
use Rattle.book_read.specs.Book.{stream_right, bank_right, is_day, date_in, blocks_in, length_right, streams_counted, stream_rules, banks_counted, code_before, bank_rules, bank_blocks, bank_count, total_right, book_rules, book_check}
use Rattle.book_read.proofs.Rules.{by_holds}

pub both : (a b : Bool) → (a && b) ≡ true → (a ≡ true) × (b ≡ true)
both true b h = (refl, h)
both false b h = absurd (false≢true h)

-- every rule of a list holds
abbrev pub AllHold : List Rule → Type 0
AllHold [] = Unit {0}
AllHold (r ∷ rs) = (r.holds ≡ true) × AllHold rs

pub all_hold : (rs : List Rule) → first_broken rs ≡ Ok tt → AllHold rs
unfolding first_broken
all_hold [] h = tt
all_hold (r ∷ rs) h =
    by_holds r.holds
    (λ e. (e, all_hold rs (rw e at h)))
    (λ e. let no : Err r.fault ≡ (Ok tt) = rw e at h in let z : ◌≡◌ {A = ℕ} 0 1 = cc in absurd (omega arith))

pub none_broken : (rs : List Rule) → AllHold rs → first_broken rs ≡ Ok tt
unfolding first_broken
none_broken [] h = refl
none_broken (r ∷ rs) h = rw h.0 (none_broken rs h.1)

pub hold_split : (xs ys : List Rule) → AllHold (xs ++ ys) → AllHold xs × AllHold ys
hold_split [] ys h = (tt, h)
hold_split (x ∷ xs) ys h = let t = hold_split xs ys h.1 in ((h.0, t.0), t.1)

pub hold_join : (xs ys : List Rule) → AllHold xs → AllHold ys → AllHold (xs ++ ys)
hold_join [] ys h k = k
hold_join (x ∷ xs) ys h k = (h.0, hold_join xs ys h.1 k)

-- a book of 2 to 5 blocks, each sound by itself
pub record Accepted (s : List ℕ) : Type 0 where
  pub whole : length s % 512 ≡ 0
  pub few : 2 ≤ blocks_in s
  pub many : blocks_in s ≤ 5
  pub streams : AllHold (stream_rules s (blocks_in s))
  pub banks : AllHold (bank_blocks s (blocks_in s) 1 (blocks_in s - 1))
  pub total : total_right s (bank_count s (blocks_in s)) ≡ true

pub accepted : (s : List ℕ) → book_check s ≡ Ok tt → Accepted s
unfolding book_check book_rules length_right
accepted s h =
    let all = all_hold (book_rules s) h in
    let long = both (eqb (length s % 512) 0) _ all.0 in
    let rest = hold_split (stream_rules s (blocks_in s)) _ all.1 in
    let last = hold_split (bank_blocks s (blocks_in s) 1 (blocks_in s - 1)) _ rest.1 in
    record {
      whole = eqb-true (length s % 512) 0 long.0;
      few = range_low 2 5 (blocks_in s) long.1;
      many = range_high 2 5 (blocks_in s) long.1;
      streams = rest.0;
      banks = last.0;
      total = last.1.0;
    }

-- block k of the blocks of banks
pub block_holds : (s : List ℕ) (blocks k n j : ℕ) → AllHold (bank_blocks s blocks k n) → j < n → AllHold (bank_rules s blocks (k + j))
unfolding bank_blocks
block_holds s blocks k zero j h p = absurd (omega arith)
block_holds s blocks k (suc n) zero h p = rw add-zero (hold_split (bank_rules s blocks k) (bank_blocks s blocks (k + 1) n) h).0
block_holds s blocks k (suc n) (suc j) h p =
    let z : k + suc j ≡ k + 1 + j = omega arith in
    rw z (block_holds s blocks (k + 1) n j (hold_split (bank_rules s blocks k) (bank_blocks s blocks (k + 1) n) h).1 (omega arith))

-- the parts of a header
pub record Headed (s : List ℕ) (at letter number blocks : ℕ) (counted : Bool) (first width : ℕ) : Type 0 where
  pub head : head_right s at letter number blocks ≡ true
  pub counts : counted ≡ true
  pub unused : unused_right s at (first + width * entries_at s at) ≡ true

pub headed : (s : List ℕ) (at letter number blocks : ℕ) (counted : Bool) (first width : ℕ)
    → header_right s at letter number blocks counted first width ≡ true → Headed s at letter number blocks counted first width
unfolding header_right
headed s at letter number blocks counted first width h =
    let a = both (head_right s at letter number blocks) _ h in
    let b = both counted _ a.1 in
    record { head = a.0; counts = b.0; unused = b.1 }

module _ {s : List ℕ} (g : Accepted s) where
  pub stream_check : check_right s 0 ≡ true
  unfolding stream_rules
  stream_check = g.streams.0

  pub stream_head : Headed s 0 83 0 (blocks_in s) (streams_counted s) 16 8
  unfolding stream_rules
  stream_head = headed s 0 83 0 (blocks_in s) (streams_counted s) 16 8 g.streams.1.0

  pub stream_entries : entries_right s 8 (stream_right s) 0 16 (entries_at s 0) ≡ true
  unfolding stream_rules
  stream_entries = g.streams.1.1.0

  pub streams_few : 1 ≤ entries_at s 0
  unfolding streams_counted
  streams_few = range_low 1 8 (entries_at s 0) (both (within 1 8 (entries_at s 0)) _ stream_head.counts).0

  pub streams_most : entries_at s 0 ≤ 8
  unfolding streams_counted
  streams_most = range_high 1 8 (entries_at s 0) (both (within 1 8 (entries_at s 0)) _ stream_head.counts).0

  pub dated : is_day (date_in s) ≡ true
  unfolding streams_counted
  dated = (both (is_day (date_in s)) (zeros_at s 14 2) (both (within 1 8 (entries_at s 0)) _ stream_head.counts).1).0

  pub date_zeros : zeros_at s 14 2 ≡ true
  unfolding streams_counted
  date_zeros = (both (is_day (date_in s)) (zeros_at s 14 2) (both (within 1 8 (entries_at s 0)) _ stream_head.counts).1).1

  module _ (j : ℕ) (p : j < blocks_in s - 1) where
    rules : AllHold (bank_rules s (blocks_in s) (1 + j))
    rules = block_holds s (blocks_in s) 1 (blocks_in s - 1) j g.banks p

    pub bank_check : check_right s (512 * (1 + j)) ≡ true
    unfolding bank_rules
    bank_check = rules.0

    pub bank_head : Headed s (512 * (1 + j)) 66 (1 + j) (blocks_in s) (banks_counted (blocks_in s) (1 + j) (entries_at s (512 * (1 + j)))) 8 24
    unfolding bank_rules
    bank_head = headed s (512 * (1 + j)) 66 (1 + j) (blocks_in s) (banks_counted (blocks_in s) (1 + j) (entries_at s (512 * (1 + j)))) 8 24 rules.1.0

    pub bank_entries : entries_right s 24 (bank_right s (entries_at s 0)) (code_before s (1 + j)) (512 * (1 + j) + 8) (entries_at s (512 * (1 + j))) ≡ true
    unfolding bank_rules
    bank_entries = rules.1.1.0

  -- the counts of the blocks of banks
  pub count_full : (j : ℕ) → j < blocks_in s - 1 → 1 + j + 1 < blocks_in s → entries_at s (512 * (1 + j)) ≡ 20
  unfolding banks_counted
  count_full j p h = eqb-true _ 20 (rw (lt-ltb (1 + j + 1) (blocks_in s) h) at (bank_head j p).counts)

  module _ (j : ℕ) (p : j < blocks_in s - 1) (h : blocks_in s ≤ 1 + j + 1) where
    last_count : (within 1 20 (entries_at s (512 * (1 + j))) && leb (20 * (1 + j - 1) + entries_at s (512 * (1 + j))) 64) ≡ true
    unfolding banks_counted
    last_count = rw (le-ltb (1 + j + 1) (blocks_in s) h) at (bank_head j p).counts

    pub last_some : 1 ≤ entries_at s (512 * (1 + j))
    last_some = range_low 1 20 _ (both (within 1 20 (entries_at s (512 * (1 + j)))) _ last_count).0

    pub last_few : entries_at s (512 * (1 + j)) ≤ 20
    last_few = range_high 1 20 _ (both (within 1 20 (entries_at s (512 * (1 + j)))) _ last_count).0

    pub last_most : 20 * (1 + j - 1) + entries_at s (512 * (1 + j)) ≤ 64
    last_most = leb-true _ 64 (both (within 1 20 (entries_at s (512 * (1 + j)))) _ last_count).1

  last_block : 1 + (blocks_in s - 2) ≡ blocks_in s - 1
  last_block = omega (arith, g.few)

  pub banks_most : bank_count s (blocks_in s) ≤ 64
  unfolding bank_count
  banks_most =
      let most = last_most (blocks_in s - 2) (omega (arith, g.few)) (omega (arith, g.few)) in
      omega (arith, rw last_block at most, g.few)
