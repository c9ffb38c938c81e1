-- A book that is accepted is in range: its day, its streams and its banks.
use Rattle.std.specs.Prelude.{Option, Some, None, Ok}
use Prim.Native.Nat.{ℕ, zero, suc, ◌+◌, ◌*◌, ◌-◌, ◌/◌, ◌%◌, ◌^◌, ◌≤◌, ◌<◌}
use mathlib.Core.Path.{◌≡◌, refl, sym, ◌∙◌, ap}
use mathlib.Core.Bool.{Bool, true, false, ◌&&◌, false≢true}
use mathlib.Core.List.{List, [], ◌∷◌}
use native.Mathlib.Nat.{add-zero, mul-zero, mul-suc, pow-succ'}
use native.Mathlib.Omega.{arith}
use lib.ListN.{length, get_or, take, drop}
use lib.Dec.{leb, ltb, eqb}
use borrow.Author.Tests.{leb-true, ltb-true, ltb-false, eqb-true, lt-ltb}
use Rattle.chars.specs.Words.{within}
use Rattle.chars.specs.Chars.{is_code, is_letter}
use Rattle.chars.proofs.Laws.{range_low, range_high, digit_high}
use Rattle.codes.specs.Codes.{packed, pack_on, short_at, Bytes}
use Rattle.codes.proofs.Laws.{pack_take, short_text_lem}
use Rattle.dates.specs.Dates.{day_of, sum}
use Rattle.dates.proofs.Laws.{day_back}
use Rattle.text_scan.specs.Scan.{on_next, code_at, number_at}
use Rattle.text_scan.specs.Spelling.{All}
use Rattle.text_scan.proofs.Standing.{code_sound}
use Rattle.book_read.specs.declared.Field.{Field}
use Rattle.book_read.specs.declared.Field.TheVariants.{Code, Flags, Balance, Sublimit}
use Rattle.book_read.specs.Block.{entries_at, entries_right, zeros_at}
use Rattle.book_read.specs.Book.{most_money, code_right, numbered, date_in, is_day, stream_right, bits_past, balance_at, sublimit_at, bank_right, blocks_in, code_before, each, bank_place, bank_count, balance_of, total_right, book_check}
use Rattle.book_read.specs.Accounts.{Stream, Bank, stream_at, bank_at, on_day, day_in, streams_in, banks_in, field_of, column}
use Rattle.book_read.specs.Range.{Each, all_are, is_short, Rising, stream_codes, InRange}
use Rattle.book_read.proofs.Leaves.{before_next}
use Rattle.book_read.proofs.Rules.{by_holds}
use Rattle.book_read.proofs.Accepted.{both, Accepted, accepted, dated, stream_entries, streams_few, streams_most, bank_entries, count_full, last_some, last_few, banks_most}
use Rattle.book_read.proofs.Filling.{map_each, each_length}

-- ---- entries: each is right, and their codes rise

module _ (s : List ℕ) (w : ℕ) (right : ℕ → Bool) where
  here : (at : ℕ) → at ≡ at + w * 0
  here at = rw mul-zero (sym (add-zero at))

  there : (at j : ℕ) → at + w + w * j ≡ at + w * suc j
  there at j = rw mul-suc (omega arith)

  entry_split : (n before at : ℕ) → entries_right s w right before at (suc n) ≡ true
      → ((ltb before (short_at s at) && right at) ≡ true) × (entries_right s w right (short_at s at) (at + w) n ≡ true)
  unfolding entries_right
  entry_split n before at h = both (ltb before (short_at s at) && right at) _ h

  pub entry_first : (n before at : ℕ) → entries_right s w right before at n ≡ true → 0 < n → before < short_at s at
  entry_first zero before at h p = absurd (omega arith)
  entry_first (suc n) before at h p = ltb-true before (short_at s at) (both (ltb before (short_at s at)) (right at) (entry_split n before at h).0).0

  pub entry_right : (n before at j : ℕ) → entries_right s w right before at n ≡ true → j < n → right (at + w * j) ≡ true
  entry_right zero before at j h p = absurd (omega arith)
  entry_right (suc n) before at zero h p = rw (← here at) (both (ltb before (short_at s at)) (right at) (entry_split n before at h).0).1
  entry_right (suc n) before at (suc j) h p = rw (← there at j) (entry_right n (short_at s at) (at + w) j (entry_split n before at h).1 (omega arith))

  pub entry_rise : (n before at j : ℕ) → entries_right s w right before at n ≡ true → j + 1 < n → short_at s (at + w * j) < short_at s (at + w * (j + 1))
  entry_rise zero before at j h p = absurd (omega arith)
  entry_rise (suc n) before at zero h p =
      let z : at + w * (0 + 1) ≡ at + w = sym (there at 0) ∙ sym (here (at + w)) in
      rw (← here at, z) (entry_first n (short_at s at) (at + w) (entry_split n before at h).1 (omega arith))
  entry_rise (suc n) before at (suc j) h p =
      let z : suc j + 1 ≡ suc (j + 1) = omega arith in
      rw (z, ← there at j, ← there at (j + 1)) (entry_rise n (short_at s at) (at + w) j (entry_split n before at h).1 (omega arith))

-- ---- lists by their numbers

pub each_all : {A : Type 0} (P : A → Type 0) (f : ℕ → A) (i n : ℕ) → ((k : ℕ) → i ≤ k → k < i + n → P (f k)) → Each P (each f i n)
each_all P f i zero h = tt
each_all P f i (suc n) h = (h i (omega arith) (omega arith), each_all P f (i + 1) n (λ k p q. h k (omega arith) (omega arith)))

pub each_rising : (f : ℕ → ℕ) (i n : ℕ) → ((k : ℕ) → i ≤ k → k + 1 < i + n → f k < f (k + 1)) → Rising (each f i n)
each_rising f i zero h = tt
each_rising f i (suc zero) h = tt
each_rising f i (suc (suc n)) h =
    (h i (omega arith) (omega arith), each_rising f (i + 1) (suc n) (λ k p q. h k (omega arith) (omega arith)))

codes_each : (f : ℕ → Stream) (i n : ℕ) → stream_codes (each f i n) ≡ each (λ (j : ℕ). (f j).code) i n
codes_each f i zero = refl
codes_each f i (suc n) = ap (λ (l : List ℕ). (f i).code ∷ l) (codes_each f (i + 1) n)

-- ---- four of A-Z 0-9

code_small : (x : ℕ) → is_code x ≡ true → x < 256
unfolding is_code is_letter
code_small x h =
    by_holds (within 65 90 x)
    (λ e. omega (arith, range_high 65 90 x e))
    (λ e. omega (arith, digit_high x (rw e at h)))

codes_bytes : (l : List ℕ) → All is_code l → Bytes l
codes_bytes [] a = tt
codes_bytes (x ∷ l) a = (code_small x a.0, codes_bytes l a.1)

all_are_lem : (is : ℕ → Bool) (l : List ℕ) → All is l → all_are is l ≡ true
all_are_lem is [] a = refl
all_are_lem is (x ∷ l) a = rw a.0 (all_are_lem is l a.1)

four_small : (l : List ℕ) → length l ≡ 4 → Bytes l → packed 4 l < 4294967296
unfolding pack_on
four_small [] h b = absurd (omega arith)
four_small (x ∷ []) h b = absurd (omega arith)
four_small (x ∷ y ∷ []) h b = absurd (omega arith)
four_small (x ∷ y ∷ z ∷ []) h b = absurd (omega arith)
four_small (x ∷ y ∷ z ∷ u ∷ []) h b = omega (arith, b.0, b.1.0, b.1.1.0, b.1.1.1.0)
four_small (x ∷ y ∷ z ∷ u ∷ v ∷ l) h b = absurd (omega arith)

pub short_right : (s : List ℕ) (at : ℕ) → code_right s at ≡ true → is_short (short_at s at) ≡ true
unfolding short_at
short_right s at h = go (code_at s at 4) refl h
  where
    go : (r : Option ℕ) → code_at s at 4 ≡ r → on_next r false (λ e. true) ≡ true → is_short (packed 4 (drop at s)) ≡ true
    go (Some e) q h =
        let t = (code_sound s at 4 q).0 in
        let b = codes_bytes (take 4 (drop at s)) t.all in
        rw (← pack_take 4 0 (drop at s), lt-ltb _ 4294967296 (four_small (take 4 (drop at s)) t.size b), short_text_lem (take 4 (drop at s)) t.size b)
        (all_are_lem is_code (take 4 (drop at s)) t.all)
    go None q h = absurd (false≢true h)

-- ---- the date

day_small : (s : List ℕ) → is_day (date_in s) ≡ true → day_in s < 36525
unfolding date_in day_in
day_small s h = fixed (number_at s 8 6) h
  where
    day : (v : ℕ) (d : Option ℕ) → day_of v ≡ d → is_day d ≡ true → on_day d < 36525
    day v (Some k) p h = (day_back v k p).1
    day v None p h = absurd (false≢true h)

    fixed : (f : Option (ℕ × ℕ)) → is_day (numbered f) ≡ true → on_day (numbered f) < 36525
    fixed (Some (v, e)) h = day v (day_of v) refl h
    fixed None h = absurd (false≢true h)

-- ---- one stream, one bank

pub record RightStream (x : Stream) : Type 0 where
  pub code : is_short x.code ≡ true
  pub sender : (1 ≤ x.sender) × (x.sender ≤ 255)

pub stream_gives : (s : List ℕ) (at : ℕ) → stream_right s at ≡ true → RightStream (stream_at s at)
unfolding stream_right
stream_gives s at h =
    let a = both (code_right s at) _ h in
    let b = (both (within 1 255 (get_or s (at + 4) 0)) _ a.1).0 in
    record { code = short_right s at a.0; sender = (range_low 1 255 _ b, range_high 1 255 _ b) }

-- no bit stands past the first n
pub bits_small : (n bits : ℕ) → bits_past n bits ≡ 0 → bits < 2 ^ n
unfolding bits_past
bits_small zero bits h = omega arith
bits_small (suc n) bits h = rw pow-succ' (omega (arith, bits_small n (bits / 2) h))

pub record RightBank (streams : ℕ) (x : Bank) : Type 0 where
  pub code : is_short x.code ≡ true
  pub flags : x.flags / 2 < 2 ^ streams
  pub balance : x.balance ≤ most_money
  pub sublimit : x.sublimit ≤ most_money

pub bank_gives : (s : List ℕ) (streams at : ℕ) → bank_right s streams at ≡ true → RightBank streams (bank_at s at)
unfolding bank_right
bank_gives s streams at h =
    let f = get_or s (at + 4) 0 in
    let g = get_or s (at + 5) 0 in
    let a = both (code_right s at) _ h in
    let c = both (leb f 1) _ a.1 in
    let d = both (eqb (bits_past streams g) 0) _ c.1 in
    let z = both (zeros_at s (at + 6) 2) _ d.1 in
    let m = both (leb (balance_at s at) most_money) _ z.1 in
    let one : f ≤ 1 = leb-true f 1 c.0 in
    let half : (f + 2 * g) / 2 ≡ g = omega arith in
    record {
      code = short_right s at a.0;
      flags = rw half (bits_small streams g (eqb-true _ 0 d.0));
      balance = leb-true (balance_at s at) most_money m.0;
      sublimit = leb-true (sublimit_at s at) most_money m.1;
    }

-- ---- the whole

module _ {s : List ℕ} (g : Accepted s) where
  stream_on : (i : ℕ) → i < entries_at s 0 → RightStream (stream_at s (8 * i + 16))
  stream_on i p =
      let z : 16 + 8 * i ≡ 8 * i + 16 = omega arith in
      stream_gives s (8 * i + 16) (rw z at (entry_right s 8 (stream_right s) (entries_at s 0) 0 16 i (stream_entries g) p))

  streams_on_lem : (i : ℕ) → i + 1 < entries_at s 0 → short_at s (8 * i + 16) < short_at s (8 * (i + 1) + 16)
  streams_on_lem i p =
      let z : 8 * i + 16 ≡ 16 + 8 * i = omega arith in
      let y : 8 * (i + 1) + 16 ≡ 16 + 8 * (i + 1) = omega arith in
      rw (z, y) (entry_rise s 8 (stream_right s) (entries_at s 0) 0 16 i (stream_entries g) p)

  -- the block of a bank, and its place there
  block_of : (i : ℕ) → i < bank_count s (blocks_in s) → i / 20 < blocks_in s - 1
  unfolding bank_count
  block_of i p =
      let z : 1 + (blocks_in s - 2) ≡ blocks_in s - 1 = omega (arith, g.few) in
      let few = last_few g (blocks_in s - 2) (omega (arith, g.few)) (omega (arith, g.few)) in
      omega (arith, rw z at few, g.few)

  entry_of : (i : ℕ) → i < bank_count s (blocks_in s) → i % 20 < entries_at s (512 * (1 + i / 20))
  unfolding bank_count
  entry_of i p =
      let q = block_of i p in
      by_holds (ltb (1 + i / 20 + 1) (blocks_in s))
      (λ e. omega (arith, count_full g (i / 20) q (ltb-true (1 + i / 20 + 1) (blocks_in s) e)))
      (λ e.
      let end : blocks_in s ≤ 1 + i / 20 + 1 = ltb-false (1 + i / 20 + 1) (blocks_in s) e in
      let z : blocks_in s - 1 ≡ 1 + i / 20 = omega arith in
      let same : entries_at s (512 * (blocks_in s - 1)) ≡ entries_at s (512 * (1 + i / 20)) = rw z in
      omega arith)

  bank_on : (i : ℕ) → i < bank_count s (blocks_in s) → RightBank (entries_at s 0) (bank_at s (bank_place i))
  unfolding bank_place
  bank_on i p =
      let q = block_of i p in
      let at = 512 * (1 + i / 20) in
      let z : at + 8 + 24 * (i % 20) ≡ 512 * (i / 20 + 1) + (24 * (i % 20) + 8) = omega arith in
      let r = entry_right s 24 (bank_right s (entries_at s 0)) (entries_at s at) (code_before s (1 + i / 20)) (at + 8) (i % 20) (bank_entries g (i / 20) q) (entry_of i p) in
      bank_gives s (entries_at s 0) (512 * (i / 20 + 1) + (24 * (i % 20) + 8)) (rw z at r)

  banks_on_lem : (i : ℕ) → i + 1 < bank_count s (blocks_in s) → short_at s (bank_place i) < short_at s (bank_place (i + 1))
  unfolding bank_place
  banks_on_lem i p =
      let i₁ : i < bank_count s (blocks_in s) = omega arith in
      by_holds (ltb (i % 20) 19)
      (λ e.
      let r : i % 20 < 19 = ltb-true (i % 20) 19 e in
      let q = block_of i i₁ in
      let at = 512 * (1 + i / 20) in
      let d : (i + 1) / 20 ≡ i / 20 = omega arith in
      let m : (i + 1) % 20 ≡ i % 20 + 1 = omega arith in
      let n : i % 20 + 1 < entries_at s at = rw (d, m) at (entry_of (i + 1) p) in
      let z : 512 * (i / 20 + 1) + (24 * (i % 20) + 8) ≡ at + 8 + 24 * (i % 20) = omega arith in
      let y : 512 * (i / 20 + 1) + (24 * (i % 20 + 1) + 8) ≡ at + 8 + 24 * (i % 20 + 1) = omega arith in
      rw (d, m, z, y) (entry_rise s 24 (bank_right s (entries_at s 0)) (entries_at s at) (code_before s (1 + i / 20)) (at + 8) (i % 20) (bank_entries g (i / 20) q) n))
      (λ e.
      let r : 19 ≤ i % 20 = ltb-false (i % 20) 19 e in
      let k = (i + 1) / 20 in
      let q = block_of (i + 1) p in
      let m : (i + 1) % 20 ≡ 0 = omega arith in
      let n : 0 < entries_at s (512 * (1 + k)) = rw m at (entry_of (i + 1) p) in
      let z : 512 * (i / 20 + 1) + (24 * (i % 20) + 8) ≡ 512 * (1 + k) - 48 = omega arith in
      let y : 512 * (k + 1) + (24 * 0 + 8) ≡ 512 * (1 + k) + 8 = omega arith in
      let c = before_next s (1 + k) (omega arith) refl in
      rw (m, z, y, c) (entry_first s 24 (bank_right s (entries_at s 0)) (entries_at s (512 * (1 + k))) (code_before s (1 + k)) (512 * (1 + k) + 8) (bank_entries g k q) n))

  -- a column of the banks, each of which is in range
  column_all : (P : ℕ → Type 0) (f : Field) → ((i : ℕ) → i < bank_count s (blocks_in s) → P (field_of f (bank_at s (bank_place i)))) → Each P (column f (banks_in s))
  unfolding banks_in
  column_all P f h =
      rw (map_each (field_of f) (λ (i : ℕ). bank_at s (bank_place i)) 0 (bank_count s (blocks_in s)))
      (each_all P (λ i. field_of f (bank_at s (bank_place i))) 0 (bank_count s (blocks_in s)) (λ k p q. h k (omega arith)))

  some_of_banks : 1 ≤ bank_count s (blocks_in s)
  unfolding bank_count
  some_of_banks =
      let z : 1 + (blocks_in s - 2) ≡ blocks_in s - 1 = omega (arith, g.few) in
      let some = last_some g (blocks_in s - 2) (omega (arith, g.few)) (omega (arith, g.few)) in
      omega (arith, rw z at some)

  streams_long : length (streams_in s) ≡ entries_at s 0
  unfolding streams_in
  streams_long = each_length (λ (i : ℕ). stream_at s (8 * i + 16)) 0 (entries_at s 0)

  banks_long : length (banks_in s) ≡ bank_count s (blocks_in s)
  unfolding banks_in
  banks_long = each_length (λ (i : ℕ). bank_at s (bank_place i)) 0 (bank_count s (blocks_in s))

  streams_all : (P : Stream → Type 0) → ((i : ℕ) → i < entries_at s 0 → P (stream_at s (8 * i + 16))) → Each P (streams_in s)
  unfolding streams_in
  streams_all P h = each_all P (λ i. stream_at s (8 * i + 16)) 0 (entries_at s 0) (λ k p q. h k (omega arith))

  streams_rising : Rising (stream_codes (streams_in s))
  unfolding streams_in
  streams_rising =
      rw (codes_each (λ i. stream_at s (8 * i + 16)) 0 (entries_at s 0))
      (each_rising (λ i. short_at s (8 * i + 16)) 0 (entries_at s 0) (λ k p q. streams_on_lem k (omega arith)))

  banks_rising : Rising (column Code (banks_in s))
  unfolding banks_in
  banks_rising =
      rw (map_each (field_of Code) (λ (i : ℕ). bank_at s (bank_place i)) 0 (bank_count s (blocks_in s)))
      (each_rising (λ i. short_at s (bank_place i)) 0 (bank_count s (blocks_in s)) (λ k p q. banks_on_lem k (omega arith)))

  total_small : sum (column Balance (banks_in s)) ≤ most_money
  unfolding banks_in total_right
  total_small =
      rw (map_each (field_of Balance) (λ (i : ℕ). bank_at s (bank_place i)) 0 (bank_count s (blocks_in s)))
      (leb-true (sum (each (balance_of s) 0 (bank_count s (blocks_in s)))) most_money g.total)

  pub in_range : InRange (day_in s) (streams_in s) (banks_in s)
  in_range = record {
    date = day_small s (dated g);
    some_streams = rw streams_long (streams_few g);
    few_streams = rw streams_long (streams_most g);
    some_banks = rw banks_long some_of_banks;
    few_banks = rw banks_long (banks_most g);
    stream_codes_short = streams_all (λ x. is_short x.code ≡ true) (λ i p. (stream_on i p).code);
    administrators = streams_all (λ x. (1 ≤ x.sender) × (x.sender ≤ 255)) (λ i p. (stream_on i p).sender);
    streams_rise = streams_rising;
    bank_codes = column_all (λ x. is_short x ≡ true) Code (λ i p. (bank_on i p).code);
    banks_rise = banks_rising;
    flags_right = rw streams_long (column_all (λ x. x / 2 < 2 ^ entries_at s 0) Flags (λ i p. (bank_on i p).flags));
    balances_right = column_all (λ x. x ≤ most_money) Balance (λ i p. (bank_on i p).balance);
    sublimits_right = column_all (λ x. x ≤ most_money) Sublimit (λ i p. (bank_on i p).sublimit);
    total = total_small;
  }

-- every book that is accepted is in range, whatever else the list holds
pub accepted_in_range : (s : List ℕ) → book_check s ≡ Ok tt → InRange (day_in s) (streams_in s) (banks_in s)
accepted_in_range s h = in_range (accepted s h)
