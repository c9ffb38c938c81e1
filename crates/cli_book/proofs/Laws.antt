-- The loops over a book's account: where each stands, and what it leaves.
use Rattle.std.specs.Prelude.{Option, Some, None}
use Prim.Native.Nat.{ℕ, suc, ◌+◌, ◌-◌, ◌*◌, ◌^◌, ◌≤◌, ◌<◌}
use mathlib.Core.Path.{◌≡◌, refl, sym, ◌∙◌}
use mathlib.Core.Bool.{false}
use mathlib.Core.List.{List, []}
use native.Mathlib.Nat.{pow-succ', pow-le-pow_right}
use native.Mathlib.Numerals.{add-one}
use native.Mathlib.Omega.{arith}
use lib.Dec.{eqb}
use lib.ListN.{length, get_or, drop, set, length-set, drop_of_length-le}
use lib.Seq.{drop-cons}
use borrow.Author.Tests.{eq-eqb, ne_eqb, eqb-true, eqb-false}
use Rattle.book_read.proofs.Rules.{by_holds}
use Rattle.dates.specs.Dates.{sum}
use Rattle.cli_book.specs.declared.Bits.{Bits}
use Rattle.cli_book.specs.declared.Entry.{Entry}
use Rattle.cli_book.specs.Account.{stream_at, streams, streams_on, streams_at, bit_on, bits_on, bits_at, bank_at, banks, banks_on, banks_at}

-- ---- bits

-- where the loop of `read_bits` stands
pub record Gathering (s : List ℕ) (at : ℕ) (row : List ℕ) (found : Bits) (bit i : ℕ) : Type 0 where
  pub few : i ≤ 8
  pub power : bit ≡ 2 ^ i
  pub small : found.bits < bit
  pub same : bits_on (8 - i) s row i bit found ≡ bits_at s at row

module _ {s : List ℕ} {at : ℕ} {row : List ℕ} {found : Bits} {bit i : ℕ} (g : Gathering s at row found bit i) where
  pub gathering_fits : bit ≤ 256
  gathering_fits = rw g.power (pow-le-pow_right {n = 2} (omega arith) {i = i} {j = 8} g.few)

  pub gathering_on : {next : Bits} → i < 8 → next ≡ bit_on s found (get_or row (2 * i) 0) bit → next.bits ≤ found.bits + bit
      → Gathering s at row next (2 * bit) (i + 1)
  unfolding bits_on
  gathering_on h e l =
      let z : 8 - i ≡ suc (8 - (i + 1)) = omega arith in
      record {
        few = omega arith;
        power = rw (g.power, add-one, pow-succ') (omega arith);
        small = omega (arith, g.small);
        same = rw e (rw z at g.same);
      }

  pub gathering_done : 8 ≤ i → found ≡ bits_at s at row
  unfolding bits_on
  gathering_done h = let z : 8 - i ≡ 0 = omega (arith, g.few) in rw z at g.same

-- ---- the loops over lines

pub record Serving (s : List ℕ) (at : ℕ) (row : List ℕ) (n here : ℕ) : Type 0 where
  pub room : n ≤ 8
  pub size : length row ≡ 16
  pub same : streams_on (8 - n) s here n row ≡ streams_at s at

module _ {s : List ℕ} {at : ℕ} {row : List ℕ} {n here : ℕ} (g : Serving s at row n here) where
  pub serving_done : 8 ≤ n → streams row 8 here ≡ streams_at s at
  unfolding streams_on
  serving_done h = let z : n ≡ 8 = omega (arith, g.room) in rw z at g.same

  module _ {r : Option (ℕ × ℕ × ℕ)} (h : n < 8) (p : r ≡ stream_at s here) where
    one_more : 8 - n ≡ suc (8 - (n + 1))
    one_more = omega arith

    pub serving_stop : r ≡ None → streams row n here ≡ streams_at s at
    unfolding streams_on
    serving_stop p' = simp (one_more, ← p, p') at g.same

    pub serving_on : {code administrator next : ℕ} → r ≡ Some (code, administrator, next)
        → Serving s at (set (set row (2 * n) code) (2 * n + 1) administrator) (n + 1) next
    unfolding streams_on
    serving_on p' = record {
      room = omega arith;
      size = simp length-set g.size;
      same = simp (one_more, ← p, p') at g.same;
    }

pub record Holding (s : List ℕ) (at : ℕ) (row codes flags balances sublimits : List ℕ) (n here : ℕ) : Type 0 where
  pub room : n ≤ 64
  pub codes_size : length codes ≡ 64
  pub flags_size : length flags ≡ 64
  pub balances_size : length balances ≡ 64
  pub sublimits_size : length sublimits ≡ 64
  pub same : banks_on (64 - n) s row here n codes flags balances sublimits ≡ banks_at s at row

module _ {s : List ℕ} {at : ℕ} {row codes flags balances sublimits : List ℕ} {n here : ℕ} (g : Holding s at row codes flags balances sublimits n here) where
  pub holding_done : 64 ≤ n → banks codes flags balances sublimits 64 here ≡ banks_at s at row
  unfolding banks_on
  holding_done h = let z : n ≡ 64 = omega (arith, g.room) in rw z at g.same

  module _ {r : Option (Entry × ℕ)} (h : n < 64) (p : r ≡ bank_at s here row) where
    one_bank_more : 64 - n ≡ suc (64 - (n + 1))
    one_bank_more = omega arith

    pub holding_stop : r ≡ None → banks codes flags balances sublimits n here ≡ banks_at s at row
    unfolding banks_on
    holding_stop p' = simp (one_bank_more, ← p, p') at g.same

    pub holding_on : {b : Entry} {next : ℕ} → r ≡ Some (b, next)
        → Holding s at row (set codes n b.code) (set flags n b.flags) (set balances n b.balance) (set sublimits n b.sublimit) (n + 1) next
    unfolding banks_on
    holding_on p' = record {
      room = omega arith;
      codes_size = simp length-set g.codes_size;
      flags_size = simp length-set g.flags_size;
      balances_size = simp length-set g.balances_size;
      sublimits_size = simp length-set g.sublimits_size;
      same = simp (one_bank_more, ← p, p') at g.same;
    }

-- ---- the sum, each number taken off the total

by_equal {ℓ} : {X : Type ℓ} (a b : ℕ) → (a ≡ b → X) → ((a ≡ b → ⊥) → X) → X
by_equal a b f g = by_holds (eqb a b) (λ e. f (eqb-true a b e)) (λ e. g (eqb-false a b e))

-- where the loop of `is_sum` stands
pub record Owing (l : List ℕ) (total rest i : ℕ) : Type 0 where
  pub few : i ≤ length l
  pub same : total + sum (drop i l) ≡ rest + sum l

pub owing_start : (l : List ℕ) (total : ℕ) → Owing l total total 0
owing_start l total = record { few = omega arith; same = refl }

module _ {l : List ℕ} {total rest i : ℕ} (g : Owing l total rest i) (size : length l ≡ 64) where
  next_off : i < 64 → sum (drop i l) ≡ get_or l i 0 + sum (drop (i + 1) l)
  next_off h = let here : i < length l = omega arith in rw (add-one, drop-cons l i 0 here)

  pub owing_short : i < 64 → rest < get_or l i 0 → false ≡ eqb total (sum l)
  owing_short h q = sym (ne_eqb total (sum l) (λ z. omega (arith, next_off h, g.same)))

  pub owing_on : i < 64 → get_or l i 0 ≤ rest → Owing l total (rest - get_or l i 0) (i + 1)
  owing_on h q = record { few = omega arith; same = omega (arith, next_off h, g.same) }

  pub owing_done : 64 ≤ i → eqb rest 0 ≡ eqb total (sum l)
  owing_done h =
      let none : drop i l ≡ [] = drop_of_length-le l {i = i} (omega arith) in
      let same : total + 0 ≡ rest + sum l = rw none at g.same in
      by_equal rest 0
      (λ e. eq-eqb rest 0 e ∙ sym (eq-eqb total (sum l) (omega arith)))
      (λ n. ne_eqb rest 0 n ∙ sym (ne_eqb total (sum l) (λ z. n (omega arith))))
