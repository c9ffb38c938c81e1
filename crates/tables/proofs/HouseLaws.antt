-- Laws of the tests of the house's rules.
use Prim.Native.Nat.{ℕ, zero, suc, ◌+◌, ◌-◌, ◌*◌, ◌≤◌, ◌<◌}
use mathlib.Core.Path.{◌≡◌, refl, ap, ◌∙◌}
use mathlib.Core.Bool.{Bool, true, false, cond}
use mathlib.Core.List.{List, ◌∷◌}
use native.Mathlib.Omega.{arith}
use native.Mathlib.Numerals.{add-one}
use borrow.Author.Tests.{ne_eqb, eqb-true, eqb-false}
use lib.Dec.{eqb}
use lib.Bits.{bit_or, or_zero_r, or_add_and, and_le_l}
use lib.ListN.{length, get_or, drop, length-drop}
use Rattle.book_read.specs.Accounts.{Stream}
use Rattle.book_read.specs.Book.{each}
use Rattle.book_read.proofs.Filling.{each_length}
use Rattle.book_write.specs.Closing.{stream_of}
use Rattle.book_read.specs.Range.{Rising, is_short, stream_codes}
use Rattle.model.specs.Rules.{RightHouse}
use Rattle.tables.specs.declared.Desk.{Desk}
use Rattle.tables.specs.Rows.{streams_on}
use Rattle.tables.specs.House.{house_on, AllZero, Lengths, RightStreams, RightBanks, ZeroPast, RightMoney}
use Rattle.tables.proofs.TestLaws.{Both, row_not, row_on, rising_end, rising_not, rising_on}

-- ---- a word of a row

-- all words before a place are zero, or one of them is not
abbrev pub Zeroed : List ℕ → ℕ → Bool → Type 0
Zeroed l i true = Both (AllZero l) (AllZero (drop i l))
Zeroed l i false = AllZero l → ⊥

pub zeroed_on : (l : List ℕ) (i : ℕ) (b : Bool) {r : Bool} → Zeroed l i b → i < length l → r ≡ cond (eqb (get_or l i 0) 0) b false → Zeroed l (i + 1) r
zeroed_on l i b z h e = rw e (go (eqb (get_or l i 0) 0) refl b z)
  where
    go : (c : Bool) → eqb (get_or l i 0) 0 ≡ c → (b : Bool) → Zeroed l i b → Zeroed l (i + 1) (cond c b false)
    go true f true z = row_on (λ x. x ≡ 0) l i z h (eqb-true (get_or l i 0) 0 f)
    go true f false z = z
    go false f true z = row_not (λ x. x ≡ 0) l i z h (eqb-false (get_or l i 0) 0 f)
    go false f false z = z

pub joined_zero : (a w : ℕ) → eqb (bit_or a w) 0 ≡ cond (eqb w 0) (eqb a 0) false
joined_zero a w = go (eqb w 0) refl
  where
    go : (c : Bool) → eqb w 0 ≡ c → eqb (bit_or a w) 0 ≡ cond c (eqb a 0) false
    go true f = let e = eqb-true w 0 f in ap (λ (x : ℕ). eqb (bit_or a x) 0) e ∙ ap (λ (x : ℕ). eqb x 0) (or_zero_r a)
    go false f =
        let n = eqb-false w 0 f in
        ne_eqb (bit_or a w) 0 (λ e. n (omega (arith, e, or_add_and a w, and_le_l a w)))

-- ---- codes that rise

module _ {Q : Type 0} (l : List ℕ) where
  pub rise_end : (i : ℕ) → Both Q (Rising (drop (i - 1) l)) → length l ≤ i → Q
  rise_end i b h = rising_end (drop (i - 1) l) b (rw length-drop (omega arith))

-- ---- streams: code and administrator of each

abbrev pub streams_from : List ℕ → (n i : ℕ) → List Stream
streams_from row n i = each (stream_of row) i (n - i)

stream_cut : (row : List ℕ) (n i : ℕ) → i < n → streams_from row n i ≡ stream_of row i ∷ streams_from row n (i + 1)
stream_cut row n i h = let e : n - i ≡ suc (n - (i + 1)) = omega arith in rw e

abbrev pub Named : Stream → Type 0
Named x = is_short x.code ≡ true

abbrev pub Sent : Stream → Type 0
Sent x = (1 ≤ x.sender) × (x.sender ≤ 255)

abbrev pub StreamsRise : List ℕ → (n i : ℕ) → Type 0
StreamsRise row n i = Rising (stream_codes (streams_from row n i))

pair : (row : List ℕ) (n j : ℕ) → suc j < n
    → stream_codes (streams_from row n j) ≡ get_or row (2 * j) 0 ∷ get_or row (2 * suc j) 0 ∷ stream_codes (streams_from row n (suc j + 1))
pair row n j h = rw (stream_cut row n j (omega arith), add-one j, stream_cut row n (suc j) h)

module _ {Q : Type 0} (row : List ℕ) (n : ℕ) where
  pub climb_not : (i : ℕ) → Both Q (StreamsRise row n (i - 1)) → 1 ≤ i → i < n → get_or row (2 * i) 0 ≤ get_or row (2 * (i - 1)) 0 → Q → ⊥
  climb_not zero b o h e = absurd (omega arith)
  climb_not (suc j) b o h n' =
      let e : suc j - 1 ≡ j = omega arith in
      rising_not (stream_codes (streams_from row n j)) (rw e at b) (get_or row (2 * j) 0) (get_or row (2 * suc j) 0) (stream_codes (streams_from row n (suc j + 1))) (pair row n j h) (rw e at n')

  pub climb_on : (i : ℕ) → Both Q (StreamsRise row n (i - 1)) → 1 ≤ i → i < n → get_or row (2 * (i - 1)) 0 < get_or row (2 * i) 0
      → Both Q (StreamsRise row n (i + 1 - 1))
  climb_on zero b o h e = absurd (omega arith)
  climb_on (suc j) b o h n' =
      let e : suc j - 1 ≡ j = omega arith in
      let f : suc j + 1 - 1 ≡ suc j = omega arith in
      rw f
      (rising_on (stream_codes (streams_from row n j)) (rw e at b) (get_or row (2 * j) 0) (get_or row (2 * suc j) 0) (stream_codes (streams_from row n (suc j + 1))) (pair row n j h) (rw e at n') (stream_codes (streams_from row n (suc j))) (ap stream_codes (stream_cut row n (suc j) h)))

-- ---- the house

module _ (d : Desk) (codes flags balances sublimits : List ℕ) where
  abbrev pub Right : Type 0
  Right = RightHouse (house_on d codes flags) balances sublimits

  in_use : length (streams_on d) ≡ d.n
  in_use = each_length (stream_of d.streams) 0 d.n

  -- the house is right where each group of its rules holds, and nowhere else
  pub house_of : Lengths codes flags balances sublimits → RightStreams (streams_on d) → d.banks ≤ 64 → RightBanks d.n d.banks codes flags
      → ZeroPast d.banks codes flags balances sublimits → RightMoney balances sublimits → Right
  house_of l s few k p m =
      record {
        few_streams = s.few;
        stream_codes_short = s.codes;
        administrators = s.administrators;
        streams_rise = s.rise;
        few_banks = few;
        codes_long = l.codes_long;
        flags_long = l.flags_long;
        balances_long = l.balances_long;
        sublimits_long = l.sublimits_long;
        bank_codes = k.codes_right;
        banks_rise = k.rise;
        flags_right = rw in_use k.flags_right;
        sublimits_right = m.sublimits_right;
        total = m.total;
        codes_past = p.codes_past;
        flags_past = p.flags_past;
        balances_past = p.balances_past;
        sublimits_past = p.sublimits_past;
      }

  pub house_gives : Right → Lengths codes flags balances sublimits × RightStreams (streams_on d) × (d.banks ≤ 64)
      × RightBanks d.n d.banks codes flags × ZeroPast d.banks codes flags balances sublimits × RightMoney balances sublimits
  house_gives w = (
    record { codes_long = w.codes_long; flags_long = w.flags_long; balances_long = w.balances_long; sublimits_long = w.sublimits_long },
    record { few = w.few_streams; codes = w.stream_codes_short; administrators = w.administrators; rise = w.streams_rise },
    w.few_banks,
    record { codes_right = w.bank_codes; rise = w.banks_rise; flags_right = (rw in_use at w.flags_right) },
    record { codes_past = w.codes_past; flags_past = w.flags_past; balances_past = w.balances_past; sublimits_past = w.sublimits_past },
    record { sublimits_right = w.sublimits_right; total = w.total },
  )
