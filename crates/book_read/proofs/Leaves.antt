-- Laws of the check's parts: bytes and numbers at a place, zeros, headers, entries, one for each return.
use Rattle.std.specs.Prelude.{Option, Some, None, is_some}
use Prim.Native.Nat.{ℕ, zero, suc, ◌+◌, ◌*◌, ◌-◌, ◌/◌, ◌^◌, ◌≤◌, ◌<◌}
use mathlib.Core.Path.{◌≡◌, refl, sym, ◌∙◌, ap}
use mathlib.Core.Bool.{Bool, true, false, ◌&&◌, and-false, and-true}
use mathlib.Core.List.{List, [], ◌∷◌}
use native.Mathlib.Nat.{add-zero, mul-le-mul, mul-add, pow-succ', pow-le-pow_right}
use native.Mathlib.Omega.{arith}
use native.Mathlib.Numerals.{add-one}
use lib.ListN.{length, get_or, drop, replicate, length-drop}
use lib.Seq.{drop-cons, get_or-drop, drop-drop}
use lib.Dec.{leb, eqb}
use borrow.Author.Tests.{lt-ltb, le-ltb, le-leb, lt-leb, eq-eqb, ne_eqb, eqb-true, eqb-false}
use Rattle.codes.specs.Codes.{short_at}
use Rattle.dates.specs.Dates.{sum}
use Rattle.text_scan.specs.Scan.{begins, lit_at}
use Rattle.text_scan.proofs.Laws.{lit_yes, lit_not}
use Rattle.book_read.specs.Block.{little, head, entries_at, head_right, zeros_at, unused_right, entries_right}
use Rattle.book_read.specs.Book.{most_money, bits_past, bank_place, code_before, each, balance_of}

-- where the loop of `little_at` stands: the bytes from the i-th on are taken
pub record Taking (s : List ℕ) (at w i v : ℕ) : Type 0 where
  pub few : i ≤ w
  pub small : v < 256 ^ (w - i)
  pub same : v ≡ little (w - i) (drop (at + i) s)

pub taking_start : (s : List ℕ) (at w : ℕ) → Taking s at w w 0
unfolding little
taking_start s at w =
    let z : w - w ≡ 0 = omega arith in
    record { few = omega arith; small = rw z (omega arith); same = rw z }

module _ {s : List ℕ} {at w i v : ℕ} (g : Taking s at w i v) where
  pub taking_fits : w ≤ 8 → 0 < i → v < 256 ^ 7
  taking_fits h p = omega (arith, g.small, g.few, pow-le-pow_right {n = 256} (omega arith) {i = w - i} {j = 7} (omega arith))

  pub taking_on : {b : ℕ} → 0 < i → b ≡ get_or s (at + (i - 1)) 0 → b < 256 → Taking s at w (i - 1) (v * 256 + b)
  unfolding little
  taking_on {b = b} p e q =
      let z : w - (i - 1) ≡ suc (w - i) = omega (arith, g.few) in
      let y : at + (i - 1) + 1 ≡ at + i = omega arith in
      record {
        few = omega (arith, g.few);
        small = rw (z, pow-succ') (omega (arith, g.small));
        same = rw (z, get_or-drop, drop-drop, y, ← g.same, add-zero, ← e) (omega arith);
      }

  pub taking_done : i ≡ 0 → v ≡ little w (drop at s)
  taking_done e = g.same ∙ rw (e, add-zero) (ap (λ (n : ℕ). little n (drop at s)) (omega arith))

-- eight bytes at once
little_none : (l : List ℕ) → little 0 l ≡ 0
unfolding little
little_none l = refl

little_step : (s : List ℕ) (w at next : ℕ) → next ≡ at + 1 → little (suc w) (drop at s) ≡ get_or s at 0 + 256 * little w (drop next s)
unfolding little
little_step s w at next e = rw (get_or-drop, drop-drop, add-zero, e)

module _ (s : List ℕ) (at : ℕ) where
  pub eight_is : little 8 (drop at s) ≡ get_or s at 0 + 256 * (get_or s (at + 1) 0 + 256 * (get_or s (at + 2) 0 + 256 * (get_or s (at + 3) 0
      + 256 * (get_or s (at + 4) 0 + 256 * (get_or s (at + 5) 0 + 256 * (get_or s (at + 6) 0 + 256 * get_or s (at + 7) 0))))))
  eight_is = omega (
    arith,
    little_step s 7 at (at + 1) refl,
    little_step s 6 (at + 1) (at + 2) (omega arith),
    little_step s 5 (at + 2) (at + 3) (omega arith),
    little_step s 4 (at + 3) (at + 4) (omega arith),
    little_step s 3 (at + 4) (at + 5) (omega arith),
    little_step s 2 (at + 5) (at + 6) (omega arith),
    little_step s 1 (at + 6) (at + 7) (omega arith),
    little_step s 0 (at + 7) (at + 8) (omega arith),
    little_none (drop (at + 8) s),
  )

-- n zeros at a place, one by one
module _ (s : List ℕ) (j n : ℕ) where
  pub zeros_none : n ≡ 0 → true ≡ zeros_at s j n
  unfolding zeros_at begins
  zeros_none e = rw e

  pub zeros_stop : 0 < n → j < length s → (get_or s j 0 ≡ 0 → ⊥) → false ≡ zeros_at s j n
  unfolding zeros_at begins
  zeros_stop p h q = let z : n ≡ suc (n - 1) = omega arith in rw (z, drop-cons s j 0 h, ne_eqb (get_or s j 0) 0 q)

  pub zeros_step : 0 < n → j < length s → get_or s j 0 ≡ 0 → zeros_at s (j + 1) (n - 1) ≡ zeros_at s j n
  unfolding zeros_at begins
  zeros_step p h q =
      let z : n ≡ suc (n - 1) = omega arith in
      ap (λ (k : ℕ). begins (replicate (n - 1) 0) (drop k s)) (add-one j)
      ∙ sym (ap (λ (k : ℕ). begins (replicate k 0) (drop j s)) z ∙ rw (drop-cons s j 0 h, eq-eqb (get_or s j 0) 0 q))

-- n zeros at a place, taken together
with_one_lem : (all e x y : Bool) → (e ≡ true → x ≡ y) → (e ≡ false → y ≡ false) → ((all && e) && x) ≡ (all && y)
with_one_lem true true x y f g = f refl
with_one_lem true false x y f g = sym (g refl)
with_one_lem false e x y f g = refl

pub zeros_on : (s : List ℕ) (end j : ℕ) (all : Bool) {r : Bool} → j < end → end ≤ length s → r ≡ (all && eqb (get_or s j 0) 0) → (r && zeros_at s (j + 1) (end - (j + 1))) ≡ (all && zeros_at s j (end - j))
zeros_on s end j all p h e =
    let z : end - (j + 1) ≡ end - j - 1 = omega arith in
    rw (e, z)
    (with_one_lem all (eqb (get_or s j 0) 0) (zeros_at s (j + 1) (end - j - 1)) (zeros_at s j (end - j))
    (λ q. zeros_step s j (end - j) (omega arith) (omega arith) (eqb-true _ _ q))
    (λ q. sym (zeros_stop s j (end - j) (omega arith) (omega arith) (eqb-false _ _ q))))

pub zeros_done : (s : List ℕ) (j n : ℕ) (all : Bool) → n ≡ 0 → all ≡ (all && zeros_at s j n)
zeros_done s j n all e = sym (and-true all) ∙ ap (λ (b : Bool). all && b) (zeros_none s j n e)

-- zeros that do not all fit before the end
too_many : (n : ℕ) (l : List ℕ) → length l < n → false ≡ begins (replicate n 0) l
unfolding begins
too_many zero l h = absurd (omega arith)
too_many (suc n) [] h = refl
too_many (suc n) (x ∷ l) h = rw (← too_many n l (omega arith)) (sym (and-false (eqb x 0)))

pub zeros_past : (s : List ℕ) (at n : ℕ) → length s < at + n → eqb n 0 ≡ zeros_at s at n
unfolding zeros_at
zeros_past s at zero h = zeros_none s at zero refl
zeros_past s at (suc n) h = rw (ne_eqb (suc n) 0 (λ e. omega arith)) (too_many (suc n) (drop at s) (simp length-drop (omega arith)))

pub bits_step : (n bits : ℕ) {fewer : ℕ} → suc fewer ≡ n → bits_past fewer (bits / 2) ≡ bits_past n bits
unfolding bits_past
bits_step n bits e = rw (← e)

pub bits_done : (n bits : ℕ) → n ≡ 0 → bits ≡ bits_past n bits
unfolding bits_past
bits_done n bits e = rw e

-- the header
pub head_is : (s : List ℕ) (at letter number blocks : ℕ) {r : Option ℕ} → r ≡ lit_at s at (head letter number (entries_at s at) blocks) → is_some r ≡ head_right s at letter number blocks
unfolding head_right
head_is s at letter number blocks {r = Some m} l = sym (lit_yes s at (head letter number (entries_at s at) blocks) (sym l))
head_is s at letter number blocks {r = None} l = sym (lit_not s at (head letter number (entries_at s at) blocks) (sym l))

pub unused_none : (s : List ℕ) (at end : ℕ) → 508 ≤ end → true ≡ unused_right s at end
unfolding unused_right
unused_none s at end h = zeros_none s (at + end) (508 - end) (omega arith)

pub before_first : (s : List ℕ) (k : ℕ) → k ≤ 1 → 0 ≡ code_before s k
unfolding code_before
before_first s k h = rw (le-leb k 1 h)

pub before_next : (s : List ℕ) (k : ℕ) {r : ℕ} → 1 < k → r ≡ short_at s (512 * k - 48) → r ≡ code_before s k
unfolding code_before
before_next s k h p = rw (lt-leb k 1 h) p

-- entries one by one
module _ (s : List ℕ) (width : ℕ) (right : ℕ → Bool) (before at left : ℕ) where
  pub entries_done : left ≡ 0 → true ≡ entries_right s width right before at left
  unfolding entries_right
  entries_done e = rw e

  module _ (h : 0 < left) where
    more : left ≡ suc (left - 1)
    more = omega arith

    pub entries_code : {code : ℕ} → code ≡ short_at s at → code ≤ before → false ≡ entries_right s width right before at left
    unfolding entries_right
    entries_code e p = rw (more, ← e, le-ltb before _ p)

    pub entries_wrong : {r : Bool} → r ≡ right at → r ≡ false → false ≡ entries_right s width right before at left
    unfolding entries_right
    entries_wrong e p = rw more (simp (← e, p, and-false))

    pub entries_step : {code next fewer : ℕ} {r : Bool} → code ≡ short_at s at → before < code → r ≡ right at → r ≡ true → next ≡ at + width → fewer ≡ left - 1
        → entries_right s width right code next fewer ≡ entries_right s width right before at left
    unfolding entries_right
    entries_step {code = code} e p q z x y =
        sym (ap (entries_right s width right before at) more ∙ rw (← e, lt-ltb before code p, ← q, z, x, y))

-- where the loop of `total_right` stands: the sum of f over the first i numbers
pub record Adding (f : ℕ → ℕ) (n total i : ℕ) : Type 0 where
  pub few : i ≤ n
  pub small : total ≤ most_money
  pub same : leb (total + sum (each f i (n - i))) most_money ≡ leb (sum (each f 0 n)) most_money

pub adding_start : (f : ℕ → ℕ) (n : ℕ) → Adding f n 0 0
adding_start f n =
    let z : n - 0 ≡ n = omega arith in
    record { few = omega arith; small = omega arith; same = let y : 0 + sum (each f 0 n) ≡ sum (each f 0 n) = omega arith in rw (z, y) }

module _ {f : ℕ → ℕ} {n total i : ℕ} (g : Adding f n total i) where
  one : i < n → each f i (n - i) ≡ f i ∷ each f (i + 1) (n - (i + 1))
  one h = let z : n - i ≡ suc (n - (i + 1)) = omega arith in rw z

  pub adding_over : {b : ℕ} → i < n → b ≡ f i → most_money - total < b → false ≡ leb (sum (each f 0 n)) most_money
  adding_over {b = b} h e q =
      sym (lt-leb (total + sum (each f i (n - i))) most_money (rw (one h, ← e) (omega (arith, g.small)))) ∙ g.same

  pub adding_on : {b : ℕ} → i < n → b ≡ f i → b ≤ most_money - total → Adding f n (total + b) (i + 1)
  adding_on {b = b} h e q = record {
    few = omega arith;
    small = omega (arith, g.small);
    same =
        let y : total + b + sum (each f (i + 1) (n - (i + 1))) ≡ total + sum (each f i (n - i)) = rw (one h, e) (omega arith) in
        rw y g.same;
  }

  pub adding_done : n ≤ i → true ≡ leb (sum (each f 0 n)) most_money
  adding_done h =
      let z : n - i ≡ 0 = omega arith in
      sym (le-leb (total + 0) most_money (omega (arith, g.small))) ∙ (rw z at g.same)

pub balance_is : (s : List ℕ) (i : ℕ) {p b : ℕ} → p ≡ bank_place i → b ≡ little 8 (drop (p + 8) s) → b ≡ balance_of s i
balance_is s i e q = rw (← e) q

-- the place of an entry, and of the one after it
pub entry_near : (from width i n : ℕ) → from ≤ 4096 → width ≤ 24 → i < n → n < 256 → from + width * i ≤ 16384
entry_near from width i n a b h m = omega (arith, mul-le-mul {n₁ = width} {m₁ = i} {n₂ = 24} {m₂ = 255} b (omega arith))

pub entry_next : (from width i : ℕ) → from + width * (i + 1) ≡ from + width * i + width
entry_next from width i = rw mul-add (omega arith)
