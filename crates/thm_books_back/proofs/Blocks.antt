-- What stands in a block that was sealed: its check, its header, its unused bytes and its entries.
use Prim.Native.Nat.{ℕ, zero, suc, ◌+◌, ◌*◌, ◌-◌, ◌/◌, ◌^◌, ◌≤◌, ◌<◌}
use mathlib.Core.Path.{◌≡◌, refl, sym, ◌∙◌, ap}
use mathlib.Core.Bool.{Bool, true}
use mathlib.Core.List.{List, [], ◌∷◌, ◌++◌, map, append_assoc}
use native.Mathlib.Nat.{add-zero, mul-zero, mul-suc, pow-succ'}
use native.Mathlib.Omega.{arith}
use lib.ListN.{length, get_or, drop, replicate, length-append, length-drop}
use lib.Seq.{get_or-drop}
use borrow.Author.Tests.{eq-eqb, lt-ltb}
use Rattle.codes.specs.Codes.{short_at}
use Rattle.checksum.specs.Sum.{block_sum}
use Rattle.text_scan.specs.Scan.{begins}
use Rattle.text_scan.proofs.Laws.{lit_yes}
use Rattle.text_scan.proofs.Standing.{past, lit_reads}
use Rattle.book_read.specs.Block.{little, head, entries_at, head_right, zeros_at, unused_right, header_right, check_right, entries_right}
use Rattle.book_read.specs.Book.{each}
use Rattle.book_write.specs.Closing.{little_of, joined, padded, sealed}
use Rattle.book_read.specs.Range.{Each, Rising}
use Rattle.book_write.proofs.Sealing.{sum_there, sum_self, padded_length, sealed_length}

-- a number that fits is read from its own bytes
pub little_of_lem : (w v : ℕ) (r : List ℕ) → v < 256 ^ w → little w (little_of w v ++ r) ≡ v
unfolding little little_of
little_of_lem zero v r h = omega arith
little_of_lem (suc w) v r h = rw (little_of_lem w (v / 256) r (omega (arith, pow-succ' 256 w))) (omega arith)

-- a fixed string where it stands
pub begins_at : (s : List ℕ) (at : ℕ) (p r : List ℕ) → drop at s ≡ p ++ r → begins p (drop at s) ≡ true
begins_at s at p r h = lit_yes s at p (lit_reads s at p r h)

-- what stands after it
pub after : (s : List ℕ) (at n : ℕ) (p r : List ℕ) → drop at s ≡ p ++ r → length p ≡ n → drop (at + n) s ≡ r
after s at n p r h l = rw (← l) (past s at p r h)

-- a block at a place that was sealed
pub record Stands (s : List ℕ) (at : ℕ) (l : List ℕ) : Type 0 where
  pub check : check_right s at ≡ true
  pub unused : unused_right s at (length l) ≡ true
  pub rest : List ℕ
  pub here : drop at s ≡ l ++ rest

module _ (s : List ℕ) (at : ℕ) (l r : List ℕ) (h : drop at s ≡ sealed l ++ r) (few : length l ≤ 508) where
  zeros : List ℕ
  zeros = replicate (508 - length l) 0

  sum : List ℕ
  sum = little_of 4 (block_sum (padded l) 0)

  in_two : drop at s ≡ padded l ++ (sum ++ r)
  unfolding sealed sum
  in_two = h ∙ append_assoc (padded l) (little_of 4 (block_sum (padded l) 0)) r

  in_three : drop at s ≡ l ++ (zeros ++ (sum ++ r))
  unfolding zeros
  in_three = in_two ∙ append_assoc l (replicate (508 - length l) 0) (sum ++ r)

  room : at + 512 ≤ length s
  room =
      let n : length s - at ≡ 512 + length r = sym (length-drop at s) ∙ ap length h ∙ length-append (sealed l) r ∙ ap (λ (k : ℕ). k + length r) (sealed_length l few) in
      omega arith

  sum_same : block_sum s at ≡ block_sum (padded l) 0
  sum_same = sum_there (padded l) s at (sum ++ r) (padded_length l few) in_two (omega (arith, room)) ∙ sym (sum_self (padded l) (padded_length l few))

  sum_small : block_sum (padded l) 0 < 256 ^ 4
  sum_small = rw (sum_self (padded l) (padded_length l few)) (omega arith)

  check_stands : check_right s at ≡ true
  unfolding check_right sum
  check_stands =
      let there = after s at 508 (padded l) (sum ++ r) in_two (padded_length l few) in
      eq-eqb (little 4 (drop (at + 508) s)) (block_sum s at)
      (ap (little 4) there ∙ little_of_lem 4 (block_sum (padded l) 0) r sum_small ∙ sym sum_same)

  unused_stands : unused_right s at (length l) ≡ true
  unfolding unused_right zeros_at zeros
  unused_stands = begins_at s (at + length l) (replicate (508 - length l) 0) (sum ++ r) (past s at l (zeros ++ (sum ++ r)) in_three)

  pub stands : Stands s at l
  stands = record { check = check_stands; unused = unused_stands; rest = zeros ++ (sum ++ r); here = in_three }

-- its head
module _ (s : List ℕ) (at letter number n blocks : ℕ) (r : List ℕ) (h : drop at s ≡ head letter number n blocks ++ r) where
  pub entries_stand : entries_at s at ≡ n
  entries_stand = sym (get_or-drop at s 4 0) ∙ ap (λ (l : List ℕ). get_or l 4 0) h

  pub head_stands : head_right s at letter number blocks ≡ true
  unfolding head_right
  head_stands = rw entries_stand (begins_at s at (head letter number n blocks) r h)

  pub header_stands : (counted : Bool) (first width : ℕ) → counted ≡ true → unused_right s at (first + width * n) ≡ true
      → header_right s at letter number blocks counted first width ≡ true
  unfolding header_right
  header_stands counted first width c u = rw (head_stands, c, entries_stand, u)

-- ---- entries one after another

-- something holds of each entry and its place
abbrev pub Along : {A : Type 0} → (ℕ → A → Type 0) → ℕ → ℕ → List A → Type 0
Along Q w at [] = Unit {0}
Along Q w at (x ∷ xs) = Q at x × Along Q w (at + w) xs

pub along : {A : Type 0} (s : List ℕ) (w : ℕ) (g : A → List ℕ) (P : A → Type 0) (Q : ℕ → A → Type 0) → ((x : A) → length (g x) ≡ w)
    → ((x : A) (p : ℕ) (r : List ℕ) → drop p s ≡ g x ++ r → P x → Q p x)
    → (xs : List A) (at : ℕ) (r : List ℕ) → drop at s ≡ joined g xs ++ r → Each P xs → Along Q w at xs
along s w g P Q long good [] at r h e = tt
along s w g P Q long good (x ∷ xs) at r h e =
    let k = h ∙ append_assoc (g x) (joined g xs) r in
    (good x at (joined g xs ++ r) k e.0, along s w g P Q long good xs (at + w) r (after s at w (g x) (joined g xs ++ r) k (long x)) e.1)

-- an entry that is right, and one that is read as what was written
abbrev pub Holds : {A : Type 0} → (ℕ → Bool) → ℕ → A → Type 0
Holds right p x = right p ≡ true

abbrev pub Reads : {A : Type 0} → (ℕ → A) → ℕ → A → Type 0
Reads F p x = F p ≡ x

-- the last of codes, or the one before them
abbrev pub last_of : ℕ → List ℕ → ℕ
last_of c [] = c
last_of c (x ∷ l) = last_of x l

pub rising_split : (c : ℕ) (l m : List ℕ) → Rising (c ∷ (l ++ m)) → Rising (c ∷ l) × Rising (last_of c l ∷ m)
rising_split c [] m h = (tt, h)
rising_split c (x ∷ l) m h = let t = rising_split x l m h.1 in ((h.0, t.0), t.1)

module _ {A : Type 0} (s : List ℕ) (w : ℕ) (F : ℕ → A) (code : A → ℕ) (named : (p : ℕ) → code (F p) ≡ short_at s p) where
  short_of_lem : (p : ℕ) (x : A) → F p ≡ x → short_at s p ≡ code x
  short_of_lem p x e = sym (named p) ∙ ap code e

  pub entries_right_lem : (right : ℕ → Bool) (xs : List A) (before at : ℕ) → Along (Holds right) w at xs → Along (Reads F) w at xs → Rising (before ∷ map code xs)
      → entries_right s w right before at (length xs) ≡ true
  unfolding entries_right
  entries_right_lem right [] before at b a h = refl
  entries_right_lem right (x ∷ xs) before at b a h =
      rw (short_of_lem at x a.0, lt-ltb before (code x) h.0, b.0) (entries_right_lem right xs (code x) (at + w) b.1 a.1 h.1)

  pub last_short : (c : ℕ) (xs : List A) (at : ℕ) → 0 < length xs → Along (Reads F) w at xs → short_at s (at + w * (length xs - 1)) ≡ last_of c (map code xs)
  last_short c [] at h a = absurd (omega arith)
  last_short c (x ∷ []) at h a =
      let z : suc 0 - 1 ≡ 0 = omega arith in
      rw (z, mul-zero, add-zero) (short_of_lem at x a.0)
  last_short c (x ∷ y ∷ xs) at h a =
      let z : suc (suc (length xs)) - 1 ≡ suc (length xs) = omega arith in
      let u : suc (length xs) - 1 ≡ length xs = omega arith in
      let v : at + w * suc (length xs) ≡ at + w + w * length xs = rw mul-suc (omega arith) in
      rw (z, v) (rw u at (last_short (code x) (y ∷ xs) (at + w) (omega arith) a.1))

-- they are read in their order
pub each_reads : {A : Type 0} (w : ℕ) (F : ℕ → A) (place : ℕ → ℕ) (xs : List A) (i at : ℕ) → ((j : ℕ) → j < length xs → place (i + j) ≡ at + w * j)
    → Along (Reads F) w at xs → each (λ (k : ℕ). F (place k)) i (length xs) ≡ xs
each_reads w F place [] i at there a = refl
each_reads {A} w F place (x ∷ xs) i at there a =
    let here : place i ≡ at = ap place (sym (add-zero i)) ∙ there 0 (omega arith) ∙ rw mul-zero (omega arith) in
    rw (here, a.0) (ap (λ (l : List A). x ∷ l) (each_reads w F place xs (i + 1) (at + w)
    (λ j q.
    let y : i + 1 + j ≡ i + suc j = omega arith in
    rw y (there (suc j) (omega arith) ∙ rw mul-suc (omega arith)))
    a.1))
