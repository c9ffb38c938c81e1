-- Laws of codes: what the loops do, the two directions, and the order.
use Prim.Native.Nat.{ℕ, zero, suc, ◌+◌, ◌*◌, ◌-◌, ◌/◌, ◌%◌, ◌^◌, ◌≤◌, ◌<◌}
use mathlib.Core.Path.{◌≡◌, refl, ap, sym, ◌∙◌}
use mathlib.Core.Bool.{Bool, true, false, cond}
use mathlib.Core.List.{List, [], ◌∷◌, ◌++◌, append_assoc, append-nil}
use native.Mathlib.Nat.{add-zero, zero-add, add-suc, suc-add, div-add-mod', pow-succ', div-div-eq-div-mul, pow-le-pow_right, le_of_lt}
use native.Mathlib.Numerals.{add-one}
use native.Mathlib.Omega.{arith}
use borrow.Author.Tests.{eq-eqb, ne_eqb, lt-ltb, le-ltb, ltb-true, ltb-false}
use lib.Dec.{eqb, ltb}
use lib.ListN.{length, get_or, take, drop, length-append, length-drop, drop_of_length-le, get_or-append, get_or-eq_default}
use lib.Seq.{drop-cons, get_or_at, get_or-append-add}
use Rattle.codes.specs.Codes.{Bytes, NoZero, filled, pack_on, packed, short_at, long_of, long_at, unpacked, named, short_text, spelled, long_text, before, code_before}
use Rattle.codes.specs.declared.Code.{Code}

-- ---- packing

-- one byte more, also where the list is at its end
pub pack_step : (k v i : ℕ) (l : List ℕ) → pack_on (suc k) v (drop i l) ≡ pack_on k (v * 256 + get_or l i 0) (drop (suc i) l)
unfolding pack_on
pack_step k v zero [] = simp add-zero
pack_step k v (suc i) [] = simp add-zero
pack_step k v zero (x ∷ l) = refl
pack_step k v (suc i) (x ∷ l) = pack_step k v i l

-- no more than w bytes count
pub pack_take : (w v : ℕ) (l : List ℕ) → pack_on w v (take w l) ≡ pack_on w v l
unfolding pack_on
pack_take zero v l = refl
pack_take (suc w) v [] = refl
pack_take (suc w) v (x ∷ l) = pack_take w (v * 256 + x) l

pub pow_up : (i v x : ℕ) → v < 256 ^ i → x < 256 → v * 256 + x < 256 ^ suc i
pow_up i v x h g = rw pow-succ' (omega arith)

pub pow_eight : (i v : ℕ) → i < 8 → v < 256 ^ i → v < 256 ^ 7
pow_eight i v h g = omega (arith, pow-le-pow_right {n = 256} (omega arith) {i = i} {j = 7} (omega arith))

-- where the loop of `pack` stands: i of the w bytes of l are taken
pub record Packing (l : List ℕ) (w v i : ℕ) : Type 0 where
  pub few : i ≤ w
  pub small : v < 256 ^ i
  pub same : pack_on (w - i) v (drop i l) ≡ packed w l

module _ {l : List ℕ} {w v i : ℕ} (g : Packing l w v i) where
  pub packing_on : {x : ℕ} → i < w → x ≡ get_or l i 0 → x < 256 → Packing l w (v * 256 + x) (i + 1)
  packing_on {x = x} h p q = record {
    few = omega arith;
    small = rw add-one (pow_up i v x g.small q);
    same =
        let z : w - i ≡ suc (w - suc i) = omega arith in
        rw (p, add-one, ← pack_step (w - suc i) v i l, ← z) g.same;
  }

  pub packing_done : w ≤ i → (v ≡ packed w l) × (v < 256 ^ w)
  unfolding pack_on
  packing_done h =
      let e : i ≡ w = omega (arith, g.few) in
      let z : w - i ≡ 0 = omega arith in
      (rw z at g.same, rw (← e) g.small)

-- ---- unpacking

pub unpack_length : (w v : ℕ) → length (unpacked w v) ≡ w
unfolding unpacked
unpack_length zero v = refl
unpack_length (suc w) v = simp (length-append, unpack_length w (v / 256), add-one)

pub unpack_past : (w v i : ℕ) → w ≤ i → 0 ≡ get_or (unpacked w v) i 0
unpack_past w v i h = sym (get_or-eq_default (unpacked w v) 0 (rw unpack_length h))

unpack_last : (w v : ℕ) → get_or (unpacked (suc w) v) w 0 ≡ v % 256
unfolding unpacked
unpack_last w v = get_or_at (unpacked w (v / 256)) (v % 256) [] 0 w (unpack_length w (v / 256))

unpack_down : (w v i : ℕ) → i < w → get_or (unpacked (suc w) v) i 0 ≡ get_or (unpacked w (v / 256)) i 0
unfolding unpacked
unpack_down w v i h = get_or-append (unpacked w (v / 256)) (v % 256 ∷ []) 0 i (rw unpack_length h)

-- the byte that k others stand behind
unpack_at : (i k v : ℕ) → get_or (unpacked (suc (i + k)) v) i 0 ≡ v / 256 ^ k % 256
unpack_at i zero v =
    let z : v / 1 ≡ v = omega arith in
    rw (add-zero, z) (unpack_last i v)
unpack_at i (suc k) v = rw add-suc (unpack_down (suc (i + k)) v i (omega arith) ∙ unpack_at i k (v / 256) ∙ ap (λ (n : ℕ). n % 256) (div-div-eq-div-mul v 256 (256 ^ k) ∙ ap (λ (n : ℕ). v / n) (sym (pow-succ' 256 k))))

eights : (k : ℕ) → 2 ^ (8 * k) ≡ 256 ^ k
eights zero = refl
eights (suc k) =
    let z : 8 * suc k ≡ suc (suc (suc (suc (suc (suc (suc (suc (8 * k)))))))) = omega arith in
    rw z (simp (pow-succ', eights k) (omega arith))

pub unpack_shift : (w v i : ℕ) → i < w → v / 2 ^ (8 * (w - 1 - i)) % 256 ≡ get_or (unpacked w v) i 0
unpack_shift w v i h =
    let k = w - 1 - i in
    let z : suc (i + k) ≡ w = omega arith in
    rw (eights k, ← unpack_at i k v, z)

pub spelled_length : (c : Code) → length (spelled c) ≡ 16
unfolding spelled
spelled_length c = simp (length-append, unpack_length)

module _ (c : Code) (i : ℕ) where
  pub spelled_high : {b : ℕ} → i < 8 → b ≡ get_or (unpacked 8 c.high) i 0 → b ≡ get_or (spelled c) i 0
  unfolding spelled
  spelled_high h p = p ∙ sym (get_or-append (unpacked 8 c.high) (unpacked 8 c.low) 0 i (rw unpack_length h))

  pub spelled_low : {b : ℕ} → 8 ≤ i → b ≡ get_or (unpacked 8 c.low) (i - 8) 0 → b ≡ get_or (spelled c) i 0
  unfolding spelled
  spelled_low h p =
      let z : length (unpacked 8 c.high) + (i - 8) ≡ i = rw unpack_length (omega arith) in
      p ∙ sym (get_or-append-add (unpacked 8 c.high) (unpacked 8 c.low) (i - 8) 0) ∙ ap (λ (k : ℕ). get_or (unpacked 8 c.high ++ unpacked 8 c.low) k 0) z

-- where the loop of `len` stands: the first i bytes are not zero
pub record Naming (l : List ℕ) (i : ℕ) : Type 0 where
  pub inside : i ≤ length l
  pub same : i + length (named (drop i l)) ≡ length (named l)

module _ {l : List ℕ} {i : ℕ} (g : Naming l i) where
  pub naming_on : {b : ℕ} → i < length l → b ≡ get_or l i 0 → (b ≡ 0 → ⊥) → Naming l (i + 1)
  unfolding named
  naming_on h p q = record {
    inside = omega arith;
    same = omega (arith, simp (drop-cons l i 0 h, ← p, ne_eqb _ _ q) at g.same, ap (λ (k : ℕ). length (named (drop k l))) (add-one i));
  }

  pub naming_stop : {b : ℕ} → i < length l → b ≡ get_or l i 0 → b ≡ 0 → i ≡ length (named l)
  unfolding named
  naming_stop h p q = omega (arith, simp (drop-cons l i 0 h, ← p, eq-eqb _ _ q) at g.same)

  pub naming_end : length l ≤ i → i ≡ length (named l)
  unfolding named
  naming_end h = omega (arith, simp (drop_of_length-le l h) at g.same)

-- ---- what is packed at a place

pub short_is : (s : List ℕ) (at : ℕ) {r : ℕ} → r ≡ packed 4 (take 4 (drop at s)) → r ≡ short_at s at
unfolding short_at
short_is s at p = p ∙ pack_take 4 0 (drop at s)

pub long_is : (s : List ℕ) (at n : ℕ) {h l : ℕ} → h ≡ packed 8 (take n (drop at s)) → l ≡ packed 8 (drop 8 (take n (drop at s)))
    → ◌≡◌ {A = Code} (record { high = h; low = l }) (long_at s at n)
unfolding long_at long_of
long_is s at n p q = simp (p, q)

-- ---- the two directions undo each other

unpack_one : (k v x : ℕ) → x < 256 → unpacked (suc k) (v * 256 + x) ≡ unpacked k v ++ (x ∷ [])
unfolding unpacked
unpack_one k v x h =
    let q : (v * 256 + x) / 256 ≡ v = omega arith in
    let r : (v * 256 + x) % 256 ≡ x = omega arith in
    rw (q, r)

unpack_on : (w k v : ℕ) (l : List ℕ) → Bytes l → unpacked (k + w) (pack_on w v l) ≡ unpacked k v ++ filled w l
unfolding pack_on
unpack_on zero k v l b = simp (add-zero, append-nil {A = ℕ})
unpack_on (suc w) k v [] b =
    rw (add-suc, ← suc-add) (unpack_on w (suc k) (v * 256) [] tt ∙ ap (λ (r : List ℕ). r ++ filled w []) (ap (unpacked (suc k)) (sym (add-zero (v * 256))) ∙ unpack_one k v 0 (omega arith)) ∙ append_assoc (unpacked k v) (0 ∷ []) (filled w []))
unpack_on (suc w) k v (x ∷ l) b =
    rw (add-suc, ← suc-add) (unpack_on w (suc k) (v * 256 + x) l b.1 ∙ ap (λ (r : List ℕ). r ++ filled w l) (unpack_one k v x b.0) ∙ append_assoc (unpacked k v) (x ∷ []) (filled w l))

-- the bytes of a packed list are its own, filled up
pub unpack_pack : (w : ℕ) (l : List ℕ) → Bytes l → unpacked w (packed w l) ≡ filled w l
unfolding unpacked
unpack_pack w l b = rw zero-add at (unpack_on w 0 0 l b)

pub filled_whole : (w : ℕ) (l : List ℕ) → length l ≡ w → filled w l ≡ l
filled_whole zero [] h = refl
filled_whole zero (x ∷ l) h = absurd (omega arith)
filled_whole (suc w) [] h = absurd (omega arith)
filled_whole (suc w) (x ∷ l) h = ap (λ (r : List ℕ). x ∷ r) (filled_whole w l (omega arith))

pack_snoc : (w v : ℕ) (l : List ℕ) (x : ℕ) → length l ≡ w → pack_on (suc w) v (l ++ (x ∷ [])) ≡ pack_on w v l * 256 + x
unfolding pack_on
pack_snoc zero v [] x h = refl
pack_snoc zero v (y ∷ l) x h = absurd (omega arith)
pack_snoc (suc w) v [] x h = absurd (omega arith)
pack_snoc (suc w) v (y ∷ l) x h = pack_snoc w (v * 256 + y) l x (omega arith)

-- a number below 256^w is the packed list of its w bytes
pub pack_unpack : (w v : ℕ) → v < 256 ^ w → packed w (unpacked w v) ≡ v
unfolding pack_on unpacked
pack_unpack zero v h = omega arith
pack_unpack (suc w) v h =
    pack_snoc w 0 (unpacked w (v / 256)) (v % 256) (unpack_length w (v / 256))
    ∙ ap (λ (n : ℕ). n * 256 + v % 256) (pack_unpack w (v / 256) (omega (arith, pow-succ' 256 w)))
    ∙ div-add-mod' v 256

-- ---- order by code is order by number

pack_less : (w u v : ℕ) (a b : List ℕ) → u < v → Bytes a → pack_on w u a < pack_on w v b
unfolding pack_on
pack_less zero u v a b h q = h
pack_less (suc w) u v [] [] h q = pack_less w (u * 256) (v * 256) [] [] (omega arith) tt
pack_less (suc w) u v [] (y ∷ b) h q = pack_less w (u * 256) (v * 256 + y) [] b (omega arith) tt
pack_less (suc w) u v (x ∷ a) [] h q = pack_less w (u * 256 + x) (v * 256) a [] (omega (arith, q.0)) q.1
pack_less (suc w) u v (x ∷ a) (y ∷ b) h q = pack_less w (u * 256 + x) (v * 256 + y) a b (omega (arith, q.0)) q.1

before_less : (x y : ℕ) (a b : List ℕ) → x < y → before (x ∷ a) (y ∷ b) ≡ true
unfolding before
before_less x y a b h = simp (lt-ltb x y h)

before_more : (x y : ℕ) (a b : List ℕ) → y < x → before (x ∷ a) (y ∷ b) ≡ false
unfolding before
before_more x y a b h = simp (le-ltb x y (omega arith), ne_eqb x y (omega arith))

before_same : (x : ℕ) (a b : List ℕ) → before (x ∷ a) (x ∷ b) ≡ before a b
unfolding before
before_same x a b = simp (le-ltb x x (omega arith), eq-eqb x x refl)

pub by_order {ℓ} : {X : Type ℓ} (x y : ℕ) → (x < y → X) → (x ≡ y → X) → (y < x → X) → X
by_order {X = X} x y f g h = go (ltb x y) refl (ltb y x) refl
  where
    go : (s : Bool) → ltb x y ≡ s → (t : Bool) → ltb y x ≡ t → X
    go true p t q = f (ltb-true x y p)
    go false p true q = h (ltb-true y x q)
    go false p false q = g (omega (arith, ltb-false x y p, ltb-false y x q))

order_on : (w v : ℕ) (a b : List ℕ) → length a ≡ w → length b ≡ w → Bytes a → Bytes b → ltb (pack_on w v a) (pack_on w v b) ≡ before a b
unfolding pack_on before
order_on zero v [] [] h k p q = le-ltb v v (omega arith)
order_on zero v [] (y ∷ b) h k p q = absurd (omega arith)
order_on zero v (x ∷ a) b h k p q = absurd (omega arith)
order_on (suc w) v [] b h k p q = absurd (omega arith)
order_on (suc w) v (x ∷ a) [] h k p q = absurd (omega arith)
order_on (suc w) v (x ∷ a) (y ∷ b) h k p q =
    by_order x y
    (λ e. lt-ltb _ _ (pack_less w (v * 256 + x) (v * 256 + y) a b (omega arith) p.1) ∙ sym (before_less x y a b e))
    (λ e. rw e (order_on w (v * 256 + y) a b (omega arith) (omega arith) p.1 q.1 ∙ sym (before_same y a b)))
    (λ e. le-ltb _ _ (le_of_lt (pack_less w (v * 256 + y) (v * 256 + x) b a (omega arith) q.1)) ∙ sym (before_more x y a b e))

pub pack_order : (w : ℕ) (a b : List ℕ) → length a ≡ w → length b ≡ w → Bytes a → Bytes b → ltb (packed w a) (packed w b) ≡ before a b
pack_order w a b = order_on w 0 a b

pack_split : (v w u : ℕ) (l : List ℕ) → pack_on (v + w) u l ≡ pack_on w (pack_on v u l) (drop v l)
unfolding pack_on
pack_split zero w u l = simp zero-add
pack_split (suc v) w u [] = rw suc-add (pack_split v w (u * 256) [] ∙ ap (pack_on w (pack_on v (u * 256) [])) (drop_of_length-le [] {i = v} (omega arith)))
pack_split (suc v) w u (x ∷ l) = rw suc-add (pack_split v w (u * 256 + x) l)

pub bytes_drop : (n : ℕ) (l : List ℕ) → Bytes l → Bytes (drop n l)
bytes_drop zero l b = b
bytes_drop (suc n) [] b = tt
bytes_drop (suc n) (x ∷ l) b = bytes_drop n l b.1

module _ (a b : List ℕ) (la : length a ≡ 16) (lb : length b ≡ 16) (ba : Bytes a) (bb : Bytes b) where
  whole : ltb (pack_on 8 (packed 8 a) (drop 8 a)) (pack_on 8 (packed 8 b) (drop 8 b)) ≡ before a b
  whole = rw (← pack_split 8 8 0 a, ← pack_split 8 8 0 b) (pack_order 16 a b la lb ba bb)

  tails : (v : ℕ) → ltb (pack_on 8 v (drop 8 a)) (pack_on 8 v (drop 8 b)) ≡ before (drop 8 a) (drop 8 b)
  tails v = order_on 8 v (drop 8 a) (drop 8 b) (simp (length-drop, la)) (simp (length-drop, lb)) (bytes_drop 8 a ba) (bytes_drop 8 b bb)

  pub long_order : code_before (long_of a) (long_of b) ≡ before a b
  unfolding code_before long_of
  long_order =
      by_order (packed 8 a) (packed 8 b)
      (λ e. simp (lt-ltb _ _ e) (sym (lt-ltb _ _ (pack_less 8 (packed 8 a) (packed 8 b) (drop 8 a) (drop 8 b) e (bytes_drop 8 a ba))) ∙ whole))
      (λ e. simp (le-ltb (packed 8 a) (packed 8 b) (omega arith), eq-eqb (packed 8 a) (packed 8 b) e) (tails 0 ∙ sym (tails (packed 8 b)) ∙ (rw e at whole)))
      (λ e. simp (le-ltb (packed 8 a) (packed 8 b) (omega arith), ne_eqb (packed 8 a) (packed 8 b) (omega arith)) (sym (le-ltb _ _ (le_of_lt (pack_less 8 (packed 8 b) (packed 8 a) (drop 8 b) (drop 8 a) e (bytes_drop 8 b bb)))) ∙ whole))

-- ---- the text of a code

named_filled : (w : ℕ) (l : List ℕ) → length l ≤ w → NoZero l → named (filled w l) ≡ l
unfolding named
named_filled zero [] h n = refl
named_filled zero (x ∷ l) h n = absurd (omega arith)
named_filled (suc w) [] h n = refl
named_filled (suc w) (x ∷ l) h n = simp (ne_eqb x 0 (omega (arith, n.0)), named_filled w l (omega arith) n.1)

pub filled_split : (v w : ℕ) (l : List ℕ) → filled v l ++ filled w (drop v l) ≡ filled (v + w) l
filled_split zero w l = simp zero-add
filled_split (suc v) w [] = rw suc-add (ap (λ (r : List ℕ). 0 ∷ r) (ap (λ (r : List ℕ). filled v [] ++ filled w r) (sym (drop_of_length-le [] {i = v} (omega arith))) ∙ filled_split v w []))
filled_split (suc v) w (x ∷ l) = rw suc-add (ap (λ (r : List ℕ). x ∷ r) (filled_split v w l))

-- a code of one to sixteen characters is written as those characters
pub long_text_lem : (l : List ℕ) → length l ≤ 16 → Bytes l → NoZero l → long_text (long_of l) ≡ l
unfolding long_text spelled long_of
long_text_lem l h b n = rw (unpack_pack 8 l b, unpack_pack 8 (drop 8 l) (bytes_drop 8 l b), filled_split 8 8 l) (named_filled 16 l h n)

-- and so is one of four
pub short_text_lem : (l : List ℕ) → length l ≡ 4 → Bytes l → short_text (packed 4 l) ≡ l
unfolding short_text
short_text_lem l h b = unpack_pack 4 l b ∙ filled_whole 4 l h

same_at : (t : Bool) (x : ℕ) (r l : List ℕ) → ((i : ℕ) → i < length r → get_or r i 0 ≡ get_or l i 0) → (i : ℕ) → i < length (cond t [] (x ∷ r)) → get_or (cond t [] (x ∷ r)) i 0 ≡ get_or (x ∷ l) i 0
same_at true x r l f i h = absurd (omega arith)
same_at false x r l f zero h = refl
same_at false x r l f (suc i) h = f i (omega arith)

pub named_at_lem : (l : List ℕ) (i : ℕ) → i < length (named l) → get_or (named l) i 0 ≡ get_or l i 0
unfolding named
named_at_lem [] i h = refl
named_at_lem (x ∷ l) i h = same_at (eqb x 0) x (named l) l (named_at_lem l) i h
