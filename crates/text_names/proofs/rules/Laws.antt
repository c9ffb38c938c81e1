-- Laws of the tests of references and BINs.
use Prim.Native.Nat.{ℕ, zero, suc, ◌+◌, ◌*◌, ◌/◌, ◌%◌, ◌≤◌, ◌<◌}
use mathlib.Core.Path.{◌≡◌, refl, sym, ap, subst, ◌∙◌}
use mathlib.Core.Bool.{Bool, true, false, cond, ◌&&◌, false≢true}
use mathlib.Core.List.{List, [], ◌∷◌, ◌++◌}
use native.Mathlib.Omega.{arith}
use native.Mathlib.Numerals.{add-one}
use lib.Dec.{eqb}
use lib.ListN.{length, get_or, take, drop, drop_of_length-le}
use lib.Seq.{take_at, drop_at, drop-nil, drop-cons, get_or-take, length-take-le}
use borrow.Author.Tests.{eqb-true, eq-eqb, ne_eqb}
use Rattle.chars.specs.Chars.{is_code, is_digit}
use Rattle.codes.specs.Codes.{unpacked, named, spelled, long_text, long_of, pack_on, packed, Bytes, NoZero, filled}
use Rattle.codes.specs.declared.Code.{Code}
use Rattle.codes.proofs.Laws.{unpack_length, spelled_length, unpack_pack, pack_unpack, pack_take, bytes_drop, filled_split}
use Rattle.text_scan.specs.Scan.{begins}
use Rattle.text_names.specs.rules.Names.{all_are, same_code, is_whole, is_bin}

-- ---- yes and no

pub and_true : (x y : Bool) → (x && y) ≡ true → (x ≡ true) × (y ≡ true)
and_true true y h = (refl, h)
and_true false y h = absurd (false≢true h)

-- two tests that are passed together are equal
same_test : (x y : Bool) → (x ≡ true → y ≡ true) → (y ≡ true → x ≡ true) → x ≡ y
same_test true y f g = sym (f refl)
same_test false true f g = g refl
same_test false false f g = refl

-- ---- codes

pub same_code_lem : (c d : Code) → same_code c d ≡ true → c ≡ d
same_code_lem c d h =
    let g = and_true (eqb c.high d.high) (eqb c.low d.low) h in
    ap (λ (x : ℕ). record { high = x; low = c.low }) (eqb-true c.high d.high g.0) ∙ ap (λ (x : ℕ). record { high = d.high; low = x }) (eqb-true c.low d.low g.1)

pub same_self : (c : Code) → same_code c c ≡ true
same_self c = rw (eq-eqb c.high c.high refl, eq-eqb c.low c.low refl)

named_most : (l : List ℕ) → length (named l) ≤ length l
unfolding named
named_most [] = omega arith
named_most (x ∷ l) = go (eqb x 0) refl (named_most l)
  where
    go : (b : Bool) → eqb x 0 ≡ b → length (named l) ≤ length l → length (named (x ∷ l)) ≤ suc (length l)
    go true e h = rw e (omega arith)
    go false e h = rw e (omega arith)

-- "1 to 16"
pub long_most : (c : Code) → length (long_text c) ≤ 16
unfolding long_text
long_most c = omega (arith, named_most (spelled c), spelled_length c)

pub bin_eight : (c : Code) → is_bin c ≡ true → length (long_text c) ≡ 8
bin_eight c h =
    let g = and_true (is_whole c) (eqb (length (long_text c)) 8 && (all_are is_code (take 4 (long_text c)) && all_are is_digit (drop 4 (long_text c)))) h in
    eqb-true (length (long_text c)) 8 (and_true (eqb (length (long_text c)) 8) (all_are is_code (take 4 (long_text c)) && all_are is_digit (drop 4 (long_text c))) g.1).0

-- ---- a loop over the bytes of a class

module _ (is : ℕ → Bool) (l : List ℕ) (i : ℕ) {b : Bool} (inv : all_are is (drop i l) ≡ b) where
  all_end : length l ≤ i → true ≡ b
  all_end h = sym (ap (all_are is) (drop_of_length-le l {i = i} h)) ∙ inv

  module _ (h : i < length l) {r : Bool} (e : is (get_or l i 0) ≡ r) where
    cut : drop i l ≡ get_or l i 0 ∷ drop (i + 1) l
    cut = rw add-one (drop-cons l i 0 h)

    all_not : r ≡ false → false ≡ b
    all_not g = rw (cut, e, g) at inv

    all_on : r ≡ true → all_are is (drop (i + 1) l) ≡ b
    all_on g = rw (cut, e, g) at inv

-- ---- a code whose characters are followed by zeros alone

abbrev pub is_zero : ℕ → Bool
is_zero x = eqb x 0

bytes_join : (a b : List ℕ) → Bytes a → Bytes b → Bytes (a ++ b)
bytes_join [] b x y = y
bytes_join (z ∷ a) b x y = (x.0, bytes_join a b x.1 y)

unpacked_bytes : (w v : ℕ) → Bytes (unpacked w v)
unfolding unpacked
unpacked_bytes zero v = tt
unpacked_bytes (suc w) v = bytes_join (unpacked w (v / 256)) (v % 256 ∷ []) (unpacked_bytes w (v / 256)) (omega arith, tt)

named_bytes : (s : List ℕ) → Bytes s → Bytes (named s)
unfolding named
named_bytes [] b = tt
named_bytes (x ∷ s) b = go (eqb x 0) refl (named_bytes s b.1)
  where
    go : (t : Bool) → eqb x 0 ≡ t → Bytes (named s) → Bytes (named (x ∷ s))
    go true e h = rw e tt
    go false e h = rw e (b.0, h)

zeros_filled : (s : List ℕ) → all_are is_zero s ≡ true → filled (length s) [] ≡ s
zeros_filled [] z = refl
zeros_filled (x ∷ s) z = let g = and_true (eqb x 0) (all_are is_zero s) z in rw (eqb-true x 0 g.0, zeros_filled s g.1)

named_filled : (s : List ℕ) → all_are is_zero (drop (length (named s)) s) ≡ true → filled (length s) (named s) ≡ s
unfolding named
named_filled [] z = refl
named_filled (x ∷ s) z = go (eqb x 0) refl (named_filled s)
  where
    go : (t : Bool) → eqb x 0 ≡ t → (all_are is_zero (drop (length (named s)) s) ≡ true → filled (length s) (named s) ≡ s)
        → filled (suc (length s)) (named (x ∷ s)) ≡ x ∷ s
    go true e f = let y : all_are is_zero (x ∷ s) ≡ true = rw e at z in rw e (zeros_filled (x ∷ s) y)
    go false e f = let y : all_are is_zero (drop (length (named s)) s) ≡ true = rw e at z in rw e (ap (λ (l : List ℕ). x ∷ l) (f y))

filled_none : (w : ℕ) → all_are is_zero (filled w []) ≡ true
filled_none zero = refl
filled_none (suc w) = filled_none w

filled_zeros : (w : ℕ) (l : List ℕ) → all_are is_zero (drop (length l) (filled w l)) ≡ true
filled_zeros zero [] = refl
filled_zeros zero (x ∷ l) = refl
filled_zeros (suc w) [] = filled_none (suc w)
filled_zeros (suc w) (x ∷ l) = filled_zeros w l

pack_filled : (w k v : ℕ) (l : List ℕ) → pack_on w v (filled (w + k) l) ≡ pack_on w v l
unfolding pack_on
pack_filled zero k v l = refl
pack_filled (suc w) k v [] =
    let e : suc w + k ≡ suc (w + k) = omega arith in
    let f : v * 256 + 0 ≡ v * 256 = omega arith in
    rw (e, f) (pack_filled w k (v * 256) [])
pack_filled (suc w) k v (x ∷ l) = let e : suc w + k ≡ suc (w + k) = omega arith in rw e (pack_filled w k (v * 256 + x) l)

filled_eight : (s : List ℕ) → drop 8 (filled 16 s) ≡ filled 8 (drop 8 s)
filled_eight s = drop_filled 8 8 s
  where
    drop_filled : (a b : ℕ) (l : List ℕ) → drop a (filled (a + b) l) ≡ filled b (drop a l)
    drop_filled zero b l = let e : 0 + b ≡ b = omega arith in rw e
    drop_filled (suc a) b [] =
        let e : suc a + b ≡ suc (a + b) = omega arith in
        rw e (drop_filled a b [] ∙ ap (filled b) (drop-nil a))
    drop_filled (suc a) b (x ∷ l) = let e : suc a + b ≡ suc (a + b) = omega arith in rw e (drop_filled a b l)

module _ (c : Code) where
  abbrev text : List ℕ
  text = long_text c

  first_eight : take 8 (spelled c) ≡ unpacked 8 c.high
  unfolding spelled
  first_eight = take_at (unpacked 8 c.high) (unpacked 8 c.low) 8 (unpack_length 8 c.high)

  last_eight : drop 8 (spelled c) ≡ unpacked 8 c.low
  unfolding spelled
  last_eight = drop_at (unpacked 8 c.high) (unpacked 8 c.low) 8 (unpack_length 8 c.high)

  text_bytes : Bytes text
  unfolding long_text spelled
  text_bytes = named_bytes (spelled c) (bytes_join (unpacked 8 c.high) (unpacked 8 c.low) (unpacked_bytes 8 c.high) (unpacked_bytes 8 c.low))

  filled_text : all_are is_zero (drop (length text) (spelled c)) ≡ true → filled 16 text ≡ spelled c
  unfolding long_text
  filled_text z = ap (λ (n : ℕ). filled n (named (spelled c))) (sym (spelled_length c)) ∙ named_filled (spelled c) z

  module _ (high : c.high < 18446744073709551616) (low : c.low < 18446744073709551616) where
    zeros_whole : all_are is_zero (drop (length text) (spelled c)) ≡ true → is_whole c ≡ true
    unfolding long_of
    zeros_whole z =
        let f = filled_text z in
        let a : packed 8 text ≡ c.high =
        sym (pack_filled 8 8 0 text) ∙ ap (packed 8) f ∙ sym (pack_take 8 0 (spelled c)) ∙ ap (packed 8) first_eight ∙ pack_unpack 8 c.high high
        in
        let b : packed 8 (drop 8 text) ≡ c.low =
        sym (pack_filled 8 0 0 (drop 8 text)) ∙ ap (packed 8) (sym (filled_eight text)) ∙ ap (λ (l : List ℕ). packed 8 (drop 8 l)) f ∙ ap (packed 8) last_eight ∙ pack_unpack 8 c.low low
        in
        rw (eq-eqb (packed 8 text) c.high a, eq-eqb (packed 8 (drop 8 text)) c.low b)

    whole_zeros : is_whole c ≡ true → all_are is_zero (drop (length text) (spelled c)) ≡ true
    unfolding long_of spelled
    whole_zeros h =
        let g = and_true (eqb (packed 8 text) c.high) (eqb (packed 8 (drop 8 text)) c.low) h in
        let a : packed 8 text ≡ c.high = eqb-true (packed 8 text) c.high g.0 in
        let b : packed 8 (drop 8 text) ≡ c.low = eqb-true (packed 8 (drop 8 text)) c.low g.1 in
        let e : unpacked 8 c.high ++ unpacked 8 c.low ≡ filled 16 text =
        ap (λ (n : ℕ). unpacked 8 n ++ unpacked 8 c.low) (sym a)
        ∙ ap (λ (n : ℕ). unpacked 8 (packed 8 text) ++ unpacked 8 n) (sym b)
        ∙ ap (λ (l : List ℕ). l ++ unpacked 8 (packed 8 (drop 8 text))) (unpack_pack 8 text text_bytes)
        ∙ ap (λ (l : List ℕ). filled 8 text ++ l) (unpack_pack 8 (drop 8 text) (bytes_drop 8 text text_bytes))
        ∙ filled_split 8 8 text
        in
        subst (λ (s : List ℕ). all_are is_zero (drop (length text) s) ≡ true) (sym e) (filled_zeros 16 text)

    pub whole_start : {n : ℕ} → n ≡ length text → all_are is_zero (drop n (spelled c)) ≡ is_whole c
    whole_start e = rw e (same_test _ (is_whole c) zeros_whole whole_zeros)

-- ---- the bytes of a class, from one place up to another

module _ (c : Code) (from to : ℕ) (within : to ≤ 16) (is : ℕ → Bool) (i : ℕ) (inv : all_are is (drop i (take to (spelled c))) ≡ all_are is (drop from (take to (spelled c)))) where
  all_long : length (take to (spelled c)) ≡ to
  all_long = length-take-le to (spelled c) (omega (arith, spelled_length c))

  pub bytes_end : to ≤ i → true ≡ all_are is (drop from (take to (spelled c)))
  bytes_end h = all_end is (take to (spelled c)) i inv (omega (arith, all_long))

  module _ (h : i < to) {x : ℕ} (e : x ≡ get_or (spelled c) i 0) {r : Bool} (f : r ≡ is x) where
    here : is (get_or (take to (spelled c)) i 0) ≡ r
    here = sym (f ∙ ap is (e ∙ sym (get_or-take to (spelled c) i 0 h)))

    pub bytes_not : r ≡ false → false ≡ all_are is (drop from (take to (spelled c)))
    bytes_not g = all_not is (take to (spelled c)) i inv (omega (arith, all_long)) here g

    pub bytes_on : r ≡ true → all_are is (drop (i + 1) (take to (spelled c))) ≡ all_are is (drop from (take to (spelled c)))
    bytes_on g = all_on is (take to (spelled c)) i inv (omega (arith, all_long)) here g

-- the first characters are the first bytes
named_take : (n : ℕ) (s : List ℕ) → n ≤ length (named s) → take n s ≡ take n (named s)
unfolding named
named_take zero s h = refl
named_take (suc n) [] h = absurd (omega arith)
named_take (suc n) (x ∷ s) h = go (eqb x 0) h (named_take n s)
  where
    go : (t : Bool) → suc n ≤ length (cond t [] (x ∷ named s)) → (n ≤ length (named s) → take n s ≡ take n (named s)) → x ∷ take n s ≡ take (suc n) (cond t [] (x ∷ named s))
    go true h f = absurd (omega arith)
    go false h f = ap (λ (l : List ℕ). x ∷ l) (f (omega arith))

pub text_take : (c : Code) (n : ℕ) → n ≤ length (long_text c) → take n (spelled c) ≡ take n (long_text c)
unfolding long_text
text_take c n h = named_take n (spelled c) h

-- ---- the first characters

begins_step : (p x : ℕ) (ps s : List ℕ) → 1 ≤ p → begins (p ∷ ps) (named (x ∷ s)) ≡ (eqb x p && begins ps (named s))
unfolding begins named
begins_step p x ps s h = go (eqb x 0) refl
  where
    go : (t : Bool) → eqb x 0 ≡ t → begins (p ∷ ps) (named (x ∷ s)) ≡ (eqb x p && begins ps (named s))
    go true e = let z : x ≡ 0 = eqb-true x 0 e in rw (e, ne_eqb x p (λ d. omega arith))
    go false e = rw e

begins_none : (s : List ℕ) → begins [] s ≡ true
unfolding begins
begins_none s = refl

some_at : (w : List ℕ) (i : ℕ) → NoZero w → i < length w → 1 ≤ get_or w i 0
some_at [] i n h = absurd (omega arith)
some_at (x ∷ w) zero n h = n.0
some_at (x ∷ w) (suc i) n h = some_at w i n.1 (omega arith)

module _ (w : List ℕ) (c : Code) (short : length w ≤ 16) (some : NoZero w) (i : ℕ) (inv : begins (drop i w) (named (drop i (spelled c))) ≡ begins w (long_text c)) where
  pub begin_end : length w ≤ i → true ≡ begins w (long_text c)
  begin_end h = sym (begins_none (named (drop i (spelled c)))) ∙ rw (drop_of_length-le w {i = i} h) at inv

  module _ (h : i < length w) {x : ℕ} (e : x ≡ get_or (spelled c) i 0) where
    begin_step : (eqb x (get_or w i 0) && begins (drop (i + 1) w) (named (drop (i + 1) (spelled c)))) ≡ begins w (long_text c)
    begin_step =
        let p : drop i w ≡ get_or w i 0 ∷ drop (i + 1) w = rw add-one (drop-cons w i 0 h) in
        let q : drop i (spelled c) ≡ x ∷ drop (i + 1) (spelled c) = rw (e, add-one) (drop-cons (spelled c) i 0 (omega (arith, spelled_length c))) in
        sym (begins_step (get_or w i 0) x (drop (i + 1) w) (drop (i + 1) (spelled c)) (some_at w i some h)) ∙ rw (p, q) at inv

    pub begin_not : (x ≡ get_or w i 0 → ⊥) → false ≡ begins w (long_text c)
    begin_not n = rw (ne_eqb x (get_or w i 0) n) at begin_step

    pub begin_on : x ≡ get_or w i 0 → begins (drop (i + 1) w) (named (drop (i + 1) (spelled c))) ≡ begins w (long_text c)
    begin_on n = rw (eq-eqb x (get_or w i 0) n) at begin_step
