-- Laws of codes looked at from their last character on.
use Prim.Native.Nat.{ℕ, zero, suc, ◌-◌, ◌/◌, ◌%◌, ◌≤◌, ◌<◌}
use mathlib.Core.Path.{◌≡◌, refl, sym, ap, subst, ◌∙◌}
use mathlib.Core.Bool.{Bool, true, false, not, ◌&&◌, false≢true}
use mathlib.Core.List.{List, [], ◌∷◌, ◌++◌, append_assoc}
use native.Mathlib.Omega.{arith}
use lib.Dec.{eqb, ltb}
use lib.ListN.{length, take, drop, length-append}
use lib.Seq.{drop_at, take_at}
use borrow.Author.Tests.{eq-eqb, ne_eqb, lt-ltb}
use Rattle.chars.specs.Chars.{is_code, is_letter, is_digit}
use Rattle.codes.specs.Codes.{unpacked, named, spelled, long_text}
use Rattle.codes.specs.declared.Code.{Code}
use Rattle.codes.proofs.Laws.{unpack_length}
use Rattle.text_names.specs.rules.Names.{all_are, is_whole, forbidden, is_reference, is_bin}
use Rattle.text_names.proofs.rules.Laws.{and_true, whole_start}
use Rattle.text_names.specs.quick.Ends.{is_zero, Ends, Plain}

by_test {ℓ} : {X : Type ℓ} (b : Bool) → (b ≡ true → X) → (b ≡ false → X) → X
by_test true f g = f refl
by_test false f g = g refl

-- ---- the last of some

all_last : (is : ℕ → Bool) (l : List ℕ) (x : ℕ) → all_are is (l ++ (x ∷ [])) ≡ (all_are is l && is x)
all_last is [] x = by_test (is x) (λ e. rw e) (λ e. rw e)
all_last is (y ∷ l) x = by_test (is y) (λ e. rw e (all_last is l x)) (λ e. rw e)

all_join : (is : ℕ → Bool) (a b : List ℕ) → all_are is a ≡ true → all_are is b ≡ true → all_are is (a ++ b) ≡ true
all_join is [] b f g = g
all_join is (x ∷ a) b f g = let h = and_true (is x) (all_are is a) f in rw h.0 (all_join is a b h.1 g)

and_false : (b : Bool) → false ≡ (b && false)
and_false true = refl
and_false false = refl

and_true_end : (b : Bool) → (b && true) ≡ b
and_true_end true = refl
and_true_end false = refl

less : (n : ℕ) → 0 < n → n ≡ suc (n - 1)
less n h = omega arith

cut : (w v : ℕ) → 0 < w → unpacked w v ≡ unpacked (w - 1) (v / 256) ++ (v % 256 ∷ [])
unfolding unpacked
cut zero v h = absurd (omega arith)
cut (suc w) v h = let e : suc w - 1 ≡ w = omega arith in rw e

module _ (is : ℕ → Bool) (w v left rest : ℕ) (b : all_are is (unpacked left rest) ≡ all_are is (unpacked w v)) where
  pub all_end : left ≤ 0 → true ≡ all_are is (unpacked w v)
  unfolding unpacked
  all_end h = let e : left ≡ 0 = omega arith in ap (λ (n : ℕ). all_are is (unpacked n rest)) (sym e) ∙ b

  module _ (h : 0 < left) {r : Bool} (f : r ≡ is (rest % 256)) where
    step : (all_are is (unpacked (left - 1) (rest / 256)) && r) ≡ all_are is (unpacked w v)
    step =
        ap (λ (x : Bool). all_are is (unpacked (left - 1) (rest / 256)) && x) f
        ∙ sym (all_last is (unpacked (left - 1) (rest / 256)) (rest % 256))
        ∙ sym (ap (all_are is) (cut left rest h))
        ∙ b

    pub all_not : r ≡ false → false ≡ all_are is (unpacked w v)
    all_not g = and_false (all_are is (unpacked (left - 1) (rest / 256))) ∙ (rw g at step)

    pub all_on : r ≡ true → all_are is (unpacked (left - 1) (rest / 256)) ≡ all_are is (unpacked w v)
    all_on g = sym (and_true_end (all_are is (unpacked (left - 1) (rest / 256)))) ∙ (rw g at step)

-- ---- zeros at the end

append_none : (l : List ℕ) → l ≡ l ++ []
append_none [] = refl
append_none (x ∷ l) = ap (λ (m : List ℕ). x ∷ m) (append_none l)

pub ends_on : (l : List ℕ) (w v : ℕ) → Ends l w v → 0 < w → v % 256 ≡ 0 → Ends l (w - 1) (v / 256)
ends_on l w v x h z = record {
  zeros = 0 ∷ x.zeros;
  is = x.is ∙ ap (λ (m : List ℕ). m ++ x.zeros) (cut w v h ∙ ap (λ (y : ℕ). unpacked (w - 1) (v / 256) ++ (y ∷ [])) z) ∙ append_assoc (unpacked (w - 1) (v / 256)) (0 ∷ []) x.zeros;
  none = x.none;
}

-- ---- plain codes

zeros_of : (w : ℕ) → all_are is_zero (unpacked w 0) ≡ true
unfolding unpacked
zeros_of zero = refl
zeros_of (suc w) = all_last is_zero (unpacked w (0 / 256)) (0 % 256) ∙ rw (zeros_of w)

module _ (c : Code) where
  pub plain_short : c.low ≡ 0 → {w v : ℕ} → Ends (unpacked 8 c.high) w v → (w ≡ 0 → ⊥) → {r : Bool} → r ≡ all_are is_code (unpacked w v) → r ≡ true → Plain c
  unfolding spelled
  plain_short z {w} {v} x n e f = record {
    text = unpacked w v;
    zeros = x.zeros ++ unpacked 8 c.low;
    is = ap (λ (l : List ℕ). l ++ unpacked 8 c.low) x.is ∙ append_assoc (unpacked w v) x.zeros (unpacked 8 c.low);
    codes = sym e ∙ f;
    none = all_join is_zero x.zeros (unpacked 8 c.low) x.none (ap (λ (k : ℕ). all_are is_zero (unpacked 8 k)) z ∙ zeros_of 8);
    some = omega (arith, unpack_length w v);
  }

  pub plain_long : {w v : ℕ} → Ends (unpacked 8 c.low) w v → {r : Bool} → r ≡ all_are is_code (unpacked w v) → r ≡ true → {q : Bool} → q ≡ all_are is_code (unpacked 8 c.high)
      → q ≡ true → Plain c
  unfolding spelled
  plain_long {w} {v} x {r} e f g h = record {
    text = unpacked 8 c.high ++ unpacked w v;
    zeros = x.zeros;
    is = ap (λ (l : List ℕ). unpacked 8 c.high ++ l) x.is ∙ sym (append_assoc (unpacked 8 c.high) (unpacked w v) x.zeros);
    codes = all_join is_code (unpacked 8 c.high) (unpacked w v) (sym g ∙ h) (sym e ∙ f);
    none = x.none;
    some = omega (arith, length-append (unpacked 8 c.high) (unpacked w v), unpack_length 8 c.high);
  }

-- a character is no zero
code_some : (x : ℕ) → is_code x ≡ true → eqb x 0 ≡ false
unfolding is_code is_letter is_digit
code_some zero h = absurd (false≢true h)
code_some (suc x) h = ne_eqb (suc x) 0 (λ e. omega arith)

named_zeros : (l : List ℕ) → all_are is_zero l ≡ true → named l ≡ []
unfolding named
named_zeros [] h = refl
named_zeros (x ∷ l) h = rw (and_true (is_zero x) (all_are is_zero l) h).0

named_text : (a b : List ℕ) → all_are is_code a ≡ true → all_are is_zero b ≡ true → named (a ++ b) ≡ a
unfolding named
named_text [] b f g = named_zeros b g
named_text (x ∷ a) b f g = let h = and_true (is_code x) (all_are is_code a) f in rw (code_some x h.0, named_text a b h.1 g)

module _ (c : Code) (high : c.high < 18446744073709551616) (low : c.low < 18446744073709551616) where
  text_is : (p : Plain c) → long_text c ≡ p.text
  unfolding long_text
  text_is p = ap named p.is ∙ named_text p.text p.zeros p.codes p.none

  plain_whole : Plain c → is_whole c ≡ true
  plain_whole p =
      let e = text_is p in
      sym (whole_start c high low refl)
      ∙ ap (λ (l : List ℕ). all_are is_zero (drop (length l) (spelled c))) e
      ∙ ap (λ (l : List ℕ). all_are is_zero (drop (length p.text) l)) p.is
      ∙ ap (all_are is_zero) (drop_at p.text p.zeros (length p.text) refl)
      ∙ p.none

  pub plain_reference : {a : Bool} → (a ≡ true → Plain c) → a ≡ true → {d : Bool} → d ≡ forbidden (long_text c) → not d ≡ is_reference c
  plain_reference {a} f e {d} ed =
      let p = f e in
      let s : ltb 0 (length (long_text c)) ≡ true = lt-ltb 0 (length (long_text c)) (subst (λ (l : List ℕ). 0 < length l) (sym (text_is p)) p.some) in
      let k : all_are is_code (long_text c) ≡ true = ap (all_are is_code) (text_is p) ∙ p.codes in
      rw (plain_whole p, s, k, ← ed)

-- ---- BINs

four_four : (v : ℕ) → unpacked 8 v ≡ unpacked 4 (v / 4294967296) ++ unpacked 4 v
unfolding unpacked
four_four v =
    let e : v / 256 / 256 / 256 / 256 ≡ v / 4294967296 = omega arith in
    step ∙ ap (λ (q : ℕ). unpacked 4 q ++ unpacked 4 v) e
  where
    step : unpacked 8 v ≡ unpacked 4 (v / 256 / 256 / 256 / 256) ++ unpacked 4 v
    step = refl

digit_code : (x : ℕ) → is_digit x ≡ true → is_code x ≡ true
unfolding is_code
digit_code x h = by_test (is_letter x) (λ e. rw e) (λ e. rw (e, h))

digits_codes : (l : List ℕ) → all_are is_digit l ≡ true → all_are is_code l ≡ true
digits_codes [] h = refl
digits_codes (x ∷ l) h = let k = and_true (is_digit x) (all_are is_digit l) h in rw (digit_code x k.0) (digits_codes l k.1)

module _ (c : Code) (high : c.high < 18446744073709551616) (low : c.low < 18446744073709551616) where
  pub plain_bin : c.low ≡ 0 → {a : Bool} → a ≡ all_are is_digit (unpacked 4 c.high) → a ≡ true → {b : Bool} → b ≡ all_are is_code (unpacked 4 (c.high / 4294967296)) → b ≡ true
      → true ≡ is_bin c
  unfolding spelled
  plain_bin z {a} ea fa {b} eb fb =
      let digits : all_are is_digit (unpacked 4 c.high) ≡ true = sym ea ∙ fa in
      let codes : all_are is_code (unpacked 4 (c.high / 4294967296)) ≡ true = sym eb ∙ fb in
      let p : Plain c = record {
        text = unpacked 4 (c.high / 4294967296) ++ unpacked 4 c.high;
        zeros = unpacked 8 c.low;
        is = ap (λ (l : List ℕ). l ++ unpacked 8 c.low) (four_four c.high);
        codes = all_join is_code (unpacked 4 (c.high / 4294967296)) (unpacked 4 c.high) codes (digits_codes (unpacked 4 c.high) digits);
        none = ap (λ (k : ℕ). all_are is_zero (unpacked 8 k)) z ∙ zeros_of 8;
        some = omega (arith, length-append (unpacked 4 (c.high / 4294967296)) (unpacked 4 c.high), unpack_length 4 c.high);
      }
      in
      let t = text_is c high low p in
      let n : length (long_text c) ≡ 8 = ap length t ∙ length-append (unpacked 4 (c.high / 4294967296)) (unpacked 4 c.high) ∙ omega (arith, unpack_length 4 c.high, unpack_length 4 (c.high / 4294967296)) in
      let f : all_are is_code (take 4 (long_text c)) ≡ true = ap (λ (l : List ℕ). all_are is_code (take 4 l)) t ∙ ap (all_are is_code) (take_at (unpacked 4 (c.high / 4294967296)) (unpacked 4 c.high) 4 (unpack_length 4 (c.high / 4294967296))) ∙ codes in
      let g : all_are is_digit (drop 4 (long_text c)) ≡ true = ap (λ (l : List ℕ). all_are is_digit (drop 4 l)) t ∙ ap (all_are is_digit) (drop_at (unpacked 4 (c.high / 4294967296)) (unpacked 4 c.high) 4 (unpack_length 4 (c.high / 4294967296))) ∙ digits in
      rw (plain_whole c high low p, eq-eqb (length (long_text c)) 8 n, f, g)
