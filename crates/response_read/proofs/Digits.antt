-- Numbers that are written and read again, and the classes of the characters between.
use Prim.Native.Nat.{ℕ, zero, suc, ◌+◌, ◌*◌, ◌-◌, ◌/◌, ◌%◌, ◌≤◌, ◌<◌}
use mathlib.Core.Path.{◌≡◌, refl, ap, sym, subst, ◌∙◌}
use mathlib.Core.Bool.{Bool, true, false, ◌||◌, ◌&&◌, not, or-true}
use mathlib.Core.List.{List, [], ◌∷◌, ◌++◌, append_assoc, append-nil}
use native.Mathlib.Nat.{add-zero, zero-add, add-suc, suc-add, div-add-mod'}
use native.Mathlib.Omega.{arith}
use borrow.Author.Tests.{not-true}
use lib.Dec.{eqb}
use lib.ListN.{length}
use Rattle.chars.specs.Chars.{is_digit, is_letter, is_code, digit_value}
use Rattle.chars.proofs.Laws.{in_range, range_low, range_high, digit_low, digit_high, digit_small, digit_yes}
use Rattle.codes.specs.Codes.{Bytes, NoZero}
use Rattle.text_put.specs.Digits.{digits_of}
use Rattle.text_put.proofs.Laws.{digits_length}
use Rattle.text_scan.specs.Scan.{begins, ten}
use Rattle.text_scan.specs.Spelling.{All, value_of}

pub all_append : (is : ℕ → Bool) (a b : List ℕ) → All is a → All is b → All is (a ++ b)
all_append is [] b p q = q
all_append is (x ∷ a) b p q = (p.0, all_append is a b p.1 q)

digit_is : (d : ℕ) → d < 10 → is_digit (d + 48) ≡ true
unfolding is_digit
digit_is d h = in_range 48 57 (d + 48) (omega arith) (omega arith)

digit_of : (d : ℕ) → d < 10 → digit_value (d + 48) ≡ d
digit_of d h = digit_yes (d + 48) (digit_is d h) ∙ (omega arith)

-- the digits of a number are digits
pub digits_all : (k v : ℕ) → All is_digit (digits_of k v)
unfolding digits_of
digits_all zero v = tt
digits_all (suc k) v = all_append is_digit (digits_of k (v / 10)) ((v % 10 + 48) ∷ []) (digits_all k (v / 10)) (digit_is (v % 10) (omega arith), tt)

pub value_append : (v : ℕ) (a b : List ℕ) → value_of v (a ++ b) ≡ value_of (value_of v a) b
value_append v [] b = refl
value_append v (x ∷ a) b = value_append (v * 10 + digit_value x) a b

-- a number is the value of its digits
pub value_digits : (k v t : ℕ) → t < ten k → value_of v (digits_of k t) ≡ v * ten k + t
unfolding digits_of
value_digits zero v t h = omega arith
value_digits (suc k) v t h =
    value_append v (digits_of k (t / 10)) ((t % 10 + 48) ∷ [])
    ∙ ap (λ (n : ℕ). n * 10 + digit_value (t % 10 + 48)) (value_digits k v (t / 10) (omega arith))
    ∙ ap (λ (d : ℕ). (v * ten k + t / 10) * 10 + d) (digit_of (t % 10) (omega arith))
    ∙ (omega arith)

pub value_back : (k t : ℕ) → t < ten k → value_of 0 (digits_of k t) ≡ t
value_back k t h = value_digits k 0 t h ∙ (omega arith)

-- the value of digits has no more than they
pub value_small : (l : List ℕ) → All is_digit l → value_of 0 l < ten (length l)
value_small l a = rw (zero-add) at (below l 0 0 (omega arith))
  where
    below : (l : List ℕ) (k v : ℕ) → v < ten k → value_of v l < ten (k + length l)
    below [] k v h = rw add-zero h
    below (x ∷ l) k v h =
        let e : suc k + length l ≡ k + suc (length l) = omega arith in
        subst (λ (n : ℕ). value_of (v * 10 + digit_value x) l < ten n) e (below l (suc k) (v * 10 + digit_value x) (omega (arith, digit_small x)))

-- and digits are the digits of their value
digits_one : (k v d : ℕ) → d < 10 → digits_of (suc k) (v * 10 + d) ≡ digits_of k v ++ ((d + 48) ∷ [])
unfolding digits_of
digits_one k v d h =
    let q : (v * 10 + d) / 10 ≡ v = omega arith in
    let r : (v * 10 + d) % 10 ≡ d = omega arith in
    rw (q, r)

digits_on : (l : List ℕ) (k v : ℕ) → All is_digit l → digits_of (k + length l) (value_of v l) ≡ digits_of k v ++ l
digits_on [] k v a = simp (add-zero, append-nil {A = ℕ})
digits_on (x ∷ l) k v a =
    let y = digit_yes x a.0 in
    let d : x - 48 + 48 ≡ x = omega (arith, digit_low x a.0) in
    let one : digits_of (suc k) (v * 10 + digit_value x) ≡ digits_of k v ++ (x ∷ []) = rw y (digits_one k v (x - 48) (omega (arith, digit_high x a.0)) ∙ ap (λ (b : ℕ). digits_of k v ++ (b ∷ [])) d) in
    rw (add-suc, ← suc-add) (digits_on l (suc k) (v * 10 + digit_value x) a.1 ∙ ap (λ (r : List ℕ). r ++ l) one ∙ append_assoc (digits_of k v) (x ∷ []) l)

pub digits_back : (l : List ℕ) → All is_digit l → digits_of (length l) (value_of 0 l) ≡ l
unfolding digits_of
digits_back l a = ap (λ (k : ℕ). digits_of k (value_of 0 l)) (sym (zero-add (length l))) ∙ digits_on l 0 0 a

-- twelve digits are six and six
pub moment_digits : (n : ℕ) → digits_of 12 n ≡ digits_of 6 (n / 1000000) ++ digits_of 6 (n % 1000000)
moment_digits n =
    let v : value_of (n / 1000000) (digits_of 6 (n % 1000000)) ≡ n = value_digits 6 (n / 1000000) (n % 1000000) (omega arith) ∙ div-add-mod' n 1000000 in
    ap (λ (k : ℕ). digits_of (6 + k) n) (sym (digits_length 6 (n % 1000000)))
    ∙ ap (digits_of (6 + length (digits_of 6 (n % 1000000)))) (sym v)
    ∙ digits_on (digits_of 6 (n % 1000000)) 6 (n / 1000000) (digits_all 6 (n % 1000000))

-- ---- characters of a code

code_range : (b : ℕ) → is_code b ≡ true → (48 ≤ b) × (b ≤ 90)
unfolding is_code is_letter is_digit
code_range b h = go (is_letter b) refl h
  where
    go : (t : Bool) → is_letter b ≡ t → (t || is_digit b) ≡ true → (48 ≤ b) × (b ≤ 90)
    go true e h = (omega (arith, range_low 65 90 b e), range_high 65 90 b e)
    go false e h = (range_low 48 57 b h, omega (arith, range_high 48 57 b h))

-- a digit is a character of a code
pub digits_codes : (l : List ℕ) → All is_digit l → All is_code l
unfolding is_code
digits_codes [] a = tt
digits_codes (x ∷ l) a = (simp (a.0, or-true), digits_codes l a.1)

pub cr_no_code : is_code 13 ≡ false
unfolding is_code is_letter is_digit
cr_no_code = refl

pub code_bytes : (l : List ℕ) → All is_code l → Bytes l
code_bytes [] a = tt
code_bytes (x ∷ l) a = (omega (arith, (code_range x a.0).1), code_bytes l a.1)

pub code_no_zero : (l : List ℕ) → All is_code l → NoZero l
code_no_zero [] a = tt
code_no_zero (x ∷ l) a = (omega (arith, (code_range x a.0).0), code_no_zero l a.1)

-- what begins a text that a byte ends begins what stands before the byte, unless that byte is in it
pub begins_before : (p l : List ℕ) (x : ℕ) (r : List ℕ) → All (λ (y : ℕ). not (eqb x y)) p → begins p (l ++ (x ∷ r)) ≡ begins p l
unfolding begins
begins_before [] l x r a = refl
begins_before (y ∷ p) [] x r a = simp (not-true (eqb x y) a.0)
begins_before (y ∷ p) (z ∷ l) x r a = ap (λ (b : Bool). eqb z y && b) (begins_before p l x r a.1)
