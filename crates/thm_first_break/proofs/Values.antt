-- Two lines of one row that stand at one place have one value.
use Prim.Native.Nat.{ℕ, ◌+◌}
use mathlib.Core.Path.{◌≡◌, refl, ap, sym, subst, ◌∙◌}
use mathlib.Core.List.{List, [], ◌∷◌, ◌++◌}
use mathlib.Core.Bool.{Bool, true, false, not, false≢true}
use mathlib.Core.Logic.{inl, inr}
use native.Mathlib.Omega.{arith}
use borrow.Author.Tests.{eqb-true}
use lib.Dec.{eqb}
use lib.ListN.{length, take, drop, length-append}
use lib.Seq.{take-append_seam, drop-append_seam}
use Rattle.chars.specs.Words.{bytes, crlf}
use Rattle.chars.specs.Chars.{is_code, is_letter, is_digit}
use Rattle.text_scan.specs.Spelling.{All}
use Rattle.text_values.specs.Grammar.{IsBin, IsNumbers, IsSide, IsAmount}
use Rattle.text_fields.specs.Grammar.{Line}
use Rattle.text_fields.proofs.Grammar.{line_text_lem}
use Rattle.response_read.proofs.Digits.{all_append}
use Rattle.thm_first_break.specs.Rows.{Row, f20, f12, f77e, f22a, f119, f16a, f171, f175, f127, f32b, f113, no113, f102, f203, f_b20, f21, f451, f13e, f432, IsResponseNumber, IsOutcome, tag_of, Is}

-- what is no CR
abbrev in_line : ℕ → Bool
in_line x = not (eqb x 13)

-- up to the first CR
until : (v w a b : List ℕ) → All in_line v → All in_line w → v ++ (13 ∷ a) ≡ w ++ (13 ∷ b) → v ≡ w
until [] [] a b p q h = refl
until [] (y ∷ w) a b p q h =
    let z : 13 ≡ y = cc in
    absurd (false≢true (ap in_line z ∙ q.0))
until (x ∷ v) [] a b p q h =
    let z : 13 ≡ x = cc in
    absurd (false≢true (ap in_line z ∙ p.0))
until (x ∷ v) (y ∷ w) a b p q h =
    let z : x ≡ y = cc in
    let t : v ++ (13 ∷ a) ≡ w ++ (13 ∷ b) = cc in
    let i = until v w a b p.1 q.1 t in
    cc

-- as long as one another
alike : (v w a b : List ℕ) → length v ≡ length w → v ++ a ≡ w ++ b → v ≡ w
alike v w a b e h = sym (take-append_seam v a) ∙ ap (take (length v)) h ∙ ap (λ (n : ℕ). take n (w ++ b)) e ∙ take-append_seam w b

in_line_lem : (is : ℕ → Bool) → is 13 ≡ false → (v : List ℕ) → All is v → All in_line v
in_line_lem is e [] a = tt
in_line_lem is e (x ∷ v) a = (go (eqb x 13) refl, in_line_lem is e v a.1)
  where
    go : (b : Bool) → eqb x 13 ≡ b → not b ≡ true
    go true h = absurd (false≢true (sym e ∙ ap is (sym (eqb-true x 13 h)) ∙ a.0))
    go false h = refl

codes_in_line : (v : List ℕ) → All is_code v → All in_line v
unfolding is_code is_letter is_digit
codes_in_line v a = in_line_lem is_code refl v a

digits_in_line : (v : List ℕ) → All is_digit v → All in_line v
unfolding is_digit
digits_in_line v a = in_line_lem is_digit refl v a

amount_in_line : {v : List ℕ} → IsAmount v → All in_line v
amount_in_line g = subst (All in_line) (sym g.is) (refl, (refl, (refl, all_append in_line g.whole (bytes "," ++ g.part) (digits_in_line g.whole g.digits) (refl, digits_in_line g.part g.too))))

side_size : {v : List ℕ} → IsSide v → length v ≡ 2
side_size (inl e) = ap length e
side_size (inr e) = ap length e

numbers_size : {v : List ℕ} → IsNumbers v → length v ≡ 5
numbers_size g = ap length g.is ∙ simp length-append (omega (arith, g.two.size, g.too.size))

bin_size : (w : List ℕ) {v : List ℕ} → IsBin w v → length v ≡ length w + 4
bin_size w g = ap length g.is ∙ simp length-append (omega (arith, g.four.size))

response_number_size : {v : List ℕ} → IsResponseNumber v → length v ≡ 8
response_number_size g = ap length g.is ∙ omega (arith, g.seven.size)

outcome_size : {v : List ℕ} → IsOutcome v → length v ≡ 1
outcome_size (inl e) = ap length e
outcome_size (inr e) = ap length e

one_value : (f : Row) (v w a b : List ℕ) → Is f v → Is f w → v ++ (crlf ++ a) ≡ w ++ (crlf ++ b) → v ≡ w
one_value f20 v w a b p q h = until v w (10 ∷ a) (10 ∷ b) (codes_in_line v p.all) (codes_in_line w q.all) h
one_value (f12 kinds) v w a b p q h = alike v w (crlf ++ a) (crlf ++ b) (p.size ∙ sym q.size) h
one_value f77e v w a b p q h = p ∙ sym q
one_value f22a v w a b p q h = alike v w (crlf ++ a) (crlf ++ b) (p.size ∙ sym q.size) h
one_value (f119 stream) v w a b p q h = alike v w (crlf ++ a) (crlf ++ b) (bin_size stream p ∙ sym (bin_size stream q)) h
one_value f16a v w a b p q h = alike v w (crlf ++ a) (crlf ++ b) (numbers_size p ∙ sym (numbers_size q)) h
one_value f171 v w a b p q h = alike v w (crlf ++ a) (crlf ++ b) (p.six.size ∙ sym q.six.size) h
one_value f175 v w a b p q h = alike v w (crlf ++ a) (crlf ++ b) (p.four.size ∙ sym q.four.size) h
one_value f127 v w a b p q h = alike v w (crlf ++ a) (crlf ++ b) (side_size p ∙ sym (side_size q)) h
one_value f32b v w a b p q h = until v w (10 ∷ a) (10 ∷ b) (amount_in_line p) (amount_in_line q) h
one_value f113 v w a b p q h = alike v w (crlf ++ a) (crlf ++ b) (ap length p.is ∙ sym (ap length q.is)) h
one_value no113 v w a b p q h = absurd p
one_value f102 v w a b p q h = alike v w (crlf ++ a) (crlf ++ b) (p.size ∙ sym q.size) h
one_value (f203 n) v w a b p q h = until v w (10 ∷ a) (10 ∷ b) (digits_in_line v p.digits) (digits_in_line w q.digits) h
one_value f_b20 v w a b p q h = alike v w (crlf ++ a) (crlf ++ b) (response_number_size p ∙ sym (response_number_size q)) h
one_value f21 v w a b p q h = until v w (10 ∷ a) (10 ∷ b) (codes_in_line v p.all) (codes_in_line w q.all) h
one_value f451 v w a b p q h = alike v w (crlf ++ a) (crlf ++ b) (outcome_size p ∙ sym (outcome_size q)) h
one_value f13e v w a b p q h = alike v w (crlf ++ a) (crlf ++ b) (p.twelve.size ∙ sym q.twelve.size) h
one_value f432 v w a b p q h = alike v w (crlf ++ a) (crlf ++ b) (p.size ∙ sym q.size) h

behind_tag : (t x y : List ℕ) → t ++ x ≡ t ++ y → x ≡ y
behind_tag t x y h = sym (drop-append_seam t x) ∙ ap (drop (length t)) h ∙ drop-append_seam t y

pub same_value : (f : Row) {l a b : List ℕ} (g : Line (tag_of f) (Is f) l a) (k : Line (tag_of f) (Is f) l b) → g.value ≡ k.value
same_value f {l} {a} {b} g k = one_value f g.value k.value a b g.is k.is (behind_tag (tag_of f) (g.value ++ (crlf ++ a)) (k.value ++ (crlf ++ b)) (sym (line_text_lem g) ∙ line_text_lem k))

-- and so have two lines with values of one length
pub same_long : (tag : List ℕ) {P Q : List ℕ → Type 0} {l a b : List ℕ} (g : Line tag P l a) (k : Line tag Q l b) → length g.value ≡ length k.value → g.value ≡ k.value
same_long tag {a = a} {b = b} g k e = alike g.value k.value (crlf ++ a) (crlf ++ b) e (behind_tag tag (g.value ++ (crlf ++ a)) (k.value ++ (crlf ++ b)) (sym (line_text_lem g) ∙ line_text_lem k))
