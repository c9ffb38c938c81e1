-- A well-formed value holds no CR: so the first CR LF behind its tag is the end of its line.
use Prim.Native.Nat.{ℕ}
use mathlib.Core.Path.{◌≡◌, refl, ap, sym, subst, ◌∙◌}
use mathlib.Core.List.{List, [], ◌∷◌, ◌++◌}
use mathlib.Core.Bool.{Bool, true, false, not, false≢true}
use mathlib.Core.Logic.{inl, inr}
use borrow.Author.Tests.{eqb-true}
use lib.Dec.{eqb}
use Rattle.chars.specs.Words.{bytes}
use Rattle.chars.specs.Chars.{is_code, is_digit, is_letter}
use Rattle.text_scan.specs.Spelling.{All}
use Rattle.text_values.specs.Letters.{is_status, is_fourth}
use Rattle.text_values.specs.Grammar.{IsLetters}
use Rattle.response_read.proofs.Digits.{all_append, digits_codes, cr_no_code}
use Rattle.thm_first_break.specs.Rows.{Row, f20, f12, f77e, f22a, f119, f16a, f171, f175, f127, f32b, f113, no113, f102, f203, f_b20, f21, f451, f13e, f432, Is}

abbrev pub in_line : ℕ → Bool
in_line x = not (eqb x 13)

-- a class that CR is not of
of_class : (is : ℕ → Bool) → is 13 ≡ false → (v : List ℕ) → All is v → All in_line v
of_class is e [] a = tt
of_class is e (x ∷ v) a = (go (eqb x 13) refl, of_class is e v a.1)
  where
    go : (b : Bool) → eqb x 13 ≡ b → not b ≡ true
    go true h = absurd (false≢true (sym e ∙ ap is (sym (eqb-true x 13 h)) ∙ a.0))
    go false h = refl

codes : (v : List ℕ) → All is_code v → All in_line v
codes v a = of_class is_code cr_no_code v a

digits : (v : List ℕ) → All is_digit v → All in_line v
digits v a = codes v (digits_codes v a)

letters : {v : List ℕ} → IsLetters v → All in_line v
unfolding is_status is_fourth is_letter
letters g =
    let a = of_class is_status refl (g.esa ∷ g.credit ∷ g.cash ∷ []) (g.first, (g.second, (g.third, tt))) in
    let z = of_class is_fourth refl (g.unused ∷ []) (g.fourth, tt) in
    subst (All in_line) (sym g.is) (a.0, (a.1.0, (a.1.1.0, z)))

-- the stream of a BIN is a value too
abbrev pub CleanRow : Row → Type 0
CleanRow (f119 stream) = All in_line stream
CleanRow f20 = Unit {0}
CleanRow (f12 kinds) = Unit {0}
CleanRow f77e = Unit {0}
CleanRow f22a = Unit {0}
CleanRow f16a = Unit {0}
CleanRow f171 = Unit {0}
CleanRow f175 = Unit {0}
CleanRow f127 = Unit {0}
CleanRow f32b = Unit {0}
CleanRow f113 = Unit {0}
CleanRow no113 = Unit {0}
CleanRow f102 = Unit {0}
CleanRow (f203 n) = Unit {0}
CleanRow f_b20 = Unit {0}
CleanRow f21 = Unit {0}
CleanRow f451 = Unit {0}
CleanRow f13e = Unit {0}
CleanRow f432 = Unit {0}

pub in_line_lem : (f : Row) (v : List ℕ) → CleanRow f → Is f v → All in_line v
in_line_lem f20 v k g = codes v g.all
in_line_lem (f12 kinds) v k g = digits v g.all
in_line_lem f77e v k g = subst (All in_line) (sym g) tt
in_line_lem f22a v k g = codes v g.all
in_line_lem (f119 stream) v k g = subst (All in_line) (sym g.is) (all_append in_line stream g.digits k (digits g.digits g.four.all))
in_line_lem f16a v k g = subst (All in_line) (sym g.is) (all_append in_line g.number (bytes "/" ++ g.count) (digits g.number g.two.all) (refl, digits g.count g.too.all))
in_line_lem f171 v k g = digits v g.six.all
in_line_lem f175 v k g = digits v g.four.all
in_line_lem f127 v k (inl e) = subst (All in_line) (sym e) (refl, (refl, tt))
in_line_lem f127 v k (inr e) = subst (All in_line) (sym e) (refl, (refl, tt))
in_line_lem f32b v k g = subst (All in_line) (sym g.is) (refl, (refl, (refl, all_append in_line g.whole (bytes "," ++ g.part) (digits g.whole g.digits) (refl, digits g.part g.too))))
in_line_lem f113 v k g = letters g
in_line_lem no113 v k g = absurd g
in_line_lem f102 v k g = codes v g.all
in_line_lem (f203 n) v k g = digits v g.digits
in_line_lem f_b20 v k g = subst (All in_line) (sym g.is) (refl, digits g.digits g.seven.all)
in_line_lem f21 v k g = codes v g.all
in_line_lem f451 v k (inl e) = subst (All in_line) (sym e) (refl, tt)
in_line_lem f451 v k (inr e) = subst (All in_line) (sym e) (refl, tt)
in_line_lem f13e v k g = digits v g.twelve.all
in_line_lem f432 v k g = digits v g.all
