-- Laws of yes and no.
use mathlib.Core.Path.{◌≡◌, refl, sym}
pub use Rattle.text_names.proofs.rules.Laws.{and_true}
use mathlib.Core.Bool.{Bool, true, false, ◌||◌, false≢true}

pub or_right : (x y : Bool) → y ≡ true → (x || y) ≡ true
or_right true y e = refl
or_right false y e = e

pub or_second : (x y : Bool) → (x || y) ≡ true → x ≡ false → y ≡ true
or_second true y h e = absurd (false≢true (sym e))
or_second false y h e = h

pub or_false : (x y : Bool) → (x || y) ≡ false → (x ≡ false) × (y ≡ false)
or_false true y h = absurd (false≢true (sym h))
or_false false y h = (refl, h)
