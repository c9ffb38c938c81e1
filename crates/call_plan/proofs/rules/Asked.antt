-- What a `?` behind `ok_or` says of the option.
use mathlib.Core.Path.{◌≡◌, refl, sym, ◌∙◌}
use native.Mathlib.Omega.{arith}
use Prim.Native.Nat.{ℕ}
use Rattle.std.specs.Option.{ok_or}
use Rattle.std.specs.Prelude.{Result, Ok, Err, Option, Some, None}

pub some_of : {A E : Type 0} (s : Option A) (f : E) {i : A} {r : Result A E} → r ≡ ok_or s f → r ≡ Ok i → s ≡ Some i
some_of {A} {E} s f {i} e g = go s (sym e ∙ g)
  where
    go : (o : Option A) → ok_or o f ≡ Ok i → o ≡ Some i
    go (Some x) h = let y : x ≡ i = cc in rw y
    go None h = let z : ◌≡◌ {A = ℕ} 0 1 = cc in absurd (omega arith)

pub none_of : {A E : Type 0} (s : Option A) (f : E) {k : E} {r : Result A E} → r ≡ ok_or s f → r ≡ Err k → (s ≡ None) × (k ≡ f)
none_of {A} {E} s f {k} e g = go s (sym e ∙ g)
  where
    go : (o : Option A) → ok_or o f ≡ Err k → (o ≡ None) × (k ≡ f)
    go (Some x) h = let z : ◌≡◌ {A = ℕ} 0 1 = cc in absurd (omega arith)
    go None h = (refl, let y : k ≡ f = cc in y)
