-- A text that was walked through line by line has no other break than the first.
use Rattle.std.specs.Prelude.{Option, Some}
use mathlib.Core.Path.{◌≡◌, refl}
use mathlib.Core.List.{List, []}
use Prim.Native.Nat.{ℕ}
use Rattle.text_fields.specs.declared.Break.{Break}
use Rattle.thm_first_break.specs.Order.{Choice}
use Rattle.thm_first_break.specs.Breaks.{FirstBreak}
use Rattle.thm_first_break.proofs.First.{Verdict, kept, stopped}

module _ (E : Type 0) (may : E → List (Choice E)) (first last : E) (ends : may last ≡ []) (s : List ℕ) where
  pub one_break : {o : Option Break} → Verdict E may first last ends s o 0 first → (b : Break) → FirstBreak E may first last s b → o ≡ Some b
  one_break v b f = stopped E may first last ends s (kept E may first last ends s f.reached v) b refl f.breaks
