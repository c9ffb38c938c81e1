-- The same of responses: "132 lines: 20, 12, 77E, 21, 22A, 119, 451, then 13E after 0 or 432 after 1. 134: 20, 12, 77E, 21, 451, and 432 after 1."
use Rattle.std.specs.Prelude.{ℕ, List, [], ◌∷◌, Bool, true, cond, eqb}
use Rattle.chars.specs.Words.{bytes}
use Rattle.text_scan.specs.Scan.{begins}
use Rattle.text_scan.specs.Spelling.{value_of}
use Rattle.thm_first_break.specs.Rows.{f12, f77e, f22a, f119, f_b20, f21, f451, f13e, f432}
use Rattle.thm_first_break.specs.Order.{Choice, only}

-- a field by its tag: whether a settlement is answered, and the stream
pub data Awaiting : Type 0 where
  on20 : Awaiting
  on12 : Awaiting
  on77e : Bool → Awaiting
  on21 : Bool → Awaiting
  on22a : Awaiting
  on119 : List ℕ → Awaiting
  on451 : Bool → Awaiting
  on13e : Awaiting
  on432 : Awaiting
  on_end : Awaiting

abbrev pub replies : Awaiting → List (Choice Awaiting)
replies on20 = only f_b20 (λ v. on12)
replies on12 = only (f12 (132 ∷ 134 ∷ [])) (λ v. on77e (eqb (value_of 0 v) 132))
replies (on77e settles) = only f77e (λ v. on21 settles)
replies (on21 settles) = only f21 (λ v. cond settles on22a (on451 settles))
replies on22a = only f22a (λ v. on119 v)
replies (on119 stream) = only (f119 stream) (λ v. on451 true)
replies (on451 settles) = only f451 (λ v. cond (begins (bytes "0") v) (cond settles on13e on_end) on432)
replies on13e = only f13e (λ v. on_end)
replies on432 = only f432 (λ v. on_end)
replies on_end = []
