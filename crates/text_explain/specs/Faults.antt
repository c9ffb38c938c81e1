-- How a text breaks at the place that a reader names.
use Rattle.std.specs.Prelude.{ℕ, List, cond, eqb}
use Rattle.chars.specs.Words.{bytes}
use Rattle.chars.specs.Refusals.{number_of}
use Rattle.text_scan.specs.Scan.{on_next, lit_at}
use Rattle.text_fields.specs.declared.Break.{Break}
use Rattle.text_explain.specs.Stages.{tags_at}
use Rattle.text_explain.specs.Walk.{on_here, stands_at, place_at}
use Rattle.text_explain.specs.declared.Stage.{Stage}
use Rattle.text_explain.specs.declared.Place.{Place}
use Rattle.text_explain.specs.declared.Fault.{Fault}
use Rattle.text_explain.specs.declared.Fault.TheVariants.{Missing, Wrong, Unknown, AfterCredit}
use Rattle.text_explain.specs.declared.Told.{Told}

abbrev pub told : ℕ → Fault → ℕ → Told
told line fault value = record { line = line; fault = fault; value = value }

-- in a line that is not missing the tag that may stand there does; where none of them does, it is the 113 that "never" stands after CR
abbrev pub wrong_at : List ℕ → Break → Place → Told
wrong_at s b p =
    on_here (stands_at s b.at (tags_at p.stage))
    (told p.line AfterCredit (on_next (lit_at s b.at (bytes ":113:")) 0 (λ a. a)))
    (λ t a. told p.line (cond (eqb (number_of b.refusal) 88) Unknown (Wrong t)) a)

unfoldable pub fault_at : List ℕ → Break → Place → Told
fault_at s b p = cond b.missing (told p.line (Missing (tags_at p.stage)) 0) (wrong_at s b p)

-- the break of a text that begins at a stage
unfoldable pub told_at : List ℕ → Stage → Break → Told
told_at s stage b = fault_at s b (place_at s stage b.at)
