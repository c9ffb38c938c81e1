-- "The text has every field once, in this order, and nothing else": the tags that may stand where a line begins, and what follows a line.
use Rattle.std.specs.Prelude.{ℕ, ◌-◌, List, Bool, true, cond, ◌||◌, ltb}
use Rattle.chars.specs.Words.{bytes}
use Rattle.text_scan.specs.Scan.{begins}
use Rattle.text_explain.specs.Tags.{is_side}
use Rattle.text_explain.specs.declared.Tag.{Tag}
use Rattle.text_explain.specs.declared.Tag.TheVariants.{T20, T12, T77E, T22A, T119, T16A, T171, T175, T127, T32B, T113, T102, T203, T21, T451, T13E, T432}
use Rattle.text_explain.specs.declared.Tags.{Tags}
use Rattle.text_explain.specs.declared.Tags.TheVariants.{Ending, One, Two}
use Rattle.text_explain.specs.declared.Stage.{Stage}
use Rattle.text_explain.specs.declared.Stage.TheVariants.{At20, At12, At77E, At22A, At119, At16A, At171, At175, At127, At32B, At113, At102, At203, On20, On12, On77E, On21, On22A, On119, On451, On13E, On432, AtEnd}
use Rattle.text_explain.specs.declared.Said.{Said}

-- "127, 32B, 113, 102: one payment, 1 to 10 times": so many may come at the most
abbrev pub most : ℕ
most = 10

abbrev pub tags_at : Stage → Tags
tags_at At20 = One T20
tags_at At12 = One T12
tags_at (At77E settles) = One T77E
tags_at (At22A settles) = One T22A
tags_at (At119 settles) = One T119
tags_at At16A = One T16A
tags_at At171 = One T171
-- "the line may be missing"
tags_at At175 = Two T175 T127
tags_at At127 = One T127
tags_at (At32B left debit) = One T32B
tags_at (At113 left) = One T113
tags_at (At102 left) = One T102
tags_at (At203 left) = cond (ltb 0 left) (Two T127 T203) (One T203)
tags_at On20 = One T20
tags_at On12 = One T12
tags_at (On77E settles) = One T77E
tags_at (On21 settles) = One T21
tags_at On22A = One T22A
tags_at On119 = One T119
tags_at (On451 settles) = One T451
tags_at On13E = One T13E
tags_at On432 = One T432
tags_at AtEnd = Ending

-- a settlement is asked for by 131 and answered by 132
abbrev pub settles_in : List ℕ → Bool
settles_in l = begins (bytes "131") l || begins (bytes "132") l

-- what a value says of the lines that follow, by the text from its beginning on
abbrev pub said_in : List ℕ → Said
said_in l = record { settles = settles_in l; debit = begins (bytes "DR") l; done = begins (bytes "0") l }

-- what is expected behind a line, by its tag and by what its value says
abbrev pub after : Stage → Tag → Said → Stage
after At20 t v = At12
after At12 t v = At77E v.settles
after (At77E settles) t v = At22A settles
after (At22A settles) t v = At119 settles
-- "A recall ends after 119."
after (At119 settles) t v = cond settles At16A AtEnd
after At16A t v = At171
after At171 t v = At175
after At175 t v = cond (is_side t) (At32B most v.debit) At127
after At127 t v = At32B most v.debit
-- "113 stands after DR and never after CR"
after (At32B left debit) t v = cond debit (At113 left) (At102 left)
after (At113 left) t v = At102 left
after (At102 left) t v = At203 (left - 1)
after (At203 left) t v = cond (is_side t) (At32B left v.debit) AtEnd
after On20 t v = On12
after On12 t v = On77E v.settles
after (On77E settles) t v = On21 settles
after (On21 settles) t v = cond settles On22A (On451 settles)
after On22A t v = On119
after On119 t v = On451 true
-- "then 13E after 0 or 432 after 1"; of a recall "432 after 1"
after (On451 settles) t v = cond v.done (cond settles On13E AtEnd) On432
after On13E t v = AtEnd
after On432 t v = AtEnd
after AtEnd t v = AtEnd
