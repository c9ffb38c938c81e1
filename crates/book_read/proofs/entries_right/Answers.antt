use native.Mathlib.Omega.{arith}
use mathlib.Core.Path.{◌∙◌}
use Rattle.book_read.proofs.Leaves.{entries_code, entries_wrong, entries_step, entries_done, entry_near, entry_next}
use Rattle.book_read.proofs.entries_right.Goals as goal
use Rattle.book_read.proofs.entries_right.Goals.{then-code-before-via-then-code-before, then-code-before-via-else-code-before+then-not-right}

pub returns-then-code-before : goal.returns-then-code-before
returns-then-code-before g c = λ r same. elim c.then-code-before.branch [
  | then-code-before-via-then-code-before w ↦ entries_code _ _ _ _ _ _ (omega arith) c.short_code-code.ensures.value w.if-code-before.true ∙ c.loop-i.invariant r same
  | then-code-before-via-else-code-before+then-not-right w ↦ entries_wrong _ _ _ _ _ _ (omega arith) (same _ _ (entry_near _ _ _ _ c.requires.bounds.0 c.requires.bounds.1 c.loop-i-test.true c.requires.bounds.2) w.right.ensures) w.if-not-right.true ∙ c.loop-i.invariant r same
]

pub loop-i-preserved : goal.loop-i-preserved
loop-i-preserved g c = λ r same. entries_step _ _ _ _ _ _ (omega arith) c.short_code-code.ensures.value (omega arith) (same _ _ (entry_near _ _ _ _ c.requires.bounds.0 c.requires.bounds.1 c.loop-i-test.true c.requires.bounds.2) c.right.ensures) c.if-not-right.false (entry_next _ _ _) (omega arith) ∙ c.loop-i.invariant r same

pub returns : goal.returns
returns g c = λ r same. entries_done _ _ _ _ _ _ (omega arith) ∙ c.loop-i.invariant r same
