use Rattle.std.proofs.lemmas.Result.{err_from_is_err_and}
use Rattle.book_read.proofs.Leaves.{entry_near, entry_next}
use Rattle.book_explain.proofs.Failing.{entries_done, entries_on, entries_broken}
use mathlib.Core.Path.{◌∙◌}
use native.Mathlib.Omega.{arith}
use Rattle.book_explain.proofs.entries_found.Goals as goal

pub loop-i-preserved : goal.loop-i-preserved
loop-i-preserved g c = λ tests same. entries_on _ _ _ _ _ _ _ (omega arith) (same _ _ _ _ (entry_near _ _ _ _ c.requires.bounds.0 c.requires.bounds.1 c.loop-i-test.true c.requires.bounds.2) c.found.ensures) c.in_ok-found.was c.short_code-before.ensures.value (entry_next _ _ _) ∙ c.loop-i.invariant tests same

pub returns-in_err-found : goal.returns-in_err-found
returns-in_err-found g c = λ tests same. let p = err_from_is_err_and c.from_residual.result c.from_residual.ensures.1 in rw (p.1, p.2) (entries_broken _ _ _ _ _ _ _ (omega arith) (same _ _ _ _ (entry_near _ _ _ _ c.requires.bounds.0 c.requires.bounds.1 c.loop-i-test.true c.requires.bounds.2) c.found.ensures) c.in_err-found.was ∙ c.loop-i.invariant tests same)

pub returns : goal.returns
returns g c = λ tests same. entries_done _ _ _ _ _ _ _ (omega arith) ∙ c.loop-i.invariant tests same
