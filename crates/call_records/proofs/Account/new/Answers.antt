use mathlib.Core.Bool.{and-false}
use borrow.Author.Tests.{lt-leb}
use Rattle.call_records.proofs.Laws.{new_held, new_beyond}
use Rattle.call_records.proofs.Account.new.Goals as goal

pub returns-then-code-gt-LAST_CODE : goal.returns-then-code-gt-LAST_CODE
returns-then-code-gt-LAST_CODE c = simp (lt-leb _ _ c.if-code-gt-LAST_CODE.true)

pub returns-then-flags-gt-LAST_FLAGS : goal.returns-then-flags-gt-LAST_FLAGS
returns-then-flags-gt-LAST_FLAGS c = simp (lt-leb _ _ c.if-flags-gt-LAST_FLAGS.true, and-false)
