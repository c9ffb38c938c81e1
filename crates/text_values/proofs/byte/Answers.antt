use native.Mathlib.Omega.{arith}
use lib.ListN.{get_or-eq_default}
use mathlib.Core.Path.{sym}
use Rattle.text_values.proofs.byte.Goals as goal

pub returns-else-off-s : goal.returns-else-off-s
returns-else-off-s c = sym (get_or-eq_default c.args.s.now 0 (omega arith))

pub returns-else-at-s : goal.returns-else-at-s
returns-else-at-s c = sym (get_or-eq_default c.args.s.now 0 (omega arith))
