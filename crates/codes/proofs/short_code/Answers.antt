use native.Mathlib.Omega.{arith}
use Rattle.codes.proofs.Laws.{short_is}
use Rattle.codes.proofs.short_code.Goals as goal

pub returns : goal.returns
returns c = let a = c.args in record { value = short_is a.s.now a.at c.pack.ensures.value; small = omega arith }
