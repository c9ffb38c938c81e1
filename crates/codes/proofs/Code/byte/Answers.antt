use native.Mathlib.Omega.{arith}
use Rattle.codes.proofs.Laws.{spelled_high, spelled_low}
use Rattle.codes.proofs.Code.byte.Goals as goal

pub returns-then-i-lt-HALF : goal.returns-then-i-lt-HALF
returns-then-i-lt-HALF c = let a = c.args in spelled_high a.self a.i (omega arith) c.byte_of.ensures

pub returns : goal.returns
returns c = let a = c.args in spelled_low a.self a.i (omega arith) c.byte_of-2.ensures
