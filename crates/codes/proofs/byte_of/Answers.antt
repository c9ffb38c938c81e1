use native.Mathlib.Omega.{arith}
use Rattle.codes.proofs.Laws.{unpack_past, unpack_shift}
use Rattle.codes.proofs.byte_of.Goals as goal

pub returns-then-w-i : goal.returns-then-w-i
returns-then-w-i c = let a = c.args in unpack_past a.w a.v a.i (omega arith)

pub returns : goal.returns
returns c = let a = c.args in unpack_shift a.w a.v a.i (omega arith)
