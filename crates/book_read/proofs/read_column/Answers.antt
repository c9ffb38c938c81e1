use native.Mathlib.Omega.{arith}
use Prim.Native.Nat.{ℕ}
use mathlib.Core.Path.{◌∙◌, ap}
use Rattle.book_read.specs.Accounts.{bank_at, field_of}
use Rattle.book_read.proofs.Filling.{filling_start, filling_on, filling_done}
use Rattle.book_read.proofs.read_column.Goals as goal

pub loop-i-init : goal.loop-i-init
loop-i-init c = filling_start _ _ _

pub bounds-out-i : goal.bounds-out-i
bounds-out-i c = omega (arith, c.loop-i.invariant.size)

pub loop-i-preserved : goal.loop-i-preserved
loop-i-preserved c = filling_on c.loop-i.invariant (omega arith) (c.field_at.ensures ∙ ap (λ (k : ℕ). field_of c.args.field (bank_at c.args.s.now k)) c.bank_place.ensures.value)

pub shape_of-out : goal.shape_of-out
shape_of-out c = c.loop-i.invariant.size

pub returns : goal.returns
returns c = filling_done c.loop-i.invariant (omega arith)
