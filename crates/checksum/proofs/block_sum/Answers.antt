use Rattle.std.proofs.Common.{◌≡◌, ◌+◌, ◌-◌, ◌*◌, arith, refl}
use Rattle.checksum.proofs.Laws.{going_start, going_on, going_done, sum_short}
use Rattle.checksum.proofs.block_sum.Goals as goal

pub returns-then-s : goal.returns-then-s
returns-then-s c = sum_short c.args.s.now c.args.at (omega arith)

pub loop-i-init : goal.loop-i-init
loop-i-init c = (going_start c.args.s.now c.args.at (omega arith), omega arith)

pub loop-i-preserved : goal.loop-i-preserved
loop-i-preserved c =
    let l = c.loop-i in
    let a = c.args in
    let z : 127 - (l.i + 1) ≡ 127 - l.i - 1 = omega arith in
    let y : a.at + 4 * (l.i + 1) ≡ a.at + 4 * l.i + 4 = omega arith in
    (rw (z, y) (going_on l.invariant.0 (omega arith) c.word-sum.ensures refl), l.invariant.1)

pub returns : goal.returns
returns c = going_done c.loop-i.invariant.0 (omega arith) c.loop-i.invariant.1
