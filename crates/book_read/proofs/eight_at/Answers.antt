use Rattle.std.proofs.Common.{arith}
use Rattle.book_read.proofs.Leaves.{eight_is}
use Rattle.book_read.proofs.eight_at.Goals as goal

pub returns : goal.returns
returns c = omega (arith, c.from_le_bytes.ensures, eight_is c.args.s.now c.args.at)
