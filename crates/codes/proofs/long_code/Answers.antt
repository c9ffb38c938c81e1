use Rattle.codes.proofs.Laws.{long_is}
use Rattle.codes.proofs.long_code.Goals as goal

pub returns : goal.returns
returns c = let a = c.args in long_is a.s.now a.at a.n c.pack.ensures.value c.pack-2.ensures.value
