use Rattle.c_engine.proofs.Banks.{load_start, load_turn, load_end}
use Prim.Native.Nat.{◌-◌}
use borrow.Author.Rules.{rules}
use Rattle.c_engine.proofs.load.Goals as goal

pub loop-i-init : goal.loop-i-init
loop-i-init c = search (rules, load_start)

pub loop-i-preserved : goal.loop-i-preserved
loop-i-preserved c = search (rules, load_turn)

pub returns : goal.returns
returns c = search (rules, load_end)
