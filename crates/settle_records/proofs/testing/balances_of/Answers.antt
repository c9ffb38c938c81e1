use Rattle.settle_records.proofs.TestingLaws.{copy_start, copy_turn, copy_end}
use borrow.Author.Rules.{rules}
use Rattle.settle_records.proofs.testing.balances_of.Goals as goal

pub loop-i-init : goal.loop-i-init
loop-i-init c = search (rules, copy_start)

pub loop-i-preserved : goal.loop-i-preserved
loop-i-preserved c = search (rules, copy_turn)

pub returns : goal.returns
returns c = search (rules, copy_end)
