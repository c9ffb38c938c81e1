use borrow.Author.Rules.{rules}
use native.Mathlib.Omega.{arith}
use Rattle.run_queue.proofs.RuleLaws.{no, total_turn, total_done}
use Rattle.run_queue.proofs.rules.total_fits.Goals as goal

pub loop-balance-init : goal.loop-balance-init
loop-balance-init c = (search rules, omega arith)

pub returns-then-total-balance : goal.returns-then-total-balance
returns-then-total-balance c = λ e. no e

pub loop-balance-preserved : goal.loop-balance-preserved
loop-balance-preserved c = (search rules, search (rules, total_turn))

pub returns : goal.returns
returns c = λ e. search (rules, total_done)
