use Rattle.cli_book.proofs.Laws.{holding_stop, holding_on, holding_done}
use Rattle.cli_book.specs.Account.{banks_at}
use mathlib.Core.Path.{refl}
use native.Mathlib.Omega.{arith}
use Rattle.cli_book.proofs.read_banks.Goals as goal

pub loop-n-init : goal.loop-n-init
unfolding banks_at
loop-n-init c = record { room = omega arith; codes_size = refl; flags_size = refl; balances_size = refl; sublimits_size = refl; same = refl }

pub returns-in-None : goal.returns-in-None
returns-in-None c = search holding_stop

pub loop-n-preserved : goal.loop-n-preserved
loop-n-preserved c = search holding_on

pub returns : goal.returns
returns c = search holding_done
