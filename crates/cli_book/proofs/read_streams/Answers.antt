use Rattle.cli_book.proofs.Laws.{serving_stop, serving_on, serving_done}
use Rattle.cli_book.specs.Account.{streams_at}
use mathlib.Core.Path.{refl}
use native.Mathlib.Omega.{arith}
use Rattle.cli_book.proofs.read_streams.Goals as goal

pub loop-n-init : goal.loop-n-init
unfolding streams_at
loop-n-init c = record { room = omega arith; size = refl; same = refl }

pub returns-in-None : goal.returns-in-None
returns-in-None c = search serving_stop

pub loop-n-preserved : goal.loop-n-preserved
loop-n-preserved c = search serving_on

pub returns : goal.returns
returns c = search serving_done
