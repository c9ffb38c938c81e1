use native.Mathlib.Omega.{arith}
use mathlib.Core.Path.{refl}
use Rattle.cli_request.specs.Account.{payments_at}
use Rattle.cli_request.proofs.Laws.{going_end, going_cut, going_on, full_end, full_cut, full_more}
use Rattle.cli_request.proofs.read_payments.Goals as goal

pub loop-n-init : goal.loop-n-init
unfolding payments_at
loop-n-init c = record { room = omega arith; size = refl; same = refl }

pub returns-then-s-here : goal.returns-then-s-here
returns-then-s-here c = search going_end

pub returns-in-None : goal.returns-in-None
returns-in-None c = search going_cut

pub loop-n-preserved : goal.loop-n-preserved
loop-n-preserved c = search going_on

pub returns-then-s-here-2 : goal.returns-then-s-here-2
returns-then-s-here-2 c = search full_end

pub returns-in-None-read_payment : goal.returns-in-None-read_payment
returns-in-None-read_payment c = search full_cut

pub returns-in-Some-read_payment : goal.returns-in-Some-read_payment
returns-in-Some-read_payment c = search full_more
