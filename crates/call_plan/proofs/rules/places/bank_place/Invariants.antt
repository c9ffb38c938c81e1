use mathlib.Core.Path.{◌≡◌}
use mathlib.Core.List.{[]}
use lib.Dec.{eqb}
use lib.ListN.{take, drop}
use Rattle.model.specs.State.{seek_from}
use Rattle.model.specs.Messages.{bank_place}
use Rattle.call_plan.specs.rules.Steps.{banks_house}
use Rattle.call_plan.proofs.rules.places.bank_place.Given as goal

abbrev pub invariant-loop-i : goal.invariant-loop-i
invariant-loop-i l = (bank_place (banks_house l.banks l.codes []) l.code ≡ seek_from (eqb l.code) l.i (drop l.i (take l.banks l.codes)))
