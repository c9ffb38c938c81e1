use mathlib.Core.Path.{◌≡◌}
use Rattle.model.specs.Messages.{stream_place}
use Rattle.call_plan.specs.rules.Steps.{streams_house}
use Rattle.call_plan.proofs.rules.PlaceLaws.{streams_from}
use Rattle.call_plan.proofs.rules.places.stream_place.Given as goal

abbrev pub invariant-loop-i : goal.invariant-loop-i
invariant-loop-i l = (stream_place (streams_house l.streams l.n) l.code ≡ streams_from l.code l.streams l.n l.i)
