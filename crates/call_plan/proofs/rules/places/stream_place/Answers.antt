use borrow.Author.Rules.{rules}
use Rattle.call_plan.proofs.rules.PlaceLaws.{streams_start, stream_here, stream_on, stream_end}
use Rattle.call_plan.proofs.rules.places.stream_place.Goals as goal

-- src/places.rt:32:5
pub loop-i-init : goal.loop-i-init
loop-i-init c = search (rules, streams_start)

-- src/places.rt:34:13
pub returns-then-streams-i : goal.returns-then-streams-i
returns-then-streams-i c = search (rules, stream_here)

-- src/places.rt:32:5
pub loop-i-preserved : goal.loop-i-preserved
loop-i-preserved c = search (rules, stream_on)

-- src/places.rt:27:1
pub returns : goal.returns
returns c = search (rules, stream_end)
