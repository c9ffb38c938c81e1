use lib.Dec.{eqb}
use Rattle.tables.proofs.HouseLaws.{Zeroed}
use Rattle.tables.proofs.house.zero.Given as goal

abbrev pub invariant-loop-word : goal.invariant-loop-word
invariant-loop-word l = Zeroed l.row l.word-index (eqb l.any 0)
