use Rattle.c_engine.proofs.Desks.{phase_fresh, phase_open, phase_closed}
use borrow.Author.Rules.{rules}
use Rattle.c_engine.proofs.phase_of.Goals as goal

pub returns-then-word-eq-PHASE_FRESH : goal.returns-then-word-eq-PHASE_FRESH
returns-then-word-eq-PHASE_FRESH c = search (rules, phase_fresh)

pub returns-then-word-eq-PHASE_OPEN : goal.returns-then-word-eq-PHASE_OPEN
returns-then-word-eq-PHASE_OPEN c = search (rules, phase_open)

pub returns : goal.returns
returns c = search (rules, phase_closed)
