use borrow.Author.Tests.{eq-eqb, ne_eqb}
use Rattle.c_engine.specs.Lending.{action_by}
use Rattle.c_engine.proofs.action_of.Goals as goal

pub returns-then-number-eq-ACTION_OPENING : goal.returns-then-number-eq-ACTION_OPENING
unfolding action_by
returns-then-number-eq-ACTION_OPENING c = rw (eq-eqb _ 0 c.if-number-eq-ACTION_OPENING.true)

pub returns-then-number-eq-ACTION_MESSAGE : goal.returns-then-number-eq-ACTION_MESSAGE
unfolding action_by
returns-then-number-eq-ACTION_MESSAGE c = rw (ne_eqb _ 0 c.if-number-eq-ACTION_OPENING.false, eq-eqb _ 1 c.if-number-eq-ACTION_MESSAGE.true)

pub returns-then-number-eq-ACTION_SUBLIMIT : goal.returns-then-number-eq-ACTION_SUBLIMIT
unfolding action_by
returns-then-number-eq-ACTION_SUBLIMIT c = rw (ne_eqb _ 0 c.if-number-eq-ACTION_OPENING.false, ne_eqb _ 1 c.if-number-eq-ACTION_MESSAGE.false, eq-eqb _ 2 c.if-number-eq-ACTION_SUBLIMIT.true)

pub returns-then-number-eq-ACTION_STATUS : goal.returns-then-number-eq-ACTION_STATUS
unfolding action_by
returns-then-number-eq-ACTION_STATUS c = rw (ne_eqb _ 0 c.if-number-eq-ACTION_OPENING.false, ne_eqb _ 1 c.if-number-eq-ACTION_MESSAGE.false, ne_eqb _ 2 c.if-number-eq-ACTION_SUBLIMIT.false, eq-eqb _ 3 c.if-number-eq-ACTION_STATUS.true)

pub returns-then-number-eq-ACTION_TICK : goal.returns-then-number-eq-ACTION_TICK
unfolding action_by
returns-then-number-eq-ACTION_TICK c = rw (ne_eqb _ 0 c.if-number-eq-ACTION_OPENING.false, ne_eqb _ 1 c.if-number-eq-ACTION_MESSAGE.false, ne_eqb _ 2 c.if-number-eq-ACTION_SUBLIMIT.false, ne_eqb _ 3 c.if-number-eq-ACTION_STATUS.false, eq-eqb _ 4 c.if-number-eq-ACTION_TICK.true)

pub returns-then-number-eq-ACTION_CLOSE : goal.returns-then-number-eq-ACTION_CLOSE
unfolding action_by
returns-then-number-eq-ACTION_CLOSE c = rw (ne_eqb _ 0 c.if-number-eq-ACTION_OPENING.false, ne_eqb _ 1 c.if-number-eq-ACTION_MESSAGE.false, ne_eqb _ 2 c.if-number-eq-ACTION_SUBLIMIT.false, ne_eqb _ 3 c.if-number-eq-ACTION_STATUS.false, ne_eqb _ 4 c.if-number-eq-ACTION_TICK.false, eq-eqb _ 5 c.if-number-eq-ACTION_CLOSE.true)

pub returns-then-number-eq-ACTION_CLOSING_BOOK : goal.returns-then-number-eq-ACTION_CLOSING_BOOK
unfolding action_by
returns-then-number-eq-ACTION_CLOSING_BOOK c = rw (ne_eqb _ 0 c.if-number-eq-ACTION_OPENING.false, ne_eqb _ 1 c.if-number-eq-ACTION_MESSAGE.false, ne_eqb _ 2 c.if-number-eq-ACTION_SUBLIMIT.false, ne_eqb _ 3 c.if-number-eq-ACTION_STATUS.false, ne_eqb _ 4 c.if-number-eq-ACTION_TICK.false, ne_eqb _ 5 c.if-number-eq-ACTION_CLOSE.false, eq-eqb _ 6 c.if-number-eq-ACTION_CLOSING_BOOK.true)

pub returns : goal.returns
unfolding action_by
returns c = rw (ne_eqb _ 0 c.if-number-eq-ACTION_OPENING.false, ne_eqb _ 1 c.if-number-eq-ACTION_MESSAGE.false, ne_eqb _ 2 c.if-number-eq-ACTION_SUBLIMIT.false, ne_eqb _ 3 c.if-number-eq-ACTION_STATUS.false, ne_eqb _ 4 c.if-number-eq-ACTION_TICK.false, ne_eqb _ 5 c.if-number-eq-ACTION_CLOSE.false, ne_eqb _ 6 c.if-number-eq-ACTION_CLOSING_BOOK.false)
