use native.Mathlib.Omega.{arith}
use Rattle.call_change.proofs.SublimitLaws.{bank_inside, sublimit_unknown, sublimit_out, sublimit_set}
use Rattle.std.proofs.lemmas.Result.{err_from_is_err_and}
use Rattle.call_plan.proofs.rules.Asked.{some_of, none_of}
use borrow.Author.Rules.{rules}
use Rattle.call_change.proofs.sub_limit.Goals as goal

-- src/lib.rt:30:16
pub returns-in_err-bank : goal.returns-in_err-bank
returns-in_err-bank c =
    let p = err_from_is_err_and c.from_residual.result c.from_residual.ensures.1 in
    let n = none_of c.bank_place.result _ c.ok_or.ensures.value c.in_err-bank.was in
    rw (p.1, p.2, n.1) (sublimit_unknown _ _ _ c.bank_place.result c.bank_place.ensures _ _ _ n.0)

-- src/lib.rt:36:9
pub returns-then-cents-gt-RICHEST : goal.returns-then-cents-gt-RICHEST
returns-then-cents-gt-RICHEST c = sublimit_out _ _ _ c.bank_place.result c.bank_place.ensures _ _ _ _ (some_of c.bank_place.result _ c.ok_or.ensures.value c.in_ok-bank.was) c.if-cents-gt-RICHEST.true

-- src/lib.rt:38:5
pub offset_bounds-sublimits-bank : goal.offset_bounds-sublimits-bank
offset_bounds-sublimits-bank c = omega (arith, bank_inside _ _ _ c.bank_place.result c.bank_place.ensures _ (some_of c.bank_place.result _ c.ok_or.ensures.value c.in_ok-bank.was))

-- src/lib.rt:38:5
pub bounds-sublimits-bank : goal.bounds-sublimits-bank
bounds-sublimits-bank c = omega (arith, bank_inside _ _ _ c.bank_place.result c.bank_place.ensures _ (some_of c.bank_place.result _ c.ok_or.ensures.value c.in_ok-bank.was))

-- src/lib.rt:20:1
pub returns : goal.returns
returns c = sublimit_set _ _ _ c.bank_place.result c.bank_place.ensures _ _ _ _ (some_of c.bank_place.result _ c.ok_or.ensures.value c.in_ok-bank.was) (search rules) _ c.wake_bank.ensures
