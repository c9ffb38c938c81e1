use Rattle.call_change.proofs.StatusLaws.{all_counted, wrong_letter_lem, unknown_bank, no_debit, letterable, changes}
use Rattle.std.proofs.lemmas.Result.{err_from_is_err_and}
use Rattle.call_plan.proofs.rules.Asked.{some_of, none_of}
use borrow.Author.Rules.{rules}
use Rattle.call_change.proofs.status.Goals as goal

-- src/lib.rt:62:9
pub returns-then-not-is_esa : goal.returns-then-not-is_esa
returns-then-not-is_esa c = wrong_letter_lem _ _ _ _ _ _ _ _ _ _ c.requires c.is_esa.result c.is_esa.ensures _ c.if-not-is_esa.true-raw

-- src/lib.rt:60:17
pub returns-in_err-payer : goal.returns-in_err-payer
returns-in_err-payer c =
    let p = err_from_is_err_and c.from_residual.result c.from_residual.ensures.1 in
    let n = none_of c.bank_place.result _ c.ok_or.ensures.value c.in_err-payer.was in
    rw (p.1, p.2, n.1) (unknown_bank _ _ _ _ _ _ _ _ _ _ c.requires c.is_esa.result c.is_esa.ensures c.if-not-is_esa.false-raw c.bank_place.result c.bank_place.ensures _ n.0)

-- src/lib.rt:68:9
pub waiting_debit-debit-requires : goal.waiting_debit-debit-requires
waiting_debit-debit-requires c = (c.requires.0, all_counted _ _ _ _ _ _ c.requires.0 c.requires.1)

-- src/lib.rt:62:17
pub returns-in_err-place : goal.returns-in_err-place
returns-in_err-place c =
    let p = err_from_is_err_and c.from_residual-in_err-place.result c.from_residual-in_err-place.ensures.1 in
    let n = none_of c.waiting_debit-debit.result _ c.ok_or-2.ensures.value c.in_err-place.was in
    rw (p.1, p.2, n.1)
    (no_debit _ _ _ _ _ _ _ _ _ _ c.requires c.is_esa.result c.is_esa.ensures c.if-not-is_esa.false-raw c.bank_place.result c.bank_place.ensures _ (some_of c.bank_place.result _ c.ok_or.ensures.value c.in_ok-payer.was) c.waiting_debit-debit.result c.waiting_debit-debit.ensures _ n.0)

-- src/lib.rt:72:5
pub reletter_at-requires : goal.reletter_at-requires
reletter_at-requires c = letterable _ _ _ _ _ _ _ _ _ _ c.requires c.is_esa.result c.is_esa.ensures c.if-not-is_esa.false-raw c.bank_place.result c.bank_place.ensures _ (some_of c.bank_place.result _ c.ok_or.ensures.value c.in_ok-payer.was) c.waiting_debit-debit.result c.waiting_debit-debit.ensures _ (some_of c.waiting_debit-debit.result _ c.ok_or-2.ensures.value c.in_ok-place.was)

-- src/lib.rt:45:1
pub returns : goal.returns
returns c = changes _ _ _ _ _ _ _ _ _ _ c.requires c.is_esa.result c.is_esa.ensures c.if-not-is_esa.false-raw c.bank_place.result c.bank_place.ensures _ (some_of c.bank_place.result _ c.ok_or.ensures.value c.in_ok-payer.was) c.waiting_debit-debit.result c.waiting_debit-debit.ensures _ (some_of c.waiting_debit-debit.result _ c.ok_or-2.ensures.value c.in_ok-place.was) _ _ (search rules) c.reletter_at.ensures _ c.wake_batch.ensures
