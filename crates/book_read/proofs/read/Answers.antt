use Rattle.std.proofs.lemmas.Result.{err_from_is_err_and}
use mathlib.Core.Path.{sym, ◌∙◌}
use borrow.Author.Tests.{not-false}
use Rattle.book_read.proofs.Filling.{read_short, read_fault, read_held}
use Rattle.book_read.proofs.read.Goals as goal

pub returns-then-not-rows_fit : goal.returns-then-not-rows_fit
returns-then-not-rows_fit c = read_short _ _ _ _ _ _ c.rows_fit.ensures c.if-not-rows_fit.true-raw

pub returns-in_err-check : goal.returns-in_err-check
returns-in_err-check c = let p = err_from_is_err_and c.from_residual.result c.from_residual.ensures.1 in rw (p.1, p.2) (read_fault _ _ _ _ _ _ c.rows_fit.ensures c.if-not-rows_fit.false-raw c.check.ensures c.in_err-check.was)

pub fill-requires : goal.fill-requires
fill-requires c = record { book_value = sym c.check.ensures ∙ c.in_ok-check.was; sublimits_value = sym c.rows_fit.ensures ∙ not-false _ c.if-not-rows_fit.false-raw }

pub returns : goal.returns
returns c = read_held _ _ _ _ _ _ c.rows_fit.ensures c.if-not-rows_fit.false-raw c.check.ensures c.in_ok-check.was c.fill.ensures
