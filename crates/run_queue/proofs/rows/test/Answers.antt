use borrow.Author.Tests.{not-false}
use Rattle.run_queue.proofs.RuleLaws.{most_fits}
use borrow.Author.Rules.{rules}
use Rattle.run_queue.proofs.rows.test.Goals as goal

pub run-requires : goal.run-requires
run-requires c = record { books = record { b_long = search rules; l_long = search rules; bounded = c.total_fits.ensures (not-false _ c.if-not-total_fits.false-raw) }; all_good = c.all_good.ensures (not-false _ c.if-not-all_good.false-raw); memory_len = (search rules, search rules, search (rules, most_fits)) }
