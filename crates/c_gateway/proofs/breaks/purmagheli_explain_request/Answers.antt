use Rattle.c_gateway.specs.Breaks.{report_words, explained_number, explained_row}
use Rattle.c_gateway.specs.declared.Report.{Report}
use Rattle.c_gateway.proofs.Laws.{short_row, long_row}
use Rattle.c_gateway.proofs.breaks.purmagheli_explain_request.Goals as goal

pub returns-then-row-lt-EXPLAIN_WORDS : goal.returns-then-row-lt-EXPLAIN_WORDS
unfolding explained_number explained_row
returns-then-row-lt-EXPLAIN_WORDS c = short_row 6 _ c.args.row.now _ c.if-row-lt-EXPLAIN_WORDS.true c.number.ensures

pub returns : goal.returns
unfolding explained_number explained_row
returns c = long_row (λ (x : Report). x.number) report_words 6 c.args.row.now c.if-row-lt-EXPLAIN_WORDS.false c.request_report.ensures c.put_report.ensures
