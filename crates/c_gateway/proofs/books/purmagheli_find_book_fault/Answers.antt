use Rattle.c_gateway.proofs.Laws.{short_row, long_row}
use Rattle.c_gateway.specs.Faults.{finding_number, finding_words, fault_number, fault_row}
use Rattle.c_gateway.proofs.books.purmagheli_find_book_fault.Goals as goal

pub returns-then-row-lt-FAULT_WORDS : goal.returns-then-row-lt-FAULT_WORDS
unfolding fault_number fault_row
returns-then-row-lt-FAULT_WORDS c = short_row 3 _ c.args.row.now _ c.if-row-lt-FAULT_WORDS.true c.number.ensures

pub returns : goal.returns
unfolding fault_number fault_row
returns c = long_row finding_number finding_words 3 c.args.row.now c.if-row-lt-FAULT_WORDS.false c.find.ensures c.put_finding.ensures
