use Rattle.settle.proofs.Laws.{left_all, left_next, left_none}
use Rattle.tables.specs.Rows.{word}
use Rattle.tables_sheet.proofs.Adding.{adding_start, adding_done, adding_bank, adding_scaled, adding_room, adding_credit, adding_debit}
use Rattle.tables_sheet.proofs.add_row.Goals as goal
use Rattle.tables_sheet.proofs.add_row.Goals.{then-row-at-ne0, else-row-at-ne0}

pub loop-i-init : goal.loop-i-init
loop-i-init c =
    let t = c.args.row.now in
    rw (left_all t 49 (word t 8)) (adding_start _ _ c.requires.readable c.requires.addable)

pub offset_bounds-sheet-bank : goal.offset_bounds-sheet-bank
offset_bounds-sheet-bank c =
    let t = c.args.row.now in
    let next = left_next t 49 (word t 8) c.loop-i.i c.loop-i-test.true in
    adding_scaled _ _ _ _ c.loop-i.invariant _ _ next

pub bounds-sheet-bank : goal.bounds-sheet-bank
bounds-sheet-bank c =
    let t = c.args.row.now in
    let next = left_next t 49 (word t 8) c.loop-i.i c.loop-i-test.true in
    adding_bank _ _ _ _ c.loop-i.invariant _ _ next c.requires.addable

pub overflow_add-sheet-then-row-at-ne0 : goal.overflow_add-sheet-then-row-at-ne0
overflow_add-sheet-then-row-at-ne0 c =
    let t = c.args.row.now in
    let next = left_next t 49 (word t 8) c.loop-i.i c.loop-i-test.true in
    adding_room _ _ _ _ c.loop-i.invariant _ _ next c.if-row-at-ne0.true c.requires.addable

pub offset_bounds-sheet-bank-then-row-at-ne0 : goal.offset_bounds-sheet-bank-then-row-at-ne0
offset_bounds-sheet-bank-then-row-at-ne0 c =
    let t = c.args.row.now in
    let next = left_next t 49 (word t 8) c.loop-i.i c.loop-i-test.true in
    adding_scaled _ _ _ _ c.loop-i.invariant _ _ next

pub bounds-sheet-bank-then-row-at-ne0 : goal.bounds-sheet-bank-then-row-at-ne0
bounds-sheet-bank-then-row-at-ne0 c =
    let t = c.args.row.now in
    let next = left_next t 49 (word t 8) c.loop-i.i c.loop-i-test.true in
    adding_bank _ _ _ _ c.loop-i.invariant _ _ next c.requires.addable

pub loop-i-preserved : goal.loop-i-preserved
loop-i-preserved c =
    let t = c.args.row.now in
    let next = left_next t 49 (word t 8) c.loop-i.i c.loop-i-test.true in
    let inv = c.loop-i.invariant in
    elim c.if-row-at-ne0.branch [
      | then-row-at-ne0 w ↦ adding_debit _ _ _ _ inv _ _ next w.if-row-at-ne0.true c.requires.addable _ w.sheet-is
      | else-row-at-ne0 w ↦ adding_credit _ _ _ _ inv _ _ next w.if-row-at-ne0.false _ w.sheet-is
    ]

pub returns : goal.returns
returns c = let t = c.args.row.now in adding_done _ _ _ _ c.loop-i.invariant (left_none t 49 (word t 8) c.loop-i.i c.loop-i-test.false)
