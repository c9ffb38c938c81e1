use borrow.Author.Rules.{rules}
use Rattle.tables_sheet.proofs.Filling.{filling_start, filling_addable, filling_turn, filling_done}
use Rattle.tables_sheet.proofs.fill.Goals as goal

pub loop-place-init : goal.loop-place-init
loop-place-init c = search filling_start

pub add_place-requires : goal.add_place-requires
add_place-requires c = record { ruled = search rules; place_bound = search rules; addable = search filling_addable }

pub loop-place-preserved : goal.loop-place-preserved
loop-place-preserved c = search filling_turn

pub returns : goal.returns
returns c = search filling_done
