use Rattle.tables_sheet.proofs.Places.{place_idle, place_readable, place_addable, place_added}
use Rattle.tables_sheet.proofs.add_place.Goals as goal

pub returns-then-batches-a-lt-PENDING : goal.returns-then-batches-a-lt-PENDING
returns-then-batches-a-lt-PENDING c = search place_idle

pub add_row-requires : goal.add_row-requires
add_row-requires c = record { readable = search place_readable; addable = search place_addable }

pub returns : goal.returns
returns c = search place_added
