use Rattle.book_read.proofs.Accepted.{accepted, streams_most, banks_most}
use Rattle.book_read.proofs.Filling.{room, fill_is}
use Rattle.book_read.proofs.fill.Goals as goal

pub bank_count-banks-requires : goal.bank_count-banks-requires
bank_count-banks-requires c = ((accepted _ c.requires.book_value).few, (accepted _ c.requires.book_value).many)

pub read_streams-requires : goal.read_streams-requires
read_streams-requires c = (rw c.entries-n.ensures.value (streams_most (accepted _ c.requires.book_value)), (room _ _ _ _ _ c.requires.sublimits_value).for_streams)

pub read_column-requires : goal.read_column-requires
read_column-requires c = (rw c.bank_count-banks.ensures.value (banks_most (accepted _ c.requires.book_value)), (room _ _ _ _ _ c.requires.sublimits_value).for_codes)

pub read_column-requires-2 : goal.read_column-requires-2
read_column-requires-2 c = (rw c.bank_count-banks.ensures.value (banks_most (accepted _ c.requires.book_value)), (room _ _ _ _ _ c.requires.sublimits_value).for_flags)

pub read_column-requires-3 : goal.read_column-requires-3
read_column-requires-3 c = (rw c.bank_count-banks.ensures.value (banks_most (accepted _ c.requires.book_value)), (room _ _ _ _ _ c.requires.sublimits_value).for_balances)

pub read_column-requires-4 : goal.read_column-requires-4
read_column-requires-4 c = (rw c.bank_count-banks.ensures.value (banks_most (accepted _ c.requires.book_value)), (room _ _ _ _ _ c.requires.sublimits_value).for_sublimits)

pub returns : goal.returns
returns c = fill_is _ _ _ _ _ _ c.entries-n.ensures.value c.bank_count-banks.ensures.value c.read_streams.ensures c.read_column.ensures c.read_column-2.ensures c.read_column-3.ensures c.read_column-4.ensures c.day_in.ensures
