use Rattle.call_day.proofs.Laws.{book_bytes_lem, book_length}
use borrow.Author.Rules.{rules}
use Rattle.call_day.proofs.give_book.Goals as goal

pub returns : goal.returns
returns c = (search (rules, book_bytes_lem), search (rules, book_length))
