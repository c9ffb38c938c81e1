-- The first and the last second of a day.
use mathlib.Core.Path.{◌≡◌, refl}
use mathlib.Core.List.{List, [], ◌∷◌}
use Rattle.book_read.specs.Accounts.{Bank}
use Rattle.model.specs.declared.Action.TheVariants.{Opening, Tick, Close, ClosingBook}
use Rattle.model.specs.Calls.{Call}
use Rattle.model.proofs.Stories.{asked, bank, book, line, quiet, plays}

abbrev banks : List Bank
banks = bank "AAAA" 1000 0 ∷ bank "BBBB" 0 0 ∷ []

-- an opening at 0 and one at 86,399; a closing book in the close's own second, and a second one; no second 86,400, and none before the last one
abbrev edges_calls : List Call
edges_calls =
    asked 0 0 0 Opening (book 9895 banks)
    ∷ asked 0 0 0 Tick []
    ∷ asked 23 59 58 Close []
    ∷ asked 23 59 58 (ClosingBook 270204) []
    ∷ asked 23 59 58 (ClosingBook 270205) []
    ∷ asked 23 59 59 Opening (book 9896 banks)
    ∷ asked 23 59 58 Tick []
    ∷ asked 24 0 0 Tick []
    ∷ asked 23 59 59 Tick []
    ∷ []

pub edges : plays edges_calls
    ≡ quiet 0 (1000 ∷ 0 ∷ [])
    ∷ quiet 0 (1000 ∷ 0 ∷ [])
    ∷ quiet 0 (1000 ∷ 0 ∷ [])
    ∷ line 0 (book 9896 banks) [] (1000 ∷ 0 ∷ [])
    ∷ line 0 (book 9897 banks) [] (1000 ∷ 0 ∷ [])
    ∷ quiet 0 (1000 ∷ 0 ∷ [])
    ∷ quiet 5 (1000 ∷ 0 ∷ [])
    ∷ quiet 5 (1000 ∷ 0 ∷ [])
    ∷ quiet 0 (1000 ∷ 0 ∷ [])
    ∷ []
unfolding plays
edges = refl
