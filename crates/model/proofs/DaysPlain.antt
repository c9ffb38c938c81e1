-- Plain calls between quick ones: a plain try neither sets nor clears what the quick test remembers, a credit or a change in a plain call clears it.
use mathlib.Core.Path.{◌≡◌, refl}
use mathlib.Core.List.{List, [], ◌∷◌}
use Rattle.model.specs.declared.Action.TheVariants.{Opening, Tick}
use Rattle.model.specs.Calls.{Call}
use Rattle.model.proofs.Stories.{asked, says, plainly, bank, book, request, pays, reply132, line, quiet, plays}
use Rattle.model.proofs.DaysChanges.{status}
use Rattle.model.proofs.DaysLetters.{A}

abbrev between_calls : List Call
between_calls =
    asked 9 0 0 Opening (book 9895 (bank "AAAA" 0 0 ∷ bank "BBBB" 1000 0 ∷ []))
    ∷ says 10 0 0 (request "K1" "PROP0001" "01/01" (pays "AAAA" "BBBB" "50," "AAA "))
    ∷ asked 10 0 1 Tick []
    ∷ plainly (says 10 0 2 (request "K2" "PROP0002" "01/01" (pays "BBBB" "AAAA" "1," "AAA ")))
    ∷ asked 10 0 3 Tick []
    ∷ asked 10 0 4 Tick []
    ∷ plainly (asked 10 0 5 (status "AAAA" "PROP0001" A) [])
    ∷ asked 10 0 6 Tick []
    ∷ plainly (asked 10 0 7 Tick [])
    ∷ asked 10 0 8 Tick []
    ∷ []

pub between : plays between_calls
    ≡ quiet 0 (0 ∷ 1000 ∷ [])
    ∷ line 0 [] (0 ∷ []) (0 ∷ 1000 ∷ [])
    ∷ quiet 0 (0 ∷ 1000 ∷ [])
    ∷ line 0 (reply132 "1" "K2" "PROP0002" "0\r\n:13E:270203100002") (0 ∷ 3 ∷ 0 ∷ []) (100 ∷ 900 ∷ [])
    ∷ line 0 [] (0 ∷ []) (100 ∷ 900 ∷ [])
    ∷ quiet 0 (100 ∷ 900 ∷ [])
    ∷ line 0 [] (0 ∷ []) (100 ∷ 900 ∷ [])
    ∷ line 0 [] (0 ∷ []) (100 ∷ 900 ∷ [])
    ∷ line 0 [] (0 ∷ []) (100 ∷ 900 ∷ [])
    ∷ quiet 0 (100 ∷ 900 ∷ [])
    ∷ []
unfolding plays
between = refl
