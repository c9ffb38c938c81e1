-- Recalls: of a queued batch, of one that has ended, is unknown or is being assembled.
use mathlib.Core.Path.{◌≡◌, refl}
use mathlib.Core.List.{List, [], ◌∷◌, ◌++◌}
use Rattle.model.specs.declared.Action.TheVariants.{Opening, Message}
use Rattle.model.specs.Calls.{Call}
use Rattle.model.proofs.Stories.{asked, says, bank, book, request, recall_of, alone, dr, cr, reply132, reply134, line, quiet, plays}

-- "a batch's in arrival order, a 134 before the batch it recalls": the messages came 03, 01, 02. "else its 134 carries 02", and its reference is noted
abbrev recalls_calls : List Call
recalls_calls =
    asked 9 0 0 Opening (book 9895 (bank "AAAA" 10000 0 ∷ bank "BBBB" 0 0 ∷ bank "CCCC" 0 0 ∷ []))
    ∷ says 10 0 0 (request "C3" "PROP0001" "03/03" (alone (cr "BBBB" "500,")))
    ∷ says 10 0 1 (request "C1" "PROP0001" "01/03" (alone (dr "AAAA" "300," "AAA ")))
    ∷ says 10 0 2 (request "C2" "PROP0001" "02/03" (alone (dr "CCCC" "200," "AAA ")))
    ∷ says 10 0 3 (recall_of "C4" "PROP0001")
    ∷ says 10 0 4 (recall_of "C5" "PROP0001")
    ∷ says 10 0 5 (recall_of "C5" "PROP0001")
    ∷ says 10 0 6 (recall_of "C6" "PROP0009")
    ∷ says 10 0 7 (request "C7" "PROP0002" "01/02" (alone (dr "AAAA" "1," "AAA ")))
    ∷ says 10 0 8 (recall_of "C8" "PROP0002")
    ∷ asked 10 0 9 (Message 6) (recall_of "C9" "PROP0002")
    ∷ says 10 0 10 (request "C9" "PROP0002" "02/02" (alone (cr "BBBB" "1,")))
    ∷ []

pub recalls : plays recalls_calls
    ≡ quiet 0 (10000 ∷ 0 ∷ [])
    ∷ quiet 0 (10000 ∷ 0 ∷ [])
    ∷ quiet 0 (10000 ∷ 0 ∷ [])
    ∷ line 0 [] (0 ∷ []) (10000 ∷ 0 ∷ [])
    ∷ line 0 (reply134 "1" "C4" "0" ++ (reply132 "2" "C3" "PROP0001" "1\r\n:432:03"
    ++ (reply132 "3" "C1" "PROP0001" "1\r\n:432:03" ++ reply132 "4" "C2" "PROP0001" "1\r\n:432:03"))) [] (10000 ∷ 0 ∷ [])
    ∷ line 2 (reply134 "5" "C5" "1\r\n:432:02") [] (10000 ∷ 0 ∷ [])
    ∷ quiet 74 (10000 ∷ 0 ∷ [])
    ∷ line 2 (reply134 "6" "C6" "1\r\n:432:02") [] (10000 ∷ 0 ∷ [])
    ∷ quiet 0 (10000 ∷ 0 ∷ [])
    ∷ line 2 (reply134 "7" "C8" "1\r\n:432:02") [] (10000 ∷ 0 ∷ [])
    ∷ quiet 73 (10000 ∷ 0 ∷ [])
    ∷ line 0 (reply132 "8" "C7" "PROP0002" "0\r\n:13E:270203100010" ++ reply132 "9" "C9" "PROP0002" "0\r\n:13E:270203100010") (1 ∷ []) (9900 ∷ 100 ∷ [])
    ∷ []
unfolding plays
recalls = refl
