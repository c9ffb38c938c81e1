-- Steps 1 to 3 of a message: texts that touch no batch, and used references (broken parts: DaysBroken). Administrator 5 has PROP, 7 has CARD.
use mathlib.Core.Path.{◌≡◌, refl}
use mathlib.Core.List.{List, [], ◌∷◌, ◌++◌}
use Rattle.chars.specs.Words.{bytes}
use Rattle.book_write.specs.Closing.{book_bytes}
use Rattle.model.specs.declared.Action.TheVariants.{Opening, Message, Tick}
use Rattle.model.specs.Calls.{Call}
use Rattle.model.proofs.Stories.{asked, says, stream, flagged, request, recall_of, begins_at, alone, pays, dr, cr, reply132, line, quiet, plays}

abbrev opens : Call
opens = asked 9 0 0 Opening (book_bytes 9895 (stream "CARD" 7 ∷ stream "PROP" 5 ∷ []) (flagged "AAAA" 6 10000 0 ∷ flagged "BBBB" 6 0 0 ∷ []))

-- S1 is the first of two messages. Until S2 comes nothing touches its batch: a stranger with the used reference 73, a stream that is not in the book
-- 87 before 73 and 74, the used reference from another administrator 74, or in a recall; another sub type 88, a text that ends before its BIN 87
abbrev no_batch_touched_calls : List Call
no_batch_touched_calls =
    opens
    ∷ says 10 0 0 (request "S1" "PROP0001" "01/02" (alone (dr "AAAA" "1," "AAA ")))
    ∷ asked 10 0 1 (Message 7) (request "S1" "PROP0001" "02/02" (alone (cr "BBBB" "1,")))
    ∷ asked 10 0 2 (Message 7) (request "S2" "PROP0001" "02/02" (alone (cr "BBBB" "1,")))
    ∷ asked 10 0 3 (Message 6) (request "S1" "NOPE0001" "01/01" (pays "AAAA" "BBBB" "1," "AAA "))
    ∷ asked 10 0 4 (Message 7) (request "S1" "CARD0001" "01/01" (pays "AAAA" "BBBB" "1," "AAA "))
    ∷ says 10 0 5 (recall_of "S1" "PROP0001")
    ∷ says 10 0 6 (bytes ":20:S2\r\n:12:132\r\n:77E:\r\n:22A:PROP\r\n:119:PROP0001\r\n")
    ∷ says 10 0 7 (bytes ":20:S2\r\n:12:131\r\n:77E:\r\n:22A:PROP\r\n")
    ∷ says 10 0 8 (request "S2" "PROP0001" "02/02" (alone (cr "BBBB" "1,")))
    ∷ []

pub no_batch_touched : plays no_batch_touched_calls
    ≡ quiet 0 (10000 ∷ 0 ∷ [])
    ∷ quiet 0 (10000 ∷ 0 ∷ [])
    ∷ quiet 73 (10000 ∷ 0 ∷ [])
    ∷ quiet 73 (10000 ∷ 0 ∷ [])
    ∷ quiet 87 (10000 ∷ 0 ∷ [])
    ∷ quiet 74 (10000 ∷ 0 ∷ [])
    ∷ quiet 74 (10000 ∷ 0 ∷ [])
    ∷ quiet 88 (10000 ∷ 0 ∷ [])
    ∷ quiet 87 (10000 ∷ 0 ∷ [])
    ∷ line 0 (reply132 "1" "S1" "PROP0001" "0\r\n:13E:270203100008" ++ reply132 "2" "S2" "PROP0001" "0\r\n:13E:270203100008") (1 ∷ []) (9900 ∷ 100 ∷ [])
    ∷ []
unfolding plays
no_batch_touched = refl

-- ---- "For a 131 whose BIN is being assembled, that batch is rejected with 74": the message itself has no text, as its reference is not noted again. A
-- pending batch stays; 74 comes before the 87 of a BIN that is not being assembled

abbrev used_references_calls : List Call
used_references_calls =
    opens
    ∷ says 10 0 0 (request "S1" "PROP0001" "02/03" (alone (dr "AAAA" "1," "AAA ")))
    ∷ says 10 0 1 (request "S2" "PROP0001" "01/03" (alone (cr "BBBB" "1,")))
    ∷ says 10 0 2 (request "S1" "PROP0001" "03/03" (alone (cr "BBBB" "1,")))
    ∷ says 10 0 3 (request "S1" "PROP0001" "03/03" (alone (cr "BBBB" "1,")))
    ∷ says 10 0 4 (request "S4" "PROP0002" "01/01" (begins_at "1100" (pays "AAAA" "BBBB" "1," "AAA ")))
    ∷ says 10 0 5 (request "S4" "PROP0002" "01/01" (begins_at "1100" (pays "AAAA" "BBBB" "1," "AAA ")))
    ∷ says 10 0 6 (request "S5" "PROP0002" "01/01" (begins_at "1100" (pays "AAAA" "BBBB" "1," "AAA ")))
    ∷ asked 11 0 0 Tick []
    ∷ []

pub used_references : plays used_references_calls
    ≡ quiet 0 (10000 ∷ 0 ∷ [])
    ∷ quiet 0 (10000 ∷ 0 ∷ [])
    ∷ quiet 0 (10000 ∷ 0 ∷ [])
    ∷ line 74 (reply132 "1" "S1" "PROP0001" "1\r\n:432:74" ++ reply132 "2" "S2" "PROP0001" "1\r\n:432:74") [] (10000 ∷ 0 ∷ [])
    ∷ quiet 74 (10000 ∷ 0 ∷ [])
    ∷ quiet 0 (10000 ∷ 0 ∷ [])
    ∷ quiet 74 (10000 ∷ 0 ∷ [])
    ∷ line 87 (reply132 "3" "S5" "PROP0002" "1\r\n:432:87") [] (10000 ∷ 0 ∷ [])
    ∷ line 0 (reply132 "4" "S4" "PROP0002" "0\r\n:13E:270203110000") (1 ∷ []) (9900 ∷ 100 ∷ [])
    ∷ []
unfolding plays
used_references = refl
