-- Receivers are judged as payers are, and each message of a batch is. PROP is the third stream of the book; AAAA and DDDD are in it, BBBB is in it and
-- suspended, CCCC is in the first two.
use mathlib.Core.Path.{◌≡◌, refl}
use mathlib.Core.List.{List, [], ◌∷◌, ◌++◌}
use Rattle.chars.specs.Words.{bytes}
use Rattle.book_write.specs.Closing.{book_bytes}
use Rattle.model.specs.declared.Action.TheVariants.{Opening}
use Rattle.model.specs.Calls.{Call}
use Rattle.model.proofs.Stories.{asked, says, stream, flagged, dated, request, alone, pays, dr, cr, reply132, line, quiet, plays}

-- a suspended receiver 77, one that is not in the stream 76; the date of a second message 78; a bank that stands there already before an unknown one
-- behind it 87
abbrev receivers_calls : List Call
receivers_calls =
    asked 9 0 0 Opening (book_bytes 9895 (stream "AAAS" 4 ∷ stream "BBBS" 6 ∷ stream "PROP" 5 ∷ [])
    (flagged "AAAA" 8 10000 0 ∷ flagged "BBBB" 9 0 0 ∷ flagged "CCCC" 6 0 0 ∷ flagged "DDDD" 8 0 0 ∷ []))
    ∷ says 10 0 0 (request "W1" "PROP0001" "01/01" (pays "AAAA" "DDDD" "1," "AAA "))
    ∷ says 10 0 1 (request "W2" "PROP0002" "01/01" (pays "AAAA" "BBBB" "1," "AAA "))
    ∷ says 10 0 2 (request "W3" "PROP0003" "01/01" (pays "AAAA" "CCCC" "1," "AAA "))
    ∷ says 10 0 3 (request "W4" "PROP0004" "01/02" (alone (dr "AAAA" "1," "AAA ")))
    ∷ says 10 0 4 (dated "W5" "PROP0004" "02/02" "270202" (alone (cr "DDDD" "1,")))
    ∷ says 10 0 5 (request "W6" "PROP0005" "01/01" (dr "AAAA" "1," "AAA " ++ (cr "AAAA" "1," ++ (cr "ZZZZ" "1," ++ bytes ":203:3\r\n"))))
    ∷ []

pub receivers : plays receivers_calls
    ≡ quiet 0 (10000 ∷ 0 ∷ [])
    ∷ line 0 (reply132 "1" "W1" "PROP0001" "0\r\n:13E:270203100000") (1 ∷ []) (9900 ∷ 0 ∷ [])
    ∷ line 77 (reply132 "2" "W2" "PROP0002" "1\r\n:432:77") [] (9900 ∷ 0 ∷ [])
    ∷ line 76 (reply132 "3" "W3" "PROP0003" "1\r\n:432:76") [] (9900 ∷ 0 ∷ [])
    ∷ quiet 0 (9900 ∷ 0 ∷ [])
    ∷ line 78 (reply132 "4" "W4" "PROP0004" "1\r\n:432:78" ++ reply132 "5" "W5" "PROP0004" "1\r\n:432:78") [] (9900 ∷ 0 ∷ [])
    ∷ line 87 (reply132 "6" "W6" "PROP0005" "1\r\n:432:87") [] (9900 ∷ 0 ∷ [])
    ∷ []
unfolding plays
receivers = refl
