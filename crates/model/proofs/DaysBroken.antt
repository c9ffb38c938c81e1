-- Ticket 1: parts that are broken, and whether they end their batch. Administrator 5 has PROP, 7 has CARD.
use Prim.Native.Nat.{ℕ}
use Prim.Native.String.{String}
use mathlib.Core.Path.{◌≡◌, refl}
use mathlib.Core.List.{List, [], ◌∷◌, ◌++◌}
use Rattle.chars.specs.Words.{bytes}
use Rattle.book_write.specs.Closing.{book_bytes}
use Rattle.model.specs.declared.Action.TheVariants.{Opening, Message}
use Rattle.model.specs.Calls.{Call}
use Rattle.model.proofs.Stories.{asked, says, stream, flagged, request, recall_of, begins_at, alone, pays, dr, cr, reply132, Line, line, quiet, plays}

abbrev opens : Call
opens = asked 9 0 0 Opening (book_bytes 9895 (stream "CARD" 7 ∷ stream "PROP" 5 ∷ []) (flagged "AAAA" 6 10000 0 ∷ flagged "BBBB" 6 0 0 ∷ []))

-- the first of two messages, and a second one that is right
abbrev first : (reference bin : String) → List ℕ
first reference bin = request reference bin "01/02" (alone (dr "AAAA" "1," "AAA "))

abbrev second : (reference bin : String) → List ℕ
second reference bin = request reference bin "02/02" (alone (cr "BBBB" "1,"))

-- a second message with these letters, and one whose lines after 119 are these
abbrev lettered : (reference bin letters : String) → List ℕ
lettered reference bin letters = request reference bin "02/02" (alone (dr "BBBB" "1," letters))

abbrev part : (bin lines : String) → List ℕ
part bin lines = bytes ":20:S9\r\n:12:131\r\n:77E:\r\n:22A:PROP\r\n:119:" ++ (bytes bin ++ (bytes "\r\n" ++ bytes lines))

-- nothing has settled
abbrev idle : ℕ → Line
idle n = quiet n (10000 ∷ 0 ∷ [])

-- the one message of a batch is answered with the number
abbrev ends : ℕ → (text reference bin end : String) → Line
ends n text reference bin end = line n (reply132 text reference bin end) [] (10000 ∷ 0 ∷ [])

-- "the batch ends with the same code": wrong letters 80, 81, 81, 87; three letters 87; a wrong number 87. The BIN stays remembered, so the mended part is
-- refused alone
abbrev values_calls : List Call
values_calls =
    opens
    ∷ says 10 0 0 (first "S1" "PROP0001")
    ∷ says 10 0 1 (lettered "S9" "PROP0001" "XXX1")
    ∷ says 10 0 2 (first "S2" "PROP0002")
    ∷ says 10 0 3 (lettered "S9" "PROP0002" "AXX1")
    ∷ says 10 0 4 (first "S3" "PROP0003")
    ∷ says 10 0 5 (lettered "S9" "PROP0003" "AAX1")
    ∷ says 10 0 6 (first "S4" "PROP0004")
    ∷ says 10 0 7 (lettered "S9" "PROP0004" "AAA1")
    ∷ says 10 0 8 (first "S5" "PROP0005")
    ∷ says 10 0 9 (lettered "S9" "PROP0005" "XAA")
    ∷ says 10 0 10 (first "S6" "PROP0006")
    ∷ says 10 0 11 (request "S9" "PROP0006" "02/01" (alone (cr "BBBB" "1,")))
    ∷ says 10 0 12 (second "S9" "PROP0001")
    ∷ []

pub values : plays values_calls
    ≡ idle 0
    ∷ idle 0
    ∷ ends 80 "1" "S1" "PROP0001" "1\r\n:432:80"
    ∷ idle 0
    ∷ ends 81 "2" "S2" "PROP0002" "1\r\n:432:81"
    ∷ idle 0
    ∷ ends 81 "3" "S3" "PROP0003" "1\r\n:432:81"
    ∷ idle 0
    ∷ ends 87 "4" "S4" "PROP0004" "1\r\n:432:87"
    ∷ idle 0
    ∷ ends 87 "5" "S5" "PROP0005" "1\r\n:432:87"
    ∷ idle 0
    ∷ ends 87 "6" "S6" "PROP0006" "1\r\n:432:87"
    ∷ ends 87 "7" "S9" "PROP0001" "1\r\n:432:87"
    ∷ []
unfolding plays
values = refl

-- a part that is broken is not noted: a used reference in it is not looked at (80 and not 74), and a new one stays free. The noted messages are answered in
-- the order in which they came
abbrev references_calls : List Call
references_calls =
    opens
    ∷ says 10 0 0 (request "S1" "PROP0001" "02/03" (alone (dr "AAAA" "1," "AAA ")))
    ∷ says 10 0 1 (request "S2" "PROP0001" "01/03" (alone (cr "BBBB" "1,")))
    ∷ says 10 0 2 (lettered "S1" "PROP0001" "XAA ")
    ∷ says 10 0 3 (first "S3" "PROP0002")
    ∷ says 10 0 4 (lettered "S4" "PROP0002" "XAA ")
    ∷ says 10 0 5 (first "S4" "PROP0003")
    ∷ says 10 0 6 (second "S5" "PROP0003")
    ∷ []

pub references : plays references_calls
    ≡ idle 0
    ∷ idle 0
    ∷ idle 0
    ∷ line 80 (reply132 "1" "S1" "PROP0001" "1\r\n:432:80" ++ reply132 "2" "S2" "PROP0001" "1\r\n:432:80") [] (10000 ∷ 0 ∷ [])
    ∷ idle 0
    ∷ ends 80 "3" "S3" "PROP0002" "1\r\n:432:80"
    ∷ idle 0
    ∷ line 0 (reply132 "4" "S4" "PROP0003" "0\r\n:13E:270203100006" ++ reply132 "5" "S5" "PROP0003" "0\r\n:13E:270203100006") (1 ∷ []) (9900 ∷ 100 ∷ [])
    ∷ []
unfolding plays
references = refl

-- "save 113 after CR": it ends the batch where a credit's 102 is due, whatever stands in it; between 127 and 32B, and after 102, it is a tag not expected
-- there. So are bytes after 203, and the same text once more
abbrev tags_calls : List Call
tags_calls =
    opens
    ∷ says 10 0 0 (first "S1" "PROP0001")
    ∷ says 10 0 1 (part "PROP0001" ":16A:02/02\r\n:171:270203\r\n:127:CR\r\n:32B:AUD1,\r\n:113:AAA \r\n:102:BBBB\r\n:203:1\r\n")
    ∷ says 10 0 2 (first "S2" "PROP0002")
    ∷ says 10 0 3 (part "PROP0002" ":16A:02/02\r\n:171:270203\r\n:127:CR\r\n:32B:AUD1,\r\n:113:")
    ∷ says 10 0 4 (first "S3" "PROP0003")
    ∷ says 10 0 5 (part "PROP0003" ":16A:02/02\r\n:171:270203\r\n:127:CR\r\n:113:AAA \r\n:32B:AUD1,\r\n:102:BBBB\r\n:203:1\r\n")
    ∷ says 10 0 6 (part "PROP0003" ":16A:02/02\r\n:171:270203\r\n:127:CR\r\n:32B:AUD1,\r\n:102:BBBB\r\n:113:AAA \r\n:203:1\r\n")
    ∷ says 10 0 7 (part "PROP0003" ":171:270203\r\n:16A:02/02\r\n:127:CR\r\n:32B:AUD1,\r\n:102:BBBB\r\n:203:1\r\n")
    ∷ says 10 0 8 (second "S4" "PROP0003" ++ bytes "X")
    ∷ says 10 0 9 (second "S4" "PROP0003" ++ second "S4" "PROP0003")
    ∷ says 10 0 10 (second "S4" "PROP0003")
    ∷ []

pub tags : plays tags_calls
    ≡ idle 0
    ∷ idle 0
    ∷ ends 87 "1" "S1" "PROP0001" "1\r\n:432:87"
    ∷ idle 0
    ∷ ends 87 "2" "S2" "PROP0002" "1\r\n:432:87"
    ∷ idle 0
    ∷ idle 87
    ∷ idle 87
    ∷ idle 87
    ∷ idle 87
    ∷ idle 87
    ∷ line 0 (reply132 "3" "S3" "PROP0003" "0\r\n:13E:270203100010" ++ reply132 "4" "S4" "PROP0003" "0\r\n:13E:270203100010") (1 ∷ []) (9900 ∷ 100 ∷ [])
    ∷ []
unfolding plays
tags = refl

-- "the text's end where a tag should stand": cut after any line after 119, or within a tag, a part touches no batch; nor does one that leaves a line out
abbrev cuts_calls : List Call
cuts_calls =
    opens
    ∷ says 10 0 0 (first "S1" "PROP0001")
    ∷ says 10 0 1 (part "PROP0001" "")
    ∷ says 10 0 2 (part "PROP0001" ":16A")
    ∷ says 10 0 3 (part "PROP0001" ":16A:02/02\r\n")
    ∷ says 10 0 4 (part "PROP0001" ":16A:02/02\r\n:171:270203\r\n")
    ∷ says 10 0 5 (part "PROP0001" ":16A:02/02\r\n:171:270203\r\n:175:1200\r\n")
    ∷ says 10 0 6 (part "PROP0001" ":16A:02/02\r\n:171:270203\r\n:127:DR\r\n")
    ∷ says 10 0 7 (part "PROP0001" ":16A:02/02\r\n:171:270203\r\n:127:DR\r\n:32B:AUD1,\r\n")
    ∷ says 10 0 8 (part "PROP0001" ":16A:02/02\r\n:171:270203\r\n:127:DR\r\n:32B:AUD1,\r\n:102:BBBB\r\n:203:1\r\n")
    ∷ says 10 0 9 (part "PROP0001" ":16A:02/02\r\n:171:270203\r\n:127:DR\r\n:32B:AUD1,\r\n:113:AAA \r\n")
    ∷ says 10 0 10 (part "PROP0001" ":16A:02/02\r\n:171:270203\r\n:127:DR\r\n:32B:AUD1,\r\n:113:AAA \r\n:102:BBBB\r\n")
    ∷ says 10 0 11 (second "S2" "PROP0001")
    ∷ []

pub cuts : plays cuts_calls
    ≡ idle 0
    ∷ idle 0
    ∷ idle 87
    ∷ idle 87
    ∷ idle 87
    ∷ idle 87
    ∷ idle 87
    ∷ idle 87
    ∷ idle 87
    ∷ idle 87
    ∷ idle 87
    ∷ idle 87
    ∷ line 0 (reply132 "1" "S1" "PROP0001" "0\r\n:13E:270203100011" ++ reply132 "2" "S2" "PROP0001" "0\r\n:13E:270203100011") (1 ∷ []) (9900 ∷ 100 ∷ [])
    ∷ []
unfolding plays
cuts = refl

-- a line that has its tag and is cut before its CR LF has a wrong value, as an empty one has
abbrev lines_calls : List Call
lines_calls =
    opens
    ∷ says 10 0 0 (first "S1" "PROP0001")
    ∷ says 10 0 1 (part "PROP0001" ":16A:")
    ∷ says 10 0 2 (first "S2" "PROP0002")
    ∷ says 10 0 3 (part "PROP0002" ":16A:02/02\r\n:171:270203")
    ∷ says 10 0 4 (first "S3" "PROP0003")
    ∷ says 10 0 5 (part "PROP0003" ":16A:02/02\r\n:171:270203\r\n:127:CR\r\n:32B:AUD1,\r\n:102:BBBB\r\n:203:1\r")
    ∷ says 10 0 6 (first "S4" "PROP0004")
    ∷ says 10 0 7 (part "PROP0004" ":16A:02/02\r\n:171:\r\n")
    ∷ []

pub lines : plays lines_calls
    ≡ idle 0
    ∷ idle 0
    ∷ ends 87 "1" "S1" "PROP0001" "1\r\n:432:87"
    ∷ idle 0
    ∷ ends 87 "2" "S2" "PROP0002" "1\r\n:432:87"
    ∷ idle 0
    ∷ ends 87 "3" "S3" "PROP0003" "1\r\n:432:87"
    ∷ idle 0
    ∷ ends 87 "4" "S4" "PROP0004" "1\r\n:432:87"
    ∷ []
unfolding plays
lines = refl

-- the answer is step 1's number always, and these touch no batch: a broken part from a stranger, one of a stream that is not in the book, one whose BIN is
-- wrong or not being assembled, a recall with surplus, a part in which a missing field comes before a wrong letter
abbrev strangers_calls : List Call
strangers_calls =
    opens
    ∷ says 10 0 0 (first "S1" "PROP0001")
    ∷ asked 10 0 1 (Message 7) (lettered "S2" "PROP0001" "XAA ")
    ∷ asked 10 0 2 (Message 0) (lettered "S2" "PROP0001" "AXA ")
    ∷ says 10 0 3 (lettered "S2" "NOPE0001" "XAA ")
    ∷ says 10 0 4 (lettered "S2" "PROP001" "XAA ")
    ∷ says 10 0 5 (lettered "S2" "PROP0002" "XAA ")
    ∷ says 10 0 6 (recall_of "S2" "PROP0001" ++ bytes ":16A:")
    ∷ says 10 0 7 (part "PROP0001" ":16A:02/02\r\n:127:DR\r\n:32B:AUD1,\r\n:113:XAA \r\n")
    ∷ says 10 0 8 (second "S2" "PROP0001")
    ∷ []

pub strangers : plays strangers_calls
    ≡ idle 0
    ∷ idle 0
    ∷ idle 80
    ∷ idle 81
    ∷ idle 80
    ∷ idle 87
    ∷ idle 80
    ∷ idle 87
    ∷ idle 87
    ∷ line 0 (reply132 "1" "S1" "PROP0001" "0\r\n:13E:270203100008" ++ reply132 "2" "S2" "PROP0001" "0\r\n:13E:270203100008") (1 ∷ []) (9900 ∷ 100 ∷ [])
    ∷ []
unfolding plays
strangers = refl

-- a pending and a queued batch stay. The texts of the batch that ends stand before those of the queue test
abbrev waiting_calls : List Call
waiting_calls =
    opens
    ∷ says 10 0 0 (request "P1" "PROP0001" "01/01" (begins_at "1100" (pays "AAAA" "BBBB" "1," "AAA ")))
    ∷ says 10 0 1 (request "Q1" "PROP0002" "01/01" (pays "BBBB" "AAAA" "1," "AAA "))
    ∷ says 10 0 2 (first "S1" "PROP0003")
    ∷ says 10 0 3 (lettered "S9" "PROP0001" "XAA ")
    ∷ says 10 0 4 (lettered "S9" "PROP0002" "XAA ")
    ∷ says 11 0 0 (lettered "S9" "PROP0003" "XAA ")
    ∷ []

pub waiting : plays waiting_calls
    ≡ idle 0
    ∷ idle 0
    ∷ line 0 [] (2 ∷ []) (10000 ∷ 0 ∷ [])
    ∷ idle 0
    ∷ idle 80
    ∷ idle 80
    ∷ line 80 (reply132 "1" "S1" "PROP0003" "1\r\n:432:80"
    ++ (reply132 "2" "P1" "PROP0001" "0\r\n:13E:270203110000" ++ reply132 "3" "Q1" "PROP0002" "0\r\n:13E:270203110000")) (1 ∷ 3 ∷ []) (10000 ∷ 0 ∷ [])
    ∷ []
unfolding plays
waiting = refl
