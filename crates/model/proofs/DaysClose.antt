-- The close, the closing book, openings that are refused, and the wrong moments and short buffers.
use Prim.Native.Nat.{ℕ}
use mathlib.Core.Path.{◌≡◌, refl}
use mathlib.Core.List.{List, [], ◌∷◌, ◌++◌}
use lib.ListN.{take, set}
use Rattle.book_write.specs.Closing.{book_bytes}
use Rattle.model.specs.declared.Action.TheVariants.{Opening, SubLimit, Tick, Close, ClosingBook}
use Rattle.model.specs.Calls.{Call}
use Rattle.model.proofs.Stories.{asked, says, lending, code, bank, stream, flagged, book, request, recall_of, begins_at, alone, pays, dr, reply132, reply134, line, quiet, plays}

-- ---- "ends each live batch with 86 by arrival of its first message"

-- PROP0003 is being assembled at place 0, PROP0002 is queued at 2, PROP0005 is being assembled at 3, PROP0006 came last and is pending at place 1, where
-- PROP0001 was before its recall. The closing book has the sub-limits as they stand
abbrev close_by_arrival_calls : List Call
close_by_arrival_calls =
    asked 9 0 0 Opening (book 9895 (bank "AAAA" 10000 0 ∷ bank "BBBB" 0 0 ∷ []))
    ∷ says 10 0 0 (request "E1" "PROP0003" "01/02" (alone (dr "AAAA" "1," "AAA ")))
    ∷ says 10 0 1 (request "E2" "PROP0001" "01/01" (begins_at "1800" (pays "AAAA" "BBBB" "1," "AAA ")))
    ∷ says 10 0 2 (request "E3" "PROP0002" "01/01" (pays "BBBB" "AAAA" "500," "AAA "))
    ∷ says 10 0 3 (request "E4" "PROP0004" "01/01" (pays "AAAA" "BBBB" "1," "AAA "))
    ∷ says 10 0 4 (request "E5" "PROP0005" "01/02" (alone (dr "AAAA" "1," "AAA ")))
    ∷ says 10 0 5 (recall_of "E6" "PROP0001")
    ∷ says 10 0 6 (request "E7" "PROP0006" "01/01" (begins_at "1800" (pays "AAAA" "BBBB" "1," "AAA ")))
    ∷ asked 10 0 7 (SubLimit (code "AAAA") 700) []
    ∷ asked 17 0 0 Close []
    ∷ asked 17 0 1 Close []
    ∷ asked 17 0 1 Tick []
    ∷ asked 17 0 1 (ClosingBook 270203) []
    ∷ asked 17 0 1 (ClosingBook 270229) []
    ∷ lending 0 0 (asked 17 0 1 (ClosingBook 270203) [])
    ∷ lending 1023 528 (asked 17 0 1 (ClosingBook 270204) [])
    ∷ lending 1024 527 (asked 17 0 1 (ClosingBook 270204) [])
    ∷ lending 1024 528 (asked 17 0 1 (ClosingBook 270204) [])
    ∷ asked 17 0 0 (ClosingBook 270204) []
    ∷ []

pub close_by_arrival : plays close_by_arrival_calls
    ≡ quiet 0 (10000 ∷ 0 ∷ [])
    ∷ quiet 0 (10000 ∷ 0 ∷ [])
    ∷ quiet 0 (10000 ∷ 0 ∷ [])
    ∷ line 0 [] (4 ∷ []) (10000 ∷ 0 ∷ [])
    ∷ line 0 (reply132 "1" "E4" "PROP0004" "0\r\n:13E:270203100003") (7 ∷ 4 ∷ []) (9900 ∷ 100 ∷ [])
    ∷ quiet 0 (9900 ∷ 100 ∷ [])
    ∷ line 0 (reply134 "2" "E6" "0" ++ reply132 "3" "E2" "PROP0001" "1\r\n:432:03") [] (9900 ∷ 100 ∷ [])
    ∷ quiet 0 (9900 ∷ 100 ∷ [])
    ∷ quiet 0 (9900 ∷ 100 ∷ [])
    ∷ line 0 (reply132 "4" "E1" "PROP0003" "1\r\n:432:86" ++ (reply132 "5" "E3" "PROP0002" "1\r\n:432:86"
    ++ (reply132 "6" "E5" "PROP0005" "1\r\n:432:86" ++ reply132 "7" "E7" "PROP0006" "1\r\n:432:86"))) [] (9900 ∷ 100 ∷ [])
    ∷ quiet 5 (9900 ∷ 100 ∷ [])
    ∷ quiet 5 (9900 ∷ 100 ∷ [])
    ∷ quiet 5 (9900 ∷ 100 ∷ [])
    ∷ quiet 5 (9900 ∷ 100 ∷ [])
    ∷ quiet 5 (9900 ∷ 100 ∷ [])
    ∷ quiet 7 (9900 ∷ 100 ∷ [])
    ∷ quiet 7 (9900 ∷ 100 ∷ [])
    ∷ line 0 (book 9896 (bank "AAAA" 9900 700 ∷ bank "BBBB" 100 0 ∷ [])) [] (9900 ∷ 100 ∷ [])
    ∷ quiet 5 (9900 ∷ 100 ∷ [])
    ∷ []
unfolding plays
close_by_arrival = refl

-- "The close runs (a), (b), (d)" first: a batch whose minute has come joins and settles in it
abbrev close_settles_calls : List Call
close_settles_calls =
    asked 9 0 0 Opening (book 9895 (bank "AAAA" 10000 0 ∷ bank "BBBB" 0 0 ∷ []))
    ∷ says 10 0 0 (request "E1" "PROP0001" "01/02" (alone (dr "AAAA" "1," "AAA ")))
    ∷ says 10 0 1 (request "E2" "PROP0002" "01/01" (begins_at "1700" (pays "AAAA" "BBBB" "1," "AAA ")))
    ∷ says 10 0 2 (request "E3" "PROP0003" "01/01" (begins_at "1701" (pays "AAAA" "BBBB" "1," "AAA ")))
    ∷ asked 17 0 59 Close []
    ∷ []

pub close_settles : plays close_settles_calls
    ≡ quiet 0 (10000 ∷ 0 ∷ [])
    ∷ quiet 0 (10000 ∷ 0 ∷ [])
    ∷ quiet 0 (10000 ∷ 0 ∷ [])
    ∷ quiet 0 (10000 ∷ 0 ∷ [])
    ∷ line 0 (reply132 "1" "E2" "PROP0002" "0\r\n:13E:270203170059" ++ (reply132 "2" "E1" "PROP0001" "1\r\n:432:86"
    ++ reply132 "3" "E3" "PROP0003" "1\r\n:432:86")) (3 ∷ []) (9900 ∷ 100 ∷ [])
    ∷ []
unfolding plays
close_settles = refl

-- ---- 05 and 07

abbrev opens : ℕ → Call
opens day = asked 9 0 0 Opening (book day (bank "AAAA" 10000 0 ∷ bank "BBBB" 0 0 ∷ []))

abbrev pay : Call
pay = says 9 0 1 (request "F1" "PROP0001" "01/01" (pays "AAAA" "BBBB" "1," "AAA "))

-- on a fresh start; on an open day, 05 before 07, and a call refused with 07 can be made again
abbrev moments_calls : List Call
moments_calls =
    asked 9 0 0 Tick []
    ∷ asked 9 0 0 Close []
    ∷ asked 9 0 0 (ClosingBook 270203) []
    ∷ asked 24 0 0 Opening (book 9895 (bank "AAAA" 10000 0 ∷ []))
    ∷ lending 33704 528 (opens 9895)
    ∷ lending 33705 527 (opens 9895)
    ∷ opens 9895
    ∷ opens 9896
    ∷ asked 9 0 0 (ClosingBook 270204) []
    ∷ asked 8 59 59 Tick []
    ∷ lending 0 0 (asked 8 59 59 Tick [])
    ∷ asked 24 0 0 Tick []
    ∷ lending 33704 528 (asked 9 0 0 Tick [])
    ∷ asked 9 0 0 Tick []
    ∷ lending 33704 528 pay
    ∷ lending 33705 527 pay
    ∷ pay
    ∷ asked 23 59 59 Close []
    ∷ []

pub moments : plays moments_calls
    ≡ quiet 5 (0 ∷ 0 ∷ [])
    ∷ quiet 5 (0 ∷ 0 ∷ [])
    ∷ quiet 5 (0 ∷ 0 ∷ [])
    ∷ quiet 5 (0 ∷ 0 ∷ [])
    ∷ quiet 7 (0 ∷ 0 ∷ [])
    ∷ quiet 7 (0 ∷ 0 ∷ [])
    ∷ quiet 0 (10000 ∷ 0 ∷ [])
    ∷ quiet 5 (10000 ∷ 0 ∷ [])
    ∷ quiet 5 (10000 ∷ 0 ∷ [])
    ∷ quiet 5 (10000 ∷ 0 ∷ [])
    ∷ quiet 5 (10000 ∷ 0 ∷ [])
    ∷ quiet 5 (10000 ∷ 0 ∷ [])
    ∷ quiet 7 (10000 ∷ 0 ∷ [])
    ∷ quiet 0 (10000 ∷ 0 ∷ [])
    ∷ quiet 7 (10000 ∷ 0 ∷ [])
    ∷ quiet 7 (10000 ∷ 0 ∷ [])
    ∷ line 0 (reply132 "1" "F1" "PROP0001" "0\r\n:13E:270203090001") (1 ∷ []) (9900 ∷ 100 ∷ [])
    ∷ quiet 0 (9900 ∷ 100 ∷ [])
    ∷ []
unfolding plays
moments = refl

-- ---- openings: 07, 11 to 15, and the date after 15; a book that is refused leaves the day and its balances

abbrev again : List ℕ → Call
again b = asked 8 0 0 Opening b

abbrev rich : (balance more : ℕ) → List ℕ
rich balance more = book 9895 (bank "AAAA" balance 0 ∷ bank "BBBB" more 0 ∷ [])

abbrev openings_calls : List Call
openings_calls =
    opens 9895
    ∷ asked 17 0 0 Close []
    ∷ again (take 1023 (rich 0 0))
    ∷ again (set (rich 0 0) 100 1)
    ∷ again (book 36525 (bank "AAAA" 0 0 ∷ []))
    ∷ again (rich 6400000000000001 0)
    ∷ again (rich 6400000000000000 1)
    ∷ again (rich 6400000000000000 0)
    ∷ lending 33704 528 (again (rich 6400000000000000 0))
    ∷ lending 33704 528 (again (take 1023 (rich 0 0)))
    ∷ again (book 9896 (bank "AAAA" 6400000000000000 6400000000000000 ∷ []))
    ∷ asked 8 0 0 Tick []
    ∷ []

pub openings : plays openings_calls
    ≡ quiet 0 (10000 ∷ 0 ∷ [])
    ∷ quiet 0 (10000 ∷ 0 ∷ [])
    ∷ quiet 11 (10000 ∷ 0 ∷ [])
    ∷ quiet 12 (10000 ∷ 0 ∷ [])
    ∷ quiet 13 (10000 ∷ 0 ∷ [])
    ∷ quiet 14 (10000 ∷ 0 ∷ [])
    ∷ quiet 15 (10000 ∷ 0 ∷ [])
    ∷ quiet 5 (10000 ∷ 0 ∷ [])
    ∷ quiet 7 (10000 ∷ 0 ∷ [])
    ∷ quiet 7 (10000 ∷ 0 ∷ [])
    ∷ quiet 0 (6400000000000000 ∷ 0 ∷ [])
    ∷ quiet 0 (6400000000000000 ∷ 0 ∷ [])
    ∷ []
unfolding plays
openings = refl

-- "A closing book carries the date given", and streams, flags, balances and sub-limits as they stand
abbrev house_book : ℕ → List ℕ
house_book day = book_bytes day (stream "CARD" 7 ∷ stream "PROP" 5 ∷ [])
    (flagged "AAAA" 6 10000 1 ∷ flagged "BBBB" 2 0 2 ∷ flagged "CCCC" 5 7 3 ∷ flagged "DDDD" 0 8 4 ∷ [])

pub closing_book : plays (asked 9 0 0 Opening (house_book 9895) ∷ asked 17 0 0 Close [] ∷ asked 18 0 0 (ClosingBook 991231) [] ∷ [])
    ≡ quiet 0 (10000 ∷ 0 ∷ []) ∷ quiet 0 (10000 ∷ 0 ∷ []) ∷ line 0 (house_book 36524) [] (10000 ∷ 0 ∷ []) ∷ []
unfolding plays
closing_book = refl
