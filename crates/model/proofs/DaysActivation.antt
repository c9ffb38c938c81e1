-- Activations: before the minute, in it, two of one minute, a recall of a pending batch, unlike ones, and joining in a call that is refused.
use Prim.Native.Nat.{ℕ}
use Prim.Native.String.{String}
use mathlib.Core.Path.{◌≡◌, refl}
use mathlib.Core.List.{List, [], ◌∷◌, ◌++◌}
use Rattle.model.specs.declared.Action.TheVariants.{Opening, Message, SubLimit, Status, Tick, Close}
use Rattle.model.specs.Calls.{Call}
use Rattle.model.proofs.Stories.{asked, says, lending, code, long_code, bank, book, request, recall_of, begins_at, alone, pays, dr, cr, reply132, reply134, line, quiet, plays}

abbrev hundred : (reference bin time : String) → List ℕ
hundred reference bin time = request reference bin "01/01" (begins_at time (pays "AAAA" "BBBB" "100," "AAA "))

-- PROP0003 came first, at place 0, and was complete after PROP0004, at place 1: "by activation time and then by completion"
abbrev activations_calls : List Call
activations_calls =
    asked 9 0 0 Opening (book 9895 (bank "AAAA" 100000 0 ∷ bank "BBBB" 0 0 ∷ []))
    ∷ says 9 58 0 (hundred "T1" "PROP0001" "1000")
    ∷ asked 9 59 59 Tick []
    ∷ asked 10 0 0 Tick []
    ∷ says 10 0 30 (hundred "T2" "PROP0002" "1000")
    ∷ says 10 1 0 (request "T3" "PROP0003" "01/02" (begins_at "1030" (alone (dr "AAAA" "100," "AAA "))))
    ∷ says 10 1 1 (hundred "T4" "PROP0004" "1030")
    ∷ says 10 1 2 (request "T5" "PROP0003" "02/02" (begins_at "1030" (alone (cr "BBBB" "100,"))))
    ∷ asked 10 30 0 Tick []
    ∷ says 10 31 0 (hundred "T6" "PROP0005" "1100")
    ∷ says 10 31 1 (recall_of "T7" "PROP0005")
    ∷ asked 17 0 0 Close []
    ∷ []

pub activations : plays activations_calls
    ≡ quiet 0 (100000 ∷ 0 ∷ [])
    ∷ quiet 0 (100000 ∷ 0 ∷ [])
    ∷ quiet 0 (100000 ∷ 0 ∷ [])
    ∷ line 0 (reply132 "1" "T1" "PROP0001" "0\r\n:13E:270203100000") (1 ∷ []) (90000 ∷ 10000 ∷ [])
    ∷ line 0 (reply132 "2" "T2" "PROP0002" "0\r\n:13E:270203100030") (1 ∷ []) (80000 ∷ 20000 ∷ [])
    ∷ quiet 0 (80000 ∷ 20000 ∷ [])
    ∷ quiet 0 (80000 ∷ 20000 ∷ [])
    ∷ quiet 0 (80000 ∷ 20000 ∷ [])
    ∷ line 0 (reply132 "3" "T4" "PROP0004" "0\r\n:13E:270203103000" ++ (reply132 "4" "T3" "PROP0003" "0\r\n:13E:270203103000"
    ++ reply132 "5" "T5" "PROP0003" "0\r\n:13E:270203103000")) (3 ∷ 1 ∷ []) (60000 ∷ 40000 ∷ [])
    ∷ quiet 0 (60000 ∷ 40000 ∷ [])
    ∷ line 0 (reply134 "6" "T7" "0" ++ reply132 "7" "T6" "PROP0005" "1\r\n:432:03") [] (60000 ∷ 40000 ∷ [])
    ∷ quiet 0 (60000 ∷ 40000 ∷ [])
    ∷ []
unfolding plays
activations = refl

-- a line 175 that is missing, there or another in the second message: 87; 2400 and 2360 are no activations, and touch no batch
abbrev unlike_activations_calls : List Call
unlike_activations_calls =
    asked 9 0 0 Opening (book 9895 (bank "AAAA" 100000 0 ∷ bank "BBBB" 0 0 ∷ []))
    ∷ says 10 0 0 (request "T1" "PROP0001" "01/02" (begins_at "1030" (alone (dr "AAAA" "1," "AAA "))))
    ∷ says 10 0 1 (request "T2" "PROP0001" "02/02" (alone (cr "BBBB" "1,")))
    ∷ says 10 0 2 (request "T3" "PROP0002" "01/02" (begins_at "1030" (alone (dr "AAAA" "1," "AAA "))))
    ∷ says 10 0 3 (request "T4" "PROP0002" "02/02" (begins_at "1031" (alone (cr "BBBB" "1,"))))
    ∷ says 10 0 4 (hundred "T5" "PROP0003" "2400")
    ∷ says 10 0 5 (hundred "T5" "PROP0003" "2360")
    ∷ []

pub unlike_activations : plays unlike_activations_calls
    ≡ quiet 0 (100000 ∷ 0 ∷ [])
    ∷ quiet 0 (100000 ∷ 0 ∷ [])
    ∷ line 87 (reply132 "1" "T1" "PROP0001" "1\r\n:432:87" ++ reply132 "2" "T2" "PROP0001" "1\r\n:432:87") [] (100000 ∷ 0 ∷ [])
    ∷ quiet 0 (100000 ∷ 0 ∷ [])
    ∷ line 87 (reply132 "3" "T3" "PROP0002" "1\r\n:432:87" ++ reply132 "4" "T4" "PROP0002" "1\r\n:432:87") [] (100000 ∷ 0 ∷ [])
    ∷ quiet 87 (100000 ∷ 0 ∷ [])
    ∷ quiet 87 (100000 ∷ 0 ∷ [])
    ∷ []
unfolding plays
unlike_activations = refl

-- ---- "01 and the wire codes (73 up) still move the clock and run the queue test", and so does 02; its own text comes before the test's. 07 does not

abbrev refused_calls_move_the_clock_calls : List Call
refused_calls_move_the_clock_calls =
    asked 9 0 0 Opening (book 9895 (bank "AAAA" 100000 0 ∷ bank "BBBB" 0 0 ∷ []))
    ∷ says 9 0 1 (hundred "T1" "PROP0001" "1001")
    ∷ says 9 0 2 (hundred "T2" "PROP0002" "1002")
    ∷ says 9 0 3 (hundred "T3" "PROP0003" "1003")
    ∷ says 9 0 4 (hundred "T4" "PROP0004" "1004")
    ∷ says 9 0 5 (hundred "T5" "PROP0005" "1005")
    ∷ says 9 0 6 (hundred "T6" "PROP0006" "1006")
    ∷ asked 10 1 0 (Message 6) (recall_of "T7" "PROP0001")
    ∷ says 10 2 0 []
    ∷ asked 10 3 0 (Status (code "AAAA") (long_code "PROP0003") 88) []
    ∷ says 10 4 0 (recall_of "T7" "PROP0009")
    ∷ asked 10 5 0 (SubLimit (code "ZZZZ") 0) []
    ∷ lending 33704 528 (asked 10 6 0 Tick [])
    ∷ asked 10 6 0 (SubLimit (code "AAAA") 6400000000000001) []
    ∷ []

pub refused_calls_move_the_clock : plays refused_calls_move_the_clock_calls
    ≡ quiet 0 (100000 ∷ 0 ∷ [])
    ∷ quiet 0 (100000 ∷ 0 ∷ [])
    ∷ quiet 0 (100000 ∷ 0 ∷ [])
    ∷ quiet 0 (100000 ∷ 0 ∷ [])
    ∷ quiet 0 (100000 ∷ 0 ∷ [])
    ∷ quiet 0 (100000 ∷ 0 ∷ [])
    ∷ quiet 0 (100000 ∷ 0 ∷ [])
    ∷ line 73 (reply132 "1" "T1" "PROP0001" "0\r\n:13E:270203100100") (1 ∷ []) (90000 ∷ 10000 ∷ [])
    ∷ line 87 (reply132 "2" "T2" "PROP0002" "0\r\n:13E:270203100200") (3 ∷ []) (80000 ∷ 20000 ∷ [])
    ∷ line 80 (reply132 "3" "T3" "PROP0003" "0\r\n:13E:270203100300") (5 ∷ []) (70000 ∷ 30000 ∷ [])
    ∷ line 2 (reply134 "4" "T7" "1\r\n:432:02" ++ reply132 "5" "T4" "PROP0004" "0\r\n:13E:270203100400") (7 ∷ []) (60000 ∷ 40000 ∷ [])
    ∷ line 76 (reply132 "6" "T5" "PROP0005" "0\r\n:13E:270203100500") (9 ∷ []) (50000 ∷ 50000 ∷ [])
    ∷ quiet 7 (50000 ∷ 50000 ∷ [])
    ∷ line 14 (reply132 "7" "T6" "PROP0006" "0\r\n:13E:270203100600") (11 ∷ []) (40000 ∷ 60000 ∷ [])
    ∷ []
unfolding plays
refused_calls_move_the_clock = refl
