-- The cover rule and the two tests in whole days, each day by the quick test and by the plain one.
use Prim.Native.Nat.{ℕ}
use mathlib.Core.Path.{◌≡◌, refl}
use mathlib.Core.List.{List, [], ◌∷◌, ◌++◌, map}
use Rattle.model.specs.declared.Action.TheVariants.{Opening, SubLimit, Status, Tick, Close}
use Rattle.model.specs.Calls.{Call}
use Rattle.model.proofs.Stories.{asked, says, plainly, code, long_code, bank, book, request, begins_at, pays, dr, cr, reply132, Line, line, quiet, plays}
use Rattle.chars.specs.Words.{bytes}

-- ---- "A batch passes exactly when each debit is covered by its own bank."

-- V1: AAAA and BBBB pay 50 each, AAAA has 100 and BBBB nothing: their cover together would do. V2: DDDD has 50 and a sub-limit of 50, so A is short of a
-- cent; V3 A of 0 passes, V4 D of 0 does not, V5 P of 50 passes. V3 credits AAAA, V1's first payer; V6 credits BBBB, its first uncovered one, with 0
abbrev calls : List Call
calls =
    asked 9 0 0 Opening (book 9895 (bank "AAAA" 10000 0 ∷ bank "BBBB" 0 0 ∷ bank "CCCC" 0 0 ∷ bank "DDDD" 5000 5000 ∷ []))
    ∷ says 10 0 0 (request "V1" "PROP0001" "01/01" (dr "AAAA" "50," "AAA " ++ (dr "BBBB" "50," " AA " ++ (cr "CCCC" "100," ++ bytes ":203:3\r\n"))))
    ∷ says 10 0 1 (request "V2" "PROP0002" "01/01" (pays "DDDD" "CCCC" "0,01" "AAA "))
    ∷ says 10 0 2 (request "V3" "PROP0003" "01/01" (pays "DDDD" "AAAA" "0," "AAA "))
    ∷ says 10 0 3 (request "V4" "PROP0004" "01/01" (pays "DDDD" "BBBB" "0," "DAA "))
    ∷ says 10 0 4 (request "V5" "PROP0005" "01/01" (pays "DDDD" "AAAA" "50," "PDD "))
    ∷ asked 10 0 5 (Status (code "DDDD") (long_code "PROP0004") 65) []
    ∷ says 10 0 6 (request "V6" "PROP0006" "01/01" (pays "AAAA" "BBBB" "0," "AAA "))
    ∷ says 10 0 7 (request "V7" "PROP0007" "01/01" (pays "AAAA" "BBBB" "50," "AAA "))
    ∷ asked 17 0 0 Close []
    ∷ []

-- the answers, texts and balances of that day, with the tries of each call
abbrev covers : (t1 t2 t3 t4 t5 t6 t7 t8 t9 : List ℕ) → List Line
covers t1 t2 t3 t4 t5 t6 t7 t8 t9 =
    quiet 0 (10000 ∷ 0 ∷ [])
    ∷ line 0 [] t1 (10000 ∷ 0 ∷ [])
    ∷ line 0 [] t2 (10000 ∷ 0 ∷ [])
    ∷ line 0 (reply132 "1" "V3" "PROP0003" "0\r\n:13E:270203100002") t3 (10000 ∷ 0 ∷ [])
    ∷ line 0 [] t4 (10000 ∷ 0 ∷ [])
    ∷ line 0 (reply132 "2" "V5" "PROP0005" "0\r\n:13E:270203100004") t5 (15000 ∷ 0 ∷ [])
    ∷ line 0 [] t6 (15000 ∷ 0 ∷ [])
    ∷ line 0 (reply132 "3" "V6" "PROP0006" "0\r\n:13E:270203100006") t7 (15000 ∷ 0 ∷ [])
    ∷ line 0 (reply132 "4" "V7" "PROP0007" "0\r\n:13E:270203100007" ++ reply132 "5" "V1" "PROP0001" "0\r\n:13E:270203100007") t8 (5000 ∷ 0 ∷ [])
    ∷ line 0 (reply132 "6" "V2" "PROP0002" "1\r\n:432:86" ++ reply132 "7" "V4" "PROP0004" "1\r\n:432:86") t9 (5000 ∷ 0 ∷ [])
    ∷ []

pub each_by_its_own_bank : plays calls
    ≡ covers (0 ∷ []) (2 ∷ []) (5 ∷ []) (4 ∷ []) (7 ∷ []) (4 ∷ []) (7 ∷ 0 ∷ []) (7 ∷ 1 ∷ []) []
unfolding plays
each_by_its_own_bank = refl

pub each_by_its_own_bank_plainly : plays (map plainly calls)
    ≡ covers (0 ∷ []) (0 ∷ 2 ∷ []) (0 ∷ 2 ∷ 5 ∷ 0 ∷ 2 ∷ []) (0 ∷ 2 ∷ 4 ∷ []) (0 ∷ 2 ∷ 4 ∷ 7 ∷ 0 ∷ 2 ∷ 4 ∷ []) (0 ∷ 2 ∷ 4 ∷ [])
    (0 ∷ 2 ∷ 4 ∷ 7 ∷ 0 ∷ 2 ∷ 4 ∷ []) (0 ∷ 2 ∷ 4 ∷ 7 ∷ 1 ∷ 2 ∷ 4 ∷ 2 ∷ 4 ∷ []) (2 ∷ 4 ∷ [])
unfolding plays
each_by_its_own_bank_plainly = refl

-- ---- marked examples (12) and (13): Q1 and Q2 join the queue in one minute

abbrev queues : (q1 q2 : List ℕ) → List Call
queues q1 q2 =
    asked 9 0 0 Opening (book 9895 (bank "AAAA" 0 0 ∷ bank "BBBB" 50 0 ∷ bank "CCCC" 0 0 ∷ []))
    ∷ says 9 0 1 (request "Q1" "PROP0001" "01/01" (begins_at "1000" q1))
    ∷ says 9 0 2 (request "Q2" "PROP0002" "01/01" (begins_at "1000" q2))
    ∷ asked 10 0 0 Tick []
    ∷ []

abbrev waits : List Line
waits = quiet 0 (0 ∷ 50 ∷ []) ∷ quiet 0 (0 ∷ 50 ∷ []) ∷ quiet 0 (0 ∷ 50 ∷ []) ∷ []

abbrev calls_12 : List Call
calls_12 = queues (pays "AAAA" "BBBB" "0,50" "AAA ") (pays "BBBB" "AAAA" "0,50" "AAA ")

abbrev lines_12 : List Line
lines_12 = waits ++ (line 0 (reply132 "1" "Q2" "PROP0002" "0\r\n:13E:270203100000" ++ reply132 "2" "Q1" "PROP0001" "0\r\n:13E:270203100000")
    (0 ∷ 3 ∷ 1 ∷ []) (0 ∷ 50 ∷ []) ∷ [])

pub day_12 : plays calls_12 ≡ lines_12
unfolding plays
day_12 = refl

pub day_12_plainly : plays (map plainly calls_12) ≡ lines_12
unfolding plays
day_12_plainly = refl

abbrev calls_13 : List Call
calls_13 = queues (pays "AAAA" "BBBB" "0,10" "AAA ") (pays "BBBB" "CCCC" "0,50" "AAA ")

-- by the quick test Q1 is omitted until AAAA's sub-limit changes, in whichever call; a plain try leaves that as it is
abbrev later : List Call
later =
    asked 10 0 1 Tick []
    ∷ plainly (asked 10 0 2 Tick [])
    ∷ asked 10 0 3 Tick []
    ∷ plainly (asked 10 0 4 (SubLimit (code "AAAA") 0) [])
    ∷ asked 10 0 5 Tick []
    ∷ asked 10 0 6 Tick []
    ∷ []

abbrev lines_later : List Line
lines_later =
    line 0 (reply132 "1" "Q2" "PROP0002" "0\r\n:13E:270203100000") (0 ∷ 3 ∷ []) (0 ∷ 0 ∷ [])
    ∷ quiet 0 (0 ∷ 0 ∷ [])
    ∷ line 0 [] (0 ∷ []) (0 ∷ 0 ∷ [])
    ∷ quiet 0 (0 ∷ 0 ∷ [])
    ∷ line 0 [] (0 ∷ []) (0 ∷ 0 ∷ [])
    ∷ line 0 [] (0 ∷ []) (0 ∷ 0 ∷ [])
    ∷ quiet 0 (0 ∷ 0 ∷ [])
    ∷ []

pub day_13 : plays (calls_13 ++ later) ≡ waits ++ lines_later
unfolding plays
day_13 = refl

pub day_13_plainly : plays (map plainly calls_13)
    ≡ waits ++ (line 0 (reply132 "1" "Q2" "PROP0002" "0\r\n:13E:270203100000") (0 ∷ 3 ∷ 0 ∷ []) (0 ∷ 0 ∷ []) ∷ [])
unfolding plays
day_13_plainly = refl
