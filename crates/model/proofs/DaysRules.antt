-- Step 5 of a message in its order. PROP is the second stream of the book; AAAA and BBBB are in it, CCCC is not, DDDD is suspended, EEEE is suspended
-- and not in it.
use Prim.Native.Nat.{ℕ}
use Prim.Native.String.{String}
use mathlib.Core.Path.{◌≡◌, refl}
use mathlib.Core.List.{List, [], ◌∷◌, ◌++◌}
use Rattle.book_write.specs.Closing.{book_bytes}
use Rattle.model.specs.declared.Action.TheVariants.{Opening}
use Rattle.model.specs.State.{no_batches}
use Rattle.model.specs.Calls.{Call, cleared}
use Rattle.model.proofs.Stories.{asked, says, stream, flagged, dated, request, begins_at, alone, pays, dr, cr, reply132, Line, line, plays, leaves}

abbrev opens : Call
opens = asked 9 0 0 Opening (book_bytes 9895 (stream "CARD" 7 ∷ stream "PROP" 5 ∷ [])
    (flagged "AAAA" 4 10000 0 ∷ flagged "BBBB" 4 0 0 ∷ flagged "CCCC" 2 10000 0 ∷ flagged "DDDD" 5 10000 0 ∷ flagged "EEEE" 3 10000 0 ∷ []))

abbrev debit : List ℕ
debit = alone (dr "AAAA" "1," "AAA ")

abbrev of : String → List ℕ
of payer = pays payer "BBBB" "1," "AAA "

-- no money moves in these days, and no batch comes to a test
abbrev answered : ℕ → List ℕ → Line
answered n o = line n o [] (10000 ∷ 0 ∷ [])

-- ---- "count or activation unlike the first message's, or number already there, 87; date before today 78, after today 84; then each payment"

-- a wrong count, number or activation beside a wrong date; a wrong date beside an unknown bank, and its BIN is remembered
abbrev count_then_date_calls : List Call
count_then_date_calls =
    opens
    ∷ says 10 0 0 (request "X1" "PROP0001" "01/02" debit)
    ∷ says 10 0 1 (dated "X2" "PROP0001" "02/03" "270204" debit)
    ∷ says 10 0 2 (request "X3" "PROP0002" "01/02" debit)
    ∷ says 10 0 3 (dated "X4" "PROP0002" "01/02" "270202" debit)
    ∷ says 10 0 4 (request "X5" "PROP0003" "01/02" debit)
    ∷ says 10 0 5 (dated "X6" "PROP0003" "02/02" "270202" (begins_at "1200" debit))
    ∷ says 10 0 6 (dated "X7" "PROP0004" "01/02" "270202" (of "ZZZZ"))
    ∷ says 10 0 7 (dated "X8" "PROP0005" "01/01" "270204" (of "ZZZZ"))
    ∷ says 10 0 8 (request "X9" "PROP0004" "02/02" debit)
    ∷ []

pub count_then_date : plays count_then_date_calls
    ≡ answered 0 []
    ∷ answered 0 []
    ∷ answered 87 (reply132 "1" "X1" "PROP0001" "1\r\n:432:87" ++ reply132 "2" "X2" "PROP0001" "1\r\n:432:87")
    ∷ answered 0 []
    ∷ answered 87 (reply132 "3" "X3" "PROP0002" "1\r\n:432:87" ++ reply132 "4" "X4" "PROP0002" "1\r\n:432:87")
    ∷ answered 0 []
    ∷ answered 87 (reply132 "5" "X5" "PROP0003" "1\r\n:432:87" ++ reply132 "6" "X6" "PROP0003" "1\r\n:432:87")
    ∷ answered 78 (reply132 "7" "X7" "PROP0004" "1\r\n:432:78")
    ∷ answered 84 (reply132 "8" "X8" "PROP0005" "1\r\n:432:84")
    ∷ answered 87 (reply132 "9" "X9" "PROP0004" "1\r\n:432:87")
    ∷ []
unfolding plays
count_then_date = refl

-- ---- "then each payment in order: bank unknown 76, suspended 77, not in the stream 76, already in this batch 87"

abbrev calls : List Call
calls =
    opens
    ∷ says 10 0 0 (request "Y1" "PROP0001" "01/01" (of "ZZZZ"))
    ∷ says 10 0 1 (request "Y2" "PROP0002" "01/01" (of "DDDD"))
    ∷ says 10 0 2 (request "Y3" "PROP0003" "01/01" (of "EEEE"))
    ∷ says 10 0 3 (request "Y4" "PROP0004" "01/01" (of "CCCC"))
    ∷ says 10 0 4 (request "Y5" "PROP0005" "01/01" (pays "DDDD" "ZZZZ" "1," "AAA "))
    ∷ says 10 0 5 (request "Y6" "PROP0006" "01/01" (pays "ZZZZ" "DDDD" "1," "AAA "))
    ∷ says 10 0 6 (request "Y7" "PROP0007" "01/01" (of "BBBB"))
    ∷ says 10 0 7 (request "Y8" "PROP0008" "02/02" debit)
    ∷ says 10 0 8 (request "Y9" "PROP0008" "01/02" (alone (cr "AAAA" "1,")))
    ∷ []

pub banks_in_order : plays calls
    ≡ answered 0 []
    ∷ answered 76 (reply132 "1" "Y1" "PROP0001" "1\r\n:432:76")
    ∷ answered 77 (reply132 "2" "Y2" "PROP0002" "1\r\n:432:77")
    ∷ answered 77 (reply132 "3" "Y3" "PROP0003" "1\r\n:432:77")
    ∷ answered 76 (reply132 "4" "Y4" "PROP0004" "1\r\n:432:76")
    ∷ answered 77 (reply132 "5" "Y5" "PROP0005" "1\r\n:432:77")
    ∷ answered 76 (reply132 "6" "Y6" "PROP0006" "1\r\n:432:76")
    ∷ answered 87 (reply132 "7" "Y7" "PROP0007" "1\r\n:432:87")
    ∷ answered 0 []
    ∷ answered 87 (reply132 "8" "Y8" "PROP0008" "1\r\n:432:87" ++ reply132 "9" "Y9" "PROP0008" "1\r\n:432:87")
    ∷ []
unfolding plays
banks_in_order = refl

-- "an ended batch's place is zeroed"
pub no_batch_left : (leaves cleared calls).state.batches ≡ no_batches
unfolding leaves
no_batch_left = refl
