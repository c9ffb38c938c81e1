-- Status and sub-limit changes.
use Prim.Native.Nat.{ℕ}
use Prim.Native.String.{String}
use mathlib.Core.Path.{◌≡◌, refl}
use mathlib.Core.List.{List, [], ◌∷◌}
use Rattle.model.specs.declared.Action.{Action}
use Rattle.model.specs.declared.Action.TheVariants.{Opening, SubLimit, Status, Tick, Close, ClosingBook}
use Rattle.model.specs.Calls.{Call}
use Rattle.model.proofs.Stories.{asked, says, code, long_code, bank, book, request, begins_at, alone, pays, dr, reply132, line, quiet, plays}

-- the letters of a status change
abbrev pub P : ℕ
P = 80

abbrev X : ℕ
X = 88

abbrev space : ℕ
space = 32

abbrev pub status : (bank bin : String) → ℕ → Action
status b bin letter = Status (code b) (long_code bin) letter

-- "not A, D or P 80; unknown bank 76; no pending or queued batch of that BIN with a debit of that bank 02": a pending batch by P; a queued batch by a
-- sub-limit that leaves just its amount; a batch being assembled by neither. 76 before 14. The closing book has the last sub-limit
abbrev changes_calls : List Call
changes_calls =
    asked 9 0 0 Opening (book 9895 (bank "AAAA" 50000 30000 ∷ bank "BBBB" 0 0 ∷ []))
    ∷ says 10 0 0 (request "U1" "PROP0001" "01/01" (begins_at "1100" (pays "AAAA" "BBBB" "250," "AAA ")))
    ∷ asked 10 0 1 (status "AAAA" "PROP0001" X) []
    ∷ asked 10 0 1 (status "AAAA" "PROP0001" space) []
    ∷ asked 10 0 2 (status "ZZZZ" "PROP0001" P) []
    ∷ asked 10 0 3 (status "ZZZZ" "PROP0001" X) []
    ∷ asked 10 0 4 (status "BBBB" "PROP0001" P) []
    ∷ asked 10 0 5 (status "AAAA" "PROP0009" P) []
    ∷ asked 10 0 6 (status "AAAA" "PROP0001" P) []
    ∷ asked 11 0 0 Tick []
    ∷ says 11 0 1 (request "U2" "PROP0002" "01/02" (alone (dr "AAAA" "1," "AAA ")))
    ∷ asked 11 0 2 (status "AAAA" "PROP0002" P) []
    ∷ says 11 0 3 (request "U3" "PROP0003" "01/01" (pays "AAAA" "BBBB" "100," "AAA "))
    ∷ asked 11 0 4 (SubLimit (code "AAAA") 15001) []
    ∷ asked 11 0 5 (SubLimit (code "AAAA") 15000) []
    ∷ asked 11 0 6 (SubLimit (code "ZZZZ") 6400000000000001) []
    ∷ asked 11 0 7 (SubLimit (code "AAAA") 6400000000000001) []
    ∷ asked 11 0 8 (SubLimit (code "AAAA") 6400000000000000) []
    ∷ asked 17 0 0 Close []
    ∷ asked 17 0 1 (ClosingBook 270204) []
    ∷ []

pub changes : plays changes_calls
    ≡ quiet 0 (50000 ∷ 0 ∷ [])
    ∷ quiet 0 (50000 ∷ 0 ∷ [])
    ∷ quiet 80 (50000 ∷ 0 ∷ [])
    ∷ quiet 80 (50000 ∷ 0 ∷ [])
    ∷ quiet 76 (50000 ∷ 0 ∷ [])
    ∷ quiet 80 (50000 ∷ 0 ∷ [])
    ∷ quiet 2 (50000 ∷ 0 ∷ [])
    ∷ quiet 2 (50000 ∷ 0 ∷ [])
    ∷ quiet 0 (50000 ∷ 0 ∷ [])
    ∷ line 0 (reply132 "1" "U1" "PROP0001" "0\r\n:13E:270203110000") (1 ∷ []) (25000 ∷ 25000 ∷ [])
    ∷ quiet 0 (25000 ∷ 25000 ∷ [])
    ∷ quiet 2 (25000 ∷ 25000 ∷ [])
    ∷ line 0 [] (2 ∷ []) (25000 ∷ 25000 ∷ [])
    ∷ line 0 [] (2 ∷ []) (25000 ∷ 25000 ∷ [])
    ∷ line 0 (reply132 "2" "U3" "PROP0003" "0\r\n:13E:270203110005") (3 ∷ []) (15000 ∷ 35000 ∷ [])
    ∷ quiet 76 (15000 ∷ 35000 ∷ [])
    ∷ quiet 14 (15000 ∷ 35000 ∷ [])
    ∷ quiet 0 (15000 ∷ 35000 ∷ [])
    ∷ line 0 (reply132 "3" "U2" "PROP0002" "1\r\n:432:86") [] (15000 ∷ 35000 ∷ [])
    ∷ line 0 (book 9896 (bank "AAAA" 15000 6400000000000000 ∷ bank "BBBB" 35000 0 ∷ [])) [] (15000 ∷ 35000 ∷ [])
    ∷ []
unfolding plays
changes = refl
