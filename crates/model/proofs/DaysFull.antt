-- The greatest batch and the greatest message: ten messages of one payment, and one message of ten.
use Prim.Native.String.{String}
use Prim.Native.Nat.{ℕ}
use mathlib.Core.Path.{◌≡◌, refl}
use mathlib.Core.List.{List, [], ◌∷◌, ◌++◌}
use Rattle.chars.specs.Words.{bytes}
use Rattle.model.specs.declared.Action.TheVariants.{Opening}
use Rattle.model.specs.Calls.{Call}
use Rattle.model.proofs.Stories.{asked, says, bank, book, request, alone, dr, cr, reply132, line, quiet, plays}

-- the texts from the tenth on
abbrev text132 : (number reference bin end : String) → List ℕ
text132 number reference bin end =
    bytes ":20:B00000" ++ (bytes number ++ (bytes "\r\n:12:132\r\n:77E:\r\n:21:" ++ (bytes reference
    ++ (bytes "\r\n:22A:PROP\r\n:119:" ++ (bytes bin ++ (bytes "\r\n:451:" ++ (bytes end ++ bytes "\r\n")))))))

abbrev pays1 : String → List ℕ
pays1 b = dr b "1," "AAA "

abbrev gets1 : String → List ℕ
gets1 b = cr b "1,"

abbrev part : (second : ℕ) (reference numbers : String) → List ℕ → Call
part s reference numbers payment = says 10 0 s (request reference "PROP0001" numbers (alone payment))

abbrev ten_calls : List Call
ten_calls =
    asked 9 0 0 Opening (book 9895 (bank "BK00" 100 0 ∷ bank "BK01" 100 0 ∷ bank "BK02" 100 0 ∷ bank "BK03" 100 0 ∷ bank "BK04" 100 0
    ∷ bank "BK05" 0 0 ∷ bank "BK06" 0 0 ∷ bank "BK07" 0 0 ∷ bank "BK08" 0 0 ∷ bank "BK09" 0 0 ∷ []))
    ∷ part 1 "T1" "01/10" (pays1 "BK00")
    ∷ part 2 "T2" "02/10" (pays1 "BK01")
    ∷ part 3 "T3" "03/10" (pays1 "BK02")
    ∷ part 4 "T4" "04/10" (pays1 "BK03")
    ∷ part 5 "T5" "05/10" (pays1 "BK04")
    ∷ part 6 "T6" "06/10" (gets1 "BK05")
    ∷ part 7 "T7" "07/10" (gets1 "BK06")
    ∷ part 8 "T8" "08/10" (gets1 "BK07")
    ∷ part 9 "T9" "09/10" (gets1 "BK08")
    ∷ part 10 "T10" "10/10" (gets1 "BK09")
    ∷ says 10 0 11 (request "T11" "PROP0002" "01/01" (pays1 "BK05" ++ (pays1 "BK06" ++ (pays1 "BK07" ++ (pays1 "BK08" ++ (pays1 "BK09"
    ++ (gets1 "BK00" ++ (gets1 "BK01" ++ (gets1 "BK02" ++ (gets1 "BK03" ++ (gets1 "BK04" ++ bytes ":203:10\r\n")))))))))))
    ∷ []

abbrev settled1 : (number reference : String) → List ℕ
settled1 number reference = reply132 number reference "PROP0001" "0\r\n:13E:270203100010"

pub ten : plays ten_calls
    ≡ quiet 0 (100 ∷ 100 ∷ [])
    ∷ quiet 0 (100 ∷ 100 ∷ [])
    ∷ quiet 0 (100 ∷ 100 ∷ [])
    ∷ quiet 0 (100 ∷ 100 ∷ [])
    ∷ quiet 0 (100 ∷ 100 ∷ [])
    ∷ quiet 0 (100 ∷ 100 ∷ [])
    ∷ quiet 0 (100 ∷ 100 ∷ [])
    ∷ quiet 0 (100 ∷ 100 ∷ [])
    ∷ quiet 0 (100 ∷ 100 ∷ [])
    ∷ quiet 0 (100 ∷ 100 ∷ [])
    ∷ line 0 (settled1 "1" "T1" ++ (settled1 "2" "T2" ++ (settled1 "3" "T3" ++ (settled1 "4" "T4" ++ (settled1 "5" "T5" ++ (settled1 "6" "T6"
    ++ (settled1 "7" "T7" ++ (settled1 "8" "T8" ++ (settled1 "9" "T9" ++ text132 "10" "T10" "PROP0001" "0\r\n:13E:270203100010")))))))))
    (1 ∷ []) (0 ∷ 0 ∷ [])
    ∷ line 0 (text132 "11" "T11" "PROP0002" "0\r\n:13E:270203100011") (1 ∷ []) (100 ∷ 100 ∷ [])
    ∷ []
unfolding plays
ten = refl
