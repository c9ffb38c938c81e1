-- Status changes of a batch with two payers, and a sub-limit of a suspended bank.
use Prim.Native.Nat.{ℕ}
use mathlib.Core.Path.{◌≡◌, refl}
use mathlib.Core.List.{List, [], ◌∷◌, ◌++◌, map}
use Rattle.chars.specs.Words.{bytes}
use Rattle.model.specs.declared.Action.TheVariants.{Opening, SubLimit, Tick}
use Rattle.codes.specs.Codes.{short_text}
use Rattle.settle.specs.Payments.{Payment, credit, debit}
use Rattle.model.specs.State.{payments_at}
use Rattle.model.specs.Calls.{Call, call}
use Rattle.model.specs.Course.{start, calls, course}
use Rattle.model.proofs.Stories.{asked, says, code, bank, flagged, book, request, dr, cr, reply132, line, quiet, goes, plays}
use Rattle.model.proofs.DaysChanges.{P, status}

abbrev pub A : ℕ
A = 65

-- 76 though there is no batch either; the same letter again wakes the batch, of the first payer and of the second; P for the second lets it pass
abbrev letters_calls : List Call
letters_calls =
    asked 9 0 0 Opening (book 9895 (bank "AAAA" 1000 0 ∷ bank "BBBB" 1000 500 ∷ flagged "CCCC" 3 0 0 ∷ bank "DDDD" 0 0 ∷ []))
    ∷ asked 10 0 0 (status "ZZZZ" "PROP0009" P) []
    ∷ says 10 0 1 (request "L1" "PROP0001" "01/01" (dr "AAAA" "1," "AAA " ++ (dr "BBBB" "8," "AAA " ++ (cr "DDDD" "9," ++ bytes ":203:3\r\n"))))
    ∷ asked 10 0 2 (status "AAAA" "PROP0001" A) []
    ∷ asked 10 0 3 Tick []
    ∷ asked 10 0 4 (status "BBBB" "PROP0001" A) []
    ∷ asked 10 0 5 (SubLimit (code "CCCC") 5) []
    ∷ asked 10 0 6 (status "BBBB" "PROP0001" P) []
    ∷ []

pub letters : plays letters_calls
    ≡ quiet 0 (1000 ∷ 1000 ∷ [])
    ∷ quiet 76 (1000 ∷ 1000 ∷ [])
    ∷ line 0 [] (0 ∷ []) (1000 ∷ 1000 ∷ [])
    ∷ line 0 [] (0 ∷ []) (1000 ∷ 1000 ∷ [])
    ∷ quiet 0 (1000 ∷ 1000 ∷ [])
    ∷ line 0 [] (0 ∷ []) (1000 ∷ 1000 ∷ [])
    ∷ quiet 0 (1000 ∷ 1000 ∷ [])
    ∷ line 0 (reply132 "1" "L1" "PROP0001" "0\r\n:13E:270203100006") (1 ∷ []) (900 ∷ 200 ∷ [])
    ∷ []
unfolding plays
letters = refl

-- the credit, cash and fourth letters stay as they came, and so do those of the other payer
abbrev kept_calls : List Call
kept_calls =
    asked 9 0 0 Opening (book 9895 (bank "AAAA" 0 0 ∷ bank "BBBB" 0 0 ∷ bank "DDDD" 0 0 ∷ []))
    ∷ says 10 0 1 (request "L1" "PROP0001" "01/01" (dr "AAAA" "1," "ADPZ" ++ (dr "BBBB" "8," "A DY" ++ (cr "DDDD" "9," ++ bytes ":203:3\r\n"))))
    ∷ asked 10 0 2 (status "AAAA" "PROP0001" P) []
    ∷ []

abbrev spell : Payment → List ℕ
spell (credit k c) = []
spell (debit l k c) = short_text l

pub kept : map spell (payments_at (course call start (map calls kept_calls)).state.batches 0) ≡ bytes "PDPZ" ∷ bytes "A DY" ∷ [] ∷ []
unfolding goes course
kept = refl
