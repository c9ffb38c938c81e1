-- A reference and a BIN of 3 February: refused on the 17th, free again on the 18th, and then in the same places.
use Prim.Native.Nat.{ℕ}
use Prim.Native.String.{String}
use mathlib.Core.Path.{◌≡◌, refl}
use mathlib.Core.List.{List, [], ◌∷◌, ◌++◌}
use lib.ListN.{take}
use Rattle.model.specs.declared.Action.TheVariants.{Opening, Close}
use Rattle.model.specs.State.{Entry, no_entry}
use Rattle.model.specs.Calls.{Call, cleared}
use Rattle.model.proofs.Stories.{asked, says, bank, book, dated, recall_of, alone, pays, dr, reply132, line, quiet, plays, leaves, long_code}

abbrev opens : (day a b : ℕ) → Call
opens day a b = asked 9 0 0 Opening (book day (bank "AAAA" a 0 ∷ bank "BBBB" b 0 ∷ []))

abbrev hundred : (reference bin date : String) → Call
hundred reference bin date = says 10 0 0 (dated reference bin "01/01" date (pays "AAAA" "BBBB" "100," "PAA "))

abbrev calls : List Call
calls =
    opens 9895 1000000 0
    ∷ hundred "R1" "PROP0001" "270203"
    ∷ asked 17 0 0 Close []
    ∷ opens 9909 990000 10000
    ∷ hundred "R1" "PROP0002" "270217"
    ∷ hundred "R2" "PROP0001" "270217"
    ∷ asked 17 0 0 Close []
    ∷ opens 9910 990000 10000
    ∷ hundred "R1" "PROP0001" "270218"
    ∷ []

pub fourteen_days : plays calls
    ≡ quiet 0 (1000000 ∷ 0 ∷ [])
    ∷ line 0 (reply132 "1" "R1" "PROP0001" "0\r\n:13E:270203100000") (1 ∷ []) (990000 ∷ 10000 ∷ [])
    ∷ quiet 0 (990000 ∷ 10000 ∷ [])
    ∷ quiet 0 (990000 ∷ 10000 ∷ [])
    ∷ quiet 74 (990000 ∷ 10000 ∷ [])
    ∷ line 87 (reply132 "1" "R2" "PROP0001" "1\r\n:432:87") [] (990000 ∷ 10000 ∷ [])
    ∷ quiet 0 (990000 ∷ 10000 ∷ [])
    ∷ quiet 0 (990000 ∷ 10000 ∷ [])
    ∷ line 0 (reply132 "1" "R1" "PROP0001" "0\r\n:13E:270218100000") (1 ∷ []) (980000 ∷ 20000 ∷ [])
    ∷ []
unfolding plays
fourteen_days = refl

-- "a place is free again when its day is more than 14 days back"; "A new entry takes the lowest free place"
abbrev entry : String → ℕ → Entry
entry word day = record { code = long_code word; day = day }

pub place_again : take 3 (leaves cleared calls).state.known.references ≡ entry "R1" 9910 ∷ entry "R2" 9909 ∷ no_entry ∷ []
unfolding leaves
place_again = refl

pub bin_again : take 2 (leaves cleared calls).state.known.bins ≡ entry "PROP0001" 9910 ∷ no_entry ∷ []
unfolding leaves
bin_again = refl

-- ---- an entry that is free again may stand behind a new one of the same name, and counts no more: B4 and PROP0004 are noted at place 0 on the 18th, while
-- those of the 3rd are at place 2 still. "by arrival of its first message"

abbrev half : (reference bin date : String) → Call
half reference bin date = says 10 0 0 (dated reference bin "01/02" date (alone (dr "AAAA" "1," "AAA ")))

abbrev free_again_calls : List Call
free_again_calls =
    opens 9895 10000 0
    ∷ half "B1" "PROP0001" "270203"
    ∷ half "B2" "PROP0002" "270203"
    ∷ half "B4" "PROP0004" "270203"
    ∷ asked 17 0 0 Close []
    ∷ opens 9902 10000 0
    ∷ half "B3" "PROP0003" "270210"
    ∷ asked 17 0 0 Close []
    ∷ opens 9910 10000 0
    ∷ half "B4" "PROP0004" "270218"
    ∷ half "B5" "PROP0001" "270218"
    ∷ says 10 0 1 (recall_of "B4" "PROP0004")
    ∷ asked 17 0 0 Close []
    ∷ []

pub free_again : plays free_again_calls
    ≡ quiet 0 (10000 ∷ 0 ∷ [])
    ∷ quiet 0 (10000 ∷ 0 ∷ [])
    ∷ quiet 0 (10000 ∷ 0 ∷ [])
    ∷ quiet 0 (10000 ∷ 0 ∷ [])
    ∷ line 0 (reply132 "1" "B1" "PROP0001" "1\r\n:432:86" ++ (reply132 "2" "B2" "PROP0002" "1\r\n:432:86"
    ++ reply132 "3" "B4" "PROP0004" "1\r\n:432:86")) [] (10000 ∷ 0 ∷ [])
    ∷ quiet 0 (10000 ∷ 0 ∷ [])
    ∷ quiet 0 (10000 ∷ 0 ∷ [])
    ∷ line 0 (reply132 "1" "B3" "PROP0003" "1\r\n:432:86") [] (10000 ∷ 0 ∷ [])
    ∷ quiet 0 (10000 ∷ 0 ∷ [])
    ∷ quiet 0 (10000 ∷ 0 ∷ [])
    ∷ quiet 0 (10000 ∷ 0 ∷ [])
    ∷ quiet 74 (10000 ∷ 0 ∷ [])
    ∷ line 0 (reply132 "1" "B4" "PROP0004" "1\r\n:432:86" ++ reply132 "2" "B5" "PROP0001" "1\r\n:432:86") [] (10000 ∷ 0 ∷ [])
    ∷ []
unfolding plays
free_again = refl

pub free_again_bins : take 5 (leaves cleared free_again_calls).state.known.bins
    ≡ entry "PROP0004" 9910 ∷ entry "PROP0001" 9910 ∷ entry "PROP0004" 9895 ∷ entry "PROP0003" 9902 ∷ no_entry ∷ []
unfolding leaves
free_again_bins = refl
