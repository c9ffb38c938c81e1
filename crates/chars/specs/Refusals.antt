-- The refusal numbers of document 01: each case has its number here and nowhere else.
use Rattle.std.specs.Prelude.{ℕ}
use Rattle.chars.specs.declared.Refusal.{Refusal}
use Rattle.chars.specs.declared.Refusal.TheVariants.{Unequal, NothingThere, Recalled, NoRoom, WrongMoment, BrokenTables, ShortBuffer, BookLength, BookCheck, BookHeader, OutOfRange, BookTotal, WrongSender, UsedReference, UnknownBank, SuspendedBank, PastDate, WrongEsa, WrongLetter, FutureDate, Unsettled, Malformed, OtherSubType}

abbrev pub number_of : Refusal → ℕ
number_of Unequal = 1
number_of NothingThere = 2
number_of Recalled = 3
number_of NoRoom = 4
number_of WrongMoment = 5
number_of BrokenTables = 6
number_of ShortBuffer = 7
number_of BookLength = 11
number_of BookCheck = 12
number_of BookHeader = 13
number_of OutOfRange = 14
number_of BookTotal = 15
number_of WrongSender = 73
number_of UsedReference = 74
number_of UnknownBank = 76
number_of SuspendedBank = 77
number_of PastDate = 78
number_of WrongEsa = 80
number_of WrongLetter = 81
number_of FutureDate = 84
number_of Unsettled = 86
number_of Malformed = 87
number_of OtherSubType = 88
