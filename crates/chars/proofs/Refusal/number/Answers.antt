use Rattle.chars.proofs.Refusal.number.Goals as goal

pub returns-in-Unequal : goal.returns-in-Unequal
returns-in-Unequal c = rw c.in-Unequal.is

pub returns-in-NothingThere : goal.returns-in-NothingThere
returns-in-NothingThere c = rw c.in-NothingThere.is

pub returns-in-Recalled : goal.returns-in-Recalled
returns-in-Recalled c = rw c.in-Recalled.is

pub returns-in-NoRoom : goal.returns-in-NoRoom
returns-in-NoRoom c = rw c.in-NoRoom.is

pub returns-in-WrongMoment : goal.returns-in-WrongMoment
returns-in-WrongMoment c = rw c.in-WrongMoment.is

pub returns-in-BrokenTables : goal.returns-in-BrokenTables
returns-in-BrokenTables c = rw c.in-BrokenTables.is

pub returns-in-ShortBuffer : goal.returns-in-ShortBuffer
returns-in-ShortBuffer c = rw c.in-ShortBuffer.is

pub returns-in-BookLength : goal.returns-in-BookLength
returns-in-BookLength c = rw c.in-BookLength.is

pub returns-in-BookCheck : goal.returns-in-BookCheck
returns-in-BookCheck c = rw c.in-BookCheck.is

pub returns-in-BookHeader : goal.returns-in-BookHeader
returns-in-BookHeader c = rw c.in-BookHeader.is

pub returns-in-OutOfRange : goal.returns-in-OutOfRange
returns-in-OutOfRange c = rw c.in-OutOfRange.is

pub returns-in-BookTotal : goal.returns-in-BookTotal
returns-in-BookTotal c = rw c.in-BookTotal.is

pub returns-in-WrongSender : goal.returns-in-WrongSender
returns-in-WrongSender c = rw c.in-WrongSender.is

pub returns-in-UsedReference : goal.returns-in-UsedReference
returns-in-UsedReference c = rw c.in-UsedReference.is

pub returns-in-UnknownBank : goal.returns-in-UnknownBank
returns-in-UnknownBank c = rw c.in-UnknownBank.is

pub returns-in-SuspendedBank : goal.returns-in-SuspendedBank
returns-in-SuspendedBank c = rw c.in-SuspendedBank.is

pub returns-in-PastDate : goal.returns-in-PastDate
returns-in-PastDate c = rw c.in-PastDate.is

pub returns-in-WrongEsa : goal.returns-in-WrongEsa
returns-in-WrongEsa c = rw c.in-WrongEsa.is

pub returns-in-WrongLetter : goal.returns-in-WrongLetter
returns-in-WrongLetter c = rw c.in-WrongLetter.is

pub returns-in-FutureDate : goal.returns-in-FutureDate
returns-in-FutureDate c = rw c.in-FutureDate.is

pub returns-in-Unsettled : goal.returns-in-Unsettled
returns-in-Unsettled c = rw c.in-Unsettled.is

pub returns-in-Malformed : goal.returns-in-Malformed
returns-in-Malformed c = rw c.in-Malformed.is

pub returns-in-OtherSubType : goal.returns-in-OtherSubType
returns-in-OtherSubType c = rw c.in-OtherSubType.is
