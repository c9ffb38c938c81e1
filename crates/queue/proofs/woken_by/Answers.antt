use Rattle.queue.proofs.MemoryLaws.{woken_none, woken_away, woken_stays, woken_past}
use borrow.Author.Rules.{rules}
use Rattle.queue.proofs.woken_by.Goals as goal
use Rattle.queue.proofs.woken_by.Goals.{else-bank-marks-via-then-bank-marks+else-marks-bank, else-bank-marks-via-else-bank-marks}

pub returns-then-held-eq0 : goal.returns-then-held-eq0
returns-then-held-eq0 c = search (rules, woken_none)

pub returns-then-marks-bank : goal.returns-then-marks-bank
returns-then-marks-bank c = search (rules, woken_away)

pub returns : goal.returns
returns c =
    elim c.else-bank-marks.branch [
      | else-bank-marks-via-then-bank-marks+else-marks-bank w ↦ woken_stays _ _ c.if-held-eq0.false w.if-marks-bank.false
      | else-bank-marks-via-else-bank-marks w ↦ woken_past _ _ c.if-held-eq0.false w.if-bank-marks.false
    ]
