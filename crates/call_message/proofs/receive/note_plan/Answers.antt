use Rattle.call_message.proofs.receive.Laws.{within_alone, within_comes, within_begins, within_none, within_recalls, noted_untouched, noted_rejects, noted_alone, noted_comes, noted_begins, noted_none, noted_recalls}
use native.Mathlib.Omega.{arith}
use Rattle.call_message.proofs.receive.note_plan.Goals as goal

pub note-requires : goal.note-requires
note-requires c = omega (arith, (within_alone _ c.requires.2 _ c.in-Alone.is), c.requires.0)

pub note-requires-in-Comes : goal.note-requires-in-Comes
note-requires-in-Comes c = omega (arith, (within_comes _ c.requires.2 _ _ _ c.in-Comes.is), c.requires.0)

pub note-requires-in-Begins : goal.note-requires-in-Begins
note-requires-in-Begins c = omega (arith, (within_begins _ c.requires.2 _ _ _ _ c.in-Begins.is).0, c.requires.0)

pub note-requires-in-Begins-2 : goal.note-requires-in-Begins-2
note-requires-in-Begins-2 c = omega (arith, (within_begins _ c.requires.2 _ _ _ _ c.in-Begins.is).1, c.requires.1)

pub note-requires-in-RecallsNone : goal.note-requires-in-RecallsNone
note-requires-in-RecallsNone c = omega (arith, (within_none _ c.requires.2 _ c.in-RecallsNone.is), c.requires.0)

pub note-requires-in-Recalls : goal.note-requires-in-Recalls
note-requires-in-Recalls c = omega (arith, (within_recalls _ c.requires.2 _ _ c.in-Recalls.is), c.requires.0)

pub returns-in-Untouched : goal.returns-in-Untouched
returns-in-Untouched c = noted_untouched _ _ _ _ _ _ c.requires.0 c.requires.1 _ c.in-Untouched.is

pub returns-in-Rejects : goal.returns-in-Rejects
returns-in-Rejects c = noted_rejects _ _ _ _ _ _ c.requires.0 c.requires.1 _ _ c.in-Rejects.is

pub returns-in-Alone : goal.returns-in-Alone
returns-in-Alone c = noted_alone _ _ _ _ _ _ c.requires.0 c.requires.1 _ (within_alone _ c.requires.2 _ c.in-Alone.is) _ c.note.ensures c.in-Alone.is

pub returns-in-Comes : goal.returns-in-Comes
returns-in-Comes c = noted_comes _ _ _ _ _ _ c.requires.0 c.requires.1 _ (within_comes _ c.requires.2 _ _ _ c.in-Comes.is) _ c.note-in-Comes.ensures _ _ c.in-Comes.is

pub returns-in-Begins : goal.returns-in-Begins
returns-in-Begins c = noted_begins _ _ _ _ _ _ c.requires.0 c.requires.1 _ (within_begins _ c.requires.2 _ _ _ _ c.in-Begins.is).0 _ c.note-in-Begins.ensures _ _ _ _ (within_begins _ c.requires.2 _ _ _ _ c.in-Begins.is).1 c.note-in-Begins-2.ensures c.in-Begins.is

pub returns-in-RecallsNone : goal.returns-in-RecallsNone
returns-in-RecallsNone c = noted_none _ _ _ _ _ _ c.requires.0 c.requires.1 _ (within_none _ c.requires.2 _ c.in-RecallsNone.is) _ c.note-in-RecallsNone.ensures c.in-RecallsNone.is

pub returns-in-Recalls : goal.returns-in-Recalls
returns-in-Recalls c = noted_recalls _ _ _ _ _ _ c.requires.0 c.requires.1 _ (within_recalls _ c.requires.2 _ _ c.in-Recalls.is) _ c.note-in-Recalls.ensures _ c.in-Recalls.is
