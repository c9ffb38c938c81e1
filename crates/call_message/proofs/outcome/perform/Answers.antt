use Rattle.chars.specs.declared.Refusal.TheVariants.{NothingThere, Malformed}
use Rattle.call_message.proofs.outcome.BeginLaws.{comes_takeable, comes_so, begins_so, begins_able, apt_rejects, apt_alone, apt_comes, apt_begins, apt_none, apt_recalls, assembling_below, waiting_below}
use Rattle.call_message.proofs.outcome.AnswerLaws.{act_legible, rejects_room, alone_fits, kept_fits, recall_fits, untouched_so, alone_so, none_so, rejects_so, recalled_so}
use Rattle.call_message.proofs.outcome.perform.Goals as goal

-- src/lib.rt:57:32
pub reject-requires : goal.reject-requires
reject-requires c = record { ready = (c.requires.actable.ready, act_legible _ _ _ _ _ _ _ _ _ c.requires.actable, assembling_below _ _ _ _ _ _ _ _ _ c.requires.actable _ _ (apt_rejects _ _ _ c.requires.apt _ _ c.in-Rejects.is)); room = rejects_room _ _ _ _ _ _ _ _ _ c.requires.actable _ _ _ c.in-Rejects.is }

-- src/lib.rt:60:29
pub refuse_alone-requires : goal.refuse_alone-requires
refuse_alone-requires c = alone_fits _ _ _ _ _ _ _ _ _ c.requires.actable c.args.r Malformed (apt_alone _ _ _ c.requires.apt _ c.in-Alone.is)

-- src/lib.rt:61:35
pub admit-requires : goal.admit-requires
admit-requires c = (comes_takeable _ _ _ _ _ _ _ _ _ c.requires.actable _ _ (apt_comes _ _ _ c.requires.apt _ _ _ c.in-Comes.is).0 (apt_comes _ _ _ c.requires.apt _ _ _ c.in-Comes.is).1 (apt_comes _ _ _ c.requires.apt _ _ _ c.in-Comes.is).2, (apt_comes _ _ _ c.requires.apt _ _ _ c.in-Comes.is).3)

-- src/lib.rt:64:39
pub begin-requires : goal.begin-requires
begin-requires c = (begins_able _ _ _ _ _ _ _ _ _ c.requires.actable _ _ (apt_begins _ _ _ c.requires.apt _ _ _ _ c.in-Begins.is).0 (apt_begins _ _ _ c.requires.apt _ _ _ _ c.in-Begins.is).1 (apt_begins _ _ _ c.requires.apt _ _ _ _ c.in-Begins.is).2, (apt_begins _ _ _ c.requires.apt _ _ _ _ c.in-Begins.is).3)

-- src/lib.rt:67:35
pub recall_none-requires : goal.recall_none-requires
recall_none-requires c = kept_fits _ _ _ _ _ _ _ _ _ c.requires.actable c.args.r NothingThere (apt_none _ _ _ c.requires.apt _ c.in-RecallsNone.is)

-- src/lib.rt:68:34
pub recall-requires : goal.recall-requires
recall-requires c = record { ready = (c.requires.actable.ready, act_legible _ _ _ _ _ _ _ _ _ c.requires.actable, waiting_below _ _ _ _ _ _ _ _ _ c.requires.actable _ _ (apt_recalls _ _ _ c.requires.apt _ _ c.in-Recalls.is).0); room = recall_fits _ _ _ _ _ _ _ _ _ c.requires.actable c.args.r _ (apt_recalls _ _ _ c.requires.apt _ _ c.in-Recalls.is).1 }

-- src/lib.rt:30:1
pub returns-in-Untouched : goal.returns-in-Untouched
returns-in-Untouched c = λ n o z. untouched_so _ _ _ _ _ _ _ _ _ c.requires.actable _ _ n o z _ _ c.in-Untouched.is

-- src/lib.rt:30:1
pub returns-in-Rejects : goal.returns-in-Rejects
returns-in-Rejects c = λ n o z. rejects_so _ _ _ _ _ _ _ _ _ c.requires.actable _ _ n o z _ _ _ _ _ _ _ _ _ _ _ _ _ c.in-Rejects.is (apt_rejects _ _ _ c.requires.apt _ _ c.in-Rejects.is) c.reject.ensures

-- src/lib.rt:30:1
pub returns-in-Alone : goal.returns-in-Alone
returns-in-Alone c = λ n o z. alone_so _ _ _ _ _ _ _ _ _ c.requires.actable _ _ n o z _ _ _ _ _ _ _ _ c.in-Alone.is c.refuse_alone.ensures

-- src/lib.rt:30:1
pub returns-in-Comes : goal.returns-in-Comes
returns-in-Comes c = comes_so _ _ _ _ _ _ _ _ _ c.requires.actable _ _ _ _ _ c.in-Comes.is (comes_takeable _ _ _ _ _ _ _ _ _ c.requires.actable _ _ (apt_comes _ _ _ c.requires.apt _ _ _ c.in-Comes.is).0 (apt_comes _ _ _ c.requires.apt _ _ _ c.in-Comes.is).1 (apt_comes _ _ _ c.requires.apt _ _ _ c.in-Comes.is).2) _ _ _ _ _ _ _ _ _ _ _ c.admit.ensures

-- src/lib.rt:30:1
pub returns-in-Begins : goal.returns-in-Begins
returns-in-Begins c = begins_so _ _ _ _ _ _ _ _ _ c.requires.actable _ _ _ _ _ _ c.in-Begins.is _ _ _ _ _ _ _ _ _ _ _ c.begin.ensures

-- src/lib.rt:30:1
pub returns-in-RecallsNone : goal.returns-in-RecallsNone
returns-in-RecallsNone c = λ n o z. none_so _ _ _ _ _ _ _ _ _ c.requires.actable _ _ n o z _ _ _ _ _ _ _ _ c.in-RecallsNone.is c.recall_none.ensures

-- src/lib.rt:30:1
pub returns-in-Recalls : goal.returns-in-Recalls
returns-in-Recalls c = λ n o z. recalled_so _ _ _ _ _ _ _ _ _ c.requires.actable _ _ n o z _ _ _ _ _ _ _ _ _ _ _ _ _ c.in-Recalls.is (apt_recalls _ _ _ c.requires.apt _ _ c.in-Recalls.is).0 c.recall.ensures
