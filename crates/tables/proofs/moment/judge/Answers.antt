use Rattle.tables.proofs.MomentLaws.{judged_wrong, judged_short, judged_done}
use Rattle.tables.proofs.moment.judge.Goals as goal

pub returns-then-not-right_moment : goal.returns-then-not-right_moment
returns-then-not-right_moment c = search judged_wrong

pub returns-then-not-has_room : goal.returns-then-not-has_room
returns-then-not-has_room c = search judged_short

pub returns : goal.returns
returns c = search judged_done
