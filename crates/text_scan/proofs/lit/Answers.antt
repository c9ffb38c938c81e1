use native.Mathlib.Omega.{arith}
use Rattle.text_scan.proofs.Laws.{lit_short, match_not, match_on, match_all}
use Rattle.text_scan.proofs.lit.Goals as goal

pub returns-then-saturating_sub-tag : goal.returns-then-saturating_sub-tag
returns-then-saturating_sub-tag c = lit_short c.args.s.now c.args.at c.args.tag.now (omega (arith, c.saturating_sub.ensures))

pub returns-then-s-at : goal.returns-then-s-at
returns-then-s-at c = search match_not

pub loop-i-preserved : goal.loop-i-preserved
loop-i-preserved c = search match_on

pub returns : goal.returns
returns c = search match_all
