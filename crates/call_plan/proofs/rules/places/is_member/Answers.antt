use borrow.Author.Rules.{rules}
use Rattle.call_plan.proofs.rules.PlaceLaws.{member_bit}
use Rattle.call_plan.proofs.rules.places.is_member.Goals as goal

pub returns : goal.returns
returns c = search (rules, member_bit)
