use Rattle.call_plan.proofs.rules.LineLaws.{bank_inside}
use Rattle.call_plan.proofs.rules.banks.Banks.standing.Goals as goal

pub is_suspended-requires : goal.is_suspended-requires
is_suspended-requires c = bank_inside c.args.self.now.count c.args.self.now.codes.now c.args.code c.bank_place.result _ c.in_ok-p.p c.bank_place.ensures c.ok_or.ensures.value c.in_ok-p.was

pub is_member-requires : goal.is_member-requires
is_member-requires c = bank_inside c.args.self.now.count c.args.self.now.codes.now c.args.code c.bank_place.result _ c.in_ok-p.p c.bank_place.ensures c.ok_or.ensures.value c.in_ok-p.was
