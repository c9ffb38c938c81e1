use Rattle.cli_request.proofs.RefusalLaws.{line_in_head, line_at_once, line_of_minute, line_behind}
use Rattle.cli_request.proofs.refusals.account_line.Goals as goal

pub returns-then-line-lt8 : goal.returns-then-line-lt8
returns-then-line-lt8 c = search line_in_head

pub returns-then-line-eq8 : goal.returns-then-line-eq8
returns-then-line-eq8 c = search line_of_minute

pub returns-in-AtOnce : goal.returns-in-AtOnce
returns-in-AtOnce c = search line_at_once

pub returns-else-line-eq8 : goal.returns-else-line-eq8
returns-else-line-eq8 c = search line_behind
