use Rattle.cli_request.proofs.Laws.{line_is}
use Rattle.cli_request.proofs.line_of.Goals as goal

pub returns : goal.returns
returns c = line_is _ _ c.min.ensures c.feeds.ensures.value
