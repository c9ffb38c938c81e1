use Rattle.std.proofs.Common.{sym, arith, length-take-le}
use Rattle.compose.proofs.compose_at.Goals as goal

pub slice_bounds-compose-end : goal.slice_bounds-compose-end
slice_bounds-compose-end c = sym (length-take-le _ _ (omega arith))
