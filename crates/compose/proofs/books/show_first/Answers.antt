use Rattle.std.proofs.Common.{sym, arith, length-take-le}
use Rattle.compose.proofs.books.show_first.Goals as goal

pub slice_bounds-show-end : goal.slice_bounds-show-end
slice_bounds-show-end c = sym (length-take-le _ _ (omega arith))
