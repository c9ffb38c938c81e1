use native.Mathlib.Omega.{arith}
use lib.ListN.{length-set}
use Rattle.c_gateway.proofs.books.put_words.Goals as goal

pub bounds-row-1 : goal.bounds-row-1
bounds-row-1 c = simp length-set (omega arith)
