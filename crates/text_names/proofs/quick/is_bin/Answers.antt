use native.Mathlib.Omega.{arith}
use Rattle.text_names.proofs.quick.Laws.{plain_bin}
use Rattle.text_names.proofs.quick.is_bin.Goals as goal

pub returns : goal.returns
returns c = plain_bin c.args.c (omega arith) (omega arith) c.if-c-ne0.false c.are_digits.ensures c.if-not-are_digits.false (rw c.stream_of.ensures at c.are_codes.ensures) c.if-not-are_codes.false
