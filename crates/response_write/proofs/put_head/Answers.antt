use mathlib.Core.List.{[], ◌++◌}
use native.Mathlib.Omega.{arith}
use lib.ListN.{length-append}
use Rattle.chars.specs.Words.{bytes, line}
use Rattle.codes.specs.Codes.{long_text}
use Rattle.text_put.proofs.Laws.{then, three, digits_length}
use Rattle.text_put.specs.Digits.{digits_of}
use Rattle.response_write.specs.Texts.{head_text}
use Rattle.response_write.proofs.put_head.Goals as goal

pub returns : goal.returns
unfolding head_text
returns c =
    let a = c.args in
    let number = line (bytes ":20:B") (digits_of 7 a.number) in
    let kind = line (bytes ":12:") (digits_of 3 a.kind) in
    let empty = line (bytes ":77E:") [] in
    let reference = line (bytes ":21:") (long_text a.reference) in
    then a.out.now number (kind ++ (empty ++ reference)) a.at c.put_digits.ensures
    (three _ kind empty reference _ c.put_digits-2.ensures c.bytes.ensures c.put_code.ensures (simp (length-append, digits_length) (omega arith)) (omega arith))
    (simp (length-append, digits_length))
