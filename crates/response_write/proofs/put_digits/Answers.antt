use mathlib.Core.Path.{refl}
use native.Mathlib.Omega.{arith}
use Rattle.chars.specs.Words.{crlf}
use Rattle.text_put.proofs.Laws.{three, digits_length}
use Rattle.text_put.specs.Digits.{digits_of}
use Rattle.response_write.proofs.put_digits.Goals as goal

pub returns : goal.returns
returns c =
    let a = c.args in
    three a.out.now a.tag.now (digits_of a.k a.v) crlf a.at
    c.bytes.ensures c.digits.ensures c.bytes-2.ensures refl (omega (arith, digits_length a.k a.v))
