use mathlib.Core.Path.{refl}
use native.Mathlib.Omega.{arith}
use Rattle.chars.specs.Words.{bytes, crlf}
use Rattle.text_put.proofs.Laws.{three}
use Rattle.codes.specs.Codes.{short_text}
use Rattle.response_write.proofs.Laws.{short_length}
use Rattle.response_write.proofs.put_stream.Goals as goal

pub returns : goal.returns
returns c =
    let a = c.args in
    three a.out.now (bytes ":22A:") (short_text a.stream) crlf a.at
    c.bytes.ensures c.short_code.ensures c.bytes-2.ensures refl (omega (arith, short_length a.stream))
