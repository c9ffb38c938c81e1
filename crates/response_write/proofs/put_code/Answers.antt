use mathlib.Core.Path.{refl}
use native.Mathlib.Omega.{arith}
use Rattle.chars.specs.Words.{crlf}
use Rattle.codes.specs.Codes.{long_text}
use Rattle.text_put.proofs.Laws.{three}
use Rattle.response_write.proofs.put_code.Goals as goal

pub returns : goal.returns
returns c =
    let a = c.args in
    three a.out.now a.tag.now (long_text a.code) crlf a.at
    c.bytes.ensures c.long_code.ensures c.bytes-2.ensures refl (omega (arith, c.requires.0))
