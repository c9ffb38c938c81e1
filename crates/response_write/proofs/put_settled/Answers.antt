use mathlib.Core.Path.{refl, ap, ◌∙◌}
use mathlib.Core.List.{◌++◌}
use native.Mathlib.Omega.{arith}
use lib.Seq.{sets}
use Rattle.chars.specs.Words.{bytes, crlf}
use Rattle.text_put.proofs.Laws.{then, three, digits_length}
use Rattle.text_put.specs.Digits.{digits_of}
use Rattle.response_write.proofs.Laws.{settled_pieces}
use lib.ListN.{length-append}
use Rattle.dates.specs.Dates.{date_of}
use Rattle.clock.specs.Clock.{hhmmss_of}
use Rattle.response_write.proofs.put_settled.Goals as goal

pub returns : goal.returns
returns c =
    let a = c.args in
    let d = digits_of 6 (date_of a.day) in
    let t = digits_of 6 (hhmmss_of a.second) in
    let o₂ = rw c.date_of.ensures at c.digits.ensures in
    let o₃ = rw c.hhmmss_of.ensures at c.digits-2.ensures in
    let three₃ = three a.out.now (bytes ":451:0\r\n:13E:") d t a.at c.bytes.ensures o₂ o₃ refl (omega (arith, digits_length 6 (date_of a.day))) in
    then a.out.now (bytes ":451:0\r\n:13E:" ++ (d ++ t)) crlf a.at three₃ c.bytes-2.ensures (simp (length-append, digits_length) (omega arith))
    ∙ ap (sets a.out.now a.at) (settled_pieces a.day a.second)
