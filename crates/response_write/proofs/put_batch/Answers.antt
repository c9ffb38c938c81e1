use Rattle.text_put.proofs.Laws.{then}
use Rattle.codes.specs.Codes.{short_text, long_text}
use Rattle.response_write.proofs.Laws.{short_length}
use lib.ListN.{length-append}
use Rattle.chars.specs.Words.{bytes, line}
use Rattle.response_write.specs.Texts.{batch_text}
use Rattle.response_write.proofs.put_batch.Goals as goal

pub returns : goal.returns
unfolding batch_text
returns c =
    let a = c.args in
    then a.out.now (line (bytes ":22A:") (short_text a.stream)) (line (bytes ":119:") (long_text a.bin)) a.at
    c.put_stream.ensures c.put_code.ensures (simp (length-append, short_length))
