-- "Only a noted message is answered by a text, once". A reply is a text before it has its number.
use Rattle.std.specs.Prelude.{ℕ, ◌+◌, List, [], ◌∷◌, ◌++◌}
use Rattle.codes.specs.declared.Code.{Code}
pub use Rattle.text_names.specs.rules.Names.{bin_stream}
use Rattle.response_write.specs.Texts.{settlement_text, recall_text}
use Rattle.response_write.specs.declared.Outcome.{Outcome}
use Rattle.response_write.specs.declared.Answer.{Answer}
use Rattle.model.specs.State.{Message}

pub data Reply : Type 0 where
  -- 132: to a message of the batch with this BIN
  settlement : (reference bin : Code) → Outcome → Reply
  -- 134: to a recall
  recall : (reference : Code) → Answer → Reply

-- "a batch's in arrival order"
unfoldable pub replies_to : List Message → Code → Outcome → List Reply
replies_to [] bin o = []
replies_to (m ∷ ms) bin o = settlement m.reference bin o ∷ replies_to ms bin o

unfoldable pub text_of : ℕ → Reply → List ℕ
text_of n (settlement r b o) = settlement_text (record { number = n; reference = r; stream = bin_stream b; bin = b; outcome = o })
text_of n (recall r a) = recall_text (record { number = n; reference = r; answer = a })

-- "Texts follow one another"; "0000001 first each day": n texts were written today before these
unfoldable pub texts_from : ℕ → List Reply → List ℕ
texts_from n [] = []
texts_from n (r ∷ rs) = text_of (n + 1) r ++ texts_from (n + 1) rs
