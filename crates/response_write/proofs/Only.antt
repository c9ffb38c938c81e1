-- Two outcomes of a writer that satisfy its contract are equal: the answer, and the buffer.
use Rattle.chars.specs.declared.Refusal.{Refusal}
use Rattle.std.specs.Prelude.{Result}
use Prim.Native.Nat.{ℕ}
use mathlib.Core.Path.{◌≡◌, sym, ◌∙◌}
use mathlib.Core.Bool.{Bool}
use mathlib.Core.List.{List}
use Rattle.response_write.specs.Texts.{settlement_text, recall_text}
use Rattle.response_write.specs.Values.{is_settlement, is_recall, Wrote}
use Rattle.response_write.specs.declared.Settlement.{Settlement}
use Rattle.response_write.specs.declared.Recall.{Recall}

one_text : (holds : Bool) (out : List ℕ) (at : ℕ) (text : List ℕ) {w v : Result ℕ Refusal} {o p : List ℕ} → Wrote holds out at text w o → Wrote holds out at text v p → (w ≡ v) × (o ≡ p)
one_text holds out at text f g = (f.0 ∙ sym g.0, f.1 ∙ sym g.1)

pub one_settlement : (out : List ℕ) (at : ℕ) (r : Settlement) {w v : Result ℕ Refusal} {o p : List ℕ} → Wrote (is_settlement r) out at (settlement_text r) w o → Wrote (is_settlement r) out at (settlement_text r) v p → (w ≡ v) × (o ≡ p)
one_settlement out at r = one_text (is_settlement r) out at (settlement_text r)

pub one_recall : (out : List ℕ) (at : ℕ) (r : Recall) {w v : Result ℕ Refusal} {o p : List ℕ} → Wrote (is_recall r) out at (recall_text r) w o → Wrote (is_recall r) out at (recall_text r) v p → (w ≡ v) × (o ≡ p)
one_recall out at r = one_text (is_recall r) out at (recall_text r)
