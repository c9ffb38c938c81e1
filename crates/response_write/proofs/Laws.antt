-- The lines of a response: their lengths, and how the pieces that are written make them up.
use Prim.Native.Nat.{ℕ, ◌+◌, ◌≤◌}
use mathlib.Core.Path.{◌≡◌, refl}
use mathlib.Core.List.{List, ◌++◌, append_assoc}
use native.Mathlib.Omega.{arith}
use lib.ListN.{length, length-append}
use lib.Seq.{sets}
use Rattle.chars.specs.Words.{bytes, crlf}
use Rattle.codes.specs.Codes.{short_text, long_text}
use Rattle.codes.specs.declared.Code.{Code}
use Rattle.codes.proofs.Laws.{unpack_length}
use Rattle.dates.specs.Dates.{date_of}
use Rattle.clock.specs.Clock.{hhmmss_of}
use Rattle.text_put.specs.Digits.{digits_of}
use Rattle.text_put.proofs.Laws.{then, three, digits_length}
use Rattle.response_write.specs.Texts.{head_text, batch_text, settled_text, rejected_text, outcome_text, settlement_text, answer_text, recall_text}
use Rattle.response_write.specs.declared.Outcome.{Outcome}
use Rattle.response_write.specs.declared.Outcome.TheVariants.{Settled, Rejected}
use Rattle.response_write.specs.declared.Answer.{Answer}
use Rattle.response_write.specs.declared.Answer.TheVariants.{Recalled, Kept}
use Rattle.response_write.specs.declared.Settlement.{Settlement}
use Rattle.response_write.specs.declared.Recall.{Recall}

-- ---- lengths

pub short_length : (v : ℕ) → length (short_text v) ≡ 4
unfolding short_text
short_length v = unpack_length 4 v

pub head_length : (number kind : ℕ) (reference : Code) → length (head_text number kind reference) ≡ 36 + length (long_text reference)
unfolding head_text
head_length number kind reference = simp (length-append, digits_length) (omega arith)

pub batch_length : (stream : ℕ) (bin : Code) → length (batch_text stream bin) ≡ 18 + length (long_text bin)
unfolding batch_text
batch_length stream bin = simp (length-append, short_length) (omega arith)

pub settled_length : (day second : ℕ) → length (settled_text day second) ≡ 27
unfolding settled_text
settled_length day second = simp (length-append, digits_length)

pub rejected_length : (number : ℕ) → length (rejected_text number) ≡ 17
unfolding rejected_text
rejected_length number = simp (length-append, digits_length)

-- ---- pieces

pub settled_pieces : (day second : ℕ) → (bytes ":451:0\r\n:13E:" ++ (digits_of 6 (date_of day) ++ digits_of 6 (hhmmss_of second))) ++ crlf ≡ settled_text day second
unfolding settled_text
settled_pieces day second = simp append_assoc

-- ---- how a text ends

pub settled_end : (o : Outcome) {d s : ℕ} → o ≡ Settled d s → length (outcome_text o) ≡ 27
settled_end o {d = d} {s = s} e = rw e (settled_length d s)

pub rejected_end : (o : Outcome) {n : ℕ} → o ≡ Rejected n → length (outcome_text o) ≡ 17
rejected_end o {n = n} e = rw e (rejected_length n)

pub recalled_end : (a : Answer) → a ≡ Recalled → length (answer_text a) ≡ 8
recalled_end a e = rw e

pub kept_end : (a : Answer) {n : ℕ} → a ≡ Kept n → length (answer_text a) ≡ 17
kept_end a {n = n} e = rw e (rejected_length n)

pub settlement_length : (r : Settlement) {n m k : ℕ} → n ≡ length (long_text r.reference) → m ≡ length (long_text r.bin) → k ≡ length (outcome_text r.outcome)
    → 36 + n + (18 + m) + k ≡ length (settlement_text r)
unfolding settlement_text
settlement_length r p q t =
    simp length-append (omega (arith, p, q, t, head_length r.number 132 r.reference, batch_length r.stream r.bin))

pub recall_length : (r : Recall) {n k : ℕ} → n ≡ length (long_text r.reference) → k ≡ length (answer_text r.answer) → 36 + n + k ≡ length (recall_text r)
unfolding recall_text
recall_length r p t = simp length-append (omega (arith, p, t, head_length r.number 134 r.reference))

pub settlement_pieces : (r : Settlement) (out : List ℕ) (at : ℕ) {n m : ℕ} {o₁ o₂ o₃ : List ℕ} → n ≡ length (long_text r.reference) → m ≡ length (long_text r.bin)
    → o₁ ≡ sets out at (head_text r.number 132 r.reference) → o₂ ≡ sets o₁ (at + (36 + n)) (batch_text r.stream r.bin)
    → o₃ ≡ sets o₂ (at + (36 + n + (18 + m))) (outcome_text r.outcome) → o₃ ≡ sets out at (settlement_text r)
unfolding settlement_text
settlement_pieces r out at p q e f g =
    three out (head_text r.number 132 r.reference) (batch_text r.stream r.bin) (outcome_text r.outcome) at e f g
    (omega (arith, p, head_length r.number 132 r.reference)) (omega (arith, q, batch_length r.stream r.bin))

pub recall_pieces : (r : Recall) (out : List ℕ) (at : ℕ) {n : ℕ} {o₁ o₂ : List ℕ} → n ≡ length (long_text r.reference)
    → o₁ ≡ sets out at (head_text r.number 134 r.reference) → o₂ ≡ sets o₁ (at + (36 + n)) (answer_text r.answer) → o₂ ≡ sets out at (recall_text r)
unfolding recall_text
recall_pieces r out at p e f = then out (head_text r.number 134 r.reference) (answer_text r.answer) at e f (omega (arith, p, head_length r.number 134 r.reference))

-- "A 132 is at most 105 bytes": 16 characters of a reference and 8 of a BIN are the most
pub outcome_most : (o : Outcome) → length (outcome_text o) ≤ 27
outcome_most (Settled day second) = omega (arith, settled_length day second)
outcome_most (Rejected number) = omega (arith, rejected_length number)

pub settlement_most : (r : Settlement) → length (long_text r.reference) ≤ 16 → length (long_text r.bin) ≤ 8 → length (settlement_text r) ≤ 105
settlement_most r p q = omega (arith, settlement_length r refl refl refl, outcome_most r.outcome)
