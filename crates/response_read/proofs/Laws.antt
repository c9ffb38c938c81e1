-- The steps over a response, by what their parts answer.
use Rattle.std.specs.Prelude.{Option, Some, Result, Ok}
use Prim.Native.Nat.{ℕ, ◌/◌, ◌%◌, ◌≤◌}
use mathlib.Core.Path.{◌≡◌, ◌∙◌}
use mathlib.Core.List.{List}
use borrow.Author.Tests.{eq-eqb, le-ltb}
use lib.ListN.{length}
use Rattle.chars.specs.Words.{bytes}
use Rattle.clock.specs.Clock.{second_of}
use Rattle.dates.specs.Dates.{day_of}
use Rattle.text_scan.specs.Scan.{lit_at}
use Rattle.text_scan.specs.declared.Cursor.{Cursor}
use Rattle.text_values.specs.Values.{no_part}
use Rattle.text_values.specs.declared.Part.{Part}
use Rattle.text_fields.specs.Fields.{item, field_at}
use Rattle.text_fields.specs.declared.Break.{Break}
use Rattle.text_fields.specs.declared.Item.{Item}
use Rattle.text_fields.specs.declared.Kind.TheVariants.{Empty, Reference, Numeral, Word, Bin}
use Rattle.response_write.specs.declared.Outcome.{Outcome}
use Rattle.response_write.specs.declared.Outcome.TheVariants.{Settled, Rejected}
use Rattle.response_write.specs.declared.Answer.{Answer}
use Rattle.response_write.specs.declared.Answer.TheVariants.{Recalled, Kept}
use Rattle.response_read.specs.Reply.{response_number_at, request_reference_at, batch_at, settled_at, rejected_at, ended_at, answer_at, settlement_of, recall_of, settlement_at, recall_at, head, response_at}
use Rattle.response_read.specs.declared.Head.{Head}
use Rattle.response_read.specs.declared.Batch.{Batch}
use Rattle.response_read.specs.declared.ReadResponse.{ReadResponse}

module _ (s : List ℕ) where
  pub number_is : {r : Option ℕ} {a : ℕ} {f : Result (Item × Cursor) Break} {i : Item} {c : Cursor} → r ≡ lit_at s 0 (bytes ":20:") → r ≡ Some a → f ≡ field_at s a (bytes "B") (Numeral 7) → f ≡ Ok (i, c) → Ok (item a i.part.end i.number, c) ≡ response_number_at s
  unfolding response_number_at
  number_is p p' q q' = simp (← p, p', ← q, q')

module _ (s : List ℕ) (at : ℕ) where
  pub reference_is : {f g : Result (Item × Cursor) Break} {i : Item} {c : Cursor} → f ≡ field_at s at (bytes ":77E:") Empty → f ≡ Ok (i, c) → g ≡ field_at s c.at (bytes ":21:") Reference → g ≡ request_reference_at s at
  unfolding request_reference_at
  reference_is p p' q = q ∙ simp (← p, p')

  pub batch_is : {f g : Result (Item × Cursor) Break} {i j : Item} {c d : Cursor} → f ≡ field_at s at (bytes ":22A:") (Word 4) → f ≡ Ok (i, c) → g ≡ field_at s c.at (bytes ":119:") (Bin i.part) → g ≡ Ok (j, d) → Ok (record { stream = i; bin = j }, d) ≡ batch_at s at
  unfolding batch_at
  batch_is p p' q q' = simp (← p, p', ← q, q')

  pub settled_is : (status : Part) {f : Result (Item × Cursor) Break} {i : Item} {c : Cursor} {d : Option ℕ} {k m : ℕ} {t : Option ℕ} → f ≡ field_at s at (bytes ":13E:") (Numeral 12) → f ≡ Ok (i, c) → d ≡ day_of (i.number / 1000000) → d ≡ Some k → t ≡ second_of (i.number % 1000000) → t ≡ Some m → Ok (Settled k m, status, i.part, c) ≡ settled_at s at status
  unfolding settled_at
  settled_is status p p' q q' r r' = simp (← p, p', ← q, q', ← r, r')

  pub rejected_is : (status : Part) {f : Result (Item × Cursor) Break} {i : Item} {c : Cursor} → f ≡ field_at s at (bytes ":432:") (Numeral 2) → f ≡ Ok (i, c) → Ok (Rejected i.number, status, i.part, c) ≡ rejected_at s at status
  unfolding rejected_at
  rejected_is status p p' = simp (← p, p')

  pub ended_settled : {f : Result (Item × Cursor) Break} {i : Item} {c : Cursor} {o : Result (Outcome × Part × Part × Cursor) Break} → f ≡ field_at s at (bytes ":451:") (Numeral 1) → f ≡ Ok (i, c) → i.number ≡ 0 → o ≡ settled_at s c.at i.part → o ≡ ended_at s at
  unfolding ended_at
  ended_settled p p' z o = o ∙ simp (← p, p', eq-eqb _ _ z)

  pub ended_rejected : {f : Result (Item × Cursor) Break} {i : Item} {c : Cursor} {o : Result (Outcome × Part × Part × Cursor) Break} → f ≡ field_at s at (bytes ":451:") (Numeral 1) → f ≡ Ok (i, c) → i.number ≡ 1 → o ≡ rejected_at s c.at i.part → o ≡ ended_at s at
  unfolding ended_at
  ended_rejected p p' z o = o ∙ simp (← p, p', z)

  pub answer_recalled : {f : Result (Item × Cursor) Break} {i : Item} {c : Cursor} {d : Part} → f ≡ field_at s at (bytes ":451:") (Numeral 1) → f ≡ Ok (i, c) → i.number ≡ 0 → d ≡ no_part → Ok (Recalled, i.part, d, c) ≡ answer_at s at
  unfolding answer_at
  answer_recalled p p' z d = simp (← p, p', eq-eqb _ _ z, d)

  pub answer_kept : {f g : Result (Item × Cursor) Break} {i j : Item} {c d : Cursor} → f ≡ field_at s at (bytes ":451:") (Numeral 1) → f ≡ Ok (i, c) → i.number ≡ 1 → g ≡ field_at s c.at (bytes ":432:") (Numeral 2) → g ≡ Ok (j, d) → Ok (Kept j.number, i.part, j.part, d) ≡ answer_at s at
  unfolding answer_at
  answer_kept p p' z q q' = simp (← p, p', z, ← q, q')

  module _ (h : Head) where
    pub settlement_is : {f : Result (Item × Cursor) Break} {i : Item} {c d n : Cursor} {g : Result (Batch × Cursor) Break} {x : Batch} {e : Result (Outcome × Part × Part × Cursor) Break} {y : Outcome} {t u : Part} {o : ReadResponse} → f ≡ request_reference_at s at → f ≡ Ok (i, c) → g ≡ batch_at s c.at → g ≡ Ok (x, d) → e ≡ ended_at s d.at → e ≡ Ok (y, t, u, n) → length s ≤ n.at → o ≡ settlement_of s h i x y t u → o ≡ settlement_at s at h
    unfolding settlement_at
    settlement_is p p' q q' r r' l o = o ∙ simp (← p, p', ← q, q', ← r, r', le-ltb _ _ l)

    pub recall_is : {f : Result (Item × Cursor) Break} {i : Item} {c n : Cursor} {e : Result (Answer × Part × Part × Cursor) Break} {y : Answer} {t u : Part} {o : ReadResponse} → f ≡ request_reference_at s at → f ≡ Ok (i, c) → e ≡ answer_at s c.at → e ≡ Ok (y, t, u, n) → length s ≤ n.at → o ≡ recall_of s h i y t u → o ≡ recall_at s at h
    unfolding recall_at
    recall_is p p' r r' l o = o ∙ simp (← p, p', ← r, r', le-ltb _ _ l)

module _ (s : List ℕ) where
  pub response_settlement : {f g : Result (Item × Cursor) Break} {i t : Item} {c d : Cursor} {o : ReadResponse} → f ≡ response_number_at s → f ≡ Ok (i, c) → g ≡ field_at s c.at (bytes ":12:") (Numeral 3) → g ≡ Ok (t, d) → t.number ≡ 132 → o ≡ settlement_at s d.at (head i t) → o ≡ response_at s
  unfolding response_at
  response_settlement p p' q q' z o = o ∙ simp (← p, p', ← q, q', eq-eqb _ _ z)

  pub response_recall : {f g : Result (Item × Cursor) Break} {i t : Item} {c d : Cursor} {o : ReadResponse} → f ≡ response_number_at s → f ≡ Ok (i, c) → g ≡ field_at s c.at (bytes ":12:") (Numeral 3) → g ≡ Ok (t, d) → t.number ≡ 134 → o ≡ recall_at s d.at (head i t) → o ≡ response_at s
  unfolding response_at
  response_recall p p' q q' z o = o ∙ simp (← p, p', ← q, q') (simp z)
