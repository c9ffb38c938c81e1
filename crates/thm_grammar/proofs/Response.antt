-- The part of each field of a response that was read is the value of its line.
use Rattle.text_fields.specs.declared.Break.{Break}
use Rattle.response_write.specs.declared.Outcome.{Outcome}
use Rattle.response_write.specs.declared.Answer.{Answer}
use Rattle.std.specs.Prelude.{Option, Some, None, Result, Ok, Err}
use Prim.Native.Nat.{ℕ, ◌+◌, ◌/◌, ◌%◌, ◌≤◌}
use mathlib.Core.Path.{◌≡◌, refl, ap, sym, subst, ◌∙◌}
use mathlib.Core.List.{List, ◌++◌}
use mathlib.Core.Bool.{Bool, true, false, cond}
use native.Mathlib.Omega.{arith}
use borrow.Author.Tests.{eqb-true}
use lib.Dec.{eqb, ltb}
use lib.ListN.{length, drop}
use Rattle.chars.specs.Words.{bytes, crlf}
use Rattle.chars.specs.declared.Refusal.TheVariants.{OtherSubType}
use Rattle.clock.specs.Clock.{second_of}
use Rattle.clock.proofs.Laws.{second_back}
use Rattle.codes.specs.Codes.{long_of, long_text}
use Rattle.dates.specs.Dates.{day_of, date_of}
use Rattle.dates.proofs.Laws.{day_back}
use Rattle.text_put.specs.Digits.{digits_of}
use Rattle.text_scan.specs.Scan.{on_next, lit_at}
use Rattle.text_scan.specs.declared.Cursor.{Cursor}
use Rattle.text_scan.specs.Spelling.{value_of}
use Rattle.text_values.specs.Values.{no_part, text_of, code_of, on_day}
use Rattle.text_values.specs.declared.Part.{Part}
use Rattle.text_values.proofs.Alike.{by_cond}
use Rattle.text_values.specs.Grammar.{IsBin}
use Rattle.text_fields.specs.Fields.{absent, broken, wrong, item, on_good, field_at}
use Rattle.text_fields.proofs.Grammar.{line_text_lem}
use Rattle.text_fields.specs.declared.Item.{Item}
use Rattle.text_fields.specs.declared.Kind.TheVariants.{Empty, Reference, Numeral, Word, Bin}
use Rattle.response_read.specs.Reply.{on_second, on_of, on_how, on_with, ending, refused, response_number_at, request_reference_at, batch_at, settled_at, rejected_at, ended_at, answer_at, settlement_of, recall_of, settlement_at, recall_at, head, response_at}
use Rattle.response_read.specs.declared.Head.{Head}
use Rattle.response_read.specs.declared.Batch.{Batch}
use Rattle.response_read.specs.declared.ReadResponse.{ReadResponse}
use Rattle.response_write.specs.declared.Outcome.TheVariants.{Settled, Rejected}
use Rattle.response_write.specs.declared.Answer.TheVariants.{Recalled, Kept}
use Rattle.response_read.proofs.Digits.{digits_back, moment_digits, code_bytes}
use Rattle.response_read.proofs.RoundTrip.{zero_status, one_status}
use Rattle.thm_grammar.specs.Response.{BatchParts, OutcomeParts, AnswerParts, ReplyParts}
use Rattle.thm_grammar.proofs.Meanings.{part_is, line_read}
use Rattle.thm_grammar.proofs.Payments.{no_text}
use Rattle.thm_grammar.proofs.Values.{spells, spells_four, bin_codes}

module _ (s : List ℕ) where
  numeral_part : (at : ℕ) (tag : List ℕ) (n : ℕ) → n ≤ 16 → {i : Item} {c : Cursor} → field_at s at tag (Numeral n) ≡ Ok (i, c) → text_of s i.part ≡ digits_of n i.number
  numeral_part at tag n m q =
      let g = line_read s at tag (Numeral n) 0 m q in
      let v = g.line.value in
      g.text ∙ sym (ap (digits_of n) g.means ∙ ap (λ (k : ℕ). digits_of k (value_of 0 v)) (sym g.line.is.size) ∙ digits_back v g.line.is.all)

  -- 20, with its `B`
  abbrev NumberPart : Result (Item × Cursor) Break → Type 0
  NumberPart (Ok (i, c)) = text_of s i.part ≡ bytes "B" ++ digits_of 7 i.number
  NumberPart (Err b) = Unit {0}

  number_part : NumberPart (response_number_at s)
  unfolding response_number_at
  number_part = go (lit_at s 0 (bytes ":20:"))
    where
      read : (a : ℕ) (x : Result (Item × Cursor) Break) → field_at s a (bytes "B") (Numeral 7) ≡ x → NumberPart (on_good x (λ b. Err (wrong 0)) (λ i c. Ok (item a i.part.end i.number, c)))
      read a (Ok (i, c)) q =
          let g = line_read s a (bytes "B") (Numeral 7) 0 (omega arith) q in
          let v = g.line.value in
          let z : i.part.end ≡ a + length (bytes "B" ++ v) = ap (λ (p : Part). p.end) g.span ∙ omega arith in
          part_is s a i.part.end (bytes "B" ++ v) (crlf ++ drop c.at s) (line_text_lem g.line) z ∙ ap (λ (l : List ℕ). bytes "B" ++ l) (sym g.text ∙ numeral_part a (bytes "B") 7 (omega arith) q)
      read a (Err b) q = tt

      go : (r : Option ℕ) → NumberPart (on_next r (Err (absent 0)) (λ a. on_good (field_at s a (bytes "B") (Numeral 7)) (λ b. Err (wrong 0)) (λ i c. Ok (item a i.part.end i.number, c))))
      go (Some a) = read a (field_at s a (bytes "B") (Numeral 7)) refl
      go None = tt

  -- 21
  abbrev NamePart : Result (Item × Cursor) Break → Type 0
  NamePart (Ok (i, c)) = text_of s i.part ≡ long_text (code_of s i.part)
  NamePart (Err b) = Unit {0}

  name_part : (at : ℕ) → NamePart (request_reference_at s at)
  unfolding request_reference_at code_of
  name_part at = go (field_at s at (bytes ":77E:") Empty)
    where
      read : (p : ℕ) (x : Result (Item × Cursor) Break) → field_at s p (bytes ":21:") Reference ≡ x → NamePart x
      read p (Ok (i, c)) q =
          let g = line_read s p (bytes ":21:") Reference 0 tt q in
          g.text ∙ sym (spells g.line.value g.line.is.most g.line.is.all (ap long_of g.text)).text
      read p (Err b) q = tt

      go : (x : Result (Item × Cursor) Break) → NamePart (on_good x Err (λ i c. field_at s c.at (bytes ":21:") Reference))
      go (Ok (i, c)) = read c.at (field_at s c.at (bytes ":21:") Reference) refl
      go (Err b) = tt

  -- 22A and 119
  abbrev Batch-parts : Result (Batch × Cursor) Break → Type 0
  Batch-parts (Ok (b, c)) = BatchParts s b.stream.number (code_of s b.bin.part) b.stream.part b.bin.part
  Batch-parts (Err b) = Unit {0}

  batch_parts : (at : ℕ) → Batch-parts (batch_at s at)
  unfolding batch_at code_of
  batch_parts at = go (field_at s at (bytes ":22A:") (Word 4)) refl
    where
      binned : (i : Item) (d : Cursor) → field_at s at (bytes ":22A:") (Word 4) ≡ Ok (i, d) → (x : Result (Item × Cursor) Break) → field_at s d.at (bytes ":119:") (Bin i.part) ≡ x → Batch-parts (on_good x Err (λ bin e. Ok (record { stream = i; bin = bin }, e)))
      binned i d q (Ok (j, e)) r =
          let g = line_read s at (bytes ":22A:") (Word 4) 0 (omega arith) q in
          let v = g.line.value in
          let w : i.part.end ≡ i.part.start + 4 = rw g.span (omega (arith, g.line.is.size)) in
          let k = line_read s d.at (bytes ":119:") (Bin i.part) i.part.end (omega arith, omega (arith, w)) r in
          let b = bin_codes g.line.is (subst (λ (l : List ℕ). IsBin l k.line.value) g.text k.line.is) in
          record { stream_part = g.text ∙ sym (spells_four v g.line.is.size (code_bytes v g.line.is.all) (g.means refl)).text; bin_part = k.text ∙ sym (spells k.line.value (omega (arith, b.0)) b.1 (ap long_of k.text)).text }
      binned i d q (Err b) r = tt

      go : (x : Result (Item × Cursor) Break) → field_at s at (bytes ":22A:") (Word 4) ≡ x → Batch-parts (on_good x Err (λ i d. on_good (field_at s d.at (bytes ":119:") (Bin i.part)) Err (λ bin e. Ok (record { stream = i; bin = bin }, e))))
      go (Ok (i, d)) q = binned i d q (field_at s d.at (bytes ":119:") (Bin i.part)) refl
      go (Err b) q = tt

  -- 451, and 13E or 432
  status_part : (at n : ℕ) (v : List ℕ) {i : Item} {c : Cursor} → field_at s at (bytes ":451:") (Numeral 1) ≡ Ok (i, c) → eqb i.number n ≡ true → v ≡ digits_of 1 n → text_of s i.part ≡ v
  status_part at n v {i} q e d = numeral_part at (bytes ":451:") 1 (omega arith) q ∙ ap (digits_of 1) (eqb-true i.number n e) ∙ sym d

  abbrev Outcome-parts : Result (Outcome × Part × Part × Cursor) Break → Type 0
  Outcome-parts (Ok (o, p, q, c)) = OutcomeParts s o p q
  Outcome-parts (Err b) = Unit {0}

  settled_parts : (at : ℕ) (status : Part) → text_of s status ≡ bytes "0" → Outcome-parts (settled_at s at status)
  unfolding settled_at
  settled_parts at status h = go (field_at s at (bytes ":13E:") (Numeral 12)) refl
    where
      second : (i : Item) (c : Cursor) → field_at s at (bytes ":13E:") (Numeral 12) ≡ Ok (i, c) → (k : ℕ) → day_of (i.number / 1000000) ≡ Some k → (t : Option ℕ) → second_of (i.number % 1000000) ≡ t → Outcome-parts (on_second t (Err (wrong at)) (λ m. Ok (Settled k m, status, i.part, c)))
      second i c q k e (Some m) f = record {
        status_part = h;
        detail_part = numeral_part at (bytes ":13E:") 12 (omega arith) q ∙ moment_digits i.number ∙ ap (λ (l : ℕ). digits_of 6 l ++ digits_of 6 (i.number % 1000000)) (sym (day_back (i.number / 1000000) k e).0) ∙ ap (λ (l : ℕ). digits_of 6 (date_of k) ++ digits_of 6 l) (sym (second_back (i.number % 1000000) m f).0);
      }
      second i c q k e None f = tt

      day : (i : Item) (c : Cursor) → field_at s at (bytes ":13E:") (Numeral 12) ≡ Ok (i, c) → (x : Option ℕ) → day_of (i.number / 1000000) ≡ x → Outcome-parts (on_day x (Err (wrong at)) (λ k. on_second (second_of (i.number % 1000000)) (Err (wrong at)) (λ m. Ok (Settled k m, status, i.part, c))))
      day i c q (Some k) e = second i c q k e (second_of (i.number % 1000000)) refl
      day i c q None e = tt

      go : (x : Result (Item × Cursor) Break) → field_at s at (bytes ":13E:") (Numeral 12) ≡ x → Outcome-parts (on_good x Err (λ i c. on_day (day_of (i.number / 1000000)) (Err (wrong at)) (λ k. on_second (second_of (i.number % 1000000)) (Err (wrong at)) (λ m. Ok (Settled k m, status, i.part, c)))))
      go (Ok (i, c)) q = day i c q (day_of (i.number / 1000000)) refl
      go (Err b) q = tt

  rejected_parts : (at : ℕ) (status : Part) → text_of s status ≡ bytes "1" → Outcome-parts (rejected_at s at status)
  unfolding rejected_at
  rejected_parts at status h = go (field_at s at (bytes ":432:") (Numeral 2)) refl
    where
      go : (x : Result (Item × Cursor) Break) → field_at s at (bytes ":432:") (Numeral 2) ≡ x → Outcome-parts (on_good x Err (λ i c. Ok (Rejected i.number, status, i.part, c)))
      go (Ok (i, c)) q = record { status_part = h; detail_part = numeral_part at (bytes ":432:") 2 (omega arith) q }
      go (Err b) q = tt

  outcome_parts : (at : ℕ) → Outcome-parts (ended_at s at)
  unfolding ended_at
  outcome_parts at = go (field_at s at (bytes ":451:") (Numeral 1)) refl
    where
      by_status_lem : (i : Item) (c : Cursor) → field_at s at (bytes ":451:") (Numeral 1) ≡ Ok (i, c) → (x y : Bool) → eqb i.number 0 ≡ x → eqb i.number 1 ≡ y → Outcome-parts (cond x (settled_at s c.at i.part) (cond y (rejected_at s c.at i.part) (Err (wrong at))))
      by_status_lem i c q true y e f = settled_parts c.at i.part (status_part at 0 (bytes "0") q e zero_status)
      by_status_lem i c q false true e f = rejected_parts c.at i.part (status_part at 1 (bytes "1") q f one_status)
      by_status_lem i c q false false e f = tt

      go : (x : Result (Item × Cursor) Break) → field_at s at (bytes ":451:") (Numeral 1) ≡ x → Outcome-parts (on_good x Err (λ i c. cond (eqb i.number 0) (settled_at s c.at i.part) (cond (eqb i.number 1) (rejected_at s c.at i.part) (Err (wrong at)))))
      go (Ok (i, c)) q = by_status_lem i c q (eqb i.number 0) (eqb i.number 1) refl refl
      go (Err b) q = tt

  abbrev Answer-parts : Result (Answer × Part × Part × Cursor) Break → Type 0
  Answer-parts (Ok (a, p, q, c)) = AnswerParts s a p q
  Answer-parts (Err b) = Unit {0}

  answer_parts : (at : ℕ) → Answer-parts (answer_at s at)
  unfolding answer_at
  answer_parts at = go (field_at s at (bytes ":451:") (Numeral 1)) refl
    where
      kept : (i : Item) (c : Cursor) → text_of s i.part ≡ bytes "1" → (x : Result (Item × Cursor) Break) → field_at s c.at (bytes ":432:") (Numeral 2) ≡ x → Answer-parts (on_good x Err (λ n d. Ok (Kept n.number, i.part, n.part, d)))
      kept i c h (Ok (n, d)) q = record { status_part = h; detail_part = numeral_part c.at (bytes ":432:") 2 (omega arith) q }
      kept i c h (Err b) q = tt

      by_status_lem : (i : Item) (c : Cursor) → field_at s at (bytes ":451:") (Numeral 1) ≡ Ok (i, c) → (x y : Bool) → eqb i.number 0 ≡ x → eqb i.number 1 ≡ y → Answer-parts (cond x (Ok (Recalled, i.part, no_part, c)) (cond y (on_good (field_at s c.at (bytes ":432:") (Numeral 2)) Err (λ n d. Ok (Kept n.number, i.part, n.part, d))) (Err (wrong at))))
      by_status_lem i c q true y e f = record { status_part = status_part at 0 (bytes "0") q e zero_status; detail_part = no_text s }
      by_status_lem i c q false true e f = kept i c (status_part at 1 (bytes "1") q f one_status) (field_at s c.at (bytes ":432:") (Numeral 2)) refl
      by_status_lem i c q false false e f = tt

      go : (x : Result (Item × Cursor) Break) → field_at s at (bytes ":451:") (Numeral 1) ≡ x → Answer-parts (on_good x Err (λ i c. cond (eqb i.number 0) (Ok (Recalled, i.part, no_part, c)) (cond (eqb i.number 1) (on_good (field_at s c.at (bytes ":432:") (Numeral 2)) Err (λ n d. Ok (Kept n.number, i.part, n.part, d))) (Err (wrong at)))))
      go (Ok (i, c)) q = by_status_lem i c q (eqb i.number 0) (eqb i.number 1) refl refl
      go (Err b) q = tt

  -- the whole
  abbrev Holds : ReadResponse → Type 0
  Holds r = ReplyParts s r.reply r.parts

  ending_parts : (at : ℕ) (r : ReadResponse) → Holds r → Holds (ending s at r)
  ending_parts at r h = by_cond Holds (ltb at (length s)) tt h

  module _ (h : Head) (first : text_of s h.number.part ≡ bytes "B" ++ digits_of 7 h.number.number) where
    settlement_parts : text_of s h.subtype.part ≡ digits_of 3 132 → (at : ℕ) → Holds (settlement_at s at h)
    unfolding settlement_at settlement_of
    settlement_parts kind at = go₁ (request_reference_at s at) (name_part at)
      where
        go₃ : (i : Item) → text_of s i.part ≡ long_text (code_of s i.part) → (b : Batch) → BatchParts s b.stream.number (code_of s b.bin.part) b.stream.part b.bin.part → (x : Result (Outcome × Part × Part × Cursor) Break) → Outcome-parts x → Holds (on_how x refused (λ o status detail e. ending s e.at (settlement_of s h i b o status detail)))
        go₃ i u b v (Ok (o, p, q, e)) w = ending_parts e.at (settlement_of s h i b o p q) (record { head = record { number_part = first; subtype_part = kind; reference_part = u }; batch = v; outcome = w })
        go₃ i u b v (Err d) w = tt

        go₂ : (i : Item) → text_of s i.part ≡ long_text (code_of s i.part) → (x : Result (Batch × Cursor) Break) → Batch-parts x → Holds (on_of x refused (λ b d. on_how (ended_at s d.at) refused (λ o status detail e. ending s e.at (settlement_of s h i b o status detail))))
        go₂ i u (Ok (b, d)) v = go₃ i u b v (ended_at s d.at) (outcome_parts d.at)
        go₂ i u (Err d) v = tt

        go₁ : (x : Result (Item × Cursor) Break) → NamePart x → Holds (on_good x refused (λ i c. on_of (batch_at s c.at) refused (λ b d. on_how (ended_at s d.at) refused (λ o status detail e. ending s e.at (settlement_of s h i b o status detail)))))
        go₁ (Ok (i, c)) u = go₂ i u (batch_at s c.at) (batch_parts c.at)
        go₁ (Err b) u = tt

    recall_parts : text_of s h.subtype.part ≡ digits_of 3 134 → (at : ℕ) → Holds (recall_at s at h)
    unfolding recall_at recall_of
    recall_parts kind at = go₁ (request_reference_at s at) (name_part at)
      where
        go₂ : (i : Item) → text_of s i.part ≡ long_text (code_of s i.part) → (x : Result (Answer × Part × Part × Cursor) Break) → Answer-parts x → Holds (on_with x refused (λ a status detail d. ending s d.at (recall_of s h i a status detail)))
        go₂ i u (Ok (a, p, q, d)) w = ending_parts d.at (recall_of s h i a p q) (record { head = record { number_part = first; subtype_part = kind; reference_part = u }; stream_part = no_text s; bin_part = no_text s; answer = w })
        go₂ i u (Err d) w = tt

        go₁ : (x : Result (Item × Cursor) Break) → NamePart x → Holds (on_good x refused (λ i c. on_with (answer_at s c.at) refused (λ a status detail d. ending s d.at (recall_of s h i a status detail))))
        go₁ (Ok (i, c)) u = go₂ i u (answer_at s c.at) (answer_parts c.at)
        go₁ (Err b) u = tt

  -- the part of each field is the value of its line
  pub response_parts : ReplyParts s (response_at s).reply (response_at s).parts
  unfolding response_at
  response_parts = go₁ (response_number_at s) number_part
    where
      kind : (i : Item) → text_of s i.part ≡ bytes "B" ++ digits_of 7 i.number → (c : Cursor) (t : Item) (d : Cursor) → field_at s c.at (bytes ":12:") (Numeral 3) ≡ Ok (t, d) → (x y : Bool) → eqb t.number 132 ≡ x → eqb t.number 134 ≡ y → Holds (cond x (settlement_at s d.at (head i t)) (cond y (recall_at s d.at (head i t)) (refused (broken c.at OtherSubType))))
      kind i u c t d q true y e f = settlement_parts (head i t) u (numeral_part c.at (bytes ":12:") 3 (omega arith) q ∙ ap (digits_of 3) (eqb-true t.number 132 e)) d.at
      kind i u c t d q false true e f = recall_parts (head i t) u (numeral_part c.at (bytes ":12:") 3 (omega arith) q ∙ ap (digits_of 3) (eqb-true t.number 134 f)) d.at
      kind i u c t d q false false e f = tt

      go₂ : (i : Item) → text_of s i.part ≡ bytes "B" ++ digits_of 7 i.number → (c : Cursor) (x : Result (Item × Cursor) Break) → field_at s c.at (bytes ":12:") (Numeral 3) ≡ x → Holds (on_good x refused (λ t d. cond (eqb t.number 132) (settlement_at s d.at (head i t)) (cond (eqb t.number 134) (recall_at s d.at (head i t)) (refused (broken c.at OtherSubType)))))
      go₂ i u c (Ok (t, d)) q = kind i u c t d q (eqb t.number 132) (eqb t.number 134) refl refl
      go₂ i u c (Err b) q = tt

      go₁ : (x : Result (Item × Cursor) Break) → NumberPart x → Holds (on_good x refused (λ i c. on_good (field_at s c.at (bytes ":12:") (Numeral 3)) refused (λ t d. cond (eqb t.number 132) (settlement_at s d.at (head i t)) (cond (eqb t.number 134) (recall_at s d.at (head i t)) (refused (broken c.at OtherSubType))))))
      go₁ (Ok (i, c)) u = go₂ i u c (field_at s c.at (bytes ":12:") (Numeral 3)) refl
      go₁ (Err b) u = tt
