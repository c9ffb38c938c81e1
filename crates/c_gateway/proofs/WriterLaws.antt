-- The writers of rows: one law for each return.
use Rattle.std.specs.Prelude.{Result, Ok, Err}
use Prim.Native.Nat.{ℕ, ◌+◌, ◌*◌, ◌≤◌, ◌<◌}
use mathlib.Core.Path.{◌≡◌, refl, sym}
use mathlib.Core.Bool.{Bool, true, false, not, ◌&&◌}
use mathlib.Core.List.{List, [], ◌∷◌}
use native.Mathlib.Nat.{add-zero}
use borrow.Author.Tests.{le-leb, lt-leb, ne_eqb, not-true, not-false}
use lib.Dec.{leb}
use lib.ListN.{length, get_or, set, get_or-eq_default}
use Rattle.chars.specs.Refusals.{number_of}
use Rattle.chars.specs.declared.Refusal.{Refusal}
use Rattle.chars.specs.declared.Refusal.TheVariants.{ShortBuffer, Malformed, OtherSubType}
use Rattle.codes.specs.declared.Code.{Code}
use Rattle.dates.specs.Dates.{date_of}
use Rattle.request_read.specs.declared.terms.Activation.{Activation}
use Rattle.request_read.specs.declared.terms.Activation.TheVariants.{AtOnce, Minute}
use Rattle.response_write.specs.Texts.{settlement_text, recall_text}
use Rattle.response_write.specs.Values.{is_settlement, is_recall, Wrote}
use Rattle.response_write.specs.declared.Outcome.{Outcome}
use Rattle.response_write.specs.declared.Outcome.TheVariants.{Settled, Rejected}
use Rattle.response_write.specs.declared.Answer.{Answer}
use Rattle.response_write.specs.declared.Answer.TheVariants.{Recalled, Kept}
use Rattle.response_write.specs.declared.Settlement.{Settlement}
use Rattle.response_write.specs.declared.Recall.{Recall}
use Rattle.request_write.specs.Orders.{Wrote as WroteOrder}
use Rattle.request_write.specs.declared.Payable.{Payable}
use Rattle.request_write.specs.declared.Order.{Order}
use Rattle.request_write.specs.declared.Side.{Side}
use Rattle.request_write.specs.declared.Side.TheVariants.{Credit, Debit}
use Rattle.c_gateway.specs.Writers.{value_in, second_in, code_in, activation_in, side_in, payable_in, payables_in, order_in, outcome_in, answer_in, settlement_in, recall_in, number_by, told_by, order_written, order_left, has_status, holds_settlement, holds_recall, response_written, response_left, is_ready, number_for, left_for, told_for}

-- ---- the values of a row

module _ (row : List ℕ) where
  pub word_past : (at : ℕ) → length row ≤ at → 0 ≡ get_or row at 0
  word_past at h = sym (get_or-eq_default row 0 h)

  pub code_made : (at : ℕ) {v w : ℕ} → v ≡ value_in row at → w ≡ second_in row at → record { high = v; low = w } ≡ code_in row at
  code_made at p q = simp (p, q)

  pub at_once : {v : ℕ} → v ≡ second_in row 24 → v ≡ 0 → AtOnce ≡ activation_in row
  unfolding activation_in
  at_once p e = simp (← p, e)

  pub from_minute : {v m : ℕ} → v ≡ second_in row 24 → (v ≡ 0 → ⊥) → m ≡ value_in row 24 → Minute m ≡ activation_in row
  unfolding activation_in
  from_minute p n q = simp (← p, ne_eqb _ _ n, ← q)

  pub credit_side : (at : ℕ) {v : ℕ} → v ≡ value_in row (at + 0) → v ≡ 0 → Credit ≡ side_in row at
  unfolding side_in
  credit_side at p e = simp (← (simp add-zero at p), e)

  pub debit_side : (at : ℕ) {v l : ℕ} → v ≡ value_in row (at + 0) → (v ≡ 0 → ⊥) → l ≡ value_in row (at + 8) → Debit l ≡ side_in row at
  unfolding side_in
  debit_side at p n q = simp (← (simp add-zero at p), ne_eqb _ _ n, ← q)

  pub payable_made : (k : ℕ) {s : Side} {c b : ℕ} → s ≡ side_in row (32 + 16 * k) → c ≡ value_in row (32 + 16 * k + 4) → b ≡ value_in row (32 + 16 * k + 12) → record { side = s; cents = c; bank = b } ≡ payable_in row k
  unfolding payable_in
  payable_made k p q r = simp (p, q, r)

  pub payables_made : {a b c d e f g h i j : Payable} → a ≡ payable_in row 0 → b ≡ payable_in row 1 → c ≡ payable_in row 2 → d ≡ payable_in row 3 → e ≡ payable_in row 4 → f ≡ payable_in row 5 → g ≡ payable_in row 6 → h ≡ payable_in row 7 → i ≡ payable_in row 8 → j ≡ payable_in row 9
      → (a ∷ b ∷ c ∷ d ∷ e ∷ f ∷ g ∷ h ∷ i ∷ j ∷ []) ≡ payables_in row
  payables_made p₀ p₁ p₂ p₃ p₄ p₅ p₆ p₇ p₈ p₉ = simp (p₀, p₁, p₂, p₃, p₄, p₅, p₆, p₇, p₈, p₉)

  pub order_made : {t s n m d y k : ℕ} {r b : Code} {a : Activation} {l : List Payable} → t ≡ value_in row 4 → r ≡ code_in row 0 → s ≡ value_in row 8 → b ≡ code_in row 12 → n ≡ value_in row 16 → m ≡ second_in row 16 → y ≡ value_in row 20 → d ≡ date_of y
      → a ≡ activation_in row → l ≡ payables_in row → k ≡ value_in row 28 → record { subtype = t; reference = r; stream = s; bin = b; number = n; count = m; date = d; activation = a; payments = l; n = k } ≡ order_in row
  unfolding order_in
  order_made p₀ p₁ p₂ p₃ p₄ p₅ p₆ p₇ p₈ p₉ p = simp (p₀, p₁, p₂, p₃, p₄, p₅, p₇, p₆, p₈, p₉, p)

  pub settled_outcome : {v d s : ℕ} → v ≡ value_in row 20 → v ≡ 0 → d ≡ value_in row 24 → s ≡ second_in row 24 → Settled d s ≡ outcome_in row
  unfolding outcome_in
  settled_outcome p e q r = simp (← p, e, ← q, ← r)

  pub rejected_outcome : {v n : ℕ} → v ≡ value_in row 20 → (v ≡ 0 → ⊥) → n ≡ value_in row 24 → Rejected n ≡ outcome_in row
  unfolding outcome_in
  rejected_outcome p e q = simp (← p, ne_eqb _ _ e, ← q)

  pub recalled_answer : {v : ℕ} → v ≡ value_in row 20 → v ≡ 0 → Recalled ≡ answer_in row
  unfolding answer_in
  recalled_answer p e = simp (← p, e)

  pub kept_answer : {v n : ℕ} → v ≡ value_in row 20 → (v ≡ 0 → ⊥) → n ≡ value_in row 24 → Kept n ≡ answer_in row
  unfolding answer_in
  kept_answer p e q = simp (← p, ne_eqb _ _ e, ← q)

  pub settlement_made : {n s : ℕ} {r b : Code} {o : Outcome} → n ≡ value_in row 0 → r ≡ code_in row 8 → s ≡ value_in row 12 → b ≡ code_in row 16 → o ≡ outcome_in row → record { number = n; reference = r; stream = s; bin = b; outcome = o } ≡ settlement_in row
  unfolding settlement_in
  settlement_made p q r s o = simp (p, q, r, s, o)

  pub recall_made : {n : ℕ} {r : Code} {a : Answer} → n ≡ value_in row 0 → r ≡ code_in row 8 → a ≡ answer_in row → record { number = n; reference = r; answer = a } ≡ recall_in row
  unfolding recall_in
  recall_made p q r = simp (p, q, r)

-- ---- texts

pub status_told : (row : List ℕ) {v : ℕ} → v ≡ value_in row 20 → leb v 1 ≡ has_status row
status_told row p = rw p

-- a status past 1 is 87; of another the writer of the response answers
module _ (row out : List ℕ) {q : Bool} (e : q ≡ has_status row) where
  pub no_status : (holds : Bool) (text : List ℕ) → not q ≡ true → Wrote (has_status row && holds) out 0 text (Err Malformed) out
  no_status holds text f = rw (← e, not-true q f) (refl, refl)

  module _ (f : not q ≡ false) {w : Result ℕ Refusal} {left : List ℕ} where
    pub settlement_writes : {s : Settlement} → s ≡ settlement_in row → Wrote (is_settlement s) out 0 (settlement_text s) w left → Wrote (holds_settlement row) out 0 (settlement_text (settlement_in row)) w left
    settlement_writes g k = rw (← e, not-false q f, ← g) k

    pub recall_writes : {r : Recall} → r ≡ recall_in row → Wrote (is_recall r) out 0 (recall_text r) w left → Wrote (holds_recall row) out 0 (recall_text (recall_in row)) w left
    recall_writes g k = rw (← e, not-false q f, ← g) k

module _ (row out : List ℕ) {w : Result ℕ Refusal} {left : List ℕ} where
  pub settlement_kind : {k : ℕ} → k ≡ value_in row 4 → k ≡ 132 → Wrote (holds_settlement row) out 0 (settlement_text (settlement_in row)) w left
      → (w ≡ response_written row out) × (left ≡ response_left row out)
  unfolding response_written response_left
  settlement_kind p e g = rw (← p, e) g

  pub recall_kind : {k : ℕ} → k ≡ value_in row 4 → k ≡ 134 → Wrote (holds_recall row) out 0 (recall_text (recall_in row)) w left
      → (w ≡ response_written row out) × (left ≡ response_left row out)
  unfolding response_written response_left
  recall_kind p e g = rw (← p, e) g

  pub order_writes : {o : Order} → o ≡ order_in row → WroteOrder out 0 o w left → (w ≡ order_written (order_in row) out) × (left ≡ order_left (order_in row) out)
  unfolding order_written order_left
  order_writes e g = rw (← e) (g.answer, g.result)

module _ (row out : List ℕ) where
  pub other_kind : {k : ℕ} → k ≡ value_in row 4 → (k ≡ 132 → ⊥) → (k ≡ 134 → ⊥) → (Err OtherSubType ≡ response_written row out) × (out ≡ response_left row out)
  unfolding response_written response_left
  other_kind p e f = rw (← p, ne_eqb _ _ e, ne_eqb _ _ f) (refl, refl)

-- ---- what is told

module _ (w : Result ℕ Refusal) (told : List ℕ) where
  pub tell_unfit : {why : Refusal} {n : ℕ} → w ≡ Err why → n ≡ number_of why → (n ≡ number_by w) × (told ≡ told_by w told)
  tell_unfit e p = rw e (p, refl)

  pub tell_end : {n : ℕ} → w ≡ Ok n → (0 ≡ number_by w) × (set told 0 n ≡ told_by w told)
  tell_end e = rw e (refl, refl)

-- a row, or what is to be told, of too few words; and enough of both
module _ (words : ℕ) (row told out : List ℕ) (w : Result ℕ Refusal) (left : List ℕ) where
  abbrev Answered : ℕ → List ℕ → List ℕ → Type 0
  Answered n o t = (n ≡ number_for (is_ready words row told) w) × (o ≡ left_for (is_ready words row told) left out) × (t ≡ told_for (is_ready words row told) w told)

  pub short_row : {n : ℕ} → length row < words → n ≡ number_of ShortBuffer → Answered n out told
  unfolding number_for left_for told_for
  short_row h e = rw (lt-leb _ _ h) (e, refl, refl)

  pub none_told : {n : ℕ} → words ≤ length row → length told < 1 → n ≡ number_of ShortBuffer → Answered n out told
  unfolding number_for left_for told_for
  none_told g h e = rw (le-leb _ _ g, lt-leb _ _ h) (e, refl, refl)

  pub all_told : {n : ℕ} {x : Result ℕ Refusal} {o t : List ℕ} → words ≤ length row → 1 ≤ length told → (x ≡ w) × (o ≡ left) → (n ≡ number_by x) × (t ≡ told_by x told) → Answered n o t
  unfolding number_for left_for told_for
  all_told g h p q = rw (le-leb _ _ g, le-leb _ _ h, ← p.0) (q.0, p.1, q.1)
