-- The payments of a request, walked through line by line: how a request breaks among them and behind them.
use Rattle.std.specs.Prelude.{Option, Some, None, Result, Ok, Err}
use Prim.Native.Nat.{ℕ, zero, suc, ◌+◌}
use mathlib.Core.Path.{◌≡◌, refl, ap, sym, ◌∙◌}
use mathlib.Core.List.{List, [], ◌∷◌}
use mathlib.Core.Bool.{Bool, true, false, cond, false≢true}
use mathlib.Core.Logic.{◌⊎◌, inl, inr}
use native.Mathlib.Omega.{arith}
use borrow.Author.Tests.{eq-eqb, ne_eqb, ltb-true, lt-ltb}
use lib.Dec.{eqb, ltb}
use lib.ListN.{drop, set}
use Rattle.chars.specs.Words.{bytes}
use Rattle.text_scan.specs.Scan.{on_next, begins, lit_at}
use Rattle.text_scan.specs.declared.Cursor.{Cursor}
use Rattle.text_scan.proofs.Laws.{lit_yes, lit_not}
use Rattle.text_values.specs.Values.{stands}
use Rattle.text_fields.specs.Fields.{absent, wrong as wrong_at, nothing, place, on_good, field_at}
use Rattle.text_fields.specs.declared.Break.{Break}
use Rattle.text_fields.specs.declared.Item.{Item}
use Rattle.text_fields.specs.declared.Kind.TheVariants.{Word, Side, Amount, Letters, Count}
use Rattle.request_read.specs.declared.terms.Terms.{Terms}
use Rattle.request_read.specs.payments.Payments.{payment as paid, bank_at, credit_at, debit_at, payment_at, more_at, on_paid, ended, payments_on}
use Rattle.request_read.specs.declared.payments.Payment.{Payment}
use Rattle.request_read.specs.declared.payments.Payments.{Payments}
use Rattle.request_read.specs.whole.Request.{refusal, settlement, on_done, ending}
use Rattle.request_read.specs.declared.whole.Head.{Head}
use Rattle.request_read.specs.declared.whole.Outcome.{Outcome}
use Rattle.request_read.specs.declared.whole.Outcome.TheVariants.{Settlement, Recall, Refused}
use Rattle.request_read.specs.declared.whole.Reading.{Reading}
use Rattle.thm_grammar.proofs.Payments.{side_number}
use Rattle.thm_first_break.specs.Rows.{f32b, f113, no113, tag_of}
use Rattle.thm_first_break.specs.Order.{Choice, choice, Expecting, at20, at12, at77e, at22a, at119, at16a, at171, at175, at127, at32b, at113, at102, at203, at_end, payment, bank, count, choices}
use Rattle.thm_first_break.specs.Breaks.{standing, wrong}
use Rattle.thm_first_break.proofs.First.{Verdict, stop}
use Rattle.thm_first_break.proofs.Steps.{fits127, fits32b, fits113, fits102, fits203, Asked, alone as row-alone, end_walk, on_line}

-- the break of a reading, if it is refused
abbrev pub broken_by : Outcome → Option Break
broken_by (Refused b) = Some b
broken_by Settlement = None
broken_by Recall = None

abbrev pub broken_in : Reading → Option Break
broken_in r = broken_by r.outcome

abbrev is_end : Expecting → Bool
is_end at20 = false
is_end at12 = false
is_end (at77e b) = false
is_end (at22a b) = false
is_end (at119 b w) = false
is_end at16a = false
is_end at171 = false
is_end at175 = false
is_end at127 = false
is_end (at32b k b) = false
is_end (at113 k b) = false
is_end (at102 k) = false
is_end (at203 k) = false
is_end at_end = true

more_to_come : (e : Expecting) → is_end e ≡ false → e ≡ at_end → ⊥
more_to_come e h k = false≢true (sym h ∙ ap is_end k)

module _ (s : List ℕ) where
  abbrev pub Walk : Option Break → ℕ → Expecting → Type 0
  Walk o p e = Verdict Expecting choices at20 at_end refl s o p e

  abbrev pub Ask : ℕ → Expecting → Choice Expecting → Type 0
  Ask p e c = Asked Expecting choices at_end s p e c

  pub alone : (p : ℕ) (e : Expecting) (c : Choice Expecting) → is_end e ≡ false → choices e ≡ c ∷ [] → Ask p e c
  alone p e c n h = row-alone Expecting choices at_end s p e c (more_to_come e n) h

  -- or one behind another, whose tag does not stand there
  pub second : (p : ℕ) (e : Expecting) (d c : Choice Expecting) → is_end e ≡ false → choices e ≡ d ∷ c ∷ [] → begins (tag_of d.row) (drop p s) ≡ false → Ask p e c
  second p e d c n h f = record {
    yes = λ t. ap (λ (cs : List (Choice Expecting)). standing cs (drop p s)) h ∙ rw (f, t);
    no = λ t. ap (λ (cs : List (Choice Expecting)). standing cs (drop p s)) h ∙ rw (f, t);
    open_end = more_to_come e n;
  }

  -- the first of two, whose tag stands there
  pub leading : (p : ℕ) (e : Expecting) (c d : Choice Expecting) → is_end e ≡ false → choices e ≡ c ∷ d ∷ [] → begins (tag_of c.row) (drop p s) ≡ true → Ask p e c
  leading p e c d n h t = record {
    yes = λ _. ap (λ (cs : List (Choice Expecting)). standing cs (drop p s)) h ∙ rw t;
    no = λ f. absurd (false≢true (sym f ∙ t));
    open_end = more_to_come e n;
  }

  -- 102
  module _ (answer : Result (Payment × Cursor) Break → Option Break) (ok : (b : Break) → answer (Err b) ≡ Some b) (k : ℕ) (on : (x : Payment) (c : Cursor) → Walk (answer (Ok (x, c))) c.at (at203 (k + 1))) where
    bank_walk : (p : ℕ) (e : Expecting) (side amount letters : Item) → Ask p e (bank k) → Walk (answer (bank_at s p side amount letters)) p e
    unfolding bank_at
    bank_walk p e side amount letters ask = on_line answer Err ok (λ i c. Ok (paid side amount letters i, c)) (bank k) (Word 4) (fits102 s) ask (λ v. refl) (λ i d q g. on (paid side amount letters i) d)

    -- "113 stands after DR and never after CR"
    credit_walk : (p : ℕ) (side amount : Item) → Walk (answer (credit_at s p side amount)) p (at113 k false)
    unfolding credit_at
    credit_walk p side amount = go (lit_at s p (bytes ":113:")) refl
      where
        go : (r : Option ℕ) → lit_at s p (bytes ":113:") ≡ r → Walk (answer (on_next r (bank_at s p side amount nothing) (λ a. Err (wrong_at p)))) p (at113 k false)
        go (Some a) l = stop {e = at113 k false} (wrong_at p) (ok (wrong_at p)) (wrong (choice no113 (λ v. at_end)) refl (rw (lit_yes s p (bytes ":113:") l)) (λ r g. g.is))
        go None l = bank_walk p (at113 k false) side amount nothing (second p (at113 k false) (choice no113 (λ v. at_end)) (bank k) refl refl (lit_not s p (bytes ":113:") l))

    debit_walk : (p : ℕ) (side amount : Item) → Walk (answer (debit_at s p side amount)) p (at113 k true)
    unfolding debit_at
    debit_walk p side amount =
        on_line answer Err ok (λ letters c. bank_at s c.at side amount letters) (choice f113 (λ v. at102 k)) Letters (fits113 s) (alone p (at113 k true) (choice f113 (λ v. at102 k)) refl refl) (λ v. refl) (λ letters c q g.
        bank_walk c.at (at102 k) side amount letters (alone c.at (at102 k) (bank k) refl refl))

    payment_walk : (p : ℕ) (e : Expecting) → Ask p e (payment k) → Walk (answer (payment_at s p)) p e
    unfolding payment_at begins
    payment_walk p e ask =
        on_line answer Err ok _ (payment k) Side (fits127 s) ask (λ v. refl) (λ side c q g.
        on_line answer Err ok _ (choice f32b (λ v. at113 k (begins (bytes "DR") g.line.value))) Amount (fits32b s) (alone c.at (at32b k (begins (bytes "DR") g.line.value)) (choice f32b (λ v. at113 k (begins (bytes "DR") g.line.value))) refl refl) (λ v. refl) (λ amount d r h.
        sided side amount d.at g.line.value (side_number s p q g.line)))
      where
        sided : (side amount : Item) (p : ℕ) (v : List ℕ) → ((v ≡ bytes "CR") × (side.number ≡ 0)) ⊎ ((v ≡ bytes "DR") × (side.number ≡ 1)) → Walk (answer (cond (eqb side.number 0) (credit_at s p side amount) (debit_at s p side amount))) p (at113 k (begins (bytes "DR") v))
        sided side amount p v (inl e) = rw (e.0, eq-eqb side.number 0 e.1) (credit_walk p side amount)
        sided side amount p v (inr e) = rw (e.0, ne_eqb side.number 0 (omega (arith, e.1))) (debit_walk p side amount)

  -- behind 119 of a settlement request
  module _ (h : Head) where
    -- what the payments are read for
    abbrev pub paid_for : Terms → Payments → Option Break
    paid_for t x = broken_in (on_done x.ending (λ b. refusal h.subtype b h.address) (λ d. on_good (field_at s d.at (bytes ":203:") (Count x.n)) (λ b. refusal h.subtype b h.address) (λ n e. ending s e.at h (settlement h t x n))))

    -- 203 stands behind the payments where no further one does
    counted : (k p : ℕ) → (ltb k 10 ≡ true → begins (bytes ":127:") (drop p s) ≡ false) → Ask p (at203 k) (count k)
    counted k p f = go (ltb k 10) refl
      where
        go : (b : Bool) → ltb k 10 ≡ b → Ask p (at203 k) (count k)
        go true e = second p (at203 k) (payment k) (count k) refl (rw e) (f e)
        go false e = alone p (at203 k) (count k) refl (rw e)

    count_walk : (t : Terms) (k p : ℕ) (items : List Payment) → (ltb k 10 ≡ true → begins (bytes ":127:") (drop p s) ≡ false) → Walk (paid_for t (ended (Ok (place p)) k items)) p (at203 k)
    count_walk t k p items f =
        on_line broken_in (λ b. refusal h.subtype b h.address) (λ b. refl) (λ n e. ending s e.at h (settlement h t (ended (Ok (place p)) k items) n)) (count k) (Count k) (fits203 s k) (counted k p f) (λ v. refl) (λ n d q g.
        end_walk broken_in (refusal h.subtype (absent d.at) h.address) (settlement h t (ended (Ok (place p)) k items) n) d.at refl refl)

    abbrev paid_on : Terms → ℕ → ℕ → List Payment → Result (Payment × Cursor) Break → Option Break
    paid_on t room k items x = paid_for t (on_paid x (λ b. ended (Err b) k items) (λ y c. cond (more_at s c.at) (payments_on room s c.at (k + 1) (set items k y)) (ended (Ok (place c.at)) (k + 1) (set items k y))))

    -- behind a payment: a further one, or 203
    more_walk : (t : Terms) (room k p : ℕ) (items : List Payment) → (begins (bytes ":127:") (drop p s) ≡ true → Walk (paid_for t (payments_on room s p (k + 1) items)) p (at203 (k + 1))) → Walk (paid_for t (cond (more_at s p) (payments_on room s p (k + 1) items) (ended (Ok (place p)) (k + 1) items))) p (at203 (k + 1))
    unfolding more_at
    more_walk t room k p items on = go (lit_at s p (bytes ":127:")) refl
      where
        go : (r : Option ℕ) → lit_at s p (bytes ":127:") ≡ r → Walk (paid_for t (cond (stands r) (payments_on room s p (k + 1) items) (ended (Ok (place p)) (k + 1) items))) p (at203 (k + 1))
        go (Some a) l = on (lit_yes s p (bytes ":127:") l)
        go None l = count_walk t (k + 1) p items (λ e. lit_not s p (bytes ":127:") l)

    -- "1 to 10 times"
    pub payments_walk : (t : Terms) (room k p : ℕ) (items : List Payment) (e : Expecting) → k + suc room ≡ 10 → Ask p e (payment k) → Walk (paid_for t (payments_on (suc room) s p k items)) p e
    unfolding payments_on
    payments_walk t zero k p items e n ask =
        payment_walk (paid_on t zero k items) (λ b. refl) k (λ y c.
        more_walk t zero k c.at (set items k y) (λ m.
        count_walk t (k + 1) c.at (set items k y) (λ l. absurd (omega (arith, ltb-true (k + 1) 10 l))))) p e ask
    payments_walk t (suc room) k p items e n ask =
        payment_walk (paid_on t (suc room) k items) (λ b. refl) k (λ y c.
        more_walk t (suc room) k c.at (set items k y) (λ m.
        payments_walk t room (k + 1) c.at (set items k y) (at203 (k + 1)) (omega arith) (leading c.at (at203 (k + 1)) (payment (k + 1)) (count (k + 1)) refl (rw (lt-ltb (k + 1) 10 (omega arith))) m))) p e ask
