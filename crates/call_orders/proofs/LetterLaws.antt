-- A letter that is changed in a row: the row is the words of the batch with it.
use Prim.Native.Nat.{ℕ, suc, ◌+◌, ◌-◌, ◌*◌, ◌%◌, ◌≤◌, ◌<◌}
use mathlib.Core.Path.{◌≡◌, refl, sym, ap, ◌∙◌}
use mathlib.Core.Bool.{cond}
use mathlib.Core.List.{List, [], ◌∷◌, ◌++◌, append_assoc}
use native.Mathlib.Omega.{arith}
use borrow.Author.Tests.{eq-eqb, ne_eqb}
use lib.Dec.{eqb}
use lib.ListN.{length, get_or, set, replicate, length-append}
use lib.Seq.{get_or_at, set_at}
use Rattle.settle.specs.Payments.{Payment, credit, debit}
use Rattle.book_read.specs.Range.{Each}
use Rattle.model.specs.State.{Message, Batch, payments_of}
use Rattle.model.specs.Changes.{with_esa, relabel, relettered}
use Rattle.model.proofs.Lettering.{relettered_payments, relettered_length}
use Rattle.tables.specs.Words.{filled, activation_word, payments_words, messages_words, batch_words}
use Rattle.tables.proofs.Rowing.{Fits, first_long, payments_long}
use Rattle.call_orders.specs.Lettering.{letters_with, reletter_from}

-- ---- the code

module _ (b x k l : ℕ) where
  pub letters_none : l ≡ 0 → 0 ≡ letters_with b x k l
  letters_none e = rw (eq-eqb l 0 e)

  pub letters_new : (l ≡ 0 → ⊥) → k ≡ b → x * 16777216 + l % 16777216 ≡ letters_with b x k l
  unfolding with_esa
  letters_new n e = rw (ne_eqb l 0 n, eq-eqb k b e)

  pub letters_old : (l ≡ 0 → ⊥) → (k ≡ b → ⊥) → l ≡ letters_with b x k l
  letters_old n e = rw (ne_eqb l 0 n, ne_eqb k b e)

module _ (b x n : ℕ) where
  pub reletter_start : (row : List ℕ) → reletter_from b x row 49 n ≡ reletter_from b x row (49 + 3 * 0) (n - 0)
  reletter_start row = let e : n - 0 ≡ n = omega arith in rw e

  module _ (row : List ℕ) (i : ℕ) {y : List ℕ} (inv : y ≡ reletter_from b x row (49 + 3 * i) (n - i)) where
    pub reletter_turn : (v : ℕ) → i < n → v ≡ letters_with b x (get_or row (49 + 3 * i) 0) (get_or row (49 + 3 * i + 2) 0)
        → y ≡ reletter_from b x (set row (49 + 3 * i + 2) v) (49 + 3 * (i + 1)) (n - (i + 1))
    unfolding reletter_from
    reletter_turn v h e =
        let k : n - i ≡ suc (n - (i + 1)) = omega arith in
        let f : 49 + 3 * (i + 1) ≡ 49 + 3 * i + 3 = omega arith in
        inv ∙ rw (k, e, f)

    pub reletter_end : n ≤ i → row ≡ y
    unfolding reletter_from
    reletter_end h = let k : n - i ≡ 0 = omega arith in sym (inv ∙ rw k)

-- ---- the model

-- a debit has letters
abbrev pub HasLetters : Payment → Type 0
HasLetters (credit k c) = Unit {0}
HasLetters (debit l k c) = l ≡ 0 → ⊥

module _ (b x : ℕ) where
  one_payment : (pre post : List ℕ) (at k c l n : ℕ) → length pre ≡ at
      → reletter_from b x (pre ++ (k ∷ c ∷ l ∷ post)) at (suc n) ≡ reletter_from b x ((pre ++ (k ∷ c ∷ letters_with b x k l ∷ [])) ++ post) (at + 3) n
  unfolding reletter_from
  one_payment pre post at k c l n e =
      let u : get_or (pre ++ (k ∷ c ∷ l ∷ post)) at 0 ≡ k = get_or_at pre k (c ∷ l ∷ post) 0 at e in
      let s : pre ++ (k ∷ c ∷ l ∷ post) ≡ (pre ++ (k ∷ c ∷ [])) ++ (l ∷ post) = sym (append_assoc pre (k ∷ c ∷ []) (l ∷ post)) in
      let m : length (pre ++ (k ∷ c ∷ [])) ≡ at + 2 = omega (arith, length-append pre (k ∷ c ∷ [])) in
      let v : get_or (pre ++ (k ∷ c ∷ l ∷ post)) (at + 2) 0 ≡ l = rw s (get_or_at (pre ++ (k ∷ c ∷ [])) l post 0 (at + 2) m) in
      let w = letters_with b x k l in
      let z : set (pre ++ (k ∷ c ∷ l ∷ post)) (at + 2) w ≡ (pre ++ (k ∷ c ∷ [])) ++ (w ∷ post) = rw s (set_at (pre ++ (k ∷ c ∷ [])) l post w (at + 2) m) in
      let q : (pre ++ (k ∷ c ∷ [])) ++ (w ∷ post) ≡ (pre ++ (k ∷ c ∷ w ∷ [])) ++ post = simp append_assoc in
      rw (u, v, z, q)

  pub relabelled : (ps : List Payment) (pre post : List ℕ) (at : ℕ) → length pre ≡ at → Each HasLetters ps
      → reletter_from b x (pre ++ (payments_words ps ++ post)) at (length ps) ≡ pre ++ (payments_words (relabel b x ps) ++ post)
  unfolding reletter_from payments_words relabel
  relabelled [] pre post at e h = refl
  relabelled (credit k c ∷ ps) pre post at e h =
      let l : length (pre ++ (k ∷ c ∷ 0 ∷ [])) ≡ at + 3 = omega (arith, length-append pre (k ∷ c ∷ 0 ∷ [])) in
      one_payment pre (payments_words ps ++ post) at k c 0 (length ps) e
      ∙ relabelled ps (pre ++ (k ∷ c ∷ 0 ∷ [])) post (at + 3) l h.1
      ∙ append_assoc pre (k ∷ c ∷ 0 ∷ []) (payments_words (relabel b x ps) ++ post)
  relabelled (debit g k c ∷ ps) pre post at e h =
      let w : letters_with b x k g ≡ cond (eqb k b) (with_esa x g) g = rw (ne_eqb g 0 h.0) in
      let l : length (pre ++ (k ∷ c ∷ letters_with b x k g ∷ [])) ≡ at + 3 = omega (arith, length-append pre (k ∷ c ∷ letters_with b x k g ∷ [])) in
      one_payment pre (payments_words ps ++ post) at k c g (length ps) e
      ∙ relabelled ps (pre ++ (k ∷ c ∷ letters_with b x k g ∷ [])) post (at + 3) l h.1
      ∙ append_assoc pre (k ∷ c ∷ letters_with b x k g ∷ []) (payments_words (relabel b x ps) ++ post)
      ∙ ap (λ (y : ℕ). pre ++ (k ∷ c ∷ y ∷ (payments_words (relabel b x ps) ++ post))) w

  -- ---- the row

  relabel_long : (ps : List Payment) → length (relabel b x ps) ≡ length ps
  unfolding relabel
  relabel_long [] = refl
  relabel_long (credit k c ∷ ps) = ap suc (relabel_long ps)
  relabel_long (debit g k c ∷ ps) = ap suc (relabel_long ps)

  words_long : (ps : List Payment) → length (payments_words (relabel b x ps)) ≡ length (payments_words ps)
  words_long ps = omega (arith, payments_long ps, payments_long (relabel b x ps), relabel_long ps)

  same_messages : (ms : List Message) → messages_words (relettered b x ms) ≡ messages_words ms
  unfolding messages_words relettered
  same_messages [] = refl
  same_messages (m ∷ ms) = rw (relabel_long m.payments, same_messages ms)

  abbrev pub batch_with : Batch → Batch
  batch_with y = record { bin = y.bin; count = y.count; activation = y.activation; messages = relettered b x y.messages }

  pub row_relettered : (phase rank memory : ℕ) (y : Batch) → Fits y → Each HasLetters (payments_of y.messages)
      → reletter_from b x (batch_words phase rank memory y) 49 (length (payments_of y.messages)) ≡ batch_words phase rank memory (batch_with y)
  unfolding batch_words
  row_relettered phase rank memory y f h =
      let head = phase ∷ rank ∷ y.bin.high ∷ y.bin.low ∷ y.count ∷ activation_word y.activation ∷ memory ∷ length y.messages ∷ length (payments_of y.messages) ∷ [] in
      let M = filled 40 (messages_words y.messages) in
      let Q = payments_words (payments_of y.messages) in
      let z : List ℕ = replicate (300 - length Q) 0 in
      let l : length (head ++ M) ≡ 49 = omega (arith, length-append head M, first_long phase rank memory y f) in
      let e : (300 - length (payments_words (relabel b x (payments_of y.messages)))) ≡ 300 - length Q = omega (arith, words_long (payments_of y.messages)) in
      ap (λ (r : List ℕ). reletter_from b x r 49 (length (payments_of y.messages))) (sym (append_assoc head M (Q ++ z)))
      ∙ relabelled (payments_of y.messages) (head ++ M) z 49 l h
      ∙ append_assoc head M (payments_words (relabel b x (payments_of y.messages)) ++ z)
      ∙ sym (rw (relettered_length b x y.messages, relettered_payments b x y.messages, same_messages y.messages, relabel_long (payments_of y.messages), e))
