-- The words of a batch place say the batch.
use Prim.Native.Nat.{ℕ, zero, suc, ◌+◌, ◌*◌, ◌-◌, ◌≤◌}
use mathlib.Core.Path.{◌≡◌, refl, sym, ap, ◌∙◌}
use mathlib.Core.Bool.{true, false≢true}
use mathlib.Core.List.{List, [], ◌∷◌, ◌++◌, append_assoc}
use native.Mathlib.Omega.{arith}
use lib.ListN.{length, get_or, drop, replicate, length-append, length-replicate}
use lib.Seq.{get_or-drop, drop-drop, drop_at}
use Rattle.codes.specs.Codes.{short_text, unpacked}
use Rattle.text_values.specs.Letters.{is_status}
use Rattle.request_read.specs.declared.terms.Activation.{Activation}
use Rattle.request_read.specs.declared.terms.Activation.TheVariants.{AtOnce, Minute}
use Rattle.settle.specs.Payments.{Payment, credit, debit, payment, payment_at, payments_from}
use Rattle.book_read.specs.Range.{Each}
use Rattle.model.specs.State.{Message, Batch, payments_of}
use Rattle.model.specs.Rules.{Lettered, are_letters}
use Rattle.tables.specs.Rows.{word, activation_in, message_in, messages_in, batch_in}
use Rattle.tables.specs.Words.{filled, activation_word, payment_words, payments_words, message_words, messages_words, batch_words}

-- ---- what stands from a place of a row on

pub at_word : (row : List ℕ) (at i : ℕ) (l : List ℕ) → drop at row ≡ l → get_or row (at + i) 0 ≡ get_or l i 0
at_word row at i l h = sym (get_or-drop at row i 0) ∙ ap (λ (x : List ℕ). get_or x i 0) h

pub past : (row : List ℕ) (at n : ℕ) (l : List ℕ) → drop at row ≡ l → drop (at + n) row ≡ drop n l
past row at n l h = sym (drop-drop n at row) ∙ ap (λ (x : List ℕ). drop n x) h

pub filled_long : (n : ℕ) (l : List ℕ) → length l ≤ n → length (filled n l) ≡ n
filled_long n l h = omega (arith, length-append l (replicate (n - length l) 0), length-replicate {A = ℕ} (n - length l) 0)

-- ---- payments

-- no letters are the number 0
some_letters : are_letters (short_text 0) ≡ true → ⊥
unfolding short_text unpacked is_status
some_letters h = false≢true h

lettered_payment : (l k c : ℕ) → are_letters (short_text l) ≡ true → payment k c l ≡ debit l k c
unfolding payment
lettered_payment zero k c h = absurd (some_letters h)
lettered_payment (suc l) k c h = refl

payment_back : (row : List ℕ) (at : ℕ) (p : Payment) (rest : List ℕ) → Lettered p → drop at row ≡ payment_words p ++ rest → payment_at row at ≡ p
unfolding payment_at payment
payment_back row at (credit k c) rest g h =
    let a : get_or row at 0 ≡ k = ap (λ (n : ℕ). get_or row n 0) (omega arith) ∙ at_word row at 0 (k ∷ c ∷ 0 ∷ rest) h in
    let b : get_or row (at + 1) 0 ≡ c = at_word row at 1 (k ∷ c ∷ 0 ∷ rest) h in
    let d : get_or row (at + 2) 0 ≡ 0 = at_word row at 2 (k ∷ c ∷ 0 ∷ rest) h in
    rw (a, b, d)
payment_back row at (debit l k c) rest g h =
    let a : get_or row at 0 ≡ k = ap (λ (n : ℕ). get_or row n 0) (omega arith) ∙ at_word row at 0 (k ∷ c ∷ l ∷ rest) h in
    let b : get_or row (at + 1) 0 ≡ c = at_word row at 1 (k ∷ c ∷ l ∷ rest) h in
    let d : get_or row (at + 2) 0 ≡ l = at_word row at 2 (k ∷ c ∷ l ∷ rest) h in
    rw (a, b, d) (lettered_payment l k c g.1)

payment_three : (p : Payment) (rest : List ℕ) → drop 3 (payment_words p ++ rest) ≡ rest
payment_three (credit k c) rest = refl
payment_three (debit l k c) rest = refl

pub payments_back : (row : List ℕ) (at : ℕ) (ps : List Payment) (rest : List ℕ) → Each Lettered ps → drop at row ≡ payments_words ps ++ rest → payments_from row at (length ps) ≡ ps
unfolding payments_from payments_words
payments_back row at [] rest g h = refl
payments_back row at (p ∷ ps) rest g h =
    let e : drop at row ≡ payment_words p ++ (payments_words ps ++ rest) = h ∙ append_assoc (payment_words p) (payments_words ps) rest in
    let f : drop (at + 3) row ≡ payments_words ps ++ rest = past row at 3 (payment_words p ++ (payments_words ps ++ rest)) e ∙ payment_three p (payments_words ps ++ rest) in
    rw (payment_back row at p (payments_words ps ++ rest) g.0 e, payments_back row (at + 3) ps rest g.1 f)

pub payments_append : (a b : List Payment) → payments_words (a ++ b) ≡ payments_words a ++ payments_words b
unfolding payments_words
payments_append [] b = refl
payments_append (p ∷ a) b = ap (λ (l : List ℕ). payment_words p ++ l) (payments_append a b) ∙ sym (append_assoc (payment_words p) (payments_words a) (payments_words b))

pub payments_long : (ps : List Payment) → length (payments_words ps) ≡ 3 * length ps
unfolding payments_words
payments_long [] = refl
payments_long (credit k c ∷ ps) = omega (arith, payments_long ps)
payments_long (debit l k c ∷ ps) = omega (arith, payments_long ps)

-- ---- messages

pub messages_long : (ms : List Message) → length (messages_words ms) ≡ 4 * length ms
unfolding messages_words
messages_long [] = refl
messages_long (m ∷ ms) = omega (arith, messages_long ms)

abbrev pub EachLettered : List Message → Type 0
EachLettered ms = Each (λ m. Each Lettered m.payments) ms

next_message : (i : ℕ) → 9 + 4 * (i + 1) ≡ 9 + 4 * i + 4
next_message i = omega arith

module _ (row : List ℕ) where
  message_back : (i j : ℕ) (m : Message) (post rest : List ℕ) → Each Lettered m.payments → drop (9 + 4 * i) row ≡ message_words m ++ post → drop j row ≡ payments_words m.payments ++ rest
      → (word row (12 + 4 * i) ≡ length m.payments) × (message_in row i j ≡ m)
  message_back i j m post rest g h k =
      let w = message_words m ++ post in
      let a : word row (9 + 4 * i) ≡ m.reference.high = ap (λ (n : ℕ). get_or row n 0) (omega arith) ∙ at_word row (9 + 4 * i) 0 w h in
      let b : word row (9 + 4 * i + 1) ≡ m.reference.low = at_word row (9 + 4 * i) 1 w h in
      let c : word row (11 + 4 * i) ≡ m.number = ap (λ (n : ℕ). get_or row n 0) (omega arith) ∙ at_word row (9 + 4 * i) 2 w h in
      let d : word row (12 + 4 * i) ≡ length m.payments = ap (λ (n : ℕ). get_or row n 0) (omega arith) ∙ at_word row (9 + 4 * i) 3 w h in
      (d, rw (a, b, c, d, payments_back row j m.payments rest g k))

  messages_back : (i j : ℕ) (ms : List Message) (post rest : List ℕ) → EachLettered ms → drop (9 + 4 * i) row ≡ messages_words ms ++ post → drop j row ≡ payments_words (payments_of ms) ++ rest
      → messages_in row i j (length ms) ≡ ms
  unfolding messages_in messages_words
  messages_back i j [] post rest g h k = refl
  messages_back i j (m ∷ ms) post rest g h k =
      let k₁ : drop j row ≡ payments_words m.payments ++ (payments_words (payments_of ms) ++ rest) =
      k ∙ ap (λ (l : List ℕ). l ++ rest) (payments_append m.payments (payments_of ms)) ∙ append_assoc (payments_words m.payments) (payments_words (payments_of ms)) rest
      in
      let b = message_back i j m (messages_words ms ++ post) (payments_words (payments_of ms) ++ rest) g.0 h k₁ in
      let h₂ : drop (9 + 4 * (i + 1)) row ≡ messages_words ms ++ post =
      ap (λ (n : ℕ). drop n row) (next_message i) ∙ past row (9 + 4 * i) 4 (message_words m ++ (messages_words ms ++ post)) h
      in
      let k₂ : drop (j + 3 * length m.payments) row ≡ payments_words (payments_of ms) ++ rest =
      past row j (3 * length m.payments) (payments_words m.payments ++ (payments_words (payments_of ms) ++ rest)) k₁
      ∙ drop_at (payments_words m.payments) (payments_words (payments_of ms) ++ rest) (3 * length m.payments) (payments_long m.payments)
      in
      rw (b.1, b.0, messages_back (i + 1) (j + 3 * length m.payments) ms post rest g.1 h₂ k₂)

-- ---- the batch

-- a batch that its row holds
pub record Fits (b : Batch) : Type 0 where
  pub few : length b.messages ≤ 10
  pub small : length (payments_of b.messages) ≤ 100
  pub lettered : EachLettered b.messages

module _ (phase rank memory : ℕ) (b : Batch) (f : Fits b) where
  abbrev pub first : List ℕ
  first = filled 40 (messages_words b.messages)

  abbrev pub second : List ℕ
  second = filled 300 (payments_words (payments_of b.messages))

  pub first_long : length first ≡ 40
  first_long = filled_long 40 (messages_words b.messages) (omega (arith, messages_long b.messages, f.few))

  second_long : length second ≡ 300
  second_long = filled_long 300 (payments_words (payments_of b.messages)) (omega (arith, payments_long (payments_of b.messages), f.small))

  pub batch_long : length (batch_words phase rank memory b) ≡ 349
  unfolding batch_words
  batch_long = omega (arith, length-append first second, first_long, second_long)

  held_messages : messages_in (batch_words phase rank memory b) 0 49 (length b.messages) ≡ b.messages
  unfolding batch_words
  held_messages =
      messages_back (batch_words phase rank memory b) 0 49 b.messages (replicate (40 - length (messages_words b.messages)) 0 ++ second)
      (replicate (300 - length (payments_words (payments_of b.messages))) 0) f.lettered
      (append_assoc (messages_words b.messages) (replicate (40 - length (messages_words b.messages)) 0) second)
      (drop_at first second 40 first_long)

  activation_back : (a : Activation) → activation_in (activation_word a) ≡ a
  activation_back AtOnce = refl
  activation_back (Minute m) = refl

  pub batch_back : batch_in (batch_words phase rank memory b) ≡ b
  unfolding batch_in batch_words
  batch_back = rw (held_messages, activation_back b.activation)
