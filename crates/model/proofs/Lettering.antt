-- A status change leaves a right batch: only the ESA letter of a debit is another.
use Prim.Native.Nat.{ℕ, suc, ◌+◌, ◌*◌, ◌/◌, ◌%◌, ◌<◌}
use mathlib.Core.Path.{◌≡◌, refl, sym, ap, ◌∙◌}
use mathlib.Core.Bool.{true, false, ◌&&◌, cond, false≢true}
use mathlib.Core.List.{List, [], ◌∷◌, ◌++◌}
use native.Mathlib.Omega.{arith}
use lib.Dec.{eqb}
use lib.ListN.{length}
use borrow.Author.Tests.{eqb-true}
use Rattle.chars.specs.Words.{bytes, member}
use Rattle.codes.specs.Codes.{unpacked, short_text}
use Rattle.text_values.specs.Letters.{is_status, is_fourth}
use Rattle.settle.specs.Payments.{Payment, credit, debit}
use Rattle.settle.specs.Rules.{Apart, Distinct, credits, debits}
use Rattle.queue.proofs.MemoryLaws.{by_bool}
use Rattle.book_read.specs.Range.{Each}
use Rattle.model.specs.State.{Message, Batch, Place, payments_of}
use Rattle.model.specs.Changes.{with_esa, relabel, relettered, with_letter}
use Rattle.model.specs.Rules.{are_letters, Priced, Lettered, numbers, RightMessage, RightBatch, Complete}
use Rattle.model.proofs.Truth.{or_right}
use Rattle.model.proofs.Standing.{Standing, vacant, building, awaits, stands}

-- ---- the letter

pub a_status : (x : ℕ) → member x (bytes "ADP") ≡ true → is_status x ≡ true
unfolding is_status
a_status x h = or_right (eqb x 32) (member x (bytes "ADP")) h

pub a_byte : (x : ℕ) → member x (bytes "ADP") ≡ true → x < 256
a_byte x h =
    by_bool (eqb x 65)
    (λ e. omega (arith, eqb-true x 65 e))
    (λ e. by_bool (eqb x 68)
    (λ f. omega (arith, eqb-true x 68 f))
    (λ f. by_bool (eqb x 80)
    (λ g. omega (arith, eqb-true x 80 g))
    (λ g. let z : false ≡ true = rw (e, f, g) at h in absurd (false≢true z))))

first_letter_lem : (x a b c d : ℕ) → is_status x ≡ true → are_letters (a ∷ b ∷ c ∷ d ∷ []) ≡ true → are_letters (x ∷ b ∷ c ∷ d ∷ []) ≡ true
first_letter_lem x a b c d s h =
    by_bool (is_status a)
    (λ e. let g : ((is_status b && (is_status c && true)) && (is_fourth d && true)) ≡ true = rw e at h in rw s g)
    (λ e. let z : false ≡ true = rw e at h in absurd (false≢true z))

pub spelled_four : (l : ℕ) → short_text l ≡ (l / 256 / 256 / 256 % 256) ∷ (l / 256 / 256 % 256) ∷ (l / 256 % 256) ∷ (l % 256) ∷ []
unfolding short_text unpacked
spelled_four l = refl

pub set_esa : (x l : ℕ) → x < 256 → short_text (with_esa x l) ≡ x ∷ (l / 256 / 256 % 256) ∷ (l / 256 % 256) ∷ (l % 256) ∷ []
unfolding with_esa
set_esa x l b =
    let v : ℕ = x * 16777216 + l % 16777216 in
    let e₁ : v / 256 / 256 / 256 % 256 ≡ x = omega arith in
    let e₂ : v / 256 / 256 % 256 ≡ l / 256 / 256 % 256 = omega arith in
    let e₃ : v / 256 % 256 ≡ l / 256 % 256 = omega arith in
    let e₄ : v % 256 ≡ l % 256 = omega arith in
    spelled_four v ∙ rw (e₁, e₂, e₃, e₄)

new_letters : (x l : ℕ) → x < 256 → is_status x ≡ true → are_letters (short_text l) ≡ true → are_letters (short_text (with_esa x l)) ≡ true
new_letters x l b s h =
    let g : are_letters ((l / 256 / 256 / 256 % 256) ∷ (l / 256 / 256 % 256) ∷ (l / 256 % 256) ∷ (l % 256) ∷ []) ≡ true = rw (spelled_four l) at h in
    ap (λ (z : List ℕ). are_letters z) (set_esa x l b)
    ∙ first_letter_lem x (l / 256 / 256 / 256 % 256) (l / 256 / 256 % 256) (l / 256 % 256) (l % 256) s g

small_letters : (x l : ℕ) → x < 256 → with_esa x l < 4294967296
unfolding with_esa
small_letters x l b = omega arith

-- ---- the payments

module _ (k x : ℕ) where
  pub relabel_append : (a b : List Payment) → relabel k x (a ++ b) ≡ relabel k x a ++ relabel k x b
  unfolding relabel
  relabel_append [] b = refl
  relabel_append (credit j c ∷ a) b = ap (λ (l : List Payment). credit j c ∷ l) (relabel_append a b)
  relabel_append (debit l j c ∷ a) b = ap (λ (m : List Payment). debit (cond (eqb j k) (with_esa x l) l) j c ∷ m) (relabel_append a b)

  relabel_length : (ps : List Payment) → length (relabel k x ps) ≡ length ps
  unfolding relabel
  relabel_length [] = refl
  relabel_length (credit j c ∷ ps) = ap suc (relabel_length ps)
  relabel_length (debit l j c ∷ ps) = ap suc (relabel_length ps)

  relabel_priced : (n : ℕ) (ps : List Payment) → Each (Priced n) ps → Each (Priced n) (relabel k x ps)
  unfolding relabel
  relabel_priced n [] h = tt
  relabel_priced n (credit j c ∷ ps) h = (h.0, relabel_priced n ps h.1)
  relabel_priced n (debit l j c ∷ ps) h = (record { known = h.0.known; money = h.0.money }, relabel_priced n ps h.1)

  relabel_lettered : x < 256 → is_status x ≡ true → (ps : List Payment) → Each Lettered ps → Each Lettered (relabel k x ps)
  unfolding relabel
  relabel_lettered b s [] h = tt
  relabel_lettered b s (credit j c ∷ ps) h = (tt, relabel_lettered b s ps h.1)
  relabel_lettered b s (debit l j c ∷ ps) h =
      by_bool (eqb j k)
      (λ e. rw e ((small_letters x l b, new_letters x l b s h.0.1), relabel_lettered b s ps h.1))
      (λ e. rw e (h.0, relabel_lettered b s ps h.1))

  relabel_apart : (j : ℕ) (ps : List Payment) → Apart j ps → Apart j (relabel k x ps)
  unfolding relabel Apart
  relabel_apart j [] d = tt
  relabel_apart j (credit i c ∷ ps) d = (d.0, relabel_apart j ps d.1)
  relabel_apart j (debit l i c ∷ ps) d = (d.0, relabel_apart j ps d.1)

  relabel_distinct : (ps : List Payment) → Distinct ps → Distinct (relabel k x ps)
  unfolding relabel Distinct Apart
  relabel_distinct [] d = tt
  relabel_distinct (credit j c ∷ ps) d = (relabel_apart j ps d.0, relabel_distinct ps d.1)
  relabel_distinct (debit l j c ∷ ps) d = (relabel_apart j ps d.0, relabel_distinct ps d.1)

  relabel_credits : (ps : List Payment) → credits (relabel k x ps) ≡ credits ps
  unfolding relabel credits
  relabel_credits [] = refl
  relabel_credits (credit j c ∷ ps) = ap (λ (n : ℕ). c + n) (relabel_credits ps)
  relabel_credits (debit l j c ∷ ps) = relabel_credits ps

  relabel_debits : (ps : List Payment) → debits (relabel k x ps) ≡ debits ps
  unfolding relabel debits
  relabel_debits [] = refl
  relabel_debits (credit j c ∷ ps) = relabel_debits ps
  relabel_debits (debit l j c ∷ ps) = ap (λ (n : ℕ). c + n) (relabel_debits ps)

  -- ---- the messages

  pub relettered_payments : (ms : List Message) → payments_of (relettered k x ms) ≡ relabel k x (payments_of ms)
  unfolding relettered relabel
  relettered_payments [] = refl
  relettered_payments (m ∷ ms) = ap (λ (l : List Payment). relabel k x m.payments ++ l) (relettered_payments ms) ∙ sym (relabel_append m.payments (payments_of ms))

  relettered_numbers : (ms : List Message) → numbers (relettered k x ms) ≡ numbers ms
  unfolding relettered
  relettered_numbers [] = refl
  relettered_numbers (m ∷ ms) = ap (λ (l : List ℕ). m.number ∷ l) (relettered_numbers ms)

  pub relettered_length : (ms : List Message) → length (relettered k x ms) ≡ length ms
  unfolding relettered
  relettered_length [] = refl
  relettered_length (m ∷ ms) = ap suc (relettered_length ms)

  module _ (banks : ℕ) (small : x < 256) (status : is_status x ≡ true) where
    relettered_right : (n : ℕ) (ms : List Message) → Each (RightMessage banks n) ms → Each (RightMessage banks n) (relettered k x ms)
    unfolding relettered
    relettered_right n [] h = tt
    relettered_right n (m ∷ ms) h = (
      record {
        reference = h.0.reference;
        number = h.0.number;
        some = rw (relabel_length m.payments) h.0.some;
        few = rw (relabel_length m.payments) h.0.few;
        priced = relabel_priced banks m.payments h.0.priced;
        lettered = relabel_lettered small status m.payments h.0.lettered;
      },
      relettered_right n ms h.1,
    )

    abbrev changed : Batch → Batch
    changed b = record { bin = b.bin; count = b.count; activation = b.activation; messages = relettered k x b.messages }

    changed_right : (b : Batch) → RightBatch banks b → RightBatch banks (changed b)
    changed_right b h = record {
      bin = h.bin;
      count = h.count;
      minute = h.minute;
      some = rw (relettered_length b.messages) h.some;
      messages = relettered_right b.count b.messages h.messages;
      apart = rw (relettered_numbers b.messages) h.apart;
      banks_differ = rw (relettered_payments b.messages) (relabel_distinct (payments_of b.messages) h.banks_differ);
    }

    changed_complete : (b : Batch) → Complete b → Complete (changed b)
    changed_complete b h = record {
      whole = relettered_length b.messages ∙ h.whole;
      even = ap credits (relettered_payments b.messages) ∙ relabel_credits (payments_of b.messages) ∙ h.even
          ∙ sym (ap debits (relettered_payments b.messages) ∙ relabel_debits (payments_of b.messages));
    }

    pub lettered_standing : {p : Place} {m n : ℕ} → Standing banks p m n → Standing banks (with_letter k x p) m n
    lettered_standing vacant = vacant
    lettered_standing (building {b = b} r l) = building (changed_right b r) (rw (relettered_length b.messages) l)
    lettered_standing (awaits {b = b} r c g) = awaits (changed_right b r) (changed_complete b c) g
    lettered_standing (stands {b = b} r c) = stands (changed_right b r) (changed_complete b c)
