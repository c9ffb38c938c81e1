-- Laws of what holds a batch, in the terms of the code.
use Rattle.std.specs.Prelude.{Result, Ok, Err}
use mathlib.Core.Path.{◌≡◌, refl, sym, ap, ◌∙◌}
use mathlib.Core.Bool.{Bool, true, false, not}
use mathlib.Core.Logic.{inl, inr}
use mathlib.Core.List.{List, [], ◌∷◌}
use Prim.Native.Nat.{ℕ, zero, suc, ◌+◌, ◌*◌, ◌≤◌, ◌<◌}
use lib.ListN.{length, get_or, get_or-eq_default}
use types.Run.{OneOf}
use borrow.Author.Tests.{lt-ltb, le-ltb, le-leb, lt-leb, eq-eqb, ne_eqb, not-true, not-false}
use Rattle.chars.specs.Words.{bytes}
use Rattle.chars.specs.declared.Refusal.{Refusal}
use Rattle.chars.proofs.Laws.{not_member}
use Rattle.settle.specs.Cover.{esa, covered}
use Rattle.settle.specs.Payments.{Payment, credit, debit, payment, payment_at, payments_from, Need, needs_of}
use Rattle.settle.specs.Settlement.{Accounts, accounts, is_covered, uncovered}
use Rattle.settle.specs.Types.{batch_or}
use Rattle.settle.specs.declared.Batch.{Batch}
use Rattle.settle.proofs.Laws.{batch_stands, batch_nowhere, uncovered_credit, uncovered_debit}
use Rattle.queue_explain.specs.declared.Held.{Held}
use Rattle.queue_explain.specs.declared.Held.TheVariants.{Short, Deferred, Free, Unqueued}
use Rattle.queue_explain.specs.Holding.{short_of, need_at, debit_of, holds, held_by, held_at}

-- a debit that holds its batch, by its letter
module _ (a : Accounts) (n : Need) where
  pub holds_P : (x : ℕ) → esa n.letters ≡ 80 → x ≡ short_of n.cents 0 (get_or a.balances n.bank 0) → Short (debit_of n) x ≡ holds a n
  unfolding holds
  holds_P x e h = rw (h, e)

  pub holds_A : (x : ℕ) → OneOf (bytes " A") (esa n.letters) → x ≡ short_of n.cents (get_or a.sublimits n.bank 0) (get_or a.balances n.bank 0) → Short (debit_of n) x ≡ holds a n
  unfolding holds
  holds_A x (inl e) h = rw (h, e)
  holds_A x (inr e) h = rw (h, e)

  pub holds_D : (esa n.letters ≡ 80 → ⊥) → (OneOf (bytes " A") (esa n.letters) → ⊥) → Deferred (debit_of n) ≡ holds a n
  unfolding holds
  holds_D p e = sym (simp (not_member (bytes " A") (esa n.letters) e, not_member (bytes "P") (esa n.letters) p))

pub word_past : (t : List ℕ) (i : ℕ) → length t ≤ i → 0 ≡ get_or t i 0
word_past t i h = sym (get_or-eq_default t 0 {n = i} h)

-- the debit at a word, its words told by x, y, z
module _ (t : List ℕ) (at : ℕ) (b l : List ℕ) where
  pub none_uncovered : {z : ℕ} → z ≡ get_or t (at + 2) 0 → z ≡ 0 → false ≡ uncovered (accounts b l) (payment_at t at)
  none_uncovered p e = uncovered_credit t at b l (sym p ∙ e)

  pub some_uncovered : {x k y z v w : ℕ} {r : Bool} → z ≡ get_or t (at + 2) 0 → (z ≡ 0 → ⊥) → x ≡ get_or t at 0 → k ≡ x → v ≡ get_or b k 0 → w ≡ get_or l k 0 → y ≡ get_or t (at + 1) 0
      → r ≡ covered z v w y → not r ≡ uncovered (accounts b l) (payment_at t at)
  some_uncovered {k = k} {r = r} p n e f g h i o =
      uncovered_debit t at b l k r (λ q. n (p ∙ q)) (f ∙ e) (rw (p, g, h, i) at o)

  pub at_P : {x k y z v s : ℕ} → x ≡ get_or t at 0 → y ≡ get_or t (at + 1) 0 → z ≡ get_or t (at + 2) 0 → k ≡ x → v ≡ get_or b k 0 → esa z ≡ 80 → s ≡ short_of y 0 v
      → Short (record { bank = x; letter = esa z; cents = y }) s ≡ holds (accounts b l) (need_at t at)
  at_P {s = s} p q r e f h i = rw (p, q, r) (holds_P (accounts b l) (need_at t at) s (rw r at h) (rw (q, f, e, p) at i))

  pub at_A : {x k y z v w s : ℕ} → x ≡ get_or t at 0 → y ≡ get_or t (at + 1) 0 → z ≡ get_or t (at + 2) 0 → k ≡ x → v ≡ get_or b k 0 → w ≡ get_or l k 0 → OneOf (bytes " A") (esa z) → s ≡ short_of y w v
      → Short (record { bank = x; letter = esa z; cents = y }) s ≡ holds (accounts b l) (need_at t at)
  at_A {s = s} p q r e f g h i = rw (p, q, r) (holds_A (accounts b l) (need_at t at) s (rw r at h) (rw (q, f, g, e, p) at i))

  pub at_D : {x y z : ℕ} → x ≡ get_or t at 0 → y ≡ get_or t (at + 1) 0 → z ≡ get_or t (at + 2) 0 → (esa z ≡ 80 → ⊥) → (OneOf (bytes " A") (esa z) → ⊥)
      → Deferred (record { bank = x; letter = esa z; cents = y }) ≡ holds (accounts b l) (need_at t at)
  at_D p q r n o = rw (p, q, r) (holds_D (accounts b l) (need_at t at) (rw r at n) (rw r at o))

-- one payment of the search
goes : (a : Accounts) (p : Payment) (ps : List Payment) → uncovered a p ≡ false → held_by a (needs_of (p ∷ ps)) ≡ held_by a (needs_of ps)
unfolding uncovered needs_of held_by
goes a (credit k c) ps e = refl
goes a (debit l k c) ps e = rw (not-false (is_covered a (record { letters = l; bank = k; cents = c })) e)

stays : (a : Accounts) (k c l : ℕ) (ps : List Payment) → uncovered a (payment k c l) ≡ true → held_by a (needs_of (payment k c l ∷ ps)) ≡ holds a (record { letters = l; bank = k; cents = c })
unfolding uncovered needs_of held_by payment
stays a k c zero ps e = cc
stays a k c (suc l) ps e = rw (not-true (is_covered a (record { letters = suc l; bank = k; cents = c })) e)

-- a turn: x is what holds all payments, and those that are left
module _ (a : Accounts) (t : List ℕ) (at : ℕ) (rest behind : List Payment) (cut : rest ≡ payment_at t at ∷ behind) (x : Held) (inv : x ≡ held_by a (needs_of rest)) (r : Bool) (told : r ≡ uncovered a (payment_at t at)) where
  pub held_here : {h : Held} → r ≡ true → h ≡ holds a (need_at t at) → h ≡ x
  unfolding payment_at
  held_here e f = f ∙ sym (inv ∙ ap (λ (ps : List Payment). held_by a (needs_of ps)) cut
      ∙ stays a (get_or t at 0) (get_or t (at + 1) 0) (get_or t (at + 2) 0) behind (sym told ∙ e))

  pub held_on : r ≡ false → x ≡ held_by a (needs_of behind)
  held_on e = inv ∙ ap (λ (ps : List Payment). held_by a (needs_of ps)) cut ∙ goes a (payment_at t at) behind (sym told ∙ e)

pub held_free : (a : Accounts) (rest : List Payment) (x : Held) → rest ≡ [] → x ≡ held_by a (needs_of rest) → Free ≡ x
unfolding held_by needs_of
held_free a rest x e inv = rw (inv, e)

-- the batch at a place
module _ (a : Accounts) (t : List ℕ) (place : ℕ) {b : Result Batch Refusal} (at : b ≡ batch_or place) where
  pub no_place : {r : Refusal} → b ≡ Err r → Unqueued ≡ held_at a t place
  unfolding held_at
  no_place n = simp (le-ltb _ _ (batch_nowhere place at n))

  module _ {k : Batch} (stands : b ≡ Ok k) {w : ℕ} (p : w ≡ get_or t k.start 0) where
    phase : w ≡ get_or t (place * 349) 0
    phase = p ∙ ap (λ (i : ℕ). get_or t i 0) (batch_stands place at stands).0

    within : place < 32
    within = (batch_stands place at stands).1

    pub not_queued : (w ≡ 3 → ⊥) → Unqueued ≡ held_at a t place
    unfolding held_at
    not_queued e = simp (lt-ltb _ _ within, ← phase, ne_eqb _ _ e)

    module _ (e : w ≡ 3) {n : ℕ} (q : n ≡ get_or t (k.start + 8) 0) where
      many : n ≡ get_or t (place * 349 + 8) 0
      many = q ∙ ap (λ (i : ℕ). get_or t (i + 8) 0) (batch_stands place at stands).0

      pub too_many : 100 < n → Unqueued ≡ held_at a t place
      unfolding held_at
      too_many g = simp (lt-ltb _ _ within, ← phase, eq-eqb _ _ e, ← many, lt-leb _ _ g)

      pub queued : {x : Held} → n ≤ 100 → x ≡ held_by a (needs_of (payments_from t (k.start + 49) n)) → x ≡ held_at a t place
      unfolding held_at
      queued g f =
          f ∙ ap (λ (i : ℕ). held_by a (needs_of (payments_from t (i + 49) n))) (batch_stands place at stands).0
          ∙ sym (simp (lt-ltb _ _ within, ← phase, eq-eqb _ _ e, ← many, le-leb _ _ g))
