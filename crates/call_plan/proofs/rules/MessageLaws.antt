-- What a message says of itself, before its payments.
use Rattle.std.specs.Prelude.{Ok, Err}
use Prim.Native.Nat.{ℕ, zero, suc, ◌+◌, ◌-◌, ◌*◌, ◌≤◌, ◌<◌}
use mathlib.Core.Path.{◌≡◌, refl, sym, ◌∙◌}
use mathlib.Core.Bool.{Bool, true, false, not}
use mathlib.Core.List.{List}
use native.Mathlib.Omega.{arith}
use borrow.Author.Tests.{eq-eqb, ne_eqb, le-leb, lt-leb, not-true, not-false}
use lib.Dec.{eqb}
use lib.ListN.{get_or}
use Rattle.chars.specs.declared.Refusal.TheVariants.{PastDate, FutureDate, Malformed}
use Rattle.request_read.specs.declared.terms.Activation.{Activation}
use Rattle.request_read.specs.declared.terms.Activation.TheVariants.{AtOnce, Minute}
use Rattle.request_read.specs.declared.terms.Terms.{Terms}
use Rattle.call_plan.specs.rules.Steps.{same_word, numbered, head_on}

-- ---- the activation

pub at_once : (a : Activation) (w : ℕ) → a ≡ AtOnce → eqb w 0 ≡ same_word a w
at_once a zero e = rw e
at_once a (suc w) e = rw (e, ne_eqb (suc w) 0 (λ z. omega (arith, z)))

pub minute_none : (a : Activation) (w m : ℕ) → a ≡ Minute m → w ≡ 0 → false ≡ same_word a w
minute_none a w m e z = rw (e, z)

pub minute_some : (a : Activation) (w m : ℕ) → a ≡ Minute m → (w ≡ 0 → ⊥) → eqb m (w - 1) ≡ same_word a w
minute_some a zero m e z = absurd (z refl)
minute_some a (suc w) m e z = let f : suc w - 1 ≡ w = omega arith in rw (e, f)

-- ---- the numbers that are there

abbrev pub numbered_from : List ℕ → (k n i : ℕ) → Bool
numbered_from row k n i = numbered row k i (n - i)

pub numbered_start : (row : List ℕ) (k n : ℕ) → numbered row k 0 n ≡ numbered_from row k n 0
numbered_start row k n = let e : n - 0 ≡ n = omega arith in rw e

module _ (row : List ℕ) (k n i : ℕ) {x : Bool} (inv : x ≡ numbered_from row k n i) where
  pub numbered_here : i < n → get_or row (11 + 4 * i) 0 ≡ k → true ≡ x
  unfolding numbered
  numbered_here h e =
      let f : n - i ≡ suc (n - (i + 1)) = omega arith in
      sym (inv ∙ rw (f, eq-eqb (get_or row (11 + 4 * i) 0) k e))

  pub numbered_on : i < n → (get_or row (11 + 4 * i) 0 ≡ k → ⊥) → x ≡ numbered_from row k n (i + 1)
  unfolding numbered
  numbered_on h e =
      let f : n - i ≡ suc (n - (i + 1)) = omega arith in
      inv ∙ rw (f, ne_eqb (get_or row (11 + 4 * i) 0) k e)

  pub numbered_end : n ≤ i → false ≡ x
  unfolding numbered
  numbered_end h = let f : n - i ≡ 0 = omega arith in sym (inv ∙ rw f)

-- ---- in their order

module _ (date : ℕ) (row : List ℕ) (t : Terms) where
  module _ (c : t.count ≡ get_or row 4 0) (a : Bool) (p : a ≡ same_word t.activation (get_or row 5 0)) where
    pub head_activation : not a ≡ true → Err Malformed ≡ head_on date row t
    unfolding head_on
    head_activation h = rw (eq-eqb t.count (get_or row 4 0) c, sym p, not-true a h)

    module _ (g : not a ≡ false) (b : Bool) (bs : b ≡ numbered row t.number 0 (get_or row 7 0)) where
      pub head_number : b ≡ true → Err Malformed ≡ head_on date row t
      unfolding head_on
      head_number h = rw (eq-eqb t.count (get_or row 4 0) c, sym p, not-false a g, sym bs, h)

      module _ (f : b ≡ false) where
        pub head_past : t.date.number < date → Err PastDate ≡ head_on date row t
        unfolding head_on
        head_past h = rw (eq-eqb t.count (get_or row 4 0) c, sym p, not-false a g, sym bs, f, lt-leb date t.date.number h)

        pub head_future : date ≤ t.date.number → date < t.date.number → Err FutureDate ≡ head_on date row t
        unfolding head_on
        head_future l h = rw (eq-eqb t.count (get_or row 4 0) c, sym p, not-false a g, sym bs, f, le-leb date t.date.number l, lt-leb t.date.number date h)

        pub head_done : date ≤ t.date.number → t.date.number ≤ date → (Ok tt) ≡ head_on date row t
        unfolding head_on
        head_done l h = rw (eq-eqb t.count (get_or row 4 0) c, sym p, not-false a g, sym bs, f, le-leb date t.date.number l, le-leb t.date.number date h)
