-- The first rule that is broken: lists of rules one after another, and each return of the blocks and of the book.
use Rattle.std.specs.Prelude.{Result, Ok, Err}
use Prim.Native.Nat.{ℕ, suc, ◌+◌, ◌-◌, ◌/◌, ◌%◌, ◌≤◌, ◌<◌}
use mathlib.Core.Path.{◌≡◌, refl, sym, ◌∙◌, ap}
use mathlib.Core.Bool.{Bool, true, false, not, and-false}
use mathlib.Core.List.{List, [], ◌∷◌, ◌++◌}
use native.Mathlib.Omega.{arith}
use lib.ListN.{length}
use borrow.Author.Tests.{le-leb, lt-leb, eq-eqb, ne_eqb, not-true, not-false}
use Rattle.chars.specs.declared.Refusal.{Refusal}
use Rattle.chars.specs.declared.Refusal.TheVariants.{BookLength, BookTotal}
use Rattle.book_read.specs.Block.{Rule, rule, first_broken}
use Rattle.book_read.specs.Book.{length_right, stream_rules, bank_rules, bank_blocks, bank_count, total_right, book_rules, book_check}

pub by_holds {ℓ} : {X : Type ℓ} (t : Bool) → (t ≡ true → X) → (t ≡ false → X) → X
by_holds true f g = f refl
by_holds false f g = g refl

-- a rule that holds leaves the rest to decide; one that is broken decides
module _ (h : Bool) (r : Refusal) (rs : List Rule) where
  pub holds_on : h ≡ true → first_broken (rule h r ∷ rs) ≡ first_broken rs
  unfolding first_broken
  holds_on e = rw e

  pub breaks : h ≡ false → first_broken (rule h r ∷ rs) ≡ Err r
  unfolding first_broken
  breaks e = rw e

-- what comes after rules that all hold, and after one that is broken
pub after_sound : (xs ys : List Rule) → first_broken xs ≡ Ok tt → first_broken (xs ++ ys) ≡ first_broken ys
unfolding first_broken
after_sound [] ys h = refl
after_sound (x ∷ xs) ys h =
    by_holds x.holds
    (λ e. rw e (after_sound xs ys (rw e at h)))
    (λ e. let no : Err x.fault ≡ Ok tt = rw e at h in let z : ◌≡◌ {A = ℕ} 0 1 = cc in absurd (omega arith))

pub after_fault : (xs ys : List Rule) {r : Refusal} → first_broken xs ≡ Err r → first_broken (xs ++ ys) ≡ Err r
unfolding first_broken
after_fault [] ys h = let z : ◌≡◌ {A = ℕ} 0 1 = cc in absurd (omega arith)
after_fault (x ∷ xs) ys h = by_holds x.holds (λ e. rw e (after_fault xs ys (rw e at h))) (λ e. rw e (rw e at h))

-- blocks of banks one after another
module _ (s : List ℕ) (blocks k : ℕ) where
  pub blocks_done : blocks ≤ k → Ok tt ≡ first_broken (bank_blocks s blocks k (blocks - k))
  unfolding bank_blocks first_broken
  blocks_done h = let z : blocks - k ≡ 0 = omega arith in rw z

  module _ (h : k < blocks) where
    next : bank_blocks s blocks k (blocks - k) ≡ bank_rules s blocks k ++ bank_blocks s blocks (k + 1) (blocks - (k + 1))
    unfolding bank_blocks
    next = let z : blocks - k ≡ suc (blocks - (k + 1)) = omega arith in rw z

    pub blocks_on : {a : Result (Unit {0}) Refusal} → a ≡ first_broken (bank_rules s blocks k) → a ≡ Ok tt
        → first_broken (bank_blocks s blocks (k + 1) (blocks - (k + 1))) ≡ first_broken (bank_blocks s blocks k (blocks - k))
    blocks_on p q = sym (ap first_broken next ∙ after_sound (bank_rules s blocks k) (bank_blocks s blocks (k + 1) (blocks - (k + 1))) (sym p ∙ q))

    pub blocks_fault : {a : Result (Unit {0}) Refusal} {r : Refusal} → a ≡ first_broken (bank_rules s blocks k) → a ≡ Err r
        → Err r ≡ first_broken (bank_blocks s blocks k (blocks - k))
    blocks_fault p q = sym (ap first_broken next ∙ after_fault (bank_rules s blocks k) (bank_blocks s blocks (k + 1) (blocks - (k + 1))) (sym p ∙ q))

-- the book: the length, the blocks, the total
module _ (s : List ℕ) where
  pub length_part : (length s % 512 ≡ 0 → ⊥) → Err BookLength ≡ book_check s
  unfolding book_check book_rules length_right first_broken
  length_part h = rw (ne_eqb (length s % 512) 0 h)

  pub length_short : length s / 512 < 2 → Err BookLength ≡ book_check s
  unfolding book_check book_rules length_right first_broken
  length_short h = simp (lt-leb 2 (length s / 512) h, and-false)

  pub length_long : 5 < length s / 512 → Err BookLength ≡ book_check s
  unfolding book_check book_rules length_right first_broken
  length_long h = simp (lt-leb (length s / 512) 5 h, and-false)

  module _ (a : length s % 512 ≡ 0) (l : 2 ≤ length s / 512) (h : length s / 512 ≤ 5) where
    last : List Rule
    last = rule (total_right s (bank_count s (length s / 512))) BookTotal ∷ []

    banks : List Rule
    banks = bank_blocks s (length s / 512) 1 (length s / 512 - 1)

    in_blocks : book_check s ≡ first_broken (stream_rules s (length s / 512) ++ (banks ++ last))
    unfolding book_check book_rules length_right first_broken last banks
    in_blocks = rw (eq-eqb (length s % 512) 0 a, le-leb 2 (length s / 512) l, le-leb (length s / 512) 5 h)

    pub streams_fault : {x : Result (Unit {0}) Refusal} {r : Refusal} → x ≡ first_broken (stream_rules s (length s / 512)) → x ≡ Err r → Err r ≡ book_check s
    streams_fault p q = sym (in_blocks ∙ after_fault (stream_rules s (length s / 512)) (banks ++ last) (sym p ∙ q))

    module _ {x : Result (Unit {0}) Refusal} (p : x ≡ first_broken (stream_rules s (length s / 512))) (q : x ≡ Ok tt) where
      in_banks : book_check s ≡ first_broken (banks ++ last)
      in_banks = in_blocks ∙ after_sound (stream_rules s (length s / 512)) (banks ++ last) (sym p ∙ q)

      pub banks_fault : {y : Result (Unit {0}) Refusal} {r : Refusal} → y ≡ first_broken (bank_blocks s (length s / 512) 1 (length s / 512 - 1)) → y ≡ Err r → Err r ≡ book_check s
      unfolding banks
      banks_fault e f = sym (in_banks ∙ after_fault banks last (sym e ∙ f))

      module _ {y : Result (Unit {0}) Refusal} {n : ℕ} {t : Bool} (e : y ≡ first_broken (bank_blocks s (length s / 512) 1 (length s / 512 - 1))) (f : y ≡ Ok tt)
          (c : n ≡ bank_count s (length s / 512)) (m : t ≡ total_right s n) where
        in_total : book_check s ≡ first_broken last
        unfolding banks
        in_total = in_banks ∙ after_sound banks last (sym e ∙ f)

        pub total_fault : not t ≡ true → Err BookTotal ≡ book_check s
        unfolding last
        total_fault z = sym (in_total ∙ breaks (total_right s (bank_count s (length s / 512))) BookTotal [] (sym (rw c at m) ∙ not-true t z))

        pub all_sound : not t ≡ false → Ok tt ≡ book_check s
        unfolding last first_broken
        all_sound z = sym (in_total ∙ holds_on (total_right s (bank_count s (length s / 512))) BookTotal [] (sym (rw c at m) ∙ not-false t z))
