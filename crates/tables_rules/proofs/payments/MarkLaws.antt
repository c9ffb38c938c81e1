-- Numbers that are marked one after another: each below n, and none twice.
use Rattle.std.proofs.Common.{◌≡◌, ℕ, zero, suc, ◌<◌, ◌≤◌, Bool, true, false, not, List, [], ◌∷◌, length, get_or, set, replicate, sym, refl, ap, ◌∙◌, arith, get_or-set_other, get_or-set_same}
use mathlib.Core.Bool.{false≢true}
use borrow.Author.Tests.{not-false}
use Rattle.chars.specs.Words.{Says}
use Rattle.queue.specs.Promise.{All, Off, Once}
use Rattle.tables.proofs.TestLaws.{Both, says_no, says_yes}
use Rattle.tables_rules.specs.payments.Marks.{Marked, Below}

pub says_is : (r b : Bool) → r ≡ b → Says (b ≡ true) r
says_is true b e = sym e
says_is false b e = λ y. false≢true (e ∙ y)

-- ---- one number

pub mark_high : (n k : ℕ) (l : List ℕ) → n ≤ k → Marked n k l l false
mark_high n k l h = record { says = λ x. omega (arith, x.0); sets = λ e. absurd (false≢true e) }

pub mark_seen : (n k : ℕ) (l : List ℕ) → (get_or l k 0 ≡ 0 → ⊥) → Marked n k l l false
mark_seen n k l h = record { says = λ x. h x.1; sets = λ e. absurd (false≢true e) }

pub mark_new : (n k : ℕ) (l : List ℕ) → k < n → get_or l k 0 ≡ 0 → Marked n k l (set l k 1) true
mark_new n k l h e = record { says = (h, e); sets = λ _. refl }

-- ---- all that are left

pub record Fresh (n : ℕ) (seen l : List ℕ) : Type 0 where
  pub new : All (λ k. (k < n) × (get_or seen k 0 ≡ 0)) l
  pub once : Once l

none_seen : (m k : ℕ) → ◌≡◌ {A = ℕ} (get_or (replicate m 0) k 0) 0
none_seen zero k = refl
none_seen (suc m) zero = refl
none_seen (suc m) (suc k) = none_seen m k

all_new : (m n : ℕ) (l : List ℕ) → All (λ k. k < n) l → All (λ k. (k < n) × (◌≡◌ {A = ℕ} (get_or (replicate m 0) k 0) 0)) l
all_new m n [] a = tt
all_new m n (k ∷ l) a = ((a.0, none_seen m k), all_new m n l a.1)

all_low : (n : ℕ) (seen l : List ℕ) → All (λ k. (k < n) × (get_or seen k 0 ≡ 0)) l → All (λ k. k < n) l
all_low n seen [] a = tt
all_low n seen (k ∷ l) a = (a.0.0, all_low n seen l a.1)

pub fresh_start : (m n : ℕ) (l : List ℕ) → Both (Below n l) (Fresh n (replicate m 0) l)
fresh_start m n l = record { to = λ x. record { new = all_new m n l x.0; once = x.1 }; back = λ x. (all_low n (replicate m 0) l x.new, x.once) }

module _ (n k : ℕ) (seen : List ℕ) (inside : k < length seen) where
  narrow : (l : List ℕ) → Off k l → All (λ j. (j < n) × (get_or seen j 0 ≡ 0)) l → All (λ j. (j < n) × (get_or (set seen k 1) j 0 ≡ 0)) l
  narrow [] o a = tt
  narrow (j ∷ l) o a = ((a.0.0, get_or-set_other seen k j 1 0 o.0 ∙ a.0.1), narrow l o.1 a.1)

  marked_off : (j : ℕ) → get_or (set seen k 1) j 0 ≡ 0 → j ≡ k → ⊥
  marked_off j e d =
      let z : ◌≡◌ {A = ℕ} 1 0 = sym (get_or-set_same seen k 1 0 inside) ∙ ap (λ (i : ℕ). get_or (set seen k 1) i 0) (sym d) ∙ e in
      omega arith

  off_marked : (l : List ℕ) → All (λ j. (j < n) × (get_or (set seen k 1) j 0 ≡ 0)) l → Off k l
  off_marked [] a = tt
  off_marked (j ∷ l) a = (marked_off j a.0.1, off_marked l a.1)

  widen : (l : List ℕ) → All (λ j. (j < n) × (get_or (set seen k 1) j 0 ≡ 0)) l → All (λ j. (j < n) × (get_or seen j 0 ≡ 0)) l
  widen [] a = tt
  widen (j ∷ l) a =
      ((a.0.0, sym (get_or-set_other seen k j 1 0 (marked_off j a.0.1)) ∙ a.0.1), widen l a.1)

module _ {Q : Type 0} (n : ℕ) (seen rest : List ℕ) (b : Both Q (Fresh n seen rest)) where
  pub fresh_end : rest ≡ [] → Q
  fresh_end e = b.back (record { new = rw e tt; once = rw e tt })

  module _ (k : ℕ) (more : List ℕ) (cut : rest ≡ k ∷ more) {left : List ℕ} {r : Bool} (m : Marked n k seen left r) where
    pub fresh_not : not r ≡ true → Q → ⊥
    fresh_not e q = says_no r m.says e (rw cut at (b.to q).new).0

    pub fresh_on : not r ≡ false → n ≤ length seen → Both Q (Fresh n left more)
    fresh_on e l =
        let y = says_yes r m.says e in
        let inside : k < length seen = omega (arith, y.0) in
        let g : left ≡ set seen k 1 = m.sets (not-false r e) in
        rw g
        (record {
          to = λ q. let x = rw cut at (b.to q).new in let o = rw cut at (b.to q).once in record { new = narrow n k seen inside more o.0 x.1; once = o.1 };
          back = λ x. b.back (record { new = rw cut (y, widen n k seen inside more x.new); once = rw cut (off_marked n k seen inside more x.new, x.once) });
        })
