use Prim.Native.Nat.{ℕ, ◌<◌, ◌≤◌}
use mathlib.Core.Path.{◌≡◌, refl}
use mathlib.Core.List.{[], ◌∷◌}
use mathlib.Core.Logic.{⊎_elim}
use native.Mathlib.Omega.{arith}
use borrow.Author.Tests.{ne_eqb}
use Rattle.chars.proofs.Laws.{AllNot, none_of}
use Rattle.dates.specs.Dates.{february, months, days_in}
use Rattle.dates.proofs.Months.{month_zero, no_month, july_august}
use Rattle.dates.proofs.days_in.Goals as goal

past : (m : ℕ) → 9 ≤ m → AllNot (4 ∷ 6 ∷ 9 ∷ 11 ∷ []) m → AllNot (1 ∷ 3 ∷ 5 ∷ 10 ∷ 12 ∷ []) m → 12 < m
past m h a b = go m h a.1.1.0 b.1.1.1.0 a.1.1.1.0 b.1.1.1.1.0
  where
    go : (m : ℕ) → 9 ≤ m → (m ≡ 9 → ⊥) → (m ≡ 10 → ⊥) → (m ≡ 11 → ⊥) → (m ≡ 12 → ⊥) → 12 < m
    go m h a b c d = omega arith

from_seven : (m : ℕ) → 1 ≤ m → (m ≡ 1 → ⊥) → (m ≡ 2 → ⊥) → (m ≡ 3 → ⊥) → (m ≡ 4 → ⊥) → (m ≡ 5 → ⊥) → (m ≡ 6 → ⊥) → 6 < m
from_seven m h a b c d e f = omega arith

pub returns-in-4 : goal.returns-in-4
unfolding days_in months february
returns-in-4 c = record { value = ⊎_elim (λ e. rw e) (⊎_elim (λ e. rw e) (⊎_elim (λ e. rw e) (λ e. rw e))) c.in-4.is; small = omega arith }

pub returns-then-year-eq0 : goal.returns-then-year-eq0
unfolding days_in months february
returns-then-year-eq0 c = record { value = rw c.in-2.is (rw c.if-year-eq0.true refl); small = omega arith }

pub returns-else-year-eq0 : goal.returns-else-year-eq0
unfolding days_in months february
returns-else-year-eq0 c = record { value = rw c.in-2.is (rw (ne_eqb _ _ c.if-year-eq0.false) refl); small = omega arith }

pub returns-in_default : goal.returns-in_default
unfolding days_in months february
returns-in_default c = record { value = month_zero c.args.year c.args.month (omega arith); small = omega arith }

pub returns-in_default-2 : goal.returns-in_default-2
unfolding days_in months february
returns-in_default-2 c =
    let m = c.args.month in
    let r = c.in_default.in_default-own.rest in record { value = no_month c.args.year m (past m c.in_default.if-month-lt9-own.false (none_of (4 ∷ 6 ∷ 9 ∷ 11 ∷ []) m r.0.0.1) (none_of (1 ∷ 3 ∷ 5 ∷ 10 ∷ 12 ∷ []) m r.1)); small = omega arith }

pub returns-in-1-to-12 : goal.returns-in-1-to-12
unfolding days_in months february
returns-in-1-to-12 c = record { value = ⊎_elim (λ e. rw e) (⊎_elim (λ e. rw e) (⊎_elim (λ e. rw e) (⊎_elim (λ e. rw e) (λ e. rw e)))) c.in-1-to-12.in-1-to-12-own.keys3; small = omega arith }

pub returns-in-1-to-12-2 : goal.returns-in-1-to-12-2
unfolding days_in months february
returns-in-1-to-12-2 c =
    let m = c.args.month in
    let r = c.in-1-to-12.in_default-own.rest in
    let a = none_of (4 ∷ 6 ∷ 9 ∷ 11 ∷ []) m r.0.0.1 in
    let b = none_of (1 ∷ 3 ∷ 5 ∷ 10 ∷ 12 ∷ []) m r.1 in record {
      value = july_august c.args.year m
          (from_seven m c.in-1-to-12.if-month-lt1-own.false b.0 r.0.1 b.1.0 a.0 b.1.1.0 a.1.0)
          c.in-1-to-12.if-month-lt9-own.true;
      small = omega arith;
    }
