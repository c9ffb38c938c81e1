-- Laws of months and days that the proofs of the functions cite: sums of lengths, a place among them, each return.
use Rattle.std.specs.Prelude.{Some, None}
use Prim.Native.Nat.{ℕ, zero, suc, ◌+◌, ◌*◌, ◌-◌, ◌/◌, ◌%◌, ◌≤◌, ◌<◌}
use mathlib.Core.Path.{◌≡◌, refl, sym, ◌∙◌, ap}
use mathlib.Core.Bool.{Bool, true, false, cond}
use mathlib.Core.List.{List, [], ◌∷◌}
use native.Mathlib.Omega.{arith}
use native.Mathlib.Numerals.{add-one}
use lib.ListN.{length, get_or, take, drop, get_or-eq_default}
use lib.Seq.{drop-cons}
use lib.Dec.{leb, eqb}
use borrow.Author.Tests.{lt-ltb, le-ltb, le-leb, lt-leb, eqb-true, eqb-false, leb-true, leb-false}
use Rattle.dates.specs.Dates.{year_at, day_of_month, is_true, day_of, date_of, february, months, days_in, sum, year_start, days_before, month_day, is_remembered}

-- sums of the first lengths of a list
pub sum_take : (ls : List ℕ) (i : ℕ) → sum (take (suc i) ls) ≡ sum (take i ls) + get_or ls i 0
sum_take [] zero = refl
sum_take [] (suc i) = refl
sum_take (l ∷ ls) zero = omega arith
sum_take (l ∷ ls) (suc i) = omega (arith, sum_take ls i)

pub sum_part : (ls : List ℕ) (i : ℕ) → sum (take i ls) ≤ sum ls
sum_part [] zero = omega arith
sum_part [] (suc i) = omega arith
sum_part (l ∷ ls) zero = omega arith
sum_part (l ∷ ls) (suc i) = omega (arith, sum_part ls i)

-- the lengths of February, of a month and of a year
pub february_range : (y : ℕ) → (28 ≤ february y) × (february y ≤ 29)
unfolding february
february_range y = go (eqb (y % 4) 0)
  where
    go : (t : Bool) → (28 ≤ cond t 29 28) × (cond t 29 28 ≤ 29)
    go true = omega arith
    go false = omega arith

pub july_august : (y m : ℕ) → 6 < m → m < 9 → 31 ≡ days_in y m
unfolding days_in months
july_august y m p q = go (eqb m 7) refl
  where
    go : (t : Bool) → eqb m 7 ≡ t → 31 ≡ days_in y m
    go true e = rw (eqb-true m 7 e)
    go false e = let eight : m ≡ 8 = omega (arith, eqb-false m 7 e) in rw eight

pub month_zero : (y m : ℕ) → m < 1 → 0 ≡ days_in y m
unfolding days_in months
month_zero y m h = let none : m ≡ 0 = omega arith in rw none

pub no_month : (y m : ℕ) → 12 < m → 0 ≡ days_in y m
unfolding days_in months
no_month y m h = sym (get_or-eq_default (months y) 0 {n = m} (omega arith))

pub year_length : (y : ℕ) → year_start y + sum (months y) ≡ year_start (y + 1)
unfolding february months
year_length y = go (eqb (y % 4) 0) refl
  where
    go : (t : Bool) → eqb (y % 4) 0 ≡ t
        → year_start y + (0 + (31 + (cond t 29 28 + (31 + (30 + (31 + (30 + (31 + (31 + (30 + (31 + (30 + (31 + 0)))))))))))))
        ≡ year_start (y + 1)
    go true e = omega (arith, eqb-true (y % 4) 0 e)
    go false e = omega (arith, eqb-false (y % 4) 0 e)

pub before_small : (y m : ℕ) → days_before y m ≤ 366
unfolding months
before_small y m = omega (arith, sum_part (months y) m, february_range y)

-- a place past one length is a place among the next
module _ (ls : List ℕ) (m place : ℕ) (h : m < length ls) where
  pub month_here : place < get_or ls m 0 → 100 * m + (place + 1) ≡ month_day m (drop m ls) place
  unfolding month_day
  month_here q = rw (drop-cons ls m 0 h, lt-ltb place (get_or ls m 0) q)

  pub month_later : get_or ls m 0 ≤ place → month_day (m + 1) (drop (m + 1) ls) (place - get_or ls m 0) ≡ month_day m (drop m ls) place
  unfolding month_day
  month_later q = rw (drop-cons ls m 0 h, le-ltb place (get_or ls m 0) q, add-one m)

pub first_month : (y day : ℕ) → month_day 1 (drop 1 (months y)) day ≡ month_day 0 (months y) day
unfolding months
first_month y day =
    let e : day ≡ day - 0 = omega arith in
    ap (month_day 1 (drop 1 (months y))) e ∙ month_later (months y) 0 day (omega arith) (omega arith)

pub one_more : (y m : ℕ) {days more : ℕ} → days ≡ days_before y m → more ≡ days_in y m → days + more ≡ days_before y (m + 1)
unfolding days_in
one_more y m p q = rw (p, q, add-one, sum_take (months y) m)

pub all_before : (y m month : ℕ) {days : ℕ} → m ≤ month → month ≤ m → days ≡ days_before y m → days ≡ days_before y month
all_before y m month p q e = let same : m ≡ month = omega arith in rw (← same) e

-- the loop over the months: found, one month on, and past the last
module _ (y m place : ℕ) {days w : ℕ} (e : month_day m (drop m (months y)) place ≡ w) (d : days ≡ days_in y m) (h : m ≤ 12) where
  pub month_found : place < days → 100 * m + (place + 1) ≡ w
  unfolding days_in months
  month_found q = month_here (months y) m place (omega arith) (rw d at q) ∙ e

  pub month_next : days ≤ place → month_day (m + 1) (drop (m + 1) (months y)) (place - days) ≡ w
  unfolding days_in months
  month_next q = rw d (month_later (months y) m place (omega arith) (rw d at q) ∙ e)

pub month_none : (y m place : ℕ) {w : ℕ} → month_day m (drop m (months y)) place ≡ w → m ≤ 13 → 12 < m → 0 ≡ w
unfolding month_day months
month_none y m place e p q = let last : m ≡ 13 = omega arith in rw last at e

-- a date that is not true: past 2099, day 0, a day past the month's last
module _ (n : ℕ) where
  pub past_2099 : 1000000 ≤ n → None ≡ day_of n
  unfolding day_of is_true
  past_2099 h = rw (le-ltb n 1000000 h)

  module _ (h : n < 1000000) where
    pub day_zero : day_of_month n < 1 → None ≡ day_of n
    unfolding day_of is_true
    day_zero q = rw (lt-ltb n 1000000 h, lt-leb 1 (n % 100) q)

    module _ (p : 1 ≤ n % 100) where
      pub past_month : {days : ℕ} → days ≡ days_in (n / 10000) (n / 100 % 100) → days < n % 100 → None ≡ day_of n
      unfolding day_of is_true
      past_month e q = rw (lt-ltb n 1000000 h, le-leb 1 (n % 100) p, lt-leb (n % 100) (days_in (n / 10000) (n / 100 % 100)) (rw e at q))

      pub true_date : {days before : ℕ} → days ≡ days_in (n / 10000) (n / 100 % 100) → n % 100 ≤ days
          → before ≡ days_before (n / 10000) (n / 100 % 100)
          → Some (year_start (n / 10000) + before + (n % 100 - 1)) ≡ day_of n
      unfolding day_of is_true
      true_date e q b =
          rw (lt-ltb n 1000000 h, le-leb 1 (n % 100) p, le-leb (n % 100) (days_in (n / 10000) (n / 100 % 100)) (rw e at q), b)

pub no_date_lem : (k : ℕ) → 36525 ≤ k → 0 ≡ date_of k
unfolding date_of
no_date_lem k h = rw (le-ltb k 36525 h)

pub date_made : (k : ℕ) {md : ℕ} → k < 36525 → md ≡ month_day 0 (months (year_at k)) (k - year_start (year_at k))
    → 10000 * year_at k + md ≡ date_of k
unfolding date_of
date_made k h e = rw (lt-ltb k 36525 h, e)

-- "today or on one of the 14 days before", by the days between
same_leb : (a b c d : ℕ) → (a ≤ b → c ≤ d) → (c ≤ d → a ≤ b) → leb a b ≡ leb c d
same_leb a b c d f g = go (leb a b) refl
  where
    go : (t : Bool) → leb a b ≡ t → leb a b ≡ leb c d
    go true e = e ∙ sym (le-leb c d (f (leb-true a b e)))
    go false e =
        let past : b < a = leb-false a b e in
        let more : (c ≤ d → ⊥) = λ q. let less : a ≤ b = g q in omega arith in
        e ∙ sym (lt-leb c d (omega arith))

pub after : {day today : ℕ} → today < day → false ≡ is_remembered day today
unfolding is_remembered
after {day} {today} h = rw (lt-leb day today h)

pub back : {day today : ℕ} → day ≤ today → leb (today - day) 14 ≡ is_remembered day today
unfolding is_remembered
back {day} {today} h = rw (le-leb day today h) (same_leb (today - day) 14 today (day + 14) (λ q. omega arith) (λ q. omega arith))
