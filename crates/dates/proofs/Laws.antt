-- Dates and day numbers, both ways, and in one order: what callers cite.
use Rattle.std.specs.Prelude.{Some, None}
use Prim.Native.Nat.{ℕ, zero, suc, ◌+◌, ◌*◌, ◌-◌, ◌/◌, ◌%◌, ◌≤◌, ◌<◌}
use mathlib.Core.Path.{◌≡◌, refl, sym, ◌∙◌, ap}
use mathlib.Core.Bool.{Bool, true, false, ◌&&◌, cond}
use mathlib.Core.List.{List, [], ◌∷◌}
use mathlib.Core.Logic.{◌↔◌}
use native.Mathlib.Omega.{arith}
use lib.ListN.{length, get_or, take, get_or-eq_default}
use lib.Seq.{take-take}
use lib.Dec.{leb, ltb}
use borrow.Author.Tests.{lt-ltb, le-ltb, le-leb, ltb-true, ltb-false, leb-true}
use Rattle.dates.specs.Dates.{months, days_in, sum, year_start, year_at, year_of, month_of, day_of_month, days_before, day_number, month_day, is_true, day_of, date_of}
use Rattle.dates.proofs.Months.{sum_take, sum_part, february_range, year_length}

-- a place among lengths is a part and a place inside it, both ways
pub place_at_lem : (ls : List ℕ) (b i r : ℕ) → i < length ls → r < get_or ls i 0 → month_day b ls (sum (take i ls) + r) ≡ 100 * (b + i) + (r + 1)
unfolding month_day
place_at_lem [] b i r h q = let z : ◌≡◌ {A = ℕ} 0 1 = omega arith in absurd (omega arith)
place_at_lem (l ∷ ls) b zero r h q = rw (lt-ltb (0 + r) l (omega arith)) (omega arith)
place_at_lem (l ∷ ls) b (suc i) r h q =
    let p = l + sum (take i ls) + r in
    let rest : p - l ≡ sum (take i ls) + r = omega arith in
    rw (le-ltb p l (omega arith), rest, place_at_lem ls (b + 1) i r (omega arith) q) (omega arith)

pub record Placed (ls : List ℕ) (p : ℕ) : Type 0 where
  pub part : ℕ
  pub rest : ℕ
  pub known : part < length ls
  pub inside : rest < get_or ls part 0
  pub here : p ≡ sum (take part ls) + rest

pub place_of : (ls : List ℕ) (p : ℕ) → p < sum ls → Placed ls p
place_of [] p h = absurd (omega arith)
place_of (l ∷ ls) p h = go (ltb p l) refl (place_of ls (p - l))
  where
    go : (t : Bool) → ltb p l ≡ t → (p - l < sum ls → Placed ls (p - l)) → Placed (l ∷ ls) p
    go true e f = record { part = 0; rest = p; known = omega arith; inside = ltb-true p l e; here = omega arith }
    go false e f =
        let past : l ≤ p = ltb-false p l e in
        let r = f (omega arith) in
        record { part = suc r.part; rest = r.rest; known = omega (arith, r.known); inside = r.inside; here = omega (arith, r.here) }

-- a day number lies in its year, and in no other
pub year_low : (k : ℕ) → year_start (year_at k) ≤ k
year_low k = omega arith

pub year_high : (k : ℕ) → k < year_start (year_at k + 1)
year_high k = omega arith

pub year_is : (y k : ℕ) → year_start y ≤ k → k < year_start (y + 1) → year_at k ≡ y
year_is y k p q = omega arith

-- what a date that has a day number is
pub record TrueDate (n k : ℕ) : Type 0 where
  pub small : n < 1000000
  pub from : 1 ≤ day_of_month n
  pub upto : day_of_month n ≤ days_in (year_of n) (month_of n)
  pub number : k ≡ day_number (year_of n) (month_of n) (day_of_month n)

pub true_date : (n k : ℕ) → day_of n ≡ Some k → TrueDate n k
unfolding day_of is_true
true_date n k h = go (ltb n 1000000) refl (leb 1 (n % 100)) refl (leb (n % 100) (days_in (n / 10000) (n / 100 % 100))) refl h
  where
    go : (s : Bool) → ltb n 1000000 ≡ s
        → (l : Bool) → leb 1 (n % 100) ≡ l
        → (u : Bool) → leb (n % 100) (days_in (n / 10000) (n / 100 % 100)) ≡ u
        → cond (s && (l && u)) (Some (day_number (n / 10000) (n / 100 % 100) (n % 100))) None ≡ Some k
        → TrueDate n k
    go true es true el true eu h =
        record { small = ltb-true n 1000000 es; from = leb-true 1 (n % 100) el; upto = leb-true (n % 100) (days_in (n / 10000) (n / 100 % 100)) eu; number = cc }
    go true es true el false eu h = let z : ◌≡◌ {A = ℕ} 0 1 = cc in absurd (omega arith)
    go true es false el u eu h = let z : ◌≡◌ {A = ℕ} 0 1 = cc in absurd (omega arith)
    go false es l el u eu h = let z : ◌≡◌ {A = ℕ} 0 1 = cc in absurd (omega arith)

pub made : (n y m d : ℕ) → n < 1000000 → n / 10000 ≡ y → n / 100 % 100 ≡ m → n % 100 ≡ d
    → 1 ≤ d → d ≤ days_in y m → day_of n ≡ Some (day_number y m d)
unfolding day_of is_true
made n y m d h ey em ed p q =
    rw (lt-ltb n 1000000 h, ey, em, ed, le-leb 1 d p, le-leb d (days_in y m) q)

-- a month that has a day is one of the 12
pub month_known : (y m : ℕ) → 1 ≤ days_in y m → m < length (months y)
unfolding days_in
month_known y m h = go (ltb m (length (months y))) refl
  where
    go : (t : Bool) → ltb m (length (months y)) ≡ t → m < length (months y)
    go true e = ltb-true m (length (months y)) e
    go false e = absurd (omega (arith, get_or-eq_default (months y) 0 {n = m} (ltb-false m (length (months y)) e)))

-- the days of the year up to a day of a month end within the year
pub in_year : (y m r : ℕ) → r < days_in y m → days_before y m + r < sum (months y)
unfolding days_in
in_year y m r h = omega (arith, sum_take (months y) m, sum_part (months y) (suc m))

-- of a true date: the year of its day number
module _ {n k : ℕ} (t : TrueDate n k) where
  pub rest_of : day_of_month n - 1 < days_in (year_of n) (month_of n)
  rest_of = omega (arith, t.from, t.upto)

  pub low : year_start (year_of n) ≤ k
  low = omega (arith, t.number)

  pub high : k < year_start (year_of n + 1)
  high = omega (arith, t.number, in_year (year_of n) (month_of n) (day_of_month n - 1) rest_of, year_length (year_of n))

pub day_back : (n k : ℕ) → day_of n ≡ Some k → (date_of k ≡ n) × (k < 36525)
unfolding date_of days_in
day_back n k h = (rw (lt-ltb k 36525 small, year, place, there) (omega (arith, t.from)), small)
  where
    t : TrueDate n k
    t = true_date n k h

    small : k < 36525
    small = omega (arith, high t, t.small)

    year : year_at k ≡ year_of n
    year = year_is (year_of n) k (low t) (high t)

    place : k - year_start (year_of n) ≡ days_before (year_of n) (month_of n) + (day_of_month n - 1)
    place = omega (arith, t.number)

    there : month_day 0 (months (year_of n)) (days_before (year_of n) (month_of n) + (day_of_month n - 1)) ≡ 100 * (0 + month_of n) + ((day_of_month n - 1) + 1)
    there =
        place_at_lem (months (year_of n)) 0 (month_of n) (day_of_month n - 1)
        (month_known (year_of n) (month_of n) (omega (arith, t.from, t.upto))) (rest_of t)

-- a month has at most 31 days
abbrev AllUpTo : ℕ → List ℕ → Type 0
AllUpTo b [] = Unit {0}
AllUpTo b (l ∷ ls) = (l ≤ b) × AllUpTo b ls

each_up_to : (b : ℕ) (ls : List ℕ) (i : ℕ) → AllUpTo b ls → get_or ls i 0 ≤ b
each_up_to b [] i h = omega arith
each_up_to b (l ∷ ls) zero h = h.0
each_up_to b (l ∷ ls) (suc i) h = each_up_to b ls i h.1

pub days_small : (y m : ℕ) → days_in y m ≤ 31
unfolding days_in months
days_small y m = each_up_to 31 (months y) m (omega (arith, february_range y))

-- the digits of the date that a year, a month and a day make
module _ (n y m d : ℕ) (e : n ≡ 10000 * y + (100 * m + d)) (hm : m < 100) (hd : d < 100) where
  pub digits_year : n / 10000 ≡ y
  digits_year = omega arith

  pub digits_month : n / 100 % 100 ≡ m
  digits_month = omega arith

  pub digits_day : n % 100 ≡ d
  digits_day = omega arith

-- the date of a day number, from its year and its place there
module _ (k : ℕ) (h : k < 36525) (p : Placed (months (year_at k)) (k - year_start (year_at k))) where
  date_is : date_of k ≡ 10000 * year_at k + (100 * p.part + (p.rest + 1))
  unfolding date_of
  date_is = rw (lt-ltb k 36525 h, p.here, place_at_lem (months (year_at k)) 0 p.part p.rest p.known p.inside) (omega arith)

  part_small : p.part < 13
  unfolding months
  part_small = p.known

  rest_small : p.rest < days_in (year_at k) p.part
  unfolding days_in
  rest_small = p.inside

  number_is : day_number (year_at k) p.part (p.rest + 1) ≡ k
  number_is = omega (arith, p.here, year_low k)

  date_placed : day_of (date_of k) ≡ Some k
  date_placed =
      let n = date_of k in
      let y = year_at k in
      let m = p.part in
      let d = p.rest + 1 in
      let mh : m < 100 = omega (arith, part_small) in
      let dh : d < 100 = omega (arith, rest_small, days_small y m) in
      made n y m d (omega (arith, date_is)) (digits_year n y m d date_is mh dh) (digits_month n y m d date_is mh dh)
      (digits_day n y m d date_is mh dh) (omega arith) (omega (arith, rest_small))
      ∙ ap Some number_is

pub date_back : (k : ℕ) → k < 36525 → day_of (date_of k) ≡ Some k
date_back k h =
    date_placed k h
    (place_of (months (year_at k)) (k - year_start (year_at k)) (omega (arith, year_low k, year_high k, year_length (year_at k))))

pub date_small : (k : ℕ) → date_of k < 1000000
unfolding date_of
date_small k = go (ltb k 36525) refl
  where
    go : (t : Bool) → ltb k 36525 ≡ t → date_of k < 1000000
    go true e = (true_date (date_of k) k (date_back k (ltb-true k 36525 e))).small
    go false e = rw e (omega arith)

-- a place in an earlier part is the smaller
part_before : (ls : List ℕ) (i j r : ℕ) → i < j → r < get_or ls i 0 → sum (take i ls) + r < sum (take j ls)
part_before ls i j r h q = omega (arith, sum_take ls i, up)
  where
    up : sum (take (suc i) ls) ≤ sum (take j ls)
    up = rw (← take-take (suc i) j ls h) (sum_part (take j ls) (suc i))

-- the later of two dates of one month
day_later : (a b : ℕ) → a < b → year_of b ≡ year_of a → month_of b ≡ month_of a → 1 ≤ day_of_month a → day_of_month a - 1 < day_of_month b - 1
day_later a b h p q r = omega arith

-- a later date has a greater day number
rises : {a b j k : ℕ} → TrueDate a j → TrueDate b k → a < b → j < k
unfolding days_in
rises {a} {b} {j} {k} s t h = year (ltb (year_of a) (year_of b)) refl (ltb (month_of a) (month_of b)) refl
  where
    year : (u : Bool) → ltb (year_of a) (year_of b) ≡ u → (v : Bool) → ltb (month_of a) (month_of b) ≡ v → j < k
    year true e v f = omega (arith, ltb-true (year_of a) (year_of b) e, high s, low t)
    year false e true f =
        let same : year_of b ≡ year_of a = omega (arith, ltb-false (year_of a) (year_of b) e, h) in
        let start : year_start (year_of b) ≡ year_start (year_of a) = ap year_start same in
        let before : days_before (year_of b) (month_of b) ≡ days_before (year_of a) (month_of b) = rw same in
        omega (arith, s.number, t.number, start, before, part_before (months (year_of a)) (month_of a) (month_of b) (day_of_month a - 1) (ltb-true (month_of a) (month_of b) f) (rest_of s))
    year false e false f =
        let same : year_of b ≡ year_of a = omega (arith, ltb-false (year_of a) (year_of b) e, h) in
        let month : month_of b ≡ month_of a = omega (arith, same, ltb-false (month_of a) (month_of b) f, h) in
        let start : year_start (year_of b) ≡ year_start (year_of a) = ap year_start same in
        let before : days_before (year_of b) (month_of b) ≡ days_before (year_of a) (month_of a) = rw (same, month) in
        let day : day_of_month a - 1 < day_of_month b - 1 = day_later a b h same month s.from in
        rw (s.number, t.number, start, before) (omega (arith, day))

-- of two true dates the first is the earlier exactly when its day number is the smaller
pub day_order : (a b j k : ℕ) → day_of a ≡ Some j → day_of b ≡ Some k → (a < b) ↔ (j < k)
day_order a b j k p q = (rises (true_date a j p) (true_date b k q), λ h. back h (ltb a b) refl (ltb b a) refl)
  where
    back : j < k → (u : Bool) → ltb a b ≡ u → (v : Bool) → ltb b a ≡ v → a < b
    back h true e v f = ltb-true a b e
    back h false e true f = absurd (omega (arith, rises (true_date b k q) (true_date a j p) (ltb-true b a f)))
    back h false e false f =
        let same : a ≡ b = omega (arith, ltb-false a b e, ltb-false b a f) in
        let both : Some j ≡ Some k = sym p ∙ ap day_of same ∙ q in
        let one : j ≡ k = cc in
        absurd (omega arith)
