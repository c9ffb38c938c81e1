-- True dates of 2000 to 2099, their day numbers, and how long a day is remembered.
use Rattle.std.specs.Prelude.{ℕ, ◌+◌, ◌*◌, ◌-◌, ◌/◌, ◌%◌, List, [], ◌∷◌, Bool, ◌&&◌, cond, get_or, take, leb, ltb, eqb, Option, Some, None}
use Rattle.chars.specs.Words.{within}

-- from 2000 to 2099 every fourth year is a leap year
unfoldable pub february : ℕ → ℕ
february year = cond (eqb (year % 4) 0) 29 28

-- the days of each month by its number, 1 for January; there is no month 0
unfoldable pub months : ℕ → List ℕ
months year =
    0 ∷ 31 ∷ february year ∷ 31 ∷ 30 ∷ 31 ∷ 30 ∷ 31 ∷ 31 ∷ 30 ∷ 31 ∷ 30 ∷ 31 ∷ []

-- the days of a month; 0 for a number that is no month
unfoldable pub days_in : ℕ → ℕ → ℕ
days_in year month = get_or (months year) month 0

abbrev pub sum : List ℕ → ℕ
sum [] = 0
sum (n ∷ ns) = n + sum ns

-- the day number of 1 January: 365 days for each year before, and one more for each leap year among them
abbrev pub year_start : ℕ → ℕ
year_start year = 365 * year + (year + 3) / 4

-- the year, month and day of YYMMDD
abbrev pub year_of : ℕ → ℕ
year_of n = n / 10000

abbrev pub month_of : ℕ → ℕ
month_of n = n / 100 % 100

abbrev pub day_of_month : ℕ → ℕ
day_of_month n = n % 100

-- "YYMMDD, a true date of 2000 to 2099"
unfoldable pub is_true : ℕ → Bool
is_true n = ltb n 1000000 && within 1 (days_in (year_of n) (month_of n)) (day_of_month n)

-- the days of the months before
abbrev pub days_before : ℕ → ℕ → ℕ
days_before year month = sum (take month (months year))

-- counted from 2000-01-01, which is 0
abbrev pub day_number : ℕ → ℕ → ℕ → ℕ
day_number year month day = year_start year + days_before year month + (day - 1)

-- the day number of a true date
unfoldable pub day_of : ℕ → Option ℕ
day_of n = cond (is_true n) (Some (day_number (year_of n) (month_of n) (day_of_month n))) None

-- MMDD of a day's place among months of the given lengths, the first of which is month m; 0 past the last
unfoldable pub month_day : ℕ → List ℕ → ℕ → ℕ
month_day m [] place = 0
month_day m (days ∷ more) place =
    let later = month_day (m + 1) more (place - days) in
    cond (ltb place days) (100 * m + (place + 1)) later

-- a day number's year
abbrev pub year_at : ℕ → ℕ
year_at k = 4 * k / 1461

-- "a true date of 2000 to 2099"
abbrev pub days_of_century : ℕ
days_of_century = 36525

-- YYMMDD of a day number; 0 past 2099-12-31
unfoldable pub date_of : ℕ → ℕ
date_of k =
    cond (ltb k days_of_century) (10000 * year_at k + month_day 0 (months (year_at k)) (k - year_start (year_at k))) 0

-- "today or on one of the 14 days before"
unfoldable pub is_remembered : ℕ → ℕ → Bool
is_remembered day today = leb day today && leb today (day + 14)
