-- Each return of the functions; then minutes and seconds and their digits, both ways, which callers cite.
use Rattle.std.specs.Prelude.{Option, Some, None}
use Prim.Native.Nat.{ℕ, ◌+◌, ◌*◌, ◌/◌, ◌%◌, ◌≤◌, ◌<◌}
use mathlib.Core.Path.{◌≡◌, refl, sym, ◌∙◌, ap}
use mathlib.Core.Bool.{Bool, true, false, and-false}
use native.Mathlib.Omega.{arith}
use lib.Dec.{leb, ltb}
use borrow.Author.Tests.{lt-ltb, le-ltb, le-leb, lt-leb, leb-true, leb-false, ltb-true, ltb-false}
use Rattle.clock.specs.declared.Clock.{Clock}
use Rattle.clock.specs.Clock.{clock_of, has_begun, hhmmss_of, minute_of, hhmm_of, second_of}

pub clock_there : (s : ℕ) → s < 86400 → Some (record { seconds = s }) ≡ clock_of s
unfolding clock_of
clock_there s h = rw (lt-ltb s 86400 h)

pub clock_never : (s : ℕ) → 86400 ≤ s → None ≡ clock_of s
unfolding clock_of
clock_never s h = rw (le-ltb s 86400 h)

-- what its answer tells
module _ (s : ℕ) {m : Option Clock} (e : m ≡ clock_of s) where
  pub clock_is : {k : Clock} → m ≡ Some k → (k.seconds ≡ s) × (s < 86400)
  clock_is {k = k} f = go (ltb s 86400) refl
    where
      go : (t : Bool) → ltb s 86400 ≡ t → (k.seconds ≡ s) × (s < 86400)
      go true h =
          let z : k ≡ record { seconds = s } = cc (clock_there s (ltb-true s 86400 h)) in
          (ap (λ (c : Clock). c.seconds) z, ltb-true s 86400 h)
      go false h = let z : ◌≡◌ {A = ℕ} 0 1 = cc (clock_never s (ltb-false s 86400 h)) in absurd (omega arith)

  pub clock_not : m ≡ None → 86400 ≤ s
  clock_not f = go (ltb s 86400) refl
    where
      go : (t : Bool) → ltb s 86400 ≡ t → 86400 ≤ s
      go true h = let z : ◌≡◌ {A = ℕ} 0 1 = cc (clock_there s (ltb-true s 86400 h)) in absurd (omega arith)
      go false h = ltb-false s 86400 h

pub begun : (s m : ℕ) → leb m (s / 60) ≡ has_begun s m
unfolding has_begun
begun s m = go (leb m (s / 60)) refl
  where
    go : (t : Bool) → leb m (s / 60) ≡ t → leb m (s / 60) ≡ leb (60 * m) s
    go true e = e ∙ sym (le-leb (60 * m) s (omega (arith, leb-true m (s / 60) e)))
    go false e = e ∙ sym (lt-leb (60 * m) s (omega (arith, leb-false m (s / 60) e)))

pub digits_in : (s : ℕ) → s < 86400 → 10000 * (s / 3600) + (100 * (s / 60 % 60) + s % 60) ≡ hhmmss_of s
unfolding hhmmss_of
digits_in s h = rw (lt-ltb s 86400 h)

digits_out : (s : ℕ) → 86400 ≤ s → 0 ≡ hhmmss_of s
unfolding hhmmss_of
digits_out s h = rw (le-ltb s 86400 h)

module _ (s : ℕ) {m : Option Clock} (e : m ≡ clock_of s) where
  pub digits_at_lem : {k : Clock} → m ≡ Some k → 10000 * (k.seconds / 3600) + (100 * (k.seconds / 60 % 60) + k.seconds % 60) ≡ hhmmss_of s
  digits_at_lem f = let i = clock_is s e f in rw i.0 (digits_in s i.1)

  pub digits_never : m ≡ None → 0 ≡ hhmmss_of s
  digits_never f = digits_out s (clock_not s e f)

pub hhmm_in : (m : ℕ) → m < 1440 → 100 * (m / 60) + m % 60 ≡ hhmm_of m
unfolding hhmm_of
hhmm_in m h = rw (lt-ltb m 1440 h)

pub hhmm_out : (m : ℕ) → 1440 ≤ m → 0 ≡ hhmm_of m
unfolding hhmm_of
hhmm_out m h = rw (le-ltb m 1440 h)

module _ (n : ℕ) where
  pub minute_hour : 24 ≤ n / 100 → None ≡ minute_of n
  unfolding minute_of
  minute_hour h = simp (le-ltb (n / 100) 24 h)

  pub minute_past : 60 ≤ n % 100 → None ≡ minute_of n
  unfolding minute_of
  minute_past h = simp (le-ltb (n % 100) 60 h, and-false)

  pub minute_in : n / 100 < 24 → n % 100 < 60 → Some (60 * (n / 100) + n % 100) ≡ minute_of n
  unfolding minute_of
  minute_in h m = rw (lt-ltb (n / 100) 24 h, lt-ltb (n % 100) 60 m)

  pub second_hour : 24 ≤ n / 10000 → None ≡ second_of n
  unfolding second_of
  second_hour h = simp (le-ltb (n / 10000) 24 h)

  pub second_minute : 60 ≤ n / 100 % 100 → None ≡ second_of n
  unfolding second_of
  second_minute h = simp (le-ltb (n / 100 % 100) 60 h, and-false)

  pub second_past : 60 ≤ n % 100 → None ≡ second_of n
  unfolding second_of
  second_past h = simp (le-ltb (n % 100) 60 h, and-false)

  pub second_in_lem : n / 10000 < 24 → n / 100 % 100 < 60 → n % 100 < 60
      → Some (3600 * (n / 10000) + (60 * (n / 100 % 100) + n % 100)) ≡ second_of n
  unfolding second_of
  second_in_lem h m s = rw (lt-ltb (n / 10000) 24 h, lt-ltb (n / 100 % 100) 60 m, lt-ltb (n % 100) 60 s)

-- a minute and its HHMM
pub minute_back : (n m : ℕ) → minute_of n ≡ Some m → (hhmm_of m ≡ n) × (m < 1440)
minute_back n m e = go (ltb (n / 100) 24) refl (ltb (n % 100) 60) refl
  where
    go : (h : Bool) → ltb (n / 100) 24 ≡ h → (s : Bool) → ltb (n % 100) 60 ≡ s → (hhmm_of m ≡ n) × (m < 1440)
    go false eh s es = let z : ◌≡◌ {A = ℕ} 0 1 = cc (minute_hour n (ltb-false (n / 100) 24 eh)) in absurd (omega arith)
    go true eh false es = let z : ◌≡◌ {A = ℕ} 0 1 = cc (minute_past n (ltb-false (n % 100) 60 es)) in absurd (omega arith)
    go true eh true es =
        let hour : n / 100 < 24 = ltb-true (n / 100) 24 eh in
        let minute : n % 100 < 60 = ltb-true (n % 100) 60 es in
        let is : m ≡ 60 * (n / 100) + n % 100 = cc (minute_in n hour minute) in
        (sym (hhmm_in m (omega arith)) ∙ omega arith, omega arith)

pub hhmm_back : (m : ℕ) → m < 1440 → minute_of (hhmm_of m) ≡ Some m
hhmm_back m h =
    let is : hhmm_of m ≡ 100 * (m / 60) + m % 60 = sym (hhmm_in m h) in
    sym (minute_in (hhmm_of m) (omega arith) (omega arith)) ∙ ap Some (omega arith)

-- the parts of a second of the day, and of its HHMMSS
module _ (s h m t : ℕ) (e : s ≡ 3600 * h + (60 * m + t)) (hm : m < 60) (ht : t < 60) where
  hours : s / 3600 ≡ h
  hours = omega arith

  minutes : s / 60 ≡ 60 * h + m
  minutes = omega arith

  minute_part : s / 60 % 60 ≡ m
  minute_part = rw minutes (omega arith)

  second_part : s % 60 ≡ t
  second_part = omega arith

module _ (n h m t : ℕ) (e : n ≡ 10000 * h + (100 * m + t)) (hm : m < 60) (ht : t < 60) where
  hour_digits : n / 10000 ≡ h
  hour_digits = omega arith

  minute_digits : n / 100 % 100 ≡ m
  minute_digits = omega arith

  second_digits : n % 100 ≡ t
  second_digits = omega arith

digits_split : (n : ℕ) → 10000 * (n / 10000) + (100 * (n / 100 % 100) + n % 100) ≡ n
digits_split n = omega arith

second_split : (s : ℕ) → 3600 * (s / 3600) + (60 * (s / 60 % 60) + s % 60) ≡ s
second_split s = omega arith

-- a second and its HHMMSS
pub second_back : (n s : ℕ) → second_of n ≡ Some s → (hhmmss_of s ≡ n) × (s < 86400)
second_back n s e = go (ltb (n / 10000) 24) refl (ltb (n / 100 % 100) 60) refl (ltb (n % 100) 60) refl
  where
    go : (h : Bool) → ltb (n / 10000) 24 ≡ h → (m : Bool) → ltb (n / 100 % 100) 60 ≡ m → (t : Bool) → ltb (n % 100) 60 ≡ t
        → (hhmmss_of s ≡ n) × (s < 86400)
    go false eh m em t et = let z : ◌≡◌ {A = ℕ} 0 1 = cc (second_hour n (ltb-false (n / 10000) 24 eh)) in absurd (omega arith)
    go true eh false em t et = let z : ◌≡◌ {A = ℕ} 0 1 = cc (second_minute n (ltb-false (n / 100 % 100) 60 em)) in absurd (omega arith)
    go true eh true em false et = let z : ◌≡◌ {A = ℕ} 0 1 = cc (second_past n (ltb-false (n % 100) 60 et)) in absurd (omega arith)
    go true eh true em true et =
        let hour : n / 10000 < 24 = ltb-true (n / 10000) 24 eh in
        let minute : n / 100 % 100 < 60 = ltb-true (n / 100 % 100) 60 em in
        let second : n % 100 < 60 = ltb-true (n % 100) 60 et in
        let h = n / 10000 in
        let m = n / 100 % 100 in
        let t = n % 100 in
        let is : s ≡ 3600 * h + (60 * m + t) = cc (second_in_lem n hour minute second) in
        let small : s < 86400 = omega arith in (
          sym (digits_in s small)
              ∙ rw (hours s h m t is minute second, minute_part s h m t is minute second, second_part s h m t is minute second) (digits_split n),
          small,
        )

pub digits_back : (s : ℕ) → s < 86400 → second_of (hhmmss_of s) ≡ Some s
digits_back s small =
    let h = s / 3600 in
    let m = s / 60 % 60 in
    let t = s % 60 in
    let n = hhmmss_of s in
    let hour : h < 24 = omega arith in
    let is : n ≡ 10000 * h + (100 * m + t) = sym (digits_in s small) in
    let minute : m < 60 = omega arith in
    let second : t < 60 = omega arith in
    let eh = hour_digits n h m t is minute second in
    let em = minute_digits n h m t is minute second in
    let et = second_digits n h m t is minute second in
    sym (second_in_lem n (rw eh hour) (rw em minute) (rw et second))
    ∙ ap Some (rw (eh, em, et) (second_split s))
