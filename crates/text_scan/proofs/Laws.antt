-- What the answer at a place is, by what stands there.
use Rattle.std.specs.Prelude.{Option, Some, None}
use Prim.Native.Nat.{ℕ, zero, suc, ◌+◌, ◌-◌, ◌*◌, ◌≤◌, ◌<◌, min}
use mathlib.Core.Path.{◌≡◌, refl, ap, sym, ◌∙◌}
use mathlib.Core.List.{List, [], ◌∷◌}
use mathlib.Core.Bool.{Bool, true, false, cond, and-false, false≢true}
use native.Mathlib.Nat.{add-zero, add-suc, suc-add, zero-add}
use native.Mathlib.Numerals.{add-one}
use native.Mathlib.Omega.{arith}
use borrow.Author.Tests.{eq-eqb, ne_eqb, ltb-true, ltb-false, le-leb, lt-leb}
use lib.Dec.{ltb}
use lib.ListN.{length, get_or, take, drop, drop_of_length-le, length-drop, length-take}
use lib.Seq.{drop-cons, get_or-take, get_or-drop}
use Rattle.chars.specs.Chars.{is_code, is_digit, digit_value}
use Rattle.chars.specs.Words.{crlf}
use Rattle.text_scan.specs.Scan.{begins, lit_at, run, codes_at, code_at, digits, digits_at, number_at, line_end, most, ten}
use Rattle.text_scan.specs.declared.Run.{Run}

module _ (s p : List ℕ) (i j : ℕ) where
  lit_done : length p ≤ i → lit_at s j (drop i p) ≡ Some j
  unfolding lit_at begins
  lit_done h = simp (drop_of_length-le p h, add-zero)

  lit_miss : i < length p → j < length s → (get_or s j 0 ≡ get_or p i 0 → ⊥) → lit_at s j (drop i p) ≡ None
  unfolding lit_at begins
  lit_miss h k e = simp (drop-cons p i 0 h, drop-cons s j 0 k, ne_eqb _ _ e)

  lit_step : i < length p → j < length s → get_or s j 0 ≡ get_or p i 0 → lit_at s j (drop i p) ≡ lit_at s (j + 1) (drop (i + 1) p)
  unfolding lit_at begins
  lit_step h k e = simp (drop-cons p i 0 h, drop-cons s j 0 k, eq-eqb _ _ e, add-one, add-suc, suc-add)

-- a string that is longer than what is left does not stand there
begins_short : (p l : List ℕ) → length l < length p → begins p l ≡ false
unfolding begins
begins_short [] l h = absurd (omega arith)
begins_short (x ∷ p) [] h = refl
begins_short (x ∷ p) (y ∷ l) h = simp (begins_short p l (omega arith), and-false)

module _ (s : List ℕ) (at : ℕ) (p : List ℕ) where
  pub lit_short : length s - at < length p → None ≡ lit_at s at p
  unfolding lit_at
  lit_short h = simp (begins_short p (drop at s) (simp length-drop (omega (arith, h))))

  -- where the comparison stands: the first i bytes are alike, and the string fits
  pub record Matching (i : ℕ) : Type 0 where
    pub within : i ≤ length p
    pub fits : length p ≤ length s - at
    pub same : lit_at s (at + i) (drop i p) ≡ lit_at s at p

  pub match_from : length p ≤ length s - at → Matching 0
  match_from h = record { within = omega arith; fits = omega (arith, h); same = ap (λ (n : ℕ). lit_at s n p) (omega arith) }

  module _ {i : ℕ} (m : Matching i) where
    pub match_inside : i < length p → at + i < length s
    match_inside h = omega (arith, h, m.fits)

    pub match_not : i < length p → (get_or s (at + i) 0 ≡ get_or p i 0 → ⊥) → None ≡ lit_at s at p
    match_not h e = sym (lit_miss s p i (at + i) h (match_inside h) e) ∙ m.same

    pub match_on : i < length p → get_or s (at + i) 0 ≡ get_or p i 0 → Matching (i + 1)
    match_on h e = record {
      within = omega arith;
      fits = m.fits;
      same = ap (λ (n : ℕ). lit_at s n (drop (i + 1) p)) (omega arith) ∙ sym (lit_step s p i (at + i) h (match_inside h) e) ∙ m.same;
    }

    pub match_all : length p ≤ i → Some (at + length p) ≡ lit_at s at p
    match_all h = let e : at + length p ≡ at + i = omega (arith, m.within, h) in ap Some e ∙ sym (lit_done s p i (at + i) h) ∙ m.same

-- the bytes at a place, at most so many
window_length : (s : List ℕ) (at max : ℕ) → length (take max (drop at s)) ≡ min max (length s - at)
window_length s at max = length-take max (drop at s) ∙ ap (min max) (length-drop at s)

module _ (s : List ℕ) (at max : ℕ) {i : ℕ} {w : List ℕ} (h : w ≡ take max (drop at s)) (q : i < length w) where
  few : i < max
  few = omega (arith, q, ap length h, window_length s at max)

  inside : at + i < length s
  inside = omega (arith, q, ap length h, window_length s at max)

  there : get_or w i 0 ≡ get_or s (at + i) 0
  there = ap (λ (l : List ℕ). get_or l i 0) h ∙ get_or-take max (drop at s) i 0 few ∙ get_or-drop at s i 0

module _ (s : List ℕ) (j n : ℕ) where
  codes_none : codes_at s j 0 ≡ j
  unfolding codes_at run
  codes_none = simp add-zero

  codes_end : length s ≤ j → codes_at s j n ≡ j
  unfolding codes_at run
  codes_end k = simp (drop_of_length-le s k) (go n)
    where
      go : (n : ℕ) → j + run is_code n [] ≡ j
      go zero = add-zero j
      go (suc n) = add-zero j

  codes_stop : j < length s → is_code (get_or s j 0) ≡ false → codes_at s j n ≡ j
  unfolding codes_at run
  codes_stop k e = simp (drop-cons s j 0 k) (go n)
    where
      go : (n : ℕ) → j + run is_code n (get_or s j 0 ∷ drop (suc j) s) ≡ j
      go zero = add-zero j
      go (suc n) = simp (e, add-zero)

  codes_step : j < length s → is_code (get_or s j 0) ≡ true → codes_at s j (suc n) ≡ codes_at s (j + 1) n
  unfolding codes_at run
  codes_step k e = simp (drop-cons s j 0 k, e, add-one, add-suc, suc-add)

-- the same with what is left
codes_down : (s : List ℕ) (j n : ℕ) → 0 < n → j < length s → is_code (get_or s j 0) ≡ true → codes_at s j n ≡ codes_at s (j + 1) (n - 1)
codes_down s j zero h k e = absurd (omega arith)
codes_down s j (suc n) h k e = codes_step s j n k e ∙ ap (codes_at s (j + 1)) (omega arith)

-- the loop of `codes` over the bytes at a place, of which the first i are A-Z 0-9
module _ (s : List ℕ) (at max : ℕ) {i : ℕ} {w : List ℕ} (h : w ≡ take max (drop at s)) (g : codes_at s (at + i) (max - i) ≡ codes_at s at max) where
  pub codes_here : i < length w → false ≡ is_code (get_or w i 0) → at + i ≡ codes_at s at max
  codes_here q p = sym (codes_stop s (at + i) (max - i) (inside s at max h q) (ap is_code (sym (there s at max h q)) ∙ sym p)) ∙ g

  pub codes_on : i < length w → true ≡ is_code (get_or w i 0) → codes_at s (at + (i + 1)) (max - (i + 1)) ≡ codes_at s at max
  codes_on q p =
      let y : at + (i + 1) ≡ at + i + 1 = omega arith in
      let z : max - (i + 1) ≡ max - i - 1 = omega arith in
      rw (y, z) (sym (codes_down s (at + i) (max - i) (omega (arith, few s at max h q)) (inside s at max h q) (ap is_code (sym (there s at max h q)) ∙ sym p)) ∙ g)

  pub codes_past : i ≡ length w → at + length w ≡ codes_at s at max
  codes_past e = rw (← e) (go (ltb i max) refl)
    where
      go : (t : Bool) → ltb i max ≡ t → at + i ≡ codes_at s at max
      go true p = sym (codes_end s (at + i) (max - i) (omega (arith, e, ap length h, window_length s at max, ltb-true i max p))) ∙ g
      go false p =
          let z : max - i ≡ 0 = omega (arith, ltb-false i max p) in
          sym (codes_none s (at + i) 0) ∙ rw z at g

run_within : (is : ℕ → Bool) (n : ℕ) (l : List ℕ) → run is n l ≤ length l
unfolding run
run_within is zero l = omega arith
run_within is (suc n) [] = omega arith
run_within is (suc n) (x ∷ l) = go (is x) (run_within is n l)
  where
    go : (b : Bool) → run is n l ≤ length l → cond b (suc (run is n l)) zero ≤ suc (length l)
    go true h = omega arith
    go false h = omega arith

module _ (s : List ℕ) (at n : ℕ) where
  pub codes_from_lem : {e : ℕ} → e ≡ codes_at s at n → at ≤ e
  unfolding codes_at
  codes_from_lem p = omega arith

  pub code_all : {e : ℕ} → e ≡ codes_at s at n → e - at ≡ n → Some e ≡ code_at s at n
  unfolding codes_at code_at
  code_all {e} p q = let z : run is_code n (drop at s) ≡ n = omega arith in simp (eq-eqb _ _ z) (ap Some (omega arith))

  pub code_not : {e : ℕ} → e ≡ codes_at s at n → (e - at ≡ n → ⊥) → None ≡ code_at s at n
  unfolding codes_at code_at
  code_not {e} p q = let z : (run is_code n (drop at s) ≡ n → ⊥) = λ y. q (omega arith) in simp (ne_eqb _ _ z)

  pub code_short : length s - at < n → None ≡ code_at s at n
  unfolding codes_at
  code_short h = code_not refl (λ y. let z = run_within is_code n (drop at s) in absurd (omega (arith, h, y, rw length-drop at z)))

-- the same of a run of digits
module _ (s : List ℕ) (j v : ℕ) where
  pub num_end : (n : ℕ) → length s ≤ j → digits n j v (drop j s) ≡ record { end = j; value = v }
  unfolding digits
  num_end zero k = refl
  num_end (suc n) k = simp (drop_of_length-le s k)

  pub num_stop : (n : ℕ) → j < length s → is_digit (get_or s j 0) ≡ false → digits n j v (drop j s) ≡ record { end = j; value = v }
  unfolding digits
  num_stop zero k e = refl
  num_stop (suc n) k e = simp (drop-cons s j 0 k, e)

  pub num_down : (n : ℕ) → 0 < n → j < length s → is_digit (get_or s j 0) ≡ true → digits n j v (drop j s) ≡ digits (n - 1) (j + 1) (v * 10 + digit_value (get_or s j 0)) (drop (j + 1) s)
  unfolding digits
  num_down zero h k e = absurd (omega arith)
  num_down (suc n) h k e = let z : suc n - 1 ≡ n = omega arith in simp (z, drop-cons s j 0 k, e, add-one)

pub ten_pos : (k : ℕ) → 0 < ten k
ten_pos zero = omega arith
ten_pos (suc k) = omega (arith, ten_pos k)

pub ten_more : (k m : ℕ) → ten k ≤ ten (k + m)
ten_more zero m = omega (arith, ten_pos m, ap ten (zero-add m))
ten_more (suc k) m = omega (arith, ten_more k m, ap ten (suc-add k m))

pub ten_mono : (k m : ℕ) → k ≤ m → ten k ≤ ten m
ten_mono k m h = let e : k + (m - k) ≡ m = omega arith in omega (arith, ten_more k (m - k), ap ten e)

pub ten_up : (k v d : ℕ) → v < ten k → d < 10 → v * 10 + d < ten (k + 1)
ten_up k v d h g = rw add-one (omega arith)

-- where the loop of `digits` stands: n of max left, past j, the number so far v
pub record Going (s : List ℕ) (at max n j v : ℕ) : Type 0 where
  pub left : n ≤ max
  pub same : digits n j v (drop j s) ≡ digits_at s at max
  pub small : v < ten (max - n)

pub going_start : (s : List ℕ) (at n : ℕ) → Going s at n n at 0
unfolding digits_at
going_start s at n = record { left = omega arith; same = refl; small = omega (arith, ten_pos (n - n)) }

pub going_from : {s : List ℕ} {at n : ℕ} (max : ℕ) → n ≡ most max → Going s at (most max) n at 0
going_from {s} {at} max e = rw e (going_start s at (most max))

abbrev pub Told : List ℕ → ℕ → ℕ → Run → Type 0
Told s at max r = (r ≡ digits_at s at max) × (r.value < ten max)

module _ {s : List ℕ} {at max n j v : ℕ} (g : Going s at max n j v) where
  pub going_out : digits n j v (drop j s) ≡ record { end = j; value = v } → Told s at max (record { end = j; value = v })
  going_out e = (sym e ∙ g.same, omega (arith, g.small, ten_mono (max - n) max (omega arith)))

  pub going_end : length s ≤ j → Told s at max (record { end = j; value = v })
  going_end h = going_out (num_end s j v n h)

  pub going_stop : j < length s → is_digit (get_or s j 0) ≡ false → Told s at max (record { end = j; value = v })
  going_stop h p = going_out (num_stop s j v n h p)

  pub going_none : n ≡ 0 → Told s at max (record { end = j; value = v })
  unfolding digits
  going_none e = going_out (rw e)

  pub going_fits : max ≤ 18 → 0 < n → v < ten 17
  going_fits m h = omega (arith, g.small, g.left, ten_mono (max - n) 17 (omega (arith, g.left)))

  pub going_on : {d : ℕ} → 0 < n → j < length s → is_digit (get_or s j 0) ≡ true → d ≡ digit_value (get_or s j 0) → d < 10 → Going s at max (n - 1) (j + 1) (v * 10 + d)
  going_on {d = d} h k p e f = record {
    left = omega (arith, g.left);
    same = cc (num_down s j v n h k p, g.same, e);
    small = let z : max - (n - 1) ≡ (max - n) + 1 = omega (arith, g.left) in rw z (ten_up (max - n) v d g.small f);
  }

-- the loop of `digits` over the bytes at a place, of which the first i make v
module _ (s : List ℕ) (at max : ℕ) {i v : ℕ} {w : List ℕ} (h : w ≡ take max (drop at s)) (g : Going s at max (max - i) (at + i) v) where
  module _ (q : i < length w) where
    pub digit_stop : false ≡ is_digit (get_or w i 0) → Told s at max (record { end = at + i; value = v })
    digit_stop p = going_stop g (inside s at max h q) (ap is_digit (sym (there s at max h q)) ∙ sym p)

    pub digit_room : max ≤ 18 → v < ten 17
    digit_room m = going_fits g m (omega (arith, few s at max h q))

    pub digit_on : {d : ℕ} → true ≡ is_digit (get_or w i 0) → d ≡ digit_value (get_or w i 0) → d < 10 → Going s at max (max - (i + 1)) (at + (i + 1)) (v * 10 + d)
    digit_on p e f =
        let y : at + (i + 1) ≡ at + i + 1 = omega arith in
        let z : max - (i + 1) ≡ max - i - 1 = omega arith in
        rw (y, z) (going_on g (omega (arith, few s at max h q)) (inside s at max h q) (ap is_digit (sym (there s at max h q)) ∙ sym p) (e ∙ ap digit_value (there s at max h q)) f)

  pub digit_end : i ≡ length w → Told s at max (record { end = at + length w; value = v })
  digit_end e = rw (← e) (go (ltb i max) refl)
    where
      go : (t : Bool) → ltb i max ≡ t → Told s at max (record { end = at + i; value = v })
      go true p = going_end g (omega (arith, e, ap length h, window_length s at max, ltb-true i max p))
      go false p = going_none g (omega (arith, ltb-false i max p))

pub most_min : (n : ℕ) → min n 18 ≡ most n
most_min n = go (ltb n 18) refl
  where
    go : (t : Bool) → ltb n 18 ≡ t → min n 18 ≡ cond t n 18
    go true e = omega (arith, ltb-true n 18 e)
    go false e = omega (arith, ltb-false n 18 e)

pub most_18 : (n : ℕ) → most n ≤ 18
most_18 n = go (ltb n 18) refl
  where
    go : (t : Bool) → ltb n 18 ≡ t → cond t n 18 ≤ 18
    go true e = omega (arith, ltb-true n 18 e)
    go false e = omega arith

pub most_id : (n : ℕ) → n ≤ 18 → most n ≡ n
most_id n h = go (ltb n 18) refl
  where
    go : (t : Bool) → ltb n 18 ≡ t → cond t n 18 ≡ n
    go true e = refl
    go false e = omega (arith, ltb-false n 18 e)

-- the bytes that `digits` looks at
pub digits_window : (s : List ℕ) (at n : ℕ) {w : List ℕ} {m : ℕ} → w ≡ take m (drop at s) → m ≡ min n 18 → w ≡ take (most n) (drop at s)
digits_window s at n h e = h ∙ ap (λ (k : ℕ). take k (drop at s)) (e ∙ most_min n)

-- the end of a line
begins_some : (l : List ℕ) → begins crlf l ≡ true → 0 < length l
unfolding begins
begins_some [] e = absurd (false≢true e)
begins_some (x ∷ l) e = omega arith

ends_here : (n at : ℕ) (l : List ℕ) → begins crlf l ≡ true → line_end n at l ≡ Some at
unfolding line_end
ends_here zero at l e = rw e
ends_here (suc n) at [] e = absurd (omega (arith, begins_some [] e))
ends_here (suc n) at (x ∷ l) e = rw e

module _ (s : List ℕ) (j : ℕ) where
  pub lit_yes : (p : List ℕ) {m : ℕ} → lit_at s j p ≡ Some m → begins p (drop j s) ≡ true
  unfolding lit_at
  lit_yes p {m} h = go (begins p (drop j s)) refl h
    where
      go : (b : Bool) → begins p (drop j s) ≡ b → cond b (Some (j + length p)) None ≡ Some m → b ≡ true
      go true e h = refl
      go false e h = let z : ◌≡◌ {A = ℕ} 0 1 = cc in absurd (omega arith)

  pub lit_not : (p : List ℕ) → lit_at s j p ≡ None → begins p (drop j s) ≡ false
  unfolding lit_at
  lit_not p h = go (begins p (drop j s)) refl h
    where
      go : (b : Bool) → begins p (drop j s) ≡ b → cond b (Some (j + length p)) None ≡ None → b ≡ false
      go true e h = let z : ◌≡◌ {A = ℕ} 0 1 = cc in absurd (omega arith)
      go false e h = refl

  pub end_here : {r : Option ℕ} {m : ℕ} (n : ℕ) → r ≡ lit_at s j crlf → r ≡ Some m → line_end n j (drop j s) ≡ Some j
  end_here n p q = ends_here n j (drop j s) (lit_yes crlf (sym p ∙ q))

  pub end_past : (n : ℕ) → length s ≤ j → line_end n j (drop j s) ≡ None
  unfolding line_end begins
  end_past zero h = simp (drop_of_length-le s h)
  end_past (suc n) h = simp (drop_of_length-le s h)

  pub end_none : {r : Option ℕ} {n : ℕ} → r ≡ lit_at s j crlf → r ≡ None → n ≡ 0 → line_end n j (drop j s) ≡ None
  unfolding line_end
  end_none p q e = rw (e, lit_not crlf (sym p ∙ q))

  pub end_step : {r : Option ℕ} (n : ℕ) → j < length s → r ≡ lit_at s j crlf → r ≡ None → (n ≡ 0 → ⊥) → line_end n j (drop j s) ≡ line_end (n - 1) (j + 1) (drop (j + 1) s)
  unfolding line_end
  end_step zero h p q e = absurd (e refl)
  end_step (suc n) h p q e =
      let z : suc n - 1 ≡ n = omega arith in
      let d = drop-cons s j 0 h in
      let b : begins crlf (get_or s j 0 ∷ drop (suc j) s) ≡ false = rw (← d) (lit_not crlf (sym p ∙ q)) in
      simp (z, add-one, d, b)

-- a run of digits ends at its first place or past it
pub digits_from : (n at v : ℕ) (l : List ℕ) → at ≤ (digits n at v l).end
unfolding digits
digits_from zero at v l = omega arith
digits_from (suc n) at v [] = omega arith
digits_from (suc n) at v (x ∷ l) = go (is_digit x) (digits_from n (at + 1) (v * 10 + digit_value x) l)
  where
    go : (b : Bool) → at + 1 ≤ (digits n (at + 1) (v * 10 + digit_value x) l).end → at ≤ (cond b (digits n (at + 1) (v * 10 + digit_value x) l) (record { end = at; value = v })).end
    go true h = omega arith
    go false h = omega arith

-- and no further on than the list has bytes
digits_within : (n at v : ℕ) (l : List ℕ) → (digits n at v l).end ≤ at + length l
unfolding digits
digits_within zero at v l = omega arith
digits_within (suc n) at v [] = omega arith
digits_within (suc n) at v (x ∷ l) = go (is_digit x) (digits_within n (at + 1) (v * 10 + digit_value x) l)
  where
    go : (b : Bool) → (digits n (at + 1) (v * 10 + digit_value x) l).end ≤ at + 1 + length l → (cond b (digits n (at + 1) (v * 10 + digit_value x) l) (record { end = at; value = v })).end ≤ at + suc (length l)
    go true h = omega arith
    go false h = omega arith

-- a number of a fixed width
module _ (s : List ℕ) (at n : ℕ) (h : n ≤ 18) {w : Run} (d : w ≡ digits_at s at (most n)) where
  number_run : w ≡ digits_at s at n
  number_run = d ∙ ap (digits_at s at) (most_id n h)

  pub number_from : at ≤ w.end
  unfolding digits_at
  number_from = rw number_run (digits_from n at 0 (drop at s))

  pub number_all : w.end - at ≡ n → Some (w.value, w.end) ≡ number_at s at n
  unfolding number_at
  number_all e =
      let z : w.end ≡ at + n = omega (arith, number_from) in
      simp (le-leb n 18 h, ← number_run, eq-eqb _ _ z) (ap ((λ x0. Some (w.value, x0))) z)

  pub number_not : (w.end - at ≡ n → ⊥) → None ≡ number_at s at n
  unfolding number_at
  number_not e =
      let z : (w.end ≡ at + n → ⊥) = λ y. e (omega arith) in
      simp (le-leb n 18 h, ← number_run, ne_eqb _ _ z)

pub number_short : (s : List ℕ) (at n : ℕ) → n ≤ 18 → length s - at < n → None ≡ number_at s at n
unfolding digits_at
number_short s at n m h =
    number_not s at n m refl (λ y. let z = digits_within (most n) at 0 (drop at s) in absurd (omega (arith, h, y, rw length-drop at z)))

pub number_long : (s : List ℕ) (at n : ℕ) → 18 < n → None ≡ number_at s at n
unfolding number_at
number_long s at n h = simp (lt-leb n 18 h)
