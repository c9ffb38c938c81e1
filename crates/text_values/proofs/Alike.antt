-- Where a value ends, and that two texts which begin alike have the same value.
use Rattle.chars.specs.declared.Refusal.{Refusal}
use Rattle.std.specs.Prelude.{Option, Some, None, Result, Ok, Err}
use Prim.Native.Nat.{ℕ, zero, suc, ◌+◌, ◌*◌, ◌-◌, ◌≤◌}
use mathlib.Core.Path.{◌≡◌, refl, ap}
use mathlib.Core.List.{List, [], ◌∷◌}
use mathlib.Core.Bool.{Bool, true, false, cond}
use native.Mathlib.Omega.{arith}
use lib.Dec.{leb, eqb}
use borrow.Author.Tests.{eqb-true, leb-true, leb-false}
use lib.ListN.{length, get_or, take, drop, length-take}
use Rattle.chars.specs.Words.{bytes}
use Rattle.codes.specs.Codes.{pack_on, short_at, long_of}
use Rattle.text_scan.specs.Scan.{lit_at, codes_at, code_at, digits_at, number_at, line_end_at}
use Rattle.text_scan.proofs.Standing.{lit_next, codes_sound, code_sound, digits_sound, number_sound}
use Rattle.text_scan.proofs.Alike.{Alike, near, through, lit_alike, codes_alike, code_alike, digits_alike, number_alike, line_end_alike, byte_alike, by_next, same_next}
use Rattle.dates.specs.Dates.{day_of}
use Rattle.clock.specs.Clock.{minute_of}
use Rattle.text_values.specs.Values.{malformed, on_digits, on_day, on_minute, text_of, code_of, forbidden_at, reference_at, numeral_at, word_at, bin_at, numbered, numbers_at, date_at, time_at, side_at, amount_at, count_at}
use Rattle.text_values.specs.Letters.{is_status, is_fourth, judged_at, letters_at}
use Rattle.text_values.specs.declared.Part.{Part}

-- a value ends no more than w bytes after the place where it begins, and not before it
abbrev pub EndsIn : ℕ → ℕ → Result (ℕ × ℕ) Refusal → Type 0
EndsIn at w (Ok (v, e)) = (at ≤ e) × (e ≤ at + w)
EndsIn at w (Err r) = Unit {0}

pub by_cond : {A : Type 0} (P : A → Type 0) (b : Bool) {x y : A} → P x → P y → P (cond b x y)
by_cond P true p q = p
by_cond P false p q = q

pub by_digits : {A : Type 0} (P : A → Type 0) (r : Option (ℕ × ℕ)) {d : A} {k : ℕ → ℕ → A} → P d → ((v e : ℕ) → r ≡ Some (v, e) → P (k v e)) → P (on_digits r d k)
by_digits P (Some (v, e)) p q = q v e refl
by_digits P None p q = p

pub by_day : {A : Type 0} (P : A → Type 0) (r : Option ℕ) {d : A} {k : ℕ → A} → P d → ((n : ℕ) → P (k n)) → P (on_day r d k)
by_day P (Some n) p q = q n
by_day P None p q = p

pub by_minute : {A : Type 0} (P : A → Type 0) (r : Option ℕ) {d : A} {k : ℕ → A} → P d → ((n : ℕ) → P (k n)) → P (on_minute r d k)
by_minute P (Some n) p q = q n
by_minute P None p q = p

same_digits : {A : Type 0} (r : Option (ℕ × ℕ)) (d : A) (k k' : ℕ → ℕ → A) → ((v e : ℕ) → r ≡ Some (v, e) → k v e ≡ k' v e) → on_digits r d k ≡ on_digits r d k'
same_digits (Some (v, e)) d k k' q = q v e refl
same_digits None d k k' q = refl

module _ (s : List ℕ) (at : ℕ) where
  pub reference_ends : EndsIn at 16 (reference_at s at)
  unfolding reference_at
  reference_ends = let i = codes_sound s at 16 (codes_at s at 16) refl in
      by_cond (EndsIn at 16) (eqb (codes_at s at 16) at) tt (by_cond (EndsIn at 16) (forbidden_at s at) tt (i.1, i.2))

  pub numeral_ends : (m : ℕ) → EndsIn at m (numeral_at s at m)
  unfolding numeral_at
  numeral_ends m = by_digits (EndsIn at m) (number_at s at m) tt (λ v e q. let i = number_sound s at m q in (omega (arith, i.1), omega (arith, i.1)))

  pub word_ends : (m : ℕ) → EndsIn at m (word_at s at m)
  unfolding word_at
  word_ends m = by_next (EndsIn at m) (code_at s at m) tt (λ e q. let i = code_sound s at m q in (omega (arith, i.1), omega (arith, i.1)))

  text_short : (p : Part) → length (text_of s p) ≤ p.end - p.start
  unfolding text_of
  text_short p = rw length-take (omega arith)

  pub bin_ends : (p : Part) → EndsIn at (p.end - p.start + 4) (bin_at s at p)
  unfolding bin_at
  bin_ends p = by_next (EndsIn at (p.end - p.start + 4)) (lit_at s at (text_of s p)) tt (λ a q.
      by_digits (EndsIn at (p.end - p.start + 4)) (number_at s a 4) tt (λ v e r.
      let i = number_sound s a 4 r in
      let j = lit_next s at (text_of s p) q in
      (omega (arith, i.1, j), omega (arith, i.1, j, text_short p))))

  pub numbers_ends : EndsIn at 5 (numbers_at s at)
  unfolding numbers_at
  numbers_ends = by_digits (EndsIn at 5) (number_at s at 2) tt (λ n a q.
      by_next (EndsIn at 5) (lit_at s a (bytes "/")) tt (λ b r.
      by_digits (EndsIn at 5) (number_at s b 2) tt (λ m e u.
      let i = number_sound s at 2 q in
      let j = lit_next s a (bytes "/") r in
      let k = number_sound s b 2 u in
      by_cond (EndsIn at 5) (numbered n m) (omega (arith, i.1, j, k.1), omega (arith, i.1, j, k.1)) tt)))

  pub date_ends : EndsIn at 6 (date_at s at)
  unfolding date_at
  date_ends = by_digits (EndsIn at 6) (number_at s at 6) tt (λ v e q. let i = number_sound s at 6 q in
      by_day (EndsIn at 6) (day_of v) tt (λ d. (omega (arith, i.1), omega (arith, i.1))))

  pub time_ends : EndsIn at 4 (time_at s at)
  unfolding time_at
  time_ends = by_digits (EndsIn at 4) (number_at s at 4) tt (λ v e q. let i = number_sound s at 4 q in
      by_minute (EndsIn at 4) (minute_of v) tt (λ d. (omega (arith, i.1), omega (arith, i.1))))

  pub side_ends : EndsIn at 2 (side_at s at)
  unfolding side_at
  side_ends = by_next (EndsIn at 2) (lit_at s at (bytes "CR"))
      (by_next (EndsIn at 2) (lit_at s at (bytes "DR")) tt (λ e q. let i = lit_next s at (bytes "DR") q in (omega (arith, i), omega (arith, i))))
      (λ e q. let i = lit_next s at (bytes "CR") q in (omega (arith, i), omega (arith, i)))

  pub amount_ends : EndsIn at 16 (amount_at s at)
  unfolding amount_at
  amount_ends = by_next (EndsIn at 16) (lit_at s at (bytes "AUD")) tt (λ a q.
      by_cond (EndsIn at 16) (eqb (digits_at s a 10).end a) tt
      (by_next (EndsIn at 16) (lit_at s (digits_at s a 10).end (bytes ",")) tt (λ b r.
      let i = lit_next s at (bytes "AUD") q in
      let j = digits_sound s a 10 refl in
      let k = lit_next s (digits_at s a 10).end (bytes ",") r in
      let l = digits_sound s b 2 refl in
      (omega (arith, i, j.1, k, l.1), omega (arith, i, j.2, k, l.2)))))

  judged_ends : (e : ℕ) → e ≡ at + 4 → EndsIn at 4 (judged_at s at e)
  unfolding judged_at
  judged_ends e h =
      let r : EndsIn at 4 (Ok (short_at s at, e)) = (omega arith, omega arith) in
      by_cond (EndsIn at 4) (is_status (get_or s (at + 0) 0))
      (by_cond (EndsIn at 4) (is_status (get_or s (at + 1) 0))
      (by_cond (EndsIn at 4) (is_status (get_or s (at + 2) 0))
      (by_cond (EndsIn at 4) (is_fourth (get_or s (at + 3) 0)) r tt) tt) tt) tt

  pub letters_ends : EndsIn at 4 (letters_at s at)
  unfolding letters_at
  letters_ends = by_next (EndsIn at 4) (line_end_at s at 4) tt (λ e q. go e (eqb e (at + 4)) refl)
    where
      go : (e : ℕ) (b : Bool) → eqb e (at + 4) ≡ b → EndsIn at 4 (cond b (judged_at s at e) malformed)
      go e true h = judged_ends e (eqb-true e (at + 4) h)
      go e false h = tt

  pub count_ends : (n : ℕ) → EndsIn at 2 (count_at s at n)
  unfolding count_at
  count_ends n = let i = digits_sound s at 2 refl in
      by_next (EndsIn at 2) (lit_at s at (bytes "0"))
      (by_cond (EndsIn at 2) (eqb (digits_at s at 2).end at) tt
      (by_cond (EndsIn at 2) (eqb (digits_at s at 2).value n) (i.1, i.2) tt))
      (λ e q. tt)

pack_take : (w v : ℕ) (l : List ℕ) → pack_on w v l ≡ pack_on w v (take w l)
unfolding pack_on
pack_take zero v l = refl
pack_take (suc w) v [] = refl
pack_take (suc w) v (x ∷ l) = pack_take w (v * 256 + x) l

module _ {n : ℕ} {s t : List ℕ} (a : Alike n s t) where
  pub short_alike : (at : ℕ) → at + 4 ≤ n → short_at s at ≡ short_at t at
  unfolding short_at
  short_alike at h = through a (pack_on 4 0) at 4 (pack_take 4 0) h

  pub text_alike : (p : Part) → p.end ≤ n → text_of s p ≡ text_of t p
  unfolding text_of
  text_alike p h = go (leb p.start p.end) refl
    where
      go : (b : Bool) → leb p.start p.end ≡ b → take (p.end - p.start) (drop p.start s) ≡ take (p.end - p.start) (drop p.start t)
      go true q = near a p.start (p.end - p.start) (omega (arith, leb-true p.start p.end q))
      go false q = let z : p.end - p.start ≡ 0 = omega (arith, leb-false p.start p.end q) in rw z

  pub code_of_alike : (p : Part) → p.end ≤ n → code_of s p ≡ code_of t p
  unfolding code_of
  code_of_alike p h = ap long_of (text_alike p h)

  module _ (at : ℕ) (h : at + 24 ≤ n) where
    pub reference_alike : reference_at s at ≡ reference_at t at
    unfolding reference_at forbidden_at
    reference_alike = rw (codes_alike a at 16 (omega arith), lit_alike a at (bytes "RITS") (omega arith), lit_alike a at (bytes "ACLR") (omega arith), lit_alike a at (bytes "ASXC") (omega arith))

    pub numeral_alike : (m : ℕ) → m ≤ 16 → numeral_at s at m ≡ numeral_at t at m
    unfolding numeral_at
    numeral_alike m k = rw (number_alike a at m (omega arith))

    pub word_alike : (m : ℕ) → m ≤ 16 → word_at s at m ≡ word_at t at m
    unfolding word_at
    word_alike m k = rw (code_alike a at m (omega arith), short_alike at (omega arith))

    pub bin_alike : (p : Part) → p.end ≤ n → p.end - p.start ≤ 16 → bin_at s at p ≡ bin_at t at p
    unfolding bin_at
    bin_alike p g k = rw (text_alike p g, lit_alike a at (text_of t p) (omega (arith, text_short t at p)))
        (same_next (lit_at t at (text_of t p)) malformed _ _ (λ b q.
        rw (number_alike a b 4 (omega (arith, lit_next t at (text_of t p) q, text_short t at p)))))

    pub numbers_alike : numbers_at s at ≡ numbers_at t at
    unfolding numbers_at
    numbers_alike = rw (number_alike a at 2 (omega arith)) (same_digits (number_at t at 2) malformed _ _ (λ m b q.
        let i = number_sound t at 2 q in
        rw (lit_alike a b (bytes "/") (omega (arith, i.1))) (same_next (lit_at t b (bytes "/")) malformed _ _ (λ c r.
        rw (number_alike a c 2 (omega (arith, i.1, lit_next t b (bytes "/") r)))))))

    pub date_alike : date_at s at ≡ date_at t at
    unfolding date_at
    date_alike = rw (number_alike a at 6 (omega arith))

    pub time_alike : time_at s at ≡ time_at t at
    unfolding time_at
    time_alike = rw (number_alike a at 4 (omega arith))

    pub side_alike : side_at s at ≡ side_at t at
    unfolding side_at
    side_alike = rw (lit_alike a at (bytes "CR") (omega arith), lit_alike a at (bytes "DR") (omega arith))

    pub amount_alike : amount_at s at ≡ amount_at t at
    unfolding amount_at
    amount_alike = rw (lit_alike a at (bytes "AUD") (omega arith)) (same_next (lit_at t at (bytes "AUD")) malformed _ _ (λ b q.
        let i = lit_next t at (bytes "AUD") q in
        let j = digits_sound t b 10 refl in
        rw (digits_alike a b 10 (omega (arith, i)), lit_alike a (digits_at t b 10).end (bytes ",") (omega (arith, i, j.2)))
        (ap (cond (eqb (digits_at t b 10).end b) malformed) (same_next (lit_at t (digits_at t b 10).end (bytes ",")) malformed _ _ (λ c r.
        rw (digits_alike a c 2 (omega (arith, i, j.2, lit_next t (digits_at t b 10).end (bytes ",") r))))))))

    pub letters_alike : letters_at s at ≡ letters_at t at
    unfolding letters_at judged_at
    letters_alike = rw (line_end_alike a at 4 (omega arith), byte_alike a (at + 0) (omega arith), byte_alike a (at + 1) (omega arith), byte_alike a (at + 2) (omega arith), byte_alike a (at + 3) (omega arith), short_alike at (omega arith))

    pub count_alike : (m : ℕ) → count_at s at m ≡ count_at t at m
    unfolding count_at
    count_alike m = rw (lit_alike a at (bytes "0") (omega arith), digits_alike a at 2 (omega arith))
