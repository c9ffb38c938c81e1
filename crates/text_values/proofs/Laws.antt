-- The answers of the steps that read a value, by what their parts answer.
use Rattle.chars.specs.declared.Refusal.{Refusal}
use Rattle.std.specs.Prelude.{Option, Some, None, Result, Ok}
use Prim.Native.Nat.{ℕ, ◌+◌, ◌-◌, ◌≤◌, ◌<◌}
use mathlib.Core.Path.{◌≡◌, refl, sym, ◌∙◌}
use mathlib.Core.List.{List, []}
use mathlib.Core.Bool.{Bool, true, false}
use native.Mathlib.Omega.{arith}
use borrow.Author.Tests.{eq-eqb, ne_eqb, le-leb}
use lib.ListN.{length, take, drop, drop_of_length-le, length-drop}
use lib.Seq.{take_all, take-length}
use Rattle.chars.specs.Words.{bytes}
use Rattle.clock.specs.Clock.{minute_of}
use Rattle.codes.specs.Codes.{short_at, long_at}
use Rattle.codes.specs.declared.Code.{Code}
use Rattle.dates.specs.Dates.{day_of}
use Rattle.text_scan.specs.Scan.{lit_at, codes_at, code_at, number_at, line_end_at}
use Rattle.text_scan.proofs.Standing.{line_end_sound}
use Rattle.text_values.specs.Values.{malformed, text_of, code_of, forbidden_at, reference_at, word_at, bin_at, numbered, numbers_at, date_at, time_at}
use Rattle.text_values.specs.Letters.{judged_at, letters_at}
use Rattle.text_values.specs.declared.Part.{Part}

-- the text from a place on
module _ (s : List ℕ) (at : ℕ) where
  pub rest_some : at ≤ length s → take (length s - at) (drop at s) ≡ drop at s
  rest_some h = take_all (length s - at) (drop at s) (rw length-drop (omega arith))

  pub rest_none : length s < at → [] ≡ drop at s
  rest_none h = sym (drop_of_length-le s {i = at} (omega arith))

-- a part that lies in the text, one that runs past its end, one of no length
module _ (s : List ℕ) (p : Part) where
  pub text_inside : p.start ≤ p.end → p.end ≤ length s → take (p.end - p.start) (drop p.start s) ≡ text_of s p
  unfolding text_of
  text_inside h k = refl

  pub text_past : {r : List ℕ} → length s < p.end → r ≡ drop p.start s → r ≡ text_of s p
  unfolding text_of
  text_past h e = e ∙ sym (take_all (p.end - p.start) (drop p.start s) (rw length-drop (omega arith)))

  pub text_none : p.end < p.start → [] ≡ text_of s p
  unfolding text_of
  text_none h = let z : p.end - p.start ≡ 0 = omega arith in rw z

module _ (s : List ℕ) (at : ℕ) where
  pub reference_1 : {e : ℕ} → e ≡ codes_at s at 16 → e ≡ at → malformed ≡ reference_at s at
  unfolding reference_at
  reference_1 p p' = simp (← p, eq-eqb _ _ p')

  pub reference_2 : {e : ℕ} {b : Bool} → e ≡ codes_at s at 16 → (e ≡ at → ⊥) → b ≡ forbidden_at s at → b ≡ true → malformed ≡ reference_at s at
  unfolding reference_at
  reference_2 p p' f f' = simp (← p, ne_eqb _ _ p', ← f, f')

  pub reference_3 : {e : ℕ} {b : Bool} → e ≡ codes_at s at 16 → (e ≡ at → ⊥) → b ≡ forbidden_at s at → b ≡ false → Ok (0, e) ≡ reference_at s at
  unfolding reference_at
  reference_3 p p' f f' = simp (← p, ne_eqb _ _ p', ← f, f')

  pub word_1 : (n : ℕ) {r : Option ℕ} → r ≡ code_at s at n → r ≡ None → malformed ≡ word_at s at n
  unfolding word_at
  word_1 n p p' = simp (← p, p')

  pub word_2 : (n : ℕ) {r : Option ℕ} {e v : ℕ} → r ≡ code_at s at n → r ≡ Some e → v ≡ short_at s at → Ok (v, e) ≡ word_at s at n
  unfolding word_at
  word_2 n p p' q = simp (← p, p', ← q)

  pub bin_1 : (b : Part) {t : List ℕ} {r : Option ℕ} → t ≡ text_of s b → r ≡ lit_at s at t → r ≡ None → malformed ≡ bin_at s at b
  unfolding bin_at
  bin_1 b t p p' = simp (← t, ← p, p')

  pub bin_2 : (b : Part) {t : List ℕ} {r : Option ℕ} {a : ℕ} {g : Option (ℕ × ℕ)} → t ≡ text_of s b → r ≡ lit_at s at t → r ≡ Some a → g ≡ number_at s a 4 → g ≡ None → malformed ≡ bin_at s at b
  unfolding bin_at
  bin_2 b t p p' q q' = simp (← t, ← p, p', ← q, q')

  pub bin_3 : (b : Part) {t : List ℕ} {r : Option ℕ} {a v e : ℕ} {g : Option (ℕ × ℕ)} → t ≡ text_of s b → r ≡ lit_at s at t → r ≡ Some a → g ≡ number_at s a 4 → g ≡ Some (v, e) → Ok (0, e) ≡ bin_at s at b
  unfolding bin_at
  bin_3 b t p p' q q' = simp (← t, ← p, p', ← q, q')

  pub date_1 : {r : Option (ℕ × ℕ)} → r ≡ number_at s at 6 → r ≡ None → malformed ≡ date_at s at
  unfolding date_at
  date_1 p p' = simp (← p, p')

  pub date_2 : {r : Option (ℕ × ℕ)} {v e : ℕ} {d : Option ℕ} → r ≡ number_at s at 6 → r ≡ Some (v, e) → d ≡ day_of v → d ≡ None → malformed ≡ date_at s at
  unfolding date_at
  date_2 p p' q q' = simp (← p, p', ← q, q')

  pub date_3 : {r : Option (ℕ × ℕ)} {v e n : ℕ} {d : Option ℕ} → r ≡ number_at s at 6 → r ≡ Some (v, e) → d ≡ day_of v → d ≡ Some n → Ok (n, e) ≡ date_at s at
  unfolding date_at
  date_3 p p' q q' = simp (← p, p', ← q, q')

  pub time_1 : {r : Option (ℕ × ℕ)} → r ≡ number_at s at 4 → r ≡ None → malformed ≡ time_at s at
  unfolding time_at
  time_1 p p' = simp (← p, p')

  pub time_2 : {r : Option (ℕ × ℕ)} {v e : ℕ} {d : Option ℕ} → r ≡ number_at s at 4 → r ≡ Some (v, e) → d ≡ minute_of v → d ≡ None → malformed ≡ time_at s at
  unfolding time_at
  time_2 p p' q q' = simp (← p, p', ← q, q')

  pub time_3 : {r : Option (ℕ × ℕ)} {v e n : ℕ} {d : Option ℕ} → r ≡ number_at s at 4 → r ≡ Some (v, e) → d ≡ minute_of v → d ≡ Some n → Ok (n, e) ≡ time_at s at
  unfolding time_at
  time_3 p p' q q' = simp (← p, p', ← q, q')

-- number and count of 16A
pub numbered_yes : (n m : ℕ) → 1 ≤ n → n ≤ m → m ≤ 10 → numbered n m ≡ true
unfolding numbered
numbered_yes n m a b c = simp (le-leb 1 n a, le-leb n m b, le-leb m 10 c)

pub code_is : (s : List ℕ) (p : Part) {t : List ℕ} {c : Code} → t ≡ text_of s p → c ≡ long_at t 0 (length t) → c ≡ code_of s p
unfolding code_of long_at
code_is s p {t} e q = q ∙ simp (take-length {A = ℕ}, e)

module _ (s : List ℕ) (at : ℕ) where
  pub numbers_1 : {r : Option (ℕ × ℕ)} → r ≡ number_at s at 2 → r ≡ None → malformed ≡ numbers_at s at
  unfolding numbers_at
  numbers_1 p p' = simp (← p, p')

  pub numbers_2 : {r : Option (ℕ × ℕ)} {t : Option ℕ} {n a : ℕ} → r ≡ number_at s at 2 → r ≡ Some (n, a) → t ≡ lit_at s a (bytes "/") → t ≡ None → malformed ≡ numbers_at s at
  unfolding numbers_at
  numbers_2 p p' q q' = simp (← p, p', ← q, q')

  pub numbers_3 : {r u : Option (ℕ × ℕ)} {t : Option ℕ} {n a b : ℕ} → r ≡ number_at s at 2 → r ≡ Some (n, a) → t ≡ lit_at s a (bytes "/") → t ≡ Some b → u ≡ number_at s b 2 → u ≡ None → malformed ≡ numbers_at s at
  unfolding numbers_at
  numbers_3 p p' q q' k k' = simp (← p, p', ← q, q', ← k, k')

  pub numbers_4 : {r u : Option (ℕ × ℕ)} {t : Option ℕ} {n a b m e : ℕ} → r ≡ number_at s at 2 → r ≡ Some (n, a) → t ≡ lit_at s a (bytes "/") → t ≡ Some b → u ≡ number_at s b 2 → u ≡ Some (m, e) → numbered n m ≡ false → malformed ≡ numbers_at s at
  unfolding numbers_at
  numbers_4 p p' q q' k k' h = simp (← p, p', ← q, q', ← k, k', h)

  pub numbers_5 : {r u : Option (ℕ × ℕ)} {t : Option ℕ} {n a b m e : ℕ} → r ≡ number_at s at 2 → r ≡ Some (n, a) → t ≡ lit_at s a (bytes "/") → t ≡ Some b → u ≡ number_at s b 2 → u ≡ Some (m, e) → numbered n m ≡ true → Ok (n, e) ≡ numbers_at s at
  unfolding numbers_at
  numbers_5 p p' q q' k k' h = simp (← p, p', ← q, q', ← k, k', h)

  pub letters_from : {r : Option ℕ} {e : ℕ} → r ≡ line_end_at s at 4 → r ≡ Some e → at ≤ e
  letters_from p p' = (line_end_sound s at 4 (sym p ∙ p')).1

  pub letters_1 : {r : Option ℕ} → r ≡ line_end_at s at 4 → r ≡ None → malformed ≡ letters_at s at
  unfolding letters_at
  letters_1 p p' = simp (← p, p')

  pub letters_2 : {r : Option ℕ} {e : ℕ} {v : Result (ℕ × ℕ) Refusal} → r ≡ line_end_at s at 4 → r ≡ Some e → e - at ≡ 4 → v ≡ judged_at s at e → v ≡ letters_at s at
  unfolding letters_at
  letters_2 {e = e} p p' h j = simp (← p, p', eq-eqb e (at + 4) (omega arith), ← j)

  pub letters_3 : {r : Option ℕ} {e : ℕ} → r ≡ line_end_at s at 4 → r ≡ Some e → (e - at ≡ 4 → ⊥) → malformed ≡ letters_at s at
  unfolding letters_at
  letters_3 {e = e} p p' h = let z : (e ≡ at + 4 → ⊥) = λ y. h (omega arith) in simp (← p, p', ne_eqb e (at + 4) z)
