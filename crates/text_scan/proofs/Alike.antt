-- A step looks at a few bytes only: two texts that begin alike get the same answer.
use Rattle.std.specs.Prelude.{Option, Some, None}
use Prim.Native.Nat.{ℕ, zero, suc, ◌+◌, ◌*◌, ◌≤◌, ◌<◌, min}
use mathlib.Core.Path.{◌≡◌, refl, ap, sym, ◌∙◌}
use mathlib.Core.List.{List, [], ◌∷◌}
use mathlib.Core.Bool.{Bool, true, false, cond, ◌&&◌}
use native.Mathlib.Nat.{zero-add, suc-add}
use native.Mathlib.Omega.{arith}
use borrow.Author.Tests.{ltb-true, ltb-false}
use lib.Dec.{leb, ltb, eqb}
use lib.ListN.{length, get_or, drop, take, length-take}
use lib.Seq.{take-take, take-nil, get_or-take}
use Rattle.chars.specs.Chars.{is_code, is_digit, digit_value}
use Rattle.chars.specs.Words.{crlf}
use Rattle.text_scan.specs.Scan.{on_next, begins, lit_at, run, codes_at, code_at, digits, digits_at, number_at, line_end, line_end_at}
use Rattle.text_scan.specs.declared.Run.{Run}

-- the same first n bytes
pub record Alike (n : ℕ) (s t : List ℕ) : Type 0 where
  pub first : take n s ≡ take n t

window : (at w : ℕ) (l : List ℕ) → take w (drop at l) ≡ drop at (take (at + w) l)
window zero w l = rw zero-add
window (suc at) w [] = simp (suc-add, take-nil)
window (suc at) w (x ∷ l) = rw (suc-add at w) (window at w l)

-- each definition sees no more of a list than its first bytes
begins_take : (p l : List ℕ) (w : ℕ) → length p ≤ w → begins p l ≡ begins p (take w l)
unfolding begins
begins_take [] l w h = refl
begins_take (x ∷ p) [] w h = simp take-nil
begins_take (x ∷ p) (y ∷ l) zero h = absurd (omega arith)
begins_take (x ∷ p) (y ∷ l) (suc w) h = ap (λ (b : Bool). eqb y x && b) (begins_take p l w (omega arith))

run_take : (is : ℕ → Bool) (n : ℕ) (l : List ℕ) → run is n l ≡ run is n (take n l)
unfolding run
run_take is zero l = refl
run_take is (suc n) [] = refl
run_take is (suc n) (x ∷ l) = ap (λ (k : ℕ). cond (is x) (suc k) zero) (run_take is n l)

digits_take : (n at v : ℕ) (l : List ℕ) → digits n at v l ≡ digits n at v (take n l)
unfolding digits
digits_take zero at v l = refl
digits_take (suc n) at v [] = refl
digits_take (suc n) at v (x ∷ l) = ap (λ (r : Run). cond (is_digit x) r (record { end = at; value = v })) (digits_take n (at + 1) (v * 10 + digit_value x) l)

line_take : (n at : ℕ) (l : List ℕ) → line_end n at l ≡ line_end n at (take (n + 2) l)
unfolding line_end
line_take zero at l = ap (λ (b : Bool). cond b (Some at) None) (begins_take crlf l 2 (omega arith))
line_take (suc n) at [] = simp (suc-add, take-nil)
line_take (suc n) at (x ∷ l) =
    rw (suc-add n 2, begins_take crlf (x ∷ l) (suc (n + 2)) (omega arith), line_take n (at + 1) l)

module _ {n : ℕ} {s t : List ℕ} (a : Alike n s t) where
  less : (m : ℕ) → m ≤ n → take m s ≡ take m t
  less m h = sym (take-take m n s h) ∙ ap (take m) a.first ∙ take-take m n t h

  pub near : (at w : ℕ) → at + w ≤ n → take w (drop at s) ≡ take w (drop at t)
  near at w h = window at w s ∙ ap (drop at) (less (at + w) h) ∙ sym (window at w t)

  pub through : {A : Type 0} (f : List ℕ → A) (at w : ℕ) → ((l : List ℕ) → f l ≡ f (take w l)) → at + w ≤ n → f (drop at s) ≡ f (drop at t)
  through f at w p h = p (drop at s) ∙ ap f (near at w h) ∙ sym (p (drop at t))

  pub lit_alike : (at : ℕ) (p : List ℕ) → at + length p ≤ n → lit_at s at p ≡ lit_at t at p
  unfolding lit_at
  lit_alike at p h = ap (λ (b : Bool). cond b (Some (at + length p)) None) (through (begins p) at (length p) (λ l. begins_take p l (length p) (omega arith)) h)

  pub codes_alike : (at m : ℕ) → at + m ≤ n → codes_at s at m ≡ codes_at t at m
  unfolding codes_at
  codes_alike at m h = ap (λ (k : ℕ). at + k) (through (run is_code m) at m (run_take is_code m) h)

  pub code_alike : (at m : ℕ) → at + m ≤ n → code_at s at m ≡ code_at t at m
  unfolding code_at
  code_alike at m h = ap (λ (k : ℕ). cond (eqb k m) (Some (at + m)) None) (through (run is_code m) at m (run_take is_code m) h)

  pub digits_alike : (at m : ℕ) → at + m ≤ n → digits_at s at m ≡ digits_at t at m
  unfolding digits_at
  digits_alike at m h = through (digits m at 0) at m (digits_take m at 0) h

  pub number_alike : (at m : ℕ) → at + m ≤ n → number_at s at m ≡ number_at t at m
  unfolding number_at
  number_alike at m h = ap (λ (r : Run). cond (leb m 18) (cond (eqb r.end (at + m)) (Some (r.value, at + m)) None) None) (digits_alike at m h)

  pub line_end_alike : (at m : ℕ) → at + (m + 2) ≤ n → line_end_at s at m ≡ line_end_at t at m
  unfolding line_end_at
  line_end_alike at m h = through (line_end m at) at (m + 2) (line_take m at) h

  pub byte_alike : (i : ℕ) → i < n → get_or s i 0 ≡ get_or t i 0
  byte_alike i h = sym (get_or-take n s i 0 h) ∙ ap (λ (l : List ℕ). get_or l i 0) a.first ∙ get_or-take n t i 0 h

  -- whether a text goes on
  pub more_alike : (at : ℕ) → at < n → ltb at (length s) ≡ ltb at (length t)
  more_alike at h = go (ltb at (length s)) (ltb at (length t)) refl refl (sym (length-take n s) ∙ ap length a.first ∙ length-take n t)
    where
      go : (b c : Bool) → ltb at (length s) ≡ b → ltb at (length t) ≡ c → min n (length s) ≡ min n (length t) → b ≡ c
      go true true p q e = refl
      go false false p q e = refl
      go true false p q e = absurd (omega (arith, ltb-true at (length s) p, ltb-false at (length t) q))
      go false true p q e = absurd (omega (arith, ltb-false at (length s) p, ltb-true at (length t) q))

-- what holds of a step's two ends holds of its answer
pub by_next : {A : Type 0} (P : A → Type 0) (r : Option ℕ) {d : A} {k : ℕ → A} → P d → ((e : ℕ) → r ≡ Some e → P (k e)) → P (on_next r d k)
by_next P (Some e) p q = q e refl
by_next P None p q = p

pub same_next : {A : Type 0} (r : Option ℕ) (d : A) (k k' : ℕ → A) → ((e : ℕ) → r ≡ Some e → k e ≡ k' e) → on_next r d k ≡ on_next r d k'
same_next (Some e) d k k' q = q e refl
same_next None d k k' q = refl
