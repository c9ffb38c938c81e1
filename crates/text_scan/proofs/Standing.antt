-- What stands at a place is read, and what is read stands there: laws of the form that the text from `at` on is p and then r, `drop at s ≡ p ++ r`.
use Rattle.text_scan.proofs.Pairs.{some_pair}
use Rattle.std.specs.Prelude.{Option, Some, None}
use Prim.Native.Nat.{ℕ, zero, suc, ◌+◌, ◌*◌, ◌-◌, ◌≤◌, ◌<◌}
use mathlib.Core.Path.{◌≡◌, refl, ap, ap₂, sym, ◌∙◌}
use mathlib.Core.List.{List, [], ◌∷◌, ◌++◌}
use mathlib.Core.Bool.{Bool, true, false, cond, ◌&&◌, not}
use native.Mathlib.Nat.{add-zero, add-suc, suc-add}
use native.Mathlib.Numerals.{add-one}
use native.Mathlib.Omega.{arith}
use borrow.Author.Tests.{eq-eqb, eqb-true, le-leb, leb-true, leb-false, not-true}
use lib.Dec.{leb, eqb}
use lib.ListN.{length, get_or, drop, take, take-append-drop, length-take}
use lib.Seq.{drop-cons, drop-drop, drop-append_seam, take-append_seam}
use Rattle.chars.specs.Chars.{is_code, is_digit, digit_value}
use Rattle.chars.specs.Words.{crlf}
use Rattle.text_scan.specs.Scan.{begins, lit_at, run, codes_at, code_at, digits, digits_at, number_at, line_end, line_end_at}
use Rattle.text_scan.specs.declared.Run.{Run}
use Rattle.text_scan.proofs.Laws.{lit_yes, end_past}
use Rattle.text_scan.specs.Spelling.{All, value_of}

begins_self : (p r : List ℕ) → begins p (p ++ r) ≡ true
unfolding begins
begins_self [] r = refl
begins_self (x ∷ p) r = simp (eq-eqb x x refl, begins_self p r)

module _ (s : List ℕ) (at : ℕ) (p r : List ℕ) (h : drop at s ≡ p ++ r) where
  pub past : drop (at + length p) s ≡ r
  past = sym (drop-drop (length p) at s) ∙ ap (drop (length p)) h ∙ drop-append_seam p r

  pub lit_reads : lit_at s at p ≡ Some (at + length p)
  unfolding lit_at
  lit_reads = simp (h, begins_self p r)

-- a run that is as long as may be, and one that something else ends
run_full : (is : ℕ → Bool) (v r : List ℕ) → All is v → run is (length v) (v ++ r) ≡ length v
unfolding run
run_full is [] r a = refl
run_full is (x ∷ v) r a = rw a.0 (ap suc (run_full is v r a.1))

run_ends : (is : ℕ → Bool) (v : List ℕ) (n x : ℕ) (r : List ℕ) → All is v → length v ≤ n → is x ≡ false → run is n (v ++ (x ∷ r)) ≡ length v
unfolding run
run_ends is [] zero x r a h e = refl
run_ends is [] (suc n) x r a h e = simp e
run_ends is (y ∷ v) zero x r a h e = absurd (omega arith)
run_ends is (y ∷ v) (suc n) x r a h e = rw a.0 (ap suc (run_ends is v n x r a.1 (omega arith) e))

-- the digits that are read, by their run
pub digits_run : (n at v : ℕ) (l : List ℕ) → digits n at v l ≡ record { end = at + run is_digit n l; value = value_of v (take (run is_digit n l) l) }
unfolding digits run
digits_run zero at v l = simp add-zero
digits_run (suc n) at v [] = simp add-zero
digits_run (suc n) at v (x ∷ l) = go (is_digit x) (digits_run n (at + 1) (v * 10 + digit_value x) l)
  where
    go : (b : Bool) → digits n (at + 1) (v * 10 + digit_value x) l ≡ record { end = at + 1 + run is_digit n l; value = value_of (v * 10 + digit_value x) (take (run is_digit n l) l) }
        → cond b (digits n (at + 1) (v * 10 + digit_value x) l) (record { end = at; value = v }) ≡ record { end = at + cond b (suc (run is_digit n l)) zero; value = value_of v (take (cond b (suc (run is_digit n l)) zero) (x ∷ l)) }
    go true i = i ∙ simp (add-one, add-suc, suc-add)
    go false i = simp add-zero

module _ (s : List ℕ) (at : ℕ) (v : List ℕ) (x : ℕ) (r : List ℕ) (n : ℕ) (h : drop at s ≡ v ++ (x ∷ r)) (m : length v ≤ n) where
  pub codes_reads : All is_code v → is_code x ≡ false → codes_at s at n ≡ at + length v
  unfolding codes_at
  codes_reads a e = simp (h, run_ends is_code v n x r a m e)

  pub digits_reads : All is_digit v → is_digit x ≡ false → digits_at s at n ≡ record { end = at + length v; value = value_of 0 v }
  unfolding digits_at
  digits_reads a e = rw (h, digits_run n at 0 (v ++ (x ∷ r))) (simp (run_ends is_digit v n x r a m e, take-append_seam))

module _ (s : List ℕ) (at : ℕ) (v r : List ℕ) (h : drop at s ≡ v ++ r) where
  pub code_reads : All is_code v → code_at s at (length v) ≡ Some (at + length v)
  unfolding code_at
  code_reads a = simp (h, run_full is_code v r a, eq-eqb (length v) (length v) refl)

  pub number_reads : All is_digit v → length v ≤ 18 → number_at s at (length v) ≡ Some (value_of 0 v, at + length v)
  unfolding number_at digits_at
  number_reads a m =
      let k : digits (length v) at 0 (v ++ r) ≡ record { end = at + length v; value = value_of 0 v } = digits_run (length v) at 0 (v ++ r) ∙ simp (run_full is_digit v r a, take-append_seam) in
      simp (h, le-leb (length v) 18 m, k, eq-eqb (at + length v) (at + length v) refl)

-- what is read stands there
pub and_true : (a b : Bool) → (a && b) ≡ true → (a ≡ true) × (b ≡ true)
and_true true b h = (refl, h)
and_true false b h = let z : ◌≡◌ {A = ℕ} 0 1 = cc in absurd (omega arith)

begins_split : (p l : List ℕ) → begins p l ≡ true → l ≡ p ++ drop (length p) l
unfolding begins
begins_split [] l h = refl
begins_split (x ∷ p) [] h = let z : ◌≡◌ {A = ℕ} 0 1 = cc in absurd (omega arith)
begins_split (x ∷ p) (y ∷ l) h =
    let t = and_true (eqb y x) (begins p l) h in
    ap₂ ◌∷◌ (eqb-true y x t.0) (begins_split p l t.1)

pub lit_next : (s : List ℕ) (at : ℕ) (p : List ℕ) {n : ℕ} → lit_at s at p ≡ Some n → n ≡ at + length p
unfolding lit_at
lit_next s at p {n} h = go (begins p (drop at s)) h
  where
    go : (b : Bool) → cond b (Some (at + length p)) None ≡ Some n → n ≡ at + length p
    go true h = cc
    go false h = let z : ◌≡◌ {A = ℕ} 0 1 = cc in absurd (omega arith)

pub lit_sound : (s : List ℕ) (at : ℕ) (p : List ℕ) {n : ℕ} → lit_at s at p ≡ Some n → drop at s ≡ p ++ drop n s
lit_sound s at p {n} h =
    begins_split p (drop at s) (lit_yes s at p h)
    ∙ ap (λ (l : List ℕ). p ++ l) (drop-drop (length p) at s ∙ ap (λ (k : ℕ). drop k s) (sym (lit_next s at p h)))

pub run_all : (is : ℕ → Bool) (n : ℕ) (l : List ℕ) → All is (take (run is n l) l) × (run is n l ≤ n) × (run is n l ≤ length l)
unfolding run
run_all is zero l = (tt, omega arith, omega arith)
run_all is (suc n) [] = (tt, omega arith, omega arith)
run_all is (suc n) (x ∷ l) = go (is x) refl (run_all is n l)
  where
    go : (b : Bool) → is x ≡ b → All is (take (run is n l) l) × (run is n l ≤ n) × (run is n l ≤ length l) → All is (take (cond b (suc (run is n l)) zero) (x ∷ l)) × (cond b (suc (run is n l)) zero ≤ suc n) × (cond b (suc (run is n l)) zero ≤ suc (length l))
    go true e i = ((e, i.0), omega (arith, i.1), omega (arith, i.2))
    go false e i = (tt, omega arith, omega arith)

-- the text from a place on, cut after n bytes
pub cut : (s : List ℕ) (at n : ℕ) → drop at s ≡ take n (drop at s) ++ drop (at + n) s
cut s at n = sym (take-append-drop n (drop at s)) ∙ ap (λ (l : List ℕ). take n (drop at s) ++ l) (drop-drop n at s)

-- the bytes of a class from a place on, n of them
pub record Stretch (is : ℕ → Bool) (s : List ℕ) (at n : ℕ) : Type 0 where
  pub all : All is (take n (drop at s))
  pub size : length (take n (drop at s)) ≡ n

stretch : (is : ℕ → Bool) (s : List ℕ) (at n m : ℕ) → run is n (drop at s) ≡ m → Stretch is s at m
stretch is s at n m e = let i = run_all is n (drop at s) in
    record { all = rw (← e) i.0; size = length-take m (drop at s) ∙ (omega (arith, i.2)) }

pub codes_sound : (s : List ℕ) (at n e : ℕ) → codes_at s at n ≡ e → Stretch is_code s at (e - at) × (at ≤ e) × (e ≤ at + n)
unfolding codes_at
codes_sound s at n e h = let i = run_all is_code n (drop at s) in
    (stretch is_code s at n (e - at) (omega arith), omega arith, omega (arith, i.1))

pub code_sound : (s : List ℕ) (at n : ℕ) {e : ℕ} → code_at s at n ≡ Some e → Stretch is_code s at n × (e ≡ at + n)
unfolding code_at
code_sound s at n {e} h = go (eqb (run is_code n (drop at s)) n) refl h
  where
    go : (b : Bool) → eqb (run is_code n (drop at s)) n ≡ b → cond b (Some (at + n)) None ≡ Some e → Stretch is_code s at n × (e ≡ at + n)
    go true q h = (stretch is_code s at n n (eqb-true _ _ q), cc)
    go false q h = let z : ◌≡◌ {A = ℕ} 0 1 = cc in absurd (omega arith)

pub digits_sound : (s : List ℕ) (at n : ℕ) {w : Run} → digits_at s at n ≡ w → Stretch is_digit s at (w.end - at) × (at ≤ w.end) × (w.end ≤ at + n) × (w.value ≡ value_of 0 (take (w.end - at) (drop at s)))
unfolding digits_at
digits_sound s at n {w} h =
    let i = run_all is_digit n (drop at s) in
    let k = sym h ∙ digits_run n at 0 (drop at s) in
    let e : w.end ≡ at + run is_digit n (drop at s) = ap (λ (w : Run). w.end) k in
    let d : run is_digit n (drop at s) ≡ w.end - at = omega arith in
    (stretch is_digit s at n (w.end - at) d, omega arith, omega (arith, i.1), ap (λ (w : Run). w.value) k ∙ ap (λ (m : ℕ). value_of 0 (take m (drop at s))) d)

pub number_sound : (s : List ℕ) (at n : ℕ) {v e : ℕ} → number_at s at n ≡ Some (v, e) → Stretch is_digit s at n × (e ≡ at + n) × (v ≡ value_of 0 (take n (drop at s)))
unfolding number_at
number_sound s at n {v} {e} h = go (leb n 18) (eqb (digits_at s at n).end (at + n)) refl h
  where
    go : (a b : Bool) → eqb (digits_at s at n).end (at + n) ≡ b → cond {A = Option (ℕ × ℕ)} a (cond b (Some ((digits_at s at n).value, at + n)) None) None ≡ Some (v, e) → Stretch is_digit s at n × (e ≡ at + n) × (v ≡ value_of 0 (take n (drop at s)))
    go true true q h =
        let i = digits_sound s at n refl in
        let m : (digits_at s at n).end - at ≡ n = omega (arith, eqb-true (digits_at s at n).end (at + n) q) in
        let p = some_pair h in
        let u : (digits_at s at n).value ≡ v = p.0 in
        (rw (← m) i.0, cc, sym u ∙ i.3 ∙ ap (λ (m : ℕ). value_of 0 (take m (drop at s))) m)
    go true false q h = let z : ◌≡◌ {A = ℕ} 0 1 = cc in absurd (omega arith)
    go false b q h = let z : ◌≡◌ {A = ℕ} 0 1 = cc in absurd (omega arith)

-- the end of a line
ends : (n at : ℕ) (v r : List ℕ) → All (λ (x : ℕ). not (eqb x 13)) v → length v ≤ n → line_end n at (v ++ (crlf ++ r)) ≡ Some (at + length v)
unfolding line_end begins
ends zero at [] r a h = simp add-zero
ends (suc n) at [] r a h = simp add-zero
ends zero at (x ∷ v) r a h = absurd (omega arith)
ends (suc n) at (x ∷ v) r a h = simp (not-true (eqb x 13) a.0) (ends n (at + 1) v r a.1 (omega arith) ∙ simp (add-one, add-suc, suc-add))

pub line_end_reads : (s : List ℕ) (at n : ℕ) (v r : List ℕ) → drop at s ≡ v ++ (crlf ++ r) → All (λ (x : ℕ). not (eqb x 13)) v → length v ≤ n → line_end_at s at n ≡ Some (at + length v)
unfolding line_end_at
line_end_reads s at n v r h a m = rw h (ends n at v r a m)

-- a CR LF stands at e, no more than n bytes after j
abbrev Found : List ℕ → ℕ → ℕ → ℕ → Type 0
Found s n j e = (begins crlf (drop e s) ≡ true) × (j ≤ e) × (e ≤ j + n)

found : (s : List ℕ) (n j e : ℕ) → line_end n j (drop j s) ≡ Some e → Found s n j e
unfolding line_end
found s zero j e h = go (begins crlf (drop j s)) refl h
  where
    go : (b : Bool) → begins crlf (drop j s) ≡ b → cond b (Some j) None ≡ Some e → Found s 0 j e
    go true q h = let z : j ≡ e = cc in (rw (← z) q, omega arith, omega arith)
    go false q h = let z : ◌≡◌ {A = ℕ} 0 1 = cc in absurd (omega arith)
found s (suc n) j e h = go (leb (length s) j) refl (found s n (j + 1) e)
  where
    turn : j < length s → (line_end n (j + 1) (drop (j + 1) s) ≡ Some e → Found s n (j + 1) e) → (b : Bool) → begins crlf (get_or s j 0 ∷ drop (suc j) s) ≡ b → cond b (Some j) (line_end n (j + 1) (drop (suc j) s)) ≡ Some e → Found s (suc n) j e
    turn k f true q h = let z : j ≡ e = cc in (rw (← z, drop-cons s j 0 k) q, omega arith, omega arith)
    turn k f false q h = let i = f (ap (λ (k : ℕ). line_end n (j + 1) (drop k s)) (add-one j) ∙ h) in (i.0, omega (arith, i.1), omega (arith, i.2))

    go : (b : Bool) → leb (length s) j ≡ b → (line_end n (j + 1) (drop (j + 1) s) ≡ Some e → Found s n (j + 1) e) → Found s (suc n) j e
    go true q f =
        let y : ◌≡◌ {A = Option ℕ} None (Some e) = sym (end_past s j (suc n) (leb-true (length s) j q)) ∙ h in
        let z : ◌≡◌ {A = ℕ} 0 1 = cc in
        absurd (omega arith)
    go false q f = let k = leb-false (length s) j q in turn k f (begins crlf (get_or s j 0 ∷ drop (suc j) s)) refl (rw (drop-cons s j 0 k) at h)

pub line_end_sound : (s : List ℕ) (at n : ℕ) {e : ℕ} → line_end_at s at n ≡ Some e → (drop e s ≡ crlf ++ drop (e + 2) s) × (at ≤ e) × (e ≤ at + n)
unfolding line_end_at
line_end_sound s at n {e} h = let i = found s n at e h in (begins_split crlf (drop e s) i.0 ∙ ap (λ (l : List ℕ). crlf ++ l) (drop-drop 2 e s), i.1, i.2)
