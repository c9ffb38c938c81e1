-- The number of a line that is broken, by what stands behind its tag.
use Rattle.std.specs.Prelude.{Option, Some, None, Result, Ok, Err}
use Prim.Native.Nat.{ℕ, zero, suc, ◌+◌}
use mathlib.Core.Path.{◌≡◌, refl, ap, sym, ◌∙◌}
use mathlib.Core.List.{List, [], ◌∷◌}
use mathlib.Core.Bool.{Bool, true, false, cond, ◌&&◌}
use mathlib.Core.Logic.{◌⊎◌, inl, inr}
use native.Mathlib.Nat.{add-zero}
use native.Mathlib.Omega.{arith}
use borrow.Author.Tests.{eq-eqb, ne_eqb, eqb-true, eqb-false}
use lib.Dec.{eqb}
use lib.ListN.{length, get_or, drop}
use lib.Seq.{get_or-drop}
use Rattle.chars.specs.Words.{bytes, crlf}
use Rattle.chars.specs.declared.Refusal.{Refusal}
use Rattle.chars.specs.declared.Refusal.TheVariants.{Malformed, WrongEsa, WrongLetter}
use Rattle.clock.specs.Clock.{minute_of}
use Rattle.codes.specs.Codes.{short_at}
use Rattle.dates.specs.Dates.{day_of}
use Rattle.text_scan.specs.Scan.{on_next, begins, lit_at, codes_at, code_at, digits_at, number_at, line_end, line_end_at}
use Rattle.text_scan.proofs.Alike.{by_next}
use Rattle.text_scan.proofs.Laws.{lit_yes, lit_not}
use Rattle.text_scan.proofs.Standing.{lit_next}
use Rattle.text_values.specs.Values.{malformed, text_of, forbidden_at, reference_at, numeral_at, word_at, bin_at, numbered, numbers_at, date_at, time_at, side_at, amount_at, count_at}
use Rattle.text_values.specs.Letters.{is_status, is_fourth, judged_at, letters_at}
use Rattle.text_values.proofs.Alike.{by_cond, by_digits, by_day, by_minute}
use Rattle.text_values.specs.declared.Part.{Part}
use Rattle.text_fields.specs.Fields.{absent, broken, wrong, item, place, on_read, value_at, field_at}
use Rattle.text_scan.specs.declared.Cursor.{Cursor}
use Rattle.text_fields.specs.declared.Break.{Break}
use Rattle.text_fields.specs.declared.Item.{Item}
use Rattle.text_fields.specs.declared.Kind.{Kind}
use Rattle.thm_first_break.specs.Rows.{f113, by_letters, refusal_of}

-- the number of a line by the answer of its value's reader: that of a value that is none, 87 where something else than CR LF follows
abbrev pub Told : Refusal → Result (ℕ × ℕ) Refusal → Type 0
Told n (Ok (v, e)) = n ≡ Malformed
Told n (Err r) = r ≡ n

-- an answer that refuses with 87 alone
pub data Plain : Result (ℕ × ℕ) Refusal → Type 0 where
  read : {v e : ℕ} → Plain (Ok (v, e))
  unread : Plain malformed

pub told : {v : Result (ℕ × ℕ) Refusal} → Plain v → Told Malformed v
told read = refl
told unread = refl

-- "the first break gives 87"
module _ (s : List ℕ) (at : ℕ) where
  pub reference_plain : Plain (reference_at s at)
  unfolding reference_at
  reference_plain = by_cond Plain (eqb (codes_at s at 16) at) unread (by_cond Plain (forbidden_at s at) unread read)

  pub numeral_plain : (n : ℕ) → Plain (numeral_at s at n)
  unfolding numeral_at
  numeral_plain n = by_digits Plain (number_at s at n) unread (λ v e q. read)

  pub word_plain : (n : ℕ) → Plain (word_at s at n)
  unfolding word_at
  word_plain n = by_next Plain (code_at s at n) unread (λ e q. read)

  pub bin_plain : (p : Part) → Plain (bin_at s at p)
  unfolding bin_at
  bin_plain p = by_next Plain (lit_at s at (text_of s p)) unread (λ a q. by_digits Plain (number_at s a 4) unread (λ v e q. read))

  pub numbers_plain : Plain (numbers_at s at)
  unfolding numbers_at
  numbers_plain = by_digits Plain (number_at s at 2) unread (λ n a q. by_next Plain (lit_at s a (bytes "/")) unread (λ b q. by_digits Plain (number_at s b 2) unread (λ m e q. by_cond Plain (numbered n m) read unread)))

  pub date_plain : Plain (date_at s at)
  unfolding date_at
  date_plain = by_digits Plain (number_at s at 6) unread (λ v e q. by_day Plain (day_of v) unread (λ d. read))

  pub time_plain : Plain (time_at s at)
  unfolding time_at
  time_plain = by_digits Plain (number_at s at 4) unread (λ v e q. by_minute Plain (minute_of v) unread (λ d. read))

  pub side_plain : Plain (side_at s at)
  unfolding side_at
  side_plain = by_next Plain (lit_at s at (bytes "CR")) (by_next Plain (lit_at s at (bytes "DR")) unread (λ e q. read)) (λ e q. read)

  pub amount_plain : Plain (amount_at s at)
  unfolding amount_at
  amount_plain = by_next Plain (lit_at s at (bytes "AUD")) unread (λ a q. by_cond Plain (eqb (digits_at s a 10).end a) unread (by_next Plain (lit_at s (digits_at s a 10).end (bytes ",")) unread (λ b q. read)))

  pub count_plain : (n : ℕ) → Plain (count_at s at n)
  unfolding count_at
  count_plain n = by_next Plain (lit_at s at (bytes "0")) (by_cond Plain (eqb (digits_at s at 2).end at) unread (by_cond Plain (eqb (digits_at s at 2).value n) read unread)) (λ e q. unread)

-- the end of a line, counted from another place
abbrev moved : ℕ → Option ℕ → Option ℕ
moved a (Some e) = Some (a + e)
moved a None = None

shift : (n a j : ℕ) (l : List ℕ) → line_end n (a + j) l ≡ moved a (line_end n j l)
unfolding line_end
shift zero a j l = go (begins crlf l)
  where
    go : (b : Bool) → cond b (Some (a + j)) None ≡ moved a (cond b (Some j) None)
    go true = refl
    go false = refl
shift (suc n) a j [] = refl
shift (suc n) a j (x ∷ l) = go (begins crlf (x ∷ l)) (ap (λ (k : ℕ). line_end n k l) (omega arith) ∙ shift n a (j + 1) l)
  where
    go : (b : Bool) → line_end n (a + j + 1) l ≡ moved a (line_end n (j + 1) l) → cond b (Some (a + j)) (line_end n (a + j + 1) l) ≡ moved a (cond b (Some j) (line_end n (j + 1) l))
    go true h = refl
    go false h = h

-- "in 113, if it has exactly four characters, left to right: a wrong ESA letter 80, a wrong credit or cash letter 81, a wrong fourth 87"
module _ (s : List ℕ) (at : ℕ) where
  judged_told : (e : ℕ) → Told (by_letters (drop at s)) (judged_at s at e)
  unfolding judged_at
  judged_told e = rw (get_or-drop at s 0 0, get_or-drop at s 1 0, get_or-drop at s 2 0) (go (is_status (get_or s (at + 0) 0)) (is_status (get_or s (at + 1) 0)) (is_status (get_or s (at + 2) 0)) (is_fourth (get_or s (at + 3) 0)))
    where
      go : (a b c d : Bool) → Told (cond a (cond (b && c) Malformed WrongLetter) WrongEsa) (cond a (cond b (cond c (cond d (Ok (short_at s at, e)) malformed) (Err WrongLetter)) (Err WrongLetter)) (Err WrongEsa))
      go true true true true = refl
      go true true true false = refl
      go true true false d = refl
      go true false c d = refl
      go false b c d = refl

  pub letters_told : Told (refusal_of f113 (drop at s)) (letters_at s at)
  unfolding letters_at line_end_at
  letters_told = rw (ap (λ (k : ℕ). line_end 4 k (drop at s)) (sym (add-zero at)) ∙ shift 4 at 0 (drop at s)) (go (line_end 4 0 (drop at s)))
    where
      sized : (e : ℕ) (b : Bool) → eqb e 4 ≡ b → Told (cond b (by_letters (drop at s)) Malformed) (cond (eqb (at + e) (at + 4)) (judged_at s at (at + e)) malformed)
      sized e true h = rw (eq-eqb (at + e) (at + 4) (omega (arith, eqb-true e 4 h))) (judged_told (at + e))
      sized e false h = rw (ne_eqb (at + e) (at + 4) (omega (arith, eqb-false e 4 h))) refl

      go : (x : Option ℕ) → Told (cond (on_next x false (λ e. eqb e 4)) (by_letters (drop at s)) Malformed) (on_next (moved at x) malformed (λ e. cond (eqb e (at + 4)) (judged_at s at e) malformed))
      go (Some e) = sized e (eqb e 4) refl
      go None = refl

-- a line that is not read: its tag is missing, or it is broken with the number that is told
pub field_bad : (s : List ℕ) (at : ℕ) (tag : List ℕ) (k : Kind) (n : Refusal) → Told n (value_at s (at + length tag) k) → {b : Break} → field_at s at tag k ≡ Err b → ((begins tag (drop at s) ≡ false) × (b ≡ absent at)) ⊎ ((begins tag (drop at s) ≡ true) × (b ≡ broken at n))
unfolding field_at
field_bad s at tag k n t {b} h = go₁ (lit_at s at tag) refl h
  where
    Known : Type 0
    Known = ((begins tag (drop at s) ≡ false) × (b ≡ absent at)) ⊎ ((begins tag (drop at s) ≡ true) × (b ≡ broken at n))

    go₃ : (a v e : ℕ) → begins tag (drop at s) ≡ true → n ≡ Malformed → (r : Option ℕ) → on_next {A = Result (Item × Cursor) Break} r (Err (wrong at)) (λ m. Ok (item a e v, place m)) ≡ Err b → Known
    go₃ a v e l u None h = inr (l, cc)
    go₃ a v e l u (Some m) h = let z : ◌≡◌ {A = ℕ} 0 1 = cc in absurd (omega arith)

    go₂ : (a : ℕ) → begins tag (drop at s) ≡ true → (r : Result (ℕ × ℕ) Refusal) → Told n r → on_read {A = Result (Item × Cursor) Break} r (λ x. Err (broken at x)) (λ v e. on_next (lit_at s e crlf) (Err (wrong at)) (λ m. Ok (item a e v, place m))) ≡ Err b → Known
    go₂ a l (Ok (v, e)) u h = go₃ a v e l u (lit_at s e crlf) h
    go₂ a l (Err x) u h = inr (l, cc)

    go₁ : (r : Option ℕ) → lit_at s at tag ≡ r → on_next {A = Result (Item × Cursor) Break} r (Err (absent at)) (λ a. on_read (value_at s a k) (λ x. Err (broken at x)) (λ v e. on_next (lit_at s e crlf) (Err (wrong at)) (λ m. Ok (item a e v, place m)))) ≡ Err b → Known
    go₁ (Some a) l h = go₂ a (lit_yes s at tag l) (value_at s a k) (rw (lit_next s at tag l) t) h
    go₁ None l h = inl (lit_not s at tag l, cc)
