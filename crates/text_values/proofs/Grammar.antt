-- The values of document 01's table as a grammar: what it means that a list of bytes is such a value, that it is read, and that nothing else is.
use Rattle.std.specs.Prelude.{Option, Some, None, Result, Ok, Err}
use Prim.Native.Nat.{ℕ, ◌+◌, ◌*◌, ◌-◌, ◌≤◌, ◌<◌}
use mathlib.Core.Path.{◌≡◌, refl, ap, sym, ◌∙◌}
use mathlib.Core.List.{List, [], ◌∷◌, ◌++◌, append_assoc, append-nil}
use mathlib.Core.Bool.{Bool, true, false, cond, not, ◌&&◌, ◌||◌, false≢true}
use mathlib.Core.Logic.{inl, inr}
use native.Mathlib.Omega.{arith}
use native.Mathlib.Numerals.{add-one}
use borrow.Author.Tests.{eq-eqb, ne_eqb, eqb-true, eqb-false, not-true}
use lib.Dec.{eqb}
use lib.ListN.{length, get_or, take, drop, length-append, length-drop}
use lib.Seq.{drop-cons, get_or-drop}
use Rattle.chars.specs.Words.{bytes, crlf}
use Rattle.chars.specs.declared.Refusal.{Refusal}
use Rattle.chars.specs.declared.Refusal.TheVariants.{WrongEsa, WrongLetter}
use Rattle.chars.specs.Chars.{is_code, is_letter, is_digit}
use Rattle.codes.specs.Codes.{short_at}
use Rattle.dates.specs.Dates.{day_of}
use Rattle.clock.specs.Clock.{minute_of}
use Rattle.text_scan.specs.Scan.{on_next, begins, lit_at, codes_at, code_at, digits_at, number_at, line_end_at}
use Rattle.text_scan.proofs.Laws.{lit_not}
use Rattle.text_scan.specs.Spelling.{All, value_of}
use Rattle.text_scan.proofs.Pairs.{ok_pair}
use Rattle.text_scan.proofs.Standing.{past, lit_reads, codes_reads, digits_reads, code_reads, number_reads, line_end_reads, lit_next, lit_sound, cut, Stretch, codes_sound, code_sound, digits_sound, number_sound, line_end_sound}
use Rattle.text_values.specs.Values.{malformed, stands, on_digits, on_day, on_minute, text_of, forbidden_at, reference_at, numeral_at, word_at, bin_at, numbered, numbers_at, count_in, date_at, time_at, side_at, hundredths, amount_at, count_at}
use Rattle.text_values.specs.Letters.{is_status, is_fourth, judged_at, letters_at}
use Rattle.text_values.specs.declared.Part.{Part}
use Rattle.text_values.specs.Grammar.{IsReference, IsNumeral, IsWord, IsBin, IsNumbers, IsDate, IsTime, IsSide, IsAmount, IsLetters, IsCount, hundredths_in, cents_in}

-- what is read of a value: its number
pub record ReadsAs (r : Result (ℕ × ℕ) Refusal) (e : ℕ) : Type 0 where
  pub number : ℕ
  pub is : r ≡ Ok (number, e)

cr_ends_code : is_code 13 ≡ false
unfolding is_code is_letter is_digit
cr_ends_code = refl

cr_ends_digit : is_digit 13 ≡ false
unfolding is_digit
cr_ends_digit = refl

-- a fixed string without CR stands at the head of a value or not, whatever follows the line
begins_cut : (p v r : List ℕ) → All (λ (x : ℕ). not (eqb 13 x)) p → begins p (v ++ (13 ∷ r)) ≡ begins p v
unfolding begins
begins_cut [] v r a = refl
begins_cut (x ∷ p) [] r a = rw (not-true (eqb 13 x) a.0)
begins_cut (x ∷ p) (y ∷ v) r a = ap (λ (b : Bool). eqb y x && b) (begins_cut p v r a.1)

stands_begins : (s : List ℕ) (at : ℕ) (p : List ℕ) → stands (lit_at s at p) ≡ begins p (drop at s)
unfolding lit_at
stands_begins s at p = go (begins p (drop at s))
  where
    go : (b : Bool) → stands (cond b (Some (at + length p)) None) ≡ b
    go true = refl
    go false = refl

lit_missing : (s : List ℕ) (at : ℕ) (p : List ℕ) → begins p (drop at s) ≡ false → lit_at s at p ≡ None
unfolding lit_at
lit_missing s at p e = rw e

comma_ends : is_digit 44 ≡ false
unfolding is_digit
comma_ends = refl

other : begins (bytes "CR") (bytes "DR") ≡ false
unfolding begins
other = refl

status_no_cr : (x : ℕ) → is_status x ≡ true → not (eqb x 13) ≡ true
unfolding is_status
status_no_cr x h = go (eqb x 13) refl
  where
    go : (b : Bool) → eqb x 13 ≡ b → not b ≡ true
    go true e = absurd (false≢true (ap is_status (sym (eqb-true x 13 e)) ∙ h))
    go false e = refl

fourth_no_cr : (x : ℕ) → is_fourth x ≡ true → not (eqb x 13) ≡ true
unfolding is_fourth is_letter
fourth_no_cr x h = go (eqb x 13) refl
  where
    go : (b : Bool) → eqb x 13 ≡ b → not b ≡ true
    go true e = absurd (false≢true (ap is_fourth (sym (eqb-true x 13 e)) ∙ h))
    go false e = refl

hundredths_are : (b : ℕ) (part : List ℕ) → hundredths b (record { end = b + length part; value = value_of 0 part }) ≡ hundredths_in part
unfolding hundredths
hundredths_are b part = go (eqb (length part) 1) refl
  where
    go : (t : Bool) → eqb (length part) 1 ≡ t → cond (eqb (b + length part) (b + 1)) (value_of 0 part * 10) (value_of 0 part) ≡ cond t (value_of 0 part * 10) (value_of 0 part)
    go true e = rw (eq-eqb (b + length part) (b + 1) (omega (arith, eqb-true (length part) 1 e)))
    go false e = rw (ne_eqb (b + length part) (b + 1) (omega (arith, eqb-false (length part) 1 e)))

-- complete: a value that stands before CR LF is read, and as its number
module _ (s : List ℕ) (at : ℕ) (v r : List ℕ) (h : drop at s ≡ v ++ (crlf ++ r)) where
  cut_here : (p : List ℕ) → All (λ (x : ℕ). not (eqb 13 x)) p → begins p (drop at s) ≡ begins p v
  cut_here p a = ap (begins p) h ∙ begins_cut p v (10 ∷ r) a

  pub reference_complete : IsReference v → ReadsAs (reference_at s at) (at + length v)
  unfolding reference_at forbidden_at
  reference_complete g =
      let k = codes_reads s at v 13 (10 ∷ r) 16 h g.most g.all cr_ends_code in
      let z : (at + length v ≡ at → ⊥) = λ e. omega (arith, e, g.some) in
      record { number = 0; is = simp (k, ne_eqb (at + length v) at z, stands_begins, cut_here (bytes "RITS") (refl, (refl, (refl, (refl, tt)))), cut_here (bytes "ACLR") (refl, (refl, (refl, (refl, tt)))), cut_here (bytes "ASXC") (refl, (refl, (refl, (refl, tt)))), g.free) }

  digits_are : (n : ℕ) → n ≤ 18 → IsNumeral n v → number_at s at n ≡ Some (value_of 0 v, at + length v)
  digits_are n m g = ap (number_at s at) (sym g.size) ∙ number_reads s at v (crlf ++ r) h g.all (omega (arith, g.size))

  pub numeral_reads : (n : ℕ) → n ≤ 18 → IsNumeral n v → numeral_at s at n ≡ Ok (value_of 0 v, at + length v)
  unfolding numeral_at
  numeral_reads n m g = simp (digits_are n m g)

  pub numeral_complete : (n : ℕ) → n ≤ 18 → IsNumeral n v → ReadsAs (numeral_at s at n) (at + length v)
  numeral_complete n m g = record { number = value_of 0 v; is = numeral_reads n m g }

  pub word_complete : (n : ℕ) → IsWord n v → ReadsAs (word_at s at n) (at + length v)
  unfolding word_at
  word_complete n g =
      let k = code_reads s at v (crlf ++ r) h g.all in
      record { number = short_at s at; is = rw (← g.size) (simp k) }

  pub date_reads : (g : IsDate v) → date_at s at ≡ Ok (g.day, at + length v)
  unfolding date_at
  date_reads g = simp (digits_are 6 (omega arith) g.six, g.true_date)

  pub date_complete : IsDate v → ReadsAs (date_at s at) (at + length v)
  date_complete g = record { number = g.day; is = date_reads g }

  pub time_reads : (g : IsTime v) → time_at s at ≡ Ok (g.minute, at + length v)
  unfolding time_at
  time_reads g = simp (digits_are 4 (omega arith) g.four, g.true_time)

  pub time_complete : IsTime v → ReadsAs (time_at s at) (at + length v)
  time_complete g = record { number = g.minute; is = time_reads g }

  pub count_complete : (n : ℕ) → IsCount n v → ReadsAs (count_at s at n) (at + length v)
  unfolding count_at
  count_complete n g =
      let k = digits_reads s at v 13 (10 ∷ r) 2 h g.most g.digits cr_ends_digit in
      let l = lit_missing s at (bytes "0") (cut_here (bytes "0") (refl, tt) ∙ g.lead) in
      let z : (at + length v ≡ at → ⊥) = λ e. omega (arith, e, g.some) in
      record { number = value_of 0 v; is = simp (l, k, ne_eqb (at + length v) at z, eq-eqb (value_of 0 v) n g.is) }

  pub bin_complete : (p : Part) {w : List ℕ} → text_of s p ≡ w → IsBin w v → ReadsAs (bin_at s at p) (at + length v)
  unfolding bin_at
  bin_complete p {w} e g =
      let d = g.digits in
      let h₁ : drop at s ≡ w ++ (d ++ (crlf ++ r)) = h ∙ ap (λ (l : List ℕ). l ++ (crlf ++ r)) g.is ∙ append_assoc w d (crlf ++ r) in
      let h₂ = past s at w (d ++ (crlf ++ r)) h₁ in
      let l = lit_reads s at w (d ++ (crlf ++ r)) h₁ in
      let k : number_at s (at + length w) 4 ≡ Some (value_of 0 d, at + length w + length d) = ap (number_at s (at + length w)) (sym g.four.size) ∙ number_reads s (at + length w) d (crlf ++ r) h₂ g.four.all (omega (arith, g.four.size)) in
      record { number = 0; is = simp (e, l, k) (ap (λ (k : ℕ). Ok (0, k)) (omega (arith, simp length-append at (ap length g.is)))) }

  pub numbers_read : (g : IsNumbers v) → numbers_at s at ≡ Ok (value_of 0 g.number, at + length v)
  unfolding numbers_at
  numbers_read g =
      let a = g.number in
      let b = g.count in
      let h₁ : drop at s ≡ a ++ (bytes "/" ++ (b ++ (crlf ++ r))) = h ∙ ap (λ (l : List ℕ). l ++ (crlf ++ r)) g.is ∙ append_assoc a (bytes "/" ++ b) (crlf ++ r) in
      let h₂ = past s at a (bytes "/" ++ (b ++ (crlf ++ r))) h₁ in
      let h₃ = past s (at + length a) (bytes "/") (b ++ (crlf ++ r)) h₂ in
      let k₁ : number_at s at 2 ≡ Some (value_of 0 a, at + length a) = ap (number_at s at) (sym g.two.size) ∙ number_reads s at a (bytes "/" ++ (b ++ (crlf ++ r))) h₁ g.two.all (omega (arith, g.two.size)) in
      let l = lit_reads s (at + length a) (bytes "/") (b ++ (crlf ++ r)) h₂ in
      let k₂ : number_at s (at + length a + 1) 2 ≡ Some (value_of 0 b, at + length a + 1 + length b) = ap (number_at s (at + length a + 1)) (sym g.too.size) ∙ number_reads s (at + length a + 1) b (crlf ++ r) h₃ g.too.all (omega (arith, g.too.size)) in
      simp (k₁, l, k₂, g.range) (ap (λ (k : ℕ). Ok (value_of 0 a, k)) (omega (arith, simp length-append at (ap length g.is))))

  pub numbers_complete : IsNumbers v → ReadsAs (numbers_at s at) (at + length v)
  numbers_complete g = record { number = value_of 0 g.number; is = numbers_read g }

  pub side_complete : IsSide v → ReadsAs (side_at s at) (at + length v)
  unfolding side_at
  side_complete (inl e) =
      let l = lit_reads s at (bytes "CR") (crlf ++ r) (h ∙ ap (λ (l : List ℕ). l ++ (crlf ++ r)) e) in
      record { number = 0; is = simp (l, e) }
  side_complete (inr e) =
      let n = lit_missing s at (bytes "CR") (cut_here (bytes "CR") (refl, (refl, tt)) ∙ ap (begins (bytes "CR")) e ∙ other) in
      let l = lit_reads s at (bytes "DR") (crlf ++ r) (h ∙ ap (λ (l : List ℕ). l ++ (crlf ++ r)) e) in
      record { number = 1; is = simp (n, l, e) }

  pub amount_reads : (g : IsAmount v) → amount_at s at ≡ Ok (cents_in g, at + length v)
  unfolding amount_at
  amount_reads g =
      let a = g.whole in
      let b = g.part in
      let h₁ : drop at s ≡ bytes "AUD" ++ (a ++ (bytes "," ++ (b ++ (crlf ++ r)))) = h ∙ ap (λ (l : List ℕ). l ++ (crlf ++ r)) g.is ∙ ap (λ (l : List ℕ). bytes "AUD" ++ l) (append_assoc a (bytes "," ++ b) (crlf ++ r)) in
      let h₂ = past s at (bytes "AUD") (a ++ (bytes "," ++ (b ++ (crlf ++ r)))) h₁ in
      let h₃ = past s (at + 3) a (bytes "," ++ (b ++ (crlf ++ r))) h₂ in
      let h₄ = past s (at + 3 + length a) (bytes ",") (b ++ (crlf ++ r)) h₃ in
      let l₁ = lit_reads s at (bytes "AUD") (a ++ (bytes "," ++ (b ++ (crlf ++ r)))) h₁ in
      let k₁ = digits_reads s (at + 3) a 44 (b ++ (crlf ++ r)) 10 h₂ g.most g.digits comma_ends in
      let z : (at + 3 + length a ≡ at + 3 → ⊥) = λ e. omega (arith, e, g.some) in
      let l₂ = lit_reads s (at + 3 + length a) (bytes ",") (b ++ (crlf ++ r)) h₃ in
      let k₂ = digits_reads s (at + 3 + length a + 1) b 13 (10 ∷ r) 2 h₄ g.short g.too cr_ends_digit in
      let e : at + 3 + length a + 1 + length b ≡ at + length v = omega (arith, simp length-append at (ap length g.is)) in
      simp (l₁, k₁, ne_eqb (at + 3 + length a) (at + 3) z, l₂, k₂, hundredths_are (at + 3 + length a + 1) b) (ap (λ (k : ℕ). Ok (cents_in g, k)) e)

  pub amount_complete : IsAmount v → ReadsAs (amount_at s at) (at + length v)
  amount_complete g = record { number = cents_in g; is = amount_reads g }

  pub letters_complete : IsLetters v → ReadsAs (letters_at s at) (at + length v)
  unfolding letters_at judged_at
  letters_complete g =
      let w : List ℕ = g.esa ∷ g.credit ∷ g.cash ∷ g.unused ∷ [] in
      let h₁ : drop at s ≡ w ++ (crlf ++ r) = h ∙ ap (λ (l : List ℕ). l ++ (crlf ++ r)) g.is in
      let k = line_end_reads s at 4 w r h₁ (status_no_cr g.esa g.first, (status_no_cr g.credit g.second, (status_no_cr g.cash g.third, (fourth_no_cr g.unused g.fourth, tt)))) (omega arith) in
      let b : (i : ℕ) → get_or s (at + i) 0 ≡ get_or (w ++ (crlf ++ r)) i 0 = λ i. sym (get_or-drop at s i 0) ∙ ap (λ (l : List ℕ). get_or l i 0) h₁ in
      record { number = short_at s at; is = simp (k, eq-eqb (at + 4) (at + 4) refl, b 0, b 1, b 2, b 3, g.first, g.second, g.third, g.fourth) (ap (λ (k : ℕ). Ok (short_at s at, k)) (omega (arith, ap length g.is))) }

-- sound: what is read stands there
pub record SpeltAs (P : List ℕ → Type 0) (s : List ℕ) (at e : ℕ) : Type 0 where
  pub value : List ℕ
  pub text : drop at s ≡ value ++ drop e s
  pub ends : e ≡ at + length value
  pub is : P value

pub unread : {A : Type 0} {x : Refusal} {v e : ℕ} → ◌≡◌ {A = Result (ℕ × ℕ) Refusal} (Err x) (Ok (v, e)) → A
unread h = let z : ◌≡◌ {A = ℕ} 0 1 = cc in absurd (omega arith)

or_false : (a b : Bool) → (a || b) ≡ false → (a ≡ false) × (b ≡ false)
or_false true b h = absurd (false≢true (sym h))
or_false false b h = (refl, h)

begins_less : (p v r : List ℕ) → begins p (v ++ r) ≡ false → begins p v ≡ false
unfolding begins
begins_less [] v r h = h
begins_less (x ∷ p) [] r h = refl
begins_less (x ∷ p) (y ∷ v) r h = go (eqb y x) (begins_less p v r) h
  where
    go : (b : Bool) → (begins p (v ++ r) ≡ false → begins p v ≡ false) → (b && begins p (v ++ r)) ≡ false → (b && begins p v) ≡ false
    go true f h = f h
    go false f h = refl

free : (s : List ℕ) (at e : ℕ) (v : List ℕ) → drop at s ≡ v ++ drop e s → forbidden_at s at ≡ false → (begins (bytes "RITS") v || (begins (bytes "ACLR") v || begins (bytes "ASXC") v)) ≡ false
unfolding forbidden_at
free s at e v d f =
    let g = or_false (stands (lit_at s at (bytes "RITS"))) (stands (lit_at s at (bytes "ACLR")) || stands (lit_at s at (bytes "ASXC"))) f in
    let k = or_false (stands (lit_at s at (bytes "ACLR"))) (stands (lit_at s at (bytes "ASXC"))) g.1 in
    simp (not_here (bytes "RITS") g.0, not_here (bytes "ACLR") k.0, not_here (bytes "ASXC") k.1)
  where
    not_here : (p : List ℕ) → stands (lit_at s at p) ≡ false → begins p v ≡ false
    not_here p h = begins_less p v (drop e s) (ap (begins p) (sym d) ∙ sym (stands_begins s at p) ∙ h)

module _ (s : List ℕ) (at : ℕ) where
  -- the stretch of a class that was read, as a list
  taken : (is : ℕ → Bool) (n e : ℕ) → Stretch is s at n → e ≡ at + n → (drop at s ≡ take n (drop at s) ++ drop e s) × (e ≡ at + length (take n (drop at s)))
  taken is n e g h = (cut s at n ∙ ap (λ (k : ℕ). take n (drop at s) ++ drop k s) (sym h), omega (arith, h, g.size))

  pub reference_sound : {x e : ℕ} → reference_at s at ≡ Ok (x, e) → SpeltAs IsReference s at e
  unfolding reference_at
  reference_sound {x} {e} h = go (eqb (codes_at s at 16) at) (forbidden_at s at) refl refl h
    where
      go : (b c : Bool) → eqb (codes_at s at 16) at ≡ b → forbidden_at s at ≡ c → cond b malformed (cond c malformed (Ok (0, codes_at s at 16))) ≡ Ok (x, e) → SpeltAs IsReference s at e
      go true c q f h = unread h
      go false true q f h = unread h
      go false false q f h =
          let z : codes_at s at 16 ≡ e = (ok_pair h).1 in
          let i = codes_sound s at 16 e z in
          let w = taken is_code (e - at) e i.0 (omega (arith, i.1)) in
          let n : (e ≡ at → ⊥) = λ y. eqb-false (codes_at s at 16) at q (z ∙ y) in
          record {
            value = take (e - at) (drop at s);
            text = w.0;
            ends = w.1;
            is = record {
              some = omega (arith, i.0.size, i.1, n);
              most = omega (arith, i.0.size, i.2);
              all = i.0.all;
              free = free s at e (take (e - at) (drop at s)) w.0 f;
            };
          }

  on_digits_lem : {A : Type 0} (n : ℕ) (k : ℕ → ℕ → Result (ℕ × ℕ) Refusal) {x e : ℕ} → on_digits (number_at s at n) malformed k ≡ Ok (x, e) → ((v a : ℕ) → number_at s at n ≡ Some (v, a) → k v a ≡ Ok (x, e) → A) → A
  on_digits_lem {A} n k {x} {e} h f = go (number_at s at n) refl h
    where
      go : (r : Option (ℕ × ℕ)) → number_at s at n ≡ r → on_digits r malformed k ≡ Ok (x, e) → A
      go (Some (v, a)) q h = f v a q h
      go None q h = unread h

  on_lit : {A : Type 0} (p : List ℕ) (k : ℕ → Result (ℕ × ℕ) Refusal) {x e : ℕ} → on_next (lit_at s at p) malformed k ≡ Ok (x, e) → ((a : ℕ) → lit_at s at p ≡ Some a → k a ≡ Ok (x, e) → A) → A
  on_lit {A} p k {x} {e} h f = go (lit_at s at p) refl h
    where
      go : (r : Option ℕ) → lit_at s at p ≡ r → on_next r malformed k ≡ Ok (x, e) → A
      go (Some a) q h = f a q h
      go None q h = unread h

  numeral_here : (n : ℕ) {v e : ℕ} → number_at s at n ≡ Some (v, e) → SpeltAs (λ (l : List ℕ). IsNumeral n l × (v ≡ value_of 0 l)) s at e
  numeral_here n {v} {e} q =
      let i = number_sound s at n q in
      let w = taken is_digit n e i.0 i.1 in
      record { value = take n (drop at s); text = w.0; ends = w.1; is = (record { size = i.0.size; all = i.0.all }, i.2) }

  pub numeral_sound : (n : ℕ) {x e : ℕ} → numeral_at s at n ≡ Ok (x, e) → SpeltAs (IsNumeral n) s at e
  unfolding numeral_at
  numeral_sound n {x} {e} h = on_digits_lem n (λ v a. Ok (v, a)) h (λ v a q r.
      let z : a ≡ e = (ok_pair r).1 in
      let g = numeral_here n (q ∙ ap (λ (k : ℕ). Some (v, k)) z) in
      record { value = g.value; text = g.text; ends = g.ends; is = g.is.0 })

  pub word_sound : (n : ℕ) {x e : ℕ} → word_at s at n ≡ Ok (x, e) → SpeltAs (IsWord n) s at e
  unfolding word_at
  word_sound n {x} {e} h = go (code_at s at n) refl h
    where
      go : (r : Option ℕ) → code_at s at n ≡ r → on_next r malformed (λ a. Ok (short_at s at, a)) ≡ Ok (x, e) → SpeltAs (IsWord n) s at e
      go (Some a) q h =
          let z : a ≡ e = (ok_pair h).1 in
          let i = code_sound s at n (q ∙ ap Some z) in
          let w = taken is_code n e i.0 i.1 in
          record { value = take n (drop at s); text = w.0; ends = w.1; is = record { size = i.0.size; all = i.0.all } }
      go None q h = unread h

  pub date_sound : {x e : ℕ} → date_at s at ≡ Ok (x, e) → SpeltAs IsDate s at e
  unfolding date_at
  date_sound {x} {e} h = on_digits_lem 6 (λ v a. on_day (day_of v) malformed (λ d. Ok (d, a))) h (λ v a q r. go v a q (day_of v) refl r)
    where
      go : (v a : ℕ) → number_at s at 6 ≡ Some (v, a) → (d : Option ℕ) → day_of v ≡ d → on_day d malformed (λ n. Ok (n, a)) ≡ Ok (x, e) → SpeltAs IsDate s at e
      go v a q (Some n) p h =
          let z : a ≡ e = (ok_pair h).1 in
          let g = numeral_here 6 (q ∙ ap (λ (k : ℕ). Some (v, k)) z) in
          record { value = g.value; text = g.text; ends = g.ends; is = record { six = g.is.0; day = n; true_date = ap day_of (sym g.is.1) ∙ p } }
      go v a q None p h = unread h

  pub time_sound : {x e : ℕ} → time_at s at ≡ Ok (x, e) → SpeltAs IsTime s at e
  unfolding time_at
  time_sound {x} {e} h = on_digits_lem 4 (λ v a. on_minute (minute_of v) malformed (λ d. Ok (d, a))) h (λ v a q r. go v a q (minute_of v) refl r)
    where
      go : (v a : ℕ) → number_at s at 4 ≡ Some (v, a) → (d : Option ℕ) → minute_of v ≡ d → on_minute d malformed (λ n. Ok (n, a)) ≡ Ok (x, e) → SpeltAs IsTime s at e
      go v a q (Some n) p h =
          let z : a ≡ e = (ok_pair h).1 in
          let g = numeral_here 4 (q ∙ ap (λ (k : ℕ). Some (v, k)) z) in
          record { value = g.value; text = g.text; ends = g.ends; is = record { four = g.is.0; minute = n; true_time = ap minute_of (sym g.is.1) ∙ p } }
      go v a q None p h = unread h

  pub side_sound : {x e : ℕ} → side_at s at ≡ Ok (x, e) → SpeltAs IsSide s at e
  unfolding side_at
  side_sound {x} {e} h = go (lit_at s at (bytes "CR")) (lit_at s at (bytes "DR")) refl refl h
    where
      go : (r u : Option ℕ) → lit_at s at (bytes "CR") ≡ r → lit_at s at (bytes "DR") ≡ u → on_next r (on_next u malformed (λ a. Ok (1, a))) (λ a. Ok (0, a)) ≡ Ok (x, e) → SpeltAs IsSide s at e
      go (Some a) u p q h =
          let z : a ≡ e = (ok_pair h).1 in
          record { value = bytes "CR"; text = lit_sound s at (bytes "CR") (p ∙ ap Some z); ends = lit_next s at (bytes "CR") (p ∙ ap Some z); is = inl refl }
      go None (Some a) p q h =
          let z : a ≡ e = (ok_pair h).1 in
          record { value = bytes "DR"; text = lit_sound s at (bytes "DR") (q ∙ ap Some z); ends = lit_next s at (bytes "DR") (q ∙ ap Some z); is = inr refl }
      go None None p q h = unread h

  -- two parts, one after the other
  join : (u w : List ℕ) (a e : ℕ) → drop at s ≡ u ++ drop a s → drop a s ≡ w ++ drop e s → drop at s ≡ (u ++ w) ++ drop e s
  join u w a e p q = p ∙ ap (λ (l : List ℕ). u ++ l) q ∙ sym (append_assoc u w (drop e s))

module _ (s : List ℕ) (at : ℕ) where
  pub bin_sound : (p : Part) {x e : ℕ} → bin_at s at p ≡ Ok (x, e) → SpeltAs (IsBin (text_of s p)) s at e
  unfolding bin_at
  bin_sound p {x} {e} h = on_lit s at (text_of s p) (λ a. on_digits (number_at s a 4) malformed (λ v c. Ok (0, c))) h (λ a q r.
      on_digits_lem s a 4 (λ v c. Ok (0, c)) r (λ v c u y.
      let z : c ≡ e = (ok_pair y).1 in
      let g = numeral_here s a 4 (u ∙ ap (λ (k : ℕ). Some (v, k)) z) in
      let n = lit_next s at (text_of s p) q in
      record {
        value = text_of s p ++ g.value;
        text = join s at (text_of s p) g.value a e (lit_sound s at (text_of s p) q) g.text;
        ends = simp length-append (omega (arith, n, g.ends));
        is = record { digits = g.value; is = refl; four = g.is.0 };
      }))

  pub numbers_sound : {x e : ℕ} → numbers_at s at ≡ Ok (x, e) → SpeltAs IsNumbers s at e
  unfolding numbers_at
  numbers_sound {x} {e} h = on_digits_lem s at 2 (λ n a. on_next (lit_at s a (bytes "/")) malformed (λ b. on_digits (number_at s b 2) malformed (λ m c. cond (numbered n m) (Ok (n, c)) malformed))) h (λ n a q₁ r₁.
      on_lit s a (bytes "/") (λ b. on_digits (number_at s b 2) malformed (λ m c. cond (numbered n m) (Ok (n, c)) malformed)) r₁ (λ b q₂ r₂.
      on_digits_lem s b 2 (λ m c. cond (numbered n m) (Ok (n, c)) malformed) r₂ (λ m c q₃ r₃.
      go n a b m c q₁ q₂ q₃ (numbered n m) refl r₃)))
    where
      go : (n a b m c : ℕ) → number_at s at 2 ≡ Some (n, a) → lit_at s a (bytes "/") ≡ Some b → number_at s b 2 ≡ Some (m, c) → (t : Bool) → numbered n m ≡ t → cond t (Ok (n, c)) malformed ≡ Ok (x, e) → SpeltAs IsNumbers s at e
      go n a b m c q₁ q₂ q₃ false k h = unread h
      go n a b m c q₁ q₂ q₃ true k h =
          let z : c ≡ e = (ok_pair h).1 in
          let g₁ = numeral_here s at 2 q₁ in
          let g₂ = numeral_here s b 2 (q₃ ∙ ap (λ (k : ℕ). Some (m, k)) z) in
          let l = lit_next s a (bytes "/") q₂ in
          record {
            value = g₁.value ++ (bytes "/" ++ g₂.value);
            text = join s at g₁.value (bytes "/" ++ g₂.value) a e g₁.text (join s a (bytes "/") g₂.value b e (lit_sound s a (bytes "/") q₂) g₂.text);
            ends = simp length-append (omega (arith, g₁.ends, l, g₂.ends));
            is = record { number = g₁.value; count = g₂.value; is = refl; two = g₁.is.0; too = g₂.is.0; range = rw (← g₁.is.1, ← g₂.is.1) k };
          }

  pub amount_sound : {x e : ℕ} → amount_at s at ≡ Ok (x, e) → SpeltAs IsAmount s at e
  unfolding amount_at
  amount_sound {x} {e} h = on_lit s at (bytes "AUD") _ h (λ a q₁ r₁. go₁ a q₁ (eqb (digits_at s a 10).end a) refl r₁)
    where
      go₂ : (a : ℕ) → lit_at s at (bytes "AUD") ≡ Some a → ((digits_at s a 10).end ≡ a → ⊥) → (b : ℕ) → lit_at s (digits_at s a 10).end (bytes ",") ≡ Some b → ◌≡◌ {A = Result (ℕ × ℕ) Refusal} (Ok ((digits_at s a 10).value * 100 + hundredths b (digits_at s b 2), (digits_at s b 2).end)) (Ok (x, e)) → SpeltAs IsAmount s at e
      go₂ a q₁ n b q₂ h =
          let z : (digits_at s b 2).end ≡ e = (ok_pair h).1 in
          let d = (digits_at s a 10).end in
          let i = digits_sound s a 10 refl in
          let j = digits_sound s b 2 refl in
          let w₁ = taken s a is_digit (d - a) d i.0 (omega (arith, i.1)) in
          let w₂ = taken s b is_digit ((digits_at s b 2).end - b) (digits_at s b 2).end j.0 (omega (arith, j.1)) in
          let whole = take (d - a) (drop a s) in
          let part = take ((digits_at s b 2).end - b) (drop b s) in
          let l₁ = lit_next s at (bytes "AUD") q₁ in
          let l₂ = lit_next s d (bytes ",") q₂ in
          rw (← z) (record {
            value = bytes "AUD" ++ (whole ++ (bytes "," ++ part));
            text = join s at (bytes "AUD") (whole ++ (bytes "," ++ part)) a (digits_at s b 2).end (lit_sound s at (bytes "AUD") q₁)
                (join s a whole (bytes "," ++ part) d (digits_at s b 2).end w₁.0 (join s d (bytes ",") part b (digits_at s b 2).end (lit_sound s d (bytes ",") q₂) w₂.0));
            ends = simp length-append (omega (arith, l₁, l₂, w₁.1, w₂.1));
            is = record {
              whole = whole;
              part = part;
              is = refl;
              some = omega (arith, i.0.size, i.1, n);
              most = omega (arith, i.0.size, i.2);
              short = omega (arith, j.0.size, j.2);
              digits = i.0.all;
              too = j.0.all;
            };
          })

      go₁ : (a : ℕ) → lit_at s at (bytes "AUD") ≡ Some a → (t : Bool) → eqb (digits_at s a 10).end a ≡ t → cond t malformed (on_next (lit_at s (digits_at s a 10).end (bytes ",")) malformed (λ b. Ok ((digits_at s a 10).value * 100 + hundredths b (digits_at s b 2), (digits_at s b 2).end))) ≡ Ok (x, e) → SpeltAs IsAmount s at e
      go₁ a q true k h = unread h
      go₁ a q false k h = on_lit s (digits_at s a 10).end (bytes ",") _ h (λ b q₂ r. go₂ a q (eqb-false (digits_at s a 10).end a k) b q₂ r)

  pub count_sound : (n : ℕ) {x e : ℕ} → count_at s at n ≡ Ok (x, e) → SpeltAs (IsCount n) s at e
  unfolding count_at
  count_sound n {x} {e} h = go (lit_at s at (bytes "0")) (eqb (digits_at s at 2).end at) (eqb (digits_at s at 2).value n) refl refl refl h
    where
      go : (r : Option ℕ) (b c : Bool) → lit_at s at (bytes "0") ≡ r → eqb (digits_at s at 2).end at ≡ b → eqb (digits_at s at 2).value n ≡ c → on_next r (cond b malformed (cond c (Ok ((digits_at s at 2).value, (digits_at s at 2).end)) malformed)) (λ a. malformed) ≡ Ok (x, e) → SpeltAs (IsCount n) s at e
      go (Some a) b c l p q h = unread h
      go None true c l p q h = unread h
      go None false false l p q h = unread h
      go None false true l p q h =
          let z : (digits_at s at 2).end ≡ e = (ok_pair h).1 in
          let i = digits_sound s at 2 refl in
          let w = taken s at is_digit ((digits_at s at 2).end - at) (digits_at s at 2).end i.0 (omega (arith, i.1)) in
          let v = take ((digits_at s at 2).end - at) (drop at s) in
          let m = eqb-false (digits_at s at 2).end at p in
          rw (← z) (record {
            value = v;
            text = w.0;
            ends = w.1;
            is = record {
              some = omega (arith, i.0.size, i.1, m);
              most = omega (arith, i.0.size, i.2);
              digits = i.0.all;
              lead = begins_less (bytes "0") v (drop (digits_at s at 2).end s) (ap (begins (bytes "0")) (sym w.0) ∙ lit_not s at (bytes "0") l);
              is = sym i.3 ∙ eqb-true (digits_at s at 2).value n q;
            };
          })

  one : (i k : ℕ) → k ≡ i + 1 → i < length s → drop i s ≡ get_or s i 0 ∷ drop k s
  one i k e h = drop-cons s i 0 h ∙ ap (λ (m : ℕ). get_or s i 0 ∷ drop m s) (sym (e ∙ add-one i))

  four : at + 4 ≤ length s → drop at s ≡ get_or s (at + 0) 0 ∷ get_or s (at + 1) 0 ∷ get_or s (at + 2) 0 ∷ get_or s (at + 3) 0 ∷ drop (at + 4) s
  four h =
      let z : at ≡ at + 0 = omega arith in
      ap (λ (k : ℕ). drop k s) z ∙ one (at + 0) (at + 1) (omega arith) (omega arith)
      ∙ ap (λ (l : List ℕ). get_or s (at + 0) 0 ∷ l) (one (at + 1) (at + 2) (omega arith) (omega arith)
      ∙ ap (λ (l : List ℕ). get_or s (at + 1) 0 ∷ l) (one (at + 2) (at + 3) (omega arith) (omega arith)
      ∙ ap (λ (l : List ℕ). get_or s (at + 2) 0 ∷ l) (one (at + 3) (at + 4) (omega arith) (omega arith))))

  pub letters_sound : {x e : ℕ} → letters_at s at ≡ Ok (x, e) → SpeltAs IsLetters s at e
  unfolding letters_at judged_at
  letters_sound {x} {e} h = go (line_end_at s at 4) refl h
    where
      judged : (a : ℕ) (b₀ b₁ b₂ b₃ : Bool) → at + 4 ≤ length s → a ≡ at + 4 → is_status (get_or s (at + 0) 0) ≡ b₀ → is_status (get_or s (at + 1) 0) ≡ b₁ → is_status (get_or s (at + 2) 0) ≡ b₂ → is_fourth (get_or s (at + 3) 0) ≡ b₃ → cond b₀ (cond b₁ (cond b₂ (cond b₃ (Ok (short_at s at, a)) malformed) (Err WrongLetter)) (Err WrongLetter)) (Err WrongEsa) ≡ Ok (x, e) → SpeltAs IsLetters s at e
      judged a true true true true l z p₀ p₁ p₂ p₃ h =
          let y : a ≡ e = (ok_pair h).1 in
          rw (← y, z) (record {
            value = get_or s (at + 0) 0 ∷ get_or s (at + 1) 0 ∷ get_or s (at + 2) 0 ∷ get_or s (at + 3) 0 ∷ [];
            text = four l;
            ends = refl;
            is = record { esa = get_or s (at + 0) 0; credit = get_or s (at + 1) 0; cash = get_or s (at + 2) 0; unused = get_or s (at + 3) 0; is = refl; first = p₀; second = p₁; third = p₂; fourth = p₃ };
          })
      judged a true true true false l z p₀ p₁ p₂ p₃ h = unread h
      judged a true true false b₃ l z p₀ p₁ p₂ p₃ h = unread h
      judged a true false b₂ b₃ l z p₀ p₁ p₂ p₃ h = unread h
      judged a false b₁ b₂ b₃ l z p₀ p₁ p₂ p₃ h = unread h

      sized : (a : ℕ) → line_end_at s at 4 ≡ Some a → (b : Bool) → eqb a (at + 4) ≡ b → cond b (judged_at s at a) malformed ≡ Ok (x, e) → SpeltAs IsLetters s at e
      sized a q true p h =
          let z = eqb-true a (at + 4) p in
          let g = line_end_sound s at 4 q in
          let l : at + 4 ≤ length s = omega (arith, z, ap length g.0, length-drop a s) in
          judged a (is_status (get_or s (at + 0) 0)) (is_status (get_or s (at + 1) 0)) (is_status (get_or s (at + 2) 0)) (is_fourth (get_or s (at + 3) 0)) l z refl refl refl refl h
      sized a q false p h = unread h

      go : (r : Option ℕ) → line_end_at s at 4 ≡ r → on_next r malformed (λ a. cond (eqb a (at + 4)) (judged_at s at a) malformed) ≡ Ok (x, e) → SpeltAs IsLetters s at e
      go (Some a) q h = sized a q (eqb a (at + 4)) refl h
      go None q h = unread h

-- the count of 16A, by its digits
pub count_in_lem : {v : List ℕ} (g : IsNumbers v) → count_in v ≡ value_of 0 g.count
unfolding count_in
count_in_lem {v} g =
    let a = g.number in
    let b = g.count in
    let h₁ : drop 0 v ≡ a ++ (bytes "/" ++ (b ++ [])) = g.is ∙ ap (λ (l : List ℕ). a ++ (bytes "/" ++ l)) (sym (append-nil b)) in
    let h₂ = past v (0 + length a) (bytes "/") (b ++ []) (past v 0 a (bytes "/" ++ (b ++ [])) h₁) in
    let z : 3 ≡ 0 + length a + 1 = omega (arith, g.two.size) in
    let k : number_at v (0 + length a + 1) 2 ≡ Some (value_of 0 b, 0 + length a + 1 + length b) = ap (number_at v (0 + length a + 1)) (sym g.too.size) ∙ number_reads v (0 + length a + 1) b [] h₂ g.too.all (omega (arith, g.too.size)) in
    ap (λ (n : ℕ). on_digits (number_at v n 2) 0 (λ m e. m)) z ∙ simp k
