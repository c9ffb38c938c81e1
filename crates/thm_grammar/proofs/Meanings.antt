-- The number that is read of a value, by the bytes of the value; and a line that was read, with what it says.
use Rattle.chars.specs.declared.Refusal.{Refusal}
use Rattle.std.specs.Prelude.{Option, Some, None, Result, Ok, Err}
use Prim.Native.Nat.{ℕ, ◌+◌, ◌-◌, ◌≤◌}
use mathlib.Core.Path.{◌≡◌, refl, ap, sym, subst, ◌∙◌}
use mathlib.Core.List.{List, ◌++◌}
use mathlib.Core.Bool.{Bool, true, false, cond, ◌&&◌}
use native.Mathlib.Omega.{arith}
use borrow.Author.Tests.{eqb-true, leb-true}
use lib.Dec.{eqb, leb}
use lib.ListN.{length, get_or, take, drop}
use lib.Seq.{take-append_seam, take_at}
use Rattle.chars.specs.Words.{bytes, crlf}
use Rattle.chars.specs.declared.Refusal.TheVariants.{WrongEsa, WrongLetter}
use Rattle.codes.specs.Codes.{packed, short_at}
use Rattle.codes.proofs.Laws.{pack_take}
use Rattle.text_scan.specs.Scan.{on_next, lit_at, code_at, digits_at, line_end_at}
use Rattle.text_scan.specs.declared.Cursor.{Cursor}
use Rattle.text_scan.specs.Spelling.{value_of}
use Rattle.text_scan.proofs.Pairs.{ok_pair}
use Rattle.text_scan.proofs.Standing.{and_true}
use Rattle.text_values.specs.Values.{malformed, text_of, word_at, numbered, count_at}
use Rattle.text_values.specs.Letters.{is_status, is_fourth, judged_at, letters_at}
use Rattle.text_values.specs.Grammar.{cents_in}
use Rattle.text_values.proofs.Grammar.{unread, numeral_reads, numbers_read, date_reads, time_reads, amount_reads}
use Rattle.text_fields.specs.Fields.{item, value_at, field_at}
use Rattle.text_fields.specs.declared.Item.{Item}
use Rattle.text_fields.specs.declared.Kind.{Kind}
use Rattle.text_fields.specs.declared.Kind.TheVariants.{Empty, Reference, Numeral, Word, Bin, Numbers, Date, Time, Side, Amount, Letters, Count}
use Rattle.text_fields.proofs.Alike.{Fine}
use Rattle.text_fields.specs.Grammar.{Line, Spelt}
use Rattle.text_fields.proofs.Grammar.{line_complete, line_sound}

pub number_is : {v : Result (ℕ × ℕ) Refusal} {x y d e : ℕ} → v ≡ Ok (x, d) → v ≡ Ok (y, e) → x ≡ y
number_is p q = (ok_pair (sym p ∙ q)).0

-- a break is no value
pub not_read : {A B E : Type 0} {b : E} {x : B} → ◌≡◌ {A = Result B E} (Err b) (Ok x) → A
not_read h = let z : ◌≡◌ {A = ℕ} 0 1 = cc in absurd (omega arith)

-- a part of the text is the value that stands there
pub part_is : (s : List ℕ) (a e : ℕ) (v r : List ℕ) → drop a s ≡ v ++ r → e ≡ a + length v → text_of s (record { start = a; end = e }) ≡ v
unfolding text_of
part_is s a e v r h z = let y : e - a ≡ length v = omega arith in rw (y, h) (take-append_seam v r)

-- "number, count; 01 to 10, number not above count"
pub numbered_range : (n m : ℕ) → numbered n m ≡ true → (1 ≤ n) × (n ≤ m) × (m ≤ 10)
unfolding numbered
numbered_range n m h =
    let g = and_true (leb 1 n) (leb n m && leb m 10) h in
    let k = and_true (leb n m) (leb m 10) g.1 in
    (leb-true 1 n g.0, leb-true n m k.0, leb-true m 10 k.1)

-- four characters that stand at a place
four_are : (s : List ℕ) (at : ℕ) (v r : List ℕ) → drop at s ≡ v ++ r → length v ≡ 4 → short_at s at ≡ packed 4 v
unfolding short_at
four_are s at v r h e = sym (pack_take 4 0 (drop at s)) ∙ ap (packed 4) (ap (take 4) h ∙ take_at v r 4 e)

module _ (s : List ℕ) (at : ℕ) {x e : ℕ} where
  word_number : (n : ℕ) → word_at s at n ≡ Ok (x, e) → x ≡ short_at s at
  unfolding word_at
  word_number n h = go (code_at s at n) h
    where
      go : (t : Option ℕ) → on_next t malformed (λ a. Ok (short_at s at, a)) ≡ Ok (x, e) → x ≡ short_at s at
      go (Some a) h = sym (ok_pair h).0
      go None h = unread h

  letters_number : letters_at s at ≡ Ok (x, e) → x ≡ short_at s at
  unfolding letters_at judged_at
  letters_number h = go (line_end_at s at 4) h
    where
      judged : (a : ℕ) (b₀ b₁ b₂ b₃ : Bool) → cond b₀ (cond b₁ (cond b₂ (cond b₃ (Ok (short_at s at, a)) malformed) (Err WrongLetter)) (Err WrongLetter)) (Err WrongEsa) ≡ Ok (x, e) → x ≡ short_at s at
      judged a true true true true h = sym (ok_pair h).0
      judged a true true true false h = unread h
      judged a true true false b₃ h = unread h
      judged a true false b₂ b₃ h = unread h
      judged a false b₁ b₂ b₃ h = unread h

      sized : (a : ℕ) (b : Bool) → cond b (judged_at s at a) malformed ≡ Ok (x, e) → x ≡ short_at s at
      sized a true h = judged a (is_status (get_or s (at + 0) 0)) (is_status (get_or s (at + 1) 0)) (is_status (get_or s (at + 2) 0)) (is_fourth (get_or s (at + 3) 0)) h
      sized a false h = unread h

      go : (t : Option ℕ) → on_next t malformed (λ a. cond (eqb a (at + 4)) (judged_at s at a) malformed) ≡ Ok (x, e) → x ≡ short_at s at
      go (Some a) h = sized a (eqb a (at + 4)) h
      go None h = unread h

  count_number : (n : ℕ) → count_at s at n ≡ Ok (x, e) → x ≡ n
  unfolding count_at
  count_number n h = go (lit_at s at (bytes "0")) (eqb (digits_at s at 2).end at) (eqb (digits_at s at 2).value n) refl h
    where
      go : (t : Option ℕ) (b c : Bool) → eqb (digits_at s at 2).value n ≡ c → on_next t (cond b malformed (cond c (Ok ((digits_at s at 2).value, (digits_at s at 2).end)) malformed)) (λ a. malformed) ≡ Ok (x, e) → x ≡ n
      go (Some a) b c q h = unread h
      go None true c q h = unread h
      go None false false q h = unread h
      go None false true q h = sym (ok_pair h).0 ∙ eqb-true (digits_at s at 2).value n q

-- what the number beside a value is; a name's code is read of its part, a side's number is told by the side
abbrev pub Means : (s : List ℕ) (k : Kind) (v : List ℕ) → Spelt s k v → ℕ → Type 0
Means s Empty v g x = x ≡ 0
Means s Reference v g x = Unit {0}
Means s (Numeral n) v g x = x ≡ value_of 0 v
Means s (Word n) v g x = n ≡ 4 → x ≡ packed 4 v
Means s (Bin p) v g x = Unit {0}
Means s Numbers v g x = x ≡ value_of 0 g.number
Means s Date v g x = x ≡ g.day
Means s Time v g x = x ≡ g.minute
Means s Side v g x = Unit {0}
Means s Amount v g x = x ≡ cents_in g
Means s Letters v g x = x ≡ packed 4 v
Means s (Count n) v g x = x ≡ n

value_means : (s : List ℕ) (at : ℕ) (v r : List ℕ) → drop at s ≡ v ++ (crlf ++ r) → (b : ℕ) (k : Kind) → Fine b k → (g : Spelt s k v) {x e : ℕ} → value_at s at k ≡ Ok (x, e) → Means s k v g x
value_means s at v r h b Empty f g q = sym (ok_pair q).0
value_means s at v r h b Reference f g q = tt
value_means s at v r h b (Numeral n) f g q = number_is q (numeral_reads s at v r h n (omega arith) g)
value_means s at v r h b (Word n) f g q = λ e. word_number s at n q ∙ four_are s at v (crlf ++ r) h (g.size ∙ e)
value_means s at v r h b (Bin p) f g q = tt
value_means s at v r h b Numbers f g q = number_is q (numbers_read s at v r h g)
value_means s at v r h b Date f g q = number_is q (date_reads s at v r h g)
value_means s at v r h b Time f g q = number_is q (time_reads s at v r h g)
value_means s at v r h b Side f g q = tt
value_means s at v r h b Amount f g q = number_is q (amount_reads s at v r h g)
value_means s at v r h b Letters f g q = letters_number s at q ∙ four_are s at v (crlf ++ r) h (ap length g.is)
value_means s at v r h b (Count n) f g q = count_number s at n q

-- a line that was read stands there, its part is its value, and its number is what the value means
pub record LineRead (s : List ℕ) (at : ℕ) (tag : List ℕ) (k : Kind) (i : Item) (c : Cursor) : Type 0 where
  pub line : Line tag (Spelt s k) (drop at s) (drop c.at s)
  pub span : i.part ≡ record { start = at + length tag; end = at + length tag + length line.value }
  pub text : text_of s i.part ≡ line.value
  pub means : Means s k line.value line.is i.number

pub line_read : (s : List ℕ) (at : ℕ) (tag : List ℕ) (k : Kind) (b : ℕ) → Fine b k → {i : Item} {c : Cursor} → field_at s at tag k ≡ Ok (i, c) → LineRead s at tag k i c
line_read s at tag k b f {i} {c} q =
    let g = line_sound s at tag k q in
    let p = line_complete s at tag k b f refl g in
    let w = g.value in
    let z : i ≡ item (at + length tag) (at + length tag + length w) p.number = (ok_pair (sym q ∙ p.is)).0 in
    let y : i.part ≡ record { start = at + length tag; end = at + length tag + length w } = ap (λ (j : Item). j.part) z in
    record {
      line = g;
      span = y;
      text = ap (text_of s) y ∙ part_is s (at + length tag) (at + length tag + length w) w (crlf ++ drop c.at s) p.part refl;
      means = subst (Means s k w g.is) (sym (ap (λ (j : Item). j.number) z)) (value_means s (at + length tag) w (drop c.at s) p.part b k f g.is p.value);
    }
