-- Values that the table allows, when they are written, are texts of the grammar.
use Prim.Native.Nat.{ℕ, zero, suc, ◌+◌, ◌/◌, ◌%◌, ◌≤◌, ◌<◌}
use mathlib.Core.Path.{◌≡◌, refl, ap, sym, subst, ◌∙◌}
use mathlib.Core.Bool.{Bool, true, false}
use mathlib.Core.List.{List, [], ◌∷◌, ◌++◌}
use native.Mathlib.Omega.{arith}
use borrow.Author.Tests.{ne_eqb, le-leb, ltb-true, ltb-false}
use lib.Dec.{ltb}
use lib.ListN.{length}
use Rattle.chars.specs.Words.{bytes}
use Rattle.chars.specs.Chars.{is_code}
use Rattle.clock.specs.Clock.{hhmm_of, minute_of}
use Rattle.clock.proofs.Laws.{hhmm_back}
use Rattle.codes.specs.Codes.{spelled, filled}
use Rattle.codes.specs.declared.Code.{Code}
use Rattle.dates.specs.Dates.{day_of, date_of}
use Rattle.dates.proofs.Laws.{date_back, date_small}
use Rattle.text_put.specs.Digits.{digits_of}
use Rattle.text_put.proofs.Laws.{digits_length}
use Rattle.response_read.proofs.Digits.{code_bytes, digits_all, value_back}
use Rattle.text_scan.specs.Scan.{begins, ten}
use Rattle.text_scan.specs.Spelling.{All, value_of}
use Rattle.text_values.specs.Values.{numbered}
use Rattle.text_values.specs.Grammar.{IsReference, IsNumeral, IsWord, IsBin, IsNumbers, IsDate, IsTime, IsAmount, IsLetters, IsCount}
use Rattle.text_fields.specs.Grammar.{Line}
use Rattle.thm_grammar.specs.Values.{Spells, SpellsFour, GivenReference, GivenFour, GivenBin, GivenLetters}
use Rattle.thm_grammar.proofs.Values.{bin_codes}
use Rattle.request_write.specs.Orders.{fixed, width_on, width_of, blank, proper, name_text, four_text, numbers_text, time_text, amount_text, count_text, value_text, line_text}
use Rattle.request_write.specs.declared.Given.{Given}
use Rattle.request_write.proofs.Widths.{width_fits}
use Rattle.thm_requests_back.proofs.Lines.{line_given}
use Rattle.thm_requests_back.proofs.Written.{zero_no_code, long_spelled, fixed_digits, fixed_is, fixed_value, four_is, time_is, hhmm_value, amount_is, count_is}

-- a line that is written
abbrev pub line : (tag : List ℕ) (given : Given) (q : List ℕ) {P : List ℕ → Type 0} → P (value_text given) → Line tag P (line_text tag given ++ q) q
line tag given q p = record { value = value_text given; text = ap (λ (l : List ℕ). l ++ q) (line_given tag given); is = p }

-- ---- a reference and a BIN

blank_zeros : (w : ℕ) → blank (filled w []) ≡ true
unfolding blank
blank_zeros zero = refl
blank_zeros (suc w) = blank_zeros w

proper_filled : (w : ℕ) (v : List ℕ) → All is_code v → proper (filled w v) ≡ true
unfolding proper blank
proper_filled zero v a = refl
proper_filled (suc w) [] a = rw zero_no_code (blank_zeros w)
proper_filled (suc w) (x ∷ v) a = rw a.0 (proper_filled w v a.1)

pub name_is : (v : List ℕ) → All is_code v → {c : Code} → Spells v c → name_text c ≡ v
unfolding name_text
name_is v a {c} g =
    let z : proper (spelled c) ≡ true = ap (λ (d : Code). proper (spelled d)) g.code ∙ ap proper (long_spelled v (code_bytes v a)) ∙ proper_filled 16 v a in
    rw z g.text

pub reference_text : {c : Code} → GivenReference c → IsReference (name_text c)
reference_text g = subst IsReference (sym (name_is g.value g.is.all g.spells)) g.is

-- ---- four characters

pub four_text_lem : {v : List ℕ} {n : ℕ} → SpellsFour v n → four_text n ≡ v
four_text_lem {n = n} g = four_is n g.small ∙ g.text

pub word_text : {n : ℕ} → GivenFour n → IsWord 4 (four_text n)
word_text g = subst (IsWord 4) (sym (four_text_lem g.spells)) g.is

pub letters_text : {n : ℕ} → GivenLetters n → IsLetters (four_text n)
letters_text g = subst IsLetters (sym (four_text_lem g.spells)) g.is

pub bin_text : {n : ℕ} {c : Code} (w : GivenFour n) → GivenBin w.value c → IsBin (four_text n) (name_text c)
bin_text {c = c} w g =
    let k = bin_codes w.is g.is in
    subst (λ (s : List ℕ). IsBin s (name_text c)) (sym (four_text_lem w.spells)) (subst (IsBin w.value) (sym (name_is g.value k.1 g.spells)) g.is)

-- ---- numbers

pub fixed_numeral : (k v : ℕ) → v < ten k → IsNumeral k (fixed k v)
fixed_numeral k v h = record { size = ap length (fixed_is k v h) ∙ digits_length k v; all = fixed_digits k v }

fixed_back : (k v : ℕ) → 1 ≤ k → v < ten k → value_of 0 (fixed k v) ≡ v
fixed_back k v m h = fixed_value k v (omega (arith, (fixed_numeral k v h).size))

pub subtype_text : (v : ℕ) → v < 1000 → IsNumeral 3 (fixed 3 v) × (value_of 0 (fixed 3 v) ≡ v)
subtype_text v h = (fixed_numeral 3 v h, fixed_back 3 v (omega arith) h)

numbered_yes : (n m : ℕ) → 1 ≤ n → n ≤ m → m ≤ 10 → numbered n m ≡ true
unfolding numbered
numbered_yes n m a b c = simp (le-leb 1 n a, le-leb n m b, le-leb m 10 c)

pub numbers_text_lem : (n m : ℕ) → 1 ≤ n → n ≤ m → m ≤ 10 → IsNumbers (numbers_text n m)
unfolding numbers_text
numbers_text_lem n m a b c =
    let p : n < ten 2 = omega arith in
    let q : m < ten 2 = omega arith in
    record {
      number = fixed 2 n;
      count = fixed 2 m;
      is = refl;
      two = fixed_numeral 2 n p;
      too = fixed_numeral 2 m q;
      range = rw (fixed_back 2 n (omega arith) p, fixed_back 2 m (omega arith) q) (numbered_yes n m a b c);
    }

pub date_text : (k : ℕ) → k < 36525 → IsDate (fixed 6 (date_of k))
date_text k h = record { six = fixed_numeral 6 (date_of k) (date_small k); day = k; true_date = ap day_of (fixed_back 6 (date_of k) (omega arith) (date_small k)) ∙ date_back k h }

pub time_text_lem : (m : ℕ) → m < 1440 → IsTime (time_text m)
time_text_lem m h = subst IsTime (sym (time_is m h)) (record {
  four = record { size = digits_length 4 (hhmm_of m); all = digits_all 4 (hhmm_of m) };
  minute = m;
  true_time = ap minute_of (hhmm_value m h) ∙ hhmm_back m h;
})

pub amount_text_lem : (c : ℕ) → c ≤ 999999999999 → IsAmount (amount_text c)
amount_text_lem c h =
    let n = c / 100 in
    let k = width_fits n (omega arith) in
    record {
      whole = digits_of (width_of n) n;
      part = digits_of 2 (c % 100);
      is = amount_is c (omega arith);
      some = rw digits_length k.1;
      most = rw digits_length k.2;
      short = rw digits_length (omega arith);
      digits = digits_all (width_of n) n;
      too = digits_all 2 (c % 100);
    }

-- ---- "1 or 2 digits, no leading zero"

count_shape : (n : ℕ) → 1 ≤ n → n ≤ 10 → (length (digits_of (width_of n) n) ≤ 2) × (begins (bytes "0") (digits_of (width_of n) n) ≡ false)
unfolding width_of width_on digits_of begins
count_shape n a b = go (ltb n 10) refl
  where
    go : (t : Bool) → ltb n 10 ≡ t → (length (digits_of (width_of n) n) ≤ 2) × (begins (bytes "0") (digits_of (width_of n) n) ≡ false)
    go true e =
        let m = ltb-true n 10 e in
        let z : width_of n ≡ 1 = simp e in
        rw z (omega arith, rw (ne_eqb (n % 10 + 48) 48 (omega arith)))
    go false e =
        let z : n ≡ 10 = omega (arith, ltb-false n 10 e) in
        rw z (omega arith, refl)

pub count_text_lem : (n : ℕ) → 1 ≤ n → n ≤ 10 → IsCount n (count_text n)
count_text_lem n a b =
    let k = width_fits n (omega arith) in
    let g = count_shape n a b in
    subst (IsCount n) (sym (count_is n (omega arith))) (record { some = rw digits_length k.1; most = g.0; digits = digits_all (width_of n) n; lead = g.1; is = value_back (width_of n) n k.0 })
