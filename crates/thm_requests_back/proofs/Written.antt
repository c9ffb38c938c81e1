-- A value that is written means what was given, in each field; one that its field cannot hold is left out.
use Rattle.std.specs.Prelude.{Some}
use Prim.Native.Nat.{ℕ, suc, ◌/◌, ◌%◌, ◌≤◌, ◌<◌}
use mathlib.Core.Path.{◌≡◌, refl, ap, ap₂, sym, ◌∙◌}
use mathlib.Core.Bool.{Bool, true, false, ◌&&◌, cond, false≢true}
use mathlib.Core.List.{List, [], ◌∷◌, ◌++◌}
use native.Mathlib.Omega.{arith}
use borrow.Author.Tests.{lt-ltb, le-ltb, ltb-true, eqb-true, ne_eqb}
use lib.Dec.{eqb, ltb}
use lib.ListN.{length, take, drop, length-append}
use lib.Seq.{take_at, drop_at}
use Rattle.chars.specs.Words.{bytes}
use Rattle.chars.specs.Chars.{is_code, is_letter, is_digit}
use Rattle.clock.specs.Clock.{hhmm_of, minute_of}
use Rattle.clock.proofs.Laws.{hhmm_in, hhmm_back}
use Rattle.codes.specs.Codes.{packed, unpacked, long_of, named, short_text, spelled, long_text, Bytes, filled}
use Rattle.codes.specs.declared.Code.{Code}
use Rattle.codes.proofs.Laws.{pack_unpack, unpack_pack, unpack_length, spelled_length, filled_split, bytes_drop}
use Rattle.text_put.specs.Digits.{digits_of}
use Rattle.text_put.proofs.Laws.{digits_length}
use Rattle.response_read.proofs.Digits.{code_bytes, digits_all, value_back}
use Rattle.text_scan.specs.Scan.{ten}
use Rattle.text_scan.specs.Spelling.{All, value_of}
use Rattle.text_values.specs.Grammar.{IsNumbers, IsTime, IsAmount, hundredths_in, cents_in}
use Rattle.thm_grammar.proofs.Values.{pack_below}
use Rattle.request_write.specs.Orders.{held, fixed, width_of, blank, proper, name_text, four_text, numbers_text, time_text, amount_text, count_text}
use Rattle.request_write.proofs.Widths.{width_fits}
use Rattle.thm_requests_back.specs.Values.{Halves}
use Rattle.thm_requests_back.proofs.Lines.{class_free, split}

-- a text that is there was held
pub held_there : (b : Bool) (text : List ℕ) → 0 < length (held b text) → b ≡ true
held_there true text h = refl
held_there false text h = absurd (omega arith)

pub held_all : (is : ℕ → Bool) (b : Bool) (text : List ℕ) → (b ≡ true → All is text) → All is (held b text)
held_all is true text f = f refl
held_all is false text f = tt

-- ---- a number of just k digits

pub fixed_digits : (k v : ℕ) → All is_digit (fixed k v)
unfolding fixed
fixed_digits k v = held_all is_digit (ltb v (ten k)) (digits_of k v) (λ e. digits_all k v)

pub fixed_fits : (k v : ℕ) → 0 < length (fixed k v) → v < ten k
unfolding fixed
fixed_fits k v h = ltb-true v (ten k) (held_there (ltb v (ten k)) (digits_of k v) h)

pub fixed_is : (k v : ℕ) → v < ten k → fixed k v ≡ digits_of k v
unfolding fixed
fixed_is k v h = simp (lt-ltb v (ten k) h)

pub fixed_value : (k v : ℕ) → 0 < length (fixed k v) → value_of 0 (fixed k v) ≡ v
fixed_value k v h = let b = fixed_fits k v h in ap (value_of 0) (fixed_is k v b) ∙ value_back k v b

-- ---- a reference or a BIN

blank_filled : (l : List ℕ) → blank l ≡ true → l ≡ filled (length l) []
unfolding blank
blank_filled [] h = refl
blank_filled (x ∷ l) h = go (eqb x 0) refl h (blank_filled l)
  where
    go : (b : Bool) → eqb x 0 ≡ b → (b && blank l) ≡ true → (blank l ≡ true → l ≡ filled (length l) []) → x ∷ l ≡ 0 ∷ filled (length l) []
    go true e h f = ap₂ ◌∷◌ (eqb-true x 0 e) (f h)
    go false e h f = absurd (false≢true h)

pub zero_no_code : is_code 0 ≡ false
unfolding is_code is_letter is_digit
zero_no_code = refl

code_no_zero : (x : ℕ) → is_code x ≡ true → eqb x 0 ≡ false
code_no_zero x h = ne_eqb x 0 (λ e. false≢true (sym zero_no_code ∙ ap is_code (sym e) ∙ h))

-- characters of a code and then zeros
pub record Proper (l : List ℕ) : Type 0 where
  pub whole : l ≡ filled (length l) (named l)
  pub codes : All is_code (named l)

pub proper_is : (l : List ℕ) → proper l ≡ true → Proper l
unfolding proper named blank
proper_is [] h = record { whole = refl; codes = tt }
proper_is (x ∷ l) h = go (is_code x) refl h (proper_is l)
  where
    zeros : (b : Bool) → eqb x 0 ≡ b → blank (x ∷ l) ≡ true → (x ∷ l ≡ filled (suc (length l)) (cond b [] (x ∷ named l))) × All is_code (cond b [] (x ∷ named l))
    zeros true e h = (blank_filled (x ∷ l) h, tt)
    zeros false e h = absurd (false≢true (ap (λ (b : Bool). b && blank l) (sym e) ∙ h))

    go : (b : Bool) → is_code x ≡ b → cond b (proper l) (blank (x ∷ l)) ≡ true → (proper l ≡ true → Proper l) → Proper (x ∷ l)
    go true e h f =
        let i = f h in
        let z : named (x ∷ l) ≡ x ∷ named l = simp (code_no_zero x e) in
        record { whole = rw z (ap (λ (m : List ℕ). x ∷ m) i.whole); codes = rw z (e, i.codes) }
    go false e h f = let i = zeros (eqb x 0) refl h in record { whole = i.0; codes = i.1 }

pub name_codes : (c : Code) → All is_code (name_text c)
unfolding name_text long_text
name_codes c = held_all is_code (proper (spelled c)) (named (spelled c)) (λ e. (proper_is (spelled c) e).codes)

-- the code of characters spells them and then zeros
pub long_spelled : (v : List ℕ) → Bytes v → spelled (long_of v) ≡ filled 16 v
unfolding spelled long_of
long_spelled v b = rw (unpack_pack 8 v b, unpack_pack 8 (drop 8 v) (bytes_drop 8 v b)) (filled_split 8 8 v)

spelled_high : (c : Code) → Halves c → packed 8 (take 8 (spelled c)) ≡ c.high
unfolding spelled
spelled_high c h = ap (packed 8) (take_at (unpacked 8 c.high) (unpacked 8 c.low) 8 (unpack_length 8 c.high)) ∙ pack_unpack 8 c.high h.0

spelled_low : (c : Code) → Halves c → packed 8 (drop 8 (spelled c)) ≡ c.low
unfolding spelled
spelled_low c h = ap (packed 8) (drop_at (unpacked 8 c.high) (unpacked 8 c.low) 8 (unpack_length 8 c.high)) ∙ pack_unpack 8 c.low h.1

code_same : (c d : Code) → c.high ≡ d.high → c.low ≡ d.low → c ≡ d
code_same c d p q = ap₂ (λ (h l : ℕ). record { high = h; low = l }) p q

pub long_halves : (v : List ℕ) → Bytes v → Halves (long_of v)
unfolding long_of
long_halves v b = (pack_below 8 0 0 v b (omega arith), pack_below 8 0 0 (drop 8 v) (bytes_drop 8 v b) (omega arith))

-- a code that is written is the code of its characters
pub name_back : (c : Code) → Halves c → 0 < length (name_text c) → long_of (name_text c) ≡ c
unfolding name_text long_text
name_back c h some =
    let e = held_there (proper (spelled c)) (named (spelled c)) some in
    let i = proper_is (spelled c) e in
    let v = named (spelled c) in
    let b = code_bytes v i.codes in
    let z : spelled (long_of v) ≡ spelled c = long_spelled v b ∙ ap (λ (k : ℕ). filled k v) (sym (spelled_length c)) ∙ sym i.whole in
    let k = long_halves v b in
    rw e (code_same (long_of v) c
    (sym (spelled_high (long_of v) k) ∙ ap (λ (l : List ℕ). packed 8 (take 8 l)) z ∙ spelled_high c h)
    (sym (spelled_low (long_of v) k) ∙ ap (λ (l : List ℕ). packed 8 (drop 8 l)) z ∙ spelled_low c h))

-- ---- four characters

pub four_is : (v : ℕ) → v < 4294967296 → four_text v ≡ short_text v
unfolding four_text
four_is v h = simp (lt-ltb v 4294967296 h)

pub four_word : (v : ℕ) → v < 4294967296 → packed 4 (short_text v) ≡ v
unfolding short_text
four_word v h = pack_unpack 4 v h

pub four_size : (v : ℕ) → length (short_text v) ≡ 4
unfolding short_text
four_size v = unpack_length 4 v

pub four_out : (v : ℕ) → 4294967296 ≤ v → four_text v ≡ []
unfolding four_text
four_out v h = simp (le-ltb v 4294967296 h)

-- ---- "nn/nn: number, count"

pub slash_no_digit : is_digit 47 ≡ false
unfolding is_digit
slash_no_digit = refl

pub comma_no_digit : is_digit 44 ≡ false
unfolding is_digit
comma_no_digit = refl

pub cr_no_digit : is_digit 13 ≡ false
unfolding is_digit
cr_no_digit = refl

pub numbers_back : (n m : ℕ) {v : List ℕ} (g : IsNumbers v) → v ≡ numbers_text n m → (value_of 0 g.number ≡ n) × (value_of 0 g.count ≡ m)
unfolding numbers_text
numbers_back n m {v} g h =
    let i = split 47 g.number (fixed 2 n) g.count (fixed 2 m) (class_free is_digit 47 slash_no_digit g.number g.two.all) (class_free is_digit 47 slash_no_digit (fixed 2 n) (fixed_digits 2 n)) (sym g.is ∙ h) in
    (ap (value_of 0) i.0 ∙ fixed_value 2 n (omega (arith, ap length i.0, g.two.size)), ap (value_of 0) i.1 ∙ fixed_value 2 m (omega (arith, ap length i.1, g.too.size)))

-- ---- a time

time_fits : (m : ℕ) → 0 < length (time_text m) → m < 1440
unfolding time_text
time_fits m h = ltb-true m 1440 (held_there (ltb m 1440) (digits_of 4 (hhmm_of m)) h)

pub time_is : (m : ℕ) → m < 1440 → time_text m ≡ digits_of 4 (hhmm_of m)
unfolding time_text
time_is m h = simp (lt-ltb m 1440 h)

pub hhmm_value : (m : ℕ) → m < 1440 → value_of 0 (digits_of 4 (hhmm_of m)) ≡ hhmm_of m
hhmm_value m h = value_back 4 (hhmm_of m) (omega (arith, hhmm_in m h))

same_minute : {x y : ℕ} → Some x ≡ Some y → x ≡ y
same_minute h = cc

pub time_back : (m : ℕ) {v : List ℕ} (g : IsTime v) → v ≡ time_text m → g.minute ≡ m
time_back m {v} g h =
    let b = time_fits m (omega (arith, ap length h, g.four.size)) in
    let z : value_of 0 v ≡ hhmm_of m = ap (value_of 0) (h ∙ time_is m b) ∙ hhmm_value m b in
    same_minute (sym g.true_time ∙ ap minute_of z ∙ hhmm_back m b)

-- ---- an amount

amount_fits : (c : ℕ) → 0 < length (amount_text c) → c < 1000000000000
unfolding amount_text
amount_fits c h = ltb-true c 1000000000000 (held_there (ltb c 1000000000000) _ h)

pub amount_is : (c : ℕ) → c < 1000000000000 → amount_text c ≡ bytes "AUD" ++ (digits_of (width_of (c / 100)) (c / 100) ++ (bytes "," ++ digits_of 2 (c % 100)))
unfolding amount_text
amount_is c h = simp (lt-ltb c 1000000000000 h)

two_digits : (x : ℕ) → x < 100 → hundredths_in (digits_of 2 x) ≡ x
two_digits x h = simp digits_length (value_back 2 x h)

pub amount_back : (c : ℕ) {v : List ℕ} (g : IsAmount v) → v ≡ amount_text c → cents_in g ≡ c
amount_back c {v} g h =
    let some : 0 < length (amount_text c) = omega (arith, simp length-append at (ap length (sym h ∙ g.is))) in
    let b = amount_fits c some in
    let n = c / 100 in
    let e : g.whole ++ (44 ∷ g.part) ≡ digits_of (width_of n) n ++ (44 ∷ digits_of 2 (c % 100)) = ap (drop 3) (sym g.is ∙ h ∙ amount_is c b) in
    let i = split 44 g.whole (digits_of (width_of n) n) g.part (digits_of 2 (c % 100)) (class_free is_digit 44 comma_no_digit g.whole g.digits) (class_free is_digit 44 comma_no_digit (digits_of (width_of n) n) (digits_all (width_of n) n)) e in
    let w : value_of 0 g.whole ≡ n = ap (value_of 0) i.0 ∙ value_back (width_of n) n (width_fits n (omega arith)).0 in
    let p : hundredths_in g.part ≡ c % 100 = ap hundredths_in i.1 ∙ two_digits (c % 100) (omega arith) in
    omega (arith, w, p)

-- ---- the number of payments

count_fits : (n : ℕ) → 0 < length (count_text n) → n < 100
unfolding count_text
count_fits n h = ltb-true n 100 (held_there (ltb n 100) (digits_of (width_of n) n) h)

pub count_is : (n : ℕ) → n < 100 → count_text n ≡ digits_of (width_of n) n
unfolding count_text
count_is n h = simp (lt-ltb n 100 h)

pub count_back : (n : ℕ) → 0 < length (count_text n) → value_of 0 (count_text n) ≡ n
count_back n h =
    let b = count_fits n h in
    ap (value_of 0) (count_is n b) ∙ value_back (width_of n) n (width_fits n (omega arith)).0
