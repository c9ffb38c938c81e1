-- What the functions that write leave behind.
use Rattle.chars.specs.declared.Refusal.{Refusal}
use Rattle.std.specs.Prelude.{Result, Err}
use Prim.Native.Nat.{ℕ, zero, suc, ◌+◌, ◌*◌, ◌/◌, ◌%◌, ◌≤◌, ◌<◌, min}
use mathlib.Core.Path.{◌≡◌, refl, ap, sym, ◌∙◌}
use mathlib.Core.Bool.{Bool, true, false, cond}
use mathlib.Core.List.{List, [], ◌++◌}
use mathlib.Core.Logic.{◌⊎◌, inl, inr}
use native.Mathlib.Nat.{add-zero, zero-add}
use native.Mathlib.Numerals.{add-one}
use native.Mathlib.Omega.{arith}
use borrow.Author.Tests.{lt-ltb, le-ltb, ltb-true, ltb-false, eq-eqb, ne_eqb}
use lib.Dec.{eqb, ltb}
use lib.ListN.{length, get_or, drop, take, replicate, length-append, drop_of_length-le}
use lib.Seq.{sets, sets-eq, take_at, drop-cons}
use Rattle.chars.specs.Words.{bytes, crlf}
use Rattle.chars.specs.Chars.{is_code}
use Rattle.clock.specs.Clock.{hhmm_of}
use Rattle.codes.specs.Codes.{short_text, long_text, spelled}
use Rattle.codes.specs.declared.Code.{Code}
use Rattle.text_put.specs.Digits.{digits_of}
use Rattle.text_put.proofs.Laws.{then, digits_length}
use Rattle.response_write.proofs.Laws.{short_length}
use Rattle.text_scan.specs.Scan.{ten}
use Rattle.request_write.specs.Orders.{fixed, width_on, width_of, blank, proper, name_text, four_text, numbers_text, time_text, amount_text, count_text, value_text, line_text, head_text, activation_text, terms_text, payment_of, payment_text, no_payable, payments_to, payments_text, message_text, order_text, Puts, Wrote}
use Rattle.request_write.specs.declared.Given.{Given}
use Rattle.request_write.specs.declared.Given.TheVariants.{Nothing, Name, SubType, Numbers, Date, Four, CreditSide, DebitSide, Amount, Count}
use Rattle.request_write.specs.declared.Payable.{Payable}
use Rattle.request_write.specs.declared.Side.{Side}
use Rattle.request_write.specs.declared.Side.TheVariants.{Credit, Debit}
use Rattle.request_write.specs.declared.Order.{Order}
use Rattle.request_read.specs.declared.terms.Activation.{Activation}
use Rattle.response_write.specs.Texts.{written, after}
use Rattle.text_fields.specs.declared.Break.{Break}
use Rattle.request_read.specs.whole.Request.{request_at}
use Rattle.request_read.specs.declared.whole.Reading.{Reading}
use Rattle.request_read.specs.declared.whole.Outcome.TheVariants.{Settlement, Recall, Refused}

-- ---- the width of a number

pub width_small : (f m : ℕ) → m < 10 → width_on f m ≡ 1
unfolding width_on
width_small zero m h = refl
width_small (suc f) m h = simp (lt-ltb m 10 h)

pub width_big : (f m : ℕ) (less : ℕ) → f ≡ suc less → 10 ≤ m → width_on f m ≡ suc (width_on less (m / 10))
unfolding width_on
width_big f m less e h = rw e (simp (le-ltb m 10 h))

pub width_none : (f m : ℕ) → f ≡ 0 → width_on f m ≡ 1
unfolding width_on
width_none f m e = rw e

-- a number of no more than i digits, by the number without its last digit
same_test : (a b : ℕ) → (t : Bool) → ltb (a / 10) b ≡ t → ltb a (10 * b) ≡ t
same_test a b true e = lt-ltb a (10 * b) (omega (arith, ltb-true (a / 10) b e))
same_test a b false e = le-ltb a (10 * b) (omega (arith, ltb-false (a / 10) b e))

pub fits_down : (v : ℕ) {i fewer : ℕ} → i ≡ suc fewer → ltb v (ten i) ≡ ltb (v / 10) (ten fewer)
fits_down v {fewer = fewer} e = rw e (same_test v (ten fewer) (ltb (v / 10) (ten fewer)) refl)

pub fits_none : (v i : ℕ) → i ≡ 0 → ltb v (ten i) ≡ eqb v 0
fits_none v i e = rw e (go v)
  where
    go : (v : ℕ) → ltb v 1 ≡ eqb v 0
    go zero = refl
    go (suc v) = le-ltb (suc v) 1 (omega arith) ∙ sym (ne_eqb (suc v) 0 (omega arith))

-- ---- codes

pub blank_on : (l : List ℕ) (i : ℕ) {b : ℕ} → i < length l → b ≡ get_or l i 0 → b ≡ 0 → blank (drop i l) ≡ blank (drop (i + 1) l)
unfolding blank
blank_on l i h p q = rw (drop-cons l i 0 h, ← p, q, add-one)

pub blank_stop : (l : List ℕ) (i : ℕ) {b : ℕ} → i < length l → b ≡ get_or l i 0 → (b ≡ 0 → ⊥) → false ≡ blank (drop i l)
unfolding blank
blank_stop l i h p q = rw (drop-cons l i 0 h, ← p) (simp (ne_eqb _ _ q))

pub blank_end : (l : List ℕ) (i : ℕ) → length l ≤ i → true ≡ blank (drop i l)
unfolding blank
blank_end l i h = rw (drop_of_length-le l h)

pub proper_on : (l : List ℕ) (i : ℕ) {b : ℕ} {t : Bool} → i < length l → b ≡ get_or l i 0 → t ≡ is_code b → t ≡ true → proper (drop i l) ≡ proper (drop (i + 1) l)
unfolding proper
proper_on l i {t = t} h p q r = rw (drop-cons l i 0 h, ← p, ← q, r, add-one)

pub proper_stop : (l : List ℕ) (i : ℕ) {b : ℕ} {t : Bool} → i < length l → b ≡ get_or l i 0 → t ≡ is_code b → t ≡ false → blank (drop i l) ≡ proper (drop i l)
unfolding proper
proper_stop l i {t = t} h p q r = rw (drop-cons l i 0 h, ← p, ← q, r)

pub proper_end : (l : List ℕ) (i : ℕ) → length l ≤ i → true ≡ proper (drop i l)
unfolding proper
proper_end l i h = rw (drop_of_length-le l h)

-- ---- texts one after another

pub nothing_put : (out : List ℕ) (at : ℕ) → Puts out at [] at out
nothing_put out at = record { past = simp add-zero; there = refl }

pub put_then : {out p o₁ q o₂ : List ℕ} {at a b : ℕ} → Puts out at p a o₁ → Puts o₁ a q b o₂ → Puts out at (p ++ q) b o₂
put_then {out = out} {p = p} {q = q} {at = at} {a = a} f g = record {
  past = simp length-append (omega (arith, f.past, g.past));
  there = then out p q at f.there g.there f.past;
}

-- ---- values

module _ (out : List ℕ) (at v : ℕ) where
  pub four_put : {o : List ℕ} → v < 4294967296 → o ≡ sets out at (short_text v) → Puts out at (four_text v) (at + 4) o
  unfolding four_text
  four_put h p = record { past = simp (lt-ltb v 4294967296 h, short_length); there = simp (lt-ltb v 4294967296 h) p }

  pub four_out : 4294967296 ≤ v → Puts out at (four_text v) at out
  unfolding four_text
  four_out h = rw (le-ltb v 4294967296 h) (nothing_put out at)

  pub time_put : {w : ℕ} {o : List ℕ} → v < 1440 → w ≡ hhmm_of v → o ≡ sets out at (digits_of 4 w) → Puts out at (time_text v) (at + 4) o
  unfolding time_text
  time_put h q p = record { past = simp (lt-ltb v 1440 h, digits_length); there = simp (lt-ltb v 1440 h, ← q) p }

  pub time_out : 1440 ≤ v → Puts out at (time_text v) at out
  unfolding time_text
  time_out h = rw (le-ltb v 1440 h) (nothing_put out at)

  pub count_put : {w : ℕ} {o : List ℕ} → v < 100 → w ≡ width_of v → o ≡ sets out at (digits_of w v) → Puts out at (count_text v) (at + w) o
  unfolding count_text
  count_put h q p = record { past = simp (lt-ltb v 100 h, digits_length, ← q); there = simp (lt-ltb v 100 h, ← q) p }

  pub count_out : 100 ≤ v → Puts out at (count_text v) at out
  unfolding count_text
  count_out h = rw (le-ltb v 100 h) (nothing_put out at)

  pub amount_out : 1000000000000 ≤ v → Puts out at (amount_text v) at out
  unfolding amount_text
  amount_out h = rw (le-ltb v 1000000000000 h) (nothing_put out at)

  pub number_put : (k : ℕ) {t : Bool} {o : List ℕ} → t ≡ ltb v (ten k) → t ≡ true → o ≡ sets out at (digits_of k v) → Puts out at (fixed k v) (at + k) o
  unfolding fixed
  number_put k e h p = let z : ltb v (ten k) ≡ true = sym e ∙ h in record { past = simp (z, digits_length); there = simp z p }

  pub number_out : (k : ℕ) {t : Bool} → t ≡ ltb v (ten k) → t ≡ false → Puts out at (fixed k v) at out
  unfolding fixed
  number_out k e h = let z : ltb v (ten k) ≡ false = sym e ∙ h in rw z (nothing_put out at)

module _ (out : List ℕ) (at : ℕ) (c : Code) {t : Bool} (e : t ≡ proper (spelled c)) where
  pub name_put : {n : ℕ} {o : List ℕ} → t ≡ true → o ≡ sets out at (long_text c) → n ≡ length (long_text c) → Puts out at (name_text c) (at + n) o
  unfolding name_text
  name_put h p q = let z : proper (spelled c) ≡ true = sym e ∙ h in record { past = simp (z, q); there = simp z p }

  pub name_out : t ≡ false → Puts out at (name_text c) at out
  unfolding name_text
  name_out h = let z : proper (spelled c) ≡ false = sym e ∙ h in rw z (nothing_put out at)

pub amount_put : (out : List ℕ) (at c : ℕ) {w : ℕ} {o₁ o₂ o₃ o₄ : List ℕ} → c < 1000000000000 → w ≡ width_of (c / 100)
    → o₁ ≡ sets out at (bytes "AUD") → o₂ ≡ sets o₁ (at + 3) (digits_of w (c / 100)) → o₃ ≡ sets o₂ (at + 3 + w) (bytes ",") → o₄ ≡ sets o₃ (at + 3 + w + 1) (digits_of 2 (c % 100))
    → Puts out at (amount_text c) (at + 3 + w + 3) o₄
unfolding amount_text
amount_put out at c {w = w} {o₁ = o₁} {o₂ = o₂} {o₃ = o₃} {o₄ = o₄} h e p q r s =
    rw (lt-ltb c 1000000000000 h, ← e)
    (let f : Puts out at (bytes "AUD") (at + 3) o₁ = record { past = refl; there = p } in
    let g : Puts o₁ (at + 3) (digits_of w (c / 100)) (at + 3 + w) o₂ = record { past = simp digits_length; there = q } in
    let i : Puts o₂ (at + 3 + w) (bytes ",") (at + 3 + w + 1) o₃ = record { past = refl; there = r } in
    let j : Puts o₃ (at + 3 + w + 1) (digits_of 2 (c % 100)) (at + 3 + w + 3) o₄ = record { past = simp digits_length (omega arith); there = s } in
    put_then f (put_then g (put_then i j)))

pub numbers_put : (n m : ℕ) {out o₁ o₂ o₃ : List ℕ} {at a b : ℕ} → Puts out at (fixed 2 n) a o₁ → o₂ ≡ sets o₁ a (bytes "/") → Puts o₂ (a + 1) (fixed 2 m) b o₃
    → Puts out at (numbers_text n m) b o₃
unfolding numbers_text
numbers_put n m {o₁ = o₁} {o₂ = o₂} {a = a} f p g =
    let i : Puts o₁ a (bytes "/") (a + 1) o₂ = record { past = refl; there = p } in
    put_then f (put_then i g)

pub line_put : (tag : List ℕ) (given : Given) {out o₁ o₂ o₃ : List ℕ} {at e : ℕ} → o₁ ≡ sets out at tag → Puts o₁ (at + length tag) (value_text given) e o₂ → o₃ ≡ sets o₂ e crlf
    → Puts out at (line_text tag given) (e + 2) o₃
unfolding line_text
line_put tag given {out = out} {o₁ = o₁} {o₂ = o₂} {o₃ = o₃} {at = at} {e = e} p f q =
    let g : Puts out at tag (at + length tag) o₁ = record { past = refl; there = p } in
    let i : Puts o₂ e crlf (e + 2) o₃ = record { past = refl; there = q } in
    put_then g (put_then f i)

-- ---- a whole text

pub by_given : {g h : Given} {out o : List ℕ} {at e : ℕ} → g ≡ h → Puts out at (value_text h) e o → Puts out at (value_text g) e o
by_given p f = rw p f

pub activation_put : {a b : Activation} {out o : List ℕ} {at e : ℕ} → a ≡ b → Puts out at (activation_text b) e o → Puts out at (activation_text a) e o
activation_put p f = rw p f

pub terms_put : (o : Order) {out o₁ o₂ o₃ : List ℕ} {at a b e : ℕ} → Puts out at (line_text (bytes ":16A:") (Numbers o.number o.count)) a o₁ → Puts o₁ a (line_text (bytes ":171:") (Date o.date)) b o₂
    → Puts o₂ b (activation_text o.activation) e o₃ → Puts out at (terms_text o) e o₃
unfolding terms_text
terms_put o f g h = put_then (put_then f g) h

module _ {out o₁ o₂ : List ℕ} {at a e : ℕ} (side : Side) (cents bank : ℕ) where
  pub credit_put : side ≡ Credit → Puts out at (line_text (bytes ":127:") CreditSide ++ line_text (bytes ":32B:") (Amount cents)) a o₁
      → Puts o₁ a (line_text (bytes ":102:") (Four bank)) e o₂ → Puts out at (payment_of side cents bank) e o₂
  unfolding payment_of
  credit_put q f g = rw q (put_then f g)

  pub debit_put : {letters : ℕ} → side ≡ Debit letters → Puts out at (line_text (bytes ":127:") DebitSide ++ line_text (bytes ":32B:") (Amount cents)) a o₁
      → Puts o₁ a (line_text (bytes ":113:") (Four letters) ++ line_text (bytes ":102:") (Four bank)) e o₂ → Puts out at (payment_of side cents bank) e o₂
  unfolding payment_of
  debit_put q f g = rw q (put_then f g)

fewest : (n : ℕ) → cond (ltb n 10) n 10 ≡ min n 10
fewest n = go (ltb n 10) refl
  where
    go : (t : Bool) → ltb n 10 ≡ t → cond t n 10 ≡ min n 10
    go true e = omega (arith, ltb-true n 10 e)
    go false e = omega (arith, ltb-false n 10 e)

-- where the loop of payments stands: i of them are written
pub record Paying (ps : List Payable) (n : ℕ) (first : List ℕ) (at : ℕ) (out : List ℕ) (i a : ℕ) : Type 0 where
  pub inside : i ≤ 10
  pub few : i ≤ n
  pub size : length out ≡ length first
  pub small : a ≤ at + 92 * i
  pub same : Puts first at (payments_to i ps) a out

pub paying_start : (ps : List Payable) (n : ℕ) (out : List ℕ) (at : ℕ) → Paying ps n out at out 0 at
unfolding payments_to
paying_start ps n out at = record { inside = omega arith; few = omega arith; size = refl; small = omega arith; same = nothing_put out at }

module _ {ps : List Payable} {n : ℕ} {first : List ℕ} {at : ℕ} {out : List ℕ} {i a : ℕ} (g : Paying ps n first at out i a) where
  pub paying_on : {o : List ℕ} {e : ℕ} → i < 10 → i < n → Puts out a (payment_text (get_or ps i no_payable)) e o → e ≤ a + 92 → length o ≡ length out → Paying ps n first at o (i + 1) e
  unfolding payments_to
  paying_on h k f s l = record {
    inside = omega arith;
    few = omega arith;
    size = l ∙ g.size;
    small = omega (arith, g.small);
    same = rw add-one (put_then g.same f);
  }

  pub paying_done : min n 10 ≤ i → Puts first at (payments_text n ps) a out × (a ≤ at + 920)
  unfolding payments_text
  paying_done h =
      let z : i ≡ min n 10 = omega (arith, g.inside, g.few) in
      (rw (fewest n, ← z) g.same, omega (arith, g.small, g.inside))

module _ (o : Order) where
  pub message_put : {out o₁ o₂ o₃ : List ℕ} {at a b e : ℕ} → Puts out at (terms_text o) a o₁ → Puts o₁ a (payments_text o.n o.payments) b o₂ → Puts o₂ b (line_text (bytes ":203:") (Count o.n)) e o₃
      → Puts out at (message_text o) e o₃
  unfolding message_text
  message_put f g h = put_then (put_then f g) h

  module _ {out o₁ o₂ : List ℕ} {at a b : ℕ} (f : Puts out at (line_text (bytes ":20:") (Name o.reference) ++ line_text (bytes ":12:") (SubType o.subtype)) a o₁)
      (g : Puts o₁ a ((line_text (bytes ":77E:") Nothing ++ line_text (bytes ":22A:") (Four o.stream)) ++ line_text (bytes ":119:") (Name o.bin)) b o₂) where
    pub settlement_put : {o₃ : List ℕ} {e : ℕ} → o.subtype ≡ 131 → Puts o₂ b (message_text o) e o₃ → Puts out at (order_text o) e o₃
    unfolding order_text head_text
    settlement_put q h = rw (eq-eqb o.subtype 131 q) (put_then (put_then f g) h)

    pub recall_put : (o.subtype ≡ 131 → ⊥) → Puts out at (order_text o) b o₂
    unfolding order_text head_text
    recall_put q = rw (ne_eqb o.subtype 131 q) (put_then (put_then f g) (nothing_put o₂ b))

-- the text that was made in the array
pub made : (text : List ℕ) {n : ℕ} {b : List ℕ} → Puts (replicate 2048 0) 0 text n b → n ≤ 1127 → take n b ≡ text
made text {n = n} {b = b} f h =
    let z : n ≡ length text = f.past ∙ zero-add _ in
    ap (take n) (f.there ∙ sets-eq text (replicate 2048 0) 0 (omega arith)) ∙ take_at text (drop (0 + length text) (replicate 2048 0)) n (sym z)

module _ (out : List ℕ) (at : ℕ) (o : Order) {t : List ℕ} {r : Reading} (m : t ≡ order_text o) (p : r ≡ request_at t) where
  pub order_refused : {b : Break} → r.outcome ≡ Refused b → Wrote out at o (Err b.refusal) out
  order_refused e =
      let z : (request_at (order_text o)).outcome ≡ r.outcome = rw (p, m) in
      record { answer = rw (z, e); result = rw (z, e) }

  module _ {w : Result ℕ Refusal} {l : List ℕ} (x : (w ≡ written out at t) × (l ≡ after out at t)) where
    pub accepted_written : (r.outcome ≡ Settlement) ⊎ (r.outcome ≡ Recall) → Wrote out at o w l
    accepted_written (inl e) =
        let z : (request_at (order_text o)).outcome ≡ r.outcome = rw (p, m) in
        record { answer = rw (z, e, ← m) x.0; result = rw (z, e, ← m) x.1 }
    accepted_written (inr e) =
        let z : (request_at (order_text o)).outcome ≡ r.outcome = rw (p, m) in
        record { answer = rw (z, e, ← m) x.0; result = rw (z, e, ← m) x.1 }
