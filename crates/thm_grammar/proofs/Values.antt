-- What an accepted request gives: each value is one that document 01's table allows.
use Prim.Native.Nat.{ℕ, zero, suc, ◌+◌, ◌*◌, ◌^◌, ◌≤◌, ◌<◌}
use mathlib.Core.Path.{◌≡◌, refl, ap, sym, subst, ◌∙◌}
use mathlib.Core.List.{List, [], ◌∷◌}
use mathlib.Core.Bool.{Bool, true, false, cond, ◌||◌, false≢true}
use mathlib.Core.Logic.{◌⊎◌, inl, inr}
use native.Mathlib.Nat.{add-zero, add-suc, suc-add}
use native.Mathlib.Omega.{arith}
use borrow.Author.Tests.{eqb-true, eqb-false}
use lib.Dec.{eqb}
use lib.ListN.{length, get_or, length-append}
use Rattle.chars.specs.Words.{bytes, member}
use Rattle.chars.specs.Chars.{is_code, is_letter, is_digit}
use Rattle.chars.proofs.Laws.{range_high}
use Rattle.clock.proofs.Laws.{minute_back}
use Rattle.codes.specs.Codes.{pack_on, packed, long_of, short_text, long_text, Bytes}
use Rattle.codes.specs.declared.Code.{Code}
use Rattle.codes.proofs.Laws.{pow_up, long_text_lem, short_text_lem}
use Rattle.dates.proofs.Laws.{day_back}
use Rattle.response_read.proofs.Digits.{all_append, value_small, digits_codes, code_bytes, code_no_zero}
use Rattle.text_scan.specs.Scan.{ten}
use Rattle.text_scan.proofs.Laws.{ten_mono}
use Rattle.text_scan.specs.Spelling.{All, value_of}
use Rattle.text_values.specs.Letters.{is_status, is_fourth}
use Rattle.text_values.specs.Grammar.{IsWord, IsBin, IsTime, IsAmount, IsLetters, hundredths_in, cents_in}
use Rattle.text_fields.specs.Grammar.{Line}
use Rattle.request_read.specs.declared.terms.Activation.{Activation}
use Rattle.request_read.specs.payments.Payments.{no_payment}
use Rattle.request_read.specs.declared.payments.Payment.{Payment}
use Rattle.request_read.specs.whole.Request.{request_at}
use Rattle.request_read.specs.declared.whole.Head.{Head}
use Rattle.request_read.specs.declared.whole.Outcome.TheVariants.{Settlement, Recall}
use Rattle.request_read.specs.declared.whole.Reading.{Reading}
use Rattle.thm_grammar.specs.Values.{Spells, SpellsFour, GivenFour, GivesHead, GivesPayment, InDay, GivesSettlement, GivesRecall}
use Rattle.thm_grammar.proofs.Meanings.{numbered_range}
use Rattle.thm_grammar.specs.Text.{PaymentText, credit, debit, PaymentsText, none_left, one_more, ActivationSays, PaymentSays, PaymentsSay, HeadSays, SettlementSays}
use Rattle.thm_grammar.proofs.Request.{settlement_says, recall_says}

-- ---- characters and their codes

pub pack_below : (w i v : ℕ) (l : List ℕ) → Bytes l → v < 256 ^ i → pack_on w v l < 256 ^ (i + w)
unfolding pack_on
pack_below zero i v l b h = rw add-zero h
pack_below (suc w) i v [] b h = rw (add-suc, ← suc-add) (pack_below w (suc i) (v * 256) [] tt (rw add-zero at (pow_up i v 0 h (omega arith))))
pack_below (suc w) i v (x ∷ l) b h = rw (add-suc, ← suc-add) (pack_below w (suc i) (v * 256 + x) l b.1 (pow_up i v x h b.0))

pub spells_four : (v : List ℕ) → length v ≡ 4 → Bytes v → {n : ℕ} → n ≡ packed 4 v → SpellsFour v n
spells_four v e b h = record { word = h; small = rw h (pack_below 4 0 0 v b (omega arith)); text = ap short_text h ∙ short_text_lem v e b }

pub spells : (v : List ℕ) → length v ≤ 16 → All is_code v → {c : Code} → c ≡ long_of v → Spells v c
spells v m a h = record { code = h; text = ap long_text h ∙ long_text_lem v m (code_bytes v a) (code_no_zero v a) }

pub bin_codes : {w v : List ℕ} → IsWord 4 w → IsBin w v → (length v ≡ 8) × All is_code v
bin_codes {w} {v} g b =
    (ap length b.is ∙ simp length-append (omega (arith, g.size, b.four.size)), subst (All is_code) (sym b.is) (all_append is_code w b.digits g.all (digits_codes b.digits b.four.all)))

key_byte : (ks : List ℕ) (x : ℕ) → Bytes ks → member x ks ≡ true → x < 256
key_byte [] x b h = absurd (false≢true h)
key_byte (k ∷ ks) x b h = go (eqb x k) refl h (key_byte ks x b.1)
  where
    go : (t : Bool) → eqb x k ≡ t → (t || member x ks) ≡ true → (member x ks ≡ true → x < 256) → x < 256
    go true e h f = omega (arith, eqb-true x k e, b.0)
    go false e h f = f h

status_byte : (x : ℕ) → is_status x ≡ true → x < 256
unfolding is_status
status_byte x h = key_byte (bytes " ADP") x (omega arith, (omega arith, (omega arith, (omega arith, tt)))) h

fourth_byte : (x : ℕ) → is_fourth x ≡ true → x < 256
unfolding is_fourth is_letter
fourth_byte x h = go (eqb x 32) refl h
  where
    go : (t : Bool) → eqb x 32 ≡ t → (t || is_letter x) ≡ true → x < 256
    go true e h = omega (arith, eqb-true x 32 e)
    go false e h = omega (arith, range_high 65 90 x h)

pub letters_bytes : {v : List ℕ} → IsLetters v → Bytes v
letters_bytes g = subst Bytes (sym g.is) (status_byte g.esa g.first, (status_byte g.credit g.second, (status_byte g.cash g.third, (fourth_byte g.unused g.fourth, tt))))

-- ---- amounts

hundredths_small : (part : List ℕ) → length part ≤ 2 → All is_digit part → hundredths_in part ≤ 99
hundredths_small part m a = go (eqb (length part) 1) refl
  where
    go : (t : Bool) → eqb (length part) 1 ≡ t → cond t (value_of 0 part * 10) (value_of 0 part) ≤ 99
    go true e =
        let h : value_of 0 part < ten 1 = subst (λ (n : ℕ). value_of 0 part < ten n) (eqb-true (length part) 1 e) (value_small part a) in
        omega (arith, h)
    go false e = omega (arith, value_small part a, ten_mono (length part) 2 m)

-- "`9999999999,99` is 999,999,999,999"
pub cents_small : {v : List ℕ} (g : IsAmount v) → cents_in g ≤ 999999999999
cents_small g =
    let a = value_of 0 g.whole in
    let b : a < ten 10 = omega (arith, value_small g.whole g.digits, ten_mono (length g.whole) 10 g.most) in
    omega (arith, b, hundredths_small g.part g.short g.too)

-- ---- the parts of a request

abbrev four_given : {l r : List ℕ} {tag : List ℕ} (g : Line tag (IsWord 4) l r) {n : ℕ} → n ≡ packed 4 g.value → GivenFour n
four_given g h = record { value = g.value; is = g.is; spells = spells_four g.value g.is.size (code_bytes g.value g.is.all) h }

head_given : {kind : ℕ} {s r : List ℕ} {h : Head} → HeadSays kind s r h → GivesHead h
head_given g =
    let v = g.text.reference.value in
    let i = g.text.reference.is in
    let b = bin_codes g.text.stream.is g.text.bin.is in
    record {
      reference = record { value = v; is = i; spells = spells v i.most i.all g.reference };
      stream = four_given g.text.stream g.stream;
      bin = record { value = g.text.bin.value; is = g.text.bin.is; spells = spells g.text.bin.value (omega (arith, b.0)) b.1 g.bin };
    }

payment_given : {l r : List ℕ} (g : PaymentText l r) {p : Payment} → PaymentSays g p → GivesPayment p
payment_given (credit g₁ g₂ g₃) h = record { side = inl (h.side_is, h.letters_are); money = rw h.cents_are (cents_small g₂.is); bank = four_given g₃ h.bank_is }
payment_given (debit g₁ g₂ g₃ g₄) h = record {
  side = inr (h.side_is, record { value = g₃.value; is = g₃.is; spells = spells_four g₃.value (ap length g₃.is.is) (letters_bytes g₃.is) h.letters_are });
  money = rw h.cents_are (cents_small g₂.is);
  bank = four_given g₄ h.bank_is;
}

payments_given : {k : ℕ} {l r : List ℕ} (n : ℕ) (g : PaymentsText k l r) (items : List Payment) → PaymentsSay n g items → (i : ℕ) → n ≤ i → i < n + k → GivesPayment (get_or items i no_payment)
payments_given n none_left items h i a b = absurd (omega arith)
payments_given n (one_more {k = k} p q) items h i a b = go (eqb i n) refl (payments_given (n + 1) q items h.1 i)
  where
    go : (t : Bool) → eqb i n ≡ t → (n + 1 ≤ i → i < n + 1 + k → GivesPayment (get_or items i no_payment)) → GivesPayment (get_or items i no_payment)
    go true e f = rw (eqb-true i n e) (payment_given p h.0)
    go false e f = f (omega (arith, eqb-false i n e)) (omega arith)

minute_given : {l r : List ℕ} (g : (l ≡ r) ⊎ Line (bytes ":175:") IsTime l r) (m : Activation) → ActivationSays g m → InDay m
minute_given (inl e) m h = subst InDay (sym h) tt
minute_given (inr g) m h = subst InDay (sym h) (minute_back (value_of 0 g.value) g.is.minute g.is.true_time).1

pub settlement_given : {s : List ℕ} {r : Reading} → SettlementSays s r → GivesSettlement r
settlement_given {s} {r} g =
    let b = g.body in
    let t = b.text in
    let k = numbered_range (value_of 0 t.numbers.is.number) (value_of 0 t.numbers.is.count) t.numbers.is.range in
    record {
      head = head_given g.head;
      subtype = g.head.subtype;
      first = rw b.number k.0;
      number = rw (b.number, b.count) k.1;
      count = rw b.count k.2;
      day = rw b.date (day_back (value_of 0 t.date.value) t.date.is.day t.date.is.true_date).1;
      minute = minute_given t.activation r.terms.activation b.activation;
      some = rw b.n t.least;
      few = rw b.n t.most;
      places = b.size;
      payments = λ i h. payments_given 0 t.payments r.payments b.payments i (omega arith) (omega (arith, h, b.n));
    }

-- each value of an accepted request is one that the table allows
pub settlement_gives : (s : List ℕ) → (request_at s).outcome ≡ Settlement → GivesSettlement (request_at s)
settlement_gives s h = settlement_given (settlement_says s h)

pub recall_gives : (s : List ℕ) → (request_at s).outcome ≡ Recall → GivesRecall (request_at s)
recall_gives s h = let g = recall_says s h in record { head = head_given g; subtype = g.subtype }
