-- What is written reads back: the lines of a text that was written and accepted say what was given.
use Prim.Native.Nat.{ℕ, ◌/◌, ◌%◌}
use mathlib.Core.Path.{◌≡◌, refl, ap, sym, subst, ◌∙◌}
use mathlib.Core.Bool.{Bool, true, false, not}
use mathlib.Core.List.{List, [], ◌∷◌, ◌++◌, append_assoc}
use native.Mathlib.Omega.{arith}
use borrow.Author.Tests.{ltb-true, ltb-false}
use lib.Dec.{eqb, ltb}
use lib.ListN.{length, get_or}
use Rattle.chars.specs.Words.{bytes}
use Rattle.chars.specs.Chars.{is_code, is_letter, is_digit}
use Rattle.codes.specs.Codes.{packed, long_of}
use Rattle.text_put.specs.Digits.{digits_of}
use Rattle.response_read.proofs.Digits.{all_append, cr_no_code, digits_all}
use Rattle.text_scan.specs.Spelling.{All, value_of}
use Rattle.text_values.specs.Letters.{is_status, is_fourth}
use Rattle.text_values.specs.Grammar.{IsNumbers, IsAmount, IsLetters}
use Rattle.text_fields.specs.Grammar.{Line}
use Rattle.request_read.specs.declared.payments.Payment.{Payment}
use Rattle.request_read.specs.declared.whole.Head.{Head}
use Rattle.thm_grammar.specs.Text.{PaymentText, credit, debit, HeadSays, PaymentSays}
use Rattle.thm_grammar.proofs.Values.{bin_codes}
use Rattle.request_write.specs.Orders.{fixed, width_of, name_text, numbers_text, time_text, amount_text, count_text, line_text, head_text, payment_of}
use Rattle.request_write.specs.declared.Given.TheVariants.{Nothing, Name, SubType, Four, CreditSide, DebitSide, Amount}
use Rattle.request_write.specs.declared.Order.{Order}
use Rattle.request_write.specs.declared.Side.{Side}
use Rattle.request_write.specs.declared.Side.TheVariants.{Credit, Debit}
use Rattle.thm_requests_back.specs.Values.{SamePayment, SameHead, Typed}
use Rattle.thm_requests_back.proofs.Lines.{Free, class_free, line_same, line_same_size}
use Rattle.thm_requests_back.proofs.Written.{held_all, fixed_digits, fixed_value, name_codes, name_back, four_is, four_word, four_size, four_out, cr_no_digit, amount_back}

-- ---- no value has a CR

abbrev NotCr : ℕ → Bool
NotCr y = not (eqb y 13)

pub digits_free : (l : List ℕ) → All is_digit l → Free 13 l
digits_free l a = class_free is_digit 13 cr_no_digit l a

codes_free : (l : List ℕ) → All is_code l → Free 13 l
codes_free l a = class_free is_code 13 cr_no_code l a

parted_free : (x : ℕ) (a b : List ℕ) → not (eqb x 13) ≡ true → All is_digit a → All is_digit b → Free 13 (a ++ (x ∷ b))
parted_free x a b n p q = all_append NotCr a (x ∷ b) (digits_free a p) (n, digits_free b q)

pub numbers_free : (n m : ℕ) → Free 13 (numbers_text n m)
unfolding numbers_text
numbers_free n m = parted_free 47 (fixed 2 n) (fixed 2 m) refl (fixed_digits 2 n) (fixed_digits 2 m)

pub time_free : (m : ℕ) → Free 13 (time_text m)
unfolding time_text
time_free m = digits_free (time_text m) (held_all is_digit (ltb m 1440) _ (λ e. digits_all 4 _))

amount_free : (c : ℕ) → Free 13 (amount_text c)
unfolding amount_text
amount_free c =
    let n = c / 100 in
    held_all NotCr (ltb c 1000000000000) (bytes "AUD" ++ (digits_of (width_of n) n ++ (bytes "," ++ digits_of 2 (c % 100))))
    (λ e. (refl, (refl, (refl, parted_free 44 (digits_of (width_of n) n) (digits_of 2 (c % 100)) refl (digits_all (width_of n) n) (digits_all 2 (c % 100))))))

pub count_free : (n : ℕ) → Free 13 (count_text n)
unfolding count_text
count_free n = digits_free (count_text n) (held_all is_digit (ltb n 100) _ (λ e. digits_all _ _))

pub is_numbers_free : {v : List ℕ} → IsNumbers v → Free 13 v
is_numbers_free g = subst (Free 13) (sym g.is) (parted_free 47 g.number g.count refl g.two.all g.too.all)

is_amount_free : {v : List ℕ} → IsAmount v → Free 13 v
is_amount_free g = subst (Free 13) (sym g.is) (refl, (refl, (refl, parted_free 44 g.whole g.part refl g.digits g.too)))

status_free : (x : ℕ) → is_status x ≡ true → not (eqb x 13) ≡ true
unfolding is_status
status_free x h = (class_free is_status 13 refl (x ∷ []) (h, tt)).0

fourth_free : (x : ℕ) → is_fourth x ≡ true → not (eqb x 13) ≡ true
unfolding is_fourth is_letter
fourth_free x h = (class_free is_fourth 13 refl (x ∷ []) (h, tt)).0

is_letters_free : {v : List ℕ} → IsLetters v → Free 13 v
is_letters_free g = subst (Free 13) (sym g.is) (status_free g.esa g.first, (status_free g.credit g.second, (status_free g.cash g.third, (fourth_free g.unused g.fourth, tt))))

-- ---- a line of four characters

module _ (tag : List ℕ) {P : List ℕ → Type 0} {l r : List ℕ} (g : Line tag P l r) (v : ℕ) (q : List ℕ) (h : l ≡ line_text tag (Four v) ++ q) where
  four_same : length g.value ≡ 4 → Free 13 g.value → (packed 4 g.value ≡ v) × (r ≡ q)
  four_same size a = go (ltb v 4294967296) refl
    where
      go : (b : Bool) → ltb v 4294967296 ≡ b → (packed 4 g.value ≡ v) × (r ≡ q)
      go true e =
          let m = ltb-true v 4294967296 e in
          let z = four_is v m in
          let i = line_same_size tag g (Four v) q h (size ∙ sym (four_size v) ∙ ap length (sym z)) in
          (ap (packed 4) (i.0 ∙ z) ∙ four_word v m, i.1)
      go false e =
          let z = four_out v (ltb-false v 4294967296 e) in
          let i = line_same tag g (Four v) q h a (subst (Free 13) (sym z) tt) in
          absurd (omega (arith, size, ap length (i.0 ∙ z)))

-- ---- the head

pub head_opens : (o : Order) (q : List ℕ) → head_text o ++ q ≡ line_text (bytes ":20:") (Name o.reference) ++ (line_text (bytes ":12:") (SubType o.subtype) ++ (line_text (bytes ":77E:") Nothing ++ (line_text (bytes ":22A:") (Four o.stream) ++ (line_text (bytes ":119:") (Name o.bin) ++ q))))
unfolding head_text
head_opens o q = simp append_assoc

pub head_back : (o : Order) → Typed o → {kind : ℕ} {s r q : List ℕ} {h : Head} → s ≡ head_text o ++ q → HeadSays kind s r h → SameHead o h × (r ≡ q)
head_back o typed {q = q} {h = h} e g =
    let t = g.text in
    let q₅ = line_text (bytes ":119:") (Name o.bin) ++ q in
    let q₄ = line_text (bytes ":22A:") (Four o.stream) ++ q₅ in
    let q₃ = line_text (bytes ":77E:") Nothing ++ q₄ in
    let q₂ = line_text (bytes ":12:") (SubType o.subtype) ++ q₃ in
    let a = line_same (bytes ":20:") t.reference (Name o.reference) q₂ (e ∙ head_opens o q) (codes_free t.reference.value t.reference.is.all) (codes_free (name_text o.reference) (name_codes o.reference)) in
    let b = line_same (bytes ":12:") t.three_digits (SubType o.subtype) q₃ a.1 (digits_free t.three_digits.value t.three_digits.is.0.all) (digits_free (fixed 3 o.subtype) (fixed_digits 3 o.subtype)) in
    let c = line_same_size (bytes ":77E:") t.empty Nothing q₄ b.1 (ap length t.empty.is) in
    let d = four_same (bytes ":22A:") t.stream o.stream q₅ c.1 t.stream.is.size (codes_free t.stream.value t.stream.is.all) in
    let k = bin_codes t.stream.is t.bin.is in
    let f = line_same (bytes ":119:") t.bin (Name o.bin) q d.1 (codes_free t.bin.value k.1) (codes_free (name_text o.bin) (name_codes o.bin)) in (
      record {
        reference = g.reference ∙ ap long_of a.0 ∙ name_back o.reference typed.reference (omega (arith, ap length a.0, t.reference.is.some));
        subtype = g.subtype ∙ sym t.three_digits.is.1 ∙ ap (value_of 0) b.0 ∙ fixed_value 3 o.subtype (omega (arith, ap length b.0, t.three_digits.is.0.size));
        stream = g.stream ∙ d.0;
        bin = g.bin ∙ ap long_of f.0 ∙ name_back o.bin typed.bin (omega (arith, ap length f.0, k.0));
      },
      f.1,
    )

-- ---- a payment

pub credit_opens : (cents bank : ℕ) (q : List ℕ) → payment_of Credit cents bank ++ q ≡ line_text (bytes ":127:") CreditSide ++ (line_text (bytes ":32B:") (Amount cents) ++ (line_text (bytes ":102:") (Four bank) ++ q))
unfolding payment_of
credit_opens cents bank q = simp append_assoc

pub debit_opens : (letters cents bank : ℕ) (q : List ℕ) → payment_of (Debit letters) cents bank ++ q ≡ line_text (bytes ":127:") DebitSide ++ (line_text (bytes ":32B:") (Amount cents) ++ (line_text (bytes ":113:") (Four letters) ++ (line_text (bytes ":102:") (Four bank) ++ q)))
unfolding payment_of
debit_opens letters cents bank q = simp append_assoc

other_side : {A : Type 0} {v : List ℕ} → v ≡ bytes "CR" → v ≡ bytes "DR" → A
other_side p q = let z : ◌≡◌ {A = ℕ} 67 68 = ap (λ (l : List ℕ). get_or l 0 0) (sym p ∙ q) in absurd (omega (arith, z))

cr_free : {v : List ℕ} → v ≡ bytes "CR" → Free 13 v
cr_free e = subst (Free 13) (sym e) (refl, (refl, tt))

dr_free : {v : List ℕ} → v ≡ bytes "DR" → Free 13 v
dr_free e = subst (Free 13) (sym e) (refl, (refl, tt))

pub payment_back : (side : Side) (cents bank : ℕ) {l r : List ℕ} (g : PaymentText l r) (q : List ℕ) {p : Payment} → l ≡ payment_of side cents bank ++ q → PaymentSays g p → SamePayment side cents bank p × (r ≡ q)
payment_back Credit cents bank (credit g₁ g₂ g₃) q e h =
    let q₃ = line_text (bytes ":102:") (Four bank) ++ q in
    let a = line_same (bytes ":127:") g₁ CreditSide (line_text (bytes ":32B:") (Amount cents) ++ q₃) (e ∙ credit_opens cents bank q) (cr_free g₁.is) (refl, (refl, tt)) in
    let b = line_same (bytes ":32B:") g₂ (Amount cents) q₃ a.1 (is_amount_free g₂.is) (amount_free cents) in
    let c = four_same (bytes ":102:") g₃ bank q b.1 g₃.is.size (codes_free g₃.value g₃.is.all) in
    (record { same_side = (h.side_is, h.letters_are); same_cents = h.cents_are ∙ amount_back cents g₂.is b.0; same_bank = h.bank_is ∙ c.0 }, c.1)
payment_back Credit cents bank (debit g₁ g₂ g₃ g₄) q e h =
    let a = line_same (bytes ":127:") g₁ CreditSide (line_text (bytes ":32B:") (Amount cents) ++ (line_text (bytes ":102:") (Four bank) ++ q)) (e ∙ credit_opens cents bank q) (dr_free g₁.is) (refl, (refl, tt)) in
    other_side a.0 g₁.is
payment_back (Debit letters) cents bank (credit g₁ g₂ g₃) q e h =
    let a = line_same (bytes ":127:") g₁ DebitSide (line_text (bytes ":32B:") (Amount cents) ++ (line_text (bytes ":113:") (Four letters) ++ (line_text (bytes ":102:") (Four bank) ++ q))) (e ∙ debit_opens letters cents bank q) (cr_free g₁.is) (refl, (refl, tt)) in
    other_side g₁.is a.0
payment_back (Debit letters) cents bank (debit g₁ g₂ g₃ g₄) q e h =
    let q₄ = line_text (bytes ":102:") (Four bank) ++ q in
    let q₃ = line_text (bytes ":113:") (Four letters) ++ q₄ in
    let a = line_same (bytes ":127:") g₁ DebitSide (line_text (bytes ":32B:") (Amount cents) ++ q₃) (e ∙ debit_opens letters cents bank q) (dr_free g₁.is) (refl, (refl, tt)) in
    let b = line_same (bytes ":32B:") g₂ (Amount cents) q₃ a.1 (is_amount_free g₂.is) (amount_free cents) in
    let c = four_same (bytes ":113:") g₃ letters q₄ b.1 (ap length g₃.is.is) (is_letters_free g₃.is) in
    let d = four_same (bytes ":102:") g₄ bank q c.1 g₄.is.size (codes_free g₄.value g₄.is.all) in
    (record { same_side = (h.side_is, h.letters_are ∙ c.0); same_cents = h.cents_are ∙ amount_back cents g₂.is b.0; same_bank = h.bank_is ∙ d.0 }, d.1)
