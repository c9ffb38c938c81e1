-- What an administrator writes, if the reader accepts it, reads back as the same values.
use Rattle.std.specs.Prelude.{Some}
use Prim.Native.Nat.{ℕ, zero, suc, ◌+◌, ◌≤◌, ◌<◌}
use mathlib.Core.Path.{◌≡◌, refl, ap, sym, subst, ◌∙◌}
use mathlib.Core.Bool.{Bool, true, false, cond, false≢true}
use mathlib.Core.List.{List, [], ◌++◌, append_assoc, append-nil}
use mathlib.Core.Logic.{◌⊎◌, inl, inr}
use native.Mathlib.Nat.{add-zero, zero-add}
use native.Mathlib.Numerals.{add-one}
use native.Mathlib.Omega.{arith}
use borrow.Author.Tests.{eqb-true, eqb-false, eq-eqb}
use lib.Dec.{eqb, ltb}
use lib.ListN.{length, get_or}
use Rattle.chars.specs.Words.{bytes}
use Rattle.dates.specs.Dates.{day_of}
use Rattle.text_scan.specs.Scan.{begins}
use Rattle.text_scan.specs.Spelling.{value_of}
use Rattle.text_values.specs.Grammar.{IsTime}
use Rattle.text_fields.specs.Grammar.{Line}
use Rattle.request_read.specs.declared.terms.Activation.{Activation}
use Rattle.request_read.specs.declared.terms.Activation.TheVariants.{AtOnce, Minute}
use Rattle.request_read.specs.declared.payments.Payment.{Payment}
use Rattle.request_read.specs.whole.Request.{request_at}
use Rattle.request_read.specs.declared.whole.Outcome.TheVariants.{Settlement, Recall}
use Rattle.request_read.specs.declared.whole.Reading.{Reading}
use Rattle.thm_grammar.specs.Text.{PaymentsText, none_left, one_more, ActivationSays, PaymentsSay, BodySays}
use Rattle.thm_grammar.proofs.Payments.{payment_begins}
use Rattle.thm_grammar.proofs.Request.{settlement_says, recall_says, not_timed_many, not_more}
use Rattle.request_write.specs.Orders.{held, fixed, line_text, activation_text, terms_text, payment_of, payment_text, no_payable, payments_to, payments_text, message_text, order_text}
use Rattle.request_write.specs.declared.Given.TheVariants.{Numbers, Date, Time, Count}
use Rattle.request_write.specs.declared.Payable.{Payable}
use Rattle.request_write.specs.declared.Order.{Order}
use Rattle.request_write.specs.declared.Side.{Side}
use Rattle.request_write.specs.declared.Side.TheVariants.{Credit, Debit}
use Rattle.request_read.specs.payments.Payments.{no_payment}
use Rattle.thm_requests_back.specs.Values.{SamePayable, SameHead, SameValues, Typed}
use Rattle.thm_requests_back.proofs.Lines.{line_given, line_same}
use Rattle.thm_requests_back.proofs.Written.{fixed_digits, fixed_value, numbers_back, time_back, count_back}
use Rattle.thm_requests_back.proofs.Back.{digits_free, numbers_free, time_free, count_free, is_numbers_free, head_back, credit_opens, debit_opens, payment_back}

-- ---- the payments, from the first on

abbrev pub onward : ℕ → ℕ → List Payable → List ℕ
onward zero i ps = []
onward (suc k) i ps = payment_text (get_or ps i no_payable) ++ onward k (i + 1) ps

onward_is : (k i : ℕ) (ps : List Payable) → payments_to i ps ++ onward k i ps ≡ payments_to (i + k) ps
unfolding payments_to
onward_is zero i ps = append-nil (payments_to i ps) ∙ ap (λ (n : ℕ). payments_to n ps) (sym (add-zero i))
onward_is (suc k) i ps =
    let z : i + 1 + k ≡ i + suc k = omega arith in
    sym (append_assoc (payments_to i ps) (payment_text (get_or ps i no_payable)) (onward k (i + 1) ps))
    ∙ ap (λ (l : List ℕ). l ++ onward k (i + 1) ps) (ap (λ (n : ℕ). payments_to n ps) (sym (add-one i)))
    ∙ onward_is k (i + 1) ps
    ∙ ap (λ (n : ℕ). payments_to n ps) z

pub payments_are : (k : ℕ) (ps : List Payable) → payments_to k ps ≡ onward k 0 ps
unfolding payments_to
payments_are k ps = ap (λ (n : ℕ). payments_to n ps) (sym (zero-add k)) ∙ sym (onward_is k 0 ps)

-- a payment begins with 127
pub paid_tag : (side : Side) (cents bank : ℕ) (q : List ℕ) → (begins (bytes ":127:") (payment_of side cents bank ++ q) ≡ true) × (begins (bytes ":175:") (payment_of side cents bank ++ q) ≡ false)
unfolding begins
paid_tag Credit cents bank q = rw (credit_opens cents bank q, line_given) (refl, refl)
paid_tag (Debit letters) cents bank q = rw (debit_opens letters cents bank q, line_given) (refl, refl)

-- 203 is no payment and no activation
pub counted_tag : (n : ℕ) (q : List ℕ) → (begins (bytes ":127:") (line_text (bytes ":203:") (Count n) ++ q) ≡ false) × (begins (bytes ":175:") (line_text (bytes ":203:") (Count n) ++ q) ≡ false)
unfolding begins
counted_tag n q = rw line_given (refl, refl)

not_activation : (k i n : ℕ) (ps : List Payable) (q : List ℕ) → begins (bytes ":175:") (onward k i ps ++ (line_text (bytes ":203:") (Count n) ++ q)) ≡ false
not_activation zero i n ps q = (counted_tag n q).1
not_activation (suc k) i n ps q =
    let p = get_or ps i no_payable in
    let t = onward k (i + 1) ps in
    let w = line_text (bytes ":203:") (Count n) ++ q in
    ap (begins (bytes ":175:")) (append_assoc (payment_text p) t w) ∙ (paid_tag p.side p.cents p.bank (t ++ w)).1

contrary : {A : Type 0} {b : Bool} → b ≡ true → b ≡ false → A
contrary p q = absurd (false≢true (sym q ∙ p))

-- ---- as many payments as were given, each the same

pub record SamePayments (k many i : ℕ) (ps : List Payable) (items : List Payment) (r q : List ℕ) : Type 0 where
  pub many_are : many ≡ k
  pub rest : r ≡ q
  pub same : (j : ℕ) → i ≤ j → j < i + k → SamePayable (get_or ps j no_payable) (get_or items j no_payment)

payments_back : (k i : ℕ) {many : ℕ} {l r : List ℕ} (g : PaymentsText many l r) (ps : List Payable) (items : List Payment) (q : List ℕ) → l ≡ onward k i ps ++ q → begins (bytes ":127:") q ≡ false → begins (bytes ":127:") r ≡ false → PaymentsSay i g items → SamePayments k many i ps items r q
payments_back zero i none_left ps items q e a b h = record { many_are = refl; rest = e; same = λ j m n. absurd (omega arith) }
payments_back zero i (one_more p g) ps items q e a b h = contrary (payment_begins p) (ap (begins (bytes ":127:")) e ∙ a)
payments_back (suc k) i none_left ps items q e a b h =
    let p = get_or ps i no_payable in
    let t = onward k (i + 1) ps in
    contrary (ap (begins (bytes ":127:")) (e ∙ append_assoc (payment_text p) t q) ∙ (paid_tag p.side p.cents p.bank (t ++ q)).0) b
payments_back (suc k) i (one_more p g) ps items q e a b h =
    let x = get_or ps i no_payable in
    let t = onward k (i + 1) ps in
    let f = payment_back x.side x.cents x.bank p (t ++ q) (e ∙ append_assoc (payment_text x) t q) h.0 in
    let w = payments_back k (i + 1) g ps items q f.1 a b h.1 in
    record { many_are = ap suc w.many_are; rest = w.rest; same = λ j m n. go j m n f.0 (w.same j) (eqb j i) refl }
  where
    go : (j : ℕ) → i ≤ j → j < i + suc k → SamePayable (get_or ps i no_payable) (get_or items i no_payment) → (i + 1 ≤ j → j < i + 1 + k → SamePayable (get_or ps j no_payable) (get_or items j no_payment)) → (c : Bool) → eqb j i ≡ c → SamePayable (get_or ps j no_payable) (get_or items j no_payment)
    go j m n here later true c = subst (λ (n : ℕ). SamePayable (get_or ps n no_payable) (get_or items n no_payment)) (sym (eqb-true j i c)) here
    go j m n here later false c = later (omega (arith, eqb-false j i c)) (omega arith)

-- ---- the activation

activation_tag : {l r : List ℕ} → Line (bytes ":175:") IsTime l r → begins (bytes ":175:") l ≡ true
unfolding begins
activation_tag g = rw g.text

timed_tag : (m : ℕ) (q : List ℕ) → begins (bytes ":175:") (line_text (bytes ":175:") (Time m) ++ q) ≡ true
unfolding begins
timed_tag m q = rw line_given

activation_back : (a : Activation) {l r : List ℕ} (g : (l ≡ r) ⊎ Line (bytes ":175:") IsTime l r) (m : Activation) (q : List ℕ) → l ≡ activation_text a ++ q → begins (bytes ":175:") q ≡ false → begins (bytes ":175:") r ≡ false → ActivationSays g m → (m ≡ a) × (r ≡ q)
activation_back AtOnce (inl e) m q h u v says = (says, sym e ∙ h)
activation_back AtOnce (inr g) m q h u v says = contrary (activation_tag g) (ap (begins (bytes ":175:")) h ∙ u)
activation_back (Minute k) (inl e) m q h u v says = contrary (ap (begins (bytes ":175:")) (sym e ∙ h) ∙ timed_tag k q) v
activation_back (Minute k) (inr g) m q h u v says =
    let a = line_same (bytes ":175:") g (Time k) q h (digits_free g.value g.is.four.all) (time_free k) in
    (says ∙ ap Minute (time_back k g.is a.0), a.1)

-- ---- what follows 119

-- the order has ten places
abbrev pub places : ℕ → ℕ
places n = cond (ltb n 10) n 10

pub message_opens : (o : Order) → message_text o ≡ line_text (bytes ":16A:") (Numbers o.number o.count) ++ (line_text (bytes ":171:") (Date o.date) ++ (activation_text o.activation ++ (onward (places o.n) 0 o.payments ++ (line_text (bytes ":203:") (Count o.n) ++ []))))
unfolding message_text terms_text payments_text
message_opens o =
    let f = line_text (bytes ":203:") (Count o.n) in
    ap (λ (l : List ℕ). (((line_text (bytes ":16A:") (Numbers o.number o.count) ++ line_text (bytes ":171:") (Date o.date)) ++ activation_text o.activation) ++ l) ++ f) (payments_are (places o.n) o.payments)
    ∙ simp (append_assoc, append-nil {A = ℕ})

body_back : (o : Order) {l : List ℕ} {r : Reading} → SameHead o r.head → l ≡ message_text o → BodySays l r → SameValues o r
body_back o {r = r} head e b =
    let t = b.text in
    let q₅ = line_text (bytes ":203:") (Count o.n) ++ [] in
    let q₄ = onward (places o.n) 0 o.payments ++ q₅ in
    let q₃ = activation_text o.activation ++ q₄ in
    let q₂ = line_text (bytes ":171:") (Date o.date) ++ q₃ in
    let a = line_same (bytes ":16A:") t.numbers (Numbers o.number o.count) q₂ (e ∙ message_opens o) (is_numbers_free t.numbers.is) (numbers_free o.number o.count) in
    let c = line_same (bytes ":171:") t.date (Date o.date) q₃ a.1 (digits_free t.date.value t.date.is.six.all) (digits_free (fixed 6 o.date) (fixed_digits 6 o.date)) in
    let d = activation_back o.activation t.activation r.terms.activation q₄ c.1 (not_activation (places o.n) 0 o.n o.payments []) (not_timed_many t.least t.payments) b.activation in
    let w = payments_back (places o.n) 0 t.payments o.payments r.payments q₅ d.1 (counted_tag o.n []).0 (not_more t.count) b.payments in
    let f = line_same (bytes ":203:") t.count (Count o.n) [] w.rest (digits_free t.count.value t.count.is.digits) (count_free o.n) in
    let nn = numbers_back o.number o.count t.numbers.is a.0 in
    let day : value_of 0 t.date.value ≡ o.date = ap (value_of 0) c.0 ∙ fixed_value 6 o.date (omega (arith, ap length c.0, t.date.is.six.size)) in
    let many : t.many ≡ o.n = sym t.count.is.is ∙ ap (value_of 0) f.0 ∙ count_back o.n (omega (arith, ap length f.0, t.count.is.some)) in
    record {
      head = head;
      number = b.number ∙ nn.0;
      count = b.count ∙ nn.1;
      date = ap day_of (sym day) ∙ t.date.is.true_date ∙ ap Some (sym b.date);
      activation = d.0;
      n = b.n ∙ many;
      payments = λ i h. w.same i (omega arith) (omega (arith, h, many, w.many_are));
    }

-- ---- the theorems

-- the values of a settlement request that is written and accepted are those that were given
pub reads_back : (o : Order) → Typed o → (request_at (order_text o)).outcome ≡ Settlement → SameValues o (request_at (order_text o))
unfolding order_text
reads_back o typed h =
    let g = settlement_says (order_text o) h in
    let k = head_back o typed {q = held (eqb o.subtype 131) (message_text o)} refl g.head in
    let z : o.subtype ≡ 131 = sym k.0.subtype ∙ g.head.subtype in
    body_back o k.0 (k.1 ∙ ap (λ (b : Bool). held b (message_text o)) (eq-eqb o.subtype 131 z)) g.body

-- and of a recall
pub recall_reads_back : (o : Order) → Typed o → (request_at (order_text o)).outcome ≡ Recall → SameHead o (request_at (order_text o)).head
unfolding order_text
recall_reads_back o typed h = (head_back o typed {q = held (eqb o.subtype 131) (message_text o)} refl (recall_says (order_text o) h)).0
