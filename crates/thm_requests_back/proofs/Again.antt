-- An accepted request that is read and written again reads as the same request.
use Rattle.std.specs.Prelude.{Some}
use Prim.Native.Nat.{ℕ, zero, suc, ◌+◌, ◌≤◌, ◌<◌}
use mathlib.Core.Path.{◌≡◌, refl, sym, subst, ◌∙◌}
use mathlib.Core.Bool.{Bool, true, false, cond}
use mathlib.Core.List.{List, [], ◌++◌, append_assoc, map}
use mathlib.Core.Logic.{◌⊎◌, inl, inr}
use native.Mathlib.Omega.{arith}
use borrow.Author.Tests.{eq-eqb, ne_eqb, ltb-false}
use lib.Dec.{eqb, ltb}
use lib.ListN.{get_or, get_or-map}
use Rattle.chars.specs.Words.{bytes}
use Rattle.dates.proofs.Laws.{date_back}
use Rattle.response_read.proofs.Digits.{code_bytes}
use Rattle.text_values.specs.Grammar.{IsTime, IsCount}
use Rattle.text_fields.specs.Grammar.{Line}
use Rattle.request_read.specs.declared.terms.Activation.{Activation}
use Rattle.request_read.specs.declared.terms.Activation.TheVariants.{AtOnce, Minute}
use Rattle.request_read.specs.payments.Payments.{no_payment}
use Rattle.request_read.specs.declared.payments.Payment.{Payment}
use Rattle.request_read.specs.whole.Request.{request_at}
use Rattle.request_read.specs.declared.whole.Head.{Head}
use Rattle.request_read.specs.declared.whole.Outcome.TheVariants.{Settlement, Recall}
use Rattle.request_read.specs.declared.whole.Reading.{Reading}
use Rattle.thm_grammar.specs.Text.{HeadText, RecallText, PaymentText, credit, debit, PaymentsText, none_left, one_more, BodyText, SettlementText}
use Rattle.thm_grammar.proofs.Request.{settlement_complete, recall_complete}
use Rattle.thm_grammar.specs.Values.{InDay, GivenSide, GivesHead, GivesPayment, GivesSettlement, GivesRecall}
use Rattle.thm_grammar.proofs.Values.{bin_codes, settlement_gives, recall_gives}
use Rattle.request_write.specs.Orders.{held, count_text, line_text, head_text, activation_text, payment_of, payment_text, no_payable, message_text, order_text}
use Rattle.request_write.specs.declared.Given.TheVariants.{Nothing, Name, SubType, Numbers, Date, Time, Four, CreditSide, DebitSide, Amount, Count}
use Rattle.request_write.specs.declared.Payable.{Payable}
use Rattle.request_write.specs.declared.Order.{Order}
use Rattle.request_write.specs.declared.Side.{Side}
use Rattle.request_write.specs.declared.Side.TheVariants.{Credit, Debit}
use Rattle.thm_requests_back.specs.Values.{SameSide, SamePayment, SamePayable, SameHead, SameValues, Halves, Typed, payable_of, order_of, again, SamePaid, SameNames, SameRequest}
use Rattle.thm_requests_back.proofs.Written.{long_halves}
use Rattle.thm_requests_back.proofs.Back.{head_opens, credit_opens, debit_opens}
use Rattle.thm_requests_back.proofs.ReadsBack.{onward, places, message_opens, reads_back, recall_reads_back}
use Rattle.thm_requests_back.proofs.Texts.{line, reference_text, word_text, letters_text, bin_text, subtype_text, numbers_text_lem, date_text, time_text_lem, amount_text_lem, count_text_lem}

-- ---- the head

head_text_lem : (r : Reading) (kind : ℕ) → GivesHead r.head → r.head.subtype.number ≡ kind → kind < 1000 → (q : List ℕ) → HeadText kind (head_text (order_of r) ++ q) q
unfolding order_of
head_text_lem r kind g e m q =
    let o = order_of r in
    let q₅ = line_text (bytes ":119:") (Name o.bin) ++ q in
    let q₄ = line_text (bytes ":22A:") (Four o.stream) ++ q₅ in
    let q₃ = line_text (bytes ":77E:") Nothing ++ q₄ in
    let q₂ = line_text (bytes ":12:") (SubType o.subtype) ++ q₃ in
    let t = subtype_text o.subtype (omega (arith, e, m)) in
    subst (λ (s : List ℕ). HeadText kind s q) (sym (head_opens o q)) (record {
      r₁ = q₂;
      r₂ = q₃;
      r₃ = q₄;
      r₄ = q₅;
      reference = line (bytes ":20:") (Name o.reference) q₂ (reference_text g.reference);
      three_digits = line (bytes ":12:") (SubType o.subtype) q₃ (t.0, t.1 ∙ e);
      empty = line (bytes ":77E:") Nothing q₄ refl;
      stream = line (bytes ":22A:") (Four o.stream) q₅ (word_text g.stream);
      bin = line (bytes ":119:") (Name o.bin) q (bin_text g.stream g.bin);
    })

-- ---- the payments

credit_line : (p : Payment) → p.side.number ≡ 0 → (payable_of p).side ≡ Credit
unfolding payable_of
credit_line p e = simp (eq-eqb p.side.number 0 e)

debit_line : (p : Payment) → p.side.number ≡ 1 → (payable_of p).side ≡ Debit p.letters.number
unfolding payable_of
debit_line p e = simp (ne_eqb p.side.number 0 (omega (arith, e)))

payment_text_lem : (p : Payment) → GivesPayment p → (q : List ℕ) → PaymentText (payment_text (payable_of p) ++ q) q
unfolding payable_of
payment_text_lem p g q = go g.side
  where
    go : GivenSide p.side.number p.letters.number → PaymentText (payment_of (payable_of p).side p.amount.number p.bank.number ++ q) q
    go (inl s) =
        let q₃ = line_text (bytes ":102:") (Four p.bank.number) ++ q in
        let q₂ = line_text (bytes ":32B:") (Amount p.amount.number) ++ q₃ in
        subst (λ (x : Side). PaymentText (payment_of x p.amount.number p.bank.number ++ q) q) (sym (credit_line p s.0))
        (subst (λ (l : List ℕ). PaymentText l q) (sym (credit_opens p.amount.number p.bank.number q))
        (credit (line (bytes ":127:") CreditSide q₂ refl) (line (bytes ":32B:") (Amount p.amount.number) q₃ (amount_text_lem p.amount.number g.money)) (line (bytes ":102:") (Four p.bank.number) q (word_text g.bank))))
    go (inr s) =
        let q₄ = line_text (bytes ":102:") (Four p.bank.number) ++ q in
        let q₃ = line_text (bytes ":113:") (Four p.letters.number) ++ q₄ in
        let q₂ = line_text (bytes ":32B:") (Amount p.amount.number) ++ q₃ in
        subst (λ (x : Side). PaymentText (payment_of x p.amount.number p.bank.number ++ q) q) (sym (debit_line p s.0))
        (subst (λ (l : List ℕ). PaymentText l q) (sym (debit_opens p.letters.number p.amount.number p.bank.number q))
        (debit (line (bytes ":127:") DebitSide q₂ refl) (line (bytes ":32B:") (Amount p.amount.number) q₃ (amount_text_lem p.amount.number g.money)) (line (bytes ":113:") (Four p.letters.number) q₄ (letters_text s.1)) (line (bytes ":102:") (Four p.bank.number) q (word_text g.bank))))

payments_text_lem : (k i : ℕ) (ps : List Payable) (q : List ℕ) → ((j : ℕ) → i ≤ j → j < i + k → (r : List ℕ) → PaymentText (payment_text (get_or ps j no_payable) ++ r) r) → PaymentsText k (onward k i ps ++ q) q
payments_text_lem zero i ps q f = none_left
payments_text_lem (suc k) i ps q f =
    let t = onward k (i + 1) ps in
    let p = f i (omega arith) (omega arith) (t ++ q) in
    one_more (subst (λ (l : List ℕ). PaymentText l (t ++ q)) (sym (append_assoc (payment_text (get_or ps i no_payable)) t q)) p) (payments_text_lem k (i + 1) ps q (λ j a b. f j (omega arith) (omega arith)))

-- the i-th line is the i-th payment's
line_at : (items : List Payment) (i : ℕ) → get_or (map payable_of items) i no_payable ≡ payable_of (get_or items i no_payment)
unfolding payable_of
line_at items i = get_or-map payable_of items i no_payment

-- ---- what follows 119

activation_text_lem : (m : Activation) → InDay m → (q : List ℕ) → (activation_text m ++ q ≡ q) ⊎ Line (bytes ":175:") IsTime (activation_text m ++ q) q
activation_text_lem AtOnce h q = inl refl
activation_text_lem (Minute m) h q = inr (line (bytes ":175:") (Time m) q (time_text_lem m h))

ten_places : (n : ℕ) → n ≤ 10 → places n ≡ n
ten_places n h = go (ltb n 10) refl
  where
    go : (b : Bool) → ltb n 10 ≡ b → cond b n 10 ≡ n
    go true e = refl
    go false e = omega (arith, ltb-false n 10 e)

body_text : (r : Reading) → GivesSettlement r → BodyText (message_text (order_of r))
unfolding order_of
body_text r g =
    let o = order_of r in
    let q₅ = line_text (bytes ":203:") (Count o.n) ++ [] in
    let q₄ = onward (places o.n) 0 o.payments ++ q₅ in
    let q₃ = activation_text o.activation ++ q₄ in
    let q₂ = line_text (bytes ":171:") (Date o.date) ++ q₃ in
    let z = ten_places r.n g.few in
    let each : (j : ℕ) → 0 ≤ j → j < 0 + places r.n → (t : List ℕ) → PaymentText (payment_text (get_or (map payable_of r.payments) j no_payable) ++ t) t
    = λ j a b t. subst (λ (x : Payable). PaymentText (payment_text x ++ t) t) (sym (line_at r.payments j)) (payment_text_lem (get_or r.payments j no_payment) (g.payments j (omega (arith, b, z))) t) in
    subst BodyText (sym (message_opens o)) (record {
      r₂ = q₂;
      r₃ = q₃;
      r₄ = q₄;
      r₅ = q₅;
      numbers = line (bytes ":16A:") (Numbers o.number o.count) q₂ (numbers_text_lem r.terms.number r.terms.count g.first g.number g.count);
      date = line (bytes ":171:") (Date o.date) q₃ (date_text r.terms.date.number g.day);
      activation = activation_text_lem r.terms.activation g.minute q₄;
      many = places r.n;
      least = omega (arith, g.some, z);
      most = omega (arith, g.few, z);
      payments = payments_text_lem (places r.n) 0 (map payable_of r.payments) q₅ each;
      count = line (bytes ":203:") (Count o.n) [] (subst (λ (n : ℕ). IsCount n (count_text r.n)) (sym z) (count_text_lem r.n g.some g.few));
    })

order_text_lem : (r : Reading) → GivesSettlement r → SettlementText (order_text (order_of r))
unfolding order_text order_of
order_text_lem r g =
    let z : held (eqb r.head.subtype.number 131) (message_text (order_of r)) ≡ message_text (order_of r) = rw (eq-eqb r.head.subtype.number 131 g.subtype) in
    record {
      rest = held (eqb r.head.subtype.number 131) (message_text (order_of r));
      head = head_text_lem r 131 g.head g.subtype (omega arith) (held (eqb r.head.subtype.number 131) (message_text (order_of r)));
      body = subst BodyText (sym z) (body_text r g);
    }

recall_text_lem : (r : Reading) → GivesRecall r → RecallText (order_text (order_of r))
unfolding order_text order_of
recall_text_lem r g =
    let n : (r.head.subtype.number ≡ 131 → ⊥) = λ e. omega (arith, e, g.subtype) in
    let z : held (eqb r.head.subtype.number 131) (message_text (order_of r)) ≡ [] = rw (ne_eqb r.head.subtype.number 131 n) in
    subst (λ (l : List ℕ). HeadText 133 (head_text (order_of r) ++ l) []) (sym z) (head_text_lem r 133 g.head g.subtype (omega arith) [])

-- ---- the order of a reading has its values

typed : (r : Reading) → GivesHead r.head → Typed (order_of r)
unfolding order_of
typed r g =
    let v = g.reference.value in
    let k = bin_codes g.stream.is g.bin.is in
    record {
      reference = subst Halves (sym g.reference.spells.code) (long_halves v (code_bytes v g.reference.is.all));
      bin = subst Halves (sym g.bin.spells.code) (long_halves g.bin.value (code_bytes g.bin.value k.1));
    }

same_head : (r : Reading) → SameHead (order_of r) r.head
unfolding order_of
same_head r = record { reference = refl; subtype = refl; stream = refl; bin = refl }

same_line : (p : Payment) → GivesPayment p → SamePayable (payable_of p) p
unfolding payable_of
same_line p g = record { same_side = go g.side; same_cents = refl; same_bank = refl }
  where
    go : GivenSide p.side.number p.letters.number → SameSide (payable_of p).side p.side.number p.letters.number
    go (inl s) = subst (λ (x : Side). SameSide x p.side.number p.letters.number) (sym (credit_line p s.0)) s
    go (inr s) = subst (λ (x : Side). SameSide x p.side.number p.letters.number) (sym (debit_line p s.0)) (s.0, refl)

same_values : (r : Reading) → GivesSettlement r → SameValues (order_of r) r
unfolding order_of
same_values r g = record {
  head = same_head r;
  number = refl;
  count = refl;
  date = date_back r.terms.date.number g.day;
  activation = refl;
  n = refl;
  payments = λ i h. subst (λ (x : Payable). SamePayable x (get_or r.payments i no_payment)) (sym (line_at r.payments i)) (same_line (get_or r.payments i no_payment) (g.payments i h));
}

-- ---- two readings with the values of one order

same_number : {x y : ℕ} → Some x ≡ Some y → x ≡ y
same_number h = cc

same_paid : (side : Side) (cents bank : ℕ) {p t : Payment} → SamePayment side cents bank p → SamePayment side cents bank t → SamePaid p t
same_paid Credit cents bank a b = record { side = a.same_side.0 ∙ sym b.same_side.0; cents = a.same_cents ∙ sym b.same_cents; letters = a.same_side.1 ∙ sym b.same_side.1; bank = a.same_bank ∙ sym b.same_bank }
same_paid (Debit l) cents bank a b = record { side = a.same_side.0 ∙ sym b.same_side.0; cents = a.same_cents ∙ sym b.same_cents; letters = a.same_side.1 ∙ sym b.same_side.1; bank = a.same_bank ∙ sym b.same_bank }

pub same_names : {o : Order} {h k : Head} → SameHead o h → SameHead o k → SameNames h k
same_names a b = record { reference = a.reference ∙ sym b.reference; subtype = a.subtype ∙ sym b.subtype; stream = a.stream ∙ sym b.stream; bin = a.bin ∙ sym b.bin }

pub same_request : {o : Order} {r t : Reading} → SameValues o r → SameValues o t → SameRequest r t
same_request {o} a b = record {
  head = same_names a.head b.head;
  number = a.number ∙ sym b.number;
  count = a.count ∙ sym b.count;
  date = same_number (sym a.date ∙ b.date);
  activation = a.activation ∙ sym b.activation;
  n = a.n ∙ sym b.n;
  payments = λ i h.
      let l = get_or o.payments i no_payable in
      let m : i < o.n = omega (arith, h, a.n) in
      same_paid l.side l.cents l.bank (a.payments i m) (b.payments i m);
}

-- ---- the theorems

-- an accepted settlement request, written again, is accepted and is the same request
pub written_again : (s : List ℕ) → (request_at s).outcome ≡ Settlement → ((request_at (again s)).outcome ≡ Settlement) × SameRequest (request_at s) (request_at (again s))
written_again s h =
    let r = request_at s in
    let g = settlement_gives s h in
    let a = settlement_complete (again s) (order_text_lem r g) in
    (a, same_request (same_values r g) (reads_back (order_of r) (typed r g.head) a))

-- and so is a recall
pub recall_written_again : (s : List ℕ) → (request_at s).outcome ≡ Recall → ((request_at (again s)).outcome ≡ Recall) × SameNames (request_at s).head (request_at (again s)).head
recall_written_again s h =
    let r = request_at s in
    let g = recall_gives s h in
    let a = recall_complete (again s) (recall_text_lem r g) in
    (a, same_names (same_head r) (recall_reads_back (order_of r) (typed r g.head) a))
