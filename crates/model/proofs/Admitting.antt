-- A message that keeps step 5's rules makes a right batch of the batch that it joins.
use Rattle.std.specs.Prelude.{Ok, Err}
use Prim.Native.Nat.{ℕ, zero, suc, ◌≤◌, ◌<◌}
use mathlib.Core.Path.{◌≡◌, refl, sym, ap, subst, ◌∙◌}
use mathlib.Core.Logic.{◌⊎◌, inl, inr}
use mathlib.Core.Bool.{true, false, false≢true}
use mathlib.Core.List.{List, [], ◌∷◌, ◌++◌, append_assoc, append-nil}
use native.Mathlib.Omega.{arith}
use lib.Dec.{eqb}
use lib.ListN.{length, take, length-append}
use borrow.Author.Tests.{eqb-true, eqb-false, not-true}
use Rattle.chars.specs.Words.{member}
use Rattle.codes.specs.Codes.{short_text}
use Rattle.request_read.specs.declared.payments.Payment.{Payment as Line}
use Rattle.request_read.specs.declared.whole.Outcome.TheVariants.{Settlement, Recall}
use Rattle.request_read.specs.declared.whole.Reading.{Reading}
use Rattle.settle.specs.Payments.{Payment, payment, bank_of, cents_of}
use Rattle.settle.specs.Rules.{Apart, Distinct}
use Rattle.queue.specs.Promise.{Off, Once}
use Rattle.queue.proofs.MemoryLaws.{by_bool}
use Rattle.queue.proofs.Trail.{All-append}
use Rattle.book_read.specs.Range.{Each}
use Rattle.model.specs.State.{on_found, Message, Batch, State, payments_of}
use Rattle.model.specs.Messages.{Rule, first_broken, bank_place, line_bank, line_payment, line_payments, lines, arrived, has_number, line_rules, banks_in, message_rules, with_message}
use Rattle.model.specs.Rules.{is_reference, is_bin, are_letters, Priced, Lettered, numbers, RightMinute, RightMessage, RightBatch}
use Rattle.model.proofs.Truth.{or_false}
use Rattle.model.proofs.Seeking.{by_found, bank_below}

-- what a settlement request that was read gives: each value is one that document 01's table allows
abbrev pub LetterWord : ℕ → Type 0
LetterWord n = (n ≡ 0) ⊎ ((n < 4294967296) × (are_letters (short_text n) ≡ true))

pub record TextGives (r : Reading) : Type 0 where
  pub reference : is_reference r.head.reference.code ≡ true
  pub bin : is_bin r.head.address.bin.code ≡ true
  pub number : (1 ≤ r.terms.number) × (r.terms.number ≤ r.terms.count)
  pub count : (1 ≤ r.terms.count) × (r.terms.count ≤ 10)
  pub minute : RightMinute r.terms.activation
  pub some : 1 ≤ length (take r.n r.payments)
  pub few : length (take r.n r.payments) ≤ 10
  pub money : Each (λ l. l.amount.number ≤ 999999999999) (take r.n r.payments)
  pub letters : Each (λ l. LetterWord l.letters.number) (take r.n r.payments)

-- what a text that was read gives: of a recall its reference
pub record Gives (r : Reading) : Type 0 where
  pub settlement : r.outcome ≡ Settlement → TextGives r
  pub recall : r.outcome ≡ Recall → is_reference r.head.reference.code ≡ true

-- a batch that can take a message: one that is begun, or is being assembled
pub record Takes (banks : ℕ) (b : Batch) : Type 0 where
  pub bin : is_bin b.bin ≡ true
  pub count : (1 ≤ b.count) × (b.count ≤ 10)
  pub minute : RightMinute b.activation
  pub messages : Each (RightMessage banks b.count) b.messages
  pub apart : Once (numbers b.messages)
  pub banks_differ : Distinct (payments_of b.messages)
  pub room : length b.messages < b.count

pub takes : (banks : ℕ) (b : Batch) → RightBatch banks b → length b.messages < b.count → Takes banks b
takes banks b h l = record { bin = h.bin; count = h.count; minute = h.minute; messages = h.messages; apart = h.apart; banks_differ = h.banks_differ; room = l }

-- ---- lists with one more

pub each_last : {A : Type 0} (P : A → Type 0) (l : List A) (x : A) → Each P l → P x → Each P (l ++ (x ∷ []))
each_last P [] x h p = (p, tt)
each_last P (y ∷ l) x h p = (h.0, each_last P l x h.1 p)

numbers_last : (ms : List Message) (m : Message) → numbers (ms ++ (m ∷ [])) ≡ numbers ms ++ (m.number ∷ [])
numbers_last [] m = refl
numbers_last (x ∷ ms) m = ap (λ (l : List ℕ). x.number ∷ l) (numbers_last ms m)

pub payments_last : (ms : List Message) (m : Message) → payments_of (ms ++ (m ∷ [])) ≡ payments_of ms ++ m.payments
payments_last [] m = append-nil m.payments
payments_last (x ∷ ms) m = ap (λ (l : List Payment). x.payments ++ l) (payments_last ms m) ∙ sym (append_assoc x.payments (payments_of ms) m.payments)

once_last : (p : ℕ) (l : List ℕ) → Once l → Off p l → Once (l ++ (p ∷ []))
once_last p [] o f = (tt, tt)
once_last p (x ∷ l) o f = (All-append (λ y. y ≡ x → ⊥) l (p ∷ []) o.0 ((λ e. f.0 (sym e)), tt), once_last p l o.1 f.1)

-- ---- a payment by its words

pub payment_bank : (k c n : ℕ) → bank_of (payment k c n) ≡ k
unfolding payment
payment_bank k c zero = refl
payment_bank k c (suc n) = refl

payment_cents : (k c n : ℕ) → cents_of (payment k c n) ≡ c
unfolding payment
payment_cents k c zero = refl
payment_cents k c (suc n) = refl

payment_letters : (k c n : ℕ) → LetterWord n → Lettered (payment k c n)
unfolding payment
payment_letters k c zero h = tt
payment_letters k c (suc n) (inl e) = absurd (omega arith)
payment_letters k c (suc n) (inr h) = h

-- ---- the rules, one by one

pub holds_all : (x : Rule) (xs : List Rule) → first_broken (x ∷ xs) ≡ Ok tt → (x.holds ≡ true) × (first_broken xs ≡ Ok tt)
unfolding first_broken
holds_all x xs h =
    by_bool x.holds
    (λ e. let g : first_broken xs ≡ (Ok tt) = rw e at h in (e, g))
    (λ e. let g : Err x.fault ≡ (Ok tt) = rw e at h in let z : ◌≡◌ {A = ℕ} 0 1 = cc in absurd (omega arith))

-- the banks that are taken are those of the payments so far
Covers : List ℕ → List Payment → Type 0
Covers taken ps = (k : ℕ) → member k taken ≡ false → Apart k ps

apart_last : (k : ℕ) (ps : List Payment) (x : Payment) → Apart k ps → (bank_of x ≡ k → ⊥) → Apart k (ps ++ (x ∷ []))
unfolding Apart
apart_last k [] x h n = (n, tt)
apart_last k (p ∷ ps) x h n = (h.0, apart_last k ps x h.1 n)

distinct_last : (ps : List Payment) (x : Payment) → Distinct ps → Apart (bank_of x) ps → Distinct (ps ++ (x ∷ []))
unfolding Distinct Apart
distinct_last [] x d a = (tt, tt)
distinct_last (p ∷ ps) x d a = (apart_last (bank_of p) ps x d.0 (λ e. a.0 (sym e)), distinct_last ps x d.1 a.1)

covers_banks : (s : State) (r : Reading) (ps : List Payment) → Covers (banks_in ps) ps
unfolding Covers Apart
covers_banks s r [] k h = tt
covers_banks s r (p ∷ ps) k h =
    let g = or_false (eqb k (bank_of p)) (member k (banks_in ps)) h in
    ((λ e. eqb-false k (bank_of p) g.0 (sym e)), covers_banks s r ps k g.1)

module _ (s : State) (r : Reading) (stream : ℕ) where
  -- a bank that is found is below the bank count
  found_below : (l : Line) → on_found (bank_place s.house l.bank.number) false (λ p. true) ≡ true → line_bank s r l < s.house.banks
  found_below l h =
      by_found (bank_place s.house l.bank.number)
      (λ p e. rw e (bank_below s.house l.bank.number p e))
      (λ e. let g : false ≡ true = rw e at h in absurd (false≢true g))

  record LineHolds (taken : List ℕ) (l : Line) (ls : List Line) : Type 0 where
    below : line_bank s r l < s.house.banks
    new : member (line_bank s r l) taken ≡ false
    rest : first_broken (line_rules s r stream (line_bank s r l ∷ taken) ls) ≡ Ok tt

  line_holds : (taken : List ℕ) (l : Line) (ls : List Line) → first_broken (line_rules s r stream taken (l ∷ ls)) ≡ Ok tt → LineHolds taken l ls
  unfolding line_rules
  line_holds taken l ls h =
      let h₁ = holds_all _ _ h in
      let h₂ = holds_all _ _ h₁.1 in
      let h₃ = holds_all _ _ h₂.1 in
      let h₄ = holds_all _ _ h₃.1 in
      record { below = found_below l h₁.0; new = not-true _ h₄.0; rest = h₄.1 }

  lines_priced : (taken : List ℕ) (ls : List Line) → first_broken (line_rules s r stream taken ls) ≡ Ok tt → Each (λ l. l.amount.number ≤ 999999999999) ls
      → Each (Priced s.house.banks) (line_payments s r ls)
  unfolding line_payments
  lines_priced taken [] h m = tt
  lines_priced taken (l ∷ ls) h m =
      let g = line_holds taken l ls h in
      let k : ℕ = line_bank s r l in (
        record {
          known = rw (payment_bank k l.amount.number l.letters.number) g.below;
          money = rw (payment_cents k l.amount.number l.letters.number) m.0;
        },
        lines_priced (k ∷ taken) ls g.rest m.1,
      )

  lines_lettered : (ls : List Line) → Each (λ l. LetterWord l.letters.number) ls → Each Lettered (line_payments s r ls)
  unfolding line_payments
  lines_lettered [] h = tt
  lines_lettered (l ∷ ls) h = (payment_letters (line_bank s r l) l.amount.number l.letters.number h.0, lines_lettered ls h.1)

  lines_many : (ls : List Line) → length (line_payments s r ls) ≡ length ls
  unfolding line_payments
  lines_many [] = refl
  lines_many (l ∷ ls) = ap suc (lines_many ls)

  -- "already in this batch 87"
  lines_distinct : (ls : List Line) (taken : List ℕ) (ps : List Payment) → Covers taken ps → Distinct ps → first_broken (line_rules s r stream taken ls) ≡ Ok tt
      → Distinct (ps ++ line_payments s r ls)
  unfolding line_payments Covers
  lines_distinct [] taken ps c d h = rw (append-nil {A = Payment}) d
  lines_distinct (l ∷ ls) taken ps c d h =
      let g = line_holds taken l ls h in
      let k : ℕ = line_bank s r l in
      let x : Payment = line_payment s r l in
      let e : bank_of x ≡ k = payment_bank k l.amount.number l.letters.number in
      let c' : Covers (k ∷ taken) (ps ++ (x ∷ [])) =
      (λ j m. let o = or_false (eqb j k) (member j taken) m in apart_last j ps x (c j o.1) (λ f. eqb-false j k o.0 (sym f ∙ e))) in
      let d' : Distinct (ps ++ (x ∷ [])) = distinct_last ps x d (rw e (c k g.new)) in
      subst (λ (z : List Payment). Distinct z) (append_assoc ps (x ∷ []) (line_payments s r ls)) (lines_distinct ls (k ∷ taken) (ps ++ (x ∷ [])) c' d' g.rest)

  no_number : (n : ℕ) (ms : List Message) → has_number n ms ≡ false → Off n (numbers ms)
  no_number n [] h = tt
  no_number n (m ∷ ms) h = let g = or_false (eqb m.number n) (has_number n ms) h in (eqb-false m.number n g.0, no_number n ms g.1)

  record MessageHolds (b : Batch) : Type 0 where
    count : r.terms.count ≡ b.count
    new : has_number r.terms.number b.messages ≡ false
    lines_hold : first_broken (line_rules s r stream (banks_in (payments_of b.messages)) (lines s r)) ≡ Ok tt

  message_holds : (b : Batch) → first_broken (message_rules s r stream b) ≡ Ok tt → MessageHolds b
  unfolding message_rules
  message_holds b h =
      let h₁ = holds_all _ _ h in
      let h₂ = holds_all _ _ h₁.1 in
      let h₃ = holds_all _ _ h₂.1 in
      let h₄ = holds_all _ _ h₃.1 in
      let h₅ = holds_all _ _ h₄.1 in
      record { count = eqb-true _ _ h₁.0; new = not-true _ h₃.0; lines_hold = h₅.1 }

  pub message_right : (b : Batch) → Takes s.house.banks b → TextGives r → first_broken (message_rules s r stream b) ≡ Ok tt → RightBatch s.house.banks (with_message s r b)
  message_right b t g h =
      let m = message_holds b h in
      let ps : List Payment = payments_of b.messages in
      record {
        bin = t.bin;
        count = t.count;
        minute = t.minute;
        some = omega (arith, length-append b.messages (arrived s r ∷ []));
        messages = each_last (RightMessage s.house.banks b.count) b.messages (arrived s r) t.messages (record {
          reference = g.reference;
          number = (g.number.0, omega (arith, m.count, g.number.1));
          some = rw (lines_many (lines s r)) g.some;
          few = rw (lines_many (lines s r)) g.few;
          priced = lines_priced (banks_in ps) (lines s r) m.lines_hold g.money;
          lettered = lines_lettered (lines s r) g.letters;
        });
        apart = rw (numbers_last b.messages (arrived s r)) (once_last r.terms.number (numbers b.messages) t.apart (no_number r.terms.number b.messages m.new));
        banks_differ = rw (payments_last b.messages (arrived s r)) (lines_distinct (lines s r) (banks_in ps) ps (covers_banks s r ps) t.banks_differ m.lines_hold);
      }
