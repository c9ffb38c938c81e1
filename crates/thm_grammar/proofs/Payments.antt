-- The payments of a request: those of the grammar are read, and nothing else is.
use Rattle.chars.specs.declared.Refusal.{Refusal}
use Rattle.std.specs.Prelude.{Option, Some, None, Result, Ok, Err}
use Prim.Native.Nat.{ℕ, zero, suc, ◌+◌, ◌≤◌, ◌<◌}
use mathlib.Core.Path.{◌≡◌, refl, ap, sym, subst, ◌∙◌}
use mathlib.Core.List.{List, [], ◌++◌}
use mathlib.Core.Bool.{Bool, true, false, cond}
use mathlib.Core.Logic.{◌⊎◌, inl, inr}
use native.Mathlib.Omega.{arith}
use borrow.Author.Tests.{eq-eqb, ne_eqb, eqb-true, eqb-false}
use lib.Dec.{eqb}
use lib.ListN.{length, get_or, drop, set, length-set}
use lib.Seq.{get_or-set_same, get_or-set_other}
use Rattle.chars.specs.Words.{bytes, crlf}
use Rattle.codes.specs.Codes.{packed}
use Rattle.text_scan.specs.Scan.{on_next, begins, lit_at}
use Rattle.text_scan.specs.declared.Cursor.{Cursor}
use Rattle.text_scan.proofs.Pairs.{ok_pair}
use Rattle.text_scan.proofs.Standing.{past, lit_reads, lit_next}
use Rattle.text_values.specs.Values.{text_of, side_at}
use Rattle.text_values.specs.Grammar.{IsSide, IsWord, cents_in}
use Rattle.text_fields.specs.Fields.{absent, broken, wrong, nothing, item, place, on_read, on_good, value_at, field_at}
use Rattle.text_fields.specs.declared.Break.{Break}
use Rattle.text_fields.specs.declared.Item.{Item}
use Rattle.text_fields.specs.declared.Kind.{Kind}
use Rattle.text_fields.specs.declared.Kind.TheVariants.{Word, Side, Amount, Letters}
use Rattle.text_fields.specs.Grammar.{Line}
use Rattle.text_fields.proofs.Grammar.{line_complete, line_text_lem}
use Rattle.request_read.specs.payments.Payments.{none, no_payment, payment, bank_at, credit_at, debit_at, payment_at, more_at, on_paid, ended, payments_on, payments_at}
use Rattle.request_read.specs.declared.payments.Payment.{Payment}
use Rattle.request_read.specs.declared.payments.Payments.{Payments}
use Rattle.thm_grammar.proofs.Meanings.{number_is, not_read, LineRead, line_read}
use Rattle.thm_grammar.specs.Text.{PaymentText, credit, debit, PaymentsText, none_left, one_more, PaymentIs, PartsAre, PaymentSays, PaymentParts, PaymentsSay, PaymentsParts}

-- what a fixed string is not, from its first bytes
pub not_there : (s : List ℕ) (at : ℕ) (p q r : List ℕ) → drop at s ≡ q ++ r → begins p (q ++ r) ≡ false → lit_at s at p ≡ None
unfolding lit_at
not_there s at p q r h e = rw (h, e)

-- the number of a side
side_cr : (s : List ℕ) (at : ℕ) (r : List ℕ) → drop at s ≡ bytes "CR" ++ r → side_at s at ≡ Ok (0, at + 2)
unfolding side_at
side_cr s at r h = simp (lit_reads s at (bytes "CR") r h)

side_dr : (s : List ℕ) (at : ℕ) (r : List ℕ) → drop at s ≡ bytes "DR" ++ r → side_at s at ≡ Ok (1, at + 2)
unfolding side_at begins
side_dr s at r h = simp (not_there s at (bytes "CR") (bytes "DR") r h refl, lit_reads s at (bytes "DR") r h)

-- complete
pub record Paying (s : List ℕ) (at : ℕ) (r : List ℕ) : Type 0 where
  pub payment : Payment
  pub next : ℕ
  pub is : payment_at s at ≡ Ok (payment, place next)
  pub rest : drop next s ≡ r

abbrev with_side : (w : List ℕ) {l r : List ℕ} → IsSide w → Line (bytes ":127:") (λ (v : List ℕ). v ≡ w) l r → Line (bytes ":127:") IsSide l r
with_side w i g = record { value = g.value; text = g.text; is = subst IsSide (sym g.is) i }

payment_complete : (s : List ℕ) (at : ℕ) {l r : List ℕ} → drop at s ≡ l → PaymentText l r → Paying s at r
unfolding payment_at credit_at debit_at bank_at begins
payment_complete s at h (credit {m = m} {r = r} g₁ g₂ g₃) =
    let a = line_complete s at (bytes ":127:") Side 0 tt h (with_side (bytes "CR") (inl refl) g₁) in
    let b = line_complete s (at + 5 + length g₁.value + 2) (bytes ":32B:") Amount 0 tt a.rest g₂ in
    let n = at + 5 + length g₁.value + 2 + 5 + length g₂.value + 2 in
    let c = line_complete s n (bytes ":102:") (Word 4) 0 (omega arith) b.rest g₃ in
    let z : a.number ≡ 0 = number_is a.value (side_cr s (at + 5) (crlf ++ m) (a.part ∙ ap (λ (l : List ℕ). l ++ (crlf ++ m)) g₁.is)) in
    let x : lit_at s n (bytes ":113:") ≡ None = not_there s n (bytes ":113:") (bytes ":102:") (g₃.value ++ (crlf ++ r)) (b.rest ∙ line_text_lem g₃) refl in
    record {
      payment = payment (item (at + 5) (at + 5 + length g₁.value) a.number) (item (at + 5 + length g₁.value + 2 + 5) (at + 5 + length g₁.value + 2 + 5 + length g₂.value) b.number) nothing (item (n + 5) (n + 5 + length g₃.value) c.number);
      next = n + 5 + length g₃.value + 2;
      is = simp (a.is, b.is, eq-eqb a.number 0 z, x, c.is);
      rest = c.rest;
    }
payment_complete s at h (debit {m = m} {r = r} g₁ g₂ g₃ g₄) =
    let a = line_complete s at (bytes ":127:") Side 0 tt h (with_side (bytes "DR") (inr refl) g₁) in
    let b = line_complete s (at + 5 + length g₁.value + 2) (bytes ":32B:") Amount 0 tt a.rest g₂ in
    let n = at + 5 + length g₁.value + 2 + 5 + length g₂.value + 2 in
    let c = line_complete s n (bytes ":113:") Letters 0 tt b.rest g₃ in
    let d = line_complete s (n + 5 + length g₃.value + 2) (bytes ":102:") (Word 4) 0 (omega arith) c.rest g₄ in
    let z : a.number ≡ 1 = number_is a.value (side_dr s (at + 5) (crlf ++ m) (a.part ∙ ap (λ (l : List ℕ). l ++ (crlf ++ m)) g₁.is)) in
    let y : (a.number ≡ 0 → ⊥) = λ e. omega (arith, z, e) in
    record {
      payment = payment (item (at + 5) (at + 5 + length g₁.value) a.number) (item (at + 5 + length g₁.value + 2 + 5) (at + 5 + length g₁.value + 2 + 5 + length g₂.value) b.number) (item (n + 5) (n + 5 + length g₃.value) c.number) (item (n + 5 + length g₃.value + 2 + 5) (n + 5 + length g₃.value + 2 + 5 + length g₄.value) d.number);
      next = n + 5 + length g₃.value + 2 + 5 + length g₄.value + 2;
      is = simp (a.is, b.is, ne_eqb a.number 0 y, c.is, d.is);
      rest = d.rest;
    }

-- a payment begins with its tag, and a count with another
pub payment_begins : {l r : List ℕ} → PaymentText l r → begins (bytes ":127:") l ≡ true
unfolding begins
payment_begins (credit g₁ g₂ g₃) = rw g₁.text
payment_begins (debit g₁ g₂ g₃ g₄) = rw g₁.text

more_is : (s : List ℕ) (at : ℕ) (b : Bool) {l : List ℕ} → drop at s ≡ l → begins (bytes ":127:") l ≡ b → more_at s at ≡ b
unfolding more_at lit_at
more_is s at true h e = rw (h, e)
more_is s at false h e = rw (h, e)

pub record AllPaid (x : Payments) (s : List ℕ) (n : ℕ) (r : List ℕ) : Type 0 where
  pub next : ℕ
  pub is : x.ending ≡ Ok (place next)
  pub count : x.n ≡ n
  pub rest : drop next s ≡ r

on_complete : (s : List ℕ) (room k : ℕ) {l r : List ℕ} (at n : ℕ) (items : List Payment) → drop at s ≡ l → PaymentsText (suc k) l r → suc k ≤ room → begins (bytes ":127:") r ≡ false → AllPaid (payments_on room s at n items) s (n + suc k) r
unfolding payments_on
on_complete s zero k at n items h (one_more p q) m e = absurd (omega arith)
on_complete s (suc room) zero at n items h (one_more p none_left) m e =
    let g = payment_complete s at h p in
    let w = more_is s g.next false g.rest e in
    record { next = g.next; is = simp (g.is, w); count = simp (g.is, w) (omega arith); rest = g.rest }
on_complete s (suc room) (suc k) at n items h (one_more p (one_more q o)) m e =
    let g = payment_complete s at h p in
    let w = more_is s g.next true g.rest (payment_begins q) in
    let i = on_complete s room k g.next (n + 1) (set items n g.payment) g.rest (one_more q o) (omega arith) e in
    record { next = i.next; is = simp (g.is, w) i.is; count = simp (g.is, w) (i.count ∙ omega arith); rest = i.rest }

pub payments_complete : (s : List ℕ) (at k : ℕ) {l r : List ℕ} → drop at s ≡ l → PaymentsText (suc k) l r → suc k ≤ 10 → begins (bytes ":127:") r ≡ false → AllPaid (payments_at s at) s (suc k) r
unfolding payments_at
payments_complete s at k h p m e = let g = on_complete s 10 k at 0 none h p m e in record { next = g.next; is = g.is; count = g.count ∙ omega arith; rest = g.rest }

-- sound
on_field : {A : Type 0} (s : List ℕ) (at : ℕ) (tag : List ℕ) (k : Kind) (f : Item → Cursor → Result (Payment × Cursor) Break) {p : Payment} {c : Cursor} → on_good (field_at s at tag k) Err f ≡ Ok (p, c) → ((i : Item) (d : Cursor) → field_at s at tag k ≡ Ok (i, d) → f i d ≡ Ok (p, c) → A) → A
on_field {A} s at tag k f {p} {c} h g = go (field_at s at tag k) refl h
  where
    go : (x : Result (Item × Cursor) Break) → field_at s at tag k ≡ x → on_good x Err f ≡ Ok (p, c) → A
    go (Ok (i, d)) q h = g i d q h
    go (Err b) q h = not_read h

record BankStands (s : List ℕ) (at : ℕ) (side amount letters : Item) (p : Payment) (c : Cursor) : Type 0 where
  line : Line (bytes ":102:") (IsWord 4) (drop at s) (drop c.at s)
  bank : Item
  is : p ≡ payment side amount letters bank
  number : bank.number ≡ packed 4 line.value
  part : text_of s bank.part ≡ line.value

bank_sound : (s : List ℕ) (at : ℕ) (side amount letters : Item) {p : Payment} {c : Cursor} → bank_at s at side amount letters ≡ Ok (p, c) → BankStands s at side amount letters p c
unfolding bank_at
bank_sound s at side amount letters {p} {c} h = on_field s at (bytes ":102:") (Word 4) (λ bank d. Ok (payment side amount letters bank, d)) h (λ i d q r.
    let z = ok_pair r in
    let g = line_read s at (bytes ":102:") (Word 4) 0 (omega arith) (q ∙ ap (λ (e : Cursor). Ok (i, e)) z.1) in
    record { line = g.line; bank = i; is = sym z.0; number = g.means refl; part = g.text })

-- the number beside a field is that of its value, and its part begins after the tag
pub field_value : (s : List ℕ) (at : ℕ) (tag : List ℕ) (k : Kind) {i : Item} {c : Cursor} → field_at s at tag k ≡ Ok (i, c) → (value_at s (at + length tag) k ≡ Ok (i.number, i.part.end)) × (i.part.start ≡ at + length tag)
unfolding field_at
field_value s at tag k {i} {c} h = go₁ (lit_at s at tag) refl h
  where
    go₃ : (a v e : ℕ) → lit_at s at tag ≡ Some a → value_at s a k ≡ Ok (v, e) → (r : Option ℕ) → on_next {A = Result (Item × Cursor) Break} r (Err (wrong at)) (λ n. Ok (item a e v, place n)) ≡ Ok (i, c) → (value_at s (at + length tag) k ≡ Ok (i.number, i.part.end)) × (i.part.start ≡ at + length tag)
    go₃ a v e l g None h = not_read h
    go₃ a v e l g (Some n) h =
        rw (← (ok_pair h).0, ← lit_next s at tag l) (g, refl)

    go₂ : (a : ℕ) → lit_at s at tag ≡ Some a → (r : Result (ℕ × ℕ) Refusal) → value_at s a k ≡ r → on_read {A = Result (Item × Cursor) Break} r (λ x. Err (broken at x)) (λ v e. on_next (lit_at s e crlf) (Err (wrong at)) (λ n. Ok (item a e v, place n))) ≡ Ok (i, c) → (value_at s (at + length tag) k ≡ Ok (i.number, i.part.end)) × (i.part.start ≡ at + length tag)
    go₂ a l (Ok (v, e)) g h = go₃ a v e l g (lit_at s e crlf) h
    go₂ a l (Err x) g h = not_read h

    go₁ : (r : Option ℕ) → lit_at s at tag ≡ r → on_next {A = Result (Item × Cursor) Break} r (Err (absent at)) (λ a. on_read (value_at s a k) (λ x. Err (broken at x)) (λ v e. on_next (lit_at s e crlf) (Err (wrong at)) (λ n. Ok (item a e v, place n)))) ≡ Ok (i, c) → (value_at s (at + length tag) k ≡ Ok (i.number, i.part.end)) × (i.part.start ≡ at + length tag)
    go₁ (Some a) l h = go₂ a l (value_at s a k) refl h
    go₁ None l h = not_read h

-- which side a line says, with its number
pub side_number : (s : List ℕ) (at : ℕ) {i : Item} {d : Cursor} → field_at s at (bytes ":127:") Side ≡ Ok (i, d) → (g : Line (bytes ":127:") IsSide (drop at s) (drop d.at s)) → ((g.value ≡ bytes "CR") × (i.number ≡ 0)) ⊎ ((g.value ≡ bytes "DR") × (i.number ≡ 1))
side_number s at {i} {d} q g = go g.is
  where
    here : {w : List ℕ} → g.value ≡ w → drop (at + 5) s ≡ w ++ (crlf ++ drop d.at s)
    here e = past s at (bytes ":127:") (g.value ++ (crlf ++ drop d.at s)) (line_text_lem g) ∙ ap (λ (l : List ℕ). l ++ (crlf ++ drop d.at s)) e

    go : IsSide g.value → ((g.value ≡ bytes "CR") × (i.number ≡ 0)) ⊎ ((g.value ≡ bytes "DR") × (i.number ≡ 1))
    go (inl e) = inl (e, number_is (field_value s at (bytes ":127:") Side q).0 (side_cr s (at + 5) (crlf ++ drop d.at s) (here e)))
    go (inr e) = inr (e, number_is (field_value s at (bytes ":127:") Side q).0 (side_dr s (at + 5) (crlf ++ drop d.at s) (here e)))

-- a line of just this side stands there, with its number, and its part is its value
record Sided (s : List ℕ) (at : ℕ) (side : List ℕ) (n : ℕ) (i : Item) (d : Cursor) : Type 0 where
  line : Line (bytes ":127:") (λ (v : List ℕ). v ≡ side) (drop at s) (drop d.at s)
  number : i.number ≡ n
  part : text_of s i.part ≡ line.value

side_sound : (s : List ℕ) (at : ℕ) (i : Item) (d : Cursor) → field_at s at (bytes ":127:") Side ≡ Ok (i, d) → Sided s at (bytes "CR") 0 i d ⊎ Sided s at (bytes "DR") 1 i d
side_sound s at i d q = go (side_number s at q g.line)
  where
    g : LineRead s at (bytes ":127:") Side i d
    g = line_read s at (bytes ":127:") Side 0 tt q

    sided : (w : List ℕ) (n : ℕ) → (g.line.value ≡ w) × (i.number ≡ n) → Sided s at w n i d
    sided w n e = record { line = record { value = g.line.value; text = g.line.text; is = e.0 }; number = e.1; part = g.text }

    go : ((g.line.value ≡ bytes "CR") × (i.number ≡ 0)) ⊎ ((g.line.value ≡ bytes "DR") × (i.number ≡ 1)) → Sided s at (bytes "CR") 0 i d ⊎ Sided s at (bytes "DR") 1 i d
    go (inl e) = inl (sided (bytes "CR") 0 e)
    go (inr e) = inr (sided (bytes "DR") 1 e)

-- a field that is missing has an empty part
pub no_text : (s : List ℕ) → text_of s nothing.part ≡ []
unfolding text_of
no_text s = refl

record PaymentStands (s : List ℕ) (at : ℕ) (p : Payment) (c : Cursor) : Type 0 where
  text : PaymentText (drop at s) (drop c.at s)
  says : PaymentSays text p
  parts : PaymentParts s text p

payment_sound : (s : List ℕ) (at : ℕ) {p : Payment} {c : Cursor} → payment_at s at ≡ Ok (p, c) → PaymentStands s at p c
unfolding payment_at credit_at debit_at
payment_sound s at {p} {c} h = on_field s at (bytes ":127:") Side _ h (λ i d q₁ r₁.
    on_field s d.at (bytes ":32B:") Amount _ r₁ (λ m e q₂ r₂. go i d m e (side_sound s at i d q₁) (line_read s d.at (bytes ":32B:") Amount 0 tt q₂) (eqb i.number 0) refl r₂))
  where
    no_letters : (i m : Item) (e : Cursor) (r : Option ℕ) → on_next r (bank_at s e.at i m nothing) (λ a. Err (wrong e.at)) ≡ Ok (p, c) → BankStands s e.at i m nothing p c
    no_letters i m e None h = bank_sound s e.at i m nothing h
    no_letters i m e (Some a) h = not_read h

    go : (i : Item) (d : Cursor) (m : Item) (e : Cursor) → Sided s at (bytes "CR") 0 i d ⊎ Sided s at (bytes "DR") 1 i d → LineRead s d.at (bytes ":32B:") Amount m e → (b : Bool) → eqb i.number 0 ≡ b → cond b (on_next (lit_at s e.at (bytes ":113:")) (bank_at s e.at i m nothing) (λ a. Err (wrong e.at))) (on_good (field_at s e.at (bytes ":113:") Letters) Err (λ letters f. bank_at s f.at i m letters)) ≡ Ok (p, c) → PaymentStands s at p c
    go i d m e (inl g) a true b h =
        let k = no_letters i m e (lit_at s e.at (bytes ":113:")) h in
        record {
          text = credit g.line a.line k.line;
          says = subst (PaymentIs 0 (cents_in a.line.is) 0 (packed 4 k.line.value)) (sym k.is) (record { side_is = g.number; cents_are = a.means; letters_are = refl; bank_is = k.number });
          parts = subst (PartsAre s g.line.value a.line.value [] k.line.value) (sym k.is) (record { side_part = g.part; amount_part = a.text; letters_part = no_text s; bank_part = k.part });
        }
    go i d m e (inl g) a false b h = absurd (eqb-false i.number 0 b g.number)
    go i d m e (inr g) a true b h = absurd (omega (arith, eqb-true i.number 0 b, g.number))
    go i d m e (inr g) a false b h = on_field s e.at (bytes ":113:") Letters _ h (λ j f q r.
        let w = line_read s e.at (bytes ":113:") Letters 0 tt q in
        let k = bank_sound s f.at i m j r in
        record {
          text = debit g.line a.line w.line k.line;
          says = subst (PaymentIs 1 (cents_in a.line.is) (packed 4 w.line.value) (packed 4 k.line.value)) (sym k.is) (record { side_is = g.number; cents_are = a.means; letters_are = w.means; bank_is = k.number });
          parts = subst (PartsAre s g.line.value a.line.value w.line.value k.line.value) (sym k.is) (record { side_part = g.part; amount_part = a.text; letters_part = w.text; bank_part = k.part });
        })

-- so many payments were read, and stand in the list from the n-th place on; those before it are as they were
pub record ReadOff (x : Payments) (s : List ℕ) (at n room : ℕ) (items : List Payment) (d : Cursor) : Type 0 where
  pub many : ℕ
  pub most : many ≤ room
  pub least : 1 ≤ room → 1 ≤ many
  pub count : x.n ≡ n + many
  pub text : PaymentsText many (drop at s) (drop d.at s)
  pub says : PaymentsSay n text x.items
  pub parts : PaymentsParts s n text x.items
  pub size : length x.items ≡ length items
  pub kept : (j : ℕ) → j < n → get_or x.items j no_payment ≡ get_or items j no_payment

abbrev onward : List ℕ → ℕ → ℕ → List Payment → Bool → Payment → Cursor → Payments
onward s room n items b p c = cond b (payments_on room s c.at (n + 1) (set items n p)) (ended (Ok (place c.at)) (n + 1) (set items n p))

-- the n-th place of a list that keeps what is put there
put_there : (items result : List Payment) (n : ℕ) (p : Payment) → n < length items → ((j : ℕ) → j < n + 1 → get_or result j no_payment ≡ get_or (set items n p) j no_payment) → (get_or result n no_payment ≡ p) × ((j : ℕ) → j < n → get_or result j no_payment ≡ get_or items j no_payment)
put_there items result n p h f = (f n (omega arith) ∙ get_or-set_same items n p no_payment h, λ j k. f j (omega arith) ∙ get_or-set_other items n j p no_payment (omega arith))

on_sound : (s : List ℕ) (room at n : ℕ) (items : List Payment) (d : Cursor) → n + room ≤ length items → (payments_on room s at n items).ending ≡ Ok d → ReadOff (payments_on room s at n items) s at n room items d
unfolding payments_on
on_sound s zero at n items d fit h =
    let z : place at ≡ d = cc in
    rw (← z) (record { many = 0; most = omega arith; least = λ z. z; count = omega arith; text = none_left; says = tt; parts = tt; size = refl; kept = λ j k. refl })
on_sound s (suc room) at n items d fit h = paid (payment_at s at) refl h (λ c p. on_sound s room c.at (n + 1) (set items n p) d (rw length-set (omega arith)))
  where
    more : (b : Bool) (p : Payment) (c : Cursor) → PaymentStands s at p c → ((payments_on room s c.at (n + 1) (set items n p)).ending ≡ Ok d → ReadOff (payments_on room s c.at (n + 1) (set items n p)) s c.at (n + 1) room (set items n p) d) → (onward s room n items b p c).ending ≡ Ok d → ReadOff (onward s room n items b p c) s at n (suc room) items d
    more true p c g f h =
        let i = f h in
        let k = put_there items (payments_on room s c.at (n + 1) (set items n p)).items n p (omega arith) i.kept in
        record {
          many = suc i.many;
          most = omega (arith, i.most);
          least = λ z. omega arith;
          count = i.count ∙ omega arith;
          text = one_more g.text i.text;
          says = (subst (PaymentSays g.text) (sym k.0) g.says, i.says);
          parts = (subst (PaymentParts s g.text) (sym k.0) g.parts, i.parts);
          size = i.size ∙ length-set items n p;
          kept = k.1;
        }
    more false p c g f h =
        let z : place c.at ≡ d = cc in
        let k = put_there items (set items n p) n p (omega arith) (λ j y. refl) in
        rw (← z) (record {
          many = 1;
          most = omega arith;
          least = λ z. omega arith;
          count = refl;
          text = one_more g.text none_left;
          says = (subst (PaymentSays g.text) (sym k.0) g.says, tt);
          parts = (subst (PaymentParts s g.text) (sym k.0) g.parts, tt);
          size = length-set items n p;
          kept = k.1;
        })

    paid : (x : Result (Payment × Cursor) Break) → payment_at s at ≡ x → (on_paid x (λ b. ended (Err b) n items) (λ p c. onward s room n items (more_at s c.at) p c)).ending ≡ Ok d → ((c : Cursor) (p : Payment) → (payments_on room s c.at (n + 1) (set items n p)).ending ≡ Ok d → ReadOff (payments_on room s c.at (n + 1) (set items n p)) s c.at (n + 1) room (set items n p) d) → ReadOff (on_paid x (λ b. ended (Err b) n items) (λ p c. onward s room n items (more_at s c.at) p c)) s at n (suc room) items d
    paid (Ok (p, c)) q h f = more (more_at s c.at) p c (payment_sound s at q) (f c p) h
    paid (Err b) q h f = not_read h

pub payments_sound : (s : List ℕ) (at : ℕ) (d : Cursor) → (payments_at s at).ending ≡ Ok d → ReadOff (payments_at s at) s at 0 10 none d
unfolding payments_at
payments_sound s at d h = on_sound s 10 at 0 none d (omega arith) h
