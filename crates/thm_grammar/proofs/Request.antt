-- A text of the grammar is accepted, what is accepted is such a text, and what the reading then says of it.
use Rattle.std.specs.Prelude.{Option, Some, None, Result, Ok, Err}
use Prim.Native.Nat.{ℕ, zero, suc, ◌+◌, ◌≤◌}
use mathlib.Core.Path.{◌≡◌, refl, ap, sym, subst, ◌∙◌}
use mathlib.Core.List.{List, [], ◌∷◌, ◌++◌}
use mathlib.Core.Bool.{Bool, true, false, cond, ◌||◌, false≢true}
use mathlib.Core.Logic.{◌⊎◌, inl, inr}
use native.Mathlib.Omega.{arith}
use borrow.Author.Tests.{eqb-true, le-ltb, ltb-false}
use lib.Dec.{eqb, ltb}
use lib.ListN.{length, drop, length-drop, drop_of_length-le}
use Rattle.chars.specs.Words.{bytes, member, crlf, line}
use Rattle.chars.specs.declared.Refusal.TheVariants.{OtherSubType}
use Rattle.codes.specs.Codes.{packed, long_of}
use Rattle.text_scan.specs.Scan.{on_next, begins, lit_at}
use Rattle.text_scan.specs.declared.Cursor.{Cursor}
use Rattle.text_scan.specs.Spelling.{value_of}
use Rattle.text_scan.proofs.Pairs.{ok_pair}
use Rattle.text_scan.proofs.Standing.{lit_reads}
use Rattle.text_values.specs.Values.{no_part, text_of, code_of, count_in}
use Rattle.text_values.specs.declared.Part.{Part}
use Rattle.text_values.specs.Grammar.{IsEmpty, IsNumeral, IsWord, IsBin, IsNumbers, IsDate, IsTime, IsCount}
use Rattle.text_values.proofs.Grammar.{numeral_reads, count_in_lem}
use Rattle.text_fields.specs.Fields.{absent, broken, nothing, item, place, on_good, field_at}
use Rattle.text_fields.specs.declared.Break.{Break}
use Rattle.text_fields.specs.declared.Item.{Item}
use Rattle.text_fields.specs.declared.Kind.{Kind}
use Rattle.text_fields.specs.declared.Kind.TheVariants.{Empty, Reference, Numeral, Word, Bin, Numbers, Date, Time, Count}
use Rattle.text_fields.specs.Grammar.{Line, Spelt}
use Rattle.text_fields.proofs.Grammar.{line_complete, line_sound, line_text_lem}
use Rattle.request_read.specs.terms.Terms.{activation_at, on_given, on_whole, terms, terms_at}
use Rattle.request_read.specs.declared.terms.Terms.{Terms}
use Rattle.request_read.specs.declared.terms.Activation.{Activation}
use Rattle.request_read.specs.declared.terms.Activation.TheVariants.{AtOnce, Minute}
use Rattle.request_read.specs.payments.Payments.{payments_at}
use Rattle.request_read.specs.whole.Request.{named_at, address, nowhere, to_stream, head, bare, refusal, unread, settlement, address_at, on_to, on_done, ending, settlement_at, recall_at, message_at, request_at}
use Rattle.request_read.specs.declared.whole.Reached.TheVariants.{Bin as Both}
use Rattle.request_read.specs.declared.whole.Address.{Address}
use Rattle.request_read.specs.declared.whole.Head.{Head}
use Rattle.request_read.specs.declared.whole.Outcome.{Outcome}
use Rattle.request_read.specs.declared.whole.Outcome.TheVariants.{Settlement, Recall, Refused}
use Rattle.request_read.specs.declared.whole.Reading.{Reading}
use Rattle.thm_grammar.proofs.Meanings.{number_is, not_read, part_is, line_read}
use Rattle.thm_grammar.proofs.Payments.{payments_complete, no_text, payments_sound}
use Rattle.thm_grammar.specs.Text.{HeadText, RecallText, PaymentText, credit, debit, PaymentsText, none_left, one_more, BodyText, SettlementText, HeadSays, ActivationSays, ActivationPart, BodySays, BodyParts, SettlementSays, RecallSays}

-- complete: the head
pub record HeadRead (kind : ℕ) (s r : List ℕ) : Type 0 where
  pub of : Head
  pub next : ℕ
  pub is : request_at s ≡ cond (eqb kind 131) (settlement_at s next of) (recall_at s next of)
  pub rest : drop next s ≡ r

address_complete : (s : List ℕ) (at : ℕ) {l m n r : List ℕ} → drop at s ≡ l → Line (bytes ":77E:") IsEmpty l m → (g : Line (bytes ":22A:") (IsWord 4) m n) → Line (bytes ":119:") (IsBin g.value) n r → (a : Address) × ((k : ℕ) × ((address_at s at ≡ Ok (a, place k)) × (drop k s ≡ r)))
unfolding address_at
address_complete s at {n = n} h g₁ g₂ g₃ =
    let a = line_complete s at (bytes ":77E:") Empty 0 tt h g₁ in
    let p = at + 5 + length g₁.value + 2 in
    let b = line_complete s p (bytes ":22A:") (Word 4) 0 (omega arith) a.rest g₂ in
    let q : Part = record { start = p + 5; end = p + 5 + length g₂.value } in
    let t = part_is s (p + 5) (p + 5 + length g₂.value) g₂.value (crlf ++ n) b.part refl in
    let g : Line (bytes ":119:") (Spelt s (Bin q)) n _ = record { value = g₃.value; text = g₃.text; is = subst (λ (w : List ℕ). IsBin w g₃.value) (sym t) g₃.is } in
    let k = p + 5 + length g₂.value + 2 in
    let c = line_complete s k (bytes ":119:") (Bin q) (p + 5 + length g₂.value) (omega arith, omega (arith, g₂.is.size)) b.rest g in
    (address Both (item (p + 5) (p + 5 + length g₂.value) b.number) (named_at s (record { start = k + 5; end = k + 5 + length g₃.value })), (k + 5 + length g₃.value + 2, (simp (a.is, b.is, c.is), c.rest)))

pub head_complete : (kind : ℕ) (s : List ℕ) {r : List ℕ} → member kind (131 ∷ 133 ∷ []) ≡ true → HeadText kind s r → HeadRead kind s r
unfolding request_at message_at
head_complete kind s m g =
    let a = line_complete s 0 (bytes ":20:") Reference 0 tt refl g.reference in
    let p = 0 + 4 + length g.reference.value + 2 in
    let d : Line (bytes ":12:") (IsNumeral 3) g.r₁ g.r₂ = record { value = g.three_digits.value; text = g.three_digits.text; is = g.three_digits.is.0 } in
    let b = line_complete s p (bytes ":12:") (Numeral 3) 0 (omega arith) a.rest d in
    let z : b.number ≡ kind = number_is b.value (numeral_reads s (p + 4) d.value g.r₂ b.part 3 (omega arith) d.is) ∙ g.three_digits.is.1 in
    let c = address_complete s (p + 4 + length d.value + 2) b.rest g.empty g.stream g.bin in
    record {
      of = head (named_at s (record { start = 4; end = 4 + length g.reference.value })) (item (p + 4) (p + 4 + length d.value) b.number) c.0;
      next = c.1.0;
      is = simp (a.is, b.is, c.1.1.0, z, m);
      rest = c.1.1.1;
    }

-- a payment begins with a tag that is no 175
not_timed : {l r : List ℕ} → PaymentText l r → begins (bytes ":175:") l ≡ false
unfolding begins
not_timed (credit g₁ g₂ g₃) = rw g₁.text
not_timed (debit g₁ g₂ g₃ g₄) = rw g₁.text

pub not_timed_many : {k : ℕ} {l r : List ℕ} → 1 ≤ k → PaymentsText k l r → begins (bytes ":175:") l ≡ false
not_timed_many h none_left = absurd (omega arith)
not_timed_many h (one_more p q) = not_timed p

lit_none : (s : List ℕ) (at : ℕ) (p : List ℕ) {l : List ℕ} → drop at s ≡ l → begins p l ≡ false → lit_at s at p ≡ None
unfolding lit_at
lit_none s at p h e = rw (h, e)

pub record Activates (s : List ℕ) (at : ℕ) (r : List ℕ) : Type 0 where
  pub of : Activation
  pub part : Part
  pub next : ℕ
  pub is : activation_at s at ≡ Ok (of, part, place next)
  pub rest : drop next s ≡ r

activation_complete : (s : List ℕ) (at : ℕ) {l r : List ℕ} → drop at s ≡ l → ((l ≡ r) ⊎ Line (bytes ":175:") IsTime l r) → begins (bytes ":175:") r ≡ false → Activates s at r
unfolding activation_at
activation_complete s at h (inl e) n = record { of = AtOnce; part = no_part; next = at; is = simp (lit_none s at (bytes ":175:") (h ∙ e) n); rest = h ∙ e }
activation_complete s at {r = r} h (inr g) n =
    let a = line_complete s at (bytes ":175:") Time 0 tt h g in
    record { of = Minute a.number; part = record { start = at + 5; end = at + 5 + length g.value }; next = at + 5 + length g.value + 2; is = simp (lit_reads s at (bytes ":175:") (g.value ++ (crlf ++ r)) (h ∙ line_text_lem g), a.is); rest = a.rest }

-- nothing is left of the text
ended_here : (s : List ℕ) (at : ℕ) → drop at s ≡ [] → ltb at (length s) ≡ false
ended_here s at h = le-ltb at (length s) (omega (arith, sym (length-drop at s) ∙ ap length h))

pub not_more : {n : ℕ} {l r : List ℕ} → Line (bytes ":203:") (IsCount n) l r → begins (bytes ":127:") l ≡ false
unfolding begins
not_more g = rw g.text

settled : (s : List ℕ) (at : ℕ) (h : Head) {l : List ℕ} (g : BodyText l) → drop at s ≡ l → (settlement_at s at h).outcome ≡ Settlement
unfolding settlement_at terms_at
settled s at h g e = go g.many g.least g.most g.payments g.count
  where
    go : (m : ℕ) → 1 ≤ m → m ≤ 10 → PaymentsText m g.r₄ g.r₅ → Line (bytes ":203:") (IsCount m) g.r₅ [] → (settlement_at s at h).outcome ≡ Settlement
    go zero l u p c = absurd (omega arith)
    go (suc k) l u p c =
        let a = line_complete s at (bytes ":16A:") Numbers 0 tt e g.numbers in
        let b = line_complete s (at + 5 + length g.numbers.value + 2) (bytes ":171:") Date 0 tt a.rest g.date in
        let t = activation_complete s (at + 5 + length g.numbers.value + 2 + 5 + length g.date.value + 2) b.rest g.activation (not_timed_many l p) in
        let q = payments_complete s t.next k t.rest p u (not_more c) in
        let w = line_complete s q.next (bytes ":203:") (Count (suc k)) 0 tt q.rest c in
        simp (a.is, b.is, t.is, q.is, q.count, w.is, ended_here s (q.next + 5 + length c.value + 2) w.rest)

-- complete: a text of the grammar is accepted
pub settlement_complete : (s : List ℕ) → SettlementText s → (request_at s).outcome ≡ Settlement
settlement_complete s g =
    let h = head_complete 131 s refl g.head in
    ap (λ (r : Reading). r.outcome) h.is ∙ settled s h.next h.of g.body h.rest

recalled : (s : List ℕ) (at : ℕ) (h : Head) → drop at s ≡ [] → (recall_at s at h).outcome ≡ Recall
unfolding recall_at
recalled s at h e = simp (ended_here s at e)

pub recall_complete : (s : List ℕ) → RecallText s → (request_at s).outcome ≡ Recall
recall_complete s g =
    let h = head_complete 133 s refl g in
    ap (λ (r : Reading). r.outcome) h.is ∙ recalled s h.next h.of h.rest

-- sound: what is accepted is a text of the grammar

-- two steps that read the same: the three parts of what they read are the same
ok_three : {A B C E : Type 0} {a x : A} {b y : B} {c z : C} → ◌≡◌ {A = Result (A × B × C) E} (Ok (a, b, c)) (Ok (x, y, z)) → (a ≡ x) × (b ≡ y) × (c ≡ z)
ok_three {A} {B} {C} {E} {a} {x} {b} {y} {c} {z} h =
    let e : ◌≡◌ {A = A × B × C} (a, b, c) (x, y, z) = cc in
    (ap (λ (r : A × B × C). r.0) e, ap (λ (r : A × B × C). r.1) e, ap (λ (r : A × B × C). r.2) e)

record AddressStands (s l r : List ℕ) (a : Address) : Type 0 where
  r₃ : List ℕ
  r₄ : List ℕ
  empty : Line (bytes ":77E:") IsEmpty l r₃
  stream : Line (bytes ":22A:") (IsWord 4) r₃ r₄
  bin : Line (bytes ":119:") (IsBin stream.value) r₄ r
  stream_is : a.stream.number ≡ packed 4 stream.value
  bin_is : a.bin.code ≡ long_of bin.value
  stream_part : text_of s a.stream.part ≡ stream.value
  bin_part : text_of s a.bin.part ≡ bin.value

-- the code of a name is that of its value
code_is : (s : List ℕ) (p : Part) (v : List ℕ) → text_of s p ≡ v → (named_at s p).code ≡ long_of v
unfolding named_at code_of
code_is s p v h = ap long_of h

named_part : (s : List ℕ) (p : Part) (v : List ℕ) → text_of s p ≡ v → text_of s (named_at s p).part ≡ v
unfolding named_at
named_part s p v h = h

on_address : {A : Type 0} (s : List ℕ) (at : ℕ) (tag : List ℕ) (k : Kind) (x : Address) (f : Item → Cursor → Result (Address × Cursor) (Break × Address)) {a : Address} {c : Cursor} → on_good (field_at s at tag k) (λ b. Err (b, x)) f ≡ Ok (a, c) → ((i : Item) (d : Cursor) → field_at s at tag k ≡ Ok (i, d) → f i d ≡ Ok (a, c) → A) → A
on_address {A} s at tag k x f {a} {c} h g = go (field_at s at tag k) refl h
  where
    go : (y : Result (Item × Cursor) Break) → field_at s at tag k ≡ y → on_good y (λ b. Err (b, x)) f ≡ Ok (a, c) → A
    go (Ok (i, d)) q h = g i d q h
    go (Err b) q h = not_read h

address_sound : (s : List ℕ) (at : ℕ) {a : Address} {c : Cursor} → address_at s at ≡ Ok (a, c) → AddressStands s (drop at s) (drop c.at s) a
unfolding address_at
address_sound s at {a} {c} h = on_address s at (bytes ":77E:") Empty nowhere _ h (λ i d q₁ r₁.
    on_address s d.at (bytes ":22A:") (Word 4) nowhere _ r₁ (λ j e q₂ r₂.
    on_address s e.at (bytes ":119:") (Bin j.part) (to_stream j) _ r₂ (λ k f q₃ r₃.
    let z = ok_pair r₃ in
    let y : a ≡ address Both j (named_at s k.part) = sym z.0 in
    let g₂ = line_read s d.at (bytes ":22A:") (Word 4) 0 (omega arith) q₂ in
    let w : j.part.end ≡ j.part.start + 4 = rw g₂.span (omega (arith, g₂.line.is.size)) in
    let g₃ = line_read s e.at (bytes ":119:") (Bin j.part) j.part.end (omega arith, omega (arith, w)) (q₃ ∙ ap (λ (g : Cursor). Ok (k, g)) z.1) in
    record {
      r₃ = drop d.at s;
      r₄ = drop e.at s;
      empty = line_sound s at (bytes ":77E:") Empty q₁;
      stream = g₂.line;
      bin = record { value = g₃.line.value; text = g₃.line.text; is = subst (λ (w : List ℕ). IsBin w g₃.line.value) g₂.text g₃.line.is };
      stream_is = ap (λ (x : Address). x.stream.number) y ∙ g₂.means refl;
      bin_is = ap (λ (x : Address). x.bin.code) y ∙ code_is s k.part g₃.line.value g₃.text;
      stream_part = ap (λ (x : Address). text_of s x.stream.part) y ∙ g₂.text;
      bin_part = ap (λ (x : Address). text_of s x.bin.part) y ∙ named_part s k.part g₃.line.value g₃.text;
    })))

record ActivationStands (s l r : List ℕ) (m : Activation) (p : Part) : Type 0 where
  text : (l ≡ r) ⊎ Line (bytes ":175:") IsTime l r
  says : ActivationSays text m
  part : ActivationPart s text p

activation_sound : (s : List ℕ) (at : ℕ) {m : Activation} {p : Part} {c : Cursor} → activation_at s at ≡ Ok (m, p, c) → ActivationStands s (drop at s) (drop c.at s) m p
unfolding activation_at
activation_sound s at {m} {p} {c} h = go (lit_at s at (bytes ":175:")) h
  where
    timed : (x : Result (Item × Cursor) Break) → field_at s at (bytes ":175:") Time ≡ x → on_good {A = Result (Activation × Part × Cursor) Break} x Err (λ i d. Ok (Minute i.number, i.part, d)) ≡ Ok (m, p, c) → ActivationStands s (drop at s) (drop c.at s) m p
    timed (Ok (i, d)) q h =
        let z = ok_three h in
        let g = line_read s at (bytes ":175:") Time 0 tt (q ∙ ap (λ (e : Cursor). Ok (i, e)) z.2) in
        record { text = inr g.line; says = sym z.0 ∙ ap Minute g.means; part = ap (text_of s) (sym z.1) ∙ g.text }
    timed (Err b) q h = not_read h

    go : (r : Option ℕ) → on_next {A = Result (Activation × Part × Cursor) Break} r (Ok (AtOnce, no_part, place at)) (λ a. on_good (field_at s at (bytes ":175:") Time) Err (λ i d. Ok (Minute i.number, i.part, d))) ≡ Ok (m, p, c) → ActivationStands s (drop at s) (drop c.at s) m p
    go None h =
        let z = ok_three h in
        record { text = inl (ap (λ (k : Cursor). drop k.at s) z.2); says = sym z.0; part = ap (text_of s) (sym z.1) ∙ no_text s }
    go (Some a) h = timed (field_at s at (bytes ":175:") Time) refl h

record TermsStand (s l r : List ℕ) (t : Terms) : Type 0 where
  r₂ : List ℕ
  r₃ : List ℕ
  numbers : Line (bytes ":16A:") IsNumbers l r₂
  date : Line (bytes ":171:") IsDate r₂ r₃
  activation : (r₃ ≡ r) ⊎ Line (bytes ":175:") IsTime r₃ r
  number_is : t.number ≡ value_of 0 numbers.is.number
  count_is : t.count ≡ value_of 0 numbers.is.count
  date_is : t.date.number ≡ date.is.day
  activation_is : ActivationSays activation t.activation
  numbers_part : text_of s t.numbers ≡ numbers.value
  date_part : text_of s t.date.part ≡ date.value
  activation_part : ActivationPart s activation t.activated

terms_sound : (s : List ℕ) (at : ℕ) {t : Terms} {c : Cursor} → terms_at s at ≡ Ok (t, c) → TermsStand s (drop at s) (drop c.at s) t
unfolding terms_at
terms_sound s at {t} {c} h = go₁ (field_at s at (bytes ":16A:") Numbers) refl h
  where
    go₃ : (i j : Item) (d e : Cursor) → field_at s at (bytes ":16A:") Numbers ≡ Ok (i, d) → field_at s d.at (bytes ":171:") Date ≡ Ok (j, e) → (x : Result (Activation × Part × Cursor) Break) → activation_at s e.at ≡ x → on_given {A = Result (Terms × Cursor) Break} x Err (λ m p f. Ok (terms s i j m p, f)) ≡ Ok (t, c) → TermsStand s (drop at s) (drop c.at s) t
    go₃ i j d e q₁ q₂ (Ok (m, p, f)) q₃ h =
        let z = ok_pair h in
        let y : t ≡ terms s i j m p = sym z.0 in
        let a = line_read s at (bytes ":16A:") Numbers 0 tt q₁ in
        let b = line_read s d.at (bytes ":171:") Date 0 tt q₂ in
        let k = activation_sound s e.at (q₃ ∙ ap (λ (g : Cursor). Ok (m, p, g)) z.1) in
        record {
          r₂ = drop d.at s;
          r₃ = drop e.at s;
          numbers = a.line;
          date = b.line;
          activation = k.text;
          number_is = ap (λ (u : Terms). u.number) y ∙ a.means;
          count_is = ap (λ (u : Terms). u.count) y ∙ ap count_in a.text ∙ count_in_lem a.line.is;
          date_is = ap (λ (u : Terms). u.date.number) y ∙ b.means;
          activation_is = subst (λ (u : Terms). ActivationSays k.text u.activation) (sym y) k.says;
          numbers_part = ap (λ (u : Terms). text_of s u.numbers) y ∙ a.text;
          date_part = ap (λ (u : Terms). text_of s u.date.part) y ∙ b.text;
          activation_part = subst (λ (u : Terms). ActivationPart s k.text u.activated) (sym y) k.part;
        }
    go₃ i j d e q₁ q₂ (Err b) q₃ h = not_read h

    go₂ : (i : Item) (d : Cursor) → field_at s at (bytes ":16A:") Numbers ≡ Ok (i, d) → (x : Result (Item × Cursor) Break) → field_at s d.at (bytes ":171:") Date ≡ x → on_good {A = Result (Terms × Cursor) Break} x Err (λ j e. on_given (activation_at s e.at) Err (λ m p f. Ok (terms s i j m p, f))) ≡ Ok (t, c) → TermsStand s (drop at s) (drop c.at s) t
    go₂ i d q₁ (Ok (j, e)) q₂ h = go₃ i j d e q₁ q₂ (activation_at s e.at) refl h
    go₂ i d q₁ (Err b) q₂ h = not_read h

    go₁ : (x : Result (Item × Cursor) Break) → field_at s at (bytes ":16A:") Numbers ≡ x → on_good {A = Result (Terms × Cursor) Break} x Err (λ i d. on_good (field_at s d.at (bytes ":171:") Date) Err (λ j e. on_given (activation_at s e.at) Err (λ m p f. Ok (terms s i j m p, f)))) ≡ Ok (t, c) → TermsStand s (drop at s) (drop c.at s) t
    go₁ (Ok (i, d)) q₁ h = go₂ i d q₁ (field_at s d.at (bytes ":171:") Date) refl h
    go₁ (Err b) q₁ h = not_read h

-- an outcome that is no refusal
module _ (o : Outcome) (ok : (b : Break) → Refused b ≡ o → ⊥) where
  on_reading : {A : Type 0} (s : List ℕ) (at : ℕ) (tag : List ℕ) (k : Kind) (u : Item) (x : Address) (f : Item → Cursor → Reading) → (on_good (field_at s at tag k) (λ b. refusal u b x) f).outcome ≡ o → ((i : Item) (d : Cursor) → field_at s at tag k ≡ Ok (i, d) → (f i d).outcome ≡ o → A) → A
  on_reading {A} s at tag k u x f h g = go (field_at s at tag k) refl h
    where
      go : (y : Result (Item × Cursor) Break) → field_at s at tag k ≡ y → (on_good y (λ b. refusal u b x) f).outcome ≡ o → A
      go (Ok (i, d)) q h = g i d q h
      go (Err b) q h = absurd (ok b h)

  on_ending : {A : Type 0} (s : List ℕ) (at : ℕ) (x : Head) (r : Reading) → (ending s at x r).outcome ≡ o → (ltb at (length s) ≡ false → r.outcome ≡ o → A) → A
  on_ending {A} s at x r h f = go (ltb at (length s)) refl h
    where
      go : (b : Bool) → ltb at (length s) ≡ b → (cond b (refusal x.subtype (absent at) x.address) r).outcome ≡ o → A
      go true q h = absurd (ok (absent at) h)
      go false q h = f q h

  -- the head
  record HeadStands (s : List ℕ) : Type 0 where
    kind : ℕ
    known : member kind (131 ∷ 133 ∷ []) ≡ true
    of : Head
    next : ℕ
    says : HeadSays kind s (drop next s) of
    same : request_at s ≡ cond (eqb kind 131) (settlement_at s next of) (recall_at s next of)
    is : (cond (eqb kind 131) (settlement_at s next of) (recall_at s next of)).outcome ≡ o

  head_sound : (s : List ℕ) → (request_at s).outcome ≡ o → HeadStands s
  unfolding request_at message_at
  head_sound s h = on_reading s 0 (bytes ":20:") Reference nothing nowhere _ h (λ i c q₁ r₁.
      on_reading s c.at (bytes ":12:") (Numeral 3) nothing nowhere _ r₁ (λ t d q₂ r₂. typed i c t d q₁ q₂ (member t.number (131 ∷ 133 ∷ [])) refl r₂))
    where
      addressed : (i : Item) (c : Cursor) (t : Item) (d : Cursor) → field_at s 0 (bytes ":20:") Reference ≡ Ok (i, c) → field_at s c.at (bytes ":12:") (Numeral 3) ≡ Ok (t, d) → member t.number (131 ∷ 133 ∷ []) ≡ true → (x : Result (Address × Cursor) (Break × Address)) → address_at s d.at ≡ x → (on_to x (refusal t) (λ a e. cond (eqb t.number 131) (settlement_at s e.at (head (named_at s i.part) t a)) (recall_at s e.at (head (named_at s i.part) t a)))).outcome ≡ o → HeadStands s
      addressed i c t d q₁ q₂ m (Err (b, a)) q₃ h = absurd (ok b h)
      addressed i c t d q₁ q₂ m (Ok (a, e)) q₃ h =
          let g₁ = line_read s 0 (bytes ":20:") Reference 0 tt q₁ in
          let g₂ = line_read s c.at (bytes ":12:") (Numeral 3) 0 (omega arith) q₂ in
          let g₃ = address_sound s d.at q₃ in
          record {
            kind = t.number;
            known = m;
            of = head (named_at s i.part) t a;
            next = e.at;
            says = record {
              text = record {
                r₁ = drop c.at s;
                r₂ = drop d.at s;
                r₃ = g₃.r₃;
                r₄ = g₃.r₄;
                reference = g₁.line;
                three_digits = record { value = g₂.line.value; text = g₂.line.text; is = (g₂.line.is, sym g₂.means) };
                empty = g₃.empty;
                stream = g₃.stream;
                bin = g₃.bin;
              };
              reference = code_is s i.part g₁.line.value g₁.text;
              subtype = refl;
              stream = g₃.stream_is;
              bin = g₃.bin_is;
              reference_part = named_part s i.part g₁.line.value g₁.text;
              subtype_part = g₂.text;
              stream_part = g₃.stream_part;
              bin_part = g₃.bin_part;
            };
            same = simp (q₁, q₂, m, q₃);
            is = h;
          }

      typed : (i : Item) (c : Cursor) (t : Item) (d : Cursor) → field_at s 0 (bytes ":20:") Reference ≡ Ok (i, c) → field_at s c.at (bytes ":12:") (Numeral 3) ≡ Ok (t, d) → (b : Bool) → member t.number (131 ∷ 133 ∷ []) ≡ b → (cond b (on_to (address_at s d.at) (refusal t) (λ a e. cond (eqb t.number 131) (settlement_at s e.at (head (named_at s i.part) t a)) (recall_at s e.at (head (named_at s i.part) t a)))) (unread (broken c.at OtherSubType))).outcome ≡ o → HeadStands s
      typed i c t d q₁ q₂ true m h = addressed i c t d q₁ q₂ m (address_at s d.at) refl h
      typed i c t d q₁ q₂ false m h = absurd (ok (broken c.at OtherSubType) h)

  -- what follows 119
  record BodyStands (s l : List ℕ) (x : Head) (r : Reading) : Type 0 where
    settles : Settlement ≡ o
    of : r.head ≡ x
    says : BodySays l r
    parts : BodyParts s says.text r

  body_sound : (s : List ℕ) (at : ℕ) (x : Head) → (settlement_at s at x).outcome ≡ o → BodyStands s (drop at s) x (settlement_at s at x)
  unfolding settlement_at
  body_sound s at x h = go₁ (terms_at s at) refl h
    where
      go₂ : (u : Terms) (c : Cursor) → terms_at s at ≡ Ok (u, c) → (e : Result Cursor Break) → (payments_at s c.at).ending ≡ e → (on_done e (λ b. refusal x.subtype b x.address) (λ d. on_good (field_at s d.at (bytes ":203:") (Count (payments_at s c.at).n)) (λ b. refusal x.subtype b x.address) (λ count f. ending s f.at x (settlement x u (payments_at s c.at) count)))).outcome ≡ o → BodyStands s (drop at s) x (settlement_at s at x)
      go₂ u c q (Err b) p h = absurd (ok b h)
      go₂ u c q (Ok d) p h = on_reading s d.at (bytes ":203:") (Count (payments_at s c.at).n) x.subtype x.address _ h (λ i f q₃ r.
          on_ending s f.at x (settlement x u (payments_at s c.at) i) r (λ at_end last.
          let nil = drop_of_length-le s (ltb-false f.at (length s) at_end) in
          let same : settlement_at s at x ≡ settlement x u (payments_at s c.at) i = simp (q, p, q₃, at_end) in
          let g = terms_sound s at q in
          let w = payments_sound s c.at d p in
          let n : (payments_at s c.at).n ≡ w.many = w.count ∙ omega arith in
          let v = line_read s d.at (bytes ":203:") (Count (payments_at s c.at).n) 0 tt q₃ in
          let k = v.line in
          subst (λ (y : Reading). BodyStands s (drop at s) x y) (sym same) (record {
            settles = last;
            of = refl;
            says = record {
              text = record {
                r₂ = g.r₂;
                r₃ = g.r₃;
                r₄ = drop c.at s;
                r₅ = drop d.at s;
                numbers = g.numbers;
                date = g.date;
                activation = g.activation;
                many = w.many;
                least = w.least (omega arith);
                most = w.most;
                payments = w.text;
                count = record { value = k.value; text = k.text ∙ ap (λ (l : List ℕ). line (bytes ":203:") k.value ++ l) nil; is = subst (λ (m : ℕ). IsCount m k.value) n k.is };
              };
              number = g.number_is;
              count = g.count_is;
              date = g.date_is;
              activation = g.activation_is;
              n = n;
              size = w.size;
              payments = w.says;
            };
            parts = record { numbers = g.numbers_part; date = g.date_part; activation = g.activation_part; payments = w.parts; count = v.text };
          })))

      go₁ : (t : Result (Terms × Cursor) Break) → terms_at s at ≡ t → (on_whole t (λ b. refusal x.subtype b x.address) (λ u c. on_done (payments_at s c.at).ending (λ b. refusal x.subtype b x.address) (λ d. on_good (field_at s d.at (bytes ":203:") (Count (payments_at s c.at).n)) (λ b. refusal x.subtype b x.address) (λ count f. ending s f.at x (settlement x u (payments_at s c.at) count))))).outcome ≡ o → BodyStands s (drop at s) x (settlement_at s at x)
      go₁ (Ok (u, c)) q h = go₂ u c q (payments_at s c.at).ending refl h
      go₁ (Err b) q h = absurd (ok b h)

  record RecallStands (l : List ℕ) (x : Head) (r : Reading) : Type 0 where
    recalls : Recall ≡ o
    of : r.head ≡ x
    nil : l ≡ []

  recall_ends : (s : List ℕ) (at : ℕ) (x : Head) → (recall_at s at x).outcome ≡ o → RecallStands (drop at s) x (recall_at s at x)
  unfolding recall_at
  recall_ends s at x h = on_ending s at x (bare Recall x) h (λ at_end last.
      let same : recall_at s at x ≡ bare Recall x = simp at_end in
      record { recalls = last; of = ap (λ (y : Reading). y.head) same; nil = drop_of_length-le s (ltb-false at (length s) at_end) })

settles_not : (b : Break) → Refused b ≡ Settlement → ⊥
settles_not b h = let z : ◌≡◌ {A = ℕ} 0 1 = cc in omega arith

recalls_not : (b : Break) → Refused b ≡ Recall → ⊥
recalls_not b h = let z : ◌≡◌ {A = ℕ} 0 1 = cc in omega arith

-- what a settlement request that was read says, by its text
pub settlement_says : (s : List ℕ) → (request_at s).outcome ≡ Settlement → SettlementSays s (request_at s)
settlement_says s h = go (eqb g.kind 131) refl g.same g.is
  where
    g : HeadStands Settlement settles_not s
    g = head_sound Settlement settles_not s h

    go : (b : Bool) → eqb g.kind 131 ≡ b → request_at s ≡ cond b (settlement_at s g.next g.of) (recall_at s g.next g.of) → (cond b (settlement_at s g.next g.of) (recall_at s g.next g.of)).outcome ≡ Settlement → SettlementSays s (request_at s)
    go true e same h =
        let z = eqb-true g.kind 131 e in
        let k = subst (BodyStands Settlement settles_not s (drop g.next s) g.of) (sym same) (body_sound Settlement settles_not s g.next g.of h) in
        let y : (request_at s).head ≡ g.of = k.of in
        record {
          rest = drop g.next s;
          head = subst (λ (x : Head). HeadSays 131 s (drop g.next s) x) (sym y) (subst (λ (n : ℕ). HeadSays n s (drop g.next s) g.of) z g.says);
          body = k.says;
          parts = k.parts;
        }
    go false e same h =
        let p = (recall_ends Settlement settles_not s g.next g.of h).recalls in
        let z : ◌≡◌ {A = ℕ} 0 1 = cc in
        absurd (omega arith)

pub settlement_sound : (s : List ℕ) → (request_at s).outcome ≡ Settlement → SettlementText s
settlement_sound s h = let g = settlement_says s h in record { rest = g.rest; head = g.head.text; body = g.body.text }

other_kind : (k : ℕ) → member k (131 ∷ 133 ∷ []) ≡ true → eqb k 131 ≡ false → k ≡ 133
other_kind k m e = go (eqb k 133) refl (rw e at m)
  where
    go : (b : Bool) → eqb k 133 ≡ b → (b || false) ≡ true → k ≡ 133
    go true q h = eqb-true k 133 q
    go false q h = absurd (false≢true h)

-- and a recall
pub recall_says : (s : List ℕ) → (request_at s).outcome ≡ Recall → RecallSays s (request_at s)
recall_says s h = go (eqb g.kind 131) refl g.same g.is
  where
    g : HeadStands Recall recalls_not s
    g = head_sound Recall recalls_not s h

    go : (b : Bool) → eqb g.kind 131 ≡ b → request_at s ≡ cond b (settlement_at s g.next g.of) (recall_at s g.next g.of) → (cond b (settlement_at s g.next g.of) (recall_at s g.next g.of)).outcome ≡ Recall → RecallSays s (request_at s)
    go true e same h =
        let p = (body_sound Recall recalls_not s g.next g.of h).settles in
        let z : ◌≡◌ {A = ℕ} 0 1 = cc in
        absurd (omega arith)
    go false e same h =
        let p = recall_ends Recall recalls_not s g.next g.of h in
        let y : (request_at s).head ≡ g.of = ap (λ (x : Reading). x.head) same ∙ p.of in
        let t = subst (λ (k : ℕ). HeadSays k s (drop g.next s) g.of) (other_kind g.kind g.known e) g.says in
        subst (λ (x : Head). HeadSays 133 s [] x) (sym y) (subst (λ (r : List ℕ). HeadSays 133 s r g.of) p.nil t)

pub recall_sound : (s : List ℕ) → (request_at s).outcome ≡ Recall → RecallText s
recall_sound s h = (recall_says s h).text
