-- Rows of words: four stores are a field, and fields one after another are a row.
use Rattle.std.specs.Prelude.{Result, Ok, Err}
use Prim.Native.Nat.{ℕ, zero, suc, ◌+◌, ◌*◌, ◌≤◌, ◌<◌}
use mathlib.Core.Path.{◌≡◌, refl, ap, sym, ◌∙◌}
use mathlib.Core.Bool.{Bool, true, false, not, cond}
use mir.Val.{bool_byte}
use mathlib.Core.List.{List, [], ◌∷◌, ◌++◌}
use native.Mathlib.Nat.{add-zero, zero-add, suc-add}
use native.Mathlib.Numerals.{add-one}
use native.Mathlib.Omega.{arith}
use borrow.Author.Tests.{lt-ltb, le-ltb}
use lib.ListN.{length, set, replicate}
use lib.Seq.{sets}
use Rattle.text_put.proofs.Laws.{then, three}
use Rattle.chars.specs.Words.{bytes}
use Rattle.chars.specs.Refusals.{number_of}
use Rattle.text_scan.specs.declared.Cursor.{Cursor}
use Rattle.text_fields.specs.Fields.{absent, nothing, place, field_at, why_not}
use Rattle.text_fields.specs.declared.Break.{Break}
use Rattle.text_fields.specs.declared.Item.{Item}
use Rattle.text_fields.specs.declared.Kind.TheVariants.{Count}
use Rattle.request_read.specs.terms.Terms.{no_terms, terms_at}
use Rattle.request_read.specs.declared.terms.Terms.{Terms}
use Rattle.request_read.specs.payments.Payments.{none, payment_at, more_at, ended, payments_at}
use Rattle.request_read.specs.declared.payments.Payment.{Payment}
use Rattle.request_read.specs.declared.payments.Payments.{Payments}
use Rattle.request_read.proofs.payments.Laws.{Going, going_from, going_full, going_cut, going_last, going_on}
use Rattle.request_read.proofs.whole.Laws.{settlement_2, settlement_3, settlement_4, settlement_5}
use Rattle.request_read.specs.whole.Request.{bare, refusal, settlement, cut_by, settlement_at}
use Rattle.request_read.specs.declared.whole.Address.{Address}
use Rattle.request_read.specs.declared.whole.Head.{Head}
use Rattle.request_read.specs.declared.whole.Outcome.{Outcome}
use Rattle.request_read.specs.declared.whole.Outcome.TheVariants.{Recall, Refused}
use Rattle.request_read.specs.declared.whole.Reading.{Reading}
use Rattle.book_read.specs.Book.{book_check}
use Rattle.chars.specs.declared.Refusal.{Refusal}
use Rattle.chars.specs.declared.Refusal.TheVariants.{ShortBuffer}
use Rattle.c_gateway.specs.declared.Paying.{Paying}
use Rattle.c_gateway.specs.Rows.{field_words, item_words, code_words, break_words, number_in, row_after}
use Rattle.codes.specs.Codes.{no_code}
use Rattle.c_gateway.specs.Requests.{named_words, address_words, head_words, activation_minute, activation_given, terms_words, payment_words, payments_words, paying_at, accepted_words, reached_number, refused_words, reading_number, reading_words}
use Rattle.codes.specs.declared.Code.{Code}
use Rattle.response_write.specs.declared.Settlement.{Settlement as Response132}
use Rattle.response_write.specs.declared.Recall.{Recall as Response134}
use Rattle.response_read.specs.declared.Parts.{Parts}
use Rattle.c_gateway.specs.Responses.{number_words, batch_words, status_words, outcome_status, outcome_first, outcome_second, answer_status, answer_number, settlement_words, recall_words}
use Rattle.c_gateway.specs.Books.{book_number}

-- ---- four words

pub four : (row : List ℕ) (at a b c d : ℕ) → set (set (set (set row (at + 0) a) (at + 1) b) (at + 2) c) (at + 3) d ≡ sets row at (a ∷ b ∷ c ∷ d ∷ [])
four row at a b c d =
    let two : at + 2 ≡ suc (suc at) = omega arith in
    let three : at + 3 ≡ suc (suc (suc at)) = omega arith in
    simp (add-zero, add-one, two, three)

-- a test as a word
pub bit_of : (b : Bool) → bool_byte b ≡ cond b 1 0
bit_of true = refl
bit_of false = refl

-- ---- fields one after another

pub address_row : (row : List ℕ) (a : Address) {o₁ o₂ : List ℕ} → o₁ ≡ sets row 8 (item_words a.stream) → o₂ ≡ sets o₁ 12 (named_words a.bin) → o₂ ≡ sets row 8 (address_words a)
address_row row a e f = then row (item_words a.stream) (named_words a.bin) 8 e f refl

pub head_row : (row : List ℕ) (h : Head) {o₁ o₂ o₃ : List ℕ} → o₁ ≡ sets row 0 (named_words h.reference) → o₂ ≡ sets o₁ 4 (item_words h.subtype) → o₃ ≡ sets o₂ 8 (address_words h.address) → o₃ ≡ sets row 0 (head_words h)
head_row row h e f g = three row (named_words h.reference) (item_words h.subtype) (address_words h.address) 0 e f g refl refl

pub terms_row : (row : List ℕ) (t : Terms) {o₁ o₂ o₃ : List ℕ} → o₁ ≡ sets row 16 (field_words t.numbers t.number t.count) → o₂ ≡ sets o₁ 20 (item_words t.date)
    → o₃ ≡ sets o₂ 24 (field_words t.activated (activation_minute t.activation) (activation_given t.activation)) → o₃ ≡ sets row 16 (terms_words t)
terms_row row t e f g =
    three row (field_words t.numbers t.number t.count) (item_words t.date) (field_words t.activated (activation_minute t.activation) (activation_given t.activation)) 16 e f g refl refl

pub payment_row : (row : List ℕ) (at : ℕ) (p : Payment) {o₁ o₂ o₃ o₄ : List ℕ} → o₁ ≡ sets row (at + 0) (item_words p.side) → o₂ ≡ sets o₁ (at + 4) (item_words p.amount)
    → o₃ ≡ sets o₂ (at + 8) (item_words p.letters) → o₄ ≡ sets o₃ (at + 12) (item_words p.bank) → o₄ ≡ sets row at (payment_words p)
payment_row row at p e f g h =
    then row (item_words p.side ++ (item_words p.amount ++ item_words p.letters)) (item_words p.bank) at
    (three row (item_words p.side) (item_words p.amount) (item_words p.letters) at (simp add-zero at e) f g refl (omega arith)) h refl

pub accepted_row : (row : List ℕ) (h : Head) (t : Terms) (count : Item) (places : List ℕ) {o₁ o₂ o₃ o₄ : List ℕ} → o₁ ≡ sets row 0 (head_words h) → o₂ ≡ sets o₁ 16 (terms_words t)
    → o₃ ≡ sets o₂ 28 (item_words count) → o₄ ≡ sets o₃ 32 places → o₄ ≡ sets row 0 ((head_words h ++ (terms_words t ++ item_words count)) ++ places)
accepted_row row h t count places e f g k =
    then row (head_words h ++ (terms_words t ++ item_words count)) places 0
    (three row (head_words h) (terms_words t) (item_words count) 0 e f g refl refl) k refl

pub refused_row : (row : List ℕ) (b : Break) (h : Head) {k : ℕ} {o₁ o₂ o₃ : List ℕ} → k ≡ reached_number h.address.reached → o₁ ≡ sets row 0 (break_words b k)
    → o₂ ≡ sets o₁ 4 (item_words h.subtype) → o₃ ≡ sets o₂ 8 (address_words h.address) → o₃ ≡ sets row 0 (refused_words b h)
unfolding refused_words
refused_row row b h x e f g =
    three row (break_words b (reached_number h.address.reached)) (item_words h.subtype) (address_words h.address) 0 (rw x at e) f g refl refl

-- ---- the book

pub sound_book : (book : List ℕ) {a : Result (Unit {0}) Refusal} → a ≡ book_check book → a ≡ Ok tt → 0 ≡ book_number book
unfolding book_number
sound_book book e f = simp (← e, f)

pub faulty_book : (book : List ℕ) {a : Result (Unit {0}) Refusal} {f : Refusal} {n : ℕ} → a ≡ book_check book → a ≡ Err f → n ≡ number_of f → n ≡ book_number book
unfolding book_number
faulty_book book e g h = simp (h, ← e, g)

-- ---- the loop over the payments

words_long : (ps : List Payment) → length (payments_words ps) ≡ 16 * length ps
words_long [] = refl
words_long (p ∷ ps) = omega (arith, words_long ps)

-- a run of stores behind the first words of a row
sets_next : (x : ℕ) (l : List ℕ) (i : ℕ) (vs : List ℕ) → sets (x ∷ l) (suc i) vs ≡ x ∷ sets l i vs
sets_next x l i [] = refl
sets_next x l i (v ∷ vs) = sets_next x (set l i v) (suc i) vs

sets_behind : (xs l : List ℕ) (i : ℕ) (vs : List ℕ) → sets (xs ++ l) (length xs + i) vs ≡ xs ++ sets l i vs
sets_behind [] l i vs = simp zero-add
sets_behind (x ∷ xs) l i vs = simp suc-add (sets_next x (xs ++ l) (length xs + i) vs ∙ ap (λ (r : List ℕ). x ∷ r) (sets_behind xs l i vs))

-- a payment put into its place
put_one : (ps : List Payment) (n : ℕ) (p : Payment) → n < length ps → payments_words (set ps n p) ≡ sets (payments_words ps) (16 * n) (payment_words p)
put_one [] n p h = absurd (omega arith)
put_one (q ∷ ps) zero p h = refl
put_one (q ∷ ps) (suc n) p h =
    let past : 16 + 16 * n ≡ 16 * suc n = omega arith in
    ap (λ (l : List ℕ). payment_words q ++ l) (put_one ps n p (omega arith))
    ∙ sym (sets_behind (payment_words q) (payments_words ps) (16 * n) (payment_words p))
    ∙ ap (λ (i : ℕ). sets (payments_words (q ∷ ps)) i (payment_words p)) past

-- where it stands that has read n payments, up to the place j, and put them
pub record Put (s : List ℕ) (at : ℕ) (places : List ℕ) (n j : ℕ) : Type 0 where
  pub items : List Payment
  pub there : places ≡ payments_words items
  pub going : Going s at items n j

pub put_from_lem : (s : List ℕ) (at : ℕ) {places : List ℕ} → places ≡ payments_words none → Put s at places 0 at
put_from_lem s at e = record { items = none; there = e; going = going_from s at refl }

module _ {s : List ℕ} {at n j : ℕ} {places : List ℕ} (g : Put s at places n j) where
  pub put_long : length places ≡ 160
  put_long = ap length g.there ∙ words_long g.items ∙ omega (arith, g.going.size)

  told : {e : Result Cursor Break} {m : ℕ} {ps : List Payment} {o : List ℕ} → o ≡ payments_words ps → ended e m ps ≡ payments_at s at → (record { ending = e; n = m } ≡ paying_at s at) × (o ≡ payments_words (payments_at s at).items)
  told o e = rw (← e) (refl, o)

  pub put_full : 10 ≤ n → (record { ending = Ok (place j); n = 10 } ≡ paying_at s at) × (places ≡ payments_words (payments_at s at).items)
  put_full h = told g.there (going_full g.going h)

  pub put_cut : {r : Result (Payment × Cursor) Break} {b : Break} → n < 10 → r ≡ payment_at s j → r ≡ Err b → (record { ending = Err b; n = n } ≡ paying_at s at) × (places ≡ payments_words (payments_at s at).items)
  put_cut h p q = told g.there (going_cut g.going h p q)

  module _ {r : Result (Payment × Cursor) Break} {q : Payment} {c : Cursor} {b : Bool} {o : List ℕ} (h : n < 10) (p : r ≡ payment_at s j) (p' : r ≡ Ok (q, c)) (f : o ≡ sets places (16 * n) (payment_words q)) (m : b ≡ more_at s c.at) where
    one_more : o ≡ payments_words (set g.items n q)
    one_more = f ∙ rw g.there (sym (put_one g.items n q (omega (arith, g.going.size))))

    pub put_last : not b ≡ true → (record { ending = Ok (place c.at); n = n + 1 } ≡ paying_at s at) × (o ≡ payments_words (payments_at s at).items)
    put_last m' = told one_more (going_last g.going h p p' m m')

    pub put_on : not b ≡ false → Put s at o (n + 1) c.at
    put_on m' = record { items = set g.items n q; there = one_more; going = going_on g.going h p p' m m' }

-- ---- what the reader of requests answers

-- "nothing changed" but the words of the break
pub refused_reading : (row : List ℕ) (h : Head) {b : Break} {r : Reading} {n : ℕ} {o : List ℕ} → refusal h.subtype b h.address ≡ r
    → (n ≡ number_of b.refusal) × (o ≡ sets row 0 (refused_words b h)) → (n ≡ reading_number r) × (o ≡ sets row 0 (reading_words r))
unfolding refused_words
refused_reading row h e p = rw (← e) p

pub settled_reading : (row : List ℕ) (h : Head) (t : Terms) (x : Payments) (count : Item) {r : Reading} {n : ℕ} {o places : List ℕ} → settlement h t x count ≡ r → places ≡ payments_words x.items
    → (n ≡ 0) × (o ≡ sets row 0 ((head_words h ++ (terms_words t ++ item_words count)) ++ places)) → (n ≡ reading_number r) × (o ≡ sets row 0 (reading_words r))
unfolding accepted_words
settled_reading row h t x count e w p = rw (← e) (rw w at p)

pub recalled_reading : (row : List ℕ) (h : Head) {t : Terms} {count : Item} {r : Reading} {n : ℕ} {o : List ℕ} → bare Recall h ≡ r → t ≡ no_terms → count ≡ nothing
    → (n ≡ 0) × (o ≡ sets row 0 ((head_words h ++ (terms_words t ++ item_words count)) ++ replicate 160 0)) → (n ≡ reading_number r) × (o ≡ sets row 0 (reading_words r))
unfolding accepted_words
recalled_reading row h e t c p = rw (← e) (rw (t, c) at p)

-- of a text that begins so
module _ (row : List ℕ) {x r : Reading} {n : ℕ} {o : List ℕ} (e : x ≡ r) where
  pub begun_row : (n ≡ reading_number x) × (o ≡ sets row 0 (reading_words x)) → (n ≡ reading_number r) × (o ≡ sets row 0 (reading_words r))
  begun_row p = rw (← e) p

pub begun_refused : (row : List ℕ) (h : Head) {y : Outcome} {b : Break} {r : Reading} {n : ℕ} {o : List ℕ} → bare y h ≡ r → y ≡ Refused b
    → (n ≡ number_of b.refusal) × (o ≡ sets row 0 (refused_words b h)) → (n ≡ reading_number r) × (o ≡ sets row 0 (reading_words r))
begun_refused row h e f p = rw (← e, f) p

-- the refusals of a 131 behind its address, and that it is one
module _ (s : List ℕ) (at : ℕ) (h : Head) {t : Result (Terms × Cursor) Break} {u : Terms} {c : Cursor} (p : t ≡ terms_at s at) (p' : t ≡ Ok (u, c)) {y : Paying} (q : y ≡ paying_at s c.at) where
  so_ends : {e : Result Cursor Break} → y.ending ≡ e → (payments_at s c.at).ending ≡ e
  so_ends e = sym (ap (λ (z : Paying). z.ending) q) ∙ e

  pub cut_off : {b : Break} → y.ending ≡ Err b → refusal h.subtype b h.address ≡ settlement_at s at h
  cut_off q' = settlement_2 s at h p p' refl (so_ends q') (sym (ap cut_by (so_ends q'))) refl

  module _ {d : Cursor} (q' : y.ending ≡ Ok d) {f : Result (Item × Cursor) Break} (r : f ≡ field_at s d.at (bytes ":203:") (Count y.n)) where
    counted : f ≡ field_at s d.at (bytes ":203:") (Count (payments_at s c.at).n)
    counted = r ∙ ap (λ (z : Paying). field_at s d.at (bytes ":203:") (Count z.n)) q

    pub uncounted : {b : Break} → f ≡ Err b → refusal h.subtype b h.address ≡ settlement_at s at h
    uncounted r' = settlement_3 s at h p p' refl (so_ends q') counted r' (sym (ap why_not r')) refl

    pub followed : {i : Item} {e : Cursor} {w : Break} → f ≡ Ok (i, e) → e.at < length s → w ≡ absent e.at → refusal h.subtype w h.address ≡ settlement_at s at h
    followed r' l w = settlement_4 s at h p p' refl (so_ends q') counted r' l w refl

    pub settles : {i : Item} {e : Cursor} → f ≡ Ok (i, e) → length s ≤ e.at → settlement h u (payments_at s c.at) i ≡ settlement_at s at h
    settles r' l = settlement_5 s at h p p' refl (so_ends q') counted r' l

-- ---- rows of too few words

pub short_row : (words m : ℕ) (row answer : List ℕ) {n : ℕ} → length row < words → n ≡ number_of ShortBuffer → (n ≡ number_in words row m) × (row ≡ row_after words row answer)
unfolding number_in row_after
short_row words m row answer h e = rw (lt-ltb (length row) words h) (e, refl)

module _ {X : Type 0} (number : X → ℕ) (answer : X → List ℕ) where
  pub long_row : (words : ℕ) (row : List ℕ) {x y : X} {n : ℕ} {o : List ℕ} → words ≤ length row → x ≡ y
      → (n ≡ number x) × (o ≡ sets row 0 (answer x)) → (n ≡ number_in words row (number y)) × (o ≡ row_after words row (answer y))
  unfolding number_in row_after
  long_row words row h e p = rw (le-ltb (length row) words h, ← e) p

-- ---- responses

pub number_row : (row : List ℕ) (p : Parts) (number kind : ℕ) (reference : Code) {o₁ o₂ o₃ : List ℕ} → o₁ ≡ sets row 0 (field_words p.number number 0) → o₂ ≡ sets o₁ 4 (field_words p.subtype kind 0)
    → o₃ ≡ sets o₂ 8 (code_words p.reference reference) → o₃ ≡ sets row 0 (number_words p number kind reference)
number_row row p number kind reference e f g = three row (field_words p.number number 0) (field_words p.subtype kind 0) (code_words p.reference reference) 0 e f g refl refl

pub batch_row : (row : List ℕ) (p : Parts) (stream : ℕ) (bin : Code) {o₁ o₂ : List ℕ} → o₁ ≡ sets row 12 (field_words p.stream stream 0) → o₂ ≡ sets o₁ 16 (code_words p.bin bin) → o₂ ≡ sets row 12 (batch_words p stream bin)
batch_row row p stream bin e f = then row (field_words p.stream stream 0) (code_words p.bin bin) 12 e f refl

pub status_row : (row : List ℕ) (p : Parts) (status first second : ℕ) {o₁ o₂ : List ℕ} → o₁ ≡ sets row 20 (field_words p.status status 0) → o₂ ≡ sets o₁ 24 (field_words p.detail first second) → o₂ ≡ sets row 20 (status_words p status first second)
status_row row p status first second e f = then row (field_words p.status status 0) (field_words p.detail first second) 20 e f refl

pub settlement_row : (row : List ℕ) (p : Parts) (s : Response132) {o₁ o₂ o₃ : List ℕ} → o₁ ≡ sets row 0 (number_words p s.number 132 s.reference) → o₂ ≡ sets o₁ 12 (batch_words p s.stream s.bin)
    → o₃ ≡ sets o₂ 20 (status_words p (outcome_status s.outcome) (outcome_first s.outcome) (outcome_second s.outcome)) → o₃ ≡ sets row 0 (settlement_words p s)
unfolding settlement_words
settlement_row row p s e f g =
    three row (number_words p s.number 132 s.reference) (batch_words p s.stream s.bin) (status_words p (outcome_status s.outcome) (outcome_first s.outcome) (outcome_second s.outcome)) 0 e f g refl refl

pub recall_row : (row : List ℕ) (p : Parts) (r : Response134) {c : Code} {o₁ o₂ o₃ : List ℕ} → c ≡ no_code → o₁ ≡ sets row 0 (number_words p r.number 134 r.reference) → o₂ ≡ sets o₁ 12 (batch_words p 0 c)
    → o₃ ≡ sets o₂ 20 (status_words p (answer_status r.answer) (answer_number r.answer) 0) → o₃ ≡ sets row 0 (recall_words p r)
unfolding recall_words
recall_row row p r n e f g =
    three row (number_words p r.number 134 r.reference) (batch_words p 0 no_code) (status_words p (answer_status r.answer) (answer_number r.answer) 0) 0 e (rw n at f) g refl refl
