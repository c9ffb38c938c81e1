-- What is read stands there: every text that is accepted is what is written of its response.
use Rattle.chars.specs.declared.Refusal.{Refusal}
use Rattle.std.specs.Prelude.{Option, Some, None, Result, Ok, Err}
use Prim.Native.Nat.{ℕ, ◌+◌, ◌-◌, ◌/◌, ◌%◌, ◌≤◌, ◌<◌}
use mathlib.Core.Path.{◌≡◌, refl, ap, sym, ◌∙◌}
use mathlib.Core.Bool.{Bool, true, false, cond}
use mathlib.Core.List.{List, [], ◌++◌, append-nil}
use native.Mathlib.Omega.{arith}
use borrow.Author.Tests.{eqb-true, eqb-false, ltb-false, lt-ltb}
use lib.Dec.{eqb, ltb}
use lib.ListN.{length, drop, take, drop_of_length-le}
use lib.Seq.{take-append-add}
use Rattle.chars.specs.Words.{bytes, crlf, line}
use Rattle.chars.proofs.Laws.{line_apart}
use Rattle.chars.specs.Chars.{is_digit, is_code}
use Rattle.chars.specs.declared.Refusal.TheVariants.{OtherSubType}
use Rattle.codes.specs.Codes.{packed, short_at, long_of, short_text, long_text}
use Rattle.codes.proofs.Laws.{pack_take}
use Rattle.text_put.specs.Digits.{digits_of}
use Rattle.text_scan.specs.Scan.{on_next, lit_at, codes_at, code_at, number_at, ten}
use Rattle.text_scan.specs.declared.Cursor.{Cursor}
use Rattle.text_scan.specs.Spelling.{All, value_of}
use Rattle.text_scan.proofs.Pairs.{ok_pair}
use Rattle.text_scan.proofs.Standing.{lit_next, lit_sound, cut, codes_sound, code_sound, number_sound}
use Rattle.text_values.specs.Values.{malformed, no_part, text_of, code_of, on_digits, on_day, forbidden_at, reference_at, numeral_at, word_at, bin_at}
use Rattle.text_values.specs.declared.Part.{Part}
use Rattle.text_fields.specs.Fields.{absent, broken, wrong, item, place, on_read, on_good, value_at, field_at}
use Rattle.text_fields.specs.declared.Break.{Break}
use Rattle.text_fields.specs.declared.Item.{Item}
use Rattle.text_fields.specs.declared.Kind.{Kind}
use Rattle.text_fields.specs.declared.Kind.TheVariants.{Empty, Reference, Numeral, Word, Bin}
use Rattle.response_write.specs.Values.{is_outcome, is_answer, is_settlement, is_recall}
use Rattle.response_write.specs.Texts.{head_text, batch_text, settled_text, rejected_text, outcome_text, settlement_text, answer_text, recall_text}
use Rattle.clock.specs.Clock.{second_of, hhmmss_of}
use Rattle.clock.proofs.Laws.{second_back}
use Rattle.dates.specs.Dates.{day_of, date_of}
use Rattle.dates.proofs.Laws.{day_back}
use Rattle.response_write.specs.declared.Outcome.{Outcome}
use Rattle.response_write.specs.declared.Outcome.TheVariants.{Settled, Rejected}
use Rattle.response_write.specs.declared.Answer.{Answer}
use Rattle.response_write.specs.declared.Answer.TheVariants.{Recalled, Kept}
use Rattle.response_write.specs.declared.Settlement.{Settlement as Response132}
use Rattle.response_write.specs.declared.Recall.{Recall as Response134}
use Rattle.response_read.specs.declared.Head.{Head}
use Rattle.response_read.specs.declared.Batch.{Batch}
use Rattle.response_read.specs.declared.Reply.{Reply}
use Rattle.response_read.specs.declared.Reply.TheVariants.{Settlement, Recall, Refused}
use Rattle.response_read.specs.declared.ReadResponse.{ReadResponse}
use Rattle.response_read.specs.Reply.{on_second, on_of, on_how, on_with, ending, refused, response_number_at, request_reference_at, batch_at, settled_at, rejected_at, ended_at, answer_at, settlement_of, recall_of, settlement_at, recall_at, head, response_at}
use Rattle.response_read.proofs.Digits.{value_small, digits_back, moment_digits}
use Rattle.response_read.specs.Sound.{Referred, Named, Back, Shortness}
use Rattle.response_read.proofs.Allowed.{referred_text, stream_text, bin_text, sound_settlement, sound_recall}
use Rattle.response_read.proofs.RoundTrip.{zero_status, one_status, settlement_lines, recall_lines, settlement_short, recall_short}
use Rattle.response_read.proofs.Lines.{forbidden_there}

abbrev pub between : ℕ → ℕ → Part
between a e = record { start = a; end = e }

no_field : {A : Type 0} {b : Break} {i : Item} {c : Cursor} → ◌≡◌ {A = Result (Item × Cursor) Break} (Err b) (Ok (i, c)) → A
no_field h = let z : ◌≡◌ {A = ℕ} 0 1 = cc in absurd (omega arith)

no_value : {A : Type 0} {v e : ℕ} → ◌≡◌ {A = Result (ℕ × ℕ) Refusal} malformed (Ok (v, e)) → A
no_value h = let z : ◌≡◌ {A = ℕ} 0 1 = cc in absurd (omega arith)

-- a field that was read: its line stands there, and its value was read where its part begins
pub record Stood (s : List ℕ) (at : ℕ) (tag : List ℕ) (k : Kind) (i : Item) (c : Cursor) : Type 0 where
  pub line : drop at s ≡ line tag (text_of s i.part) ++ drop c.at s
  pub value : value_at s i.part.start k ≡ Ok (i.number, i.part.end)
  pub there : drop i.part.start s ≡ text_of s i.part ++ (crlf ++ drop c.at s)

module _ (s : List ℕ) where
  text_cut : (a e : ℕ) → a ≤ e → drop a s ≡ text_of s (between a e) ++ drop e s
  unfolding text_of
  text_cut a e h = let z : a + (e - a) ≡ e = omega arith in cut s a (e - a) ∙ ap (λ (n : ℕ). take (e - a) (drop a s) ++ drop n s) z

  stood : (at : ℕ) (tag : List ℕ) (k : Kind) → ((a v e : ℕ) → value_at s a k ≡ Ok (v, e) → a ≤ e) → {i : Item} {c : Cursor} → field_at s at tag k ≡ Ok (i, c) → Stood s at tag k i c
  unfolding field_at
  stood at tag k order {i} {c} h = go₁ (lit_at s at tag) refl h
    where
      go₃ : (a v e : ℕ) → lit_at s at tag ≡ Some a → value_at s a k ≡ Ok (v, e) → (r : Option ℕ) → lit_at s e crlf ≡ r → on_next {A = Result (Item × Cursor) Break} r (Err (wrong at)) (λ n. Ok (item a e v, place n)) ≡ Ok (i, c) → Stood s at tag k i c
      go₃ a v e l g None u h = no_field h
      go₃ a v e l g (Some n) u h =
          let x : item a e v ≡ i = (ok_pair h).0 in
          let z : place n ≡ c = (ok_pair h).1 in
          let w : drop a s ≡ text_of s (between a e) ++ (crlf ++ drop n s) = text_cut a e (order a v e g) ∙ ap (λ (m : List ℕ). text_of s (between a e) ++ m) (lit_sound s e crlf u) in
          rw (← x, ← z) (record {
            line = lit_sound s at tag l ∙ ap (λ (m : List ℕ). tag ++ m) w ∙ sym (line_apart tag (text_of s (between a e)) (drop n s));
            value = g;
            there = w;
          })

      go₂ : (a : ℕ) → lit_at s at tag ≡ Some a → (r : Result (ℕ × ℕ) Refusal) → value_at s a k ≡ r → on_read {A = Result (Item × Cursor) Break} r (λ x. Err (broken at x)) (λ v e. on_next (lit_at s e crlf) (Err (wrong at)) (λ n. Ok (item a e v, place n))) ≡ Ok (i, c) → Stood s at tag k i c
      go₂ a l (Ok (v, e)) g h = go₃ a v e l g (lit_at s e crlf) refl h
      go₂ a l (Err x) g h = no_field h

      go₁ : (r : Option ℕ) → lit_at s at tag ≡ r → on_next {A = Result (Item × Cursor) Break} r (Err (absent at)) (λ a. on_read (value_at s a k) (λ x. Err (broken at x)) (λ v e. on_next (lit_at s e crlf) (Err (wrong at)) (λ n. Ok (item a e v, place n)))) ≡ Ok (i, c) → Stood s at tag k i c
      go₁ (Some a) l h = go₂ a l (value_at s a k) refl h
      go₁ None l h = no_field h

  -- a text of so many bytes of a class
  text_is : (a e n : ℕ) → e ≡ a + n → text_of s (between a e) ≡ take n (drop a s)
  unfolding text_of
  text_is a e n h = let z : e - a ≡ n = omega arith in rw z

  -- ---- a numeral

  numeral_inside : (a n v e : ℕ) → numeral_at s a n ≡ Ok (v, e) → number_at s a n ≡ Some (v, e)
  unfolding numeral_at
  numeral_inside a n v e h = go (number_at s a n) h
    where
      go : (r : Option (ℕ × ℕ)) → on_digits {A = Result (ℕ × ℕ) Refusal} r malformed (λ v e. Ok (v, e)) ≡ Ok (v, e) → r ≡ Some (v, e)
      go (Some (w, f)) h = cc
      go None h = no_value h

  numeral_order : (n a v e : ℕ) → numeral_at s a n ≡ Ok (v, e) → a ≤ e
  numeral_order n a v e h = omega (arith, (number_sound s a n (numeral_inside a n v e h)).1)

  numeral_text : (n a v e : ℕ) → numeral_at s a n ≡ Ok (v, e) → (text_of s (between a e) ≡ digits_of n v) × (v < ten n)
  numeral_text n a v e h =
      let g = number_sound s a n (numeral_inside a n v e h) in
      let t = text_is a e n g.1 in (
        t ∙ sym (ap (digits_of n) g.2 ∙ ap (λ (k : ℕ). digits_of k (value_of 0 (take n (drop a s)))) (sym g.0.size) ∙ digits_back (take n (drop a s)) g.0.all),
        rw g.2 (rw g.0.size at (value_small (take n (drop a s)) g.0.all)),
      )

  pub numeral_stood : (at : ℕ) (tag : List ℕ) (n : ℕ) {i : Item} {c : Cursor} → field_at s at tag (Numeral n) ≡ Ok (i, c) → (drop at s ≡ line tag (digits_of n i.number) ++ drop c.at s) × (i.number < ten n)
  numeral_stood at tag n {i} {c} h =
      let g = stood at tag (Numeral n) (numeral_order n) h in
      let t = numeral_text n i.part.start i.number i.part.end g.value in
      (g.line ∙ ap (λ (l : List ℕ). line tag l ++ drop c.at s) t.0, t.1)

  -- ---- an empty value and four characters

  word_inside : (n a v e : ℕ) → word_at s a n ≡ Ok (v, e) → (code_at s a n ≡ Some e) × (v ≡ short_at s a)
  unfolding word_at
  word_inside n a v e h = go (code_at s a n) h
    where
      go : (r : Option ℕ) → on_next {A = Result (ℕ × ℕ) Refusal} r malformed (λ e. Ok (short_at s a, e)) ≡ Ok (v, e) → (r ≡ Some e) × (v ≡ short_at s a)
      go (Some f) h = (ap Some (ok_pair h).1, sym (ok_pair h).0)
      go None h = no_value h

  word_order : (n a v e : ℕ) → word_at s a n ≡ Ok (v, e) → a ≤ e
  word_order n a v e h = omega (arith, (code_sound s a n (word_inside n a v e h).0).1)

  empty_place : (a v e : ℕ) → ◌≡◌ {A = Result (ℕ × ℕ) Refusal} (Ok (0, a)) (Ok (v, e)) → a ≡ e
  empty_place a v e h = (ok_pair h).1

  empty_order : (a v e : ℕ) → ◌≡◌ {A = Result (ℕ × ℕ) Refusal} (Ok (0, a)) (Ok (v, e)) → a ≤ e
  empty_order a v e h = omega (arith, empty_place a v e h)

  no_text : (a e : ℕ) → a ≡ e → text_of s (between a e) ≡ []
  unfolding text_of
  no_text a e h = let z : e - a ≡ 0 = omega arith in rw z

  pub empty_stood : (at : ℕ) (tag : List ℕ) {i : Item} {c : Cursor} → field_at s at tag Empty ≡ Ok (i, c) → drop at s ≡ line tag [] ++ drop c.at s
  empty_stood at tag {i} {c} h =
      let g = stood at tag Empty empty_order h in
      g.line ∙ ap (λ (l : List ℕ). line tag l ++ drop c.at s) (no_text i.part.start i.part.end (empty_place i.part.start i.number i.part.end g.value))

  -- four characters of a code and their number
  pub record Four (v : List ℕ) (w : ℕ) : Type 0 where
    pub size : length v ≡ 4
    pub codes : All is_code v
    pub number : w ≡ packed 4 v

  word_text : (a v e : ℕ) → word_at s a 4 ≡ Ok (v, e) → Four (text_of s (between a e)) v
  unfolding short_at
  word_text a v e h =
      let w = word_inside 4 a v e h in
      let g = code_sound s a 4 w.0 in
      let t = text_is a e 4 g.1 in
      record {
        size = ap length t ∙ g.0.size;
        codes = rw t g.0.all;
        number = w.1 ∙ sym (pack_take 4 0 (drop a s)) ∙ ap (packed 4) (sym t);
      }

  pub word_stood : (at : ℕ) (tag : List ℕ) {i : Item} {c : Cursor} → field_at s at tag (Word 4) ≡ Ok (i, c) → (drop at s ≡ line tag (text_of s i.part) ++ drop c.at s) × Four (text_of s i.part) i.number
  word_stood at tag {i} {c} h =
      let g = stood at tag (Word 4) (word_order 4) h in
      (g.line, word_text i.part.start i.number i.part.end g.value)

  -- ---- a reference

  reference_inside : (a v e : ℕ) → reference_at s a ≡ Ok (v, e) → (codes_at s a 16 ≡ e) × (e ≡ a → ⊥) × (forbidden_at s a ≡ false)
  unfolding reference_at
  reference_inside a v e h = go (eqb (codes_at s a 16) a) refl (forbidden_at s a) refl h
    where
      go : (x : Bool) → eqb (codes_at s a 16) a ≡ x → (y : Bool) → forbidden_at s a ≡ y → cond {A = Result (ℕ × ℕ) Refusal} x malformed (cond y malformed (Ok (0, codes_at s a 16))) ≡ Ok (v, e) → (codes_at s a 16 ≡ e) × (e ≡ a → ⊥) × (forbidden_at s a ≡ false)
      go true p y q h = no_value h
      go false p true q h = no_value h
      go false p false q h = let z : codes_at s a 16 ≡ e = (ok_pair h).1 in (z, (λ y. eqb-false (codes_at s a 16) a p (z ∙ y)), q)

  reference_order : (a v e : ℕ) → reference_at s a ≡ Ok (v, e) → a ≤ e
  reference_order a v e h = (codes_sound s a 16 e (reference_inside a v e h).0).1

  pub reference_stood : (at : ℕ) (tag : List ℕ) {i : Item} {c : Cursor} → field_at s at tag Reference ≡ Ok (i, c) → (drop at s ≡ line tag (long_text (long_of (text_of s i.part))) ++ drop c.at s) × Referred (long_of (text_of s i.part))
  unfolding text_of
  reference_stood at tag {i} {c} h =
      let g = stood at tag Reference reference_order h in
      let a = i.part.start in
      let e = i.part.end in
      let w = reference_inside a i.number e g.value in
      let k = codes_sound s a 16 e w.0 in
      let l = k.0.size in
      let r : Referred (long_of (text_of s i.part)) = record {
        name = text_of s i.part;
        code = refl;
        some = omega (arith, l, k.1, w.1);
        few = omega (arith, l, k.2);
        codes = k.0.all;
        free = sym (forbidden_there s a (text_of s i.part) (drop c.at s) g.there) ∙ w.2;
      } in
      (g.line ∙ ap (λ (m : List ℕ). line tag m ++ drop c.at s) (sym (referred_text r)), r)

  -- ---- a BIN

  -- what begins with a text and goes on with four digits
  pub record Binned (first v : List ℕ) : Type 0 where
    pub digits : List ℕ
    pub is : v ≡ first ++ digits
    pub size : length digits ≡ 4
    pub numerals : All is_digit digits

  -- the place after the stream's characters
  record Inside (a e : ℕ) (p : Part) : Type 0 where
    place : ℕ
    value : ℕ
    first : lit_at s a (text_of s p) ≡ Some place
    digits : number_at s place 4 ≡ Some (value, e)

  bin_inside : (p : Part) (a v e : ℕ) → bin_at s a p ≡ Ok (v, e) → Inside a e p
  unfolding bin_at
  bin_inside p a v e h = go₁ (lit_at s a (text_of s p)) refl h
    where
      go₂ : (b : ℕ) → lit_at s a (text_of s p) ≡ Some b → (r : Option (ℕ × ℕ)) → number_at s b 4 ≡ r → on_digits {A = Result (ℕ × ℕ) Refusal} r malformed (λ w f. Ok (0, f)) ≡ Ok (v, e) → Inside a e p
      go₂ b l (Some (w, f)) g h = let z : f ≡ e = (ok_pair h).1 in record { place = b; value = w; first = l; digits = g ∙ ap (λ (x : ℕ). Some (w, x)) z }
      go₂ b l None g h = no_value h

      go₁ : (r : Option ℕ) → lit_at s a (text_of s p) ≡ r → on_next {A = Result (ℕ × ℕ) Refusal} r malformed (λ b. on_digits (number_at s b 4) malformed (λ w f. Ok (0, f))) ≡ Ok (v, e) → Inside a e p
      go₁ (Some b) l h = go₂ b l (number_at s b 4) refl h
      go₁ None l h = no_value h

  bin_order : (p : Part) (a v e : ℕ) → bin_at s a p ≡ Ok (v, e) → a ≤ e
  bin_order p a v e h =
      let w = bin_inside p a v e h in
      omega (arith, lit_next s a (text_of s p) w.first, (number_sound s w.place 4 w.digits).1)

  bin_value : (p : Part) (a v e : ℕ) → bin_at s a p ≡ Ok (v, e) → Binned (text_of s p) (text_of s (between a e))
  bin_value p a v e h =
      let w = bin_inside p a v e h in
      let g = number_sound s w.place 4 w.digits in
      let t = text_of s p in
      record {
        digits = take 4 (drop w.place s);
        is =
            text_is a e (length t + 4) (omega (arith, lit_next s a t w.first, g.1))
            ∙ ap (take (length t + 4)) (lit_sound s a t w.first)
            ∙ take-append-add t (drop w.place s) 4;
        size = g.0.size;
        numerals = g.0.all;
      }

  pub bin_stood : (at : ℕ) (tag : List ℕ) (p : Part) {i : Item} {c : Cursor} → field_at s at tag (Bin p) ≡ Ok (i, c) → (drop at s ≡ line tag (text_of s i.part) ++ drop c.at s) × Binned (text_of s p) (text_of s i.part)
  bin_stood at tag p {i} {c} h =
      let g = stood at tag (Bin p) (bin_order p) h in
      (g.line, bin_value p i.part.start i.number i.part.end g.value)

-- ---- the steps of a response

-- a step that went on after a field
taken : {A R : Type 0} {x : A} {d : Break → A} {k : Item → Cursor → A} → ((b : Break) → d b ≡ x → ⊥) → (f : Result (Item × Cursor) Break) → on_good f d k ≡ x → ((i : Item) (c : Cursor) → f ≡ Ok (i, c) → k i c ≡ x → R) → R
taken never (Ok (i, c)) h go = go i c refl h
taken never (Err b) h go = absurd (never b h)

no_good : {i : Item} {c : Cursor} (b : Break) → ◌≡◌ {A = Result (Item × Cursor) Break} (Err b) (Ok (i, c)) → ⊥
no_good b h = no_field h

no_of : {x : Batch} {c : Cursor} (b : Break) → ◌≡◌ {A = Result (Batch × Cursor) Break} (Err b) (Ok (x, c)) → ⊥
no_of b h = let z : ◌≡◌ {A = ℕ} 0 1 = cc in omega arith

no_how : {o : Outcome} {p q : Part} {c : Cursor} (b : Break) → ◌≡◌ {A = Result (Outcome × Part × Part × Cursor) Break} (Err b) (Ok (o, p, q, c)) → ⊥
no_how b h = let z : ◌≡◌ {A = ℕ} 0 1 = cc in omega arith

no_with : {a : Answer} {p q : Part} {c : Cursor} (b : Break) → ◌≡◌ {A = Result (Answer × Part × Part × Cursor) Break} (Err b) (Ok (a, p, q, c)) → ⊥
no_with b h = let z : ◌≡◌ {A = ℕ} 0 1 = cc in omega arith

-- two steps of four parts that are the same: the first and the last part of each are the same
ends_same : {A : Type 0} {a b : A} {p q p' q' : Part} {c d : Cursor} → ◌≡◌ {A = Result (A × Part × Part × Cursor) Break} (Ok (a, p, q, c)) (Ok (b, p', q', d)) → (a ≡ b) × (c ≡ d)
ends_same {A} {a} {b} {p} {q} {p'} {q'} {c} {d} h =
    let e : ◌≡◌ {A = A × Part × Part × Cursor} (a, p, q, c) (b, p', q', d) = cc in
    (ap (λ (r : A × Part × Part × Cursor). r.0) e, ap (λ (r : A × Part × Part × Cursor). r.3) e)

module _ (s : List ℕ) where
  pub number_back : {i : Item} {c : Cursor} → response_number_at s ≡ Ok (i, c) → (s ≡ line (bytes ":20:B") (digits_of 7 i.number) ++ drop c.at s) × (i.number < 10000000)
  unfolding response_number_at
  number_back {i} {c} h = go (lit_at s 0 (bytes ":20:")) refl h
    where
      go : (r : Option ℕ) → lit_at s 0 (bytes ":20:") ≡ r → on_next {A = Result (Item × Cursor) Break} r (Err (absent 0)) (λ a. on_good (field_at s a (bytes "B") (Numeral 7)) (λ b. Err (wrong 0)) (λ j d. Ok (item a j.part.end j.number, d))) ≡ Ok (i, c) → (s ≡ line (bytes ":20:B") (digits_of 7 i.number) ++ drop c.at s) × (i.number < 10000000)
      go None l h = no_field h
      go (Some a) l h = taken (λ b. no_good (wrong 0)) (field_at s a (bytes "B") (Numeral 7)) h (λ j d g e.
          let y : item a j.part.end j.number ≡ i = (ok_pair e).0 in
          let x : j.number ≡ i.number = ap (λ (i : Item). i.number) y in
          let z : d ≡ c = (ok_pair e).1 in
          let w = numeral_stood s a (bytes "B") 7 g in
          rw (← x, ← z) (lit_sound s 0 (bytes ":20:") l ∙ ap (λ (m : List ℕ). bytes ":20:" ++ m) w.0, w.1))

  pub reference_back : (at : ℕ) {i : Item} {c : Cursor} → request_reference_at s at ≡ Ok (i, c) → (drop at s ≡ line (bytes ":77E:") [] ++ (line (bytes ":21:") (long_text (code_of s i.part)) ++ drop c.at s)) × Referred (code_of s i.part)
  unfolding request_reference_at code_of
  reference_back at {i} {c} h = taken no_good (field_at s at (bytes ":77E:") Empty) h (λ j d g e.
      let w = reference_stood s d.at (bytes ":21:") e in
      (empty_stood s at (bytes ":77E:") g ∙ ap (λ (m : List ℕ). line (bytes ":77E:") [] ++ m) w.0, w.1))

  pub batch_back : (at : ℕ) {b : Batch} {c : Cursor} → batch_at s at ≡ Ok (b, c) → (drop at s ≡ line (bytes ":22A:") (short_text b.stream.number) ++ (line (bytes ":119:") (long_text (code_of s b.bin.part)) ++ drop c.at s)) × Named b.stream.number (code_of s b.bin.part)
  unfolding batch_at code_of
  batch_back at {b} {c} h = taken no_of (field_at s at (bytes ":22A:") (Word 4)) h (λ i d g e. taken no_of (field_at s d.at (bytes ":119:") (Bin i.part)) e (λ j f k q.
      let y : record { stream = i; bin = j } ≡ b = (ok_pair q).0 in
      let z : f ≡ c = (ok_pair q).1 in
      let u = word_stood s at (bytes ":22A:") g in
      let w = bin_stood s d.at (bytes ":119:") i.part k in
      let n : Named i.number (long_of (text_of s j.part)) = record {
        four = text_of s i.part;
        digits = w.1.digits;
        short = u.1.number;
        long = ap long_of w.1.is;
        size = u.1.size;
        more = w.1.size;
        codes = u.1.codes;
        numerals = w.1.numerals;
      } in
      rw (← y, ← z) (
        u.0
            ∙ ap (λ (m : List ℕ). line (bytes ":22A:") m ++ drop d.at s) (sym (stream_text n))
            ∙ ap (λ (m : List ℕ). line (bytes ":22A:") (short_text i.number) ++ m) (w.0 ∙ ap (λ (m : List ℕ). line (bytes ":119:") m ++ drop f.at s) (w.1.is ∙ sym (bin_text n))),
        n,
      )))

  pub settled_back : (at : ℕ) (status : Part) {o : Outcome} {p q : Part} {c : Cursor} → settled_at s at status ≡ Ok (o, p, q, c) → (line (bytes ":451:") (bytes "0") ++ drop at s ≡ outcome_text o ++ drop c.at s) × (is_outcome o ≡ true)
  unfolding settled_at settled_text is_outcome
  settled_back at status {o} {p} {q} {c} h = taken no_how (field_at s at (bytes ":13E:") (Numeral 12)) h (λ i d g e. day (day_of (i.number / 1000000)) i d g refl e)
    where
      second : (k : ℕ) (i : Item) (d : Cursor) → field_at s at (bytes ":13E:") (Numeral 12) ≡ Ok (i, d) → day_of (i.number / 1000000) ≡ Some k → (t : Option ℕ) → second_of (i.number % 1000000) ≡ t → on_second {A = Result (Outcome × Part × Part × Cursor) Break} t (Err (wrong at)) (λ m. Ok (Settled k m, status, i.part, d)) ≡ Ok (o, p, q, c)
          → (line (bytes ":451:") (bytes "0") ++ drop at s ≡ outcome_text o ++ drop c.at s) × (is_outcome o ≡ true)
      second k i d g e (Some m) f h =
          let y : Settled k m ≡ o = (ends_same h).0 in
          let z : d ≡ c = (ends_same h).1 in
          let n = numeral_stood s at (bytes ":13E:") 12 g in
          let x = day_back (i.number / 1000000) k e in
          let w = second_back (i.number % 1000000) m f in
          let v : digits_of 12 i.number ≡ digits_of 6 (date_of k) ++ digits_of 6 (hhmmss_of m) = moment_digits i.number ∙ ap (λ (l : ℕ). digits_of 6 l ++ digits_of 6 (i.number % 1000000)) (sym x.0) ∙ ap (λ (l : ℕ). digits_of 6 (date_of k) ++ digits_of 6 l) (sym w.0) in
          rw (← y, ← z) (ap (λ (l : List ℕ). line (bytes ":451:") (bytes "0") ++ l) (n.0 ∙ ap (λ (l : List ℕ). line (bytes ":13E:") l ++ drop d.at s) v), rw (lt-ltb k 36525 x.1, lt-ltb m 86400 w.1) refl)
      second k i d g e None f h = absurd (no_how (wrong at) h)

      day : (x : Option ℕ) (i : Item) (d : Cursor) → field_at s at (bytes ":13E:") (Numeral 12) ≡ Ok (i, d) → day_of (i.number / 1000000) ≡ x → on_day {A = Result (Outcome × Part × Part × Cursor) Break} x (Err (wrong at)) (λ k. on_second (second_of (i.number % 1000000)) (Err (wrong at)) (λ m. Ok (Settled k m, status, i.part, d))) ≡ Ok (o, p, q, c)
          → (line (bytes ":451:") (bytes "0") ++ drop at s ≡ outcome_text o ++ drop c.at s) × (is_outcome o ≡ true)
      day (Some k) i d g f e = second k i d g f (second_of (i.number % 1000000)) refl e
      day None i d g f e = absurd (no_how (wrong at) e)

  pub rejected_back : (at : ℕ) (status : Part) {o : Outcome} {p q : Part} {c : Cursor} → rejected_at s at status ≡ Ok (o, p, q, c) → (line (bytes ":451:") (bytes "1") ++ drop at s ≡ outcome_text o ++ drop c.at s) × (is_outcome o ≡ true)
  unfolding rejected_at rejected_text is_outcome
  rejected_back at status {o} {p} {q} {c} h = taken no_how (field_at s at (bytes ":432:") (Numeral 2)) h (λ i d g e.
      let y : Rejected i.number ≡ o = (ends_same e).0 in
      let z : d ≡ c = (ends_same e).1 in
      let n = numeral_stood s at (bytes ":432:") 2 g in
      rw (← y, ← z) (ap (λ (l : List ℕ). line (bytes ":451:") (bytes "1") ++ l) n.0, lt-ltb i.number 100 n.1))

  -- 451 before what follows it
  status_back : (at n : ℕ) (v : List ℕ) {i : Item} {c : Cursor} → field_at s at (bytes ":451:") (Numeral 1) ≡ Ok (i, c) → i.number ≡ n → v ≡ digits_of 1 n → drop at s ≡ line (bytes ":451:") v ++ drop c.at s
  status_back at n v {i} {c} g e d = (numeral_stood s at (bytes ":451:") 1 g).0 ∙ ap (λ (l : List ℕ). line (bytes ":451:") l ++ drop c.at s) (ap (digits_of 1) e ∙ sym d)

  pub ended_back : (at : ℕ) {o : Outcome} {p q : Part} {c : Cursor} → ended_at s at ≡ Ok (o, p, q, c) → (drop at s ≡ outcome_text o ++ drop c.at s) × (is_outcome o ≡ true)
  unfolding ended_at
  ended_back at {o} {p} {q} {c} h = taken no_how (field_at s at (bytes ":451:") (Numeral 1)) h (λ i d g e. go i d g (eqb i.number 0) refl (eqb i.number 1) refl e)
    where
      go : (i : Item) (d : Cursor) → field_at s at (bytes ":451:") (Numeral 1) ≡ Ok (i, d) → (x : Bool) → eqb i.number 0 ≡ x → (y : Bool) → eqb i.number 1 ≡ y
          → cond {A = Result (Outcome × Part × Part × Cursor) Break} x (settled_at s d.at i.part) (cond y (rejected_at s d.at i.part) (Err (wrong at))) ≡ Ok (o, p, q, c) → (drop at s ≡ outcome_text o ++ drop c.at s) × (is_outcome o ≡ true)
      go i d g true e y f h = let w = settled_back d.at i.part h in (status_back at 0 (bytes "0") g (eqb-true _ _ e) zero_status ∙ w.0, w.1)
      go i d g false e true f h = let w = rejected_back d.at i.part h in (status_back at 1 (bytes "1") g (eqb-true _ _ f) one_status ∙ w.0, w.1)
      go i d g false e false f h = absurd (no_how (wrong at) h)

  pub answer_back : (at : ℕ) {a : Answer} {p q : Part} {c : Cursor} → answer_at s at ≡ Ok (a, p, q, c) → (drop at s ≡ answer_text a ++ drop c.at s) × (is_answer a ≡ true)
  unfolding answer_at rejected_text is_answer
  answer_back at {a} {p} {q} {c} h = taken no_with (field_at s at (bytes ":451:") (Numeral 1)) h (λ i d g e. go i d g (eqb i.number 0) refl (eqb i.number 1) refl e)
    where
      go : (i : Item) (d : Cursor) → field_at s at (bytes ":451:") (Numeral 1) ≡ Ok (i, d) → (x : Bool) → eqb i.number 0 ≡ x → (y : Bool) → eqb i.number 1 ≡ y
          → cond {A = Result (Answer × Part × Part × Cursor) Break} x (Ok (Recalled, i.part, no_part, d)) (cond y (on_good (field_at s d.at (bytes ":432:") (Numeral 2)) Err (λ n f. Ok (Kept n.number, i.part, n.part, f))) (Err (wrong at))) ≡ Ok (a, p, q, c) → (drop at s ≡ answer_text a ++ drop c.at s) × (is_answer a ≡ true)
      go i d g true e y f h =
          let u : Recalled ≡ a = (ends_same h).0 in
          let z : d ≡ c = (ends_same h).1 in
          rw (← u, ← z) (status_back at 0 (bytes "0") g (eqb-true _ _ e) zero_status, refl)
      go i d g false e true f h = taken no_with (field_at s d.at (bytes ":432:") (Numeral 2)) h (λ n l k r.
          let u : Kept n.number ≡ a = (ends_same r).0 in
          let z : l ≡ c = (ends_same r).1 in
          let w = numeral_stood s d.at (bytes ":432:") 2 k in
          rw (← u, ← z) (status_back at 1 (bytes "1") g (eqb-true _ _ f) one_status ∙ ap (λ (m : List ℕ). line (bytes ":451:") (bytes "1") ++ m) w.0, lt-ltb n.number 100 w.1))
      go i d g false e false f h = absurd (no_with (wrong at) h)

-- ---- the whole

module _ (P : ReadResponse → Type 0) (bad : (b : Break) → P (refused b)) where
  by_good : (f : Result (Item × Cursor) Break) {k : Item → Cursor → ReadResponse} → ((i : Item) (c : Cursor) → f ≡ Ok (i, c) → P (k i c)) → P (on_good f refused k)
  by_good (Ok (i, c)) go = go i c refl
  by_good (Err b) go = bad b

  by_of : (f : Result (Batch × Cursor) Break) {k : Batch → Cursor → ReadResponse} → ((b : Batch) (c : Cursor) → f ≡ Ok (b, c) → P (k b c)) → P (on_of f refused k)
  by_of (Ok (b, c)) go = go b c refl
  by_of (Err b) go = bad b

  by_how : (f : Result (Outcome × Part × Part × Cursor) Break) {k : Outcome → Part → Part → Cursor → ReadResponse} → ((o : Outcome) (p q : Part) (c : Cursor) → f ≡ Ok (o, p, q, c) → P (k o p q c)) → P (on_how f refused k)
  by_how (Ok (o, p, q, c)) go = go o p q c refl
  by_how (Err b) go = bad b

  by_with : (f : Result (Answer × Part × Part × Cursor) Break) {k : Answer → Part → Part → Cursor → ReadResponse} → ((a : Answer) (p q : Part) (c : Cursor) → f ≡ Ok (a, p, q, c) → P (k a p q c)) → P (on_with f refused k)
  by_with (Ok (a, p, q, c)) go = go a p q c refl
  by_with (Err b) go = bad b

  -- nothing follows
  by_end : (s : List ℕ) (at : ℕ) {r : ReadResponse} → (drop at s ≡ [] → P r) → P (ending s at r)
  by_end s at {r} go = test (ltb at (length s)) refl
    where
      test : (t : Bool) → ltb at (length s) ≡ t → P (cond t (refused (absent at)) r)
      test true e = bad (absent at)
      test false e = go (drop_of_length-le s (ltb-false at (length s) e))

module _ (s : List ℕ) (at : ℕ) (h : Head) (small : h.number.number < 10000000) where
  settlement_back : s ≡ line (bytes ":20:B") (digits_of 7 h.number.number) ++ (line (bytes ":12:") (digits_of 3 132) ++ drop at s) → Back s (settlement_at s at h).reply
  unfolding settlement_at settlement_of settlement_text head_text batch_text
  settlement_back first =
      by_good P (λ b. tt) (request_reference_at s at) (λ i c g.
      by_of P (λ b. tt) (batch_at s c.at) (λ b d k.
      by_how P (λ b. tt) (ended_at s d.at) (λ o p q e m.
      by_end P (λ b. tt) s e.at (λ z.
      let u = reference_back s at g in
      let v = batch_back s c.at k in
      let w = ended_back s d.at m in (
        first
            ∙ ap (λ (l : List ℕ). line (bytes ":20:B") (digits_of 7 h.number.number) ++ (line (bytes ":12:") (digits_of 3 132) ++ l))
            (u.0
            ∙ ap (λ (l : List ℕ). line (bytes ":77E:") [] ++ (line (bytes ":21:") (long_text (code_of s i.part)) ++ l))
            (v.0
            ∙ ap (λ (l : List ℕ). line (bytes ":22A:") (short_text b.stream.number) ++ (line (bytes ":119:") (long_text (code_of s b.bin.part)) ++ l))
            (w.0 ∙ ap (λ (l : List ℕ). outcome_text o ++ l) z ∙ append-nil (outcome_text o))))
            ∙ sym (settlement_lines (line (bytes ":20:B") (digits_of 7 h.number.number)) (line (bytes ":12:") (digits_of 3 132)) (line (bytes ":77E:") []) (line (bytes ":21:") (long_text (code_of s i.part))) (line (bytes ":22A:") (short_text b.stream.number)) (line (bytes ":119:") (long_text (code_of s b.bin.part))) (outcome_text o)),
        record { number = small; reference = u.1; batch = v.1; outcome = w.1 },
      )))))
    where
      P : ReadResponse → Type 0
      P x = Back s x.reply

  recall_back : s ≡ line (bytes ":20:B") (digits_of 7 h.number.number) ++ (line (bytes ":12:") (digits_of 3 134) ++ drop at s) → Back s (recall_at s at h).reply
  unfolding recall_at recall_of recall_text head_text
  recall_back first =
      by_good P (λ b. tt) (request_reference_at s at) (λ i c g.
      by_with P (λ b. tt) (answer_at s c.at) (λ a p q d m.
      by_end P (λ b. tt) s d.at (λ z.
      let u = reference_back s at g in
      let w = answer_back s c.at m in (
        first
            ∙ ap (λ (l : List ℕ). line (bytes ":20:B") (digits_of 7 h.number.number) ++ (line (bytes ":12:") (digits_of 3 134) ++ l))
            (u.0
            ∙ ap (λ (l : List ℕ). line (bytes ":77E:") [] ++ (line (bytes ":21:") (long_text (code_of s i.part)) ++ l))
            (w.0 ∙ ap (λ (l : List ℕ). answer_text a ++ l) z ∙ append-nil (answer_text a)))
            ∙ sym (recall_lines (line (bytes ":20:B") (digits_of 7 h.number.number)) (line (bytes ":12:") (digits_of 3 134)) (line (bytes ":77E:") []) (line (bytes ":21:") (long_text (code_of s i.part))) (answer_text a)),
        record { number = small; reference = u.1; answer = w.1 },
      ))))
    where
      P : ReadResponse → Type 0
      P x = Back s x.reply

pub accepted_back : (s : List ℕ) → Back s (response_at s).reply
unfolding response_at
accepted_back s =
    by_good P (λ b. tt) (response_number_at s) (λ i c g.
    by_good P (λ b. tt) (field_at s c.at (bytes ":12:") (Numeral 3)) (λ t d k.
    kind i c g t d k (eqb t.number 132) refl (eqb t.number 134) refl))
  where
    P : ReadResponse → Type 0
    P x = Back s x.reply

    first : (n : ℕ) (i : Item) (c : Cursor) → response_number_at s ≡ Ok (i, c) → (t : Item) (d : Cursor) → field_at s c.at (bytes ":12:") (Numeral 3) ≡ Ok (t, d) → t.number ≡ n → s ≡ line (bytes ":20:B") (digits_of 7 i.number) ++ (line (bytes ":12:") (digits_of 3 n) ++ drop d.at s)
    first n i c g t d k e = (number_back s g).0 ∙ ap (λ (l : List ℕ). line (bytes ":20:B") (digits_of 7 i.number) ++ l) ((numeral_stood s c.at (bytes ":12:") 3 k).0 ∙ ap (λ (m : ℕ). line (bytes ":12:") (digits_of 3 m) ++ drop d.at s) e)

    kind : (i : Item) (c : Cursor) → response_number_at s ≡ Ok (i, c) → (t : Item) (d : Cursor) → field_at s c.at (bytes ":12:") (Numeral 3) ≡ Ok (t, d) → (x : Bool) → eqb t.number 132 ≡ x → (y : Bool) → eqb t.number 134 ≡ y
        → P (cond x (settlement_at s d.at (head i t)) (cond y (recall_at s d.at (head i t)) (refused (broken c.at OtherSubType))))
    kind i c g t d k true e y f = settlement_back s d.at (head i t) (number_back s g).1 (first 132 i c g t d k (eqb-true _ _ e))
    kind i c g t d k false e true f = recall_back s d.at (head i t) (number_back s g).1 (first 134 i c g t d k (eqb-true _ _ f))
    kind i c g t d k false e false f = tt

-- what is read is what is written of it
pub settlement_written : (s : List ℕ) (r : Response132) → (response_at s).reply ≡ Settlement r → (s ≡ settlement_text r) × (is_settlement r ≡ true)
settlement_written s r h = let b : Back s (Settlement r) = rw h at (accepted_back s) in (b.0, sound_settlement r b.1)

pub recall_written : (s : List ℕ) (r : Response134) → (response_at s).reply ≡ Recall r → (s ≡ recall_text r) × (is_recall r ≡ true)
recall_written s r h = let b : Back s (Recall r) = rw h at (accepted_back s) in (b.0, sound_recall r b.1)

-- one response has one text
pub one_settlement : (s t : List ℕ) (r : Response132) → (response_at s).reply ≡ Settlement r → (response_at t).reply ≡ Settlement r → s ≡ t
one_settlement s t r h k = (settlement_written s r h).0 ∙ sym (settlement_written t r k).0

pub one_recall : (s t : List ℕ) (r : Response134) → (response_at s).reply ≡ Recall r → (response_at t).reply ≡ Recall r → s ≡ t
one_recall s t r h k = (recall_written s r h).0 ∙ sym (recall_written t r k).0

pub accepted_short : (s : List ℕ) → Shortness s (response_at s).reply
accepted_short s = go (response_at s).reply (accepted_back s)
  where
    go : (x : Reply) → Back s x → Shortness s x
    go (Settlement r) b = rw b.0 (settlement_short r b.1)
    go (Recall r) b = rw b.0 (recall_short r b.1)
    go (Refused b) u = tt
