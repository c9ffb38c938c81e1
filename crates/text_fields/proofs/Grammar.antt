-- A line as a grammar: a tag, a value of its kind and CR LF; that such a line is read, and that nothing else is.
use Rattle.chars.specs.declared.Refusal.{Refusal}
use Rattle.std.specs.Prelude.{Option, Some, None, Result, Ok, Err}
use Prim.Native.Nat.{ℕ, ◌+◌}
use mathlib.Core.Path.{◌≡◌, refl, ap, ◌∙◌, sym}
use mathlib.Core.List.{List, [], ◌++◌}
use native.Mathlib.Omega.{arith}
use lib.ListN.{length, drop}
use Rattle.chars.specs.Words.{crlf}
use Rattle.chars.proofs.Laws.{line_apart}
use Rattle.text_scan.specs.Scan.{on_next, lit_at}
use Rattle.text_scan.specs.declared.Cursor.{Cursor}
use Rattle.text_scan.proofs.Pairs.{ok_pair}
use Rattle.text_scan.proofs.Standing.{past, lit_reads, lit_sound}
use Rattle.text_values.proofs.Grammar.{ReadsAs, SpeltAs, reference_complete, numeral_complete, word_complete, bin_complete, numbers_complete, date_complete, time_complete, side_complete, amount_complete, letters_complete, count_complete, reference_sound, numeral_sound, word_sound, bin_sound, numbers_sound, date_sound, time_sound, side_sound, amount_sound, letters_sound, count_sound}
use Rattle.text_fields.specs.Fields.{absent, broken, wrong, item, place, on_read, value_at, field_at}
use Rattle.text_fields.specs.declared.Break.{Break}
use Rattle.text_fields.specs.declared.Item.{Item}
use Rattle.text_fields.specs.declared.Kind.{Kind}
use Rattle.text_fields.specs.declared.Kind.TheVariants.{Empty, Reference, Numeral, Word, Bin, Numbers, Date, Time, Side, Amount, Letters, Count}
use Rattle.text_fields.proofs.Alike.{Fine}
use Rattle.text_fields.specs.Grammar.{Spelt, Line}

value_complete : (s : List ℕ) (at : ℕ) (v r : List ℕ) → drop at s ≡ v ++ (crlf ++ r) → (b : ℕ) (k : Kind) → Fine b k → Spelt s k v → ReadsAs (value_at s at k) (at + length v)
value_complete s at v r h b Empty f g = record { number = 0; is = ap ((λ x0. Ok (0, x0))) (simp g (omega arith)) }
value_complete s at v r h b Reference f g = reference_complete s at v r h g
value_complete s at v r h b (Numeral n) f g = numeral_complete s at v r h n (omega arith) g
value_complete s at v r h b (Word n) f g = word_complete s at v r h n g
value_complete s at v r h b (Bin p) f g = bin_complete s at v r h p refl g
value_complete s at v r h b Numbers f g = numbers_complete s at v r h g
value_complete s at v r h b Date f g = date_complete s at v r h g
value_complete s at v r h b Time f g = time_complete s at v r h g
value_complete s at v r h b Side f g = side_complete s at v r h g
value_complete s at v r h b Amount f g = amount_complete s at v r h g
value_complete s at v r h b Letters f g = letters_complete s at v r h g
value_complete s at v r h b (Count n) f g = count_complete s at v r h n g

value_sound : (s : List ℕ) (at : ℕ) (k : Kind) {x e : ℕ} → value_at s at k ≡ Ok (x, e) → SpeltAs (Spelt s k) s at e
value_sound s at Empty {x} {e} h = let z : at ≡ e = (ok_pair h).1 in record { value = []; text = ap (λ (n : ℕ). drop n s) z; ends = omega (arith, z); is = refl }
value_sound s at Reference h = reference_sound s at h
value_sound s at (Numeral n) h = numeral_sound s at n h
value_sound s at (Word n) h = word_sound s at n h
value_sound s at (Bin p) h = bin_sound s at p h
value_sound s at Numbers h = numbers_sound s at h
value_sound s at Date h = date_sound s at h
value_sound s at Time h = time_sound s at h
value_sound s at Side h = side_sound s at h
value_sound s at Amount h = amount_sound s at h
value_sound s at Letters h = letters_sound s at h
value_sound s at (Count n) h = count_sound s at n h

-- a line that was read: what stands after it
pub record Passed (s : List ℕ) (at : ℕ) (tag : List ℕ) (k : Kind) (v r : List ℕ) : Type 0 where
  pub number : ℕ
  pub value : value_at s (at + length tag) k ≡ Ok (number, at + length tag + length v)
  pub is : field_at s at tag k ≡ Ok (item (at + length tag) (at + length tag + length v) number, place (at + length tag + length v + 2))
  pub rest : drop (at + length tag + length v + 2) s ≡ r
  pub part : drop (at + length tag) s ≡ v ++ (crlf ++ r)

pub line_text_lem : {tag : List ℕ} {P : List ℕ → Type 0} {l r : List ℕ} (g : Line tag P l r) → l ≡ tag ++ (g.value ++ (crlf ++ r))
line_text_lem {tag} {P} {l} {r} g = g.text ∙ line_apart tag g.value r

-- complete: a line that stands there is read
pub line_complete : (s : List ℕ) (at : ℕ) (tag : List ℕ) (k : Kind) (b : ℕ) → Fine b k → {l r : List ℕ} → drop at s ≡ l → (g : Line tag (Spelt s k) l r) → Passed s at tag k g.value r
unfolding field_at
line_complete s at tag k b f {l} {r} h g =
    let v = g.value in
    let h₁ = h ∙ line_text_lem g in
    let h₂ = past s at tag (v ++ (crlf ++ r)) h₁ in
    let h₃ = past s (at + length tag) v (crlf ++ r) h₂ in
    let l₁ = lit_reads s at tag (v ++ (crlf ++ r)) h₁ in
    let c = value_complete s (at + length tag) v r h₂ b k f g.is in
    let l₂ = lit_reads s (at + length tag + length v) crlf r h₃ in
    record {
      number = c.number;
      value = c.is;
      is = simp (l₁, c.is, l₂);
      rest = past s (at + length tag + length v) crlf r h₃;
      part = h₂;
    }

no_field : {A : Type 0} {b : Break} {i : Item} {c : Cursor} → ◌≡◌ {A = Result (Item × Cursor) Break} (Err b) (Ok (i, c)) → A
no_field h = let z : ◌≡◌ {A = ℕ} 0 1 = cc in absurd (omega arith)

-- sound: a line that is read stands there
pub line_sound : (s : List ℕ) (at : ℕ) (tag : List ℕ) (k : Kind) {i : Item} {c : Cursor} → field_at s at tag k ≡ Ok (i, c) → Line tag (Spelt s k) (drop at s) (drop c.at s)
unfolding field_at
line_sound s at tag k {i} {c} h = go₁ (lit_at s at tag) refl h
  where
    go₃ : (a v e : ℕ) → lit_at s at tag ≡ Some a → value_at s a k ≡ Ok (v, e) → (r : Option ℕ) → lit_at s e crlf ≡ r → on_next {A = Result (Item × Cursor) Break} r (Err (wrong at)) (λ n. Ok (item a e v, place n)) ≡ Ok (i, c) → Line tag (Spelt s k) (drop at s) (drop c.at s)
    go₃ a v e l g None u h = no_field h
    go₃ a v e l g (Some n) u h =
        let z : place n ≡ c = (ok_pair h).1 in
        let w = value_sound s a k g in
        rw (← z) (record {
          value = w.value;
          text = lit_sound s at tag l ∙ ap (λ (m : List ℕ). tag ++ m) (w.text ∙ ap (λ (m : List ℕ). w.value ++ m) (lit_sound s e crlf u)) ∙ sym (line_apart tag w.value (drop n s));
          is = w.is;
        })

    go₂ : (a : ℕ) → lit_at s at tag ≡ Some a → (r : Result (ℕ × ℕ) Refusal) → value_at s a k ≡ r → on_read {A = Result (Item × Cursor) Break} r (λ x. Err (broken at x)) (λ v e. on_next (lit_at s e crlf) (Err (wrong at)) (λ n. Ok (item a e v, place n))) ≡ Ok (i, c) → Line tag (Spelt s k) (drop at s) (drop c.at s)
    go₂ a l (Ok (v, e)) g h = go₃ a v e l g (lit_at s e crlf) refl h
    go₂ a l (Err x) g h = no_field h

    go₁ : (r : Option ℕ) → lit_at s at tag ≡ r → on_next {A = Result (Item × Cursor) Break} r (Err (absent at)) (λ a. on_read (value_at s a k) (λ x. Err (broken at x)) (λ v e. on_next (lit_at s e crlf) (Err (wrong at)) (λ n. Ok (item a e v, place n)))) ≡ Ok (i, c) → Line tag (Spelt s k) (drop at s) (drop c.at s)
    go₁ (Some a) l h = go₂ a l (value_at s a k) refl h
    go₁ None l h = no_field h
