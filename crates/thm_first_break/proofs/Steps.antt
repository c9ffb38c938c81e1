-- A field's step on the walk: its line stands there, or it breaks the text there.
use Rattle.std.specs.Prelude.{Result, Ok, Err, Option, Some, None}
use Prim.Native.Nat.{ℕ, ◌+◌}
use mathlib.Core.Path.{◌≡◌, refl, ap, sym, subst, ◌∙◌}
use mathlib.Core.List.{List, [], ◌∷◌, ◌++◌}
use mathlib.Core.Bool.{Bool, true, false, cond}
use mathlib.Core.Logic.{◌⊎◌, inl, inr}
use native.Mathlib.Omega.{arith}
use borrow.Author.Tests.{ltb-true, ltb-false}
use lib.Dec.{ltb}
use lib.ListN.{length, drop, length-drop, drop_of_length-le}
use Rattle.chars.specs.Chars.{is_digit}
use Rattle.chars.specs.Words.{crlf}
use Rattle.text_scan.specs.Scan.{begins}
use Rattle.text_scan.specs.declared.Cursor.{Cursor}
use Rattle.text_scan.proofs.Pairs.{ok_pair}
use Rattle.text_scan.proofs.Laws.{lit_yes}
use Rattle.text_scan.proofs.Standing.{lit_reads}
use Rattle.text_values.specs.Values.{text_of}
use Rattle.text_values.specs.declared.Part.{Part}
use Rattle.text_values.specs.Grammar.{IsNumeral, IsBin}
use Rattle.text_fields.specs.Fields.{absent, broken, place, on_good, value_at, field_at}
use Rattle.text_fields.specs.declared.Break.{Break}
use Rattle.text_fields.specs.declared.Item.{Item}
use Rattle.text_fields.specs.declared.Kind.{Kind}
use Rattle.text_fields.specs.declared.Kind.TheVariants.{Empty, Reference, Numeral, Word, Bin, Numbers, Date, Time, Side, Amount, Letters, Count}
use Rattle.text_fields.proofs.Alike.{Fine}
use Rattle.text_fields.specs.Grammar.{Spelt}
use Rattle.text_fields.proofs.Grammar.{line_complete, line_text_lem}
use Rattle.thm_grammar.proofs.Meanings.{LineRead, line_read}
use Rattle.thm_first_break.specs.Rows.{Row, f20, f12, f77e, f22a, f119, f16a, f171, f175, f127, f32b, f113, f102, f203, f21, f451, f13e, f432, IsOutcome, tag_of, Is, known, refusal_of}
use Rattle.thm_first_break.specs.Order.{Choice}
use Rattle.thm_first_break.specs.Breaks.{standing, missing, wrong}
use Rattle.thm_first_break.proofs.First.{Verdict, step, stop, fine}
use Rattle.thm_first_break.proofs.Numbers.{Told, told, reference_plain, numeral_plain, word_plain, bin_plain, numbers_plain, date_plain, time_plain, side_plain, amount_plain, count_plain, letters_told, field_bad}

-- a kind reads the values of a row, and tells its number
pub record Covers (s : List ℕ) (f : Row) (k : Kind) : Type 0 where
  pub bound : ℕ
  pub fine : Fine bound k
  pub from : (v : List ℕ) → Is f v → Spelt s k v
  pub told : (a : ℕ) → Told (refusal_of f (drop a s)) (value_at s a k)

-- and nothing else
pub record Fits (s : List ℕ) (f : Row) (k : Kind) : Type 0 where
  pub covers : Covers s f k
  pub to : (v : List ℕ) → Spelt s k v → Is f v

module _ (s : List ℕ) where
  pub fits20 : Fits s f20 Reference
  fits20 = record { covers = record { bound = 0; fine = tt; from = λ v h. h; told = λ a. told (reference_plain s a) }; to = λ v h. h }

  pub fits12 : (kinds : List ℕ) → Fits s (f12 kinds) (Numeral 3)
  fits12 kinds = record { covers = record { bound = 0; fine = omega arith; from = λ v h. h; told = λ a. told (numeral_plain s a 3) }; to = λ v h. h }

  pub fits77e : Fits s f77e Empty
  fits77e = record { covers = record { bound = 0; fine = tt; from = λ v h. h; told = λ a. refl }; to = λ v h. h }

  pub fits22a : Fits s f22a (Word 4)
  fits22a = record { covers = record { bound = 0; fine = omega arith; from = λ v h. h; told = λ a. told (word_plain s a 4) }; to = λ v h. h }

  pub fits119 : (w : List ℕ) (p : Part) → text_of s p ≡ w → (b : ℕ) → Fine b (Bin p) → Fits s (f119 w) (Bin p)
  fits119 w p h b f = record { covers = record { bound = b; fine = f; from = λ v g. subst (λ (x : List ℕ). IsBin x v) (sym h) g; told = λ a. told (bin_plain s a p) }; to = λ v g. subst (λ (x : List ℕ). IsBin x v) h g }

  pub fits16a : Fits s f16a Numbers
  fits16a = record { covers = record { bound = 0; fine = tt; from = λ v h. h; told = λ a. told (numbers_plain s a) }; to = λ v h. h }

  pub fits171 : Fits s f171 Date
  fits171 = record { covers = record { bound = 0; fine = tt; from = λ v h. h; told = λ a. told (date_plain s a) }; to = λ v h. h }

  pub fits175 : Fits s f175 Time
  fits175 = record { covers = record { bound = 0; fine = tt; from = λ v h. h; told = λ a. told (time_plain s a) }; to = λ v h. h }

  pub fits127 : Fits s f127 Side
  fits127 = record { covers = record { bound = 0; fine = tt; from = λ v h. h; told = λ a. told (side_plain s a) }; to = λ v h. h }

  pub fits32b : Fits s f32b Amount
  fits32b = record { covers = record { bound = 0; fine = tt; from = λ v h. h; told = λ a. told (amount_plain s a) }; to = λ v h. h }

  pub fits113 : Fits s f113 Letters
  fits113 = record { covers = record { bound = 0; fine = tt; from = λ v h. h; told = letters_told s }; to = λ v h. h }

  pub fits102 : Fits s f102 (Word 4)
  fits102 = record { covers = record { bound = 0; fine = omega arith; from = λ v h. h; told = λ a. told (word_plain s a 4) }; to = λ v h. h }

  pub fits203 : (n : ℕ) → Fits s (f203 n) (Count n)
  fits203 n = record { covers = record { bound = 0; fine = tt; from = λ v h. h; told = λ a. told (count_plain s a n) }; to = λ v h. h }

  pub fits21 : Fits s f21 Reference
  fits21 = record { covers = record { bound = 0; fine = tt; from = λ v h. h; told = λ a. told (reference_plain s a) }; to = λ v h. h }

  pub fits432 : Fits s f432 (Numeral 2)
  fits432 = record { covers = record { bound = 0; fine = omega arith; from = λ v h. h; told = λ a. told (numeral_plain s a 2) }; to = λ v h. h }

  one_digit : (v : List ℕ) → IsOutcome v → IsNumeral 1 v
  unfolding is_digit
  one_digit v (inl e) = subst (IsNumeral 1) (sym e) (record { size = refl; all = (refl, tt) })
  one_digit v (inr e) = subst (IsNumeral 1) (sym e) (record { size = refl; all = (refl, tt) })

  pub covers451 : Covers s f451 (Numeral 1)
  covers451 = record { bound = 0; fine = omega arith; from = one_digit; told = λ a. told (numeral_plain s a 1) }

  pub covers13e : Covers s f13e (Numeral 12)
  covers13e = record { bound = 0; fine = omega arith; from = λ v h. h.twelve; told = λ a. told (numeral_plain s a 12) }

pub read_and_not : {A : Type 0} {x : Result (Item × Cursor) Break} {b : Break} {i : Item} {c : Cursor} → x ≡ Ok (i, c) → x ≡ Err b → A
read_and_not p q = let z : ◌≡◌ {A = ℕ} 0 1 = cc in absurd (omega arith)

-- the row stands there where its tag does, else nothing does that may
pub record Asked (E : Type 0) (may : E → List (Choice E)) (last : E) (s : List ℕ) (p : ℕ) (e : E) (c : Choice E) : Type 0 where
  pub yes : begins (tag_of c.row) (drop p s) ≡ true → standing (may e) (drop p s) ≡ Some c
  pub no : begins (tag_of c.row) (drop p s) ≡ false → standing (may e) (drop p s) ≡ None
  pub open_end : e ≡ last → ⊥

-- one row alone may stand there
pub alone : (E : Type 0) (may : E → List (Choice E)) (last : E) (s : List ℕ) (p : ℕ) (e : E) (c : Choice E) → (e ≡ last → ⊥) → may e ≡ c ∷ [] → Asked E may last s p e c
alone E may last s p e c n h = record {
  yes = λ t. ap (λ (cs : List (Choice E)). standing cs (drop p s)) h ∙ rw t;
  no = λ t. ap (λ (cs : List (Choice E)). standing cs (drop p s)) h ∙ rw t;
  open_end = n;
}

module _ {E : Type 0} {may : E → List (Choice E)} {first last : E} {ends : may last ≡ []} {s : List ℕ} where
  -- "and nothing else"
  pub end_walk : {A : Type 0} (answer : A → Option Break) (x r : A) (p : ℕ) → answer x ≡ Some (absent p) → answer r ≡ None → Verdict E may first last ends s (answer (cond (ltb p (length s)) x r)) p last
  end_walk answer x r p h k = go (ltb p (length s)) refl
    where
      go : (b : Bool) → ltb p (length s) ≡ b → Verdict E may first last ends s (answer (cond b x r)) p last
      go true e = stop (absent p) h (missing refl (ap (λ (cs : List (Choice E)). standing cs (drop p s)) ends) (λ z n. omega (arith, ltb-true p (length s) e, sym (length-drop p s) ∙ ap length n)))
      go false e = fine k refl (drop_of_length-le s (ltb-false p (length s) e))

  -- a field that may stand there, and what it is read for
  pub on_field : {A : Type 0} (answer : A → Option Break) (bad : Break → A) → ((b : Break) → answer (bad b) ≡ Some b) → (good : Item → Cursor → A) {p : ℕ} {e : E} (c : Choice E) (k : Kind) → Covers s c.row k → Asked E may last s p e c
      → ((i : Item) (d : Cursor) → field_at s p (tag_of c.row) k ≡ Ok (i, d) → (g : LineRead s p (tag_of c.row) k i d) → standing (may e) (drop p s) ≡ Some c → ((o : Option Break) → Is c.row g.line.value → known c.row g.line.value ≡ true → Verdict E may first last ends s o d.at (c.next g.line.value) → Verdict E may first last ends s o p e) → Verdict E may first last ends s (answer (good i d)) p e)
      → Verdict E may first last ends s (answer (on_good (field_at s p (tag_of c.row) k) bad good)) p e
  on_field {A} answer bad ok good {p} {e} c k fit ask on = go (field_at s p (tag_of c.row) k) refl
    where
      go : (x : Result (Item × Cursor) Break) → field_at s p (tag_of c.row) k ≡ x → Verdict E may first last ends s (answer (on_good x bad good)) p e
      go (Ok (i, d)) q =
          let g = line_read s p (tag_of c.row) k fit.bound fit.fine q in
          let w = line_complete s p (tag_of c.row) k fit.bound fit.fine refl g.line in
          let z : d ≡ place (p + length (tag_of c.row) + length g.line.value + 2) = (ok_pair (sym q ∙ w.is)).1 in
          let t = ask.yes (lit_yes s p (tag_of c.row) (lit_reads s p (tag_of c.row) (g.line.value ++ (crlf ++ drop d.at s)) (line_text_lem g.line))) in
          on i d q g t (λ o is n v. step c t (record { value = g.line.value; text = g.line.text; is = is }) n (ap (λ (x : Cursor). x.at) z) v)
      go (Err b) q = broke (field_bad s p (tag_of c.row) k (refusal_of c.row (drop (p + length (tag_of c.row)) s)) (fit.told (p + length (tag_of c.row))) q)
        where
          broke : ((begins (tag_of c.row) (drop p s) ≡ false) × (b ≡ absent p)) ⊎ ((begins (tag_of c.row) (drop p s) ≡ true) × (b ≡ broken p (refusal_of c.row (drop (p + length (tag_of c.row)) s)))) → Verdict E may first last ends s (answer (bad b)) p e
          broke (inl x) = stop (absent p) (ok b ∙ ap Some x.1) (missing refl (ask.no x.0) (λ h n. ask.open_end h))
          broke (inr x) = stop (broken p (refusal_of c.row (drop (p + length (tag_of c.row)) s))) (ok b ∙ ap Some x.1) (wrong c refl (ask.yes x.0) (λ r g.
              read_and_not (line_complete s p (tag_of c.row) k fit.bound fit.fine refl (record { value = g.value; text = g.text; is = fit.from g.value g.is })).is q))

  -- where every well-formed value is known: the walk goes on behind it
  pub on_line : {A : Type 0} (answer : A → Option Break) (bad : Break → A) → ((b : Break) → answer (bad b) ≡ Some b) → (good : Item → Cursor → A) {p : ℕ} {e : E} (c : Choice E) (k : Kind) → Fits s c.row k → Asked E may last s p e c
      → ((v : List ℕ) → known c.row v ≡ true)
      → ((i : Item) (d : Cursor) → field_at s p (tag_of c.row) k ≡ Ok (i, d) → (g : LineRead s p (tag_of c.row) k i d) → Verdict E may first last ends s (answer (good i d)) d.at (c.next g.line.value))
      → Verdict E may first last ends s (answer (on_good (field_at s p (tag_of c.row) k) bad good)) p e
  on_line answer bad ok good c k fit ask n on = on_field answer bad ok good c k fit.covers ask (λ i d q g t f. f (answer (good i d)) (fit.to g.line.value g.line.is) (n g.line.value) (on i d q g))
