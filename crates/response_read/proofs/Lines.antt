-- What is written on a line is found there.
use Rattle.text_scan.specs.declared.Cursor.{Cursor}
use Rattle.text_fields.specs.declared.Item.{Item}
use Rattle.text_fields.specs.declared.Break.{Break}
use Rattle.std.specs.Prelude.{Some, None, Result, Ok}
use Prim.Native.Nat.{ℕ, ◌+◌, ◌-◌, ◌≤◌, ◌<◌}
use mathlib.Core.Path.{◌≡◌, refl, ap, sym, ◌∙◌}
use mathlib.Core.Bool.{Bool, true, false, cond}
use mathlib.Core.List.{List, [], ◌∷◌, ◌++◌, append_assoc}
use native.Mathlib.Omega.{arith}
use borrow.Author.Tests.{ne_eqb}
use lib.ListN.{length, drop, length-append}
use lib.Seq.{take-append_seam, take_at}
use Rattle.chars.specs.Words.{bytes, crlf, line}
use Rattle.chars.proofs.Laws.{line_apart}
use Rattle.chars.specs.Chars.{is_digit, is_code}
use Rattle.codes.specs.Codes.{packed, short_at}
use Rattle.codes.proofs.Laws.{pack_take}
use Rattle.text_put.specs.Digits.{digits_of}
use Rattle.text_put.proofs.Laws.{digits_length}
use Rattle.text_scan.specs.Scan.{begins, lit_at, number_at, ten}
use Rattle.text_names.specs.rules.Names.{forbidden}
use Rattle.text_scan.specs.Spelling.{All, value_of}
use Rattle.text_scan.proofs.Standing.{past, lit_reads, codes_reads, code_reads, number_reads}
use Rattle.text_values.specs.Values.{text_of, stands, forbidden_at, reference_at, numeral_at, word_at, bin_at}
use Rattle.text_values.specs.declared.Part.{Part}
use Rattle.text_fields.specs.Fields.{item, place, value_at, field_at}
use Rattle.text_fields.specs.declared.Kind.{Kind}
use Rattle.text_fields.specs.declared.Kind.TheVariants.{Empty, Reference, Numeral, Word, Bin}
use Rattle.response_read.proofs.Digits.{digits_all, value_back, cr_no_code, begins_before}

-- a step found the text v, its number w, and the rest after its line
pub record Found (s : List ℕ) (f : Result (Item × Cursor) Break) (v : List ℕ) (w : ℕ) (rest : List ℕ) : Type 0 where
  pub start : ℕ
  pub stop : ℕ
  pub next : ℕ
  pub good : f ≡ Ok (item start stop w, place next)
  pub text : text_of s (record { start = start; end = stop }) ≡ v
  pub left : drop next s ≡ rest

module _ (s : List ℕ) where
  pub text_there : (at : ℕ) (v r : List ℕ) → drop at s ≡ v ++ r → text_of s (record { start = at; end = at + length v }) ≡ v
  unfolding text_of
  text_there at v r h = let z : at + length v - at ≡ length v = omega arith in rw (z, h) (take-append_seam v r)

  -- a value of its kind on its line is found
  pub found : (at : ℕ) (tag v rest : List ℕ) (kind : Kind) (w : ℕ) → drop at s ≡ line tag v ++ rest
      → (drop (at + length tag) s ≡ v ++ (crlf ++ rest) → value_at s (at + length tag) kind ≡ Ok (w, at + length tag + length v))
      → Found s (field_at s at tag kind) v w rest
  unfolding field_at
  found at tag v rest kind w h value =
      let h₀ = h ∙ line_apart tag v rest in
      let h₁ = past s at tag (v ++ (crlf ++ rest)) h₀ in
      let h₂ = past s (at + length tag) v (crlf ++ rest) h₁ in
      record {
        start = at + length tag;
        stop = at + length tag + length v;
        next = at + length tag + length v + 2;
        good = simp (lit_reads s at tag _ h₀, value h₁, lit_reads s (at + length tag + length v) crlf rest h₂);
        text = text_there (at + length tag) v (crlf ++ rest) h₁;
        left = past s (at + length tag + length v) crlf rest h₂;
      }

  numeral_value : (n : ℕ) (v : List ℕ) (a : ℕ) (r : List ℕ) → All is_digit v → length v ≡ n → n ≤ 18 → drop a s ≡ v ++ r → numeral_at s a n ≡ Ok (value_of 0 v, a + length v)
  unfolding numeral_at
  numeral_value n v a r all e m h = rw (← e) (simp (number_reads s a v r h all (omega arith)))

  -- digits, and the k digits of a number
  pub digits_found : (at : ℕ) (tag v rest : List ℕ) (k : ℕ) → k ≤ 18 → length v ≡ k → All is_digit v → drop at s ≡ line tag v ++ rest → Found s (field_at s at tag (Numeral k)) v (value_of 0 v) rest
  digits_found at tag v rest k m e all h = found at tag v rest (Numeral k) (value_of 0 v) h (numeral_value k v (at + length tag) (crlf ++ rest) all e m)

  pub numeral_found : (at : ℕ) (tag rest : List ℕ) (k n : ℕ) → k ≤ 18 → n < ten k → drop at s ≡ line tag (digits_of k n) ++ rest
      → Found s (field_at s at tag (Numeral k)) (digits_of k n) n rest
  numeral_found at tag rest k n m small h =
      rw (value_back k n small) at (digits_found at tag (digits_of k n) rest k m (digits_length k n) (digits_all k n) h)

  short_there : (a : ℕ) (v r : List ℕ) → length v ≡ 4 → drop a s ≡ v ++ r → short_at s a ≡ packed 4 v
  unfolding short_at
  short_there a v r e h = rw h (sym (pack_take 4 0 (v ++ r)) ∙ ap (packed 4) (take_at v r 4 e))

  word_value : (n : ℕ) (v : List ℕ) (a : ℕ) (r : List ℕ) → All is_code v → length v ≡ n → drop a s ≡ v ++ r → word_at s a n ≡ Ok (short_at s a, a + length v)
  unfolding word_at
  word_value n v a r all e h = rw (← e) (simp (code_reads s a v r h all))

  pub empty_found : (at : ℕ) (tag rest : List ℕ) → drop at s ≡ line tag [] ++ rest → Found s (field_at s at tag Empty) [] 0 rest
  empty_found at tag rest h = found at tag [] rest Empty 0 h (λ g. ap (λ (e : ℕ). Ok (0, e)) (omega arith))

  pub word_found : (at : ℕ) (tag v rest : List ℕ) → length v ≡ 4 → All is_code v → drop at s ≡ line tag v ++ rest → Found s (field_at s at tag (Word 4)) v (packed 4 v) rest
  word_found at tag v rest e all h =
      found at tag v rest (Word 4) (packed 4 v) h
      (λ g. word_value 4 v (at + length tag) (crlf ++ rest) all e g
      ∙ ap (λ (w : ℕ). Ok (w, at + length tag + length v)) (short_there (at + length tag) v (crlf ++ rest) e g))

  bin_value : (a : ℕ) (v d r : List ℕ) (p : Part) → length d ≡ 4 → All is_digit d → text_of s p ≡ v → drop a s ≡ (v ++ d) ++ r → bin_at s a p ≡ Ok (0, a + length (v ++ d))
  unfolding bin_at
  bin_value a v d r p e all t h =
      let g = h ∙ append_assoc v d r in
      let n : number_at s (a + length v) 4 ≡ Some (value_of 0 d, a + length v + length d) = ap (number_at s (a + length v)) (sym e) ∙ number_reads s (a + length v) d r (past s a v (d ++ r) g) all (omega arith) in
      simp (t, lit_reads s a v (d ++ r) g, n) (ap (λ (e : ℕ). Ok (0, e)) (omega (arith, length-append v d)))

  pub bin_found : (at : ℕ) (tag v d rest : List ℕ) (p : Part) → length d ≡ 4 → All is_digit d → text_of s p ≡ v → drop at s ≡ line tag (v ++ d) ++ rest → Found s (field_at s at tag (Bin p)) (v ++ d) 0 rest
  bin_found at tag v d rest p e all t h = found at tag (v ++ d) rest (Bin p) 0 h (bin_value (at + length tag) v d (crlf ++ rest) p e all t)

  -- a forbidden beginning stands at a place exactly where the text from there on begins so
  stands_begins : (at : ℕ) (p : List ℕ) → stands (lit_at s at p) ≡ begins p (drop at s)
  unfolding lit_at
  stands_begins at p = go (begins p (drop at s))
    where
      go : (b : Bool) → stands (cond b (Some (at + length p)) None) ≡ b
      go true = refl
      go false = refl

  pub forbidden_there : (at : ℕ) (v r : List ℕ) → drop at s ≡ v ++ (crlf ++ r) → forbidden_at s at ≡ forbidden v
  unfolding forbidden_at
  forbidden_there at v r h =
      simp (
        stands_begins at (bytes "RITS"),
        stands_begins at (bytes "ACLR"),
        stands_begins at (bytes "ASXC"),
        h,
        begins_before (bytes "RITS") v 13 (10 ∷ r) (refl, (refl, (refl, (refl, tt)))),
        begins_before (bytes "ACLR") v 13 (10 ∷ r) (refl, (refl, (refl, (refl, tt)))),
        begins_before (bytes "ASXC") v 13 (10 ∷ r) (refl, (refl, (refl, (refl, tt)))),
      )

  reference_value : (a : ℕ) (v r : List ℕ) → 1 ≤ length v → length v ≤ 16 → All is_code v → forbidden v ≡ false → drop a s ≡ v ++ (crlf ++ r) → reference_at s a ≡ Ok (0, a + length v)
  unfolding reference_at
  reference_value a v r some few all free h =
      simp (codes_reads s a v 13 (10 ∷ r) 16 h few all cr_no_code, ne_eqb (a + length v) a (omega arith), forbidden_there a v r h, free)

  pub reference_found : (at : ℕ) (tag v rest : List ℕ) → 1 ≤ length v → length v ≤ 16 → All is_code v → forbidden v ≡ false → drop at s ≡ line tag v ++ rest → Found s (field_at s at tag Reference) v 0 rest
  reference_found at tag v rest some few all free h = found at tag v rest Reference 0 h (reference_value (at + length tag) v rest some few all free)
