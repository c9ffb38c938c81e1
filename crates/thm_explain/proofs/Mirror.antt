-- Stages that mirror what `thm_first_break` says may stand where a line begins: the walk then tells just that.
use Rattle.std.specs.Prelude.{Option, Some, None}
use Prim.Native.Nat.{ℕ, ◌+◌, ◌≤◌}
use mathlib.Core.Path.{◌≡◌, refl, ap, sym, subst, ◌∙◌}
use mathlib.Core.List.{List, [], ◌∷◌, ◌++◌}
use mathlib.Core.Bool.{Bool, true, false, cond, ◌&&◌}
use mathlib.Core.Logic.{◌⊎◌, inl, inr}
use native.Mathlib.Omega.{arith}
use lib.Dec.{eqb}
use lib.ListN.{length, get_or, drop, length-drop, length-append}
use lib.Seq.{drop-append_seam, drop-drop}
use Rattle.chars.specs.Words.{bytes, crlf}
use Rattle.chars.specs.Refusals.{number_of}
use Rattle.chars.specs.declared.Refusal.TheVariants.{Malformed, WrongEsa, WrongLetter}
use Rattle.text_scan.specs.Scan.{on_next, begins, lit_at, line_end_at}
use Rattle.text_scan.specs.Spelling.{All}
use Rattle.text_scan.proofs.Standing.{lit_sound, line_end_reads}
use Rattle.text_values.specs.Letters.{is_status}
use Rattle.text_fields.specs.Grammar.{Line}
use Rattle.text_fields.proofs.Grammar.{line_text_lem}
use Rattle.text_fields.specs.declared.Break.{Break}
use Rattle.thm_first_break.specs.Rows.{Row, f20, f12, f77e, f22a, f119, f16a, f171, f175, f127, f32b, f113, no113, f102, f203, f_b20, f21, f451, f13e, f432, tag_of, Is, known, four_characters, refusal_of}
use Rattle.thm_first_break.specs.Order.{Choice}
use Rattle.thm_first_break.specs.Breaks.{standing, Reached, beginning, behind, Breaks, missing, wrong, other, FirstBreak}
use Rattle.text_explain.specs.Tags.{tag_text, texts_of}
use Rattle.text_explain.specs.Stages.{tags_at, after, said_in}
use Rattle.text_explain.specs.Walk.{place, stands_at, onward_at, step_at, place_at}
use Rattle.text_explain.specs.Faults.{fault_at, told_at}
use Rattle.thm_explain.specs.Explained.{is_never, tags_in, lines_in, Explained, is_missing, is_wrong, is_unknown, is_never_lem, Tells}
use Rattle.text_explain.specs.declared.Tag.{Tag}
use Rattle.text_explain.specs.declared.Tag.TheVariants.{T102}
use Rattle.text_explain.specs.declared.Tags.TheVariants.{One, Two}
use Rattle.text_explain.specs.declared.Stage.{Stage}
use Rattle.text_explain.specs.declared.Place.{Place}
use Rattle.text_explain.specs.declared.Fault.TheVariants.{Wrong, Unknown}
use Rattle.text_explain.proofs.Laws.{Going, going_start, going_on, going_done, fault_1, fault_2, wrong_1, wrong_2}
use Rattle.thm_explain.proofs.InLine.{in_line}

-- a tag stands at a place, or it does not
module _ (s : List ℕ) (p : ℕ) where
  lit_there : (x : List ℕ) → begins x (drop p s) ≡ true → lit_at s p x ≡ Some (p + length x)
  unfolding lit_at
  lit_there x h = rw h

  lit_away : (x : List ℕ) → begins x (drop p s) ≡ false → lit_at s p x ≡ None
  unfolding lit_at
  lit_away x h = rw h

  one_stands : (t : Tag) → begins (tag_text t) (drop p s) ≡ true → stands_at s p (One t) ≡ Some (t, p + length (tag_text t))
  unfolding stands_at
  one_stands t h = rw (lit_there (tag_text t) h)

  first_stands : (t u : Tag) → begins (tag_text t) (drop p s) ≡ true → stands_at s p (Two t u) ≡ Some (t, p + length (tag_text t))
  unfolding stands_at
  first_stands t u h = rw (lit_there (tag_text t) h)

  second_stands : (t u : Tag) → begins (tag_text t) (drop p s) ≡ false → begins (tag_text u) (drop p s) ≡ true → stands_at s p (Two t u) ≡ Some (u, p + length (tag_text u))
  unfolding stands_at
  second_stands t u h i = rw (lit_away (tag_text t) h, lit_there (tag_text u) i)

-- the row that stands there is one of those that may
pub stood : {E : Type 0} (d c : Choice E) (cs : List (Choice E)) (l : List ℕ) → standing (d ∷ cs) l ≡ Some c → ((begins (tag_of d.row) l ≡ true) × (d ≡ c)) ⊎ ((begins (tag_of d.row) l ≡ false) × (standing cs l ≡ Some c))
stood d c cs l h = go (begins (tag_of d.row) l) refl h
  where
    go : (b : Bool) → begins (tag_of d.row) l ≡ b → cond b (Some d) (standing cs l) ≡ Some c → ((begins (tag_of d.row) l ≡ true) × (d ≡ c)) ⊎ ((begins (tag_of d.row) l ≡ false) × (standing cs l ≡ Some c))
    go true e h = inl (e, cc)
    go false e h = inr (e, h)

pub nothing : {A E : Type 0} {c : Choice E} → ◌≡◌ {A = Option (Choice E)} None (Some c) → A
nothing h = let z : ◌≡◌ {A = ℕ} 0 1 = cc in absurd (omega arith)

-- the number of a wrong value is not that of another sub type
not_88 : (f : Row) (l : List ℕ) → eqb (number_of (refusal_of f l)) 88 ≡ false
not_88 f113 l = go (four_characters l) (is_status (get_or l 0 0)) (is_status (get_or l 1 0) && is_status (get_or l 2 0))
  where
    go : (a b c : Bool) → eqb (number_of (cond a (cond b (cond c Malformed WrongLetter) WrongEsa) Malformed)) 88 ≡ false
    go true true true = refl
    go true true false = refl
    go true false c = refl
    go false b c = refl
not_88 f20 l = refl
not_88 (f12 kinds) l = refl
not_88 f77e l = refl
not_88 f22a l = refl
not_88 (f119 stream) l = refl
not_88 f16a l = refl
not_88 f171 l = refl
not_88 f175 l = refl
not_88 f127 l = refl
not_88 f32b l = refl
not_88 no113 l = refl
not_88 f102 l = refl
not_88 (f203 n) l = refl
not_88 f_b20 l = refl
not_88 f21 l = refl
not_88 f451 l = refl
not_88 f13e l = refl
not_88 f432 l = refl

-- what is told where a row stands: its tag, and behind its line what is expected there; or it is the 113 that never stands there
module _ (E : Type 0) (may : E → List (Choice E)) (stage_of : E → Stage) (Clean : E → Type 0) where
  -- behind a line with a well-formed value
  abbrev pub Behaves : E → Choice E → Tag → Type 0
  Behaves e c t = (v r : List ℕ) → Clean e → Is c.row v → known c.row v ≡ true → (after (stage_of e) t (said_in (v ++ (crlf ++ r))) ≡ stage_of (c.next v)) × (All in_line v × Clean (c.next v))

  pub data Mirrored (e : E) (s : List ℕ) (p : ℕ) (c : Choice E) : Type 0 where
    mirrored : (t : Tag) → tag_text t ≡ tag_of c.row → stands_at s p (tags_at (stage_of e)) ≡ Some (t, p + length (tag_text t)) → Behaves e c t → Mirrored e s p c
    never : c.row ≡ no113 → stands_at s p (tags_at (stage_of e)) ≡ None → lit_at s p (bytes ":113:") ≡ Some (p + 5) → Mirrored e s p c

  pub record Mirror : Type 0 where
    pub tags : (e : E) → texts_of (tags_at (stage_of e)) ≡ tags_in (may e)
    pub line : (e : E) (s : List ℕ) (p : ℕ) (c : Choice E) → standing (may e) (drop p s) ≡ Some c → Mirrored e s p c

  -- one row alone, and two
  module _ (e : E) (s : List ℕ) (p : ℕ) (c : Choice E) where
    pub alone : (d : Choice E) (t : Tag) → tag_text t ≡ tag_of d.row → tags_at (stage_of e) ≡ One t → Behaves e d t → standing (d ∷ []) (drop p s) ≡ Some c → Mirrored e s p c
    alone d t n h w i = go (stood d c [] (drop p s) i)
      where
        go : ((begins (tag_of d.row) (drop p s) ≡ true) × (d ≡ c)) ⊎ ((begins (tag_of d.row) (drop p s) ≡ false) × (standing [] (drop p s) ≡ Some c)) → Mirrored e s p c
        go (inl x) = subst (Mirrored e s p) x.1 (mirrored t n (ap (stands_at s p) h ∙ one_stands s p t (ap (λ (k : List ℕ). begins k (drop p s)) n ∙ x.0)) w)
        go (inr x) = nothing x.1

    pub either : (d f : Choice E) (t u : Tag) → tag_text t ≡ tag_of d.row → tag_text u ≡ tag_of f.row → tags_at (stage_of e) ≡ Two t u → Behaves e d t → Behaves e f u → standing (d ∷ f ∷ []) (drop p s) ≡ Some c → Mirrored e s p c
    either d f t u n m h w x i = go (stood d c (f ∷ []) (drop p s) i)
      where
        later : begins (tag_of d.row) (drop p s) ≡ false → ((begins (tag_of f.row) (drop p s) ≡ true) × (f ≡ c)) ⊎ ((begins (tag_of f.row) (drop p s) ≡ false) × (standing [] (drop p s) ≡ Some c)) → Mirrored e s p c
        later y (inl z) = subst (Mirrored e s p) z.1 (mirrored u m (ap (stands_at s p) h ∙ second_stands s p t u (ap (λ (k : List ℕ). begins k (drop p s)) n ∙ y) (ap (λ (k : List ℕ). begins k (drop p s)) m ∙ z.0)) x)
        later y (inr z) = nothing z.1

        go : ((begins (tag_of d.row) (drop p s) ≡ true) × (d ≡ c)) ⊎ ((begins (tag_of d.row) (drop p s) ≡ false) × (standing (f ∷ []) (drop p s) ≡ Some c)) → Mirrored e s p c
        go (inl y) = subst (Mirrored e s p) y.1 (mirrored t n (ap (stands_at s p) h ∙ first_stands s p t u (ap (λ (k : List ℕ). begins k (drop p s)) n ∙ y.0)) w)
        go (inr y) = later y.0 (stood f c [] (drop p s) y.1)

-- a 113 is no 102
pub no_bank : (s : List ℕ) (p : ℕ) → begins (bytes ":113:") (drop p s) ≡ true → (stands_at s p (One T102) ≡ None) × (lit_at s p (bytes ":113:") ≡ Some (p + 5))
unfolding stands_at begins
no_bank s p h =
    let l = lit_there s p (bytes ":113:") h in
    (rw (lit_away s p (bytes ":102:") (ap (begins (bytes ":102:")) (lit_sound s p (bytes ":113:") l))), l)

-- a step to the next line
stepped : (s : List ℕ) (w : Place) (t : Tag) (a e q : ℕ) (x : Stage) → stands_at s w.at (tags_at w.stage) ≡ Some (t, a) → line_end_at s a (length s) ≡ Some e → e + 2 ≡ q → after w.stage t (said_in (drop a s)) ≡ x → step_at s w ≡ Some (place q (w.line + 1) x)
unfolding step_at onward_at
stepped s w t a e q x h i j k = rw (h, i, k, j)

module _ (E : Type 0) (may : E → List (Choice E)) (first last : E) (stage_of : E → Stage) (Clean : E → Type 0) (m : Mirror E may stage_of Clean) (clean : Clean first) (s : List ℕ) where
  -- the line that was read ends where the next one begins
  onto : (p q : ℕ) (e : E) (c : Choice E) (n : ℕ) → standing (may e) (drop p s) ≡ Some c → (g : Line (tag_of c.row) (Is c.row) (drop p s) (drop q s)) → known c.row g.value ≡ true → q ≡ p + length (tag_of c.row) + length g.value + 2 → Clean e → (step_at s (place p n (stage_of e)) ≡ Some (place q (n + 1) (stage_of (c.next g.value)))) × Clean (c.next g.value)
  onto p q e c n h g k j o = go (m.line e s p c h)
    where
      v : List ℕ
      v = g.value

      go : Mirrored E may stage_of Clean e s p c → (step_at s (place p n (stage_of e)) ≡ Some (place q (n + 1) (stage_of (c.next v)))) × Clean (c.next v)
      go (mirrored t x y w) =
          let i = w v (drop q s) o g.is k in
          let a : drop (p + length (tag_text t)) s ≡ v ++ (crlf ++ drop q s) = sym (drop-drop (length (tag_text t)) p s) ∙ ap (drop (length (tag_text t))) (line_text_lem g ∙ ap (λ (l : List ℕ). l ++ (v ++ (crlf ++ drop q s))) (sym x)) ∙ drop-append_seam (tag_text t) (v ++ (crlf ++ drop q s)) in
          let z : length v ≤ length s = omega (arith, simp (length-drop, length-append) at (ap length a)) in
          let u : p + length (tag_text t) + length v + 2 ≡ q = ap (λ (l : List ℕ). p + length l + length v + 2) x ∙ sym j in
          (stepped s (place p n (stage_of e)) t (p + length (tag_text t)) (p + length (tag_text t) + length v) q (stage_of (c.next v)) y (line_end_reads s (p + length (tag_text t)) (length s) v (drop q s) a i.1.0 z) u (ap (λ (l : List ℕ). after (stage_of e) t (said_in l)) a ∙ i.0), i.1.1)
      go (never x y z) = absurd (subst (λ (f : Row). Is f v) x g.is)

  -- the walk comes through each line that was read
  through : {p : ℕ} {e : E} (r : Reached E may first last s p e) (at : ℕ) → p ≤ at → Going s (stage_of first) at (place p (lines_in E may first last r + 1) (stage_of e)) × Clean e
  through beginning at h = (going_start s (stage_of first) at, clean)
  through (behind {p} {q} {e} c r h g k j) at l =
      let i = through r at (omega arith) in
      let o = onto p q e c (lines_in E may first last r + 1) h g k j i.1 in
      (going_on i.0 (omega arith) refl o.0, o.1)

  pub told_there : {p : ℕ} {e : E} (r : Reached E may first last s p e) → place_at s (stage_of first) p ≡ place p (lines_in E may first last r + 1) (stage_of e)
  told_there {p} r = sym (going_done (through r p (omega arith)).0 (omega arith))

  -- and so what is told of the first break is what breaks the text
  explained : (e : E) (b : Break) (n : ℕ) → Breaks E may first last s e b → Explained E may first last s e b n (fault_at s b (place b.at n (stage_of e)))
  explained e b n (missing x h f) =
      let y : b.missing ≡ true = ap (λ (d : Break). d.missing) x in
      is_missing (tags_at (stage_of e)) y (m.tags e) (sym (fault_1 s b (place b.at n (stage_of e)) y refl))
  explained e b n (wrong c x h f) = go (m.line e s b.at c h)
    where
      w : Place
      w = place b.at n (stage_of e)

      y : b.missing ≡ false
      y = ap (λ (d : Break). d.missing) x

      z : eqb (number_of b.refusal) 88 ≡ false
      z = ap (λ (d : Break). eqb (number_of d.refusal) 88) x ∙ not_88 c.row (drop (b.at + length (tag_of c.row)) s)

      go : Mirrored E may stage_of Clean e s b.at c → Explained E may first last s e b n (fault_at s b w)
      go (mirrored t i j k) = is_wrong c t y h i (sym (fault_2 s b w y (wrong_1 s b w refl refl (j ∙ ap (λ (l : List ℕ). Some (t, b.at + length l)) i) refl (sym (ap (λ (u : Bool). cond u Unknown (Wrong t)) z)))))
      go (never i j k) = is_never_lem c y h (ap is_never i) (sym (fault_2 s b w y (wrong_2 s b w refl refl j (sym (ap (λ (u : Option ℕ). on_next u 0 (λ a. a)) k ∙ ap (λ (f : Row). b.at + length (tag_of f)) (sym i))))))
  explained e b n (other c x h g f) = go (m.line e s b.at c h)
    where
      w : Place
      w = place b.at n (stage_of e)

      y : b.missing ≡ false
      y = ap (λ (d : Break). d.missing) x

      z : eqb (number_of b.refusal) 88 ≡ true
      z = ap (λ (d : Break). eqb (number_of d.refusal) 88) x

      go : Mirrored E may stage_of Clean e s b.at c → Explained E may first last s e b n (fault_at s b w)
      go (mirrored t i j k) = is_unknown c y h (sym (fault_2 s b w y (wrong_1 s b w refl refl (j ∙ ap (λ (l : List ℕ). Some (t, b.at + length l)) i) refl (sym (ap (λ (u : Bool). cond u Unknown (Wrong t)) z)))))
      go (never i j k) = absurd (subst (λ (f : Row). Is f g.value) i g.is)

  pub tells : (b : Break) → FirstBreak E may first last s b → Tells E may first last s b (told_at s (stage_of first) b)
  unfolding told_at
  tells b f = record {
    expecting = f.expecting;
    reached = f.reached;
    fault = rw (told_there f.reached) (explained f.expecting b (lines_in E may first last f.reached + 1) f.breaks);
  }
