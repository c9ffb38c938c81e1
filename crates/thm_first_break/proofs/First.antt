-- A text that was walked through line by line breaks at one place and in one way.
use Rattle.std.specs.Prelude.{Option, Some, None}
use Prim.Native.Nat.{ℕ, ◌+◌}
use mathlib.Core.Path.{◌≡◌, refl, ap, sym, subst, subst₂, ◌∙◌}
use mathlib.Core.List.{List, []}
use mathlib.Core.Bool.{true, false, false≢true}
use native.Mathlib.Omega.{arith}
use lib.ListN.{length, drop}
use Rattle.text_fields.specs.declared.Break.{Break}
use Rattle.text_fields.specs.Grammar.{Line}
use Rattle.thm_first_break.specs.Rows.{tag_of, Is, known}
use Rattle.thm_first_break.specs.Order.{Choice}
use Rattle.thm_first_break.specs.Breaks.{standing, Reached, beginning, behind, Breaks, missing, wrong, other, FirstBreak}
use Rattle.thm_first_break.proofs.Values.{same_value}

nothing_there : {A : Type 0} {E : Type 0} {x : Option (Choice E)} {c : Choice E} → x ≡ None → x ≡ Some c → A
nothing_there p q = let z : ◌≡◌ {A = ℕ} 0 1 = cc in absurd (omega arith)

module _ (E : Type 0) (may : E → List (Choice E)) (first last : E) (ends : may last ≡ []) (s : List ℕ) where
  -- what a reader answers from a place on, by the lines that stand there: the break, or none
  pub data Verdict (o : Option Break) : ℕ → E → Type 0 where
    step : {p q : ℕ} {e : E} (c : Choice E) → standing (may e) (drop p s) ≡ Some c → (g : Line (tag_of c.row) (Is c.row) (drop p s) (drop q s)) → known c.row g.value ≡ true → q ≡ p + length (tag_of c.row) + length g.value + 2 → Verdict o q (c.next g.value) → Verdict o p e
    stop : {e : E} (b : Break) → o ≡ Some b → Breaks E may first last s e b → Verdict o b.at e
    fine : {p : ℕ} {e : E} → o ≡ None → e ≡ last → drop p s ≡ [] → Verdict o p e

  -- the first break, by the walk
  pub breaks_first : {o : Option Break} {p : ℕ} {e : E} → Verdict o p e → Reached E may first last s p e → (b : Break) → o ≡ Some b → FirstBreak E may first last s b
  breaks_first (step c h g k n w) r b x = breaks_first w (behind c r h g k n) b x
  breaks_first (stop {e} d y w) r b x =
      let z : d ≡ b = cc in
      subst (FirstBreak E may first last s) z (record { expecting = e; reached = r; breaks = w })
  breaks_first (fine y h n) r b x = let z : ◌≡◌ {A = ℕ} 0 1 = cc in absurd (omega arith)

  -- a line that may stand there breaks nothing
  unbroken : {e : E} {b : Break} → Breaks E may first last s e b → {p : ℕ} → p ≡ b.at → (c : Choice E) → standing (may e) (drop p s) ≡ Some c → {r : List ℕ} (g : Line (tag_of c.row) (Is c.row) (drop p s) r) → known c.row g.value ≡ true → ⊥
  unbroken {e} (missing x h f) a c i g k = nothing_there (ap (λ (j : ℕ). standing (may e) (drop j s)) a ∙ h) i
  unbroken (wrong d x h f) a c i {r} g k =
      let z : c ≡ d = cc in
      f r (subst₂ (λ (j : ℕ) (y : Choice E). Line (tag_of y.row) (Is y.row) (drop j s) r) a z g)
  unbroken {e} {b} (other d {r = q} x h t u) {p} a c i {r} g k = go (subst₂ (λ (j : ℕ) (y : Choice E). (l : Line (tag_of y.row) (Is y.row) (drop j s) q) × (known y.row l.value ≡ false)) (sym a) z (t, u))
    where
      z : d ≡ c
      z = cc

      go : (l : Line (tag_of c.row) (Is c.row) (drop p s) q) × (known c.row l.value ≡ false) → ⊥
      go m = false≢true (sym m.1 ∙ ap (known c.row) (same_value c.row m.0 g) ∙ k)

  -- the walk behind a line that stands there
  abbrev Onward : Option Break → ℕ → Choice E → Type 0
  Onward o p c = (q : ℕ) × ((g : Line (tag_of c.row) (Is c.row) (drop p s) (drop q s)) × ((q ≡ p + length (tag_of c.row) + length g.value + 2) × Verdict o q (c.next g.value)))

  at_last : (e : E) (p : ℕ) → e ≡ last → standing (may e) (drop p s) ≡ None
  at_last e p h = ap (λ (y : E). standing (may y) (drop p s)) h ∙ ap (λ (y : List (Choice E)). standing y (drop p s)) ends

  past : {o : Option Break} {p : ℕ} {e : E} → Verdict o p e → {q : ℕ} (c : Choice E) → standing (may e) (drop p s) ≡ Some c → (g : Line (tag_of c.row) (Is c.row) (drop p s) (drop q s)) → known c.row g.value ≡ true → q ≡ p + length (tag_of c.row) + length g.value + 2 → Verdict o q (c.next g.value)
  past {o} {p} (step {q = r} d h t u m w) {q} c i g k n = go (subst (Onward o p) z (r, (t, (m, w))))
    where
      z : d ≡ c
      z = cc

      go : Onward o p c → Verdict o q (c.next g.value)
      go x =
          let y = same_value c.row x.1.0 g in
          let a : x.0 ≡ q = x.1.1.0 ∙ ap (λ (v : List ℕ). p + length (tag_of c.row) + length v + 2) y ∙ sym n in
          subst₂ (λ (j : ℕ) (v : List ℕ). Verdict o j (c.next v)) a y x.1.1.1
  past (stop b x w) c i g k n = absurd (unbroken w refl c i g k)
  past {p = p} {e} (fine x h m) c i g k n = nothing_there (at_last e p h) i

  pub kept : {o : Option Break} {p : ℕ} {e : E} → Reached E may first last s p e → Verdict o 0 first → Verdict o p e
  kept beginning v = v
  kept (behind c r h g k n) v = past (kept r v) c h g k n

  same_break : {e : E} {b d : Break} → d.at ≡ b.at → Breaks E may first last s e d → Breaks E may first last s e b → d ≡ b
  same_break {e} h (missing x i f) (missing y j g) = cc
  same_break {e} h (missing x i f) (wrong c y j g) = nothing_there (ap (λ (p : ℕ). standing (may e) (drop p s)) (sym h) ∙ i) j
  same_break {e} h (missing x i f) (other c y j g k) = nothing_there (ap (λ (p : ℕ). standing (may e) (drop p s)) (sym h) ∙ i) j
  same_break {e} h (wrong c x i f) (missing y j g) = nothing_there (ap (λ (p : ℕ). standing (may e) (drop p s)) h ∙ j) i
  same_break {e} h (wrong c x i f) (wrong d y j g) = cc
  same_break {e} h (wrong c x i f) (other d {r = r} y j g k) =
      let z : d ≡ c = cc in
      absurd (f r (subst₂ (λ (p : ℕ) (v : Choice E). Line (tag_of v.row) (Is v.row) (drop p s) r) (sym h) z g))
  same_break {e} h (other c x i f k) (missing y j g) = nothing_there (ap (λ (p : ℕ). standing (may e) (drop p s)) h ∙ j) i
  same_break {e} h (other c {r = r} x i f k) (wrong d y j g) =
      let z : c ≡ d = cc in
      absurd (g r (subst₂ (λ (p : ℕ) (v : Choice E). Line (tag_of v.row) (Is v.row) (drop p s) r) h z f))
  same_break {e} h (other c x i f k) (other d y j g l) = cc

  pub stopped : {o : Option Break} {p : ℕ} {e : E} → Verdict o p e → (b : Break) → p ≡ b.at → Breaks E may first last s e b → o ≡ Some b
  stopped (step c i g k n w) b h v = absurd (unbroken v h c i g k)
  stopped (stop d x w) b h v = x ∙ ap Some (same_break h w v)
  stopped (fine x y n) b h (missing z i f) = absurd (f y (ap (λ (p : ℕ). drop p s) (sym h) ∙ n))
  stopped {e = e} (fine x y n) b h (wrong c z i f) = nothing_there (at_last e b.at y) i
  stopped {e = e} (fine x y n) b h (other c z i f k) = nothing_there (at_last e b.at y) i
