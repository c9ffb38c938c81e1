-- The answers of each step, by what its parts answer.
use Prim.Native.Nat.{ℕ, zero, suc, ◌+◌, ◌≤◌, ◌<◌}
use mathlib.Core.Path.{◌≡◌, refl, ap, sym, ◌∙◌}
use mathlib.Core.List.{List}
use mathlib.Core.Bool.{Bool, true, false, cond}
use native.Mathlib.Omega.{arith}
use borrow.Author.Tests.{lt-ltb, le-ltb}
use lib.Dec.{eqb, ltb}
use lib.ListN.{length, get_or, drop, take, length-drop}
use Rattle.chars.specs.Words.{bytes}
use Rattle.chars.specs.Refusals.{number_of}
use Rattle.text_scan.specs.Scan.{on_next, begins, lit_at, line_end_at}
use Rattle.text_scan.proofs.Pairs.{some_pair}
use Rattle.text_scan.proofs.Standing.{lit_next, line_end_sound}
use Rattle.text_fields.specs.declared.Break.{Break}
use Rattle.text_explain.specs.Tags.{tag_text, padded}
use Rattle.text_explain.specs.Stages.{tags_at, after, said_in}
use Rattle.text_explain.specs.Walk.{place, on_here, one_at, stands_at, onward_at, step_at, walk, first, place_at}
use Rattle.text_explain.specs.Faults.{told, wrong_at, fault_at}
use Rattle.text_explain.specs.declared.Tag.{Tag}
use Rattle.text_explain.specs.declared.Tag.TheVariants.{T20, T12, T77E, T22A, T119, T16A, T171, T175, T127, T32B, T113, T102, T203, T21, T451, T13E, T432}
use Rattle.text_explain.specs.declared.Tags.{Tags}
use Rattle.text_explain.specs.declared.Tags.TheVariants.{Ending, One, Two}
use Rattle.text_explain.specs.declared.Stage.{Stage}
use Rattle.text_explain.specs.declared.Place.{Place}
use Rattle.std.specs.Prelude.{Option, Some, None}
use Rattle.std.specs.Option.{is_some}
use Rattle.text_explain.specs.declared.Fault.{Fault}
use Rattle.text_explain.specs.declared.Fault.TheVariants.{Missing, Wrong, Unknown, AfterCredit}
use Rattle.text_explain.specs.declared.Told.{Told}

-- a tag's bytes: a zero stands behind four, and no fifth is zero
size_told : (t : Tag) → length (tag_text t) ≡ cond (eqb (get_or (padded (tag_text t)) 4 0) 0) 4 5
size_told T20 = refl
size_told T12 = refl
size_told T77E = refl
size_told T22A = refl
size_told T119 = refl
size_told T16A = refl
size_told T171 = refl
size_told T175 = refl
size_told T127 = refl
size_told T32B = refl
size_told T113 = refl
size_told T102 = refl
size_told T203 = refl
size_told T21 = refl
size_told T451 = refl
size_told T13E = refl
size_told T432 = refl

pub tag_size : (t : Tag) → (4 ≤ length (tag_text t)) × (length (tag_text t) ≤ 5)
tag_size t = go (eqb (get_or (padded (tag_text t)) 4 0) 0) (size_told t)
  where
    go : (b : Bool) → length (tag_text t) ≡ cond b 4 5 → (4 ≤ length (tag_text t)) × (length (tag_text t) ≤ 5)
    go true e = (omega arith, omega arith)
    go false e = (omega arith, omega arith)

cut : (t : Tag) → take (length (tag_text t)) (padded (tag_text t)) ≡ tag_text t
cut T20 = refl
cut T12 = refl
cut T77E = refl
cut T22A = refl
cut T119 = refl
cut T16A = refl
cut T171 = refl
cut T175 = refl
cut T127 = refl
cut T32B = refl
cut T113 = refl
cut T102 = refl
cut T203 = refl
cut T21 = refl
cut T451 = refl
cut T13E = refl
cut T432 = refl

pub tag_part : (t : Tag) {x : List ℕ} {n : ℕ} → x ≡ padded (tag_text t) → n ≡ length (tag_text t) → n ≡ length (take n x)
tag_part t p q = rw (p, q) (sym (ap length (cut t)))

pub tag_fits : (t : Tag) {n : ℕ} → n ≡ length (tag_text t) → n ≤ 5
tag_fits t p = omega (arith, (tag_size t).1)

module _ (s : List ℕ) (at : ℕ) where
  pub tag_at_1 : (t : Tag) {x : List ℕ} {n : ℕ} {r : Option ℕ} → x ≡ padded (tag_text t) → n ≡ length (tag_text t) → r ≡ lit_at s at (take n x) → r ≡ lit_at s at (tag_text t)
  tag_at_1 t p q h = h ∙ ap (lit_at s at) (rw (p, q) (cut t))

  -- whether a word stands there
  pub starts_is : (w : List ℕ) {r : Option ℕ} → r ≡ lit_at s at w → is_some r ≡ begins w (drop at s)
  unfolding lit_at
  starts_is w p = rw p (go (begins w (drop at s)))
    where
      go : (b : Bool) → is_some (cond b (Some (at + length w)) None) ≡ b
      go true = refl
      go false = refl

-- behind a tag that stands there
one_past : (s : List ℕ) (at : ℕ) (u : Tag) {t : Tag} {a : ℕ} → one_at s at u ≡ Some (t, a) → a ≡ at + length (tag_text t)
one_past s at u {t} {a} h = go (lit_at s at (tag_text u)) refl h
  where
    go : (r : Option ℕ) → lit_at s at (tag_text u) ≡ r → on_next {A = Option (Tag × ℕ)} r None (λ a. Some (u, a)) ≡ Some (t, a) → a ≡ at + length (tag_text t)
    go (Some e) p q =
        let z = some_pair q in
        sym z.1 ∙ lit_next s at (tag_text u) p ∙ ap (λ (x : Tag). at + length (tag_text x)) z.0
    go None p q = let z : ◌≡◌ {A = ℕ} 0 1 = cc in absurd (omega arith)

pub stands_past : (s : List ℕ) (at : ℕ) (x : Tags) {t : Tag} {a : ℕ} → stands_at s at x ≡ Some (t, a) → a ≡ at + length (tag_text t)
unfolding stands_at
stands_past s at Ending h = let z : ◌≡◌ {A = ℕ} 0 1 = cc in absurd (omega arith)
stands_past s at (One u) h = one_past s at u h
stands_past s at (Two u w) {t} {a} h = go (lit_at s at (tag_text u)) refl h
  where
    go : (r : Option ℕ) → lit_at s at (tag_text u) ≡ r → on_next {A = Option (Tag × ℕ)} r (one_at s at w) (λ a. Some (u, a)) ≡ Some (t, a) → a ≡ at + length (tag_text t)
    go (Some e) p q = one_past s at u (ap (λ (r : Option ℕ). on_next {A = Option (Tag × ℕ)} r None (λ a. Some (u, a))) p ∙ q)
    go None p q = one_past s at w q

pub onward_fits : (s : List ℕ) (p : Place) (x : Tags) {r : Option (Tag × ℕ)} {t : Tag} {a : ℕ} → p.line ≤ p.at + 1 → r ≡ stands_at s p.at x → r ≡ Some (t, a) → p.line ≤ a
onward_fits s p x {t = t} h i j = omega (arith, h, stands_past s p.at x (sym i ∙ j), (tag_size t).0)

-- the end of a line
module _ (s : List ℕ) (a n : ℕ) where
  pub line_fits : {r : Option ℕ} {e : ℕ} → r ≡ line_end_at s a n → r ≡ Some e → (a ≤ e) × (e + 2 ≤ length s)
  line_fits {e = e} p q =
      let i = line_end_sound s a n (sym p ∙ q) in
      (i.1, omega (arith, simp length-drop at (ap length i.0)))

-- a further line begins further on
onward_past : (s : List ℕ) (p : Place) (t : Tag) (a : ℕ) {q : Place} → onward_at s p t a ≡ Some q → (a + 2 ≤ q.at) × (q.line ≡ p.line + 1)
unfolding onward_at
onward_past s p t a {q} h = go (line_end_at s a (length s)) refl h
  where
    go : (r : Option ℕ) → line_end_at s a (length s) ≡ r → on_next r None (λ e. Some (place (e + 2) (p.line + 1) (after p.stage t (said_in (drop a s))))) ≡ Some q → (a + 2 ≤ q.at) × (q.line ≡ p.line + 1)
    go (Some e) i j =
        let z : place (e + 2) (p.line + 1) (after p.stage t (said_in (drop a s))) ≡ q = cc in
        (omega (arith, (line_end_sound s a (length s) i).1, ap (λ (x : Place). x.at) z), sym (ap (λ (x : Place). x.line) z))
    go None i j = let z : ◌≡◌ {A = ℕ} 0 1 = cc in absurd (omega arith)

pub step_past : (s : List ℕ) (p : Place) {q : Place} → step_at s p ≡ Some q → (p.at + 6 ≤ q.at) × (q.line ≡ p.line + 1)
unfolding step_at
step_past s p {q} h = go (stands_at s p.at (tags_at p.stage)) refl h
  where
    go : (r : Option (Tag × ℕ)) → stands_at s p.at (tags_at p.stage) ≡ r → on_here r None (λ t a. onward_at s p t a) ≡ Some q → (p.at + 6 ≤ q.at) × (q.line ≡ p.line + 1)
    go (Some (t, a)) i j = let o = onward_past s p t a j in
        (omega (arith, o.0, stands_past s p.at (tags_at p.stage) i, (tag_size t).0), o.1)
    go None i j = let z : ◌≡◌ {A = ℕ} 0 1 = cc in absurd (omega arith)

-- where the walk to a place stands: so many lines more are enough
pub record Going (s : List ℕ) (stage : Stage) (at : ℕ) (p : Place) : Type 0 where
  pub more : ℕ
  pub enough : at ≤ p.at + more
  pub same : walk more at s p ≡ place_at s stage at
  pub small : p.line ≤ p.at + 1

pub going_start : (s : List ℕ) (stage : Stage) (at : ℕ) → Going s stage at (first stage)
unfolding place_at
going_start s stage at = record { more = at; enough = omega arith; same = refl; small = omega arith }

-- one line on, while the place lies ahead
walk_on : (n at : ℕ) (s : List ℕ) (p : Place) {q : Place} → p.at < at → at ≤ p.at + n → step_at s p ≡ Some q → (m : ℕ) × (n ≡ suc m) × (walk n at s p ≡ walk m at s q)
unfolding walk
walk_on zero at s p l h e = absurd (omega arith)
walk_on (suc m) at s p l h e = (m, refl, rw (lt-ltb p.at at l, e))

walk_stay : (n at : ℕ) (s : List ℕ) (p : Place) → step_at s p ≡ None → walk n at s p ≡ p
unfolding walk
walk_stay zero at s p e = refl
walk_stay (suc m) at s p e = rw e (go (ltb p.at at))
  where
    go : (b : Bool) → cond b p p ≡ p
    go true = refl
    go false = refl

pub walk_done : (n at : ℕ) (s : List ℕ) (p : Place) → at ≤ p.at → walk n at s p ≡ p
unfolding walk
walk_done zero at s p h = refl
walk_done (suc m) at s p h = rw (le-ltb p.at at h)

module _ {s : List ℕ} {stage : Stage} {at : ℕ} {p : Place} (g : Going s stage at p) where
  pub going_on : {q : Place} {r : Option Place} → p.at < at → r ≡ step_at s p → r ≡ Some q → Going s stage at q
  going_on {q} l h i =
      let e = sym h ∙ i in
      let w = walk_on g.more at s p l g.enough e in
      let f = step_past s p e in
      record {
        more = w.0;
        enough = omega (arith, g.enough, w.1, f.0);
        same = sym w.2 ∙ g.same;
        small = omega (arith, g.small, f.0, f.1);
      }

  pub going_stay : {r : Option Place} → r ≡ step_at s p → r ≡ None → p ≡ place_at s stage at
  going_stay h i = sym (walk_stay g.more at s p (sym h ∙ i)) ∙ g.same

  pub going_done : at ≤ p.at → p ≡ place_at s stage at
  going_done h = sym (walk_done g.more at s p h) ∙ g.same

-- the break
module _ (s : List ℕ) (b : Break) (p : Place) where
  pub wrong_1 : {x : Tags} {r : Option (Tag × ℕ)} {t : Tag} {a n : ℕ} {f : Fault} → x ≡ tags_at p.stage → r ≡ stands_at s b.at x → r ≡ Some (t, a) → n ≡ number_of b.refusal → f ≡ cond (eqb n 88) Unknown (Wrong t) → told p.line f a ≡ wrong_at s b p
  wrong_1 h i j k l = rw (← h, ← i, j, ← k, ← l)

  pub wrong_2 : {x : Tags} {r : Option (Tag × ℕ)} {a : ℕ} → x ≡ tags_at p.stage → r ≡ stands_at s b.at x → r ≡ None → a ≡ on_next (lit_at s b.at (bytes ":113:")) 0 (λ a. a) → told p.line AfterCredit a ≡ wrong_at s b p
  wrong_2 h i j k = rw (← h, ← i, j, ← k)

  pub fault_1 : {x : Tags} → b.missing ≡ true → x ≡ tags_at p.stage → told p.line (Missing x) 0 ≡ fault_at s b p
  unfolding fault_at
  fault_1 h i = rw (h, i)

  pub fault_2 : {r : Told} → b.missing ≡ false → r ≡ wrong_at s b p → r ≡ fault_at s b p
  unfolding fault_at
  fault_2 h i = rw h i
