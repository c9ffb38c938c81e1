-- A line has one value: what stands between its tag and its CR LF.
use Prim.Native.Nat.{ℕ}
use mathlib.Core.Path.{◌≡◌, refl, ap, sym, ◌∙◌}
use mathlib.Core.Bool.{Bool, true, false, not, false≢true}
use mathlib.Core.List.{List, [], ◌∷◌, ◌++◌}
use borrow.Author.Tests.{eqb-true, not-true, eq-eqb}
use lib.Dec.{eqb}
use lib.ListN.{length, drop, take}
use lib.Seq.{drop-append_seam, take_at, drop_at}
use Rattle.chars.specs.Words.{crlf, line}
use Rattle.chars.proofs.Laws.{line_apart}
use Rattle.text_scan.specs.Spelling.{All}
use Rattle.text_fields.specs.Grammar.{Line}
use Rattle.text_fields.proofs.Grammar.{line_text_lem}
use Rattle.request_write.specs.Orders.{value_text, line_text}
use Rattle.request_write.specs.declared.Given.{Given}

-- no byte is x
abbrev pub Free : ℕ → List ℕ → Type 0
Free x l = All (λ (y : ℕ). not (eqb y x)) l

free_one : (is : ℕ → Bool) (x y : ℕ) → is x ≡ false → is y ≡ true → not (eqb y x) ≡ true
free_one is x y n h = go (eqb y x) refl
  where
    go : (b : Bool) → eqb y x ≡ b → not b ≡ true
    go true e = absurd (false≢true (sym n ∙ ap is (sym (eqb-true y x e)) ∙ h))
    go false e = refl

-- bytes of a class that x is not of
pub class_free : (is : ℕ → Bool) (x : ℕ) → is x ≡ false → (l : List ℕ) → All is l → Free x l
class_free is x n [] a = tt
class_free is x n (y ∷ l) a = (free_one is x y n a.0, class_free is x n l a.1)

differ : {A : Type 0} (x y : ℕ) → not (eqb y x) ≡ true → y ≡ x → A
differ x y n e = absurd (false≢true (sym (not-true (eqb y x) n) ∙ eq-eqb y x e))

-- what stands before the first x
pub split : (x : ℕ) (v w r q : List ℕ) → Free x v → Free x w → v ++ (x ∷ r) ≡ w ++ (x ∷ q) → (v ≡ w) × (r ≡ q)
split x [] [] r q a b h = let z : r ≡ q = cc in (refl, z)
split x [] (y ∷ w) r q a b h = let z : y ≡ x = cc in differ x y b.0 z
split x (y ∷ v) [] r q a b h = let z : y ≡ x = cc in differ x y a.0 z
split x (y ∷ v) (u ∷ w) r q a b h =
    let z : y ≡ u = cc in
    let t : v ++ (x ∷ r) ≡ w ++ (x ∷ q) = cc in
    let i = split x v w r q a.1 b.1 t in
    (cc (z, i.0), i.1)

-- what is as long
pub split_size : (v w r q : List ℕ) → length v ≡ length w → v ++ r ≡ w ++ q → (v ≡ w) × (r ≡ q)
split_size v w r q e h =
    (sym (take_at v r (length w) e) ∙ ap (take (length w)) h ∙ take_at w q (length w) refl, sym (drop_at v r (length w) e) ∙ ap (drop (length w)) h ∙ drop_at w q (length w) refl)

-- a line that is written
pub line_given : (tag : List ℕ) (given : Given) → line_text tag given ≡ line tag (value_text given)
unfolding line_text
line_given tag given = refl

module _ (tag : List ℕ) {P : List ℕ → Type 0} {l r : List ℕ} (g : Line tag P l r) (given : Given) (q : List ℕ) (h : l ≡ line_text tag given ++ q) where
  untagged : g.value ++ (crlf ++ r) ≡ value_text given ++ (crlf ++ q)
  untagged =
      let e : tag ++ (g.value ++ (crlf ++ r)) ≡ tag ++ (value_text given ++ (crlf ++ q)) = sym (line_text_lem g) ∙ h ∙ ap (λ (m : List ℕ). m ++ q) (line_given tag given) ∙ line_apart tag (value_text given) q in
      sym (drop-append_seam tag (g.value ++ (crlf ++ r))) ∙ ap (drop (length tag)) e ∙ drop-append_seam tag (value_text given ++ (crlf ++ q))

  -- the value of a line that was written is what was given, if neither has a CR
  pub line_same : Free 13 g.value → Free 13 (value_text given) → (g.value ≡ value_text given) × (r ≡ q)
  line_same a b =
      let i = split 13 g.value (value_text given) (10 ∷ r) (10 ∷ q) a b untagged in
      let z : r ≡ q = ap (drop 1) i.1 in
      (i.0, z)

  -- or if it is as long
  pub line_same_size : length g.value ≡ length (value_text given) → (g.value ≡ value_text given) × (r ≡ q)
  line_same_size e =
      let i = split_size g.value (value_text given) (crlf ++ r) (crlf ++ q) e untagged in
      (i.0, ap (drop 2) i.1)
