-- Rows of a flat table: a row is a part of the list, and a part that is replaced is one row set.
use Prim.Native.Nat.{ℕ, zero, suc, ◌+◌, ◌-◌, ◌*◌, ◌≤◌, ◌<◌}
use mathlib.Core.Path.{◌≡◌, sym, ap, ◌∙◌}
use mathlib.Core.Bool.{Bool, true, false}
use mathlib.Core.List.{List, [], ◌∷◌, ◌++◌, map, append_assoc}
use native.Mathlib.Nat.{le_of_suc-le-suc, zero-mul, suc-mul, add_comm}
use native.Mathlib.Omega.{arith}
use native.Mathlib.Numerals.{add-one}
use borrow.Author.Tests.{eq-eqb, ne_eqb}
use lib.ListN.{length, get_or, set, take, drop, replicate, length-drop, length-replicate}
use lib.Seq.{take_at, drop_at, drop-drop, take-add, length-take-le, get_or-take, get_or-drop}
use Rattle.codes.specs.declared.Code.{Code}
use Rattle.model.specs.State.{Found, at, nowhere, seek_from, is_free, has_bin}
use Rattle.tables.specs.Rows.{rows, batch_rows, place_in}

module _ (w : ℕ) where
  -- the row at p is the part from p * w
  pub row_at : (n p : ℕ) (l d : List ℕ) → p < n → get_or (rows w n l) p d ≡ take w (drop (p * w) l)
  unfolding rows
  row_at zero p l d h = let z : ◌≡◌ {A = ℕ} 0 1 = omega arith in cc
  row_at (suc n) zero l d h = rw zero-mul
  row_at (suc n) (suc p) l d h =
      row_at n p (drop w l) d (le_of_suc-le-suc h) ∙ rw (drop-drop (p * w) w l, suc-mul p w, add_comm (p * w) w)

  -- a part of w words from p * w is replaced
  pub put : (n p : ℕ) (l ws : List ℕ) → p < n → n * w ≤ length l → length ws ≡ w
      → rows w n (take (p * w) l ++ (ws ++ drop w (drop (p * w) l))) ≡ set (rows w n l) p ws
  unfolding rows
  put zero p l ws h k e = let z : ◌≡◌ {A = ℕ} 0 1 = omega arith in cc
  put (suc n) zero l ws h k e = rw (zero-mul w, take_at ws (drop w l) w e, drop_at ws (drop w l) w e)
  put (suc n) (suc p) l ws h k e =
      let j : suc p * w ≡ w + p * w = rw (suc-mul p w, add_comm (p * w) w) in
      let g : length (take w l) ≡ w = length-take-le w l (omega (arith, suc-mul n w)) in
      let x : take (w + p * w) l ++ (ws ++ drop w (drop (w + p * w) l)) ≡ take w l ++ (take (p * w) (drop w l) ++ (ws ++ drop w (drop (p * w) (drop w l)))) = rw (take-add w (p * w) l, append_assoc, drop-drop (p * w) w l) in
      rw (j, x, take_at (take w l) (take (p * w) (drop w l) ++ (ws ++ drop w (drop (p * w) (drop w l)))) w g, drop_at (take w l) (take (p * w) (drop w l) ++ (ws ++ drop w (drop (p * w) (drop w l)))) w g)
      (ap (λ (y : List (List ℕ)). take w l ∷ y) (put n p (drop w l) ws (le_of_suc-le-suc h) (rw length-drop (omega (arith, suc-mul n w))) e))

  -- the first of the rows from p on
  pub rows_cut : (n p : ℕ) (l : List ℕ) → p < n
      → rows w (n - p) (drop (p * w) l) ≡ take w (drop (p * w) l) ∷ rows w (n - (p + 1)) (drop ((p + 1) * w) l)
  unfolding rows
  rows_cut n p l h =
      let e : n - p ≡ suc (n - (p + 1)) = omega arith in
      let f : (p + 1) * w ≡ p * w + w = ap (λ (k : ℕ). k * w) (add-one p) ∙ suc-mul p w in
      rw (e, f, drop-drop w (p * w) l)

  pub rows_end : (n p : ℕ) (l : List ℕ) → n ≤ p → rows w (n - p) l ≡ []
  unfolding rows
  rows_end n p l h = let e : n - p ≡ 0 = omega arith in rw e

-- a search over what the rows from p on say
module _ {A : Type 0} (f : List ℕ → A) (is : A → Bool) (w n p : ℕ) (l : List ℕ) where
  abbrev pub seek_rows : Found
  seek_rows = seek_from is p (map f (rows w (n - p) (drop (p * w) l)))

  pub seek_end : n ≤ p → seek_rows ≡ nowhere
  unfolding seek_from
  seek_end h = rw (rows_end w n p (drop (p * w) l) h)

  pub seek_here : p < n → is (f (take w (drop (p * w) l))) ≡ true → seek_rows ≡ at p
  unfolding seek_from
  seek_here h e = rw (rows_cut w n p l h, e)

  pub seek_on : p < n → is (f (take w (drop (p * w) l))) ≡ false → seek_rows ≡ seek_from is (p + 1) (map f (rows w (n - (p + 1)) (drop ((p + 1) * w) l)))
  unfolding seek_from
  seek_on h e = rw (rows_cut w n p l h, e)

-- ---- a row that is zeroed

-- the cleared part, in the terms of the loan's return
pub cleared : (t t' ws : List ℕ) (place : ℕ) → place < 32 → length t ≡ 11168
    → ws ≡ replicate (length (take (place * 349 + 349 - place * 349) (drop (place * 349) t))) 0
    → t' ≡ take (place * 349) t ++ (ws ++ drop (place * 349 + 349 - place * 349) (drop (place * 349) t))
    → batch_rows t' ≡ set (batch_rows t) place (replicate 349 0)
cleared t t' ws place h k e f =
    let d : place * 349 + 349 - place * 349 ≡ 349 = omega arith in
    let j : length (take 349 (drop (place * 349) t)) ≡ 349 = length-take-le 349 (drop (place * 349) t) (rw length-drop (omega arith)) in
    let g : ws ≡ replicate 349 0 = (rw (d, j) at e) in
    rw (f, d, g) (put 349 32 place t (replicate 349 0) h (omega arith) (length-replicate {A = ℕ} 349 0))

-- ---- the lowest free place

module _ (t : List ℕ) (p : ℕ) where
  pub row_word : (i : ℕ) → i < 349 → get_or (take 349 (drop (p * 349) t)) i 0 ≡ get_or t (p * 349 + i) 0
  row_word i h = get_or-take 349 (drop (p * 349) t) i 0 h ∙ get_or-drop (p * 349) t i 0

  phase_word_lem : get_or (take 349 (drop (p * 349) t)) 0 0 ≡ get_or t (p * 349 + 0) 0
  phase_word_lem = row_word 0 (omega arith)

  module _ {x : Found} (inv : x ≡ seek_rows place_in is_free 349 32 p t) where
    pub free_end : 32 ≤ p → nowhere ≡ x
    free_end h = sym (inv ∙ seek_end place_in is_free 349 32 p t h)

    pub free_here : p < 32 → get_or t (p * 349 + 0) 0 ≡ 0 → at p ≡ x
    unfolding place_in
    free_here h e =
        sym (inv ∙ seek_here place_in is_free 349 32 p t h (rw (phase_word_lem, eq-eqb (get_or t (p * 349 + 0) 0) 0 e)))

    pub free_on : p < 32 → (get_or t (p * 349 + 0) 0 ≡ 0 → ⊥) → x ≡ seek_rows place_in is_free 349 32 (p + 1) t
    unfolding place_in
    free_on h e = inv ∙ seek_on place_in is_free 349 32 p t h (rw (phase_word_lem, ne_eqb (get_or t (p * 349 + 0) 0) 0 e))

  -- ---- the batch of a BIN

  module _ (bin : Code) where
    module _ {x : Found} (inv : x ≡ seek_rows place_in (has_bin bin) 349 32 p t) where
      pub bins_end : 32 ≤ p → nowhere ≡ x
      bins_end h = sym (inv ∙ seek_end place_in (has_bin bin) 349 32 p t h)

      module _ (more : p < 32) {r : Bool} (is : r ≡ has_bin bin (place_in (take 349 (drop (p * 349) t)))) where
        pub bins_here : r ≡ true → at p ≡ x
        bins_here e = sym (inv ∙ seek_here place_in (has_bin bin) 349 32 p t more (sym is ∙ e))

        pub bins_on : r ≡ false → x ≡ seek_rows place_in (has_bin bin) 349 32 (p + 1) t
        bins_on e = inv ∙ seek_on place_in (has_bin bin) 349 32 p t more (sym is ∙ e)
