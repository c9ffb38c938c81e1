-- Laws of remembered references and BINs in rows of three words.
use Prim.Native.Nat.{ℕ, zero, suc, ◌+◌, ◌-◌, ◌*◌, ◌≤◌, ◌<◌}
use mathlib.Core.Path.{◌≡◌, refl, sym, ap, ◌∙◌}
use mathlib.Core.Bool.{Bool, true, false, not}
use mathlib.Core.List.{List, [], ◌∷◌, map}
use native.Mathlib.Omega.{arith}
use borrow.Author.Tests.{eq-eqb, ne_eqb}
use lib.ListN.{length, get_or, set, take, drop, length-drop, length-map}
use lib.Seq.{length-take-le}
use Rattle.codes.specs.declared.Code.{Code}
use Rattle.dates.specs.Dates.{is_remembered}
use Rattle.model.specs.State.{Found, at, nowhere}
use Rattle.model.specs.Memory.{holds, is_used, is_vacant, vacant}
use Rattle.tables.specs.Rows.{rows, entry_in, entries_in}
use Rattle.tables.proofs.RowLaws.{rows_cut, rows_end, seek_rows, seek_end, seek_here, seek_on}

-- ---- one row

module _ (row : List ℕ) (today : ℕ) where
  pub holds_high : (code : Code) → (get_or row 0 0 ≡ code.high → ⊥) → false ≡ holds today code (entry_in row)
  holds_high code h = rw (ne_eqb (get_or row 0 0) code.high h)

  pub holds_low : (code : Code) → get_or row 0 0 ≡ code.high → (get_or row 1 0 ≡ code.low → ⊥) → false ≡ holds today code (entry_in row)
  holds_low code e h = rw (eq-eqb (get_or row 0 0) code.high e, ne_eqb (get_or row 1 0) code.low h)

  pub holds_both : (code : Code) {r : Bool} → get_or row 0 0 ≡ code.high → get_or row 1 0 ≡ code.low → r ≡ is_remembered (get_or row 2 0) today
      → r ≡ holds today code (entry_in row)
  holds_both code e f g = g ∙ rw (eq-eqb (get_or row 0 0) code.high e, eq-eqb (get_or row 1 0) code.low f)

  pub vacant_none : get_or row 0 0 ≡ 0 → get_or row 1 0 ≡ 0 → true ≡ is_vacant today (entry_in row)
  vacant_none e f = rw (eq-eqb (get_or row 0 0) 0 e, eq-eqb (get_or row 1 0) 0 f)

  pub vacant_high : {r : Bool} → (get_or row 0 0 ≡ 0 → ⊥) → r ≡ is_remembered (get_or row 2 0) today → not r ≡ is_vacant today (entry_in row)
  vacant_high h g = ap not g ∙ rw (ne_eqb (get_or row 0 0) 0 h)

  pub vacant_low : {r : Bool} → get_or row 0 0 ≡ 0 → (get_or row 1 0 ≡ 0 → ⊥) → r ≡ is_remembered (get_or row 2 0) today
      → not r ≡ is_vacant today (entry_in row)
  vacant_low e h g = ap not g ∙ rw (eq-eqb (get_or row 0 0) 0 e, ne_eqb (get_or row 1 0) 0 h)

-- ---- whether a code is used

-- what the rows from i on say
abbrev pub used_rows : ℕ → Code → (n i : ℕ) → List ℕ → Bool
used_rows today code n i t = is_used today code (map entry_in (rows 3 (n - i) (drop (i * 3) t)))

pub used_start : (today n : ℕ) (code : Code) (t : List ℕ) → is_used today code (entries_in n t) ≡ used_rows today code n 0 t
unfolding entries_in
used_start today n code t = let e : n - 0 ≡ n = omega arith in rw e

pub part_row : (t : List ℕ) (i n : ℕ) → i < n → n * 3 ≤ length t → length (take (i * 3 + 3 - i * 3) (drop (i * 3) t)) ≡ 3
part_row t i n h k =
    let d : i * 3 + 3 - i * 3 ≡ 3 = omega arith in
    rw d (length-take-le 3 (drop (i * 3) t) (rw length-drop (omega arith)))

module _ (t : List ℕ) (today n i : ℕ) (code : Code) {x : Bool} (inv : x ≡ used_rows today code n i t) where
  pub used_end : n ≤ i → false ≡ x
  unfolding is_used
  used_end h = sym (inv ∙ rw (rows_end 3 n i (drop (i * 3) t) h))

  module _ (r : Bool) (more : i < n) (is : r ≡ holds today code (entry_in (take (i * 3 + 3 - i * 3) (drop (i * 3) t)))) where
    width : i * 3 + 3 - i * 3 ≡ 3
    width = omega arith

    here : holds today code (entry_in (take 3 (drop (i * 3) t))) ≡ r
    here = sym (rw width at is)

    pub used_here : r ≡ true → true ≡ x
    unfolding is_used
    used_here e = sym (inv ∙ rw (rows_cut 3 n i t more, here ∙ e))

    pub used_on : r ≡ false → x ≡ used_rows today code n (i + 1) t
    unfolding is_used
    used_on e = inv ∙ rw (rows_cut 3 n i t more, here ∙ e)

-- ---- the lowest free place

abbrev pub vacant_rows : ℕ → (n i : ℕ) → List ℕ → Found
vacant_rows today n i t = seek_rows entry_in (is_vacant today) 3 n i t

pub vacant_start : (today n : ℕ) (t : List ℕ) → vacant today (entries_in n t) ≡ vacant_rows today n 0 t
unfolding vacant entries_in
vacant_start today n t = let e : n - 0 ≡ n = omega arith in rw e

module _ (t : List ℕ) (today n i : ℕ) {x : Found} (inv : x ≡ vacant_rows today n i t) where
  pub vacant_end : n ≤ i → nowhere ≡ x
  vacant_end h = sym (inv ∙ seek_end entry_in (is_vacant today) 3 n i t h)

  module _ (r : Bool) (more : i < n) (is : r ≡ is_vacant today (entry_in (take (i * 3 + 3 - i * 3) (drop (i * 3) t)))) where
    wide : i * 3 + 3 - i * 3 ≡ 3
    wide = omega arith

    first : is_vacant today (entry_in (take 3 (drop (i * 3) t))) ≡ r
    first = sym (rw wide at is)

    pub vacant_here : r ≡ true → at i ≡ x
    vacant_here e = sym (inv ∙ seek_here entry_in (is_vacant today) 3 n i t more (first ∙ e))

    pub vacant_on : r ≡ false → x ≡ vacant_rows today n (i + 1) t
    vacant_on e = inv ∙ seek_on entry_in (is_vacant today) 3 n i t more (first ∙ e)

-- ---- entries and their rows

pub map_set : {A B : Type 0} (f : A → B) (l : List A) (i : ℕ) (y : A) → map f (set l i y) ≡ set (map f l) i (f y)
map_set f [] zero y = refl
map_set f [] (suc i) y = refl
map_set f (x ∷ l) zero y = refl
map_set f (x ∷ l) (suc i) y = ap (λ z. f x ∷ z) (map_set f l i y)

pub rows_long : (w n : ℕ) (l : List ℕ) → length (rows w n l) ≡ n
unfolding rows
rows_long w zero l = refl
rows_long w (suc n) l = ap (λ (k : ℕ). suc k) (rows_long w n (drop w l))

pub entries_long : (n : ℕ) (t : List ℕ) → length (entries_in n t) ≡ n
unfolding entries_in
entries_long n t = length-map (rows 3 n t) entry_in ∙ rows_long 3 n t
