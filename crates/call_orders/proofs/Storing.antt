-- The heads as stored: a neat table is the words of its places, with the orders and the memory that were stored.
use Prim.Native.Nat.{ℕ, zero, suc, ◌+◌, ◌*◌, ◌≤◌, ◌<◌}
use mathlib.Core.Path.{◌≡◌, refl, sym, ap, ◌∙◌}
use mathlib.Core.List.{List, [], ◌∷◌, ◌++◌, map, append-nil}
use native.Mathlib.Nat.{zero-mul, suc-mul}
use native.Mathlib.Omega.{arith}
use native.Mathlib.Numerals.{add-one}
use lib.Dec.{eqb}
use lib.ListN.{length, get_or, set, take, drop, replicate, length-drop, take-append-drop}
use lib.Seq.{take-suc-set, drop-set-lt, take_all, append_snoc}
use Rattle.book_read.specs.Range.{Each}
use Rattle.queue.proofs.MemoryLaws.{by_bool}
use Rattle.model.specs.State.{Batch, Place, free, live, Batches}
use Rattle.tables.specs.Rows.{rows, word, batch_in, place_in, batch_rows}
use Rattle.tables.specs.Words.{batch_words, phase_of, rank_of, place_words, places_words}
use Rattle.tables.proofs.Batching.{place_rows}
use Rattle.call_orders.specs.Heads.{view, headed, headed_rows, Neat, NeatTable, words_of}
use Rattle.call_orders.proofs.HeadLaws.{rows_many, row_cut, row_end}

-- ---- a row

reset : (row : List ℕ) (a b c x y z : ℕ) → set (set (set (set (set (set row 0 a) 1 b) 6 c) 0 x) 1 y) 6 z ≡ set (set (set row 0 x) 1 y) 6 z
reset [] a b c x y z = refl
reset (r0 ∷ []) a b c x y z = refl
reset (r0 ∷ r1 ∷ []) a b c x y z = refl
reset (r0 ∷ r1 ∷ r2 ∷ []) a b c x y z = refl
reset (r0 ∷ r1 ∷ r2 ∷ r3 ∷ []) a b c x y z = refl
reset (r0 ∷ r1 ∷ r2 ∷ r3 ∷ r4 ∷ []) a b c x y z = refl
reset (r0 ∷ r1 ∷ r2 ∷ r3 ∷ r4 ∷ r5 ∷ []) a b c x y z = refl
reset (r0 ∷ r1 ∷ r2 ∷ r3 ∷ r4 ∷ r5 ∷ r6 ∷ row) a b c x y z = refl

abbrev pub head_words : (phase rank memory : ℕ) → Place → List ℕ
head_words phase rank memory free = replicate 349 0
head_words phase rank memory (live x) = batch_words phase rank memory x

batch_head : (a b c x y z : ℕ) (u : Batch) → set (set (set (batch_words a b c u) 0 x) 1 y) 6 z ≡ batch_words x y z u
unfolding batch_words
batch_head a b c x y z u = refl

pub neat_head : (phase rank memory : ℕ) (row : List ℕ) → Neat row → headed phase rank memory row ≡ head_words phase rank memory (place_in row)
unfolding headed place_in
neat_head phase rank memory row n =
    by_bool (eqb (word row 0) 0)
    (λ e. rw e (rw e at n))
    (λ e.
    let m : set (set (set row 0 1) 1 0) 6 0 ≡ batch_words 1 0 0 (batch_in row) = rw e at n in
    rw e
    (sym (reset row 1 0 0 phase rank memory) ∙ ap (λ (l : List ℕ). set (set (set l 0 phase) 1 rank) 6 memory) m ∙ batch_head 1 0 0 phase rank memory (batch_in row)))

-- ---- the rows

module _ (b : Batches) (m : List ℕ) where
  same_words : (p : ℕ) (x : Place) → head_words (phase_of b p) (rank_of b p) (get_or m p 0) x ≡ place_words b m p x
  same_words p free = refl
  same_words p (live x) = refl

  headed_places : (p : ℕ) (rs : List (List ℕ)) → Each Neat rs → headed_rows b m p rs ≡ place_rows b m p (map place_in rs)
  unfolding headed_rows
  headed_places p [] n = refl
  headed_places p (row ∷ rs) n =
      rw (neat_head (phase_of b p) (rank_of b p) (get_or m p 0) row n.0, same_words p (place_in row), headed_places (p + 1) rs n.1)

-- ---- the table

abbrev flat : List (List ℕ) → List ℕ
flat [] = []
flat (r ∷ rs) = r ++ flat rs

flat_rows : (w n : ℕ) (l : List ℕ) → length l ≡ n * w → flat (rows w n l) ≡ l
unfolding rows
flat_rows w zero [] e = refl
flat_rows w zero (x ∷ l) e = let z : ◌≡◌ {A = ℕ} 0 1 = omega (arith, zero-mul w) in absurd (omega arith)
flat_rows w (suc n) l e =
    rw (flat_rows w n (drop w l) (omega (arith, length-drop w l, suc-mul n w))) (take-append-drop w l)

flat_places : (b : Batches) (m : List ℕ) (p : ℕ) (xs : List Place) → flat (place_rows b m p xs) ≡ places_words b m p xs
unfolding places_words
flat_places b m p [] = refl
flat_places b m p (x ∷ xs) = rw (flat_places b m (p + 1) xs)

pub table_words : (b : Batches) (m t : List ℕ) (xs : List Place) → length t ≡ 11168 → batch_rows t ≡ place_rows b m 0 xs → t ≡ places_words b m 0 xs
table_words b m t xs l e = sym (flat_rows 349 32 t l) ∙ ap flat e ∙ flat_places b m 0 xs

-- ---- the loop

module _ (b : Batches) (m : List ℕ) where
  pub store_turn : (t t' : List ℕ) (p phase rank : ℕ) {x : List (List ℕ)} → p < 32
      → x ≡ take p (batch_rows t) ++ headed_rows b m p (drop p (batch_rows t))
      → phase ≡ phase_of b p → rank ≡ rank_of b p
      → batch_rows t' ≡ set (batch_rows t) p (headed phase rank (get_or m p 0) (get_or (batch_rows t) p []))
      → x ≡ take (p + 1) (batch_rows t') ++ headed_rows b m (p + 1) (drop (p + 1) (batch_rows t'))
  unfolding headed_rows
  store_turn t t' p phase rank h inv e f g =
      let v = headed (phase_of b p) (rank_of b p) (get_or m p 0) (get_or (batch_rows t) p []) in
      let k : batch_rows t' ≡ set (batch_rows t) p v = g ∙ rw (e, f) in
      let l : p < length (batch_rows t) = omega (arith, rows_many 349 32 t) in
      let a : take (p + 1) (set (batch_rows t) p v) ≡ take p (batch_rows t) ++ (v ∷ []) = rw (add-one p) (take-suc-set (batch_rows t) p v l) in
      let d : drop (p + 1) (set (batch_rows t) p v) ≡ drop (p + 1) (batch_rows t) = drop-set-lt (p + 1) (batch_rows t) p v (omega arith) in
      inv ∙ rw (k, a, d, row_cut t p h) (sym (append_snoc (take p (batch_rows t)) v (headed_rows b m (p + 1) (drop (p + 1) (batch_rows t)))))

  store_all : (t : List ℕ) (p : ℕ) {x : List (List ℕ)} → 32 ≤ p → x ≡ take p (batch_rows t) ++ headed_rows b m p (drop p (batch_rows t)) → batch_rows t ≡ x
  unfolding headed_rows
  store_all t p h inv =
      let a : take p (batch_rows t) ≡ batch_rows t = take_all p (batch_rows t) (omega (arith, rows_many 349 32 t)) in
      sym (inv ∙ rw (row_end t p h, a, append-nil {A = List ℕ} (batch_rows t)))

pub store_end : (t₀ q w m t : List ℕ) (p : ℕ) → NeatTable t₀ → 32 ≤ p → length t ≡ 11168
    → headed_rows (view t₀ q w) m 0 (batch_rows t₀) ≡ take p (batch_rows t) ++ headed_rows (view t₀ q w) m p (drop p (batch_rows t))
    → t ≡ words_of (view t₀ q w) m
store_end t₀ q w m t p n h l inv =
    table_words (view t₀ q w) m t (map place_in (batch_rows t₀)) l
    (store_all (view t₀ q w) m t p h inv ∙ headed_places (view t₀ q w) m 0 (batch_rows t₀) n.rows)
