-- The payments that the queue test reads in a neat table are those of its places.
use Prim.Native.Nat.{ℕ, zero, suc, ◌+◌, ◌-◌, ◌*◌, ◌≤◌, ◌<◌}
use mathlib.Core.Path.{◌≡◌, refl, sym, ap, ◌∙◌, fun_ext}
use mathlib.Core.List.{List, [], ◌∷◌, ◌++◌}
use native.Mathlib.Omega.{arith}
use borrow.Author.Tests.{eqb-true, eqb-false, eq-eqb, leb-true, leb-false}
use lib.Dec.{eqb, leb}
use lib.ListN.{length, get_or, take, drop, replicate, length-map, get_or-map, get_or-eq_default}
use lib.Seq.{get_or-take, get_or-drop, drop_at}
use Rattle.settle.specs.Payments.{Payment, payment_at, payments_from}
use Rattle.settle.specs.Payments.{row_payments}
use Rattle.book_read.specs.Range.{Each}
use Rattle.queue.proofs.MemoryLaws.{by_bool}
use Rattle.model.specs.Rules.{Lettered}
use Rattle.model.specs.State.{Message, Batch, Place, free, live, payments_of, place_payments}
use Rattle.tables.specs.Rows.{word, batch_in, place_in, batch_rows}
use Rattle.tables.specs.Words.{payments_words, batch_words}
use Rattle.tables.proofs.RowLaws.{row_at}
use Rattle.tables.proofs.Rowing.{Fits, EachLettered, payments_back, first, second, first_long}
use Rattle.call_orders.specs.Heads.{headed, Neat, NeatTable}
use Rattle.call_orders.specs.Stages.{places_in}
use Rattle.call_orders.proofs.HeadLaws.{rows_many, word_at}
use Rattle.call_orders.proofs.ArriveLaws.{own_words, words_eight}

abbrev pub FitsAt : Place → Type 0
FitsAt free = Unit {0}
FitsAt (live x) = Fits x

-- ---- payments in a row and in the table

word_in : (l : List ℕ) (a i : ℕ) → i < 349 → get_or (take 349 (drop a l)) i 0 ≡ get_or l (a + i) 0
word_in l a i h = get_or-take 349 (drop a l) i 0 h ∙ get_or-drop a l i 0

shifted : (l : List ℕ) (a at k : ℕ) → at + 3 * k ≤ 349 → payments_from l (a + at) k ≡ payments_from (take 349 (drop a l)) at k
unfolding payments_from payment_at
shifted l a at zero h = refl
shifted l a at (suc k) h =
    let e : a + at + 1 ≡ a + (at + 1) = omega arith in
    let f : a + at + 2 ≡ a + (at + 2) = omega arith in
    let g : a + at + 3 ≡ a + (at + 3) = omega arith in
    rw (e, f, g, word_in l a at (omega arith), word_in l a (at + 1) (omega arith), word_in l a (at + 2) (omega arith), shifted l a (at + 3) k (omega arith))

-- ---- a row

each_both : (ps qs : List Payment) → Each Lettered ps → Each Lettered qs → Each Lettered (ps ++ qs)
each_both [] qs g h = h
each_both (p ∷ ps) qs g h = (g.0, each_both ps qs g.1 h)

all_lettered : (ms : List Message) → EachLettered ms → Each Lettered (payments_of ms)
all_lettered [] h = tt
all_lettered (m ∷ ms) h = each_both m.payments (payments_of ms) h.0 (all_lettered ms h.1)

words_payments : (phase rank memory : ℕ) (x : Batch) → Fits x → payments_from (batch_words phase rank memory x) 49 (length (payments_of x.messages)) ≡ payments_of x.messages
unfolding batch_words
words_payments phase rank memory x f =
    payments_back (batch_words phase rank memory x) 49 (payments_of x.messages) (replicate (300 - length (payments_words (payments_of x.messages))) 0)
    (all_lettered x.messages f.lettered)
    (drop_at (first phase rank memory x f) (second phase rank memory x f) 40 (first_long phase rank memory x f))

pub live_row : (row : List ℕ) → Neat row → (word row 0 ≡ 0 → ⊥) → Fits (batch_in row) → (payments_from row 49 (word row 8) ≡ payments_of (batch_in row).messages) × (word row 8 ≤ 100)
live_row row n h f =
    let o = own_words row n h in
    let k : word row 8 ≡ length (payments_of (batch_in row).messages) = ap (λ (l : List ℕ). word l 8) o ∙ words_eight (word row 0) (word row 1) (word row 6) (batch_in row) in (
      ap (λ (c : ℕ). payments_from row 49 c) k ∙ ap (λ (l : List ℕ). payments_from l 49 (length (payments_of (batch_in row).messages))) o ∙ words_payments (word row 0) (word row 1) (word row 6) (batch_in row) f,
      omega (arith, k, f.small),
    )

free_row : (row : List ℕ) → Neat row → word row 0 ≡ 0 → word row 8 ≡ 0
unfolding headed place_in
free_row row n e =
    let z : row ≡ replicate 349 0 = rw (eq-eqb (word row 0) 0 e) at n in
    ap (λ (l : List ℕ). word l 8) z

row_payments_lem : (row : List ℕ) → Neat row → FitsAt (place_in row) → (payments_from row 49 (word row 8) ≡ place_payments (place_in row)) × (word row 8 ≤ 100)
unfolding place_in payments_from
row_payments_lem row n f =
    by_bool (eqb (word row 0) 0)
    (λ e. let z = free_row row n (eqb-true (word row 0) 0 e) in (rw (e, z), omega arith))
    (λ e. let g : Fits (batch_in row) = rw e at f in let r = live_row row n (eqb-false (word row 0) 0 e) g in (rw e r.0, r.1))

-- ---- the table

each_row : (rs : List (List ℕ)) (p : ℕ) → Each Neat rs → p < length rs → Neat (get_or rs p [])
each_row [] p n h = absurd (omega arith)
each_row (r ∷ rs) zero n h = n.0
each_row (r ∷ rs) (suc p) n h = each_row rs p n.1 (omega arith)

module _ (t : List ℕ) (n : NeatTable t) (f : (p : ℕ) → FitsAt (get_or (places_in t) p free)) where
  place_row : (p : ℕ) → get_or (places_in t) p free ≡ place_in (get_or (batch_rows t) p [])
  unfolding place_in
  place_row p = get_or-map place_in (batch_rows t) p []

  inside : (p : ℕ) → p < 32 → row_payments t p ≡ place_payments (get_or (places_in t) p free)
  inside p h =
      let row = get_or (batch_rows t) p [] in
      let r = row_payments_lem row (each_row (batch_rows t) p n.rows (omega (arith, rows_many 349 32 t))) (rw (place_row p) at (f p)) in
      let k : get_or t (p * 349 + 8) 0 ≡ word row 8 = sym (word_at t p 8 h (omega arith)) in
      let s : payments_from t (p * 349 + 49) (word row 8) ≡ payments_from row 49 (word row 8) = shifted t (p * 349) 49 (word row 8) (omega (arith, r.1)) ∙ ap (λ (l : List ℕ). payments_from l 49 (word row 8)) (sym (row_at 349 32 p t [] h)) in
      ap (λ (c : ℕ). payments_from t (p * 349 + 49) c) k ∙ s ∙ r.0 ∙ ap place_payments (sym (place_row p))

  pub few_at : (p : ℕ) → p < 32 → get_or t (p * 349 + 8) 0 ≤ 100
  few_at p h =
      let row = get_or (batch_rows t) p [] in
      let r = row_payments_lem row (each_row (batch_rows t) p n.rows (omega (arith, rows_many 349 32 t))) (rw (place_row p) at (f p)) in
      omega (arith, r.1, word_at t p 8 h (omega arith))

  outside : (p : ℕ) → 32 ≤ p → row_payments t p ≡ place_payments (get_or (places_in t) p free)
  unfolding payments_from
  outside p h =
      let a : get_or t (p * 349 + 8) 0 ≡ 0 = get_or-eq_default t 0 {n = p * 349 + 8} (omega (arith, n.long)) in
      let b : get_or (places_in t) p free ≡ free = get_or-eq_default (places_in t) free {n = p} (omega (arith, length-map (batch_rows t) place_in, rows_many 349 32 t)) in
      rw (a, b)

  pub payments_same : row_payments t ≡ (λ p. place_payments (get_or (places_in t) p free))
  payments_same =
      fun_ext (λ p. by_bool (leb 32 p) (λ e. outside p (leb-true 32 p e)) (λ e. inside p (leb-false 32 p e)))
