-- The row of a live batch, and a batch that stands anew at its place.
use Prim.Native.Nat.{ℕ, zero, suc, ◌+◌, ◌*◌, ◌-◌, ◌<◌}
use mathlib.Core.Path.{◌≡◌, refl, sym, ap, ◌∙◌}
use mathlib.Core.Bool.{true, false≢true}
use mathlib.Core.List.{List, [], ◌∷◌}
use native.Mathlib.Omega.{arith}
use borrow.Author.Tests.{eq-eqb, ne_eqb}
use lib.ListN.{length, get_or, take, drop, length-drop, get_or-map}
use lib.Seq.{length-take-le}
use Rattle.codes.specs.declared.Code.{Code}
use Rattle.book_read.specs.Range.{Each}
use Rattle.model.specs.State.{Batch, Place, free, live, has_bin, with_place}
use Rattle.tables.specs.Rows.{word, place_in, batch_rows}
use Rattle.tables.proofs.Rowing.{Fits}
use Rattle.tables.proofs.RowLaws.{row_at}
use Rattle.call_orders.specs.Heads.{Neat, NeatTable}
use Rattle.call_orders.specs.Stages.{seen, Ready, Became, places_in}
use Rattle.call_orders.proofs.HeadLaws.{rows_many}
use Rattle.call_orders.proofs.ArriveLaws.{Placed}
use Rattle.call_plan.specs.rules.Steps.{Counted, batch_at}
use Rattle.call_plan.proofs.rules.Meets.{counted}

pub not_free : {X : Type 0} {x : Batch} → free ≡ live x → X
not_free e = let z : ◌≡◌ {A = ℕ} 0 1 = cc in absurd (omega arith)

-- the batch of a BIN is there
pub record LiveAt (x : Place) : Type 0 where
  pub batch : Batch
  pub is : x ≡ live batch

pub live_at : (c : Code) (x : Place) → has_bin c x ≡ true → LiveAt x
live_at c free h = absurd (false≢true h)
live_at c (live y) h = record { batch = y; is = refl }

-- the place that a row says
pub place_in_lem : (t : List ℕ) (p : ℕ) → get_or (places_in t) p free ≡ place_in (get_or (batch_rows t) p [])
unfolding place_in
place_in_lem t p = get_or-map place_in (batch_rows t) p []

pub live_word : (t : List ℕ) (p : ℕ) {x : Batch} → get_or (places_in t) p free ≡ live x → word (get_or (batch_rows t) p []) 0 ≡ 0 → ⊥
unfolding place_in
live_word t p e z = not_free (sym (place_in_lem t p ∙ rw (eq-eqb (word (get_or (batch_rows t) p []) 0) 0 z)) ∙ e)

pub word_live : (t : List ℕ) (p : ℕ) → (word (get_or (batch_rows t) p []) 0 ≡ 0 → ⊥) → get_or (places_in t) p free ≡ live (batch_at t p)
unfolding place_in
word_live t p h = place_in_lem t p ∙ rw (ne_eqb (word (get_or (batch_rows t) p []) 0) 0 h)

pub live_batch : (t : List ℕ) (p : ℕ) {x : Batch} → get_or (places_in t) p free ≡ live x → x ≡ batch_at t p
live_batch t p {x} e = let g : live x ≡ live (batch_at t p) = sym e ∙ word_live t p (live_word t p e) in cc

-- a row of a neat table is neat
neat_at : (rs : List (List ℕ)) (p : ℕ) → Each Neat rs → p < length rs → Neat (get_or rs p [])
neat_at [] p h l = absurd (omega arith)
neat_at (r ∷ rs) zero h l = h.0
neat_at (r ∷ rs) (suc p) h l = neat_at rs p h.1 (omega arith)

module _ (t : List ℕ) (n : NeatTable t) (p : ℕ) (b : p < 32) where
  pub wide : length (get_or (batch_rows t) p []) ≡ 349
  wide = rw (row_at 349 32 p t [] b) (length-take-le 349 (drop (p * 349) t) (rw length-drop (omega (arith, n.long))))

  pub neat_row : Neat (get_or (batch_rows t) p [])
  neat_row = neat_at (batch_rows t) p n.rows (omega (arith, rows_many 349 32 t))

  pub row_counted : {x : Batch} → get_or (places_in t) p free ≡ live x → Fits (batch_at t p) → Counted (get_or (batch_rows t) p [])
  row_counted e f = counted (get_or (batch_rows t) p []) wide neat_row (live_word t p e) f

  -- the row as it is lent
  pub lent : take (p * 349 + 349 - p * 349) (drop (p * 349) t) ≡ get_or (batch_rows t) p []
  lent = let d : p * 349 + 349 - p * 349 ≡ 349 = omega arith in rw d (sym (row_at 349 32 p t [] b))

pub placed_became : (t q : List ℕ) (nq : ℕ) (w : List ℕ) (nw p : ℕ) (y : Batch) (t' : List ℕ) → Ready t q nq w nw → Placed t p y t'
    → Became (with_place (seen t q nq w nw) p (live y)) t' q nq w nw
placed_became t q nq w nw p y t' r h = record {
  ready = record { table = h.table; queue = r.queue; pending = r.pending };
  is = ap (λ (ps : List Place). record { places = ps; pending = take nw w; queue = take nq q }) h.places;
}
