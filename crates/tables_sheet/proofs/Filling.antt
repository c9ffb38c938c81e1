-- The sheet, filled place by place: what stands in it and what the places left add make the totals.
use Prim.Native.Nat.{ℕ, zero, suc, ◌+◌, ◌-◌, ◌*◌, ◌≤◌, ◌<◌}
use mathlib.Core.Path.{◌≡◌, refl, sym, ap, ◌∙◌}
use mathlib.Core.List.{List, [], ◌∷◌}
use native.Mathlib.Omega.{arith}
use lib.Dec.{eqb}
use lib.ListN.{length, get_or, replicate, length-replicate}
use lib.Seq.{ext_get_or}
use Rattle.settle.specs.Payments.{Payment, credit, debit}
use Rattle.settle.specs.Rules.{Ranged, most_cents}
use Rattle.queue.specs.Promise.{taken}
use Rattle.queue.proofs.MemoryLaws.{by_bool}
use Rattle.model.specs.State.{Batches}
use Rattle.tables.specs.Rows.{batches_in}
use Rattle.tables.specs.Words.{waiting_by, total_of, sheet_words}
use Rattle.tables.proofs.Held.{sheet_long}
use Rattle.tables_rules.proofs.batch_rules.Ranks.{at_each}
use Rattle.tables_sheet.specs.Sheet.{Ruled, waiting_at, Addable, Added}
use Rattle.tables_sheet.proofs.Waiting.{waiting_next, waiting_none, waiting_most}
use Rattle.tables_sheet.proofs.Places.{waiting_ranged, waiting_few}

taken_none : (k : ℕ) → taken k [] ≡ 0
unfolding taken
taken_none k = refl

-- each payment takes so much at the most
taken_most : (k : ℕ) (ps : List Payment) → Ranged ps → taken k ps ≤ most_cents * length ps
unfolding taken Ranged
taken_most k [] r = omega arith
taken_most k (credit j c ∷ ps) r = omega (arith, taken_most k ps r.1)
taken_most k (debit l j c ∷ ps) r =
    by_bool (eqb j k)
    (λ e. rw e (omega (arith, taken_most k ps r.1, r.0.1)))
    (λ e. rw e (omega (arith, taken_most k ps r.1)))

zero_at : (n k : ℕ) → ◌≡◌ {A = ℕ} (get_or (replicate n 0) k 0) 0
zero_at zero k = refl
zero_at (suc n) zero = refl
zero_at (suc n) (suc k) = zero_at n k

pub total_at_lem : (b : Batches) (k : ℕ) → k < 64 → get_or (sheet_words b) k 0 ≡ total_of b k
unfolding sheet_words
total_at_lem b k h = let z : 0 + k ≡ k = omega arith in at_each (total_of b) 0 64 k h ∙ ap (total_of b) z

pub record Filling (t sheet : List ℕ) (place : ℕ) : Type 0 where
  pub few : place ≤ 32
  pub long : length sheet ≡ 64
  pub totals : (k : ℕ) → k < 64 → get_or sheet k 0 + waiting_by (taken k) (batches_in t) place (32 - place) ≡ total_of (batches_in t) k

pub filling_start : (t first sheet : List ℕ) → length first ≡ 64 → sheet ≡ replicate (length first) 0 → Filling t sheet 0
filling_start t first sheet l e = record {
  few = omega arith;
  long = ap length e ∙ length-replicate {A = ℕ} (length first) 0 ∙ l;
  totals = λ k h. let z : get_or sheet k 0 ≡ 0 = ap (λ (x : List ℕ). get_or x k 0) e ∙ zero_at (length first) k in omega arith;
}

module _ (t sheet : List ℕ) (place : ℕ) (i : Filling t sheet place) where
  pub filling_done : 32 ≤ place → sheet ≡ sheet_words (batches_in t)
  filling_done h =
      ext_get_or 0 sheet (sheet_words (batches_in t)) (i.long ∙ sym (sheet_long (batches_in t)))
      (λ k b.
      let l : k < 64 = omega (arith, i.long) in
      let e : 32 - place ≡ 0 = omega arith in
      let x = rw e at (i.totals k l) in
      omega (arith, waiting_none (taken k) (taken_none k) (batches_in t) place, total_at_lem (batches_in t) k l))

  module _ (more : place < 32) where
    next : (k : ℕ) → waiting_by (taken k) (batches_in t) place (32 - place) ≡ taken k (waiting_at (batches_in t) place) + waiting_by (taken k) (batches_in t) (place + 1) (32 - (place + 1))
    next k =
        let e : 32 - place ≡ suc (32 - (place + 1)) = omega arith in
        ap (waiting_by (taken k) (batches_in t) place) e ∙ waiting_next (taken k) (taken_none k) (batches_in t) place (32 - (place + 1))

    pub filling_addable : Ruled t → Addable sheet (waiting_at (batches_in t) place)
    filling_addable r = record {
      long = i.long;
      ranged = waiting_ranged t r place more;
      room = λ k h. omega (arith, i.totals k h, next k, most k);
    }
      where
        one : (k q : ℕ) → q < 0 + 32 → taken k (waiting_at (batches_in t) q) ≤ most_cents * 100
        one k q b =
            omega (arith, taken_most k (waiting_at (batches_in t) q) (waiting_ranged t r q (omega arith)), waiting_few t r q (omega arith))

        -- 2d: it cannot overflow
        most : (k : ℕ) → total_of (batches_in t) k ≤ 32 * (most_cents * 100)
        most k = waiting_most (taken k) (taken_none k) (batches_in t) (most_cents * 100) 0 32 (one k)

    pub filling_turn : (after : List ℕ) → Added sheet (waiting_at (batches_in t) place) after → Filling t after (place + 1)
    filling_turn after a = record {
      few = omega arith;
      long = a.long ∙ i.long;
      totals = λ k h. omega (arith, i.totals k h, next k, a.totals k h);
    }
