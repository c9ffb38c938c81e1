-- The debit that a status change names.
use Rattle.std.specs.Prelude.{Option, Some, None}
use Prim.Native.Nat.{ℕ, ◌+◌, ◌*◌, ◌-◌, ◌≤◌, ◌<◌}
use mathlib.Core.Path.{◌≡◌, sym, ap, ◌∙◌}
use mathlib.Core.Bool.{Bool, true, false}
use mathlib.Core.List.{List, [], ◌++◌}
use native.Mathlib.Omega.{arith}
use lib.ListN.{length, get_or, set, take, drop, length-drop, length-map}
use lib.Seq.{length-take-le}
use Rattle.codes.specs.declared.Code.{Code}
use Rattle.settle.specs.Payments.{Payment}
use Rattle.model.specs.State.{at, nowhere, Place, live, Batches, place_at, place_payments, payments_at}
use Rattle.model.specs.Messages.{waiting}
use Rattle.model.specs.Changes.{has_debit}
use Rattle.model.proofs.Seeking.{is_waiting}
use Rattle.tables.specs.Seeking.{found_by}
use Rattle.tables.specs.Rows.{word, place_in, batch_rows}
use Rattle.tables_rules.specs.batch_rules.BatchRules.{payments_in}
use Rattle.call_orders.specs.Lettering.{reletter_from}
use Rattle.call_orders.specs.Stages.{seen, Ready}
use Rattle.call_orders.proofs.HeadLaws.{rows_many, word_at}
use Rattle.call_orders.proofs.ArriveLaws.{lent_back}
use Rattle.call_plan.specs.rules.Steps.{Counted, batch_at}
use Rattle.call_plan.proofs.rules.LiveRows.{live_at, live_word, word_live, lent}
use Rattle.call_change.specs.Changing.{AllCounted, debit_on}

-- ---- the batch in which it waits

module _ (t q : List ℕ) (nq : ℕ) (w : List ℕ) (nw : ℕ) (bin : Code) where
  abbrev b : Batches
  b = seen t q nq w nw

  pub record Waits (p : ℕ) : Type 0 where
    pub below : p < 32
    pub there : place_at b p ≡ live (batch_at t p)

  pub waits_at : (p : ℕ) → waiting b bin ≡ at p → Waits p
  waits_at p e =
      let a = is_waiting b bin p e in
      record {
        below = omega (arith, a.there.inside, length-map (batch_rows t) place_in, rows_many 349 32 t);
        there = word_live t p (live_word t p (live_at bin (place_at b p) a.there.yes).is);
      }

  pub place_below : Ready t q nq w nw → (found : Option ℕ) → found_by found ≡ waiting b bin → (p : ℕ) → found ≡ Some p → p < 32
  place_below r found is p e = (waits_at p (sym is ∙ rw e)).below

  module _ (k : ℕ) (found : Option ℕ) (is : found_by found ≡ waiting b bin) where
    pub debit_none : found ≡ None → nowhere ≡ debit_on b k bin
    unfolding debit_on
    debit_none e = rw (sym is, e)

    module _ (ready : Ready t q nq w nw) (all : AllCounted t) (p : ℕ) (e : found ≡ Some p) where
      is_live : Waits p
      is_live = waits_at p (sym is ∙ rw e)

      row_counted : Counted (get_or (batch_rows t) p [])
      row_counted = all p is_live.below (live_word t p is_live.there)

      lent_counted : Counted (take (p * 349 + 349 - p * 349) (drop (p * 349) t))
      lent_counted = rw (lent t ready.table p is_live.below) row_counted

      pub lent_right : (length (take (p * 349 + 349 - p * 349) (drop (p * 349) t)) ≡ 349) × (word (take (p * 349 + 349 - p * 349) (drop (p * 349) t)) 8 ≤ 100)
      lent_right = (lent_counted.long, lent_counted.payments)

      module _ (r : Bool) (h : r ≡ has_debit k (payments_in (take (p * 349 + 349 - p * 349) (drop (p * 349) t)))) where
        has : has_debit k (payments_at b p) ≡ r
        has =
            ap (λ (x : Place). has_debit k (place_payments x)) is_live.there
            ∙ ap (λ (ps : List Payment). has_debit k ps) (sym row_counted.same)
            ∙ ap (λ (row : List ℕ). has_debit k (payments_in row)) (sym (lent t ready.table p is_live.below))
            ∙ sym h

        pub debit_here : r ≡ true → at p ≡ debit_on b k bin
        unfolding debit_on
        debit_here f = rw (sym is, e, has, f)

        pub debit_not : r ≡ false → nowhere ≡ debit_on b k bin
        unfolding debit_on
        debit_not f = rw (sym is, e, has, f)

-- ---- its letter in the row

module _ (t : List ℕ) (p : ℕ) (h : p < 32) (l : length t ≡ 11168) where
  row_long : length (take (p * 349 + 349 - p * 349) (drop (p * 349) t)) ≡ 349
  row_long = let d : p * 349 + 349 - p * 349 ≡ 349 = omega arith in rw d (length-take-le 349 (drop (p * 349) t) (rw length-drop (omega arith)))

  pub row_room : word (get_or (batch_rows t) p []) 8 ≤ 100 → 49 + 3 * get_or t (p * 349 + 8) 0 ≤ length (take (p * 349 + 349 - p * 349) (drop (p * 349) t))
  row_room f = omega (arith, row_long, word_at t p 8 h (omega arith))

  pub relettered_at : (k x : ℕ) (t' ws : List ℕ) → length ws ≡ length (take (p * 349 + 349 - p * 349) (drop (p * 349) t))
      → ws ≡ reletter_from k x (take (p * 349 + 349 - p * 349) (drop (p * 349) t)) 49 (get_or t (p * 349 + 8) 0)
      → t' ≡ take (p * 349) t ++ (ws ++ drop (p * 349 + 349 - p * 349) (drop (p * 349) t))
      → batch_rows t' ≡ set (batch_rows t) p (reletter_from k x (get_or (batch_rows t) p []) 49 (word (get_or (batch_rows t) p []) 8))
  relettered_at k x t' ws n e g =
      lent_back t p h l t' ws (λ row. reletter_from k x row 49 (get_or t (p * 349 + 8) 0)) n e g
      ∙ ap (λ (c : ℕ). set (batch_rows t) p (reletter_from k x (get_or (batch_rows t) p []) 49 c)) (sym (word_at t p 8 h (omega arith)))
