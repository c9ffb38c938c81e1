-- The words of a state that keeps the rules are neat, and say it: so a stage on them is the model's step, and what is stored is the words of
-- what the model leaves.
use Prim.Native.Nat.{ℕ, ◌+◌}
use mathlib.Core.Path.{◌≡◌, sym, ap, ◌∙◌}
use mathlib.Core.Bool.{false}
use mathlib.Core.List.{List, [], ◌∷◌}
use lib.Dec.{eqb}
use lib.ListN.{get_or}
use Rattle.book_read.specs.Range.{Each}
use Rattle.model.specs.State.{Batch, Place, free, live, Batches}
use Rattle.model.specs.Rules.{RightMemory}
use Rattle.model.proofs.Standing.{Stood}
use Rattle.tables.specs.Rows.{batches_in, memory_in}
use Rattle.tables.specs.Words.{batch_words, phase_of, rank_of, place_words}
use Rattle.tables.proofs.Batching.{Lies, AllLie, place_rows, place_back, some_phase, whole}
use Rattle.tables.proofs.Held.{places_lie, batches_held, batches_long, memory_held}
use Rattle.call_orders.specs.Heads.{headed, bare_row, Neat, NeatTable, words_of}
use Rattle.call_orders.specs.Stages.{seen, Became}
use Rattle.call_orders.proofs.StageLaws.{zero_neat}

bare_head : (phase rank memory : ℕ) (x : Batch) → eqb phase 0 ≡ false → headed 1 0 0 (batch_words phase rank memory x) ≡ batch_words 1 0 0 x
unfolding headed batch_words
bare_head phase rank memory x e = rw e

module _ (b : Batches) (m : List ℕ) where
  neat_place : (p : ℕ) (x : Place) → Lies b m p x → Neat (place_words b m p x)
  neat_place p free h = zero_neat
  neat_place p (live x) h = bare_head (phase_of b p) (rank_of b p) (get_or m p 0) x (some_phase b m p) ∙ sym (ap bare_row (place_back b m p (live x) h))

  neat_places : (p : ℕ) (xs : List Place) → AllLie b m p xs → Each Neat (place_rows b m p xs)
  neat_places p [] h = tt
  neat_places p (x ∷ xs) h = (neat_place p x h.0, neat_places (p + 1) xs h.1)

module _ (banks : ℕ) (b : Batches) (m t : List ℕ) (s : Stood banks b) (r : RightMemory b m) (e : t ≡ words_of b m) where
  pub words_neat : NeatTable t
  words_neat =
      rw e
      (record {
        long = batches_long banks b m s r;
        rows = rw (whole b m s.long (places_lie banks b m s r)) (neat_places b m 0 b.places (places_lie banks b m s r));
      })

  pub words_say : batches_in t ≡ b
  words_say = rw e (batches_held banks b m s r)

  pub words_hold : memory_in t ≡ m
  words_hold = rw e (memory_held banks b m s r)

-- the stored table
pub stored_so : (b : Batches) (t q : List ℕ) (nq : ℕ) (w : List ℕ) (nw : ℕ) (m t' : List ℕ) → Became b t q nq w nw
    → t' ≡ words_of (seen t q nq w nw) m → t' ≡ words_of b m
stored_so b t q nq w nw m t' h e = e ∙ ap (λ (x : Batches). words_of x m) h.is
