-- Batches that were settled.
use Prim.Native.Nat.{ℕ, ◌+◌, ◌/◌, ◌%◌, ◌≤◌, ◌<◌}
use mathlib.Core.Path.{◌≡◌, refl, sym, ◌∙◌}
use mathlib.Core.List.{List, [], ◌∷◌}
use native.Mathlib.Omega.{arith}
use borrow.Author.Tests.{eq-eqb, ne_eqb}
use lib.Dec.{eqb}
use lib.ListN.{length, get_or, set, take, drop, replicate, length-map}
use lib.Seq.{set_out}
use Rattle.queue.specs.Tests.{passed_of}
use Rattle.queue.specs.Memory.{forgotten}
use Rattle.queue.proofs.MemoryLaws.{by_bool}
use Rattle.model.specs.State.{Place, free}
use Rattle.model.specs.Ending.{emptied}
use Rattle.tables.specs.Rows.{place_in, batch_rows}
use Rattle.call_orders.specs.Heads.{NeatTable}
use Rattle.call_orders.specs.Stages.{places_in, Emptied}
use Rattle.call_orders.proofs.HeadLaws.{rows_many}
use Rattle.call_orders.proofs.OrderLaws.{cut}
use Rattle.call_orders.proofs.JoinLaws.{none_left}
use Rattle.call_orders.proofs.StageLaws.{map_set, zero_free, zero_neat, neat_set}

-- ---- a place

module _ (t : List ℕ) (p : ℕ) (n : NeatTable t) where
  pub place_gone : (t' : List ℕ) → length t' ≡ length t → batch_rows t' ≡ set (batch_rows t) p (replicate 349 0)
      → NeatTable t' × (places_in t' ≡ set (places_in t) p free)
  place_gone t' l e = (neat_set t t' (replicate 349 0) p n zero_neat l e, rw e (map_set place_in (batch_rows t) p (replicate 349 0) ∙ rw zero_free))

  pub no_place : 32 ≤ p → places_in t ≡ set (places_in t) p free
  no_place h = sym (set_out (places_in t) p free (omega (arith, length-map (batch_rows t) place_in, rows_many 349 32 t)))

-- ---- a try

module _ (t m : List ℕ) (x : ℕ) (n : NeatTable t) where
  pub try_failed : (x % 2 ≡ 1 → ⊥) → Emptied (passed_of (x ∷ [])) t m t m
  unfolding passed_of emptied forgotten
  try_failed h = let e = ne_eqb (x % 2) 1 h in record { table = n; places = rw e; memory = rw e }

  pub try_passed : (t' m' : List ℕ) → x % 2 ≡ 1 → NeatTable t' → places_in t' ≡ set (places_in t) (x / 2) free → m' ≡ set m (x / 2) 0
      → Emptied (passed_of (x ∷ [])) t m t' m'
  unfolding passed_of emptied forgotten
  try_passed t' m' h k f g = let e = eq-eqb (x % 2) 1 h in record { table = k; places = rw e f; memory = rw e g }

-- ---- the tries

emptied_one : (x : ℕ) (l : List ℕ) (ps : List Place) → emptied (passed_of (x ∷ l)) ps ≡ emptied (passed_of l) (emptied (passed_of (x ∷ [])) ps)
unfolding passed_of emptied
emptied_one x l ps = by_bool (eqb (x % 2) 1) (λ e. rw e) (λ e. rw e)

forgotten_one : (x : ℕ) (l m : List ℕ) → forgotten (passed_of (x ∷ l)) m ≡ forgotten (passed_of l) (forgotten (passed_of (x ∷ [])) m)
unfolding passed_of forgotten
forgotten_one x l m = by_bool (eqb (x % 2) 1) (λ e. rw e) (λ e. rw e)

-- what is left to end ends as much as the whole
pub record Ending (r t₀ m₀ t m : List ℕ) (n i : ℕ) : Type 0 where
  pub upto : i ≤ n
  pub table : NeatTable t
  pub places : emptied (passed_of (take n r)) (places_in t₀) ≡ emptied (passed_of (drop i (take n r))) (places_in t)
  pub memory : forgotten (passed_of (take n r)) m₀ ≡ forgotten (passed_of (drop i (take n r))) m

module _ (r t₀ m₀ : List ℕ) (n : ℕ) where
  pub ending_start : NeatTable t₀ → Ending r t₀ m₀ t₀ m₀ n 0
  ending_start k = record { upto = omega arith; table = k; places = refl; memory = refl }

  pub ending_turn : (t m t' m' : List ℕ) (i : ℕ) → Ending r t₀ m₀ t m n i → i < n → n ≤ length r
      → Emptied (passed_of (get_or r i 0 ∷ [])) t m t' m' → Ending r t₀ m₀ t' m' n (i + 1)
  ending_turn t m t' m' i h k l e =
      let c = cut r n i k l in
      record {
        upto = omega arith;
        table = e.table;
        places = h.places ∙ rw (c, emptied_one (get_or r i 0) (drop (i + 1) (take n r)) (places_in t), e.places);
        memory = h.memory ∙ rw (c, forgotten_one (get_or r i 0) (drop (i + 1) (take n r)) m, e.memory);
      }

  pub ending_done : (t m : List ℕ) (i : ℕ) → Ending r t₀ m₀ t m n i → n ≤ i → n ≤ length r → Emptied (passed_of (take n r)) t₀ m₀ t m
  unfolding passed_of emptied forgotten
  ending_done t m i h k l =
      let d = none_left r n i l k in
      record { table = h.table; places = sym (h.places ∙ rw d); memory = sym (h.memory ∙ rw d) }
