-- The stages.
use Prim.Native.Nat.{ℕ, zero, suc, ◌+◌, ◌≤◌, ◌<◌}
use mathlib.Core.Path.{◌≡◌, refl, sym, ap, ◌∙◌}
use mathlib.Core.Bool.{Bool, true, false, not}
use mathlib.Core.List.{List, [], ◌∷◌, ◌++◌, map}
use native.Mathlib.Omega.{arith}
use lib.Dec.{eqb}
use lib.ListN.{length, set, take, replicate}
use Rattle.model.specs.State.{free}
use Rattle.model.specs.Messages.{ended}
use Rattle.model.specs.Joining.{keep, by_time, join}
use Rattle.model.proofs.Seeking.{each_set}
use Rattle.tables.specs.Rows.{place_in, ranked, batch_rows, batches_in}
use Rattle.call_orders.specs.Heads.{headed, Neat, NeatTable}
use Rattle.call_orders.specs.Stages.{seen, Ready, Became, places_in, minute_at, due_at, tailed}

pub map_set : {A B : Type 0} (f : A → B) (l : List A) (p : ℕ) (x : A) → map f (set l p x) ≡ set (map f l) p (f x)
map_set f [] p x = refl
map_set f (y ∷ l) zero x = refl
map_set f (y ∷ l) (suc p) x = ap (λ (z : List _). f y ∷ z) (map_set f l p x)

pub zero_free : place_in (replicate 349 0) ≡ free
unfolding place_in
zero_free = refl

pub zero_neat : Neat (replicate 349 0)
unfolding headed place_in
zero_neat = refl

-- one row of a neat table is replaced by a neat one
pub neat_set : (t t' row : List ℕ) (p : ℕ) → NeatTable t → Neat row → length t' ≡ length t → batch_rows t' ≡ set (batch_rows t) p row → NeatTable t'
neat_set t t' row p n m l e = record { long = l ∙ n.long; rows = rw e (each_set Neat (batch_rows t) p row n.rows m) }

-- ---- loading

pub loaded : (t q : List ℕ) (nq : ℕ) (w : List ℕ) (nw : ℕ) → NeatTable t → nq ≤ length q → nw ≤ length w
    → take nq q ≡ ranked 3 (batch_rows t) → take nw w ≡ ranked 2 (batch_rows t) → Became (batches_in t) t q nq w nw
unfolding batches_in
loaded t q nq w nw n a b e f = record { ready = record { table = n; queue = a; pending = b }; is = rw (e, f) }

-- ---- an end

pub ended_so : (t q : List ℕ) (nq : ℕ) (w : List ℕ) (nw p : ℕ) (t' q' : List ℕ) (nq' : ℕ) (w' : List ℕ) (nw' : ℕ) → Ready t q nq w nw
    → length t' ≡ length t → length q' ≡ length q → length w' ≡ length w
    → (take nq' q' ≡ keep (λ x. not (eqb x p)) (take nq q)) × (nq' ≤ nq) → (take nw' w' ≡ keep (λ x. not (eqb x p)) (take nw w)) × (nw' ≤ nw)
    → batch_rows t' ≡ set (batch_rows t) p (replicate 349 0)
    → Became (ended (seen t q nq w nw) p) t' q' nq' w' nw'
unfolding ended
ended_so t q nq w nw p t' q' nq' w' nw' r a b c d e f =
    let u : map place_in (batch_rows t') ≡ set (places_in t) p free = rw f (map_set place_in (batch_rows t) p (replicate 349 0) ∙ rw zero_free) in
    record {
      ready = record {
        table = neat_set t t' (replicate 349 0) p r.table zero_neat a f;
        queue = omega (arith, r.queue, d.1);
        pending = omega (arith, r.pending, e.1);
      };
      is = rw (u, d.0, e.0);
    }

-- ---- a tail

module _ (t q : List ℕ) (nq : ℕ) (w : List ℕ) (nw p clock : ℕ) (b : Bool) (r : Ready t q nq w nw) (e : b ≡ due_at t clock p) where
  pub tail_queued : (q' : List ℕ) → b ≡ true → length q' ≡ length q → nq < length q → take (nq + 1) q' ≡ take nq q ++ (p ∷ [])
      → Became (tailed (due_at t clock p) (seen t q nq w nw) p) t q' (nq + 1) w nw
  unfolding tailed
  tail_queued q' f a l g =
      let d : due_at t clock p ≡ true = sym e ∙ f in
      record { ready = record { table = r.table; queue = omega arith; pending = r.pending }; is = rw (d, g) }

  pub tail_pending : (w' : List ℕ) → b ≡ false → length w' ≡ length w → nw < length w → take (nw + 1) w' ≡ take nw w ++ (p ∷ [])
      → Became (tailed (due_at t clock p) (seen t q nq w nw) p) t q nq w' (nw + 1)
  unfolding tailed
  tail_pending w' f a l g =
      let d : due_at t clock p ≡ false = sym e ∙ f in
      record { ready = record { table = r.table; queue = r.queue; pending = omega arith }; is = rw (d, g) }

-- ---- joining

pub joined_so : (t q : List ℕ) (nq : ℕ) (w : List ℕ) (nw clock : ℕ) (q' : List ℕ) (nq' : ℕ) (w' : List ℕ) (nw' : ℕ) → Ready t q nq w nw
    → nq + nw ≤ length q → length q' ≡ length q → length w' ≡ length w
    → (take nq' q' ≡ take nq q ++ by_time (minute_at t) [] (keep (due_at t clock) (take nw w))) × (nq' ≤ nq + nw)
    → (take nw' w' ≡ keep (λ p. not (due_at t clock p)) (take nw w)) × (nw' ≤ nw)
    → Became (join clock (seen t q nq w nw)) t q' nq' w' nw'
unfolding join
joined_so t q nq w nw clock q' nq' w' nw' r a b c d e =
    record {
      ready = record { table = r.table; queue = omega (arith, d.1); pending = omega (arith, r.pending, e.1) };
      is = rw (d.0, e.0);
    }
