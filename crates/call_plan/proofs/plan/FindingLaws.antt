-- The batch of a BIN, and whether it waits.
use Rattle.std.specs.Prelude.{Option, Some, None, is_some}
use Prim.Native.Nat.{ℕ}
use mathlib.Core.Path.{◌≡◌, sym, ◌∙◌}
use mathlib.Core.Bool.{Bool, true, false}
use mathlib.Core.List.{List, []}
use native.Mathlib.Omega.{arith}
use lib.Dec.{eqb}
use lib.ListN.{take}
use Rattle.codes.specs.declared.Code.{Code}
use Rattle.model.specs.State.{at, nowhere, seek, has_bin}
use Rattle.model.specs.Messages.{waits, assembling, waiting}
use Rattle.tables.specs.Seeking.{found_by}
use Rattle.tables.proofs.Ranking.{absent}
use Rattle.call_orders.specs.Heads.{view}
use Rattle.call_orders.specs.Stages.{seen, places_in}
use Rattle.call_orders.proofs.HeadLaws.{there}

-- ---- whether it waits

module _ (q w : List ℕ) (p : ℕ) where
  in_pending : (s : Option ℕ) → found_by s ≡ seek (eqb p) w → is_some s ≡ true → true ≡ waits (view [] q w) p
  in_pending (Some i) is e = rw (there p 0 i w (sym is))
  in_pending None is e = let z : ◌≡◌ {A = ℕ} 0 1 = cc in absurd (omega arith)

  in_queue : (s u : Option ℕ) → found_by s ≡ seek (eqb p) w → is_some s ≡ false → found_by u ≡ seek (eqb p) q → is_some u ≡ waits (view [] q w) p
  in_queue (Some i) u is e so = let z : ◌≡◌ {A = ℕ} 0 1 = cc in absurd (omega arith)
  in_queue None (Some i) is e so = rw (absent p 0 w (sym is), there p 0 i q (sym so))
  in_queue None None is e so = rw (absent p 0 w (sym is), absent p 0 q (sym so))

  module _ (s : Option ℕ) (is : found_by s ≡ seek (eqb p) w) {b : Bool} (has : b ≡ is_some s) where
    pub waits_pending : b ≡ true → b ≡ waits (view [] q w) p
    waits_pending e = e ∙ in_pending s is (sym has ∙ e)

    pub waits_queued : b ≡ false → (u : Option ℕ) → found_by u ≡ seek (eqb p) q → {d : Bool} → d ≡ is_some u → d ≡ waits (view [] q w) p
    waits_queued e u so f = f ∙ in_queue s u is (sym has ∙ e) so

module _ (t q : List ℕ) (nq : ℕ) (w : List ℕ) (nw : ℕ) (bin : Code) {s : Option ℕ} (is : found_by s ≡ seek (has_bin bin) (places_in t)) where
  module _ {p : ℕ} (e : s ≡ Some p) {r : Bool} (so : r ≡ waits (view [] (take nq q) (take nw w)) p) where
    pub waits_assembling : r ≡ true → nowhere ≡ assembling (seen t q nq w nw) bin
    unfolding assembling
    waits_assembling f = rw (sym is, e, sym so, f)

    pub is_assembling : r ≡ false → at p ≡ assembling (seen t q nq w nw) bin
    unfolding assembling
    is_assembling f = rw (sym is, e, sym so, f)

    pub is_waiting : r ≡ true → at p ≡ waiting (seen t q nq w nw) bin
    unfolding waiting
    is_waiting f = rw (sym is, e, sym so, f)

    pub not_waiting : r ≡ false → nowhere ≡ waiting (seen t q nq w nw) bin
    unfolding waiting
    not_waiting f = rw (sym is, e, sym so, f)
