-- (b) behind the loading.
use Prim.Native.Nat.{ℕ}
use mathlib.Core.Path.{ap, ◌∙◌}
use mathlib.Core.List.{List}
use Rattle.model.specs.Joining.{join}
use Rattle.tables.specs.Rows.{batches_in}
use Rattle.call_orders.specs.Stages.{seen, Became}

pub loaded_joined : (t q : List ℕ) (nq : ℕ) (w : List ℕ) (nw clock : ℕ) (q₁ : List ℕ) (nq₁ : ℕ) (w₁ : List ℕ) (nw₁ : ℕ)
    → Became (batches_in t) t q nq w nw → Became (join clock (seen t q nq w nw)) t q₁ nq₁ w₁ nw₁ → Became (join clock (batches_in t)) t q₁ nq₁ w₁ nw₁
loaded_joined t q nq w nw clock q₁ nq₁ w₁ nw₁ b c = record { ready = c.ready; is = c.is ∙ ap (join clock) b.is }
