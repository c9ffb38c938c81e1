-- The tail: `tailed` behind the message's place is the model's `to_tail`.
use Prim.Native.Nat.{ℕ, ◌*◌}
use mathlib.Core.Path.{◌≡◌, refl, sym, ap, ◌∙◌}
use mathlib.Core.Bool.{Bool}
use native.Mathlib.Omega.{arith}
use borrow.Author.Tests.{le-leb}
use Rattle.clock.specs.Clock.{has_begun}
use Rattle.request_read.specs.declared.terms.Activation.{Activation}
use Rattle.request_read.specs.declared.terms.Activation.TheVariants.{AtOnce, Minute}
use Rattle.request_read.specs.declared.whole.Reading.{Reading}
use Rattle.model.specs.State.{Batch, live, Batches, State, with_place}
use Rattle.model.specs.Messages.{may_queue, to_tail}
use Rattle.model.specs.Joining.{minute_of}
use Rattle.call_orders.specs.Stages.{tailed}

tail_model : (s : State) (g : Reading) (b : Batches) (x : Batch) (p : ℕ) → to_tail s g b x p ≡ tailed (may_queue s g x.activation) (with_place b p (live x)) p
unfolding tailed
tail_model s g b x p = refl

may_queue_lem : (s : State) (g : Reading) (a : Activation) → may_queue s g a ≡ has_begun s.day.clock (minute_of a)
unfolding has_begun
may_queue_lem s g AtOnce = sym (le-leb (60 * 0) s.day.clock (omega arith))
may_queue_lem s g (Minute n) = refl

pub tail_so : (s : State) (g : Reading) (b : Batches) (x : Batch) (p : ℕ)
    → to_tail s g b x p ≡ tailed (has_begun s.day.clock (minute_of x.activation)) (with_place b p (live x)) p
tail_so s g b x p = tail_model s g b x p ∙ ap (λ (t : Bool). tailed t (with_place b p (live x)) p) (may_queue_lem s g x.activation)
