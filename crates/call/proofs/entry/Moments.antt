-- What 06, 05 and 07 have told of a call that is performed.
use Rattle.std.specs.Prelude.{Ok}
use Prim.Native.Nat.{ℕ, ◌*◌, ◌≤◌}
use mathlib.Core.Path.{◌≡◌, refl, sym, ap, subst, ◌∙◌}
use mathlib.Core.Bool.{Bool, true, ◌&&◌}
use mathlib.Core.List.{List, []}
use native.Mathlib.Omega.{arith}
use lib.ListN.{length}
use Rattle.book_write.specs.Closing.{blocks_for}
use Rattle.model.specs.declared.Action.{Action}
use Rattle.model.specs.declared.Phase.{Phase}
use Rattle.model.specs.declared.Phase.TheVariants.{Fresh, Open, Closed}
use Rattle.model.specs.Kinds.{Kind, steps, gives, kind_of}
use Rattle.model.specs.Calls.{Call, day_for, is_open, is_closed, room_for, judge, cleared}
use Rattle.model.proofs.Agreement.{right_day_lem}
use Rattle.model.proofs.Validity.{right_clock_lem}
use Rattle.tables.specs.declared.Desk.{Desk}
use Rattle.tables.specs.Rows.{Tables, state_in}
use Rattle.tables.specs.Words.{desk_of}
use Rattle.tables.specs.Lent.{Right}
use Rattle.tables.specs.Moment.{call_for}
use Rattle.tables.proofs.MomentLaws.{closing_length}
use Rattle.tables.proofs.Reported.{right_room}
use Rattle.call.proofs.premises.Granted.{Granted, open_grants, closed_grants, fresh_desk}
use Rattle.call.specs.step.Stepping.{Steppable}
use Rattle.call.specs.entry.Calls.{Performable}

-- ---- the phase

by_phase : {X : Type 0} (p : Phase) → (p ≡ Fresh → X) → (p ≡ Open → X) → (p ≡ Closed → X) → X
by_phase Fresh f g h = f refl
by_phase Open f g h = g refl
by_phase Closed f g h = h refl

is_open_lem : (p : Phase) → is_open p ≡ true → p ≡ Open
is_open_lem Fresh h = let z : ◌≡◌ {A = ℕ} 0 1 = cc in absurd (omega arith)
is_open_lem Open h = refl
is_open_lem Closed h = let z : ◌≡◌ {A = ℕ} 0 1 = cc in absurd (omega arith)

is_closed_lem : (p : Phase) (b : Bool) → (is_closed p && b) ≡ true → p ≡ Closed
is_closed_lem Fresh b h = let z : ◌≡◌ {A = ℕ} 0 1 = cc in absurd (omega arith)
is_closed_lem Open b h = let z : ◌≡◌ {A = ℕ} 0 1 = cc in absurd (omega arith)
is_closed_lem Closed b h = refl

-- ---- tables that keep the rules

pub right_few : (d : Desk) (t : Tables) → Right d t → (d.banks ≤ 64) × (d.n ≤ 8)
unfolding desk_of
right_few d t r =
    by_phase d.phase
    (λ e. let h = fresh_desk d t e r in (omega (arith, ap (λ (z : Desk). z.banks) h ∙ none_banks), omega (arith, ap (λ (z : Desk). z.n) h ∙ none_streams)))
    (λ e. let g = open_grants d t e r in (g.few_banks, g.few_streams))
    (λ e. let g = closed_grants d t e r in (g.few_banks, g.few_streams))
  where
    none_banks : (desk_of cleared.state).banks ≡ 0
    none_banks = refl

    none_streams : (desk_of cleared.state).n ≡ 0
    none_streams = refl

-- ---- a call that is performed

module _ (d : Desk) (t : Tables) (clock : ℕ) (a : Action) (out r : List ℕ) (k : Performable d t clock a out r) where
  abbrev c : Call
  c = call_for true clock a [] (length out) (length r)

  done : judge (state_in d t) c ≡ Ok tt
  done = sym (k.judged.is t true [])

  for_kind : (z : Kind) → kind_of a ≡ z → day_for z (state_in d t).day ≡ true
  for_kind z e = subst (λ (y : Kind). day_for y (state_in d t).day ≡ true) e (right_day_lem (state_in d t) c done)

  room_for_lem : (z : Kind) → kind_of a ≡ z → room_for z (state_in d t) ≤ length out
  room_for_lem z e = subst (λ (y : Kind). room_for y (state_in d t) ≤ length out) e (right_room (state_in d t) c done).0

  pub step_able : kind_of a ≡ steps → Steppable d t clock a out r
  unfolding state_in
  step_able e = record {
    right = k.right;
    phase = is_open_lem d.phase (for_kind steps e);
    moment = right_clock_lem (state_in d t) c done;
    kind = e;
    room = room_for_lem steps e;
    rows = (right_room (state_in d t) c done).1;
  }

  module _ (date : ℕ) (e : kind_of a ≡ gives date) where
    closed_so : d.phase ≡ Closed
    unfolding state_in
    closed_so = is_closed_lem d.phase _ (for_kind (gives date) e)

    grants : Granted d t
    grants = closed_grants d t closed_so k.right

    pub book_able : (1 ≤ d.n) × (d.n ≤ 8) × (1 ≤ d.banks) × (d.banks ≤ 64)
    book_able = (grants.some_streams, grants.few_streams, grants.some_banks, grants.few_banks)

    pub book_room : 512 * blocks_for d.banks ≤ length out
    book_room = omega (arith, room_for_lem (gives date) e, closing_length d t date grants.few_streams)
