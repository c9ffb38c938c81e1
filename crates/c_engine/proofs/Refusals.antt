-- Refusals before all others, 06, 05 and 07: the words are as they were, and the report says that nothing was written. And an action that is none.
use Rattle.std.specs.Prelude.{Err}
use mathlib.Core.Path.{◌≡◌, refl, ap, ◌∙◌}
use Prim.Native.Nat.{ℕ, ◌≤◌}
use native.Mathlib.Omega.{arith}
use mathlib.Core.Bool.{Bool, true, false, ◌&&◌}
use mathlib.Core.Logic.{◌⊎◌, inl, inr}
use mathlib.Core.List.{List}
use lib.Dec.{eqb}
use lib.ListN.{length}
use borrow.Author.Tests.{ne_eqb}
use Rattle.chars.specs.Words.{Says}
use Rattle.chars.specs.declared.Refusal.{Refusal}
use Rattle.chars.specs.declared.Refusal.TheVariants.{BrokenTables, WrongMoment}
use Rattle.dates.specs.Dates.{is_true, day_of}
use Rattle.model.specs.Answers.{Answer}
use Rattle.model.specs.declared.Action.{Action}
use Rattle.model.specs.declared.Action.TheVariants.{ClosingBook}
use Rattle.model.specs.declared.Phase.{Phase}
use Rattle.model.specs.declared.Phase.TheVariants.{Fresh, Open, Closed}
use Rattle.model.specs.State.{State}
use Rattle.model.specs.Calls.{Asked, Call, is_closed, right_clock, judge, judged, call}
use Rattle.tables.specs.Rows.{engine_in}
use Rattle.tables.specs.Lent.{Right, Left, call_of, left_by, call_lent}
use Rattle.tables.proofs.Kept.{on_right}
use Rattle.call_records.proofs.Determined.{row_back}
use Rattle.c_engine.specs.Lending.{banks_in, Words, lent_in, action_by, asks, Returned, returned, unchanged, InShape, CalledWords}
use Rattle.c_engine.proofs.Banks.{bank_words_back}
use Rattle.c_engine.proofs.Desks.{desk_words_back}

-- the rules of what the words say, and a refusal that leaves it
abbrev pub RightIn : Words → Type 0
RightIn x = Right (lent_in x).desk (lent_in x).tables

abbrev refused_at : Refusal → Words → Left
refused_at r x = record { answer = Err r; written = 0; tried = 0; lent = lent_in x }

module _ (x : Words) (a : Asked) (y : Returned) (room : 2 ≤ length x.report) (shape : InShape x) (c : CalledWords x a y) where
  as_it_was : (r : Refusal) → returned x (refused_at r x) ≡ unchanged r x
  as_it_was r =
      rw (
        desk_words_back x.engine.desk shape.desk_long shape.phase_right,
        row_back (banks_in x.engine.banks),
        bank_words_back x.engine.banks shape.banks_long,
      )

  broken_left : (k : Bool) → Says (RightIn x) k → (RightIn x → ⊥) → call_lent k (lent_in x) a ≡ refused_at BrokenTables x
  unfolding call_lent
  broken_left true r h = absurd (h r)
  broken_left false r h = refl

  pub broken_tables : (RightIn x → ⊥) → y ≡ unchanged BrokenTables x
  broken_tables h =
      let s = c.shows room shape in
      s.is ∙ ap (returned x) (s.called.is ∙ broken_left s.called.kept s.called.says h) ∙ as_it_was BrokenTables

  -- 05 and 07
  pub at_once : RightIn x → (r : Refusal) → judge (engine_in (lent_in x).desk (lent_in x).tables).state (call_of (lent_in x) a) ≡ Err r
      → y ≡ unchanged r x
  unfolding call
  at_once q r h =
      let s = c.shows room shape in
      let e : s.left ≡ refused_at r x =
      on_right (lent_in x) a s.left q s.called
      ∙ ap (λ (n : Answer). left_by (lent_in x) (judged n (engine_in (lent_in x).desk (lent_in x).tables) (call_of (lent_in x) a))) h
      ∙ rw (q.desk, q.tables)
      in
      s.is ∙ ap (returned x) e ∙ as_it_was r

-- ---- an action that is none

unknown_action : (number first second third fourth : ℕ) → 7 ≤ number → action_by number first second third fourth ≡ ClosingBook 0
unfolding action_by
unknown_action number first second third fourth h =
    let past : (k : ℕ) → k ≤ 6 → eqb number k ≡ false = λ k l. ne_eqb number k (λ e. omega (arith, h, l, e)) in
    rw (past 0 (omega arith), past 1 (omega arith), past 2 (omega arith), past 3 (omega arith), past 4 (omega arith), past 5 (omega arith), past 6 (omega arith))

never : (t : Bool) (p : Phase) → (t && (is_closed p && false)) ≡ false
never true Fresh = refl
never true Open = refl
never true Closed = refl
never false p = refl

-- 0 is no date
no_moment : (s : State) (k : Call) → k.asked.action ≡ ClosingBook 0 → judge s k ≡ Err WrongMoment
unfolding judge day_of is_true
no_moment s k e = rw (e, never (right_clock (ClosingBook 0) s.day k.asked.clock) s.day.phase)

module _ (x : Words) (quick clock number first second third fourth : ℕ) (input : List ℕ) (y : Returned) where
  abbrev a : Asked
  a = asks quick clock number first second third fourth input

  pub unknown : 7 ≤ number → 2 ≤ length x.report → InShape x → CalledWords x (asks quick clock number first second third fourth input) y
      → (y ≡ unchanged BrokenTables x) ⊎ (y ≡ unchanged WrongMoment x)
  unknown h room shape c = go (c.shows room shape).called.kept (c.shows room shape).called.says
    where
      go : (k : Bool) → Says (RightIn x) k → (y ≡ unchanged BrokenTables x) ⊎ (y ≡ unchanged WrongMoment x)
      go true r =
          inr (at_once x a y room shape c r WrongMoment
          (no_moment (engine_in (lent_in x).desk (lent_in x).tables).state (call_of (lent_in x) a) (unknown_action number first second third fourth h)))
      go false r = inl (broken_tables x a y room shape c r)
