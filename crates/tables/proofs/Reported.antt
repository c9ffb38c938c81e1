-- "In every other call both are as before past their reported lengths": what buffer and row hold after a call.
use Rattle.std.specs.Prelude.{Ok, Err}
use Prim.Native.Nat.{ℕ, ◌+◌, ◌≤◌}
use mathlib.Core.Path.{◌≡◌, refl, sym, ap, subst, ◌∙◌}
use mathlib.Core.Bool.{Bool, true, false, ◌&&◌, cond}
use mathlib.Core.List.{List, ◌++◌}
use native.Mathlib.Omega.{arith}
use lib.Dec.{leb}
use lib.ListN.{length, take, drop}
use lib.Seq.{sets, sets-eq, take-append_seam, drop-append_seam}
use borrow.Author.Tests.{leb-true}
use Rattle.chars.specs.Words.{Says}
use Rattle.chars.specs.declared.Refusal.TheVariants.{WrongMoment, ShortBuffer}
use Rattle.model.specs.Answers.{Answer}
use Rattle.model.specs.State.{State}
use Rattle.model.specs.Calls.{Call, Engine, Result, right_clock, right_day, room_needed, rows_needed, judge, call}
use Rattle.model.specs.Rules.{Valid}
use Rattle.model.proofs.Reading.{readers}
use Rattle.model.proofs.Validity.{valid_kept}
use Rattle.model.proofs.Output.{call_out}
use Rattle.model.proofs.Tries.{call_tries}
use Rattle.tables.specs.Rows.{engine_in}
use Rattle.tables.specs.Lent.{Right, Lent, Asked, call_of, Left, call_lent, Called}
use Rattle.tables.proofs.Kept.{on_right}

-- ---- a call that is not refused with 05 or 07 has the room that it needs

given_room : (t u v : Bool) → ◌≡◌ {A = Answer} (cond t (cond (u && v) (Ok tt) (Err ShortBuffer)) (Err WrongMoment)) (Ok tt) → (u ≡ true) × (v ≡ true)
given_room true true true h = (refl, refl)
given_room true true false h = let z : ◌≡◌ {A = ℕ} 0 1 = cc in absurd (omega arith)
given_room true false v h = let z : ◌≡◌ {A = ℕ} 0 1 = cc in absurd (omega arith)
given_room false u v h = let z : ◌≡◌ {A = ℕ} 0 1 = cc in absurd (omega arith)

pub right_room : (s : State) (c : Call) → judge s c ≡ Ok tt → (room_needed c.asked.action s ≤ c.room) × (rows_needed ≤ c.rows)
unfolding judge
right_room s c h =
    let g = given_room (right_clock c.asked.action s.day c.asked.clock && right_day c.asked.action s.day) (leb (room_needed c.asked.action s) c.room) (leb rows_needed c.rows) h in
    (leb-true (room_needed c.asked.action s) c.room g.0, leb-true rows_needed c.rows g.1)

abbrev Fits : Call → Result → Type 0
Fits c r = (length r.out ≤ c.room) × (length r.tries ≤ c.rows)

fits : (e : Engine) (c : Call) → Valid e.state → Fits c (call e c)
unfolding call
fits e c v = go (judge e.state c) refl
  where
    go : (j : Answer) → judge e.state c ≡ j → Fits c (call e c)
    go (Ok tt) h = let r = right_room e.state c h in (omega (arith, r.0, call_out readers e c v), omega (arith, r.1, call_tries readers e c (valid_kept e.state v)))
    go (Err q) h = rw h (omega arith, omega arith)

-- ---- what was stored from the beginning on

stored : (l vs : List ℕ) → length vs ≤ length l → sets l 0 vs ≡ vs ++ drop (length vs) l
stored l vs h =
    let z : 0 + length vs ≡ length vs = omega arith in
    sets-eq vs l 0 (omega arith) ∙ ap (λ (n : ℕ). vs ++ drop n l) z

stored_first : (l vs : List ℕ) → length vs ≤ length l → take (length vs) (sets l 0 vs) ≡ vs
stored_first l vs h = rw (stored l vs h) (take-append_seam vs (drop (length vs) l))

stored_past : (l vs : List ℕ) → length vs ≤ length l → drop (length vs) (sets l 0 vs) ≡ drop (length vs) l
stored_past l vs h = rw (stored l vs h) (drop-append_seam vs (drop (length vs) l))

-- ---- the reported parts

module _ (x : Lent) (a : Asked) where
  abbrev r : Result
  r = call (engine_in x.desk x.tables) (call_of x a)

  -- buffer and row are as before past their reported lengths
  abbrev pub AsBefore : Left → Type 0
  AsBefore y = (drop y.written y.lent.out ≡ drop y.written x.out) × (drop y.tried y.lent.tries ≡ drop y.tried x.tries)

  pub as_before : (y : Left) → Called x a y → AsBefore y
  unfolding call_lent
  as_before y c = subst AsBefore (sym c.is) (go c.kept c.says)
    where
      go : (k : Bool) → Says (Right x.desk x.tables) k → AsBefore (call_lent k x a)
      go true s = let f = fits (engine_in x.desk x.tables) (call_of x a) s.valid in (stored_past x.out r.out f.0, stored_past x.tries r.tries f.1)
      go false s = (refl, refl)

  -- and hold the rules' bytes and tries before them
  abbrev pub Reported : Left → Type 0
  Reported y = (take y.written y.lent.out ≡ r.out) × (take y.tried y.lent.tries ≡ r.tries)

  pub reported : (y : Left) → Right x.desk x.tables → Called x a y → Reported y
  reported y g c =
      let f = fits (engine_in x.desk x.tables) (call_of x a) g.valid in
      subst Reported (sym (on_right x a y g c)) (stored_first x.out r.out f.0, stored_first x.tries r.tries f.1)
