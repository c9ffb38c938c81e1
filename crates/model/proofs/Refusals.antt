-- "Nothing changed": a call that comes at the wrong moment (05) or with too little room (07), and a book that is refused (11 to 15, 05).
use Rattle.std.specs.Prelude.{Ok, Err}
use Prim.Native.Nat.{ℕ}
use mathlib.Core.Path.{◌≡◌, ap, subst, ◌∙◌}
use mathlib.Core.List.{[]}
use native.Mathlib.Omega.{arith}
use Rattle.chars.specs.declared.Refusal.{Refusal}
use Rattle.model.specs.Answers.{Answer}
use Rattle.model.specs.declared.Action.{Action}
use Rattle.model.specs.declared.Action.TheVariants.{Opening}
use Rattle.model.specs.Kinds.{kind_of}
use Rattle.model.specs.Days.{opening_answer}
use Rattle.model.specs.Calls.{Call, Engine, judge, refused, opened_by, performed, judged, call}

-- 05 and 07: no table, no byte, no try
pub refusals_change_nothing : (e : Engine) (c : Call) (r : Refusal) → judge e.state c ≡ Err r → call e c ≡ refused e r
unfolding call
refusals_change_nothing e c r h = ap (λ (a : Answer). judged a e c) h

-- an answer of 0 is no refusal
pub not_done : {X : Type 0} {r : Refusal} → ◌≡◌ {A = Answer} (Ok tt) (Err r) → X
not_done h = let z : ◌≡◌ {A = ℕ} 0 1 = cc in absurd (omega arith)

same_refusal : (e : Engine) (q r : Refusal) → ◌≡◌ {A = Answer} (Err q) (Err r) → refused e q ≡ refused e r
same_refusal e q r h = ap (λ (a : Answer). record { answer = a; out = []; tries = []; engine = e }) h

refused_opening : (a : Answer) (e : Engine) (c : Call) (r : Refusal) → (opened_by a e c).answer ≡ Err r → opened_by a e c ≡ refused e r
refused_opening (Ok tt) e c r h = not_done h
refused_opening (Err q) e c r h = same_refusal e q r h

refused_judged : (j : Answer) (e : Engine) (c : Call) (r : Refusal) → c.asked.action ≡ Opening → (judged j e c).answer ≡ Err r → judged j e c ≡ refused e r
refused_judged (Ok tt) e c r o h =
    ap (λ (a : Action). performed (kind_of a) e c) o
    ∙ refused_opening (opening_answer e.state.day c.asked.input) e c r (subst (λ (a : Action). (performed (kind_of a) e c).answer ≡ Err r) o h)
refused_judged (Err q) e c r o h = same_refusal e q r h

-- an opening that is refused, whatever its number
pub refused_openings_change_nothing : (e : Engine) (c : Call) (r : Refusal) → c.asked.action ≡ Opening → (call e c).answer ≡ Err r → call e c ≡ refused e r
unfolding call
refused_openings_change_nothing e c r o h = refused_judged (judge e.state c) e c r o h
