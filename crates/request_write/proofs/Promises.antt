-- What follows from the contract of the request writer.
use Rattle.chars.specs.declared.Refusal.{Refusal}
use Rattle.std.specs.Prelude.{Result, Ok, Err}
use Prim.Native.Nat.{ℕ, ◌+◌}
use mathlib.Core.Path.{◌≡◌, refl, sym, ◌∙◌}
use mathlib.Core.Bool.{Bool, true, false, cond}
use mathlib.Core.List.{List}
use native.Mathlib.Omega.{arith}
use borrow.Author.Tests.{leb-true}
use lib.Dec.{leb}
use lib.ListN.{length}
use lib.Seq.{sets}
use Rattle.chars.specs.declared.Refusal.TheVariants.{ShortBuffer}
use Rattle.response_write.specs.Texts.{written, after}
use Rattle.request_read.specs.whole.Request.{request_at}
use Rattle.request_read.specs.declared.whole.Outcome.{Outcome}
use Rattle.request_read.specs.declared.whole.Outcome.TheVariants.{Settlement, Recall, Refused}
use Rattle.request_write.specs.Orders.{order_text, answer_of, left_of, Wrote, Accepted, Whole}
use Rattle.request_write.specs.declared.Order.{Order}

-- any two outcomes that satisfy the contract are equal
pub only_one : {out : List ℕ} {at : ℕ} {o : Order} {w w' : Result ℕ Refusal} {l l' : List ℕ} → Wrote out at o w l → Wrote out at o w' l' → (w ≡ w') × (l ≡ l')
only_one f g = (f.answer ∙ sym g.answer, f.result ∙ sym g.result)

fitting : (out : List ℕ) (at : ℕ) (text : List ℕ) (e : ℕ) (left : List ℕ) (r : Outcome) → Accepted r → Ok e ≡ written out at text → left ≡ after out at text → Whole out at text e left r
fitting out at text e left r a p q = go (leb (at + length text) (length out)) refl p q
  where
    go : (t : Bool) → leb (at + length text) (length out) ≡ t → Ok e ≡ cond t (Ok (at + length text)) (Err ShortBuffer) → left ≡ cond t (sets out at text) out → Whole out at text e left r
    go true z p q = record { accepted = a; end = cc; fits = leb-true (at + length text) (length out) z; there = q }
    go false z p q = let y : ◌≡◌ {A = ℕ} 0 1 = cc in absurd (omega arith)

by_outcome_lem : (r : Outcome) (out : List ℕ) (at : ℕ) (text : List ℕ) (e : ℕ) (left : List ℕ) → Ok e ≡ answer_of r out at text → left ≡ left_of r out at text → Whole out at text e left r
by_outcome_lem Settlement out at text e left p q = fitting out at text e left Settlement tt p q
by_outcome_lem Recall out at text e left p q = fitting out at text e left Recall tt p q
by_outcome_lem (Refused b) out at text e left p q = let y : ◌≡◌ {A = ℕ} 0 1 = cc in absurd (omega arith)

pub written_whole : {out : List ℕ} {at : ℕ} {o : Order} {e : ℕ} {left : List ℕ} → Wrote out at o (Ok e) left → Whole out at (order_text o) e left (request_at (order_text o)).outcome
written_whole {out = out} {at = at} {o = o} {e = e} {left = left} f = by_outcome_lem (request_at (order_text o)).outcome out at (order_text o) e left f.answer f.result

-- what is refused changes nothing
kept : (out : List ℕ) (at : ℕ) (text : List ℕ) {left : List ℕ} {x : Result ℕ Refusal} → x ≡ written out at text → left ≡ after out at text → ((e : ℕ) → x ≡ Ok e → ⊥) → left ≡ out
kept out at text {left = left} {x = x} p q n = go (leb (at + length text) (length out)) p q
  where
    go : (t : Bool) → x ≡ cond t (Ok (at + length text)) (Err ShortBuffer) → left ≡ cond t (sets out at text) out → left ≡ out
    go true p q = absurd (n (at + length text) p)
    go false p q = q

unchanged : (r : Outcome) (out : List ℕ) (at : ℕ) (text : List ℕ) {left : List ℕ} {x : Result ℕ Refusal} → x ≡ answer_of r out at text → left ≡ left_of r out at text → ((e : ℕ) → x ≡ Ok e → ⊥) → left ≡ out
unchanged Settlement out at text p q n = kept out at text p q n
unchanged Recall out at text p q n = kept out at text p q n
unchanged (Refused b) out at text p q n = q

pub refused_unchanged : {out : List ℕ} {at : ℕ} {o : Order} {w : Result ℕ Refusal} {left : List ℕ} → Wrote out at o w left → ((e : ℕ) → w ≡ Ok e → ⊥) → left ≡ out
refused_unchanged {out = out} {at = at} {o = o} f n = unchanged (request_at (order_text o)).outcome out at (order_text o) f.answer f.result n
