-- The batches that a call passed, settled in order on the row of records, give the balances that the call leaves.
use Rattle.std.specs.Prelude.{Ok}
use mathlib.Core.Path.{◌≡◌, ap, subst, ◌∙◌}
use Prim.Native.Nat.{ℕ}
use mathlib.Core.List.{List}
use Rattle.settle.specs.Payments.{Payment}
use Rattle.settle.specs.Settlement.{Accounts, settled}
use Rattle.queue.specs.Promise.{Trail, halt, pass}
use Rattle.queue.specs.Tests.{passed_of}
use Rattle.model.specs.Answers.{Answer}
use Rattle.model.specs.Kinds.{Kind, steps, kind_of}
use Rattle.model.specs.State.{payments_at}
use Rattle.model.specs.Calls.{Call, call, judge}
use Rattle.model.specs.Answered.{acted}
use Rattle.model.specs.Course.{start, Deed, course}
use Rattle.model.specs.Promises.{CoveredBy}
use Rattle.model.proofs.Promises.{payers_covered}
use Rattle.call_records.specs.declared.Account.{Account}
use Rattle.call_records.specs.Records.{balances_of}
use Rattle.settle_records.specs.Payments.{InOrder, none, next}

pub trail_settles : {batch : ℕ → List Payment} {a v : Accounts} {ps : List ℕ} {row end : List Account} → Trail batch a ps v → balances_of row ≡ a.balances → InOrder batch row ps end → balances_of end ≡ v.balances
trail_settles halt e none = e
trail_settles {batch = batch} (pass {p = p} c t) e (next s o) = trail_settles t (s.balances_are ∙ ap (λ (b : List ℕ). settled b (batch p)) e) o

pub passed_settles : (ds : List Deed) (c : Call) (row end : List Account) → let e = course call start ds in
    judge e.state c ≡ Ok tt → kind_of c.asked.action ≡ steps → balances_of row ≡ (acted e c).books.balances
    → InOrder (payments_at (acted e c).batches) row (passed_of (call e c).tries) end → balances_of end ≡ (call e c).engine.state.books.balances
passed_settles ds c row end j k b o =
    let e = course call start ds in
    let t : CoveredBy (Ok tt) steps e c (call e c) = subst (λ (x : Answer). CoveredBy x steps e c (call e c)) j (subst (λ (x : Kind). CoveredBy (judge e.state c) x e c (call e c)) k (payers_covered ds c)) in
    trail_settles t b o
