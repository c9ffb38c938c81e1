-- "Errors we have seen in such engines". Each breaks a promise that `call` keeps, on a day on which it can be seen.
use Rattle.std.specs.Prelude.{Ok}
use Prim.Native.Nat.{ℕ}
use mathlib.Core.Path.{◌≡◌, refl, sym, ap, subst, ◌∙◌}
use mathlib.Core.Bool.{true, false, false≢true}
use mathlib.Core.List.{List, [], ◌∷◌, ◌++◌}
use native.Mathlib.Omega.{arith}
use Rattle.chars.specs.Words.{bytes}
use Rattle.chars.specs.declared.Refusal.TheVariants.{WrongSender}
use Rattle.settle.specs.Payments.{Payment, needs_of}
use Rattle.settle.specs.Settlement.{Accounts, verdict}
use Rattle.settle.specs.Rules.{credits}
use Rattle.settle.specs.declared.Verdict.TheVariants.{Stops}
use Rattle.queue.specs.Tests.{passed_of}
use Rattle.queue.specs.Promise.{AllCovered, Trail, pass}
use Rattle.queue.proofs.Trail.{covered_passes}
use Rattle.queue.proofs.Agree.{passes≢stops}
use Rattle.model.specs.Answers.{Answer}
use Rattle.model.specs.declared.Action.TheVariants.{Opening, Message, SubLimit}
use Rattle.model.specs.Kinds.{steps, kind_of}
use Rattle.model.specs.State.{payments_at as placed}
use Rattle.model.specs.Calls.{Call, Engine, Result, judge, call}
use Rattle.model.specs.Course.{start, course}
use Rattle.model.specs.Answered.{acted}
use Rattle.model.specs.LeftBehind.{LeftBehind}
use Rattle.model.specs.Promises.{Always, Covered, CoveredBy, TestsByRule}
use Rattle.thm_wrong_engines.specs.Engines.{call_with, call_acting}
use Rattle.thm_wrong_engines.specs.Errors.{walk_by, judging, pooled, credits_cover, payer_walk, payer_test, remembering_payers}
use Rattle.model.proofs.Stories.{asked, says, bank, book, code, dr, cr, pays, request, goes}
use Rattle.thm_wrong_engines.proofs.ShutOut.{deeds, left_by, Refuses, stands_at, leaving_instead, all_emptied, one_list_of_tries, left_one}

-- ---- a batch settles that its payers do not cover each by itself

-- after the calls `cs` the call c settles the batch at place 0, though one of its payers does not cover its part
record Settles (f : Engine → Call → Result) (cs : List Call) (c : Call) : Type 0 where
  moment : judge (course call start (deeds cs)).state c ≡ Ok tt
  passed : passed_of (left_by f cs c).tries ≡ 0 ∷ []
  payer : ℕ
  held : verdict (acted (course call start (deeds cs)) c).books (placed (acted (course call start (deeds cs)) c).batches 0) ≡ Stops payer

first_covered : (batch : ℕ → List Payment) (a v : Accounts) (p : ℕ) (ps : List ℕ) → Trail batch a (p ∷ ps) v → AllCovered a (needs_of (batch p))
first_covered batch a v p ps (pass h t) = h

uncovered_shut_out : (f : Engine → Call → Result) (cs : List Call) (c : Call) → kind_of c.asked.action ≡ steps → Settles f cs c → Always f Covered → ⊥
uncovered_shut_out f cs c k g h =
    let e : Engine = course call start (deeds cs) in
    let r : Result = left_by f cs c in
    let on : CoveredBy (Ok tt) steps e c r =
    subst (λ z. CoveredBy (Ok tt) z e c r) k (subst (λ (j : Answer). CoveredBy j (kind_of c.asked.action) e c r) g.moment (h (deeds cs) c)) in
    let t : Trail (placed (acted e c).batches) (acted e c).books (0 ∷ []) r.engine.state.books =
    subst (λ (l : List ℕ). Trail (placed (acted e c).batches) (acted e c).books l r.engine.state.books) g.passed on in
    passes≢stops (sym (covered_passes (acted e c).books _ (first_covered _ _ _ 0 [] t)) ∙ g.held)

-- AAAA has 100.00, BBBB nothing; each is to pay 50.00 to CCCC
abbrev rich : Call
rich = asked 9 0 0 Opening (book 9895 (bank "AAAA" 10000 0 ∷ bank "BBBB" 0 0 ∷ bank "CCCC" 0 0 ∷ []))

abbrev together : Call
together = says 10 0 0 (request "P1" "PROP0001" "01/01" (dr "AAAA" "50," "AAA " ++ (dr "BBBB" "50," "AAA " ++ (cr "CCCC" "100," ++ bytes ":203:3\r\n"))))

pools : Settles (call_with (judging pooled)) (rich ∷ []) together
unfolding goes course passed_of walk_by
pools = record { moment = refl; passed = refl; payer = 1; held = refl }

-- "Pooling payers' cover."
pub pooling_shut_out : Always (call_with (judging pooled)) Covered → ⊥
pooling_shut_out = uncovered_shut_out (call_with (judging pooled)) (rich ∷ []) together refl pools

-- BBBB, which has nothing, is to pay 50.00 to AAAA
abbrev poor : Call
poor = says 10 0 0 (request "P2" "PROP0001" "01/01" (pays "BBBB" "AAAA" "50," "AAA "))

lends : Settles (call_with (judging credits_cover)) (rich ∷ []) poor
unfolding goes course passed_of walk_by credits
lends = record { moment = refl; passed = refl; payer = 1; held = refl }

-- "Letting a credit cover a debit of its batch."
pub credit_covering_shut_out : Always (call_with (judging credits_cover)) Covered → ⊥
credit_covering_shut_out = uncovered_shut_out (call_with (judging credits_cover)) (rich ∷ []) poor refl lends

-- ---- "Remembering the first payer, not the first uncovered one."

-- the batch of `together` waits for BBBB, its second payer; then the sub-limit of BBBB is changed, which has it tried again
abbrev waits : List Call
waits = rich ∷ together ∷ []

abbrev freed : Call
freed = asked 10 0 1 (SubLimit (code "BBBB") 0) []

record Remembers : Type 0 where
  right : (left_by call waits freed).tries ≡ 0 ∷ []
  wrong : (left_by (call_with remembering_payers) waits freed).tries ≡ []

remembers : Remembers
unfolding goes course payer_walk payer_test
remembers = record { right = refl; wrong = refl }

pub first_payer_shut_out : TestsByRule (call_with remembering_payers) → ⊥
first_payer_shut_out h =
    let z : ◌≡◌ {A = List ℕ} [] (0 ∷ []) =
    sym remembers.wrong ∙ one_list_of_tries (call_with remembering_payers) h (deeds waits) freed ∙ remembers.right in
    let y : ◌≡◌ {A = ℕ} 0 1 = ap count z in
    absurd (omega (arith, y))
  where
    count : List ℕ → ℕ
    count [] = 0
    count (x ∷ xs) = 1

-- ---- "Letting a stranger's message end another administrator's batch."

-- the first of two messages of a batch has come from administrator 5; then a message of sender 6 comes for the same batch
abbrev begun : List Call
begun = rich ∷ says 10 0 0 (request "S1" "PROP0001" "01/02" (pays "AAAA" "CCCC" "50," "AAA ")) ∷ []

abbrev stranger : Call
stranger = asked 10 0 1 (Message 6) (request "S2" "PROP0001" "02/02" (pays "BBBB" "CCCC" "50," "AAA "))

record Strange : Type 0 where
  refuses : Refuses (call_acting (leaving_instead 73 all_emptied)) begun stranger WrongSender
  right : stands_at 0 (left_by call begun stranger) ≡ false
  wrong : stands_at 0 (left_by (call_acting (leaving_instead 73 all_emptied)) begun stranger) ≡ true

strange : Strange
unfolding goes course
strange = record { refuses = record { moment = refl; right = refl; wrong = refl }; right = refl; wrong = refl }

pub stranger_ending_shut_out : Always (call_acting (leaving_instead 73 all_emptied)) LeftBehind → ⊥
stranger_ending_shut_out h =
    false≢true (sym strange.right
    ∙ ap (stands_at 0) (sym (left_one (call_acting (leaving_instead 73 all_emptied)) begun stranger WrongSender h refl strange.refuses))
    ∙ strange.wrong)
