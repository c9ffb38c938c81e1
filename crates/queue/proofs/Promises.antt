-- What is promised of the queue: theorems 1 to 5, and the marked examples 12 and 13.
-- The code's two tests leave what `plain_test` and `quick_test` leave (their contracts), so each theorem here is one of the code.
use mathlib.Core.Path.{◌≡◌, refl, sym, ap, ◌∙◌}
use mathlib.Core.Logic.{◌↔◌}
use mathlib.Core.Bool.{Bool, true, false, false≢true}
use mathlib.Core.List.{List, [], ◌∷◌, map}
use Prim.Native.Nat.{ℕ, zero, suc, ◌+◌, ◌≤◌, ◌<◌}
use native.Mathlib.Omega.{arith}
use lib.ListN.{length, get_or, take, replicate}
use Rattle.chars.specs.Words.{bytes}
use Rattle.settle.specs.Cover.{covered}
use Rattle.settle.specs.Payments.{Payment, credit, debit, row_payments, needs_of}
use Rattle.settle.specs.Settlement.{Accounts, accounts, first_uncovered, verdict, paid, settled}
use Rattle.settle.specs.Rules.{sum, Books}
use Rattle.settle.specs.declared.Verdict.TheVariants.{Passes}
use Rattle.settle.proofs.Money.{at_most_sum}
use Rattle.settle.proofs.Examples.{lettered}
use Rattle.queue.specs.Memory.{wake, credited, credited_by}
use Rattle.queue.specs.Tests.{Outcome, seen, passed_of, some, again, omits, remember, tried, turn, walk, test, fuel, plain_test, quick_test}
use Rattle.queue.specs.Rows.{AllGood, most, Tested}
use Rattle.queue.specs.Promise.{True, Named, AllCovered, Trail, All, Stuck, Fair, brought_by, taken_by}
use Rattle.queue.specs.History.{Event, replay, Tries}
use Rattle.queue.proofs.RunLaws.{most_le}
use Rattle.queue.proofs.Agree.{true_test, tests_agree}
use Rattle.queue.proofs.Named.{test_named}
use Rattle.queue.proofs.Trail.{passes_covered, covered_passes, test_trail, test_stuck, test_tries, test_passed, test_each, quick_tries_no_more}
use Rattle.queue.proofs.Balances.{trail_sum, trail_total, trail_books}
use Rattle.queue.proofs.History.{test_told}

-- ---- 1. Plain and quick settle the same batches in the same order and leave the same balances and the same queue

pub plain_and_quick_agree : (batch : ℕ → List Payment) (a : Accounts) (m q : List ℕ) → True batch a m → seen (plain_test batch a m q) ≡ seen (quick_test batch a m q)
plain_and_quick_agree batch a m q h = tests_agree batch false true (fuel q) a m m q (λ e. h) (λ e. h)

-- both keep the memory true
pub memory_stays_true : (quick : Bool) (batch : ℕ → List Payment) (a : Accounts) (m q : List ℕ) → True batch a m
    → True batch (test quick batch (fuel q) a m q).books (test quick batch (fuel q) a m q).memory
memory_stays_true quick batch a m q h = true_test batch quick (fuel q) a m q h

-- and in any memory, true or not, what they remember is a bank with a debit in that batch
pub memory_names_payers : (quick : Bool) (batch : ℕ → List Payment) (a : Accounts) (m q : List ℕ) → Named batch m → Named batch (test quick batch (fuel q) a m q).memory
memory_names_payers quick batch a m q h = test_named quick batch (fuel q) a m q h

-- a fresh memory is true
abbrev pub fresh : List ℕ
fresh = replicate 32 0

zeros : (n p : ℕ) → ◌≡◌ {A = ℕ} (get_or (replicate n 0) p 0) 0
zeros zero p = refl
zeros (suc n) zero = refl
zeros (suc n) (suc p) = zeros n p

pub fresh_none : (p : ℕ) → get_or fresh p 0 ≡ 0
fresh_none p = zeros 32 p

pub fresh_true : (batch : ℕ → List Payment) (a : Accounts) → True batch a fresh
fresh_true batch a p = rw (fresh_none p) tt

-- ---- 2. A later try is omitted exactly if, since the batch's last try in the quick list, the remembered bank has had no credit settled,
-- no accepted sub-limit change, and the batch no accepted status change

-- where the memory is what the history `es` has left of a fresh one, the tries are those of the rule; the plain test tries each on every walk
pub tries_by_rule : (quick : Bool) (batch : ℕ → List Payment) (a : Accounts) (es : List Event) (q : List ℕ) → All (λ p. p < 32) q
    → Tries quick batch es a [] q false (test quick batch (fuel q) a (replay es fresh) q).tries (test quick batch (fuel q) a (replay es fresh) q).books (test quick batch (fuel q) a (replay es fresh) q).queue
tries_by_rule quick batch a es q l = test_told quick batch fresh fresh_none (fuel q) a (replay es fresh) es q (omega arith) refl l

-- ---- 3. After either test no queued batch would pass

pub none_would_pass_plain : (batch : ℕ → List Payment) (a : Accounts) (m q : List ℕ) → Stuck batch (plain_test batch a m q).books (plain_test batch a m q).queue
none_would_pass_plain batch a m q = test_stuck false batch (fuel q) a m q (λ e. absurd (false≢true e)) (omega arith)

pub none_would_pass_quick : (batch : ℕ → List Payment) (a : Accounts) (m q : List ℕ) → True batch a m → Stuck batch (quick_test batch a m q).books (quick_test batch a m q).queue
none_would_pass_quick batch a m q h = test_stuck true batch (fuel q) a m q (λ e. h) (omega arith)

-- ---- 4. Every payer of a settled batch covered its own payment by the rule for its status, on the balances just before that batch

pub passes_exactly : (a : Accounts) (ps : List Payment) → (verdict a ps ≡ Passes) ↔ AllCovered a (needs_of ps)
passes_exactly a ps = (passes_covered a (needs_of ps), covered_passes a (needs_of ps))

pub payers_covered : (quick : Bool) (batch : ℕ → List Payment) (a : Accounts) (m q : List ℕ)
    → Trail batch a (test quick batch (fuel q) a m q).done (test quick batch (fuel q) a m q).books
payers_covered quick batch a m q = test_trail quick batch (fuel q) a m q

-- ---- 5. Each balance is the opening balance plus credits less debits of the batches settled; the total never changes; no balance leaves its range

module _ (quick : Bool) (batch : ℕ → List Payment) (a : Accounts) (m q : List ℕ) (rules : All (λ p. Fair (batch p)) q) where
  gone_fair : All (λ p. Fair (batch p)) (test quick batch (fuel q) a m q).done
  gone_fair = (test_each quick batch (λ p. Fair (batch p)) (fuel q) a m q rules).gone

  pub balances_follow : (k : ℕ) → k < length a.balances
      → get_or (test quick batch (fuel q) a m q).books.balances k 0 + taken_by k (map batch (test quick batch (fuel q) a m q).done)
      ≡ get_or a.balances k 0 + brought_by k (map batch (test quick batch (fuel q) a m q).done)
  balances_follow k h = trail_sum gone_fair k h (payers_covered quick batch a m q)

  pub total_never_changes : Books a.balances a.sublimits → sum (test quick batch (fuel q) a m q).books.balances ≡ sum a.balances
  total_never_changes b = trail_total gone_fair b (payers_covered quick batch a m q)

  pub books_stay : Books a.balances a.sublimits → Books (test quick batch (fuel q) a m q).books.balances (test quick batch (fuel q) a m q).books.sublimits
  books_stay b = trail_books gone_fair b (payers_covered quick batch a m q)

  pub balances_in_range : Books a.balances a.sublimits → (k : ℕ) → get_or (test quick batch (fuel q) a m q).books.balances k 0 ≤ 6400000000000000
  balances_in_range b k = omega (arith, (books_stay b).bounded, at_most_sum (test quick batch (fuel q) a m q).books.balances k)

-- batches in the table that keep its rules are such
pub rows_fair : (t q : List ℕ) → AllGood t q → All (λ p. Fair (row_payments t p)) q
unfolding AllGood
rows_fair t [] g = tt
rows_fair t (p ∷ q) g = (record { ranged = g.0.ranged; distinct = g.0.distinct; even = g.0.even }, rows_fair t q g.1)

-- ---- a test's contract leaves one outcome: accounts, memory, waiting places, tries

pub outcome_is_one : {o : Outcome} {l q : List ℕ} {n : ℕ} {r : List ℕ} {k : ℕ} {b₁ m₁ q₁ r₁ b₂ m₂ q₂ r₂ : List ℕ} {w₁ k₁ w₂ k₂ : ℕ}
    → Tested o l q n r k b₁ m₁ q₁ w₁ r₁ k₁ → Tested o l q n r k b₂ m₂ q₂ w₂ r₂ k₂
    → (b₁ ≡ b₂) × (m₁ ≡ m₂) × (take w₁ q₁ ≡ take w₂ q₂) × (w₁ ≡ w₂) × (r₁ ≡ r₂) × (k₁ ≡ k₂)
outcome_is_one x y =
    (ap (λ (a : Accounts). a.balances) (x.books ∙ sym y.books), x.memory ∙ sym y.memory, x.queue ∙ sym y.queue, x.kept ∙ sym y.kept, x.row ∙ sym y.row, x.tries ∙ sym y.tries)

-- ---- the quick test tries no more than the plain one

pub quick_does_no_more : (batch : ℕ → List Payment) (a : Accounts) (m q : List ℕ) → True batch a m → length (quick_test batch a m q).tries ≤ length (plain_test batch a m q).tries
quick_does_no_more batch a m q h = quick_tries_no_more batch (fuel q) a m m q h

-- ---- the row of tries: at most 528 for 32 batches, and the settled places are those of the tries that passed

pub most_below : (n : ℕ) → n ≤ 32 → most n ≤ 528
unfolding most
most_below n h = most_le n 32 h

pub tries_fit : (quick : Bool) (batch : ℕ → List Payment) (a : Accounts) (m q : List ℕ) → length q ≤ 32 → length (test quick batch (fuel q) a m q).tries ≤ 528
tries_fit quick batch a m q h = omega (arith, test_tries quick batch (fuel q) a m q, most_below (length q) h)

pub settled_are_passes : (quick : Bool) (batch : ℕ → List Payment) (a : Accounts) (m q : List ℕ) → passed_of (test quick batch (fuel q) a m q).tries ≡ (test quick batch (fuel q) a m q).done
settled_are_passes quick batch a m q = test_passed quick batch (fuel q) a m q

-- ---- Marked examples 12 and 13: AAAA, BBBB and CCCC are banks 0, 1 and 2, the batches Q1 and Q2 stand at places 0 and 1

abbrev all_a : ℕ
all_a = lettered (bytes "AAA ")

abbrev pays : (payer payee cents : ℕ) → List Payment
pays payer payee cents = debit all_a payer cents ∷ credit payee cents ∷ []

abbrev opening : Accounts
opening = accounts (0 ∷ 50 ∷ 0 ∷ []) (0 ∷ 0 ∷ 0 ∷ [])

abbrev of : List Payment → List Payment → ℕ → List Payment
of q1 q2 p = get_or (q1 ∷ q2 ∷ []) p []

pub example_12 : ((plain_test (of (pays 0 1 50) (pays 1 0 50)) opening fresh (0 ∷ 1 ∷ [])).tries ≡ 0 ∷ 3 ∷ 1 ∷ [])
    × ((quick_test (of (pays 0 1 50) (pays 1 0 50)) opening fresh (0 ∷ 1 ∷ [])).tries ≡ 0 ∷ 3 ∷ 1 ∷ [])
unfolding test walk turn tried omits remember some again wake credited credited_by first_uncovered needs_of covered settled paid
example_12 = (refl, refl)

pub example_13 : ((quick_test (of (pays 0 1 10) (pays 1 2 50)) opening fresh (0 ∷ 1 ∷ [])).tries ≡ 0 ∷ 3 ∷ [])
    × ((plain_test (of (pays 0 1 10) (pays 1 2 50)) opening fresh (0 ∷ 1 ∷ [])).tries ≡ 0 ∷ 3 ∷ 0 ∷ [])
unfolding test walk turn tried omits remember some again wake credited credited_by first_uncovered needs_of covered settled paid
example_13 = (refl, refl)
