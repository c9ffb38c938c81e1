-- What a sub-limit change and a status change find and leave.
use Rattle.std.specs.Prelude.{ℕ, ◌<◌, ◌≡◌, cond, List, [], get_or}
use Rattle.codes.specs.declared.Code.{Code}
use Rattle.settle.specs.Settlement.{accounts}
use Rattle.model.specs.Answers.{Answer}
use Rattle.model.specs.State.{Found, at, nowhere, on_found, Batches, State, payments_at}
use Rattle.model.specs.Messages.{Acted, waiting}
use Rattle.model.specs.Changes.{has_debit}
use Rattle.model.specs.Calls.{woken}
use Rattle.tables.specs.Rows.{word, batch_rows}
use Rattle.call_plan.specs.rules.Steps.{Counted}

-- what a change leaves stands in the batches b, in the sub-limits and in the memory; all else is as it was, and there is no text
pub record Changed (s : State) (a : Acted) (answer : Answer) (b : Batches) (sublimits m m' : List ℕ) : Type 0 where
  pub answered : answer ≡ a.answer
  pub batches : b ≡ a.batches
  pub books : accounts s.books.balances sublimits ≡ a.books
  pub known : a.known ≡ s.known
  pub replies : a.replies ≡ []
  pub memory : m' ≡ woken a.wakes m

-- the payments of each live row are a hundred at the most, one behind the other
abbrev pub AllCounted : List ℕ → Type 0
AllCounted t = (p : ℕ) → p < 32 → (word (get_or (batch_rows t) p []) 0 ≡ 0 → ⊥) → Counted (get_or (batch_rows t) p [])

-- "pending or queued batch of that BIN with a debit of that bank"
unfoldable pub debit_on : Batches → (bank : ℕ) → Code → Found
debit_on b k bin = on_found (waiting b bin) nowhere (λ p. cond (has_debit k (payments_at b p)) (at p) nowhere)
