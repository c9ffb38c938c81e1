-- What a message's action leaves in the rows and in the remembered entries.
use Rattle.std.specs.Prelude.{ℕ, ◌<◌, ◌≡◌, List}
use Rattle.model.specs.Answers.{Answer}
use Rattle.model.specs.State.{Known}
use Rattle.model.specs.Messages.{Acted}
use Rattle.tables.specs.Rows.{entries_in}
use Rattle.call_plan.specs.declared.plan.Plan.{Plan}
use Rattle.call_plan.specs.declared.plan.Plan.TheVariants.{Untouched, Rejects, Alone, Comes, Begins, RecallsNone, Recalls}
use Rattle.call_message.specs.outcome.Doing.{InRows}

abbrev pub known_in : (references bins : List ℕ) → Known
known_in references bins = record { references = entries_in 2048 references; bins = entries_in 512 bins }

-- the places of a plan's entries are places of the tables
abbrev pub Within : Plan → Type 0
Within (Untouched f) = Unit {0}
Within (Rejects p f) = Unit {0}
Within (Alone q) = q < 2048
Within (Comes p i q) = q < 2048
Within (Begins p i q j) = (q < 2048) × (j < 512)
Within (RecallsNone q) = q < 2048
Within (Recalls p q) = q < 2048

-- the tables say what is known
pub record Noted (k : Known) (rs bs : List ℕ) : Type 0 where
  pub references : entries_in 2048 rs ≡ k.references
  pub bins : entries_in 512 bs ≡ k.bins

-- what the model's action leaves stands in the rows, in the memory, in the buffer and in the entries
pub record Received (a : Acted) (m out : List ℕ) (texts : ℕ) (answer : Answer) (t q : List ℕ) (nq : ℕ) (w : List ℕ) (nw : ℕ) (m' out' : List ℕ) (to texts' : ℕ) (rs bs : List ℕ) : Type 0 where
  pub rows : InRows a m out 0 texts answer t q nq w nw m' out' to texts'
  pub known : Noted a.known rs bs
