use Rattle.call_plan.proofs.entries.Laws.{so_far}
use Rattle.tables.proofs.MemoryLaws.{used_rows}
use Rattle.tables.specs.Rows.{entries_in}
use Rattle.model.specs.Memory.{is_used, vacant}
use mathlib.Core.Path.{◌≡◌}
use Rattle.call_plan.proofs.entries.look.Given as goal

abbrev pub invariant-loop-i : goal.invariant-loop-i
invariant-loop-i l = (is_used l.today l.code (entries_in l.n l.entries) ≡ used_rows l.today l.code l.n l.i l.entries) × (vacant l.today (entries_in l.n l.entries) ≡ so_far l.today l.n l.i l.found l.entries)
