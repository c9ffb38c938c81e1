use mathlib.Core.Path.{◌≡◌}
use lib.ListN.{length}
use Rattle.tables_as_row.specs.RowWords.{row_words}
use Rattle.run_rules.proofs.run.Given as goal

abbrev pub invariant-loop-line : goal.invariant-loop-line
invariant-loop-line l = length l.words ≡ row_words
