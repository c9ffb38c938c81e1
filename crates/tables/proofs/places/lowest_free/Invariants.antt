use mathlib.Core.Path.{◌≡◌}
use mathlib.Core.List.{map}
use Prim.Native.Nat.{◌≤◌}
use Rattle.model.specs.State.{seek, is_free}
use Rattle.tables.specs.Rows.{place_in, batch_rows}
use Rattle.tables.proofs.RowLaws.{seek_rows}
use Rattle.tables.proofs.places.lowest_free.Given as goal

abbrev pub invariant-loop-place : goal.invariant-loop-place
invariant-loop-place l = (l.place ≤ 32) × (seek is_free (map place_in (batch_rows l.batches)) ≡ seek_rows place_in is_free 349 32 l.place l.batches)
