use Rattle.tables.proofs.RowLaws.{seek_rows}
use Rattle.tables.specs.Rows.{place_in, batch_rows}
use mathlib.Core.List.{map}
use Rattle.model.specs.State.{seek, has_bin}
use Prim.Native.Nat.{◌≤◌}
use mathlib.Core.Path.{◌≡◌}
use Rattle.tables.proofs.places.batch_of.Given as goal

abbrev pub invariant-loop-place : goal.invariant-loop-place
invariant-loop-place l = (l.place ≤ 32) × (seek (has_bin l.bin) (map place_in (batch_rows l.batches)) ≡ seek_rows place_in (has_bin l.bin) 349 32 l.place l.batches)
