-- A batch with one message more.
use Rattle.std.specs.Prelude.{[], ◌∷◌, ◌++◌}
use Rattle.model.specs.State.{Message, Batch}

-- messages stand in the order of their arrival
unfoldable pub with_one : Batch → Message → Batch
with_one b m = record { bin = b.bin; count = b.count; activation = b.activation; messages = b.messages ++ (m ∷ []) }
