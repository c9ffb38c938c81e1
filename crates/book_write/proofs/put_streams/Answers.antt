use mathlib.Core.Path.{refl}
use native.Mathlib.Omega.{arith}
use Prim.Native.Nat.{◌+◌, ◌*◌, ◌-◌}
use Rattle.book_write.specs.Closing.{stream_bytes}
use Rattle.book_write.proofs.Storing.{storing_each, storing_entry, storing_done, joined_none, stream_length}
use Rattle.book_write.proofs.put_streams.Goals as goal

pub loop-i-init : goal.loop-i-init
loop-i-init c = (omega arith, storing_each stream_bytes _ _ 16 0 c.args.n 16 0 (c.args.n - 0) refl refl (omega arith))

pub loop-i-preserved : goal.loop-i-preserved
loop-i-preserved c =
    let i = c.loop-i.i in
    let n = c.args.n in (
      omega arith,
      storing_entry stream_bytes _ 8 stream_length (16 + 8 * i) i (n - i) (16 + 8 * (i + 1)) (i + 1) (n - (i + 1))
          c.loop-i.invariant.1 (omega arith) c.put_stream.ensures (omega arith) refl (omega arith),
    )

pub shape_of-out : goal.shape_of-out
shape_of-out c = c.loop-i.invariant.1.size

pub returns : goal.returns
returns c = storing_done c.loop-i.invariant.1 (joined_none stream_bytes _ c.loop-i.i (c.args.n - c.loop-i.i) (omega arith))
