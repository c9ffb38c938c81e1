use Rattle.cli_book.proofs.Laws.{gathering_fits, gathering_on, gathering_done}
use Rattle.cli_book.specs.Account.{bits_at}
use mathlib.Core.Path.{refl}
use native.Mathlib.Omega.{arith}
use Rattle.cli_book.proofs.read_bits.Goals as goal

pub loop-i-init : goal.loop-i-init
unfolding bits_at
loop-i-init c = record { few = omega arith; power = refl; small = omega arith; same = refl }

pub add_bit-found-requires : goal.add_bit-found-requires
add_bit-found-requires c = omega (arith, gathering_fits c.loop-i.invariant)

pub overflow_mul-bit : goal.overflow_mul-bit
overflow_mul-bit c = omega (arith, gathering_fits c.loop-i.invariant)

pub loop-i-preserved : goal.loop-i-preserved
loop-i-preserved c = gathering_on c.loop-i.invariant (omega arith) c.add_bit-found.ensures.value c.add_bit-found.ensures.small

pub returns : goal.returns
returns c = record { value = gathering_done c.loop-i.invariant (omega arith); small = omega (arith, gathering_fits c.loop-i.invariant) }
