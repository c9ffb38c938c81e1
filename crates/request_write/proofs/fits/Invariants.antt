use Prim.Native.Nat.{◌-◌}
use mathlib.Core.Path.{◌≡◌}
use lib.Dec.{ltb}
use Rattle.text_scan.specs.Scan.{ten}
use Rattle.request_write.proofs.fits.Given as goal

abbrev pub invariant-loop : goal.invariant-loop
invariant-loop l = ltb l.rest (ten (l.k - l.counter)) ≡ ltb l.v (ten l.k)
