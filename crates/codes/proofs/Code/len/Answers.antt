use mathlib.Core.Path.{◌≡◌, ◌∙◌}
use native.Mathlib.Nat.{zero-add}
use native.Mathlib.Omega.{arith}
use Rattle.codes.specs.Codes.{long_text}
use Rattle.codes.proofs.Laws.{naming_on, naming_stop, naming_end, spelled_length}
use Rattle.codes.proofs.Code.len.Goals as goal

pub loop-i-init : goal.loop-i-init
loop-i-init c = record { inside = omega arith; same = simp zero-add }

pub returns-then-byte-eq0 : goal.returns-then-byte-eq0
unfolding long_text
returns-then-byte-eq0 c = record { value = naming_stop c.loop-i.invariant (rw spelled_length (omega arith)) c.byte.ensures c.if-byte-eq0.true; small = omega arith }

pub loop-i-preserved : goal.loop-i-preserved
loop-i-preserved c =
    naming_on c.loop-i.invariant (rw spelled_length (omega arith)) c.byte.ensures c.if-byte-eq0.false

pub returns : goal.returns
unfolding long_text
returns c =
    let e : 16 ≡ c.loop-i.i = omega arith in
    record { value = e ∙ naming_end c.loop-i.invariant (rw spelled_length (omega arith)); small = omega arith }
