use native.Mathlib.Omega.{arith}
use Prim.Native.Nat.{◌+◌, ◌-◌}
use mathlib.Core.Path.{◌≡◌}
use Rattle.text_scan.specs.Scan.{most}
use Rattle.text_scan.proofs.Laws.{going_start, digit_stop, digit_room, digit_on, digit_end, most_18, digits_window}
use Rattle.text_scan.proofs.digits.Goals as goal

pub loop-i-init : goal.loop-i-init
loop-i-init c =
    let m = most c.args.max in
    let y : c.args.at + 0 ≡ c.args.at = omega arith in
    let z : m - 0 ≡ m = omega arith in
    rw (y, z) (going_start c.args.s.now c.args.at m)

pub returns-then-not-is_digit : goal.returns-then-not-is_digit
returns-then-not-is_digit c =
    let a = c.args in
    let w = digits_window a.s.now a.at a.max c.window-here.ensures c.min.ensures in
    let t = digit_stop a.s.now a.at (most a.max) w c.loop-i.invariant c.loop-i-test.true c.if-not-is_digit.ensures in
    record { value = t.0; small = t.1 }

pub overflow_mul-v : goal.overflow_mul-v
overflow_mul-v c =
    let a = c.args in
    let w = digits_window a.s.now a.at a.max c.window-here.ensures c.min.ensures in
    omega (arith, digit_room a.s.now a.at (most a.max) w c.loop-i.invariant c.loop-i-test.true (most_18 c.args.max))

pub overflow_add-v : goal.overflow_add-v
overflow_add-v c =
    let a = c.args in
    let w = digits_window a.s.now a.at a.max c.window-here.ensures c.min.ensures in
    omega (arith, digit_room a.s.now a.at (most a.max) w c.loop-i.invariant c.loop-i-test.true (most_18 c.args.max))

pub loop-i-preserved : goal.loop-i-preserved
loop-i-preserved c =
    let a = c.args in
    let w = digits_window a.s.now a.at a.max c.window-here.ensures c.min.ensures in
    digit_on a.s.now a.at (most a.max) w c.loop-i.invariant c.loop-i-test.true c.if-not-is_digit.ensures c.digit_value.ensures.value c.digit_value.ensures.small

pub returns : goal.returns
returns c =
    let a = c.args in
    let w = digits_window a.s.now a.at a.max c.window-here.ensures c.min.ensures in
    let t = digit_end a.s.now a.at (most a.max) w c.loop-i.invariant (omega arith) in
    record { value = t.0; small = t.1 }
