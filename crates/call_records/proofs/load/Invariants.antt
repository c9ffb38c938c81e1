use Prim.Native.Nat.{◌-◌, ◌≤◌}
use mathlib.Core.Path.{◌≡◌}
use mathlib.Core.List.{map}
use lib.ListN.{take}
use Rattle.call_records.specs.declared.Account.{Account}
use Rattle.call_records.proofs.load.Given as goal

abbrev pub invariant-loop-i : goal.invariant-loop-i
invariant-loop-i l = record {
  few : l.i ≤ 64;
  codes : take l.i l.codes ≡ take l.i (map (λ (a : Account). a.code) l.row);
  flags : take l.i l.flags ≡ take l.i (map (λ (a : Account). a.flags) l.row);
  balances : take l.i l.balances ≡ take l.i (map (λ (a : Account). a.balance) l.row);
  sublimits : take l.i l.sublimits ≡ take l.i (map (λ (a : Account). a.sublimit) l.row);
  sheet : take l.i l.sheet ≡ take l.i (map (λ (a : Account). a.waiting) l.row);
}
