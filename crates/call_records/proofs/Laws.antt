-- An account is held where its code, its flags and its money are in range.
use Rattle.std.specs.Prelude.{Result, Ok, Err}
use mathlib.Core.Path.{◌≡◌}
use Prim.Native.Nat.{ℕ, ◌≤◌}
use borrow.Author.Tests.{le-leb}
use Rattle.chars.specs.declared.Refusal.{Refusal}
use Rattle.settle.specs.declared.Bank.{Bank}
use Rattle.settle.specs.Types.{bank_or}
use Rattle.call_records.specs.Records.{account_or}

module _ (code flags balance sublimit : ℕ) {money : Result Bank Refusal} (p : code ≤ 4294967295) (q : flags ≤ 511) (e : money ≡ bank_or balance sublimit) where
  pub new_held : {b : Bank} → money ≡ Ok b → Ok (record { code = code; flags = flags; balance = b.balance; sublimit = b.sublimit; waiting = 0 }) ≡ account_or code flags balance sublimit
  new_held f = rw (le-leb _ _ p, le-leb _ _ q, ← e, f)

  pub new_beyond : {r : Refusal} → money ≡ Err r → Err r ≡ account_or code flags balance sublimit
  new_beyond f = rw (le-leb _ _ p, le-leb _ _ q, ← e, f)
