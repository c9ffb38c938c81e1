use native.Mathlib.Omega.{arith}
use Rattle.c_engine.proofs.Laws.{call_banks}
use Rattle.c_engine.proofs.call_banks.Goals as goal

pub save-requires : goal.save-requires
save-requires c = record {
  banks_len = c.requires;
  lengths = record {
    codes_long = omega (arith, c.call-told.auto.codes, c.load.auto.codes);
    flags_long = omega (arith, c.call-told.auto.flags, c.load.auto.flags);
    balances_long = omega (arith, c.call-told.auto.balances, c.load.auto.balances);
    sublimits_long = omega (arith, c.call-told.auto.sublimits, c.load.auto.sublimits);
  };
  sheet_len = omega (arith, c.call-told.auto.sheet, c.load.auto.sheet);
}

pub returns : goal.returns
returns c =
    call_banks _ _ _ _ _ _ _ _ _ _ _ _ _ _ _ _ _ _ _ _ _ _ _ _ _ _ _ _
    c.load.ensures
    c.call-told.ensures
    c.save.ensures
