use Prim.Native.Nat.{◌<◌}
use lib.ListN.{length}
use native.Mathlib.Omega.{arith}
use borrow.Author.Rules.{rules}
use Rattle.settle_records.proofs.PaymentLaws.{inside_row, bears, stored_one}
use Rattle.settle_records.proofs.pay.Goals as goal

pub offset_bounds-row-bank : goal.offset_bounds-row-bank
offset_bounds-row-bank c = let h : c.args.bank < length c.args.row.now = inside_row _ _ _ _ c.requires in search rules

pub bounds-row-bank : goal.bounds-row-bank
bounds-row-bank c = inside_row _ _ _ _ c.requires

pub balance_after-requires : goal.balance_after-requires
balance_after-requires c = bears _ _ _ _ c.requires

pub offset_bounds-row-bank-2 : goal.offset_bounds-row-bank-2
offset_bounds-row-bank-2 c = let h : c.args.bank < length c.args.row.now = inside_row _ _ _ _ c.requires in search rules

pub bounds-row-bank-2 : goal.bounds-row-bank-2
bounds-row-bank-2 c = inside_row _ _ _ _ c.requires

pub returns : goal.returns
returns c = stored_one _ _ _ _ _ c.balance_after.ensures
