-- What one payment adds to a batch's credits and to its debits.
use Rattle.std.specs.Prelude.{ℕ}
use Rattle.settle.specs.Payments.{Payment, credit, debit}

unfoldable pub credit_of : Payment → ℕ
credit_of (credit k c) = c
credit_of (debit l k c) = 0

unfoldable pub debit_of : Payment → ℕ
debit_of (credit k c) = 0
debit_of (debit l k c) = c
