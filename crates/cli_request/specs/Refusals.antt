-- The line of an account that says what a line of its text says: "accepted", "reference", "stream", "bin", "message", "date", "activation", then a line for each payment.
use Rattle.std.specs.Prelude.{ℕ, zero, suc, ◌+◌, cond, List, [], ◌∷◌, eqb, leb, ltb, get_or}
use Rattle.request_read.specs.declared.terms.Activation.{Activation}
use Rattle.request_read.specs.declared.terms.Activation.TheVariants.{AtOnce, Minute}
use Rattle.request_write.specs.Orders.{no_payable}
use Rattle.request_write.specs.declared.Order.{Order}
use Rattle.request_write.specs.declared.Payable.{Payable}
use Rattle.request_write.specs.declared.Side.{Side}
use Rattle.request_write.specs.declared.Side.TheVariants.{Credit, Debit}

-- "127, 32B, 113, 102": "113 stands after DR and never after CR"
abbrev pub lines_of : Side → ℕ
lines_of Credit = 3
lines_of (Debit letters) = 4

-- the payment that has a line, of n of them, from the k-th on, whose lines begin at line `from`; the one after them for a line behind them all
unfoldable pub payment_from : ℕ → List Payable → (n k from line : ℕ) → ℕ
payment_from zero ps n k from line = k
payment_from (suc room) ps n k from line =
    cond (leb n k) k
    (cond (ltb line (from + lines_of (get_or ps k no_payable).side)) k
    (payment_from room ps n (k + 1) (from + lines_of (get_or ps k no_payable).side) line))

unfoldable pub payment_of : List Payable → (n from line : ℕ) → ℕ
payment_of ps n from line = payment_from 10 ps n 0 from line

-- 20, 12, 77E, 22A, 119, 16A and 171 are a text's lines 1 to 7
abbrev pub heads : List ℕ
heads = 1 ∷ 2 ∷ 1 ∷ 3 ∷ 3 ∷ 4 ∷ 5 ∷ 6 ∷ []

-- then 175, where it stands, and the payments; 203 is told with the line after the last payment
abbrev pub behind_head : Activation → Order → ℕ → ℕ
behind_head AtOnce o line = 8 + payment_of o.payments o.n 8 line
behind_head (Minute m) o line = cond (eqb line 8) 7 (8 + payment_of o.payments o.n 9 line)

unfoldable pub account_line : Order → ℕ → ℕ
account_line o line = cond (ltb line 8) (get_or heads line 0) (behind_head o.activation o line)
