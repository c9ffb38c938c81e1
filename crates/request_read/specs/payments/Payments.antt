-- "127, 32B, 113, 102: one payment, 1 to 10 times"
use Rattle.std.specs.Prelude.{ℕ, zero, suc, ◌+◌, List, Bool, cond, set, replicate, eqb, Result, Ok, Err}
use Rattle.chars.specs.Words.{bytes}
use Rattle.text_scan.specs.Scan.{on_next, lit_at}
use Rattle.text_scan.specs.declared.Cursor.{Cursor}
use Rattle.text_values.specs.Values.{stands}
use Rattle.text_fields.specs.Fields.{absent, wrong, nothing, place, on_good, field_at}
use Rattle.text_fields.specs.declared.Break.{Break}
use Rattle.text_fields.specs.declared.Item.{Item}
use Rattle.text_fields.specs.declared.Kind.TheVariants.{Word, Side, Amount, Letters}
use Rattle.request_read.specs.declared.payments.Payment.{Payment}
use Rattle.request_read.specs.declared.payments.Payments.{Payments}

abbrev pub payment : Item → Item → Item → Item → Payment
payment side amount letters bank = record { side = side; amount = amount; letters = letters; bank = bank }

-- at a place that holds none
abbrev pub no_payment : Payment
no_payment = payment nothing nothing nothing nothing

-- "102 is a bank, 4 of A-Z 0-9."
unfoldable pub bank_at : List ℕ → ℕ → Item → Item → Item → Result (Payment × Cursor) Break
bank_at s at side amount letters =
    on_good (field_at s at (bytes ":102:") (Word 4)) Err (λ bank c.
    Ok (payment side amount letters bank, c))

-- "113 stands after DR and never after CR": a 113 after CR is a wrong value
unfoldable pub credit_at : List ℕ → ℕ → Item → Item → Result (Payment × Cursor) Break
credit_at s at side amount =
    on_next (lit_at s at (bytes ":113:")) (bank_at s at side amount nothing) (λ a. Err (wrong at))

unfoldable pub debit_at : List ℕ → ℕ → Item → Item → Result (Payment × Cursor) Break
debit_at s at side amount =
    on_good (field_at s at (bytes ":113:") Letters) Err (λ letters c.
    bank_at s c.at side amount letters)

unfoldable pub payment_at : List ℕ → ℕ → Result (Payment × Cursor) Break
payment_at s at =
    on_good (field_at s at (bytes ":127:") Side) Err (λ side c.
    on_good (field_at s c.at (bytes ":32B:") Amount) Err (λ amount d.
    cond (eqb side.number 0) (credit_at s d.at side amount) (debit_at s d.at side amount)))

-- 113 of a side: a credit has no letters
unfoldable pub status_at : List ℕ → ℕ → Item → Result (Item × Cursor) Break
status_at s at side =
    cond (eqb side.number 0)
    (on_next (lit_at s at (bytes ":113:")) (Ok (nothing, place at)) (λ a. Err (wrong at)))
    (field_at s at (bytes ":113:") Letters)

-- a further payment begins
unfoldable pub more_at : List ℕ → ℕ → Bool
more_at s at = stands (lit_at s at (bytes ":127:"))

abbrev pub why_unpaid : Result (Payment × Cursor) Break → Break
why_unpaid (Ok (p, c)) = absent 0
why_unpaid (Err b) = b

abbrev pub on_paid : {A : Type 0} → Result (Payment × Cursor) Break → (Break → A) → (Payment → Cursor → A) → A
on_paid (Ok (p, c)) d k = k p c
on_paid (Err b) d k = d b

abbrev pub none : List Payment
none = replicate 10 no_payment

abbrev pub ended : Result Cursor Break → ℕ → List Payment → Payments
ended e n items = record { ending = e; n = n; items = items }

-- with n payments in the list so far, at a place, and room for as many more as the first number says
unfoldable pub payments_on : ℕ → List ℕ → ℕ → ℕ → List Payment → Payments
payments_on zero s at n items = ended (Ok (place at)) n items
payments_on (suc room) s at n items =
    on_paid (payment_at s at) (λ b. ended (Err b) n items) (λ p c.
    cond (more_at s c.at)
    (payments_on room s c.at (n + 1) (set items n p))
    (ended (Ok (place c.at)) (n + 1) (set items n p)))

unfoldable pub payments_at : List ℕ → ℕ → Payments
payments_at s at = payments_on 10 s at 0 none
