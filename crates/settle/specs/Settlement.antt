-- When a batch passes, and what its settlement does.
use Rattle.std.specs.Prelude.{ℕ, ◌+◌, ◌-◌, Bool, false, not, cond, List, [], ◌∷◌, get_or, set}
use Rattle.settle.specs.Cover.{covered}
use Rattle.settle.specs.Payments.{Payment, credit, debit, Need, needs_of}
use Rattle.settle.specs.declared.Verdict.{Verdict}
use Rattle.settle.specs.declared.Verdict.TheVariants.{Passes, Stops}

-- the banks' balances and sub-limits, by bank place
pub record Accounts : Type 0 where
  pub balances : List ℕ
  pub sublimits : List ℕ

abbrev pub accounts : List ℕ → List ℕ → Accounts
accounts b l = record { balances = b; sublimits = l }

-- each account is judged on its own
abbrev pub is_covered : Accounts → Need → Bool
is_covered a n = covered n.letters (get_or a.balances n.bank 0) (get_or a.sublimits n.bank 0) n.cents

-- "A batch passes exactly when each debit is covered by its own bank"; else "the bank of the first uncovered debit"
unfoldable pub first_uncovered : Accounts → List Need → Verdict
first_uncovered a [] = Passes
first_uncovered a (n ∷ ns) = cond (is_covered a n) (first_uncovered a ns) (Stops n.bank)

-- the verdict on a batch
abbrev pub verdict : Accounts → List Payment → Verdict
verdict a ps = first_uncovered a (needs_of ps)

-- whether a payment is an uncovered debit
unfoldable pub uncovered : Accounts → Payment → Bool
uncovered a (credit k c) = false
uncovered a (debit l k c) = not (is_covered a (record { letters = l; bank = k; cents = c }))

-- "It then settles at once, all payments."
unfoldable pub paid : List ℕ → Payment → List ℕ
paid b (credit k c) = set b k (get_or b k 0 + c)
paid b (debit l k c) = set b k (get_or b k 0 - c)

unfoldable pub settled : List ℕ → List Payment → List ℕ
settled b [] = b
settled b (p ∷ ps) = settled (paid b p) ps
