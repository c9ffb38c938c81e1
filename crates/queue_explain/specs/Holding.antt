-- Why a queued batch has not settled: "the bank that the queue test would stop at, on the balances as they stand".
use Rattle.std.specs.Prelude.{ℕ, ◌+◌, ◌-◌, ◌*◌, min, ◌&&◌, cond, List, [], ◌∷◌, eqb, leb, ltb, get_or}
use Rattle.chars.specs.Words.{bytes, member}
use Rattle.settle.specs.Cover.{esa}
use Rattle.settle.specs.Payments.{Need, needs_of, how_many, row_payments}
use Rattle.settle.specs.Settlement.{Accounts, is_covered}
use Rattle.settle.specs.declared.Verdict.{Verdict}
use Rattle.settle.specs.declared.Verdict.TheVariants.{Passes, Stops}
use Rattle.queue_explain.specs.declared.Debit.{Debit}
use Rattle.queue_explain.specs.declared.Held.{Held}
use Rattle.queue_explain.specs.declared.Held.TheVariants.{Short, Deferred, Free, Unqueued}

-- the greatest number of a word
abbrev pub word_most : ℕ
word_most = 18446744073709551615

-- "what the balance lacks for this debit to be covered", as far as a word can tell it
unfoldable pub short_of : (cents sublimit balance : ℕ) → ℕ
short_of cents sublimit balance = min (cents + sublimit - balance) word_most

-- the three words of a payment as a debit
abbrev pub need_at : List ℕ → ℕ → Need
need_at t at = record { letters = get_or t (at + 2) 0; bank = get_or t at 0; cents = get_or t (at + 1) 0 }

abbrev pub debit_of : Need → Debit
debit_of n = record { bank = n.bank; letter = esa n.letters; cents = n.cents }

abbrev pub balance_of : Accounts → Need → ℕ
balance_of a n = get_or a.balances n.bank 0

abbrev pub sublimit_of : Accounts → Need → ℕ
sublimit_of a n = get_or a.sublimits n.bank 0

-- how an uncovered debit holds its batch: P wants its cents, A and a space the sub-limit besides, D is never covered
unfoldable pub holds : Accounts → Need → Held
holds a n =
    cond (member (esa n.letters) (bytes "P")) (Short (debit_of n) (short_of n.cents 0 (balance_of a n)))
    (cond (member (esa n.letters) (bytes " A")) (Short (debit_of n) (short_of n.cents (sublimit_of a n) (balance_of a n)))
    (Deferred (debit_of n)))

-- "the first uncovered debit"
unfoldable pub held_by : Accounts → List Need → Held
held_by a [] = Free
held_by a (n ∷ ns) = cond (is_covered a n) (held_by a ns) (holds a n)

-- the batch at a place, if it is queued
unfoldable pub held_at : Accounts → List ℕ → ℕ → Held
held_at a t place =
    cond (ltb place 32 && (eqb (get_or t (place * 349) 0) 3 && leb (how_many t place) 100))
    (held_by a (needs_of (row_payments t place)))
    Unqueued

-- what a try of the batch finds
abbrev pub verdict_of : Held → Verdict
verdict_of (Short d n) = Stops d.bank
verdict_of (Deferred d) = Stops d.bank
verdict_of Free = Passes
verdict_of Unqueued = Passes
