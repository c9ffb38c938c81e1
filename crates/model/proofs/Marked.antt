-- "Marked examples (proved as one table)": what is asked of the definitions, and what document 01 says.
use Prim.Native.Nat.{ℕ}
use Prim.Native.String.{String}
use mathlib.Core.Path.{◌≡◌, refl}
use mathlib.Core.Bool.{cond}
use mathlib.Core.List.{List, [], ◌∷◌, ◌++◌, map}
use lib.ListN.{get_or, replicate}
use Rattle.chars.specs.Words.{bytes, line}
use Rattle.chars.specs.Chars.{is_digit, digit_value}
use Rattle.chars.specs.Refusals.{number_of}
use Rattle.checksum.specs.Sum.{word_of, sum_words, block_sum}
use Rattle.checksum.proofs.Examples.{high_word}
use Rattle.dates.specs.Dates.{february, months, days_in, is_true, day_of, is_remembered}
use Rattle.text_scan.specs.Scan.{begins, lit_at, digits, digits_at}
use Rattle.text_values.specs.Values.{hundredths, amount_at}
use Rattle.text_fields.specs.Fields.{on_good, field_at}
use Rattle.text_fields.specs.declared.Kind.TheVariants.{Amount}
use Rattle.settle.specs.Cover.{covered}
use Rattle.settle.specs.Payments.{Payment, credit, debit, needs_of}
use Rattle.settle.specs.Settlement.{Accounts, accounts, first_uncovered, paid, settled}
use Rattle.settle.proofs.Examples.{lettered}
use Rattle.queue.specs.Memory.{credited_by, credited, wake}
use Rattle.queue.specs.Tests.{Outcome, some, again, omits, remember, tried, turn, walk, test, plain_test, quick_test}
use Rattle.model.specs.State.{no_memory}
use Rattle.model.specs.Days.{on_date}

pub data Said : Type 0 where
  passes : Said
  no : Said
  cents : ℕ → Said
  refusal : ℕ → Said
  refused : Said
  free : Said
  tries : List ℕ → Said
  check : ℕ → Said
  both : Said → Said → Said

-- a row: the example's number, what is asked, what is said
pub record Row : Type 0 where
  pub number : ℕ
  pub asked : Said
  pub said : Said

abbrev pub row : ℕ → Said → Said → Row
row n a s = record { number = n; asked = a; said = s }

-- a debit with these letters, on a balance and a sub-limit
abbrev pub cover : (balance sublimit : ℕ) (letters : String) (amount : ℕ) → Said
cover balance sublimit letters amount = cond (covered (lettered (bytes letters)) balance sublimit amount) passes no

-- an amount as 32B has it
abbrev pub amount : String → Said
amount a =
    on_good (field_at (line (bytes ":32B:AUD") (bytes a)) 0 (bytes ":32B:") Amount) (λ b. refusal (number_of b.refusal)) (λ i c. cents i.number)

-- a reference of one date on another
abbrev pub reference : (day today : ℕ) → Said
reference day today = cond (is_remembered (on_date (day_of day)) (on_date (day_of today))) refused free

-- AAAA, BBBB and CCCC are the banks 0, 1 and 2; Q1 and Q2 stand at places 0 and 1
abbrev pub pays : (payer payee amount : ℕ) → List Payment
pays payer payee amount = debit (lettered (bytes "AAA ")) payer amount ∷ credit payee amount ∷ []

abbrev pub queued : (q1 q2 : List Payment) → ((ℕ → List Payment) → Accounts → List ℕ → List ℕ → Outcome) → Said
queued q1 q2 by_test = tries (by_test (λ p. get_or (q1 ∷ q2 ∷ []) p []) (accounts (0 ∷ 50 ∷ 0 ∷ []) (0 ∷ 0 ∷ 0 ∷ [])) no_memory (0 ∷ 1 ∷ [])).tries

abbrev pub Q1-no : ℕ
Q1-no = 0

abbrev pub Q1-yes : ℕ
Q1-yes = 1

abbrev pub Q2-yes : ℕ
Q2-yes = 3

abbrev pub examples : List Row
examples =
    row 1 (cover 100000 30000 "A   " 70000) passes
    ∷ row 2 (cover 100000 30000 "A   " 70001) no
    ∷ row 3 (cover 100000 30000 "P   " 100000) passes
    ∷ row 4 (cover 100000 30000 "P   " 100001) no
    ∷ row 5 (cover 100000 30000 "D   " 0) no
    ∷ row 6 (cover 20000 30000 "A   " 0) no
    ∷ row 7 (cover 20000 30000 "P   " 0) passes
    ∷ row 8 (amount "0,00") (cents 0)
    ∷ row 9 (both (amount ",50") (amount "10000000000,00")) (both (refusal 87) (refusal 87))
    ∷ row 10 (both (reference 270203 270217) (reference 270203 270218)) (both refused free)
    ∷ row 11 (both (reference 280220 280305) (reference 280220 280306)) (both refused free)
    ∷ row 12 (both (queued (pays 0 1 50) (pays 1 0 50) plain_test) (queued (pays 0 1 50) (pays 1 0 50) quick_test))
    (both (tries (Q1-no ∷ Q2-yes ∷ Q1-yes ∷ [])) (tries (Q1-no ∷ Q2-yes ∷ Q1-yes ∷ [])))
    ∷ row 13 (both (queued (pays 0 1 10) (pays 1 2 50) quick_test) (queued (pays 0 1 10) (pays 1 2 50) plain_test))
    (both (tries (Q1-no ∷ Q2-yes ∷ [])) (tries (Q1-no ∷ Q2-yes ∷ Q1-no ∷ [])))
    ∷ row 14 (check (block_sum (high_word ++ (high_word ++ replicate 504 0)) 0)) (check 0)
    ∷ []

pub marked_examples : map (λ r. r.asked) examples ≡ map (λ r. r.said) examples
unfolding covered field_at amount_at lit_at begins digits_at digits is_digit digit_value hundredths february months days_in is_true day_of is_remembered test walk turn tried omits remember some again wake credited credited_by first_uncovered needs_of settled paid block_sum sum_words word_of
marked_examples = refl
