-- What the constructors of a bank and of a batch answer.
use Rattle.settle.specs.declared.Batch.{Batch}
use Rattle.settle.specs.declared.Bank.{Bank}
use Rattle.chars.specs.declared.Refusal.{Refusal}
use Rattle.std.specs.Prelude.{ℕ, ◌*◌, ◌&&◌, cond, leb, ltb, Result, Ok, Err}
use Rattle.chars.specs.declared.Refusal.TheVariants.{OutOfRange, BrokenTables}
use Rattle.book_read.specs.Book.{most_money}

-- "Balances, their total and sub-limits run from 0 to 6,400,000,000,000,000"; 14 where one is out of range
abbrev pub bank_or : (balance sublimit : ℕ) → Result Bank Refusal
bank_or balance sublimit =
    cond (leb balance most_money && leb sublimit most_money)
    (Ok (record { balance = balance; sublimit = sublimit }))
    (Err OutOfRange)

-- "32 live batches", in rows of 349 words; 06 for another place
abbrev pub batch_or : ℕ → Result Batch Refusal
batch_or place = cond (ltb place 32) (Ok (record { start = place * 349 })) (Err BrokenTables)
