-- The account of a book, a line each, as it is told of an accepted one; and the day and rows that it tells.
use Rattle.std.specs.Prelude.{Result, Ok, Err, Option, Some, None, ℕ, zero, suc, ◌+◌, ◌*◌, ◌≤◌, cond, List, eqb, leb, ltb, length, get_or, set, replicate}
use Rattle.chars.specs.Words.{bytes}
use Rattle.codes.specs.Codes.{short_at}
use Rattle.dates.specs.Dates.{day_of, sum}
use Rattle.text_scan.specs.Scan.{on_next, lit_at, code_at, digits_at, number_at}
use Rattle.cli_request.specs.Account.{line_over, is_plain, first_line}
use Rattle.cli_book.specs.declared.Bits.{Bits}
use Rattle.cli_book.specs.declared.Entry.{Entry}
use Rattle.cli_book.specs.declared.Wanted.{Wanted}
use Rattle.cli_book.specs.declared.Wanted.TheVariants as wanted
use Rattle.cli_book.specs.declared.Streams.{Streams}
use Rattle.cli_book.specs.declared.Banks.{Banks}
use Rattle.cli_book.specs.declared.BookAccount.{BookAccount}

-- what follows a value that was read, or what stands for one that was not
abbrev pub on_read : {A : Type 0} → Option (ℕ × ℕ) → A → (ℕ → ℕ → A) → A
on_read (Some (v, e)) d k = k v e
on_read None d k = d

abbrev pub on_day : {A : Type 0} → Option ℕ → A → (ℕ → A) → A
on_day (Some n) d k = k n
on_day None d k = d

abbrev pub on_given : {A : Type 0} → Option (ℕ × ℕ) → A → (ℕ → ℕ → A) → A
on_given (Some w) d k = k w.0 w.1
on_given None d k = d

abbrev pub on_money : {A : Type 0} → Option (ℕ × ℕ × ℕ) → A → (ℕ → ℕ → ℕ → A) → A
on_money (Some w) d k = k w.0 w.1 w.2
on_money None d k = d

abbrev pub on_stream : {A : Type 0} → Option (ℕ × ℕ × ℕ) → A → (ℕ → ℕ → ℕ → A) → A
on_stream (Some w) d k = k w.0 w.1 w.2
on_stream None d k = d

abbrev pub on_bank : {A : Type 0} → Option (Entry × ℕ) → A → (Entry → ℕ → A) → A
on_bank (Some w) d k = k w.0 w.1
on_bank None d k = d

-- ---- a line

-- some digits, 18 at the most, and no needless zero before them
unfoldable pub cents_at : List ℕ → ℕ → Option (ℕ × ℕ)
cents_at s at =
    cond (is_plain s at (digits_at s at 18).end) (Some ((digits_at s at 18).value, (digits_at s at 18).end)) None

-- "accepted book"
unfoldable pub title_at : List ℕ → ℕ → Option ℕ
title_at s at = on_next (lit_at s at (bytes "accepted book")) None (line_over s)

-- "date YYMMDD", a true date
unfoldable pub date_at : List ℕ → ℕ → Option (ℕ × ℕ)
date_at s at =
    on_next (lit_at s at (bytes "date ")) None (λ a.
    on_read (number_at s a 6) None (λ v b.
    on_day (day_of v) None (λ k.
    on_next (line_over s b) None (λ c.
    Some (k, c)))))

-- "administrator 1 to 255": a byte of the book, of which the book's check refuses 0
unfoldable pub administrator_at : List ℕ → ℕ → Option (ℕ × ℕ)
administrator_at s at = on_given (cents_at s at) None (λ v e. cond (leb v 255) (Some (v, e)) None)

-- "stream CODE ADMINISTRATOR"
unfoldable pub stream_at : List ℕ → ℕ → Option (ℕ × ℕ × ℕ)
stream_at s at =
    on_next (lit_at s at (bytes "stream ")) None (λ a.
    on_next (code_at s a 4) None (λ b.
    on_next (lit_at s b (bytes " ")) None (λ c.
    on_given (administrator_at s c) None (λ v d.
    on_next (line_over s d) None (λ e.
    Some (short_at s a, v, e))))))

abbrev pub streams : List ℕ → ℕ → ℕ → Streams
streams row n at = record { row = row; n = n; at = at }

-- with n streams so far and room for as many more as the first number says
unfoldable pub streams_on : ℕ → List ℕ → ℕ → ℕ → List ℕ → Streams
streams_on zero s at n row = streams row n at
streams_on (suc room) s at n row =
    on_stream (stream_at s at) (streams row n at) (λ code administrator e.
    streams_on room s e (n + 1) (set (set row (2 * n) code) (2 * n + 1) administrator))

unfoldable pub streams_at : List ℕ → ℕ → Streams
streams_at s at = streams_on 8 s at 0 (replicate 16 0)

-- a space and this code
unfoldable pub named_at : List ℕ → ℕ → ℕ → Option ℕ
named_at s at code =
    on_next (lit_at s at (bytes " ")) None (λ a.
    on_next (code_at s a 4) None (λ b.
    cond (eqb (short_at s a) code) (Some b) None))

-- a stream's bit more where it is named next
unfoldable pub bit_on : List ℕ → Bits → ℕ → ℕ → Bits
bit_on s b code bit = on_next (named_at s b.at code) b (λ e. record { bits = b.bits + bit; at = e })

-- the bits of the streams from the i-th on, whose bit is this one, in their order
unfoldable pub bits_on : ℕ → List ℕ → List ℕ → ℕ → ℕ → Bits → Bits
bits_on zero s row i bit b = b
bits_on (suc room) s row i bit b = bits_on room s row (i + 1) (2 * bit) (bit_on s b (get_or row (2 * i) 0) bit)

unfoldable pub bits_at : List ℕ → ℕ → List ℕ → Bits
bits_at s at row = bits_on 8 s row 0 1 (record { bits = 0; at = at })

-- "active" is 0, "suspended" 1
unfoldable pub standing_at : List ℕ → ℕ → Option (ℕ × ℕ)
standing_at s at =
    on_next (lit_at s at (bytes " active "))
    (on_next (lit_at s at (bytes " suspended ")) None (λ a. Some (1, a)))
    (λ a. Some (0, a))

abbrev pub AtMostOne : Option (ℕ × ℕ) → Type 0
AtMostOne (Some w) = w.0 ≤ 1
AtMostOne None = Unit {0}

-- "BALANCE SUBLIMIT"
unfoldable pub money_at : List ℕ → ℕ → Option (ℕ × ℕ × ℕ)
money_at s at =
    on_given (cents_at s at) None (λ balance a.
    on_next (lit_at s a (bytes " ")) None (λ b.
    on_given (cents_at s b) None (λ sublimit c.
    Some (balance, sublimit, c))))

abbrev pub entry : ℕ → ℕ → ℕ → ℕ → Entry
entry code flags balance sublimit = record { code = code; flags = flags; balance = balance; sublimit = sublimit }

-- "bank CODE active|suspended BALANCE SUBLIMIT STREAM..": the flags are 1 if it is suspended, and twice the stream bits
unfoldable pub bank_at : List ℕ → ℕ → List ℕ → Option (Entry × ℕ)
bank_at s at row =
    on_next (lit_at s at (bytes "bank ")) None (λ a.
    on_next (code_at s a 4) None (λ b.
    on_given (standing_at s b) None (λ standing c.
    on_money (money_at s c) None (λ balance sublimit d.
    on_next (line_over s (bits_at s d row).at) None (λ e.
    Some (entry (short_at s a) (standing + 2 * (bits_at s d row).bits) balance sublimit, e))))))

abbrev pub banks : (codes flags balances sublimits : List ℕ) → ℕ → ℕ → Banks
banks codes flags balances sublimits n at =
    record { codes = codes; flags = flags; balances = balances; sublimits = sublimits; n = n; at = at }

-- with n banks so far and room for as many more as the first number says
unfoldable pub banks_on : ℕ → List ℕ → List ℕ → ℕ → ℕ → (codes flags balances sublimits : List ℕ) → Banks
banks_on zero s row at n codes flags balances sublimits = banks codes flags balances sublimits n at
banks_on (suc room) s row at n codes flags balances sublimits =
    on_bank (bank_at s at row) (banks codes flags balances sublimits n at) (λ b e.
    banks_on room s row e (n + 1) (set codes n b.code) (set flags n b.flags) (set balances n b.balance) (set sublimits n b.sublimit))

abbrev pub no_banks : List ℕ
no_banks = replicate 64 0

unfoldable pub banks_at : List ℕ → ℕ → List ℕ → Banks
banks_at s at row = banks_on 64 s row at 0 no_banks no_banks no_banks no_banks

-- "total CENTS"
unfoldable pub total_at : List ℕ → ℕ → Option (ℕ × ℕ)
total_at s at =
    on_next (lit_at s at (bytes "total ")) None (λ a.
    on_given (cents_at s a) None (λ v b.
    on_next (line_over s b) None (λ c.
    Some (v, c))))

-- ---- the account

-- the total is the sum of the balances, and nothing follows it
unfoldable pub end_at : List ℕ → ℕ → List ℕ → Result (Unit {0}) (ℕ × Wanted)
end_at s at balances =
    on_given (total_at s at) (Err (at, wanted.BankOrTotal)) (λ total a.
    cond (eqb total (sum balances)) (cond (ltb a (length s)) (Err (a, wanted.Nothing)) (Ok tt)) (Err (at, wanted.Sum)))

abbrev pub account : ℕ → Streams → Banks → Result (Unit {0}) (ℕ × Wanted) → BookAccount
account day xs bs stop = record { day = day; streams = xs; banks = bs; stop = stop }

unfoldable pub unread : ℕ → Wanted → BookAccount
unread at x = account 0 (streams (replicate 16 0) 0 0) (banks no_banks no_banks no_banks no_banks 0 0) (Err (at, x))

-- 1 to 8 streams, 1 to 64 banks, the total
unfoldable pub rows_at : List ℕ → ℕ → ℕ → BookAccount
rows_at s at day =
    let xs = streams_at s at in
    let bs = banks_at s xs.at xs.row in
    cond (ltb xs.n 1) (unread at wanted.Stream)
    (cond (ltb bs.n 1) (unread xs.at wanted.StreamOrBank) (account day xs bs (end_at s bs.at bs.balances)))

-- the day and the rows that an account tells; a line that names the file may come first
unfoldable pub book_account : List ℕ → BookAccount
book_account s =
    on_next (title_at s (first_line s)) (unread (first_line s) wanted.Title) (λ a.
    on_given (date_at s a) (unread a wanted.Date) (λ day b.
    rows_at s b day))
