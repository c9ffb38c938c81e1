-- The tests of a message, over the rows in which they find the house and the banks that are taken.
use Rattle.std.specs.Prelude.{ℕ, zero, suc, ◌+◌, ◌*◌, ◌≤◌, ◌≡◌, Bool, true, false, ◌||◌, cond, List, [], ◌∷◌, eqb, leb, length, get_or, set, take, replicate}
use Rattle.std.specs.Prelude.{Result, Ok, Err}
use Rattle.chars.specs.declared.Refusal.{Refusal}
use Rattle.chars.specs.declared.Refusal.TheVariants.{UnknownBank, SuspendedBank, PastDate, FutureDate, Malformed}
use Rattle.request_read.specs.declared.terms.Activation.{Activation}
use Rattle.request_read.specs.declared.terms.Activation.TheVariants.{AtOnce, Minute}
use Rattle.request_read.specs.declared.terms.Terms.{Terms}
use Rattle.request_read.specs.declared.whole.Reading.{Reading}
use Rattle.request_read.specs.declared.payments.Payment.{Payment as Line}
use Rattle.book_read.specs.Book.{each}
use Rattle.book_write.specs.Closing.{stream_of}
use Rattle.settle.specs.Payments.{payments_from}
use Rattle.settle.specs.Settlement.{accounts}
use Rattle.model.specs.Answers.{Answer}
use Rattle.model.specs.declared.Phase.TheVariants.{Fresh}
use Rattle.model.specs.State.{on_found, House, Batch, State, payments_of}
use Rattle.model.specs.Messages.{bank_place, is_suspended, is_member}
use Rattle.tables.specs.Rows.{word, batch_in, batch_rows}

-- the banks of a house, and its streams
abbrev pub banks_house : (banks : ℕ) (codes flags : List ℕ) → House
banks_house banks codes flags = record { streams = []; banks = banks; codes = codes; flags = flags }

abbrev pub streams_house : (streams : List ℕ) (n : ℕ) → House
streams_house streams n = record { streams = each (stream_of streams) 0 n; banks = 0; codes = []; flags = [] }

-- ---- one payment

-- a bank that is there, active and in the stream
unfoldable pub standing_of : (banks : ℕ) (codes flags : List ℕ) (stream code : ℕ) → Result ℕ Refusal
standing_of banks codes flags stream code =
    on_found (bank_place (banks_house banks codes []) code) (Err UnknownBank) (λ p.
    cond (is_suspended (banks_house 0 [] flags) p)
    (Err SuspendedBank)
    (cond (is_member (banks_house 0 [] flags) stream p) (Ok p) (Err UnknownBank)))

-- of the places that are taken the marks are not 0
abbrev pub line_on : Result ℕ Refusal → (marks : List ℕ) → Answer
line_on (Err f) m = Err f
line_on (Ok p) m = cond (eqb (get_or m p 0) 0) (Ok tt) (Err Malformed)

abbrev pub taken_on : Result ℕ Refusal → (marks : List ℕ) → List ℕ
taken_on (Err f) m = m
taken_on (Ok p) m = cond (eqb (get_or m p 0) 0) (set m p 1) m

-- ---- the payments of a message, in order

abbrev pub on_done : Answer → Answer → Answer
on_done (Ok tt) a = a
on_done (Err f) a = Err f

unfoldable pub lines_on : (banks : ℕ) (codes flags : List ℕ) (stream : ℕ) (marks : List ℕ) → List Line → Answer
lines_on banks codes flags stream m [] = Ok tt
lines_on banks codes flags stream m (l ∷ ls) =
    let s = standing_of banks codes flags stream l.bank.number in
    on_done (line_on s m) (lines_on banks codes flags stream (taken_on s m) ls)

-- ---- the banks of n payments of a row, from a word on, are marked: the last first
unfoldable pub marked : List ℕ → (at n : ℕ) → (marks : List ℕ) → List ℕ
marked row at zero m = m
marked row at (suc n) m = set (marked row (at + 3) n m) (get_or row at 0) 1

-- ---- before the payments

-- "count or activation unlike the first message's": the word is 0 for none, else the minute and 1
abbrev pub same_word : Activation → ℕ → Bool
same_word AtOnce zero = true
same_word AtOnce (suc n) = false
same_word (Minute m) zero = false
same_word (Minute m) (suc n) = eqb m n

-- "or number already there": one of n messages from message i on
unfoldable pub numbered : List ℕ → (number i n : ℕ) → Bool
numbered row k i zero = false
numbered row k i (suc n) = eqb (word row (11 + 4 * i)) k || numbered row k (i + 1) n

unfoldable pub head_on : (date : ℕ) (row : List ℕ) → Terms → Answer
head_on date row t =
    cond (eqb t.count (word row 4))
    (cond (same_word t.activation (word row 5))
    (cond (numbered row t.number 0 (word row 7))
    (Err Malformed)
    (cond (leb date t.date.number) (cond (leb t.date.number date) (Ok tt) (Err FutureDate)) (Err PastDate)))
    (Err Malformed))
    (Err Malformed)

-- ---- the whole

unfoldable pub message_on : (date banks : ℕ) (codes flags : List ℕ) (stream : ℕ) (row : List ℕ) → Reading → Answer
message_on date banks codes flags stream row r =
    on_done (head_on date row r.terms)
    (lines_on banks codes flags stream (marked row 49 (word row 8) (replicate 64 0)) (take r.n r.payments))

-- a row whose messages are ten at the most, their payments a hundred, one behind the other
pub record Counted (row : List ℕ) : Type 0 where
  pub long : length row ≡ 349
  pub messages : word row 7 ≤ 10
  pub payments : word row 8 ≤ 100
  pub same : payments_from row 49 (word row 8) ≡ payments_of (batch_in row).messages

-- the batch in the row of a place
abbrev pub batch_at : List ℕ → ℕ → Batch
batch_at t p = batch_in (get_or (batch_rows t) p [])

-- a state of which only the day's date and the banks are said
abbrev pub state_of : (date banks : ℕ) (codes flags : List ℕ) → State
state_of date banks codes flags = record {
  day = record { phase = Fresh; date = date; clock = 0; texts = 0 };
  house = banks_house banks codes flags;
  books = accounts [] [];
  batches = record { places = []; pending = []; queue = [] };
  known = record { references = []; bins = [] };
}

-- ---- a message's payments as words: bank, cents, letters

abbrev pub place_or : (banks : ℕ) (codes : List ℕ) → ℕ → ℕ
place_or banks codes code = on_found (bank_place (banks_house banks codes []) code) 0 (λ p. p)

unfoldable pub line_words : (banks : ℕ) (codes : List ℕ) → List Line → List ℕ
line_words banks codes [] = []
line_words banks codes (l ∷ ls) = place_or banks codes l.bank.number ∷ l.amount.number ∷ l.letters.number ∷ line_words banks codes ls
