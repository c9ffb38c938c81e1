-- A script of calls, line by line: words with blanks between them, and a comment behind them.
use Rattle.std.specs.Prelude.{Option, Some, None, ℕ, ◌+◌, ◌-◌, ◌*◌, Bool, false, not, ◌&&◌, ◌||◌, cond, List, [], ◌∷◌, eqb, leb, length, get_or, drop}
use Rattle.chars.specs.Words.{bytes}
use Rattle.chars.specs.Chars.{is_digit, digit_value}
use Rattle.codes.specs.Codes.{short_at, long_at}
use Rattle.codes.specs.declared.Code.{Code}
use Rattle.text_scan.specs.Scan.{on_next, lit_at, number_at as digits_of}
use Rattle.cli_script.specs.declared.Line.{Line}
use Rattle.cli_script.specs.declared.Line.TheVariants.{Skip, Clear, Open, Message, SubLimit, Status, Tick, Close, Closing, Show, Why, NotACall}
use Rattle.cli_script.specs.declared.Wanted.TheVariants.{Command, Clock, Sender, Bank, Cents, BinCode, Letter, Date, FileName, LineEnd}

-- what follows a word that was read, or what stands for one that was not
abbrev pub on_word : {A : Type 0} → Option (ℕ × ℕ) → A → (ℕ → ℕ → A) → A
on_word (Some w) d k = k w.0 w.1
on_word None d k = d

abbrev pub on_number : {A : Type 0} → Option (ℕ × ℕ) → A → (ℕ → ℕ → A) → A
on_number (Some w) d k = k w.0 w.1
on_number None d k = d

abbrev pub on_bin : {A : Type 0} → Option (Code × ℕ) → A → (Code → ℕ → A) → A
on_bin (Some w) d k = k w.0 w.1
on_bin None d k = d

abbrev pub on_digits : {A : Type 0} → Option (ℕ × ℕ) → A → (ℕ → ℕ → A) → A
on_digits (Some (v, e)) d k = k v e
on_digits None d k = d

abbrev pub on_sum : {A : Type 0} → Option ℕ → A → (ℕ → A) → A
on_sum (Some v) d k = k v
on_sum None d k = d

-- ---- a word

-- a tab, a space, or the CR of a line that ends with CR LF
unfoldable pub is_blank : ℕ → Bool
is_blank b = eqb b 9 || (eqb b 13 || eqb b 32)

-- the next place, from one that has come to a list, whose byte passes a test, or the end of the list
unfoldable pub until : (ℕ → Bool) → ℕ → List ℕ → ℕ
until stops at [] = at
until stops at (x ∷ l) = cond (stops x) at (until stops (at + 1) l)

-- the next byte that is no blank
unfoldable pub word_start : List ℕ → ℕ → ℕ
word_start s at = until (λ b. not (is_blank b)) at (drop at s)

-- where a word ends that has come to a place: at the next blank, or with the line
unfoldable pub word_end : List ℕ → ℕ → ℕ
word_end s at = until is_blank at (drop at s)

-- no word begins here: the line ends, or a comment begins with `#`
unfoldable pub is_end : List ℕ → ℕ → Bool
is_end s at = leb (length s) at || eqb (get_or s at 0) 35

-- the next word from a place on
unfoldable pub word_at : List ℕ → ℕ → Option (ℕ × ℕ)
word_at s at = cond (is_end s (word_start s at)) None (Some (word_start s at, word_end s (word_start s at)))

-- the word from a to e is this one
unfoldable pub is_word : List ℕ → (a e : ℕ) → List ℕ → Bool
is_word s a e name = on_next (lit_at s a name) false (λ x. eqb x e)

unfoldable pub is_long : (a e n : ℕ) → Bool
is_long a e n = eqb (e - a) n

-- 2^64 - 1
abbrev pub greatest : ℕ
greatest = 18446744073709551615

-- "Numbers are decimal, up to 2^64 - 1, leading zeros allowed"
unfoldable pub with_digit : ℕ → ℕ → Option ℕ
with_digit v b =
    cond (is_digit b && leb (10 * v + digit_value b) greatest) (Some (10 * v + digit_value b)) None

-- the number v followed by the digits that stand before the next blank
unfoldable pub number_from : (at v : ℕ) → List ℕ → Option (ℕ × ℕ)
number_from at v [] = Some (v, at)
number_from at v (x ∷ l) =
    cond (is_blank x) (Some (v, at)) (on_sum (with_digit v x) None (λ w. number_from (at + 1) w l))

unfoldable pub number_at : List ℕ → ℕ → Option (ℕ × ℕ)
number_at s at = on_word (word_at s at) None (λ a e. number_from a 0 (drop a s))

-- hours, minutes and seconds as seconds of the day
unfoldable pub seconds_of : (h m n e : ℕ) → Option (ℕ × ℕ)
seconds_of h m n e = cond (leb h 23 && (leb m 59 && leb n 59)) (Some (3600 * h + 60 * m + n, e)) None

-- two digits and a colon
unfoldable pub pair_at : List ℕ → ℕ → Option (ℕ × ℕ)
pair_at s at = on_digits (digits_of s at 2) None (λ v b. on_next (lit_at s b (bytes ":")) None (λ c. Some (v, c)))

-- the word from a to e, as HH:MM:SS
unfoldable pub time_at : List ℕ → (a e : ℕ) → Option (ℕ × ℕ)
time_at s a e =
    on_number (pair_at s a) None (λ h b.
    on_number (pair_at s b) None (λ m c.
    on_digits (digits_of s c 2) None (λ n d.
    cond (eqb d e) (seconds_of h m n e) None)))

-- a clock: HH:MM:SS, or a number of seconds
unfoldable pub clock_at : List ℕ → ℕ → Option (ℕ × ℕ)
clock_at s at = on_word (word_at s at) None (λ a e. on_number (time_at s a e) (number_from a 0 (drop a s)) (λ v x. Some (v, e)))

-- "BANK has 4 bytes, BIN 8, LETTER 1, YYMMDD 6, of any value"
unfoldable pub bank_at : List ℕ → ℕ → Option (ℕ × ℕ)
bank_at s at = on_word (word_at s at) None (λ a e. cond (is_long a e 4) (Some (short_at s a, e)) None)

unfoldable pub bin_at : List ℕ → ℕ → Option (Code × ℕ)
bin_at s at = on_word (word_at s at) None (λ a e. cond (is_long a e 8) (Some (long_at s a 8, e)) None)

unfoldable pub letter_at : List ℕ → ℕ → Option (ℕ × ℕ)
letter_at s at = on_word (word_at s at) None (λ a e. cond (is_long a e 1) (Some (get_or s a 0, e)) None)

-- a number that is no date
abbrev pub no_date : ℕ
no_date = 1000000

-- six bytes that are no digits are no date
abbrev pub date_in : Option (ℕ × ℕ) → ℕ
date_in (Some (v, e)) = v
date_in None = no_date

unfoldable pub date_at : List ℕ → ℕ → Option (ℕ × ℕ)
date_at s at = on_word (word_at s at) None (λ a e. cond (is_long a e 6) (Some (date_in (digits_of s a 6), e)) None)

-- ---- a call

-- "a wrong number of words": no word follows the last one
unfoldable pub ended : List ℕ → ℕ → Line → Line
ended s e line = cond (is_end s (word_start s e)) line (NotACall e LineEnd)

-- "open CLOCK FILE"
unfoldable pub open_at : List ℕ → ℕ → Line
open_at s at =
    on_number (clock_at s at) (NotACall at Clock) (λ clock a.
    on_word (word_at s a) (NotACall a FileName) (λ file e.
    ended s e (Open clock file)))

-- "message CLOCK SENDER FILE"
unfoldable pub message_at : List ℕ → ℕ → Line
message_at s at =
    on_number (clock_at s at) (NotACall at Clock) (λ clock a.
    on_number (number_at s a) (NotACall a Sender) (λ sender b.
    on_word (word_at s b) (NotACall b FileName) (λ file e.
    ended s e (Message clock sender file))))

-- "sublimit CLOCK BANK CENTS"
unfoldable pub sublimit_at : List ℕ → ℕ → Line
sublimit_at s at =
    on_number (clock_at s at) (NotACall at Clock) (λ clock a.
    on_number (bank_at s a) (NotACall a Bank) (λ bank b.
    on_number (number_at s b) (NotACall b Cents) (λ cents e.
    ended s e (SubLimit clock bank cents))))

-- "status CLOCK BANK BIN LETTER"
unfoldable pub status_at : List ℕ → ℕ → Line
status_at s at =
    on_number (clock_at s at) (NotACall at Clock) (λ clock a.
    on_number (bank_at s a) (NotACall a Bank) (λ bank b.
    on_bin (bin_at s b) (NotACall b BinCode) (λ bin c.
    on_number (letter_at s c) (NotACall c Letter) (λ letter e.
    ended s e (Status clock bank bin letter)))))

-- "tick CLOCK"
unfoldable pub tick_at : List ℕ → ℕ → Line
tick_at s at = on_number (clock_at s at) (NotACall at Clock) (λ clock e. ended s e (Tick clock))

-- "close CLOCK"
unfoldable pub close_at : List ℕ → ℕ → Line
close_at s at = on_number (clock_at s at) (NotACall at Clock) (λ clock e. ended s e (Close clock))

-- "closing CLOCK YYMMDD FILE"
unfoldable pub closing_at : List ℕ → ℕ → Line
closing_at s at =
    on_number (clock_at s at) (NotACall at Clock) (λ clock a.
    on_number (date_at s a) (NotACall a Date) (λ date b.
    on_word (word_at s b) (NotACall b FileName) (λ file e.
    ended s e (Closing clock date file))))

-- ---- the line

-- the call of the first word, which stands from a to e
unfoldable pub next_call : List ℕ → (a e : ℕ) → Line
next_call s a e =
    cond (is_word s a e (bytes "status")) (status_at s e)
    (cond (is_word s a e (bytes "tick")) (tick_at s e)
    (cond (is_word s a e (bytes "close")) (close_at s e)
    (cond (is_word s a e (bytes "closing")) (closing_at s e) (NotACall a Command))))

unfoldable pub first_call : List ℕ → (a e : ℕ) → Line
first_call s a e =
    cond (is_word s a e (bytes "open")) (open_at s e)
    (cond (is_word s a e (bytes "message")) (message_at s e)
    (cond (is_word s a e (bytes "sublimit")) (sublimit_at s e) (next_call s a e)))

-- what a line asks for: one without a word is skipped
unfoldable pub line_in : List ℕ → Line
line_in s =
    on_word (word_at s 0) Skip (λ a e.
    cond (is_word s a e (bytes "clear")) (ended s e Clear)
    (cond (is_word s a e (bytes "show")) (ended s e Show)
    (cond (is_word s a e (bytes "why")) (ended s e Why) (first_call s a e))))
