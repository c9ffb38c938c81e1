-- Lines, and what they ask for: blanks and comments, a number out of range, leading zeros, bytes of any value, a clock as HH:MM:SS.
use Prim.Native.Nat.{ℕ}
use mathlib.Core.Path.{◌≡◌, refl}
use mathlib.Core.List.{List, [], ◌∷◌, ◌++◌, map}
use Rattle.chars.specs.Words.{bytes}
use Rattle.chars.specs.Chars.{is_digit, digit_value}
use Rattle.codes.specs.Codes.{short_at, pack_on}
use Rattle.text_scan.specs.Scan.{lit_at, begins, digits_at, digits, number_at as digits_of}
use Rattle.cli_script.specs.Lines.{greatest, no_date, line_in, is_blank, until, word_start, word_end, is_end, word_at, is_word, is_long, with_digit, number_from, number_at}
use Rattle.cli_script.specs.Lines.{seconds_of, pair_at, time_at, clock_at, bank_at, date_at, ended, open_at, sublimit_at, tick_at, close_at, closing_at, next_call, first_call}
use Rattle.cli_script.specs.declared.Line.{Line}
use Rattle.cli_script.specs.declared.Line.TheVariants.{Skip, Clear, Open, SubLimit, Tick, Closing, NotACall}
use Rattle.cli_script.specs.declared.Wanted.TheVariants.{Command, Clock, Bank, Cents, LineEnd}

abbrev texts : List (List ℕ)
texts =
    bytes "tick 18446744073709551615" ∷
    bytes "tick 18446744073709551616" ∷
    bytes "tick 0000000000000000000000000086399" ∷
    bytes "tick 5 " ∷
    bytes "tick  5" ∷
    bytes " tick 5" ∷
    bytes "tick" ∷
    bytes "ticks 5" ∷
    bytes "tick5" ∷
    bytes "tick 09:00:05 # nine" ∷
    bytes "tick 24:00:00" ∷
    bytes "tick 09:00" ∷
    bytes "tick 5#6" ∷
    (9 ∷ bytes "tick" ++ 9 ∷ 32 ∷ bytes "5" ++ 13 ∷ []) ∷
    bytes "open 32400 a/b" ∷
    bytes "open 32400 a b" ∷
    bytes "open 32400 a#b #c" ∷
    bytes "sublimit 7 A-*. 010" ∷
    bytes "sublimit 7 AAA 10" ∷
    bytes "sublimit 7 AAAA 5.00" ∷
    bytes "closing 5 27020A f" ∷
    bytes "closing 5 270204 f" ∷
    bytes "# tick 5" ∷
    bytes "  # tick 5" ∷
    bytes "" ∷
    bytes "clear" ∷
    bytes "clear " ∷
    bytes "clear x" ∷ []

abbrev asked : List Line
asked =
    Tick greatest ∷ NotACall 4 Clock ∷ Tick 86399 ∷ Tick 5 ∷ Tick 5 ∷ Tick 5 ∷ NotACall 4 Clock ∷ NotACall 0 Command ∷ NotACall 0 Command ∷
    Tick 32405 ∷ NotACall 4 Clock ∷ NotACall 4 Clock ∷ NotACall 4 Clock ∷ Tick 5 ∷
    Open 32400 11 ∷ NotACall 12 LineEnd ∷ Open 32400 11 ∷ SubLimit 7 1093478958 10 ∷ NotACall 10 Bank ∷ NotACall 15 Cents ∷
    Closing 5 no_date 17 ∷ Closing 5 270204 17 ∷ Skip ∷ Skip ∷ Skip ∷ Clear ∷ Clear ∷ NotACall 5 LineEnd ∷ []

pub lines_asked : map line_in texts ≡ asked
unfolding line_in is_blank until word_start word_end is_end word_at is_word is_long with_digit number_from number_at seconds_of pair_at time_at clock_at bank_at date_at ended open_at sublimit_at tick_at close_at closing_at next_call first_call lit_at begins digits_of digits_at digits is_digit digit_value short_at pack_on
lines_asked = refl
