-- Seconds and minutes of the day, and their digits.
use Rattle.clock.specs.declared.Clock.{Clock}
use Rattle.std.specs.Prelude.{ℕ, ◌+◌, ◌*◌, ◌/◌, ◌%◌, Bool, ◌&&◌, cond, leb, ltb, Option, Some, None}

-- "0 to 86,399", "00 to 23 and 00 to 59"
abbrev pub seconds_of_day : ℕ
seconds_of_day = 86400

abbrev pub minutes_of_day : ℕ
minutes_of_day = 1440

-- "clock not in 0 to 86,399" is refused
unfoldable pub clock_of : ℕ → Option Clock
clock_of seconds = cond (ltb seconds seconds_of_day) (Some (record { seconds = seconds })) None

-- a minute of the day has begun when its first second is there
unfoldable pub has_begun : ℕ → ℕ → Bool
has_begun seconds minute = leb (60 * minute) seconds

-- "HHMM, 00 to 23 and 00 to 59": its minute of the day
unfoldable pub minute_of : ℕ → Option ℕ
minute_of hhmm =
    cond (ltb (hhmm / 100) 24 && ltb (hhmm % 100) 60) (Some (60 * (hhmm / 100) + hhmm % 100)) None

-- HHMM of a minute of the day; 0 past the last
unfoldable pub hhmm_of : ℕ → ℕ
hhmm_of minute = cond (ltb minute minutes_of_day) (100 * (minute / 60) + minute % 60) 0

-- "HHMMSS", a true time: its second of the day
unfoldable pub second_of : ℕ → Option ℕ
second_of hhmmss =
    cond (ltb (hhmmss / 10000) 24 && ltb (hhmmss / 100 % 100) 60 && ltb (hhmmss % 100) 60)
    (Some (3600 * (hhmmss / 10000) + (60 * (hhmmss / 100 % 100) + hhmmss % 100)))
    None

-- HHMMSS of a second of the day; 0 past the last
unfoldable pub hhmmss_of : ℕ → ℕ
hhmmss_of seconds =
    cond (ltb seconds seconds_of_day) (10000 * (seconds / 3600) + (100 * (seconds / 60 % 60) + seconds % 60)) 0
