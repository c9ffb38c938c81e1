-- Accounts one behind another, as `inspect` tells them of several files.
use Rattle.std.specs.Prelude.{ℕ, zero, suc, ◌+◌, ◌-◌, Bool, ◌&&◌, ◌||◌, cond, List, eqb, length, get_or}
use Rattle.chars.specs.Words.{bytes}
use Rattle.text_scan.specs.Scan.{lit_at}
use Rattle.text_values.specs.Values.{stands}
use Rattle.cli_request.specs.Account.{first_line}

-- a line that begins an account: "file .." or "accepted .."
unfoldable pub opens_at : List ℕ → ℕ → Bool
opens_at s at = stands (lit_at s at (bytes "file ")) || stands (lit_at s at (bytes "accepted "))

-- a line feed, and behind it a line that begins an account
unfoldable pub ends_at : List ℕ → ℕ → Bool
ends_at s at = eqb (get_or s at 0) 10 && opens_at s (at + 1)

-- the place behind the first such line feed, of so many bytes from a place on
unfoldable pub end_from : List ℕ → ℕ → ℕ → ℕ
end_from s at zero = at
end_from s at (suc left) = cond (ends_at s at) (at + 1) (end_from s (at + 1) left)

-- where the first account ends: its own first line, which follows one that names its file, begins no other
unfoldable pub first_end : List ℕ → ℕ
first_end s = end_from s (first_line s) (length s - first_line s)
