-- The words that every definition uses: quoted texts, a line, ranges, lists of keys, exact tests.
use Rattle.std.specs.Prelude.{ℕ, Bool, true, false, ◌&&◌, ◌||◌, List, [], ◌∷◌, ◌++◌, leb, eqb}
use Prim.Native.Char.{code}
use Prim.Native.String.{String}

-- a quoted text as the list of its bytes
abbrev pub bytes : String → List ℕ
bytes String.[] = []
bytes (String.◌∷◌ c t) = code c ∷ bytes t

abbrev pub crlf : List ℕ
crlf = bytes "\r\n"

-- "A line is `:tag:value` and CR LF."
abbrev pub line : List ℕ → List ℕ → List ℕ
line tag value = tag ++ (value ++ crlf)

-- from lo to hi, both included
abbrev pub within : ℕ → ℕ → ℕ → Bool
within lo hi x = leb lo x && leb x hi

abbrev pub member : ℕ → List ℕ → Bool
member x [] = false
member x (y ∷ ys) = eqb x y || member x ys

-- a test that answers true exactly where the rule holds
abbrev pub Says : Type 0 → Bool → Type 0
Says P true = P
Says P false = P → ⊥
