-- Codes as numbers: the characters big-endian, so that order by code is order by number.
use Rattle.std.specs.Prelude.{ℕ, zero, suc, ◌+◌, ◌*◌, ◌/◌, ◌%◌, ◌<◌, Bool, true, false, cond, List, [], ◌∷◌, ◌++◌, eqb, ltb, take, drop}
use Rattle.codes.specs.declared.Code.{Code}

-- a list of bytes
abbrev pub Bytes : List ℕ → Type 0
Bytes [] = Unit {0}
Bytes (x ∷ l) = (x < 256) × Bytes l

-- characters: no byte is zero
abbrev pub NoZero : List ℕ → Type 0
NoZero [] = Unit {0}
NoZero (x ∷ l) = (0 < x) × NoZero l

-- the first w of a list, filled up with zeros
abbrev pub filled : ℕ → List ℕ → List ℕ
filled zero l = []
filled (suc w) [] = 0 ∷ filled w []
filled (suc w) (x ∷ l) = x ∷ filled w l

-- the number v followed by the first w bytes of a list, which is filled up with zeros
unfoldable pub pack_on : ℕ → ℕ → List ℕ → ℕ
pack_on zero v l = v
pack_on (suc w) v [] = pack_on w (v * 256) []
pack_on (suc w) v (x ∷ l) = pack_on w (v * 256 + x) l

abbrev pub packed : ℕ → List ℕ → ℕ
packed w l = pack_on w 0 l

-- four characters as one number stay below it
abbrev pub short_end : ℕ
short_end = 4294967296

-- of a field that is not there
abbrev pub no_code : Code
no_code = record { high = 0; low = 0 }

-- a bank or a stream: four characters as one number
unfoldable pub short_at : List ℕ → ℕ → ℕ
short_at s at = packed 4 (drop at s)

-- a reference or a BIN: n characters, filled up to sixteen with zeros, as two numbers
unfoldable pub long_of : List ℕ → Code
long_of l = record { high = packed 8 l; low = packed 8 (drop 8 l) }

unfoldable pub long_at : List ℕ → ℕ → ℕ → Code
long_at s at n = long_of (take n (drop at s))

-- back: the w bytes of a number
unfoldable pub unpacked : ℕ → ℕ → List ℕ
unpacked zero v = []
unpacked (suc w) v = unpacked w (v / 256) ++ (v % 256 ∷ [])

-- the bytes before the first zero
unfoldable pub named : List ℕ → List ℕ
named [] = []
named (x ∷ l) = cond (eqb x 0) [] (x ∷ named l)

-- the characters of a bank or a stream, and of a reference or a BIN
unfoldable pub short_text : ℕ → List ℕ
short_text v = unpacked 4 v

unfoldable pub spelled : Code → List ℕ
spelled c = unpacked 8 c.high ++ unpacked 8 c.low

unfoldable pub long_text : Code → List ℕ
long_text c = named (spelled c)

-- the order of two codes of one length, from the first character on
unfoldable pub before : List ℕ → List ℕ → Bool
before [] b = false
before (x ∷ a) [] = false
before (x ∷ a) (y ∷ b) = cond (ltb x y) true (cond (eqb x y) (before a b) false)

-- the same order by the two numbers
unfoldable pub code_before : Code → Code → Bool
code_before c d = cond (ltb c.high d.high) true (cond (eqb c.high d.high) (ltb c.low d.low) false)
