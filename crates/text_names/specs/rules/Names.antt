-- The codes that a text allows as a reference or a BIN.
use Rattle.std.specs.Prelude.{ℕ, ◌/◌, ◌<◌, ◌≡◌, Bool, true, ◌&&◌, ◌||◌, not, List, [], ◌∷◌, eqb, ltb, length, take, drop}
use Rattle.chars.specs.Words.{bytes}
use Rattle.chars.specs.Chars.{is_code, is_digit}
use Rattle.codes.specs.Codes.{long_of, long_text}
use Rattle.codes.specs.declared.Code.{Code}
use Rattle.text_scan.specs.Scan.{begins}

-- every byte of a list is of a class
abbrev pub all_are : (ℕ → Bool) → List ℕ → Bool
all_are is [] = true
all_are is (x ∷ xs) = is x && all_are is xs

-- a test of bytes tells whether they are of a class
abbrev pub Tells : (ℕ → Bool → Type 0) → (ℕ → Bool) → Type 0
Tells post class = (x : ℕ) (r : Bool) → x < 256 → post x r → r ≡ class x

abbrev pub same_code : Code → Code → Bool
same_code a b = eqb a.high b.high && eqb a.low b.low

-- a code is the code of its own characters: nothing stands after its first zero
abbrev pub is_whole : Code → Bool
is_whole c = same_code (long_of (long_text c)) c

-- "not beginning RITS, ACLR or ASXC"
abbrev pub forbidden : List ℕ → Bool
forbidden l = begins (bytes "RITS") l || (begins (bytes "ACLR") l || begins (bytes "ASXC") l)

-- "reference, 1 to 16 of A-Z 0-9, not beginning RITS, ACLR or ASXC"
abbrev pub is_reference : Code → Bool
is_reference c = is_whole c && (ltb 0 (length (long_text c)) && (all_are is_code (long_text c) && not (forbidden (long_text c))))

-- "BIN: the 4 of the stream, then 4 digits"
abbrev pub is_bin : Code → Bool
is_bin c = is_whole c && (eqb (length (long_text c)) 8 && (all_are is_code (take 4 (long_text c)) && all_are is_digit (drop 4 (long_text c))))

-- "the 4 of the stream"
abbrev pub bin_stream : Code → ℕ
bin_stream bin = bin.high / 4294967296
