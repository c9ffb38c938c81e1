-- "A line is `:tag:value` and CR LF."
use Rattle.std.specs.Prelude.{ℕ, List, true, false, Result, Ok, Err}
use Rattle.chars.specs.declared.Refusal.{Refusal}
use Rattle.chars.specs.declared.Refusal.TheVariants.{Malformed}
use Rattle.chars.specs.Words.{crlf}
use Rattle.text_scan.specs.Scan.{on_next, lit_at}
use Rattle.text_scan.specs.declared.Cursor.{Cursor}
use Rattle.text_values.specs.Values.{no_part, reference_at, numeral_at, word_at, bin_at, numbers_at, date_at, time_at, side_at, amount_at, count_at}
use Rattle.text_values.specs.Letters.{letters_at}
use Rattle.text_fields.specs.declared.Break.{Break}
use Rattle.text_fields.specs.declared.Item.{Item}
use Rattle.text_fields.specs.declared.Kind.{Kind}
use Rattle.text_fields.specs.declared.Kind.TheVariants.{Empty, Reference, Numeral, Word, Bin, Numbers, Date, Time, Side, Amount, Letters, Count}

-- no tag that is expected stands where a line begins
abbrev pub absent : ℕ → Break
absent at = record { refusal = Malformed; at = at; missing = true }

-- a value is wrong in the line that begins there
abbrev pub broken : ℕ → Refusal → Break
broken at r = record { refusal = r; at = at; missing = false }

abbrev pub wrong : ℕ → Break
wrong at = broken at Malformed

abbrev pub item : ℕ → ℕ → ℕ → Item
item a e v = record { part = record { start = a; end = e }; number = v }

-- of a field that the text does not have
abbrev pub nothing : Item
nothing = record { part = no_part; number = 0 }

abbrev pub place : ℕ → Cursor
place n = record { at = n }

abbrev pub on_read : {A : Type 0} → Result (ℕ × ℕ) Refusal → (Refusal → A) → (ℕ → ℕ → A) → A
on_read (Ok (v, e)) d k = k v e
on_read (Err r) d k = d r

abbrev pub on_good : {A : Type 0} → Result (Item × Cursor) Break → (Break → A) → (Item → Cursor → A) → A
on_good (Ok (i, c)) d k = k i c
on_good (Err b) d k = d b

abbrev pub why_not : Result (Item × Cursor) Break → Break
why_not (Ok (i, c)) = absent 0
why_not (Err b) = b

-- what a line's value is; 77E: "empty"
abbrev pub value_at : List ℕ → ℕ → Kind → Result (ℕ × ℕ) Refusal
value_at s at Empty = Ok (0, at)
value_at s at Reference = reference_at s at
value_at s at (Numeral n) = numeral_at s at n
value_at s at (Word n) = word_at s at n
value_at s at (Bin stream) = bin_at s at stream
value_at s at Numbers = numbers_at s at
value_at s at Date = date_at s at
value_at s at Time = time_at s at
value_at s at Side = side_at s at
value_at s at Amount = amount_at s at
value_at s at Letters = letters_at s at
value_at s at (Count n) = count_at s at n

-- a line from its value on: the value that stands at a, then CR LF
abbrev pub closed_at : List ℕ → ℕ → ℕ → Result (ℕ × ℕ) Refusal → Result (Item × Cursor) Break
closed_at s at a v =
    on_read v (λ r. Err (broken at r)) (λ w e.
    on_next (lit_at s e crlf) (Err (wrong at)) (λ n.
    Ok (item a e w, place n)))

-- a line of a tag and a value of a kind
unfoldable pub field_at : List ℕ → ℕ → List ℕ → Kind → Result (Item × Cursor) Break
field_at s at tag kind = on_next (lit_at s at tag) (Err (absent at)) (λ a. closed_at s at a (value_at s a kind))
