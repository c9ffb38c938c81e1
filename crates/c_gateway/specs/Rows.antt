-- "The reader hands back each field as the part of the text where it stands, and numbers beside it": a field is four words of a row.
use Rattle.std.specs.Prelude.{ℕ, ◌-◌, cond, ltb, length, List, [], ◌∷◌}
use Rattle.std.proofs.lemmas.List.Edits.{sets}
use Rattle.chars.specs.Refusals.{number_of}
use Rattle.chars.specs.declared.Refusal.TheVariants.{ShortBuffer}
use Rattle.codes.specs.declared.Code.{Code}
use Rattle.text_values.specs.declared.Part.{Part}
use Rattle.text_fields.specs.declared.Item.{Item}
use Rattle.text_fields.specs.declared.Break.{Break}

-- where the value starts, its length, and the value in a number or two
abbrev pub field_words : Part → ℕ → ℕ → List ℕ
field_words p value second = p.start ∷ (p.end - p.start) ∷ value ∷ second ∷ []

abbrev pub item_words : Item → List ℕ
item_words i = field_words i.part i.number 0

abbrev pub code_words : Part → Code → List ℕ
code_words p c = field_words p c.high c.low

-- of a text that is refused: where the line begins that breaks it, 1 if a field is missing there, and how far its address was read
abbrev pub break_words : Break → ℕ → List ℕ
break_words b reached = b.at ∷ (cond b.missing 1 0) ∷ reached ∷ 0 ∷ []

-- "07: output buffer under ..": before all else for a row of too few words
unfoldable pub number_in : ℕ → List ℕ → ℕ → ℕ
number_in words row n = cond (ltb (length row) words) (number_of ShortBuffer) n

-- which is then not touched; nor is a longer one past the words of the answer
unfoldable pub row_after : ℕ → List ℕ → List ℕ → List ℕ
row_after words row answer = cond (ltb (length row) words) row (sets row 0 answer)
