-- The tags as they stand in a text.
use Rattle.std.specs.Prelude.{ℕ, List, [], ◌∷◌, ◌++◌, Bool, true, false, take}
use Rattle.chars.specs.Words.{bytes}
use Rattle.text_explain.specs.declared.Tag.{Tag}
use Rattle.text_explain.specs.declared.Tag.TheVariants.{T20, T12, T77E, T22A, T119, T16A, T171, T175, T127, T32B, T113, T102, T203, T21, T451, T13E, T432}
use Rattle.text_explain.specs.declared.Tags.{Tags}
use Rattle.text_explain.specs.declared.Tags.TheVariants.{Ending, One, Two}

abbrev pub tag_text : Tag → List ℕ
tag_text T20 = bytes ":20:"
tag_text T12 = bytes ":12:"
tag_text T77E = bytes ":77E:"
tag_text T22A = bytes ":22A:"
tag_text T119 = bytes ":119:"
tag_text T16A = bytes ":16A:"
tag_text T171 = bytes ":171:"
tag_text T175 = bytes ":175:"
tag_text T127 = bytes ":127:"
tag_text T32B = bytes ":32B:"
tag_text T113 = bytes ":113:"
tag_text T102 = bytes ":102:"
tag_text T203 = bytes ":203:"
tag_text T21 = bytes ":21:"
tag_text T451 = bytes ":451:"
tag_text T13E = bytes ":13E:"
tag_text T432 = bytes ":432:"

-- five bytes, a zero behind a text of four
abbrev pub padded : List ℕ → List ℕ
padded t = take 5 (t ++ (0 ∷ []))

-- the tag that a payment begins with
abbrev pub is_side : Tag → Bool
is_side T127 = true
is_side T20 = false
is_side T12 = false
is_side T77E = false
is_side T22A = false
is_side T119 = false
is_side T16A = false
is_side T171 = false
is_side T175 = false
is_side T32B = false
is_side T113 = false
is_side T102 = false
is_side T203 = false
is_side T21 = false
is_side T451 = false
is_side T13E = false
is_side T432 = false

-- the texts of some tags, in their order
abbrev pub texts_of : Tags → List (List ℕ)
texts_of Ending = []
texts_of (One t) = tag_text t ∷ []
texts_of (Two t u) = tag_text t ∷ tag_text u ∷ []
