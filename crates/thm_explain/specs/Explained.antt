-- What is told of a break, beside the definition of where and how a text breaks (`Breaks` of `thm_first_break`).
use Rattle.std.specs.Prelude.{ℕ, ◌+◌, ◌≡◌, List, [], ◌∷◌, Bool, true, false, cond, length, drop, Some}
use Rattle.text_fields.specs.declared.Break.{Break}
use Rattle.thm_first_break.specs.Rows.{Row, f20, f12, f77e, f22a, f119, f16a, f171, f175, f127, f32b, f113, no113, f102, f203, f_b20, f21, f451, f13e, f432, tag_of}
use Rattle.thm_first_break.specs.Order.{Choice, Expecting, at20, at_end, choices}
use Rattle.thm_first_break.specs.Replies.{Awaiting, on20, on_end, replies}
use Rattle.thm_first_break.specs.Breaks.{standing, Reached, beginning, behind}
use Rattle.text_explain.specs.Tags.{tag_text, texts_of}
use Rattle.text_explain.specs.Faults.{told}
use Rattle.text_explain.specs.declared.Tag.{Tag}
use Rattle.text_explain.specs.declared.Tags.{Tags}
use Rattle.text_explain.specs.declared.Fault.TheVariants.{Missing, Wrong, Unknown, AfterCredit}
use Rattle.text_explain.specs.declared.Told.{Told}

-- the 113 that "never" stands after CR is a row, and no tag that may stand there
abbrev pub is_never : Row → Bool
is_never no113 = true
is_never f20 = false
is_never (f12 kinds) = false
is_never f77e = false
is_never f22a = false
is_never (f119 stream) = false
is_never f16a = false
is_never f171 = false
is_never f175 = false
is_never f127 = false
is_never f32b = false
is_never f113 = false
is_never f102 = false
is_never (f203 n) = false
is_never f_b20 = false
is_never f21 = false
is_never f451 = false
is_never f13e = false
is_never f432 = false

-- the tags that may stand where a line begins
abbrev pub tags_in : {E : Type 0} → List (Choice E) → List (List ℕ)
tags_in [] = []
tags_in (c ∷ cs) = cond (is_never c.row) (tags_in cs) (tag_of c.row ∷ tags_in cs)

module _ (E : Type 0) (may : E → List (Choice E)) (first last : E) where
  -- how many lines were read before a place
  abbrev pub lines_in : {s : List ℕ} {p : ℕ} {e : E} → Reached E may first last s p e → ℕ
  lines_in beginning = 0
  lines_in (behind c r h g k n) = lines_in r + 1

  -- what is told of the break b in the line n
  pub data Explained (s : List ℕ) (e : E) (b : Break) (n : ℕ) (t : Told) : Type 0 where
    -- none of the tags that may stand there does: just these
    is_missing : (x : Tags) → b.missing ≡ true → texts_of x ≡ tags_in (may e) → t ≡ told n (Missing x) 0 → Explained s e b n t
    -- this one stands there, its value begins behind it and is wrong
    is_wrong : (c : Choice E) (x : Tag) → b.missing ≡ false → standing (may e) (drop b.at s) ≡ Some c → tag_text x ≡ tag_of c.row → t ≡ told n (Wrong x) (b.at + length (tag_of c.row)) → Explained s e b n t
    -- a sub type that is not known
    is_unknown : (c : Choice E) → b.missing ≡ false → standing (may e) (drop b.at s) ≡ Some c → t ≡ told n Unknown (b.at + length (tag_of c.row)) → Explained s e b n t
    -- a 113 after CR
    is_never_lem : (c : Choice E) → b.missing ≡ false → standing (may e) (drop b.at s) ≡ Some c → is_never c.row ≡ true → t ≡ told n AfterCredit (b.at + length (tag_of c.row)) → Explained s e b n t

  -- the line is the one behind those that were read, and its break is explained
  pub record Tells (s : List ℕ) (b : Break) (t : Told) : Type 0 where
    pub expecting : E
    pub reached : Reached E may first last s b.at expecting
    pub fault : Explained s expecting b (lines_in reached + 1) t

-- of a request, and of a response
abbrev pub TellsRequest : List ℕ → Break → Told → Type 0
TellsRequest s b t = Tells Expecting choices at20 at_end s b t

abbrev pub TellsResponse : List ℕ → Break → Told → Type 0
TellsResponse s b t = Tells Awaiting replies on20 on_end s b t
