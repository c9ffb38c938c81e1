-- "Tags and values in text order: the first break gives 87": where and how a text breaks, by what may stand where its lines begin.
use Rattle.std.specs.Prelude.{ℕ, ◌+◌, ◌≡◌, List, [], ◌∷◌, true, false, cond, length, drop, Option, Some, None}
use Rattle.chars.specs.Words.{member}
use Rattle.chars.specs.Refusals.{number_of}
use Rattle.chars.specs.declared.Refusal.{Refusal}
use Rattle.chars.specs.declared.Refusal.TheVariants.{OtherSubType}
use Rattle.text_scan.specs.Scan.{begins}
use Rattle.text_fields.specs.Fields.{absent, broken}
use Rattle.text_fields.specs.declared.Break.{Break}
use Rattle.text_fields.specs.Grammar.{Line}
use Rattle.thm_first_break.specs.Rows.{tag_of, Is, known, refusal_of}
use Rattle.thm_first_break.specs.Order.{Choice, Expecting, at20, at_end, choices}
use Rattle.thm_first_break.specs.Replies.{Awaiting, on20, on_end, replies}

-- the row whose tag stands at the head of a list
abbrev pub standing : {E : Type 0} → List (Choice E) → List ℕ → Option (Choice E)
standing [] l = None
standing (c ∷ cs) l = cond (begins (tag_of c.row) l) (Some c) (standing cs l)

-- what may stand where a line begins, what is expected where the text begins, and what where it may end
module _ (E : Type 0) (may : E → List (Choice E)) (first last : E) where
  -- the lines of the text before a place are the beginning of a text, and this is expected there
  pub data Reached (s : List ℕ) : ℕ → E → Type 0 where
    beginning : Reached s 0 first
    -- and one line more: its tag may stand there, its value is well-formed and known, and the next place is behind its CR LF
    behind : {p q : ℕ} {e : E} (c : Choice E) → Reached s p e → standing (may e) (drop p s) ≡ Some c → (g : Line (tag_of c.row) (Is c.row) (drop p s) (drop q s)) → known c.row g.value ≡ true → q ≡ p + length (tag_of c.row) + length g.value + 2 → Reached s q (c.next g.value)

  -- what stands where the break says breaks the text, in the way that its number names
  pub data Breaks (s : List ℕ) (e : E) (b : Break) : Type 0 where
    -- nothing stands there that may, and the text may not end there
    missing : b ≡ absent b.at → standing (may e) (drop b.at s) ≡ None → (e ≡ last → drop b.at s ≡ [] → ⊥) → Breaks s e b
    -- the tag of a row stands there, and behind it no well-formed value with CR LF
    wrong : (c : Choice E) → b ≡ broken b.at (refusal_of c.row (drop (b.at + length (tag_of c.row)) s)) → standing (may e) (drop b.at s) ≡ Some c → ((r : List ℕ) → Line (tag_of c.row) (Is c.row) (drop b.at s) r → ⊥) → Breaks s e b
    -- "a well-formed sub type other than .." stands there
    other : (c : Choice E) {r : List ℕ} → b ≡ broken b.at OtherSubType → standing (may e) (drop b.at s) ≡ Some c → (g : Line (tag_of c.row) (Is c.row) (drop b.at s) r) → known c.row g.value ≡ false → Breaks s e b

  -- the break that a reader is to answer: no other line before it breaks the text
  pub record FirstBreak (s : List ℕ) (b : Break) : Type 0 where
    pub expecting : E
    pub reached : Reached s b.at expecting
    pub breaks : Breaks s expecting b

-- of a request, and of a response
abbrev pub RequestBreaks : List ℕ → Break → Type 0
RequestBreaks s b = FirstBreak Expecting choices at20 at_end s b

abbrev pub ResponseBreaks : List ℕ → Break → Type 0
ResponseBreaks s b = FirstBreak Awaiting replies on20 on_end s b

-- a refusal's number is one of these
abbrev pub OneOf : List ℕ → Refusal → Type 0
OneOf numbers r = member (number_of r) numbers ≡ true
