-- The numbers of the readers: 80, 81, 87 and 88, of a response 87 and 88.
use Rattle.std.specs.Prelude.{Some, None}
use Prim.Native.Nat.{ℕ, ◌+◌}
use mathlib.Core.Path.{◌≡◌, refl, ap, sym, ◌∙◌}
use mathlib.Core.List.{List, [], ◌∷◌}
use mathlib.Core.Bool.{Bool, true, false, cond, ◌&&◌}
use native.Mathlib.Omega.{arith}
use lib.ListN.{length, get_or, drop}
use Rattle.chars.specs.Words.{member}
use Rattle.chars.specs.Refusals.{number_of}
use Rattle.chars.specs.declared.Refusal.{Refusal}
use Rattle.chars.specs.declared.Refusal.TheVariants.{Malformed, OtherSubType, WrongEsa, WrongLetter}
use Rattle.text_scan.specs.Scan.{begins}
use Rattle.text_values.specs.Letters.{is_status}
use Rattle.text_fields.specs.declared.Break.{Break}
use Rattle.request_read.specs.whole.Request.{request_at}
use Rattle.request_read.specs.declared.whole.Outcome.TheVariants.{Refused as Unread}
use Rattle.response_read.specs.Reply.{response_at}
use Rattle.response_read.specs.declared.Reply.TheVariants.{Refused}
use Rattle.thm_first_break.specs.Rows.{Row, f20, f12, f77e, f22a, f119, f16a, f171, f175, f127, f32b, f113, no113, f102, f203, f_b20, f21, f451, f13e, f432, tag_of, four_characters, refusal_of}
use Rattle.thm_first_break.specs.Order.{Choice, choice}
use Rattle.thm_first_break.specs.Replies.{Awaiting, on20, on12, on77e, on21, on22a, on119, on451, on13e, on432, on_end, replies}
use Rattle.thm_first_break.specs.Breaks.{standing, Breaks, missing, wrong, other, OneOf}
use Rattle.thm_first_break.proofs.Request.{first_break as request-break}
use Rattle.thm_first_break.proofs.Response.{first_break as response-break}

letters_number : (l : List ℕ) → OneOf (80 ∷ 81 ∷ 87 ∷ 88 ∷ []) (refusal_of f113 l)
letters_number l = go (four_characters l) (is_status (get_or l 0 0)) (is_status (get_or l 1 0) && is_status (get_or l 2 0))
  where
    go : (a b c : Bool) → OneOf (80 ∷ 81 ∷ 87 ∷ 88 ∷ []) (cond a (cond b (cond c Malformed WrongLetter) WrongEsa) Malformed)
    go true true true = refl
    go true true false = refl
    go true false c = refl
    go false b c = refl

row_number : (f : Row) (l : List ℕ) → OneOf (80 ∷ 81 ∷ 87 ∷ 88 ∷ []) (refusal_of f l)
row_number f113 l = letters_number l
row_number f20 l = refl
row_number (f12 kinds) l = refl
row_number f77e l = refl
row_number f22a l = refl
row_number (f119 stream) l = refl
row_number f16a l = refl
row_number f171 l = refl
row_number f175 l = refl
row_number f127 l = refl
row_number f32b l = refl
row_number no113 l = refl
row_number f102 l = refl
row_number (f203 n) l = refl
row_number f_b20 l = refl
row_number f21 l = refl
row_number f451 l = refl
row_number f13e l = refl
row_number f432 l = refl

-- what a text is refused with is the number of a row, 87 or 88
by_break : {E : Type 0} {may : E → List (Choice E)} {first last : E} {s : List ℕ} {e : E} {b : Break} (numbers : List ℕ) → Breaks E may first last s e b → ((c : Choice E) (l : List ℕ) → standing (may e) (drop b.at s) ≡ Some c → OneOf numbers (refusal_of c.row l)) → OneOf numbers Malformed → OneOf numbers OtherSubType → OneOf numbers b.refusal
by_break {E} {may} {first} {last} {s} {e} {b} numbers v row malformed sub_type = go v
  where
    told : {r : Refusal} → b.refusal ≡ r → OneOf numbers r → OneOf numbers b.refusal
    told h o = ap (λ (r : Refusal). member (number_of r) numbers) h ∙ o

    go : Breaks E may first last s e b → OneOf numbers b.refusal
    go (missing h i f) = told (ap (λ (d : Break). d.refusal) h) malformed
    go (wrong c h i f) = told (ap (λ (d : Break). d.refusal) h) (row c (drop (b.at + length (tag_of c.row)) s) i)
    go (other c h i g k) = told (ap (λ (d : Break). d.refusal) h) sub_type

-- a request is refused with 80, 81, 87 or 88
pub request_numbers : (s : List ℕ) (b : Break) → (request_at s).outcome ≡ Unread b → OneOf (80 ∷ 81 ∷ 87 ∷ 88 ∷ []) b.refusal
request_numbers s b h = by_break (80 ∷ 81 ∷ 87 ∷ 88 ∷ []) (request-break s b h).breaks (λ c l i. row_number c.row l) refl refl

only_row : {E : Type 0} (c : Choice E) (l : List ℕ) {d : Choice E} → standing (c ∷ []) l ≡ Some d → d.row ≡ c.row
only_row {E} c l {d} h = go (begins (tag_of c.row) l) h
  where
    go : (b : Bool) → cond b (Some c) None ≡ Some d → d.row ≡ c.row
    go true h = let z : c ≡ d = cc in ap (λ (x : Choice E). x.row) (sym z)
    go false h = let z : ◌≡◌ {A = ℕ} 0 1 = cc in absurd (omega arith)

-- a response has no letters
reply_row : (e : Awaiting) (l m : List ℕ) (c : Choice Awaiting) → standing (replies e) l ≡ Some c → refusal_of c.row m ≡ Malformed
reply_row on20 l m c h = ap (λ (f : Row). refusal_of f m) (only_row (choice f_b20 _) l h)
reply_row on12 l m c h = ap (λ (f : Row). refusal_of f m) (only_row (choice (f12 _) _) l h)
reply_row (on77e b) l m c h = ap (λ (f : Row). refusal_of f m) (only_row (choice f77e _) l h)
reply_row (on21 b) l m c h = ap (λ (f : Row). refusal_of f m) (only_row (choice f21 _) l h)
reply_row on22a l m c h = ap (λ (f : Row). refusal_of f m) (only_row (choice f22a _) l h)
reply_row (on119 w) l m c h = ap (λ (f : Row). refusal_of f m) (only_row (choice (f119 w) _) l h)
reply_row (on451 b) l m c h = ap (λ (f : Row). refusal_of f m) (only_row (choice f451 _) l h)
reply_row on13e l m c h = ap (λ (f : Row). refusal_of f m) (only_row (choice f13e _) l h)
reply_row on432 l m c h = ap (λ (f : Row). refusal_of f m) (only_row (choice f432 _) l h)
reply_row on_end l m c h = let z : ◌≡◌ {A = ℕ} 0 1 = cc in absurd (omega arith)

-- a response with 87 or 88
pub response_numbers : (s : List ℕ) (b : Break) → (response_at s).reply ≡ Refused b → OneOf (87 ∷ 88 ∷ []) b.refusal
response_numbers s b h =
    let f = response-break s b h in
    by_break (87 ∷ 88 ∷ []) f.breaks (λ c l i. ap (λ (r : Refusal). member (number_of r) (87 ∷ 88 ∷ [])) (reply_row f.expecting (drop b.at s) l c i)) refl refl
