-- What is told of a response's break.
use Rattle.std.specs.Prelude.{Some}
use Prim.Native.Nat.{ℕ}
use mathlib.Core.Path.{◌≡◌, refl, ap}
use mathlib.Core.List.{List, [], ◌∷◌, ◌++◌}
use mathlib.Core.Bool.{Bool, true, false, cond}
use lib.Dec.{eqb}
use lib.ListN.{drop}
use Rattle.chars.specs.Words.{bytes, crlf}
use Rattle.text_scan.specs.Scan.{begins}
use Rattle.text_scan.specs.Spelling.{All, value_of}
use Rattle.text_fields.specs.declared.Break.{Break}
use Rattle.response_read.specs.Reply.{response_at}
use Rattle.response_read.specs.declared.Reply.TheVariants.{Refused}
use Rattle.thm_first_break.specs.Rows.{f12, f77e, f22a, f119, f_b20, f21, f451, f13e, f432}
use Rattle.thm_first_break.specs.Order.{Choice, choice}
use Rattle.thm_first_break.specs.Replies.{Awaiting, on20, on12, on77e, on21, on22a, on119, on451, on13e, on432, on_end, replies}
use Rattle.thm_first_break.specs.Breaks.{standing}
use Rattle.thm_first_break.proofs.Response.{first_break}
use Rattle.text_explain.specs.Tags.{texts_of}
use Rattle.text_explain.specs.Stages.{tags_at}
use Rattle.text_explain.specs.Faults.{told_at}
use Rattle.thm_explain.specs.Explained.{tags_in, TellsResponse}
use Rattle.text_explain.specs.declared.Tag.TheVariants.{T20, T12, T77E, T22A, T119, T21, T451, T13E, T432}
use Rattle.text_explain.specs.declared.Stage.{Stage}
use Rattle.text_explain.specs.declared.Stage.TheVariants.{On20, On12, On77E, On21, On22A, On119, On451, On13E, On432, AtEnd}
use Rattle.thm_explain.proofs.InLine.{in_line, in_line_lem}
use Rattle.thm_explain.proofs.Values.{answers, outcome}
use Rattle.thm_explain.proofs.Mirror.{nothing, Behaves, Mirrored, Mirror, alone, tells}

abbrev pub stage_of : Awaiting → Stage
stage_of on20 = On20
stage_of on12 = On12
stage_of (on77e settles) = On77E settles
stage_of (on21 settles) = On21 settles
stage_of on22a = On22A
stage_of (on119 stream) = On119
stage_of (on451 settles) = On451 settles
stage_of on13e = On13E
stage_of on432 = On432
stage_of on_end = AtEnd

-- the stream that was read holds no CR
abbrev pub Clean : Awaiting → Type 0
Clean (on119 stream) = All in_line stream
Clean on20 = Unit {0}
Clean on12 = Unit {0}
Clean (on77e settles) = Unit {0}
Clean (on21 settles) = Unit {0}
Clean on22a = Unit {0}
Clean (on451 settles) = Unit {0}
Clean on13e = Unit {0}
Clean on432 = Unit {0}
Clean on_end = Unit {0}

tags : (e : Awaiting) → texts_of (tags_at (stage_of e)) ≡ tags_in (replies e)
tags on20 = refl
tags on12 = refl
tags (on77e settles) = refl
tags (on21 settles) = refl
tags on22a = refl
tags (on119 stream) = refl
tags (on451 settles) = refl
tags on13e = refl
tags on432 = refl
tags on_end = refl

-- 21 of a 132 and of a 134
reference : (settles : Bool) → Behaves Awaiting replies stage_of Clean (on21 settles) (choice f21 (λ v. cond settles on22a (on451 settles))) T21
reference true v r k i n = (refl, (in_line_lem f21 v tt i, tt))
reference false v r k i n = (refl, (in_line_lem f21 v tt i, tt))

-- "then 13E after 0 or 432 after 1"
status : (settles : Bool) → Behaves Awaiting replies stage_of Clean (on451 settles) (choice f451 (λ v. cond (begins (bytes "0") v) (cond settles on13e on_end) on432)) T451
status settles v r k i n = go settles (begins (bytes "0") v) (outcome v r i) (in_line_lem f451 v tt i)
  where
    go : (a b : Bool) → begins (bytes "0") (v ++ (crlf ++ r)) ≡ b → All in_line v → (cond (begins (bytes "0") (v ++ (crlf ++ r))) (cond a On13E AtEnd) On432 ≡ stage_of (cond b (cond a on13e on_end) on432)) × (All in_line v × Clean (cond b (cond a on13e on_end) on432))
    go true true h w = (rw h, (w, tt))
    go true false h w = (rw h, (w, tt))
    go false true h w = (rw h, (w, tt))
    go false false h w = (rw h, (w, tt))

line : (e : Awaiting) (s : List ℕ) (p : ℕ) (c : Choice Awaiting) → standing (replies e) (drop p s) ≡ Some c → Mirrored Awaiting replies stage_of Clean e s p c
line on20 s p c h = alone Awaiting replies stage_of Clean on20 s p c (choice f_b20 (λ v. on12)) T20 refl refl (λ v r o g n. (refl, (in_line_lem f_b20 v tt g, tt))) h
line on12 s p c h = alone Awaiting replies stage_of Clean on12 s p c (choice (f12 (132 ∷ 134 ∷ [])) (λ v. on77e (eqb (value_of 0 v) 132))) T12 refl refl (λ v r o g n. (ap On77E (answers v r g n), (in_line_lem (f12 (132 ∷ 134 ∷ [])) v tt g, tt))) h
line (on77e settles) s p c h = alone Awaiting replies stage_of Clean (on77e settles) s p c (choice f77e (λ v. on21 settles)) T77E refl refl (λ v r o g n. (refl, (in_line_lem f77e v tt g, tt))) h
line (on21 settles) s p c h = alone Awaiting replies stage_of Clean (on21 settles) s p c (choice f21 (λ v. cond settles on22a (on451 settles))) T21 refl refl (reference settles) h
line on22a s p c h = alone Awaiting replies stage_of Clean on22a s p c (choice f22a (λ v. on119 v)) T22A refl refl (λ v r o g n. (refl, (in_line_lem f22a v tt g, in_line_lem f22a v tt g))) h
line (on119 stream) s p c h = alone Awaiting replies stage_of Clean (on119 stream) s p c (choice (f119 stream) (λ v. on451 true)) T119 refl refl (λ v r o g n. (refl, (in_line_lem (f119 stream) v o g, tt))) h
line (on451 settles) s p c h = alone Awaiting replies stage_of Clean (on451 settles) s p c (choice f451 (λ v. cond (begins (bytes "0") v) (cond settles on13e on_end) on432)) T451 refl refl (status settles) h
line on13e s p c h = alone Awaiting replies stage_of Clean on13e s p c (choice f13e (λ v. on_end)) T13E refl refl (λ v r o g n. (refl, (in_line_lem f13e v tt g, tt))) h
line on432 s p c h = alone Awaiting replies stage_of Clean on432 s p c (choice f432 (λ v. on_end)) T432 refl refl (λ v r o g n. (refl, (in_line_lem f432 v tt g, tt))) h
line on_end s p c h = nothing h

mirror : Mirror Awaiting replies stage_of Clean
mirror = record { tags = tags; line = line }

-- of a response that is refused, what is told is its first break
pub response_told : (s : List ℕ) (b : Break) → (response_at s).reply ≡ Refused b → TellsResponse s b (told_at s On20 b)
response_told s b h = tells Awaiting replies on20 on_end stage_of Clean mirror tt s b (first_break s b h)
