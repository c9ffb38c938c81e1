-- A text walked through line by line from its beginning, up to a place.
use Rattle.std.specs.Prelude.{ℕ, zero, suc, ◌+◌, List, Option, Some, None, cond, ltb, length, drop}
use Rattle.text_scan.specs.Scan.{on_next, lit_at, line_end_at}
use Rattle.text_explain.specs.Tags.{tag_text}
use Rattle.text_explain.specs.Stages.{tags_at, after, said_in}
use Rattle.text_explain.specs.declared.Tag.{Tag}
use Rattle.text_explain.specs.declared.Tags.{Tags}
use Rattle.text_explain.specs.declared.Tags.TheVariants.{Ending, One, Two}
use Rattle.text_explain.specs.declared.Stage.{Stage}
use Rattle.text_explain.specs.declared.Place.{Place}

abbrev pub place : ℕ → ℕ → Stage → Place
place at line stage = record { at = at; line = line; stage = stage }

abbrev pub on_here : {A : Type 0} → Option (Tag × ℕ) → A → (Tag → ℕ → A) → A
on_here (Some x) d k = k x.0 x.1
on_here None d k = d

abbrev pub on_onto : {A : Type 0} → Option Place → A → (Place → A) → A
on_onto (Some p) d k = k p
on_onto None d k = d

-- the tag that stands at a place, and where its value begins
abbrev pub one_at : List ℕ → ℕ → Tag → Option (Tag × ℕ)
one_at s p t = on_next (lit_at s p (tag_text t)) None (λ a. Some (t, a))

unfoldable pub stands_at : List ℕ → ℕ → Tags → Option (Tag × ℕ)
stands_at s p Ending = None
stands_at s p (One t) = one_at s p t
stands_at s p (Two t u) = on_next (lit_at s p (tag_text t)) (one_at s p u) (λ a. Some (t, a))

-- the next line begins behind the first CR LF after the tag
unfoldable pub onward_at : List ℕ → Place → Tag → ℕ → Option Place
onward_at s p t a = on_next (line_end_at s a (length s)) None (λ e. Some (place (e + 2) (p.line + 1) (after p.stage t (said_in (drop a s)))))

unfoldable pub step_at : List ℕ → Place → Option Place
step_at s p = on_here (stands_at s p.at (tags_at p.stage)) None (λ t a. onward_at s p t a)

-- from line to line, n at the most, while the next one begins before the place; it stays where there is no next one
unfoldable pub walk : ℕ → ℕ → List ℕ → Place → Place
walk zero at s p = p
walk (suc n) at s p = cond (ltb p.at at) (on_onto (step_at s p) p (λ q. walk n at s q)) p

-- the first line, which begins where the text does
abbrev pub first : Stage → Place
first stage = place 0 1 stage

-- no more lines begin before a place than it has bytes before it
unfoldable pub place_at : List ℕ → Stage → ℕ → Place
place_at s stage at = walk at at s (first stage)
