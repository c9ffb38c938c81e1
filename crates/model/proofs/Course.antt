-- A clearing is a fresh start: what stands after any deeds stands after the calls since the last clearing.
use mathlib.Core.Path.{◌≡◌, refl, sym, ap, ◌∙◌}
use mathlib.Core.List.{List, [], ◌∷◌, ◌++◌}
use Rattle.model.specs.Calls.{Call, Engine, Result, cleared}
use Rattle.model.specs.Course.{start, Deed, clears, calls, after, course, since_on, since}

after_last : (f : Engine → Call → Result) (cs : List Call) (c : Call) (e : Engine) → after f e (cs ++ (c ∷ [])) ≡ (f (after f e cs) c).engine
unfolding after
after_last f [] c e = refl
after_last f (d ∷ cs) c e = after_last f cs c (f e d).engine

course_on : (f : Engine → Call → Result) (ds : List Deed) (cs : List Call) → course f (after f start cs) ds ≡ after f start (since_on cs ds)
unfolding course since_on after
course_on f [] cs = refl
course_on f (clears ∷ ds) cs = course_on f ds []
course_on f (calls c ∷ ds) cs = ap (λ (e : Engine). course f e ds) (sym (after_last f cs c start)) ∙ course_on f ds (cs ++ (c ∷ []))

pub since_course : (f : Engine → Call → Result) (ds : List Deed) → course f start ds ≡ after f start (since ds)
unfolding after
since_course f ds = course_on f ds []

pub course_last : (f : Engine → Call → Result) (ds : List Deed) (c : Call) (e : Engine) → course f e (ds ++ (calls c ∷ [])) ≡ (f (course f e ds) c).engine
unfolding course
course_last f [] c e = refl
course_last f (clears ∷ ds) c e = course_last f ds c cleared
course_last f (calls d ∷ ds) c e = course_last f ds c (f e d).engine
