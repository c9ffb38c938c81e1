-- Any calls and clearings, one after another, from a start.
use Rattle.std.specs.Prelude.{List, [], ◌∷◌, ◌++◌}
use Rattle.model.specs.Calls.{Call, Engine, Result, cleared}

-- the start that promises begin from
abbrev pub start : Engine
start = cleared

pub data Deed : Type 0 where
  clears : Deed
  calls : Call → Deed

-- an engine after some calls, f being what a call leaves
unfoldable pub after : (Engine → Call → Result) → Engine → List Call → Engine
after f e [] = e
after f e (c ∷ cs) = after f (f e c).engine cs

-- "Clearing .. is a fresh start"
unfoldable pub course : (Engine → Call → Result) → Engine → List Deed → Engine
course f e [] = e
course f e (clears ∷ ds) = course f cleared ds
course f e (calls c ∷ ds) = course f (f e c).engine ds

-- the calls since the last clearing, `cs` being those before the deeds
unfoldable pub since_on : List Call → List Deed → List Call
since_on cs [] = cs
since_on cs (clears ∷ ds) = since_on [] ds
since_on cs (calls c ∷ ds) = since_on (cs ++ (c ∷ [])) ds

abbrev pub since : List Deed → List Call
since ds = since_on [] ds
