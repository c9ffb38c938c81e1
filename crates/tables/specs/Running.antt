-- Calls one after another on the lent tables; buffer and try row are lent anew for each.
use Rattle.std.specs.Prelude.{ℕ, List, [], ◌∷◌, length}
use Rattle.model.specs.Calls.{Call, Result}
use Rattle.tables.specs.declared.Desk.{Desk}
use Rattle.tables.specs.Rows.{Tables}
use Rattle.tables.specs.Words.{tables_of, desk_of}
use Rattle.tables.specs.Lent.{Lent, Asked, Left, left_by, Called}

-- what one call is asked, and the buffer and the row lent to it
pub record Lending : Type 0 where
  pub asked : Asked
  pub out : List ℕ
  pub tries : List ℕ

abbrev pub lent_to : Desk → Tables → Lending → Lent
lent_to d t k = record { desk = d; tables = t; out = k.out; tries = k.tries }

-- "Each engine call but clearing carries the clock in seconds, an output buffer and a try row"
abbrev pub call_in : Lending → Call
call_in k = record { asked = k.asked; room = length k.out; rows = length k.tries }

-- each call finds the tables as the one before left them
pub data Ran : Desk → Tables → List Lending → List Left → Type 0 where
  done : {d : Desk} {t : Tables} → Ran d t [] []
  then : {d : Desk} {t : Tables} {k : Lending} {ks : List Lending} {y : Left} {ys : List Left} → Called (lent_to d t k) k.asked y
      → Ran y.lent.desk y.lent.tables ks ys → Ran d t (k ∷ ks) (y ∷ ys)

-- what the results of the rules leave in what was lent
abbrev pub left_in : Lending → Result → Left
left_in k r = left_by (lent_to (desk_of r.engine.state) (tables_of r.engine) k) r

unfoldable pub left_all : List Lending → List Result → List Left
left_all [] rs = []
left_all (k ∷ ks) [] = []
left_all (k ∷ ks) (r ∷ rs) = left_in k r ∷ left_all ks rs
