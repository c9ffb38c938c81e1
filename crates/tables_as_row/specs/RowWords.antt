-- What a row of 20,608 words says of a desk and of the lent tables.
use Rattle.std.specs.Prelude.{ℕ, ◌+◌, ◌≡◌, Bool, cond, List, eqb, ltb, length, get_or, take, drop}
use Rattle.chars.specs.Words.{Says}
use Rattle.model.specs.declared.Phase.{Phase}
use Rattle.model.specs.declared.Phase.TheVariants.{Fresh, Open, Closed}
use Rattle.tables.specs.declared.Desk.{Desk}
use Rattle.tables.specs.Rows.{Tables}
use Rattle.tables.specs.Moment.{lent_on}
use Rattle.tables.specs.Lent.{Right}

abbrev pub row_words : ℕ
row_words = 20608

-- 0 fresh, 1 open, any other closed
abbrev pub phase_by : ℕ → Phase
phase_by n = cond (eqb n 0) Fresh (cond (eqb n 1) Open Closed)

unfoldable pub desk_in : List ℕ → Desk
desk_in w = record {
  phase = phase_by (get_or w 0 0);
  date = get_or w 1 0;
  clock = get_or w 2 0;
  texts = get_or w 3 0;
  banks = get_or w 4 0;
  streams = take 16 (drop 6 w);
  n = get_or w 5 0;
}

-- how many words of a table are lent: what its word says, at most its room
abbrev pub lent_of : List ℕ → (table room : ℕ) → ℕ
lent_of w table room = cond (ltb room (get_or w (24 + table) 0)) room (get_or w (24 + table) 0)

abbrev pub part : List ℕ → (table start room : ℕ) → List ℕ
part w table start room = take (lent_of w table room) (drop start w)

-- each table has room for one word more than it should have
unfoldable pub tables_in : List ℕ → Tables
tables_in w =
    lent_on (part w 0 32 65) (part w 1 128 65) (part w 2 224 65) (part w 3 320 65) (part w 4 512 11169) (part w 5 11776 6145) (part w 6 17984 1537)
    (part w 7 19584 65)

-- 0 exactly for a row of the right length whose desk and tables keep the table rules; else 6
pub record Judged (w : List ℕ) (number : ℕ) : Type 0 where
  pub right : Bool
  pub says : Says ((length w ≡ row_words) × Right (desk_in w) (tables_in w)) right
  pub is : number ≡ cond right 0 6
