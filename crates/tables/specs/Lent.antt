-- A call on what is lent: the tables, an output buffer and a try row. What the code of the calls will be held to.
use Rattle.std.specs.Prelude.{ℕ, ◌≡◌, Bool, cond, List, length, Ok, Err}
use Rattle.std.proofs.lemmas.List.Edits.{sets}
use Rattle.chars.specs.Words.{Says}
use Rattle.chars.specs.declared.Refusal.TheVariants.{BrokenTables}
use Rattle.settle.specs.Payments.{table_length}
pub use Rattle.model.specs.Calls.{Asked}
use Rattle.model.specs.Answers.{Answer}
use Rattle.model.specs.Calls.{Call, Result, call, cleared}
use Rattle.model.specs.Rules.{Valid, RightMemory}
use Rattle.tables.specs.declared.Desk.{Desk}
use Rattle.tables.specs.Rows.{Tables, engine_in}
use Rattle.tables.specs.Words.{sheet_length, tables_of, desk_of}

-- "A lent table breaks the table rules": the state that they say keeps the rules, and they are just its words
pub record Right (d : Desk) (t : Tables) : Type 0 where
  pub valid : Valid (engine_in d t).state
  pub memory : RightMemory (engine_in d t).state.batches (engine_in d t).memory
  pub desk : desk_of (engine_in d t).state ≡ d
  pub tables : tables_of (engine_in d t) ≡ t

pub record Lent : Type 0 where
  pub desk : Desk
  pub tables : Tables
  pub out : List ℕ
  pub tries : List ℕ

abbrev pub call_of : Lent → Asked → Call
call_of x a = record { asked = a; room = length x.out; rows = length x.tries }

-- the answer, how much of buffer and row was written, and what is left in all that was lent
pub record Left : Type 0 where
  pub answer : Answer
  pub written : ℕ
  pub tried : ℕ
  pub lent : Lent

abbrev pub left_by : Lent → Result → Left
left_by x r = record {
  answer = r.answer;
  written = length r.out;
  tried = length r.tries;
  lent = record {
    desk = desk_of r.engine.state;
    tables = tables_of r.engine;
    out = sets x.out 0 r.out;
    tries = sets x.tries 0 r.tries;
  };
}

-- 06: "nothing changed"
abbrev pub broken : Lent → Left
broken x = record { answer = Err BrokenTables; written = 0; tried = 0; lent = x }

unfoldable pub call_lent : Bool → Lent → Asked → Left
call_lent kept x a = cond kept (left_by x (call (engine_in x.desk x.tables) (call_of x a))) (broken x)

-- what a call promises: whether the tables keep the rules, and all that it leaves
pub record Called (x : Lent) (a : Asked) (y : Left) : Type 0 where
  pub kept : Bool
  pub says : Says (Right x.desk x.tables) kept
  pub is : y ≡ call_lent kept x a

-- "lengths 64, 32, 2,048, 512", of rows that times the width; the sheet has its own
pub record Long (t : Tables) : Type 0 where
  pub codes : length t.codes ≡ 64
  pub flags : length t.flags ≡ 64
  pub balances : length t.balances ≡ 64
  pub sublimits : length t.sublimits ≡ 64
  pub batches : length t.batches ≡ table_length
  pub references : length t.references ≡ 6144
  pub bins : length t.bins ≡ 1536
  pub sheet : length t.sheet ≡ sheet_length

-- what a clearing leaves: "accepts any contents of the right lengths (else 06, its one refusal) and is a fresh start"
pub record Wiped : Type 0 where
  pub answer : Answer
  pub desk : Desk
  pub tables : Tables

unfoldable pub clear_lent : Bool → Desk → Tables → Wiped
clear_lent long d t =
    cond long
    (record { answer = Ok tt; desk = desk_of cleared.state; tables = tables_of cleared })
    (record { answer = Err BrokenTables; desk = d; tables = t })

pub record Cleared (d : Desk) (t : Tables) (y : Wiped) : Type 0 where
  pub long : Bool
  pub says : Says (Long t) long
  pub is : y ≡ clear_lent long d t
