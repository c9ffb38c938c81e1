-- A clearing of words that is done is a clearing as the rules see it.
use Rattle.std.specs.Prelude.{Ok}
use mathlib.Core.Path.{◌≡◌, refl, ap}
use Prim.Native.Nat.{ℕ}
use native.Mathlib.Omega.{arith}
use mathlib.Core.Bool.{Bool, true, false}
use lib.ListN.{length-replicate}
use Rattle.chars.specs.Words.{Says}
use Rattle.model.specs.Calls.{cleared}
use Rattle.tables.specs.Words.{sheet_length, desk_of, tables_of}
use Rattle.tables.specs.Lent.{Long, Cleared, clear_lent}
use Rattle.tables_rules.proofs.whole.Parts.{is_blank_lem, blank_tables}
use Rattle.c_engine.specs.Lending.{desk_in, banks_length, banks_in, EngineWords, tables_by, Shaped, LongWords, Started, no_words, clear_words, ClearedWords}
use Rattle.c_engine.proofs.Banks.{columns_long, waiting_long}

no_desk : desk_in no_words.desk ≡ desk_of cleared.state
unfolding no_words desk_in desk_of
no_desk = refl

no_tables : tables_by no_words ≡ tables_of cleared
unfolding no_words banks_in
no_tables =
    blank_tables (tables_by no_words)
    (record { codes_none = is_blank_lem 64 _ refl; flags_none = is_blank_lem 64 _ refl; balances_none = is_blank_lem 64 _ refl; sublimits_none = is_blank_lem 64 _ refl })
    (record { batches_none = is_blank_lem 11168 _ refl; references_none = is_blank_lem 6144 _ refl; bins_none = is_blank_lem 1536 _ refl })
    (is_blank_lem sheet_length _ refl)

-- rows of the right lengths are tables of the right lengths
pub long_tables : (x : EngineWords) → LongWords x → Long (tables_by x)
long_tables x l =
    let c = columns_long x.banks l.banks_long in
    record {
      codes = c.codes_long;
      flags = c.flags_long;
      balances = c.balances_long;
      sublimits = c.sublimits_long;
      batches = l.batches_long;
      references = l.references_long;
      bins = l.bins_long;
      sheet = waiting_long x.banks l.banks_long;
    }

pub cleared_as_seen : (x : EngineWords) (y : Started) → ClearedWords x y → y.number ≡ 0
    → Cleared (desk_in x.desk) (tables_by x) (record { answer = Ok tt; desk = desk_in y.words.desk; tables = tables_by y.words })
unfolding clear_words clear_lent
cleared_as_seen x y c h = go c.long c.says c.is
  where
    go : (k : Bool) → Says (LongWords x) k → y ≡ clear_words k x
        → Cleared (desk_in x.desk) (tables_by x) (record { answer = Ok tt; desk = desk_in y.words.desk; tables = tables_by y.words })
    go true l e = record { long = true; says = long_tables x l; is = rw (e, no_desk, no_tables) }
    go false l e = absurd (omega (arith, h, ap (λ (z : Started). z.number) e))

-- and its words are in shape
pub cleared_shaped : (x : EngineWords) (y : Started) → ClearedWords x y → y.number ≡ 0 → Shaped y.words.desk y.words.banks
unfolding clear_words no_words
cleared_shaped x y c h = go c.long c.is
  where
    go : (k : Bool) → y ≡ clear_words k x → Shaped y.words.desk y.words.banks
    go true e = rw e (record { desk_long = length-replicate {A = ℕ} 22 0; phase_right = omega arith; banks_long = length-replicate {A = ℕ} banks_length 0 })
    go false e = absurd (omega (arith, h, ap (λ (z : Started). z.number) e))
