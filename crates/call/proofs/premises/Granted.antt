-- What the code of the calls may take for granted of tables that keep the rules.
use Prim.Native.Nat.{ℕ, zero, suc, ◌≤◌}
use mathlib.Core.Path.{◌≡◌, refl, sym, subst}
use mathlib.Core.Bool.{Bool, true, false, not, cond, ◌&&◌}
use mathlib.Core.List.{List, [], ◌∷◌}
use native.Mathlib.Omega.{arith}
use lib.Dec.{eqb}
use lib.ListN.{length}
use Rattle.book_read.proofs.Filling.{each_length}
use Rattle.book_write.specs.Closing.{stream_of}
use Rattle.settle.specs.Settlement.{accounts}
use Rattle.model.specs.declared.Phase.{Phase}
use Rattle.model.specs.declared.Phase.TheVariants.{Fresh, Open, Closed}
use Rattle.codes.specs.Codes.{no_code}
use Rattle.model.specs.State.{Entry, same_code, no_batches}
use Rattle.model.specs.Calls.{cleared}
use Rattle.model.specs.Rules.{noted_today}
use Rattle.model.proofs.Standing.{stood}
use Rattle.model.proofs.Settling.{house_books}
use Rattle.tables.specs.declared.Desk.{Desk}
use Rattle.tables.specs.House.{house_on}
use Rattle.tables.specs.Rows.{Tables, word, batch_in, batch_rows, batches_in, memory_in, entries_in}
use Rattle.tables.specs.Words.{desk_of, tables_of}
use Rattle.tables.specs.Lent.{Right}
use Rattle.tables.proofs.Kept.{right_long}
use Rattle.tables_rules.specs.batch_rules.BatchRules.{LiveRow, RowIn}
use Rattle.tables_rules.proofs.batch_rules.RowRules.{live_few, live_small, live_flat}
use Rattle.tables_rules.proofs.batch_rules.Exact.{rows_wide, each_at, rules_exact}
use Rattle.tables_rules.specs.whole.TableRules.{DayTables, TablesIn}
use Rattle.tables_rules.proofs.whole.Parts.{entries_many, idle, none_desk, none_tables, tables_exact}
use Rattle.call_orders.proofs.Canon.{words_neat}
pub use Rattle.call.specs.premises.Granting.{row_at, Granted}
use Rattle.call_plan.specs.rules.Steps.{Counted}

-- ---- a live row

live_in : (banks : ℕ) (row : List ℕ) (w : ℕ) → RowIn w banks row → (w ≡ 0 → ⊥) → LiveRow banks row
live_in banks row zero r n = absurd (n refl)
live_in banks row (suc zero) r n = r.0
live_in banks row (suc (suc zero)) r n = r.0
live_in banks row (suc (suc (suc zero))) r n = r.0
live_in banks row (suc (suc (suc (suc w)))) r n = absurd r

row_counted : (banks : ℕ) (row : List ℕ) → length row ≡ 349 → LiveRow banks row → Counted row
unfolding batch_in
row_counted banks row l v = record {
  long = l;
  messages = live_few banks row l v;
  payments = live_small banks row l v;
  same = sym (live_flat banks row l v);
}

-- ---- today's references are some of all

count_one : (b : Bool) → cond b 1 0 ≤ 1
count_one true = omega arith
count_one false = omega arith

noted_few : (today : ℕ) (es : List Entry) → noted_today today es ≤ length es
noted_few today [] = omega arith
noted_few today (e ∷ es) = omega (arith, count_one (not (same_code e.code no_code) && eqb e.day today), noted_few today es)

-- ---- the whole

module _ (d : Desk) (t : Tables) where
  pub day_grants : Right d t → DayTables d t → Granted d t
  day_grants r x =
      let u = (rules_exact d.banks t.batches).to x.batches in
      let s = stood d.banks (batches_in t.batches) u.batches in
      let h = x.desk.house in
      record {
        date = x.desk.date;
        clock = x.desk.clock;
        some_streams = x.desk.some_streams;
        few_streams = omega (arith, h.few_streams, each_length (stream_of d.streams) 0 d.n);
        streams_long = x.desk.streams_long;
        some_banks = x.desk.some_banks;
        few_banks = h.few_banks;
        long = right_long d t r;
        house = h;
        books = house_books (house_on d t.codes t.flags) (accounts t.balances t.sublimits) h;
        stood = s;
        memory = u.memory;
        words = sym u.words;
        neat = words_neat d.banks (batches_in t.batches) (memory_in t.batches) t.batches s u.memory (sym u.words);
        counted = λ p b n.
            row_counted d.banks (row_at t.batches p) (rows_wide 32 p t.batches (omega (arith, x.batches.long)) b)
            (live_in d.banks (row_at t.batches p) (word (row_at t.batches p) 0) (each_at d.banks (batch_rows t.batches) p x.batches.rows) n);
        known = x.known;
        cross = x.cross;
        texts = omega (arith, x.cross.answered, noted_few d.date (entries_in 2048 t.references), entries_many 2048 t.references);
      }

  in_phase : (p : Phase) → d.phase ≡ p → Right d t → TablesIn p d t
  in_phase p e r = subst (λ (q : Phase). TablesIn q d t) e ((tables_exact d t).back r)

  pub open_grants : d.phase ≡ Open → Right d t → Granted d t
  open_grants e r = day_grants r (in_phase Open e r)

  pub closed_grants : d.phase ≡ Closed → Right d t → Granted d t
  closed_grants e r = day_grants r (in_phase Closed e r).day

  -- "no live batch unless the day is open"
  pub closed_idle : d.phase ≡ Closed → Right d t → batches_in t.batches ≡ no_batches
  closed_idle e r = let x = in_phase Closed e r in idle d t (record { long = x.day.batches.long; zero = x.idle })

  -- before the first day desk and tables are those of a fresh start
  pub fresh_desk : d.phase ≡ Fresh → Right d t → d ≡ desk_of cleared.state
  fresh_desk e r = none_desk d t e (in_phase Fresh e r)

  pub fresh_tables : d.phase ≡ Fresh → Right d t → t ≡ tables_of cleared
  fresh_tables e r = none_tables d t (in_phase Fresh e r)
