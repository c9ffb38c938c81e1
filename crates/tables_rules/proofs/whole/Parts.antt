-- The rules over what is lent, part by part, are exactly `Right`.
use Rattle.std.proofs.Common.{◌≡◌, ℕ, zero, suc, ◌+◌, ◌*◌, ◌≤◌, List, [], ◌∷◌, ◌++◌, length, get_or, take, drop, replicate, sym, refl, ap, ◌∙◌, subst, arith, drop-cons}
use lib.ListN.{length-map, length-replicate, replicate-append-replicate}
use Rattle.book_read.specs.Book.{each}
use Rattle.book_read.specs.Accounts.{Stream, stream_row}
use Rattle.book_read.proofs.Filling.{each_length}
use Rattle.book_write.specs.Closing.{stream_of}
use Rattle.model.specs.declared.Phase.{Phase}
use Rattle.model.specs.declared.Phase.TheVariants.{Fresh, Open, Closed}
use Rattle.model.specs.State.{free, Batches, no_entry, State, fresh, no_batches}
use Rattle.model.specs.Calls.{Engine, cleared}
use Rattle.model.specs.Rules.{Opened, Valid, ValidIn, RightMemory}
use Rattle.model.proofs.Standing.{right}
use Rattle.model.proofs.Validity.{valid_kept}
use Rattle.model.proofs.Holding.{cleared_memory}
use Rattle.tables.specs.declared.Desk.{Desk}
use Rattle.tables.specs.House.{AllZero}
use Rattle.tables.specs.Rows.{Tables, rows, streams_on, batches_in, memory_in, entries_in, state_in, engine_in}
use Rattle.tables.specs.Words.{filled, places_words, entries_words, waiting_by, sheet_words, sheet_length, tables_of, desk_of}
use Rattle.tables.specs.Lent.{Right}
use Rattle.tables.specs.Moment.{lent_on}
use Rattle.tables.proofs.Rowing.{filled_long}
use Rattle.tables.proofs.Held.{held}
use Rattle.tables.proofs.Kept.{right_of, right_long}
use Rattle.tables.proofs.TestLaws.{Both}
use Rattle.tables_rules.proofs.batch_rules.RowWords.{zeros, all_zero, filled_part, part_filled}
use Rattle.tables_rules.proofs.batch_rules.Exact.{rows_many, rules_exact}
use Rattle.tables_rules.specs.batch_rules.BatchRules.{BatchRules}
use Rattle.tables_rules.specs.whole.TableRules.{Blank, NoAccounts, NoRows, NoTables, DayTables, TablesIn, TableRules}

-- ---- references and BINs: rows of three words have no unused ones

pub entries_words_lem : (n : ℕ) (l : List ℕ) → length l ≡ 3 * n → entries_words (entries_in n l) ≡ l
unfolding entries_in rows entries_words
entries_words_lem zero [] h = refl
entries_words_lem zero (x ∷ l) h = absurd (omega arith)
entries_words_lem (suc n) [] h = absurd (omega arith)
entries_words_lem (suc n) (x ∷ []) h = absurd (omega arith)
entries_words_lem (suc n) (x ∷ y ∷ []) h = absurd (omega arith)
entries_words_lem (suc n) (x ∷ y ∷ z ∷ l) h = ap (λ (r : List ℕ). x ∷ y ∷ z ∷ r) (entries_words_lem n l (omega arith))

pub entries_many : (n : ℕ) (l : List ℕ) → length (entries_in n l) ≡ n
unfolding entries_in
entries_many n l = length-map (rows 3 n l) _ ∙ rows_many 3 n l

-- ---- streams

row_long : (xs : List Stream) → length (stream_row xs) ≡ 2 * length xs
row_long [] = refl
row_long (x ∷ xs) = omega (arith, row_long xs)

two : (row : List ℕ) (j : ℕ) → j + 2 ≤ length row → drop j row ≡ get_or row j 0 ∷ get_or row (j + 1) 0 ∷ drop (j + 2) row
two row j h =
    let a : j + 1 ≡ suc j = omega arith in
    let b : j + 2 ≡ suc (suc j) = omega arith in
    rw (a, b) (drop-cons row j 0 (omega arith) ∙ ap (λ (l : List ℕ). get_or row j 0 ∷ l) (drop-cons row (suc j) 0 (omega arith)))

stream_words : (row : List ℕ) (i n : ℕ) → 2 * i + 2 * n ≤ length row → stream_row (each (stream_of row) i n) ≡ take (2 * n) (drop (2 * i) row)
stream_words row i zero h = refl
stream_words row i (suc n) h =
    let e : 2 * suc n ≡ suc (suc (2 * n)) = omega arith in
    let f : 2 * (i + 1) ≡ 2 * i + 2 = omega arith in
    rw (e, stream_words row (i + 1) n (omega arith), f, two row (2 * i) (omega arith))

module _ (row : List ℕ) (n : ℕ) (few : n ≤ 8) where
  streams_here : length row ≡ 16 → AllZero (drop (2 * n) row) → filled 16 (stream_row (each (stream_of row) 0 n)) ≡ row
  streams_here l z = ap (filled 16) (stream_words row 0 n (omega arith)) ∙ filled_part 16 (2 * n) row l (omega arith) z

  streams_back : filled 16 (stream_row (each (stream_of row) 0 n)) ≡ row → AllZero (drop (2 * n) row)
  streams_back e =
      subst (λ (l : List ℕ). AllZero (drop (2 * n) l)) e
      (part_filled 16 (2 * n) (stream_row (each (stream_of row) 0 n)) (row_long (each (stream_of row) 0 n) ∙ ap (λ (k : ℕ). 2 * k) (each_length (stream_of row) 0 n)) (omega arith))

-- ---- zeros

pub blank_is : (n : ℕ) (l : List ℕ) → Blank n l → l ≡ replicate n 0
blank_is n l b = zeros l b.zero ∙ ap (λ (k : ℕ). replicate k 0) b.long

pub is_blank_lem : (n : ℕ) (l : List ℕ) → l ≡ replicate n 0 → Blank n l
is_blank_lem n l e = record { long = ap length e ∙ length-replicate {A = ℕ} n 0; zero = subst (λ (x : List ℕ). AllZero x) (sym e) (all_zero n) }

entries_none : (n : ℕ) → entries_words (replicate n no_entry) ≡ replicate (3 * n) 0
unfolding entries_words
entries_none zero = refl
entries_none (suc n) = let e : 3 * suc n ≡ suc (suc (suc (3 * n))) = omega arith in rw (e, entries_none n)

places_none : (b : Batches) (m : List ℕ) (p n : ℕ) → places_words b m p (replicate n free) ≡ replicate (349 * n) 0
unfolding places_words
places_none b m p zero = refl
places_none b m p (suc n) =
    let e : 349 * suc n ≡ 349 + 349 * n = omega arith in
    ap (λ (l : List ℕ). replicate 349 0 ++ l) (places_none b m (p + 1) n) ∙ replicate-append-replicate 349 (349 * n) 0 ∙ ap (λ (k : ℕ). replicate k 0) (sym e)

-- ---- a day's tables

module _ (d : Desk) (t : Tables) where
  day_opened : DayTables d t → Opened (state_in d t)
  unfolding state_in batches_in
  day_opened x = record {
    date = x.desk.date;
    clock = x.desk.clock;
    some_streams = rw (each_length (stream_of d.streams) 0 d.n) x.desk.some_streams;
    some_banks = x.desk.some_banks;
    house = x.desk.house;
    batches = ((rules_exact d.banks t.batches).to x.batches).batches;
    known = record {
      references_long = entries_many 2048 t.references;
      bins_long = entries_many 512 t.bins;
      references = x.known.references_right;
      bins = x.known.bins_right;
      references_once = x.known.references_once;
      bins_once = x.known.bins_once;
    };
    bins_differ = x.cross.bins_differ;
    bins_remembered = x.cross.bins_remembered;
    answered = x.cross.answered;
  }

  few_streams : DayTables d t → d.n ≤ 8
  few_streams x = omega (arith, x.desk.house.few_streams, each_length (stream_of d.streams) 0 d.n)

  day_desk : DayTables d t → desk_of (state_in d t) ≡ d
  unfolding desk_of state_in
  day_desk x =
      rw (streams_here d.streams d.n (few_streams x) x.desk.streams_long x.desk.streams_past, each_length (stream_of d.streams) 0 d.n)

  day_tables : DayTables d t → tables_of (engine_in d t) ≡ t
  unfolding tables_of engine_in state_in
  day_tables x =
      rw (((rules_exact d.banks t.batches).to x.batches).words, entries_words_lem 2048 t.references x.known.references_long, entries_words_lem 512 t.bins x.known.bins_long, sym x.sheet)

  day_memory : DayTables d t → RightMemory (engine_in d t).state.batches (engine_in d t).memory
  unfolding engine_in state_in
  day_memory x = ((rules_exact d.banks t.batches).to x.batches).memory

  day_right : Valid (engine_in d t).state → DayTables d t → Right d t
  unfolding engine_in
  day_right v x = record { valid = v; memory = day_memory x; desk = day_desk x; tables = day_tables x }

  -- ---- and back

  words_in : Right d t → places_words (batches_in t.batches) (memory_in t.batches) 0 (batches_in t.batches).places ≡ t.batches
  unfolding tables_of engine_in state_in
  words_in r = ap (λ (x : Tables). x.batches) r.tables

  memory_in_lem : Right d t → RightMemory (batches_in t.batches) (memory_in t.batches)
  unfolding engine_in state_in
  memory_in_lem r = r.memory

  -- the batch places keep the rules, also where there is no day yet
  pub right_batches : Right d t → BatchRules d.banks t.batches
  unfolding engine_in state_in
  right_batches r =
      let k = valid_kept (state_in d t) r.valid in
      (rules_exact d.banks t.batches).back
      (record { batches = right d.banks (batches_in t.batches) k.batches; memory = memory_in_lem r; words = words_in r })

  pub right_few : Right d t → d.banks ≤ 64
  unfolding engine_in state_in
  right_few r = (valid_kept (state_in d t) r.valid).house.few_banks

  -- the sheet is that of the batches
  pub right_sheet : Right d t → t.sheet ≡ sheet_words (batches_in t.batches)
  unfolding tables_of engine_in state_in
  right_sheet r = sym (ap (λ (x : Tables). x.sheet) r.tables)

  streams_in_lem : Right d t → filled 16 (stream_row (streams_on d)) ≡ d.streams
  unfolding desk_of engine_in state_in
  streams_in_lem r = ap (λ (x : Desk). x.streams) r.desk

  right_day_lem : Right d t → Opened (state_in d t) → DayTables d t
  unfolding state_in batches_in
  right_day_lem r o =
      let l = right_long d t r in
      let few : d.n ≤ 8 = omega (arith, o.house.few_streams, each_length (stream_of d.streams) 0 d.n) in
      let e = streams_in_lem r in
      let w : length (stream_row (streams_on d)) ≡ 2 * d.n = row_long (streams_on d) ∙ ap (λ (k : ℕ). 2 * k) (each_length (stream_of d.streams) 0 d.n) in
      record {
        desk = record {
          date = o.date;
          clock = o.clock;
          some_streams = rw (each_length (stream_of d.streams) 0 d.n) at o.some_streams;
          some_banks = o.some_banks;
          streams_long = sym (ap length e) ∙ filled_long 16 (stream_row (streams_on d)) (omega arith);
          streams_past = streams_back d.streams d.n few e;
          house = o.house;
        };
        batches = right_batches r;
        known = record {
          references_long = l.references;
          bins_long = l.bins;
          references_right = o.known.references;
          bins_right = o.known.bins;
          references_once = o.known.references_once;
          bins_once = o.known.bins_once;
        };
        cross = record { bins_differ = o.bins_differ; bins_remembered = o.bins_remembered; answered = o.answered };
        sheet = right_sheet r;
      }

-- ---- no live batch

abbrev none : List ℕ
none = replicate 11168 0

pub none_words : (m : List ℕ) → places_words no_batches m 0 no_batches.places ≡ none
none_words m = places_none no_batches m 0 32

blank_batches : batches_in none ≡ no_batches
unfolding engine_in state_in tables_of
blank_batches =
    ap batches_in (sym (none_words cleared.memory))
    ∙ ap (λ (e : Engine). e.state.batches) (held cleared refl cleared_memory)

-- nothing waits against any bank
pub no_sheet : sheet_words no_batches ≡ replicate sheet_length 0
unfolding sheet_words waiting_by
no_sheet = refl

pub blank_sheet : (batches : List ℕ) → Blank 11168 batches → Blank sheet_length (sheet_words (batches_in batches))
blank_sheet batches b = is_blank_lem sheet_length (sheet_words (batches_in batches)) (ap (λ (x : List ℕ). sheet_words (batches_in x)) (blank_is 11168 batches b) ∙ ap sheet_words blank_batches ∙ no_sheet)

pub blank_tables : (t : Tables) → NoAccounts t.codes t.flags t.balances t.sublimits → NoRows t.batches t.references t.bins → Blank sheet_length t.sheet
    → t ≡ tables_of cleared
unfolding tables_of
blank_tables t x y z =
    let e : t ≡ lent_on t.codes t.flags t.balances t.sublimits t.batches t.references t.bins t.sheet = refl in
    e
    ∙ rw (
      blank_is 64 t.codes x.codes_none,
      blank_is 64 t.flags x.flags_none,
      blank_is 64 t.balances x.balances_none,
      blank_is 64 t.sublimits x.sublimits_none,
      blank_is 11168 t.batches y.batches_none ∙ sym (none_words cleared.memory),
      blank_is 6144 t.references y.references_none ∙ sym (entries_none 2048),
      blank_is 1536 t.bins y.bins_none ∙ sym (entries_none 512),
      blank_is sheet_length t.sheet z ∙ sym no_sheet,
    )

module _ (d : Desk) (t : Tables) where
  pub idle : Blank 11168 t.batches → batches_in t.batches ≡ no_batches
  idle b = ap batches_in (blank_is 11168 t.batches b) ∙ blank_batches

  idle_back : Right d t → batches_in t.batches ≡ no_batches → Blank 11168 t.batches
  idle_back r e =
      is_blank_lem 11168 t.batches
      (sym (words_in d t r) ∙ ap (λ (b : Batches). places_words b (memory_in t.batches) 0 b.places) e ∙ none_words (memory_in t.batches))

  -- ---- no day yet

  pub none_desk : d.phase ≡ Fresh → NoTables d t → d ≡ desk_of cleared.state
  unfolding desk_of
  none_desk p x =
      let y = x.day in
      let s = blank_is 16 d.streams y.streams in
      let e : d ≡ record { phase = d.phase; date = d.date; clock = d.clock; texts = d.texts; banks = d.banks; streams = d.streams; n = d.n } = refl in
      e ∙ rw (p, y.date, y.clock, y.texts, y.banks, s, y.n)

  pub none_tables : NoTables d t → t ≡ tables_of cleared
  none_tables x = blank_tables t x.accounts x.rows x.sheet

  none_right : d.phase ≡ Fresh → NoTables d t → Right d t
  none_right p x =
      subst (λ (y : Desk). Right y t) (sym (none_desk p x))
      (subst (λ (y : Tables). Right (desk_of cleared.state) y) (sym (none_tables x)) (right_of cleared refl cleared_memory))

  right_none : Right d t → state_in d t ≡ fresh → NoTables d t
  unfolding state_in desk_of tables_of engine_in
  right_none r e =
      record {
        day = record {
          date = ap (λ (x : State). x.day.date) e;
          clock = ap (λ (x : State). x.day.clock) e;
          texts = ap (λ (x : State). x.day.texts) e;
          banks = ap (λ (x : State). x.house.banks) e;
          n = sym (each_length (stream_of d.streams) 0 d.n) ∙ ap (λ (x : State). length x.house.streams) e;
          streams = is_blank_lem 16 d.streams (sym (streams_in_lem d t r) ∙ ap (λ (x : State). filled 16 (stream_row x.house.streams)) e);
        };
        accounts = record {
          codes_none = is_blank_lem 64 t.codes (ap (λ (x : State). x.house.codes) e);
          flags_none = is_blank_lem 64 t.flags (ap (λ (x : State). x.house.flags) e);
          balances_none = is_blank_lem 64 t.balances (ap (λ (x : State). x.books.balances) e);
          sublimits_none = is_blank_lem 64 t.sublimits (ap (λ (x : State). x.books.sublimits) e);
        };
        rows = record {
          batches_none = idle_back r (ap (λ (x : State). x.batches) e);
          references_none = is_blank_lem 6144 t.references (sym (ap (λ (x : Tables). x.references) r.tables) ∙ ap (λ (x : State). entries_words x.known.references) e ∙ entries_none 2048);
          bins_none = is_blank_lem 1536 t.bins (sym (ap (λ (x : Tables). x.bins) r.tables) ∙ ap (λ (x : State). entries_words x.known.bins) e ∙ entries_none 512);
        };
        sheet = is_blank_lem sheet_length t.sheet (right_sheet d t r ∙ ap (λ (x : State). sheet_words x.batches) e ∙ no_sheet);
      }

  -- ---- by phase

  valid_in : (p : Phase) → d.phase ≡ p → ValidIn p (state_in d t) → Valid (engine_in d t).state
  unfolding engine_in state_in
  valid_in p e v = subst (λ (q : Phase). ValidIn q (state_in d t)) (sym e) v

  in_valid : (p : Phase) → d.phase ≡ p → Valid (engine_in d t).state → ValidIn p (state_in d t)
  unfolding engine_in state_in
  in_valid p e v = subst (λ (q : Phase). ValidIn q (state_in d t)) e v

  idle_state : batches_in t.batches ≡ no_batches → (state_in d t).batches ≡ fresh.batches
  unfolding state_in
  idle_state e = e

  state_idle : (state_in d t).batches ≡ fresh.batches → batches_in t.batches ≡ no_batches
  unfolding state_in
  state_idle e = e

  rules_right : (p : Phase) → d.phase ≡ p → TablesIn p d t → Right d t
  rules_right Fresh e x = none_right e x
  rules_right Open e x = day_right d t (valid_in Open e (day_opened d t x)) x
  rules_right Closed e x =
      day_right d t (valid_in Closed e (day_opened d t x.day, idle_state (idle (record { long = x.day.batches.long; zero = x.idle })))) x.day

  right_rules : (p : Phase) → d.phase ≡ p → Right d t → TablesIn p d t
  right_rules Fresh e r = right_none r (in_valid Fresh e r.valid)
  right_rules Open e r = right_day_lem d t r (in_valid Open e r.valid)
  right_rules Closed e r =
      let v = in_valid Closed e r.valid in
      record { day = right_day_lem d t r v.0; idle = (idle_back r (state_idle v.1)).zero }

  -- the rules over what is lent, and `Right`, follow from each other
  pub tables_exact : Both (TableRules d t) (Right d t)
  tables_exact = record { to = rules_right d.phase refl; back = right_rules d.phase refl }
