-- What each kind of call leaves in what was lent.
use Rattle.std.specs.Prelude.{Ok, Err}
use Prim.Native.Nat.{ℕ, ◌*◌, ◌≤◌}
use mathlib.Core.Path.{◌≡◌, refl, sym, ap, subst, ◌∙◌}
use mathlib.Core.Bool.{Bool, true, false, not, false≢true}
use mathlib.Core.List.{List}
use lib.ListN.{length}
use lib.Seq.{sets}
use Rattle.chars.specs.Words.{Says}
use Rattle.chars.specs.declared.Refusal.{Refusal}
use Rattle.chars.specs.declared.Refusal.TheVariants.{BrokenTables}
use Rattle.dates.specs.Dates.{day_of}
use Rattle.book_write.specs.Closing.{book_bytes, blocks_for}
use Rattle.model.specs.Answers.{Answer}
use Rattle.model.specs.declared.Action.{Action}
use Rattle.model.specs.Kinds.{Kind, opens, steps, gives, kind_of}
use Rattle.model.specs.Days.{on_date, opened, opening_answer, closing_text}
use Rattle.model.specs.Calls.{Call, Engine, refused, stepped, opened_by, book_given, performed, judged, judge, call}
use Rattle.tables.specs.declared.Desk.{Desk}
use Rattle.tables.specs.Moment.{day_on, moved_to, call_for, Judged, lent_on, lent_with}
use Rattle.tables.specs.Rows.{Tables, streams_on, batches_in, state_in, engine_in}
use Rattle.tables.specs.Words.{sheet_words, sheet_length, desk_of, tables_of}
use Rattle.tables.specs.Lent.{Right, Lent, Asked, Left, left_by, call_lent, Called}
use Rattle.tables.proofs.Kept.{right_long, right_left}
use Rattle.tables.proofs.MomentLaws.{closing_length}
use Rattle.tables_rules.proofs.whole.Parts.{right_sheet}
use Rattle.tables_sheet.specs.Sheet.{Ruled}
use Rattle.tables_sheet.proofs.Laws.{right_ruled}
use Rattle.call_day.specs.Opening.{columns, Full, Begins, opened_on, banks_on}
use Rattle.call.specs.step.Stepping.{lent_as, left_as}
use Rattle.call.specs.declared.step.Told.{Told}
use Rattle.call.specs.entry.Calls.{Performable}
use Rattle.call.proofs.entry.Moments.{right_few}

module _ (quick : Bool) (clock : ℕ) (a : Action) (input : List ℕ) (d : Desk)
    (codes flags balances sublimits t rs bs sheet out r : List ℕ) where
  abbrev T : Tables
  T = lent_on codes flags balances sublimits t rs bs sheet

  abbrev e : Engine
  e = engine_in d T

  abbrev c : Call
  c = call_for quick clock a input (length out) (length r)

  abbrev x : Lent
  x = lent_as d T out r

  abbrev asked : Asked
  asked = record { quick = quick; clock = clock; action = a; input = input }

  refused_left : Right d T → (f : Refusal) → left_as (Err f) 0 0 d T out r ≡ left_by x (refused e f)
  refused_left k f = rw (k.desk, k.tables)

  -- ---- 06, 05, 07

  pub broken : (b : Bool) → Says (Right d T) b → not b ≡ true → (y : Told) → y ≡ record { answer = Err BrokenTables; written = 0; tried = 0; desk = d }
      → Called x asked (left_as y.answer y.written y.tried y.desk T out r)
  unfolding call_lent
  broken true s h y g = absurd (false≢true h)
  broken false s h y g = rw g (record { kept = false; says = s; is = refl })

  right_so : (b : Bool) → Says (Right d T) b → not b ≡ false → Right d T
  right_so true s h = s
  right_so false s h = absurd (false≢true (sym h))

  called : Right d T → (y : Left) → y ≡ left_by x (call e c) → Called x asked y
  unfolding call_lent
  called k y g = record { kept = true; says = k; is = g }

  pub few : (b : Bool) → Says (Right d T) b → not b ≡ false → (d.banks ≤ 64) × (d.n ≤ 8)
  few b s h = right_few d T (right_so b s h)

  module _ (b : Bool) (s : Says (Right d T) b) (h : not b ≡ false) (j : Answer) (g : Judged d clock a (length out) (length r) j) where
    is_judged : judge e.state c ≡ j
    unfolding engine_in
    is_judged = sym (g.is T quick input)

    pub refuses : (f : Refusal) → j ≡ Err f → (y : Told) → y ≡ record { answer = Err f; written = 0; tried = 0; desk = d }
        → Called x asked (left_as y.answer y.written y.tried y.desk T out r)
    unfolding call
    refuses f i y u =
        let k = right_so b s h in
        rw u (called k _ (refused_left k f ∙ ap (left_by x) (ap (λ (n : Answer). judged n e c) (sym (is_judged ∙ i)))))

    pub able : j ≡ Ok tt → Performable d T clock a out r
    able i = record { right = right_so b s h; judged = subst (λ (n : Answer). Judged d clock a (length out) (length r) n) i g }

    pub performs : j ≡ Ok tt → (y : Left) → y ≡ left_by x (performed (kind_of a) e c) → Called x asked y
    unfolding call
    performs i y u = called (right_so b s h) y (u ∙ ap (left_by x) (ap (λ (n : Answer). judged n e c) (sym (is_judged ∙ i))))

  -- ---- a call that is performed

  module _ (k : Performable d T clock a out r) where
    as_kind : (z : Kind) → kind_of a ≡ z → (y : Left) → y ≡ left_by x (performed z e c) → y ≡ left_by x (performed (kind_of a) e c)
    as_kind z i y u = u ∙ ap (λ (q : Kind). left_by x (performed q e c)) (sym i)

    pub full : Full (columns codes flags balances sublimits)
    full = let l = right_long d T k.right in record { codes = l.codes; flags = l.flags; balances = l.balances; sublimits = l.sublimits }

    -- an opening

    abbrev begins : Begins → Left
    begins b =
        left_as b.answer 0 0 b.desk
        (lent_on b.columns.codes b.columns.flags b.columns.balances b.columns.sublimits t rs bs sheet) out r

    opens_left : (n : Answer) → begins (opened_on n d clock input (columns codes flags balances sublimits)) ≡ left_by x (opened_by n e c)
    unfolding opened desk_of tables_of
    opens_left (Ok tt) =
        let u : (tables_of e).batches ≡ t = ap (λ (z : Tables). z.batches) k.right.tables in
        let v : (tables_of e).references ≡ rs = ap (λ (z : Tables). z.references) k.right.tables in
        let w : (tables_of e).bins ≡ bs = ap (λ (z : Tables). z.bins) k.right.tables in
        let z : (tables_of e).sheet ≡ sheet = ap (λ (z : Tables). z.sheet) k.right.tables in
        rw (u, v, w, z)
    opens_left (Err f) = refused_left k.right f

    pub opens_day : kind_of a ≡ opens → (b : Begins) → b ≡ opened_on (opening_answer (day_on d) input) d clock input (columns codes flags balances sublimits)
        → left_as b.answer 0 0 b.desk
        (lent_on b.columns.codes b.columns.flags b.columns.balances b.columns.sublimits t rs bs sheet) out r
        ≡ left_by x (performed (kind_of a) e c)
    unfolding engine_in state_in
    opens_day i b u = as_kind opens i (begins b) (ap begins u ∙ opens_left (opening_answer (day_on d) input))

    -- steps: they are taken on the sheet that the batches say, and it is written anew behind them

    sheet_right : sheet ≡ sheet_words (batches_in t)
    sheet_right = right_sheet d T k.right

    pub sheet_long : length sheet ≡ sheet_length
    sheet_long = (right_long d T k.right).sheet

    abbrev W : Tables
    W = lent_with codes flags balances sublimits t rs bs

    pub same_able : Performable d W clock a out r
    same_able = subst (λ (z : List ℕ). Performable d (lent_on codes flags balances sublimits t rs bs z) clock a out r) sheet_right k

    module _ (i : kind_of a ≡ steps) (y : Told) (balances' sublimits' t' rs' bs' out' r' : List ℕ)
        (u : left_as y.answer y.written y.tried y.desk (lent_with codes flags balances' sublimits' t' rs' bs') out' r'
        ≡ left_by (lent_as d W out r) (stepped (engine_in d W) c)) where
      abbrev Y : Left
      Y = left_as y.answer y.written y.tried y.desk (lent_with codes flags balances' sublimits' t' rs' bs') out' r'

      steps_left : Y ≡ left_by x (performed (kind_of a) e c)
      unfolding engine_in state_in
      steps_left = as_kind steps i Y u

      pub steps_ruled : Ruled t'
      steps_ruled =
          right_ruled y.desk (lent_with codes flags balances' sublimits' t' rs' bs')
          (right_left x asked Y k.right (performs true k.right refl (Ok tt) k.judged refl Y steps_left))

      pub takes_steps : (sheet' : List ℕ) → sheet' ≡ sheet_words (batches_in t')
          → left_as y.answer y.written y.tried y.desk (lent_on codes flags balances' sublimits' t' rs' bs' sheet') out' r'
          ≡ left_by x (performed (kind_of a) e c)
      takes_steps sheet' v = rw v steps_left

    -- a book that is given

    given_desk : (date : ℕ) → moved_to d clock ≡ desk_of (book_given e c date).engine.state
    unfolding desk_of
    given_desk date = ap (λ (z : Desk). moved_to z clock) (sym k.right.desk)

    given_tables : (date : ℕ) → T ≡ tables_of (book_given e c date).engine
    unfolding tables_of
    given_tables date = sym k.right.tables

    pub gives_book : (date : ℕ) → kind_of a ≡ gives date → (out' : List ℕ) (n : ℕ) (z : Desk)
        → (out' ≡ sets out 0 (book_bytes (on_date (day_of date)) (streams_on d) (banks_on d (columns codes flags balances sublimits)))) × (n ≡ 512 * blocks_for d.banks)
        → z ≡ moved_to d clock → left_as (Ok tt) n 0 z T out' r ≡ left_by x (performed (kind_of a) e c)
    unfolding closing_text engine_in state_in
    gives_book date i out' n z u v =
        as_kind (gives date) i (left_as (Ok tt) n 0 z T out' r)
        (let l : n ≡ length (closing_text e.state date) = u.1 ∙ sym (closing_length d T date (right_few d T k.right).1) in
        rw (u.0, l, v, given_desk date, ← given_tables date))
