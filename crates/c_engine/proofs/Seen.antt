-- What the words say after a call is what the rules leave: so all that is promised of `Called` is promised of the calls on words.
use mathlib.Core.Path.{◌≡◌, refl, sym, ap, subst, ◌∙◌}
use Prim.Native.Nat.{ℕ, ◌≤◌}
use native.Mathlib.Omega.{arith}
use mathlib.Core.Bool.{Bool, true, false}
use mathlib.Core.List.{List, [], ◌∷◌}
use lib.ListN.{length, get_or, length-map}
use lib.Seq.{sets}
use Rattle.chars.specs.Words.{Says}
use Rattle.model.specs.declared.Phase.{Phase}
use Rattle.model.specs.declared.Phase.TheVariants.{Fresh, Open, Closed}
use Rattle.model.specs.Calls.{Asked}
use Rattle.tables.specs.declared.Desk.{Desk}
use Rattle.tables.specs.House.{Lengths}
use Rattle.tables.specs.Rows.{Tables}
use Rattle.tables.specs.Words.{sheet_length}
use Rattle.tables.specs.Lent.{Right, Lent, Left, Called, call_lent}
use Rattle.tables.proofs.Kept.{right_long, right_left}
use Rattle.tables_rules.specs.whole.TableRules.{TablesIn}
use Rattle.tables_rules.proofs.whole.Parts.{tables_exact}
use Rattle.call_records.specs.declared.Account.{Account}
use Rattle.call_records.specs.Records.{tables_in, Columns, row_of, row_in}
use Rattle.call_records.proofs.Rows.{tables_in_lem}
use Rattle.c_engine.specs.Lending.{desk_in, desk_words, Words, lent_in, Returned, returned, InShape, CalledWords, seen_with, Seen}
use Rattle.c_engine.proofs.Banks.{banks_back, bank_words_long, columns_long, waiting_long}
use Rattle.c_engine.proofs.Desks.{phase_small, streams_long, desk_back}

-- ---- five columns of one length are the columns of their row

columns_back : (codes flags balances sublimits sheet : List ℕ)
    → length flags ≡ length codes → length balances ≡ length codes → length sublimits ≡ length codes → length sheet ≡ length codes
    → Columns (row_of codes flags balances sublimits sheet) codes flags balances sublimits sheet
unfolding row_of
columns_back [] [] [] [] [] h k m n = record { codes_are = refl; flags_are = refl; balances_are = refl; sublimits_are = refl; sheet_are = refl }
columns_back [] [] [] [] (s ∷ ss) h k m n = absurd (omega arith)
columns_back [] [] [] (l ∷ ls) ss h k m n = absurd (omega arith)
columns_back [] [] (b ∷ bs) ls ss h k m n = absurd (omega arith)
columns_back [] (f ∷ fs) bs ls ss h k m n = absurd (omega arith)
columns_back (c ∷ cs) [] bs ls ss h k m n = absurd (omega arith)
columns_back (c ∷ cs) (f ∷ fs) [] ls ss h k m n = absurd (omega arith)
columns_back (c ∷ cs) (f ∷ fs) (b ∷ bs) [] ss h k m n = absurd (omega arith)
columns_back (c ∷ cs) (f ∷ fs) (b ∷ bs) (l ∷ ls) [] h k m n = absurd (omega arith)
columns_back (c ∷ cs) (f ∷ fs) (b ∷ bs) (l ∷ ls) (s ∷ ss) h k m n =
    let r = columns_back cs fs bs ls ss (omega arith) (omega arith) (omega arith) (omega arith) in
    record {
      codes_are = ap (λ (z : List ℕ). c ∷ z) r.codes_are;
      flags_are = ap (λ (z : List ℕ). f ∷ z) r.flags_are;
      balances_are = ap (λ (z : List ℕ). b ∷ z) r.balances_are;
      sublimits_are = ap (λ (z : List ℕ). l ∷ z) r.sublimits_are;
      sheet_are = ap (λ (z : List ℕ). s ∷ z) r.sheet_are;
    }

-- ---- what a call leaves fits its words

record Fitting (l : Lent) : Type 0 where
  streams : length l.desk.streams ≡ 16
  columns : Lengths l.tables.codes l.tables.flags l.tables.balances l.tables.sublimits
  sheet : length l.tables.sheet ≡ sheet_length

right_streams : (d : Desk) (t : Tables) → Right d t → length d.streams ≡ 16
right_streams d t r = go d.phase ((tables_exact d t).back r)
  where
    go : (p : Phase) → TablesIn p d t → length d.streams ≡ 16
    go Fresh x = x.day.streams.long
    go Open x = x.desk.streams_long
    go Closed x = x.day.desk.streams_long

module _ (x : Words) (a : Asked) (shape : InShape x) where
  lent_fits : Fitting (lent_in x)
  unfolding desk_in
  lent_fits = record { streams = streams_long x.engine.desk shape.desk_long; columns = columns_long x.engine.banks shape.banks_long; sheet = waiting_long x.engine.banks shape.banks_long }

  left_fits : (y : Left) → Called (lent_in x) a y → Fitting y.lent
  unfolding call_lent
  left_fits y c = go c.kept c.says c.is
    where
      go : (k : Bool) → Says (Right (lent_in x).desk (lent_in x).tables) k → y ≡ call_lent k (lent_in x) a → Fitting y.lent
      go true r e =
          let q = right_left (lent_in x) a y r c in
          let l = right_long y.lent.desk y.lent.tables q in
          record {
            streams = right_streams y.lent.desk y.lent.tables q;
            columns = record { codes_long = l.codes; flags_long = l.flags; balances_long = l.balances; sublimits_long = l.sublimits };
            sheet = l.sheet;
          }
      go false r e = subst (λ (z : Left). Fitting z.lent) (sym e) lent_fits

-- ---- and is read back from them

row_columns : (t : Tables) → Lengths t.codes t.flags t.balances t.sublimits → length t.sheet ≡ sheet_length
    → Columns (row_in t) t.codes t.flags t.balances t.sublimits t.sheet
row_columns t l s = columns_back t.codes t.flags t.balances t.sublimits t.sheet (omega arith) (omega arith) (omega arith) (omega arith)

lent_back : (x : Words) (y : Left) → Fitting y.lent → lent_in (returned x y).words ≡ y.lent
lent_back x y f =
    let t = y.lent.tables in
    let e : tables_in (row_in t) t.batches t.references t.bins ≡ t =
    sym (tables_in_lem (row_in t) t.codes t.flags t.balances t.sublimits t.sheet t.batches t.references t.bins (row_columns t f.columns f.sheet))
    in
    rw (desk_back y.lent.desk f.streams, banks_back (row_in t), e)

report_back : (l : List ℕ) (m n : ℕ) → 2 ≤ length l → (get_or (sets l 0 (m ∷ n ∷ [])) 0 0 ≡ m) × (get_or (sets l 0 (m ∷ n ∷ [])) 1 0 ≡ n)
report_back [] m n h = absurd (omega arith)
report_back (x ∷ []) m n h = absurd (omega arith)
report_back (x ∷ z ∷ l) m n h = (refl, refl)

-- ---- words in shape are left in shape

left_shaped : (x : Words) (y : Left) → Fitting y.lent → InShape (returned x y).words
unfolding desk_words
left_shaped x y f =
    let t = y.lent.tables in
    let l : length (row_in t) ≡ 64 = sym (length-map (row_in t) (λ (b : Account). b.code)) ∙ sym (ap length (row_columns t f.columns f.sheet).codes_are) ∙ f.columns.codes_long in
    record {
      desk_long = omega (arith, f.streams);
      phase_right = phase_small y.lent.desk.phase;
      banks_long = omega (arith, bank_words_long (row_in t), l);
    }

pub shape_kept : (x : Words) (a : Asked) (y : Returned) → 2 ≤ length x.report → InShape x → CalledWords x a y → InShape y.words
shape_kept x a y h shape c =
    let s = c.shows h shape in
    subst (λ (z : Returned). InShape z.words) (sym s.is) (left_shaped x s.left (left_fits x a shape s.left s.called))

-- ---- the rules' promise, of what the words say

pub seen : (x : Words) (a : Asked) (y : Returned) → 2 ≤ length x.report → InShape x → CalledWords x a y → Seen x a y
seen x a y h shape c =
    let s = c.shows h shape in
    let w = report_back x.report s.left.written s.left.tried h in
    let e : seen_with s.left.answer (returned x s.left) ≡ s.left = rw (w.0, w.1, lent_back x s.left (left_fits x a shape s.left s.called)) in
    let f : seen_with s.left.answer y ≡ s.left = ap (seen_with s.left.answer) s.is ∙ e in
    record {
      answer = s.left.answer;
      numbered = ap (λ (z : Returned). z.number) s.is;
      called = subst (λ (z : Left). Called (lent_in x) a z) (sym f) s.called;
    }
