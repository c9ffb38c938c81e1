-- "A closing book carries the date given": the closing book of a closed day is accepted by the book check, and reads back as the day's streams,
-- banks, balances and sub-limits. A day that is opened with it begins with the same house and accounts.
use Rattle.std.specs.Prelude.{Option, Some, None, Ok, Err}
use Prim.Native.Nat.{ℕ, zero, suc, ◌+◌, ◌≤◌, ◌<◌}
use mathlib.Core.Path.{◌≡◌, refl, sym, ap, subst, ◌∙◌}
use mathlib.Core.Bool.{true, false≢true}
use mathlib.Core.List.{List, [], ◌∷◌, ◌++◌}
use native.Mathlib.Omega.{arith}
use lib.ListN.{length, get_or, take, drop, replicate, length-drop, take-append-drop}
use lib.Seq.{drop-cons}
use Rattle.dates.specs.Dates.{day_of}
use Rattle.dates.specs.Dates.{sum as total}
use Rattle.dates.proofs.Laws.{day_back}
use Rattle.book_read.specs.Book.{each, book_check}
use Rattle.book_write.specs.Closing.{bank_of, book_bytes}
use Rattle.book_read.specs.Accounts.{Stream, Bank, field_of, column, day_in, streams_in, banks_in}
use Rattle.book_read.specs.Range.{Each, InRange}
use Rattle.book_read.specs.declared.Field.{Field}
use Rattle.book_read.specs.declared.Field.TheVariants.{Code, Flags, Balance, Sublimit}
use Rattle.book_read.proofs.Filling.{map_each}
use Rattle.book_read.proofs.Filling.{each_length}
use Rattle.thm_books_back.proofs.Theorems.{written_accepted, written_reads_back}
use Rattle.settle.specs.Settlement.{Accounts, accounts}
use Rattle.settle.specs.Rules.{sum}
use Rattle.model.specs.Answers.{Answer}
use Rattle.model.specs.declared.Action.{Action}
use Rattle.model.specs.declared.Action.TheVariants.{ClosingBook}
use Rattle.model.specs.State.{Day, House, State}
use Rattle.model.specs.Days.{column_of, opened, on_date, right_date, banks_of, closing_text}
use Rattle.model.specs.Kinds.{kind_of}
use Rattle.model.specs.Calls.{Call, Engine, is_closed, right_day, judge, performed, judged, call}
use Rattle.model.specs.Rules.{RightHouse, Opened, Valid}
use Rattle.model.specs.Promises.{Closes, Tells}
use Rattle.model.proofs.Truth.{and_true}
use Rattle.model.proofs.Agreement.{right_day_lem}
use Rattle.model.proofs.Refusals.{not_done}
use Rattle.model.proofs.Validity.{closed_in}
use Rattle.model.proofs.Reading.{sum_same, column_long, drop_zeros, sum_append, column_is}

-- ---- a column of 64, and the banks in it

listed : (l : List ℕ) (n i : ℕ) → i + n ≤ length l → each (λ (j : ℕ). get_or l j 0) i n ≡ take n (drop i l)
listed l zero i h = refl
listed l (suc n) i h =
    let z : suc i ≡ i + 1 = omega arith in
    rw (drop-cons l i 0 (omega arith), z) (ap (λ (r : List ℕ). get_or l i 0 ∷ r) (listed l n (i + 1) (omega arith)))

each_first : (P : ℕ → Type 0) (n : ℕ) (l : List ℕ) → Each P l → Each P (take n l)
each_first P zero l h = tt
each_first P (suc n) [] h = tt
each_first P (suc n) (x ∷ l) h = (h.0, each_first P n l h.1)

each_below : (most : ℕ) (l : List ℕ) → sum l ≤ most → Each (λ x. x ≤ most) l
each_below most [] h = tt
each_below most (x ∷ l) h = (omega arith, each_below most l (omega arith))

-- zeros are zeros
zeros_same : (a b : List ℕ) → length a ≡ length b → Each {A = ℕ} (λ x. x ≡ 0) a → Each {A = ℕ} (λ x. x ≡ 0) b → a ≡ b
zeros_same [] [] n f g = refl
zeros_same [] (y ∷ b) n f g = absurd (omega arith)
zeros_same (x ∷ a) [] n f g = absurd (omega arith)
zeros_same (x ∷ a) (y ∷ b) n f g = rw (f.0, g.0) (ap (λ (l : List ℕ). 0 ∷ l) (zeros_same a b (omega arith) f.1 g.1))

module _ (h : House) (a : Accounts) (g : RightHouse h a.balances a.sublimits) where
  abbrev bs : List Bank
  bs = banks_of h a

  banks_long : length bs ≡ h.banks
  banks_long = each_length (bank_of h.codes h.flags a.balances a.sublimits) 0 h.banks

  -- a column of the banks is the first part of the column of the tables
  abbrev of : Field → List ℕ
  of Code = h.codes
  of Flags = h.flags
  of Balance = a.balances
  of Sublimit = a.sublimits

  of_long : (f : Field) → length (of f) ≡ 64
  of_long Code = g.codes_long
  of_long Flags = g.flags_long
  of_long Balance = g.balances_long
  of_long Sublimit = g.sublimits_long

  of_past : (f : Field) → Each {A = ℕ} (λ x. x ≡ 0) (drop h.banks (of f))
  of_past Code = g.codes_past
  of_past Flags = g.flags_past
  of_past Balance = g.balances_past
  of_past Sublimit = g.sublimits_past

  of_field : (f : Field) (n i : ℕ) → each (λ (j : ℕ). field_of f (bank_of h.codes h.flags a.balances a.sublimits j)) i n ≡ each (λ (j : ℕ). get_or (of f) j 0) i n
  of_field f zero i = refl
  of_field Code (suc n) i = ap (λ (l : List ℕ). get_or h.codes i 0 ∷ l) (of_field Code n (i + 1))
  of_field Flags (suc n) i = ap (λ (l : List ℕ). get_or h.flags i 0 ∷ l) (of_field Flags n (i + 1))
  of_field Balance (suc n) i = ap (λ (l : List ℕ). get_or a.balances i 0 ∷ l) (of_field Balance n (i + 1))
  of_field Sublimit (suc n) i = ap (λ (l : List ℕ). get_or a.sublimits i 0 ∷ l) (of_field Sublimit n (i + 1))

  first_of : (f : Field) → column f bs ≡ take h.banks (of f)
  first_of f =
      map_each (field_of f) (bank_of h.codes h.flags a.balances a.sublimits) 0 h.banks
      ∙ of_field f h.banks 0
      ∙ listed (of f) h.banks 0 (omega (arith, of_long f, g.few_banks))

  -- and the column of the banks, with zeros past it, is the whole
  columns_back : (f : Field) → column_of f bs ≡ of f
  columns_back f =
      let none : List ℕ = replicate 64 0 in
      let n : length (column f bs) ≡ h.banks = column_long f bs ∙ banks_long in
      let rest : drop (0 + length (column f bs)) none ≡ drop h.banks (of f) =
      zeros_same (drop (0 + length (column f bs)) none) (drop h.banks (of f))
      (omega (arith, length-drop (0 + length (column f bs)) none, length-drop h.banks (of f), of_long f, n)) (drop_zeros 64 (0 + length (column f bs))) (of_past f) in
      column_is f bs (omega (arith, banks_long, g.few_banks)) ∙ ap (λ (l : List ℕ). column f bs ++ l) rest
      ∙ ap (λ (l : List ℕ). l ++ drop h.banks (of f)) (first_of f) ∙ take-append-drop h.banks (of f)

  -- the total of the banks' balances is no more than that of the row
  few_cents : total (column Balance bs) ≤ 6400000000000000
  few_cents =
      let n = h.banks in
      omega (
        arith,
        ap total (first_of Balance),
        sum_same (take n a.balances),
        sum_append (take n a.balances) (drop n a.balances),
        ap sum (take-append-drop n a.balances),
        g.total,
      )

  in_range : (day : ℕ) → day < 36525 → 1 ≤ length h.streams → 1 ≤ h.banks → InRange day h.streams bs
  in_range day d streams banks = record {
    date = d;
    some_streams = streams;
    few_streams = g.few_streams;
    some_banks = omega (arith, banks_long);
    few_banks = omega (arith, banks_long, g.few_banks);
    stream_codes_short = g.stream_codes_short;
    administrators = g.administrators;
    streams_rise = g.streams_rise;
    bank_codes = rw (first_of Code) g.bank_codes;
    banks_rise = rw (first_of Code) g.banks_rise;
    flags_right = rw (first_of Flags) g.flags_right;
    balances_right = rw (first_of Balance) (each_first (λ x. x ≤ 6400000000000000) h.banks a.balances (each_below 6400000000000000 a.balances g.total));
    sublimits_right = rw (first_of Sublimit) (each_first (λ x. x ≤ 6400000000000000) h.banks a.sublimits g.sublimits_right);
    total = few_cents;
  }

-- ---- the closing book

module _ (s : State) (v : Opened s) (date k : ℕ) (is : day_of date ≡ Some k) where
  abbrev out : List ℕ
  out = closing_text s date

  text_is : out ≡ book_bytes k s.house.streams (banks_of s.house s.books)
  unfolding closing_text
  text_is = ap (λ (d : Option ℕ). book_bytes (on_date d) s.house.streams (banks_of s.house s.books)) is

  ranged : InRange k s.house.streams (banks_of s.house s.books)
  ranged = in_range s.house s.books v.house k (day_back date k is).1 v.some_streams v.some_banks

  back : (day_in out ≡ k) × (streams_in out ≡ s.house.streams) × (banks_in out ≡ banks_of s.house s.books)
  back =
      let w = written_reads_back k s.house.streams (banks_of s.house s.books) ranged in
      (ap day_in text_is ∙ w.0, ap streams_in text_is ∙ w.1, ap banks_in text_is ∙ w.2)

  house_of : (xs : List Stream) (bs : List Bank) → xs ≡ s.house.streams → bs ≡ banks_of s.house s.books
      → ◌≡◌ {A = House} (record { streams = xs; banks = length bs; codes = column_of Code bs; flags = column_of Flags bs }) s.house
  house_of xs bs e f =
      rw (e, f, banks_long s.house s.books v.house, columns_back s.house s.books v.house Code, columns_back s.house s.books v.house Flags) refl

  books_of : (bs : List Bank) → bs ≡ banks_of s.house s.books → accounts (column_of Balance bs) (column_of Sublimit bs) ≡ s.books
  books_of bs f = rw (f, columns_back s.house s.books v.house Balance, columns_back s.house s.books v.house Sublimit) refl

  pub tells : Tells s date out
  unfolding opened
  tells = record {
    accepted = ap book_check text_is ∙ written_accepted k s.house.streams (banks_of s.house s.books) ranged;
    dated = is ∙ ap Some (sym back.0);
    streams = back.1;
    banks = back.2;
    house = λ t clock. house_of (streams_in out) (banks_in out) back.1 back.2;
    books = λ t clock. books_of (banks_in out) back.2;
  }

-- a closing book that is given has a true date
record True (d : Option ℕ) : Type 0 where
  day : ℕ
  is : d ≡ Some day

true_date : (x : Day) (d : Option ℕ) → right_date x d ≡ true → True d
true_date x (Some k) h = record { day = k; is = refl }
true_date x None h = absurd (false≢true h)

module _ (e : Engine) (c : Call) (v : Valid e.state) where
  judged_closes : (j : Answer) → judge e.state c ≡ j → Closes e c (judged j e c)
  judged_closes (Ok tt) i date x h =
      let r : right_day (ClosingBook date) e.state.day ≡ true = rw x at (right_day_lem e.state c i) in
      let g = and_true (is_closed e.state.day.phase) (right_date e.state.day (day_of date)) r in
      let d = true_date e.state.day (day_of date) g.1 in
      subst (λ (z : Action). Tells e.state date (performed (kind_of z) e c).out) (sym x)
      (tells e.state (closed_in e.state e.state.day.phase v g.0).0 date d.day d.is)
  judged_closes (Err q) i date x h = not_done (sym h)

  pub call_closes : Closes e c (call e c)
  unfolding call
  call_closes = judged_closes (judge e.state c) refl
