-- A bank's five words and its record; the columns that are read from a row of words and stored back into it.
use mathlib.Core.Path.{◌≡◌, refl, sym, ap, ◌∙◌}
use Prim.Native.Nat.{ℕ, zero, suc, ◌+◌, ◌*◌, ◌≤◌, ◌<◌}
use native.Mathlib.Omega.{arith}
use native.Mathlib.Numerals.{add-one}
use mathlib.Core.List.{List, [], ◌∷◌, map}
use lib.ListN.{length, get_or, set, take, length-set, length-map}
use Rattle.tables.specs.House.{Lengths}
use Rattle.tables.specs.Words.{sheet_length}
use Rattle.call_records.specs.declared.Account.{Account}
use Rattle.call_records.specs.Records.{codes_of, flags_of, balances_of, sublimits_of, waiting_of, Columns}
use Rattle.call_records.proofs.Rows.{none, column, field_stored, whole_row}
use Rattle.c_engine.specs.Lending.{banks_length, banks_in, bank_words}

-- ---- record i is made of the words from 5 i on

abbrev pub bank_of : List ℕ → ℕ → Account
bank_of w i = record { code = get_or w (5 * i + 0) 0; flags = get_or w (5 * i + 1) 0; balance = get_or w (5 * i + 2) 0; sublimit = get_or w (5 * i + 3) 0; waiting = get_or w (5 * i + 4) 0 }

behind : (i k : ℕ) → 5 * suc i + k ≡ suc (suc (suc (suc (suc (5 * i + k)))))
behind i k = omega arith

bank_at_lem : (i : ℕ) (w : List ℕ) → 5 * i + 4 < length w → get_or (banks_in w) i none ≡ bank_of w i
unfolding banks_in
bank_at_lem i [] h = absurd (omega arith)
bank_at_lem i (a ∷ []) h = absurd (omega arith)
bank_at_lem i (a ∷ b ∷ []) h = absurd (omega arith)
bank_at_lem i (a ∷ b ∷ c ∷ []) h = absurd (omega arith)
bank_at_lem i (a ∷ b ∷ c ∷ d ∷ []) h = absurd (omega arith)
bank_at_lem zero (a ∷ b ∷ c ∷ d ∷ e ∷ w) h = refl
bank_at_lem (suc i) (a ∷ b ∷ c ∷ d ∷ e ∷ w) h = rw (behind i 0, behind i 1, behind i 2, behind i 3, behind i 4) (bank_at_lem i w (omega arith))

-- its words, stored
abbrev stored : List ℕ → ℕ → Account → List ℕ
stored w i a =
    set (set (set (set (set w (5 * i + 0) a.code) (5 * i + 1) a.flags) (5 * i + 2) a.balance) (5 * i + 3) a.sublimit) (5 * i + 4) a.waiting

bank_stored : (i : ℕ) (w : List ℕ) (a : Account) → 5 * i + 4 < length w → banks_in (stored w i a) ≡ set (banks_in w) i a
unfolding banks_in
bank_stored i [] x h = absurd (omega arith)
bank_stored i (a ∷ []) x h = absurd (omega arith)
bank_stored i (a ∷ b ∷ []) x h = absurd (omega arith)
bank_stored i (a ∷ b ∷ c ∷ []) x h = absurd (omega arith)
bank_stored i (a ∷ b ∷ c ∷ d ∷ []) x h = absurd (omega arith)
bank_stored zero (a ∷ b ∷ c ∷ d ∷ e ∷ w) x h = refl
bank_stored (suc i) (a ∷ b ∷ c ∷ d ∷ e ∷ w) x h =
    rw (behind i 0, behind i 1, behind i 2, behind i 3, behind i 4)
    (ap (λ (l : List Account). record { code = a; flags = b; balance = c; sublimit = d; waiting = e } ∷ l) (bank_stored i w x (omega arith)))

banks_length_lem : (n : ℕ) (w : List ℕ) → length w ≡ 5 * n → length (banks_in w) ≡ n
unfolding banks_in
banks_length_lem zero [] h = refl
banks_length_lem (suc n) [] h = absurd (omega arith)
banks_length_lem n (a ∷ []) h = absurd (omega arith)
banks_length_lem n (a ∷ b ∷ []) h = absurd (omega arith)
banks_length_lem n (a ∷ b ∷ c ∷ []) h = absurd (omega arith)
banks_length_lem n (a ∷ b ∷ c ∷ d ∷ []) h = absurd (omega arith)
banks_length_lem zero (a ∷ b ∷ c ∷ d ∷ e ∷ w) h = absurd (omega arith)
banks_length_lem (suc n) (a ∷ b ∷ c ∷ d ∷ e ∷ w) h = ap suc (banks_length_lem n w (omega arith))

-- ---- the words of a row of records are read back, and so are the records of a row of words

pub banks_back : (row : List Account) → banks_in (bank_words row) ≡ row
unfolding banks_in bank_words
banks_back [] = refl
banks_back (a ∷ row) = ap (λ (l : List Account). a ∷ l) (banks_back row)

words_back : (n : ℕ) (w : List ℕ) → length w ≡ 5 * n → bank_words (banks_in w) ≡ w
unfolding banks_in bank_words
words_back n [] h = refl
words_back n (a ∷ []) h = absurd (omega arith)
words_back n (a ∷ b ∷ []) h = absurd (omega arith)
words_back n (a ∷ b ∷ c ∷ []) h = absurd (omega arith)
words_back n (a ∷ b ∷ c ∷ d ∷ []) h = absurd (omega arith)
words_back zero (a ∷ b ∷ c ∷ d ∷ e ∷ w) h = absurd (omega arith)
words_back (suc n) (a ∷ b ∷ c ∷ d ∷ e ∷ w) h = ap (λ (l : List ℕ). a ∷ b ∷ c ∷ d ∷ e ∷ l) (words_back n w (omega arith))

pub bank_words_back : (w : List ℕ) → length w ≡ banks_length → bank_words (banks_in w) ≡ w
bank_words_back w h = words_back 64 w h

banks_long : (w : List ℕ) → length w ≡ banks_length → length (banks_in w) ≡ 64
banks_long w h = banks_length_lem 64 w h

pub bank_words_long : (row : List Account) → length (bank_words row) ≡ 5 * length row
unfolding bank_words
bank_words_long [] = refl
bank_words_long (a ∷ row) = omega (arith, bank_words_long row)

pub columns_long : (w : List ℕ) → length w ≡ banks_length → Lengths (codes_of (banks_in w)) (flags_of (banks_in w)) (balances_of (banks_in w)) (sublimits_of (banks_in w))
columns_long w h =
    let long : (f : Account → ℕ) → length (map f (banks_in w)) ≡ 64 = λ f. length-map (banks_in w) f ∙ banks_long w h in
    record {
      codes_long = long (λ (a : Account). a.code);
      flags_long = long (λ (a : Account). a.flags);
      balances_long = long (λ (a : Account). a.balance);
      sublimits_long = long (λ (a : Account). a.sublimit);
    }

pub waiting_long : (w : List ℕ) → length w ≡ banks_length → length (waiting_of (banks_in w)) ≡ sheet_length
waiting_long w h = length-map (banks_in w) (λ (a : Account). a.waiting) ∙ banks_long w h

-- ---- the columns, read

module _ (f : Account → ℕ) (w : List ℕ) (long : length w ≡ banks_length) where
  column_turn : (zs : List ℕ) (i : ℕ) → i < 64 → length zs ≡ 64 → take i zs ≡ take i (map f (banks_in w))
      → take (i + 1) (set zs i (f (bank_of w i))) ≡ take (i + 1) (map f (banks_in w))
  column_turn zs i h l e =
      rw (add-one i, ← bank_at_lem i w (omega arith)) (column f (banks_in w) zs i (rw (banks_long w long) h) (rw l h) e)

  column_end : (zs : List ℕ) (i : ℕ) → i ≡ 64 → length zs ≡ 64 → take i zs ≡ take i (map f (banks_in w)) → zs ≡ map f (banks_in w)
  column_end zs i h l e = whole_row i zs (map f (banks_in w)) h l (length-map (banks_in w) f ∙ banks_long w long) e

pub record Loading (w : List ℕ) (i : ℕ) (codes flags balances sublimits sheet : List ℕ) : Type 0 where
  pub few : i ≤ 64
  pub long : Lengths codes flags balances sublimits
  pub sheet_long : length sheet ≡ sheet_length
  pub codes_so : take i codes ≡ take i (codes_of (banks_in w))
  pub flags_so : take i flags ≡ take i (flags_of (banks_in w))
  pub balances_so : take i balances ≡ take i (balances_of (banks_in w))
  pub sublimits_so : take i sublimits ≡ take i (sublimits_of (banks_in w))
  pub sheet_so : take i sheet ≡ take i (waiting_of (banks_in w))

module _ (w codes flags balances sublimits sheet : List ℕ) (long : length w ≡ banks_length) where
  pub load_start : Lengths codes flags balances sublimits → length sheet ≡ sheet_length → Loading w 0 codes flags balances sublimits sheet
  load_start l s = record { few = omega arith; long = l; sheet_long = s; codes_so = refl; flags_so = refl; balances_so = refl; sublimits_so = refl; sheet_so = refl }

  pub load_turn : (i : ℕ) → i < 64 → Loading w i codes flags balances sublimits sheet
      → Loading w (i + 1) (set codes i (get_or w (5 * i + 0) 0)) (set flags i (get_or w (5 * i + 1) 0)) (set balances i (get_or w (5 * i + 2) 0)) (set sublimits i (get_or w (5 * i + 3) 0)) (set sheet i (get_or w (5 * i + 4) 0))
  load_turn i h x =
      let l = x.long in
      record {
        few = omega arith;
        long = record {
          codes_long = simp length-set l.codes_long;
          flags_long = simp length-set l.flags_long;
          balances_long = simp length-set l.balances_long;
          sublimits_long = simp length-set l.sublimits_long;
        };
        sheet_long = simp length-set x.sheet_long;
        codes_so = column_turn (λ (a : Account). a.code) w long codes i h l.codes_long x.codes_so;
        flags_so = column_turn (λ (a : Account). a.flags) w long flags i h l.flags_long x.flags_so;
        balances_so = column_turn (λ (a : Account). a.balance) w long balances i h l.balances_long x.balances_so;
        sublimits_so = column_turn (λ (a : Account). a.sublimit) w long sublimits i h l.sublimits_long x.sublimits_so;
        sheet_so = column_turn (λ (a : Account). a.waiting) w long sheet i h x.sheet_long x.sheet_so;
      }

  pub load_end : (i : ℕ) → 64 ≤ i → Loading w i codes flags balances sublimits sheet → Columns (banks_in w) codes flags balances sublimits sheet
  load_end i h x =
      let l = x.long in
      let e : i ≡ 64 = omega arith in
      record {
        codes_are = column_end (λ (a : Account). a.code) w long codes i e l.codes_long x.codes_so;
        flags_are = column_end (λ (a : Account). a.flags) w long flags i e l.flags_long x.flags_so;
        balances_are = column_end (λ (a : Account). a.balance) w long balances i e l.balances_long x.balances_so;
        sublimits_are = column_end (λ (a : Account). a.sublimit) w long sublimits i e l.sublimits_long x.sublimits_so;
        sheet_are = column_end (λ (a : Account). a.waiting) w long sheet i e x.sheet_long x.sheet_so;
      }

-- ---- and stored

module _ (f : Account → ℕ) (ws : List ℕ) (long : length ws ≡ 64) where
  field_turn : (w : List ℕ) (i : ℕ) (a : Account) → length w ≡ banks_length → i < 64 → f a ≡ get_or ws i 0 → take i (map f (banks_in w)) ≡ take i ws
      → take (i + 1) (map f (banks_in (stored w i a))) ≡ take (i + 1) ws
  field_turn w i a l h v e = rw (add-one i, bank_stored i w a (omega arith)) (field_stored f (banks_in w) ws i a (rw (banks_long w l) h) (rw long h) v e)

  field_end : (w : List ℕ) (i : ℕ) → length w ≡ banks_length → i ≡ 64 → take i (map f (banks_in w)) ≡ take i ws → ws ≡ map f (banks_in w)
  field_end w i l h e = sym (whole_row i (map f (banks_in w)) ws h (length-map (banks_in w) f ∙ banks_long w l) long e)

pub record Saving (w : List ℕ) (i : ℕ) (codes flags balances sublimits sheet : List ℕ) : Type 0 where
  pub few : i ≤ 64
  pub long : length w ≡ banks_length
  pub codes_so : take i (codes_of (banks_in w)) ≡ take i codes
  pub flags_so : take i (flags_of (banks_in w)) ≡ take i flags
  pub balances_so : take i (balances_of (banks_in w)) ≡ take i balances
  pub sublimits_so : take i (sublimits_of (banks_in w)) ≡ take i sublimits
  pub sheet_so : take i (waiting_of (banks_in w)) ≡ take i sheet

module _ (w codes flags balances sublimits sheet : List ℕ) (l : Lengths codes flags balances sublimits) (s : length sheet ≡ sheet_length) where
  pub save_start : length w ≡ banks_length → Saving w 0 codes flags balances sublimits sheet
  save_start h = record { few = omega arith; long = h; codes_so = refl; flags_so = refl; balances_so = refl; sublimits_so = refl; sheet_so = refl }

  pub save_turn : (i : ℕ) → i < 64 → Saving w i codes flags balances sublimits sheet
      → Saving (set (set (set (set (set w (5 * i + 0) (get_or codes i 0)) (5 * i + 1) (get_or flags i 0)) (5 * i + 2) (get_or balances i 0)) (5 * i + 3) (get_or sublimits i 0)) (5 * i + 4) (get_or sheet i 0))
      (i + 1) codes flags balances sublimits sheet
  save_turn i h x =
      let a : Account = record { code = get_or codes i 0; flags = get_or flags i 0; balance = get_or balances i 0; sublimit = get_or sublimits i 0; waiting = get_or sheet i 0 } in
      record {
        few = omega arith;
        long = simp length-set x.long;
        codes_so = field_turn (λ (b : Account). b.code) codes l.codes_long w i a x.long h refl x.codes_so;
        flags_so = field_turn (λ (b : Account). b.flags) flags l.flags_long w i a x.long h refl x.flags_so;
        balances_so = field_turn (λ (b : Account). b.balance) balances l.balances_long w i a x.long h refl x.balances_so;
        sublimits_so = field_turn (λ (b : Account). b.sublimit) sublimits l.sublimits_long w i a x.long h refl x.sublimits_so;
        sheet_so = field_turn (λ (b : Account). b.waiting) sheet s w i a x.long h refl x.sheet_so;
      }

  pub save_end : (i : ℕ) → 64 ≤ i → Saving w i codes flags balances sublimits sheet → Columns (banks_in w) codes flags balances sublimits sheet
  save_end i h x =
      let e : i ≡ 64 = omega arith in
      record {
        codes_are = field_end (λ (b : Account). b.code) codes l.codes_long w i x.long e x.codes_so;
        flags_are = field_end (λ (b : Account). b.flags) flags l.flags_long w i x.long e x.flags_so;
        balances_are = field_end (λ (b : Account). b.balance) balances l.balances_long w i x.long e x.balances_so;
        sublimits_are = field_end (λ (b : Account). b.sublimit) sublimits l.sublimits_long w i x.long e x.sublimits_so;
        sheet_are = field_end (λ (b : Account). b.waiting) sheet s w i x.long e x.sheet_so;
      }
