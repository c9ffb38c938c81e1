-- Laws of the tests of references and BINs.
use Rattle.std.proofs.Common.{◌≡◌, ℕ, ◌+◌, ◌-◌, ◌*◌, ◌<◌, ◌≤◌, Bool, true, false, cond, not, ◌&&◌, eqb, List, [], ◌∷◌, get_or, take, drop, sym, ap, ◌∙◌, inl, inr, arith, get_or-drop, get_or-take}
use mathlib.Core.Bool.{false≢true}
use borrow.Author.Tests.{not-true, not-false}
use Rattle.chars.specs.Words.{Says}
use Rattle.codes.specs.declared.Code.{Code}
use Rattle.book_read.specs.Range.{Each}
use Rattle.codes.specs.Codes.{no_code}
use Rattle.model.specs.State.{Entry, no_entry, same_code}
use Rattle.model.specs.Rules.{is_reference, is_bin, RightEntry, remembered, Unlike, noted_today}
use Rattle.dates.specs.Dates.{is_remembered}
use Rattle.tables.specs.Rows.{entries_in}
use Rattle.tables.proofs.RowLaws.{rows_cut, rows_end}
use Rattle.tables.proofs.TestLaws.{Both, both_same, says_no, says_yes, says_map, each_end, each_not, each_on}
use Rattle.tables_rules.proofs.payments.MarkLaws.{says_is}
use Rattle.tables_rules.specs.entry_rules.EntryRules.{entry_of, code_of, entries_from, code_right}

module _ (high low day : ℕ) where
  abbrev pub Right : (Code → Bool) → ℕ → Type 0
  Right is last = RightEntry is last (entry_of high low day)

  module _ (last : ℕ) (references a : Bool) (s : Says (entry_of high low day ≡ no_entry) a) where
    pub entry_none : a ≡ true → RightEntry (code_right references) last (entry_of high low day)
    entry_none e = inl (rw e at s)

    off : a ≡ false → entry_of high low day ≡ no_entry → ⊥
    off e = rw e at s

    pub entry_late : a ≡ false → last < day → RightEntry (code_right references) last (entry_of high low day) → ⊥
    entry_late e h (inl x) = off e x
    entry_late e h (inr x) = omega (arith, x.1)

  says_right : (is : Code → Bool) (last : ℕ) (r : Bool) → (entry_of high low day ≡ no_entry → ⊥) → day ≤ last → r ≡ is (record { high = high; low = low })
      → Says (RightEntry is last (entry_of high low day)) r
  says_right is last r n h e =
      says_map r (λ y. inr (y, h)) back (says_is r (is (record { high = high; low = low })) e)
    where
      back : RightEntry is last (entry_of high low day) → is (record { high = high; low = low }) ≡ true
      back (inl x) = absurd (n x)
      back (inr x) = x.0

  module _ (last : ℕ) (a : Bool) (s : Says (entry_of high low day ≡ no_entry) a) (e : a ≡ false) (h : day ≤ last) where
    pub entry_reference : (b : Bool) → b ≡ true → (r : Bool) → r ≡ is_reference (record { high = high; low = low }) → Says (RightEntry (code_right b) last (entry_of high low day)) r
    entry_reference b f r g = rw f (says_right is_reference last r (off last true a s e) h g)

    pub entry_bin : (b : Bool) → b ≡ false → (r : Bool) → r ≡ is_bin (record { high = high; low = low }) → Says (RightEntry (code_right b) last (entry_of high low day)) r
    entry_bin b f r g = rw f (says_right is_bin last r (off last true a s e) h g)

-- ---- the entries from i on

module _ (t : List ℕ) (n : ℕ) where
  pub entries_all : entries_from t n 0 ≡ entries_in n t
  unfolding entries_in
  entries_all = let e : n - 0 ≡ n = omega arith in rw e

  pub entries_done : (i : ℕ) → n ≤ i → entries_from t n i ≡ []
  entries_done i h = rw (rows_end 3 n i (drop (i * 3) t) h)

  abbrev pub entry_at : ℕ → Entry
  entry_at i = entry_of (get_or t (i * 3 + 0) 0) (get_or t (i * 3 + 1) 0) (get_or t (i * 3 + 2) 0)

  word_at : (i j : ℕ) → j < 3 → get_or (take 3 (drop (i * 3) t)) j 0 ≡ get_or t (i * 3 + j) 0
  word_at i j h = get_or-take 3 (drop (i * 3) t) j 0 h ∙ get_or-drop (i * 3) t j 0

  pub entries_cut : (i : ℕ) → i < n → entries_from t n i ≡ entry_at i ∷ entries_from t n (i + 1)
  entries_cut i h = rw (rows_cut 3 n i t h, word_at i 0 (omega arith), word_at i 1 (omega arith), word_at i 2 (omega arith))

  module _ (P : Entry → Type 0) where
    pub entries_start : Both (Each P (entries_in n t)) (Each P (entries_from t n 0))
    entries_start = rw entries_all (both_same (Each P (entries_in n t)))

    module _ {Q : Type 0} (i : ℕ) (b : Both Q (Each P (entries_from t n i))) where
      pub entries_end : n ≤ i → Q
      entries_end h = each_end P b (entries_done i h)

      pub entries_not : i < n → (r : Bool) → Says (P (entry_at i)) r → not r ≡ true → Q → ⊥
      entries_not h r s e = each_not P b (entry_at i) (entries_from t n (i + 1)) (entries_cut i h) (says_no r s e)

      pub entries_on : i < n → (r : Bool) → Says (P (entry_at i)) r → not r ≡ false → Both Q (Each P (entries_from t n (i + 1)))
      entries_on h r s e = each_on P b (entry_at i) (entries_from t n (i + 1)) (entries_cut i h) (says_yes r s e)

  -- those of today
  pub record Noted (today i count : ℕ) : Type 0 where
    pub same : count + noted_today today (entries_from t n i) ≡ noted_today today (entries_in n t)
    pub few : count ≤ i

  pub noted_start : (today : ℕ) → Noted today 0 0
  noted_start today = record { same = let e = ap (noted_today today) entries_all in omega (arith, e); few = omega arith }

  module _ (today i count : ℕ) (x : Noted today i count) where
    pub noted_end : n ≤ i → i ≤ n → (count ≡ noted_today today (entries_in n t)) × (count ≤ n)
    noted_end h k = let e = ap (noted_today today) (entries_done i h) in (omega (arith, e, x.same), omega (arith, x.few))

    module _ (h : i < n) {r : Bool} (g : r ≡ (not (same_code (entry_at i).code no_code) && eqb (get_or t (i * 3 + 2) 0) today)) where
      step : noted_today today (entries_from t n i) ≡ cond r 1 0 + noted_today today (entries_from t n (i + 1))
      step = ap (noted_today today) (entries_cut i h) ∙ ap (λ (y : Bool). cond y 1 0 + noted_today today (entries_from t n (i + 1))) (sym g)

      pub noted_skip : not r ≡ true → Noted today (i + 1) count
      noted_skip e = record { same = let f = rw (not-true r e) at step in omega (arith, f, x.same); few = omega (arith, x.few) }

      pub noted_on_lem : not r ≡ false → Noted today (i + 1) (count + 1)
      noted_on_lem e = record { same = let f = rw (not-false r e) at step in omega (arith, f, x.same); few = omega (arith, x.few) }

-- ---- the test of a table

module _ (t : List ℕ) (n last : ℕ) (b : Bool) where
  abbrev pub AllRight : List Entry → Type 0
  AllRight es = Each (RightEntry (code_right b) last) es

  pub right_start : Both (AllRight (entries_in n t)) (AllRight (entries_from t n 0))
  right_start = entries_start t n (RightEntry (code_right b) last)

  module _ (i : ℕ) (x : Both (AllRight (entries_in n t)) (AllRight (entries_from t n i))) where
    pub right_end : n ≤ i → AllRight (entries_in n t)
    right_end h = entries_end t n (RightEntry (code_right b) last) i x h

    module _ (h : i < n) (r : Bool) (s : Says (RightEntry (code_right b) last (entry_of (get_or t (i * 3 + 0) 0) (get_or t (i * 3 + 1) 0) (get_or t (i * 3 + 2) 0))) r) where
      pub right_not : not r ≡ true → AllRight (entries_in n t) → ⊥
      right_not e = entries_not t n (RightEntry (code_right b) last) i x h r s e

      pub right_on : not r ≡ false → Both (AllRight (entries_in n t)) (AllRight (entries_from t n (i + 1)))
      right_on e = entries_on t n (RightEntry (code_right b) last) i x h r s e

-- ---- remembered codes

module _ (t : List ℕ) (n today : ℕ) where
  abbrev pub codes_from : ℕ → List Code
  codes_from i = remembered today (entries_from t n i)

  pub codes_done : (i : ℕ) → n ≤ i → codes_from i ≡ []
  codes_done i h = ap (remembered today) (entries_done t n i h)

  module _ (i : ℕ) (h : i < n) {a : Bool} (ea : a ≡ (not (same_code (entry_of (get_or t (i * 3 + 0) 0) (get_or t (i * 3 + 1) 0) (get_or t (i * 3 + 2) 0)).code no_code) && is_remembered (get_or t (i * 3 + 2) 0) today)) where
    codes_cut : codes_from i ≡ cond a (code_of (get_or t (i * 3 + 0) 0) (get_or t (i * 3 + 1) 0) ∷ codes_from (i + 1)) (codes_from (i + 1))
    codes_cut =
        ap (remembered today) (entries_cut t n i h)
        ∙ ap (λ (y : Bool). cond y (code_of (get_or t (i * 3 + 0) 0) (get_or t (i * 3 + 1) 0) ∷ codes_from (i + 1)) (codes_from (i + 1))) (sym ea)

    pub codes_skip : not a ≡ true → codes_from i ≡ codes_from (i + 1)
    codes_skip e = codes_cut ∙ rw (not-true a e)

    pub codes_here : not a ≡ false → codes_from i ≡ code_of (get_or t (i * 3 + 0) 0) (get_or t (i * 3 + 1) 0) ∷ codes_from (i + 1)
    codes_here e = codes_cut ∙ rw (not-false a e)

    module _ {Q : Type 0} (high low : ℕ) (b : Both Q (Unlike (code_of high low) (codes_from i))) where
      pub alone_skip : not a ≡ true → Both Q (Unlike (code_of high low) (codes_from (i + 1)))
      alone_skip e = rw (codes_skip e) at b

      module _ (e : not a ≡ false) {r : Bool} (f : r ≡ same_code (code_of high low) (code_of (get_or t (i * 3 + 0) 0) (get_or t (i * 3 + 1) 0))) where
        pub alone_not : r ≡ true → Q → ⊥
        alone_not g q = let x = rw (codes_here e) at (b.to q) in false≢true (sym x.0 ∙ sym f ∙ g)

        pub alone_on : r ≡ false → Both Q (Unlike (code_of high low) (codes_from (i + 1)))
        alone_on g = record { to = λ q. (rw (codes_here e) at (b.to q)).1; back = λ y. b.back (rw (codes_here e) (sym f ∙ g, y)) }

  pub alone_start : (high low i : ℕ) → Both (Unlike (code_of high low) (codes_from i)) (Unlike (code_of high low) (codes_from i))
  alone_start high low i = both_same (Unlike (code_of high low) (codes_from i))

  pub alone_end : {Q : Type 0} (high low i : ℕ) → Both Q (Unlike (code_of high low) (codes_from i)) → n ≤ i → Q
  alone_end high low i b h = b.back (rw (codes_done i h) tt)
