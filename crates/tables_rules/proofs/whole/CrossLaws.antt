-- Laws of the tests of live BINs and messages.
use Rattle.std.proofs.Common.{◌≡◌, ℕ, zero, suc, ◌+◌, ◌-◌, ◌*◌, ◌<◌, ◌≤◌, Bool, true, false, not, eqb, List, [], ◌∷◌, map, length, get_or, take, drop, sym, refl, ap, ◌∙◌, arith, get_or-drop, get_or-take, eq-eqb, ne_eqb, eqb-true}
use mathlib.Core.Bool.{false≢true}
use Rattle.chars.specs.Words.{Says}
use Rattle.codes.specs.declared.Code.{Code}
use Rattle.book_read.specs.Range.{Each}
use Rattle.queue.proofs.MemoryLaws.{by_bool}
use Rattle.model.specs.State.{Place, free, live, same_code, place_messages}
use Rattle.model.specs.Rules.{remembered, Unlike, AllUnlike, has, live_bins, live_messages}
use Rattle.tables.specs.Rows.{rows, word, place_in, batch_in, batch_rows, entries_in}
use Rattle.tables.proofs.RowLaws.{rows_cut, rows_end}
use Rattle.tables.proofs.TestLaws.{Both, both_same, says_no, says_yes}
use Rattle.tables_rules.specs.batch_rules.BatchRules.{RowIn, RowRight}
use Rattle.tables_rules.proofs.batch_rules.RowWords.{messages_many}
use Rattle.tables_rules.specs.entry_rules.EntryRules.{code_of, entries_from}
use Rattle.tables_rules.specs.whole.TableRules.{bins_from, places_of, Counts}
use Rattle.tables_rules.proofs.entry_rules.EntryLaws.{entries_all}

unlike_has : (c : Code) (l : List Code) → Unlike c l → has c l ≡ false
unlike_has c [] u = refl
unlike_has c (d ∷ l) u = rw (u.0, unlike_has c l u.1)

has_unlike : (c : Code) (l : List Code) → (Unlike c l → ⊥) → has c l ≡ true
has_unlike c [] n = absurd (n tt)
has_unlike c (d ∷ l) n = by_bool (same_code c d) (λ e. rw e) (λ e. rw e (has_unlike c l (λ u. n (e, u))))

-- ---- the places from p on

abbrev pub places_from : List ℕ → ℕ → List Place
places_from t p = map place_in (rows 349 (32 - p) (drop (p * 349) t))

module _ (t : List ℕ) (p : ℕ) where
  word_at : (i : ℕ) → i < 349 → get_or (take 349 (drop (p * 349) t)) i 0 ≡ get_or t (p * 349 + i) 0
  word_at i h = get_or-take 349 (drop (p * 349) t) i 0 h ∙ get_or-drop (p * 349) t i 0

  places_done : 32 ≤ p → places_from t p ≡ []
  places_done h = rw (rows_end 349 32 p (drop (p * 349) t) h)

  places_cut : p < 32 → places_from t p ≡ place_in (take 349 (drop (p * 349) t)) ∷ places_from t (p + 1)
  places_cut h = rw (rows_cut 349 32 p t h)

  free_here : get_or t (p * 349 + 0) 0 ≡ 0 → place_in (take 349 (drop (p * 349) t)) ≡ free
  unfolding place_in
  free_here e = rw (word_at 0 (omega arith), eq-eqb (get_or t (p * 349 + 0) 0) 0 e)

  live_here : (get_or t (p * 349 + 0) 0 ≡ 0 → ⊥) → place_in (take 349 (drop (p * 349) t)) ≡ live (batch_in (take 349 (drop (p * 349) t)))
  unfolding place_in
  live_here n = rw (word_at 0 (omega arith), ne_eqb (get_or t (p * 349 + 0) 0) 0 n)

  bin_is : (batch_in (take 349 (drop (p * 349) t))).bin ≡ code_of (get_or t (p * 349 + 2) 0) (get_or t (p * 349 + 3) 0)
  unfolding batch_in
  bin_is = rw (word_at 2 (omega arith), word_at 3 (omega arith))

  bins_done : 32 ≤ p → bins_from t p ≡ []
  bins_done h = ap live_bins (places_done h)

  bins_skip : p < 32 → get_or t (p * 349 + 0) 0 ≡ 0 → bins_from t p ≡ bins_from t (p + 1)
  bins_skip h e = ap live_bins (places_cut h ∙ ap (λ (x : Place). x ∷ places_from t (p + 1)) (free_here e))

  bins_here : p < 32 → (get_or t (p * 349 + 0) 0 ≡ 0 → ⊥) → bins_from t p ≡ code_of (get_or t (p * 349 + 2) 0) (get_or t (p * 349 + 3) 0) ∷ bins_from t (p + 1)
  bins_here h n =
      ap live_bins (places_cut h ∙ ap (λ (x : Place). x ∷ places_from t (p + 1)) (live_here n))
      ∙ ap (λ (c : Code). c ∷ bins_from t (p + 1)) bin_is

  -- ---- unlike another

  module _ {Q : Type 0} (high low : ℕ) (b : Both Q (Unlike (code_of high low) (bins_from t p))) where
    pub bin_end : 32 ≤ p → Q
    bin_end h = b.back (rw (bins_done h) tt)

    module _ (h : p < 32) where
      pub bin_skip : get_or t (p * 349 + 0) 0 ≡ 0 → Both Q (Unlike (code_of high low) (bins_from t (p + 1)))
      bin_skip e = rw (bins_skip h e) at b

      module _ (n : get_or t (p * 349 + 0) 0 ≡ 0 → ⊥) {r : Bool} (f : r ≡ same_code (code_of high low) (code_of (get_or t (p * 349 + 2) 0) (get_or t (p * 349 + 3) 0))) where
        pub bin_not : r ≡ true → Q → ⊥
        bin_not g q = let x = rw (bins_here h n) at (b.to q) in false≢true (sym x.0 ∙ sym f ∙ g)

        pub bin_on : r ≡ false → Both Q (Unlike (code_of high low) (bins_from t (p + 1)))
        bin_on g = record { to = λ q. (rw (bins_here h n) at (b.to q)).1; back = λ y. b.back (rw (bins_here h n) (sym f ∙ g, y)) }

  -- ---- all differ

  module _ {Q : Type 0} (b : Both Q (AllUnlike (bins_from t p))) where
    pub differ_end : 32 ≤ p → Q
    differ_end h = b.back (rw (bins_done h) tt)

    module _ (h : p < 32) where
      pub differ_skip : get_or t (p * 349 + 0) 0 ≡ 0 → Both Q (AllUnlike (bins_from t (p + 1)))
      differ_skip e = rw (bins_skip h e) at b

      module _ (n : get_or t (p * 349 + 0) 0 ≡ 0 → ⊥) (r : Bool) (s : Says (Unlike (code_of (get_or t (p * 349 + 2) 0) (get_or t (p * 349 + 3) 0)) (bins_from t (p + 1))) r) where
        pub differ_not : not r ≡ true → Q → ⊥
        differ_not g q = says_no r s g (rw (bins_here h n) at (b.to q)).0

        pub differ_on : not r ≡ false → Both Q (AllUnlike (bins_from t (p + 1)))
        differ_on g = record { to = λ q. (rw (bins_here h n) at (b.to q)).1; back = λ y. b.back (rw (bins_here h n) (says_yes r s g, y)) }

  -- ---- all remembered

  module _ {Q : Type 0} (es : List Code) (b : Both Q (Each (λ c. has c es ≡ true) (bins_from t p))) where
    pub has_end : 32 ≤ p → Q
    has_end h = b.back (rw (bins_done h) tt)

    module _ (h : p < 32) where
      pub has_skip : get_or t (p * 349 + 0) 0 ≡ 0 → Both Q (Each (λ c. has c es ≡ true) (bins_from t (p + 1)))
      has_skip e = rw (bins_skip h e) at b

      module _ (n : get_or t (p * 349 + 0) 0 ≡ 0 → ⊥) (r : Bool) (s : Says (Unlike (code_of (get_or t (p * 349 + 2) 0) (get_or t (p * 349 + 3) 0)) es) r) where
        abbrev code : Code
        code = code_of (get_or t (p * 349 + 2) 0) (get_or t (p * 349 + 3) 0)

        pub has_not : r ≡ true → Q → ⊥
        has_not g q =
            let x = rw (bins_here h n) at (b.to q) in
            let u : Unlike code es = rw g at s in
            false≢true (sym (unlike_has code es u) ∙ x.0)

        pub has_on : r ≡ false → Both Q (Each (λ c. has c es ≡ true) (bins_from t (p + 1)))
        has_on g =
            let u : Unlike code es → ⊥ = rw g at s in
            record { to = λ q. (rw (bins_here h n) at (b.to q)).1; back = λ y. b.back (rw (bins_here h n) (has_unlike code es u, y)) }

-- ---- starts

pub bin_start : (t : List ℕ) (p high low : ℕ) → Both (Unlike (code_of high low) (bins_from t p)) (Unlike (code_of high low) (bins_from t p))
bin_start t p high low = both_same (Unlike (code_of high low) (bins_from t p))

pub differ_start : (t : List ℕ) → Both (AllUnlike (live_bins (places_of t))) (AllUnlike (bins_from t 0))
differ_start t = both_same (AllUnlike (live_bins (places_of t)))

pub has_start : (t : List ℕ) (es : List Code) → Both (Each (λ c. has c es ≡ true) (live_bins (places_of t))) (Each (λ c. has c es ≡ true) (bins_from t 0))
has_start t es = both_same (Each (λ c. has c es ≡ true) (live_bins (places_of t)))

-- an answer over the entries from 0 on is one over all
pub all_entries : (bins : List ℕ) (today high low : ℕ) (r : Bool) → Says (Unlike (code_of high low) (remembered today (entries_from bins 512 0))) r
    → Says (Unlike (code_of high low) (remembered today (entries_in 512 bins))) r
all_entries bins today high low r s = rw (entries_all bins 512) at s

-- ---- live messages

messages_in_lem : (row : List ℕ) → Counts row → length (place_messages (place_in row)) ≡ word row 7
unfolding place_in batch_in
messages_in_lem row c =
    by_bool (eqb (word row 0) 0)
    (λ e. rw e (sym (c.1 (eqb-true (word row 0) 0 e))))
    (λ e. rw e (messages_many row 0 49 (word row 7)))

module _ (t : List ℕ) where
  pub record Told (p count : ℕ) : Type 0 where
    pub same : count + live_messages (places_from t p) ≡ live_messages (places_of t)
    pub small : count ≤ 10 * p
    pub rest : Each Counts (rows 349 (32 - p) (drop (p * 349) t))

  pub told_start : Each Counts (batch_rows t) → Told 0 0
  told_start h = record { same = omega arith; small = omega arith; rest = h }

  module _ (p count : ℕ) (x : Told p count) where
    pub told_end : 32 ≤ p → p ≤ 32 → (count ≡ live_messages (places_of t)) × (count ≤ 320)
    told_end h k = let e = ap live_messages (places_done t p h) in (omega (arith, e, x.same), omega (arith, x.small))

    counts_here : p < 32 → Counts (take 349 (drop (p * 349) t))
    counts_here h = (rw (rows_cut 349 32 p t h) at x.rest).0

    pub told_few : p < 32 → get_or t (p * 349 + 7) 0 ≤ 10
    told_few h = rw (word_at t p 7 (omega arith)) at (counts_here h).0

    pub told_on : p < 32 → Told (p + 1) (count + get_or t (p * 349 + 7) 0)
    told_on h = record {
      same =
          let e = ap live_messages (places_cut t p h) in
          let m = messages_in_lem (take 349 (drop (p * 349) t)) (counts_here h) in
          let w = word_at t p 7 (omega arith) in
          omega (arith, e, m, w, x.same);
      small = omega (arith, x.small, told_few h);
      rest = (rw (rows_cut 349 32 p t h) at x.rest).1;
    }

-- ---- rows that keep the rules have few messages, and none at a free place

zero_at : (l : List ℕ) (i : ℕ) → Each (λ x. x ≡ 0) l → get_or l i 0 ≡ 0
zero_at [] i z = refl
zero_at (x ∷ l) zero z = z.0
zero_at (x ∷ l) (suc i) z = zero_at l i z.1

row_counts : (banks : ℕ) (row : List ℕ) (w : ℕ) → word row 0 ≡ w → RowIn w banks row → Counts row
row_counts banks row zero e r = let z = zero_at row 7 r in (omega arith, λ _. z)
row_counts banks row (suc zero) e r = (omega (arith, r.0.top.there.1, r.0.top.count.1), λ z. absurd (omega arith))
row_counts banks row (suc (suc zero)) e r = (omega (arith, r.0.top.there.1, r.0.top.count.1), λ z. absurd (omega arith))
row_counts banks row (suc (suc (suc zero))) e r = (omega (arith, r.0.top.there.1, r.0.top.count.1), λ z. absurd (omega arith))
row_counts banks row (suc (suc (suc (suc n)))) e r = absurd r

pub rows_count : (banks : ℕ) (rs : List (List ℕ)) → Each (RowRight banks) rs → Each Counts rs
rows_count banks [] h = tt
rows_count banks (row ∷ rs) h = (row_counts banks row (word row 0) refl h.0, rows_count banks rs h.1)
