-- Laws of the tests of a row and of the table.
use Rattle.std.proofs.Common.{◌≡◌, ℕ, zero, suc, ◌+◌, ◌-◌, ◌*◌, ◌<◌, ◌≤◌, Bool, true, false, not, List, take, drop, sym, refl, subst, arith}
use Rattle.chars.specs.Words.{Says}
use Rattle.book_read.specs.Range.{Each}
use Rattle.book_read.proofs.Filling.{each_length}
use Rattle.settle.specs.Payments.{cents_of}
use Rattle.tables.specs.House.{AllZero}
use Rattle.tables.specs.Rows.{word, batch_rows}
use Rattle.tables.proofs.RowLaws.{rows_cut, rows_end}
use Rattle.tables.proofs.TestLaws.{Both, both_same, says_no, says_yes, says_map, each_end, each_not, each_on}
use Rattle.tables_rules.specs.batch_rules.BatchRules.{head_at, heads_in, payments_in, RightTop, RightHeads, RightPayments, ZeroBehind, LiveRow, BuildingRow, PendingRow, QueuedRow, RowIn, RowRight}
use Rattle.tables_rules.proofs.batch_rules.RowRules.{few_sizes}
use Rattle.tables_rules.proofs.batches.OrderLaws.{rows_from}
use Rattle.tables_rules.proofs.payments.MoneyLaws.{priced_cheap}

module _ (row : List ℕ) where
  -- ---- a live row

  pub live_2 : (banks : ℕ) (c : Bool) → Says (RightHeads row) c → not c ≡ true → LiveRow banks row → ⊥
  live_2 banks c t e x = says_no c t e x.heads

  pub live_3 : (banks : ℕ) (d : Bool) → Says (RightPayments banks row) d → not d ≡ true → LiveRow banks row → ⊥
  live_3 banks d u e x = says_no d u e x.payments

  module _ (banks : ℕ) (a : Bool) (s : Says (RightTop row) a) where
    pub live_1 : not a ≡ true → LiveRow banks row → ⊥
    live_1 e x = says_no a s e x.top

    pub top_few : not a ≡ false → (word row 7 ≤ 10) × (word row 4 ≤ 10)
    top_few e = let y = says_yes a s e in (omega (arith, y.count.1, y.there.1), y.count.1)

    module _ (c : Bool) (t : Says (RightHeads row) c) where
      pub heads_few : not a ≡ false → not c ≡ false → word row 8 ≤ 100
      heads_few e f =
          let y = says_yes a s e in
          let z = says_yes c t f in
          omega (arith, few_sizes row (word row 4) (heads_in row) z.right, each_length (head_at row) 0 (word row 7), z.all, y.count.1, y.there.1)

      module _ (d : Bool) (u : Says (RightPayments banks row) d) where
        pub live_4 : not a ≡ false → not c ≡ false → not d ≡ false → (r : Bool) → Says (ZeroBehind row) r → Says (LiveRow banks row) r
        live_4 e f g r v =
            says_map r (λ y. record { top = says_yes a s e; heads = says_yes c t f; payments = says_yes d u g; behind = y }) (λ x. x.behind) v

  -- ---- any row

  small_live : (banks : ℕ) → LiveRow banks row → word row 8 ≤ 100
  small_live banks h =
      omega (arith, few_sizes row (word row 4) (heads_in row) h.heads.right, each_length (head_at row) 0 (word row 7), h.heads.all, h.top.there.1, h.top.count.1)

  module _ (banks : ℕ) where
    pub row_free : word row 0 ≡ 0 → (r : Bool) → Says (AllZero row) r → Says (RowRight banks row) r
    row_free e r s = subst (λ (w : ℕ). Says (RowIn w banks row) r) (sym e) s

    four : (w : ℕ) → 3 < w → RowIn w banks row → ⊥
    four zero h x = omega arith
    four (suc zero) h x = omega arith
    four (suc (suc zero)) h x = omega arith
    four (suc (suc (suc zero))) h x = omega arith
    four (suc (suc (suc (suc n)))) h x = x

    pub row_wrong : 3 < word row 0 → RowRight banks row → ⊥
    row_wrong h x = four (word row 0) h x

    is_live : (w : ℕ) → (w ≡ 0 → ⊥) → RowIn w banks row → LiveRow banks row
    is_live zero n x = absurd (n refl)
    is_live (suc zero) n x = x.0
    is_live (suc (suc zero)) n x = x.0
    is_live (suc (suc (suc zero))) n x = x.0
    is_live (suc (suc (suc (suc k)))) n x = absurd x

    module _ (a : Bool) (s : Says (LiveRow banks row) a) where
      pub row_dead : (word row 0 ≡ 0 → ⊥) → not a ≡ true → RowRight banks row → ⊥
      row_dead n e x = says_no a s e (is_live (word row 0) n x)

      pub live_cheap : not a ≡ false → Each (λ p. cents_of p ≤ 999999999999) (payments_in row)
      live_cheap e = priced_cheap banks (payments_in row) (says_yes a s e).payments.priced

      pub live_little : not a ≡ false → word row 8 ≤ 100
      live_little e = small_live banks (says_yes a s e)

      module _ (e : not a ≡ false) (r : Bool) where
        pub row_building : word row 0 ≡ 1 → Says (BuildingRow row) r → Says (RowRight banks row) r
        row_building f t = subst (λ (w : ℕ). Says (RowIn w banks row) r) (sym f) (says_map r (λ y. (says_yes a s e, y)) (λ x. x.1) t)

        pub row_pending : word row 0 ≡ 2 → Says (PendingRow row) r → Says (RowRight banks row) r
        row_pending f t = subst (λ (w : ℕ). Says (RowIn w banks row) r) (sym f) (says_map r (λ y. (says_yes a s e, y)) (λ x. x.1) t)

        pub row_queued : (word row 0 ≡ 0 → ⊥) → word row 0 ≤ 3 → (word row 0 ≡ 1 → ⊥) → (word row 0 ≡ 2 → ⊥) → Says (QueuedRow row) r → Says (RowRight banks row) r
        row_queued x y z v t =
            let f : word row 0 ≡ 3 = three (word row 0) x y z v in
            subst (λ (w : ℕ). Says (RowIn w banks row) r) (sym f) (says_map r (λ y. (says_yes a s e, y)) (λ x. x.1) t)
          where
            three : (w : ℕ) → (w ≡ 0 → ⊥) → w ≤ 3 → (w ≡ 1 → ⊥) → (w ≡ 2 → ⊥) → w ≡ 3
            three w a b c d = omega arith

-- ---- the rows

lent : (p : ℕ) → p * 349 + 349 - p * 349 ≡ 349
lent p = omega arith

module _ {Q : Type 0} (banks : ℕ) (t : List ℕ) (p : ℕ) (b : Both Q (Each (RowRight banks) (rows_from t p))) where
  pub rows_done : 32 ≤ p → Q
  rows_done h = each_end (RowRight banks) b (rows_end 349 32 p (drop (p * 349) t) h)

  module _ (h : p < 32) (r : Bool) (s : Says (RowRight banks (take (p * 349 + 349 - p * 349) (drop (p * 349) t))) r) where
    here : Says (RowRight banks (take 349 (drop (p * 349) t))) r
    here = subst (λ (w : ℕ). Says (RowRight banks (take w (drop (p * 349) t))) r) (lent p) s

    pub rows_not : not r ≡ true → Q → ⊥
    rows_not e = each_not (RowRight banks) b (take 349 (drop (p * 349) t)) (rows_from t (p + 1)) (rows_cut 349 32 p t h) (says_no r here e)

    pub rows_on : not r ≡ false → Both Q (Each (RowRight banks) (rows_from t (p + 1)))
    rows_on e = each_on (RowRight banks) b (take 349 (drop (p * 349) t)) (rows_from t (p + 1)) (rows_cut 349 32 p t h) (says_yes r here e)

pub rows_start : (banks : ℕ) (t : List ℕ) → Both (Each (RowRight banks) (batch_rows t)) (Each (RowRight banks) (rows_from t 0))
rows_start banks t = both_same (Each (RowRight banks) (batch_rows t))
