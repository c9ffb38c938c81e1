-- Laws of the tests of ranks.
use Rattle.std.proofs.Common.{◌≡◌, ℕ, ◌+◌, ◌-◌, ◌*◌, ◌<◌, ◌≤◌, Bool, true, false, not, List, [], ◌∷◌, length, get_or, take, drop, replicate, sym, ◌∙◌, arith, get_or-drop, get_or-take, eq-eqb, ne_eqb}
use Rattle.tables.specs.Rows.{rows, how_many, batch_rows}
use Rattle.tables.proofs.RowLaws.{rows_cut, rows_end}
use Rattle.tables.proofs.TestLaws.{Both}
use Rattle.tables_rules.specs.batch_rules.BatchRules.{ranks_in, Ranked}
use Rattle.tables_rules.specs.payments.Marks.{Marked}
use Rattle.tables_rules.proofs.payments.MarkLaws.{Fresh, fresh_start, fresh_end, fresh_not, fresh_on}

-- ---- the rows from a place on

abbrev pub rows_from : List ℕ → ℕ → List (List ℕ)
rows_from t p = rows 349 (32 - p) (drop (p * 349) t)

module _ (t : List ℕ) (p : ℕ) where
  row_word : (i : ℕ) → i < 349 → get_or (take 349 (drop (p * 349) t)) i 0 ≡ get_or t (p * 349 + i) 0
  row_word i h = get_or-take 349 (drop (p * 349) t) i 0 h ∙ get_or-drop (p * 349) t i 0

  module _ (phase n total : ℕ) (inv : n + how_many phase (rows_from t p) ≡ total) where
    pub count_end : 32 ≤ p → n ≡ total
    count_end h = omega (arith, rw (rows_end 349 32 p (drop (p * 349) t) h) at inv)

    pub count_here : p < 32 → get_or t (p * 349 + 0) 0 ≡ phase → n + 1 + how_many phase (rows_from t (p + 1)) ≡ total
    count_here h e =
        let f : n + (1 + how_many phase (rows_from t (p + 1))) ≡ total = rw (rows_cut 349 32 p t h, row_word 0 (omega arith), eq-eqb (get_or t (p * 349 + 0) 0) phase e) at inv in
        omega arith

    pub count_on : p < 32 → (get_or t (p * 349 + 0) 0 ≡ phase → ⊥) → n + how_many phase (rows_from t (p + 1)) ≡ total
    count_on h e =
        let f : n + (0 + how_many phase (rows_from t (p + 1))) ≡ total = rw (rows_cut 349 32 p t h, row_word 0 (omega arith), ne_eqb (get_or t (p * 349 + 0) 0) phase e) at inv in
        omega arith

  module _ (phase : ℕ) where
    pub ranks_end : 32 ≤ p → ranks_in phase (rows_from t p) ≡ []
    ranks_end h = rw (rows_end 349 32 p (drop (p * 349) t) h)

    pub ranks_here : p < 32 → get_or t (p * 349 + 0) 0 ≡ phase → ranks_in phase (rows_from t p) ≡ get_or t (p * 349 + 1) 0 ∷ ranks_in phase (rows_from t (p + 1))
    ranks_here h e = rw (rows_cut 349 32 p t h, row_word 0 (omega arith), row_word 1 (omega arith), eq-eqb (get_or t (p * 349 + 0) 0) phase e)

    pub ranks_on : p < 32 → (get_or t (p * 349 + 0) 0 ≡ phase → ⊥) → ranks_in phase (rows_from t p) ≡ ranks_in phase (rows_from t (p + 1))
    ranks_on h e = rw (rows_cut 349 32 p t h, row_word 0 (omega arith), ne_eqb (get_or t (p * 349 + 0) 0) phase e)

-- ---- the test of a phase

pub ranks_start : (t : List ℕ) (phase n : ℕ) → n ≡ how_many phase (batch_rows t) → Both (Ranked phase (batch_rows t)) (Fresh n (replicate 32 0) (ranks_in phase (rows_from t 0)))
ranks_start t phase n e =
    let b = fresh_start 32 n (ranks_in phase (batch_rows t)) in
    record {
      to = λ r. b.to (rw (sym e) at r.below, r.once);
      back = λ x. let y = b.back x in record { below = rw e at y.0; once = y.1 };
    }

module _ {Q : Type 0} (t : List ℕ) (phase n p : ℕ) (seen : List ℕ) (b : Both Q (Fresh n seen (ranks_in phase (rows_from t p)))) where
  pub rank_end : 32 ≤ p → Q
  rank_end h = fresh_end n seen (ranks_in phase (rows_from t p)) b (ranks_end t p phase h)

  pub rank_skip : p < 32 → (get_or t (p * 349 + 0) 0 ≡ phase → ⊥) → Both Q (Fresh n seen (ranks_in phase (rows_from t (p + 1))))
  rank_skip h e = rw (ranks_on t p phase h e) at b

  module _ (h : p < 32) (e : get_or t (p * 349 + 0) 0 ≡ phase) {left : List ℕ} {r : Bool} (m : Marked n (get_or t (p * 349 + 1) 0) seen left r) where
    pub rank_not : not r ≡ true → Q → ⊥
    rank_not f = fresh_not n seen (ranks_in phase (rows_from t p)) b (get_or t (p * 349 + 1) 0) (ranks_in phase (rows_from t (p + 1))) (ranks_here t p phase h e) m f

    pub rank_on : not r ≡ false → n ≤ 32 → length seen ≡ 32 → Both Q (Fresh n left (ranks_in phase (rows_from t (p + 1))))
    rank_on f l w = fresh_on n seen (ranks_in phase (rows_from t p)) b (get_or t (p * 349 + 1) 0) (ranks_in phase (rows_from t (p + 1))) (ranks_here t p phase h e) m f (omega arith)
