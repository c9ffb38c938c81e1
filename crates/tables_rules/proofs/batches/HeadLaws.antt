-- Laws of the tests of a row's messages.
use Rattle.std.proofs.Common.{◌≡◌, ℕ, suc, ◌+◌, ◌-◌, ◌*◌, ◌<◌, ◌≤◌, Bool, true, false, not, eqb, List, [], ◌∷◌, length, get_or, replicate, sym, ap, ◌∙◌, arith, eqb-true}
use borrow.Author.Tests.{eqb-false}
use Rattle.chars.specs.Words.{Says}
use Rattle.book_read.specs.Book.{each}
use Rattle.book_read.specs.Range.{Each}
use Rattle.queue.specs.Promise.{All}
use Rattle.queue.proofs.MemoryLaws.{by_bool}
use Rattle.tables.specs.Rows.{word}
use Rattle.tables.proofs.TestLaws.{Both, both_same, says_no, says_yes, each_end, each_not, each_on}
use Rattle.tables_rules.specs.batch_rules.BatchRules.{Head, head_at, heads_in, numbers_of, sizes_of, RightHead, RightHeads}
use Rattle.tables_rules.specs.payments.Marks.{Below, Marked}
use Rattle.tables_rules.proofs.payments.MarkLaws.{Fresh, fresh_start, fresh_end, fresh_not, fresh_on}

-- ---- the messages from i on

abbrev pub heads_from : List ℕ → (n i : ℕ) → List Head
heads_from row n i = each (head_at row) i (n - i)

module _ (row : List ℕ) (n : ℕ) where
  pub heads_cut : (i : ℕ) → i < n → heads_from row n i ≡ head_at row i ∷ heads_from row n (i + 1)
  heads_cut i h = let e : n - i ≡ suc (n - (i + 1)) = omega arith in rw e

  pub heads_none : (i : ℕ) → n ≤ i → heads_from row n i ≡ []
  heads_none i h = let e : n - i ≡ 0 = omega arith in rw e

  pub heads_all : heads_from row n 0 ≡ each (head_at row) 0 n
  heads_all = let e : n - 0 ≡ n = omega arith in rw e

  pub heads_start : (count : ℕ) → Both (Each (RightHead count) (each (head_at row) 0 n)) (Each (RightHead count) (heads_from row n 0))
  heads_start count = rw heads_all (both_same (Each (RightHead count) (each (head_at row) 0 n)))

  module _ {Q : Type 0} (i count : ℕ) (b : Both Q (Each (RightHead count) (heads_from row n i))) where
    pub heads_end : n ≤ i → Q
    heads_end h = each_end (RightHead count) b (heads_none i h)

    pub heads_not : i < n → (r : Bool) → Says (RightHead count (head_at row i)) r → not r ≡ true → Q → ⊥
    heads_not h r s e = each_not (RightHead count) b (head_at row i) (heads_from row n (i + 1)) (heads_cut i h) (says_no r s e)

    pub heads_on : i < n → (r : Bool) → Says (RightHead count (head_at row i)) r → not r ≡ false → Both Q (Each (RightHead count) (heads_from row n (i + 1)))
    heads_on h r s e = each_on (RightHead count) b (head_at row i) (heads_from row n (i + 1)) (heads_cut i h) (says_yes r s e)

  -- numbers
  pub number_start : Both (Below 11 (numbers_of (each (head_at row) 0 n))) (Fresh 11 (replicate 11 0) (numbers_of (heads_from row n 0)))
  number_start = rw heads_all (fresh_start 11 11 (numbers_of (each (head_at row) 0 n)))

  module _ {Q : Type 0} (i : ℕ) (seen : List ℕ) (b : Both Q (Fresh 11 seen (numbers_of (heads_from row n i)))) where
    pub number_end : n ≤ i → Q
    number_end h = fresh_end 11 seen (numbers_of (heads_from row n i)) b (ap numbers_of (heads_none i h))

    module _ (h : i < n) {left : List ℕ} {r : Bool} (m : Marked 11 (get_or row (11 + 4 * i) 0) seen left r) where
      pub number_not : not r ≡ true → Q → ⊥
      number_not e =
          fresh_not 11 seen (numbers_of (heads_from row n i)) b (get_or row (11 + 4 * i) 0) (numbers_of (heads_from row n (i + 1))) (ap numbers_of (heads_cut i h)) m e

      pub number_on : not r ≡ false → length seen ≡ 11 → Both Q (Fresh 11 left (numbers_of (heads_from row n (i + 1))))
      number_on e l =
          fresh_on 11 seen (numbers_of (heads_from row n i)) b (get_or row (11 + 4 * i) 0) (numbers_of (heads_from row n (i + 1))) (ap numbers_of (heads_cut i h)) m e (omega arith)

  -- how many payments
  pub record Totalled (i sum : ℕ) : Type 0 where
    pub same : sum + sizes_of (heads_from row n i) ≡ sizes_of (each (head_at row) 0 n)
    pub small : sum ≤ 10 * i
    pub rest : Each (λ h. h.size ≤ 10) (heads_from row n i)

  pub total_start : Each (λ h. h.size ≤ 10) (each (head_at row) 0 n) → Totalled 0 0
  total_start h = record { same = let e = ap sizes_of heads_all in omega (arith, e); small = omega arith; rest = rw heads_all h }

  module _ (i sum : ℕ) (t : Totalled i sum) where
    pub size_small : i < n → get_or row (12 + 4 * i) 0 ≤ 10
    size_small h = (rw (heads_cut i h) at t.rest).0

    pub total_on : i < n → Totalled (i + 1) (sum + get_or row (12 + 4 * i) 0)
    total_on h = record {
      same = let e = ap sizes_of (heads_cut i h) in omega (arith, e, t.same);
      small = omega (arith, t.small, size_small h);
      rest = (rw (heads_cut i h) at t.rest).1;
    }

    pub total_end : n ≤ i → sum ≡ sizes_of (each (head_at row) 0 n)
    total_end h = let e = ap sizes_of (heads_none i h) in omega (arith, e, t.same)

-- ---- all of them

small_numbers : (count : ℕ) (hs : List Head) → count ≤ 10 → Each (RightHead count) hs → All (λ k. k < 11) (numbers_of hs)
small_numbers count [] h x = tt
small_numbers count (y ∷ hs) h x = (omega (arith, x.0.number.1), small_numbers count hs h x.1)

small_sizes : (count : ℕ) (hs : List Head) → Each (RightHead count) hs → Each (λ h. h.size ≤ 10) hs
small_sizes count [] x = tt
small_sizes count (y ∷ hs) x = (x.0.size.1, small_sizes count hs x.1)

module _ (row : List ℕ) (a : Bool) (s : Says (Each (RightHead (word row 4)) (each (head_at row) 0 (word row 7))) a) where
  pub heads_1 : not a ≡ true → RightHeads row → ⊥
  heads_1 e x = says_no a s e x.right

  pub heads_sizes : not a ≡ false → Each (λ h. h.size ≤ 10) (each (head_at row) 0 (word row 7))
  heads_sizes e = small_sizes (word row 4) (heads_in row) (says_yes a s e)

  module _ (few : word row 4 ≤ 10) (c : Bool) (t : Says (Below 11 (numbers_of (each (head_at row) 0 (word row 7)))) c) where
    pub heads_2 : not c ≡ true → RightHeads row → ⊥
    heads_2 e x = says_no c t e (small_numbers (word row 4) (heads_in row) few x.right, x.apart)

    pub heads_3 : not a ≡ false → not c ≡ false → {n : ℕ} → n ≡ sizes_of (each (head_at row) 0 (word row 7)) → Says (RightHeads row) (eqb n (word row 8))
    heads_3 e f {n} g =
        by_bool (eqb n (word row 8))
        (λ y. rw y (record { right = says_yes a s e; apart = (says_yes c t f).1; all = sym g ∙ eqb-true n (word row 8) y }))
        (λ y. rw y (λ x. eqb-false n (word row 8) y (g ∙ x.all)))
