-- The first test that fails: lists of tests one after another, and each return of the blocks and of the book.
use Prim.Native.Nat.{ℕ, suc, ◌+◌, ◌-◌, ◌/◌, ◌%◌, ◌≤◌, ◌<◌}
use mathlib.Core.Path.{◌≡◌, refl, sym, ◌∙◌, ap}
use mathlib.Core.Bool.{Bool, and-false}
use mathlib.Core.List.{List, [], ◌∷◌, ◌++◌}
use native.Mathlib.Omega.{arith}
use lib.ListN.{length}
use borrow.Author.Tests.{le-leb, lt-leb, eq-eqb, ne_eqb}
use Rattle.codes.specs.Codes.{short_at}
use Rattle.book_read.specs.Book.{length_right, bank_count, total_right}
use Rattle.book_read.proofs.Rules.{by_holds}
use Rattle.book_explain.specs.declared.Flaw.{Flaw}
use Rattle.book_explain.specs.declared.Flaw.TheVariants.{WrongLength, HighTotal}
use Rattle.book_explain.specs.declared.Spot.{Spot}
use Rattle.book_explain.specs.Faults.{Finding}
use Rattle.std.specs.Prelude.{Ok, Err}
use Rattle.book_explain.specs.Faults.{Test, test, first_failed, entry_tests, stream_tests, bank_tests, bank_block_tests, book_tests, book_finding}

abbrev pub spot : ℕ → ℕ → Flaw → Spot
spot k i f = record { block = k; entry = i; flaw = f }

-- what comes after tests that all hold, and after one that fails
pub after_whole : (xs ys : List Test) → first_failed xs ≡ Ok tt → first_failed (xs ++ ys) ≡ first_failed ys
unfolding first_failed
after_whole [] ys h = refl
after_whole (x ∷ xs) ys h =
    by_holds x.holds
    (λ e. rw e (after_whole xs ys (rw e at h)))
    (λ e. let no : Err x.spot ≡ Ok tt = rw e at h in let z : ◌≡◌ {A = ℕ} 0 1 = cc in absurd (omega arith))

pub after_broken : (xs ys : List Test) {p : Spot} → first_failed xs ≡ Err p → first_failed (xs ++ ys) ≡ Err p
unfolding first_failed
after_broken [] ys h = let z : ◌≡◌ {A = ℕ} 0 1 = cc in absurd (omega arith)
after_broken (x ∷ xs) ys h = by_holds x.holds (λ e. rw e (after_broken xs ys (rw e at h))) (λ e. rw e (rw e at h))

-- entries one by one
module _ (s : List ℕ) (width : ℕ) (tests : ℕ → ℕ → ℕ → List Test) (i before at n : ℕ) where
  pub entries_done : n ≤ i → Ok tt ≡ first_failed (entry_tests s width tests i before at (n - i))
  unfolding entry_tests first_failed
  entries_done h = let z : n - i ≡ 0 = omega arith in rw z

  module _ (h : i < n) {r : Finding} (e : r ≡ first_failed (tests i before at)) where
    next : entry_tests s width tests i before at (n - i)
        ≡ tests i before at ++ entry_tests s width tests (i + 1) (short_at s at) (at + width) (n - (i + 1))
    unfolding entry_tests
    next = let z : n - i ≡ suc (n - (i + 1)) = omega arith in rw z

    pub entries_on : {code further : ℕ} → r ≡ Ok tt → code ≡ short_at s at → further ≡ at + width
        → first_failed (entry_tests s width tests (i + 1) code further (n - (i + 1))) ≡ first_failed (entry_tests s width tests i before at (n - i))
    entries_on p q z = rw (q, z) (sym (ap first_failed next ∙ after_whole (tests i before at) _ (sym e ∙ p)))

    pub entries_broken : {p : Spot} → r ≡ Err p → Err p ≡ first_failed (entry_tests s width tests i before at (n - i))
    entries_broken p = sym (ap first_failed next ∙ after_broken (tests i before at) _ (sym e ∙ p))

-- blocks of banks one after another
module _ (s : List ℕ) (blocks k : ℕ) where
  pub blocks_done : blocks ≤ k → Ok tt ≡ first_failed (bank_block_tests s blocks k (blocks - k))
  unfolding bank_block_tests first_failed
  blocks_done h = let z : blocks - k ≡ 0 = omega arith in rw z

  module _ (h : k < blocks) {a : Finding} (p : a ≡ first_failed (bank_tests s blocks k)) where
    next_block : bank_block_tests s blocks k (blocks - k) ≡ bank_tests s blocks k ++ bank_block_tests s blocks (k + 1) (blocks - (k + 1))
    unfolding bank_block_tests
    next_block = let z : blocks - k ≡ suc (blocks - (k + 1)) = omega arith in rw z

    pub blocks_on : a ≡ Ok tt → first_failed (bank_block_tests s blocks (k + 1) (blocks - (k + 1))) ≡ first_failed (bank_block_tests s blocks k (blocks - k))
    blocks_on q = sym (ap first_failed next_block ∙ after_whole (bank_tests s blocks k) _ (sym p ∙ q))

    pub blocks_broken : {x : Spot} → a ≡ Err x → Err x ≡ first_failed (bank_block_tests s blocks k (blocks - k))
    blocks_broken q = sym (ap first_failed next_block ∙ after_broken (bank_tests s blocks k) _ (sym p ∙ q))

-- the book: the length, the blocks, the total
module _ (s : List ℕ) where
  pub length_part : (length s % 512 ≡ 0 → ⊥) → Err (spot 0 0 WrongLength) ≡ book_finding s
  unfolding book_finding book_tests length_right first_failed
  length_part h = rw (ne_eqb (length s % 512) 0 h)

  pub length_short : length s / 512 < 2 → Err (spot 0 0 WrongLength) ≡ book_finding s
  unfolding book_finding book_tests length_right first_failed
  length_short h = simp (lt-leb 2 (length s / 512) h, and-false)

  pub length_long : 5 < length s / 512 → Err (spot 0 0 WrongLength) ≡ book_finding s
  unfolding book_finding book_tests length_right first_failed
  length_long h = simp (lt-leb (length s / 512) 5 h, and-false)

  module _ (a : length s % 512 ≡ 0) (l : 2 ≤ length s / 512) (h : length s / 512 ≤ 5)
      {x : Finding} (p : x ≡ first_failed (stream_tests s (length s / 512))) where
    banks : List Test
    banks = bank_block_tests s (length s / 512) 1 (length s / 512 - 1)

    last : List Test
    last = test 0 0 (total_right s (bank_count s (length s / 512))) HighTotal ∷ []

    in_blocks : book_finding s ≡ first_failed (stream_tests s (length s / 512) ++ (banks ++ last))
    unfolding book_finding book_tests length_right first_failed last banks
    in_blocks = rw (eq-eqb (length s % 512) 0 a, le-leb 2 (length s / 512) l, le-leb (length s / 512) 5 h)

    pub streams_broken : {z : Spot} → x ≡ Err z → Err z ≡ book_finding s
    streams_broken q = sym (in_blocks ∙ after_broken (stream_tests s (length s / 512)) _ (sym p ∙ q))

    module _ {y : Finding} (q : x ≡ Ok tt) (e : y ≡ first_failed (bank_block_tests s (length s / 512) 1 (length s / 512 - 1))) where
      in_banks : book_finding s ≡ first_failed (banks ++ last)
      in_banks = in_blocks ∙ after_whole (stream_tests s (length s / 512)) _ (sym p ∙ q)

      pub banks_broken : {z : Spot} → y ≡ Err z → Err z ≡ book_finding s
      unfolding banks
      banks_broken f = sym (in_banks ∙ after_broken banks last (sym e ∙ f))

      module _ {n : ℕ} {t : Bool} (f : y ≡ Ok tt) (c : n ≡ bank_count s (length s / 512)) (m : t ≡ total_right s n) where
        in_total : book_finding s ≡ first_failed last
        unfolding banks
        in_total = in_banks ∙ after_whole banks last (sym e ∙ f)

        pub total_told : {z : Finding} → z ≡ first_failed (test 0 0 t HighTotal ∷ []) → z ≡ book_finding s
        unfolding last
        total_told g = (rw (m, c) at g) ∙ sym in_total
