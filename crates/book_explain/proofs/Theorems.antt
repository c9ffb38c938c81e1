-- What the finding means: its number is that of the book's check, and it names the first test that fails.
use Prim.Native.Nat.{ℕ, zero, suc, ◌+◌, ◌*◌, ◌-◌, ◌≤◌, ◌<◌}
use mathlib.Core.Path.{◌≡◌, refl, sym, ◌∙◌, ap}
use mathlib.Core.Bool.{Bool, true, false, ◌&&◌}
use mathlib.Core.List.{List, [], ◌∷◌, ◌++◌}
use mathlib.Core.Logic.{◌↔◌}
use native.Mathlib.Omega.{arith}
use native.Mathlib.Numerals.{add-one}
use lib.Dec.{ltb}
use borrow.Author.Tests.{ltb-true, ltb-false}
use Rattle.chars.specs.declared.Refusal.{Refusal}
use Rattle.chars.specs.declared.Refusal.TheVariants.{BookHeader, OutOfRange}
use Rattle.codes.specs.Codes.{short_at}
use Rattle.book_read.specs.Block.{Rule, rule, first_broken, entries_at, header_right, entries_right}
use Rattle.book_read.specs.Book.{stream_right, bank_right, streams_counted, stream_rules, banks_counted, code_before, bank_rules, bank_blocks, blocks_in, length_right, bank_count, total_right, book_rules, book_check}
use Rattle.book_read.proofs.Rules.{by_holds}
use Rattle.book_explain.proofs.Failing.{after_whole, after_broken}
use Rattle.book_explain.specs.declared.Flaw.TheVariants.{WrongCount, HighTotal, WrongLength}
use Rattle.book_explain.specs.declared.Spot.{Spot}
use Rattle.book_explain.specs.Faults.{Finding}
use Rattle.std.specs.Prelude.{Ok, Err, Result}
use Rattle.book_explain.specs.Faults.{Test, test, first_failed, refusal_of, answer_of, stream_entry, bank_entry, entry_tests, head_tests, date_tests, unused_test, stream_tests, bank_tests, bank_block_tests, book_tests, book_finding, block_rules_at, entries_right_at}

-- a test as a rule of the book's check
abbrev rule_of : Test → Rule
rule_of t = rule t.holds (refusal_of t.spot.flaw)

abbrev rules_of : List Test → List Rule
rules_of [] = []
rules_of (t ∷ ts) = rule_of t ∷ rules_of ts

same_number : (ts : List Test) → answer_of (first_failed ts) ≡ first_broken (rules_of ts)
unfolding first_failed first_broken
same_number [] = refl
same_number (t ∷ ts) = by_holds t.holds (λ e. rw e (same_number ts)) (λ e. rw e)

rules_append : (xs ys : List Test) → rules_of (xs ++ ys) ≡ rules_of xs ++ rules_of ys
rules_append [] ys = refl
rules_append (x ∷ xs) ys = rw (rules_append xs ys)

-- rules that decide alike may stand for each other, in front of the same rules and behind them
on_answer : Result (Unit {0}) Refusal → Result (Unit {0}) Refusal → Result (Unit {0}) Refusal
on_answer (Ok tt) a = a
on_answer (Err r) a = Err r

joined : (xs ys : List Rule) → first_broken (xs ++ ys) ≡ on_answer (first_broken xs) (first_broken ys)
unfolding first_broken on_answer
joined [] ys = refl
joined (x ∷ xs) ys = by_holds x.holds (λ e. rw e (joined xs ys)) (λ e. rw e)

alike : (ts us : List Test) (xs ys : List Rule) → first_broken (rules_of ts) ≡ first_broken xs → first_broken (rules_of us) ≡ first_broken ys
    → first_broken (rules_of (ts ++ us)) ≡ first_broken (xs ++ ys)
alike ts us xs ys p q = ap first_broken (rules_append ts us) ∙ joined (rules_of ts) (rules_of us) ∙ rw (p, q) (sym (joined xs ys))

behind : (x : Rule) (rs qs : List Rule) → first_broken rs ≡ first_broken qs → first_broken (x ∷ rs) ≡ first_broken (x ∷ qs)
unfolding first_broken
behind x rs qs e = rw e

-- rules with one number are one rule
module _ (r : Refusal) where
  both : (a b : Bool) (rs : List Rule) → first_broken (rule a r ∷ rule b r ∷ rs) ≡ first_broken (rule (a && b) r ∷ rs)
  unfolding first_broken
  both true b rs = refl
  both false b rs = refl

  three : (a b c : Bool) (rs : List Rule) → first_broken (rule a r ∷ rule b r ∷ rule c r ∷ rs) ≡ first_broken (rule (a && (b && c)) r ∷ rs)
  three a b c rs = behind (rule a r) _ _ (both b c rs) ∙ both a (b && c) rs

  -- the order of the first two is free
  swapped : (a b c : Bool) → first_broken (rule a r ∷ rule b r ∷ rule c r ∷ []) ≡ first_broken (rule (b && (a && c)) r ∷ [])
  unfolding first_broken
  swapped true true c = refl
  swapped true false c = refl
  swapped false true c = refl
  swapped false false c = refl

  five : (a b c d e : Bool) (rs : List Rule)
      → first_broken (rule a r ∷ rule b r ∷ rule c r ∷ rule d r ∷ rule e r ∷ rs) ≡ first_broken (rule (a && ((b && (c && d)) && e)) r ∷ rs)
  five a b c d e rs = behind (rule a r) _ _ (three b c d (rule e r ∷ rs)) ∙ three a (b && (c && d)) e rs

-- entries
module _ (s : List ℕ) (width : ℕ) (right : ℕ → Bool) (tests : ℕ → ℕ → ℕ → List Test)
    (same : (i before at : ℕ) → first_broken (rules_of (tests i before at)) ≡ first_broken (rule (ltb before (short_at s at) && right at) OutOfRange ∷ [])) where
  entries_alike : (i before at n : ℕ)
      → first_broken (rules_of (entry_tests s width tests i before at n)) ≡ first_broken (rule (entries_right s width right before at n) OutOfRange ∷ [])
  unfolding entry_tests entries_right first_broken
  entries_alike i before at zero = refl
  entries_alike i before at (suc n) =
      alike (tests i before at) (entry_tests s width tests (i + 1) (short_at s at) (at + width) n)
      (rule (ltb before (short_at s at) && right at) OutOfRange ∷ [])
      (rule (entries_right s width right (short_at s at) (at + width) n) OutOfRange ∷ [])
      (same i before at)
      (entries_alike (i + 1) (short_at s at) (at + width) n)
      ∙ both OutOfRange (ltb before (short_at s at) && right at) (entries_right s width right (short_at s at) (at + width) n) []

module _ (s : List ℕ) where
  stream_alike : (i before at : ℕ)
      → first_broken (rules_of (stream_entry s i before at)) ≡ first_broken (rule (ltb before (short_at s at) && stream_right s at) OutOfRange ∷ [])
  unfolding stream_right
  stream_alike i before at =
      behind _ _ _ (behind _ _ _ (both OutOfRange _ _ [])) ∙ swapped OutOfRange _ _ _

  bank_alike : (streams k i before at : ℕ)
      → first_broken (rules_of (bank_entry s streams k i before at)) ≡ first_broken (rule (ltb before (short_at s at) && bank_right s streams at) OutOfRange ∷ [])
  unfolding bank_right
  bank_alike streams k i before at =
      behind _ _ _ (behind _ _ _ (behind _ _ _ (behind _ _ _ (three OutOfRange _ _ _ [])) ∙ three OutOfRange _ _ _ []))
      ∙ swapped OutOfRange _ _ _

  streams_alike : (blocks : ℕ) → first_broken (rules_of (stream_tests s blocks)) ≡ first_broken (stream_rules s blocks)
  unfolding stream_tests stream_rules header_right streams_counted
  streams_alike blocks =
      behind _ _ _
      (five BookHeader _ _ _ _ _ _
      ∙ behind _ _ _ (entries_alike s 8 (stream_right s) (stream_entry s) stream_alike 0 0 16 (entries_at s 0)))

  banks_alike : (blocks k : ℕ) → first_broken (rules_of (bank_tests s blocks k)) ≡ first_broken (bank_rules s blocks k)
  unfolding bank_tests bank_rules header_right
  banks_alike blocks k =
      behind _ _ _
      (three BookHeader _ _ _ _
      ∙ behind _ _ _
      (entries_alike s 24 (bank_right s (entries_at s 0)) (bank_entry s (entries_at s 0) k) (bank_alike (entries_at s 0) k)
      0 (code_before s k) (512 * k + 8) (entries_at s (512 * k))))

  blocks_alike : (blocks k n : ℕ) → first_broken (rules_of (bank_block_tests s blocks k n)) ≡ first_broken (bank_blocks s blocks k n)
  unfolding bank_block_tests bank_blocks
  blocks_alike blocks k zero = refl
  blocks_alike blocks k (suc n) =
      alike (bank_tests s blocks k) (bank_block_tests s blocks (k + 1) n) (bank_rules s blocks k) (bank_blocks s blocks (k + 1) n)
      (banks_alike blocks k)
      (blocks_alike blocks (k + 1) n)

-- a finding has the number of the book's check, and a book is whole exactly where the check says sound
pub numbers_agree : (s : List ℕ) → answer_of (book_finding s) ≡ book_check s
unfolding book_finding book_tests book_check book_rules
numbers_agree s =
    same_number (book_tests s)
    ∙ behind _ _ _
    (alike (stream_tests s (blocks_in s)) _ (stream_rules s (blocks_in s)) _
    (streams_alike s (blocks_in s))
    (alike (bank_block_tests s (blocks_in s) 1 (blocks_in s - 1)) _ (bank_blocks s (blocks_in s) 1 (blocks_in s - 1)) _
    (blocks_alike s (blocks_in s) 1 (blocks_in s - 1))
    refl))

by_found {ℓ} : {X : Type ℓ} (f : Finding) → (f ≡ Ok tt → X) → ((p : Spot) → f ≡ Err p → X) → X
by_found (Ok u) f g = f refl
by_found (Err p) f g = g p refl

-- all tests of a list hold
abbrev pub AllPass : List Test → Type 0
AllPass [] = Unit {0}
AllPass (t ∷ ts) = (t.holds ≡ true) × AllPass ts

-- a test of the list fails, those before it all hold, and it is the one at this spot
pub record Failed (ts : List Test) (p : Spot) : Type 0 where
  pub earlier : List Test
  pub failed : Test
  pub later : List Test
  pub split : ts ≡ earlier ++ (failed ∷ later)
  pub pass : AllPass earlier
  pub fails : failed.holds ≡ false
  pub named : failed.spot ≡ p

first_of : (ts : List Test) (p : Spot) → first_failed ts ≡ Err p → Failed ts p
unfolding first_failed
first_of [] p h = let z : ◌≡◌ {A = ℕ} 0 1 = cc in absurd (omega arith)
first_of (t ∷ ts) p h =
    by_holds t.holds
    (λ e.
    let r = first_of ts p (rw e at h) in
    record {
      earlier = t ∷ r.earlier;
      failed = r.failed;
      later = r.later;
      split = ap (λ (l : List Test). t ∷ l) r.split;
      pass = (e, r.pass);
      fails = r.fails;
      named = r.named;
    })
    (λ e.
    let same : Err t.spot ≡ Err p = rw e at h in
    record { earlier = []; failed = t; later = ts; split = refl; pass = tt; fails = e; named = cc })

past : (xs : List Test) (t : Test) (ys : List Test) → AllPass xs → t.holds ≡ false → first_failed (xs ++ (t ∷ ys)) ≡ Err t.spot
unfolding first_failed
past [] t ys a f = rw f
past (x ∷ xs) t ys a f = rw a.0 (past xs t ys a.1 f)

of_first : (ts : List Test) (p : Spot) → Failed ts p → first_failed ts ≡ Err p
of_first ts p r = ap first_failed r.split ∙ past r.earlier r.failed r.later r.pass r.fails ∙ ap Err r.named

-- a spot is told exactly where its test is the first of the book's tests to fail
pub found_first : (s : List ℕ) (p : Spot) → (book_finding s ≡ Err p) ↔ Failed (book_tests s) p
unfolding book_finding
found_first s p = (first_of (book_tests s) p, of_first (book_tests s) p)

-- what holds of every spot of a list holds of the one that is told
abbrev All : (Spot → Type 0) → List Test → Type 0
All P [] = Unit {0}
All P (t ∷ ts) = P t.spot × All P ts

module _ (P : Spot → Type 0) where
  all_told : (ts : List Test) (p : Spot) → All P ts → first_failed ts ≡ Err p → P p
  unfolding first_failed
  all_told [] p a h = let z : ◌≡◌ {A = ℕ} 0 1 = cc in absurd (omega arith)
  all_told (t ∷ ts) p a h =
      by_holds t.holds
      (λ e. all_told ts p a.1 (rw e at h))
      (λ e.
      let same : Err t.spot ≡ Err p = rw e at h in
      let here : t.spot ≡ p = cc in
      rw here at a.0)

-- a list that is told of: the first of two parts, or the second behind a first that is whole
apart : (xs ys : List Test) (p : Spot) {X : Type 0} → first_failed (xs ++ ys) ≡ Err p
    → (first_failed xs ≡ Err p → X) → (first_failed xs ≡ Ok tt → first_failed ys ≡ Err p → X) → X
apart xs ys p h f g =
    by_found (first_failed xs)
    (λ e. g e (sym (after_whole xs ys e) ∙ h))
    (λ q e.
    let same : Err q ≡ Err p = sym (after_broken xs ys e) ∙ h in
    f (e ∙ same))

whole_sound : (ts : List Test) (rs : List Rule) → first_broken (rules_of ts) ≡ first_broken rs → first_failed ts ≡ Ok tt → first_broken rs ≡ Ok tt
whole_sound ts rs e h = sym e ∙ sym (same_number ts) ∙ ap answer_of h

one_sound : (a : Bool) (r : Refusal) → first_broken (rule a r ∷ []) ≡ Ok tt → a ≡ true
unfolding first_broken
one_sound true r h = refl
one_sound false r h = let z : ◌≡◌ {A = ℕ} 0 1 = cc in absurd (omega arith)

-- the entries of a block before the one that is told are right
module _ (s : List ℕ) (width : ℕ) (right : ℕ → Bool) (tests : ℕ → ℕ → ℕ → List Test)
    (same : (i before at : ℕ) → first_broken (rules_of (tests i before at)) ≡ first_broken (rule (ltb before (short_at s at) && right at) OutOfRange ∷ []))
    (k : ℕ) (here : (i before at : ℕ) → All (λ q. (q.block ≡ k) × (q.entry ≡ i)) (tests i before at)) (p : Spot) where
  entries_told : (i before at n : ℕ) → first_failed (entry_tests s width tests i before at n) ≡ Err p
      → (p.block ≡ k) × (i ≤ p.entry) × (entries_right s width right before at (p.entry - i) ≡ true)
  unfolding entry_tests entries_right first_failed
  entries_told i before at zero h = let z : ◌≡◌ {A = ℕ} 0 1 = cc in absurd (omega arith)
  entries_told i before at (suc n) h =
      apart (tests i before at) (entry_tests s width tests (i + 1) (short_at s at) (at + width) n) p h
      (λ e.
      let w = all_told (λ q. (q.block ≡ k) × (q.entry ≡ i)) (tests i before at) p (here i before at) e in
      let z : p.entry - i ≡ 0 = omega arith in
      (w.0, omega arith, rw z))
      (λ e f.
      let t = entries_told (i + 1) (short_at s at) (at + width) n f in
      let z : p.entry - i ≡ suc (p.entry - (i + 1)) = omega (arith, t.1) in
      let o : (ltb before (short_at s at) && right at) ≡ true = one_sound _ OutOfRange (whole_sound (tests i before at) _ (same i before at) e) in
      (t.0, omega (arith, t.1), rw (z, o) t.2))

-- a spot of block k, behind entries that are right
abbrev In : List ℕ → ℕ → Spot → Type 0
In s k p = (p.block ≡ k) × (entries_right_at s k p.entry ≡ true)

module _ (s : List ℕ) (p : Spot) where
  in_head : (k : ℕ) → (p.block ≡ k) × (p.entry ≡ 0) → In s k p
  unfolding entries_right
  in_head zero w = (w.0, rw w.1)
  in_head (suc k) w = (w.0, rw w.1)

  streams_told : first_failed (stream_tests s (blocks_in s)) ≡ Err p → In s 0 p
  unfolding stream_tests
  streams_told h =
      apart (head_tests s 0 83 (blocks_in s) ++ (date_tests s ++ (unused_test s 0 16 8 ∷ []))) (entry_tests s 8 (stream_entry s) 0 0 16 (entries_at s 0)) p h
      (λ e. in_head 0 (all_told (λ q. (q.block ≡ 0) × (q.entry ≡ 0)) (head_tests s 0 83 (blocks_in s) ++ (date_tests s ++ (unused_test s 0 16 8 ∷ []))) p
      ((refl, refl), ((refl, refl), ((refl, refl), ((refl, refl), ((refl, refl), ((refl, refl), tt)))))) e))
      (λ e f.
      let t = entries_told s 8 (stream_right s) (stream_entry s) (stream_alike s) 0
      (λ i before at. ((refl, refl), ((refl, refl), ((refl, refl), ((refl, refl), tt))))) p 0 0 16 (entries_at s 0) f in
      let z : p.entry - 0 ≡ p.entry = omega arith in
      (t.0, rw z at t.2))

  banks_told : (k : ℕ) → first_failed (bank_tests s (blocks_in s) (suc k)) ≡ Err p → In s (suc k) p
  unfolding bank_tests
  banks_told k h =
      let n = entries_at s (512 * suc k) in
      let front = head_tests s (suc k) 66 (blocks_in s) ++ (test (suc k) 0 (banks_counted (blocks_in s) (suc k) n) WrongCount ∷ unused_test s (suc k) 8 24 ∷ []) in
      apart front (entry_tests s 24 (bank_entry s (entries_at s 0) (suc k)) 0 (code_before s (suc k)) (512 * suc k + 8) n) p h
      (λ e. in_head (suc k) (all_told (λ q. (q.block ≡ suc k) × (q.entry ≡ 0)) front p
      ((refl, refl), ((refl, refl), ((refl, refl), ((refl, refl), tt)))) e))
      (λ e f.
      let t = entries_told s 24 (bank_right s (entries_at s 0)) (bank_entry s (entries_at s 0) (suc k)) (bank_alike s (entries_at s 0) (suc k)) (suc k)
      (λ i before at. ((refl, refl), ((refl, refl), ((refl, refl), ((refl, refl), ((refl, refl), ((refl, refl), ((refl, refl), tt)))))))) p
      0 (code_before s (suc k)) (512 * suc k + 8) n f in
      let z : p.entry - 0 ≡ p.entry = omega arith in
      (t.0, rw z at t.2))

  blocks_told : (k n : ℕ) → first_failed (bank_block_tests s (blocks_in s) (suc k) n) ≡ Err p
      → (k < p.block) × (entries_right_at s p.block p.entry ≡ true) × ((j : ℕ) → suc k ≤ j → j < p.block → first_broken (block_rules_at s j) ≡ Ok tt)
  unfolding bank_block_tests first_failed
  blocks_told k zero h = let z : ◌≡◌ {A = ℕ} 0 1 = cc in absurd (omega arith)
  blocks_told k (suc n) h =
      apart (bank_tests s (blocks_in s) (suc k)) (bank_block_tests s (blocks_in s) (suc k + 1) n) p h
      (λ e.
      let w = banks_told k e in
      (omega (arith, w.0), rw w.0 w.1, λ j a b. absurd (omega (arith, w.0))))
      (λ e f.
      let t = blocks_told (suc k) n (rw add-one at f) in
      let sound = whole_sound (bank_tests s (blocks_in s) (suc k)) (bank_rules s (blocks_in s) (suc k)) (banks_alike s (blocks_in s) (suc k)) e in
      (omega (arith, t.0), t.1, λ j a b. by_holds (ltb (suc k) j) (λ x. t.2 j (omega (arith, ltb-true)) b) (λ x. let z : j ≡ suc k = omega (arith, ltb-false) in rw z sound)))

-- of a spot that is told: the rules of all blocks before its block hold, and so do those of the entries before its entry
pub record Reached (s : List ℕ) (p : Spot) : Type 0 where
  pub blocks_before : (k : ℕ) → k < p.block → first_broken (block_rules_at s k) ≡ Ok tt
  pub entries_before : entries_right_at s p.block p.entry ≡ true

module _ (s : List ℕ) (p : Spot) where
  at_start : (p.block ≡ 0) × (p.entry ≡ 0) → Reached s p
  unfolding entries_right
  at_start w = record { blocks_before = λ k h. absurd (omega arith); entries_before = rw (w.0, w.1) }

  in_banks : first_broken (stream_rules s (blocks_in s)) ≡ Ok tt → first_failed (bank_block_tests s (blocks_in s) 1 (blocks_in s - 1)) ≡ Err p → Reached s p
  in_banks w h =
      let t = blocks_told s p 0 (blocks_in s - 1) h in
      record {
        blocks_before = λ k b. by_holds (ltb 0 k) (λ x. t.2 k (omega (arith, ltb-true)) b) (λ x. let z : k ≡ 0 = omega (arith, ltb-false) in rw z w);
        entries_before = t.1;
      }

  pub told_first : book_finding s ≡ Err p → Reached s p
  unfolding book_finding book_tests
  told_first h =
      apart (test 0 0 (length_right s) WrongLength ∷ []) _ p h
      (λ e. at_start (all_told (λ q. (q.block ≡ 0) × (q.entry ≡ 0)) (test 0 0 (length_right s) WrongLength ∷ []) p ((refl, refl), tt) e))
      (λ _ f.
      apart (stream_tests s (blocks_in s)) _ p f
      (λ e.
      let w = streams_told s p e in
      record { blocks_before = λ k b. absurd (omega (arith, w.0)); entries_before = rw w.0 w.1 })
      (λ e g.
      apart (bank_block_tests s (blocks_in s) 1 (blocks_in s - 1)) _ p g
      (in_banks (whole_sound (stream_tests s (blocks_in s)) (stream_rules s (blocks_in s)) (streams_alike s (blocks_in s)) e))
      (λ _ d. at_start (all_told (λ q. (q.block ≡ 0) × (q.entry ≡ 0)) (test 0 0 (total_right s (bank_count s (blocks_in s))) HighTotal ∷ []) p ((refl, refl), tt) d))))
