-- The turn of a batch, a walk and a test, step by step: an equation for each case.
use mathlib.Core.Path.{◌≡◌, refl, ap, ◌∙◌}
use mathlib.Core.Bool.{Bool, true, false}
use mathlib.Core.List.{List, [], ◌∷◌, map}
use Prim.Native.Nat.{ℕ, suc, ◌+◌, ◌≤◌, ◌<◌}
use native.Mathlib.Omega.{arith}
use lib.ListN.{length, length-map, length-set, length-append}
use Rattle.settle.specs.Payments.{Payment}
use Rattle.settle.specs.Settlement.{Accounts, verdict}
use Rattle.settle.specs.declared.Verdict.{Verdict}
use Rattle.settle.specs.declared.Verdict.TheVariants.{Passes, Stops}
use Rattle.queue.specs.Memory.{credited, wake}
use Rattle.queue.specs.Tests.{Turn, turned, Outcome, stays, leaves, try_of, noted, joined, some, again, omits, remember, tried, turn, settle, walk, test}
use Rattle.queue.specs.declared.Step.{Step}
use Rattle.queue.specs.declared.Step.TheVariants.{Omitted, Failed, Passed}
use Rattle.queue.proofs.MemoryLaws.{by_bool}

pub by_verdict {ℓ} : {X : Type ℓ} (v : Verdict) → (v ≡ Passes → X) → ((k : ℕ) → v ≡ Stops k → X) → X
by_verdict Passes f g = f refl
by_verdict (Stops k) f g = g k refl

module _ (quick : Bool) (batch : ℕ → List Payment) where
  module _ (a : Accounts) (m : List ℕ) (p : ℕ) where
    turn_tried : omits quick m p ≡ false → turn quick batch a m p ≡ tried quick batch a m p (verdict a (batch p))
    unfolding turn
    turn_tried e = rw e

    pub turn_omits : omits quick m p ≡ true → turn quick batch a m p ≡ turned Omitted a m
    unfolding turn
    turn_omits e = rw e

    pub turn_passes : omits quick m p ≡ false → verdict a (batch p) ≡ Passes
        → turn quick batch a m p ≡ turned Passed (settle a (batch p)) (map (wake (credited (batch p))) m)
    unfolding tried
    turn_passes e v = turn_tried e ∙ ap (tried quick batch a m p) v

    pub turn_fails : omits quick m p ≡ false → (k : ℕ) → verdict a (batch p) ≡ Stops k → turn quick batch a m p ≡ turned Failed a (remember quick m p k)
    unfolding tried
    turn_fails e k v = turn_tried e ∙ ap (tried quick batch a m p) v

    -- the three ways that a turn can go
    pub by_turn {ℓ} : {X : Type ℓ} → (omits quick m p ≡ true → turn quick batch a m p ≡ turned Omitted a m → X)
        → (omits quick m p ≡ false → verdict a (batch p) ≡ Passes → turn quick batch a m p ≡ turned Passed (settle a (batch p)) (map (wake (credited (batch p))) m) → X)
        → (omits quick m p ≡ false → (k : ℕ) → verdict a (batch p) ≡ Stops k → turn quick batch a m p ≡ turned Failed a (remember quick m p k) → X) → X
    by_turn f g h =
        by_bool (omits quick m p)
        (λ e. f e (turn_omits e))
        (λ e. by_verdict (verdict a (batch p)) (λ v. g e v (turn_passes e v)) (λ k v. h e k v (turn_fails e k v)))

    pub remember_length : (k : ℕ) → length (remember quick m p k) ≡ length m
    unfolding remember
    remember_length k = by_bool quick (λ e. rw e (length-set m p (suc k))) (λ e. rw e)

    pub turn_memory : length (turn quick batch a m p).memory ≡ length m
    turn_memory = by_turn (λ e t. rw t) (λ e v t. rw t (length-map m (wake (credited (batch p))))) (λ e k v t. rw t (remember_length k))

    -- a walk, one turn
    pub walk_turn : (q : List ℕ) {s : Step} {a' : Accounts} {m' : List ℕ} → turn quick batch a m p ≡ turned s a' m'
        → walk quick batch a m (p ∷ q) ≡ noted s p (walk quick batch a' m' q)
    unfolding walk
    walk_turn q t = rw t

  both : (s : Step) (p : ℕ) → length (stays s p) + length (leaves s p) ≡ 1
  both Omitted p = refl
  both Failed p = refl
  both Passed p = refl

  pub one_try : (s : Step) (p : ℕ) → length (try_of s p) ≤ 1
  one_try Omitted p = omega arith
  one_try Failed p = omega arith
  one_try Passed p = omega arith

  -- each queued place stays or is settled
  pub walk_count : (a : Accounts) (m q : List ℕ) → length (walk quick batch a m q).queue + length (walk quick batch a m q).done ≡ length q
  unfolding walk
  walk_count a m [] = refl
  walk_count a m (p ∷ q) =
      let t : Turn = turn quick batch a m p in
      let w : Outcome = walk quick batch t.books t.memory q in
      omega (arith, walk_count t.books t.memory q, both t.step p, length-append (stays t.step p) w.queue, length-append (leaves t.step p) w.done)

  -- and is tried once at the most
  pub walk_tries : (a : Accounts) (m q : List ℕ) → length (walk quick batch a m q).tries ≤ length q
  unfolding walk
  walk_tries a m [] = omega arith
  walk_tries a m (p ∷ q) =
      let t : Turn = turn quick batch a m p in
      let w : Outcome = walk quick batch t.books t.memory q in
      omega (arith, walk_tries t.books t.memory q, one_try t.step p, length-append (try_of t.step p) w.tries)

  pub walk_memory : (a : Accounts) (m q : List ℕ) → length (walk quick batch a m q).memory ≡ length m
  unfolding walk
  walk_memory a m [] = refl
  walk_memory a m (p ∷ q) = walk_memory (turn quick batch a m p).books (turn quick batch a m p).memory q ∙ turn_memory a m p

  -- a test, one walk
  pub test_stop : (f : ℕ) (a : Accounts) (m q : List ℕ) → some (walk quick batch a m q).done ≡ false → test quick batch (suc f) a m q ≡ walk quick batch a m q
  unfolding test again
  test_stop f a m q e = rw e

  pub test_more : (f : ℕ) (a : Accounts) (m q : List ℕ) → some (walk quick batch a m q).done ≡ true
      → test quick batch (suc f) a m q
      ≡ joined (walk quick batch a m q) (test quick batch f (walk quick batch a m q).books (walk quick batch a m q).memory (walk quick batch a m q).queue)
  unfolding test again
  test_more f a m q e = rw e

  pub some_not : (l : List ℕ) → some l ≡ false → l ≡ []
  unfolding some
  some_not [] e = refl
  some_not (x ∷ xs) e = cc

  pub some_one : (l : List ℕ) → some l ≡ true → 1 ≤ length l
  unfolding some
  some_one [] e = let z : ◌≡◌ {A = ℕ} 0 1 = cc in omega arith
  some_one (x ∷ xs) e = omega arith

  pub shorter : (a : Accounts) (m q : List ℕ) → some (walk quick batch a m q).done ≡ true → length (walk quick batch a m q).queue < length q
  shorter a m q e = omega (arith, walk_count a m q, some_one (walk quick batch a m q).done e)

  -- none settled: none is gone
  pub as_long : (a : Accounts) (m q : List ℕ) → length (walk quick batch a m q).queue ≡ length q → some (walk quick batch a m q).done ≡ false
  as_long a m q e = by_bool (some (walk quick batch a m q).done) (λ s. absurd (omega (arith, shorter a m q s))) (λ s. s)

  pub not_as_long : (a : Accounts) (m q : List ℕ) → (length (walk quick batch a m q).queue ≡ length q → ⊥) → some (walk quick batch a m q).done ≡ true
  not_as_long a m q n =
      by_bool (some (walk quick batch a m q).done)
      (λ s. s)
      (λ s. absurd (n (omega (arith, walk_count a m q, ap length (some_not (walk quick batch a m q).done s)))))
