-- The memory names payers only: a batch is held at a bank that has a debit in it.
use mathlib.Core.Path.{◌≡◌, sym, ◌∙◌}
use mathlib.Core.Logic.{inl, inr}
use mathlib.Core.Bool.{Bool}
use mathlib.Core.List.{List, [], ◌∷◌}
use Prim.Native.Nat.{ℕ, zero, suc}
use Rattle.settle.specs.Payments.{Payment, Need, needs_of}
use Rattle.settle.specs.Settlement.{Accounts, is_covered, first_uncovered}
use Rattle.settle.specs.declared.Verdict.TheVariants.{Stops}
use Rattle.queue.specs.Memory.{credited}
use Rattle.queue.specs.Tests.{Outcome, some, remember, turn, walk, test}
use Rattle.queue.specs.Promise.{Payer, Names, Named}
use Rattle.queue.proofs.MemoryLaws.{by_bool}
use Rattle.queue.proofs.Steps.{by_turn, test_stop, test_more}
use Rattle.queue.proofs.Agree.{first_yes, first_no, passes≢stops, set_keep, wake_keep}

first_payer_lem : (a : Accounts) (ns : List Need) (k : ℕ) → first_uncovered a ns ≡ Stops k → Payer k ns
unfolding first_uncovered Payer
first_payer_lem a [] k e = passes≢stops e
first_payer_lem a (n ∷ ns) k e =
    by_bool (is_covered a n)
    (λ c. inr (first_payer_lem a ns k (sym (first_yes a n ns c) ∙ e)))
    (λ c. let f : Stops n.bank ≡ Stops k = sym (first_no a n ns c) ∙ e in inl (cc))

module _ (quick : Bool) (batch : ℕ → List Payment) where
  turn_named : (a : Accounts) (m : List ℕ) (p : ℕ) → Named batch m → Named batch (turn quick batch a m p).memory
  unfolding remember
  turn_named a m p h =
      by_turn quick batch a m p
      (λ e t. rw t h)
      (λ e v t. rw t (λ x. wake_keep (Names (batch x)) (Names (batch x)) (credited (batch p)) m x tt (λ k f u. u) (h x)))
      (λ e k v t. rw t (by_bool quick (λ q. rw q (set_keep (λ x s. Names (batch x) s) m p (suc k) h (first_payer_lem a (needs_of (batch p)) k v))) (λ q. rw q h)))

  walk_named : (a : Accounts) (m q : List ℕ) → Named batch m → Named batch (walk quick batch a m q).memory
  unfolding walk
  walk_named a m [] h = h
  walk_named a m (p ∷ q) h = walk_named (turn quick batch a m p).books (turn quick batch a m p).memory q (turn_named a m p h)

  pub test_named : (f : ℕ) (a : Accounts) (m q : List ℕ) → Named batch m → Named batch (test quick batch f a m q).memory
  unfolding test
  test_named zero a m q h = h
  test_named (suc f) a m q h =
      let r : Outcome = walk quick batch a m q in
      by_bool (some r.done)
      (λ e. rw (test_more quick batch f a m q e) (test_named f r.books r.memory r.queue (walk_named a m q h)))
      (λ e. rw (test_stop quick batch f a m q e) (walk_named a m q h))
