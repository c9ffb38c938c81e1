-- What a walk and a test settle, what they leave, and how often they try.
use mathlib.Core.Path.{◌≡◌, refl, sym, ap, subst, ◌∙◌}
use mathlib.Core.Bool.{Bool, true, false, false≢true}
use mathlib.Core.List.{List, [], ◌∷◌, ◌++◌}
use Prim.Native.Nat.{ℕ, zero, suc, ◌+◌, ◌*◌, ◌/◌, ◌%◌, ◌≤◌, ◌<◌}
use native.Mathlib.Omega.{arith}
use lib.Dec.{eqb}
use lib.ListN.{length, length-append}
use borrow.Author.Tests.{eq-eqb, ne_eqb}
use Rattle.settle.specs.Payments.{Payment, Need, needs_of}
use Rattle.settle.specs.Settlement.{Accounts, first_uncovered}
use Rattle.settle.specs.declared.Verdict.TheVariants.{Passes}
use Rattle.settle.proofs.Money.{passes_cons}
use Rattle.queue.specs.Tests.{Turn, Outcome, Seen, seen, leaves, try_of, passed_of, some, omits, turn, settle, walk, test, remember}
use Rattle.queue.specs.Rows.{most}
use Rattle.queue.specs.Promise.{True, AllCovered, Trail, halt, pass, All, Stuck, Off, Apart, Once}
use Rattle.queue.specs.declared.Step.{Step}
use Rattle.queue.specs.declared.Step.TheVariants.{Omitted, Failed, Passed}
use Rattle.queue.proofs.MemoryLaws.{by_bool}
use Rattle.queue.proofs.Steps.{by_turn, walk_turn, walk_tries, test_stop, test_more, some_not, shorter}
use Rattle.queue.proofs.RunLaws.{most_step, most_self}
use Rattle.queue.proofs.Agree.{first_yes, passes≢stops, Trusted, omitted_waits, trusted_turn, trusted_walk, true_walk, walks_agree}

-- "A batch passes exactly when each debit is covered by its own bank."
pub passes_covered : (a : Accounts) (ns : List Need) → first_uncovered a ns ≡ Passes → AllCovered a ns
passes_covered a [] e = tt
passes_covered a (n ∷ ns) e = let w = passes_cons a n ns e in (w.0, passes_covered a ns w.1)

pub covered_passes : (a : Accounts) (ns : List Need) → AllCovered a ns → first_uncovered a ns ≡ Passes
unfolding first_uncovered
covered_passes a [] h = refl
covered_passes a (n ∷ ns) h = first_yes a n ns h.0 ∙ covered_passes a ns h.1

pub All-zip : (Q R S : ℕ → Type 0) (q : List ℕ) → ((x : ℕ) → Q x → R x → S x) → All Q q → All R q → All S q
All-zip Q R S [] f a b = tt
All-zip Q R S (x ∷ xs) f a b = (f x a.0 b.0, All-zip Q R S xs f a.1 b.1)

pub All-append : (Q : ℕ → Type 0) (p q : List ℕ) → All Q p → All Q q → All Q (p ++ q)
All-append Q [] q a b = b
All-append Q (x ∷ xs) q a b = (a.0, All-append Q xs q a.1 b)

Trail-append : {batch : ℕ → List Payment} {u v w : Accounts} {ps qs : List ℕ} → Trail batch u ps v → Trail batch v qs w → Trail batch u (ps ++ qs) w
Trail-append halt t = t
Trail-append (pass e s) t = pass e (Trail-append s t)

-- the settled places are those of the tries that passed
passed_try : (s : Step) (p : ℕ) (l : List ℕ) → passed_of (try_of s p ++ l) ≡ leaves s p ++ passed_of l
unfolding passed_of
passed_try Omitted p l = refl
passed_try Failed p l = rw (ne_eqb ((2 * p) % 2) 1 (λ e. omega arith))
passed_try Passed p l = rw (eq-eqb ((2 * p + 1) % 2) 1 (omega arith)) (ap (λ (x : ℕ). x ∷ passed_of l) (omega arith))

passed_append : (l r : List ℕ) → passed_of (l ++ r) ≡ passed_of l ++ passed_of r
unfolding passed_of
passed_append [] r = refl
passed_append (x ∷ l) r = by_bool (eqb (x % 2) 1) (λ e. rw e (ap (λ (y : List ℕ). x / 2 ∷ y) (passed_append l r))) (λ e. rw e (passed_append l r))

module _ (quick : Bool) (batch : ℕ → List Payment) where
  walk_trail : (a : Accounts) (m q : List ℕ) → Trail batch a (walk quick batch a m q).done (walk quick batch a m q).books
  unfolding walk
  walk_trail a m [] = halt
  walk_trail a m (p ∷ q) =
      by_turn quick batch a m p
      (λ e t. rw t (walk_trail a m q))
      (λ e v t. rw t (pass (passes_covered a (needs_of (batch p)) v) (walk_trail (settle a (batch p)) _ q)))
      (λ e k v t. rw t (walk_trail a _ q))

  pub test_trail : (f : ℕ) (a : Accounts) (m q : List ℕ) → Trail batch a (test quick batch f a m q).done (test quick batch f a m q).books
  unfolding test
  test_trail zero a m q = halt
  test_trail (suc f) a m q =
      let r : Outcome = walk quick batch a m q in
      by_bool (some r.done)
      (λ e. rw (test_more quick batch f a m q e) (Trail-append (walk_trail a m q) (test_trail f r.books r.memory r.queue)))
      (λ e. rw (test_stop quick batch f a m q e) (walk_trail a m q))

  -- a walk that settles nothing leaves all as it was, and none of its batches would pass
  record Quiet (a : Accounts) (q : List ℕ) (r : Outcome) : Type 0 where
    books : r.books ≡ a
    queue : r.queue ≡ q
    stuck : Stuck batch a q

  walk_quiet : (a : Accounts) (m q : List ℕ) → Trusted batch quick a m → (walk quick batch a m q).done ≡ [] → Quiet a q (walk quick batch a m q)
  unfolding walk
  walk_quiet a m [] g n = record { books = refl; queue = refl; stuck = tt }
  walk_quiet a m (p ∷ q) g n =
      by_turn quick batch a m p
      (λ e t.
      let w = walk_turn quick batch a m p q t in
      let i = walk_quiet a m q g (rw t at n) in
      record { books = ap (λ (o : Outcome). o.books) w ∙ i.books; queue = ap (λ (o : Outcome). o.queue) w ∙ ap (λ (l : List ℕ). p ∷ l) i.queue; stuck = (omitted_waits batch quick a m p g e, i.stuck) })
      (λ e v t. absurd (omega (arith, ap length (rw t at n))))
      (λ e k v t.
      let w = walk_turn quick batch a m p q t in
      let h : Trusted batch quick (turn quick batch a m p).books (turn quick batch a m p).memory = trusted_turn batch quick a m p g in
      let i = walk_quiet a (remember quick m p k) q (rw t at h) (rw t at n) in
      record { books = ap (λ (o : Outcome). o.books) w ∙ i.books; queue = ap (λ (o : Outcome). o.queue) w ∙ ap (λ (l : List ℕ). p ∷ l) i.queue; stuck = ((λ f. passes≢stops (sym f ∙ v)), i.stuck) })

  pub test_stuck : (f : ℕ) (a : Accounts) (m q : List ℕ) → Trusted batch quick a m → length q < f → Stuck batch (test quick batch f a m q).books (test quick batch f a m q).queue
  test_stuck zero a m q g h = absurd (omega arith)
  test_stuck (suc f) a m q g h =
      let r : Outcome = walk quick batch a m q in
      by_bool (some r.done)
      (λ e. rw (test_more quick batch f a m q e) (test_stuck f r.books r.memory r.queue (trusted_walk batch quick a m q g) (omega (arith, shorter quick batch a m q e))))
      (λ e. let i = walk_quiet a m q g (some_not quick batch r.done e) in rw (test_stop quick batch f a m q e, i.books, i.queue) i.stuck)

  -- the row of tries never needs more than 1 + 2 + .. + n places
  pub test_tries : (f : ℕ) (a : Accounts) (m q : List ℕ) → length (test quick batch f a m q).tries ≤ most (length q)
  unfolding test
  test_tries zero a m q = omega arith
  test_tries (suc f) a m q =
      let r : Outcome = walk quick batch a m q in
      let s : Outcome = test quick batch f r.books r.memory r.queue in
      by_bool (some r.done)
      (λ e. rw (test_more quick batch f a m q e) (omega (arith, length-append r.tries s.tries, walk_tries quick batch a m q, test_tries f r.books r.memory r.queue, most_step (length r.queue) (length q) (shorter quick batch a m q e))))
      (λ e. rw (test_stop quick batch f a m q e) (omega (arith, walk_tries quick batch a m q, most_self (length q))))

  walk_passed : (a : Accounts) (m q : List ℕ) → passed_of (walk quick batch a m q).tries ≡ (walk quick batch a m q).done
  unfolding walk passed_of
  walk_passed a m [] = refl
  walk_passed a m (p ∷ q) =
      let t : Turn = turn quick batch a m p in
      let w : Outcome = walk quick batch t.books t.memory q in
      passed_try t.step p w.tries ∙ ap (λ (l : List ℕ). leaves t.step p ++ l) (walk_passed t.books t.memory q)

  pub test_passed : (f : ℕ) (a : Accounts) (m q : List ℕ) → passed_of (test quick batch f a m q).tries ≡ (test quick batch f a m q).done
  unfolding test passed_of
  test_passed zero a m q = refl
  test_passed (suc f) a m q =
      let r : Outcome = walk quick batch a m q in
      let s : Outcome = test quick batch f r.books r.memory r.queue in
      by_bool (some r.done)
      (λ e. rw (test_more quick batch f a m q e)
      (passed_append r.tries s.tries ∙ ap (λ (l : List ℕ). l ++ passed_of s.tries) (walk_passed a m q) ∙ ap (λ (l : List ℕ). r.done ++ l) (test_passed f r.books r.memory r.queue)))
      (λ e. rw (test_stop quick batch f a m q e) (walk_passed a m q))

  -- what holds of each queued place holds of those left and of those settled
  pub record Each (Q : ℕ → Type 0) (r : Outcome) : Type 0 where
    pub left : All Q r.queue
    pub gone : All Q r.done

  pub walk_each : (Q : ℕ → Type 0) (a : Accounts) (m q : List ℕ) → All Q q → Each Q (walk quick batch a m q)
  unfolding walk
  walk_each Q a m [] h = record { left = tt; gone = tt }
  walk_each Q a m (p ∷ q) h =
      by_turn quick batch a m p
      (λ e t. rw t (let i = walk_each Q a m q h.1 in record { left = (h.0, i.left); gone = i.gone }))
      (λ e v t. rw t (let i = walk_each Q (settle a (batch p)) _ q h.1 in record { left = i.left; gone = (h.0, i.gone) }))
      (λ e k v t. rw t (let i = walk_each Q a _ q h.1 in record { left = (h.0, i.left); gone = i.gone }))

  pub test_each : (Q : ℕ → Type 0) (f : ℕ) (a : Accounts) (m q : List ℕ) → All Q q → Each Q (test quick batch f a m q)
  unfolding test
  test_each Q zero a m q h = record { left = h; gone = tt }
  test_each Q (suc f) a m q h =
      let r : Outcome = walk quick batch a m q in
      let i = walk_each Q a m q h in
      by_bool (some r.done)
      (λ e. rw (test_more quick batch f a m q e)
      (let j = test_each Q f r.books r.memory r.queue i.left in record { left = j.left; gone = All-append Q r.done _ i.gone j.gone }))
      (λ e. rw (test_stop quick batch f a m q e) i)

  -- a queue without repeat stays one, and no settled place is left in it
  pub record Parted (q d : List ℕ) : Type 0 where
    pub once : Once q
    pub apart : Apart q d

  staying : (p : ℕ) (b : Accounts) (n q : List ℕ) → Once (p ∷ q) → Parted (walk quick batch b n q).queue (walk quick batch b n q).done → Parted (p ∷ (walk quick batch b n q).queue) (walk quick batch b n q).done
  staying p b n q o i = let l = walk_each (λ x. x ≡ p → ⊥) b n q o.0 in record { once = (l.left, i.once); apart = (l.gone, i.apart) }

  going : (p : ℕ) (b : Accounts) (n q : List ℕ) → Once (p ∷ q) → Parted (walk quick batch b n q).queue (walk quick batch b n q).done → Parted (walk quick batch b n q).queue (p ∷ (walk quick batch b n q).done)
  going p b n q o i =
      let w : Outcome = walk quick batch b n q in
      let l = (walk_each (λ x. x ≡ p → ⊥) b n q o.0).left in
      record { once = i.once; apart = All-zip (λ x. x ≡ p → ⊥) (λ x. Off x w.done) (λ x. Off x (p ∷ w.done)) w.queue (λ x f g. ((λ e. f (sym e)), g)) l i.apart }

  walk_parted : (a : Accounts) (m q : List ℕ) → Once q → Parted (walk quick batch a m q).queue (walk quick batch a m q).done
  unfolding walk
  walk_parted a m [] o = record { once = tt; apart = tt }
  walk_parted a m (p ∷ q) o =
      by_turn quick batch a m p
      (λ e t. rw t (staying p a m q o (walk_parted a m q o.1)))
      (λ e v t. rw t (going p (settle a (batch p)) _ q o (walk_parted (settle a (batch p)) _ q o.1)))
      (λ e k v t. rw t (staying p a _ q o (walk_parted a _ q o.1)))

  off_none : (l : List ℕ) → Apart l []
  off_none [] = tt
  off_none (x ∷ xs) = (tt, off_none xs)

  pub test_parted : (f : ℕ) (a : Accounts) (m q : List ℕ) → Once q → Parted (test quick batch f a m q).queue (test quick batch f a m q).done
  unfolding test
  test_parted zero a m q o = record { once = o; apart = off_none q }
  test_parted (suc f) a m q o =
      let r : Outcome = walk quick batch a m q in
      let i = walk_parted a m q o in
      by_bool (some r.done)
      (λ e. rw (test_more quick batch f a m q e)
      (let s : Outcome = test quick batch f r.books r.memory r.queue in
      let j = test_parted f r.books r.memory r.queue i.once in
      let l = (test_each (λ x. Off x r.done) f r.books r.memory r.queue i.apart).left in
      record { once = j.once; apart = All-zip (λ x. Off x r.done) (λ x. Off x s.done) (λ x. Off x (r.done ++ s.done)) s.queue (λ x g h. All-append (λ y. y ≡ x → ⊥) r.done s.done g h) l j.apart }))
      (λ e. rw (test_stop quick batch f a m q e) i)

-- the plain test tries every batch of a walk, so the quick test tries no more
module _ (batch : ℕ → List Payment) where
  plain_omits_none : (m : List ℕ) (p : ℕ) → omits false m p ≡ true → ⊥
  unfolding omits
  plain_omits_none m p e = false≢true e

  plain_tries : (a : Accounts) (m q : List ℕ) → length (walk false batch a m q).tries ≡ length q
  unfolding walk
  plain_tries a m [] = refl
  plain_tries a m (p ∷ q) =
      by_turn false batch a m p
      (λ e t. absurd (plain_omits_none m p e))
      (λ e v t. rw t (ap suc (plain_tries (settle a (batch p)) _ q)))
      (λ e k v t. rw t (ap suc (plain_tries a _ q)))

  pub quick_tries_no_more : (f : ℕ) (a : Accounts) (m n q : List ℕ) → True batch a m → length (test true batch f a m q).tries ≤ length (test false batch f a n q).tries
  unfolding test
  quick_tries_no_more zero a m n q h = omega arith
  quick_tries_no_more (suc f) a m n q h =
      let r : Outcome = walk true batch a m q in
      let s : Outcome = walk false batch a n q in
      let i : seen r ≡ seen s = walks_agree batch true false a m n q (λ e. h) (λ e. absurd (false≢true e)) in
      by_bool (some r.done)
      (λ e.
      let e' : some s.done ≡ true = ap (λ (z : Seen). some z.done) (sym i) ∙ e in
      let x : Outcome = test true batch f r.books r.memory r.queue in
      let y : Outcome = test false batch f s.books s.memory s.queue in
      let rest : length x.tries ≤ length y.tries =
      subst (λ (z : Seen). length x.tries ≤ length (test false batch f z.books s.memory z.queue).tries) i
      (quick_tries_no_more f r.books r.memory s.memory r.queue (true_walk batch true a m q h)) in
      rw (test_more true batch f a m q e, test_more false batch f a n q e')
      (omega (arith, rest, length-append r.tries x.tries, length-append s.tries y.tries, walk_tries true batch a m q, plain_tries a n q)))
      (λ e.
      let e' : some s.done ≡ false = ap (λ (z : Seen). some z.done) (sym i) ∙ e in
      rw (test_stop true batch f a m q e, test_stop false batch f a n q e') (omega (arith, walk_tries true batch a m q, plain_tries a n q)))
