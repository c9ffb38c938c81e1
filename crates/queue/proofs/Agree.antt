-- The two tests agree where the memory is true: a batch held at a bank has an uncovered debit of it.
use mathlib.Core.Path.{◌≡◌, refl, sym, ap, ◌∙◌}
use mathlib.Core.Bool.{Bool, true, false, ◌||◌, cond, false≢true}
use mathlib.Core.List.{List, [], ◌∷◌, ◌++◌, map}
use Prim.Native.Nat.{ℕ, zero, suc, ◌+◌, ◌-◌, ◌≤◌}
use native.Mathlib.Omega.{arith}
use lib.Dec.{leb, eqb, ltb}
use lib.ListN.{get_or, set}
use lib.Seq.{get_or-set_other}
use borrow.Author.Tests.{leb-false, lt-leb, eqb-false}
use Rattle.chars.specs.Words.{bytes, member}
use Rattle.settle.specs.Cover.{esa, covered}
use Rattle.settle.specs.Payments.{Payment, credit, debit, Need, needs_of}
use Rattle.settle.specs.Settlement.{Accounts, is_covered, first_uncovered, verdict, paid, settled}
use Rattle.settle.specs.declared.Verdict.TheVariants.{Passes, Stops}
use Rattle.queue.specs.Memory.{credited_by, credited, wake}
use Rattle.queue.specs.Tests.{Outcome, Seen, seen, some, omits, remember, turn, settle, walk, test}
use Rattle.queue.specs.Promise.{Uncovered, here, there, Held, True, sublimited}
use Rattle.queue.proofs.MemoryLaws.{by_bool, wake_yes, wake_no}
use Rattle.queue.proofs.Steps.{by_verdict, by_turn, walk_turn, test_stop, test_more}

module _ (a : Accounts) (n : Need) (ns : List Need) where
  pub first_yes : is_covered a n ≡ true → first_uncovered a (n ∷ ns) ≡ first_uncovered a ns
  unfolding first_uncovered
  first_yes e = rw e

  pub first_no : is_covered a n ≡ false → first_uncovered a (n ∷ ns) ≡ Stops n.bank
  unfolding first_uncovered
  first_no e = rw e

pub passes≢stops : {X : Type 0} {k : ℕ} → Passes ≡ Stops k → X
passes≢stops e = let z : ◌≡◌ {A = ℕ} 0 1 = cc in absurd (omega arith)

first_uncovered_lem : (a : Accounts) (ns : List Need) (k : ℕ) → first_uncovered a ns ≡ Stops k → Uncovered a ns k
unfolding first_uncovered
first_uncovered_lem a [] k e = passes≢stops e
first_uncovered_lem a (n ∷ ns) k e =
    by_bool (is_covered a n)
    (λ c. there (first_uncovered_lem a ns k (sym (first_yes a n ns c) ∙ e)))
    (λ c. let f : Stops n.bank ≡ Stops k = sym (first_no a n ns c) ∙ e in let g : n.bank ≡ k = cc in rw (← g) (here c))

uncovered_first : {a : Accounts} {ns : List Need} {k : ℕ} → Uncovered a ns k → first_uncovered a ns ≡ Passes → ⊥
uncovered_first {a} (here {n = n} {ns = ns} c) e = passes≢stops (sym e ∙ first_no a n ns c)
uncovered_first {a} (there {n = n} {ns = ns} u) e =
    by_bool (is_covered a n)
    (λ c. uncovered_first u (sym (first_yes a n ns c) ∙ e))
    (λ c. passes≢stops (sym e ∙ first_no a n ns c))

-- less money covers no more
covered_less : (l b b' s c : ℕ) → b' ≤ b → covered l b s c ≡ false → covered l b' s c ≡ false
unfolding covered
covered_less l b b' s c h e = go (member (esa l) (bytes "P")) (member (esa l) (bytes " A")) e
  where
    go : (t u : Bool) → cond t (leb c b) (cond u (leb (c + s) b) false) ≡ false → cond t (leb c b') (cond u (leb (c + s) b') false) ≡ false
    go true u f = lt-leb c b' (omega (arith, leb-false c b f))
    go false true f = lt-leb (c + s) b' (omega (arith, leb-false (c + s) b f))
    go false false f = refl

uncovered_less : {a v : Accounts} {ns : List Need} {k : ℕ} → get_or v.balances k 0 ≤ get_or a.balances k 0 → get_or v.sublimits k 0 ≡ get_or a.sublimits k 0 → Uncovered a ns k → Uncovered v ns k
uncovered_less {a} {v} h e (here {n = n} c) =
    here {n = n} (rw e (covered_less n.letters (get_or a.balances n.bank 0) (get_or v.balances n.bank 0) (get_or a.sublimits n.bank 0) n.cents h c))
uncovered_less h e (there u) = there (uncovered_less h e u)

-- a settled batch that does not credit k leaves k with no more
dip : (l : List ℕ) (j k v : ℕ) → v ≤ get_or l j 0 → get_or (set l j v) k 0 ≤ get_or l k 0
dip [] j k v h = omega arith
dip (x ∷ xs) zero zero v h = h
dip (x ∷ xs) zero (suc k) v h = omega arith
dip (x ∷ xs) (suc j) zero v h = omega arith
dip (x ∷ xs) (suc j) (suc k) v h = dip xs j k v h

or_left : (x y : Bool) → (x || y) ≡ false → x ≡ false
or_left true y e = e
or_left false y e = refl

or_right : (x y : Bool) → (x || y) ≡ false → y ≡ false
or_right true y e = cc
or_right false y e = e

paid_dip : (l : List ℕ) (p : Payment) (k : ℕ) → credited_by p k ≡ false → get_or (paid l p) k 0 ≤ get_or l k 0
unfolding paid credited_by
paid_dip l (credit j c) k e = rw (get_or-set_other l j k (get_or l j 0 + c) 0 (λ q. eqb-false j k e (sym q))) (omega arith)
paid_dip l (debit t j c) k e = dip l j k (get_or l j 0 - c) (omega arith)

settled_dip : (l : List ℕ) (ps : List Payment) (k : ℕ) → credited ps k ≡ false → get_or (settled l ps) k 0 ≤ get_or l k 0
unfolding settled credited
settled_dip l [] k e = omega arith
settled_dip l (p ∷ ps) k e =
    omega (arith, settled_dip (paid l p) ps k (or_right (credited_by p k) (credited ps k) e), paid_dip l p k (or_left (credited_by p k) (credited ps k) e))

uncovered_settle : (a : Accounts) (c : List Payment) {ns : List Need} {k : ℕ} → credited c k ≡ false → Uncovered a ns k → Uncovered (settle a c) ns k
uncovered_settle a c {k = k} e u = uncovered_less (settled_dip a.balances c k e) refl u

-- what holds of every place of the memory holds after a store, and after waking
pub set_keep : (Q : ℕ → ℕ → Type 0) (m : List ℕ) (p v : ℕ) → ((x : ℕ) → Q x (get_or m x 0)) → Q p v → (x : ℕ) → Q x (get_or (set m p v) x 0)
set_keep Q [] p v h g x = h x
set_keep Q (y ∷ m) zero v h g zero = g
set_keep Q (y ∷ m) zero v h g (suc x) = h (suc x)
set_keep Q (y ∷ m) (suc p) v h g zero = h zero
set_keep Q (y ∷ m) (suc p) v h g (suc x) = set_keep (λ i s. Q (suc i) s) m p v (λ i. h (suc i)) g x

pub wake_keep : (Q R : ℕ → Type 0) (f : ℕ → Bool) (m : List ℕ) (x : ℕ) → R 0 → ((k : ℕ) → f k ≡ false → Q (suc k) → R (suc k)) → Q (get_or m x 0) → R (get_or (map (wake f) m) x 0)
unfolding wake
wake_keep Q R f [] x r g q = r
wake_keep Q R f (zero ∷ m) zero r g q = r
wake_keep Q R f (suc k ∷ m) zero r g q = by_bool (f k) (λ e. rw (wake_yes f k e) r) (λ e. rw (wake_no f k e) (g k e q))
wake_keep Q R f (y ∷ m) (suc x) r g q = wake_keep Q R f m x r g q

module _ (batch : ℕ → List Payment) where
  true_settle : (a : Accounts) (c : List Payment) (m : List ℕ) → True batch a m → True batch (settle a c) (map (wake (credited c)) m)
  true_settle a c m h p = wake_keep (Held a (batch p)) (Held (settle a c) (batch p)) (credited c) m p tt (λ k e u. uncovered_settle a c e u) (h p)

  true_remember : (quick : Bool) (a : Accounts) (p k : ℕ) (m : List ℕ) → verdict a (batch p) ≡ Stops k → True batch a m → True batch a (remember quick m p k)
  unfolding remember
  true_remember quick a p k m e h =
      by_bool quick
      (λ q. rw q (set_keep (λ x s. Held a (batch x) s) m p (suc k) h (first_uncovered_lem a (needs_of (batch p)) k e)))
      (λ q. rw q h)

  -- a sub-limit change
  pub true_sublimit : (a : Accounts) (k v : ℕ) (m : List ℕ) → True batch a m → True batch (sublimited a k v) (map (wake (eqb k)) m)
  unfolding sublimited
  true_sublimit a k v m h p =
      wake_keep (Held a (batch p)) (Held (sublimited a k v) (batch p)) (eqb k) m p tt
      (λ j e u. uncovered_less (omega arith) (get_or-set_other a.sublimits k j v 0 (λ q. eqb-false k j e (sym q))) u)
      (h p)

  module _ (quick : Bool) where
    pub true_turn : (a : Accounts) (m : List ℕ) (p : ℕ) → True batch a m → True batch (turn quick batch a m p).books (turn quick batch a m p).memory
    true_turn a m p h =
        by_turn quick batch a m p
        (λ e t. rw t h)
        (λ e v t. rw t (true_settle a (batch p) m h))
        (λ e k v t. rw t (true_remember quick a p k m v h))

    pub true_walk : (a : Accounts) (m q : List ℕ) → True batch a m → True batch (walk quick batch a m q).books (walk quick batch a m q).memory
    unfolding walk
    true_walk a m [] h = h
    true_walk a m (p ∷ q) h = true_walk (turn quick batch a m p).books (turn quick batch a m p).memory q (true_turn a m p h)

    pub true_test : (f : ℕ) (a : Accounts) (m q : List ℕ) → True batch a m → True batch (test quick batch f a m q).books (test quick batch f a m q).memory
    unfolding test
    true_test zero a m q h = h
    true_test (suc f) a m q h =
        by_bool (some (walk quick batch a m q).done)
        (λ e. rw (test_more quick batch f a m q e) (true_test f (walk quick batch a m q).books (walk quick batch a m q).memory (walk quick batch a m q).queue (true_walk a m q h)))
        (λ e. rw (test_stop quick batch f a m q e) (true_walk a m q h))

  -- an omitted batch would not pass
  held_waits : (a : Accounts) (ps : List Payment) (g : ℕ) → ltb 0 g ≡ true → Held a ps g → verdict a ps ≡ Passes → ⊥
  held_waits a ps zero e h v = absurd (false≢true e)
  held_waits a ps (suc k) e h v = uncovered_first h v

  module _ (quick : Bool) where
    -- the plain test needs no true memory
    abbrev pub Trusted : Accounts → List ℕ → Type 0
    Trusted a m = quick ≡ true → True batch a m

    pub omitted_waits : (a : Accounts) (m : List ℕ) (p : ℕ) → Trusted a m → omits quick m p ≡ true → verdict a (batch p) ≡ Passes → ⊥
    unfolding omits
    omitted_waits a m p h e v =
        by_bool quick
        (λ q. held_waits a (batch p) (get_or m p 0) (rw q at e) (h q p) v)
        (λ q. false≢true (rw q at e))

    pub trusted_turn : (a : Accounts) (m : List ℕ) (p : ℕ) → Trusted a m → Trusted (turn quick batch a m p).books (turn quick batch a m p).memory
    trusted_turn a m p h q = true_turn quick a m p (h q)

    pub trusted_walk : (a : Accounts) (m q : List ℕ) → Trusted a m → Trusted (walk quick batch a m q).books (walk quick batch a m q).memory
    trusted_walk a m q h e = true_walk quick a m q (h e)

    abbrev kept : ℕ → Seen → Seen
    kept p r = record { books = r.books; queue = p ∷ r.queue; done = r.done }

    abbrev took : ℕ → Seen → Seen
    took p r = record { books = r.books; queue = r.queue; done = p ∷ r.done }

    record Stays (a : Accounts) (m : List ℕ) (p : ℕ) (q : List ℕ) : Type 0 where
      rest : List ℕ
      trusted : Trusted a rest
      is : seen (walk quick batch a m (p ∷ q)) ≡ kept p (seen (walk quick batch a rest q))

    -- a batch that would not pass stays, tried or omitted
    stays_there : (a : Accounts) (m : List ℕ) (p k : ℕ) (q : List ℕ) → Trusted a m → verdict a (batch p) ≡ Stops k → Stays a m p q
    stays_there a m p k q h v =
        by_turn quick batch a m p
        (λ e t. record { rest = m; trusted = h; is = ap seen (walk_turn quick batch a m p q t) })
        (λ e w t. passes≢stops (sym w ∙ v))
        (λ e j w t. record { rest = remember quick m p j; trusted = λ i. true_remember quick a p j m w (h i); is = ap seen (walk_turn quick batch a m p q t) })

    -- one that would pass is tried and settled
    goes_there : (a : Accounts) (m : List ℕ) (p : ℕ) (q : List ℕ) → Trusted a m → verdict a (batch p) ≡ Passes
        → seen (walk quick batch a m (p ∷ q)) ≡ took p (seen (walk quick batch (settle a (batch p)) (map (wake (credited (batch p))) m) q))
    goes_there a m p q h v =
        by_turn quick batch a m p
        (λ e t. absurd (omitted_waits a m p h e v))
        (λ e w t. ap seen (walk_turn quick batch a m p q t))
        (λ e k w t. passes≢stops (sym v ∙ w))

  module _ (x y : Bool) where
    pub walks_agree : (a : Accounts) (m n q : List ℕ) → Trusted x a m → Trusted y a n → seen (walk x batch a m q) ≡ seen (walk y batch a n q)
    unfolding walk
    walks_agree a m n [] g h = refl
    walks_agree a m n (p ∷ q) g h =
        by_verdict (verdict a (batch p))
        (λ v.
        goes_there x a m p q g v
        ∙ ap (took x p) (walks_agree (settle a (batch p)) (map (wake (credited (batch p))) m) (map (wake (credited (batch p))) n) q
        (λ e. true_settle a (batch p) m (g e)) (λ e. true_settle a (batch p) n (h e)))
        ∙ sym (goes_there y a n p q h v))
        (λ k v.
        let i = stays_there x a m p k q g v in
        let j = stays_there y a n p k q h v in
        i.is ∙ ap (kept x p) (walks_agree a i.rest j.rest q i.trusted j.trusted) ∙ sym j.is)

    abbrev join : Seen → Seen → Seen
    join r s = record { books = s.books; queue = s.queue; done = r.done ++ s.done }

    pub tests_agree : (f : ℕ) (a : Accounts) (m n q : List ℕ) → Trusted x a m → Trusted y a n → seen (test x batch f a m q) ≡ seen (test y batch f a n q)
    unfolding test
    tests_agree zero a m n q g h = refl
    tests_agree (suc f) a m n q g h =
        let r : Outcome = walk x batch a m q in
        let s : Outcome = walk y batch a n q in
        let i : seen r ≡ seen s = walks_agree a m n q g h in
        by_bool (some r.done)
        (λ e.
        let e' : some s.done ≡ true = ap (λ (z : Seen). some z.done) (sym i) ∙ e in
        ap seen (test_more x batch f a m q e)
        ∙ ap (join (seen r)) (tests_agree f r.books r.memory s.memory r.queue (trusted_walk x a m q g) (rw (ap (λ (z : Seen). z.books) i) (trusted_walk y a n q h)))
        ∙ ap (λ (z : Seen). join z (seen (test y batch f z.books s.memory z.queue))) i
        ∙ sym (ap seen (test_more y batch f a n q e')))
        (λ e.
        let e' : some s.done ≡ false = ap (λ (z : Seen). some z.done) (sym i) ∙ e in
        ap seen (test_stop x batch f a m q e) ∙ i ∙ sym (ap seen (test_stop y batch f a n q e')))

pub forgets : (m : List ℕ) (p : ℕ) → get_or (set m p 0) p 0 ≡ 0
forgets [] p = refl
forgets (y ∷ m) zero = refl
forgets (y ∷ m) (suc p) = forgets m p
