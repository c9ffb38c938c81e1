-- Laws of what is kept of a list of places, and of the order that a test leaves.
use Prim.Native.Nat.{ℕ, zero, suc, ◌+◌, ◌*◌, ◌/◌, ◌≤◌, ◌<◌}
use mathlib.Core.Path.{◌≡◌, refl, sym, ap, subst, ◌∙◌}
use mathlib.Core.Bool.{Bool, true, false, ◌&&◌, ◌||◌, not}
use mathlib.Core.List.{List, [], ◌∷◌, ◌++◌, map}
use native.Mathlib.Omega.{arith}
use lib.Dec.{eqb}
use borrow.Author.Tests.{eqb-true, eqb-false, eq-eqb, ne_eqb}
use Rattle.chars.specs.Words.{member}
use Rattle.book_read.specs.Book.{each}
use Rattle.settle.specs.Payments.{Payment}
use Rattle.settle.specs.Settlement.{Accounts}
use Rattle.queue.specs.Tests.{Turn, Outcome, stays, leaves, try_of, turn, noted, some, settle, remember, walk, test}
use Rattle.queue.specs.Memory.{wake, credited}
use Rattle.queue.specs.declared.Step.{Step}
use Rattle.queue.specs.declared.Step.TheVariants.{Omitted, Failed, Passed}
use Rattle.queue.specs.Promise.{All, Off, Once}
use Rattle.queue.proofs.MemoryLaws.{by_bool}
use Rattle.queue.proofs.Steps.{by_turn, walk_turn, test_stop, test_more}
use Rattle.queue.proofs.Trail.{walk_each, All-append}
use Rattle.model.specs.Joining.{keep}
use Rattle.model.proofs.Counting.{times, times_kept, times_left_out, off_none, once_times, times_once, no_member}

-- a place of a list
abbrev In : ℕ → List ℕ → Type 0
In p l = 0 < times p l

in_head : (p : ℕ) (l : List ℕ) → In p (p ∷ l)
unfolding times
in_head p l = rw (eq-eqb p p refl) (omega arith)

in_tail : (p q : ℕ) (l : List ℕ) → In p l → In p (q ∷ l)
unfolding times
in_tail p q l h = omega arith

pub keep_same : (f g : ℕ → Bool) (l : List ℕ) → ((p : ℕ) → In p l → f p ≡ g p) → keep f l ≡ keep g l
unfolding keep
keep_same f g [] h = refl
keep_same f g (x ∷ l) h =
    let r = keep_same f g l (λ p i. h p (in_tail p x l i)) in
    by_bool (g x)
    (λ e. rw (e, h x (in_head x l) ∙ e) (ap (λ (y : List ℕ). x ∷ y) r))
    (λ e. rw (e, h x (in_head x l) ∙ e) r)

keep_yes : (l : List ℕ) → keep (λ p. true) l ≡ l
unfolding keep
keep_yes [] = refl
keep_yes (x ∷ l) = ap (λ (y : List ℕ). x ∷ y) (keep_yes l)

keep_no : (l : List ℕ) → keep (λ p. false) l ≡ []
unfolding keep
keep_no [] = refl
keep_no (x ∷ l) = keep_no l

pub keep_all : (f : ℕ → Bool) (l : List ℕ) → ((p : ℕ) → In p l → f p ≡ true) → keep f l ≡ l
keep_all f l h = keep_same f (λ p. true) l h ∙ keep_yes l

pub keep_none : (f : ℕ → Bool) (l : List ℕ) → ((p : ℕ) → In p l → f p ≡ false) → keep f l ≡ []
keep_none f l h = keep_same f (λ p. false) l h ∙ keep_no l

pub keep_append : (f : ℕ → Bool) (a b : List ℕ) → keep f (a ++ b) ≡ keep f a ++ keep f b
unfolding keep
keep_append f [] b = refl
keep_append f (x ∷ a) b = by_bool (f x) (λ e. rw e (ap (λ (y : List ℕ). x ∷ y) (keep_append f a b))) (λ e. rw e (keep_append f a b))

pub keep_keep : (f g : ℕ → Bool) (l : List ℕ) → keep f (keep g l) ≡ keep (λ p. g p && f p) l
unfolding keep
keep_keep f g [] = refl
keep_keep f g (x ∷ l) =
    by_bool (g x)
    (λ e. by_bool (f x) (λ d. rw (e, d) (ap (λ (y : List ℕ). x ∷ y) (keep_keep f g l))) (λ d. rw (e, d) (keep_keep f g l)))
    (λ e. rw e (keep_keep f g l))

pub kept_in : (f : ℕ → Bool) (p : ℕ) (l : List ℕ) → In p (keep f l) → (f p ≡ true) × In p l
kept_in f p l h =
    by_bool (f p)
    (λ e. (e, omega (arith, times_kept f p l e, h)))
    (λ e. absurd (omega (arith, times_left_out f p l e, h)))

-- of places counted on just one
counted_from : (q i n : ℕ) → In q (each (λ (x : ℕ). x) i n) → i ≤ q
unfolding times
counted_from q i zero h = absurd (omega arith)
counted_from q i (suc n) h =
    by_bool (eqb i q)
    (λ e. omega (arith, eqb-true i q e))
    (λ e. let g : 0 < 0 + times q (each (λ (x : ℕ). x) (i + 1) n) = rw e at h in omega (arith, counted_from q (i + 1) n (omega arith)))

pub keep_one : (f : ℕ → Bool) (p i n : ℕ) → i ≤ p → p < i + n → f p ≡ true → ((q : ℕ) → (q ≡ p → ⊥) → f q ≡ false) → keep f (each (λ (x : ℕ). x) i n) ≡ p ∷ []
unfolding keep
keep_one f p i zero l h e g = absurd (omega arith)
keep_one f p i (suc n) l h e g =
    by_bool (eqb i p)
    (λ d. let z : i ≡ p = eqb-true i p d in
    let y : f i ≡ true = ap f z ∙ e in
    rw y (ap (λ (r : List ℕ). i ∷ r) (keep_none f (each (λ (x : ℕ). x) (i + 1) n) (λ q k. g q (λ w. let v = counted_from q (i + 1) n k in omega arith))) ∙ ap (λ (x : ℕ). x ∷ []) z))
    (λ d. let z = eqb-false i p d in rw (g i z) (keep_one f p (i + 1) n (omega arith) (omega arith) e g))

-- ---- the order that a test leaves

member_append : (p : ℕ) (a b : List ℕ) → member p (a ++ b) ≡ (member p a || member p b)
member_append p [] b = refl
member_append p (x ∷ a) b = by_bool (eqb p x) (λ e. rw e) (λ e. rw e (member_append p a b))

not_or : (x y : Bool) → (not x && not y) ≡ not (x || y)
not_or true y = refl
not_or false y = refl

once_keep : (f : ℕ → Bool) (l : List ℕ) → Once l → Once (keep f l)
once_keep f l o = times_once (keep f l) (λ p. by_bool (f p)
    (λ e. omega (arith, times_kept f p l e, once_times p l o))
    (λ e. omega (arith, times_left_out f p l e)))

module _ (quick : Bool) (batch : ℕ → List Payment) where
  abbrev Kept-by : List ℕ → Outcome → Type 0
  Kept-by q o = o.queue ≡ keep (λ p. not (member p o.done)) q

  put_first : (p : ℕ) (q : List ℕ) (o : Outcome) (front gone : List ℕ) → front ≡ p ∷ [] → gone ≡ [] → Off p o.done → Kept-by q o
      → front ++ o.queue ≡ keep (λ x. not (member x (gone ++ o.done))) (p ∷ q)
  unfolding keep
  put_first p q o front gone x y f h =
      subst (λ (g : List ℕ). front ++ o.queue ≡ keep (λ x. not (member x (g ++ o.done))) (p ∷ q)) (sym y)
      (rw (x, no_member p o.done (off_none p o.done f)) (ap (λ (l : List ℕ). p ∷ l) h))

  stays_on : (p : ℕ) (q : List ℕ) (o : Outcome) (s : Step) → stays s p ≡ p ∷ [] → leaves s p ≡ [] → Off p o.done → Kept-by q o → Kept-by (p ∷ q) (noted s p o)
  stays_on p q o s x y f h = put_first p q o (stays s p) (leaves s p) x y f h

  goes_off : (p : ℕ) (q : List ℕ) (o : Outcome) → Off p q → Kept-by q o → Kept-by (p ∷ q) (noted Passed p o)
  unfolding keep
  goes_off p q o f h =
      rw (eq-eqb p p refl) (h ∙ keep_same (λ x. not (member x o.done)) (λ x. not (member x (p ∷ o.done))) q (λ x i.
      let n : x ≡ p → ⊥ = (λ e. absurd (omega (arith, off_none p q f, ap (λ (y : ℕ). times y q) e, i))) in
      rw (ne_eqb x p n) refl))

  walk_none : (a : Accounts) (m : List ℕ) → Kept-by [] (walk quick batch a m [])
  unfolding walk keep
  walk_none a m = refl

  walk_kept : (a : Accounts) (m q : List ℕ) → Once q → Kept-by q (walk quick batch a m q)
  walk_kept a m [] o = walk_none a m
  walk_kept a m (p ∷ q) o =
      by_turn quick batch a m p
      (λ e t. rw (walk_turn quick batch a m p q t) (stays_on p q (walk quick batch a m q) Omitted refl refl (walk_each quick batch (λ x. x ≡ p → ⊥) a m q o.0).gone (walk_kept a m q o.1)))
      (λ e v t. let n : List ℕ = map (wake (credited (batch p))) m in
      rw (walk_turn quick batch a m p q t) (goes_off p q (walk quick batch (settle a (batch p)) n q) o.0 (walk_kept (settle a (batch p)) n q o.1)))
      (λ e k v t. let n : List ℕ = remember quick m p k in
      rw (walk_turn quick batch a m p q t) (stays_on p q (walk quick batch a n q) Failed refl refl (walk_each quick batch (λ x. x ≡ p → ⊥) a n q o.0).gone (walk_kept a n q o.1)))

  pub test_kept : (f : ℕ) (a : Accounts) (m q : List ℕ) → Once q → Kept-by q (test quick batch f a m q)
  unfolding test
  test_kept zero a m q o = sym (keep_all (λ p. true) q (λ p i. refl))
  test_kept (suc f) a m q o =
      let r : Outcome = walk quick batch a m q in
      let s : Outcome = test quick batch f r.books r.memory r.queue in
      let h = walk_kept a m q o in
      by_bool (some r.done)
      (λ e. rw (test_more quick batch f a m q e)
      (test_kept f r.books r.memory r.queue (rw h (once_keep (λ p. not (member p r.done)) q o))
      ∙ ap (keep (λ p. not (member p s.done))) h
      ∙ keep_keep (λ p. not (member p s.done)) (λ p. not (member p r.done)) q
      ∙ keep_same (λ p. not (member p r.done) && not (member p s.done)) (λ p. not (member p (r.done ++ s.done))) q
      (λ p i. not_or (member p r.done) (member p s.done) ∙ ap not (sym (member_append p r.done s.done)))))
      (λ e. rw (test_stop quick batch f a m q e) h)

  -- each try is of a queued place
  walk_tried : (Q : ℕ → Type 0) (a : Accounts) (m q : List ℕ) → All Q q → All (λ t. Q (t / 2)) (walk quick batch a m q).tries
  unfolding walk
  walk_tried Q a m [] h = tt
  walk_tried Q a m (p ∷ q) h =
      let t : Turn = turn quick batch a m p in
      All-append (λ x. Q (x / 2)) (try_of t.step p) (walk quick batch t.books t.memory q).tries (one t.step) (walk_tried Q t.books t.memory q h.1)
    where
      even : (x : ℕ) → 2 * x / 2 ≡ x
      even x = omega arith

      odd : (x : ℕ) → (2 * x + 1) / 2 ≡ x
      odd x = omega arith

      one : (s : Step) → All (λ x. Q (x / 2)) (try_of s p)
      one Omitted = tt
      one Failed = (rw (even p) h.0, tt)
      one Passed = (rw (odd p) h.0, tt)

  pub test_tried : (Q : ℕ → Type 0) (f : ℕ) (a : Accounts) (m q : List ℕ) → All Q q → All (λ t. Q (t / 2)) (test quick batch f a m q).tries
  unfolding test
  test_tried Q zero a m q h = tt
  test_tried Q (suc f) a m q h =
      let r : Outcome = walk quick batch a m q in
      let s : Outcome = test quick batch f r.books r.memory r.queue in
      by_bool (some r.done)
      (λ e. rw (test_more quick batch f a m q e)
      (All-append (λ t. Q (t / 2)) r.tries s.tries (walk_tried Q a m q h) (test_tried Q f r.books r.memory r.queue (walk_each quick batch Q a m q h).left)))
      (λ e. rw (test_stop quick batch f a m q e) (walk_tried Q a m q h))
