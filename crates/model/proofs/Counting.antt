-- How often a place stands in a list of places. Joining, ending and settling move places between lists, and keep these counts.
use Prim.Native.Nat.{ℕ, zero, suc, ◌+◌, ◌≤◌, ◌<◌}
use mathlib.Core.Path.{◌≡◌, refl, sym, ap, ◌∙◌}
use mathlib.Core.Bool.{Bool, true, false, not, cond, false≢true}
use mathlib.Core.List.{List, [], ◌∷◌, ◌++◌}
use native.Mathlib.Omega.{arith}
use lib.Dec.{eqb, ltb}
use lib.ListN.{length}
use borrow.Author.Tests.{eqb-true, eqb-false, eq-eqb, ne_eqb}
use Rattle.chars.specs.Words.{member}
use Rattle.queue.specs.Promise.{All, Off, Once}
use Rattle.queue.proofs.MemoryLaws.{by_bool}
use Rattle.model.specs.Joining.{keep, insert, by_time}

unfoldable pub times : ℕ → List ℕ → ℕ
times p [] = 0
times p (q ∷ qs) = cond (eqb q p) 1 0 + times p qs

pub times_append : (p : ℕ) (a b : List ℕ) → times p (a ++ b) ≡ times p a + times p b
unfolding times
times_append p [] b = omega arith
times_append p (x ∷ a) b = omega (arith, times_append p a b)

pub times_last : (p : ℕ) (l : List ℕ) → times p (l ++ (p ∷ [])) ≡ times p l + 1
unfolding times
times_last p l = times_append p l (p ∷ []) ∙ rw (eq-eqb p p refl)

pub times_other : (p q : ℕ) (l : List ℕ) → (p ≡ q → ⊥) → times p (l ++ (q ∷ [])) ≡ times p l
unfolding times
times_other p q l n = times_append p l (q ∷ []) ∙ rw (ne_eqb q p (λ e. n (sym e))) (omega arith)

-- what is kept, and what is left out
pub times_kept : (is : ℕ → Bool) (p : ℕ) (l : List ℕ) → is p ≡ true → times p (keep is l) ≡ times p l
unfolding times keep
times_kept is p [] e = refl
times_kept is p (q ∷ l) e =
    by_bool (is q)
    (λ f. rw f (ap (λ (n : ℕ). cond (eqb q p) 1 0 + n) (times_kept is p l e)))
    (λ f. rw (f, ne_eqb q p (λ d. false≢true (sym f ∙ ap is d ∙ e))) (omega (arith, times_kept is p l e)))

pub times_left_out : (is : ℕ → Bool) (p : ℕ) (l : List ℕ) → is p ≡ false → times p (keep is l) ≡ 0
unfolding times keep
times_left_out is p [] e = refl
times_left_out is p (q ∷ l) e =
    by_bool (is q)
    (λ f. rw (f, ne_eqb q p (λ d. false≢true (sym e ∙ ap is (sym d) ∙ f))) (omega (arith, times_left_out is p l e)))
    (λ f. rw f (times_left_out is p l e))

-- a list, parted by a test
pub times_parted : (is : ℕ → Bool) (p : ℕ) (l : List ℕ) → times p (keep (λ q. not (is q)) l) + times p (keep is l) ≡ times p l
times_parted is p l =
    by_bool (is p)
    (λ e. omega (arith, times_kept is p l e, times_left_out (λ q. not (is q)) p l (ap not e)))
    (λ e. omega (arith, times_left_out is p l e, times_kept (λ q. not (is q)) p l (ap not e)))

times_insert : (time : ℕ → ℕ) (p q : ℕ) (l : List ℕ) → times p (insert time q l) ≡ times p (q ∷ l)
unfolding times insert
times_insert time p q [] = refl
times_insert time p q (x ∷ l) =
    by_bool (ltb (time q) (time x))
    (λ f. rw f)
    (λ f. rw f (omega (arith, times_insert time p q l)))

pub times_by_time : (time : ℕ → ℕ) (p : ℕ) (done l : List ℕ) → times p (by_time time done l) ≡ times p done + times p l
unfolding times by_time
times_by_time time p done [] = omega arith
times_by_time time p done (q ∷ l) = omega (arith, times_by_time time p (insert time q done) l, times_insert time p q done)

-- ---- none, once, some

pub off_none : (p : ℕ) (l : List ℕ) → Off p l → times p l ≡ 0
unfolding times
off_none p [] o = refl
off_none p (q ∷ l) o = rw (ne_eqb q p o.0) (omega (arith, off_none p l o.1))

none_off : (p : ℕ) (l : List ℕ) → times p l ≡ 0 → Off p l
unfolding times
none_off p [] e = tt
none_off p (q ∷ l) e =
    by_bool (eqb q p)
    (λ f. absurd (let g : 1 + times p l ≡ 0 = rw f at e in omega arith))
    (λ f. let g : 0 + times p l ≡ 0 = rw f at e in (eqb-false q p f, none_off p l (omega arith)))

pub once_times : (p : ℕ) (l : List ℕ) → Once l → times p l ≤ 1
unfolding times
once_times p [] o = omega arith
once_times p (q ∷ l) o =
    by_bool (eqb q p)
    (λ f. let d : q ≡ p = eqb-true q p f in let z : times p l ≡ 0 = rw d at (off_none q l o.0) in rw f (omega arith))
    (λ f. rw f (omega (arith, once_times p l o.1)))

pub times_once : (l : List ℕ) → ((p : ℕ) → times p l ≤ 1) → Once l
unfolding times
times_once [] h = tt
times_once (q ∷ l) h =
    let g : 1 + times q l ≤ 1 = rw (eq-eqb q q refl) at (h q) in
    (none_off q l (omega arith), times_once l (λ p. omega (arith, h p)))

pub no_member : (p : ℕ) (l : List ℕ) → times p l ≡ 0 → member p l ≡ false
unfolding times
no_member p [] e = refl
no_member p (q ∷ l) e =
    by_bool (eqb q p)
    (λ f. absurd (let g : 1 + times p l ≡ 0 = rw f at e in omega arith))
    (λ f. let g : 0 + times p l ≡ 0 = rw f at e in rw (ne_eqb p q (λ d. eqb-false q p f (sym d))) (no_member p l (omega arith)))

pub a_member : (p : ℕ) (l : List ℕ) → 0 < times p l → member p l ≡ true
unfolding times
a_member p [] h = absurd (omega arith)
a_member p (q ∷ l) h =
    by_bool (eqb q p)
    (λ f. rw (eq-eqb p q (sym (eqb-true q p f))))
    (λ f. let g : 0 < 0 + times p l = rw f at h in rw (ne_eqb p q (λ d. eqb-false q p f (sym d))) (a_member p l (omega arith)))

pub all_times : (Q : ℕ → Type 0) (p : ℕ) (l : List ℕ) → All Q l → 0 < times p l → Q p
unfolding times
all_times Q p [] a h = absurd (omega arith)
all_times Q p (q ∷ l) a h =
    by_bool (eqb q p)
    (λ f. rw (eqb-true q p f) at a.0)
    (λ f. let g : 0 < 0 + times p l = rw f at h in all_times Q p l a.1 (omega arith))

pub times_all : (Q : ℕ → Type 0) (l : List ℕ) → ((p : ℕ) → 0 < times p l → Q p) → All Q l
unfolding times
times_all Q [] h = tt
times_all Q (q ∷ l) h = (h q (rw (eq-eqb q q refl) (omega arith)), times_all Q l (λ p g. h p (omega arith)))

-- ---- places below n that stand once each are n at the most

abbrev but : ℕ → ℕ → Bool
but n p = not (eqb p n)

length_but : (n : ℕ) (l : List ℕ) → length l ≡ length (keep (but n) l) + times n l
unfolding keep times
length_but n [] = refl
length_but n (x ∷ l) = by_bool (eqb x n) (λ e. rw e (omega (arith, length_but n l))) (λ e. rw e (omega (arith, length_but n l)))

pub at_most : (n : ℕ) (l : List ℕ) → ((p : ℕ) → times p l ≤ 1) → ((p : ℕ) → n ≤ p → times p l ≡ 0) → length l ≤ n
unfolding times
at_most zero [] o h = omega arith
at_most zero (x ∷ l) o h = absurd (let g : 1 + times x l ≡ 0 = rw (eq-eqb x x refl) at (h x (omega arith)) in omega arith)
at_most (suc n) l o h =
    omega (
      arith,
      length_but n l,
      o n,
      at_most n (keep (but n) l)
          (λ p. by_bool (eqb p n) (λ e. omega (arith, times_left_out (but n) p l (ap not e))) (λ e. omega (arith, times_kept (but n) p l (ap not e), o p)))
          (λ p b. by_bool (eqb p n) (λ e. times_left_out (but n) p l (ap not e)) (λ e. times_kept (but n) p l (ap not e) ∙ h p (omega (arith, eqb-false p n e)))),
    )
