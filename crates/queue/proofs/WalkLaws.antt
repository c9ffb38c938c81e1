-- The loop of a walk: its invariant, and that a turn keeps it.
use mathlib.Core.Path.{◌≡◌, refl, sym, ap, subst, ◌∙◌}
use mathlib.Core.Bool.{Bool}
use mathlib.Core.List.{List, [], ◌∷◌, ◌++◌}
use Prim.Native.Nat.{ℕ, suc, ◌+◌, ◌≤◌, ◌<◌}
use native.Mathlib.Omega.{arith}
use native.Mathlib.Numerals.{add-one}
use native.Mathlib.Nat.{add-zero}
use lib.ListN.{length, get_or, set, take, drop, length-append}
use lib.Seq.{sets, length-sets, slice, slice-cons, slice_empty, drop-set-lt, take-set-lt}
use Rattle.settle.specs.Payments.{row_payments}
use Rattle.settle.specs.Settlement.{accounts}
use Rattle.settle.specs.Rules.{Books, Good}
use Rattle.queue.specs.Tests.{Turn, turned, Outcome, stays, try_of, noted, turn, walk}
use Rattle.queue.specs.Rows.{AllGood, Noted, Walked}
use Rattle.queue.specs.declared.Step.{Step}
use Rattle.queue.specs.declared.Step.TheVariants.{Omitted, Failed, Passed}
use Rattle.queue.proofs.Steps.{walk_turn, turn_memory, one_try}
use Rattle.queue.proofs.TurnLaws.{turn_books}

-- what is left to do, done from here, gives what the whole walk gives (o, from the rows q₀ and r₀)
pub record Inv (quick : Bool) (l t : List ℕ) (n : ℕ) (o : Outcome) (q₀ r₀ : List ℕ) (k₀ : ℕ) (b m q r : List ℕ) (i w k : ℕ) : Type 0 where
  pub i_le : i ≤ n
  pub w_le : w ≤ i
  pub k_le : k ≤ k₀ + i
  pub n_le : n ≤ length q₀
  pub room : k₀ + n ≤ length r₀
  pub m_long : length m ≡ 32
  pub q_long : length q ≡ length q₀
  pub r_long : length r ≡ length r₀
  pub books : Books b l
  pub good : AllGood t (slice i n q)
  pub after : o.books ≡ (walk quick (row_payments t) (accounts b l) m (slice i n q)).books
  pub memory : o.memory ≡ (walk quick (row_payments t) (accounts b l) m (slice i n q)).memory
  pub left : sets q₀ 0 o.queue ≡ sets q w (walk quick (row_payments t) (accounts b l) m (slice i n q)).queue
  pub stay : length o.queue ≡ w + length (walk quick (row_payments t) (accounts b l) m (slice i n q)).queue
  pub tries : sets r₀ k₀ o.tries ≡ sets r k (walk quick (row_payments t) (accounts b l) m (slice i n q)).tries
  pub tried : k₀ + length o.tries ≡ k + length (walk quick (row_payments t) (accounts b l) m (slice i n q)).tries

pub start : (quick : Bool) (l t : List ℕ) (n : ℕ) (q r : List ℕ) (k : ℕ) (b m : List ℕ) → Books b l → AllGood t (take n q) → length m ≡ 32 → n ≤ length q → k + n ≤ length r
    → Inv quick l t n (walk quick (row_payments t) (accounts b l) m (take n q)) q r k b m q r 0 0 k
start quick l t n q r k b m books good ml h g = record {
  i_le = omega arith;
  w_le = omega arith;
  k_le = omega arith;
  n_le = h;
  room = g;
  m_long = ml;
  q_long = refl;
  r_long = refl;
  books = books;
  good = good;
  after = refl;
  memory = refl;
  left = refl;
  stay = omega arith;
  tries = refl;
  tried = refl;
}

-- stores one after the other
pub sets_append : (l : List ℕ) (i : ℕ) (xs ys : List ℕ) → sets l i (xs ++ ys) ≡ sets (sets l i xs) (i + length xs) ys
sets_append l i [] ys = rw (add-zero i)
sets_append l i (x ∷ xs) ys = sets_append (set l i x) (suc i) xs ys ∙ ap (λ (n : ℕ). sets (sets (set l i x) (suc i) xs) n ys) (omega arith)

one_stay : (s : Step) (p : ℕ) → length (stays s p) ≤ 1
one_stay Omitted p = omega arith
one_stay Failed p = omega arith
one_stay Passed p = omega arith

-- a store below the part that is still to be read
slice_set : (q : List ℕ) (i n w v : ℕ) → w < i → w < n → slice i n (set q w v) ≡ slice i n q
slice_set q i n w v h k = ap (drop i) (take-set-lt n q w v k) ∙ drop-set-lt i (take n q) w v h

slice_stays : (s : Step) (p : ℕ) (q : List ℕ) (i n w : ℕ) → w < i → w < n → slice i n (sets q w (stays s p)) ≡ slice i n q
slice_stays Omitted p q i n w h k = slice_set q i n w p h k
slice_stays Failed p q i n w h k = slice_set q i n w p h k
slice_stays Passed p q i n w h k = refl

module _ (quick : Bool) (l t : List ℕ) (n : ℕ) (o : Outcome) (q₀ r₀ : List ℕ) (k₀ : ℕ) (b m q r : List ℕ) (i w k : ℕ) (inv : Inv quick l t n o q₀ r₀ k₀ b m q r i w k) (more : i < n) where
  cut_here : slice i n q ≡ get_or q i 0 ∷ slice (i + 1) n q
  cut_here = rw add-one (slice-cons i n q 0 more (omega (arith, inv.n_le, inv.q_long)))

  pub head_good : Good t (get_or q i 0)
  unfolding AllGood
  head_good = (rw cut_here at inv.good).0

  tail_good : AllGood t (slice (i + 1) n q)
  unfolding AllGood
  tail_good = (rw cut_here at inv.good).1

  -- what a note asks
  pub room_here : (get_or q i 0 < 32) × (w < length q) × (k < length r)
  room_here =
      (head_good.placed, omega (arith, inv.w_le, inv.n_le, inv.q_long), omega (arith, inv.k_le, inv.room, inv.r_long))

  module _ (s : Step) (b' m' : List ℕ) (told : turned s (accounts b' l) m' ≡ turn quick (row_payments t) (accounts b l) m (get_or q i 0)) where
    one : walk quick (row_payments t) (accounts b l) m (slice i n q) ≡ noted s (get_or q i 0) (walk quick (row_payments t) (accounts b' l) m' (slice (i + 1) n q))
    one = ap (walk quick (row_payments t) (accounts b l) m) cut_here ∙ walk_turn quick (row_payments t) (accounts b l) m (get_or q i 0) (slice (i + 1) n q) (sym told)

    books' : Books b' l
    books' = subst (λ (x : Turn). Books x.books.balances x.books.sublimits) (sym told) (turn_books quick t (accounts b l) m (get_or q i 0) inv.books head_good)

    m_long' : length m' ≡ 32
    m_long' = ap (λ (x : Turn). length x.memory) told ∙ turn_memory quick (row_payments t) (accounts b l) m (get_or q i 0) ∙ inv.m_long

    pub step : (q' : List ℕ) (w' : ℕ) (r' : List ℕ) (k' : ℕ) → Noted s (get_or q i 0) q w r k q' w' r' k' → Inv quick l t n o q₀ r₀ k₀ b' m' q' r' (i + 1) w' k'
    step q' w' r' k' d =
        let p : ℕ = get_or q i 0 in
        let v : Outcome = walk quick (row_payments t) (accounts b' l) m' (slice (i + 1) n q) in
        let f : slice (i + 1) n q' ≡ slice (i + 1) n q = ap (slice (i + 1) n) d.queue ∙ slice_stays s p q (i + 1) n w (omega (arith, inv.w_le)) (omega (arith, inv.w_le)) in
        record {
          i_le = omega arith;
          w_le = omega (arith, inv.w_le, d.kept, one_stay s p);
          k_le = omega (arith, inv.k_le, d.tries, one_try quick (row_payments t) s p);
          n_le = inv.n_le;
          room = inv.room;
          m_long = m_long';
          q_long = ap length d.queue ∙ length-sets q w (stays s p) ∙ inv.q_long;
          r_long = ap length d.row ∙ length-sets r k (try_of s p) ∙ inv.r_long;
          books = books';
          good = rw f tail_good;
          after = rw f (inv.after ∙ ap (λ (x : Outcome). x.books) one);
          memory = rw f (inv.memory ∙ ap (λ (x : Outcome). x.memory) one);
          left = rw (f, d.queue, d.kept) (inv.left ∙ ap (λ (x : Outcome). sets q w x.queue) one ∙ sets_append q w (stays s p) v.queue);
          stay = rw f (inv.stay ∙ ap (λ (x : Outcome). w + length x.queue) one ∙ omega (arith, d.kept, length-append (stays s p) v.queue));
          tries = rw (f, d.row, d.tries) (inv.tries ∙ ap (λ (x : Outcome). sets r k x.tries) one ∙ sets_append r k (try_of s p) v.tries);
          tried = rw f (inv.tried ∙ ap (λ (x : Outcome). k + length x.tries) one ∙ omega (arith, d.tries, length-append (try_of s p) v.tries));
        }

-- at the end nothing is left to do
pub finish : (quick : Bool) (l t : List ℕ) (n : ℕ) (o : Outcome) (q₀ r₀ : List ℕ) (k₀ : ℕ) (b m q r : List ℕ) (i w k : ℕ) → Inv quick l t n o q₀ r₀ k₀ b m q r i w k → n ≤ i
    → Walked o l q₀ r₀ k₀ b m q w r k
unfolding walk
finish quick l t n o q₀ r₀ k₀ b m q r i w k inv h =
    let e : i ≡ n = omega (arith, inv.i_le) in
    let f : slice i n q ≡ [] = rw e (slice_empty n q) in
    record {
      books = sym (rw f at inv.after);
      memory = sym (rw f at inv.memory);
      queue = sym (rw f at inv.left);
      kept = sym ((rw f at inv.stay) ∙ add-zero w);
      row = sym (rw f at inv.tries);
      tries = sym ((rw f at inv.tried) ∙ add-zero k);
    }
