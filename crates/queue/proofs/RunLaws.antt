-- The loop of a test: its invariant, and that a walk keeps it.
use mathlib.Core.Path.{◌≡◌, refl, sym, ap, subst, ◌∙◌}
use mathlib.Core.Bool.{Bool}
use mathlib.Core.List.{List, [], ◌∷◌, ◌++◌}
use Prim.Native.Nat.{ℕ, zero, suc, ◌+◌, ◌-◌, ◌≤◌, ◌<◌}
use native.Mathlib.Omega.{arith}
use native.Mathlib.Nat.{le_of_suc-le-suc}
use lib.ListN.{length, set, take, drop, length-append}
use lib.Seq.{sets, sets-eq, length-sets, length-take-le, take-append_seam, drop-set-lt}
use Rattle.settle.specs.Payments.{row_payments}
use Rattle.settle.specs.Settlement.{Accounts, accounts}
use Rattle.settle.specs.Rules.{Books, Good}
use Rattle.queue.specs.Tests.{Turn, Outcome, stays, joined, turn, walk, test, fuel}
use Rattle.queue.specs.Rows.{AllGood, most, Walked, Tested}
use Rattle.queue.specs.declared.Step.{Step}
use Rattle.queue.specs.declared.Step.TheVariants.{Omitted, Failed, Passed}
use Rattle.queue.proofs.Steps.{walk_count, walk_tries, walk_memory, test_stop, test_more, as_long, not_as_long}
use Rattle.queue.proofs.TurnLaws.{turn_books}
use Rattle.queue.proofs.WalkLaws.{sets_append}

pub most_le : (a b : ℕ) → a ≤ b → most a ≤ most b
unfolding most
most_le zero b h = omega arith
most_le (suc a) zero h = let z : ◌≡◌ {A = ℕ} 0 1 = omega arith in omega arith
most_le (suc a) (suc b) h = omega (arith, most_le a b (le_of_suc-le-suc h))

-- a shorter queue, after one walk
pub most_step : (w n : ℕ) → w < n → most w + n ≤ most n
unfolding most
most_step w zero h = let z : ◌≡◌ {A = ℕ} 0 1 = omega arith in omega arith
most_step w (suc n) h = omega (arith, most_le w n (le_of_suc-le-suc h))

pub most_self : (n : ℕ) → n ≤ most n
unfolding most
most_self zero = omega arith
most_self (suc n) = omega arith

take_sets : (l vs : List ℕ) → length vs ≤ length l → take (length vs) (sets l 0 vs) ≡ vs
take_sets l vs h = rw (sets-eq vs l 0 (omega arith)) (take-append_seam vs (drop (0 + length vs) l))

drop_sets : (l vs : List ℕ) (i n : ℕ) → i + length vs ≤ n → drop n (sets l i vs) ≡ drop n l
drop_sets l [] i n h = refl
drop_sets l (v ∷ vs) i n h = drop_sets (set l i v) vs (suc i) n (omega arith) ∙ drop-set-lt n l i v (omega arith)

-- a walk keeps the books, and what waits keeps the rules
stays_good : (t : List ℕ) (s : Step) (p : ℕ) (q : List ℕ) → Good t p → AllGood t q → AllGood t (stays s p ++ q)
unfolding AllGood
stays_good t Omitted p q g h = (g, h)
stays_good t Failed p q g h = (g, h)
stays_good t Passed p q g h = h

module _ (quick : Bool) (t : List ℕ) where
  walk_good : (a : Accounts) (m q : List ℕ) → AllGood t q → AllGood t (walk quick (row_payments t) a m q).queue
  unfolding walk AllGood
  walk_good a m [] g = tt
  walk_good a m (p ∷ q) g =
      let u : Turn = turn quick (row_payments t) a m p in
      stays_good t u.step p (walk quick (row_payments t) u.books u.memory q).queue g.0 (walk_good u.books u.memory q g.1)

  walk_books : (a : Accounts) (m q : List ℕ) → Books a.balances a.sublimits → AllGood t q
      → Books (walk quick (row_payments t) a m q).books.balances (walk quick (row_payments t) a m q).books.sublimits
  unfolding walk AllGood
  walk_books a m [] k g = k
  walk_books a m (p ∷ q) k g =
      let u : Turn = turn quick (row_payments t) a m p in
      walk_books u.books u.memory q (turn_books quick t a m p k g.0) g.1

-- what is left to do, done from here, gives what the whole test gives (o, from the rows q₀ and r₀)
pub record Inv (quick : Bool) (l t : List ℕ) (n : ℕ) (o : Outcome) (q₀ r₀ : List ℕ) (k₀ : ℕ) (b m q r : List ℕ) (left k : ℕ) : Type 0 where
  pub turns : ℕ
  pub enough : left < turns
  pub left_n : left ≤ n
  pub left_le : left ≤ length q
  pub room : k + most left ≤ length r
  pub m_long : length m ≡ 32
  pub q_long : length q ≡ length q₀
  pub r_long : length r ≡ length r₀
  pub books : Books b l
  pub good : AllGood t (take left q)
  pub rest : drop n q ≡ drop n q₀
  pub after : o.books ≡ (test quick (row_payments t) turns (accounts b l) m (take left q)).books
  pub memory : o.memory ≡ (test quick (row_payments t) turns (accounts b l) m (take left q)).memory
  pub stay : o.queue ≡ (test quick (row_payments t) turns (accounts b l) m (take left q)).queue
  pub tries : sets r₀ k₀ o.tries ≡ sets r k (test quick (row_payments t) turns (accounts b l) m (take left q)).tries
  pub tried : k₀ + length o.tries ≡ k + length (test quick (row_payments t) turns (accounts b l) m (take left q)).tries

pub start : (quick : Bool) (l t : List ℕ) (n : ℕ) (q r : List ℕ) (k : ℕ) (b m : List ℕ) → Books b l → AllGood t (take n q) → length m ≡ 32 → n ≤ length q → k + most n ≤ length r
    → Inv quick l t n (test quick (row_payments t) (fuel (take n q)) (accounts b l) m (take n q)) q r k b m q r n k
start quick l t n q r k b m books good ml h g = record {
  turns = fuel (take n q);
  enough = omega (arith, length-take-le n q h);
  left_n = omega arith;
  left_le = h;
  room = g;
  m_long = ml;
  q_long = refl;
  r_long = refl;
  books = books;
  good = good;
  rest = refl;
  after = refl;
  memory = refl;
  stay = refl;
  tries = refl;
  tried = refl;
}

module _ (quick : Bool) (l t : List ℕ) (n : ℕ) (o : Outcome) (q₀ r₀ : List ℕ) (k₀ : ℕ) (b m q r : List ℕ) (left k : ℕ) (inv : Inv quick l t n o q₀ r₀ k₀ b m q r left k) where
  pub room_now : k + left ≤ length r
  room_now = omega (arith, inv.room, most_self left)

  long : length (take left q) ≡ left
  long = length-take-le left q inv.left_le

  more : inv.turns ≡ suc (inv.turns - 1)
  more = omega (arith, inv.enough)

  module _ (b' m' q' : List ℕ) (w' : ℕ) (r' : List ℕ) (k' : ℕ) (d : Walked (walk quick (row_payments t) (accounts b l) m (take left q)) l q r k b' m' q' w' r' k') where
    count : length (walk quick (row_payments t) (accounts b l) m (take left q)).queue ≤ left
    count = omega (arith, walk_count quick (row_payments t) (accounts b l) m (take left q), long)

    pub kept_le : w' ≤ left
    kept_le = omega (arith, d.kept, count)

    take_kept : take w' q' ≡ (walk quick (row_payments t) (accounts b l) m (take left q)).queue
    take_kept = rw (d.kept, d.queue) (take_sets q _ (omega (arith, inv.left_le, count)))

    rest' : drop n q' ≡ drop n q₀
    rest' = ap (drop n) d.queue ∙ drop_sets q (walk quick (row_payments t) (accounts b l) m (take left q)).queue 0 n (omega (arith, inv.left_n, count)) ∙ inv.rest

    -- the last walk
    last : w' ≡ left → test quick (row_payments t) inv.turns (accounts b l) m (take left q) ≡ walk quick (row_payments t) (accounts b l) m (take left q)
    last e =
        ap (λ (f : ℕ). test quick (row_payments t) f (accounts b l) m (take left q)) more
        ∙ test_stop quick (row_payments t) (inv.turns - 1) (accounts b l) m (take left q)
        (as_long quick (row_payments t) (accounts b l) m (take left q) (omega (arith, d.kept, long)))

    pub ended : w' ≡ left → Tested o l q₀ n r₀ k₀ b' m' q' w' r' k'
    ended e =
        let p = last e in
        let s = inv.stay ∙ ap (λ (x : Outcome). x.queue) p in
        record {
          books = d.books ∙ sym (inv.after ∙ ap (λ (x : Outcome). x.books) p);
          memory = d.memory ∙ sym (inv.memory ∙ ap (λ (x : Outcome). x.memory) p);
          queue = take_kept ∙ sym s;
          rest = rest';
          kept = d.kept ∙ ap length (sym s);
          row = d.row ∙ sym (inv.tries ∙ ap (λ (x : Outcome). sets r k x.tries) p);
          tries = d.tries ∙ sym (inv.tried ∙ ap (λ (x : Outcome). k + length x.tries) p);
        }

    -- another walk
    next : (w' ≡ left → ⊥) → test quick (row_payments t) inv.turns (accounts b l) m (take left q)
        ≡ joined (walk quick (row_payments t) (accounts b l) m (take left q)) (test quick (row_payments t) (inv.turns - 1) (accounts b' l) m' (take w' q'))
    next e =
        ap (λ (f : ℕ). test quick (row_payments t) f (accounts b l) m (take left q)) more
        ∙ test_more quick (row_payments t) (inv.turns - 1) (accounts b l) m (take left q)
        (not_as_long quick (row_payments t) (accounts b l) m (take left q) (λ g. e (omega (arith, g, d.kept, long))))
        ∙ rw (d.books, d.memory, take_kept)

    pub turn_on : (w' ≡ left → ⊥) → Inv quick l t n o q₀ r₀ k₀ b' m' q' r' w' k'
    turn_on e =
        let p = next e in
        let w : Outcome = walk quick (row_payments t) (accounts b l) m (take left q) in
        let v : Outcome = test quick (row_payments t) (inv.turns - 1) (accounts b' l) m' (take w' q') in
        record {
          turns = inv.turns - 1;
          enough = omega (arith, inv.enough, kept_le, e);
          left_n = omega (arith, kept_le, inv.left_n);
          left_le = rw (d.queue, length-sets) (omega (arith, kept_le, inv.left_le));
          room = rw (d.row, length-sets) (omega (arith, inv.room, d.tries, walk_tries quick (row_payments t) (accounts b l) m (take left q), long, most_step w' left (omega (arith, kept_le, e))));
          m_long = ap length d.memory ∙ walk_memory quick (row_payments t) (accounts b l) m (take left q) ∙ inv.m_long;
          q_long = ap length d.queue ∙ length-sets q 0 w.queue ∙ inv.q_long;
          r_long = ap length d.row ∙ length-sets r k w.tries ∙ inv.r_long;
          books = subst (λ (x : Accounts). Books x.balances x.sublimits) (sym d.books) (walk_books quick t (accounts b l) m (take left q) inv.books inv.good);
          good = rw take_kept (walk_good quick t (accounts b l) m (take left q) inv.good);
          rest = rest';
          after = inv.after ∙ ap (λ (x : Outcome). x.books) p;
          memory = inv.memory ∙ ap (λ (x : Outcome). x.memory) p;
          stay = inv.stay ∙ ap (λ (x : Outcome). x.queue) p;
          tries = inv.tries ∙ ap (λ (x : Outcome). sets r k x.tries) p ∙ sets_append r k w.tries v.tries ∙ rw (d.row, d.tries);
          tried = inv.tried ∙ ap (λ (x : Outcome). k + length x.tries) p ∙ omega (arith, d.tries, length-append w.tries v.tries);
        }
