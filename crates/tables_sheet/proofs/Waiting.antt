-- Sums over the batches that wait: place by place, and order by order.
use Prim.Native.Nat.{ℕ, zero, suc, ◌+◌, ◌*◌, ◌≤◌, ◌<◌}
use mathlib.Core.Path.{◌≡◌, refl, sym, ap, ◌∙◌}
use mathlib.Core.Bool.{cond}
use mathlib.Core.List.{List, [], ◌∷◌, ◌++◌, map}
use native.Mathlib.Nat.{suc-mul}
use native.Mathlib.Omega.{arith}
use lib.Dec.{eqb, ltb}
use lib.ListN.{get_or-eq_default}
use borrow.Author.Tests.{eqb-true, eqb-false, ne_eqb, ltb-true, ltb-false}
use Rattle.chars.specs.Words.{member}
use Rattle.settle.specs.Payments.{Payment, sum}
use Rattle.queue.specs.Promise.{All, taken, taken_by}
use Rattle.queue.proofs.Trail.{All-append}
use Rattle.queue.proofs.MemoryLaws.{by_bool}
use Rattle.model.specs.State.{free, Batches, State, place_at, payments_at}
use Rattle.model.specs.Messages.{waits}
use Rattle.model.specs.Rules.{WaitsAt, Valid}
use Rattle.model.proofs.Truth.{or_right}
use Rattle.model.proofs.Counting.{times, times_append, no_member, a_member, all_times, times_all}
use Rattle.model.proofs.Standing.{Stood, right, at_most_once}
use Rattle.model.proofs.Validity.{valid_kept}
use Rattle.tables.specs.Words.{waiting_by, total_of}
use Rattle.tables_sheet.specs.Sheet.{waiting_at}

-- ---- place by place

module _ (f : List Payment → ℕ) (nothing : f [] ≡ 0) (b : Batches) where
  one : (p : ℕ) → cond (waits b p) (f (payments_at b p)) 0 ≡ f (waiting_at b p)
  one p = by_bool (waits b p) (λ e. rw e) (λ e. rw e (sym nothing))

  pub waiting_next : (p n : ℕ) → waiting_by f b p (suc n) ≡ f (waiting_at b p) + waiting_by f b (p + 1) n
  unfolding waiting_by
  waiting_next p n = ap (λ (x : ℕ). x + waiting_by f b (p + 1) n) (one p)

  pub waiting_none : (p : ℕ) → waiting_by f b p 0 ≡ 0
  unfolding waiting_by
  waiting_none p = refl

  -- so much at the most at each place
  pub waiting_most : (m p n : ℕ) → ((q : ℕ) → q < p + n → f (waiting_at b q) ≤ m) → waiting_by f b p n ≤ n * m
  unfolding waiting_by
  waiting_most m p zero h = omega arith
  waiting_most m p (suc n) h = rw (waiting_next p n) (more (h p (omega arith)) (waiting_most m (p + 1) n (λ q k. h q (omega arith))))
    where
      more : {x y : ℕ} → x ≤ m → y ≤ n * m → x + y ≤ suc n * m
      more a c = rw (suc-mul n m) (omega arith)

-- ---- order by order

abbrev sums : (ℕ → ℕ) → (p n : ℕ) → ℕ
sums h p zero = 0
sums h p (suc n) = h p + sums h (p + 1) n

sums_same : (h k : ℕ → ℕ) (p n : ℕ) → ((q : ℕ) → h q ≡ k q) → sums h p n ≡ sums k p n
sums_same h k p zero e = refl
sums_same h k p (suc n) e = omega (arith, e p, sums_same h k (p + 1) n e)

sums_plus : (h k : ℕ → ℕ) (p n : ℕ) → sums (λ q. h q + k q) p n ≡ sums h p n + sums k p n
sums_plus h k p zero = refl
sums_plus h k p (suc n) = omega (arith, sums_plus h k (p + 1) n)

sums_none : (p n : ℕ) → sums (λ q. 0) p n ≡ 0
sums_none p zero = refl
sums_none p (suc n) = omega (arith, sums_none (p + 1) n)

module _ (g : ℕ → ℕ) where
  -- one place's share
  past_one : (x p n : ℕ) → x < p → sums (λ q. cond (eqb x q) (g q) 0) p n ≡ 0
  past_one x p zero h = refl
  past_one x p (suc n) h = rw (ne_eqb x p (λ e. omega arith)) (omega (arith, past_one x (p + 1) n (omega arith)))

  only_one : (x p n : ℕ) → p ≤ x → x < p + n → sums (λ q. cond (eqb x q) (g q) 0) p n ≡ g x
  only_one x p zero h k = absurd (omega arith)
  only_one x p (suc n) h k =
      by_bool (eqb x p)
      (λ e. let d : x ≡ p = eqb-true x p e in rw e (omega (arith, past_one x (p + 1) n (omega arith), ap g d)))
      (λ e. let d : x ≡ p → ⊥ = eqb-false x p e in rw e (omega (arith, only_one x (p + 1) n (omega arith) (omega arith))))

  -- a place's share for each time that it stands in a list
  abbrev share : List ℕ → ℕ → ℕ
  share [] q = 0
  share (x ∷ l) q = cond (eqb x q) (g q) 0 + share l q

  shares : (l : List ℕ) (n : ℕ) → All (λ q. q < n) l → sums (share l) 0 n ≡ sum (map g l)
  shares [] n a = sums_none 0 n
  shares (x ∷ l) n a =
      omega (arith, sums_plus (λ q. cond (eqb x q) (g q) 0) (share l) 0 n, only_one x 0 n (omega arith) (omega (arith, a.0)), shares l n a.1)

  share_none : (l : List ℕ) (q : ℕ) → times q l ≡ 0 → share l q ≡ 0
  unfolding times
  share_none [] q e = refl
  share_none (x ∷ l) q e =
      by_bool (eqb x q)
      (λ d. absurd (let z : 1 + times q l ≡ 0 = rw d at e in omega arith))
      (λ d. let z : 0 + times q l ≡ 0 = rw d at e in rw d (omega (arith, share_none l q (omega arith))))

  share_once : (l : List ℕ) (q : ℕ) → times q l ≡ 1 → share l q ≡ g q
  unfolding times
  share_once [] q e = absurd (omega arith)
  share_once (x ∷ l) q e =
      by_bool (eqb x q)
      (λ d. let z : 1 + times q l ≡ 1 = rw d at e in rw d (omega (arith, share_none l q (omega arith))))
      (λ d. let z : 0 + times q l ≡ 1 = rw d at e in rw d (omega (arith, share_once l q (omega arith))))

module _ (banks : ℕ) (b : Batches) (s : Stood banks b) where
  inside : (p : ℕ) → WaitsAt (place_at b p) → p < 32
  inside p w =
      by_bool (ltb p 32)
      (λ e. ltb-true p 32 e)
      (λ e.
      let z : place_at b p ≡ free = get_or-eq_default b.places free {n = p} (omega (arith, ltb-false p 32 e, s.long)) in
      absurd (rw z at w))

  orders_inside : All (λ p. p < 32) (b.pending ++ b.queue)
  orders_inside =
      let r = right banks b s in
      All-append (λ p. p < 32) b.pending b.queue
      (times_all (λ p. p < 32) b.pending (λ p h. inside p (all_times _ p b.pending r.waiting h).0))
      (times_all (λ p. p < 32) b.queue (λ p h. inside p (all_times _ p b.queue r.queued h)))

  module _ (f : List Payment → ℕ) where
    abbrev each : ℕ → ℕ
    each p = f (payments_at b p)

    waits_share : (q : ℕ) → cond (waits b q) (each q) 0 ≡ share each (b.pending ++ b.queue) q
    waits_share q = go (times q b.pending) (times q b.queue) refl refl
      where
        both : times q (b.pending ++ b.queue) ≡ times q b.pending + times q b.queue
        both = times_append q b.pending b.queue

        go : (i j : ℕ) → times q b.pending ≡ i → times q b.queue ≡ j → cond (waits b q) (each q) 0 ≡ share each (b.pending ++ b.queue) q
        go zero zero i j = rw (no_member q b.pending i, no_member q b.queue j) (sym (share_none each (b.pending ++ b.queue) q (omega (arith, both))))
        go zero (suc n) i j =
            let o : times q (b.pending ++ b.queue) ≡ 1 = omega (arith, both, at_most_once banks (s.each q)) in
            rw (or_right (member q b.pending) (member q b.queue) (a_member q b.queue (omega arith))) (sym (share_once each (b.pending ++ b.queue) q o))
        go (suc m) n i j =
            let o : times q (b.pending ++ b.queue) ≡ 1 = omega (arith, both, at_most_once banks (s.each q)) in
            rw (a_member q b.pending (omega arith)) (sym (share_once each (b.pending ++ b.queue) q o))

    by_places : (p n : ℕ) → waiting_by f b p n ≡ sums (λ q. cond (waits b q) (each q) 0) p n
    unfolding waiting_by
    by_places p zero = refl
    by_places p (suc n) = ap (λ (x : ℕ). cond (waits b p) (each p) 0 + x) (by_places (p + 1) n)

    -- "the sum over those batches": what waits, summed by places, is the sum over the pending and the queue
    pub waiting_sum : waiting_by f b 0 32 ≡ sum (map (λ p. f (payments_at b p)) (b.pending ++ b.queue))
    waiting_sum =
        by_places 0 32
        ∙ sums_same (λ q. cond (waits b q) (each q) 0) (share each (b.pending ++ b.queue)) 0 32 waits_share
        ∙ shares each (b.pending ++ b.queue) 32 orders_inside

taken_by_lem : (k : ℕ) (b : Batches) (l : List ℕ) → sum (map (λ p. taken k (payments_at b p)) l) ≡ taken_by k (map (payments_at b) l)
unfolding taken_by
taken_by_lem k b [] = refl
taken_by_lem k b (p ∷ l) = ap (λ (x : ℕ). taken k (payments_at b p) + x) (taken_by_lem k b l)

-- a bank's total in a state that keeps the rules: its debits in the pending and the queued batches
pub total_sum : (s : State) → Valid s → (k : ℕ) → total_of s.batches k ≡ taken_by k (map (payments_at s.batches) (s.batches.pending ++ s.batches.queue))
total_sum s v k =
    waiting_sum s.house.banks s.batches (valid_kept s v).batches (taken k)
    ∙ taken_by_lem k s.batches (s.batches.pending ++ s.batches.queue)
