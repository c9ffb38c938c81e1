-- The rules of the batch places, place by place: what stands there, and how often the place is pending and queued.
use Prim.Native.Nat.{ℕ, zero, suc, ◌+◌, ◌≤◌, ◌<◌}
use mathlib.Core.Path.{◌≡◌, refl, sym, ap, subst, ◌∙◌}
use mathlib.Core.Bool.{Bool, true, false, ◌||◌, not, false≢true}
use mathlib.Core.List.{List, [], ◌∷◌, ◌++◌}
use native.Mathlib.Omega.{arith}
use lib.Dec.{eqb}
use lib.ListN.{length, get_or, set, replicate, length-set}
use lib.Seq.{get_or-set_other, get_or-set_same}
use borrow.Author.Tests.{eqb-true, eqb-false}
use Rattle.chars.specs.Words.{member}
use Rattle.queue.proofs.MemoryLaws.{by_bool}
use Rattle.request_read.specs.declared.terms.Activation.{Activation}
use Rattle.request_read.specs.declared.terms.Activation.TheVariants.{AtOnce, Minute}
use Rattle.request_read.specs.declared.whole.Reading.{Reading}
use Rattle.book_read.specs.Range.{Each}
use Rattle.model.specs.State.{Batch, Place, free, live, Batches, State, place_at, with_place, no_batches}
use Rattle.model.specs.Joining.{keep, by_time, time, is_due, join}
use Rattle.model.specs.Messages.{ended, to_tail, may_queue}
use Rattle.model.specs.Ending.{emptied, after_test}
use Rattle.model.specs.Rules.{RightPlace, RightBatch, RightBatches, Complete, Given, WaitsAt, Timed, Assembled}
use Rattle.model.proofs.Truth.{or_right}
use Rattle.model.proofs.Counting.{times, times_append, times_last, times_other, times_kept, times_left_out, times_parted, times_by_time, once_times, times_once, no_member, a_member, all_times, times_all, at_most}

module _ (banks : ℕ) where
  -- nothing; a batch that is being assembled; one that waits for its minute; a queued one
  pub data Standing : Place → (pending queued : ℕ) → Type 0 where
    vacant : Standing free 0 0
    building : {b : Batch} → RightBatch banks b → length b.messages < b.count → Standing (live b) 0 0
    awaits : {b : Batch} → RightBatch banks b → Complete b → Given b.activation → Standing (live b) 1 0
    stands : {b : Batch} → RightBatch banks b → Complete b → Standing (live b) 0 1

  abbrev pub StandsAt : Batches → ℕ → Type 0
  StandsAt b p = Standing (place_at b p) (times p b.pending) (times p b.queue)

  pub record Stood (b : Batches) : Type 0 where
    pub long : length b.places ≡ 32
    pub each : (p : ℕ) → StandsAt b p

  -- ---- from the rules, and back

  standing : (x : Place) (m n : ℕ) → RightPlace banks x → m + n ≤ 1 → (0 < n → WaitsAt x) → (0 < m → WaitsAt x × Timed x) → (m ≡ 0 → n ≡ 0 → Assembled x false)
      → Standing x m n
  standing free zero zero r o q w a = vacant
  standing free zero (suc n) r o q w a = absurd (q (omega arith))
  standing free (suc m) n r o q w a = absurd (w (omega arith)).0
  standing (live b) zero zero r o q w a = building r (a refl refl)
  standing (live b) zero (suc zero) r o q w a = stands r (q (omega arith))
  standing (live b) zero (suc (suc n)) r o q w a = absurd (omega arith)
  standing (live b) (suc zero) zero r o q w a = let h = w (omega arith) in awaits r h.0 h.1
  standing (live b) (suc zero) (suc n) r o q w a = absurd (omega arith)
  standing (live b) (suc (suc m)) n r o q w a = absurd (omega arith)

  each_at : (ps : List Place) (p : ℕ) → Each (RightPlace banks) ps → RightPlace banks (get_or ps p free)
  each_at [] p h = tt
  each_at (x ∷ ps) zero h = h.0
  each_at (x ∷ ps) (suc p) h = each_at ps p h.1

  at_each : (ps : List Place) → ((p : ℕ) → RightPlace banks (get_or ps p free)) → Each (RightPlace banks) ps
  at_each [] h = tt
  at_each (x ∷ ps) h = (h 0, at_each ps (λ p. h (suc p)))

  none_there : (b : Batches) (p : ℕ) → times p b.pending ≡ 0 → times p b.queue ≡ 0 → (member p b.pending || member p b.queue) ≡ false
  none_there b p m n = rw (no_member p b.pending m, no_member p b.queue n)

  some_there : (b : Batches) (p : ℕ) → 0 < times p b.pending + times p b.queue → (member p b.pending || member p b.queue) ≡ true
  some_there b p h = go (times p b.pending) refl
    where
      go : (m : ℕ) → times p b.pending ≡ m → (member p b.pending || member p b.queue) ≡ true
      go zero e = or_right (member p b.pending) (member p b.queue) (a_member p b.queue (omega arith))
      go (suc m) e = rw (a_member p b.pending (omega arith))

  pub stood : (b : Batches) → RightBatches banks b → Stood b
  stood b h = record {
    long = h.long;
    each = λ p.
        standing (place_at b p) (times p b.pending) (times p b.queue)
        (each_at b.places p h.places)
        (omega (arith, times_append p b.queue b.pending, once_times p (b.queue ++ b.pending) h.queue_once))
        (all_times (λ q. WaitsAt (place_at b q)) p b.queue h.queued)
        (all_times (λ q. WaitsAt (place_at b q) × Timed (place_at b q)) p b.pending h.waiting)
        (λ m n. subst (λ (t : Bool). Assembled (place_at b p) t) (none_there b p m n) (h.assembling p));
  }

  right_place : {x : Place} {m n : ℕ} → Standing x m n → RightPlace banks x
  right_place vacant = tt
  right_place (building r l) = r
  right_place (awaits r c g) = r
  right_place (stands r c) = r

  pub at_most_once : {x : Place} {m n : ℕ} → Standing x m n → n + m ≤ 1
  at_most_once vacant = omega arith
  at_most_once (building r l) = omega arith
  at_most_once (awaits r c g) = omega arith
  at_most_once (stands r c) = omega arith

  queued_waits : {x : Place} {m n : ℕ} → Standing x m n → 0 < n → WaitsAt x
  queued_waits vacant h = absurd (omega arith)
  queued_waits (building r l) h = absurd (omega arith)
  queued_waits (awaits r c g) h = absurd (omega arith)
  queued_waits (stands r c) h = c

  pending_waits : {x : Place} {m n : ℕ} → Standing x m n → 0 < m → WaitsAt x × Timed x
  pending_waits vacant h = absurd (omega arith)
  pending_waits (building r l) h = absurd (omega arith)
  pending_waits (awaits r c g) h = (c, g)
  pending_waits (stands r c) h = absurd (omega arith)

  assembled : {x : Place} {m n : ℕ} (w : Bool) → Standing x m n → (m ≡ 0 → n ≡ 0 → w ≡ false) → (0 < m + n → w ≡ true) → Assembled x w
  assembled w vacant f t = f refl refl
  assembled w (building r l) f t = rw (f refl refl) l
  assembled w (awaits r c g) f t = rw (t (omega arith)) tt
  assembled w (stands r c) f t = rw (t (omega arith)) tt

  pub right : (b : Batches) → Stood b → RightBatches banks b
  right b h = record {
    long = h.long;
    places = at_each b.places (λ p. right_place (h.each p));
    queue_once = times_once (b.queue ++ b.pending) (λ p. rw (times_append p b.queue b.pending) (at_most_once (h.each p)));
    queued = times_all (λ p. WaitsAt (place_at b p)) b.queue (λ p. queued_waits (h.each p));
    waiting = times_all (λ p. WaitsAt (place_at b p) × Timed (place_at b p)) b.pending (λ p. pending_waits (h.each p));
    assembling = λ p. assembled (member p b.pending || member p b.queue) (h.each p) (none_there b p) (some_there b p);
  }

  -- ---- (b) joining

  joined : {x : Place} {m n : ℕ} (m' n' : ℕ) → Standing x m n → m' + n' ≡ m + n → n ≤ n' → Standing x m' n'
  joined zero zero vacant e l = vacant
  joined zero (suc n) vacant e l = absurd (omega arith)
  joined (suc m) n vacant e l = absurd (omega arith)
  joined zero zero (building r c) e l = building r c
  joined zero (suc n) (building r c) e l = absurd (omega arith)
  joined (suc m) n (building r c) e l = absurd (omega arith)
  joined zero zero (awaits r c g) e l = absurd (omega arith)
  joined zero (suc zero) (awaits r c g) e l = stands r c
  joined zero (suc (suc n)) (awaits r c g) e l = absurd (omega arith)
  joined (suc zero) zero (awaits r c g) e l = awaits r c g
  joined (suc zero) (suc n) (awaits r c g) e l = absurd (omega arith)
  joined (suc (suc m)) n (awaits r c g) e l = absurd (omega arith)
  joined zero zero (stands r c) e l = absurd (omega arith)
  joined zero (suc zero) (stands r c) e l = stands r c
  joined zero (suc (suc n)) (stands r c) e l = absurd (omega arith)
  joined (suc m) n (stands r c) e l = absurd (omega arith)

  pub join_stood : (clock : ℕ) (b : Batches) → Stood b → Stood (join clock b)
  unfolding join times
  join_stood clock b h = record {
    long = h.long;
    each = λ p.
        let due : List ℕ = keep (is_due clock b) b.pending in
        joined (times p (keep (λ q. not (is_due clock b q)) b.pending)) (times p (b.queue ++ by_time (time clock b) [] due)) (h.each p)
        (omega (arith, times_parted (is_due clock b) p b.pending, times_append p b.queue (by_time (time clock b) [] due), times_by_time (time clock b) p [] due))
        (omega (arith, times_append p b.queue (by_time (time clock b) [] due)));
  }

  -- ---- a place that is emptied or filled

  pub alike : {x y : Place} {m n m' n' : ℕ} → y ≡ x → m' ≡ m → n' ≡ n → Standing x m n → Standing y m' n'
  alike e f g h = rw (e, f, g) h

  emptied_there : (ps : List Place) (p : ℕ) → get_or (set ps p free) p free ≡ free
  emptied_there [] p = refl
  emptied_there (x ∷ ps) zero = refl
  emptied_there (x ∷ ps) (suc p) = emptied_there ps p

  -- all but one place keep the rules, and that one neither waits nor is queued
  pub record Around (b : Batches) (p : ℕ) : Type 0 where
    pub long : length b.places ≡ 32
    pub inside : p < 32
    pub beside : (q : ℕ) → (q ≡ p → ⊥) → StandsAt b q
    pub unheld : times p b.pending ≡ 0
    pub unqueued : times p b.queue ≡ 0

  abbrev but : ℕ → ℕ → Bool
  but p q = not (eqb q p)

  pub ended_stood : (b : Batches) (p : ℕ) → length b.places ≡ 32 → ((q : ℕ) → (q ≡ p → ⊥) → StandsAt b q) → Stood (ended b p)
  unfolding ended
  ended_stood b p l h = record {
    long = length-set b.places p free ∙ l;
    each = λ q.
        by_bool (eqb q p)
        (λ e. alike (rw (eqb-true q p e) (emptied_there b.places p)) (times_left_out (but p) q b.pending (ap not e)) (times_left_out (but p) q b.queue (ap not e)) vacant)
        (λ e.
        alike (get_or-set_other b.places p q free free (eqb-false q p e)) (times_kept (but p) q b.pending (ap not e)) (times_kept (but p) q b.queue (ap not e))
        (h q (eqb-false q p e)));
  }

  module _ (b : Batches) (p : ℕ) (h : Around b p) (x : Batch) (r : RightBatch banks x) where
    filled_there : (q : ℕ) → q ≡ p → get_or (set b.places p (live x)) q free ≡ live x
    filled_there q e = rw e (get_or-set_same b.places p (live x) free (omega (arith, h.long, h.inside)))

    filled_beside : (q : ℕ) → (q ≡ p → ⊥) → get_or (set b.places p (live x)) q free ≡ place_at b q
    filled_beside q n = get_or-set_other b.places p q (live x) free n

    -- a batch that is not complete yet
    pub put_stood : length x.messages < x.count → Stood (with_place b p (live x))
    put_stood l = record {
      long = length-set b.places p (live x) ∙ h.long;
      each = λ q.
          by_bool (eqb q p)
          (λ e. let d : q ≡ p = eqb-true q p e in alike (filled_there q d) (rw d h.unheld) (rw d h.unqueued) (building r l))
          (λ e. alike (filled_beside q (eqb-false q p e)) refl refl (h.beside q (eqb-false q p e)));
    }

    -- one that joins the queue's tail
    queue_stood : Complete x → Stood (record { places = set b.places p (live x); pending = b.pending; queue = b.queue ++ (p ∷ []) })
    queue_stood c = record {
      long = length-set b.places p (live x) ∙ h.long;
      each = λ q.
          by_bool (eqb q p)
          (λ e. let d : q ≡ p = eqb-true q p e in alike (filled_there q d) (rw d h.unheld) (rw d (times_last p b.queue ∙ rw h.unqueued)) (stands r c))
          (λ e. let n : q ≡ p → ⊥ = eqb-false q p e in alike (filled_beside q n) refl (times_other q p b.queue n) (h.beside q n));
    }

    -- one that waits for its minute
    pending_stood : Complete x → Given x.activation → Stood (record { places = set b.places p (live x); pending = b.pending ++ (p ∷ []); queue = b.queue })
    pending_stood c g = record {
      long = length-set b.places p (live x) ∙ h.long;
      each = λ q.
          by_bool (eqb q p)
          (λ e. let d : q ≡ p = eqb-true q p e in alike (filled_there q d) (rw d (times_last p b.pending ∙ rw h.unheld)) (rw d h.unqueued) (awaits r c g))
          (λ e. let n : q ≡ p → ⊥ = eqb-false q p e in alike (filled_beside q n) (times_other q p b.pending n) refl (h.beside q n));
    }

    given : (s : State) (t : Reading) (a : Activation) → may_queue s t a ≡ false → Given a
    given s t AtOnce e = false≢true (sym e)
    given s t (Minute m) e = tt

    pub tail_stood : (s : State) (t : Reading) → Complete x → Stood (to_tail s t b x p)
    tail_stood s t c =
        by_bool (may_queue s t x.activation)
        (λ e. rw e (queue_stood c))
        (λ e. rw e (pending_stood c (given s t x.activation e)))

  -- ---- what a test leaves

  pub free_stood : Stood no_batches
  unfolding times
  free_stood = record { long = refl; each = λ p. alike (all_free 32 p) refl refl vacant }
    where
      all_free : (n p : ℕ) → get_or (replicate n free) p free ≡ free
      all_free zero p = refl
      all_free (suc n) zero = refl
      all_free (suc n) (suc p) = all_free n p

  pub emptied_off : (done : List ℕ) (ps : List Place) (p : ℕ) → times p done ≡ 0 → get_or (emptied done ps) p free ≡ get_or ps p free
  unfolding emptied times
  emptied_off [] ps p e = refl
  emptied_off (q ∷ done) ps p e =
      by_bool (eqb q p)
      (λ f. absurd (let g : 1 + times p done ≡ 0 = rw f at e in omega arith))
      (λ f. let g : 0 + times p done ≡ 0 = rw f at e in emptied_off done (set ps q free) p (omega arith) ∙ get_or-set_other ps q p free free (λ d. eqb-false q p f (sym d)))

  stays_free : (done : List ℕ) (ps : List Place) (p : ℕ) → get_or ps p free ≡ free → get_or (emptied done ps) p free ≡ free
  unfolding emptied
  stays_free [] ps p e = e
  stays_free (q ∷ done) ps p e =
      stays_free done (set ps q free) p
      (by_bool (eqb p q) (λ f. rw (eqb-true p q f) (emptied_there ps q)) (λ f. get_or-set_other ps q p free free (eqb-false p q f) ∙ e))

  pub emptied_on : (done : List ℕ) (ps : List Place) (p : ℕ) → 0 < times p done → get_or (emptied done ps) p free ≡ free
  unfolding emptied times
  emptied_on [] ps p h = absurd (omega arith)
  emptied_on (q ∷ done) ps p h =
      by_bool (eqb q p)
      (λ f. let d : q ≡ p = eqb-true q p f in stays_free done (set ps q free) p (rw d (emptied_there ps p)))
      (λ f. let g : 0 < 0 + times p done = rw f at h in emptied_on done (set ps q free) p (omega arith))

  pub emptied_long : (done : List ℕ) (ps : List Place) → length (emptied done ps) ≡ length ps
  unfolding emptied
  emptied_long [] ps = refl
  emptied_long (q ∷ done) ps = emptied_long done (set ps q free) ∙ length-set ps q free

  -- a queued place is left in the queue, or its batch is settled and the place emptied
  parted : {x : Place} {m n : ℕ} (y : Place) (n' d : ℕ) → Standing x m n → n' + d ≡ n → (d ≡ 0 → y ≡ x) → (0 < d → y ≡ free) → Standing y m n'
  parted {n = n} y n' zero s e f g = alike (f refl) refl (let z : n' ≡ n = omega arith in z) s
  parted y n' (suc d) vacant e f g = absurd (omega arith)
  parted y n' (suc d) (building r l) e f g = absurd (omega arith)
  parted y n' (suc d) (awaits r c v) e f g = absurd (omega arith)
  parted y n' (suc d) (stands r c) e f g = alike (g (omega arith)) refl (let z : n' ≡ 0 = omega arith in z) vacant

  pub test_stood : (b : Batches) (queue done : List ℕ) → Stood b → ((p : ℕ) → times p queue + times p done ≡ times p b.queue) → Stood (after_test b queue done)
  unfolding after_test
  test_stood b queue done h e = record {
    long = emptied_long done b.places ∙ h.long;
    each = λ p.
        parted (get_or (emptied done b.places) p free) (times p queue) (times p done) (h.each p) (e p) (emptied_off done b.places p) (emptied_on done b.places p);
  }

  -- ---- "32 live batches": no more are queued

  past_free : (ps : List Place) (p : ℕ) → length ps ≤ p → get_or ps p free ≡ free
  past_free [] p h = refl
  past_free (x ∷ ps) zero h = absurd (omega arith)
  past_free (x ∷ ps) (suc p) h = past_free ps p (omega arith)

  unqueued : {x : Place} {m n : ℕ} → x ≡ free → Standing x m n → n ≡ 0
  unqueued e vacant = refl
  unqueued e (building r l) = refl
  unqueued e (awaits r c g) = refl
  unqueued e (stands r c) = let z : ◌≡◌ {A = ℕ} 0 1 = cc in absurd (omega arith)

  pub few_queued : (b : Batches) → Stood b → length b.queue ≤ 32
  few_queued b h =
      at_most 32 b.queue
      (λ p. omega (arith, at_most_once (h.each p)))
      (λ p l. unqueued (past_free b.places p (omega (arith, h.long))) (h.each p))
