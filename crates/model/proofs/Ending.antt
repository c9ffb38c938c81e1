-- The test answers each message of a batch that it settles; the close answers each message that is still live.
use Prim.Native.Nat.{ℕ, zero, suc, ◌+◌, ◌≤◌, ◌<◌}
use mathlib.Core.Path.{◌≡◌, refl, sym, ap, ◌∙◌}
use mathlib.Core.Bool.{Bool, true, false, ◌&&◌, ◌||◌, not, cond, false≢true}
use mathlib.Core.List.{List, [], ◌∷◌}
use native.Mathlib.Omega.{arith}
use lib.Dec.{eqb}
use lib.ListN.{get_or, set}
use lib.Seq.{get_or-set_other}
use borrow.Author.Tests.{eqb-true, eqb-false, eq-eqb}
use Rattle.codes.specs.declared.Code.{Code}
use Rattle.dates.specs.Dates.{is_remembered}
use Rattle.chars.specs.Refusals.{number_of}
use Rattle.chars.specs.declared.Refusal.TheVariants.{Unsettled}
use Rattle.response_write.specs.declared.Outcome.TheVariants.{Settled, Rejected}
use Rattle.queue.proofs.MemoryLaws.{by_bool}
use Rattle.codes.specs.Codes.{no_code}
use Rattle.model.specs.State.{at, nowhere, on_found, seek_from, same_code, has_bin, Day, Message, Batch, Place, free, live, Batches, Entry, place_at, place_messages, place_bin, batch_of}
use Rattle.model.specs.Replies.{Reply, replies_to}
use Rattle.model.specs.Ending.{emptied, settled_replies, close_replies}
use Rattle.model.specs.Rules.{is_bin, remembered, AllUnlike, has}
use Rattle.model.specs.Answered.{replied_to, times_in, references_of, awaiting_at}
use Rattle.model.proofs.Truth.{or_second, and_true}
use Rattle.model.proofs.Counting.{times, times_append}
use Rattle.model.proofs.Seeking.{seek_answers, by_found, not_found}
use Rattle.model.proofs.Standing.{emptied_on, emptied_off}
use Rattle.model.proofs.Noting.{same_sym}
use Rattle.model.proofs.Bins.{LiveWith}
use Rattle.model.proofs.Remembering.{same_code_lem}
use Rattle.model.proofs.Answering.{closed_at, closed_once}
use Rattle.model.proofs.Awaiting.{told, waits, among, told_append, told_batch, waits_freed}

-- ---- the test

pub settled_told : (x : Code) (d : Day) (b : Batches) (done : List ℕ) (ps : List Place) → ((p : ℕ) → times p done ≤ 1)
    → ((p : ℕ) → 0 < times p done → get_or ps p free ≡ place_at b p) → told x (settled_replies d b done) + waits x (emptied done ps) ≡ waits x ps
unfolding settled_replies emptied times replied_to times_in
settled_told x d b [] ps o h = omega arith
settled_told x d b (p ∷ done) ps o h =
    let e : get_or ps p free ≡ place_at b p = h p (rw (eq-eqb p p refl) (omega arith)) in
    let z : 1 + times p done ≤ 1 = rw (eq-eqb p p refl) at (o p) in
    let rs : List Reply = replies_to (place_messages (place_at b p)) (place_bin (place_at b p)) (Settled d.date d.clock) in
    omega (
      arith,
      told_append x rs (settled_replies d b done),
      told_batch x (place_messages (place_at b p)) (place_bin (place_at b p)) (Settled d.date d.clock),
      ap (λ (y : Place). among x y) e,
      waits_freed x ps p,
      settled_told x d b done (set ps p free) (λ q. omega (arith, o q))
          (λ q l. by_bool (eqb q p)
          (λ f. absurd (let y : times p done ≡ times q done = rw (eqb-true q p f) in omega arith))
          (λ f. get_or-set_other ps p q free free (eqb-false q p f) ∙ h q (omega arith))),
    )

-- ---- the close

-- where nothing is found nothing answers
seek_none : {A : Type 0} (is : A → Bool) (d : A) → is d ≡ false → (i : ℕ) (l : List A) (p : ℕ) → seek_from is i l ≡ nowhere → is (get_or l p d) ≡ false
unfolding seek_from
seek_none is d n i [] p h = n
seek_none is d n i (x ∷ l) zero h = by_bool (is x) (λ e. let g : nowhere ≡ at i = sym (rw e at h) in not_found g) (λ e. e)
seek_none is d n i (x ∷ l) (suc p) h =
    by_bool (is x) (λ e. let g : nowhere ≡ at i = sym (rw e at h) in not_found g) (λ e. seek_none is d n (i + 1) l p (rw e at h))

none_await : (x : Code) (ps : List Place) → ((p : ℕ) → get_or ps p free ≡ free) → waits x ps ≡ 0
unfolding awaiting_at references_of times_in
none_await x [] h = refl
none_await x (y ∷ ps) h = rw (h 0) (none_await x ps (λ p. h (suc p)))

module _ (d : Day) (now : ℕ) (b : Batches) (bins : (p : ℕ) (x : Batch) → place_at b p ≡ live x → is_bin x.bin ≡ true) (x : Code) where
  close_told : (es : List Entry) → told x (close_replies now b es) ≡ told x (settled_replies d b (closed_at now b es))
  unfolding close_replies settled_replies closed_at
  close_told [] = refl
  close_told (e ∷ es) =
      by_bool (is_remembered e.day now)
      (λ t.
      by_found (batch_of b e.code)
      (λ p f.
      let ms : List Message = place_messages (place_at b p) in
      rw (t, f) (omega (
        arith,
        told_append x (replies_to ms e.code (Rejected (number_of Unsettled))) (close_replies now b es),
        told_append x (replies_to ms (place_bin (place_at b p)) (Settled d.date d.clock)) (settled_replies d b (closed_at now b es)),
        told_batch x ms e.code (Rejected (number_of Unsettled)),
        told_batch x ms (place_bin (place_at b p)) (Settled d.date d.clock),
        close_told es,
      )))
      (λ f. rw (t, f) (close_told es)))
      (λ t. rw t (close_told es))

  module _ (h : (p q : ℕ) (c d : Code) → LiveWith (place_at b p) c → LiveWith (place_at b q) d → same_code c d ≡ true → p ≡ q) where
    -- the batch of a live BIN is at its place
    live_has : (c : Code) (y : Place) → has_bin c y ≡ true → LiveWith y c
    live_has c free e = absurd (false≢true e)
    live_has c (live z) e = same_code_lem z.bin c e

    has_live : (c : Code) (p : ℕ) (y : Batch) → place_at b p ≡ live y → same_code y.bin c ≡ true → has_bin c (place_at b p) ≡ true
    has_live c p y e s = rw e s

    found : (c : Code) (p : ℕ) (y : Batch) → place_at b p ≡ live y → same_code y.bin c ≡ true → batch_of b c ≡ at p
    found c p y e s =
        by_found (batch_of b c)
        (λ q f. f ∙ ap at (h q p c y.bin (live_has c (place_at b q) (seek_answers (has_bin c) free b.places q f).yes) (rw e refl) (same_sym c y.bin ∙ s)))
        (λ f. absurd (false≢true (sym (seek_none (has_bin c) free refl 0 b.places p f) ∙ has_live c p y e s)))

    -- each live batch whose BIN is remembered is ended
    closed_all : (p : ℕ) (y : Batch) → place_at b p ≡ live y → (es : List Entry) → has y.bin (remembered now es) ≡ true → 0 < times p (closed_at now b es)
    unfolding closed_at times
    closed_all p y e [] k = absurd (false≢true k)
    closed_all p y e (z ∷ es) k =
        let first : List ℕ = cond (is_remembered z.day now) (on_found (batch_of b z.code) [] (λ q. q ∷ [])) [] in
        by_bool (not (same_code z.code no_code) && is_remembered z.day now)
        (λ t.
        by_bool (same_code y.bin z.code)
        (λ m. rw ((and_true (not (same_code z.code no_code)) (is_remembered z.day now) t).1, found z.code p y e m, eq-eqb p p refl) (omega arith))
        (λ m.
        let g : (same_code y.bin z.code || has y.bin (remembered now es)) ≡ true = rw t at k in
        omega (arith, times_append p first (closed_at now b es), closed_all p y e es (or_second _ _ g m))))
        (λ t. omega (arith, times_append p first (closed_at now b es), closed_all p y e es (rw t at k)))

    all_ended : (es : List Entry) → ((p : ℕ) (y : Batch) → place_at b p ≡ live y → has y.bin (remembered now es) ≡ true)
        → (p : ℕ) → get_or (emptied (closed_at now b es) b.places) p free ≡ free
    all_ended es k p = go (place_at b p) refl (times p (closed_at now b es)) refl
      where
        go : (y : Place) → place_at b p ≡ y → (n : ℕ) → times p (closed_at now b es) ≡ n → get_or (emptied (closed_at now b es) b.places) p free ≡ free
        go free e zero f = emptied_off 0 (closed_at now b es) b.places p f ∙ e
        go (live y) e zero f = absurd (omega (arith, closed_all p y e es (k p y e)))
        go y e (suc n) f = emptied_on 0 (closed_at now b es) b.places p (omega arith)

    pub close_all_told : (es : List Entry) → AllUnlike (remembered now es) → ((p : ℕ) (y : Batch) → place_at b p ≡ live y → has y.bin (remembered now es) ≡ true)
        → told x (close_replies now b es) ≡ waits x b.places
    close_all_told es u k =
        omega (
          arith,
          close_told es,
          settled_told x d b (closed_at now b es) b.places (closed_once d now b bins es u) (λ p l. refl),
          none_await x (emptied (closed_at now b es) b.places) (all_ended es k),
        )
