-- The memory is the history: a batch is omitted exactly by document 01's rule, said of the events since its last try.
use mathlib.Core.Path.{◌≡◌, refl, sym, ap, subst, ◌∙◌}
use mathlib.Core.Bool.{Bool, true, false, ◌&&◌, ◌||◌, false≢true}
use mathlib.Core.List.{List, [], ◌∷◌, ◌++◌, map, append_assoc, append-nil}
use Prim.Native.Nat.{ℕ, zero, suc, ◌+◌, ◌*◌, ◌/◌, ◌%◌, ◌<◌}
use native.Mathlib.Omega.{arith}
use lib.Dec.{eqb, ltb}
use lib.ListN.{length, get_or, set, length-set, length-map, get_or-map}
use lib.Seq.{get_or-set_other, get_or-set_same}
use borrow.Author.Tests.{eqb-true, eqb-false, eq-eqb, ne_eqb, lt-ltb}
use Rattle.settle.specs.Payments.{Payment}
use Rattle.settle.specs.Settlement.{Accounts, verdict}
use Rattle.settle.specs.declared.Verdict.TheVariants.{Passes, Stops}
use Rattle.queue.specs.Memory.{credited, wake, forgotten}
use Rattle.queue.specs.Tests.{Outcome, noted, some, omits, remember, settle, walk, test}
use Rattle.queue.specs.Promise.{All}
use Rattle.queue.specs.History.{Event, failed, settled_batch, sublimit_changed, changed, Omits, last, past, after_event, replay, ended_events, happened, step_in, books_after, tried_events, Due, Tries, stops, again, omitted, fails, passes}
use Rattle.queue.specs.declared.Step.TheVariants.{Omitted, Failed, Passed}
use Rattle.queue.proofs.MemoryLaws.{by_bool, wake_yes, wake_no}
use Rattle.queue.proofs.Steps.{by_turn, walk_turn, test_stop, test_more, shorter}
use Rattle.queue.proofs.Agree.{forgets}
use Rattle.queue.proofs.Trail.{walk_each}

zero≢suc : {X : Type 0} {k : ℕ} → ◌≡◌ {A = ℕ} 0 (suc k) → X
zero≢suc e = absurd (omega arith)

pub replay_length : (es : List Event) (m : List ℕ) → length (replay es m) ≡ length m
unfolding replay after_event
replay_length [] m = refl
replay_length (failed p k ∷ es) m = length-set (replay es m) p (suc k) ∙ replay_length es m
replay_length (settled_batch ps ∷ es) m = length-map (replay es m) (wake (credited ps)) ∙ replay_length es m
replay_length (sublimit_changed k ∷ es) m = length-map (replay es m) (wake (eqb k)) ∙ replay_length es m
replay_length (changed p ∷ es) m = length-set (replay es m) p 0 ∙ replay_length es m

map_wake : (f : ℕ → Bool) (m : List ℕ) (p : ℕ) → get_or (map (wake f) m) p 0 ≡ wake f (get_or m p 0)
unfolding wake
map_wake f m p = get_or-map (wake f) m p 0

wake_held : (f : ℕ → Bool) (x k : ℕ) → wake f x ≡ suc k → (x ≡ suc k) × (f k ≡ false)
unfolding wake
wake_held f zero k e = zero≢suc e
wake_held f (suc j) k e =
    by_bool (f j)
    (λ t. zero≢suc (sym (wake_yes f j t) ∙ e))
    (λ t. let q : suc j ≡ suc k = sym (wake_no f j t) ∙ e in let h : j ≡ k = omega arith in (q, (rw h at t)))

set_hit : (l : List ℕ) (p v k : ℕ) → get_or (set l p v) p 0 ≡ suc k → v ≡ suc k
set_hit [] p v k e = zero≢suc e
set_hit (y ∷ l) zero v k e = e
set_hit (y ∷ l) (suc p) v k e = set_hit l p v k e

-- the memory says what the rule says
omits_in : {p k : ℕ} (es : List Event) (m : List ℕ) → ((x : ℕ) → get_or m x 0 ≡ 0) → get_or (replay es m) p 0 ≡ suc k → Omits p k es
unfolding replay after_event
omits_in {p} {k} [] m z e = zero≢suc (sym (z p) ∙ e)
omits_in {p} {k} (failed x j ∷ es) m z e =
    by_bool (eqb p x)
    (λ t. let h : suc j ≡ suc k = set_hit (replay es m) x (suc j) k (rw (eqb-true p x t) at e) in let i : j ≡ k = omega arith in rw (eqb-true p x t, ← i) last)
    (λ t. past (λ q. eqb-false p x t (sym q)) (omits_in es m z (sym (get_or-set_other (replay es m) x p (suc j) 0 (eqb-false p x t)) ∙ e)))
omits_in {p} {k} (settled_batch ps ∷ es) m z e =
    let h = wake_held (credited ps) (get_or (replay es m) p 0) k (sym (map_wake (credited ps) (replay es m) p) ∙ e) in past h.1 (omits_in es m z h.0)
omits_in {p} {k} (sublimit_changed j ∷ es) m z e =
    let h = wake_held (eqb j) (get_or (replay es m) p 0) k (sym (map_wake (eqb j) (replay es m) p) ∙ e) in past (eqb-false j k h.1) (omits_in es m z h.0)
omits_in {p} {k} (changed x ∷ es) m z e =
    by_bool (eqb p x)
    (λ t. zero≢suc (sym (forgets (replay es m) x) ∙ (rw (eqb-true p x t) at e)))
    (λ t. past (λ q. eqb-false p x t (sym q)) (omits_in es m z (sym (get_or-set_other (replay es m) x p 0 0 (eqb-false p x t)) ∙ e)))

omits_out : {p k : ℕ} {es : List Event} (m : List ℕ) → p < length m → Omits p k es → get_or (replay es m) p 0 ≡ suc k
unfolding replay after_event
omits_out {p} {k} m l (last {es = es}) = get_or-set_same (replay es m) p (suc k) 0 (rw (replay_length es m) l)
omits_out {p} m l (past {e = failed x j} {es = es} s o) = get_or-set_other (replay es m) x p (suc j) 0 (λ q. s (sym q)) ∙ omits_out m l o
omits_out {p} {k} m l (past {e = settled_batch ps} {es = es} s o) = map_wake (credited ps) (replay es m) p ∙ ap (wake (credited ps)) (omits_out m l o) ∙ wake_no (credited ps) k s
omits_out {p} {k} m l (past {e = sublimit_changed j} {es = es} s o) = map_wake (eqb j) (replay es m) p ∙ ap (wake (eqb j)) (omits_out m l o) ∙ wake_no (eqb j) k (ne_eqb j k s)
omits_out {p} m l (past {e = changed x} {es = es} s o) = get_or-set_other (replay es m) x p 0 0 (λ q. s (sym q)) ∙ omits_out m l o

pub replay_append : (es fs : List Event) (m : List ℕ) → replay (es ++ fs) m ≡ replay es (replay fs m)
unfolding replay
replay_append [] fs m = refl
replay_append (e ∷ es) fs m = ap (after_event e) (replay_append es fs m)

-- ended places forget
pub ended_replays : (ps m : List ℕ) → forgotten ps m ≡ replay (ended_events ps) m
unfolding forgotten ended_events replay after_event
ended_replays [] m = refl
ended_replays (p ∷ ps) m = ended_replays ps (set m p 0) ∙ sym (replay_append (ended_events ps) (changed p ∷ []) m)

-- ---- what a turn adds to the history is what it does to the memory

half_even : (p : ℕ) → 2 * p / 2 ≡ p
half_even p = omega arith

half_odd : (p : ℕ) → (2 * p + 1) / 2 ≡ p
half_odd p = omega arith

even_failed : (p : ℕ) → step_in (2 * p) ≡ Failed
even_failed p = rw (ne_eqb (2 * p % 2) 1 (λ e. omega arith))

odd_passed : (p : ℕ) → step_in (2 * p + 1) ≡ Passed
odd_passed p = rw (eq-eqb ((2 * p + 1) % 2) 1 (omega arith))

failed≢omitted : {X : Type 0} → Failed ≡ Omitted → X
failed≢omitted e = let z : ◌≡◌ {A = ℕ} 0 1 = cc in absurd (omega arith)

module _ (quick : Bool) (batch : ℕ → List Payment) where
  -- accounts after some tries
  unfoldable paid_by : Accounts → List ℕ → Accounts
  paid_by a [] = a
  paid_by a (t ∷ ts) = paid_by (books_after (step_in t) a (batch (t / 2))) ts

  tried_append : (a : Accounts) (ts us : List ℕ) → tried_events quick batch a (ts ++ us) ≡ tried_events quick batch (paid_by a ts) us ++ tried_events quick batch a ts
  unfolding tried_events paid_by
  tried_append a [] us = sym (append-nil (tried_events quick batch a us))
  tried_append a (t ∷ ts) us =
      let b : Accounts = books_after (step_in t) a (batch (t / 2)) in
      ap (λ (l : List Event). l ++ happened quick (t / 2) (batch (t / 2)) (step_in t) (verdict a (batch (t / 2)))) (tried_append b ts us)
      ∙ append_assoc (tried_events quick batch (paid_by b ts) us) (tried_events quick batch b ts) _

  tried_failed : (a : Accounts) (p k : ℕ) (ts : List ℕ) → verdict a (batch p) ≡ Stops k
      → tried_events quick batch a (2 * p ∷ ts) ≡ tried_events quick batch a ts ++ happened quick p (batch p) Failed (Stops k)
  unfolding tried_events
  tried_failed a p k ts v = rw (half_even p, even_failed p, v)

  tried_passed : (a : Accounts) (p : ℕ) (ts : List ℕ) → tried_events quick batch a ((2 * p + 1) ∷ ts) ≡ tried_events quick batch (settle a (batch p)) ts ++ (settled_batch (batch p) ∷ [])
  unfolding tried_events happened
  tried_passed a p ts = rw (half_odd p, odd_passed p)

  missed_replays : (m : List ℕ) (p k : ℕ) → remember quick m p k ≡ replay (happened quick p (batch p) Failed (Stops k)) m
  unfolding happened replay after_event remember
  missed_replays m p k = by_bool quick (λ q. rw q) (λ q. rw q)

  settled_replays : (m : List ℕ) (p : ℕ) → map (wake (credited (batch p))) m ≡ replay (settled_batch (batch p) ∷ []) m
  unfolding replay after_event
  settled_replays m p = refl

  -- a walk: the accounts and the memory that it leaves
  record Left (a : Accounts) (m : List ℕ) (o : Outcome) : Type 0 where
    paid : o.books ≡ paid_by a o.tries
    memory : o.memory ≡ replay (tried_events quick batch a o.tries) m

  left_omitted : {a : Accounts} {m : List ℕ} (p : ℕ) (o : Outcome) → Left a m o → Left a m (noted Omitted p o)
  left_omitted p o h = record { paid = h.paid; memory = h.memory }

  left_passed : (a : Accounts) (m : List ℕ) (p : ℕ) (o : Outcome) → Left (settle a (batch p)) (map (wake (credited (batch p))) m) o → Left a m (noted Passed p o)
  unfolding paid_by
  left_passed a m p o h = record {
    paid = rw (half_odd p, odd_passed p) h.paid;
    memory = h.memory
        ∙ sym (ap (λ (l : List Event). replay l m) (tried_passed a p o.tries)
        ∙ replay_append (tried_events quick batch (settle a (batch p)) o.tries) (settled_batch (batch p) ∷ []) m
        ∙ ap (replay (tried_events quick batch (settle a (batch p)) o.tries)) (sym (settled_replays m p)));
  }

  left_failed : (a : Accounts) (m : List ℕ) (p k : ℕ) (o : Outcome) → verdict a (batch p) ≡ Stops k → Left a (remember quick m p k) o → Left a m (noted Failed p o)
  unfolding paid_by
  left_failed a m p k o v h = record {
    paid = rw (half_even p, even_failed p) h.paid;
    memory = h.memory
        ∙ sym (ap (λ (l : List Event). replay l m) (tried_failed a p k o.tries v)
        ∙ replay_append (tried_events quick batch a o.tries) (happened quick p (batch p) Failed (Stops k)) m
        ∙ ap (replay (tried_events quick batch a o.tries)) (sym (missed_replays m p k)));
  }

  left_none : (a : Accounts) (m : List ℕ) → Left a m (walk quick batch a m [])
  unfolding walk paid_by tried_events replay
  left_none a m = record { paid = refl; memory = refl }

  walk_left : (a : Accounts) (m q : List ℕ) → Left a m (walk quick batch a m q)
  walk_left a m [] = left_none a m
  walk_left a m (p ∷ q) =
      by_turn quick batch a m p
      (λ e t. rw (walk_turn quick batch a m p q t) (left_omitted p _ (walk_left a m q)))
      (λ e v t. rw (walk_turn quick batch a m p q t) (left_passed a m p _ (walk_left (settle a (batch p)) (map (wake (credited (batch p))) m) q)))
      (λ e k v t. rw (walk_turn quick batch a m p q t) (left_failed a m p k _ v (walk_left a (remember quick m p k) q)))

  -- what a test does to the memory is what its tries add to the history
  pub test_replays : (f : ℕ) (a : Accounts) (m q : List ℕ) → (test quick batch f a m q).memory ≡ replay (tried_events quick batch a (test quick batch f a m q).tries) m
  unfolding test tried_events replay
  test_replays zero a m q = refl
  test_replays (suc f) a m q =
      let r : Outcome = walk quick batch a m q in
      let s : Outcome = test quick batch f r.books r.memory r.queue in
      by_bool (some r.done)
      (λ e. rw (test_more quick batch f a m q e)
      (test_replays f r.books r.memory r.queue
      ∙ ap (replay (tried_events quick batch r.books s.tries)) (walk_left a m q).memory
      ∙ sym (ap (λ (l : List Event). replay l m) (tried_append a r.tries s.tries ∙ ap (λ (b : Accounts). tried_events quick batch b s.tries ++ tried_events quick batch a r.tries) (sym (walk_left a m q).paid))
      ∙ replay_append (tried_events quick batch r.books s.tries) (tried_events quick batch a r.tries) m)))
      (λ e. rw (test_stop quick batch f a m q e) (walk_left a m q).memory)

  -- ---- the rule, where the memory is what the history has left of a fresh one

  module _ (fresh : List ℕ) (none : (x : ℕ) → get_or fresh x 0 ≡ 0) where
    omitted_held : (es : List Event) (p : ℕ) → omits quick (replay es fresh) p ≡ true → (quick ≡ true) × ((k : ℕ) × Omits p k es)
    unfolding omits
    omitted_held es p e = let h = both quick (ltb 0 (get_or (replay es fresh) p 0)) e in (h.0, go (get_or (replay es fresh) p 0) refl h.1)
      where
        both : (x y : Bool) → (x && y) ≡ true → (x ≡ true) × (y ≡ true)
        both true y h = (refl, h)
        both false y h = absurd (false≢true h)

        go : (g : ℕ) → get_or (replay es fresh) p 0 ≡ g → ltb 0 g ≡ true → (k : ℕ) × Omits p k es
        go zero h f = absurd (false≢true f)
        go (suc k) h f = (k, omits_in es fresh none h)

    is_due_lem : (es : List Event) (p : ℕ) → p < length fresh → omits quick (replay es fresh) p ≡ false → Due quick batch p es
    unfolding omits
    is_due_lem es p l e k q o = false≢true (sym e ∙ rw (q, omits_out fresh l o) (lt-ltb 0 (suc k) (omega arith)))

    -- what is still to come after a walk with outcome o, and with it
    abbrev After : Accounts → List Event → List ℕ → Bool → Outcome → List ℕ → Accounts → List ℕ → Type 0
    After a es kept s o ts v u = Tries quick batch (tried_events quick batch a o.tries ++ es) o.books (kept ++ o.queue) [] (s || some o.done) ts v u

    abbrev Whole : Accounts → List Event → List ℕ → List ℕ → Bool → Outcome → List ℕ → Accounts → List ℕ → Type 0
    Whole a es kept q s o ts v u = Tries quick batch es a kept q s (o.tries ++ ts) v u

    moved : {es fs : List Event} {a v : Accounts} {kept left ts u : List ℕ} {s t : Bool} → es ≡ fs → kept ≡ left → s ≡ t
        → Tries quick batch es a kept [] s ts v u → Tries quick batch fs a left [] t ts v u
    moved e f g d = rw (sym e, sym f, sym g) d

    or_none : (s : Bool) → (s || false) ≡ s
    or_none true = refl
    or_none false = refl

    or_some : (s : Bool) → (s || true) ≡ true
    or_some true = refl
    or_some false = refl

    walk_told : (a : Accounts) (m : List ℕ) (es : List Event) (q kept : List ℕ) (s : Bool) (ts : List ℕ) (v : Accounts) (u : List ℕ) → m ≡ replay es fresh → All (λ p. p < length fresh) q
        → After a es kept s (walk quick batch a m q) ts v u → Whole a es kept q s (walk quick batch a m q) ts v u
    unfolding walk tried_events some
    walk_told a m es [] kept s ts v u i l = λ d. moved refl (append-nil kept) (or_none s) d
    walk_told a m es (p ∷ q) kept s ts v u i l =
        by_turn quick batch a m p
        (λ e t. let w : Outcome = walk quick batch a m q in
        let h = omitted_held es p (rw i at e) in
        subst (λ (o : Outcome). After a es kept s o ts v u → Whole a es kept (p ∷ q) s o ts v u) (sym (walk_turn quick batch a m p q t))
        (λ d. omitted h.1.0 h.0 h.1.1
        (walk_told a m es q (kept ++ (p ∷ [])) s ts v u i l.1 (moved refl (sym (append_assoc kept (p ∷ []) w.queue)) refl d))))
        (λ e x t. let b : Accounts = settle a (batch p) in
        let n : List ℕ = map (wake (credited (batch p))) m in
        let w : Outcome = walk quick batch b n q in
        subst (λ (o : Outcome). After a es kept s o ts v u → Whole a es kept (p ∷ q) s o ts v u) (sym (walk_turn quick batch a m p q t))
        (λ d. passes (is_due_lem es p l.0 (rw i at e)) x refl
        (walk_told b n (settled_batch (batch p) ∷ es) q kept true ts v u
        (settled_replays m p ∙ ap (replay (settled_batch (batch p) ∷ [])) i ∙ sym (replay_append (settled_batch (batch p) ∷ []) es fresh)) l.1
        (moved (ap (λ (x : List Event). x ++ es) (tried_passed a p w.tries) ∙ append_assoc (tried_events quick batch b w.tries) (settled_batch (batch p) ∷ []) es) refl (or_some s) d))))
        (λ e k x t. let n : List ℕ = remember quick m p k in
        let w : Outcome = walk quick batch a n q in
        let y : List Event = happened quick p (batch p) Failed (Stops k) in
        subst (λ (o : Outcome). After a es kept s o ts v u → Whole a es kept (p ∷ q) s o ts v u) (sym (walk_turn quick batch a m p q t))
        (λ d. fails k (is_due_lem es p l.0 (rw i at e)) x refl
        (walk_told a n (y ++ es) q (kept ++ (p ∷ [])) s ts v u
        (missed_replays m p k ∙ ap (replay y) i ∙ sym (replay_append y es fresh)) l.1
        (moved (ap (λ (x : List Event). x ++ es) (tried_failed a p k w.tries x) ∙ append_assoc (tried_events quick batch a w.tries) y es) (sym (append_assoc kept (p ∷ []) w.queue)) refl d))))

    -- the tries of a test are those that the rule wants
    pub test_told : (f : ℕ) (a : Accounts) (m : List ℕ) (es : List Event) (q : List ℕ) → length q < f → m ≡ replay es fresh → All (λ p. p < length fresh) q
        → Tries quick batch es a [] q false (test quick batch f a m q).tries (test quick batch f a m q).books (test quick batch f a m q).queue
    test_told zero a m es q h i l = absurd (omega arith)
    test_told (suc f) a m es q h i l =
        let r : Outcome = walk quick batch a m q in
        let s : Outcome = test quick batch f r.books r.memory r.queue in
        let fs : List Event = tried_events quick batch a r.tries ++ es in
        by_bool (some r.done)
        (λ e. rw (test_more quick batch f a m q e)
        (walk_told a m es q [] false s.tries s.books s.queue i l
        (moved refl refl (sym e) (again (test_told f r.books r.memory fs r.queue (omega (arith, shorter quick batch a m q e))
        ((walk_left a m q).memory ∙ ap (replay (tried_events quick batch a r.tries)) i ∙ sym (replay_append (tried_events quick batch a r.tries) es fresh))
        (walk_each quick batch (λ p. p < length fresh) a m q l).left)))))
        (λ e. rw (test_stop quick batch f a m q e)
        (subst (λ (x : List ℕ). Tries quick batch es a [] q false x r.books r.queue) (append-nil r.tries)
        (walk_told a m es q [] false [] r.books r.queue i l (moved refl refl (sym e) stops))))

-- ---- there is one list of tries by the rule

passes≢stops : {X : Type 0} {k : ℕ} → Passes ≡ Stops k → X
passes≢stops e = let z : ◌≡◌ {A = ℕ} 0 1 = cc in absurd (omega arith)

module _ (quick : Bool) (batch : ℕ → List Payment) where
  pub tries_one : {es : List Event} {a v w : Accounts} {kept rest ts us q u : List ℕ} {s : Bool} → Tries quick batch es a kept rest s ts v q
      → Tries quick batch es a kept rest s us w u → ts ≡ us
  tries_one stops stops = refl
  tries_one (again x) (again y) = tries_one x y
  tries_one (omitted k q o x) (omitted j r n y) = tries_one x y
  tries_one (omitted k q o x) (fails j d v e y) = absurd (d k q o)
  tries_one (omitted k q o x) (passes d v e y) = absurd (d k q o)
  tries_one (fails k d v e x) (omitted j r n y) = absurd (d j r n)
  tries_one {ts = t ∷ ts} {us = t' ∷ us} (fails k d v e x) (fails j d' v' e' y) =
      let z : j ≡ k = cc in
      let f : t ≡ t' = e ∙ sym e' in
      rw f (ap (λ (l : List ℕ). t' ∷ l) (tries_one x (rw z at y)))
  tries_one (fails k d v e x) (passes d' v' e' y) = passes≢stops (sym v' ∙ v)
  tries_one (passes d v e x) (omitted j r n y) = absurd (d j r n)
  tries_one (passes d v e x) (fails j d' v' e' y) = passes≢stops (sym v ∙ v')
  tries_one {ts = t ∷ ts} {us = t' ∷ us} (passes d v e x) (passes d' v' e' y) =
      let f : t ≡ t' = e ∙ sym e' in
      rw f (ap (λ (l : List ℕ). t' ∷ l) (tries_one x y))
