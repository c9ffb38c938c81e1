-- Laws of the chains of remembered entries.
use Rattle.std.proofs.Common.{◌≡◌, ℕ, zero, suc, ◌+◌, ◌-◌, ◌*◌, ◌<◌, ◌≤◌, Bool, true, false, not, ◌&&◌, eqb, ltb, List, ◌∷◌, length, get_or, set, replicate, sym, refl, ap, ◌∙◌, subst, arith, get_or-set_other, get_or-set_same, ltb-false, ltb-true, eqb-true}
use mathlib.Core.Bool.{false≢true}
use lib.ListN.{get_or-replicate}
use borrow.Author.Tests.{not-true, not-false, eqb-false}
use Rattle.chars.specs.Words.{Says}
use Rattle.codes.specs.declared.Code.{Code}
use Rattle.queue.proofs.MemoryLaws.{by_bool}
use Rattle.model.specs.State.{same_code}
use Rattle.model.specs.Rules.{remembered, Unlike, AllUnlike}
use Rattle.tables.specs.Rows.{entries_in}
use Rattle.tables.proofs.TestLaws.{says_no, says_yes}
use Rattle.tables_rules.specs.entry_rules.EntryRules.{code_of, entries_from}
use Rattle.tables_rules.specs.entry_rules.Chains.{slot_of, kept_at, slot_at, First, Nexts, Chained, Entered}
use Rattle.tables_rules.proofs.entry_rules.EntryLaws.{entries_all, codes_from, codes_done, codes_skip, codes_here}

-- ---- one code has one slot

same_is : (a b c d : ℕ) → (eqb a b && eqb c d) ≡ true → (a ≡ b) × (c ≡ d)
same_is a b c d h =
    by_bool (eqb a b)
    (λ e. (eqb-true a b e, eqb-true c d (rw e at h)))
    (λ e. absurd (false≢true (rw e at h)))

unlike_slot : (high low other end : ℕ) → (slot_of other end ≡ slot_of high low → ⊥) → same_code (code_of high low) (code_of other end) ≡ false
unlike_slot high low other end n =
    by_bool (same_code (code_of high low) (code_of other end))
    (λ e. let s = same_is high other low end e in absurd (n (rw (s.0, s.1))))
    (λ e. e)

module _ (t : List ℕ) (n today : ℕ) where
  abbrev high_at : ℕ → ℕ
  high_at i = get_or t (i * 3 + 0) 0

  abbrev low_at : ℕ → ℕ
  low_at i = get_or t (i * 3 + 1) 0

  -- ---- a code unlike all remembered ones from a on, entry by entry

  abbrev Apart : Code → ℕ → Type 0
  Apart c a = (j : ℕ) → a ≤ j → j < n → kept_at t n today j ≡ true → same_code c (code_of (high_at j) (low_at j)) ≡ false

  next_here : (a : ℕ) → a < n → kept_at t n today a ≡ true → codes_from t n today a ≡ code_of (high_at a) (low_at a) ∷ codes_from t n today (a + 1)
  next_here a h k = codes_here t n today a h refl (rw k)

  next_skip : (a : ℕ) → a < n → kept_at t n today a ≡ false → codes_from t n today a ≡ codes_from t n today (a + 1)
  next_skip a h k = codes_skip t n today a h refl (rw k)

  unlike_from : (c : Code) (f a : ℕ) → n ≤ a + f → Apart c a → Unlike c (codes_from t n today a)
  unlike_from c zero a h p = rw (codes_done t n today a (omega arith)) tt
  unlike_from c (suc f) a h p =
      by_bool (ltb a n)
      (λ e.
      let b = ltb-true a n e in
      let rest = unlike_from c f (a + 1) (omega arith) (λ j l. p j (omega arith)) in
      by_bool (kept_at t n today a)
      (λ k. rw (next_here a b k) (p a (omega arith) b k, rest))
      (λ k. rw (next_skip a b k) rest))
      (λ e. rw (codes_done t n today a (ltb-false a n e)) tt)

  unlike_at : (c : Code) (f a j : ℕ) → j ≡ a + f → Unlike c (codes_from t n today a) → j < n → kept_at t n today j ≡ true → same_code c (code_of (high_at j) (low_at j)) ≡ false
  unlike_at c zero a j e u b k =
      let s : j ≡ a = omega arith in
      let k' : kept_at t n today a ≡ true = subst (λ (x : ℕ). kept_at t n today x ≡ true) s k in
      let u' = rw (next_here a (omega arith) k') at u in
      subst (λ (x : ℕ). same_code c (code_of (high_at x) (low_at x)) ≡ false) (sym s) u'.0
  unlike_at c (suc f) a j e u b k =
      let h : a < n = omega arith in
      by_bool (kept_at t n today a)
      (λ w. unlike_at c f (a + 1) j (omega arith) (rw (next_here a h w) at u).1 b k)
      (λ w. unlike_at c f (a + 1) j (omega arith) (rw (next_skip a h w) at u) b k)

  pub unlike_apart : (c : Code) (a : ℕ) → Unlike c (codes_from t n today a) → Apart c a
  unlike_apart c a u j l b k = unlike_at c (j - a) a j (omega arith) u b k

  -- ---- along a chain

  module _ (high low i : ℕ) where
    -- up to k no entry has the code
    pub record Walked (k : ℕ) : Type 0 where
      pub below : (j : ℕ) → i + 1 ≤ j → j < k → j < n → kept_at t n today j ≡ true → same_code (code_of high low) (code_of (high_at j) (low_at j)) ≡ false
      pub here : k < n → (i + 1 ≤ k) × (kept_at t n today k ≡ true) × (slot_at t n today k ≡ slot_of high low)

    off_slot : (a k : ℕ) → First t n today (slot_of high low) a k → (j : ℕ) → a ≤ j → j < k → j < n → kept_at t n today j ≡ true
        → same_code (code_of high low) (code_of (high_at j) (low_at j)) ≡ false
    off_slot a k f j l b c w = unlike_slot high low (high_at j) (low_at j) (λ e. let z = f.none_before j l c w e in omega arith)

    pub walk_start : (k : ℕ) → First t n today (slot_of high low) (i + 1) k → Walked k
    walk_start k f = record { below = λ j l b c w. off_slot (i + 1) k f j l b c w; here = f.here }

    module _ (k : ℕ) (w : Walked k) where
      pub walk_met : k < n → {r : Bool} → r ≡ same_code (code_of high low) (code_of (get_or t (k * 3 + 0) 0) (get_or t (k * 3 + 1) 0)) → r ≡ true
          → Unlike (code_of high low) (remembered today (entries_from t n (i + 1))) → ⊥
      walk_met h e f u =
          let x = w.here h in
          false≢true (sym (unlike_apart (code_of high low) (i + 1) u k x.0 h x.1) ∙ sym e ∙ f)

      pub walk_done : n ≤ k → Unlike (code_of high low) (remembered today (entries_from t n (i + 1)))
      walk_done h = unlike_from (code_of high low) n (i + 1) (omega arith) (λ j l b c. w.below j l (omega arith) b c)

      pub walk_on : (next : List ℕ) → Nexts t n today next (i + 1) → k < n
          → {r : Bool} → r ≡ same_code (code_of high low) (code_of (get_or t (k * 3 + 0) 0) (get_or t (k * 3 + 1) 0)) → r ≡ false
          → (m : ℕ) → m ≡ get_or next k 0 → Walked m
      walk_on next x h e f m g =
          let y = w.here h in
          let z : First t n today (slot_of high low) (k + 1) m = rw g (rw y.2 at (x k y.0 h y.1)) in
          record {
            below = λ j l b c v.
                by_bool (ltb j k)
                (λ p. w.below j l (ltb-true j k p) c v)
                (λ p. by_bool (eqb j k)
                (λ q. subst (λ (a : ℕ). same_code (code_of high low) (code_of (high_at a) (low_at a)) ≡ false) (sym (eqb-true j k q)) (sym e ∙ f))
                (λ q. off_slot (k + 1) m z j (omega (arith, ltb-false j k p, eqb-false j k q)) b c v));
            here = λ b. let u = z.here b in (omega (arith, u.0, y.0), u.1, u.2);
          }

      pub walk_less : (next : List ℕ) → Nexts t n today next (i + 1) → k < n → (m : ℕ) → m ≡ get_or next k 0 → n - m < n - k
      walk_less next x h m g =
          let y = w.here h in
          let z = x k y.0 h y.1 in
          by_bool (ltb m n)
          (λ b. let u : get_or next k 0 < n = rw g at (ltb-true m n b) in omega (arith, (z.here u).0))
          (λ b. omega (arith, ltb-false m n b))

  -- ---- entering

  first_skip : (slot a k : ℕ) → kept_at t n today a ≡ false → First t n today slot (a + 1) k → First t n today slot a k
  first_skip slot a k e f = record {
    none_before = λ j l b c d.
        by_bool (eqb j a)
        (λ q. absurd (false≢true (sym (subst (λ (x : ℕ). kept_at t n today x ≡ false) (sym (eqb-true j a q)) e) ∙ c)))
        (λ q. f.none_before j (omega (arith, eqb-false j a q)) b c d);
    here = λ b. let u = f.here b in (omega (arith, u.0), u.1, u.2);
  }

  first_other : (slot a k : ℕ) → (slot_at t n today a ≡ slot → ⊥) → First t n today slot (a + 1) k → First t n today slot a k
  first_other slot a k e f = record {
    none_before = λ j l b c d.
        by_bool (eqb j a)
        (λ q. absurd (e (subst (λ (x : ℕ). slot_at t n today x ≡ slot) (eqb-true j a q) d)))
        (λ q. f.none_before j (omega (arith, eqb-false j a q)) b c d);
    here = λ b. let u = f.here b in (omega (arith, u.0), u.1, u.2);
  }

  first_self : (a : ℕ) → kept_at t n today a ≡ true → First t n today (slot_at t n today a) a a
  first_self a k = record { none_before = λ j l b c d. l; here = λ b. (omega arith, k, refl) }

  pub chain_skip : (first next : List ℕ) (i : ℕ) → kept_at t n today i ≡ false → Chained t n today first next (i + 1) → Chained t n today first next i
  chain_skip first next i e c = record {
    firsts = λ s b. first_skip s i (get_or first s 0) e (c.firsts s b);
    nexts = λ j l b k.
        by_bool (eqb j i)
        (λ q. absurd (false≢true (sym (subst (λ (x : ℕ). kept_at t n today x ≡ false) (sym (eqb-true j i q)) e) ∙ k)))
        (λ q. c.nexts j (omega (arith, eqb-false j i q)) b k);
  }

  chain_start : (first next : List ℕ) → ((s : ℕ) → s < 2039 → n ≤ get_or first s 0) → Chained t n today first next n
  chain_start first next h = record {
    firsts = λ s b. record { none_before = λ j l c k d. absurd (omega arith); here = λ c. absurd (omega (arith, h s b)) };
    nexts = λ j l b k. absurd (omega arith);
  }

  -- no chain has begun
  pub chain_none : n ≤ 2048 → (next : List ℕ) → Chained t n today (replicate 2048 2048) next n
  chain_none few next = chain_start (replicate 2048 2048) next (λ s b. rw (get_or-replicate {A = ℕ} 2048 s 2048 0 (omega arith)) few)

  pub chain_first : (first next : List ℕ) (i s k : ℕ) → Chained t n today first next (i + 1) → s ≡ slot_of (get_or t (i * 3 + 0) 0) (get_or t (i * 3 + 1) 0) → s < 2039 → k ≡ get_or first s 0
      → First t n today (slot_of (get_or t (i * 3 + 0) 0) (get_or t (i * 3 + 1) 0)) (i + 1) k
  chain_first first next i s k c e small g = rw g (subst (λ (x : ℕ). First t n today x (i + 1) (get_or first s 0)) e (c.firsts s small))

  module _ (first next : List ℕ) (i s : ℕ) (l : length first ≡ 2048) (m : length next ≡ 2048) (b : i < n) (few : n ≤ 2048) (k : kept_at t n today i ≡ true)
      (c : Chained t n today first next (i + 1)) (e : s ≡ slot_of (get_or t (i * 3 + 0) 0) (get_or t (i * 3 + 1) 0)) (small : s < 2039) where
    from_first : First t n today (slot_of (get_or t (i * 3 + 0) 0) (get_or t (i * 3 + 1) 0)) (i + 1) (get_or first s 0)
    from_first = chain_first first next i s (get_or first s 0) c e small refl

    put_first : (q : ℕ) → q < 2039 → First t n today q i (get_or (set first s i) q 0)
    put_first q h =
        by_bool (eqb q s)
        (λ w.
        let z : q ≡ s = eqb-true q s w in
        let g : get_or (set first s i) q 0 ≡ i = ap (λ (x : ℕ). get_or (set first s i) x 0) z ∙ get_or-set_same first s i 0 (omega arith) in
        rw g (subst (λ (x : ℕ). First t n today x i i) (sym (z ∙ e)) (first_self i k)))
        (λ w.
        let z = eqb-false q s w in
        rw (get_or-set_other first s q i 0 z) (first_other q i (get_or first q 0) (λ d. z (sym d ∙ sym e)) (c.firsts q h)))

    put_next : Nexts t n today (set next i (get_or first s 0)) i
    put_next j h u v =
        by_bool (eqb j i)
        (λ w.
        let z : j ≡ i = eqb-true j i w in
        let g : get_or (set next i (get_or first s 0)) j 0 ≡ get_or first s 0 = ap (λ (x : ℕ). get_or (set next i (get_or first s 0)) x 0) z ∙ get_or-set_same next i (get_or first s 0) 0 (omega arith) in
        rw g (subst (λ (x : ℕ). First t n today (slot_at t n today x) (x + 1) (get_or first s 0)) (sym z) from_first))
        (λ w.
        let z = eqb-false j i w in
        rw (get_or-set_other next i j (get_or first s 0) 0 z) (c.nexts j (omega arith) u v))

    chain_put : Chained t n today (set first s i) (set next i (get_or first s 0)) i
    chain_put = record { firsts = put_first; nexts = put_next }

    pub enter_on : (a : Bool) → Says (Unlike (code_of (get_or t (i * 3 + 0) 0) (get_or t (i * 3 + 1) 0)) (remembered today (entries_from t n (i + 1)))) a → not a ≡ false
        → Entered t n today i (set first s i) (set next i (get_or first s 0)) true
    enter_on a u f = record { says = says_yes a u f; chained = λ z. chain_put }

  pub enter_not : (first next : List ℕ) (i : ℕ) (a : Bool) → Says (Unlike (code_of (get_or t (i * 3 + 0) 0) (get_or t (i * 3 + 1) 0)) (remembered today (entries_from t n (i + 1)))) a
      → not a ≡ true → Entered t n today i first next false
  enter_not first next i a u f = record { says = says_no a u f; chained = λ z. absurd (false≢true z) }

  -- ---- all entries

  all_on : (i : ℕ) → AllUnlike (codes_from t n today i) → AllUnlike (codes_from t n today (i + 1))
  all_on i u =
      by_bool (ltb i n)
      (λ e.
      let b = ltb-true i n e in
      by_bool (kept_at t n today i)
      (λ k. (rw (next_here i b k) at u).1)
      (λ k. rw (next_skip i b k) at u))
      (λ e. rw (codes_done t n today (i + 1) (omega (arith, ltb-false i n e))) tt)

  all_from : (i : ℕ) → AllUnlike (remembered today (entries_in n t)) → AllUnlike (codes_from t n today i)
  all_from zero u = rw (entries_all t n) u
  all_from (suc i) u = let e : suc i ≡ i + 1 = omega arith in rw e (all_on i (all_from i u))

  pub all_start : AllUnlike (codes_from t n today n)
  all_start = rw (codes_done t n today n (omega arith)) tt

  pub all_end : (i : ℕ) → i ≤ 0 → AllUnlike (codes_from t n today i) → AllUnlike (remembered today (entries_in n t))
  all_end zero h u = rw (entries_all t n) at u
  all_end (suc i) h u = absurd (omega arith)

  pub all_skip : (i : ℕ) → i < n → kept_at t n today i ≡ false → AllUnlike (codes_from t n today (i + 1)) → AllUnlike (codes_from t n today i)
  all_skip i b k u = rw (next_skip i b k) u

  module _ (i : ℕ) (b : i < n) (k : kept_at t n today i ≡ true) (r : Bool)
      (s : Says (Unlike (code_of (get_or t (i * 3 + 0) 0) (get_or t (i * 3 + 1) 0)) (remembered today (entries_from t n (i + 1)))) r) where
    pub all_not : not r ≡ true → AllUnlike (remembered today (entries_in n t)) → ⊥
    all_not e u = says_no r s e (rw (next_here i b k) at (all_from i u)).0

    pub all_more : not r ≡ false → AllUnlike (codes_from t n today (i + 1)) → AllUnlike (codes_from t n today i)
    all_more e u = rw (next_here i b k) (says_yes r s e, u)

  -- ---- the pass from the last entry to the first

  pub record Under (first next : List ℕ) (i : ℕ) : Type 0 where
    pub few : i ≤ n
    pub first_long : length first ≡ 2048
    pub next_long : length next ≡ 2048
    pub chained : Chained t n today first next i
    pub unlike : AllUnlike (codes_from t n today i)

  pub under_start : (first next : List ℕ) → length first ≡ 2048 → length next ≡ 2048 → Chained t n today first next n → Under first next n
  under_start first next l m c = record { few = omega arith; first_long = l; next_long = m; chained = c; unlike = all_start }

  pub under_end : (first next : List ℕ) (i : ℕ) → Under first next i → i ≤ 0 → AllUnlike (remembered today (entries_in n t))
  under_end first next i u h = all_end i h u.unlike

  module _ (first next : List ℕ) (i : ℕ) (h : 0 < i) (u : Under first next i) where
    back : i ≡ i - 1 + 1
    back = omega arith

    inside : i - 1 < n
    inside = omega (arith, u.few)

    pub under_chained : Chained t n today first next (i - 1 + 1)
    under_chained = subst (λ (x : ℕ). Chained t n today first next x) back u.chained

    under_unlike : AllUnlike (codes_from t n today (i - 1 + 1))
    under_unlike = subst (λ (x : ℕ). AllUnlike (codes_from t n today x)) back u.unlike

    module _ {a : Bool} (e : a ≡ kept_at t n today (i - 1)) where
      pub under_kept : not a ≡ false → kept_at t n today (i - 1) ≡ true
      under_kept f = sym e ∙ not-false a f

      pub under_skip : not a ≡ true → Under first next (i - 1)
      under_skip f =
          let k : kept_at t n today (i - 1) ≡ false = sym e ∙ not-true a f in
          record {
            few = omega (arith, u.few);
            first_long = u.first_long;
            next_long = u.next_long;
            chained = chain_skip first next (i - 1) k under_chained;
            unlike = all_skip (i - 1) inside k under_unlike;
          }

      module _ (f : not a ≡ false) (first' next' : List ℕ) (r : Bool) (x : Entered t n today (i - 1) first' next' r) where
        pub under_not : not r ≡ true → AllUnlike (remembered today (entries_in n t)) → ⊥
        under_not g = all_not (i - 1) inside (under_kept f) r x.says g

        pub under_on : not r ≡ false → length first' ≡ length first → length next' ≡ length next → Under first' next' (i - 1)
        under_on g l m = record {
          few = omega (arith, u.few);
          first_long = l ∙ u.first_long;
          next_long = m ∙ u.next_long;
          chained = x.chained (not-false r g);
          unlike = all_more (i - 1) inside (under_kept f) r x.says g under_unlike;
        }
