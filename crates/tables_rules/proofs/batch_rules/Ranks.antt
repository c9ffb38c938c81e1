-- The ranks of a phase have neither gap nor repeat exactly where rows and the order that they tell agree.
use Rattle.std.proofs.Common.{◌≡◌, ℕ, zero, suc, ◌+◌, ◌<◌, ◌≤◌, Bool, true, false, ◌&&◌, eqb, List, [], ◌∷◌, length, get_or, sym, refl, ap, ◌∙◌, arith, eq-eqb, ne_eqb, eqb-true}
use mathlib.Core.Bool.{false≢true}
use Rattle.chars.specs.Words.{member}
use Rattle.book_read.specs.Book.{each}
use Rattle.book_read.proofs.Filling.{each_length}
use Rattle.queue.specs.Promise.{All, Off, Once}
use Rattle.queue.proofs.MemoryLaws.{by_bool}
use Rattle.model.specs.State.{at, nowhere, on_found, seek_from, seek}
use Rattle.model.proofs.Counting.{times, once_times, all_times, at_most}
use Rattle.model.proofs.Seeking.{by_found, not_found, seek_answers}
use Rattle.tables.specs.Rows.{word, is_ranked, how_many, ranked}
use Rattle.tables.specs.Words.{rank_in}
use Rattle.tables.proofs.Ranking.{rank_of_lem, at_rank, member_at, absent, Tells, AllTell}
use Rattle.tables_rules.specs.batch_rules.BatchRules.{ranks_in, Ranked}

-- ---- what `each` lists

pub at_each : (f : ℕ → ℕ) (i n r : ℕ) → r < n → get_or (each f i n) r 0 ≡ f (i + r)
at_each f i zero r h = absurd (omega arith)
at_each f i (suc n) zero h = let e : i ≡ i + 0 = omega arith in ap f e
at_each f i (suc n) (suc r) h = let e : i + 1 + r ≡ i + suc r = omega arith in at_each f (i + 1) n r (omega arith) ∙ ap f e

off_each : (f : ℕ → ℕ) (x j n : ℕ) → ((s : ℕ) → j ≤ s → s < j + n → f s ≡ x → ⊥) → Off x (each f j n)
off_each f x j zero h = tt
off_each f x j (suc n) h = (h j (omega arith) (omega arith), off_each f x (j + 1) n (λ s a b. h s (omega arith) (omega arith)))

once_each : (f : ℕ → ℕ) (i n : ℕ) → ((r s : ℕ) → r < s → s < i + n → f s ≡ f r → ⊥) → Once (each f i n)
once_each f i zero h = tt
once_each f i (suc n) h =
    (off_each f (f i) (i + 1) n (λ s a b. h i s (omega arith) (omega arith)), once_each f (i + 1) n (λ r s a b. h r s a (omega arith)))

all_each : (Q : ℕ → Type 0) (f : ℕ → ℕ) (i n : ℕ) → ((r : ℕ) → r < i + n → Q (f r)) → All Q (each f i n)
all_each Q f i zero h = tt
all_each Q f i (suc n) h = (h i (omega arith), all_each Q f (i + 1) n (λ r b. h r (omega arith)))

-- ---- rows of a phase

and_left : (a b : Bool) → (a && b) ≡ true → a ≡ true
and_left true b h = refl
and_left false b h = absurd (false≢true h)

and_right : (a b : Bool) → (a && b) ≡ true → b ≡ true
and_right true b h = h
and_right false b h = absurd (false≢true h)

rank_below : (p : ℕ) (l : List ℕ) → member p l ≡ true → rank_in l p < length l
rank_below p l h =
    by_found (seek (eqb p) l)
    (λ r e. rw e (seek_answers (eqb p) 0 l r e).inside)
    (λ e. absurd (false≢true (sym (absent p 0 l e) ∙ h)))

module _ (phase : ℕ) where
  ranks_many : (rs : List (List ℕ)) → length (ranks_in phase rs) ≡ how_many phase rs
  ranks_many [] = refl
  ranks_many (row ∷ rs) =
      by_bool (eqb (word row 0) phase) (λ e. rw e (omega (arith, ranks_many rs))) (λ e. rw e (omega (arith, ranks_many rs)))

  -- a row of the phase has its rank among the ranks
  has_rank : (Q : ℕ → Type 0) (rs : List (List ℕ)) (p : ℕ) → All Q (ranks_in phase rs) → p < length rs → eqb (word (get_or rs p []) 0) phase ≡ true → Q (word (get_or rs p []) 1)
  has_rank Q [] p a h e = absurd (omega arith)
  has_rank Q (row ∷ rs) zero a h e = (rw e at a).0
  has_rank Q (row ∷ rs) (suc p) a h e =
      by_bool (eqb (word row 0) phase) (λ f. has_rank Q rs p (rw f at a).1 (omega arith) e) (λ f. has_rank Q rs p (rw f at a) (omega arith) e)

  -- a row's rank is found at its place
  found_there : (r i p : ℕ) (rs : List (List ℕ)) → Once (ranks_in phase rs) → p < length rs → is_ranked phase r (get_or rs p []) ≡ true → seek_from (is_ranked phase r) i rs ≡ at (i + p)
  unfolding seek_from
  found_there r i p [] o h e = absurd (omega arith)
  found_there r i zero (row ∷ rs) o h e = let d : i ≡ i + 0 = omega arith in rw e (ap at d)
  found_there r i (suc p) (row ∷ rs) o h e =
      let d : i + 1 + p ≡ i + suc p = omega arith in
      let x = get_or rs p [] in
      by_bool (eqb (word row 0) phase)
      (λ f.
      let w : (word x 1 ≡ word row 1) → ⊥ = has_rank (λ y. y ≡ word row 1 → ⊥) rs p (rw f at o).0 (omega arith) (and_left (eqb (word x 0) phase) (eqb (word x 1) r) e) in
      let y : word x 1 ≡ r = eqb-true (word x 1) r (and_right (eqb (word x 0) phase) (eqb (word x 1) r) e) in
      rw (f, ne_eqb (word row 1) r (λ z. w (y ∙ sym z))) (found_there r (i + 1) p rs (rw f at o).1 (omega arith) e ∙ ap at d))
      (λ f. rw f (found_there r (i + 1) p rs (rw f at o) (omega arith) e ∙ ap at d))

  -- a rank that no row has
  not_ranked : (r i : ℕ) (rs : List (List ℕ)) → seek_from (is_ranked phase r) i rs ≡ nowhere → times r (ranks_in phase rs) ≡ 0
  unfolding seek_from times
  not_ranked r i [] h = refl
  not_ranked r i (row ∷ rs) h =
      by_bool (eqb (word row 0) phase)
      (λ f.
      by_bool (eqb (word row 1) r)
      (λ g. let z : at i ≡ nowhere = rw (f, g) at h in not_found (sym z))
      (λ g. let n = not_ranked r (i + 1) rs (rw (f, g) at h) in rw (f, g) (omega (arith, n))))
      (λ f. rw f (not_ranked r (i + 1) rs (rw f at h)))

  pub ranked_many : (rs : List (List ℕ)) → length (ranked phase rs) ≡ how_many phase rs
  unfolding ranked
  ranked_many rs = each_length (λ r. on_found (seek (is_ranked phase r) rs) 0 (λ p. p)) 0 (how_many phase rs)

  -- ---- ranks without gap or repeat

  module _ (rs : List (List ℕ)) (h : Ranked phase rs) where
    abbrev seen : List ℕ
    seen = ranks_in phase rs

    -- so many different ranks below their number are all of them
    no_gap : (r : ℕ) → r < how_many phase rs → 0 < times r seen
    unfolding times
    no_gap r b = go (times r seen) refl
      where
        more : times r seen ≡ 0 → (q : ℕ) → times q (r ∷ seen) ≤ 1
        more e q =
            by_bool (eqb r q)
            (λ f. let d : r ≡ q = eqb-true r q f in let z : times q seen ≡ 0 = rw d at e in rw f (omega arith))
            (λ f. rw f (omega (arith, once_times q seen h.once)))

        past : (q : ℕ) → how_many phase rs ≤ q → times q (r ∷ seen) ≡ 0
        past q l =
            let n : r ≡ q → ⊥ = λ d. omega arith in
            go' (times q seen) refl n
          where
            go' : (k : ℕ) → times q seen ≡ k → (r ≡ q → ⊥) → times q (r ∷ seen) ≡ 0
            go' zero e n = rw (ne_eqb r q n) (omega arith)
            go' (suc k) e n = absurd (let a : q < how_many phase rs = all_times (λ x. x < how_many phase rs) q seen h.below (omega arith) in omega arith)

        go : (k : ℕ) → times r seen ≡ k → 0 < times r seen
        go zero e = absurd (omega (arith, at_most (how_many phase rs) (r ∷ seen) (more e) past, ranks_many rs))
        go (suc k) e = omega arith

    abbrev place : ℕ → ℕ
    place r = on_found (seek (is_ranked phase r) rs) 0 (λ p. p)

    -- the row of each rank
    record Row (r : ℕ) : Type 0 where
      inside : place r < length rs
      on : eqb (word (get_or rs (place r) []) 0) phase ≡ true
      rank : word (get_or rs (place r) []) 1 ≡ r

    row_of : (r : ℕ) → r < how_many phase rs → Row r
    row_of r b =
        by_found (seek (is_ranked phase r) rs)
        (λ p e.
        let a = seek_answers (is_ranked phase r) [] rs p e in
        let x = get_or rs p [] in
        record {
          inside = rw e a.inside;
          on = rw e (and_left (eqb (word x 0) phase) (eqb (word x 1) r) a.yes);
          rank = rw e (eqb-true (word x 1) r (and_right (eqb (word x 0) phase) (eqb (word x 1) r) a.yes));
        })
        (λ e. absurd (omega (arith, no_gap r b, not_ranked r 0 rs e)))

    pub ranked_once : Once (ranked phase rs)
    unfolding ranked
    ranked_once =
        once_each place 0 (how_many phase rs)
        (λ r s a b e.
        let c : word (get_or rs (place s) []) 1 ≡ word (get_or rs (place r) []) 1 = ap (λ (n : ℕ). word (get_or rs n []) 1) e in
        omega (arith, c, (row_of r (omega arith)).rank, (row_of s (omega arith)).rank))

    pub ranked_inside : All (λ p. p < length rs) (ranked phase rs)
    unfolding ranked
    ranked_inside = all_each (λ p. p < length rs) place 0 (how_many phase rs) (λ r b. (row_of r (omega arith)).inside)

    ranked_at : (r : ℕ) → r < how_many phase rs → get_or (ranked phase rs) r 0 ≡ place r
    unfolding ranked
    ranked_at r b = at_each place 0 (how_many phase rs) r b ∙ ap place (let e : 0 + r ≡ r = omega arith in e)

    -- a row's own place is that of its rank
    own_place : (p : ℕ) → p < length rs → eqb (word (get_or rs p []) 0) phase ≡ true → place (word (get_or rs p []) 1) ≡ p
    own_place p b e =
        let x = get_or rs p [] in
        let f : is_ranked phase (word x 1) x ≡ true = rw (e, eq-eqb (word x 1) (word x 1) refl) in
        let g : seek (is_ranked phase (word x 1)) rs ≡ at (0 + p) = found_there (word x 1) 0 p rs h.once b f in
        let z : 0 + p ≡ p = omega arith in
        rw (g, z)

    pub told : (p : ℕ) → p < length rs → Tells phase (ranked phase rs) ranked_once p (get_or rs p [])
    told p b =
        by_bool (eqb (word (get_or rs p []) 0) phase)
        (λ e.
        let x = get_or rs p [] in
        let l : word x 1 < how_many phase rs = has_rank (λ r. r < how_many phase rs) rs p h.below b e in
        let w : get_or (ranked phase rs) (word x 1) 0 ≡ p = ranked_at (word x 1) l ∙ own_place p b e in
        let k : word x 1 < length (ranked phase rs) = omega (arith, ranked_many rs) in
        record {
          on = e ∙ sym (rw w at (member_at (word x 1) (ranked phase rs) k));
          rank = λ m. sym (rw w at (rank_of_lem (word x 1) (ranked phase rs) ranked_once k));
        })
        (λ e.
        let n : member p (ranked phase rs) ≡ false = none (member p (ranked phase rs)) refl e in
        record { on = e ∙ sym n; rank = λ m. absurd (false≢true (sym n ∙ m)) })
      where
        none : (m : Bool) → member p (ranked phase rs) ≡ m → eqb (word (get_or rs p []) 0) phase ≡ false → m ≡ false
        none false i e = refl
        none true i e =
            let r = rank_in (ranked phase rs) p in
            let a : get_or (ranked phase rs) r 0 ≡ p = at_rank p (ranked phase rs) i in
            let b : r < how_many phase rs = omega (arith, rank_below p (ranked phase rs) i, ranked_many rs) in
            let c : place r ≡ p = sym (ranked_at r b) ∙ a in
            absurd (false≢true (sym e ∙ ap (λ (n : ℕ). eqb (word (get_or rs n []) 0) phase) (sym c) ∙ (row_of r b).on))

  -- ---- and back: rows that tell an order have such ranks

  module _ (l : List ℕ) (o : Once l) where
    off_told : (q p : ℕ) (rs : List (List ℕ)) → q < p → member q l ≡ true → AllTell phase l o p rs → Off (rank_in l q) (ranks_in phase rs)
    off_told q p [] b m t = tt
    off_told q p (row ∷ rs) b m t =
        let rest = off_told q (p + 1) rs (omega arith) m t.1 in
        by_bool (member p l)
        (λ n.
        let e : eqb (word row 0) phase ≡ true = t.0.on ∙ n in
        rw e (
          (λ d.
              let s : rank_in l p ≡ rank_in l q = sym (t.0.rank n) ∙ d in
              let u : p ≡ q = sym (at_rank p l n) ∙ ap (λ (i : ℕ). get_or l i 0) s ∙ at_rank q l m in
              omega arith),
          rest,
        ))
        (λ n. let e : eqb (word row 0) phase ≡ false = t.0.on ∙ n in rw e rest)

    once_told : (p : ℕ) (rs : List (List ℕ)) → AllTell phase l o p rs → Once (ranks_in phase rs)
    once_told p [] t = tt
    once_told p (row ∷ rs) t =
        let rest = once_told (p + 1) rs t.1 in
        by_bool (member p l)
        (λ n.
        let e : eqb (word row 0) phase ≡ true = t.0.on ∙ n in
        rw (e, t.0.rank n) (off_told p (p + 1) rs (omega arith) n t.1, rest))
        (λ n. let e : eqb (word row 0) phase ≡ false = t.0.on ∙ n in rw e rest)

    below_told : (p n : ℕ) (rs : List (List ℕ)) → length l ≡ n → AllTell phase l o p rs → All (λ r. r < n) (ranks_in phase rs)
    below_told p k [] e t = tt
    below_told p k (row ∷ rs) e t =
        let rest = below_told (p + 1) k rs e t.1 in
        by_bool (member p l)
        (λ n.
        let f : eqb (word row 0) phase ≡ true = t.0.on ∙ n in
        rw (f, t.0.rank n) (omega (arith, rank_below p l n), rest))
        (λ n. let f : eqb (word row 0) phase ≡ false = t.0.on ∙ n in rw f rest)

    pub told_ranked : (rs : List (List ℕ)) → length l ≡ how_many phase rs → AllTell phase l o 0 rs → Ranked phase rs
    told_ranked rs e t = record { below = below_told 0 (how_many phase rs) rs e t; once = once_told 0 rs t }
