-- The rules of the rows are exactly the batches' part of what the tables are asked.
use Rattle.std.proofs.Common.{◌≡◌, ℕ, zero, suc, ◌+◌, ◌*◌, ◌<◌, ◌≤◌, Bool, true, false, cond, eqb, ltb, List, [], ◌∷◌, map, length, get_or, take, drop, replicate, sym, refl, ap, ◌∙◌, arith, length-drop, take-append-drop, length-take-le, take_at, drop_at, ltb-false, ltb-true, ne_eqb}
use mathlib.Core.Bool.{false≢true}
use lib.ListN.{length-map, get_or-map, get_or-eq_default}
use Rattle.chars.specs.Words.{member}
use Rattle.book_read.specs.Range.{Each}
use Rattle.queue.specs.Promise.{Once}
use Rattle.queue.proofs.MemoryLaws.{by_bool}
use Rattle.settle.specs.Payments.{Payment}
use Rattle.model.specs.State.{Place, free, live, Batches, place_payments, place_at, payments_of}
use Rattle.model.specs.Changes.{has_debit}
use Rattle.model.specs.Rules.{RightBatch, Complete, Given, RightBatches, RightMemory}
use Rattle.model.proofs.Counting.{times, times_once, no_member, a_member, all_times}
use Rattle.model.proofs.Standing.{Standing, vacant, building, awaits, stands, Stood, stood, right, at_most_once}
use Rattle.tables.specs.Rows.{rows, word, batch_in, place_in, pending_phase, queued_phase, batch_rows, batches_in, memory_in, ranked, messages_in}
use Rattle.tables.specs.Words.{rank_in, phase_of, rank_of, place_words, places_words, batch_words}
use Rattle.tables.proofs.Ranking.{many_here}
use Rattle.tables.proofs.Batching.{AllLie, place_rows, place_long, queue_all, pending_all, whole}
use Rattle.tables.proofs.Held.{places_lie, batches_long}
use Rattle.tables.proofs.TestLaws.{Both}
use Rattle.tables_rules.specs.batch_rules.BatchRules.{payments_in, LiveRow, Whole, RowIn, RowRight, Remembers, Ranked, BatchRules, RightTable}
use Rattle.tables_rules.proofs.batch_rules.Ranks.{ranked_once, ranked_inside, ranked_many, told, told_ranked}
use Rattle.tables_rules.proofs.batch_rules.RowWords.{zeros, all_zero, messages_many, row_words, words_phase, words_rank, words_memory, words_total, words_behind}
use Rattle.tables_rules.proofs.batch_rules.RowRules.{live_few, live_small, live_flat, right_live, complete_whole, timed_given, few_right, row_stands}

-- ---- rows

pub rows_many : (w n : ℕ) (t : List ℕ) → length (rows w n t) ≡ n
unfolding rows
rows_many w zero t = refl
rows_many w (suc n) t = ap suc (rows_many w n (drop w t))

pub rows_wide : (n p : ℕ) (t : List ℕ) → length t ≡ 349 * n → p < n → length (get_or (rows 349 n t) p []) ≡ 349
unfolding rows
rows_wide zero p t e h = absurd (omega arith)
rows_wide (suc n) zero t e h = length-take-le 349 t (omega arith)
rows_wide (suc n) (suc p) t e h = rows_wide n p (drop 349 t) (omega (arith, length-drop 349 t)) (omega arith)

pub each_at : (banks : ℕ) (rs : List (List ℕ)) (p : ℕ) → Each (RowRight banks) rs → RowRight banks (get_or rs p [])
each_at banks [] p h = tt
each_at banks (x ∷ rs) zero h = h.0
each_at banks (x ∷ rs) (suc p) h = each_at banks rs p h.1

-- something holds of each row and its place
abbrev AllAt : (ℕ → List ℕ → Type 0) → ℕ → List (List ℕ) → Type 0
AllAt Q p [] = Unit {0}
AllAt Q p (x ∷ rs) = Q p x × AllAt Q (p + 1) rs

all_from : (Q : ℕ → List ℕ → Type 0) (p : ℕ) (rs : List (List ℕ)) → ((i : ℕ) → i < length rs → Q (p + i) (get_or rs i [])) → AllAt Q p rs
all_from Q p [] f = tt
all_from Q p (x ∷ rs) f =
    let z : p + 0 ≡ p = omega arith in
    (rw z at (f 0 (omega arith)), all_from Q (p + 1) rs (λ i b. let s : p + 1 + i ≡ p + suc i = omega arith in rw s (f (suc i) (omega arith))))

all_at : (Q : ℕ → List ℕ → Type 0) (p i : ℕ) (rs : List (List ℕ)) → AllAt Q p rs → i < length rs → Q (p + i) (get_or rs i [])
all_at Q p i [] a h = absurd (omega arith)
all_at Q p zero (x ∷ rs) a h = let z : p + 0 ≡ p = omega arith in rw z a.0
all_at Q p (suc i) (x ∷ rs) a h = let s : p + 1 + i ≡ p + suc i = omega arith in rw s at (all_at Q (p + 1) i rs a.1 (omega arith))

module _ (b : Batches) (m : List ℕ) where
  abbrev SaysIts : ℕ → List ℕ → Type 0
  SaysIts p row = place_words b m p (place_in row) ≡ row

  rows_words : (p n : ℕ) (t : List ℕ) → length t ≡ 349 * n → AllAt SaysIts p (rows 349 n t) → places_words b m p (map place_in (rows 349 n t)) ≡ t
  unfolding rows places_words
  rows_words p zero [] e a = refl
  rows_words p zero (x ∷ t) e a = absurd (omega arith)
  rows_words p (suc n) t e a =
      rw (a.0, rows_words (p + 1) n (drop 349 t) (omega (arith, length-drop 349 t)) a.1) (take-append-drop 349 t)

  words_rows : (p n : ℕ) (t : List ℕ) → AllLie b m p (map place_in (rows 349 n t)) → places_words b m p (map place_in (rows 349 n t)) ≡ t → AllAt SaysIts p (rows 349 n t)
  unfolding rows places_words
  words_rows p zero t a e = tt
  words_rows p (suc n) t a e =
      let x = place_words b m p (place_in (take 349 t)) in
      let l : length x ≡ 349 = place_long b m p (place_in (take 349 t)) a.0 in
      let rest = places_words b m (p + 1) (map place_in (rows 349 n (drop 349 t))) in
      (sym (take_at x rest 349 l) ∙ ap (take 349) e, words_rows (p + 1) n (drop 349 t) a.1 (sym (drop_at x rest 349 l) ∙ ap (λ (y : List ℕ). drop 349 y) e))

-- ---- what a place says

free_in : (row : List ℕ) → word row 0 ≡ 0 → place_in row ≡ free
unfolding place_in
free_in row e = rw e

pub live_in : (row : List ℕ) (n : ℕ) → word row 0 ≡ suc n → place_in row ≡ live (batch_in row)
unfolding place_in
live_in row n e = rw (ne_eqb (word row 0) 0 (λ z. omega arith))

pub batch_flat : (banks : ℕ) (row : List ℕ) → length row ≡ 349 → LiveRow banks row → payments_of (batch_in row).messages ≡ payments_in row
unfolding batch_in
batch_flat banks row long v = live_flat banks row long v

pub place_at_lem : (rs : List (List ℕ)) (p : ℕ) → get_or (map place_in rs) p free ≡ place_in (get_or rs p [])
unfolding place_in
place_at_lem rs p = get_or-map place_in rs p []

memory_at : (rs : List (List ℕ)) (p : ℕ) → get_or (map (λ row. word row 6) rs) p 0 ≡ word (get_or rs p []) 6
memory_at rs p = get_or-map (λ row. word row 6) rs p []

places_are : (t : List ℕ) → (batches_in t).places ≡ map place_in (batch_rows t)
unfolding batches_in
places_are t = refl

-- ---- from the rows' rules

module _ (banks : ℕ) (t : List ℕ) (h : BatchRules banks t) where
  abbrev rs : List (List ℕ)
  rs = batch_rows t

  abbrev pending : List ℕ
  pending = ranked pending_phase rs

  abbrev queue : List ℕ
  queue = ranked queued_phase rs

  abbrev row_at : ℕ → List ℕ
  row_at p = get_or rs p []

  many : length rs ≡ 32
  many = rows_many 349 32 t

  wide : (p : ℕ) → p < 32 → length (row_at p) ≡ 349
  wide p b = rows_wide 32 p t (omega (arith, h.long)) b

  -- how often a place stands in an order, by its row
  record Counted (phase : ℕ) (p : ℕ) : Type 0 where
    on : eqb (word (row_at p) 0) phase ≡ member p (ranked phase rs)
    many : times p (ranked phase rs) ≡ cond (eqb (word (row_at p) 0) phase) 1 0
    rank : member p (ranked phase rs) ≡ true → word (row_at p) 1 ≡ rank_in (ranked phase rs) p

  counted : (phase : ℕ) → Ranked phase rs → (p : ℕ) → p < 32 → Counted phase p
  counted phase r p b =
      let o = ranked_once phase rs r in
      let x = told phase rs r p (omega (arith, many)) in
      record { on = x.on; many = many_here p (ranked phase rs) o ∙ ap (λ (y : Bool). cond y 1 0) (sym x.on); rank = x.rank }

  none_past : (phase : ℕ) → Ranked phase rs → (p : ℕ) → 32 ≤ p → times p (ranked phase rs) ≡ 0
  none_past phase r p b = go (times p (ranked phase rs)) refl
    where
      go : (k : ℕ) → times p (ranked phase rs) ≡ k → times p (ranked phase rs) ≡ 0
      go zero e = e
      go (suc k) e = absurd (omega (arith, all_times (λ q. q < length rs) p (ranked phase rs) (ranked_inside phase rs r) (omega arith), many))

  stands_at : (p : ℕ) → Standing banks (get_or (map place_in rs) p free) (times p pending) (times p queue)
  stands_at p =
      by_bool (ltb p 32)
      (λ e.
      let b = ltb-true p 32 e in
      rw (place_at_lem rs p, (counted pending_phase h.pending p b).many, (counted queued_phase h.queue p b).many)
      (row_stands banks (row_at p) (wide p b) (each_at banks rs p h.rows)))
      (λ e.
      let b = ltb-false p 32 e in
      let z : get_or (map place_in rs) p free ≡ free = get_or-eq_default (map place_in rs) free {n = p} (omega (arith, length-map rs place_in, many)) in
      rw (z, none_past pending_phase h.pending p b, none_past queued_phase h.queue p b) vacant)

  pub rules_batches : RightBatches banks (batches_in t)
  unfolding batches_in
  rules_batches = right banks (batches_in t) (record { long = length-map rs place_in ∙ many; each = stands_at })

  -- the memory: none, or a debit's bank in a queued row
  memory_in_lem : (p w k : ℕ) → p < 32 → word (row_at p) 0 ≡ w → RowIn w banks (row_at p) → word (row_at p) 6 ≡ suc k
      → (member p queue ≡ true) × (has_debit k (place_payments (place_in (row_at p))) ≡ true)
  memory_in_lem p zero k b e r f =
      let z : word (row_at p) 6 ≡ 0 = ap (λ (l : List ℕ). word l 6) (zeros (row_at p) r) ∙ ap (λ (n : ℕ). word (replicate n 0) 6) (wide p b) in
      absurd (omega arith)
  memory_in_lem p (suc zero) k b e r f = absurd (omega (arith, r.1.untried))
  memory_in_lem p (suc (suc zero)) k b e r f = absurd (omega (arith, r.1.untried))
  memory_in_lem p (suc (suc (suc zero))) k b e r f =
      let q : member p queue ≡ true = sym (counted queued_phase h.queue p b).on ∙ rw e in
      let d : has_debit k (payments_in (row_at p)) ≡ true = rw f at r.1.memory in
      (q, rw (live_in (row_at p) 2 e, batch_flat banks (row_at p) (wide p b) r.0) d)
  memory_in_lem p (suc (suc (suc (suc n)))) k b e r f = absurd r

  pub rules_memory : RightMemory (batches_in t) (memory_in t)
  unfolding batches_in memory_in
  rules_memory = record {
    long = length-map rs (λ row. word row 6) ∙ many;
    held = λ p k e.
        let f : word (row_at p) 6 ≡ suc k = sym (memory_at rs p) ∙ e in
        by_bool (ltb p 32)
        (λ b. rw (place_at_lem rs p) (memory_in_lem p (word (row_at p) 0) k (ltb-true p 32 b) refl (each_at banks rs p h.rows) f))
        (λ b.
        let z : get_or rs p [] ≡ [] = get_or-eq_default rs [] {n = p} (omega (arith, ltb-false p 32 b, many)) in
        let n : word (row_at p) 6 ≡ 0 = ap (λ (l : List ℕ). word l 6) z in
        absurd (omega arith));
  }

  -- each row is the words of its place
  abbrev its : Batches
  its = batches_in t

  row_is : (p w : ℕ) → p < 32 → word (row_at p) 0 ≡ w → RowIn w banks (row_at p)
      → place_words its (memory_in t) p (place_in (row_at p)) ≡ row_at p
  unfolding batches_in memory_in
  row_is p zero b e r =
      rw (free_in (row_at p) e) (sym (zeros (row_at p) r ∙ ap (λ (n : ℕ). replicate n 0) (wide p b)))
  row_is p (suc zero) b e r =
      let x = row_at p in
      let q : member p queue ≡ false = sym (counted queued_phase h.queue p b).on ∙ rw e in
      let w : member p pending ≡ false = sym (counted pending_phase h.pending p b).on ∙ rw e in
      let y = row_words x (wide p b) (live_few banks x (wide p b) r.0) r.0.heads.all (live_small banks x (wide p b) r.0) r.0.behind in
      rw (live_in x 0 e, q, w, memory_at rs p) (rw (e, r.1.unranked) at y)
  row_is p (suc (suc zero)) b e r =
      let x = row_at p in
      let q : member p queue ≡ false = sym (counted queued_phase h.queue p b).on ∙ rw e in
      let w : member p pending ≡ true = sym (counted pending_phase h.pending p b).on ∙ rw e in
      let k : rank_in pending p ≡ word x 1 = sym ((counted pending_phase h.pending p b).rank w) in
      let y = row_words x (wide p b) (live_few banks x (wide p b) r.0) r.0.heads.all (live_small banks x (wide p b) r.0) r.0.behind in
      rw (live_in x 1 e, q, w, memory_at rs p, k) (rw e at y)
  row_is p (suc (suc (suc zero))) b e r =
      let x = row_at p in
      let q : member p queue ≡ true = sym (counted queued_phase h.queue p b).on ∙ rw e in
      let k : rank_in queue p ≡ word x 1 = sym ((counted queued_phase h.queue p b).rank q) in
      let y = row_words x (wide p b) (live_few banks x (wide p b) r.0) r.0.heads.all (live_small banks x (wide p b) r.0) r.0.behind in
      rw (live_in x 2 e, q, memory_at rs p, k) (rw e at y)
  row_is p (suc (suc (suc (suc n)))) b e r = absurd r

  joined : AllAt (SaysIts its (memory_in t)) 0 rs → places_words (batches_in t) (memory_in t) 0 (batches_in t).places ≡ t
  joined a = places_in_lem ∙ rows_words its (memory_in t) 0 32 t (omega (arith, h.long)) a
    where
      places_in_lem : places_words its (memory_in t) 0 its.places ≡ places_words its (memory_in t) 0 (map place_in rs)
      places_in_lem = ap (λ (l : List Place). places_words its (memory_in t) 0 l) (places_are t)

  pub rules_words : places_words (batches_in t) (memory_in t) 0 (batches_in t).places ≡ t
  rules_words = joined (all_from (SaysIts its (memory_in t)) 0 rs (λ i b. let z : 0 + i ≡ i = omega arith in rw z (row_is i (word (row_at i) 0) (omega (arith, many)) refl (each_at banks rs i h.rows))))

  pub rules_right : RightTable banks t
  rules_right = record { batches = rules_batches; memory = rules_memory; words = rules_words }

-- ---- and back

each_from : (banks : ℕ) (rs : List (List ℕ)) → ((p : ℕ) → p < length rs → RowRight banks (get_or rs p [])) → Each (RowRight banks) rs
each_from banks [] f = tt
each_from banks (x ∷ rs) f = (f 0 (omega arith), each_from banks rs (λ p b. f (suc p) (omega arith)))

phase_is : (banks : ℕ) (row : List ℕ) (w : ℕ) → word row 0 ≡ w → RowIn w banks row → RowRight banks row
phase_is banks row w e r = rw e r

module _ (b : Batches) (m : List ℕ) (r : RightMemory b m) (p : ℕ) where
  no_memory_lem : member p b.queue ≡ false → get_or m p 0 ≡ 0
  no_memory_lem e = go (get_or m p 0) refl
    where
      go : (n : ℕ) → get_or m p 0 ≡ n → n ≡ 0
      go zero f = refl
      go (suc k) f = absurd (false≢true (sym e ∙ (r.held p k f).0))

  remembers : (ps : List Payment) → place_payments (place_at b p) ≡ ps → (n : ℕ) → get_or m p 0 ≡ n → Remembers n ps
  remembers ps e zero f = tt
  remembers ps e (suc k) f = rw e at (r.held p k f).1

-- what the words of a batch say of its row
record Made (banks : ℕ) (row : List ℕ) (a b c : ℕ) : Type 0 where
  live : LiveRow banks row
  flat : payments_of (batch_in row).messages ≡ payments_in row
  phase : word row 0 ≡ a
  rank : word row 1 ≡ b
  memory : word row 6 ≡ c

made : (banks : ℕ) (row : List ℕ) → length row ≡ 349 → (phase rank memory : ℕ) → batch_words phase rank memory (batch_in row) ≡ row
    → RightBatch banks (batch_in row) → length (batch_in row).messages ≤ (batch_in row).count → Made banks row phase rank memory
unfolding batch_in
made banks row long phase rank memory e r l =
    let n : length (messages_in row 0 49 (word row 7)) ≡ word row 7 = messages_many row 0 49 (word row 7) in
    let few : word row 7 ≤ word row 4 = omega arith in
    let ten : word row 7 ≤ 10 = omega (arith, r.count.1) in
    let all = words_total row long ten phase rank memory e in
    let small : word row 8 ≤ 100 = omega (arith, few_right banks row long r, all) in
    let v = right_live banks row long r few all (words_behind row long ten phase rank memory e small) in
    record {
      live = v;
      flat = live_flat banks row long v;
      phase = sym (words_phase row long ten phase rank memory e);
      rank = sym (words_rank row long ten phase rank memory e);
      memory = sym (words_memory row long ten phase rank memory e);
    }

missing_in : (row : List ℕ) → length (batch_in row).messages < (batch_in row).count → word row 7 < word row 4
unfolding batch_in
missing_in row h = omega (arith, messages_many row 0 49 (word row 7))

timed_in : (row : List ℕ) → Given (batch_in row).activation → 1 ≤ word row 5
unfolding batch_in
timed_in row h = timed_given (word row 5) h

whole_in : (banks : ℕ) (row : List ℕ) → length row ≡ 349 → payments_of (batch_in row).messages ≡ payments_in row → Complete (batch_in row) → Whole row
unfolding batch_in
whole_in banks row long f c = complete_whole banks row long f c

module _ (banks : ℕ) (t : List ℕ) (h : RightTable banks t) where
  abbrev bs : Batches
  bs = batches_in t

  abbrev ms : List ℕ
  ms = memory_in t

  keeps : Stood banks bs
  keeps = stood banks bs h.batches

  lie : AllLie bs ms 0 bs.places
  lie = places_lie banks bs ms keeps h.memory

  right_long : length t ≡ 11168
  right_long = sym (ap length h.words) ∙ batches_long banks bs ms keeps h.memory

  says : AllAt (SaysIts bs ms) 0 (batch_rows t)
  unfolding batches_in
  says = words_rows bs ms 0 32 t lie h.words

  abbrev row_in : ℕ → List ℕ
  row_in p = get_or (batch_rows t) p []

  count_rows : length (batch_rows t) ≡ 32
  count_rows = rows_many 349 32 t

  module _ (p : ℕ) (b : p < 32) where
    full : length (row_in p) ≡ 349
    full = rows_wide 32 p t (omega (arith, right_long)) b

    its_words : place_words bs ms p (place_in (row_in p)) ≡ row_in p
    its_words = let z : 0 + p ≡ p = omega arith in rw z at (all_at (SaysIts bs ms) 0 p (batch_rows t) says (omega (arith, count_rows)))

    place_is : place_at bs p ≡ place_in (row_in p)
    unfolding batches_in
    place_is = place_at_lem (batch_rows t) p

    module _ (e : place_in (row_in p) ≡ live (batch_in (row_in p))) where
      live_words : batch_words (phase_of bs p) (rank_of bs p) (get_or ms p 0) (batch_in (row_in p)) ≡ row_in p
      live_words = rw e at its_words

      live_back : {x : Place} {i j : ℕ} → Standing banks x i j → x ≡ live (batch_in (row_in p)) → times p bs.pending ≡ i → times p bs.queue ≡ j → RowRight banks (row_in p)
      live_back vacant d i j = let z : ◌≡◌ {A = ℕ} 0 1 = cc in absurd (omega arith)
      live_back (building {b = x} r l) d i j =
          let f : x ≡ batch_in (row_in p) = cc in
          let q : member p bs.queue ≡ false = no_member p bs.queue j in
          let w : member p bs.pending ≡ false = no_member p bs.pending i in
          let y : batch_words 1 0 (get_or ms p 0) (batch_in (row_in p)) ≡ row_in p = rw (q, w) at live_words in
          let l' = rw f at l in
          let k = made banks (row_in p) full 1 0 (get_or ms p 0) y (rw f at r) (omega arith) in
          phase_is banks (row_in p) 1 k.phase
          (k.live, record { unranked = k.rank; untried = k.memory ∙ no_memory_lem bs ms h.memory p q; missing = missing_in (row_in p) l' })
      live_back (awaits {b = x} r c g) d i j =
          let f : x ≡ batch_in (row_in p) = cc in
          let q : member p bs.queue ≡ false = no_member p bs.queue j in
          let w : member p bs.pending ≡ true = a_member p bs.pending (omega arith) in
          let y : batch_words 2 (rank_in bs.pending p) (get_or ms p 0) (batch_in (row_in p)) ≡ row_in p = rw (q, w) at live_words in
          let c' : Complete (batch_in (row_in p)) = rw f at c in
          let k = made banks (row_in p) full 2 (rank_in bs.pending p) (get_or ms p 0) y (rw f at r) (omega (arith, c'.whole)) in
          phase_is banks (row_in p) 2 k.phase (
            k.live,
            record {
              whole = whole_in banks (row_in p) full k.flat c';
              timed = timed_in (row_in p) (rw f at g);
              untried = k.memory ∙ no_memory_lem bs ms h.memory p q;
            },
          )
      live_back (stands {b = x} r c) d i j =
          let f : x ≡ batch_in (row_in p) = cc in
          let q : member p bs.queue ≡ true = a_member p bs.queue (omega arith) in
          let y : batch_words 3 (rank_in bs.queue p) (get_or ms p 0) (batch_in (row_in p)) ≡ row_in p = rw q at live_words in
          let c' : Complete (batch_in (row_in p)) = rw f at c in
          let k = made banks (row_in p) full 3 (rank_in bs.queue p) (get_or ms p 0) y (rw f at r) (omega (arith, c'.whole)) in
          phase_is banks (row_in p) 3 k.phase (
            k.live,
            record {
              whole = whole_in banks (row_in p) full k.flat c';
              memory = remembers bs ms h.memory p (payments_in (row_in p)) (rw (place_is, e) k.flat) (word (row_in p) 6) (sym k.memory);
            },
          )

    row_right : (w : ℕ) → word (row_in p) 0 ≡ w → RowRight banks (row_in p)
    row_right zero e =
        phase_is banks (row_in p) 0 e
        (rw (sym (rw (free_in (row_in p) e) at its_words)) (all_zero 349))
    row_right (suc n) e =
        let f = live_in (row_in p) n e in
        live_back f (keeps.each p) (place_is ∙ f) refl refl

  orders : Once bs.queue → Once bs.pending → BatchRules banks t
  unfolding batches_in
  orders oq op =
      let z : place_rows bs ms 0 bs.places ≡ batch_rows t = sym (whole bs ms keeps.long lie) ∙ ap batch_rows h.words in
      record {
        long = right_long;
        rows = each_from banks (batch_rows t) (λ p b. row_right p (omega (arith, count_rows)) (word (row_in p) 0) refl);
        pending = told_ranked pending_phase bs.pending op (batch_rows t) (ranked_many pending_phase (batch_rows t)) (rw z at (pending_all bs ms oq op 0 bs.places lie));
        queue = told_ranked queued_phase bs.queue oq (batch_rows t) (ranked_many queued_phase (batch_rows t)) (rw z at (queue_all bs ms oq op 0 bs.places lie));
      }

  pub right_rules : BatchRules banks t
  right_rules =
      orders
      (times_once bs.queue (λ p. omega (arith, at_most_once banks (keeps.each p))))
      (times_once bs.pending (λ p. omega (arith, at_most_once banks (keeps.each p))))

-- the rules of the rows, and the batches' part of `Right`, follow from each other
pub rules_exact : (banks : ℕ) (t : List ℕ) → Both (BatchRules banks t) (RightTable banks t)
rules_exact banks t = record { to = rules_right banks t; back = right_rules banks t }
