-- The rows of the batch places say places, orders and memory.
use Prim.Native.Nat.{ℕ, suc, ◌+◌, ◌*◌, ◌<◌}
use mathlib.Core.Path.{◌≡◌, refl, sym, ap, ◌∙◌}
use mathlib.Core.Bool.{true, false, false≢true}
use mathlib.Core.List.{List, [], ◌∷◌, map}
use native.Mathlib.Omega.{arith}
use lib.Dec.{eqb}
use lib.ListN.{length, get_or, drop, length-append, length-replicate, drop_of_length-le}
use lib.Seq.{take_at, drop_at, drop-cons}
use Rattle.chars.specs.Words.{member}
use Rattle.queue.specs.Promise.{All, Once}
use Rattle.queue.proofs.MemoryLaws.{by_bool}
use Rattle.model.specs.State.{Batch, Place, free, live, Batches}
use Rattle.tables.specs.Rows.{rows, word, place_in, pending_phase, queued_phase, batch_rows, batches_in, memory_in}
use Rattle.tables.specs.Words.{batch_words, phase_of, rank_of, place_words, places_words}
use Rattle.tables.proofs.Rowing.{Fits, batch_long, batch_back}
use Rattle.tables.proofs.Ranking.{Tells, AllTell, ranks_back}

module _ (b : Batches) (m : List ℕ) where
  -- what the place p is asked: a free one is in no order and holds no memory, a live one fits and is in one order at the most
  abbrev pub Lies : ℕ → Place → Type 0
  Lies p free = (member p b.queue ≡ false) × (member p b.pending ≡ false) × (get_or m p 0 ≡ 0)
  Lies p (live x) = Fits x × (member p b.queue ≡ true → member p b.pending ≡ false)

  abbrev pub AllLie : ℕ → List Place → Type 0
  AllLie p [] = Unit {0}
  AllLie p (x ∷ xs) = Lies p x × AllLie (p + 1) xs

  abbrev pub place_rows : ℕ → List Place → List (List ℕ)
  place_rows p [] = []
  place_rows p (x ∷ xs) = place_words b m p x ∷ place_rows (p + 1) xs

  -- ---- the rows

  rows_many : (p : ℕ) (xs : List Place) → length xs ≡ length (place_rows p xs)
  rows_many p [] = refl
  rows_many p (x ∷ xs) = ap suc (rows_many (p + 1) xs)

  pub place_long : (p : ℕ) (x : Place) → Lies p x → length (place_words b m p x) ≡ 349
  place_long p free h = length-replicate {A = ℕ} 349 0
  place_long p (live x) h = batch_long (phase_of b p) (rank_of b p) (get_or m p 0) x h.0

  pub rows_back : (p : ℕ) (xs : List Place) → AllLie p xs → rows 349 (length xs) (places_words b m p xs) ≡ place_rows p xs
  unfolding rows places_words
  rows_back p [] h = refl
  rows_back p (x ∷ xs) h =
      let l = place_long p x h.0 in
      rw (take_at (place_words b m p x) (places_words b m (p + 1) xs) 349 l, drop_at (place_words b m p x) (places_words b m (p + 1) xs) 349 l, rows_back (p + 1) xs h.1)

  pub places_long : (p : ℕ) (xs : List Place) → AllLie p xs → length (places_words b m p xs) ≡ 349 * length xs
  unfolding places_words
  places_long p [] h = refl
  places_long p (x ∷ xs) h = omega (arith, length-append (place_words b m p x) (places_words b m (p + 1) xs), place_long p x h.0, places_long (p + 1) xs h.1)

  -- ---- places

  pub some_phase : (p : ℕ) → eqb (phase_of b p) 0 ≡ false
  some_phase p = by_bool (member p b.queue) (λ e. rw e) (λ e. by_bool (member p b.pending) (λ f. rw (e, f)) (λ f. rw (e, f)))

  pub live_back : (phase rank memory : ℕ) (x : Batch) → Fits x → eqb phase 0 ≡ false → place_in (batch_words phase rank memory x) ≡ live x
  unfolding place_in batch_words
  live_back phase rank memory x f e = rw (e, batch_back phase rank memory x f)

  pub place_back : (p : ℕ) (x : Place) → Lies p x → place_in (place_words b m p x) ≡ x
  unfolding place_in
  place_back p free h = refl
  place_back p (live x) h = live_back (phase_of b p) (rank_of b p) (get_or m p 0) x h.0 (some_phase p)

  places_back : (p : ℕ) (xs : List Place) → AllLie p xs → map place_in (place_rows p xs) ≡ xs
  places_back p [] h = refl
  places_back p (x ∷ xs) h = rw (place_back p x h.0, places_back (p + 1) xs h.1)

  -- ---- memory

  pub word_back : (p : ℕ) (x : Place) → Lies p x → word (place_words b m p x) 6 ≡ get_or m p 0
  unfolding batch_words
  word_back p free h = sym h.2
  word_back p (live x) h = refl

  words_back : (p : ℕ) (xs : List Place) → AllLie p xs → length m ≡ p + length xs → map (λ row. word row 6) (place_rows p xs) ≡ drop p m
  words_back p [] h l = sym (drop_of_length-le m {i = p} (omega arith))
  words_back p (x ∷ xs) h l =
      let s : p + 1 ≡ suc p = omega arith in
      rw (word_back p x h.0, words_back (p + 1) xs h.1 (omega arith), s) (sym (drop-cons m p 0 (omega arith)))

  -- ---- the orders

  module _ (oq : Once b.queue) (op : Once b.pending) where
    queue_told : (p : ℕ) (x : Place) → Lies p x → Tells queued_phase b.queue oq p (place_words b m p x)
    unfolding batch_words
    queue_told p free h = record { on = sym h.0; rank = λ e. absurd (false≢true (sym h.0 ∙ e)) }
    queue_told p (live x) h = record {
      on = by_bool (member p b.queue) (λ e. rw e) (λ e. by_bool (member p b.pending) (λ f. rw (e, f)) (λ f. rw (e, f)));
      rank = λ e. rw e;
    }

    pending_told : (p : ℕ) (x : Place) → Lies p x → Tells pending_phase b.pending op p (place_words b m p x)
    unfolding batch_words
    pending_told p free h = record { on = sym h.1; rank = λ e. absurd (false≢true (sym h.1 ∙ e)) }
    pending_told p (live x) h = record {
      on = by_bool (member p b.queue) (λ e. rw (e, h.1 e)) (λ e. by_bool (member p b.pending) (λ f. rw (e, f)) (λ f. rw (e, f)));
      rank = λ f. by_bool (member p b.queue) (λ e. absurd (false≢true (sym (h.1 e) ∙ f))) (λ e. rw (e, f));
    }

    pub queue_all : (p : ℕ) (xs : List Place) → AllLie p xs → AllTell queued_phase b.queue oq p (place_rows p xs)
    queue_all p [] h = tt
    queue_all p (x ∷ xs) h = (queue_told p x h.0, queue_all (p + 1) xs h.1)

    pub pending_all : (p : ℕ) (xs : List Place) → AllLie p xs → AllTell pending_phase b.pending op p (place_rows p xs)
    pending_all p [] h = tt
    pending_all p (x ∷ xs) h = (pending_told p x h.0, pending_all (p + 1) xs h.1)

  -- ---- the whole

  module _ (long : length b.places ≡ 32) (h : AllLie 0 b.places) where
    pub whole : batch_rows (places_words b m 0 b.places) ≡ place_rows 0 b.places
    whole = ap (λ (n : ℕ). rows 349 n (places_words b m 0 b.places)) (sym long) ∙ rows_back 0 b.places h

    many : 32 ≡ length (place_rows 0 b.places)
    many = sym long ∙ rows_many 0 b.places

    pub batches_back : Once b.queue → Once b.pending → All (λ p. p < 32) b.queue → All (λ p. p < 32) b.pending → batches_in (places_words b m 0 b.places) ≡ b
    unfolding batches_in
    batches_back oq op q w =
        rw (
          whole,
          places_back 0 b.places h,
          ranks_back pending_phase b.pending op (place_rows 0 b.places) 32 many (pending_all oq op 0 b.places h) w,
          ranks_back queued_phase b.queue oq (place_rows 0 b.places) 32 many (queue_all oq op 0 b.places h) q,
        )

    pub memory_back : length m ≡ 32 → memory_in (places_words b m 0 b.places) ≡ m
    unfolding memory_in
    memory_back l = rw whole (words_back 0 b.places h (omega arith))
