-- The lent tables hold every state that keeps the rules.
use Prim.Native.Nat.{ℕ, zero, suc, ◌+◌, ◌*◌, ◌-◌, ◌≤◌, ◌<◌}
use mathlib.Core.Path.{◌≡◌, refl, sym, ap, ◌∙◌}
use mathlib.Core.Bool.{false, false≢true}
use mathlib.Core.List.{List, [], ◌∷◌, ◌++◌}
use native.Mathlib.Omega.{arith}
use lib.Dec.{ltb}
use lib.ListN.{length, get_or, drop, replicate, length-append, get_or-eq_default}
use borrow.Author.Tests.{ltb-true, ltb-false}
use Rattle.chars.specs.Words.{member}
use Rattle.book_read.specs.Book.{each}
use Rattle.book_read.specs.Accounts.{Stream, stream_row}
use Rattle.book_write.specs.Closing.{stream_of}
use Rattle.queue.proofs.MemoryLaws.{by_bool}
use Rattle.book_read.specs.Range.{Each}
use Rattle.model.specs.State.{Message, Batch, Place, free, Batches, Entry, payments_of}
use Rattle.model.specs.Calls.{Engine}
use Rattle.model.specs.Rules.{RightMessage, RightBatch, Valid, RightMemory}
use Rattle.model.proofs.Counting.{times, times_once, times_all, no_member}
use Rattle.model.proofs.Standing.{Standing, vacant, building, awaits, stands, Stood, at_most_once}
use Rattle.model.proofs.Validity.{valid_kept, known_in}
use Rattle.tables.specs.Rows.{rows, batches_in, memory_in, entries_in, state_in, engine_in}
use Rattle.tables.specs.Words.{filled, places_words, entries_words, total_of, sheet_words, sheet_length, tables_of, desk_of}
use Rattle.book_read.proofs.Filling.{each_length}
use Rattle.tables.specs.Lent.{Long}
use Rattle.tables.proofs.Rowing.{at_word, past, EachLettered, Fits}
use Rattle.tables.proofs.Batching.{Lies, AllLie, places_long, batches_back, memory_back}

-- ---- references and BINs

entries_back : (es : List Entry) → entries_in (length es) (entries_words es) ≡ es
unfolding entries_in rows entries_words
entries_back [] = refl
entries_back (e ∷ es) = ap (λ (l : List Entry). e ∷ l) (entries_back es)

known_back : (n : ℕ) (es : List Entry) → length es ≡ n → entries_in n (entries_words es) ≡ es
known_back n es h = rw (sym h) (entries_back es)

entries_long : (es : List Entry) → length (entries_words es) ≡ 3 * length es
unfolding entries_words
entries_long [] = refl
entries_long (e ∷ es) = omega (arith, entries_long es)

-- ---- streams

next_stream : (i : ℕ) → 2 * (i + 1) ≡ 2 * i + 2
next_stream i = omega arith

streams_from_lem : (row : List ℕ) (i : ℕ) (xs : List Stream) (rest : List ℕ) → drop (2 * i) row ≡ stream_row xs ++ rest → each (stream_of row) i (length xs) ≡ xs
streams_from_lem row i [] rest h = refl
streams_from_lem row i (x ∷ xs) rest h =
    let w = stream_row (x ∷ xs) ++ rest in
    let a : get_or row (2 * i) 0 ≡ x.code = ap (λ (n : ℕ). get_or row n 0) (omega arith) ∙ at_word row (2 * i) 0 w h in
    let b : get_or row (2 * i + 1) 0 ≡ x.sender = at_word row (2 * i) 1 w h in
    let t : drop (2 * (i + 1)) row ≡ stream_row xs ++ rest = ap (λ (n : ℕ). drop n row) (next_stream i) ∙ past row (2 * i) 2 w h in
    rw (a, b, streams_from_lem row (i + 1) xs rest t)

streams_back : (xs : List Stream) → each (stream_of (filled 16 (stream_row xs))) 0 (length xs) ≡ xs
streams_back xs = streams_from_lem (filled 16 (stream_row xs)) 0 xs (replicate (16 - length (stream_row xs)) 0) refl

-- ---- what the rules say of a place

messages_lettered : (banks n : ℕ) (ms : List Message) → Each (RightMessage banks n) ms → EachLettered ms
messages_lettered banks n [] h = tt
messages_lettered banks n (m ∷ ms) h = (h.0.lettered, messages_lettered banks n ms h.1)

-- "1 to 10 payments in a message"
pub messages_small : (banks n : ℕ) (ms : List Message) → Each (RightMessage banks n) ms → length (payments_of ms) ≤ 10 * length ms
messages_small banks n [] h = omega arith
messages_small banks n (m ∷ ms) h = omega (arith, length-append m.payments (payments_of ms), h.0.few, messages_small banks n ms h.1)

pub messages_fit : (banks : ℕ) (x : Batch) → x.count ≤ 10 → Each (RightMessage banks x.count) x.messages → length x.messages ≤ x.count → Fits x
messages_fit banks x c r l =
    let f : length x.messages ≤ 10 = omega arith in
    record {
      few = f;
      small = omega (arith, messages_small banks x.count x.messages r);
      lettered = messages_lettered banks x.count x.messages r;
    }

batch_fits : (banks : ℕ) (x : Batch) → RightBatch banks x → length x.messages ≤ x.count → Fits x
batch_fits banks x r l = messages_fit banks x r.count.1 r.messages l

module _ (banks : ℕ) (b : Batches) (m : List ℕ) (s : Stood banks b) (r : RightMemory b m) where
  -- a place that is not queued holds no memory
  no_memory_lem : (p : ℕ) → member p b.queue ≡ false → get_or m p 0 ≡ 0
  no_memory_lem p e = go (get_or m p 0) refl
    where
      go : (n : ℕ) → get_or m p 0 ≡ n → n ≡ 0
      go zero f = refl
      go (suc k) f = absurd (false≢true (sym e ∙ (r.held p k f).0))

  lies : (p : ℕ) {x : Place} {i j : ℕ} → Standing banks x i j → times p b.pending ≡ i → times p b.queue ≡ j → Lies b m p x
  lies p vacant e f = let q = no_member p b.queue f in (q, no_member p b.pending e, no_memory_lem p q)
  lies p (building {b = x} h l) e f = (batch_fits banks x h (omega arith), λ q. no_member p b.pending e)
  lies p (awaits {b = x} h c g) e f = (batch_fits banks x h (omega (arith, c.whole)), λ q. absurd (false≢true (sym (no_member p b.queue f) ∙ q)))
  lies p (stands {b = x} h c) e f = (batch_fits banks x h (omega (arith, c.whole)), λ q. no_member p b.pending e)

  all_lie : (p : ℕ) (xs : List Place) → ((i : ℕ) → Lies b m (p + i) (get_or xs i free)) → AllLie b m p xs
  all_lie p [] h = tt
  all_lie p (x ∷ xs) h = (rw here at (h 0), all_lie (p + 1) xs (λ i. rw (there i) (h (suc i))))
    where
      here : p + 0 ≡ p
      here = omega arith

      there : (i : ℕ) → p + 1 + i ≡ p + suc i
      there i = omega arith

  pub places_lie : AllLie b m 0 b.places
  places_lie = all_lie 0 b.places (λ i. let e : 0 + i ≡ i = omega arith in rw e (lies i (s.each i) refl refl))

  -- only a live place is in an order, and it is one of the 32
  none_free : {x : Place} {i j : ℕ} → x ≡ free → Standing banks x i j → i + j ≡ 0
  none_free e vacant = refl
  none_free e (building h l) = refl
  none_free e (awaits h c g) = let z : ◌≡◌ {A = ℕ} 0 1 = cc in absurd (omega arith)
  none_free e (stands h c) = let z : ◌≡◌ {A = ℕ} 0 1 = cc in absurd (omega arith)

  inside : (p : ℕ) → 0 < times p b.pending + times p b.queue → p < 32
  inside p h =
      by_bool (ltb p 32)
      (λ e. ltb-true p 32 e)
      (λ e. absurd (omega (arith, none_free (get_or-eq_default b.places free {n = p} (omega (arith, ltb-false p 32 e, s.long))) (s.each p))))

  pub batches_held : ◌≡◌ {A = Batches} (batches_in (places_words b m 0 b.places)) b
  batches_held =
      batches_back b m s.long places_lie
      (times_once b.queue (λ p. omega (arith, at_most_once banks (s.each p))))
      (times_once b.pending (λ p. omega (arith, at_most_once banks (s.each p))))
      (times_all (λ p. p < 32) b.queue (λ p h. inside p (omega arith)))
      (times_all (λ p. p < 32) b.pending (λ p h. inside p (omega arith)))

  pub batches_long : length (places_words b m 0 b.places) ≡ 11168
  batches_long = omega (arith, places_long b m 0 b.places places_lie, s.long)

  pub memory_held : memory_in (places_words b m 0 b.places) ≡ m
  memory_held = memory_back b m s.long places_lie r.long

-- ---- the whole

pub sheet_long : (b : Batches) → length (sheet_words b) ≡ sheet_length
unfolding sheet_words
sheet_long b = each_length (total_of b) 0 64

-- the tables of a state that keeps the rules have the right lengths
pub held_long : (e : Engine) → Valid e.state → RightMemory e.state.batches e.memory → Long (tables_of e)
unfolding tables_of
held_long e v r =
    let k = known_in e.state e.state.day.phase v in
    let s = valid_kept e.state v in
    record {
      codes = s.house.codes_long;
      flags = s.house.flags_long;
      balances = s.house.balances_long;
      sublimits = s.house.sublimits_long;
      batches = batches_long e.state.house.banks e.state.batches e.memory s.batches r;
      references = omega (arith, entries_long e.state.known.references, k.references_long);
      bins = omega (arith, entries_long e.state.known.bins, k.bins_long);
      sheet = sheet_long e.state.batches;
    }

pub held : (e : Engine) → Valid e.state → RightMemory e.state.batches e.memory → engine_in (desk_of e.state) (tables_of e) ≡ e
unfolding engine_in state_in desk_of tables_of
held e v r =
    let k = known_in e.state e.state.day.phase v in
    let s = (valid_kept e.state v).batches in
    rw (
      streams_back e.state.house.streams,
      batches_held e.state.house.banks e.state.batches e.memory s r,
      memory_held e.state.house.banks e.state.batches e.memory s r,
      known_back 2048 e.state.known.references k.references_long,
      known_back 512 e.state.known.bins k.bins_long,
    )
