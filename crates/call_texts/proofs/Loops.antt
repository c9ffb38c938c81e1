-- Laws of the functions: one text, the messages of a row, the tries, the remembered BINs.
use Rattle.std.specs.Prelude.{Option, Some, None}
use Prim.Native.Nat.{ℕ, zero, suc, ◌+◌, ◌-◌, ◌*◌, ◌/◌, ◌%◌, ◌≤◌, ◌<◌}
use mathlib.Core.Path.{◌≡◌, refl, sym, ap, subst, ◌∙◌}
use mathlib.Core.Bool.{Bool, true, false, not, cond, false≢true}
use mathlib.Core.List.{List, [], ◌∷◌, ◌++◌, map, append-nil}
use native.Mathlib.Omega.{arith}
use native.Mathlib.Numerals.{add-one}
use borrow.Author.Tests.{eq-eqb, ne_eqb, not-true, not-false}
use lib.Dec.{eqb}
use lib.ListN.{length, get_or, take, drop, length-drop, length-map, drop_of_length-le, get_or-map, get_or-eq_default}
use lib.Seq.{sets, drop-cons, get_or-take, get_or-drop, length-take-le}
use Rattle.chars.specs.Refusals.{number_of}
use Rattle.chars.specs.declared.Refusal.TheVariants.{Unsettled}
use Rattle.codes.specs.declared.Code.{Code}
use Rattle.dates.specs.Dates.{is_remembered}
use Rattle.text_names.specs.rules.Names.{bin_stream}
use Rattle.text_names.proofs.rules.Laws.{same_code_lem}
use Rattle.response_write.specs.Texts.{settlement_text, recall_text}
use Rattle.response_write.specs.declared.Outcome.{Outcome}
use Rattle.response_write.specs.declared.Outcome.TheVariants.{Settled, Rejected}
use Rattle.response_write.specs.declared.Answer.{Answer}
use Rattle.queue.specs.Tests.{passed_of}
use Rattle.queue.proofs.MemoryLaws.{by_bool}
use Rattle.model.specs.State.{on_found, has_bin, Place, free, live, Entry, place_at, place_messages, place_bin, batch_of}
use Rattle.model.specs.Replies.{Reply, settlement, recall, replies_to, text_of, texts_from}
use Rattle.model.specs.Ending.{settled_replies, close_replies}
use Rattle.model.proofs.Seeking.{seek_answers, by_found}
use Rattle.tables.specs.Seeking.{found_by}
use Rattle.tables.specs.Rows.{rows, word, code_at, messages_in, batch_in, place_in, batch_rows, entry_in, entries_in}
use Rattle.tables.proofs.RowLaws.{row_at, rows_cut, rows_end}
use Rattle.tables.proofs.MemoryLaws.{rows_long}
use Rattle.call_texts.specs.Writing.{Wrote, Room, Legible, batches_on, replies_at, replies_in, replies_from, day_at, arrived_at}
use Rattle.call_texts.proofs.Laws.{room_first, wrote_none, wrote_long, wrote_rest, wrote_end, wrote_count, room_rest}

-- ---- one text

module _ (out : List ℕ) (from n : ℕ) (y : Reply) where
  one_text : texts_from n (y ∷ []) ≡ text_of (n + 1) y
  unfolding texts_from
  one_text = append-nil (text_of (n + 1) y)

  one_room : Room out from n (y ∷ []) → from + length (text_of (n + 1) y) ≤ length out
  one_room r = omega (arith, r.fits, ap length one_text)

  one_wrote : {out' : List ℕ} {e : ℕ} → e ≡ from + length (text_of (n + 1) y) → out' ≡ sets out from (text_of (n + 1) y) → Wrote out from n (y ∷ []) out' e (n + 1)
  one_wrote p q = record { bytes = q ∙ ap (sets out from) (sym one_text); end = p ∙ ap (λ (l : List ℕ). from + length l) (sym one_text); count = refl }

module _ (out : List ℕ) (from n : ℕ) (reference bin : Code) (o : Outcome) {s : ℕ} (is : s ≡ bin_stream bin) where
  message_text_lem : settlement_text (record { number = n + 1; reference = reference; stream = s; bin = bin; outcome = o }) ≡ text_of (n + 1) (settlement reference bin o)
  unfolding text_of
  message_text_lem = rw is

  pub message_room : Room out from n (settlement reference bin o ∷ [])
      → from + length (settlement_text (record { number = n + 1; reference = reference; stream = s; bin = bin; outcome = o })) ≤ length out
  message_room r = rw message_text_lem (one_room out from n (settlement reference bin o) r)

  pub message_wrote : {out' : List ℕ} {e : ℕ}
      → e ≡ from + length (settlement_text (record { number = n + 1; reference = reference; stream = s; bin = bin; outcome = o }))
      → out' ≡ sets out from (settlement_text (record { number = n + 1; reference = reference; stream = s; bin = bin; outcome = o }))
      → Wrote out from n (settlement reference bin o ∷ []) out' e (n + 1)
  message_wrote p q =
      one_wrote out from n (settlement reference bin o) (p ∙ ap (λ (l : List ℕ). from + length l) message_text_lem) (q ∙ ap (sets out from) message_text_lem)

module _ (out : List ℕ) (from n : ℕ) (reference : Code) (a : Answer) where
  pub recall_room : Room out from n (recall reference a ∷ []) → from + length (recall_text (record { number = n + 1; reference = reference; answer = a })) ≤ length out
  unfolding text_of
  recall_room r = one_room out from n (recall reference a) r

  pub recall_wrote : {out' : List ℕ} {e : ℕ}
      → e ≡ from + length (recall_text (record { number = n + 1; reference = reference; answer = a }))
      → out' ≡ sets out from (recall_text (record { number = n + 1; reference = reference; answer = a }))
      → Wrote out from n (recall reference a ∷ []) out' e (n + 1)
  unfolding text_of
  recall_wrote p q = one_wrote out from n (recall reference a) p q

-- ---- a loop that has written all but the rest

pub record Onward (out₀ : List ℕ) (from₀ n₀ : ℕ) (all : List Reply) (out : List ℕ) (from n : ℕ) (rest : List Reply) : Type 0 where
  pub room : Room out from n rest
  pub bytes : sets out from (texts_from n rest) ≡ sets out₀ from₀ (texts_from n₀ all)
  pub end : from + length (texts_from n rest) ≡ from₀ + length (texts_from n₀ all)
  pub count : n + length rest ≡ n₀ + length all
  pub size : length out ≡ length out₀

onward_start : {out : List ℕ} {from n : ℕ} {all : List Reply} → Room out from n all → Onward out from n all out from n all
onward_start r = record { room = r; bytes = refl; end = refl; count = refl; size = refl }

module _ {out₀ : List ℕ} {from₀ n₀ : ℕ} {all : List Reply} {out : List ℕ} {from n : ℕ} where
  onward_done : Onward out₀ from₀ n₀ all out from n [] → Wrote out₀ from₀ n₀ all out from n
  unfolding texts_from
  onward_done h = record { bytes = h.bytes; end = omega (arith, h.end); count = omega (arith, h.count) }

  module _ (rs ss rest : List Reply) (is : rest ≡ rs ++ ss) (h : Onward out₀ from₀ n₀ all out from n rest) where
    onward_room : Room out from n rs
    onward_room = room_first n rs ss (subst (Room out from n) is h.room)

    onward_turn : {out' : List ℕ} {from' n' : ℕ} → Wrote out from n rs out' from' n' → Onward out₀ from₀ n₀ all out' from' n' ss
    onward_turn w = record {
      room = room_rest w ss (subst (Room out from n) is h.room);
      bytes = wrote_rest w ss ∙ ap (λ (l : List Reply). sets out from (texts_from n l)) (sym is) ∙ h.bytes;
      end = wrote_end w ss ∙ ap (λ (l : List Reply). from + length (texts_from n l)) (sym is) ∙ h.end;
      count = wrote_count w ss ∙ ap (λ (l : List Reply). n + length l) (sym is) ∙ h.count;
      size = wrote_long w ∙ h.size;
    }

-- ---- the messages of a row

module _ (row : List ℕ) (bin : Code) (o : Outcome) where
  row_replies : (i j n : ℕ) → replies_to (messages_in row i j n) bin o ≡ replies_from row bin o i n
  unfolding replies_to messages_in replies_from
  row_replies i j zero = refl
  row_replies i j (suc n) = ap (λ (l : List Reply). settlement (code_at row (9 + 4 * i)) bin o ∷ l) (row_replies (i + 1) (j + 3 * word row (12 + 4 * i)) n)

  from_cut : (n i : ℕ) → i < n
      → replies_from row bin o i (n - i) ≡ (settlement (code_at row (9 + 4 * i)) bin o ∷ []) ++ replies_from row bin o (i + 1) (n - (i + 1))
  unfolding replies_from
  from_cut n i h = let e : n - i ≡ suc (n - (i + 1)) = omega arith in rw e

module _ (row : List ℕ) (n : ℕ) (bin : Code) (o : Outcome) (out₀ : List ℕ) (from₀ n₀ : ℕ) where
  -- message i is next
  abbrev pub Telling : List ℕ → (from texts i : ℕ) → Type 0
  Telling out from texts i = Onward out₀ from₀ n₀ (replies_from row bin o 0 n) out from texts (replies_from row bin o i (n - i))

  pub telling_start : Room out₀ from₀ n₀ (replies_from row bin o 0 n) → Telling out₀ from₀ n₀ 0
  telling_start r = let e : n - 0 ≡ n = omega arith in rw e (onward_start r)

  module _ (out : List ℕ) (from texts i : ℕ) (h : Telling out from texts i) where
    module _ (more : i < n) where
      pub telling_room : Room out from texts (settlement (code_at row (9 + 4 * i)) bin o ∷ [])
      telling_room = onward_room (settlement (code_at row (9 + 4 * i)) bin o ∷ []) (replies_from row bin o (i + 1) (n - (i + 1))) _ (from_cut row bin o n i more) h

      pub telling_turn : {out' : List ℕ} {from' texts' : ℕ} → Wrote out from texts (settlement (code_at row (9 + 4 * i)) bin o ∷ []) out' from' texts'
          → Telling out' from' texts' (i + 1)
      telling_turn w = onward_turn (settlement (code_at row (9 + 4 * i)) bin o ∷ []) (replies_from row bin o (i + 1) (n - (i + 1))) _ (from_cut row bin o n i more) h w

    pub telling_done : n ≤ i → Wrote out₀ from₀ n₀ (replies_from row bin o 0 n) out from texts
    unfolding replies_from
    telling_done k =
        let e : n - i ≡ 0 = omega arith in
        onward_done (subst (λ (m : ℕ). Onward out₀ from₀ n₀ (replies_from row bin o 0 n) out from texts (replies_from row bin o i m)) e h)

-- ---- a row

messages_many : (row : List ℕ) (i j n : ℕ) → length (messages_in row i j n) ≡ n
unfolding messages_in
messages_many row i j zero = refl
messages_many row i j (suc n) = ap suc (messages_many row (i + 1) (j + 3 * word row (12 + 4 * i)) n)

module _ (row : List ℕ) (o : Outcome) where
  free_none : word row 0 ≡ 0 → replies_in row o ≡ []
  unfolding place_in replies_to
  free_none e = rw (eq-eqb (word row 0) 0 e)

  pub free_wrote : word row 0 ≡ 0 → (out : List ℕ) (from n : ℕ) → Wrote out from n (replies_in row o) out from n
  free_wrote e out from n = subst (λ (rs : List Reply). Wrote out from n rs out from n) (sym (free_none e)) (wrote_none out from n)

  module _ (live : word row 0 ≡ 0 → ⊥) where
    pub live_few : length (place_messages (place_in row)) ≤ 10 → word row 7 ≤ 10
    unfolding place_in batch_in
    live_few h = let g : length (messages_in row 0 49 (word row 7)) ≤ 10 = rw (ne_eqb (word row 0) 0 live) at h in omega (arith, messages_many row 0 49 (word row 7))

    live_replies : replies_in row o ≡ replies_from row (code_at row 2) o 0 (word row 7)
    unfolding place_in batch_in
    live_replies = rw (ne_eqb (word row 0) 0 live) (row_replies row (code_at row 2) o 0 49 (word row 7))

    module _ (out : List ℕ) (from n : ℕ) where
      pub live_room : Room out from n (replies_in row o) → Room out from n (replies_from row (code_at row 2) o 0 (word row 7))
      live_room r = subst (Room out from n) live_replies r

      pub live_wrote : {out' : List ℕ} {from' n' : ℕ} → Wrote out from n (replies_from row (code_at row 2) o 0 (word row 7)) out' from' n' → Wrote out from n (replies_in row o) out' from' n'
      live_wrote {out'} {from'} {n'} w = subst (λ (rs : List Reply). Wrote out from n rs out' from' n') (sym live_replies) w

-- ---- a place

-- its row, as it is lent
abbrev pub row_of : List ℕ → ℕ → List ℕ
row_of t p = take (p * 349 + 349 - p * 349) (drop (p * 349) t)

module _ (t : List ℕ) (p : ℕ) where
  past_free : 32 ≤ p → place_at (batches_on t) p ≡ free
  past_free h = get_or-eq_default (map place_in (batch_rows t)) free {n = p} (omega (arith, length-map (batch_rows t) place_in, rows_long 349 32 t))

  place_there : p < 32 → place_at (batches_on t) p ≡ place_in (row_of t p)
  unfolding place_in
  place_there h =
      let e : p * 349 + 349 - p * 349 ≡ 349 = omega arith in
      rw e (get_or-map place_in (batch_rows t) p [] ∙ ap place_in (row_at 349 32 p t [] h))

  module _ (o : Outcome) where
    pub past_wrote : 32 ≤ p → (out : List ℕ) (from n : ℕ) → Wrote out from n (replies_at t p o) out from n
    unfolding replies_to
    past_wrote h out from n = rw (past_free h) (wrote_none out from n)

    module _ (h : p < 32) (g : Legible t) where
      pub row_long : length (row_of t p) ≡ 349
      row_long =
          let e : p * 349 + 349 - p * 349 ≡ 349 = omega arith in
          rw e (length-take-le 349 (drop (p * 349) t) (rw length-drop (omega (arith, g.long))))

      pub row_few : length (place_messages (place_in (row_of t p))) ≤ 10
      row_few = subst (λ (x : Place). length (place_messages x) ≤ 10) (place_there h) (g.few p)

      same_replies : replies_at t p o ≡ replies_in (row_of t p) o
      same_replies = ap (λ (x : Place). replies_to (place_messages x) (place_bin x) o) (place_there h)

      module _ (out : List ℕ) (from n : ℕ) where
        pub row_room : Room out from n (replies_at t p o) → Room out from n (replies_in (row_of t p) o)
        row_room r = subst (Room out from n) same_replies r

        pub row_wrote : {out' : List ℕ} {from' n' : ℕ} → Wrote out from n (replies_in (row_of t p) o) out' from' n' → Wrote out from n (replies_at t p o) out' from' n'
        row_wrote {out'} {from'} {n'} w = subst (λ (rs : List Reply). Wrote out from n rs out' from' n') (sym same_replies) w

-- ---- the tries

module _ (t : List ℕ) (date clock : ℕ) where
  abbrev pub told : List ℕ → List Reply
  told ts = settled_replies (day_at date clock) (batches_on t) (passed_of ts)

  told_cut : (x : ℕ) (ts : List ℕ) → told (x ∷ ts) ≡ told (x ∷ []) ++ told ts
  unfolding passed_of settled_replies
  told_cut x ts =
      by_bool (eqb (x % 2) 1)
      (λ e. rw (e, append-nil (replies_at t (x / 2) (Settled date clock))))
      (λ e. rw e)

  module _ (x : ℕ) (out : List ℕ) (from n : ℕ) where
    pub try_failed : (x % 2 ≡ 1 → ⊥) → Wrote out from n (told (x ∷ [])) out from n
    unfolding passed_of settled_replies
    try_failed h = rw (ne_eqb (x % 2) 1 h) (wrote_none out from n)

    module _ (h : x % 2 ≡ 1) where
      passed_replies : told (x ∷ []) ≡ replies_at t (x / 2) (Settled date clock)
      unfolding passed_of settled_replies
      passed_replies = rw (eq-eqb (x % 2) 1 h) (append-nil (replies_at t (x / 2) (Settled date clock)))

      pub passed_room : Room out from n (told (x ∷ [])) → Room out from n (replies_at t (x / 2) (Settled date clock))
      passed_room r = subst (Room out from n) passed_replies r

      pub passed_wrote : {out' : List ℕ} {from' n' : ℕ} → Wrote out from n (replies_at t (x / 2) (Settled date clock)) out' from' n'
          → Wrote out from n (told (x ∷ [])) out' from' n'
      passed_wrote {out'} {from'} {n'} w = subst (λ (rs : List Reply). Wrote out from n rs out' from' n') (sym passed_replies) w

  module _ (tries : List ℕ) (k : ℕ) (out₀ : List ℕ) (from₀ n₀ : ℕ) where
    -- try i is next
    abbrev pub Settling : List ℕ → (from texts i : ℕ) → Type 0
    Settling out from texts i =
        Onward out₀ from₀ n₀ (told (take k tries)) out from texts
        (told (drop i (take k tries)))

    pub settling_start : Room out₀ from₀ n₀ (told (take k tries)) → Settling out₀ from₀ n₀ 0
    settling_start r = onward_start r

    module _ (fits : k ≤ length tries) (out : List ℕ) (from texts i : ℕ) (h : Settling out from texts i) where
      pub settling_done : k ≤ i → Wrote out₀ from₀ n₀ (told (take k tries)) out from texts
      unfolding passed_of settled_replies
      settling_done l =
          onward_done
          (subst (λ (ts : List ℕ). Onward out₀ from₀ n₀ (told (take k tries)) out from texts (told ts))
          (drop_of_length-le (take k tries) {i = i} (omega (arith, length-take-le k tries fits))) h)

      module _ (l : i < k) where
        tries_cut : drop i (take k tries) ≡ get_or tries i 0 ∷ drop (i + 1) (take k tries)
        tries_cut =
            rw add-one
            (drop-cons (take k tries) i 0 (omega (arith, length-take-le k tries fits))
            ∙ ap (λ (x : ℕ). x ∷ drop (suc i) (take k tries)) (get_or-take k tries i 0 l))

        next : told (drop i (take k tries)) ≡ told (get_or tries i 0 ∷ []) ++ told (drop (i + 1) (take k tries))
        next = ap told tries_cut ∙ told_cut (get_or tries i 0) (drop (i + 1) (take k tries))

        pub settling_room : Room out from texts (told (get_or tries i 0 ∷ []))
        settling_room = onward_room (told (get_or tries i 0 ∷ [])) (told (drop (i + 1) (take k tries))) _ next h

        pub settling_turn : {out' : List ℕ} {from' texts' : ℕ} → Wrote out from texts (told (get_or tries i 0 ∷ [])) out' from' texts'
            → Settling out' from' texts' (i + 1)
        settling_turn w = onward_turn (told (get_or tries i 0 ∷ [])) (told (drop (i + 1) (take k tries))) _ next h w

-- ---- the remembered BINs

-- a batch that is found by its BIN has it
found_bin : (x : Place) (bin : Code) → has_bin bin x ≡ true → place_bin x ≡ bin
found_bin free bin h = absurd (false≢true h)
found_bin (live b) bin h = same_code_lem b.bin bin h

module _ (t : List ℕ) (today : ℕ) where
  abbrev pub ended : List Entry → List Reply
  ended es = close_replies today (batches_on t) es

  -- the batch of one BIN
  abbrev ended_by : Entry → List Reply
  ended_by e =
      cond (is_remembered e.day today)
      (on_found (batch_of (batches_on t) e.code) [] (λ p. replies_to (place_messages (place_at (batches_on t) p)) e.code (Rejected (number_of Unsettled))))
      []

  ended_cut : (e : Entry) (es : List Entry) → ended (e ∷ es) ≡ ended (e ∷ []) ++ ended es
  unfolding close_replies
  ended_cut e es = ap (λ (l : List Reply). l ++ ended es) (sym (append-nil (ended_by e)))

  -- the batch of the BIN is the batch at its place
  none_there : (o : Outcome) → replies_at t 32 o ≡ []
  unfolding replies_to
  none_there o = rw (past_free t 32 (omega arith))

  ended_there : (e : Entry) → ended (e ∷ []) ≡ replies_at t (arrived_at today (batches_on t) e) (Rejected (number_of Unsettled))
  unfolding close_replies arrived_at
  ended_there e =
      by_bool (is_remembered e.day today)
      (λ r.
      by_found (batch_of (batches_on t) e.code)
      (λ p f.
      let b : place_bin (place_at (batches_on t) p) ≡ e.code = found_bin (place_at (batches_on t) p) e.code (seek_answers (has_bin e.code) free (map place_in (batch_rows t)) p f).yes in
      rw (r, f, b) (append-nil (replies_to (place_messages (place_at (batches_on t) p)) e.code (Rejected (number_of Unsettled)))))
      (λ f. rw (r, f) (sym (none_there (Rejected (number_of Unsettled))))))
      (λ r. rw r (sym (none_there (Rejected (number_of Unsettled)))))

  module _ (bins : List ℕ) (out₀ : List ℕ) (from₀ n₀ : ℕ) where
    abbrev pub entries_left : ℕ → List Entry
    entries_left i = map entry_in (rows 3 (512 - i) (drop (i * 3) bins))

    -- BIN i is next
    abbrev pub Closing : List ℕ → (from texts i : ℕ) → Type 0
    Closing out from texts i =
        Onward out₀ from₀ n₀ (ended (entries_in 512 bins)) out from texts (ended (entries_left i))

    pub closing_start : Room out₀ from₀ n₀ (ended (entries_in 512 bins)) → Closing out₀ from₀ n₀ 0
    unfolding entries_in
    closing_start r = onward_start r

    module _ (out : List ℕ) (from texts i : ℕ) (h : Closing out from texts i) where
      pub closing_done : 512 ≤ i → Wrote out₀ from₀ n₀ (ended (entries_in 512 bins)) out from texts
      unfolding close_replies
      closing_done l =
          onward_done
          (subst (λ (rs : List (List ℕ)). Onward out₀ from₀ n₀ (ended (entries_in 512 bins)) out from texts (ended (map entry_in rs)))
          (rows_end 3 512 i (drop (i * 3) bins) l) h)

      module _ (l : i < 512) where
        abbrev pub entry : Entry
        entry = record { code = record { high = get_or bins (i * 3) 0; low = get_or bins (i * 3 + 1) 0 }; day = get_or bins (i * 3 + 2) 0 }

        word_there : (j : ℕ) → j < 3 → get_or (take 3 (drop (i * 3) bins)) j 0 ≡ get_or bins (i * 3 + j) 0
        word_there j k = get_or-take 3 (drop (i * 3) bins) j 0 k ∙ get_or-drop (i * 3) bins j 0

        entry_there : entry_in (take 3 (drop (i * 3) bins)) ≡ entry
        entry_there =
            let z : i * 3 + 0 ≡ i * 3 = omega arith in
            rw (word_there 0 (omega arith), word_there 1 (omega arith), word_there 2 (omega arith), z)

        left : ended (entries_left i) ≡ replies_at t (arrived_at today (batches_on t) entry) (Rejected (number_of Unsettled)) ++ ended (entries_left (i + 1))
        left =
            ap (λ (rs : List (List ℕ)). ended (map entry_in rs)) (rows_cut 3 512 i bins l)
            ∙ ap (λ (e : Entry). ended (e ∷ entries_left (i + 1))) entry_there
            ∙ ended_cut entry (entries_left (i + 1))
            ∙ ap (λ (rs : List Reply). rs ++ ended (entries_left (i + 1))) (ended_there entry)

        module _ {p m : ℕ} (at_p : p ≡ arrived_at today (batches_on t) entry) (is : m ≡ number_of Unsettled) where
          next_left : ended (entries_left i) ≡ replies_at t p (Rejected m) ++ ended (entries_left (i + 1))
          next_left = rw (at_p, is) left

          pub closing_room : Room out from texts (replies_at t p (Rejected m))
          closing_room = onward_room (replies_at t p (Rejected m)) (ended (entries_left (i + 1))) _ next_left h

          pub closing_turn : {out' : List ℕ} {from' texts' : ℕ} → Wrote out from texts (replies_at t p (Rejected m)) out' from' texts' → Closing out' from' texts' (i + 1)
          closing_turn w = onward_turn (replies_at t p (Rejected m)) (ended (entries_left (i + 1))) _ next_left h w
