-- A message that comes into a row: the row is the words of the batch with it.
use Prim.Native.Nat.{ℕ, zero, suc, ◌+◌, ◌-◌, ◌*◌, ◌≤◌, ◌<◌}
use mathlib.Core.Path.{◌≡◌, refl, sym, ap, ◌∙◌}
use mathlib.Core.Bool.{false}
use mathlib.Core.List.{List, [], ◌∷◌, ◌++◌, append_assoc, append-nil}
use native.Mathlib.Omega.{arith}
use native.Mathlib.Numerals.{add-one}
use borrow.Author.Tests.{ne_eqb}
use borrow.Rule.Slice.PartMut.{put_mid}
use lib.Dec.{eqb}
use lib.ListN.{length, get_or, set, take, drop, replicate, length-append, length-drop, length-replicate, replicate-append-replicate}
use lib.Seq.{sets, sets-eq, set-get_or, take_at, drop_at, drop-drop, drop-cons, length-take-le}
use Rattle.settle.specs.Payments.{payment, payment_at, payments_from}
use Rattle.codes.specs.declared.Code.{Code}
use Rattle.model.specs.State.{Message, Batch, live, no_batches, payments_of}
use Rattle.tables.specs.Rows.{word, activation_in, batch_in, place_in, batch_rows}
use Rattle.tables.proofs.RowLaws.{row_at, put}
use Rattle.tables.proofs.Batching.{live_back}
use Rattle.tables.specs.Words.{activation_word, payment_words, payments_words, message_words, messages_words, batch_words}
use Rattle.tables.specs.Arriving.{with_one}
use Rattle.tables.proofs.Rowing.{Fits, payments_append, payments_long, messages_long}
use Rattle.call_orders.specs.Heads.{headed, bare_row, Neat, NeatTable}
use Rattle.call_orders.specs.Stages.{places_in}
use Rattle.call_orders.proofs.StageLaws.{map_set, neat_set}
use Rattle.call_orders.specs.Arriving.{Roomy, message_of, row_with, new_row}
use Rattle.call_orders.proofs.Storing.{neat_head}

-- ---- a neat row is its words

own_head : (row : List ℕ) → set (set (set row 0 (word row 0)) 1 (word row 1)) 6 (word row 6) ≡ row
own_head row = rw (set-get_or row 0 0, set-get_or row 1 0, set-get_or row 6 0)

pub own_words : (row : List ℕ) → Neat row → (word row 0 ≡ 0 → ⊥) → row ≡ batch_words (word row 0) (word row 1) (word row 6) (batch_in row)
unfolding headed place_in
own_words row n h =
    let e : eqb (word row 0) 0 ≡ false = ne_eqb (word row 0) 0 h in
    let f : set (set (set row 0 (word row 0)) 1 (word row 1)) 6 (word row 6) ≡ batch_words (word row 0) (word row 1) (word row 6) (batch_in row) =
    rw e at (neat_head (word row 0) (word row 1) (word row 6) row n)
    in
    sym (own_head row) ∙ f

-- ---- words behind others

abbrev Z : ℕ → List ℕ
Z n = replicate n 0

write : (pre post vs : List ℕ) (n at : ℕ) → length pre ≡ at → length vs ≤ n → sets (pre ++ (Z n ++ post)) at vs ≡ pre ++ (vs ++ (Z (n - length vs) ++ post))
write pre post vs n at e h =
    let k : n ≡ length vs + (n - length vs) = omega arith in
    let z : Z n ≡ Z (length vs) ++ Z (n - length vs) = ap Z k ∙ sym (replicate-append-replicate {A = ℕ} (length vs) (n - length vs) 0) in
    let l : at + length vs ≤ length (pre ++ (Z n ++ post)) = omega (arith, length-append pre (Z n ++ post), length-append (Z n) post, length-replicate {A = ℕ} n 0) in
    let d : drop (length vs) (Z n ++ post) ≡ Z (n - length vs) ++ post =
    rw (z, append_assoc (Z (length vs)) (Z (n - length vs)) post) (drop_at (Z (length vs)) (Z (n - length vs) ++ post) (length vs) (length-replicate {A = ℕ} (length vs) 0))
    in
    let f : drop (at + length vs) (pre ++ (Z n ++ post)) ≡ Z (n - length vs) ++ post =
    sym (drop-drop (length vs) at (pre ++ (Z n ++ post))) ∙ rw (drop_at pre (Z n ++ post) at e) d
    in
    sets-eq vs (pre ++ (Z n ++ post)) at l ∙ rw (take_at pre (Z n ++ post) at e, f) (append_assoc pre vs (Z (n - length vs) ++ post))

module _ (H M Q W P : List ℕ) (a c : ℕ) (h : length H ≡ 9) (i : length M + a ≡ 40) (j : length W ≤ a) (k : length P ≤ c) where
  abbrev start : List ℕ
  start = H ++ ((M ++ Z a) ++ (Q ++ Z c))

  abbrev mid : List ℕ
  mid = H ++ ((M ++ Z a) ++ ((Q ++ P) ++ Z (c - length P)))

  one_write : sets start (49 + length Q) P ≡ mid
  one_write =
      let pre = H ++ ((M ++ Z a) ++ Q) in
      let s : start ≡ pre ++ (Z c ++ []) = simp (append_assoc, append-nil {A = ℕ}) in
      let l : length pre ≡ 49 + length Q = omega (arith, length-append H ((M ++ Z a) ++ Q), length-append (M ++ Z a) Q, length-append M (Z a), length-replicate {A = ℕ} a 0) in
      ap (λ (x : List ℕ). sets x (49 + length Q) P) s ∙ write pre [] P c (49 + length Q) l k ∙ simp (append_assoc, append-nil {A = ℕ})

  two_writes : sets (sets start (49 + length Q) P) (9 + length M) W ≡ H ++ (((M ++ W) ++ Z (a - length W)) ++ ((Q ++ P) ++ Z (c - length P)))
  two_writes =
      let pre = H ++ M in
      let post = (Q ++ P) ++ Z (c - length P) in
      let s : sets start (49 + length Q) P ≡ pre ++ (Z a ++ post) = one_write ∙ simp append_assoc in
      let l : length pre ≡ 9 + length M = omega (arith, length-append H M) in
      ap (λ (x : List ℕ). sets x (9 + length M) W) s ∙ write pre post W a (9 + length M) l j ∙ simp append_assoc

-- ---- the batch with one message more

messages_snoc : (ms : List Message) (m : Message) → messages_words (ms ++ (m ∷ [])) ≡ messages_words ms ++ message_words m
unfolding messages_words
messages_snoc [] m = append-nil (message_words m)
messages_snoc (x ∷ ms) m = rw (messages_snoc ms m)

payments_snoc : (ms : List Message) (m : Message) → payments_of (ms ++ (m ∷ [])) ≡ payments_of ms ++ m.payments
payments_snoc [] m = append-nil m.payments
payments_snoc (x ∷ ms) m = rw (payments_snoc ms m, append_assoc)

module _ (phase rank memory : ℕ) (x : Batch) (m : Message) where
  abbrev head_of : (k j : ℕ) → List ℕ
  head_of k j = phase ∷ rank ∷ x.bin.high ∷ x.bin.low ∷ x.count ∷ activation_word x.activation ∷ memory ∷ k ∷ j ∷ []

  abbrev M : List ℕ
  M = messages_words x.messages

  abbrev Q : List ℕ
  Q = payments_words (payments_of x.messages)

  plain_words : batch_words phase rank memory x ≡ head_of (length x.messages) (length (payments_of x.messages)) ++ ((M ++ Z (40 - length M)) ++ (Q ++ Z (300 - length Q)))
  unfolding batch_words
  plain_words = refl

  with_words : length x.messages < 10 → length (payments_of x.messages) + length m.payments ≤ 100
      → batch_words phase rank memory (with_one x m)
      ≡ head_of (length x.messages + 1) (length (payments_of x.messages) + length m.payments)
      ++ (((M ++ message_words m) ++ Z (40 - length M - 4)) ++ ((Q ++ payments_words m.payments) ++ Z (300 - length Q - length (payments_words m.payments))))
  unfolding batch_words with_one
  with_words h i =
      let a : length (x.messages ++ (m ∷ [])) ≡ length x.messages + 1 = length-append x.messages (m ∷ []) in
      let b = payments_snoc x.messages m in
      let c : length (payments_of x.messages ++ m.payments) ≡ length (payments_of x.messages) + length m.payments = length-append (payments_of x.messages) m.payments in
      let d : 40 - length (M ++ message_words m) ≡ 40 - length M - 4 = omega (arith, length-append M (message_words m)) in
      let e : 300 - length (Q ++ payments_words m.payments) ≡ 300 - length Q - length (payments_words m.payments) = omega (arith, length-append Q (payments_words m.payments)) in
      rw (a, messages_snoc x.messages m, b, c, payments_append (payments_of x.messages) m.payments, d, e)

  pub put_words : length x.messages < 10 → length (payments_of x.messages) + length m.payments ≤ 100
      → set (set (sets (sets (batch_words phase rank memory x) (49 + 3 * length (payments_of x.messages)) (payments_words m.payments)) (9 + 4 * length x.messages) (message_words m)) 7 (length x.messages + 1)) 8 (length (payments_of x.messages) + length m.payments)
      ≡ batch_words phase rank memory (with_one x m)
  put_words h i =
      let j = payments_long (payments_of x.messages) in
      let k = messages_long x.messages in
      let p = payments_long m.payments in
      let t =
      two_writes (head_of (length x.messages) (length (payments_of x.messages))) M Q (message_words m) (payments_words m.payments) (40 - length M) (300 - length Q)
      refl (omega arith) (omega arith) (omega arith)
      in
      let s : sets (sets (batch_words phase rank memory x) (49 + 3 * length (payments_of x.messages)) (payments_words m.payments)) (9 + 4 * length x.messages) (message_words m)
      ≡ head_of (length x.messages) (length (payments_of x.messages))
      ++ (((M ++ message_words m) ++ Z (40 - length M - 4)) ++ ((Q ++ payments_words m.payments) ++ Z (300 - length Q - length (payments_words m.payments)))) =
      rw (← j, ← k, plain_words) t
      in
      rw s (sym (with_words h i))

-- ---- words that are copied

pub copied : (row words : List ℕ) (at n : ℕ) → at + n ≤ length row → length words ≡ n → put_mid at (at + n - at) row words ≡ sets row at words
copied row words at n h e =
    let k : at + n - at ≡ length words = omega arith in
    let d : drop (at + length words) row ≡ drop (length words) (drop at row) = sym (drop-drop (length words) at row) in
    rw k (sym (sets-eq words row at (omega arith) ∙ rw d (append_assoc (take at row) words (drop (length words) (drop at row)))))

-- ---- payments as words

pub payments_many : (l : List ℕ) (at n : ℕ) → length (payments_from l at n) ≡ n
unfolding payments_from
payments_many l at zero = refl
payments_many l at (suc n) = ap suc (payments_many l (at + 3) n)

triple : (k c l : ℕ) → payment_words (payment k c l) ≡ k ∷ c ∷ l ∷ []
unfolding payment
triple k c zero = refl
triple k c (suc l) = refl

next_word : (l : List ℕ) (at : ℕ) → at < length l → drop at l ≡ get_or l at 0 ∷ drop (at + 1) l
next_word l at h = rw (add-one at) (drop-cons l at 0 h)

pub payments_words_lem : (l : List ℕ) (at n : ℕ) → at + 3 * n ≤ length l → take (3 * n) (drop at l) ≡ payments_words (payments_from l at n)
unfolding payments_from payments_words payment_at
payments_words_lem l at zero h = refl
payments_words_lem l at (suc n) h =
    let e : 3 * suc n ≡ suc (suc (suc (3 * n))) = omega arith in
    let i : at + 1 + 1 ≡ at + 2 = omega arith in
    let j : at + 2 + 1 ≡ at + 3 = omega arith in
    let a : drop at l ≡ get_or l at 0 ∷ drop (at + 1) l = next_word l at (omega arith) in
    let b : drop (at + 1) l ≡ get_or l (at + 1) 0 ∷ drop (at + 2) l = rw i at (next_word l (at + 1) (omega arith)) in
    let c : drop (at + 2) l ≡ get_or l (at + 2) 0 ∷ drop (at + 3) l = rw j at (next_word l (at + 2) (omega arith)) in
    rw (e, a, b, c, triple (get_or l at 0) (get_or l (at + 1) 0) (get_or l (at + 2) 0), payments_words_lem l (at + 3) n (omega arith))

-- ---- the whole

general : (row r v : List ℕ) (w7 w8 n phase rank memory : ℕ) (x : Batch) (m : Message) → row ≡ batch_words phase rank memory x
    → w7 ≡ length x.messages → w8 ≡ length (payments_of x.messages) → v ≡ payments_words m.payments → n ≡ length m.payments
    → w7 < 10 → w8 + n ≤ 100 → r ≡ sets row (49 + 3 * w8) v
    → set (set (set (set (set (set r (9 + 4 * w7) m.reference.high) (9 + 4 * w7 + 1) m.reference.low) (9 + 4 * w7 + 2) m.number) (9 + 4 * w7 + 3) n) 7 (w7 + 1)) 8 (w8 + n)
    ≡ batch_words phase rank memory (with_one x m)
general row r v w7 w8 n phase rank memory x m e a b c d f g h =
    let one : 9 + 4 * w7 + 1 ≡ suc (9 + 4 * w7) = omega arith in
    let two : 9 + 4 * w7 + 2 ≡ suc (suc (9 + 4 * w7)) = omega arith in
    let three : 9 + 4 * w7 + 3 ≡ suc (suc (suc (9 + 4 * w7))) = omega arith in
    rw (one, two, three, h, e, c, d, a, b) (put_words phase rank memory x m (omega arith) (omega arith))

words_seven : (phase rank memory : ℕ) (x : Batch) → word (batch_words phase rank memory x) 7 ≡ length x.messages
unfolding batch_words
words_seven phase rank memory x = refl

pub words_eight : (phase rank memory : ℕ) (x : Batch) → word (batch_words phase rank memory x) 8 ≡ length (payments_of x.messages)
unfolding batch_words
words_eight phase rank memory x = refl

pub arrived_so : (row words r : List ℕ) (reference : Code) (number n : ℕ) → Roomy row n → 3 * n ≤ length words
    → r ≡ sets row (49 + 3 * word row 8) (take (3 * n) words)
    → set (set (set (set (set (set r (9 + 4 * word row 7) reference.high) (9 + 4 * word row 7 + 1) reference.low) (9 + 4 * word row 7 + 2) number) (9 + 4 * word row 7 + 3) n) 7 (word row 7 + 1)) 8 (word row 8 + n)
    ≡ row_with row (message_of reference number words n)
arrived_so row words r reference number n h k e =
    let o = own_words row h.neat h.live in
    general row r (take (3 * n) words) (word row 7) (word row 8) n (word row 0) (word row 1) (word row 6) (batch_in row) (message_of reference number words n) o
    (ap (λ (l : List ℕ). word l 7) o ∙ words_seven (word row 0) (word row 1) (word row 6) (batch_in row))
    (ap (λ (l : List ℕ). word l 8) o ∙ words_eight (word row 0) (word row 1) (word row 6) (batch_in row))
    (payments_words_lem words 0 n (omega arith))
    (sym (payments_many words 0 n))
    h.messages h.payments e

-- ---- a row that is lent

module _ (t : List ℕ) (p : ℕ) (h : p < 32) (l : length t ≡ 11168) where
  lent_row : get_or (batch_rows t) p [] ≡ take (p * 349 + 349 - p * 349) (drop (p * 349) t)
  lent_row = let d : p * 349 + 349 - p * 349 ≡ 349 = omega arith in row_at 349 32 p t [] h ∙ rw d

  pub lent_roomy : (n : ℕ) → Roomy (get_or (batch_rows t) p []) n → Roomy (take (p * 349 + 349 - p * 349) (drop (p * 349) t)) n
  lent_roomy n r = rw lent_row at r

  -- what comes back is one row set
  pub lent_back : (t' ws : List ℕ) (f : List ℕ → List ℕ) → length ws ≡ length (take (p * 349 + 349 - p * 349) (drop (p * 349) t))
      → ws ≡ f (take (p * 349 + 349 - p * 349) (drop (p * 349) t))
      → t' ≡ take (p * 349) t ++ (ws ++ drop (p * 349 + 349 - p * 349) (drop (p * 349) t))
      → batch_rows t' ≡ set (batch_rows t) p (f (get_or (batch_rows t) p []))
  lent_back t' ws f k e g =
      let d : p * 349 + 349 - p * 349 ≡ 349 = omega arith in
      let j : length (take 349 (drop (p * 349) t)) ≡ 349 = length-take-le 349 (drop (p * 349) t) (rw length-drop (omega arith)) in
      let m : length ws ≡ 349 = k ∙ rw d j in
      let a : ws ≡ f (get_or (batch_rows t) p []) = e ∙ ap f (sym lent_row) in
      let b : batch_rows t' ≡ set (batch_rows t) p ws = rw (g, d) (put 349 32 p t ws h (omega arith) m) in
      b ∙ ap (λ (r : List ℕ). set (batch_rows t) p r) a

pub arrived_at_lem : (t t' ws words : List ℕ) (p : ℕ) (reference : Code) (number n : ℕ) → p < 32 → length t ≡ 11168
    → length ws ≡ length (take (p * 349 + 349 - p * 349) (drop (p * 349) t))
    → ws ≡ row_with (take (p * 349 + 349 - p * 349) (drop (p * 349) t)) (message_of reference number words n)
    → t' ≡ take (p * 349) t ++ (ws ++ drop (p * 349 + 349 - p * 349) (drop (p * 349) t))
    → batch_rows t' ≡ set (batch_rows t) p (row_with (get_or (batch_rows t) p []) (message_of reference number words n))
arrived_at_lem t t' ws words p reference number n h l k e g = lent_back t p h l t' ws (λ r. row_with r (message_of reference number words n)) k e g

-- ---- what the table says with it

bare_words : (phase rank memory : ℕ) (x : Batch) → eqb phase 0 ≡ false → headed 1 0 0 (batch_words phase rank memory x) ≡ batch_words 1 0 0 x
unfolding headed batch_words
bare_words phase rank memory x e = rw e

pub words_neat : (phase rank memory : ℕ) (x : Batch) → Fits x → (phase ≡ 0 → ⊥) → Neat (batch_words phase rank memory x)
words_neat phase rank memory x f n =
    let e = ne_eqb phase 0 n in
    bare_words phase rank memory x e ∙ sym (ap bare_row (live_back no_batches [] phase rank memory x f e))

-- a row of a neat table becomes the words of a batch that fits: one place is that batch, and the table is neat
pub record Placed (t : List ℕ) (p : ℕ) (x : Batch) (t' : List ℕ) : Type 0 where
  pub table : NeatTable t'
  pub places : places_in t' ≡ set (places_in t) p (live x)

pub placed_so : (t t' : List ℕ) (p phase rank memory : ℕ) (x : Batch) → NeatTable t → Fits x → (phase ≡ 0 → ⊥) → length t' ≡ length t
    → batch_rows t' ≡ set (batch_rows t) p (batch_words phase rank memory x) → Placed t p x t'
placed_so t t' p phase rank memory x n f z l e =
    record {
      table = neat_set t t' (batch_words phase rank memory x) p n (words_neat phase rank memory x f z) l e;
      places = rw e (map_set place_in (batch_rows t) p (batch_words phase rank memory x) ∙ rw (live_back no_batches [] phase rank memory x f (ne_eqb phase 0 z)));
    }

-- ---- a new batch

activation_word_lem : (a : ℕ) → activation_word (activation_in a) ≡ a
activation_word_lem zero = refl
activation_word_lem (suc a) = refl

pub begun_so : (row : List ℕ) (bin : Code) (count a : ℕ) → row ≡ replicate 349 0
    → set (set (set (set (set row 0 1) 2 bin.high) 3 bin.low) 4 count) 5 a ≡ new_row bin count a
unfolding batch_words messages_words payments_words
begun_so row bin count a e = rw (e, activation_word_lem a)

pub begun_long : (row : List ℕ) → row ≡ replicate 349 0 → length row ≡ 349
begun_long row e = ap length e ∙ length-replicate {A = ℕ} 349 0

pub lent_free : (t : List ℕ) (p : ℕ) → p < 32 → get_or (batch_rows t) p [] ≡ replicate 349 0 → take (p * 349 + 349 - p * 349) (drop (p * 349) t) ≡ replicate 349 0
lent_free t p h e = let d : p * 349 + 349 - p * 349 ≡ 349 = omega arith in rw d (sym (row_at 349 32 p t [] h) ∙ e)

pub begun_at : (t t' ws : List ℕ) (p : ℕ) (bin : Code) (count a : ℕ) → p < 32 → length t ≡ 11168
    → length ws ≡ length (take (p * 349 + 349 - p * 349) (drop (p * 349) t))
    → ws ≡ new_row bin count a
    → t' ≡ take (p * 349) t ++ (ws ++ drop (p * 349 + 349 - p * 349) (drop (p * 349) t))
    → batch_rows t' ≡ set (batch_rows t) p (new_row bin count a)
begun_at t t' ws p bin count a h l k e g = lent_back t p h l t' ws (λ r. new_row bin count a) k e g
