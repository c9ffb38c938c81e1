-- A message before its batch, and in it.
use Rattle.std.specs.Prelude.{Ok, Err}
use Prim.Native.Nat.{ℕ, suc, ◌+◌, ◌*◌, ◌-◌, ◌≤◌, ◌<◌}
use mathlib.Core.Path.{◌≡◌, refl, sym, ap, subst, ◌∙◌}
use mathlib.Core.Bool.{true}
use mathlib.Core.List.{List, [], ◌∷◌, ◌++◌}
use native.Mathlib.Omega.{arith}
use borrow.Author.Tests.{eqb-true, eqb-false, lt-ltb}
use lib.Dec.{eqb}
use lib.ListN.{length, get_or, set, take, drop, length-append, length-map}
use lib.Seq.{get_or-set_same, get_or-set_other, set-set}
use Rattle.chars.specs.Refusals.{number_of}
use Rattle.chars.specs.declared.Refusal.{Refusal}
use Rattle.chars.specs.declared.Refusal.TheVariants.{Unequal}
use Rattle.codes.specs.declared.Code.{Code}
use Rattle.request_read.specs.declared.whole.Reading.{Reading}
use Rattle.response_write.specs.Values.{is_outcome}
use Rattle.response_write.specs.declared.Outcome.{Outcome}
use Rattle.response_write.specs.declared.Outcome.TheVariants.{Rejected}
use Rattle.book_read.specs.Range.{Each}
use Rattle.settle.specs.Payments.{Payment, cents_of}
use Rattle.settle.specs.Rules.{most_cents}
use Rattle.settle.specs.Settlement.{Accounts}
use Rattle.queue.proofs.MemoryLaws.{by_bool}
use Rattle.model.specs.Answers.{Answer}
use Rattle.model.specs.State.{Message, Batch, Place, free, live, Batches, Known, State, place_at, place_messages, place_bin, payments_of, with_place}
use Rattle.model.specs.Replies.{Reply, settlement, replies_to}
use Rattle.model.specs.Messages.{Acted, first_broken, message_rules, arrived, with_message, ended, completed, admit}
use Rattle.model.specs.Calls.{woken}
use Rattle.model.specs.Rules.{Priced, RightMessage, is_bin}
use Rattle.model.proofs.Admitting.{message_right, each_last}
use Rattle.model.proofs.Fitting.{Fits as Answerable, replies_fit, right_referring, two_digits}
use Rattle.tables.specs.declared.Desk.{Desk}
use Rattle.tables.specs.Rows.{word, place_in, batch_in, batch_rows}
use Rattle.tables.specs.Words.{batch_words}
use Rattle.tables.specs.Arriving.{with_one}
use Rattle.tables.proofs.Rowing.{Fits}
use Rattle.tables.proofs.Held.{messages_fit, messages_small}
use Rattle.tables_rules.proofs.batch_rules.RowWords.{messages_many}
use Rattle.tables_rules.proofs.batch_rules.RowRules.{each_join}
use Rattle.call_orders.specs.Stages.{seen, Ready, places_in}
use Rattle.call_orders.specs.Arriving.{Roomy, message_of, row_with}
use Rattle.call_orders.proofs.HeadLaws.{word_at, rows_many}
use Rattle.call_orders.proofs.ArriveLaws.{payments_many, Placed, placed_so}
use Rattle.call_plan.specs.rules.Steps.{Counted, state_of}
use Rattle.call_plan.proofs.rules.Meets.{message_any}
use Rattle.call_plan.proofs.rules.WordLaws.{arrived_any}
use Rattle.call_plan.proofs.rules.LiveRows.{live_word, live_batch, wide, neat_row, row_counted, lent, placed_became}
use Rattle.call_texts.specs.Writing.{Room, Legible, batches_on, replies_at}
use Rattle.call_texts.proofs.Laws.{room_of, replies_append}
use Rattle.call_message.specs.outcome.Doing.{state_on, house_state, batch_at, Ends, InRows, Completable, Takeable, Fair}

pub rejected_sound : (f : Refusal) → is_outcome (Rejected (number_of f)) ≡ true
unfolding is_outcome
rejected_sound f = lt-ltb (number_of f) 100 (two_digits f)

pub replies_many : (ms : List Message) (c : Code) (o : Outcome) → length (replies_to ms c o) ≡ length ms
unfolding replies_to
replies_many [] c o = refl
replies_many (m ∷ ms) c o = ap suc (replies_many ms c o)

-- replies to at most ten messages have room
module _ (out : List ℕ) (texts : ℕ) (room : 1155 ≤ length out) (few : texts + 11 < 10000000) where
  pub ten_room : (banks n : ℕ) (ms : List Message) (c : Code) (f : Refusal) → Each (RightMessage banks n) ms → length ms ≤ 10 → is_bin c ≡ true
      → Room out 0 texts (replies_to ms c (Rejected (number_of f)))
  ten_room banks n ms c f h l i =
      room_of out 0 texts (replies_to ms c (Rejected (number_of f))) (replies_fit ms c (Rejected (number_of f)) (right_referring banks n ms h) i (rejected_sound f))
      (omega (arith, replies_many ms c (Rejected (number_of f)))) (omega (arith, replies_many ms c (Rejected (number_of f))))

-- ---- a batch stands anew at a place

module _ (t q : List ℕ) (nq : ℕ) (w : List ℕ) (nw p : ℕ) (ready : Ready t q nq w nw) (few : Legible t) (below : p < 32) (y : Batch) (ten : length y.messages ≤ 10) (t' : List ℕ) (l : length t' ≡ length t) (h : Placed t p y t') where
  many : length (places_in t) ≡ 32
  many = length-map (batch_rows t) place_in ∙ rows_many 349 32 t

  pub there_now : get_or (places_in t') p free ≡ live y
  there_now = rw h.places (get_or-set_same (places_in t) p (live y) free (omega (arith, many)))

  pub batch_now : y ≡ batch_at t' p
  batch_now = live_batch t' p there_now

  pub live_now : place_at (seen t' q nq w nw) p ≡ live (batch_at t' p)
  live_now = there_now ∙ ap (λ (x : Batch). live x) batch_now

  few_at : (j : ℕ) → length (place_messages (place_at (batches_on t') j)) ≤ 10
  few_at j =
      by_bool (eqb j p)
      (λ z. let g : get_or (places_in t') j free ≡ live y = ap (λ (n : ℕ). get_or (places_in t') n free) (eqb-true j p z) ∙ there_now in rw g ten)
      (λ z.
      let g : get_or (places_in t') j free ≡ get_or (places_in t) j free = rw h.places (get_or-set_other (places_in t) p j (live y) free (λ v. absurd (eqb-false j p z v))) in
      rw g (few.few j))

  pub legible_now : Legible t'
  legible_now = record { long = l ∙ few.long; few = few_at }

-- every amount of a message that the rules allow
cents_of_lem : (banks : ℕ) (ps : List Payment) → Each (Priced banks) ps → Each (λ z. cents_of z ≤ most_cents) ps
cents_of_lem banks [] h = tt
cents_of_lem banks (y ∷ ps) h = (h.0.money, cents_of_lem banks ps h.1)

all_cents : (banks n : ℕ) (ms : List Message) → Each (RightMessage banks n) ms → Each (λ z. cents_of z ≤ most_cents) (payments_of ms)
all_cents banks n [] h = tt
all_cents banks n (m ∷ ms) h = each_join (λ z. cents_of z ≤ most_cents) m.payments (payments_of ms) (cents_of_lem banks m.payments h.0.priced) (all_cents banks n ms h.1)

-- the batch stands in its place already
placed_completes : (s : State) (g : Reading) (b : Batches) (o : Known) (p : ℕ) (x : Batch) → completed s g (with_place b p (live x)) o p x ≡ completed s g b o p x
unfolding completed ended
placed_completes s g b o p x = rw (set-set b.places p (live x) (live x), set-set b.places p (live x) free)

-- ---- what may take a message

module _ (d : Desk) (codes flags : List ℕ) (r : Reading) (t q : List ℕ) (nq : ℕ) (w : List ℕ) (nw p : ℕ) (out : List ℕ) (k : Takeable d codes flags r t q nq w nw p out) where
  abbrev b : Batches
  b = seen t q nq w nw

  abbrev x : Batch
  x = batch_at t p

  few_messages : length x.messages < 10
  few_messages = omega (arith, k.takes.room, k.takes.count.1)

  fits : Fits x
  fits = messages_fit d.banks x k.takes.count.1 k.takes.messages (omega (arith, k.takes.room))

  taking_counted : Counted (get_or (batch_rows t) p [])
  taking_counted = row_counted t k.ready.table p k.below k.there fits

  pub lent_counted : Counted (take (p * 349 + 349 - p * 349) (drop (p * 349) t))
  lent_counted = rw (lent t k.ready.table p k.below) taking_counted

  -- the BIN that the row's words say
  pub bin_is : record { high = get_or t (p * 349 + 2) 0; low = get_or t (p * 349 + 3) 0 } ≡ x.bin
  unfolding batch_in
  bin_is = rw (sym (word_at t p 2 k.below (omega arith)), sym (word_at t p 3 k.below (omega arith)))

  at_place : (o : Outcome) → replies_at t p o ≡ replies_to x.messages x.bin o
  at_place o = ap (λ (y : Place). replies_to (place_messages y) (place_bin y) o) k.there

  -- ---- a fault

  module _ (stream : ℕ) (a : Answer) (is : a ≡ first_broken (message_rules (state_of d.date d.banks codes flags) r stream (batch_in (take (p * 349 + 349 - p * 349) (drop (p * 349) t))))) where
    on_row : a ≡ first_broken (message_rules (state_of d.date d.banks codes flags) r stream x)
    on_row = is ∙ ap (λ (row : List ℕ). first_broken (message_rules (state_of d.date d.banks codes flags) r stream (batch_in row))) (lent t k.ready.table p k.below)

    judged : (c : Batches) (n : Accounts) (o : Known) → first_broken (message_rules (state_on d codes flags c n o) r stream x) ≡ a
    judged c n o = sym (on_row ∙ message_any (state_on d codes flags c n o) r stream (get_or (batch_rows t) p []) k.few_banks taking_counted)

    pub fair : a ≡ Ok tt → Fair d codes flags r t p
    fair e = message_right (house_state d codes flags) r stream x k.takes k.gives (judged _ _ _ ∙ e)

    module _ (f : Refusal) (e : a ≡ Err f) where
      pub fault_room : (bin : Code) → bin ≡ x.bin
          → Room out 0 d.texts (replies_at t p (Rejected (number_of f)) ++ (settlement r.head.reference.code bin (Rejected (number_of f)) ∷ []))
      fault_room bin g =
          let o : Outcome = Rejected (number_of f) in
          let rs : List Reply = replies_to x.messages x.bin o in
          let y : Reply = settlement r.head.reference.code x.bin o in
          rw (g, at_place o) (
          room_of out 0 d.texts (rs ++ (y ∷ []))
          (each_last (λ z. Answerable z) rs y (replies_fit x.messages x.bin o (right_referring d.banks x.count x.messages k.takes.messages) k.takes.bin (rejected_sound f)) (k.gives.reference, k.takes.bin, rejected_sound f))
          (omega (arith, length-append rs (y ∷ []), replies_many x.messages x.bin o, few_messages, k.room))
          (omega (arith, length-append rs (y ∷ []), replies_many x.messages x.bin o, few_messages, k.few_texts))
          )

      pub rejected : (bin : Code) → bin ≡ x.bin → (m : List ℕ) (ans : Answer) (t' q' : List ℕ) (nq' : ℕ) (w' : List ℕ) (nw' : ℕ) (m' out' : List ℕ) (to texts' : ℕ)
          → (ans ≡ Err f) × Ends (replies_at t p (Rejected (number_of f)) ++ (settlement r.head.reference.code bin (Rejected (number_of f)) ∷ [])) b p m out 0 d.texts t' q' nq' w' nw' m' out' to texts'
          → (c : Batches) (n : Accounts) (o z : Known)
          → InRows (admit (state_on d codes flags c n o) r stream b z p x) m out 0 d.texts ans t' q' nq' w' nw' m' out' to texts'
      unfolding admit woken replies_to
      rejected bin g m ans t' q' nq' w' nw' m' out' to texts' h c n o z =
          rw (judged c n o, e) (record {
            answered = h.0;
            batches = h.1.batches;
            memory = h.1.memory;
            replies = rw (replies_append x.messages (arrived (state_on d codes flags c n o) r ∷ []) x.bin (Rejected (number_of f))) (rw (at_place (Rejected (number_of f)), g) at h.1.replies);
          })

    admitted : (c : Batches) (n : Accounts) (o z : Known) → a ≡ Ok tt
        → admit (state_on d codes flags c n o) r stream b z p x ≡ completed (state_on d codes flags c n o) r b z p (with_message (state_on d codes flags c n o) r x)
    unfolding admit
    admitted c n o z e = rw (judged c n o, e)

    pub accepted : a ≡ Ok tt → (m : List ℕ) (ans : Answer) (t' q' : List ℕ) (nq' : ℕ) (w' : List ℕ) (nw' : ℕ) (m' out' : List ℕ) (to texts' : ℕ)
        → ((c : Batches) (n : Accounts) (o z : Known) → InRows (completed (state_on d codes flags c n o) r b z p (with_message (state_on d codes flags c n o) r x)) m out 0 d.texts ans t' q' nq' w' nw' m' out' to texts')
        → (c : Batches) (n : Accounts) (o z : Known)
        → InRows (admit (state_on d codes flags c n o) r stream b z p x) m out 0 d.texts ans t' q' nq' w' nw' m' out' to texts'
    accepted e m ans t' q' nq' w' nw' m' out' to texts' h c n o z = rw (admitted c n o z e) (h c n o z)

  -- ---- the row with the message in it

  module _ (f : Fair d codes flags r t p) where
    abbrev x' : Batch
    x' = with_message (house_state d codes flags) r x

    one_more : length x'.messages ≡ length x.messages + 1
    one_more = length-append x.messages (arrived (house_state d codes flags) r ∷ [])

    whole_fits : Fits x'
    whole_fits = messages_fit d.banks x' f.count.1 f.messages (omega (arith, one_more, k.takes.room))

    pub roomy : Roomy (get_or (batch_rows t) p []) r.n
    unfolding batch_in
    roomy =
        let row : List ℕ = get_or (batch_rows t) p [] in
        let n = k.ready.table in
        let c = taking_counted in
        let m : length x.messages ≡ word row 7 = messages_many row 0 49 (word row 7) in
        record {
          long = wide t n p k.below;
          neat = neat_row t n p k.below;
          live = live_word t p k.there;
          messages = omega (arith, m, few_messages);
          payments = omega (arith, k.few, row_small, few_messages);
        }
      where
        row_small : word (get_or (batch_rows t) p []) 8 ≤ 10 * length (batch_at t p).messages
        row_small = omega (arith, ap length taking_counted.same, payments_many (get_or (batch_rows t) p []) 49 (word (get_or (batch_rows t) p []) 8), messages_small d.banks (batch_at t p).count (batch_at t p).messages k.takes.messages)

    -- ---- after its arrival

    module _ (words t' : List ℕ) (e : message_of r.head.reference.code r.terms.number words r.n ≡ arrived (state_of 0 d.banks codes []) r) (l : length t' ≡ length t)
        (i : batch_rows t' ≡ set (batch_rows t) p (row_with (get_or (batch_rows t) p []) (message_of r.head.reference.code r.terms.number words r.n))) where
      with_is : with_one x (message_of r.head.reference.code r.terms.number words r.n) ≡ x'
      unfolding with_one
      with_is = ap (λ (m : Message). record { bin = x.bin; count = x.count; activation = x.activation; messages = x.messages ++ (m ∷ []) }) (e ∙ arrived_any (house_state d codes flags) r)

      placed : Placed t p x' t'
      placed =
          let row : List ℕ = get_or (batch_rows t) p [] in
          placed_so t t' p (word row 0) (word row 1) (word row 6) x' k.ready.table whole_fits (live_word t p k.there) l
          (i ∙ ap (λ (y : Batch). set (batch_rows t) p (batch_words (word row 0) (word row 1) (word row 6) y)) with_is)

      ten : length x'.messages ≤ 10
      ten = omega (arith, one_more, few_messages)

      batch' : x' ≡ batch_at t' p
      batch' = batch_now t q nq w nw p k.ready k.legible k.below x' ten t' l placed

      there' : get_or (places_in t') p free ≡ live x'
      there' = there_now t q nq w nw p k.ready k.legible k.below x' ten t' l placed

      pub completable : Completable t' q nq w nw p out d.texts
      completable = record {
        ready = (placed_became t q nq w nw p x' t' k.ready placed).ready;
        legible = legible_now t q nq w nw p k.ready k.legible k.below x' ten t' l placed;
        below = k.below;
        there = live_now t q nq w nw p k.ready k.legible k.below x' ten t' l placed;
        counted = row_counted t' placed.table p k.below there' (subst (λ (y : Batch). Fits y) batch' whole_fits);
        money = subst (λ (y : Batch). Each (λ z. cents_of z ≤ most_cents) (payments_of y.messages)) batch' (all_cents d.banks x'.count x'.messages f.messages);
        queue_room = k.queue_room;
        pending_room = k.pending_room;
        room = rw there' (ten_room out d.texts k.room k.few_texts d.banks x'.count x'.messages x'.bin Unequal f.messages ten f.bin);
      }

      same_message : (c : Batches) (n : Accounts) (o : Known) → with_message (state_on d codes flags c n o) r x ≡ x'
      same_message c n o =
          ap (λ (m : Message). record { bin = x.bin; count = x.count; activation = x.activation; messages = x.messages ++ (m ∷ []) })
          (sym (arrived_any (state_on d codes flags c n o) r) ∙ arrived_any (house_state d codes flags) r)

      pub taken : (m : List ℕ) (ans : Answer) (t'' q'' : List ℕ) (nq'' : ℕ) (w'' : List ℕ) (nw'' : ℕ) (m'' out'' : List ℕ) (to texts'' : ℕ)
          → ((s : State) (g : Reading) (o : Known) → s.day.clock ≡ d.clock → InRows (completed s g (seen t' q nq w nw) o p (batch_at t' p)) m out 0 d.texts ans t'' q'' nq'' w'' nw'' m'' out'' to texts'')
          → (c : Batches) (n : Accounts) (o z : Known)
          → InRows (completed (state_on d codes flags c n o) r b z p (with_message (state_on d codes flags c n o) r x)) m out 0 d.texts ans t'' q'' nq'' w'' nw'' m'' out'' to texts''
      taken m ans t'' q'' nq'' w'' nw'' m'' out'' to texts'' h c n o z =
          let s : State = state_on d codes flags c n o in
          let v : seen t' q nq w nw ≡ with_place b p (live x') = (placed_became t q nq w nw p x' t' k.ready placed).is in
          let g : completed s r (seen t' q nq w nw) z p (batch_at t' p) ≡ completed s r b z p (with_message s r x) =
          ap (λ (y : Batch). completed s r (seen t' q nq w nw) z p y) (sym batch')
          ∙ ap (λ (y : Batches). completed s r y z p x') v
          ∙ placed_completes s r b z p x'
          ∙ ap (λ (y : Batch). completed s r b z p y) (sym (same_message c n o)) in
          subst (λ (a : Acted). InRows a m out 0 d.texts ans t'' q'' nq'' w'' nw'' m'' out'' to texts'') g (h s r z refl)
