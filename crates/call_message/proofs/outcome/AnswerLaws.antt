-- Messages that are answered at once, and the plans carried out.
use Rattle.std.specs.Prelude.{Ok, Err}
use Prim.Native.Nat.{ℕ, ◌≤◌}
use mathlib.Core.Path.{◌≡◌, refl, sym}
use mathlib.Core.Bool.{true, false≢true}
use mathlib.Core.List.{List, [], ◌∷◌, ◌++◌}
use native.Mathlib.Omega.{arith}
use borrow.Author.Tests.{lt-ltb}
use lib.ListN.{length}
use Rattle.chars.specs.Refusals.{number_of}
use Rattle.chars.specs.declared.Refusal.{Refusal}
use Rattle.chars.specs.declared.Refusal.TheVariants.{NothingThere, Recalled as WasRecalled, Malformed}
use Rattle.codes.specs.declared.Code.{Code}
use Rattle.request_read.specs.declared.whole.Reading.{Reading}
use Rattle.response_write.specs.Values.{is_answer}
use Rattle.response_write.specs.declared.Outcome.TheVariants.{Rejected}
use Rattle.response_write.specs.declared.Answer.TheVariants.{Recalled, Kept}
use Rattle.book_read.specs.Range.{Each}
use Rattle.settle.specs.Settlement.{Accounts}
use Rattle.model.specs.Answers.{Answer}
use Rattle.model.specs.State.{at, Place, free, live, Batches, Known, State, has_bin, place_at, place_messages, place_bin}
use Rattle.model.specs.Replies.{Reply, settlement, recall, replies_to}
use Rattle.model.specs.Messages.{assembling, waiting}
use Rattle.model.specs.Calls.{woken}
use Rattle.model.specs.Rules.{is_reference}
use Rattle.model.proofs.Remembering.{same_code_lem}
use Rattle.model.proofs.Seeking.{is_assembling, is_waiting}
use Rattle.model.proofs.Standing.{Standing, vacant, building, awaits, stands}
use Rattle.model.proofs.Admitting.{TextGives}
use Rattle.model.proofs.Fitting.{Fits as Answerable, replies_fit, right_referring, two_digits}
use Rattle.call_orders.specs.Stages.{seen}
use Rattle.call_texts.specs.Writing.{Wrote, Room, Legible, replies_at}
use Rattle.call_texts.proofs.Laws.{wrote_none, wrote_then, room_first, room_rest, room_of, legible}
use Rattle.call_plan.specs.declared.plan.Plan.{Plan}
use Rattle.call_plan.specs.declared.plan.Plan.TheVariants.{Untouched, Rejects, Alone, RecallsNone, Recalls}
use Rattle.tables.specs.declared.Desk.{Desk}
use Rattle.call_message.specs.outcome.Acting.{acted_with}
use Rattle.call_message.specs.outcome.Doing.{state_on, Ends, Stays, InRows, Actable, reference_of, bin_of}
use Rattle.call_message.proofs.outcome.TakeLaws.{rejected_sound, replies_many}

-- ---- one text

module _ (out : List ℕ) (texts n : ℕ) (f : Refusal) (e : n ≡ number_of f) where
  pub alone_room : (r b : Code) → Room out 0 texts (settlement r b (Rejected (number_of f)) ∷ []) → Room out 0 texts (settlement r b (Rejected n) ∷ [])
  alone_room r b h = rw e h

  pub kept_room : (r : Code) → Room out 0 texts (recall r (Kept (number_of f)) ∷ []) → Room out 0 texts (recall r (Kept n) ∷ [])
  kept_room r h = rw e h

  pub stays_alone : (a : Answer) (r b : Code) (nq nw : ℕ) (out' : List ℕ) (to texts' : ℕ) → Wrote out 0 texts (settlement r b (Rejected n) ∷ []) out' to texts'
      → Stays a (settlement r b (Rejected (number_of f)) ∷ []) nq nw out texts a nq nw out' to texts'
  stays_alone a r b nq nw out' to texts' h = record { answered = refl; queued = refl; pending = refl; replies = rw (sym e) h }

  pub stays_kept : (a : Answer) (r : Code) (nq nw : ℕ) (out' : List ℕ) (to texts' : ℕ) → Wrote out 0 texts (recall r (Kept n) ∷ []) out' to texts'
      → Stays a (recall r (Kept (number_of f)) ∷ []) nq nw out texts a nq nw out' to texts'
  stays_kept a r nq nw out' to texts' h = record { answered = refl; queued = refl; pending = refl; replies = rw (sym e) h }

-- ---- a recall: its 134, then the batch

module _ (y : Reply) (rs : List Reply) (out : List ℕ) (texts : ℕ) (room : Room out 0 texts ((y ∷ []) ++ rs)) where
  pub one_room : Room out 0 texts (y ∷ [])
  one_room = room_first texts (y ∷ []) rs room

  module _ (out₁ : List ℕ) (at₁ texts₁ : ℕ) (w₁ : Wrote out 0 texts (y ∷ []) out₁ at₁ texts₁) where
    pub others_room : Room out₁ at₁ texts₁ rs
    others_room = room_rest w₁ rs room

    pub ends_after : (a c : Answer) (b : Batches) (p : ℕ) (m t q : List ℕ) (nq : ℕ) (w : List ℕ) (nw : ℕ) (m' out' : List ℕ) (to texts' : ℕ)
        → (a ≡ c) × Ends rs b p m out₁ at₁ texts₁ t q nq w nw m' out' to texts'
        → (a ≡ c) × Ends ((y ∷ []) ++ rs) b p m out 0 texts t q nq w nw m' out' to texts'
    ends_after a c b p m t q nq w nw m' out' to texts' h = (h.0, record { batches = h.1.batches; memory = h.1.memory; replies = wrote_then w₁ rs h.1.replies })

-- ---- the batch of a BIN

bin_of_lem : (c : Code) (x : Place) → has_bin c x ≡ true → place_bin x ≡ c
bin_of_lem c free h = absurd (false≢true h)
bin_of_lem c (live y) h = same_code_lem y.bin c h

-- what the rules say of the messages at a place
module _ (banks : ℕ) where
  pub few_there : {x : Place} {i j : ℕ} → Standing banks x i j → length (place_messages x) ≤ 10
  few_there vacant = omega arith
  few_there (building r l) = omega (arith, r.count.1)
  few_there (awaits r c g) = omega (arith, r.count.1, c.whole)
  few_there (stands r c) = omega (arith, r.count.1, c.whole)

  fit_there : (o : Refusal) {x : Place} {i j : ℕ} → Standing banks x i j → Each (λ y. Answerable y) (replies_to (place_messages x) (place_bin x) (Rejected (number_of o)))
  unfolding replies_to
  fit_there o vacant = tt
  fit_there o (building {b = b} r l) = replies_fit b.messages b.bin (Rejected (number_of o)) (right_referring banks b.count b.messages r.messages) r.bin (rejected_sound o)
  fit_there o (awaits {b = b} r c g) = replies_fit b.messages b.bin (Rejected (number_of o)) (right_referring banks b.count b.messages r.messages) r.bin (rejected_sound o)
  fit_there o (stands {b = b} r c) = replies_fit b.messages b.bin (Rejected (number_of o)) (right_referring banks b.count b.messages r.messages) r.bin (rejected_sound o)

module _ (d : Desk) (codes flags : List ℕ) (t q : List ℕ) (nq : ℕ) (w : List ℕ) (nw : ℕ) (out : List ℕ) (k : Actable d codes flags t q nq w nw out) where
  abbrev b : Batches
  b = seen t q nq w nw

  pub act_legible : Legible t
  act_legible = legible d.banks b k.stood t k.ready.table.long refl

  pub at_room : (p : ℕ) (f : Refusal) → Room out 0 d.texts (replies_at t p (Rejected (number_of f)))
  at_room p f =
      let x : Place = place_at b p in
      let n = replies_many (place_messages x) (place_bin x) (Rejected (number_of f)) in
      room_of out 0 d.texts (replies_at t p (Rejected (number_of f))) (fit_there d.banks f (k.stood.each p))
      (omega (arith, n, few_there d.banks (k.stood.each p), k.room))
      (omega (arith, n, few_there d.banks (k.stood.each p), k.few_texts))

  pub rejects_room : (c : Plan) (p : ℕ) (f : Refusal) → c ≡ Rejects p f → Room out 0 d.texts (replies_at t p (Rejected (number_of f)))
  rejects_room c p f e = at_room p f

  pub alone_fits : (r : Reading) (f : Refusal) → TextGives r → Room out 0 d.texts (settlement (reference_of r) (bin_of r) (Rejected (number_of f)) ∷ [])
  alone_fits r f g = room_of out 0 d.texts (settlement (reference_of r) (bin_of r) (Rejected (number_of f)) ∷ []) ((g.reference, g.bin, rejected_sound f), tt) (omega (arith, k.room)) (omega (arith, k.few_texts))

  kept_sound : (f : Refusal) → is_answer (Kept (number_of f)) ≡ true
  unfolding is_answer
  kept_sound f = lt-ltb (number_of f) 100 (two_digits f)

  pub kept_fits : (r : Reading) (f : Refusal) → is_reference (reference_of r) ≡ true → Room out 0 d.texts (recall (reference_of r) (Kept (number_of f)) ∷ [])
  kept_fits r f g = room_of out 0 d.texts (recall (reference_of r) (Kept (number_of f)) ∷ []) ((g, kept_sound f), tt) (omega (arith, k.room)) (omega (arith, k.few_texts))

  pub recall_fits : (r : Reading) (p : ℕ) → is_reference (reference_of r) ≡ true
      → Room out 0 d.texts ((recall (reference_of r) Recalled ∷ []) ++ replies_at t p (Rejected (number_of WasRecalled)))
  unfolding is_answer
  recall_fits r p g =
      let x : Place = place_at b p in
      let rs : List Reply = replies_at t p (Rejected (number_of WasRecalled)) in
      let n = replies_many (place_messages x) (place_bin x) (Rejected (number_of WasRecalled)) in
      room_of out 0 d.texts ((recall (reference_of r) Recalled ∷ []) ++ rs) ((g, refl), fit_there d.banks WasRecalled (k.stood.each p))
      (omega (arith, n, few_there d.banks (k.stood.each p), k.room))
      (omega (arith, n, few_there d.banks (k.stood.each p), k.few_texts))

  -- ---- the plans

  module _ (r : Reading) (m : List ℕ) (n : Accounts) (o z : Known) where
    abbrev s : State
    s = state_on d codes flags b n o

    pub untouched_so : (c : Plan) (f : Refusal) → c ≡ Untouched f → InRows (acted_with s r z c) m out 0 d.texts (Err f) t q nq w nw m out 0 d.texts
    unfolding acted_with woken
    untouched_so c f e = rw e (record { answered = refl; batches = record { ready = k.ready; is = refl }; memory = refl; replies = wrote_none out 0 d.texts })

    pub alone_so : (c : Plan) (j : ℕ) (a : Answer) (nq' nw' : ℕ) (out' : List ℕ) (to texts' : ℕ) → c ≡ Alone j
        → Stays (Err Malformed) (settlement (reference_of r) (bin_of r) (Rejected (number_of Malformed)) ∷ []) nq nw out d.texts a nq' nw' out' to texts'
        → InRows (acted_with s r z c) m out 0 d.texts a t q nq' w nw' m out' to texts'
    unfolding acted_with woken
    alone_so c j a nq' nw' out' to texts' e h = rw (e, h.queued, h.pending) (record { answered = h.answered; batches = record { ready = k.ready; is = refl }; memory = refl; replies = h.replies })

    pub none_so : (c : Plan) (j : ℕ) (a : Answer) (nq' nw' : ℕ) (out' : List ℕ) (to texts' : ℕ) → c ≡ RecallsNone j
        → Stays (Err NothingThere) (recall (reference_of r) (Kept (number_of NothingThere)) ∷ []) nq nw out d.texts a nq' nw' out' to texts'
        → InRows (acted_with s r z c) m out 0 d.texts a t q nq' w nw' m out' to texts'
    unfolding acted_with woken
    none_so c j a nq' nw' out' to texts' e h = rw (e, h.queued, h.pending) (record { answered = h.answered; batches = record { ready = k.ready; is = refl }; memory = refl; replies = h.replies })

    pub rejects_so : (c : Plan) (p : ℕ) (x : Refusal) (a : Answer) (t' q' : List ℕ) (nq' : ℕ) (w' : List ℕ) (nw' : ℕ) (m' out' : List ℕ) (to texts' : ℕ) → c ≡ Rejects p x → assembling b (bin_of r) ≡ at p
        → (a ≡ Err x) × Ends (replies_at t p (Rejected (number_of x))) b p m out 0 d.texts t' q' nq' w' nw' m' out' to texts'
        → InRows (acted_with s r z c) m out 0 d.texts a t' q' nq' w' nw' m' out' to texts'
    unfolding acted_with woken
    rejects_so c p x a t' q' nq' w' nw' m' out' to texts' e f h =
        let g : place_bin (place_at b p) ≡ bin_of r = bin_of_lem (bin_of r) (place_at b p) (is_assembling b (bin_of r) p f).there.yes in
        rw e (record { answered = h.0; batches = h.1.batches; memory = h.1.memory; replies = rw g at h.1.replies })

    pub recalled_so : (c : Plan) (p j : ℕ) (a : Answer) (t' q' : List ℕ) (nq' : ℕ) (w' : List ℕ) (nw' : ℕ) (m' out' : List ℕ) (to texts' : ℕ) → c ≡ Recalls p j → waiting b (bin_of r) ≡ at p
        → (a ≡ Ok tt) × Ends ((recall (reference_of r) Recalled ∷ []) ++ replies_at t p (Rejected (number_of WasRecalled))) b p m out 0 d.texts t' q' nq' w' nw' m' out' to texts'
        → InRows (acted_with s r z c) m out 0 d.texts a t' q' nq' w' nw' m' out' to texts'
    unfolding acted_with woken
    recalled_so c p j a t' q' nq' w' nw' m' out' to texts' e f h =
        let g : place_bin (place_at b p) ≡ bin_of r = bin_of_lem (bin_of r) (place_at b p) (is_waiting b (bin_of r) p f).there.yes in
        rw e (record { answered = h.0; batches = h.1.batches; memory = h.1.memory; replies = rw g at h.1.replies })
