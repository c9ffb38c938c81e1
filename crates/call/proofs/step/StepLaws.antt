-- A call on an open day leaves what the model's steps leave.
use Prim.Native.Nat.{ℕ, ◌+◌, ◌*◌, ◌≤◌}
use mathlib.Core.Path.{◌≡◌, sym, ap, subst, ◌∙◌}
use mathlib.Core.Bool.{Bool, true, false, cond, false≢true}
use mathlib.Core.List.{List, ◌++◌}
use native.Mathlib.Omega.{arith}
use lib.ListN.{length, replicate}
use lib.Seq.{length-take-le}
use Rattle.book_read.specs.Accounts.{stream_row}
use Rattle.settle.specs.Settlement.{Accounts}
use Rattle.queue.specs.Tests.{Outcome}
use Rattle.queue.specs.Memory.{forgotten}
use Rattle.model.specs.Answers.{Answer}
use Rattle.model.specs.declared.Action.{Action}
use Rattle.model.specs.declared.Phase.{Phase}
use Rattle.model.specs.declared.Phase.TheVariants.{Closed}
use Rattle.model.specs.State.{Batches, Entry, State, no_batches, no_memory}
use Rattle.model.specs.Replies.{Reply, texts_from}
use Rattle.model.specs.Kinds.{is_close, own_of}
use Rattle.model.specs.Joining.{join}
use Rattle.model.specs.Messages.{Acted}
use Rattle.model.specs.Ending.{close_replies}
use Rattle.model.specs.Calls.{Call, Engine, begun, act, tested, replies, left, last_replies, goes_on, closes, stepped}
use Rattle.model.specs.Rules.{Opened, ValidIn, RightMemory}
use Rattle.model.proofs.Reading.{readers}
use Rattle.model.proofs.Keeping.{tested_stood}
use Rattle.model.proofs.Holding.{left_memory}
use Rattle.model.proofs.Validity.{valid_kept}
use Rattle.model.proofs.Standing.{Stood, join_stood, few_queued}
use Rattle.tables.specs.declared.Desk.{Desk}
use Rattle.tables.specs.Moment.{moved_to, call_for, lent_with}
use Rattle.tables.specs.Rows.{Tables, batches_in, memory_in, entries_in, streams_on, state_in, engine_in}
use Rattle.tables.specs.Words.{filled, entries_words, sheet_words, tables_of, desk_of}
use Rattle.tables.specs.Lent.{left_by}
use Rattle.tables_rules.proofs.whole.Parts.{entries_words_lem, none_words, is_blank_lem, idle}
use Rattle.call.proofs.premises.Granted.{Granted, open_grants}
use Rattle.call_orders.specs.Heads.{NeatTable, words_of}
use Rattle.call_orders.specs.Stages.{seen, Became}
use Rattle.call_orders.proofs.Canon.{stored_so, words_say}
use Rattle.call_texts.specs.Writing.{Wrote, Room, Legible, batches_on}
use Rattle.call_texts.proofs.Laws.{legible, close_any, room_first, room_rest, wrote_then}
use Rattle.call_texts.proofs.Whole.{stepped_room}
use Rattle.call.specs.action.Working.{middle, acted_in, tested_in, Workable, Worked}
use Rattle.call.specs.step.Stepping.{Steppable, lent_as, left_as, desk_after}

module _ (quick : Bool) (d : Desk) (x : Action) (clock : ℕ) (input codes flags balances sublimits t rs bs out r : List ℕ)
    (k : Steppable d (lent_with codes flags balances sublimits t rs bs) clock x out r) where
  abbrev T : Tables
  T = lent_with codes flags balances sublimits t rs bs

  abbrev e : Engine
  e = engine_in d T

  abbrev c : Call
  c = call_for quick clock x input (length out) (length r)

  abbrev d' : Desk
  d' = moved_to d clock

  pub grants : Granted d T
  grants = open_grants d T k.phase k.right

  opened : Opened (state_in d T)
  unfolding state_in engine_in
  opened = subst (λ (p : Phase). ValidIn p (state_in d T)) k.phase k.right.valid

  module _ (m q : List ℕ) (nq : ℕ) (w : List ℕ) (nw : ℕ) (held : m ≡ memory_in t) (began : Became (join clock (batches_in t)) t q nq w nw) where
    abbrev s : State
    s = middle d' codes flags balances sublimits t q nq w nw rs bs

    abbrev a : Acted
    a = acted_in d' x input codes flags balances sublimits t q nq w nw rs bs

    abbrev o : Outcome
    o = tested_in quick d' x input codes flags balances sublimits t q nq w nw rs bs m

    same_state : begun e.state clock ≡ s
    unfolding begun engine_in state_in
    same_state = rw began.is

    same_memory : e.memory ≡ m
    unfolding engine_in
    same_memory = sym held

    -- what is said of the model's steps is said of these
    model : {A : Type 0} (f : State → Acted → Outcome → A)
        → f (begun e.state clock) (act (begun e.state clock) (own_of x) input) (tested quick (act (begun e.state clock) (own_of x) input) e.memory) ≡ f s a o
    model f =
        ap (λ (z : State). f z (act z (own_of x) input) (tested quick (act z (own_of x) input) e.memory)) same_state
        ∙ ap (λ (z : List ℕ). f s a (tested quick a z)) same_memory

    holds : (P : State → Acted → Outcome → Type 0)
        → P (begun e.state clock) (act (begun e.state clock) (own_of x) input) (tested quick (act (begun e.state clock) (own_of x) input) e.memory) → P s a o
    holds P h =
        subst (λ (z : List ℕ). P s a (tested quick a z)) same_memory
        (subst (λ (z : State). P z (act z (own_of x) input) (tested quick (act z (own_of x) input) e.memory)) same_state h)

    abbrev ends : State → Acted → Outcome → List Reply
    ends z b u = cond (is_close x) (replies z b u ++ last_replies z b u) (replies z b u)

    whole_room : Room out 0 d.texts (ends s a o)
    unfolding engine_in state_in
    whole_room = subst (λ (l : List Reply). Room out 0 d.texts l) (model ends) (stepped_room readers e c k.right.valid opened k.moment out k.room)

    first_room : (u : Bool) → Room out 0 d.texts (cond u (replies s a o ++ last_replies s a o) (replies s a o)) → Room out 0 d.texts (replies s a o)
    first_room true h = room_first d.texts (replies s a o) (last_replies s a o) h
    first_room false h = h

    stood : Stood d.banks (seen t q nq w nw)
    stood = subst (λ (b : Batches). Stood d.banks b) (sym began.is) (join_stood d.banks clock (batches_in t) grants.stood)

    pub work_able : nw ≤ 32 → 64 ≤ length q → 64 ≤ length w → length m ≡ 32 → Workable quick d' x input codes flags balances sublimits t q nq w nw rs bs m out r
    work_able f lq lw lm = record {
      actable = record {
        ready = began.ready;
        stood = stood;
        few_banks = grants.few_banks;
        in_codes = omega (arith, grants.few_banks, grants.long.codes);
        in_flags = omega (arith, grants.few_banks, grants.long.flags);
        queue_room = omega (arith, length-take-le nq q began.ready.queue, few_queued d.banks (seen t q nq w nw) stood, lq);
        pending_room = omega (arith, f, lw);
        room = omega (arith, k.room);
        few_texts = omega (arith, grants.texts);
      };
      few_streams = grants.few_streams;
      house = grants.house;
      references = grants.long.references;
      bins = grants.long.bins;
      memory = lm;
      tries = k.rows;
      room = first_room (is_close x) whole_room;
    }

    -- ---- what the steps leave

    module _ (answer : Answer) (balances₂ limits₂ t₂ q₂ : List ℕ) (nq₂ : ℕ) (w₂ : List ℕ) (nw₂ : ℕ) (rs₂ bs₂ m₂ out₂ : List ℕ) (at₂ texts₂ : ℕ) (r₂ : List ℕ) (k₂ : ℕ)
        (h : Worked s a o out r d.texts answer balances₂ limits₂ t₂ q₂ nq₂ w₂ nw₂ rs₂ bs₂ m₂ out₂ at₂ texts₂ r₂ k₂)
        (long : length rs₂ ≡ 6144) (wide : length bs₂ ≡ 1536) where
      streams_so : filled 16 (stream_row (streams_on d)) ≡ d.streams
      unfolding desk_of engine_in state_in
      streams_so = ap (λ (z : Desk). z.streams) k.right.desk

      few_so : length (streams_on d) ≡ d.n
      unfolding desk_of engine_in state_in
      few_so = ap (λ (z : Desk). z.n) k.right.desk

      balances_so : balances₂ ≡ o.books.balances
      balances_so = ap (λ (z : Accounts). z.balances) h.books

      sublimits_so : limits₂ ≡ o.books.sublimits
      sublimits_so = ap (λ (z : Accounts). z.sublimits) h.books

      references_so : rs₂ ≡ entries_words a.known.references
      references_so = sym (entries_words_lem 2048 rs₂ (omega arith)) ∙ ap entries_words h.known.references

      bins_so : bs₂ ≡ entries_words a.known.bins
      bins_so = sym (entries_words_lem 512 bs₂ (omega arith)) ∙ ap entries_words h.known.bins

      still_stood : Stood d.banks (left s a o)
      unfolding begun engine_in state_in
      still_stood = holds (λ z b u. Stood z.house.banks (left z b u)) (tested_stood readers e c (valid_kept e.state k.right.valid))

      still_held : RightMemory (left s a o) (forgotten o.done o.memory)
      unfolding engine_in
      still_held = holds (λ z b u. RightMemory (left z b u) (forgotten u.done u.memory)) (left_memory e c k.right.memory)

      goes_so : (t₃ : List ℕ) → t₃ ≡ words_of (seen t₂ q₂ nq₂ w₂ nw₂) m₂
          → left_as answer at₂ k₂ (desk_after d.phase texts₂ d') (lent_with codes flags balances₂ limits₂ t₃ rs₂ bs₂) out₂ r₂ ≡ left_by (lent_as d T out r) (goes_on s a o)
      unfolding goes_on desk_of tables_of
      goes_so t₃ f =
          let g : t₃ ≡ words_of (left s a o) (forgotten o.done o.memory) =
          stored_so (left s a o) t₂ q₂ nq₂ w₂ nw₂ m₂ t₃ h.batches f ∙ ap (λ (z : List ℕ). words_of (left s a o) z) h.memory
          in
          let w : sheet_words (batches_in t₃) ≡ sheet_words (left s a o) =
          ap sheet_words (words_say d.banks (left s a o) (forgotten o.done o.memory) t₃ still_stood still_held g)
          in
          let v : at₂ ≡ length (texts_from d.texts (replies s a o)) = omega (arith, h.replies.end) in
          rw (h.answered, v, h.tried, h.replies.count, h.replies.bytes, h.row, w, g, balances_so, sublimits_so, references_so, bins_so, streams_so, few_so)

      pub steps_on : is_close x ≡ false → (t₃ : List ℕ) → t₃ ≡ words_of (seen t₂ q₂ nq₂ w₂ nw₂) m₂
          → left_as answer at₂ k₂ (desk_after d.phase texts₂ d') (lent_with codes flags balances₂ limits₂ t₃ rs₂ bs₂) out₂ r₂ ≡ left_by (lent_as d T out r) (stepped e c)
      unfolding stepped
      steps_on u t₃ f = rw u (goes_so t₃ f ∙ ap (left_by (lent_as d T out r)) (sym (model goes_on)))

      -- ---- the close

      last_so : close_replies d.date (batches_on t₂) (entries_in 512 bs₂) ≡ last_replies s a o
      unfolding last_replies
      last_so =
          close_any (batches_on t₂) (left s a o) (ap (λ (b : Batches). b.places) h.batches.is) d.date (entries_in 512 bs₂)
          ∙ ap (λ (l : List Entry). close_replies d.date (left s a o) l) h.known.bins

      close_room : (u : Bool) → u ≡ true → Room out 0 d.texts (cond u (replies s a o ++ last_replies s a o) (replies s a o))
          → Room out₂ at₂ texts₂ (close_replies d.date (batches_on t₂) (entries_in 512 bs₂))
      close_room true f y = subst (λ (l : List Reply). Room out₂ at₂ texts₂ l) (sym last_so) (room_rest h.replies (last_replies s a o) y)
      close_room false f y = absurd (false≢true f)

      pub close_able : is_close x ≡ true
          → (Legible t₂ × (512 * 3 ≤ length bs₂)) × Room out₂ at₂ texts₂ (close_replies d.date (batches_on t₂) (entries_in 512 bs₂))
      close_able f = (
        (legible d.banks (left s a o) still_stood t₂ h.batches.ready.table.long (ap (λ (b : Batches). b.places) h.batches.is), omega arith),
        close_room (is_close x) f whole_room,
      )

      module _ (t₃ out₃ : List ℕ) (at₃ texts₃ : ℕ) (f : t₃ ≡ replicate (length t₂) 0)
          (y : Wrote out₂ at₂ texts₂ (close_replies d.date (batches_on t₂) (entries_in 512 bs₂)) out₃ at₃ texts₃) where
        all_told : Wrote out 0 d.texts (replies s a o ++ last_replies s a o) out₃ at₃ texts₃
        all_told = wrote_then h.replies (last_replies s a o) (subst (λ (l : List Reply). Wrote out₂ at₂ texts₂ l out₃ at₃ texts₃) last_so y)

        closes_so : left_as answer at₃ k₂ (desk_after Closed texts₃ d') (lent_with codes flags balances₂ limits₂ t₃ rs₂ bs₂) out₃ r₂ ≡ left_by (lent_as d T out r) (closes s a o)
        unfolding closes desk_of tables_of
        closes_so =
            let b : t₃ ≡ replicate 11168 0 = f ∙ ap (λ (n : ℕ). replicate n 0) h.batches.ready.table.long in
            let g : t₃ ≡ words_of no_batches no_memory = b ∙ sym (none_words no_memory) in
            let w : sheet_words (batches_in t₃) ≡ sheet_words no_batches =
            ap sheet_words (idle d (lent_with codes flags balances₂ limits₂ t₃ rs₂ bs₂) (is_blank_lem 11168 t₃ b))
            in
            let u = all_told in
            let v : at₃ ≡ length (texts_from d.texts (replies s a o ++ last_replies s a o)) = omega (arith, u.end) in
            rw (h.answered, v, h.tried, u.count, u.bytes, h.row, w, g, balances_so, sublimits_so, references_so, bins_so, streams_so, few_so)

        pub steps_close : is_close x ≡ true
            → left_as answer at₃ k₂ (desk_after Closed texts₃ d') (lent_with codes flags balances₂ limits₂ t₃ rs₂ bs₂) out₃ r₂ ≡ left_by (lent_as d T out r) (stepped e c)
        unfolding stepped
        steps_close u = rw u (closes_so ∙ ap (left_by (lent_as d T out r)) (sym (model closes)))

  -- ---- the same of a desk that is just the moved one

  module _ (v : Desk) (same : v ≡ moved_to d clock) (m q : List ℕ) (nq : ℕ) (w : List ℕ) (nw : ℕ) (held : m ≡ memory_in t) (began : Became (join clock (batches_in t)) t q nq w nw) where
    pub able : nw ≤ 32 → 64 ≤ length q → 64 ≤ length w → length m ≡ 32 → Workable quick v x input codes flags balances sublimits t q nq w nw rs bs m out r
    able f lq lw lm =
        subst (λ (u : Desk). Workable quick u x input codes flags balances sublimits t q nq w nw rs bs m out r) (sym same) (work_able m q nq w nw held began f lq lw lm)

    module _ (answer : Answer) (balances₂ limits₂ t₂ q₂ : List ℕ) (nq₂ : ℕ) (w₂ : List ℕ) (nw₂ : ℕ) (rs₂ bs₂ m₂ out₂ : List ℕ) (at₂ texts₂ : ℕ) (r₂ : List ℕ) (k₂ : ℕ)
        (h : Worked (middle v codes flags balances sublimits t q nq w nw rs bs) (acted_in v x input codes flags balances sublimits t q nq w nw rs bs)
        (tested_in quick v x input codes flags balances sublimits t q nq w nw rs bs m) out r v.texts answer balances₂ limits₂ t₂ q₂ nq₂ w₂ nw₂ rs₂ bs₂ m₂ out₂ at₂ texts₂ r₂ k₂)
        (long : length rs₂ ≡ length rs) (wide : length bs₂ ≡ length bs) where
      moved_work : Worked (s m q nq w nw held began) (a m q nq w nw held began) (o m q nq w nw held began) out r d.texts answer balances₂ limits₂ t₂ q₂ nq₂ w₂ nw₂ rs₂ bs₂ m₂ out₂ at₂ texts₂ r₂ k₂
      moved_work =
          subst (λ (u : Desk). Worked (middle u codes flags balances sublimits t q nq w nw rs bs) (acted_in u x input codes flags balances sublimits t q nq w nw rs bs)
          (tested_in quick u x input codes flags balances sublimits t q nq w nw rs bs m) out r u.texts answer balances₂ limits₂ t₂ q₂ nq₂ w₂ nw₂ rs₂ bs₂ m₂ out₂ at₂ texts₂ r₂ k₂) same h

      pub ready_on : (nq₂ ≤ length q₂) × (nw₂ ≤ length w₂)
      ready_on = (moved_work.batches.ready.queue, moved_work.batches.ready.pending)

      pub neat_on : NeatTable t₂
      neat_on = moved_work.batches.ready.table

      pub on : is_close x ≡ false → (z : Desk) (t₃ : List ℕ) → t₃ ≡ words_of (seen t₂ q₂ nq₂ w₂ nw₂) m₂ → z ≡ desk_after d.phase texts₂ v
          → left_as answer at₂ k₂ z (lent_with codes flags balances₂ limits₂ t₃ rs₂ bs₂) out₂ r₂ ≡ left_by (lent_as d T out r) (stepped e c)
      on u z t₃ f y =
          rw (y, same)
          (steps_on m q nq w nw held began answer balances₂ limits₂ t₂ q₂ nq₂ w₂ nw₂ rs₂ bs₂ m₂ out₂ at₂ texts₂ r₂ k₂ moved_work (long ∙ grants.long.references) (wide ∙ grants.long.bins) u t₃ f)

      pub closing : is_close x ≡ true
          → (Legible t₂ × (512 * 3 ≤ length bs₂)) × Room out₂ at₂ texts₂ (close_replies d.date (batches_on t₂) (entries_in 512 bs₂))
      closing =
          close_able m q nq w nw held began answer balances₂ limits₂ t₂ q₂ nq₂ w₂ nw₂ rs₂ bs₂ m₂ out₂ at₂ texts₂ r₂ k₂ moved_work (long ∙ grants.long.references) (wide ∙ grants.long.bins)

      pub closed : is_close x ≡ true → (z : Desk) (t₃ out₃ : List ℕ) (at₃ texts₃ : ℕ)
          → Wrote out₂ at₂ texts₂ (close_replies d.date (batches_on t₂) (entries_in 512 bs₂)) out₃ at₃ texts₃ → t₃ ≡ replicate (length t₂) 0 → z ≡ desk_after Closed texts₃ v
          → left_as answer at₃ k₂ z (lent_with codes flags balances₂ limits₂ t₃ rs₂ bs₂) out₃ r₂ ≡ left_by (lent_as d T out r) (stepped e c)
      closed u z t₃ out₃ at₃ texts₃ g f y =
          rw (y, same)
          (steps_close m q nq w nw held began answer balances₂ limits₂ t₂ q₂ nq₂ w₂ nw₂ rs₂ bs₂ m₂ out₂ at₂ texts₂ r₂ k₂ moved_work (long ∙ grants.long.references) (wide ∙ grants.long.bins) t₃ out₃ at₃ texts₃ f g u)
