-- A message that comes to a batch, or begins one.
use Prim.Native.Nat.{ℕ, suc, ◌+◌, ◌≤◌, ◌<◌}
use mathlib.Core.Path.{◌≡◌, refl, sym, ap, subst, ◌∙◌}
use mathlib.Core.Bool.{Bool, true, false, ◌||◌, false≢true}
use mathlib.Core.List.{List, []}
use native.Mathlib.Omega.{arith}
use lib.Dec.{eqb}
use lib.ListN.{length, get_or, set, replicate}
use Rattle.chars.specs.Words.{member}
use Rattle.chars.specs.declared.Refusal.{Refusal}
use Rattle.codes.specs.declared.Code.{Code}
use Rattle.request_read.specs.declared.terms.Activation.{Activation}
use Rattle.request_read.specs.declared.terms.Activation.TheVariants.{Minute}
use Rattle.request_read.specs.declared.whole.Reading.{Reading}
use Rattle.settle.specs.Settlement.{Accounts}
use Rattle.settle.specs.Rules.{Distinct}
use Rattle.queue.proofs.MemoryLaws.{by_bool}
use Rattle.model.specs.Answers.{Answer}
use Rattle.model.specs.State.{at, seek, Batch, Place, free, live, Batches, Known, State, is_free, place_at, with_place}
use Rattle.model.specs.Messages.{Acted, assembling, waiting, first_batch, admit}
use Rattle.model.specs.Rules.{RightMinute, is_reference}
use Rattle.model.proofs.Seeking.{seek_answers, no_times, is_assembling, is_waiting}
use Rattle.model.proofs.Standing.{Standing, vacant, building, awaits, stands}
use Rattle.model.proofs.Admitting.{TextGives, Takes, takes}
use Rattle.tables.specs.declared.Desk.{Desk}
use Rattle.tables.specs.Rows.{word, place_in, batch_rows, activation_in}
use Rattle.tables.specs.Words.{batch_words}
use Rattle.tables.proofs.Rowing.{Fits}
use Rattle.call_orders.specs.Heads.{headed, bare_row, Neat}
use Rattle.call_orders.specs.Stages.{seen}
use Rattle.call_orders.specs.Arriving.{new_row}
use Rattle.call_orders.proofs.ArriveLaws.{Placed, placed_so}
use Rattle.call_plan.proofs.rules.LiveRows.{not_free, live_at, place_in_lem, live_batch, neat_row, placed_became}
use Rattle.call_plan.specs.declared.plan.Plan.{Plan}
use Rattle.call_plan.specs.declared.plan.Plan.TheVariants.{Rejects, Alone, Comes, Begins, RecallsNone, Recalls}
use Rattle.call_message.specs.outcome.Acting.{acted_with}
use Rattle.call_message.specs.outcome.Doing.{state_on, batch_at, InRows, Actable, Takeable, Beginnable, Apt, bin_of, reference_of}
use Rattle.call_message.proofs.outcome.TakeLaws.{batch_now, live_now, legible_now}
use Rattle.call_message.proofs.outcome.AnswerLaws.{act_legible}

-- ---- a batch that is being assembled

takes_at : (banks : ℕ) (x : Batch) {y : Place} {i j : ℕ} → Standing banks y i j → y ≡ live x → i ≡ 0 → j ≡ 0 → Takes banks x
takes_at banks x vacant e m n = not_free e
takes_at banks x (building {b = b} r l) e m n = let g : b ≡ x = cc in subst (λ (z : Batch). Takes banks z) g (takes banks b r l)
takes_at banks x (awaits r c g) e m n = absurd (omega arith)
takes_at banks x (stands r c) e m n = absurd (omega arith)

or_none : (a b : Bool) → (a || b) ≡ false → (a ≡ false) × (b ≡ false)
or_none true b h = absurd (false≢true (sym h))
or_none false b h = (refl, h)

module _ (d : Desk) (codes flags : List ℕ) (t q : List ℕ) (nq : ℕ) (w : List ℕ) (nw : ℕ) (out : List ℕ) (k : Actable d codes flags t q nq w nw out) (r : Reading) where
  abbrev b : Batches
  b = seen t q nq w nw

  pub comes_takeable : (p : ℕ) → assembling b (bin_of r) ≡ at p → TextGives r → r.n ≤ 10 → Takeable d codes flags r t q nq w nw p out
  comes_takeable p e g f =
      let a = is_assembling b (bin_of r) p e in
      let y = live_at (bin_of r) (place_at b p) a.there.yes in
      let x : Batch = y.batch in
      let v : place_at b p ≡ live x = y.is in
      let u : x ≡ batch_at t p = live_batch t p v in
      let i = or_none (member p b.pending) (member p b.queue) a.idle in
      record {
        ready = k.ready;
        legible = act_legible d codes flags t q nq w nw out k;
        below = omega (arith, a.there.inside, k.stood.long);
        there = v ∙ ap (λ (z : Batch). live z) u;
        takes = subst (λ (z : Batch). Takes d.banks z) u (takes_at d.banks x (k.stood.each p) v (no_times p b.pending i.0) (no_times p b.queue i.1));
        gives = g;
        few = f;
        few_banks = k.few_banks;
        in_codes = k.in_codes;
        in_flags = k.in_flags;
        queue_room = k.queue_room;
        pending_room = k.pending_room;
        room = k.room;
        few_texts = k.few_texts;
      }

  pub comes_so : (c : Plan) (p i j : ℕ) → c ≡ Comes p i j → Takeable d codes flags r t q nq w nw p out
      → (m : List ℕ) (a : Answer) (t' q' : List ℕ) (nq' : ℕ) (w' : List ℕ) (nw' : ℕ) (m' out' : List ℕ) (to texts' : ℕ)
      → ((e : Batches) (n : Accounts) (o z : Known) → InRows (admit (state_on d codes flags e n o) r i b z p (batch_at t p)) m out 0 d.texts a t' q' nq' w' nw' m' out' to texts')
      → (n : Accounts) (o z : Known) → InRows (acted_with (state_on d codes flags b n o) r z c) m out 0 d.texts a t' q' nq' w' nw' m' out' to texts'
  unfolding acted_with
  comes_so c p i j e f m a t' q' nq' w' nw' m' out' to texts' h n o z = rw (e, f.there) (h b n o z)

  -- ---- a free place

  free_is : (x : Place) → is_free x ≡ true → x ≡ free
  free_is free h = refl
  free_is (live y) h = absurd (false≢true h)

  pub begins_so : (c : Plan) (p i j l : ℕ) → c ≡ Begins p i j l
      → (m : List ℕ) (a : Answer) (t' q' : List ℕ) (nq' : ℕ) (w' : List ℕ) (nw' : ℕ) (m' out' : List ℕ) (to texts' : ℕ)
      → ((e : Batches) (n : Accounts) (o z : Known) → InRows (admit (state_on d codes flags e n o) r i (with_place b p (live (first_batch (state_on d codes flags e n o) r))) z p (first_batch (state_on d codes flags e n o) r)) m out 0 d.texts a t' q' nq' w' nw' m' out' to texts')
      → (n : Accounts) (o z : Known) → InRows (acted_with (state_on d codes flags b n o) r z c) m out 0 d.texts a t' q' nq' w' nw' m' out' to texts'
  unfolding acted_with
  begins_so c p i j l e m a t' q' nq' w' nw' m' out' to texts' h n o z = rw e (h b n o z)

  pub begins_able : (p : ℕ) → seek is_free b.places ≡ at p → TextGives r → r.n ≤ 10 → Beginnable d codes flags r t q nq w nw p out
  begins_able p e g f =
      let a = seek_answers is_free free b.places p e in
      record {
        ready = k.ready;
        legible = act_legible d codes flags t q nq w nw out k;
        below = omega (arith, a.inside, k.stood.long);
        free_there = free_is (place_at b p) a.yes;
        gives = g;
        few = f;
        few_banks = k.few_banks;
        in_codes = k.in_codes;
        in_flags = k.in_flags;
        queue_room = k.queue_room;
        pending_room = k.pending_room;
        room = k.room;
        few_texts = k.few_texts;
      }

-- ---- the row of a new batch

pub minute_word : (a : Activation) (m : ℕ) → a ≡ Minute m → activation_in (m + 1) ≡ a
minute_word a m e = let g : m + 1 ≡ suc m = omega arith in rw g (sym e)

pub minute_small : (a : Activation) (m : ℕ) → a ≡ Minute m → RightMinute a → m < 1440
minute_small a m e h = rw e at h

module _ (d : Desk) (codes flags : List ℕ) (r : Reading) (t q : List ℕ) (nq : ℕ) (w : List ℕ) (nw p : ℕ) (out : List ℕ) (k : Beginnable d codes flags r t q nq w nw p out) where
  pub free_row : get_or (batch_rows t) p [] ≡ replicate 349 0
  unfolding headed place_in
  free_row =
      let row : List ℕ = get_or (batch_rows t) p [] in
      let n : Neat row = neat_row t k.ready.table p k.below in
      let f : place_in row ≡ free = sym (place_in_lem t p) ∙ k.free_there in
      by_bool (eqb (word row 0) 0)
      (λ e. let g : headed 1 0 0 row ≡ row = rw e in sym g ∙ n ∙ ap bare_row f)
      (λ e. let g : place_in row ≡ live (batch_at t p) = rw e in not_free (sym f ∙ g))

  abbrev first : Batch
  first = record { bin = bin_of r; count = r.terms.count; activation = r.terms.activation; messages = [] }

  first_fits : Fits first
  first_fits = record { few = omega arith; small = omega arith; lettered = tt }

  module _ (t' : List ℕ) (a : ℕ) (e : activation_in a ≡ r.terms.activation) (l : length t' ≡ length t) (i : batch_rows t' ≡ set (batch_rows t) p (new_row (bin_of r) r.terms.count a)) where
    placed_first : Placed t p first t'
    placed_first =
        placed_so t t' p 1 0 0 first k.ready.table first_fits (λ z. omega arith) l
        (i ∙ ap (λ (v : Activation). set (batch_rows t) p (batch_words 1 0 0 (record { bin = bin_of r; count = r.terms.count; activation = v; messages = [] }))) e)

    batch_first : first ≡ batch_at t' p
    batch_first = batch_now t q nq w nw p k.ready k.legible k.below first (omega arith) t' l placed_first

    pub first_takeable : Takeable d codes flags r t' q nq w nw p out
    unfolding Distinct
    first_takeable = record {
      ready = (placed_became t q nq w nw p first t' k.ready placed_first).ready;
      legible = legible_now t q nq w nw p k.ready k.legible k.below first (omega arith) t' l placed_first;
      below = k.below;
      there = live_now t q nq w nw p k.ready k.legible k.below first (omega arith) t' l placed_first;
      takes = subst (λ (y : Batch). Takes d.banks y) batch_first (record {
        bin = k.gives.bin;
        count = k.gives.count;
        minute = k.gives.minute;
        messages = tt;
        apart = tt;
        banks_differ = tt;
        room = k.gives.count.0;
      });
      gives = k.gives;
      few = k.few;
      few_banks = k.few_banks;
      in_codes = k.in_codes;
      in_flags = k.in_flags;
      queue_room = k.queue_room;
      pending_room = k.pending_room;
      room = k.room;
      few_texts = k.few_texts;
    }

    pub first_so : (stream : ℕ) (m : List ℕ) (ans : Answer) (t'' q'' : List ℕ) (nq'' : ℕ) (w'' : List ℕ) (nw'' : ℕ) (m'' out'' : List ℕ) (to texts'' : ℕ)
        → ((c : Batches) (n : Accounts) (o z : Known) → InRows (admit (state_on d codes flags c n o) r stream (seen t' q nq w nw) z p (batch_at t' p)) m out 0 d.texts ans t'' q'' nq'' w'' nw'' m'' out'' to texts'')
        → (c : Batches) (n : Accounts) (o z : Known)
        → InRows (admit (state_on d codes flags c n o) r stream (with_place (seen t q nq w nw) p (live (first_batch (state_on d codes flags c n o) r))) z p (first_batch (state_on d codes flags c n o) r)) m out 0 d.texts ans t'' q'' nq'' w'' nw'' m'' out'' to texts''
    first_so stream m ans t'' q'' nq'' w'' nw'' m'' out'' to texts'' h c n o z =
        let s : State = state_on d codes flags c n o in
        let g : admit s r stream (seen t' q nq w nw) z p (batch_at t' p) ≡ admit s r stream (with_place (seen t q nq w nw) p (live first)) z p first =
        ap (λ (y : Batch). admit s r stream (seen t' q nq w nw) z p y) (sym batch_first)
        ∙ ap (λ (y : Batches). admit s r stream y z p first) (placed_became t q nq w nw p first t' k.ready placed_first).is in
        subst (λ (y : Acted). InRows y m out 0 d.texts ans t'' q'' nq'' w'' nw'' m'' out'' to texts'') g (h c n o z)

-- ---- what a plan was chosen for

module _ (b : Batches) (r : Reading) (c : Plan) (h : Apt b r c) where
  pub apt_rejects : (p : ℕ) (f : Refusal) → c ≡ Rejects p f → assembling b (bin_of r) ≡ at p
  apt_rejects p f e = rw e at h

  pub apt_alone : (q : ℕ) → c ≡ Alone q → TextGives r
  apt_alone q e = rw e at h

  pub apt_comes : (p i q : ℕ) → c ≡ Comes p i q → (assembling b (bin_of r) ≡ at p) × TextGives r × (r.n ≤ 10) × (i ≤ 8)
  apt_comes p i q e = rw e at h

  pub apt_begins : (p i q j : ℕ) → c ≡ Begins p i q j → (seek is_free b.places ≡ at p) × TextGives r × (r.n ≤ 10) × (i ≤ 8)
  apt_begins p i q j e = rw e at h

  pub apt_none : (q : ℕ) → c ≡ RecallsNone q → is_reference (reference_of r) ≡ true
  apt_none q e = rw e at h

  pub apt_recalls : (p q : ℕ) → c ≡ Recalls p q → (waiting b (bin_of r) ≡ at p) × (is_reference (reference_of r) ≡ true)
  apt_recalls p q e = rw e at h

module _ (d : Desk) (codes flags : List ℕ) (t q : List ℕ) (nq : ℕ) (w : List ℕ) (nw : ℕ) (out : List ℕ) (k : Actable d codes flags t q nq w nw out) (c : Code) (p : ℕ) where
  pub assembling_below : assembling (seen t q nq w nw) c ≡ at p → p < 32
  assembling_below e = omega (arith, (is_assembling (seen t q nq w nw) c p e).there.inside, k.stood.long)

  pub waiting_below : waiting (seen t q nq w nw) c ≡ at p → p < 32
  waiting_below e = omega (arith, (is_waiting (seen t q nq w nw) c p e).there.inside, k.stood.long)
