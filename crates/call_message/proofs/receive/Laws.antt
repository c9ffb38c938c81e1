-- Laws of a message's action.
use Prim.Native.Nat.{ℕ, ◌*◌, ◌≤◌, ◌<◌}
use mathlib.Core.Path.{◌≡◌, refl, sym, ap, subst, ◌∙◌}
use mathlib.Core.Bool.{true}
use mathlib.Core.List.{List, [], ◌∷◌, map, append_assoc}
use native.Mathlib.Omega.{arith}
use lib.Dec.{eqb}
use lib.ListN.{length, get_or, set}
use lib.Seq.{sets, sets-eq, drop-drop}
use Rattle.chars.specs.declared.Refusal.{Refusal}
use Rattle.codes.specs.declared.Code.{Code}
use Rattle.text_fields.specs.declared.Break.{Break}
use Rattle.request_read.specs.whole.Request.{request_at}
use Rattle.request_read.specs.declared.whole.Reading.{Reading}
use Rattle.request_read.specs.declared.whole.Outcome.{Outcome as Read}
use Rattle.request_read.specs.declared.whole.Outcome.TheVariants.{Settlement, Recall, Refused as Unread}
use Rattle.thm_grammar.proofs.Values.{settlement_gives}
use Rattle.settle.specs.Settlement.{Accounts}
use Rattle.queue.proofs.MemoryLaws.{by_bool}
use Rattle.book_read.specs.Accounts.{Stream}
use Rattle.book_read.proofs.Filling.{each_length}
use Rattle.book_write.specs.Closing.{stream_of}
use Rattle.model.specs.Answers.{Answer}
use Rattle.model.specs.State.{at, seek, Batch, Batches, Known, State, is_free, no_entry}
use Rattle.model.specs.Memory.{is_used, is_vacant, vacant}
use Rattle.model.specs.Messages.{no_stream, is_broken_part, assembling, waiting, is_complete, is_even, first_broken, message_rules, on_rules, with_message, first_batch, completed, admit, message}
use Rattle.model.specs.Rules.{is_reference}
use Rattle.model.proofs.Seeking.{by_found, seek_answers}
use Rattle.model.proofs.Admitting.{TextGives}
use Rattle.model.proofs.Reading.{readers}
use Rattle.tables.specs.declared.Desk.{Desk}
use Rattle.tables.specs.Rows.{rows, entry_in, entries_in, streams_on}
use Rattle.tables.proofs.MemoryLaws.{map_set, entries_long}
use Rattle.tables.proofs.RowLaws.{put}
use Rattle.call_orders.specs.Stages.{seen}
use Rattle.call_plan.specs.declared.plan.Plan.{Plan}
use Rattle.call_plan.specs.declared.plan.Plan.TheVariants.{Untouched, Rejects, Alone, Comes, Begins, RecallsNone, Recalls}
use Rattle.std.specs.Prelude.{Result, Ok, Err}
use Rattle.call_plan.specs.plan.Plans.{sent_on, noted_on, settlement_on, recall_on, broken_on, plan_on}
use Rattle.call_message.specs.outcome.Acting.{noted_at, known_by, acted_with, acted_by}
use Rattle.call_message.specs.outcome.Doing.{state_on, batch_at, InRows, Actable, Apt, bin_of, reference_of}
use Rattle.call_message.proofs.outcome.BeginLaws.{comes_takeable}
use Rattle.call_message.proofs.outcome.Chosen.{chosen_acts}
use Rattle.call_message.specs.receive.Messaging.{known_in, Within, Noted, Received}

-- ---- what is noted

row_put : (n : ℕ) (t : List ℕ) (q : ℕ) (ws : List ℕ) → length ws ≡ 3 → q < n → n * 3 ≤ length t → rows 3 n (sets t (q * 3) ws) ≡ set (rows 3 n t) q ws
row_put n t q ws e h l = rw (sets-eq ws t (q * 3) (omega arith), e, ← drop-drop 3 (q * 3) t, append_assoc) (put 3 n q t ws h l e)

noted_entry : (n : ℕ) (t : List ℕ) (q : ℕ) (code : Code) (today : ℕ) → q < n → n * 3 ≤ length t
    → entries_in n (sets t (q * 3) (code.high ∷ code.low ∷ today ∷ [])) ≡ noted_at today code q (entries_in n t)
unfolding entries_in
noted_entry n t q code today h l =
    ap (λ (x : List (List ℕ)). map entry_in x) (row_put n t q (code.high ∷ code.low ∷ today ∷ []) refl h l)
    ∙ map_set entry_in (rows 3 n t) q (code.high ∷ code.low ∷ today ∷ [])

module _ (c : Plan) (w : Within c) where
  pub within_alone : (q : ℕ) → c ≡ Alone q → q < 2048
  within_alone q e = rw e at w

  pub within_comes : (p i q : ℕ) → c ≡ Comes p i q → q < 2048
  within_comes p i q e = rw e at w

  pub within_begins : (p i q j : ℕ) → c ≡ Begins p i q j → (q < 2048) × (j < 512)
  within_begins p i q j e = rw e at w

  pub within_none : (q : ℕ) → c ≡ RecallsNone q → q < 2048
  within_none q e = rw e at w

  pub within_recalls : (p q : ℕ) → c ≡ Recalls p q → q < 2048
  within_recalls p q e = rw e at w

module _ (today : ℕ) (r b : Code) (c : Plan) (rs bs : List ℕ) (long : length rs ≡ 6144) (wide : length bs ≡ 1536) where
  pub noted_untouched : (f : Refusal) → c ≡ Untouched f → Noted (known_by today r b c (known_in rs bs)) rs bs
  unfolding known_by
  noted_untouched f e = rw e (record { references = refl; bins = refl })

  pub noted_rejects : (p : ℕ) (f : Refusal) → c ≡ Rejects p f → Noted (known_by today r b c (known_in rs bs)) rs bs
  unfolding known_by
  noted_rejects p f e = rw e (record { references = refl; bins = refl })

  module _ (q : ℕ) (h : q < 2048) (rs' : List ℕ) (i : rs' ≡ sets rs (q * 3) (r.high ∷ r.low ∷ today ∷ [])) where
    reference_noted : entries_in 2048 rs' ≡ noted_at today r q (entries_in 2048 rs)
    reference_noted = ap (entries_in 2048) i ∙ noted_entry 2048 rs q r today h (omega arith)

    pub noted_alone : c ≡ Alone q → Noted (known_by today r b c (known_in rs bs)) rs' bs
    unfolding known_by
    noted_alone e = rw e (record { references = reference_noted; bins = refl })

    pub noted_comes : (p j : ℕ) → c ≡ Comes p j q → Noted (known_by today r b c (known_in rs bs)) rs' bs
    unfolding known_by
    noted_comes p j e = rw e (record { references = reference_noted; bins = refl })

    pub noted_none : c ≡ RecallsNone q → Noted (known_by today r b c (known_in rs bs)) rs' bs
    unfolding known_by
    noted_none e = rw e (record { references = reference_noted; bins = refl })

    pub noted_recalls : (p : ℕ) → c ≡ Recalls p q → Noted (known_by today r b c (known_in rs bs)) rs' bs
    unfolding known_by
    noted_recalls p e = rw e (record { references = reference_noted; bins = refl })

    pub noted_begins : (p j k : ℕ) (bs' : List ℕ) → k < 512 → bs' ≡ sets bs (k * 3) (b.high ∷ b.low ∷ today ∷ []) → c ≡ Begins p j q k
        → Noted (known_by today r b c (known_in rs bs)) rs' bs'
    unfolding known_by
    noted_begins p j k bs' g f e = rw e (record { references = reference_noted; bins = ap (entries_in 512) f ∙ noted_entry 512 bs k b today g (omega arith) })

-- ---- what is known of the plan that was chosen

vacant_below : (today n : ℕ) (t : List ℕ) (q : ℕ) → vacant today (entries_in n t) ≡ at q → q < n
unfolding vacant
vacant_below today n t q e = omega (arith, (seek_answers (is_vacant today) no_entry (entries_in n t) q e).inside, entries_long n t)

-- a plan is apt, and its places are places of the tables
abbrev Good : Batches → Reading → Plan → Type 0
Good b r c = Apt b r c × Within c

module _ (d : Desk) (few : d.n ≤ 8) (b : Batches) (rs bs : List ℕ) (text : List ℕ) where
  abbrev r : Reading
  r = request_at text

  module _ (o : r.outcome ≡ Settlement) where
    gives : TextGives r
    gives = (readers.texts text).settlement o

    ten : r.n ≤ 10
    ten = (settlement_gives text o).few

    module _ (i : ℕ) (small : i ≤ 8) where
      noted_good : (q : ℕ) → q < 2048 → Good b r (noted_on d.date b.places (entries_in 512 bs) (assembling b (bin_of r)) i q (bin_of r))
      unfolding noted_on
      noted_good q h =
          by_bool (is_used d.date (bin_of r) (entries_in 512 bs))
          (λ e. by_found (assembling b (bin_of r)) (λ p f. rw (e, f) ((f, gives, ten, small), h)) (λ f. rw (e, f) (gives, h)))
          (λ e.
          by_found (seek is_free b.places)
          (λ p f.
          by_found (vacant d.date (entries_in 512 bs))
          (λ k g. rw (e, f, g) ((f, gives, ten, small), (h, vacant_below d.date 512 bs k g)))
          (λ g. rw (e, f, g) (tt, tt)))
          (λ f. rw (e, f) (tt, tt)))

      settlement_good : Good b r (settlement_on d.date b (entries_in 2048 rs) (entries_in 512 bs) i (reference_of r) (bin_of r))
      unfolding settlement_on
      settlement_good =
          by_bool (is_used d.date (reference_of r) (entries_in 2048 rs))
          (λ e. by_found (assembling b (bin_of r)) (λ p f. rw (e, f) (f, tt)) (λ f. rw (e, f) (tt, tt)))
          (λ e.
          by_found (vacant d.date (entries_in 2048 rs))
          (λ q f. rw (e, f) (noted_good q (vacant_below d.date 2048 rs q f)))
          (λ f. rw (e, f) (tt, tt)))

  module _ (o : r.outcome ≡ Recall) where
    recall_good : Good b r (recall_on d.date b (entries_in 2048 rs) (reference_of r) (bin_of r))
    unfolding recall_on
    recall_good =
        let g : is_reference (reference_of r) ≡ true = (readers.texts text).recall o in
        by_bool (is_used d.date (reference_of r) (entries_in 2048 rs))
        (λ e. rw e (tt, tt))
        (λ e.
        by_found (vacant d.date (entries_in 2048 rs))
        (λ q f.
        let h = vacant_below d.date 2048 rs q f in
        by_found (waiting b (bin_of r)) (λ p j. rw (e, f, j) ((j, g), h)) (λ j. rw (e, f, j) (g, h)))
        (λ f. rw (e, f) (tt, tt)))

  sent_small : (sender code i : ℕ) → sent_on (streams_on d) sender code ≡ Ok i → i ≤ 8
  unfolding sent_on
  sent_small sender code i h =
      by_found (seek (λ (x : Stream). eqb x.code code) (streams_on d))
      (λ j e.
      let l = (seek_answers (λ (x : Stream). eqb x.code code) no_stream (streams_on d) j e).inside in
      by_bool (eqb sender (get_or (streams_on d) j no_stream).sender)
      (λ f. let g : ◌≡◌ {A = Result ℕ Refusal} (Ok j) (Ok i) = rw (e, f) at h in let k : j ≡ i = cc in omega (arith, l, each_length (stream_of d.streams) 0 d.n))
      (λ f. let g : ◌≡◌ {A = Result ℕ Refusal} (Err _) (Ok i) = rw (e, f) at h in let z : ◌≡◌ {A = ℕ} 0 1 = cc in absurd (omega arith)))
      (λ e. let g : ◌≡◌ {A = Result ℕ Refusal} (Err _) (Ok i) = rw e at h in let z : ◌≡◌ {A = ℕ} 0 1 = cc in absurd (omega arith))

  by_sent {ℓ} : {X : Type ℓ} (s : Result ℕ Refusal) → ((i : ℕ) → s ≡ Ok i → X) → ((f : Refusal) → s ≡ Err f → X) → X
  by_sent (Ok i) g h = g i refl
  by_sent (Err f) g h = h f refl

  broken_good : (sender : ℕ) (k : Break) → Good b r (broken_on (streams_on d) sender r.head k b)
  unfolding broken_on
  broken_good sender k =
      by_bool (is_broken_part r.head k)
      (λ e.
      by_sent (sent_on (streams_on d) sender r.head.address.stream.number)
      (λ i f. by_found (assembling b (bin_of r)) (λ p g. rw (e, f, g) (g, tt)) (λ g. rw (e, f, g) (tt, tt)))
      (λ g f. rw (e, f) (tt, tt)))
      (λ e. rw e (tt, tt))

  by_outcome_lem : (sender : ℕ) (o : Read) → r.outcome ≡ o → Good b r (plan_on d.date (streams_on d) sender o r.head b (entries_in 2048 rs) (entries_in 512 bs))
  by_outcome_lem sender Settlement e =
      by_sent (sent_on (streams_on d) sender r.head.address.stream.number)
      (λ i f. rw f (settlement_good e i (sent_small sender r.head.address.stream.number i f)))
      (λ g f. rw f (tt, tt))
  by_outcome_lem sender Recall e =
      by_sent (sent_on (streams_on d) sender r.head.address.stream.number)
      (λ i f. rw f (recall_good e))
      (λ g f. rw f (tt, tt))
  by_outcome_lem sender (Unread k) e = broken_good sender k

  pub chosen_good : (sender : ℕ) (g : Reading) (c : Plan) → g ≡ request_at text
      → c ≡ plan_on d.date (streams_on d) sender g.outcome g.head b (entries_in 2048 rs) (entries_in 512 bs) → Apt b g c × Within c
  chosen_good sender g c f e =
      let h : c ≡ plan_on d.date (streams_on d) sender r.outcome r.head b (entries_in 2048 rs) (entries_in 512 bs) = rw f at e in
      rw (f, h) (by_outcome_lem sender r.outcome refl)

-- ---- the plan carried out: what is known behind it is what was noted

known_completed : (s : State) (r : Reading) (b : Batches) (k : Known) (p : ℕ) (x : Batch) → (completed s r b k p x).known ≡ k
unfolding completed
known_completed s r b k p x = by_bool (is_complete x) (λ e. by_bool (is_even x) (λ f. rw (e, f)) (λ f. rw (e, f))) (λ e. rw e)

known_admitted : (s : State) (r : Reading) (i : ℕ) (b : Batches) (k : Known) (p : ℕ) (x : Batch) → (admit s r i b k p x).known ≡ k
unfolding admit
known_admitted s r i b k p x = by_rules (first_broken (message_rules s r i x))
  where
    by_rules : (a : Answer) → (on_rules s r a b k p (with_message s r x) (completed s r b k p (with_message s r x))).known ≡ k
    by_rules (Ok tt) = known_completed s r b k p (with_message s r x)
    by_rules (Err f) = refl

module _ (d : Desk) (codes flags : List ℕ) (t q : List ℕ) (nq : ℕ) (w : List ℕ) (nw : ℕ) (out : List ℕ) (able : Actable d codes flags t q nq w nw out) where
  abbrev on : Accounts → Known → State
  on n k = state_on d codes flags (seen t q nq w nw) n k

  known_acted : (n : Accounts) (o k : Known) (r : Reading) (c : Plan) → Apt (seen t q nq w nw) r c → (acted_with (on n o) r k c).known ≡ k
  unfolding acted_with
  known_acted n o k r (Untouched f) h = refl
  known_acted n o k r (Rejects p f) h = refl
  known_acted n o k r (Alone j) h = refl
  known_acted n o k r (Comes p i j) h =
      rw (comes_takeable d codes flags t q nq w nw out able r p h.0 h.1 h.2).there
      (known_admitted (on n o) r i (seen t q nq w nw) k p (batch_at t p))
  known_acted n o k r (Begins p i j l) h = known_admitted (on n o) r i _ k p (first_batch (on n o) r)
  known_acted n o k r (RecallsNone j) h = refl
  known_acted n o k r (Recalls p j) h = refl

  module _ (few : d.n ≤ 8) (rs bs text : List ℕ) (sender : ℕ) (r : Reading) (read : r ≡ request_at text) (c : Plan)
      (chosen : c ≡ plan_on d.date (streams_on d) sender r.outcome r.head (seen t q nq w nw) (entries_in 2048 rs) (entries_in 512 bs)) where
    acted_so : (n : Accounts) → message (on n (known_in rs bs)) sender (request_at text) ≡ acted_by (on n (known_in rs bs)) r c
    acted_so n =
        ap (message (on n (known_in rs bs)) sender) (sym read)
        ∙ chosen_acts (on n (known_in rs bs)) r sender
        ∙ ap (λ (x : Plan). acted_by (on n (known_in rs bs)) r x) (sym chosen)

    pub received : (rs' bs' : List ℕ) → Noted (known_by d.date (reference_of r) (bin_of r) c (known_in rs bs)) rs' bs'
        → (m : List ℕ) (a : Answer) (t' q' : List ℕ) (nq' : ℕ) (w' : List ℕ) (nw' : ℕ) (m' out' : List ℕ) (to texts' : ℕ)
        → ((n : Accounts) (o k : Known) → InRows (acted_with (on n o) r k c) m out 0 d.texts a t' q' nq' w' nw' m' out' to texts')
        → (n : Accounts) → Received (message (on n (known_in rs bs)) sender (request_at text)) m out d.texts a t' q' nq' w' nw' m' out' to texts' rs' bs'
    received rs' bs' noted m a t' q' nq' w' nw' m' out' to texts' left n =
        let k : Known = known_by d.date (reference_of r) (bin_of r) c (known_in rs bs) in
        let known : (acted_with (on n (known_in rs bs)) r k c).known ≡ k =
        known_acted n (known_in rs bs) k r c (chosen_good d few (seen t q nq w nw) rs bs text sender r c read chosen).0 in
        rw (acted_so n) (record { rows = left n (known_in rs bs) k; known = subst (λ (x : Known). Noted x rs' bs') (sym known) noted })
