-- What an action can do, each way with what is known where it is taken. A rule that each way keeps is kept by every action.
use Rattle.std.specs.Prelude.{Ok, Err}
use Prim.Native.Nat.{ℕ, ◌≤◌, ◌<◌}
use mathlib.Core.Path.{◌≡◌, refl}
use mathlib.Core.Logic.{◌⊎◌, inl, inr}
use mathlib.Core.Bool.{Bool, true, false, cond}
use mathlib.Core.List.{List, [], ◌∷◌}
use lib.Dec.{eqb, leb}
use borrow.Author.Tests.{leb-true}
use Rattle.chars.specs.Words.{bytes, member}
use Rattle.chars.specs.Refusals.{number_of}
use Rattle.chars.specs.declared.Refusal.{Refusal}
use Rattle.chars.specs.declared.Refusal.TheVariants.{NothingThere, Recalled as WasRecalled, Malformed}
use Rattle.codes.specs.declared.Code.{Code}
use Rattle.request_read.specs.whole.Request.{request_at}
use Rattle.request_read.specs.declared.whole.Outcome.{Outcome as Read}
use Rattle.request_read.specs.declared.whole.Outcome.TheVariants.{Settlement, Recall, Refused as Unread}
use Rattle.request_read.specs.declared.whole.Reading.{Reading}
use Rattle.response_write.specs.declared.Outcome.TheVariants.{Rejected}
use Rattle.response_write.specs.declared.Answer.TheVariants.{Recalled, Kept}
use Rattle.book_read.specs.Book.{most_money}
use Rattle.queue.specs.Promise.{sublimited}
use Rattle.model.specs.Answers.{Answer}
use Rattle.model.specs.Kinds.{Own, receives, changes_sublimit, changes_status, nothing}
use Rattle.model.specs.State.{Found, at, nowhere, on_found, seek, is_free, Batch, Place, free, live, on_live, Batches, Known, State, place_at, place_messages, payments_at, with_place}
use Rattle.model.specs.Memory.{is_used, vacant}
use Rattle.model.specs.Replies.{Reply, settlement, recall, replies_to}
use Rattle.model.specs.Messages.{SubType, is131, is133, by_sub_type, today, reference, bin, stream_code, is_known, first_batch, with_bin, assembling, waiting, is_there, reference_fits, bin_fits, fits, with_reference, stream_place, administrator, bank_place, Acted, bank, place, leaving, rejecting, ended, to_tail, is_complete, is_even, completed, first_broken, message_rules, is_broken_part, broken_part, on_text, on_sender, repeated, on_bin, on_rules, admit, with_message, recalling, message}
use Rattle.model.specs.Changes.{sub_limit, has_debit, with_letter, status}
use Rattle.model.specs.Calls.{act}
use Rattle.model.proofs.Truth.{or_second, and_true}
use Rattle.model.proofs.Seeking.{Answers, seek_answers, bank_below, Assembling, Waiting, is_assembling, is_waiting}

-- r is the text of the call, as it was read
module _ (s : State) (r : Reading) where
  -- a message whose reference is new and is noted
  pub record New : Type 0 where
    pub read : (r.outcome ≡ Settlement) ⊎ (r.outcome ≡ Recall)
    pub unused : is_used (today s) (reference s r) s.known.references ≡ false
    pub fits : reference_fits s r ≡ true

  -- the batches, what is remembered, the place and the batch there before a message joins it: a batch that is being assembled, or a new one
  pub data Start : Batches → Known → ℕ → Batch → Type 0 where
    going : {p : ℕ} {x : Batch} → Assembling s.batches (bin s r) p → place_at s.batches p ≡ live x → Start s.batches (with_reference s r) p x
    begun : {p : ℕ} → Answers is_free s.batches.places free p → is_known s r ≡ false → is_there (vacant (today s) s.known.bins) ≡ true
        → Start (with_place s.batches p (live (first_batch s r))) (with_bin s r (with_reference s r)) p (first_batch s r)

  -- a settlement request that is noted and joins a batch
  pub record Joins (b : Batches) (k : Known) (p : ℕ) (x : Batch) : Type 0 where
    pub settlement : r.outcome ≡ Settlement
    pub new : New
    pub start : Start b k p x

  -- the reply to a message that is answered at once
  pub data Alone : Reply → Type 0 where
    refuses : (f : Refusal) → r.outcome ≡ Settlement → Alone (settlement (reference s r) (bin s r) (Rejected (number_of f)))
    answers : (f : Refusal) → Alone (recall (reference s r) (Kept (number_of f)))

  -- a message
  pub data Told : Acted → Type 0 where
    idle : (n : Answer) → Told (leaving s n [] [] s.batches s.known)
    -- answered alone
    alone : (n : Answer) (y : Reply) → Alone y → New → Told (leaving s n (y ∷ []) [] s.batches (with_reference s r))
    -- a used reference ends the batch that is being assembled
    repeats : (p : ℕ) (c : Code) (f : Refusal) → Assembling s.batches c p
        → Told (rejecting s f p s.batches (place_messages (place_at s.batches p)) c s.known)
    recalls : (p : ℕ) (f : Refusal) → New → Waiting s.batches (bin s r) p
        → Told (leaving s (Ok tt) (recall (reference s r) Recalled ∷ replies_to (place_messages (place_at s.batches p)) (bin s r) (Rejected (number_of f))) (place p ∷ []) (ended s.batches p) (with_reference s r))
    -- the batch with the message in it is complete and waits, or grows, or is rejected
    completes : (stream : ℕ) (b : Batches) (k : Known) (p : ℕ) (x : Batch) → Joins b k p x → first_broken (message_rules s r stream x) ≡ Ok tt
        → is_complete (with_message s r x) ≡ true → is_even (with_message s r x) ≡ true → Told (leaving s (Ok tt) [] (place p ∷ []) (to_tail s r b (with_message s r x) p) k)
    grows : (stream : ℕ) (b : Batches) (k : Known) (p : ℕ) (x : Batch) → Joins b k p x → first_broken (message_rules s r stream x) ≡ Ok tt
        → is_complete (with_message s r x) ≡ false → Told (leaving s (Ok tt) [] (place p ∷ []) (with_place b p (live (with_message s r x))) k)
    rejects : (f : Refusal) (b : Batches) (k : Known) (p : ℕ) (x : Batch) → Joins b k p x
        → Told (rejecting s f p b (with_message s r x).messages x.bin k)

  -- any action
  pub data Did : Acted → Type 0 where
    sent : {a : Acted} → Told a → Did a
    sublimits : (k v : ℕ) → k < s.house.banks → v ≤ most_money
        → Did (record { answer = Ok tt; replies = []; wakes = bank k ∷ []; books = sublimited s.books k v; batches = s.batches; known = s.known })
    letters : (k x p : ℕ) (c : Code) → member x (bytes "ADP") ≡ true → Waiting s.batches c p
        → Did (leaving s (Ok tt) [] (place p ∷ []) (with_place s.batches p (with_letter k x (place_at s.batches p))) s.known)

  by_cond : (P : Acted → Type 0) {x y : Acted} (t : Bool) → (t ≡ true → P x) → (t ≡ false → P y) → P (cond t x y)
  by_cond P true f g = f refl
  by_cond P false f g = g refl

  by_found_lem : (P : Acted → Type 0) {d : Acted} {k : ℕ → Acted} (f : Found) → P d → ((p : ℕ) → f ≡ at p → P (k p)) → P (on_found f d k)
  by_found_lem P (at p) f g = g p refl
  by_found_lem P nowhere f g = f

  by_live : {d : Acted} {k : Batch → Acted} (x : Place) → Told d → ((b : Batch) → x ≡ live b → Told (k b)) → Told (on_live x d k)
  by_live free f g = f
  by_live (live b) f g = g b refl

  module _ (b : Batches) (k : Known) (p : ℕ) (x : Batch) (j : Joins b k p x) where
    did_completed : (stream : ℕ) → first_broken (message_rules s r stream x) ≡ Ok tt → Told (completed s r b k p (with_message s r x))
    unfolding completed
    did_completed stream h =
        by_cond Told (is_complete (with_message s r x))
        (λ e. by_cond Told (is_even (with_message s r x)) (λ f. completes stream b k p x j h e f) (λ f. rejects _ b k p x j))
        (λ e. grows stream b k p x j h e)

    did_ruled : (stream : ℕ) (a : Answer) → first_broken (message_rules s r stream x) ≡ a
        → Told (on_rules s r a b k p (with_message s r x) (completed s r b k p (with_message s r x)))
    did_ruled stream (Ok tt) h = did_completed stream h
    did_ruled stream (Err f) h = rejects f b k p x j

    did_admit : (stream : ℕ) → Told (admit s r stream b k p x)
    unfolding admit
    did_admit stream = did_ruled stream (first_broken (message_rules s r stream x)) refl

  module _ (i : r.outcome ≡ Settlement) (n : New) (bins : bin_fits s r ≡ true) where
    did_bin : (stream : ℕ) → Told (on_bin s r (with_reference s r) (admit s r stream))
    unfolding on_bin
    did_bin stream =
        by_cond Told (is_known s r)
        (λ _. by_found_lem Told (assembling s.batches (bin s r)) (alone _ _ (refuses Malformed i) n) (λ p e.
        by_live (place_at s.batches p) (idle _) (λ x f.
        did_admit s.batches (with_reference s r) p x (record { settlement = i; new = n; start = going (is_assembling s.batches (bin s r) p e) f }) stream)))
        (λ u. by_found_lem Told (seek is_free s.batches.places) (idle _) (λ p e.
        did_admit (with_place s.batches p (live (first_batch s r))) (with_bin s r (with_reference s r)) p (first_batch s r)
        (record { settlement = i; new = n; start = begun (seek_answers is_free free s.batches.places p e) u (and_true (is_there (seek is_free s.batches.places)) (is_there (vacant (today s) s.known.bins)) (or_second (is_known s r) _ bins u)).1 }) stream))

  did_recalling : New → Told (recalling s r (with_reference s r))
  unfolding recalling
  did_recalling n = by_found_lem Told (waiting s.batches (bin s r)) (alone _ _ (answers NothingThere) n) (λ p e. recalls p WasRecalled n (is_waiting s.batches (bin s r) p e))

  -- steps 1 to 4
  abbrev read_as : SubType → Read
  read_as is131 = Settlement
  read_as is133 = Recall

  did_broken : (sender : ℕ) (f : Refusal) → Told (broken_part s r sender f)
  unfolding broken_part
  did_broken sender f =
      by_found_lem Told (stream_place s.house (stream_code s r)) (idle _) (λ i e.
      by_cond Told (eqb sender (administrator s.house i))
      (λ _. by_found_lem Told (assembling s.batches (bin s r)) (idle _) (λ p g. repeats p (bin s r) f (is_assembling s.batches (bin s r) p g)))
      (λ _. idle _))

  did_text : {next : SubType → Acted} (sender : ℕ) (o : Read) → r.outcome ≡ o → ((t : SubType) → r.outcome ≡ read_as t → Told (next t)) → Told (on_text s r sender o next)
  did_text sender Settlement e f = f is131 e
  did_text sender Recall e f = f is133 e
  did_text sender (Unread b) e f = by_cond Told (is_broken_part r.head b) (λ _. did_broken sender b.refusal) (λ _. idle _)

  did_sender : {next : ℕ → Acted} (sender : ℕ) → ((stream : ℕ) → Told (next stream)) → Told (on_sender s r sender next)
  unfolding on_sender
  did_sender sender f =
      by_found_lem Told (stream_place s.house (stream_code s r)) (idle _) (λ i e. by_cond Told (eqb sender (administrator s.house i)) (λ _. f i) (λ _. idle _))

  did_repeated : (t : SubType) → Told (repeated s r t)
  did_repeated is131 = by_found_lem Told (assembling s.batches (bin s r)) (idle _) (λ p e. repeats p (bin s r) _ (is_assembling s.batches (bin s r) p e))
  did_repeated is133 = idle _

  did_noted : (t : SubType) (stream : ℕ) → r.outcome ≡ read_as t → is_used (today s) (reference s r) s.known.references ≡ false → fits s r t ≡ true
      → Told (by_sub_type t (on_bin s r (with_reference s r) (admit s r stream)) (recalling s r (with_reference s r)))
  did_noted is131 stream i u f =
      let g = and_true (reference_fits s r) (bin_fits s r) f in
      did_bin i (record { read = inl i; unused = u; fits = g.0 }) g.1 stream
  did_noted is133 stream i u f = did_recalling (record { read = inr i; unused = u; fits = f })

  pub did_message : (sender : ℕ) → Told (message s sender r)
  unfolding message
  did_message sender =
      did_text sender r.outcome refl (λ t i.
      did_sender sender (λ stream.
      by_cond Told (is_used (today s) (reference s r) s.known.references) (λ _. did_repeated t) (λ u.
      by_cond Told (fits s r t) (λ f. did_noted t stream i u f) (λ _. idle _))))

  did_sublimit : (code cents : ℕ) → Did (sub_limit s code cents)
  unfolding sub_limit
  did_sublimit code cents =
      by_found_lem Did (bank_place s.house code) (sent (idle _)) (λ p e.
      by_cond Did (leb cents most_money) (λ l. sublimits p cents (bank_below s.house code p e) (leb-true _ _ l)) (λ _. sent (idle _)))

  did_status : (code : ℕ) (bin : Code) (letter : ℕ) → Did (status s code bin letter)
  unfolding status
  did_status code bin letter =
      by_cond Did (member letter (bytes "ADP"))
      (λ m. by_found_lem Did (bank_place s.house code) (sent (idle _)) (λ k e.
      by_found_lem Did (waiting s.batches bin) (sent (idle _)) (λ p f.
      by_cond Did (has_debit k (payments_at s.batches p)) (λ _. letters k letter p bin m (is_waiting s.batches bin p f)) (λ _. sent (idle _)))))
      (λ _. sent (idle _))

  did_own : (x : Own) (input : List ℕ) → request_at input ≡ r → Did (act s x input)
  unfolding act
  did_own (receives sender) input e = rw e (sent (did_message sender))
  did_own (changes_sublimit code cents) input e = did_sublimit code cents
  did_own (changes_status code bin letter) input e = did_status code bin letter
  did_own nothing input e = sent (idle _)

-- every action
pub did : (s : State) (x : Own) (input : List ℕ) → Did s (request_at input) (act s x input)
did s x input = did_own s (request_at input) x input refl
