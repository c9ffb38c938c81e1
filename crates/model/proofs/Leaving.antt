-- A call that is refused leaves what the row of its number says.
use Rattle.std.specs.Prelude.{Ok, Err}
use Prim.Native.Nat.{ℕ, zero, suc, ◌+◌}
use mathlib.Core.Path.{◌≡◌, refl, sym, ap, ◌∙◌}
use mathlib.Core.Bool.{Bool, true, false, not, cond, false≢true}
use mathlib.Core.List.{List, [], ◌∷◌}
use native.Mathlib.Omega.{arith}
use lib.Dec.{eqb, leb}
use lib.ListN.{set}
use Rattle.chars.specs.Words.{bytes, member}
use Rattle.chars.specs.declared.Refusal.{Refusal}
use Rattle.chars.specs.declared.Refusal.TheVariants.{Unequal, NothingThere, NoRoom, OutOfRange, WrongSender, UsedReference, UnknownBank, SuspendedBank, PastDate, FutureDate, WrongEsa, Malformed}
use Rattle.codes.specs.declared.Code.{Code}
use Rattle.request_read.specs.declared.payments.Payment.{Payment as Line}
use Rattle.request_read.specs.whole.Request.{request_at}
use Rattle.request_read.specs.declared.whole.Outcome.{Outcome as Read}
use Rattle.request_read.specs.declared.whole.Outcome.TheVariants.{Settlement, Recall, Refused as Unread}
use Rattle.request_read.specs.declared.whole.Reading.{Reading}
use Rattle.book_read.specs.Book.{most_money}
use Rattle.book_read.specs.Range.{Each}
use Rattle.queue.proofs.MemoryLaws.{by_bool}
use Rattle.model.specs.Answers.{Answer}
use Rattle.model.specs.declared.Action.{Action}
use Rattle.model.specs.declared.Action.TheVariants.{Opening, Message, SubLimit, Status, Tick, Close, ClosingBook}
use Rattle.model.specs.Kinds.{Kind, is_close, Own, receives, changes_sublimit, changes_status, nothing, own_of}
use Rattle.model.specs.State.{Found, at, nowhere, on_found, seek, is_free, Batch, Place, free, live, on_live, Batches, Known, State, place_at, payments_at, payments_of, with_place}
use Rattle.model.specs.Memory.{is_used}
use Rattle.model.specs.Joining.{keep}
use Rattle.model.specs.Messages.{is131, is133, by_sub_type, Acted, Rule, first_broken, stream_place, administrator, bank_place, assembling, waiting, ended, untouched, rejecting, today, reference, bin, stream_code, line_rules, banks_in, lines, line_bank, message_rules, with_message, is_complete, is_even, completed, is_broken_part, broken_part, on_text, on_sender, repeated, fits, on_reference, on_room, on_bin, on_rules, admit, first_batch, with_bin, is_known, recalling, with_reference, message}
use Rattle.model.specs.Changes.{sub_limit, has_debit, status}
use Rattle.model.specs.Calls.{Call, Engine, Result, judge, begun, act, goes_on, closes, stepped, performed, judged, call}
use Rattle.model.specs.Answered.{acted, outcome}
use Rattle.model.specs.LeftBehind.{own_ended, settlement_left, recall_left, part_left, text_left, left_by, finished, LeftBehind}
use Rattle.model.proofs.Refusals.{not_done}
use Rattle.model.proofs.Counting.{times}
use Rattle.model.proofs.Truth.{or_false}
use Rattle.model.proofs.Seeking.{no_times, seek_answers, is_assembling}
use Rattle.model.proofs.Standing.{Standing, vacant, Stood}
use Rattle.model.proofs.Keeping.{Readers, begun_stood}
use Rattle.model.proofs.Validity.{valid_kept}
use Rattle.model.specs.Rules.{Valid}

-- ---- the faults that a rule of step 5 can give

data Broken : Refusal → Type 0 where
  malformed : Broken Malformed
  past : Broken PastDate
  future : Broken FutureDate
  unknown : Broken UnknownBank
  suspended : Broken SuspendedBank

broken : (rs : List Rule) (f : Refusal) → Each (λ x. Broken x.fault) rs → first_broken rs ≡ Err f → Broken f
unfolding first_broken
broken [] f h e = not_done e
broken (x ∷ rs) f h e = go x.holds (broken rs f h.1) e
  where
    go : (t : Bool) → (first_broken rs ≡ Err f → Broken f) → cond t (first_broken rs) (Err x.fault) ≡ Err f → Broken f
    go true later g = later g
    go false later g = let z : x.fault ≡ f = cc in rw (sym z) h.0

-- ---- an ended batch that was being assembled, or had only begun, changes no order

keep_all : (p : ℕ) (l : List ℕ) → times p l ≡ 0 → keep (λ q. not (eqb q p)) l ≡ l
unfolding keep times
keep_all p [] h = refl
keep_all p (x ∷ l) h =
    by_bool (eqb x p)
    (λ e. absurd (let g : 1 + times p l ≡ 0 = rw e at h in omega arith))
    (λ e. let g : 0 + times p l ≡ 0 = rw e at h in rw e (ap (λ (y : List ℕ). x ∷ y) (keep_all p l (omega arith))))

set_twice : (ps : List Place) (p : ℕ) (x y : Place) → set (set ps p x) p y ≡ set ps p y
set_twice [] p x y = refl
set_twice (z ∷ ps) zero x y = refl
set_twice (z ∷ ps) (suc p) x y = ap (λ (l : List Place). z ∷ l) (set_twice ps p x y)

module _ (s : State) (r : Reading) (h : Stood s.house.banks s.batches) where
  abbrev Left : (Refusal → Acted) → Acted → Type 0
  Left row a = (q : Refusal) → a.answer ≡ Err q → a ≡ row q

  left_done : (row : Refusal → Acted) (a : Acted) → a.answer ≡ Ok tt → Left row a
  left_done row a e q d = not_done (sym e ∙ d)

  left_at : (row : Refusal → Acted) (f : Refusal) (a : Acted) → a.answer ≡ Err f → a ≡ row f → Left row a
  left_at row f a e g q d = let z : f ≡ q = cc in g ∙ ap row z

  by_cond : (row : Refusal → Acted) {x y : Acted} (t : Bool) → (t ≡ true → Left row x) → (t ≡ false → Left row y) → Left row (cond t x y)
  by_cond row true f g = f refl
  by_cond row false f g = g refl

  by_found_lem : (row : Refusal → Acted) {d : Acted} {k : ℕ → Acted} (f : Found) → (f ≡ nowhere → Left row d) → ((p : ℕ) → f ≡ at p → Left row (k p)) → Left row (on_found f d k)
  by_found_lem row (at p) f g = g p refl
  by_found_lem row nowhere f g = f refl

  -- a place that neither waits nor is queued
  kept_order : (p : ℕ) → times p s.batches.pending ≡ 0 → times p s.batches.queue ≡ 0
      → ended s.batches p ≡ record { places = set s.batches.places p free; pending = s.batches.pending; queue = s.batches.queue }
  unfolding ended
  kept_order p m n = rw (keep_all p s.batches.pending m, keep_all p s.batches.queue n)

  assembled_order : (c : Code) (p : ℕ) → assembling s.batches c ≡ at p
      → ended s.batches p ≡ record { places = set s.batches.places p free; pending = s.batches.pending; queue = s.batches.queue }
  assembled_order c p e =
      let w = or_false _ _ (is_assembling s.batches c p e).idle in
      kept_order p (no_times p s.batches.pending w.0) (no_times p s.batches.queue w.1)

  vacant_unused : {m n : ℕ} (x : Place) → is_free x ≡ true → Standing s.house.banks x m n → (m ≡ 0) × (n ≡ 0)
  vacant_unused free e vacant = (refl, refl)
  vacant_unused (live b) e i = absurd (false≢true e)

  begun_order : (p : ℕ) (x : Batch) → seek is_free s.batches.places ≡ at p
      → ended (with_place s.batches p (live x)) p ≡ record { places = set s.batches.places p free; pending = s.batches.pending; queue = s.batches.queue }
  unfolding ended
  begun_order p x e =
      let z = vacant_unused (place_at s.batches p) (seek_answers is_free free s.batches.places p e).yes (h.each p) in
      rw (set_twice s.batches.places p (live x) free, keep_all p s.batches.pending z.0, keep_all p s.batches.queue z.1)

  -- ---- a 131

  module _ (stream : ℕ) (found : stream_place s.house (stream_code s r) ≡ at stream) where
    own_row : (f : Refusal) → Broken f → settlement_left s r f ≡ own_ended s r f
    own_row Malformed malformed = rw found refl
    own_row PastDate past = refl
    own_row FutureDate future = refl
    own_row UnknownBank unknown = refl
    own_row SuspendedBank suspended = refl
    own_row Unequal x' = elim x' [ ]
    own_row NothingThere x'' = elim x'' [ ]
    own_row Rattle.chars.specs.declared.Refusal.TheVariants.Recalled x3 = elim x3 [ ]
    own_row NoRoom x4 = elim x4 [ ]
    own_row Rattle.chars.specs.declared.Refusal.TheVariants.WrongMoment x5 = elim x5 [ ]
    own_row Rattle.chars.specs.declared.Refusal.TheVariants.BrokenTables x6 = elim x6 [ ]
    own_row Rattle.chars.specs.declared.Refusal.TheVariants.ShortBuffer x7 = elim x7 [ ]
    own_row Rattle.chars.specs.declared.Refusal.TheVariants.BookLength x8 = elim x8 [ ]
    own_row Rattle.chars.specs.declared.Refusal.TheVariants.BookCheck x9 = elim x9 [ ]
    own_row Rattle.chars.specs.declared.Refusal.TheVariants.BookHeader x10 = elim x10 [ ]
    own_row OutOfRange x11 = elim x11 [ ]
    own_row Rattle.chars.specs.declared.Refusal.TheVariants.BookTotal x12 = elim x12 [ ]
    own_row WrongSender x13 = elim x13 [ ]
    own_row UsedReference x14 = elim x14 [ ]
    own_row WrongEsa x15 = elim x15 [ ]
    own_row Rattle.chars.specs.declared.Refusal.TheVariants.WrongLetter x16 = elim x16 [ ]
    own_row Rattle.chars.specs.declared.Refusal.TheVariants.Unsettled x17 = elim x17 [ ]
    own_row Rattle.chars.specs.declared.Refusal.TheVariants.OtherSubType x18 = elim x18 [ ]

    lines_broken : (n : ℕ) (taken : List ℕ) (ls : List Line) → Each (λ x. Broken x.fault) (line_rules s r n taken ls)
    unfolding line_rules
    lines_broken n taken [] = tt
    lines_broken n taken (l ∷ ls) = (unknown, (suspended, (unknown, (malformed, lines_broken n (line_bank s r l ∷ taken) ls))))

    rules_broken : (n : ℕ) (b : Batch) → Each (λ x. Broken x.fault) (message_rules s r n b)
    unfolding message_rules
    rules_broken n b = (malformed, (malformed, (malformed, (past, (future, lines_broken n (banks_in (payments_of b.messages)) (lines s r))))))

    module _ (b : Batches) (k : Known) (p : ℕ) (x : Batch) (own : (f : Refusal) → rejecting s f p b (with_message s r x).messages x.bin k ≡ own_ended s r f) where
      completed_left : Left (settlement_left s r) (completed s r b k p (with_message s r x))
      unfolding completed
      completed_left =
          by_cond (settlement_left s r) (is_complete (with_message s r x))
          (λ _. by_cond (settlement_left s r) (is_even (with_message s r x))
          (λ _. left_done (settlement_left s r) _ refl)
          (λ _. left_at (settlement_left s r) Unequal _ refl (own Unequal)))
          (λ _. left_done (settlement_left s r) _ refl)

      ruled_left : (a : Answer) → first_broken (message_rules s r stream x) ≡ a
          → Left (settlement_left s r) (on_rules s r a b k p (with_message s r x) (completed s r b k p (with_message s r x)))
      ruled_left (Ok tt) e = completed_left
      ruled_left (Err f) e = left_at (settlement_left s r) f _ refl (own f ∙ sym (own_row f (broken (message_rules s r stream x) f (rules_broken stream x) e)))

      admit_left : Left (settlement_left s r) (admit s r stream b k p x)
      unfolding admit
      admit_left = ruled_left (first_broken (message_rules s r stream x)) refl

    bin_left : Left (settlement_left s r) (on_bin s r (with_reference s r) (admit s r stream))
    unfolding on_bin
    bin_left =
        by_cond (settlement_left s r) (is_known s r)
        (λ u. by_found_lem (settlement_left s r) (assembling s.batches (bin s r))
        (λ e. left_at (settlement_left s r) Malformed _ refl (rw (found, u, e) refl))
        (λ p e. go p u e (place_at s.batches p) refl))
        (λ u. by_found_lem (settlement_left s r) (seek is_free s.batches.places)
        (λ e. left_at (settlement_left s r) NoRoom _ refl refl)
        (λ p e. admit_left (with_place s.batches p (live (first_batch s r))) (with_bin s r (with_reference s r)) p (first_batch s r)
        (λ f. rw (u, e, begun_order p (first_batch s r) e) refl)))
      where
        go : (p : ℕ) → is_known s r ≡ true → assembling s.batches (bin s r) ≡ at p → (y : Place) → place_at s.batches p ≡ y
            → Left (settlement_left s r) (on_live y (untouched s Malformed) (admit s r stream s.batches (with_reference s r) p))
        go p u e free d = absurd (false≢true (rw d at (is_assembling s.batches (bin s r) p e).there.yes))
        go p u e (live x) d = admit_left s.batches (with_reference s r) p x (λ f. rw (u, e, d, assembled_order (bin s r) p e) refl)

  used_left : Left (settlement_left s r) (repeated s r is131)
  used_left =
      by_found_lem (settlement_left s r) (assembling s.batches (bin s r))
      (λ e. left_at (settlement_left s r) UsedReference _ refl (rw e refl))
      (λ p e. left_at (settlement_left s r) UsedReference _ refl (rw (e, assembled_order (bin s r) p e) refl))

  settlement_left_lem : (sender : ℕ) → Left (settlement_left s r) (on_sender s r sender (λ stream. on_reference s r is131 (on_room s r is131 (λ k. on_bin s r k (admit s r stream)))))
  unfolding on_sender
  settlement_left_lem sender =
      by_found_lem (settlement_left s r) (stream_place s.house (stream_code s r))
      (λ e. left_at (settlement_left s r) Malformed _ refl (rw e refl))
      (λ i e. by_cond (settlement_left s r) (eqb sender (administrator s.house i))
      (λ _. by_cond (settlement_left s r) (is_used (today s) (reference s r) s.known.references)
      (λ _. used_left)
      (λ _. by_cond (settlement_left s r) (fits s r is131) (λ _. bin_left i e) (λ _. left_at (settlement_left s r) NoRoom _ refl refl)))
      (λ _. left_at (settlement_left s r) WrongSender _ refl refl))

  -- ---- a 133

  recalling_left : Left (recall_left s r) (recalling s r (with_reference s r))
  unfolding recalling
  recalling_left =
      by_found_lem (recall_left s r) (waiting s.batches (bin s r))
      (λ _. left_at (recall_left s r) NothingThere _ refl refl)
      (λ p _. left_done (recall_left s r) _ refl)

  recall_left_lem : (sender : ℕ) → Left (recall_left s r) (on_sender s r sender (λ stream. on_reference s r is133 (on_room s r is133 (λ k. recalling s r k))))
  unfolding on_sender
  recall_left_lem sender =
      by_found_lem (recall_left s r) (stream_place s.house (stream_code s r))
      (λ _. left_at (recall_left s r) Malformed _ refl refl)
      (λ i _. by_cond (recall_left s r) (eqb sender (administrator s.house i))
      (λ _. by_cond (recall_left s r) (is_used (today s) (reference s r) s.known.references)
      (λ _. left_at (recall_left s r) UsedReference _ refl refl)
      (λ _. by_cond (recall_left s r) (fits s r is133) (λ _. recalling_left) (λ _. left_at (recall_left s r) NoRoom _ refl refl)))
      (λ _. left_at (recall_left s r) WrongSender _ refl refl))

  part_left_lem : (sender : ℕ) (f : Refusal) → Left (part_left s r sender) (broken_part s r sender f)
  unfolding broken_part
  part_left_lem sender f =
      by_found_lem (part_left s r sender) (stream_place s.house (stream_code s r))
      (λ e. left_at (part_left s r sender) f _ refl (rw e refl))
      (λ i e. by_cond (part_left s r sender) (eqb sender (administrator s.house i))
      (λ y. by_found_lem (part_left s r sender) (assembling s.batches (bin s r))
      (λ a. left_at (part_left s r sender) f _ refl (rw (e, y, a) refl))
      (λ p a. left_at (part_left s r sender) f _ refl (rw (e, y, a, assembled_order (bin s r) p a) refl)))
      (λ y. left_at (part_left s r sender) f _ refl (rw (e, y) refl)))

  unread_left : (sender : ℕ) (f : Refusal) (t : Bool) → Left (λ q. cond t (part_left s r sender q) (untouched s q)) (cond t (broken_part s r sender f) (untouched s f))
  unread_left sender f true = part_left_lem sender f
  unread_left sender f false = left_at (λ q. untouched s q) f _ refl refl

  text_left_lem : (sender : ℕ) (o : Read)
      → Left (text_left s r sender o) (on_text s r sender o (λ t. on_sender s r sender (λ stream. on_reference s r t (on_room s r t (λ k. by_sub_type t (on_bin s r k (admit s r stream)) (recalling s r k))))))
  text_left_lem sender Settlement = settlement_left_lem sender
  text_left_lem sender Recall = recall_left_lem sender
  text_left_lem sender (Unread b) = unread_left sender b.refusal (is_broken_part r.head b)

  -- ---- changes

  sublimit_left : (code cents : ℕ) → Left (λ q. untouched s q) (sub_limit s code cents)
  unfolding sub_limit
  sublimit_left code cents =
      by_found_lem (λ q. untouched s q) (bank_place s.house code)
      (λ _. left_at (λ q. untouched s q) UnknownBank _ refl refl)
      (λ p _. by_cond (λ q. untouched s q) (leb cents most_money) (λ _. left_done (λ q. untouched s q) _ refl) (λ _. left_at (λ q. untouched s q) OutOfRange _ refl refl))

  status_left : (code : ℕ) (c : Code) (letter : ℕ) → Left (λ q. untouched s q) (status s code c letter)
  unfolding status
  status_left code c letter =
      by_cond (λ q. untouched s q) (member letter (bytes "ADP"))
      (λ _. by_found_lem (λ q. untouched s q) (bank_place s.house code)
      (λ _. left_at (λ q. untouched s q) UnknownBank _ refl refl)
      (λ k _. by_found_lem (λ q. untouched s q) (waiting s.batches c)
      (λ _. left_at (λ q. untouched s q) NothingThere _ refl refl)
      (λ p _. by_cond (λ q. untouched s q) (has_debit k (payments_at s.batches p)) (λ _. left_done (λ q. untouched s q) _ refl) (λ _. left_at (λ q. untouched s q) NothingThere _ refl refl))))
      (λ _. left_at (λ q. untouched s q) WrongEsa _ refl refl)

  own_left : (x : Own) (input : List ℕ) → request_at input ≡ r → Left (left_by s r x) (act s x input)
  unfolding act message
  own_left (receives sender) input e = rw e (text_left_lem sender r.outcome)
  own_left (changes_sublimit code cents) input e = sublimit_left code cents
  own_left (changes_status code c letter) input e = status_left code c letter
  own_left nothing input e = left_done (left_by s r nothing) _ refl

-- ---- a call

close_done : (s : State) (x : Action) (input : List ℕ) → is_close x ≡ true → (act s (own_of x) input).answer ≡ Ok tt
unfolding act
close_done s Opening input e = refl
close_done s (Message sender) input e = absurd (false≢true e)
close_done s (SubLimit code cents) input e = absurd (false≢true e)
close_done s (Status code c letter) input e = absurd (false≢true e)
close_done s Tick input e = refl
close_done s Close input e = refl
close_done s (ClosingBook date) input e = refl

module _ (readers : Readers) (e : Engine) (c : Call) (v : Valid e.state) where
  abbrev s₁ : State
  s₁ = begun e.state c.asked.clock

  ends_left : (t : Bool) → is_close c.asked.action ≡ t → (q : Refusal) → (cond t (closes s₁ (acted e c) (outcome e c)) (goes_on s₁ (acted e c) (outcome e c))).answer ≡ Err q
      → cond t (closes s₁ (acted e c) (outcome e c)) (goes_on s₁ (acted e c) (outcome e c)) ≡ finished e c (left_by s₁ (request_at c.asked.input) (own_of c.asked.action) q)
  unfolding closes goes_on
  ends_left true i q h = not_done (sym (close_done s₁ c.asked.action c.asked.input i) ∙ h)
  ends_left false i q h =
      ap (finished e c) (own_left s₁ (request_at c.asked.input) (begun_stood readers e c (valid_kept e.state v)) (own_of c.asked.action) c.asked.input refl q h)

  stepped_left : (q : Refusal) → (stepped e c).answer ≡ Err q → stepped e c ≡ finished e c (left_by s₁ (request_at c.asked.input) (own_of c.asked.action) q)
  unfolding stepped
  stepped_left q h = ends_left (is_close c.asked.action) refl q h

  pub call_left : LeftBehind e c (call e c)
  unfolding call
  call_left d k q h =
      let z : judged (judge e.state c) e c ≡ stepped e c = ap (λ (j : Answer). judged j e c) d ∙ ap (λ (x : Kind). performed x e c) k in
      z ∙ stepped_left q (sym (ap (λ (x : Result). x.answer) z) ∙ h)
