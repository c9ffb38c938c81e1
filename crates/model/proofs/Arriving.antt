-- "by arrival of its first message": within a day a BIN that is noted stands behind all that were noted that day, and each live batch's BIN is one of
-- them. So the close, which goes by the places of BINs, goes by the order in which the batches' first messages came.
use Rattle.std.specs.Prelude.{Ok, Err}
use Prim.Native.Nat.{ℕ, zero, suc, ◌+◌, ◌≤◌, ◌<◌}
use mathlib.Core.Path.{◌≡◌, refl, sym, ap, subst, ◌∙◌}
use mathlib.Core.Bool.{Bool, true, false, ◌&&◌, ◌||◌, not, cond, false≢true}
use mathlib.Core.List.{List, [], ◌∷◌, ◌++◌, append-nil}
use native.Mathlib.Omega.{arith}
use lib.Dec.{eqb, ltb}
use lib.ListN.{length, get_or, set, replicate}
use borrow.Author.Tests.{not-true, eqb-true, eq-eqb, ltb-true}
use Rattle.codes.specs.declared.Code.{Code}
use Rattle.codes.specs.Codes.{no_code}
use Rattle.chars.specs.Refusals.{number_of}
use Rattle.chars.specs.declared.Refusal.TheVariants.{Unsettled}
use Rattle.dates.specs.Dates.{is_remembered}
use Rattle.request_read.specs.whole.Request.{request_at}
use Rattle.request_read.specs.declared.whole.Reading.{Reading}
use Rattle.request_read.specs.declared.whole.Outcome.TheVariants.{Settlement}
use Rattle.response_write.specs.declared.Outcome.TheVariants.{Rejected}
use Rattle.book_read.specs.Accounts.{day_in}
use Rattle.book_read.specs.Range.{Each}
use Rattle.queue.proofs.MemoryLaws.{by_bool}
use Rattle.model.specs.Answers.{Answer}
use Rattle.model.specs.declared.Phase.{Phase}
use Rattle.model.specs.declared.Phase.TheVariants.{Fresh, Open, Closed}
use Rattle.model.specs.declared.Action.TheVariants.{Opening, Close}
use Rattle.model.specs.Kinds.{Kind, opens, steps, gives, kind_of, is_opening, is_close, own_of}
use Rattle.model.specs.State.{Found, at, nowhere, on_found, seek_from, same_code, has_bin, no_entry, Entry, State, Known, Place, free, live, Batches, Batch, place_at, place_messages, batch_of}
use Rattle.model.specs.Memory.{is_vacant, vacant, note}
use Rattle.model.specs.Messages.{Acted, today, bin, is_there, first_batch, with_message, ended}
use Rattle.model.specs.Joining.{join}
use Rattle.model.specs.Changes.{with_letter}
use Rattle.model.specs.Replies.{Reply, replies_to, texts_from}
use Rattle.model.specs.Ending.{emptied, after_test, close_replies}
use Rattle.model.specs.Days.{is_fresh, opened, opening_answer}
use Rattle.model.specs.Calls.{Call, Engine, Result, is_open, judge, begun, replies, left, last_replies, goes_on, closes, stepped, opened_by, performed, judged, call, day_for}
use Rattle.model.specs.Rules.{is_bin, remembered, AllUnlike, has, live_bins, Opened, ValidIn, Valid}
use Rattle.model.specs.Answered.{acted, outcome, times_in, noted_on}
use Rattle.model.specs.Arrival.{bins_today, Added, none, first, Arrives, unsettled_replies, ByArrival}
use Rattle.model.specs.Course.{start, after, since, course}
use Rattle.model.specs.Promises.{Always}
use Rattle.model.proofs.Course.{since_course}
use Rattle.model.proofs.Truth.{or_right, or_second, and_true}
use Rattle.model.proofs.Noting.{today_remembered, free_unnoted, unlike_used, same_sym, same_self}
use Rattle.model.proofs.Remembering.{bin_code, same_code_lem, unlike_none}
use Rattle.model.proofs.Seeking.{seek_answers, by_found}
use Rattle.model.proofs.Doing.{Start, going, begun as anew, Joins, Did, sent, idle, sublimits, letters, alone, repeats, recalls, completes, grows, rejects, did}
use Rattle.model.proofs.Agreement.{right_day_lem}
use Rattle.model.proofs.Admitting.{Gives}
use Rattle.model.proofs.Reading.{readers}
use Rattle.model.proofs.Keeping.{tested_stood}
use Rattle.model.proofs.Validity.{k, later, open_in, standing_bin, acted_known, call_valid}
use Rattle.model.proofs.Once.{all_once, today_among, none_before, none_fresh, after_valid}

-- ---- codes of a list

or_left : (x y : Bool) → x ≡ true → (x || y) ≡ true
or_left true y e = refl
or_left false y e = absurd (false≢true e)

has_append : (c : Code) (l m : List Code) → has c (l ++ m) ≡ (has c l || has c m)
has_append c [] m = refl
has_append c (d ∷ l) m = by_bool (same_code c d) (λ e. rw e refl) (λ e. rw e (has_append c l m))

has_right : (c : Code) (l m : List Code) → has c m ≡ true → has c (l ++ m) ≡ true
has_right c l m h = has_append c l m ∙ or_right (has c l) (has c m) h

-- each of a list is in a list with all of them
each_has : (l m : List Code) → ((c : Code) → has c l ≡ true → has c m ≡ true) → Each (λ c. has c m ≡ true) l
each_has [] m f = tt
each_has (d ∷ l) m f = (
  f d (or_left (same_code d d) (has d l) (same_self d)),
  each_has l m (λ c h. f c (or_right (same_code c d) (has c l) h)),
)

each_at : (P : Code → Type 0) (l : List Code) → Each P l → (c : Code) → has c l ≡ true → P c
each_at P [] h c e = absurd (false≢true e)
each_at P (d ∷ l) h c e =
    by_bool (same_code c d)
    (λ s. subst P (sym (same_code_lem c d s)) h.0)
    (λ s. each_at P l h.1 c (or_second (same_code c d) (has c l) e s))

each_on : (P Q : Code → Type 0) (l : List Code) → ((c : Code) → P c → Q c) → Each P l → Each Q l
each_on P Q [] f h = tt
each_on P Q (c ∷ l) f h = (f c h.0, each_on P Q l f h.1)

has_times : (c : Code) (l : List Code) → has c l ≡ true → 1 ≤ times_in c l
unfolding times_in
has_times c [] h = absurd (false≢true h)
has_times c (d ∷ l) h =
    by_bool (same_code c d)
    (λ e. let s : same_code d c ≡ true = same_sym d c ∙ e in rw s (omega arith))
    (λ e. omega (arith, has_times c l (or_second (same_code c d) (has c l) h e)))

-- ---- live BINs

abbrev AtPlace : (Code → Type 0) → Place → Type 0
AtPlace P free = Unit {0}
AtPlace P (live b) = P b.bin

module _ (P : Code → Type 0) where
  live_at : (ps : List Place) → Each P (live_bins ps) → (p : ℕ) → AtPlace P (get_or ps p free)
  live_at [] h p = tt
  live_at (free ∷ ps) h zero = tt
  live_at (live b ∷ ps) h zero = h.0
  live_at (free ∷ ps) h (suc p) = live_at ps h p
  live_at (live b ∷ ps) h (suc p) = live_at ps h.1 p

  live_set : (ps : List Place) (p : ℕ) (x : Place) → Each P (live_bins ps) → AtPlace P x → Each P (live_bins (set ps p x))
  live_set [] p x h i = tt
  live_set (free ∷ ps) zero free h i = h
  live_set (free ∷ ps) zero (live b) h i = (i, h)
  live_set (live a ∷ ps) zero free h i = h.1
  live_set (live a ∷ ps) zero (live b) h i = (i, h.1)
  live_set (free ∷ ps) (suc p) x h i = live_set ps p x h i
  live_set (live a ∷ ps) (suc p) x h i = (h.0, live_set ps p x h.1 i)

  live_emptied : (done : List ℕ) (ps : List Place) → Each P (live_bins ps) → Each P (live_bins (emptied done ps))
  unfolding emptied
  live_emptied [] ps h = h
  live_emptied (p ∷ done) ps h = live_emptied done (set ps p free) (live_set ps p free h tt)

  live_letter : (k x : ℕ) (y : Place) → AtPlace P y → AtPlace P (with_letter k x y)
  live_letter k x free h = tt
  live_letter k x (live b) h = h

-- ---- today's BINs

-- no free place stands before one of that day
abbrev Packed : ℕ → List Entry → Type 0
Packed day [] = Unit {0}
Packed day (x ∷ es) = (is_vacant day x ≡ true → noted_on day es ≡ []) × Packed day es

module _ (day : ℕ) (code : Code) (named : same_code code no_code ≡ false) where
  abbrev new : Entry
  new = record { code = code; day = day }

  -- a new entry stands behind those of the day
  set_last : (es : List Entry) (p : ℕ) → p < length es → is_vacant day (get_or es p no_entry) ≡ true → Packed day es → noted_on day (set es p new) ≡ noted_on day es ++ (code ∷ [])
  unfolding noted_on
  set_last [] p l v h = absurd (omega arith)
  set_last (x ∷ es) zero l v h = rw (free_unnoted day code named x v, named, eq-eqb day day refl, h.0 v)
  set_last (x ∷ es) (suc p) l v h =
      by_bool (not (same_code x.code no_code) && eqb x.day day)
      (λ e. rw e (ap (λ (z : List Code). x.code ∷ z) (set_last es p (omega arith) v h.1)))
      (λ e. rw e (set_last es p (omega arith) v h.1))

  new_taken : is_vacant day new ≡ true → ⊥
  new_taken v = let z : false ≡ true = rw (named, today_remembered day) at v in false≢true z

  -- and no free place before it
  set_packed : (es : List Entry) (i p q : ℕ) → seek_from (is_vacant day) i es ≡ at p → p ≡ i + q → Packed day es → Packed day (set es q new)
  unfolding seek_from
  set_packed [] i p q e m h = tt
  set_packed (x ∷ es) i p zero e m h = (λ v. absurd (new_taken v), h.1)
  set_packed (x ∷ es) i p (suc q) e m h =
      by_bool (is_vacant day x)
      (λ t. let z : at i ≡ at p = rw t at e in let y : i ≡ p = ap (λ (f : Found). on_found f 0 (λ n. n)) z in absurd (omega (arith, y, m)))
      (λ t. let z : seek_from (is_vacant day) (i + 1) es ≡ at p = rw t at e in
      (λ v. absurd (false≢true (sym t ∙ v)), set_packed es (i + 1) p q z (omega (arith, m)) h.1))

  record Grown (es l : List Entry) : Type 0 where
    grown : noted_on day l ≡ noted_on day es ++ (code ∷ [])
    packed : Packed day l

  grown_at : (es : List Entry) (p : ℕ) → vacant day es ≡ at p → Packed day es → Grown es (set es p new)
  unfolding vacant
  grown_at es p e h =
      let f = seek_answers (is_vacant day) no_entry es p e in
      record { grown = set_last es p f.inside f.yes h; packed = set_packed es 0 p p e (omega arith) h }

  note_is : (es : List Entry) (p : ℕ) → vacant day es ≡ at p → note day code es ≡ set es p new
  unfolding note
  note_is es p e = rw e

  note_grows : (es : List Entry) → is_there (vacant day es) ≡ true → Packed day es → Grown es (note day code es)
  note_grows es t h =
      by_found (vacant day es)
      (λ p e. subst (λ (l : List Entry). Grown es l) (sym (note_is es p e)) (grown_at es p e h))
      (λ e. let z : false ≡ true = rw e at t in absurd (false≢true z))

-- what was noted today is remembered
today_has : (c : Code) (day : ℕ) (es : List Entry) → has c (noted_on day es) ≡ true → has c (remembered day es) ≡ true
unfolding noted_on
today_has c day [] h = h
today_has c day (x ∷ es) h =
    by_bool (same_code x.code no_code)
    (λ n. rw n (today_has c day es (rw n at h)))
    (λ n.
    by_bool (eqb x.day day)
    (λ t.
    let m : is_remembered x.day day ≡ true = rw (eqb-true x.day day t) (today_remembered day) in
    let g : (same_code c x.code || has c (noted_on day es)) ≡ true = rw (n, t) at h in
    by_bool (same_code c x.code)
    (λ s. rw (n, m) (or_left (same_code c x.code) _ s))
    (λ s. rw (n, m) (or_right (same_code c x.code) _ (today_has c day es (or_second _ _ g s)))))
    (λ t.
    let g : has c (noted_on day es) ≡ true = rw (n, t) at h in
    by_bool (is_remembered x.day day)
    (λ m. rw (n, m) (or_right (same_code c x.code) _ (today_has c day es g)))
    (λ m. rw (n, m) (today_has c day es g))))

unused_today : (day : ℕ) (c : Code) (es : List Entry) → has c (remembered day es) ≡ false → has c (noted_on day es) ≡ false
unused_today day c es h = by_bool (has c (noted_on day es)) (λ e. absurd (false≢true (sym h ∙ today_has c day es e))) (λ e. e)

-- ---- an action

module _ (s : State) (r : Reading) where
  abbrev before : List Code
  before = noted_on (today s) s.known.bins

  abbrev lives : List Code
  lives = live_bins s.batches.places

  lives_among : Each (λ c. has c lives ≡ true) lives
  lives_among = each_has lives lives (λ c e. e)

  -- the live BIN at a place
  live_among : (p : ℕ) → AtPlace (λ c. has c lives ≡ true) (get_or s.batches.places p free)
  live_among p = live_at (λ c. has c lives ≡ true) s.batches.places lives_among p

  record Took (es : List Entry) (ps : List Place) : Type 0 where
    added : List Code
    request : Added r before added
    behind : noted_on (today s) es ≡ before ++ added
    packed : Packed (today s) es
    live : Each (λ c. has c (added ++ lives) ≡ true) (live_bins ps)

  abbrev as_before : Packed (today s) s.known.bins → Took s.known.bins s.batches.places
  as_before h = record { added = []; request = none; behind = sym (append-nil before); packed = h; live = lives_among }

  with_place_lem : {es : List Entry} {ps : List Place} (t : Took es ps) (p : ℕ) (x : Place) → AtPlace (λ c. has c (t.added ++ lives) ≡ true) x → Took es (set ps p x)
  with_place_lem {ps = ps} t p x i = record {
    added = t.added;
    request = t.request;
    behind = t.behind;
    packed = t.packed;
    live = live_set (λ c. has c (t.added ++ lives) ≡ true) ps p x t.live i;
  }

  record Began (b : Batches) (k : Known) (x : Batch) : Type 0 where
    took : Took k.bins b.places
    there : has x.bin (took.added ++ lives) ≡ true

  module _ (g : Gives r) (h : Packed (today s) s.known.bins) where
    started : {b : Batches} {k : Known} {p : ℕ} {x : Batch} → r.outcome ≡ Settlement → Start s r b k p x → Began b k x
    started i (going {p = p} {x = x} a e) = record { took = as_before h; there = subst (AtPlace (λ c. has c lives ≡ true)) e (live_among p) }
    started i (anew {p = p} a u v) =
        let named = bin_code (bin s r) (g.settlement i).bin in
        let n = note_grows (today s) (bin s r) named s.known.bins v h in
        let self : has (bin s r) (bin s r ∷ lives) ≡ true = or_left (same_code (bin s r) (bin s r)) _ (same_self (bin s r)) in
        record {
          took = record {
            added = bin s r ∷ [];
            request = first i
                (unused_today (today s) (bin s r) s.known.bins
                (unlike_none (bin s r) (remembered (today s) s.known.bins) (unlike_used (today s) (bin s r) named s.known.bins u)));
            behind = n.grown;
            packed = n.packed;
            live = live_set (λ c. has c (bin s r ∷ lives) ≡ true) s.batches.places p (live (first_batch s r))
                (each_has lives (bin s r ∷ lives) (λ c e. or_right (same_code c (bin s r)) (has c lives) e)) self;
          };
          there = self;
        }

    joined : {b : Batches} {k : Known} {p : ℕ} {x : Batch} → Joins s r b k p x → Began b k x
    joined j = started j.settlement j.start

    did_takes : {a : Acted} → Did s r a → Took a.known.bins a.batches.places
    unfolding ended
    did_takes (sent (idle n)) = as_before h
    did_takes (sublimits k x b l) = as_before h
    did_takes (letters k x p c m w) = with_place_lem (as_before h) p _ (live_letter (λ c. has c lives ≡ true) k x (place_at s.batches p) (live_among p))
    did_takes (sent (alone n y q w)) = as_before h
    did_takes (sent (repeats p c f i)) = with_place_lem (as_before h) p free tt
    did_takes (sent (recalls p f n w)) = with_place_lem (as_before h) p free tt
    did_takes (sent (completes stream b k p x j d e f)) = let t = joined j in with_place_lem t.took p (live (with_message s r x)) t.there
    did_takes (sent (grows stream b k p x j d e)) = let t = joined j in with_place_lem t.took p (live (with_message s r x)) t.there
    did_takes (sent (rejects f b k p x j)) = with_place_lem (joined j).took p free tt

-- ---- the close

is_today : ℕ → Entry → Bool
is_today day x = not (same_code x.code no_code) && eqb x.day day

-- a BIN that is remembered of an earlier day stands there beside those of today
old_more : (day : ℕ) (es : List Entry) (q : ℕ) → same_code (get_or es q no_entry).code no_code ≡ false → is_remembered (get_or es q no_entry).day day ≡ true
    → eqb (get_or es q no_entry).day day ≡ false → 1 + times_in (get_or es q no_entry).code (noted_on day es) ≤ times_in (get_or es q no_entry).code (remembered day es)
unfolding noted_on times_in
old_more day [] q n m t = absurd (false≢true (sym n ∙ same_self no_code))
old_more day (x ∷ es) zero n m t = rw (n, m, t, same_self x.code) (omega (arith, today_among x.code day es))
old_more day (x ∷ es) (suc q) n m t =
    let i = old_more day es q n m t in
    let c : Code = (get_or es q no_entry).code in
    by_bool (same_code x.code no_code)
    (λ u. rw u i)
    (λ u.
    by_bool (eqb x.day day)
    (λ w. let z : is_remembered x.day day ≡ true = rw (eqb-true x.day day w) (today_remembered day) in rw (u, w, z) (omega (arith, i)))
    (λ w.
    by_bool (is_remembered x.day day)
    (λ z. rw (u, w, z) (omega (arith, i)))
    (λ z. rw (u, w, z) i)))

module _ (day : ℕ) (b : Batches) where
  -- where no batch has a remembered BIN of an earlier day, the close goes by today's BINs
  close_order : (es : List Entry)
      → ((q : ℕ) → is_remembered (get_or es q no_entry).day day ≡ true → is_today day (get_or es q no_entry) ≡ false → batch_of b (get_or es q no_entry).code ≡ nowhere)
      → close_replies day b es ≡ unsettled_replies b (noted_on day es)
  unfolding close_replies unsettled_replies noted_on is_today
  close_order [] h = refl
  close_order (x ∷ es) h =
      let rest : close_replies day b es ≡ unsettled_replies b (noted_on day es) = close_order es (λ q. h (suc q)) in
      let own : List Reply = on_found (batch_of b x.code) [] (λ p. replies_to (place_messages (place_at b p)) x.code (Rejected (number_of Unsettled))) in
      by_bool (not (same_code x.code no_code) && eqb x.day day)
      (λ t.
      let m : is_remembered x.day day ≡ true = rw (eqb-true x.day day (and_true (not (same_code x.code no_code)) (eqb x.day day) t).1) (today_remembered day) in
      rw (t, m) (ap (λ (z : List Reply). own ++ z) rest))
      (λ t.
      by_bool (is_remembered x.day day)
      (λ m. rw (t, m, h 0 m t) rest)
      (λ m. rw (t, m) rest))

  module _ (es : List Entry) (once : AllUnlike (remembered day es)) (named : (p : ℕ) (x : Batch) → place_at b p ≡ live x → is_bin x.bin ≡ true)
      (h : Each (λ c. has c (noted_on day es) ≡ true) (live_bins b.places)) where
    -- a live batch's BIN is today's, and no other entry's
    not_old : (x : Entry) (q : ℕ) → get_or es q no_entry ≡ x → is_remembered x.day day ≡ true → is_today day x ≡ false
        → (y : Place) (p : ℕ) → place_at b p ≡ y → has_bin x.code y ≡ true → ⊥
    unfolding is_today
    not_old x q e m t free p f s = false≢true s
    not_old x q e m t (live y) p f s =
        let i : y.bin ≡ x.code = same_code_lem y.bin x.code s in
        let n : same_code x.code no_code ≡ false = subst (λ (c : Code). same_code c no_code ≡ false) i (bin_code y.bin (named p y f)) in
        let w : eqb x.day day ≡ false = rw n at t in
        let l : AtPlace (λ c. has c (noted_on day es) ≡ true) (place_at b p) = live_at (λ c. has c (noted_on day es) ≡ true) b.places h p in
        let z : has x.code (noted_on day es) ≡ true =
        subst (λ (c : Code). has c (noted_on day es) ≡ true) i (subst (AtPlace (λ c. has c (noted_on day es) ≡ true)) f l) in
        let o : 1 + times_in x.code (noted_on day es) ≤ times_in x.code (remembered day es) = rw e at (old_more day es q (rw e n) (rw e m) (rw e w)) in
        omega (arith, has_times x.code (noted_on day es) z, o, all_once x.code (remembered day es) once)

    close_by_arrival : close_replies day b es ≡ unsettled_replies b (noted_on day es)
    close_by_arrival = close_order es (λ q m t.
        by_found (batch_of b (get_or es q no_entry).code)
        (λ p f. absurd (not_old (get_or es q no_entry) q refl m t (place_at b p) p refl (seek_answers (has_bin (get_or es q no_entry).code) free b.places p f).yes))
        (λ f. f))

-- ---- a later day

bins_later : (s : State) (p : Phase) (day : ℕ) → ValidIn p s → (is_fresh p || ltb s.day.date day) ≡ true → noted_on day s.known.bins ≡ []
bins_later s Fresh day v h = rw v (none_fresh day 512)
bins_later s Open day v h = none_before (λ c. is_bin c) day s.day.date s.known.bins (ltb-true s.day.date day h) v.known.bins
bins_later s Closed day v h = none_before (λ c. is_bin c) day s.day.date s.known.bins (ltb-true s.day.date day h) v.0.known.bins

packed_none : (day : ℕ) (es : List Entry) → noted_on day es ≡ [] → Packed day es
unfolding noted_on
packed_none day [] h = tt
packed_none day (x ∷ es) h =
    by_bool (not (same_code x.code no_code) && eqb x.day day)
    (λ e. let z : x.code ∷ noted_on day es ≡ [] = rw e at h in let y : ◌≡◌ {A = ℕ} 0 1 = cc in absurd (omega arith))
    (λ e. let z : noted_on day es ≡ [] = rw e at h in (λ v. z, packed_none day es z))

-- ---- a call

record Ready (s : State) : Type 0 where
  packed : Packed s.day.date s.known.bins
  today : Each (λ c. has c (bins_today s) ≡ true) (live_bins s.batches.places)

record Goes (c : Call) (s t : State) : Type 0 where
  arrives : is_opening c.asked.action ≡ false → Arrives s (request_at c.asked.input) t
  ready : Ready t

module _ (e : Engine) (c : Call) (v : Valid e.state) (h : Ready e.state) where
  abbrev s : State
  s = begun e.state c.asked.clock

  abbrev r : Reading
  r = request_at c.asked.input

  acted_took : Took e.state r (acted e c).known.bins (acted e c).batches.places
  unfolding begun join
  acted_took =
      let t = did_takes s r (readers.texts c.asked.input) h.packed (did s (own_of c.asked.action) c.asked.input) in
      record { added = t.added; request = t.request; behind = t.behind; packed = t.packed; live = t.live }

  -- the BINs of the batches that the test left
  left_live : Each (λ c. has c (acted_took.added ++ live_bins e.state.batches.places) ≡ true) (live_bins (left s (acted e c) (outcome e c)).places)
  unfolding left after_test
  left_live = live_emptied (λ c. has c (acted_took.added ++ live_bins e.state.batches.places) ≡ true) (outcome e c).done (acted e c).batches.places acted_took.live

  -- are today's
  come_today : (d : Code) → has d (acted_took.added ++ live_bins e.state.batches.places) ≡ true → has d (bins_today e.state ++ acted_took.added) ≡ true
  come_today d i =
      has_append d (bins_today e.state) acted_took.added
      ∙ by_bool (has d acted_took.added)
      (λ w. or_right (has d (bins_today e.state)) _ w)
      (λ w. or_left (has d (bins_today e.state)) _
      (each_at (λ x. has x (bins_today e.state) ≡ true) (live_bins e.state.batches.places) h.today d
      (or_second (has d acted_took.added) _ (sym (has_append d acted_took.added (live_bins e.state.batches.places)) ∙ i) w)))

  left_today : Each (λ d. has d (noted_on (today s) (acted e c).known.bins) ≡ true) (live_bins (left s (acted e c) (outcome e c)).places)
  unfolding begun
  left_today =
      each_on _ (λ d. has d (noted_on (today s) (acted e c).known.bins) ≡ true) (live_bins (left s (acted e c) (outcome e c)).places)
      (λ d i. ap (has d) acted_took.behind ∙ come_today d i) left_live

  last_by_arrival : Opened e.state → last_replies s (acted e c) (outcome e c) ≡ unsettled_replies (left s (acted e c) (outcome e c)) (noted_on (today s) (acted e c).known.bins)
  unfolding last_replies
  last_by_arrival i =
      close_by_arrival (today s) (left s (acted e c) (outcome e c)) (acted e c).known.bins (acted_known readers e c v i).bins_once
      (λ p x q. standing_bin s.house.banks x q ((tested_stood readers e c (k readers e c v)).each p)) left_today

  stepped_goes : Goes c e.state (stepped e c).engine.state
  unfolding stepped begun closes goes_on
  stepped_goes = ends (is_close c.asked.action)
    where
      ends : (t : Bool) → Goes c e.state (cond t (closes s (acted e c) (outcome e c)) (goes_on s (acted e c) (outcome e c))).engine.state
      ends true = record {
        arrives = λ n. record { added = acted_took.added; request = acted_took.request; behind = acted_took.behind; live = tt };
        ready = record { packed = acted_took.packed; today = tt };
      }
      ends false = record {
        arrives = λ n. record { added = acted_took.added; request = acted_took.request; behind = acted_took.behind; live = left_live };
        ready = record { packed = acted_took.packed; today = left_today };
      }

  unmoved : Goes c e.state e.state
  unmoved = record {
    arrives = λ n. record { added = []; request = none; behind = sym (append-nil (bins_today e.state)); live = lives_among e.state r };
    ready = h;
  }

  -- an opening that is done begins with no BIN
  opened_none : opening_answer e.state.day c.asked.input ≡ Ok tt → noted_on (day_in c.asked.input) e.state.known.bins ≡ []
  opened_none d = bins_later e.state e.state.day.phase (day_in c.asked.input) v (later readers e c v d)

  opened_ready : (a : Answer) → opening_answer e.state.day c.asked.input ≡ a → is_open e.state.day.phase ≡ false → Ready (opened_by a e c).engine.state
  unfolding opened
  opened_ready (Ok tt) d i = record {
    packed = packed_none (day_in c.asked.input) e.state.known.bins (opened_none d);
    today = subst (λ (z : Batches). Each (λ x. has x (noted_on (day_in c.asked.input) e.state.known.bins) ≡ true) (live_bins z.places)) (sym ((k readers e c v).idle i)) tt;
  }
  opened_ready (Err q) d i = h

  performed_goes : (z : Kind) → kind_of c.asked.action ≡ z → day_for z e.state.day ≡ true → Goes c e.state (performed z e c).engine.state
  performed_goes opens w i = record {
    arrives = λ n. let z : true ≡ false = rw w at n in absurd (false≢true (sym z));
    ready = opened_ready (opening_answer e.state.day c.asked.input) refl (not-true _ i);
  }
  performed_goes steps w i = stepped_goes
  performed_goes (gives d) w i = record {
    arrives = λ n. let u = unmoved.arrives n in record { added = u.added; request = u.request; behind = u.behind; live = u.live };
    ready = record { packed = h.packed; today = h.today };
  }

  judged_goes : (a : Answer) → judge e.state c ≡ a → Goes c e.state (judged a e c).engine.state
  judged_goes (Ok tt) i = performed_goes (kind_of c.asked.action) refl (right_day_lem e.state c i)
  judged_goes (Err q) i = unmoved

  call_goes : Goes c e.state (call e c).engine.state
  unfolding call
  call_goes = judged_goes (judge e.state c) refl

  -- ---- an opening that is done, and a close

  opened_bins : (a : Answer) → opening_answer e.state.day c.asked.input ≡ a → (opened_by a e c).answer ≡ Ok tt → bins_today (opened_by a e c).engine.state ≡ []
  unfolding opened
  opened_bins (Ok tt) w d = opened_none w
  opened_bins (Err q) w d = let z : ◌≡◌ {A = ℕ} 0 1 = cc in absurd (omega arith)

  performed_bins : (z : Kind) → z ≡ opens → (performed z e c).answer ≡ Ok tt → bins_today (performed z e c).engine.state ≡ []
  performed_bins opens o d = opened_bins (opening_answer e.state.day c.asked.input) refl d
  performed_bins steps o d = let z : ◌≡◌ {A = ℕ} 0 1 = cc in absurd (omega arith)
  performed_bins (gives n) o d = let z : ◌≡◌ {A = ℕ} 0 1 = cc in absurd (omega arith)

  opens_none : (j : Answer) → c.asked.action ≡ Opening → (judged j e c).answer ≡ Ok tt → bins_today (judged j e c).engine.state ≡ []
  opens_none (Ok tt) o d = performed_bins (kind_of c.asked.action) (ap kind_of o) d
  opens_none (Err q) o d = let z : ◌≡◌ {A = ℕ} 0 1 = cc in absurd (omega arith)

  abbrev Closed' : Result → Type 0
  Closed' x = x.out ≡ texts_from e.state.day.texts
      (replies s (acted e c) (outcome e c) ++ unsettled_replies (left s (acted e c) (outcome e c)) (bins_today x.engine.state))

  stepped_closes : Opened e.state → c.asked.action ≡ Close → Closed' (stepped e c)
  unfolding stepped begun closes
  stepped_closes i o =
      rw (ap is_close o) (ap (λ (z : List Reply). texts_from e.state.day.texts (replies s (acted e c) (outcome e c) ++ z)) (last_by_arrival i))

  call_close : judge e.state c ≡ Ok tt → c.asked.action ≡ Close → Closed' (call e c)
  unfolding call
  call_close i o = rw (i, ap kind_of o) (stepped_closes (open_in e.state e.state.day.phase v (rw (ap kind_of o) at (right_day_lem e.state c i))) o)

  call_by_arrival : ByArrival e c (call e c)
  unfolding call
  call_by_arrival = record {
    opens = opens_none (judge e.state c);
    arrives = call_goes.arrives;
    today = call_goes.ready.today;
    close = call_close;
  }

-- ---- any calls

after_ready : (cs : List Call) (e : Engine) → Valid e.state → Ready e.state → Ready (after call e cs).state
unfolding after
after_ready [] e v h = h
after_ready (c ∷ cs) e v h = after_ready cs (call e c).engine (call_valid readers e c v) (call_goes e c v h).ready

start_ready : Ready start.state
start_ready = record { packed = packed_none 0 (replicate 512 no_entry) (none_fresh 0 512); today = tt }

pub batches_by_arrival : Always call ByArrival
batches_by_arrival ds c =
    let w = since_course call ds in
    call_by_arrival (course call start ds) c (subst (λ (z : Engine). Valid z.state) (sym w) (after_valid readers (since ds) start refl))
    (subst (λ (z : Engine). Ready z.state) (sym w) (after_ready (since ds) start refl start_ready))
