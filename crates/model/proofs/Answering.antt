-- Texts and live messages: a message is answered once, when its batch ends or at once. What an action, the test and the close answer, they
-- take from the live messages.
use Prim.Native.Nat.{ℕ, zero, suc, ◌+◌, ◌≤◌, ◌<◌}
use mathlib.Core.Path.{◌≡◌, refl, sym, ap, ◌∙◌}
use mathlib.Core.Bool.{Bool, true, ◌&&◌, not, cond, false≢true}
use mathlib.Core.List.{List, [], ◌∷◌, ◌++◌}
use native.Mathlib.Omega.{arith}
use lib.Dec.{eqb}
use lib.ListN.{length, get_or, set, length-append, length-set}
use lib.Seq.{get_or-set_same, get_or-set_other}
use borrow.Author.Tests.{eqb-true, eqb-false, eq-eqb}
use Rattle.codes.specs.declared.Code.{Code}
use Rattle.dates.specs.Dates.{is_remembered}
use Rattle.request_read.specs.declared.whole.Reading.{Reading}
use Rattle.chars.specs.Refusals.{number_of}
use Rattle.chars.specs.declared.Refusal.TheVariants.{Unsettled}
use Rattle.response_write.specs.declared.Outcome.{Outcome}
use Rattle.response_write.specs.declared.Outcome.TheVariants.{Settled, Rejected}
use Rattle.queue.proofs.MemoryLaws.{by_bool}
use Rattle.codes.specs.Codes.{no_code}
use Rattle.model.specs.State.{at, on_found, same_code, is_free, has_bin, Day, Message, Batch, Place, free, live, Batches, Known, Entry, State, place_at, place_messages, place_bin, batch_of}
use Rattle.model.specs.Replies.{Reply, replies_to}
use Rattle.model.specs.Messages.{Acted, today, bin, arrived, with_reference, with_message, ended, first_batch}
use Rattle.model.specs.Changes.{with_letter}
use Rattle.model.specs.Ending.{emptied, settled_replies, close_replies}
use Rattle.model.specs.Rules.{is_bin, remembered, AllUnlike, has, noted_today, live_messages}
use Rattle.model.proofs.Truth.{or_right}
use Rattle.model.proofs.Counting.{times}
use Rattle.model.proofs.Seeking.{seek_answers, by_found}
use Rattle.model.proofs.Admitting.{Gives}
use Rattle.model.proofs.Lettering.{relettered_length}
use Rattle.model.proofs.Noting.{same_self}
use Rattle.model.proofs.Remembering.{reference_noted, same_code_lem, bin_code, unlike_none}
use Rattle.model.proofs.Doing.{New, Start, going, begun, Did, sent, idle, sublimits, letters, alone, repeats, recalls, completes, grows, rejects}

-- ---- live messages

pub live_set : (ps : List Place) (p : ℕ) (x : Place) → p < length ps
    → live_messages (set ps p x) + length (place_messages (get_or ps p free)) ≡ live_messages ps + length (place_messages x)
live_set [] p x h = absurd (omega arith)
live_set (y ∷ ps) zero x h = omega arith
live_set (y ∷ ps) (suc p) x h = omega (arith, live_set ps p x (omega arith))

pub live_freed : (ps : List Place) (p : ℕ) → live_messages (set ps p free) + length (place_messages (get_or ps p free)) ≡ live_messages ps
live_freed [] p = refl
live_freed (y ∷ ps) zero = omega arith
live_freed (y ∷ ps) (suc p) = omega (arith, live_freed ps p)

replies_length : (ms : List Message) (bin : Code) (o : Outcome) → length (replies_to ms bin o) ≡ length ms
unfolding replies_to
replies_length [] bin o = refl
replies_length (m ∷ ms) bin o = ap suc (replies_length ms bin o)

-- ---- an action

-- `new` is 1 where a reference is noted
pub record Counted (s : State) (a : Acted) : Type 0 where
  pub new : ℕ
  pub few : new ≤ 1
  pub answered : length a.replies + live_messages a.batches.places ≤ live_messages s.batches.places + new
  pub noted_today_lem : noted_today (today s) a.known.references ≡ noted_today (today s) s.known.references + new

module _ (s : State) (r : Reading) (g : Gives r) where
  abbrev before : ℕ
  before = live_messages s.batches.places

  one_more : New s r → noted_today (today s) (with_reference s r).references ≡ noted_today (today s) s.known.references + 1
  one_more n = (reference_noted s r g n).one_more

  record Begins (b : Batches) (k : Known) (p : ℕ) (x : Batch) : Type 0 where
    inside : p < length b.places
    same : live_messages b.places ≡ before
    there : length (place_messages (place_at b p)) ≡ length x.messages
    one : noted_today (today s) k.references ≡ noted_today (today s) s.known.references + 1

  pub free_messages : (x : Place) → is_free x ≡ true → length (place_messages x) ≡ 0
  free_messages free e = refl
  free_messages (live b) e = absurd (false≢true e)

  begins : {b : Batches} {k : Known} {p : ℕ} {x : Batch} → New s r → Start s r b k p x → Begins b k p x
  begins n (going {p = p} {x = x} a e) = record { inside = a.there.inside; same = refl; there = ap (λ (y : Place). length (place_messages y)) e; one = one_more n }
  begins n (begun {p = p} a u v) =
      let ps : List Place = s.batches.places in
      record {
        inside = rw (length-set ps p (live (first_batch s r))) a.inside;
        same = omega (arith, live_set ps p (live (first_batch s r)) a.inside, free_messages (get_or ps p free) a.yes);
        there = ap (λ (y : Place). length (place_messages y)) (get_or-set_same ps p (live (first_batch s r)) free a.inside);
        one = one_more n;
      }

  -- the message is live with its batch
  lives : {b : Batches} {k : Known} {p : ℕ} {x : Batch} → Begins b k p x → live_messages (set b.places p (live (with_message s r x))) ≡ before + 1
  lives {b = b} {p = p} {x = x} h =
      omega (arith, h.same, h.there, live_set b.places p (live (with_message s r x)) h.inside, length-append x.messages (arrived s r ∷ []))

  letter_messages : (k x : ℕ) (y : Place) → length (place_messages (with_letter k x y)) ≡ length (place_messages y)
  letter_messages k x free = refl
  letter_messages k x (live b) = relettered_length k x b.messages

  pub counted : {a : Acted} → Did s r a → Counted s a
  unfolding ended
  counted (sent (idle n)) = record { new = 0; few = omega arith; answered = omega arith; noted_today_lem = omega arith }
  counted (sublimits k x b l) = record { new = 0; few = omega arith; answered = omega arith; noted_today_lem = omega arith }
  counted (letters k x p c m w) = record {
    new = 0;
    few = omega arith;
    answered = omega (arith, live_set s.batches.places p (with_letter k x (place_at s.batches p)) w.there.inside, letter_messages k x (place_at s.batches p));
    noted_today_lem = omega arith;
  }
  counted (sent (alone n y q w)) = record { new = 1; few = omega arith; answered = omega arith; noted_today_lem = one_more w }
  counted (sent (repeats p c f i)) = record {
    new = 0;
    few = omega arith;
    answered = omega (arith, live_freed s.batches.places p, replies_length (place_messages (place_at s.batches p)) c (Rejected (number_of f)));
    noted_today_lem = omega arith;
  }
  counted (sent (recalls p f n w)) = record {
    new = 1;
    few = omega arith;
    answered = omega (arith, live_freed s.batches.places p, replies_length (place_messages (place_at s.batches p)) (bin s r) (Rejected (number_of f)));
    noted_today_lem = one_more n;
  }
  counted (sent (completes stream b k p x j d e f)) =
      let i = begins j.new j.start in record { new = 1; few = omega arith; answered = omega (arith, lives i); noted_today_lem = i.one }
  counted (sent (grows stream b k p x j d e)) =
      let i = begins j.new j.start in record { new = 1; few = omega arith; answered = omega (arith, lives i); noted_today_lem = i.one }
  counted (sent (rejects f b k p x j)) =
      let i = begins j.new j.start in
      record {
        new = 1;
        few = omega arith;
        answered = omega (arith, i.same, i.there, live_freed b.places p, replies_length (with_message s r x).messages x.bin (Rejected (number_of f)), length-append x.messages (arrived s r ∷ []));
        noted_today_lem = i.one;
      }

-- ---- the test

pub settled_live : (d : Day) (b : Batches) (done : List ℕ) (ps : List Place) → ((p : ℕ) → times p done ≤ 1) → ((p : ℕ) → 0 < times p done → get_or ps p free ≡ place_at b p)
    → length (settled_replies d b done) + live_messages (emptied done ps) ≡ live_messages ps
unfolding settled_replies emptied times
settled_live d b [] ps o h = omega arith
settled_live d b (p ∷ done) ps o h =
    let e : get_or ps p free ≡ place_at b p = h p (rw (eq-eqb p p refl) (omega arith)) in
    let z : 1 + times p done ≤ 1 = rw (eq-eqb p p refl) at (o p) in
    let rs : List Reply = replies_to (place_messages (place_at b p)) (place_bin (place_at b p)) (Settled d.date d.clock) in
    omega (
      arith,
      length-append rs (settled_replies d b done),
      replies_length (place_messages (place_at b p)) (place_bin (place_at b p)) (Settled d.date d.clock),
      ap (λ (y : Place). length (place_messages y)) e,
      live_freed ps p,
      settled_live d b done (set ps p free) (λ q. omega (arith, o q))
          (λ q l. by_bool (eqb q p)
          (λ f. absurd (let y : times p done ≡ times q done = rw (eqb-true q p f) in omega arith))
          (λ f. get_or-set_other ps p q free free (eqb-false q p f) ∙ h q (omega arith))),
    )

-- ---- the close

-- the places of the batches that the close ends, by arrival
unfoldable pub closed_at : ℕ → Batches → List Entry → List ℕ
closed_at now b [] = []
closed_at now b (e ∷ es) = cond (is_remembered e.day now) (on_found (batch_of b e.code) [] (λ p. p ∷ [])) [] ++ closed_at now b es

module _ (d : Day) (now : ℕ) (b : Batches) (bins : (p : ℕ) (x : Batch) → place_at b p ≡ live x → is_bin x.bin ≡ true) where
  close_length : (es : List Entry) → length (close_replies now b es) ≡ length (settled_replies d b (closed_at now b es))
  unfolding close_replies settled_replies closed_at
  close_length [] = refl
  close_length (e ∷ es) =
      by_bool (is_remembered e.day now)
      (λ t.
      by_found (batch_of b e.code)
      (λ p f.
      let ms : List Message = place_messages (place_at b p) in
      rw (t, f) (omega (
        arith,
        length-append (replies_to ms e.code (Rejected (number_of Unsettled))) (close_replies now b es),
        length-append (replies_to ms (place_bin (place_at b p)) (Settled d.date d.clock)) (settled_replies d b (closed_at now b es)),
        replies_length ms e.code (Rejected (number_of Unsettled)),
        replies_length ms (place_bin (place_at b p)) (Settled d.date d.clock),
        close_length es,
      )))
      (λ f. rw (t, f) (close_length es)))
      (λ t. rw t (close_length es))

  -- the BIN of a batch at a place
  with_bin_lem : (c : Code) (x : Place) → has_bin c x ≡ true → place_bin x ≡ c
  with_bin_lem c free h = absurd (false≢true h)
  with_bin_lem c (live y) h = same_code_lem y.bin c h

  is_bin_lem : (c : Code) (p : ℕ) (x : Place) → place_at b p ≡ x → has_bin c x ≡ true → is_bin c ≡ true
  is_bin_lem c p free e h = absurd (false≢true h)
  is_bin_lem c p (live y) e h = ap (λ (z : Code). is_bin z) (sym (same_code_lem y.bin c h)) ∙ bins p y e

  abbrev counts : Entry → Bool
  counts e = not (same_code e.code no_code) && is_remembered e.day now

  has_cons : (c : Code) (e : Entry) (es : List Entry) → has c (remembered now es) ≡ true → has c (remembered now (e ∷ es)) ≡ true
  has_cons c e es h = by_bool (counts e) (λ t. rw t (or_right (same_code c e.code) (has c (remembered now es)) h)) (λ t. rw t h)

  -- an entry whose batch the close finds
  record Ends (e : Entry) (p : ℕ) : Type 0 where
    bin_is : place_bin (place_at b p) ≡ e.code
    remembers : counts e ≡ true

  ends : (e : Entry) (p : ℕ) → is_remembered e.day now ≡ true → batch_of b e.code ≡ at p → Ends e p
  ends e p t f =
      let y = (seek_answers (has_bin e.code) free b.places p f).yes in
      record { bin_is = with_bin_lem e.code (place_at b p) y; remembers = rw (bin_code e.code (is_bin_lem e.code p (place_at b p) refl y), t) }

  -- a place that the close ends has a BIN that is remembered
  closed_known : (p : ℕ) (es : List Entry) → 0 < times p (closed_at now b es) → has (place_bin (place_at b p)) (remembered now es) ≡ true
  unfolding closed_at times
  closed_known p [] h = absurd (omega arith)
  closed_known p (e ∷ es) h =
      let c : Code = place_bin (place_at b p) in
      by_bool (is_remembered e.day now)
      (λ t.
      by_found (batch_of b e.code)
      (λ q f.
      let g : 0 < cond (eqb q p) 1 0 + times p (closed_at now b es) = rw (t, f) at h in
      by_bool (eqb q p)
      (λ k. let i = ends e p t (rw (eqb-true q p k) at f) in rw (i.remembers, i.bin_is, same_self e.code))
      (λ k. let l : 0 < 0 + times p (closed_at now b es) = rw k at g in has_cons c e es (closed_known p es (omega arith))))
      (λ f. let g : 0 < times p (closed_at now b es) = rw (t, f) at h in has_cons c e es (closed_known p es g)))
      (λ t. let g : 0 < times p (closed_at now b es) = rw t at h in has_cons c e es (closed_known p es g))

  all_tail : (e : Entry) (es : List Entry) → AllUnlike (remembered now (e ∷ es)) → AllUnlike (remembered now es)
  all_tail e es h = by_bool (counts e) (λ t. let g : AllUnlike (e.code ∷ remembered now es) = rw t at h in g.1) (λ t. rw t at h)

  pub closed_once : (es : List Entry) → AllUnlike (remembered now es) → (p : ℕ) → times p (closed_at now b es) ≤ 1
  unfolding closed_at times
  closed_once [] u p = omega arith
  closed_once (e ∷ es) u p =
      by_bool (is_remembered e.day now)
      (λ t.
      by_found (batch_of b e.code)
      (λ q f.
      by_bool (eqb q p)
      (λ k. let i = ends e p t (rw (eqb-true q p k) at f) in rw (t, f, k) (omega (arith, gone p i (times p (closed_at now b es)) refl)))
      (λ k. rw (t, f, k) (omega (arith, closed_once es (all_tail e es u) p))))
      (λ f. rw (t, f) (closed_once es (all_tail e es u) p)))
      (λ t. rw t (closed_once es (all_tail e es u) p))
    where
      gone : (p : ℕ) → Ends e p → (n : ℕ) → times p (closed_at now b es) ≡ n → n ≡ 0
      gone p i zero k = refl
      gone p i (suc n) k =
          let g : AllUnlike (e.code ∷ remembered now es) = rw i.remembers at u in
          let y : has e.code (remembered now es) ≡ true = rw i.bin_is at (closed_known p es (omega arith)) in
          absurd (false≢true (sym (unlike_none e.code (remembered now es) g.0) ∙ y))

  -- the close answers no more than the live messages
  pub close_few : (es : List Entry) → AllUnlike (remembered now es) → length (close_replies now b es) ≤ live_messages b.places
  close_few es u = omega (arith, close_length es, settled_live d b (closed_at now b es) b.places (closed_once es u) (λ p h. refl))
