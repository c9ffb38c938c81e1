-- What is noted is answered at once or awaits an answer; what no longer awaits one is answered. Of each reference, in every action.
use Prim.Native.Nat.{ℕ, zero, suc, ◌+◌, ◌<◌}
use mathlib.Core.Path.{◌≡◌, refl, ap, ◌∙◌}
use mathlib.Core.Bool.{true, false≢true}
use mathlib.Core.List.{List, [], ◌∷◌, ◌++◌}
use native.Mathlib.Omega.{arith}
use lib.ListN.{length, get_or, set, length-set}
use lib.Seq.{get_or-set_same}
use Rattle.codes.specs.declared.Code.{Code}
use Rattle.request_read.specs.declared.whole.Reading.{Reading}
use Rattle.chars.specs.Refusals.{number_of}
use Rattle.response_write.specs.declared.Outcome.{Outcome}
use Rattle.response_write.specs.declared.Outcome.TheVariants.{Rejected}
use Rattle.model.specs.State.{is_free, Message, Batch, Place, free, live, Batches, Known, State, place_at, place_messages}
use Rattle.model.specs.Replies.{Reply, replies_to}
use Rattle.model.specs.Messages.{Acted, today, reference, bin, arrived, first_batch, with_reference, ended, with_message}
use Rattle.model.specs.Changes.{relettered, with_letter}
use Rattle.model.specs.Answered.{reply_to, replied_to, times_in, noted_on, references_of, awaiting_at}
use Rattle.model.proofs.Admitting.{Gives}
use Rattle.model.proofs.Remembering.{reference_noted}
use Rattle.model.proofs.Doing.{New, Alone, refuses, answers, Start, going, begun, Did, sent, idle, sublimits, letters, alone, repeats, recalls, completes, grows, rejects}

-- ---- references, counted

pub times_in_append : (x : Code) (a b : List Code) → times_in x (a ++ b) ≡ times_in x a + times_in x b
unfolding times_in
times_in_append x [] b = omega arith
times_in_append x (c ∷ a) b = omega (arith, times_in_append x a b)

references_append : (a b : List Message) → references_of (a ++ b) ≡ references_of a ++ references_of b
unfolding references_of
references_append [] b = refl
references_append (m ∷ a) b = ap (λ (l : List Code). m.reference ∷ l) (references_append a b)

replied_append : (a b : List Reply) → replied_to (a ++ b) ≡ replied_to a ++ replied_to b
unfolding replied_to
replied_append [] b = refl
replied_append (y ∷ a) b = ap (λ (l : List Code). reply_to y ∷ l) (replied_append a b)

-- how often replies answer a reference, and how often live messages have it
abbrev pub told : Code → List Reply → ℕ
told x ys = times_in x (replied_to ys)

abbrev pub waits : Code → List Place → ℕ
waits x ps = times_in x (awaiting_at ps)

abbrev pub among : Code → Place → ℕ
among x y = times_in x (references_of (place_messages y))

pub told_append : (x : Code) (a b : List Reply) → told x (a ++ b) ≡ told x a + told x b
told_append x a b = ap (times_in x) (replied_append a b) ∙ times_in_append x (replied_to a) (replied_to b)

-- a batch that ends answers each of its messages
pub told_batch : (x : Code) (ms : List Message) (bin : Code) (o : Outcome) → told x (replies_to ms bin o) ≡ times_in x (references_of ms)
unfolding replies_to replied_to references_of
told_batch x ms bin o = ap (times_in x) (go ms)
  where
    go : (ms : List Message) → replied_to (replies_to ms bin o) ≡ references_of ms
    go [] = refl
    go (m ∷ ms) = ap (λ (l : List Code). m.reference ∷ l) (go ms)

waits_set : (x : Code) (ps : List Place) (p : ℕ) (y : Place) → p < length ps → waits x (set ps p y) + among x (get_or ps p free) ≡ waits x ps + among x y
unfolding awaiting_at
waits_set x [] p y h = absurd (omega arith)
waits_set x (z ∷ ps) zero y h =
    omega (arith, times_in_append x (references_of (place_messages y)) (awaiting_at ps), times_in_append x (references_of (place_messages z)) (awaiting_at ps))
waits_set x (z ∷ ps) (suc p) y h =
    omega (
      arith,
      times_in_append x (references_of (place_messages z)) (awaiting_at (set ps p y)),
      times_in_append x (references_of (place_messages z)) (awaiting_at ps),
      waits_set x ps p y (omega arith),
    )

pub waits_freed : (x : Code) (ps : List Place) (p : ℕ) → waits x (set ps p free) + among x (get_or ps p free) ≡ waits x ps
unfolding awaiting_at references_of times_in
waits_freed x [] p = refl
waits_freed x (z ∷ ps) zero = omega (arith, times_in_append x (references_of (place_messages z)) (awaiting_at ps))
waits_freed x (z ∷ ps) (suc p) =
    omega (
      arith,
      times_in_append x (references_of (place_messages z)) (awaiting_at (set ps p free)),
      times_in_append x (references_of (place_messages z)) (awaiting_at ps),
      waits_freed x ps p,
    )

-- ---- an action

module _ (s : State) (r : Reading) (g : Gives r) (x : Code) where
  abbrev noting : Known → ℕ
  noting k = times_in x (noted_on (today s) k.references)

  -- what is noted is answered at once or awaits an answer, and what no longer awaits one is answered
  abbrev pub Balanced : Acted → Type 0
  Balanced a = noting a.known + waits x s.batches.places ≡ noting s.known + (told x a.replies + waits x a.batches.places)

  this_more : New s r → noting (with_reference s r) ≡ noting s.known + times_in x (reference s r ∷ [])
  this_more n = (reference_noted s r g n).this_more x

  record Begins (b : Batches) (k : Known) (p : ℕ) (y : Batch) : Type 0 where
    inside : p < length b.places
    same : waits x b.places ≡ waits x s.batches.places
    there : among x (place_at b p) ≡ times_in x (references_of y.messages)
    one : noting k ≡ noting s.known + times_in x (reference s r ∷ [])

  free_among : (y : Place) → is_free y ≡ true → among x y ≡ 0
  unfolding references_of times_in
  free_among free e = refl
  free_among (live b) e = absurd (false≢true e)

  begins : {b : Batches} {k : Known} {p : ℕ} {y : Batch} → New s r → Start s r b k p y → Begins b k p y
  unfolding references_of times_in
  begins n (going {p = p} {x = y} a e) = record { inside = a.there.inside; same = refl; there = ap (λ (z : Place). among x z) e; one = this_more n }
  begins n (begun {p = p} a u v) =
      let ps : List Place = s.batches.places in
      record {
        inside = rw (length-set ps p (live (first_batch s r))) a.inside;
        same = omega (arith, waits_set x ps p (live (first_batch s r)) a.inside, free_among (get_or ps p free) a.yes);
        there = ap (λ (z : Place). among x z) (get_or-set_same ps p (live (first_batch s r)) free a.inside);
        one = this_more n;
      }

  -- the messages of a batch and one more
  one_more : (ms : List Message) → times_in x (references_of (ms ++ (arrived s r ∷ []))) ≡ times_in x (references_of ms) + times_in x (reference s r ∷ [])
  unfolding references_of
  one_more ms = ap (times_in x) (references_append ms (arrived s r ∷ [])) ∙ times_in_append x (references_of ms) (reference s r ∷ [])

  lives : {b : Batches} {k : Known} {p : ℕ} {y : Batch} → Begins b k p y
      → waits x (set b.places p (live (with_message s r y))) ≡ waits x s.batches.places + times_in x (reference s r ∷ [])
  lives {b = b} {p = p} {y = y} h = omega (arith, h.same, h.there, waits_set x b.places p (live (with_message s r y)) h.inside, one_more y.messages)

  letter_among : (k l : ℕ) (y : Place) → among x (with_letter k l y) ≡ among x y
  unfolding references_of relettered
  letter_among k l free = refl
  letter_among k l (live b) = ap (times_in x) (go b.messages)
    where
      go : (ms : List Message) → references_of (relettered k l ms) ≡ references_of ms
      go [] = refl
      go (m ∷ ms) = ap (λ (c : List Code). m.reference ∷ c) (go ms)

  alone_told : {y : Reply} → Alone s r y → told x (y ∷ []) ≡ times_in x (reference s r ∷ [])
  unfolding replied_to
  alone_told (refuses f i) = refl
  alone_told (answers f) = refl

  pub balanced : {a : Acted} → Did s r a → Balanced a
  unfolding ended replied_to times_in
  balanced (sent (idle n)) = omega arith
  balanced (sublimits k v b l) = omega arith
  balanced (letters k l p c m w) =
      omega (arith, waits_set x s.batches.places p (with_letter k l (place_at s.batches p)) w.there.inside, letter_among k l (place_at s.batches p))
  balanced (sent (alone n y q w)) = omega (arith, this_more w, alone_told q)
  balanced (sent (repeats p c f i)) =
      omega (arith, waits_freed x s.batches.places p, told_batch x (place_messages (place_at s.batches p)) c (Rejected (number_of f)))
  balanced (sent (recalls p f n w)) =
      omega (arith, this_more n, waits_freed x s.batches.places p, told_batch x (place_messages (place_at s.batches p)) (bin s r) (Rejected (number_of f)))
  balanced (sent (completes stream b k p y j d e f)) = let i = begins j.new j.start in omega (arith, lives i, i.one)
  balanced (sent (grows stream b k p y j d e)) = let i = begins j.new j.start in omega (arith, lives i, i.one)
  balanced (sent (rejects f b k p y j)) =
      let i = begins j.new j.start in
      omega (
        arith,
        i.same,
        i.there,
        i.one,
        waits_freed x b.places p,
        told_batch x (with_message s r y).messages y.bin (Rejected (number_of f)),
        one_more y.messages,
      )
