-- Every action keeps the rules of the batch places and of the house.
use Prim.Native.Nat.{ℕ, ◌<◌}
use mathlib.Core.Path.{◌≡◌, refl, sym, ◌∙◌}
use mathlib.Core.Bool.{true, false≢true}
use mathlib.Core.List.{[], ◌∷◌}
use native.Mathlib.Omega.{arith}
use lib.Dec.{eqb}
use lib.ListN.{length, length-append, length-set}
use lib.Seq.{get_or-set_other, get_or-set_same}
use borrow.Author.Tests.{eqb-true, eqb-false}
use Rattle.chars.specs.Words.{bytes, member}
use Rattle.codes.specs.declared.Code.{Code}
use Rattle.request_read.specs.declared.whole.Outcome.TheVariants.{Settlement}
use Rattle.request_read.specs.declared.whole.Reading.{Reading}
use Rattle.settle.specs.Rules.{Distinct}
use Rattle.queue.proofs.MemoryLaws.{by_bool}
use Rattle.model.specs.State.{is_free, Batch, Place, free, live, Batches, Known, State, place_at, with_place}
use Rattle.model.specs.Messages.{arrived, first_batch, Acted, ended, with_message}
use Rattle.model.specs.Changes.{with_letter}
use Rattle.model.specs.Rules.{RightHouse}
use Rattle.model.proofs.Truth.{or_false}
use Rattle.model.proofs.Seeking.{Answers, no_times, Assembling}
use Rattle.model.proofs.Standing.{Standing, vacant, building, awaits, stands, Stood, Around, alike, ended_stood, put_stood, tail_stood}
use Rattle.model.proofs.Admitting.{TextGives, Takes, takes, message_right}
use Rattle.model.proofs.Lettering.{a_status, a_byte, lettered_standing}
use Rattle.model.proofs.Settling.{house_sublimited}
use Rattle.model.proofs.Doing.{Start, going, begun, Did, sent, idle, sublimits, letters, alone, repeats, recalls, completes, grows, rejects}

module _ (s : State) (h : Stood s.house.banks s.batches) where
  ends : (p : ℕ) → Stood s.house.banks (ended s.batches p)
  ends p = ended_stood s.house.banks s.batches p h.long (λ q n. h.each q)

  -- the place of a batch that is being assembled
  around_assembling : (c : Code) (p : ℕ) → Assembling s.batches c p → Around s.house.banks s.batches p
  around_assembling c p i =
      let w = or_false _ _ i.idle in
      record {
        long = h.long;
        inside = omega (arith, i.there.inside, h.long);
        beside = λ q n. h.each q;
        unheld = no_times p s.batches.pending w.0;
        unqueued = no_times p s.batches.queue w.1;
      }

  takes_more : {x : Place} {m n : ℕ} (b : Batch) → x ≡ live b → m ≡ 0 → n ≡ 0 → Standing s.house.banks x m n → Takes s.house.banks b
  takes_more b e m n vacant = absurd (let z : ◌≡◌ {A = ℕ} 0 1 = cc in omega arith)
  takes_more b e m n (building {b = c} i l) = let d : c ≡ b = cc in rw (sym d) (takes s.house.banks c i l)
  takes_more b e m n (awaits i c g) = absurd (omega arith)
  takes_more b e m n (stands i c) = absurd (omega arith)

  -- a free place neither waits nor is queued
  unused : {m n : ℕ} (x : Place) → is_free x ≡ true → Standing s.house.banks x m n → (m ≡ 0) × (n ≡ 0)
  unused free e vacant = (refl, refl)
  unused (live b) e i = absurd (false≢true e)

  module _ (r : Reading) where
    -- the lowest free place, and the batch that is begun there
    around_free : (p : ℕ) → Answers is_free s.batches.places free p → Around s.house.banks (with_place s.batches p (live (first_batch s r))) p
    around_free p a =
        let e = unused (place_at s.batches p) a.yes (h.each p) in
        record {
          long = length-set s.batches.places p (live (first_batch s r)) ∙ h.long;
          inside = omega (arith, a.inside, h.long);
          beside = λ q n. alike s.house.banks (get_or-set_other s.batches.places p q (live (first_batch s r)) free n) refl refl (h.each q);
          unheld = e.0;
          unqueued = e.1;
        }

    pub around : {b : Batches} {k : Known} {p : ℕ} {x : Batch} → Start s r b k p x → Around s.house.banks b p
    around (going {p = p} i e) = around_assembling _ p i
    around (begun {p = p} a u v) = around_free p a

    takes_first : TextGives r → Takes s.house.banks (first_batch s r)
    unfolding Distinct
    takes_first v = record { bin = v.bin; count = v.count; minute = v.minute; messages = tt; apart = tt; banks_differ = tt; room = omega (arith, v.count.0) }

    pub starts : {b : Batches} {k : Known} {p : ℕ} {x : Batch} → TextGives r → Start s r b k p x → Takes s.house.banks x
    starts v (going {p = p} {x = x} i e) = let a = around_assembling _ p i in takes_more x e a.unheld a.unqueued (h.each p)
    starts v (begun a u w) = takes_first v

  put_letter : (k letter p : ℕ) → member letter (bytes "ADP") ≡ true → p < length s.batches.places
      → Stood s.house.banks (with_place s.batches p (with_letter k letter (place_at s.batches p)))
  put_letter k letter p m l = record {
    long = length-set s.batches.places p _ ∙ h.long;
    each = λ q.
        by_bool (eqb q p)
        (λ e. let d : q ≡ p = eqb-true q p e in
        rw d (alike s.house.banks (get_or-set_same s.batches.places p _ free l) refl refl (lettered_standing k letter s.house.banks (a_byte letter m) (a_status letter m) (h.each p))))
        (λ e. alike s.house.banks (get_or-set_other s.batches.places p q _ free (eqb-false q p e)) refl refl (h.each q));
  }

  -- the batches, where a settlement request that is read gives right values
  pub places_kept : (r : Reading) {a : Acted} → Did s r a → (r.outcome ≡ Settlement → TextGives r) → Stood s.house.banks a.batches
  places_kept r (sent (idle n)) v = h
  places_kept r (sublimits k x b l) v = h
  places_kept r (letters k x p c m w) v = put_letter k x p m w.there.inside
  places_kept r (sent (alone n y q w)) v = h
  places_kept r (sent (repeats p c f i)) v = ends p
  places_kept r (sent (recalls p f n w)) v = ends p
  places_kept r (sent (completes stream b k p x j d e f)) v =
      let g = v j.settlement in
      tail_stood s.house.banks b p (around r j.start) (with_message s r x) (message_right s r stream x (starts r g j.start) g d) s r
      (record { whole = eqb-true _ _ e; even = eqb-true _ _ f })
  places_kept r (sent (grows stream b k p x j d e)) v =
      let g = v j.settlement in
      let t = starts r g j.start in
      put_stood s.house.banks b p (around r j.start) (with_message s r x) (message_right s r stream x t g d)
      (omega (arith, length-append x.messages (arrived s r ∷ []), t.room, eqb-false (length (with_message s r x).messages) x.count e))
  places_kept r (sent (rejects f b k p x j)) v = let a = around r j.start in ended_stood s.house.banks b p a.long a.beside

-- the house: only a sub-limit changes
pub house_kept : (s : State) (r : Reading) {a : Acted} → Did s r a → RightHouse s.house s.books.balances s.books.sublimits → RightHouse s.house a.books.balances a.books.sublimits
house_kept s r (sent (idle n)) h = h
house_kept s r (sublimits k x b l) h = house_sublimited s.house s.books k x h b l
house_kept s r (letters k x p c m w) h = h
house_kept s r (sent (alone n y q w)) h = h
house_kept s r (sent (repeats p c f i)) h = h
house_kept s r (sent (recalls p f n w)) h = h
house_kept s r (sent (completes stream b k p x j d e f)) h = h
house_kept s r (sent (grows stream b k p x j d e)) h = h
house_kept s r (sent (rejects f b k p x j)) h = h
