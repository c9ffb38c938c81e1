-- An accepted status change changes the ESA letter of the bank's debits in the batch that it names, and nothing else of any batch.
use Rattle.std.specs.Prelude.{Ok, Err}
use Prim.Native.Nat.{ℕ, zero, suc, ◌<◌}
use mathlib.Core.Path.{◌≡◌, refl, sym, ap, subst, ◌∙◌}
use mathlib.Core.Logic.{◌⊎◌, inl, inr}
use mathlib.Core.Bool.{cond}
use mathlib.Core.List.{List, [], ◌∷◌}
use native.Mathlib.Omega.{arith}
use lib.Dec.{eqb}
use lib.ListN.{length, get_or, set, drop}
use lib.Seq.{get_or-set_same, get_or-set_other}
use Rattle.chars.specs.Words.{bytes, member}
use Rattle.codes.specs.declared.Code.{Code}
use Rattle.settle.specs.Payments.{Payment, credit, debit}
use Rattle.queue.specs.Tests.{Outcome}
use Rattle.queue.proofs.MemoryLaws.{by_bool}
use Rattle.model.specs.Answers.{Answer}
use Rattle.model.specs.declared.Action.{Action}
use Rattle.model.specs.declared.Action.TheVariants.{Status}
use Rattle.model.specs.State.{at, Message, Place, free, live, Batches, State, place_at, payments_at, with_place}
use Rattle.model.specs.Messages.{Acted, bank_place, waiting}
use Rattle.model.specs.Joining.{join}
use Rattle.model.specs.Changes.{has_debit, with_esa, relabel, relettered, with_letter, status}
use Rattle.model.specs.Ending.{emptied, after_test}
use Rattle.model.specs.Calls.{Call, Engine, judge, begun, act, tested, left, goes_on, stepped, judged, call}
use Rattle.model.specs.Promises.{asking}
use Rattle.model.specs.Lettered.{SetDebit, SetPayments, SetMessages, SetPlace, StatusSet, LettersStay}
use Rattle.model.proofs.Counting.{times}
use Rattle.model.proofs.Standing.{emptied_on, emptied_off}
use Rattle.model.proofs.Seeking.{by_found, is_waiting}
use Rattle.model.proofs.Lettering.{a_byte, spelled_four, set_esa}
use Rattle.model.proofs.Refusals.{not_done}

-- ---- one batch

module _ (k x : ℕ) (small : x < 256) where
  set_debit : (l j c : ℕ) → SetDebit k x l j c (debit (cond (eqb j k) (with_esa x l) l) j c)
  set_debit l j c = record {
    now = cond (eqb j k) (with_esa x l) l;
    is = refl;
    four = by_bool (eqb j k) (λ e. rw e (set_esa x l small ∙ sym (ap (λ (s : List ℕ). x ∷ drop 1 s) (spelled_four l)))) (λ e. rw e refl);
  }

  set_payments : (ps : List Payment) → SetPayments k x ps (relabel k x ps)
  unfolding relabel
  set_payments [] = refl
  set_payments (credit j c ∷ ps) = (refl, set_payments ps)
  set_payments (debit l j c ∷ ps) = (set_debit l j c, set_payments ps)

  set_messages : (ms : List Message) → SetMessages k x ms (relettered k x ms)
  unfolding relettered
  set_messages [] = refl
  set_messages (m ∷ ms) = (record { reference = refl; number = refl; payments = set_payments m.payments }, set_messages ms)

  set_place : (p : Place) → SetPlace k x p (with_letter k x p)
  set_place free = refl
  set_place (live b) = record { messages = relettered k x b.messages; is = refl; each = set_messages b.messages }

-- ---- the action

record Accepted (s : State) (code : ℕ) (bin : Code) (letter : ℕ) (a : Acted) : Type 0 where
  bank : ℕ
  known : bank_place s.house code ≡ at bank
  batch : ℕ
  waits : waiting s.batches bin ≡ at batch
  small : letter < 256
  batches : a.batches ≡ with_place s.batches batch (with_letter bank letter (place_at s.batches batch))

accepted : (s : State) (code : ℕ) (bin : Code) (letter : ℕ) → (status s code bin letter).answer ≡ Ok tt → Accepted s code bin letter (status s code bin letter)
unfolding status
accepted s code bin letter h =
    by_bool (member letter (bytes "ADP"))
    (λ m. by_found (bank_place s.house code)
    (λ k f. by_found (waiting s.batches bin)
    (λ p w. by_bool (has_debit k (payments_at s.batches p))
    (λ d. record { bank = k; known = f; batch = p; waits = w; small = a_byte letter m; batches = rw (m, f, w, d) })
    (λ d. not_done (sym (rw (m, f, w, d) at h))))
    (λ w. not_done (sym (rw (m, f, w) at h))))
    (λ f. not_done (sym (rw (m, f) at h))))
    (λ m. not_done (sym (rw m at h)))

-- ---- the queue test behind it

settled_or_not : (done : List ℕ) (ps : List Place) (p : ℕ) → (get_or (emptied done ps) p free ≡ free) ⊎ (get_or (emptied done ps) p free ≡ get_or ps p free)
settled_or_not done ps p = go (times p done) refl
  where
    go : (n : ℕ) → times p done ≡ n → (get_or (emptied done ps) p free ≡ free) ⊎ (get_or (emptied done ps) p free ≡ get_or ps p free)
    go zero e = inr (emptied_off 0 done ps p e)
    go (suc n) e = inl (emptied_on 0 done ps p (omega (arith, e)))

module _ (e : Engine) (c : Call) (code : ℕ) (bin : Code) (letter : ℕ) where
  abbrev s : State
  s = begun e.state c.asked.clock

  same_places : s.batches.places ≡ e.state.batches.places
  unfolding begun join
  same_places = refl

  same_house : s.house ≡ e.state.house
  unfolding begun
  same_house = refl

  goes_on_lem : (a : Acted) (o : Outcome) → Accepted s code bin letter a → StatusSet e c.asked.clock code bin letter (goes_on s a o)
  unfolding goes_on left after_test
  goes_on_lem a o h =
      let k = h.bank in
      let p = h.batch in
      let new : Place = with_letter k letter (place_at s.batches p) in
      let places : a.batches.places ≡ set s.batches.places p new = ap (λ (b : Batches). b.places) h.batches in
      let same : (q : ℕ) → place_at s.batches q ≡ place_at e.state.batches q = λ q. ap (λ (l : List Place). get_or l q free) same_places in
      record {
        bank = k;
        known = subst (λ z. bank_place z code ≡ at k) same_house h.known;
        batch = p;
        waits = h.waits;
        there = there p new (places) (is_waiting s.batches bin p h.waits).there.inside
            (subst (λ (y : Place). SetPlace k letter y new) (same p) (set_place k letter h.small (place_at s.batches p)));
        others = λ q n. others p q new places n;
      }
    where
      there : (p : ℕ) (new : Place) → a.batches.places ≡ set s.batches.places p new → p < length s.batches.places
          → SetPlace h.bank letter (place_at e.state.batches p) new
          → (get_or (emptied o.done a.batches.places) p free ≡ free)
          ⊎ SetPlace h.bank letter (place_at e.state.batches p) (get_or (emptied o.done a.batches.places) p free)
      there p new g i y = go (settled_or_not o.done a.batches.places p)
        where
          go : (get_or (emptied o.done a.batches.places) p free ≡ free)
              ⊎ (get_or (emptied o.done a.batches.places) p free ≡ get_or a.batches.places p free)
              → (get_or (emptied o.done a.batches.places) p free ≡ free)
              ⊎ SetPlace h.bank letter (place_at e.state.batches p) (get_or (emptied o.done a.batches.places) p free)
          go (inl f) = inl f
          go (inr f) =
              inr (subst (λ (z : Place). SetPlace h.bank letter (place_at e.state.batches p) z)
              (sym (f ∙ ap (λ (l : List Place). get_or l p free) g ∙ get_or-set_same s.batches.places p new free i)) y)

      others : (p q : ℕ) (new : Place) → a.batches.places ≡ set s.batches.places p new → (q ≡ p → ⊥)
          → (get_or (emptied o.done a.batches.places) q free ≡ free)
          ⊎ (get_or (emptied o.done a.batches.places) q free ≡ place_at e.state.batches q)
      others p q new g n = go (settled_or_not o.done a.batches.places q)
        where
          go : (get_or (emptied o.done a.batches.places) q free ≡ free)
              ⊎ (get_or (emptied o.done a.batches.places) q free ≡ get_or a.batches.places q free)
              → (get_or (emptied o.done a.batches.places) q free ≡ free)
              ⊎ (get_or (emptied o.done a.batches.places) q free ≡ place_at e.state.batches q)
          go (inl f) = inl f
          go (inr f) =
              inr (f ∙ ap (λ (l : List Place). get_or l q free) g ∙ get_or-set_other s.batches.places p q new free n
              ∙ ap (λ (l : List Place). get_or l q free) same_places)

  abbrev asks : Call
  asks = asking (Status code bin letter) c

  judged_set : (j : Answer) → (judged j e asks).answer ≡ Ok tt → StatusSet e c.asked.clock code bin letter (judged j e asks)
  unfolding stepped act goes_on
  judged_set (Err q) h = not_done (sym h)
  judged_set (Ok tt) h = goes_on_lem (status s code bin letter) (tested c.asked.quick (status s code bin letter) e.memory) (accepted s code bin letter h)

  call_set : (call e asks).answer ≡ Ok tt → StatusSet e c.asked.clock code bin letter (call e asks)
  unfolding call
  call_set h = judged_set (judge e.state asks) h

pub call_letters : (e : Engine) (c : Call) → LettersStay e c (call e c)
call_letters e c code bin letter i =
    subst (λ (a : Action). (call e (asking a c)).answer ≡ Ok tt → StatusSet e c.asked.clock code bin letter (call e (asking a c))) (sym i)
    (call_set e c code bin letter)
