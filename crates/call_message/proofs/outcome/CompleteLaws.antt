-- Step 6 on the rows.
use Rattle.std.specs.Prelude.{Ok, Err}
use Prim.Native.Nat.{ℕ, ◌+◌, ◌*◌, ◌-◌, ◌≤◌}
use mathlib.Core.Path.{◌≡◌, refl, sym, ap, ◌∙◌}
use mathlib.Core.Bool.{Bool, true, false, not}
use mathlib.Core.List.{List, [], ◌∷◌}
use native.Mathlib.Omega.{arith}
use borrow.Author.Tests.{eq-eqb, ne_eqb, not-true, not-false}
use lib.ListN.{length, get_or, set, take, drop}
use lib.Seq.{set-get_or}
use Rattle.chars.specs.Words.{Says}
use Rattle.chars.specs.Refusals.{number_of}
use Rattle.chars.specs.declared.Refusal.TheVariants.{Unequal}
use Rattle.request_read.specs.declared.whole.Reading.{Reading}
use Rattle.response_write.specs.declared.Outcome.TheVariants.{Rejected}
use Rattle.book_read.specs.Range.{Each}
use Rattle.settle.specs.Payments.{cents_of}
use Rattle.settle.specs.Rules.{credits, debits}
use Rattle.model.specs.Answers.{Answer}
use Rattle.model.specs.State.{Batch, Place, free, live, Batches, Known, State, payments_of, with_place}
use Rattle.model.specs.Messages.{place, is_complete, is_even, to_tail, completed}
use Rattle.model.specs.Calls.{woken}
use Rattle.tables.specs.Rows.{word, batch_in, batch_rows}
use Rattle.tables.proofs.RowLaws.{row_at}
use Rattle.call_orders.specs.Stages.{seen, Became, due_at, tailed}
use Rattle.call_orders.proofs.HeadLaws.{word_at}
use Rattle.call_orders.proofs.Meets.{tail_so}
use Rattle.tables_rules.specs.batch_rules.BatchRules.{payments_in}
use Rattle.tables_rules.proofs.batch_rules.RowWords.{messages_many}
use Rattle.call_texts.specs.Writing.{replies_at}
use Rattle.call_texts.proofs.Laws.{wrote_none}
use Rattle.call_message.specs.outcome.Doing.{batch_at, Ends, InRows, Completable}

-- a place that is set to what stands there
same_place : (ps : List Place) (p : ℕ) (x : Place) → get_or ps p free ≡ x → set ps p x ≡ ps
same_place ps p x e = rw (sym e) (set-get_or ps p free)

module _ (t q : List ℕ) (nq : ℕ) (w : List ℕ) (nw p : ℕ) (out : List ℕ) (texts : ℕ) (c : Completable t q nq w nw p out texts) where
  abbrev b : Batches
  b = seen t q nq w nw

  abbrev x : Batch
  x = batch_at t p

  -- the row as it is lent
  pub lent_long : length (take (p * 349 + 349 - p * 349) (drop (p * 349) t)) ≡ 349
  lent_long = let d : p * 349 + 349 - p * 349 ≡ 349 = omega arith in rw (d, ← row_at 349 32 p t [] c.below) c.counted.long

  is_row : take (p * 349 + 349 - p * 349) (drop (p * 349) t) ≡ get_or (batch_rows t) p []
  is_row = let d : p * 349 + 349 - p * 349 ≡ 349 = omega arith in rw d (sym (row_at 349 32 p t [] c.below))

  pub lent_payments : word (take (p * 349 + 349 - p * 349) (drop (p * 349) t)) 8 ≤ 100
  lent_payments = rw is_row c.counted.payments

  paid : payments_in (get_or (batch_rows t) p []) ≡ payments_of x.messages
  paid = c.counted.same

  pub lent_money : Each (λ y. cents_of y ≤ 999999999999) (payments_in (take (p * 349 + 349 - p * 349) (drop (p * 349) t)))
  lent_money = rw (is_row, paid) c.money

  -- ---- not all numbers are there

  messages_there : get_or t (p * 349 + 7) 0 ≡ length x.messages
  unfolding batch_in
  messages_there = sym (word_at t p 7 c.below (omega arith)) ∙ sym (messages_many (get_or (batch_rows t) p []) 0 49 (word (get_or (batch_rows t) p []) 7))

  count_there : get_or t (p * 349 + 4) 0 ≡ x.count
  unfolding batch_in
  count_there = sym (word_at t p 4 c.below (omega arith))

  woken_one : (m : List ℕ) → woken (place p ∷ []) m ≡ set m p 0
  unfolding woken
  woken_one m = refl

  module _ (s : State) (g : Reading) (k : Known) where
    pub not_complete : (m m' : List ℕ) → (get_or t (p * 349 + 7) 0 ≡ get_or t (p * 349 + 4) 0 → ⊥) → m' ≡ set m p 0
        → InRows (completed s g b k p x) m out 0 texts (Ok tt) t q nq w nw m' out 0 texts
    unfolding completed
    not_complete m m' n e =
        let i : is_complete x ≡ false = ne_eqb (length x.messages) x.count (λ z. n (messages_there ∙ z ∙ sym count_there)) in
        rw i (record {
          answered = refl;
          batches = record { ready = c.ready; is = sym (ap (λ (ps : List Place). record { places = ps; pending = b.pending; queue = b.queue }) (same_place b.places p (live x) c.there)) };
          memory = e ∙ sym (woken_one m);
          replies = wrote_none out 0 texts;
        })

    module _ (same : get_or t (p * 349 + 7) 0 ≡ get_or t (p * 349 + 4) 0) (r : Bool) (is : Says (credits (payments_in (take (p * 349 + 349 - p * 349) (drop (p * 349) t))) ≡ debits (payments_in (take (p * 349 + 349 - p * 349) (drop (p * 349) t)))) r) where
      all_there : is_complete x ≡ true
      all_there = eq-eqb (length x.messages) x.count (sym messages_there ∙ same ∙ count_there)

      even_is : (v : Bool) → Says (credits (payments_of x.messages) ≡ debits (payments_of x.messages)) v → is_even x ≡ v
      even_is true h = eq-eqb _ _ h
      even_is false h = ne_eqb _ _ h

      even : is_even x ≡ r
      even = even_is r (rw (is_row, paid) at is)

      pub uneven : (m : List ℕ) (a : Answer) (t' q' : List ℕ) (nq' : ℕ) (w' : List ℕ) (nw' : ℕ) (m' out' : List ℕ) (to texts' : ℕ) → not r ≡ true
          → (a ≡ Err Unequal) × Ends (replies_at t p (Rejected (number_of Unequal))) b p m out 0 texts t' q' nq' w' nw' m' out' to texts'
          → InRows (completed s g b k p x) m out 0 texts a t' q' nq' w' nw' m' out' to texts'
      unfolding completed
      uneven m a t' q' nq' w' nw' m' out' to texts' n h =
          rw (all_there, even, not-true r n) (record {
            answered = h.0;
            batches = h.1.batches;
            memory = h.1.memory ∙ sym (woken_one m);
            replies = rw c.there at h.1.replies;
          })

      pub tails : (clock : ℕ) → s.day.clock ≡ clock → (m : List ℕ) (q' : List ℕ) (nq' : ℕ) (w' : List ℕ) (nw' : ℕ) (m' : List ℕ) → not r ≡ false
          → Became (tailed (due_at t clock p) b p) t q' nq' w' nw' → m' ≡ set m p 0
          → InRows (completed s g b k p x) m out 0 texts (Ok tt) t q' nq' w' nw' m' out 0 texts
      unfolding completed
      tails clock f m q' nq' w' nw' m' n h e =
          let y : with_place b p (live x) ≡ b = ap (λ (ps : List Place). record { places = ps; pending = b.pending; queue = b.queue }) (same_place b.places p (live x) c.there) in
          let z : to_tail s g b x p ≡ tailed (due_at t clock p) b p = tail_so s g b x p ∙ rw (y, f, c.there) in
          rw (all_there, even, not-false r n) (record {
            answered = refl;
            batches = rw z h;
            memory = e ∙ sym (woken_one m);
            replies = wrote_none out 0 texts;
          })
