-- The action, then the test: together they are the model's.
use Prim.Native.Nat.{ℕ}
use mathlib.Core.Path.{◌≡◌, refl, sym, ap, subst, ◌∙◌}
use mathlib.Core.Bool.{Bool}
use mathlib.Core.List.{List, ◌++◌}
use lib.ListN.{length, take}
use lib.Seq.{sets}
use Rattle.request_read.specs.whole.Request.{request_at}
use Rattle.settle.specs.Settlement.{Accounts, accounts}
use Rattle.settle.specs.Rules.{Books}
use Rattle.queue.specs.Tests.{Outcome, test, fuel}
use Rattle.queue.specs.Memory.{forgotten}
use Rattle.model.specs.Answers.{Answer}
use Rattle.model.specs.declared.Action.{Action}
use Rattle.model.specs.Kinds.{own_of}
use Rattle.model.specs.State.{Batches, State, payments_at}
use Rattle.model.specs.Replies.{Reply}
use Rattle.model.specs.Messages.{Acted}
use Rattle.model.specs.Ending.{emptied, after_test, settled_replies}
use Rattle.model.specs.Calls.{tested, replies, left}
use Rattle.model.specs.Rules.{RightHouse}
use Rattle.model.proofs.Doing.{did}
use Rattle.model.proofs.Placing.{places_kept, house_kept}
use Rattle.model.proofs.Reading.{readers}
use Rattle.model.proofs.Settling.{house_books}
use Rattle.model.proofs.Standing.{Stood}
use Rattle.tables.specs.declared.Desk.{Desk}
use Rattle.tables.specs.House.{house_on}
use Rattle.call_orders.specs.Stages.{seen, places_in}
use Rattle.call_texts.specs.Writing.{Wrote, Room, Legible, batches_on, day_at}
use Rattle.call_texts.proofs.Laws.{settled_any, room_rest, wrote_then}
use Rattle.call.specs.queue_test.Settling.{Testable, outcome_of, Ended}
use Rattle.call.proofs.queue_test.Model.{test_legible, testable, outcome_so}
use Rattle.call.specs.action.Working.{middle, acted_in, tested_in, Carried, Workable, Worked}

module _ (quick : Bool) (d : Desk) (x : Action) (input codes flags balances sublimits t q : List ℕ) (nq : ℕ) (w : List ℕ) (nw : ℕ) (rs bs m out r : List ℕ)
    (k : Workable quick d x input codes flags balances sublimits t q nq w nw rs bs m out r) where
  abbrev s : State
  s = middle d codes flags balances sublimits t q nq w nw rs bs

  abbrev a : Acted
  a = acted_in d x input codes flags balances sublimits t q nq w nw rs bs

  abbrev o : Outcome
  o = tested_in quick d x input codes flags balances sublimits t q nq w nw rs bs m

  module _ (answer : Answer) (sublimits' t₁ q₁ : List ℕ) (nq₁ : ℕ) (w₁ : List ℕ) (nw₁ : ℕ) (m₁ out₁ : List ℕ) (at₁ texts₁ : ℕ) (rs₁ bs₁ : List ℕ)
      (g : Carried a balances m out d.texts answer sublimits' t₁ q₁ nq₁ w₁ nw₁ m₁ out₁ at₁ texts₁ rs₁ bs₁) where
    now_seen : seen t₁ q₁ nq₁ w₁ nw₁ ≡ a.batches
    now_seen = g.rows.batches.is

    -- the batches and the accounts still keep the rules
    stood₁ : Stood d.banks (seen t₁ q₁ nq₁ w₁ nw₁)
    stood₁ = subst (λ (b : Batches). Stood d.banks b) (sym now_seen) (places_kept s k.actable.stood (request_at input) (did s (own_of x) input) (readers.texts input).settlement)

    house₁ : RightHouse (house_on d codes flags) a.books.balances a.books.sublimits
    house₁ = house_kept s (request_at input) (did s (own_of x) input) k.house

    books₁ : Books balances sublimits'
    books₁ = subst (λ (n : Accounts). Books n.balances n.sublimits) g.books (house_books (house_on d codes flags) a.books house₁)

    abbrev o₁ : Outcome
    o₁ = outcome_of quick balances sublimits' t₁ m₁ q₁ nq₁

    same_test : o₁ ≡ o
    unfolding tested
    same_test =
        outcome_so d.banks t₁ q₁ nq₁ w₁ nw₁ g.rows.batches.ready stood₁ quick balances sublimits' m₁
        ∙ ap (λ (b : Batches). test quick (payments_at b) (fuel b.queue) (accounts balances sublimits') m₁ b.queue) now_seen
        ∙ ap (λ (n : Accounts). test quick (payments_at a.batches) (fuel a.batches.queue) n m₁ a.batches.queue) (sym g.books)
        ∙ ap (λ (l : List ℕ). test quick (payments_at a.batches) (fuel a.batches.queue) a.books l a.batches.queue) g.rows.memory

    abbrev told : List ℕ → List Reply
    told done = settled_replies (day_at d.date d.clock) (batches_on t₁) done

    same_told : told o₁.done ≡ settled_replies s.day a.batches o.done
    same_told =
        settled_any (batches_on t₁) a.batches (ap (λ (b : Batches). b.places) now_seen) (day_at d.date d.clock) s.day refl refl o₁.done
        ∙ ap (λ (u : Outcome). settled_replies s.day a.batches u.done) same_test

    all_told : replies s a o ≡ a.replies ++ told o₁.done
    unfolding replies
    all_told = ap (λ (l : List Reply). a.replies ++ l) (sym same_told)

    -- what the test requires

    pub test_able : length m₁ ≡ length m → Testable balances sublimits' t₁ m₁ q₁ nq₁ r × Legible t₁
    test_able e = (
      testable d.banks t₁ q₁ nq₁ w₁ nw₁ g.rows.batches.ready stood₁ k.actable.few_banks balances sublimits' m₁ r books₁ (e ∙ k.memory) k.tries,
      test_legible d.banks t₁ q₁ nq₁ w₁ nw₁ g.rows.batches.ready stood₁,
    )

    pub test_room : Room out₁ at₁ texts₁ (settled_replies (day_at d.date d.clock) (batches_on t₁) (outcome_of quick balances sublimits' t₁ m₁ q₁ nq₁).done)
    test_room = room_rest g.rows.replies (told o₁.done) (subst (λ (l : List Reply). Room out 0 d.texts l) all_told k.room)

    -- both together

    module _ (balances₂ t₂ m₂ q₂ : List ℕ) (nq₂ : ℕ) (r₂ : List ℕ) (k₂ : ℕ) (out₂ : List ℕ) (at₂ texts₂ : ℕ)
        (e : Ended (outcome_of quick balances sublimits' t₁ m₁ q₁ nq₁) sublimits' t₁ r balances₂ t₂ m₂ q₂ nq₂ r₂ k₂)
        (f : Wrote out₁ at₁ texts₁ (settled_replies (day_at d.date d.clock) (batches_on t₁) (outcome_of quick balances sublimits' t₁ m₁ q₁ nq₁).done) out₂ at₂ texts₂) where
      left_so : seen t₂ q₂ nq₂ w₁ nw₁ ≡ left s a o
      unfolding left after_test
      left_so =
          let u : places_in t₂ ≡ emptied o.done a.batches.places =
          e.places ∙ ap (λ (v : Outcome). emptied v.done (places_in t₁)) same_test ∙ ap (λ (b : Batches). emptied o.done b.places) now_seen
          in
          let v : take nq₂ q₂ ≡ o.queue = e.queue ∙ ap (λ (v : Outcome). v.queue) same_test in
          let y : take nw₁ w₁ ≡ a.batches.pending = ap (λ (b : Batches). b.pending) now_seen in
          rw (u, v, y)

      pub worked : Worked s a o out r d.texts answer balances₂ sublimits' t₂ q₂ nq₂ w₁ nw₁ rs₁ bs₁ m₂ out₂ at₂ texts₂ r₂ k₂
      worked = record {
        answered = g.rows.answered;
        books = e.books ∙ ap (λ (v : Outcome). v.books) same_test;
        batches = record { ready = record { table = e.table; queue = e.queue_fits; pending = g.rows.batches.ready.pending }; is = left_so };
        known = g.known;
        memory = e.memory ∙ ap (λ (v : Outcome). forgotten v.done v.memory) same_test;
        replies = subst (λ (l : List Reply). Wrote out 0 d.texts l out₂ at₂ texts₂) (sym all_told) (wrote_then g.rows.replies (told o₁.done) f);
        row = e.row ∙ ap (λ (v : Outcome). sets r 0 v.tries) same_test;
        tried = e.tried ∙ ap (λ (v : Outcome). length v.tries) same_test;
      }
