-- The plan that is chosen for a message does what the model's steps do.
use Prim.Native.Nat.{ℕ}
use mathlib.Core.Path.{◌≡◌}
use mathlib.Core.Bool.{true, false}
use mathlib.Core.List.{List}
use lib.Dec.{eqb}
use Rattle.text_fields.specs.declared.Break.{Break}
use Rattle.request_read.specs.declared.whole.Reading.{Reading}
use Rattle.request_read.specs.declared.whole.Outcome.{Outcome as Read}
use Rattle.request_read.specs.declared.whole.Outcome.TheVariants.{Settlement, Recall, Refused as Unread}
use Rattle.queue.proofs.MemoryLaws.{by_bool}
use Rattle.model.specs.State.{at, nowhere, seek, Entry, State, is_free}
use Rattle.model.specs.Memory.{is_used, vacant, note}
use Rattle.model.specs.Messages.{Acted, today, reference, bin, stream_code, stream_place, administrator, assembling, waiting, is131, is133, by_sub_type, is_broken_part, broken_part, on_text, on_sender, on_reference, on_room, on_bin, admit, recalling, message}
use Rattle.model.proofs.Seeking.{by_found}
use Rattle.call_plan.specs.declared.plan.Plan.{Plan}
use Rattle.call_plan.specs.plan.Plans.{sent_on, noted_on, settlement_on, recall_on, broken_on, plan_on}
use Rattle.call_message.specs.outcome.Acting.{known_by, acted_with, acted_by}

module _ (s : State) (r : Reading) where
  abbrev rs : List Entry
  rs = s.known.references

  abbrev bs : List Entry
  bs = s.known.bins

  -- ---- steps 3 to 6 of a 131

  module _ (stream : ℕ) where
    abbrev settles : Acted
    settles = on_reference s r is131 (on_room s r is131 (λ k. on_bin s r k (admit s r stream)))

    abbrev chosen : Plan
    chosen = settlement_on (today s) s.batches rs bs stream (reference s r) (bin s r)

    used : is_used (today s) (reference s r) rs ≡ true → settles ≡ acted_by s r chosen
    unfolding settlement_on known_by acted_with
    used e =
        by_found (assembling s.batches (bin s r))
        (λ p f. rw (e, f))
        (λ f. rw (e, f))

    module _ (e : is_used (today s) (reference s r) rs ≡ false) where
      full : vacant (today s) rs ≡ nowhere → settles ≡ acted_by s r chosen
      unfolding settlement_on known_by acted_with
      full f = rw (e, f)

      module _ (q : ℕ) (f : vacant (today s) rs ≡ at q) where
        known : is_used (today s) (bin s r) bs ≡ true → settles ≡ acted_by s r chosen
        unfolding settlement_on noted_on known_by acted_with on_bin note
        known g =
            by_found (assembling s.batches (bin s r))
            (λ p h. rw (e, f, g, h))
            (λ h. rw (e, f, g, h))

        new : is_used (today s) (bin s r) bs ≡ false → settles ≡ acted_by s r chosen
        unfolding settlement_on noted_on known_by acted_with on_bin note
        new g =
            by_found (seek is_free s.batches.places)
            (λ p h.
            by_found (vacant (today s) bs)
            (λ k j. rw (e, f, g, h, j))
            (λ j. rw (e, f, g, h, j)))
            (λ h. rw (e, f, g, h))

    settles_so : settles ≡ acted_by s r chosen
    settles_so =
        by_bool (is_used (today s) (reference s r) rs)
        used
        (λ e.
        by_found (vacant (today s) rs)
        (λ q f. by_bool (is_used (today s) (bin s r) bs) (known e q f) (new e q f))
        (full e))

  -- ---- a 133

  abbrev recalls : Acted
  recalls = on_reference s r is133 (on_room s r is133 (λ k. recalling s r k))

  abbrev recall_plan : Plan
  recall_plan = recall_on (today s) s.batches rs (reference s r) (bin s r)

  recalls_so : recalls ≡ acted_by s r recall_plan
  unfolding recall_on known_by acted_with recalling note
  recalls_so =
      by_bool (is_used (today s) (reference s r) rs)
      (λ e. rw e)
      (λ e.
      by_found (vacant (today s) rs)
      (λ q f.
      by_found (waiting s.batches (bin s r))
      (λ p g. rw (e, f, g))
      (λ g. rw (e, f, g)))
      (λ f. rw (e, f)))

  -- ---- any message

  abbrev plan_as : (sender : ℕ) → Read → Plan
  plan_as sender o = plan_on (today s) s.house.streams sender o r.head s.batches rs bs

  abbrev acts_as : (sender : ℕ) → Read → Acted
  acts_as sender o =
      on_text s r sender o (λ t.
      on_sender s r sender (λ stream.
      on_reference s r t (on_room s r t (λ k. by_sub_type t (on_bin s r k (admit s r stream)) (recalling s r k)))))

  broken_so : (sender : ℕ) (k : Break) → acts_as sender (Unread k) ≡ acted_by s r (plan_as sender (Unread k))
  unfolding broken_part stream_place sent_on broken_on known_by acted_with
  broken_so sender k =
      by_bool (is_broken_part r.head k)
      (λ g.
      by_found (stream_place s.house (stream_code s r))
      (λ i e.
      by_bool (eqb sender (administrator s.house i))
      (λ f. by_found (assembling s.batches (bin s r)) (λ p h. rw (g, e, f, h)) (λ h. rw (g, e, f, h)))
      (λ f. rw (g, e, f)))
      (λ e. rw (g, e)))
      (λ g. rw g)

  by_outcome_lem : (sender : ℕ) (o : Read) → acts_as sender o ≡ acted_by s r (plan_as sender o)
  unfolding on_sender stream_place sent_on known_by acted_with
  by_outcome_lem sender Settlement =
      by_found (stream_place s.house (stream_code s r))
      (λ i e.
      by_bool (eqb sender (administrator s.house i))
      (λ f. rw (e, f) (settles_so i))
      (λ f. rw (e, f)))
      (λ e. rw e)
  by_outcome_lem sender Recall =
      by_found (stream_place s.house (stream_code s r))
      (λ i e.
      by_bool (eqb sender (administrator s.house i))
      (λ f. rw (e, f) recalls_so)
      (λ f. rw (e, f)))
      (λ e. rw e)
  by_outcome_lem sender (Unread k) = broken_so sender k

  pub chosen_acts : (sender : ℕ) → message s sender r ≡ acted_by s r (plan_as sender r.outcome)
  unfolding message
  chosen_acts sender = by_outcome_lem sender r.outcome
