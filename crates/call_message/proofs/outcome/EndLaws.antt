-- A batch that is ended, and what is answered.
use Prim.Native.Nat.{ℕ}
use mathlib.Core.Path.{◌≡◌, sym}
use mathlib.Core.List.{List, [], ◌∷◌, ◌++◌}
use lib.ListN.{set}
use Rattle.chars.specs.Refusals.{number_of}
use Rattle.chars.specs.declared.Refusal.{Refusal}
use Rattle.codes.specs.declared.Code.{Code}
use Rattle.response_write.specs.declared.Outcome.TheVariants.{Rejected}
use Rattle.model.specs.State.{Batches}
use Rattle.model.specs.Replies.{settlement}
use Rattle.model.specs.Messages.{ended}
use Rattle.call_orders.specs.Stages.{Became}
use Rattle.call_texts.specs.Writing.{Wrote, Room, replies_at}
use Rattle.call_texts.proofs.Laws.{wrote_then, room_first, room_rest}
use Rattle.call_message.specs.outcome.Doing.{Ends}

module _ (t out : List ℕ) (p at texts n : ℕ) (f : Refusal) (e : n ≡ number_of f) where
  pub room_as : Room out at texts (replies_at t p (Rejected (number_of f))) → Room out at texts (replies_at t p (Rejected n))
  room_as h = rw e h

  module _ (b : Batches) (m : List ℕ) (t' q : List ℕ) (nq : ℕ) (w : List ℕ) (nw : ℕ) (m' out' : List ℕ) (to texts' : ℕ) where
    pub ends_so : Wrote out at texts (replies_at t p (Rejected n)) out' to texts' → Became (ended b p) t' q nq w nw → m' ≡ set m p 0
        → Ends (replies_at t p (Rejected (number_of f))) b p m out at texts t' q nq w nw m' out' to texts'
    ends_so h g i = record { batches = g; memory = i; replies = rw (sym e) h }

  -- with one message more
  module _ (reference bin : Code) (room : Room out at texts (replies_at t p (Rejected (number_of f)) ++ (settlement reference bin (Rejected (number_of f)) ∷ []))) where
    whole : Room out at texts (replies_at t p (Rejected n) ++ (settlement reference bin (Rejected n) ∷ []))
    whole = rw e room

    pub first_room : Room out at texts (replies_at t p (Rejected n))
    first_room = room_first texts (replies_at t p (Rejected n)) (settlement reference bin (Rejected n) ∷ []) whole

    module _ (out₁ : List ℕ) (at₁ texts₁ : ℕ) (w₁ : Wrote out at texts (replies_at t p (Rejected n)) out₁ at₁ texts₁) where
      pub last_room : Room out₁ at₁ texts₁ (settlement reference bin (Rejected n) ∷ [])
      last_room = room_rest w₁ (settlement reference bin (Rejected n) ∷ []) whole

      pub ends_with : (b : Batches) (m : List ℕ) (t' q : List ℕ) (nq : ℕ) (w : List ℕ) (nw : ℕ) (m' out' : List ℕ) (to texts' : ℕ)
          → Wrote out₁ at₁ texts₁ (settlement reference bin (Rejected n) ∷ []) out' to texts' → Became (ended b p) t' q nq w nw → m' ≡ set m p 0
          → Ends (replies_at t p (Rejected (number_of f)) ++ (settlement reference bin (Rejected (number_of f)) ∷ [])) b p m out at texts t' q nq w nw m' out' to texts'
      ends_with b m t' q nq w nw m' out' to texts' v g i =
          record { batches = g; memory = i; replies = rw (sym e) (wrote_then w₁ (settlement reference bin (Rejected n) ∷ []) v) }
