-- What becomes of a message, by the plan that was chosen for it.
use Rattle.std.specs.Prelude.{ℕ, List, [], ◌∷◌, set, Ok, Err}
use Rattle.chars.specs.Refusals.{number_of}
use Rattle.chars.specs.declared.Refusal.TheVariants.{NothingThere, Recalled as WasRecalled, Malformed}
use Rattle.codes.specs.declared.Code.{Code}
use Rattle.request_read.specs.declared.whole.Reading.{Reading}
use Rattle.response_write.specs.declared.Outcome.TheVariants.{Rejected}
use Rattle.response_write.specs.declared.Answer.TheVariants.{Recalled, Kept}
use Rattle.model.specs.State.{Entry, Known, State, live, on_live, place_at, place_messages, with_place}
use Rattle.model.specs.Replies.{settlement, recall, replies_to}
use Rattle.model.specs.Messages.{Acted, place, leaving, untouched, rejecting, today, reference, bin, ended, first_batch, admit}
use Rattle.call_plan.specs.declared.plan.Plan.{Plan}
use Rattle.call_plan.specs.declared.plan.Plan.TheVariants.{Untouched, Rejects, Alone, Comes, Begins, RecallsNone, Recalls}

-- an entry at a place
abbrev pub noted_at : (today : ℕ) → Code → ℕ → List Entry → List Entry
noted_at today code q es = set es q (record { code = code; day = today })

abbrev pub with_reference_at : (today : ℕ) → Code → ℕ → Known → Known
with_reference_at today code q k = record { references = noted_at today code q k.references; bins = k.bins }

-- what is noted: "the reference is noted", "A new BIN is noted"
unfoldable pub known_by : (today : ℕ) (reference bin : Code) → Plan → Known → Known
known_by today r b (Untouched f) k = k
known_by today r b (Rejects p f) k = k
known_by today r b (Alone q) k = with_reference_at today r q k
known_by today r b (Comes p i q) k = with_reference_at today r q k
known_by today r b (Begins p i q j) k = record { references = noted_at today r q k.references; bins = noted_at today b j k.bins }
known_by today r b (RecallsNone q) k = with_reference_at today r q k
known_by today r b (Recalls p q) k = with_reference_at today r q k

-- what is done with the batches, with k noted
unfoldable pub acted_with : State → Reading → Known → Plan → Acted
acted_with s r k (Untouched f) = leaving s (Err f) [] [] s.batches k
acted_with s r k (Rejects p f) = rejecting s f p s.batches (place_messages (place_at s.batches p)) (bin s r) k
acted_with s r k (Alone q) =
    leaving s (Err Malformed) (settlement (reference s r) (bin s r) (Rejected (number_of Malformed)) ∷ []) [] s.batches k
acted_with s r k (Comes p i q) = on_live (place_at s.batches p) (untouched s Malformed) (admit s r i s.batches k p)
acted_with s r k (Begins p i q j) = admit s r i (with_place s.batches p (live (first_batch s r))) k p (first_batch s r)
acted_with s r k (RecallsNone q) = leaving s (Err NothingThere) (recall (reference s r) (Kept (number_of NothingThere)) ∷ []) [] s.batches k
acted_with s r k (Recalls p q) =
    leaving s (Ok tt)
    (recall (reference s r) Recalled ∷ replies_to (place_messages (place_at s.batches p)) (bin s r) (Rejected (number_of WasRecalled)))
    (place p ∷ [])
    (ended s.batches p)
    k

abbrev pub acted_by : State → Reading → Plan → Acted
acted_by s r c = acted_with s r (known_by (today s) (reference s r) (bin s r) c s.known) c
