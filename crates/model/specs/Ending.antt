-- What the queue test settles, and the close.
use Rattle.std.specs.Prelude.{ℕ, cond, List, [], ◌∷◌, ◌++◌, set}
use Rattle.chars.specs.Refusals.{number_of}
use Rattle.chars.specs.declared.Refusal.TheVariants.{Unsettled}
use Rattle.dates.specs.Dates.{is_remembered}
use Rattle.response_write.specs.declared.Outcome.TheVariants.{Settled, Rejected}
use Rattle.model.specs.State.{on_found, Place, free, Batches, Entry, Day, place_at, place_messages, place_bin, batch_of}
use Rattle.model.specs.Replies.{Reply, replies_to}

-- the places of settled batches are zeroed
unfoldable pub emptied : List ℕ → List Place → List Place
emptied [] ps = ps
emptied (p ∷ done) ps = emptied done (set ps p free)

-- the batches that the test left waiting
unfoldable pub after_test : Batches → (queue done : List ℕ) → Batches
after_test b queue done = record { places = emptied done b.places; pending = b.pending; queue = queue }

-- "13E (date, HHMMSS) after 0": the texts of the settled batches, in the order of settling
unfoldable pub settled_replies : Day → Batches → List ℕ → List Reply
settled_replies d b [] = []
settled_replies d b (p ∷ done) =
    replies_to (place_messages (place_at b p)) (place_bin (place_at b p)) (Settled d.date d.clock) ++ settled_replies d b done

-- "ends each live batch with 86 by arrival of its first message": by the places of the remembered BINs. Within a day places only fill, so this is the
-- order of arrival (Arrival.antt states it)
unfoldable pub close_replies : ℕ → Batches → List Entry → List Reply
close_replies today b [] = []
close_replies today b (e ∷ es) =
    cond (is_remembered e.day today)
    (on_found (batch_of b e.code) [] (λ p. replies_to (place_messages (place_at b p)) e.code (Rejected (number_of Unsettled))))
    []
    ++ close_replies today b es
