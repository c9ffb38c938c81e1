-- What is to be done with a message, by steps 1 to 5: each choice over just what it looks at.
use Rattle.std.specs.Prelude.{ℕ, ◌≤◌, ◌≡◌, Bool, true, false, cond, List, eqb, length, get_or, Result, Ok, Err}
use Rattle.chars.specs.declared.Refusal.{Refusal}
use Rattle.chars.specs.declared.Refusal.TheVariants.{NoRoom, WrongSender, UsedReference, Malformed}
use Rattle.codes.specs.declared.Code.{Code}
use Rattle.text_fields.specs.declared.Break.{Break}
use Rattle.request_read.specs.declared.whole.Head.{Head}
use Rattle.request_read.specs.declared.whole.Outcome.{Outcome}
use Rattle.request_read.specs.declared.whole.Outcome.TheVariants.{Settlement, Recall, Refused}
use Rattle.book_read.specs.Accounts.{Stream}
use Rattle.model.specs.State.{Found, on_found, seek, Place, Batches, Entry, is_free}
use Rattle.model.specs.Memory.{is_used, vacant}
use Rattle.model.specs.Messages.{no_stream, is_broken_part, assembling, waiting}
use Rattle.call_plan.specs.declared.plan.Plan.{Plan}
use Rattle.call_plan.specs.declared.plan.Plan.TheVariants.{Untouched, Rejects, Alone, Comes, Begins, RecallsNone, Recalls}

-- "Stream not in the book 87; sender not that stream's administrator 73."
unfoldable pub sent_on : List Stream → (sender code : ℕ) → Result ℕ Refusal
sent_on streams sender code =
    on_found (seek (λ x. eqb x.code code) streams) (Err Malformed) (λ i.
    cond (eqb sender (get_or streams i no_stream).sender) (Ok i) (Err WrongSender))

-- a 131 that is refused and not noted: a batch that its BIN is assembling is rejected with the same number
abbrev pub rejects_on : Found → Refusal → Plan
rejects_on f q = on_found f (Untouched q) (λ p. Rejects p q)

-- "a remembered BIN that is not being assembled 87, this message alone"
abbrev pub known_on : Found → (stream reference : ℕ) → Plan
known_on f stream q = on_found f (Alone q) (λ p. Comes p stream q)

-- "there is no free batch or BIN place"
abbrev pub new_on : Found → Found → (stream reference : ℕ) → Plan
new_on place bin stream q = on_found place (Untouched NoRoom) (λ p. on_found bin (Untouched NoRoom) (λ k. Begins p stream q k))

unfoldable pub noted_on : (today : ℕ) → List Place → List Entry → Found → (stream reference : ℕ) → Code → Plan
noted_on today places bins f stream q bin =
    cond (is_used today bin bins) (known_on f stream q) (new_on (seek is_free places) (vacant today bins) stream q)

-- "Reference used .. 74. For a 131 whose BIN is being assembled, that batch is rejected with 74."; "04 if no place for the reference is free, or if a 131's BIN
-- is not remembered and there is no free batch or BIN place"
unfoldable pub settlement_on : (today : ℕ) → Batches → (references bins : List Entry) → (stream : ℕ) → (reference bin : Code) → Plan
settlement_on today b references bins stream reference bin =
    cond (is_used today reference references)
    (rejects_on (assembling b bin) UsedReference)
    (on_found (vacant today references) (Untouched NoRoom) (λ q. noted_on today b.places bins (assembling b bin) stream q bin))

-- "A recall acts on a pending or queued batch; else its 134 carries 02."
unfoldable pub recall_on : (today : ℕ) → Batches → (references : List Entry) → (reference bin : Code) → Plan
recall_on today b references reference bin =
    cond (is_used today reference references)
    (Untouched UsedReference)
    (on_found (vacant today references) (Untouched NoRoom) (λ q. on_found (waiting b bin) (RecallsNone q) (λ p. Recalls p q)))

abbrev pub is_in : Result ℕ Refusal → Bool
is_in (Ok i) = true
is_in (Err f) = false

-- "where step 1 fails in a 131 after 22A and 119 were read well, the stream is known, the sender is its administrator and that BIN is being assembled, the
-- batch ends with the same code"
unfoldable pub broken_on : List Stream → (sender : ℕ) → Head → Break → Batches → Plan
broken_on streams sender h k b =
    cond (is_broken_part h k)
    (cond (is_in (sent_on streams sender h.address.stream.number)) (rejects_on (assembling b h.address.bin.code) k.refusal) (Untouched k.refusal))
    (Untouched k.refusal)

abbrev pub on_sent : Result ℕ Refusal → (ℕ → Plan) → Plan
on_sent (Ok i) k = k i
on_sent (Err f) k = Untouched f

abbrev pub plan_on : (today : ℕ) → List Stream → (sender : ℕ) → Outcome → Head → Batches → (references bins : List Entry) → Plan
plan_on today streams sender Settlement h b rs bs =
    on_sent (sent_on streams sender h.address.stream.number) (λ i.
    settlement_on today b rs bs i h.reference.code h.address.bin.code)
plan_on today streams sender Recall h b rs bs =
    on_sent (sent_on streams sender h.address.stream.number) (λ i. recall_on today b rs h.reference.code h.address.bin.code)
plan_on today streams sender (Refused k) h b rs bs = broken_on streams sender h k b

-- rows that can be looked through
pub record Lookable (t q : List ℕ) (nq : ℕ) (w : List ℕ) (nw : ℕ) (rs bs : List ℕ) : Type 0 where
  pub table : length t ≡ 11168
  pub queue : nq ≤ length q
  pub pending : nw ≤ length w
  pub references : length rs ≡ 6144
  pub bins : length bs ≡ 1536
