-- "else that debit's ESA letter is changed": what an accepted status change changes, and what it leaves as it was.
use Rattle.std.specs.Prelude.{ℕ, ◌≡◌, ◌⊎◌, cond, List, [], ◌∷◌, eqb, drop, Ok}
use Rattle.codes.specs.Codes.{short_text}
use Rattle.codes.specs.declared.Code.{Code}
use Rattle.settle.specs.Payments.{Payment, credit, debit}
use Rattle.model.specs.declared.Action.TheVariants.{Status}
use Rattle.model.specs.State.{at, Message, Batch, Place, free, live, place_at}
use Rattle.model.specs.Messages.{bank_place, waiting}
use Rattle.model.specs.Calls.{Call, Engine, Result, begun}

-- a debit before and after: bank and cents stay. Of the bank's own debit the first letter is the new one and the other three stay; of another bank's
-- debit all four stay
pub record SetDebit (bank letter letters of cents : ℕ) (after : Payment) : Type 0 where
  pub now : ℕ
  pub is : after ≡ debit now of cents
  pub four : short_text now ≡ cond (eqb of bank) (letter ∷ drop 1 (short_text letters)) (short_text letters)

module _ (bank letter : ℕ) where
  abbrev pub SetPayment : Payment → Payment → Type 0
  SetPayment (credit of cents) after = after ≡ credit of cents
  SetPayment (debit letters of cents) after = SetDebit bank letter letters of cents after

  abbrev pub SetPayments : List Payment → List Payment → Type 0
  SetPayments [] after = after ≡ []
  SetPayments (p ∷ ps) [] = ⊥
  SetPayments (p ∷ ps) (q ∷ qs) = SetPayment p q × SetPayments ps qs

  pub record SetMessage (before after : Message) : Type 0 where
    pub reference : after.reference ≡ before.reference
    pub number : after.number ≡ before.number
    pub payments : SetPayments before.payments after.payments

  abbrev pub SetMessages : List Message → List Message → Type 0
  SetMessages [] after = after ≡ []
  SetMessages (m ∷ ms) [] = ⊥
  SetMessages (m ∷ ms) (n ∷ ns) = SetMessage m n × SetMessages ms ns

  pub record SetBatch (before : Batch) (after : Place) : Type 0 where
    pub messages : List Message
    pub is : after ≡ live (record { bin = before.bin; count = before.count; activation = before.activation; messages = messages })
    pub each : SetMessages before.messages messages

  abbrev pub SetPlace : Place → Place → Type 0
  SetPlace free after = after ≡ free
  SetPlace (live b) after = SetBatch b after

-- the bank and the waiting batch that a status change names. After the call the batch has the new letter, or the call has settled it; every other batch is
-- as it was, or settled
pub record StatusSet (e : Engine) (clock code : ℕ) (bin : Code) (letter : ℕ) (r : Result) : Type 0 where
  pub bank : ℕ
  pub known : bank_place e.state.house code ≡ at bank
  pub batch : ℕ
  pub waits : waiting (begun e.state clock).batches bin ≡ at batch
  pub there : (place_at r.engine.state.batches batch ≡ free)
      ⊎ SetPlace bank letter (place_at e.state.batches batch) (place_at r.engine.state.batches batch)
  pub others : (p : ℕ) → (p ≡ batch → ⊥)
      → (place_at r.engine.state.batches p ≡ free) ⊎ (place_at r.engine.state.batches p ≡ place_at e.state.batches p)

abbrev pub LettersStay : Engine → Call → Result → Type 0
LettersStay e c r = (code : ℕ) (bin : Code) (letter : ℕ) → c.asked.action ≡ Status code bin letter → r.answer ≡ Ok tt
    → StatusSet e c.asked.clock code bin letter r
