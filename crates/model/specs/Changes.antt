-- Sub-limit changes and status changes.
use Rattle.std.specs.Prelude.{ℕ, ◌+◌, ◌*◌, ◌%◌, Bool, false, ◌||◌, cond, List, [], ◌∷◌, eqb, leb, Ok}
use Rattle.chars.specs.Words.{bytes, member}
use Rattle.chars.specs.declared.Refusal.TheVariants.{NothingThere, OutOfRange, UnknownBank, WrongEsa}
use Rattle.codes.specs.declared.Code.{Code}
use Rattle.settle.specs.Payments.{Payment, credit, debit}
use Rattle.settle.specs.Cover.{first_letter}
use Rattle.book_read.specs.Book.{most_money}
use Rattle.queue.specs.Promise.{sublimited}
use Rattle.model.specs.State.{on_found, Message, Place, free, live, State, place_at, payments_at, with_place}
use Rattle.model.specs.Messages.{Acted, bank, place, untouched, leaving, bank_place, waiting}

-- "A sub-limit change for an unknown bank gives 76, then 14."
unfoldable pub sub_limit : State → (code cents : ℕ) → Acted
sub_limit s code cents =
    on_found (bank_place s.house code) (untouched s UnknownBank) (λ p.
    cond (leb cents most_money)
    (record { answer = Ok tt; replies = []; wakes = bank p ∷ []; books = sublimited s.books p cents; batches = s.batches; known = s.known })
    (untouched s OutOfRange))

-- "a debit of that bank"
unfoldable pub has_debit : ℕ → List Payment → Bool
has_debit k [] = false
has_debit k (credit j c ∷ ps) = has_debit k ps
has_debit k (debit l j c ∷ ps) = eqb j k || has_debit k ps

-- a debit's four letters with another in the first place, which is ESA's
unfoldable pub with_esa : (letter letters : ℕ) → ℕ
with_esa letter letters = letter * first_letter + letters % first_letter

-- the debit of a bank, relabelled
unfoldable pub relabel : (bank letter : ℕ) → List Payment → List Payment
relabel k x [] = []
relabel k x (credit j c ∷ ps) = credit j c ∷ relabel k x ps
relabel k x (debit l j c ∷ ps) = debit (cond (eqb j k) (with_esa x l) l) j c ∷ relabel k x ps

unfoldable pub relettered : (bank letter : ℕ) → List Message → List Message
relettered k x [] = []
relettered k x (m ∷ ms) =
    record { reference = m.reference; number = m.number; payments = relabel k x m.payments } ∷ relettered k x ms

abbrev pub with_letter : (bank letter : ℕ) → Place → Place
with_letter k x free = free
with_letter k x (live b) =
    live (record { bin = b.bin; count = b.count; activation = b.activation; messages = relettered k x b.messages })

-- "A status change names bank, BIN and letter: not A, D or P 80; unknown bank 76; no pending or queued batch of that BIN with a debit of
-- that bank 02; else that debit's ESA letter is changed."
unfoldable pub status : State → (code : ℕ) → Code → (letter : ℕ) → Acted
status s code bin letter =
    cond (member letter (bytes "ADP"))
    (on_found (bank_place s.house code) (untouched s UnknownBank) (λ k.
    on_found (waiting s.batches bin) (untouched s NothingThere) (λ p.
    cond (has_debit k (payments_at s.batches p))
    (leaving s (Ok tt) [] (place p ∷ []) (with_place s.batches p (with_letter k letter (place_at s.batches p))) s.known)
    (untouched s NothingThere))))
    (untouched s WrongEsa)
