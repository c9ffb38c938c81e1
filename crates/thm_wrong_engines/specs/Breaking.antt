-- Ticket 1 of document 02: wrong engines by what they do with a text that step 1 refuses.
use Rattle.std.specs.Prelude.{ℕ, Bool, true, false, cond, List, [], ◌∷◌, ◌++◌, eqb, Result, Ok, Err}
use Rattle.chars.specs.Words.{bytes}
use Rattle.chars.specs.Refusals.{number_of}
use Rattle.chars.specs.declared.Refusal.{Refusal}
use Rattle.chars.specs.declared.Refusal.TheVariants.{Malformed}
use Rattle.codes.specs.declared.Code.{Code}
use Rattle.text_fields.specs.Fields.{field_at}
use Rattle.text_fields.specs.declared.Break.{Break}
use Rattle.text_fields.specs.declared.Kind.TheVariants.{Letters}
use Rattle.request_read.specs.whole.Request.{request_at, on_outcome}
use Rattle.request_read.specs.declared.whole.Reading.{Reading}
use Rattle.response_write.specs.declared.Outcome.TheVariants.{Rejected}
use Rattle.model.specs.Kinds.{Own, receives, changes_sublimit, changes_status, nothing}
use Rattle.model.specs.State.{on_found, State, place_at, place_messages, batch_of}
use Rattle.model.specs.Memory.{note}
use Rattle.model.specs.Replies.{settlement}
use Rattle.model.specs.Messages.{Acted, today, bin, stream_code, stream_place, administrator}
use Rattle.model.specs.Messages.{untouched, rejecting, is_broken_part, reject_assembled, broken_part}
use Rattle.model.specs.Calls.{act}

-- the engine with an action of its own for such a text: by its sender, its bytes and its break
abbrev pub breaking : (State → (sender : ℕ) → List ℕ → Break → Acted) → State → Own → List ℕ → Acted
breaking f s (receives sender) input =
    on_outcome (request_at input).outcome (act s (receives sender) input) (act s (receives sender) input) (f s sender input)
breaking f s (changes_sublimit code cents) input = act s (changes_sublimit code cents) input
breaking f s (changes_status code bin letter) input = act s (changes_status code bin letter) input
breaking f s nothing input = act s nothing input

module _ (s : State) (sender : ℕ) (input : List ℕ) where
  abbrev reading : Reading
  reading = request_at input

  -- the right one
  abbrev pub rightly : Break → Acted
  rightly b = cond (is_broken_part reading.head b) (broken_part s reading sender b.refusal) (untouched s b.refusal)

  abbrev of_parts : (Refusal → Acted) → Break → Acted
  of_parts f b = cond (is_broken_part reading.head b) (f b.refusal) (untouched s b.refusal)

  -- nothing ends
  abbrev pub ending_nothing : Break → Acted
  ending_nothing b = untouched s b.refusal

  -- a missing field ends the batch too
  abbrev pub ending_by_missing : Break → Acted
  ending_by_missing b = rightly (record { refusal = b.refusal; at = b.at; missing = false })

  -- a 113 after CR touches no batch: its line breaks the text though its letters are right
  abbrev is_good : {X : Type 0} → Result X Break → Bool
  is_good (Ok x) = true
  is_good (Err b) = false

  abbrev pub sparing_credits : Break → Acted
  sparing_credits b = cond (is_good (field_at input b.at (bytes ":113:") Letters)) (untouched s b.refusal) (rightly b)

  -- whoever sends it
  abbrev pub ending_by_strangers : Break → Acted
  ending_by_strangers b = of_parts (reject_assembled s reading) b

  -- always with 87
  abbrev pub ending87 : Break → Acted
  ending87 b = rightly (record { refusal = Malformed; at = b.at; missing = b.missing })

  -- the broken part is noted, or is answered too, by a reference that is found in it somehow
  abbrev pub noting_it : (List ℕ → Code) → Break → Acted
  noting_it f b =
      let a : Acted = rightly b in
      record {
        answer = a.answer;
        replies = a.replies;
        wakes = a.wakes;
        books = a.books;
        batches = a.batches;
        known = record { references = note (today s) (f input) a.known.references; bins = a.known.bins };
      }

  abbrev pub answering_it : (List ℕ → Code) → Break → Acted
  answering_it f b =
      let a : Acted = rightly b in
      record {
        answer = a.answer;
        replies = a.replies ++ (settlement (f input) (bin s reading) (Rejected (number_of b.refusal)) ∷ []);
        wakes = a.wakes;
        books = a.books;
        batches = a.batches;
        known = a.known;
      }

  -- any live batch of the BIN ends, a pending or queued one too
  abbrev pub ending_waiting : Break → Acted
  ending_waiting b =
      of_parts (λ q.
      on_found (stream_place s.house (stream_code s reading)) (untouched s q) (λ i.
      cond (eqb sender (administrator s.house i))
      (on_found (batch_of s.batches (bin s reading)) (untouched s q) (λ p.
      rejecting s q p s.batches (place_messages (place_at s.batches p)) (bin s reading) s.known))
      (untouched s q))) b
