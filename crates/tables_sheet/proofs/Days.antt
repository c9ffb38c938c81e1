-- Ticket 2: what waits against each bank, on days worked out from the ticket's words. AAAA has 100.00, BBBB nothing, CCCC 5.00 and a sub-limit of 5.00.
use Prim.Native.Nat.{ℕ}
use mathlib.Core.Path.{◌≡◌, refl}
use mathlib.Core.List.{List, [], ◌∷◌, ◌++◌}
use lib.ListN.{take}
use Rattle.queue.specs.Promise.{taken}
use Rattle.model.specs.declared.Action.TheVariants.{Opening, Status, Tick, Close}
use Rattle.model.specs.Calls.{Call, cleared}
use Rattle.model.proofs.Stories.{asked, says, bank, book, request, recall_of, begins_at, alone, pays, dr, cr, code, long_code, leaves}
use Rattle.tables.specs.Words.{waiting_by, sheet_words}

-- the totals of the first three banks after some calls
abbrev after : List Call → List ℕ
after cs = take 3 (sheet_words (leaves cleared cs).state.batches)

abbrev opens : Call
opens = asked 9 0 0 Opening (book 9895 (bank "AAAA" 10000 0 ∷ bank "BBBB" 0 0 ∷ bank "CCCC" 500 500 ∷ []))

-- BBBB is to pay AAAA 7.00, at once; CCCC is to pay BBBB 2.00 at 11:30; the first half of a batch in which CCCC pays
abbrev queued : Call
queued = says 10 0 0 (request "Q1" "PROP0001" "01/01" (pays "BBBB" "AAAA" "7," "AAA "))

abbrev pending : Call
pending = says 10 0 1 (request "P1" "PROP0002" "01/01" (begins_at "1130" (pays "CCCC" "BBBB" "2," "DDD ")))

abbrev assembling : Call
assembling = says 10 0 2 (request "A1" "PROP0003" "01/02" (alone (dr "CCCC" "9," "AAA ")))

abbrev waiting : List Call
waiting = opens ∷ queued ∷ pending ∷ assembling ∷ []

pub record Totals : Type 0 where
  pub begins : after (opens ∷ []) ≡ 0 ∷ 0 ∷ 0 ∷ []
  -- "in pending and queued batches": a debit with a D waits like any other, one of a batch that is being assembled does not
  pub waits : after waiting ≡ 0 ∷ 700 ∷ 200 ∷ []
  -- joining the queue changes nothing
  pub joins : after (waiting ++ (asked 11 30 0 Tick [] ∷ [])) ≡ 0 ∷ 700 ∷ 200 ∷ []
  -- the second half completes the batch: CCCC pays 9.00 more, to AAAA
  pub completes : after (waiting ++ (says 10 0 3 (request "A2" "PROP0003" "02/02" (alone (cr "AAAA" "9,"))) ∷ [])) ≡ 0 ∷ 700 ∷ 1100 ∷ []
  -- a recall and the close lower them; so does a settlement, which a letter P of CCCC lets be
  pub recalled : after (waiting ++ (says 10 0 3 (recall_of "R1" "PROP0001") ∷ [])) ≡ 0 ∷ 0 ∷ 200 ∷ []
  pub settles : after (waiting ++ (asked 11 30 0 (Status (code "CCCC") (long_code "PROP0002") 80) [] ∷ [])) ≡ 0 ∷ 700 ∷ 0 ∷ []
  pub closes : after (waiting ++ (asked 17 0 0 Close [] ∷ [])) ≡ 0 ∷ 0 ∷ 0 ∷ []

pub totals : Totals
unfolding leaves sheet_words waiting_by taken
totals = record { begins = refl; waits = refl; joins = refl; completes = refl; recalled = refl; settles = refl; closes = refl }
