-- "by arrival of its first message": the words of this promise.
use Rattle.std.specs.Prelude.{◌≡◌, true, false, List, [], ◌∷◌, ◌++◌, Ok}
use Rattle.chars.specs.Refusals.{number_of}
use Rattle.chars.specs.declared.Refusal.TheVariants.{Unsettled}
use Rattle.codes.specs.declared.Code.{Code}
use Rattle.request_read.specs.whole.Request.{request_at}
use Rattle.request_read.specs.declared.whole.Outcome.TheVariants.{Settlement}
use Rattle.request_read.specs.declared.whole.Reading.{Reading}
use Rattle.response_write.specs.declared.Outcome.TheVariants.{Rejected}
use Rattle.book_read.specs.Range.{Each}
use Rattle.model.specs.declared.Action.TheVariants.{Opening, Close}
use Rattle.model.specs.Kinds.{is_opening}
use Rattle.model.specs.State.{Batches, State, on_found, place_at, place_messages, batch_of}
use Rattle.model.specs.Replies.{Reply, replies_to, texts_from}
use Rattle.model.specs.Calls.{Call, Engine, Result, judge, begun, replies, left}
use Rattle.model.specs.Rules.{has, live_bins}
use Rattle.model.specs.Answered.{acted, outcome, noted_on}

-- the BINs noted on the last opened day, in the order of their places
abbrev pub bins_today : State → List Code
bins_today s = noted_on s.day.date s.known.bins

-- the BIN in a request
abbrev pub bin_in : Reading → Code
bin_in r = r.head.address.bin.code

-- the BINs that a request adds to today's: none, or its own if it is a settlement request, "A new BIN is noted"
pub data Added (r : Reading) (before : List Code) : List Code → Type 0 where
  none : Added r before []
  first : r.outcome ≡ Settlement → has (bin_in r) before ≡ false → Added r before (bin_in r ∷ [])

-- from state s to state t by a request
pub record Arrives (s : State) (r : Reading) (t : State) : Type 0 where
  pub added : List Code
  pub request : Added r (bins_today s) added
  -- a new BIN stands behind all of the day that came before it
  pub behind : bins_today t ≡ bins_today s ++ added
  -- a batch becomes live with the message that adds its BIN
  pub live : Each (λ bin. has bin (added ++ live_bins s.batches.places) ≡ true) (live_bins t.batches.places)

-- the 86 texts of some BINs' batches, in the order of the BINs
unfoldable pub unsettled_replies : Batches → List Code → List Reply
unsettled_replies b [] = []
unsettled_replies b (bin ∷ bins) =
    on_found (batch_of b bin) [] (λ p. replies_to (place_messages (place_at b p)) bin (Rejected (number_of Unsettled))) ++ unsettled_replies b bins

-- "ends each live batch with 86 by arrival of its first message"
pub record ByArrival (e : Engine) (c : Call) (r : Result) : Type 0 where
  -- a day begins with no BIN; every other call leaves today's BINs in their order, and adds at most one behind them
  pub opens : c.asked.action ≡ Opening → r.answer ≡ Ok tt → bins_today r.engine.state ≡ []
  pub arrives : is_opening c.asked.action ≡ false → Arrives e.state (request_at c.asked.input) r.engine.state
  -- the BIN of each live batch is one of today's
  pub today : Each (λ bin. has bin (bins_today r.engine.state) ≡ true) (live_bins r.engine.state.batches.places)
  -- a close writes the texts of its test, then the 86 texts of the batches that the test left, in the order in which their BINs came
  pub close : judge e.state c ≡ Ok tt → c.asked.action ≡ Close
      → r.out ≡ texts_from e.state.day.texts
      (replies (begun e.state c.asked.clock) (acted e c) (outcome e c)
      ++ unsettled_replies (left (begun e.state c.asked.clock) (acted e c) (outcome e c)) (bins_today r.engine.state))
