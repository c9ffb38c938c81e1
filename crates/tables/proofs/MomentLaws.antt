-- Laws of the moment and the room of a call.
use Rattle.std.specs.Prelude.{Ok, Err}
use Prim.Native.Nat.{ℕ, ◌+◌, ◌-◌, ◌*◌, ◌/◌, ◌≤◌}
use mathlib.Core.Path.{◌≡◌, sym}
use mathlib.Core.Bool.{Bool, true, false, not, ◌&&◌}
use mathlib.Core.List.{List}
use native.Mathlib.Omega.{arith}
use borrow.Author.Tests.{not-true, not-false}
use lib.ListN.{length, length-append}
use Rattle.chars.specs.declared.Refusal.TheVariants.{WrongMoment, ShortBuffer}
use Rattle.book_read.specs.Accounts.{Bank}
use Rattle.book_read.proofs.Filling.{each_length}
use Rattle.book_write.specs.Closing.{book_bytes, blocks_for, bank_of, stream_of}
use Rattle.thm_books_back.proofs.Whole.{stream_long, banks_long}
use Rattle.model.specs.declared.Action.{Action}
use Rattle.model.specs.declared.Action.TheVariants.{ClosingBook}
use Rattle.model.specs.Days.{banks_of, closing_text}
use Rattle.model.specs.Calls.{right_clock, right_day, judge}
use Rattle.tables.specs.declared.Desk.{Desk}
use Rattle.tables.specs.Rows.{Tables, state_in, streams_on}
use Rattle.tables.specs.Moment.{day_on, Needs, Roomy, Judged}

-- ---- the room

-- a closing book is as long as its blocks
pub closing_length : (d : Desk) (t : Tables) (date : ℕ) → d.n ≤ 8 → length (closing_text (state_in d t) date) ≡ 512 * blocks_for d.banks
unfolding closing_text state_in book_bytes blocks_for
closing_length d t date few =
    let bs : List Bank = banks_of (state_in d t).house (state_in d t).books in
    let m : length bs ≡ d.banks = each_length (bank_of t.codes t.flags t.balances t.sublimits) 0 d.banks in
    let k : length (streams_on d) ≡ d.n = each_length (stream_of d.streams) 0 d.n in
    rw (length-append, stream_long _ (streams_on d) (blocks_for (length bs)) (omega (arith, k, few)), banks_long (blocks_for (length bs)) (blocks_for (length bs) - 1) 1 bs, m)
    (omega arith)

pub closing_room : (d : Desk) (a : Action) (date : ℕ) → d.n ≤ 8 → a ≡ ClosingBook date → Needs d a (512 * ((d.banks + 19) / 20 + 1))
unfolding blocks_for
closing_room d a date few e = record { is = λ t. rw e (sym (closing_length d t date few)) }

-- ---- 05, then 07

module _ (d : Desk) (clock : ℕ) (a : Action) (room rows : ℕ) {m : Bool} (em : m ≡ (right_clock a (day_on d) clock && right_day a (day_on d))) where
  pub judged_wrong : not m ≡ true → Judged d clock a room rows (Err WrongMoment)
  unfolding judge state_in
  judged_wrong f = record { is = λ t quick input. rw (sym em, not-true m f) }

  module _ (f : not m ≡ false) {q : Bool} (n : Roomy d a room rows q) where
    pub judged_short : not q ≡ true → Judged d clock a room rows (Err ShortBuffer)
    unfolding judge state_in
    judged_short g = record { is = λ t quick input. rw (sym em, not-false m f, sym (n.is t), not-true q g) }

    pub judged_done : not q ≡ false → Judged d clock a room rows (Ok tt)
    unfolding judge state_in
    judged_done g = record { is = λ t quick input. rw (sym em, not-false m f, sym (n.is t), not-false q g) }
