-- Demand 2, the texts: each text that a call writes reads back as the response that is meant.
use Rattle.std.specs.Prelude.{Ok, Err}
use Prim.Native.Nat.{ℕ, ◌+◌, ◌≤◌, ◌<◌}
use mathlib.Core.Path.{◌≡◌, refl}
use mathlib.Core.Bool.{Bool, true, false, ◌&&◌, not, cond}
use mathlib.Core.List.{List, [], ◌∷◌, ◌++◌}
use native.Mathlib.Omega.{arith}
use lib.Dec.{eqb}
use lib.ListN.{length, length-append}
use borrow.Author.Tests.{eq-eqb, lt-ltb}
use Rattle.response_write.specs.Values.{is_settlement, is_recall}
use Rattle.response_read.specs.Reply.{response_at}
use Rattle.response_read.proofs.RoundTrip.{settlement_reads, recall_reads}
use Rattle.queue.specs.Tests.{Outcome}
use Rattle.queue.proofs.MemoryLaws.{by_bool}
use Rattle.book_read.specs.Range.{Each}
use Rattle.model.specs.Answers.{Answer}
use Rattle.model.specs.Kinds.{Kind, opens, steps, gives, kind_of, is_close}
use Rattle.codes.specs.Codes.{no_code}
use Rattle.model.specs.State.{same_code, Entry, State}
use Rattle.model.specs.Replies.{Reply, settlement, recall, bin_stream, text_of}
use Rattle.model.specs.Messages.{Acted, today}
use Rattle.model.specs.Calls.{Call, Engine, judge, begun, replies, last_replies, day_for}
use Rattle.model.specs.Rules.{noted_today, Opened, Valid}
use Rattle.model.specs.Answered.{acted, outcome, stepped_replies, replies_by, replies_of}
use Rattle.model.specs.Promises.{ReadBack, response_of}
use Rattle.model.proofs.Agreement.{right_day_lem}
use Rattle.model.proofs.Keeping.{Readers}
use Rattle.model.proofs.Validity.{right_clock_lem, open_in, acted_known, left_answered, room_today, close_answered}
use Rattle.model.proofs.Fitting.{Fits}
use Rattle.model.proofs.Output.{stepped_right}

-- ---- one text

text_reads : (n : ℕ) (y : Reply) → n < 10000000 → Fits y → (response_at (text_of n y)).reply ≡ response_of n y
unfolding text_of is_settlement is_recall
text_reads n (settlement r b o) l h =
    settlement_reads (record { number = n; reference = r; stream = bin_stream b; bin = b; outcome = o })
    (rw (lt-ltb n 10000000 l, h.0, h.1, eq-eqb (bin_stream b) (bin_stream b) refl) h.2)
text_reads n (recall r a) l h = recall_reads (record { number = n; reference = r; answer = a }) (rw (lt-ltb n 10000000 l, h.0) h.1)

texts_read : (n : ℕ) (ys : List Reply) → n + length ys < 10000000 → Each (λ y. Fits y) ys → ReadBack n ys
unfolding ReadBack
texts_read n [] l h = tt
texts_read n (y ∷ ys) l h = (text_reads (n + 1) y (omega arith) h.0, texts_read (n + 1) ys (omega arith) h.1)

-- ---- one call

noted_most : (today : ℕ) (es : List Entry) → noted_today today es ≤ length es
noted_most today [] = omega arith
noted_most today (e ∷ es) =
    by_bool (not (same_code e.code no_code) && eqb e.day today)
    (λ t. rw t (omega (arith, noted_most today es)))
    (λ t. rw t (omega (arith, noted_most today es)))

module _ (readers : Readers) (e : Engine) (c : Call) (v : Valid e.state) where
  abbrev s : State
  s = begun e.state c.asked.clock

  abbrev a : Acted
  a = acted e c

  abbrev o : Outcome
  o = outcome e c

  module _ (h : Opened e.state) (t : c.asked.clock < 86400) where
    -- no more texts in a day than references
    pub few_texts : (u : Bool) → e.state.day.texts + length (cond u (replies s a o ++ last_replies s a o) (replies s a o)) ≤ 2048
    few_texts true =
        omega (
          arith,
          room_today readers e c v h,
          left_answered readers e c v h,
          close_answered readers e c v h,
          length-append (replies s a o) (last_replies s a o),
          noted_most (today s) a.known.references,
          (acted_known readers e c v h).references_long,
        )
    few_texts false =
        omega (
          arith,
          room_today readers e c v h,
          left_answered readers e c v h,
          noted_most (today s) a.known.references,
          (acted_known readers e c v h).references_long,
        )

    stepped_read : ReadBack e.state.day.texts (stepped_replies e c)
    stepped_read =
        texts_read e.state.day.texts (stepped_replies e c) (omega (arith, few_texts (is_close c.asked.action))) (stepped_right readers e c v h t (is_close c.asked.action))

  performed_read : (z : Kind) → c.asked.clock < 86400 → day_for z e.state.day ≡ true → ReadBack e.state.day.texts (replies_by (Ok tt) z e c)
  unfolding ReadBack
  performed_read opens t i = tt
  performed_read steps t i = stepped_read (open_in e.state e.state.day.phase v i) t
  performed_read (gives d) t i = tt

  judged_read : (r : Answer) → judge e.state c ≡ r → ReadBack e.state.day.texts (replies_by r (kind_of c.asked.action) e c)
  unfolding ReadBack
  judged_read (Ok tt) i = performed_read (kind_of c.asked.action) (right_clock_lem e.state c i) (right_day_lem e.state c i)
  judged_read (Err r) i = tt

  pub call_read : ReadBack e.state.day.texts (replies_of e c)
  unfolding replies_of
  call_read = judged_read (judge e.state c) refl

-- ---- any calls
