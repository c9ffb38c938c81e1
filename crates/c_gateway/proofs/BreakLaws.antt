-- The break of a text in full, as a report and as a row.
use Prim.Native.Nat.{ℕ}
use mathlib.Core.Path.{◌≡◌}
use mathlib.Core.Bool.{cond}
use mathlib.Core.List.{List}
use Rattle.chars.specs.Refusals.{number_of}
use Rattle.text_fields.specs.declared.Break.{Break}
use Rattle.request_read.specs.whole.Request.{request_at}
use Rattle.request_read.specs.declared.whole.Outcome.TheVariants.{Settlement, Recall, Refused}
use Rattle.request_read.specs.declared.whole.Reading.{Reading}
use Rattle.response_read.specs.Reply.{response_at}
use Rattle.response_read.specs.declared.Reply.TheVariants.{Settlement as Settled, Recall as Recalled, Refused as Unread}
use Rattle.response_read.specs.declared.ReadResponse.{ReadResponse}
use Rattle.response_write.specs.declared.Settlement.{Settlement as Response132}
use Rattle.response_write.specs.declared.Recall.{Recall as Response134}
use Rattle.text_explain.specs.Faults.{told_at}
use Rattle.text_explain.specs.declared.Tags.{Tags}
use Rattle.text_explain.specs.declared.Stage.TheVariants.{At20, On20}
use Rattle.text_explain.specs.declared.Fault.{Fault}
use Rattle.text_explain.specs.declared.Told.{Told}
use Rattle.c_gateway.specs.Breaks.{first_of, second_of, first_tag, second_tag, no_report, report_of, request_report, response_report}
use Rattle.c_gateway.specs.declared.Report.{Report}

pub by_first : {x y : Tags} {r : ℕ} → x ≡ y → r ≡ first_of y → r ≡ first_of x
by_first p q = rw p q

pub by_second : {x y : Tags} {r : ℕ} → x ≡ y → r ≡ second_of y → r ≡ second_of x
by_second p q = rw p q

pub by_fault : {x y : Fault} {r : ℕ} → x ≡ y → r ≡ first_tag y → r ≡ first_tag x
by_fault p q = rw p q

pub report_1 : (b : Break) (t : Told) {n m f g : ℕ} → n ≡ number_of b.refusal → m ≡ cond b.missing 1 0 → f ≡ first_tag t.fault → g ≡ second_tag t.fault → record { number = n; at = b.at; line = t.line; missing = m; first = f; second = g; value = t.value } ≡ report_of b t
report_1 b t h i j k = rw (h, i, j, k)

module _ (s : List ℕ) where
  pub settlement_report : {r : Reading} {x : Report} → r ≡ request_at s → r.outcome ≡ Settlement → x ≡ no_report → x ≡ request_report s
  unfolding request_report
  settlement_report h i j = rw (← h, i) j

  pub recall_report : {r : Reading} {x : Report} → r ≡ request_at s → r.outcome ≡ Recall → x ≡ no_report → x ≡ request_report s
  unfolding request_report
  recall_report h i j = rw (← h, i) j

  pub refused_report : {r : Reading} {b : Break} {t : Told} {x : Report} → r ≡ request_at s → r.outcome ≡ Refused b → t ≡ told_at s At20 b → x ≡ report_of b t → x ≡ request_report s
  unfolding request_report
  refused_report h i j k = rw (← h, i, ← j) k

  pub settled_report : {r : ReadResponse} {y : Response132} {x : Report} → r ≡ response_at s → r.reply ≡ Settled y → x ≡ no_report → x ≡ response_report s
  unfolding response_report
  settled_report h i j = rw (← h, i) j

  pub recalled_report : {r : ReadResponse} {y : Response134} {x : Report} → r ≡ response_at s → r.reply ≡ Recalled y → x ≡ no_report → x ≡ response_report s
  unfolding response_report
  recalled_report h i j = rw (← h, i) j

  pub unread_report : {r : ReadResponse} {b : Break} {t : Told} {x : Report} → r ≡ response_at s → r.reply ≡ Unread b → t ≡ told_at s On20 b → x ≡ report_of b t → x ≡ response_report s
  unfolding response_report
  unread_report h i j k = rw (← h, i, ← j) k
