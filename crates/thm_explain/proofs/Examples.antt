-- Breaks worked out: what is told of them.
use mathlib.Core.Path.{◌≡◌, refl}
use Rattle.chars.specs.Words.{bytes}
use Rattle.chars.specs.declared.Refusal.TheVariants.{Malformed, OtherSubType, WrongEsa}
use Rattle.text_scan.specs.Scan.{begins, lit_at, line_end, line_end_at}
use Rattle.text_fields.specs.Fields.{absent, broken}
use Rattle.text_explain.specs.Walk.{stands_at, onward_at, step_at, walk, place_at}
use Rattle.text_explain.specs.Faults.{told, fault_at, told_at}
use Rattle.text_explain.specs.declared.Tag.TheVariants.{T175, T127, T113, T13E}
use Rattle.text_explain.specs.declared.Tags.TheVariants.{Two, Ending}
use Rattle.text_explain.specs.declared.Stage.TheVariants.{At20, On20}
use Rattle.text_explain.specs.declared.Fault.TheVariants.{Missing, Wrong, Unknown, AfterCredit}

-- 203 where a payment or 175 is expected
no_payment_lem : told_at (bytes ":20:A\r\n:12:131\r\n:77E:\r\n:22A:PROP\r\n:119:PROP0001\r\n:16A:01/02\r\n:171:270203\r\n:203:2\r\n") At20 (absent 74) ≡ told 8 (Missing (Two T175 T127)) 0
unfolding begins lit_at line_end line_end_at stands_at onward_at step_at walk place_at fault_at told_at
no_payment_lem = refl

-- a sub type that is not known
sub_type : told_at (bytes ":20:A\r\n:12:999\r\n") At20 (broken 7 OtherSubType) ≡ told 2 Unknown 11
unfolding begins lit_at line_end line_end_at stands_at onward_at step_at walk place_at fault_at told_at
sub_type = refl

-- a wrong ESA letter, and a 113 after CR
letter : told_at (bytes ":20:A\r\n:12:131\r\n:77E:\r\n:22A:PROP\r\n:119:PROP0001\r\n:16A:01/02\r\n:171:270203\r\n:127:DR\r\n:32B:AUD1,\r\n:113:X P \r\n") At20 (broken 95 WrongEsa) ≡ told 10 (Wrong T113) 100
unfolding begins lit_at line_end line_end_at stands_at onward_at step_at walk place_at fault_at told_at
letter = refl

after_credit : told_at (bytes ":20:A\r\n:12:131\r\n:77E:\r\n:22A:PROP\r\n:119:PROP0001\r\n:16A:01/02\r\n:171:270203\r\n:127:CR\r\n:32B:AUD1,\r\n:113:A P \r\n") At20 (broken 95 Malformed) ≡ told 10 AfterCredit 100
unfolding begins lit_at line_end line_end_at stands_at onward_at step_at walk place_at fault_at told_at
after_credit = refl

-- a line behind a recall, which ends after 119
past_the_end : told_at (bytes ":20:A\r\n:12:133\r\n:77E:\r\n:22A:PROP\r\n:119:PROP0001\r\n:203:2\r\n") At20 (absent 49) ≡ told 6 (Missing Ending) 0
unfolding begins lit_at line_end line_end_at stands_at onward_at step_at walk place_at fault_at told_at
past_the_end = refl

-- a response whose moment is none
moment : told_at (bytes ":20:B0000001\r\n:12:132\r\n:77E:\r\n:21:A\r\n:22A:PROP\r\n:119:PROP0001\r\n:451:0\r\n:13E:270203240000\r\n") On20 (broken 71 Malformed) ≡ told 8 (Wrong T13E) 76
unfolding begins lit_at line_end line_end_at stands_at onward_at step_at walk place_at fault_at told_at
moment = refl
