use Rattle.call_message.proofs.outcome.BeginLaws.{minute_small, minute_word}
use native.Mathlib.Omega.{arith}
use borrow.Author.Rules.{rules}
use Rattle.call_message.proofs.outcome.taking.activation_word.Goals as goal

-- src/taking.rt:109:34
pub overflow_add-result : goal.overflow_add-result
overflow_add-result c = omega (arith, minute_small _ _ c.in-Minute.is c.requires)

-- src/taking.rt:103:1
pub returns-in-Minute : goal.returns-in-Minute
returns-in-Minute c = search (rules, minute_word)
