use mathlib.Core.Path.{ap, ◌∙◌}
use native.Mathlib.Omega.{arith}
use Rattle.std.proofs.Common.{rules}
use Rattle.chars.specs.Chars.{is_code}
use Rattle.text_names.specs.rules.Names.{all_are}
use Rattle.text_names.proofs.rules.Laws.{long_most, text_take}
use Rattle.text_names.proofs.rules.are_codes.Goals as goal

pub are_all-requires-clause-within : goal.are_all-requires-clause-within
are_all-requires-clause-within c = omega (arith, long_most c.args.c)

pub returns : goal.returns
returns c = c.are_all.ensures is_code (λ x r h e. search rules) ∙ ap (all_are is_code) (text_take c.args.c c.args.n c.requires)
