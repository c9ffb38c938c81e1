use mathlib.Core.Path.{ap, ◌∙◌}
use mathlib.Core.List.{List}
use Prim.Native.Nat.{ℕ}
use native.Mathlib.Omega.{arith}
use lib.ListN.{drop}
use lib.Seq.{take_all}
use Rattle.std.proofs.Common.{rules}
use Rattle.chars.specs.Chars.{is_digit}
use Rattle.codes.specs.Codes.{long_text}
use Rattle.text_names.specs.rules.Names.{all_are}
use Rattle.text_names.proofs.rules.Laws.{text_take}
use Rattle.text_names.proofs.rules.are_digits.Goals as goal

pub returns : goal.returns
returns c =
    c.are_all.ensures is_digit (λ x r h e. search rules)
    ∙ ap (λ (l : List ℕ). all_are is_digit (drop 4 l)) (text_take c.args.c 8 (omega arith) ∙ take_all 8 (long_text c.args.c) (omega arith))
