use mathlib.Core.Path.{ap, ◌∙◌}
use mathlib.Core.List.{List}
use Prim.Native.Nat.{ℕ}
use native.Mathlib.Omega.{arith}
use lib.ListN.{drop}
use lib.Seq.{take_all}
use Rattle.std.proofs.Common.{rules}
use Rattle.codes.specs.Codes.{spelled}
use Rattle.codes.proofs.Laws.{spelled_length}
use Rattle.text_names.specs.rules.Names.{all_are}
use Rattle.text_names.proofs.rules.Laws.{is_zero, whole_start}
use Rattle.text_names.proofs.rules.is_whole.Goals as goal

pub returns : goal.returns
returns c =
    c.are_all.ensures is_zero (λ x r h e. search rules)
    ∙ ap (λ (l : List ℕ). all_are is_zero (drop c.len.result l)) (take_all 16 (spelled c.args.c) (omega (arith, spelled_length c.args.c)))
    ∙ whole_start c.args.c (omega arith) (omega arith) c.len.ensures.value
