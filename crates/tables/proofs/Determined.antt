-- Any two outcomes that a call's promise allows are equal.
use mathlib.Core.Path.{◌≡◌, sym, ap, ◌∙◌}
use mathlib.Core.Bool.{Bool}
use Rattle.tables.specs.declared.Desk.{Desk}
use Rattle.tables.specs.Rows.{Tables}
use Rattle.tables.specs.Lent.{Right, Lent, Asked, Left, Called, call_lent, Long, Wiped, Cleared, clear_lent}
use Rattle.tables.proofs.TestLaws.{says_once}

pub determined : (x : Lent) (a : Asked) (y z : Left) → Called x a y → Called x a z → y ≡ z
determined x a y z c d =
    c.is ∙ ap (λ (k : Bool). call_lent k x a) (says_once (Right x.desk x.tables) c.kept d.kept c.says d.says) ∙ sym d.is

pub cleared_determined : (d : Desk) (t : Tables) (y z : Wiped) → Cleared d t y → Cleared d t z → y ≡ z
cleared_determined d t y z c e =
    c.is ∙ ap (λ (k : Bool). clear_lent k d t) (says_once (Long t) c.long e.long c.says e.says) ∙ sym e.is
