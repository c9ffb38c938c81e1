-- Two outcomes of a settlement on one row are equal.
use Rattle.model.specs.Answers.{Answer}
use mathlib.Core.Path.{◌≡◌, refl, sym, ◌∙◌}
use Prim.Native.Nat.{ℕ}
use mathlib.Core.List.{List}
use Rattle.call_records.specs.declared.Account.{Account}
use Rattle.call_records.specs.Records.{codes_of, flags_of, balances_of, sublimits_of, waiting_of, row_of}
use Rattle.call_records.proofs.Determined.{row_back}
use Rattle.settle_records.specs.Payments.{Stored, Settles, settles, refuses}

pub stored_once : (row x y : List Account) (bs : List ℕ) → Stored row x bs → Stored row y bs → x ≡ y
stored_once row x y bs p q =
    let same : row_of (codes_of x) (flags_of x) (balances_of x) (sublimits_of x) (waiting_of x)
    ≡ row_of (codes_of y) (flags_of y) (balances_of y) (sublimits_of y) (waiting_of y) =
    rw (
      p.codes_kept,
      p.flags_kept,
      p.balances_are,
      p.sublimits_kept,
      p.waiting_kept,
      q.codes_kept,
      q.flags_kept,
      q.balances_are,
      q.sublimits_kept,
      q.waiting_kept,
    )
    in
    sym (row_back x) ∙ same ∙ row_back y

pub settles_once : {row : List Account} {ws : List ℕ} {place : ℕ} {a b : Answer} {x y : List Account} → Settles row ws place a x → Settles row ws place b y
    → (a ≡ b) × (x ≡ y)
settles_once (settles r s) (settles r' s') = (refl, stored_once _ _ _ _ s s')
settles_once (settles r s) (refuses n) = absurd (n r)
settles_once (refuses n) (settles r s) = absurd (n r)
settles_once (refuses n) (refuses n') = (refl, refl)
