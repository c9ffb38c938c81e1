-- How far the payments reach, and that two texts which begin alike have the same ones.
use Rattle.text_fields.specs.declared.Break.{Break}
use Rattle.std.specs.Prelude.{Option, Some, None, Result, Ok, Err}
use Prim.Native.Nat.{ℕ, zero, suc, ◌+◌, ◌*◌, ◌≤◌}
use mathlib.Core.Path.{◌≡◌, refl, ap}
use mathlib.Core.List.{List}
use mathlib.Core.Bool.{Bool, true, false, cond}
use mathlib.Core.Logic.{inl, inr}
use native.Mathlib.Omega.{arith}
use lib.Dec.{eqb}
use lib.ListN.{set}
use Rattle.chars.specs.Words.{bytes}
use Rattle.text_scan.specs.Scan.{on_next, lit_at}
use Rattle.text_scan.specs.declared.Cursor.{Cursor}
use Rattle.text_scan.proofs.Alike.{Alike, by_next}
use Rattle.text_values.specs.Values.{stands}
use Rattle.text_fields.specs.Fields.{wrong, nothing, place, field_at}
use Rattle.text_fields.specs.declared.Item.{Item}
use Rattle.text_fields.specs.declared.Kind.TheVariants.{Word, Side, Amount, Letters}
use Rattle.text_fields.proofs.Alike.{Reaches, here, Or, field_in, field_alike, in_then, alike_then, look_alike}
use Rattle.request_read.specs.payments.Payments.{payment, bank_at, credit_at, debit_at, payment_at, more_at, on_paid, ended, payments_on, payments_at, none}
use Rattle.request_read.specs.declared.payments.Payment.{Payment}
use Rattle.request_read.specs.declared.payments.Payments.{Payments}

-- where a payment stops
abbrev paid_stop : Result (Payment × Cursor) Break → ℕ
paid_stop (Ok (p, c)) = c.at
paid_stop (Err b) = b.at

module _ (s : List ℕ) (side amount : Item) where
  bank_in : (at : ℕ) (letters : Item) → Reaches at 28 (paid_stop (bank_at s at side amount letters))
  unfolding bank_at
  bank_in at letters = in_then paid_stop at 0 (field_at s at (bytes ":102:") (Word 4)) Err (λ bank c. Ok (payment side amount letters bank, c))
      (field_in s at (bytes ":102:") (Word 4) (omega arith) (omega arith)) (λ b. refl) (λ i c q. here c.at)

  credit_in : (at : ℕ) → Reaches at 28 (paid_stop (credit_at s at side amount))
  unfolding credit_at
  credit_in at = by_next (λ (x : Result (Payment × Cursor) Break). Reaches at 28 (paid_stop x)) (lit_at s at (bytes ":113:")) (bank_in at nothing) (λ e q. (omega arith, omega arith))

  debit_in : (at : ℕ) → Reaches at 56 (paid_stop (debit_at s at side amount))
  unfolding debit_at
  debit_in at = in_then paid_stop at 28 (field_at s at (bytes ":113:") Letters) Err (λ letters c. bank_at s c.at side amount letters)
      (field_in s at (bytes ":113:") Letters (omega arith) tt) (λ b. refl) (λ i c q. bank_in c.at i)

  sided_in : (at : ℕ) (b : Bool) → Reaches at 56 (paid_stop (cond b (credit_at s at side amount) (debit_at s at side amount)))
  sided_in at true = let i = credit_in at in (i.0, omega (arith, i.1))
  sided_in at false = debit_in at

payment_in : (s : List ℕ) (at : ℕ) → Reaches at 112 (paid_stop (payment_at s at))
unfolding payment_at
payment_in s at = in_then paid_stop at 84 (field_at s at (bytes ":127:") Side) Err _
    (field_in s at (bytes ":127:") Side (omega arith) tt) (λ b. refl) (λ side c q.
    in_then paid_stop c.at 56 (field_at s c.at (bytes ":32B:") Amount) Err _
    (field_in s c.at (bytes ":32B:") Amount (omega arith) tt) (λ b. refl) (λ amount d r.
    sided_in s side amount d.at (eqb side.number 0)))

module _ {n : ℕ} {s t : List ℕ} (a : Alike n s t) where
  module _ (side amount : Item) where
    bank_alike : (at : ℕ) (letters : Item) → Or n (bank_at s at side amount letters) (bank_at t at side amount letters) (paid_stop (bank_at s at side amount letters))
    unfolding bank_at
    bank_alike at letters = alike_then paid_stop n (field_at s at (bytes ":102:") (Word 4)) (field_at t at (bytes ":102:") (Word 4)) Err _ _
        (field_alike a at (bytes ":102:") (Word 4) (omega arith) (omega arith)) (λ b. refl) (λ i c q. (omega arith, inl refl))

    credit_alike : (at : ℕ) → Or n (credit_at s at side amount) (credit_at t at side amount) (paid_stop (credit_at s at side amount))
    unfolding credit_at
    credit_alike at = go (look_alike a at (bytes ":113:") (paid_stop (credit_at s at side amount)) (omega arith) (credit_in s side amount at).0)
      where
        pick : (r : Option ℕ) → Or n (on_next r (bank_at s at side amount nothing) (λ e. Err (wrong at))) (on_next r (bank_at t at side amount nothing) (λ e. Err (wrong at))) (paid_stop (on_next r (bank_at s at side amount nothing) (λ e. Err (wrong at))))
        pick (Some e) = inl refl
        pick None = bank_alike at nothing

        go : Or n (lit_at s at (bytes ":113:")) (lit_at t at (bytes ":113:")) (paid_stop (credit_at s at side amount)) → Or n (credit_at s at side amount) (credit_at t at side amount) (paid_stop (credit_at s at side amount))
        go (inl q) = rw (← q) (pick (lit_at s at (bytes ":113:")))
        go (inr q) = inr q

    debit_alike : (at : ℕ) → Or n (debit_at s at side amount) (debit_at t at side amount) (paid_stop (debit_at s at side amount))
    unfolding debit_at
    debit_alike at = alike_then paid_stop n (field_at s at (bytes ":113:") Letters) (field_at t at (bytes ":113:") Letters) Err _ _
        (field_alike a at (bytes ":113:") Letters (omega arith) tt) (λ b. refl) (λ i c q. ((bank_in s side amount c.at i).0, bank_alike c.at i))

    sided_alike : (at : ℕ) (b : Bool) → Or n (cond b (credit_at s at side amount) (debit_at s at side amount)) (cond b (credit_at t at side amount) (debit_at t at side amount)) (paid_stop (cond b (credit_at s at side amount) (debit_at s at side amount)))
    sided_alike at true = credit_alike at
    sided_alike at false = debit_alike at

  payment_alike : (at : ℕ) → Or n (payment_at s at) (payment_at t at) (paid_stop (payment_at s at))
  unfolding payment_at
  payment_alike at = alike_then paid_stop n (field_at s at (bytes ":127:") Side) (field_at t at (bytes ":127:") Side) Err _ _
      (field_alike a at (bytes ":127:") Side (omega arith) tt) (λ b. refl) (λ side c q. (
        (in_then paid_stop c.at 56 (field_at s c.at (bytes ":32B:") Amount) Err _ (field_in s c.at (bytes ":32B:") Amount (omega arith) tt) (λ b. refl) (λ amount d r. sided_in s side amount d.at (eqb side.number 0))).0,
        alike_then paid_stop n (field_at s c.at (bytes ":32B:") Amount) (field_at t c.at (bytes ":32B:") Amount) Err _ _
            (field_alike a c.at (bytes ":32B:") Amount (omega arith) tt) (λ b. refl) (λ amount d r.
            ((sided_in s side amount d.at (eqb side.number 0)).0, sided_alike side amount d.at (eqb side.number 0))),
      ))

-- where the payments stop
abbrev pub end_stop : Result Cursor Break → ℕ
end_stop (Ok c) = c.at
end_stop (Err b) = b.at

abbrev pub list_stop : Payments → ℕ
list_stop p = end_stop p.ending

-- what follows a payment
abbrev onward : ℕ → List ℕ → ℕ → List Payment → Payment → Cursor → Payments
onward room s k items p c =
    cond (more_at s c.at)
    (payments_on room s c.at (k + 1) (set items k p))
    (ended (Ok (place c.at)) (k + 1) (set items k p))

on_in : (room : ℕ) (s : List ℕ) (at k : ℕ) (items : List Payment) → Reaches at (112 * room) (list_stop (payments_on room s at k items))
unfolding payments_on
on_in zero s at k items = (omega arith, omega arith)
on_in (suc room) s at k items = paid (payment_at s at) (payment_in s at) (λ c p. on_in room s c.at (k + 1) (set items k p))
  where
    more : (b : Bool) (c : Cursor) (p : Payment) → Reaches c.at (112 * room) (list_stop (payments_on room s c.at (k + 1) (set items k p))) → Reaches c.at (112 * room) (list_stop (cond b (payments_on room s c.at (k + 1) (set items k p)) (ended (Ok (place c.at)) (k + 1) (set items k p))))
    more true c p i = i
    more false c p i = (omega arith, omega arith)

    paid : (x : Result (Payment × Cursor) Break) → Reaches at 112 (paid_stop x) → ((c : Cursor) (p : Payment) → Reaches c.at (112 * room) (list_stop (payments_on room s c.at (k + 1) (set items k p)))) → Reaches at (112 * suc room) (list_stop (on_paid x (λ b. ended (Err b) k items) (onward room s k items)))
    paid (Ok (p, c)) i f = let j = more (more_at s c.at) c p (f c p) in (omega (arith, i.0, j.0), omega (arith, i.1, j.1))
    paid (Err b) i f = (i.0, omega (arith, i.1))

onward_from : (room : ℕ) (s : List ℕ) (k : ℕ) (items : List Payment) (p : Payment) (c : Cursor) → c.at ≤ list_stop (onward room s k items p c)
onward_from room s k items p c = go (more_at s c.at)
  where
    go : (b : Bool) → c.at ≤ list_stop (cond b (payments_on room s c.at (k + 1) (set items k p)) (ended (Ok (place c.at)) (k + 1) (set items k p)))
    go true = (on_in room s c.at (k + 1) (set items k p)).0
    go false = omega arith

more_same : (s t : List ℕ) (at : ℕ) → lit_at s at (bytes ":127:") ≡ lit_at t at (bytes ":127:") → more_at s at ≡ more_at t at
unfolding more_at
more_same s t at q = ap stands q

module _ {n : ℕ} {s t : List ℕ} (a : Alike n s t) where
  onward_alike : (room k : ℕ) (items : List Payment) (p : Payment) (c : Cursor) → Or n (payments_on room s c.at (k + 1) (set items k p)) (payments_on room t c.at (k + 1) (set items k p)) (list_stop (payments_on room s c.at (k + 1) (set items k p))) → Or n (onward room s k items p c) (onward room t k items p c) (list_stop (onward room s k items p c))
  onward_alike room k items p c i = go (look_alike a c.at (bytes ":127:") (list_stop (onward room s k items p c)) (omega arith) (onward_from room s k items p c))
    where
      pick : (b : Bool) → Or n (cond b (payments_on room s c.at (k + 1) (set items k p)) (ended (Ok (place c.at)) (k + 1) (set items k p))) (cond b (payments_on room t c.at (k + 1) (set items k p)) (ended (Ok (place c.at)) (k + 1) (set items k p))) (list_stop (cond b (payments_on room s c.at (k + 1) (set items k p)) (ended (Ok (place c.at)) (k + 1) (set items k p))))
      pick true = i
      pick false = inl refl

      go : Or n (lit_at s c.at (bytes ":127:")) (lit_at t c.at (bytes ":127:")) (list_stop (onward room s k items p c)) → Or n (onward room s k items p c) (onward room t k items p c) (list_stop (onward room s k items p c))
      go (inl q) = rw (← more_same s t c.at q) (pick (more_at s c.at))
      go (inr q) = inr q

  on_alike : (room at k : ℕ) (items : List Payment) → Or n (payments_on room s at k items) (payments_on room t at k items) (list_stop (payments_on room s at k items))
  unfolding payments_on
  on_alike zero at k items = inl refl
  on_alike (suc room) at k items = go (payment_at s at) (payment_alike a at) (λ p c. onward_alike room k items p c (on_alike room c.at (k + 1) (set items k p)))
    where
      go : (x : Result (Payment × Cursor) Break) → Or n x (payment_at t at) (paid_stop x) → ((p : Payment) (c : Cursor) → Or n (onward room s k items p c) (onward room t k items p c) (list_stop (onward room s k items p c))) → Or n (on_paid x (λ b. ended (Err b) k items) (onward room s k items)) (on_paid (payment_at t at) (λ b. ended (Err b) k items) (onward room t k items)) (list_stop (on_paid x (λ b. ended (Err b) k items) (onward room s k items)))
      go (Ok (p, c)) (inl q) f = rw (← q) (f p c)
      go (Err b) (inl q) f = inl (rw (← q))
      go (Ok (p, c)) (inr q) f = inr (omega (arith, q, onward_from room s k items p c))
      go (Err b) (inr q) f = inr q

  pub payments_alike : (at : ℕ) → Or n (payments_at s at) (payments_at t at) (list_stop (payments_at s at))
  unfolding payments_at
  payments_alike at = on_alike 10 at 0 none

pub payments_in_lem : (s : List ℕ) (at : ℕ) → Reaches at 1120 (list_stop (payments_at s at))
unfolding payments_at
payments_in_lem s at = on_in 10 s at 0 none
