-- Whether a batch can be settled: its payments are tried one after another on a copy of the balances.
use Rattle.std.specs.Prelude.{Ok, Err}
use mathlib.Core.Path.{◌≡◌, refl, ap, ◌∙◌}
use Prim.Native.Nat.{ℕ, zero, suc, ◌+◌, ◌-◌, ◌*◌, ◌^◌, ◌≤◌, ◌<◌}
use native.Mathlib.Omega.{arith}
use native.Mathlib.Numerals.{add-one}
use mathlib.Core.Bool.{Bool, true, false, not}
use mathlib.Core.List.{List, [], ◌∷◌}
use lib.Dec.{leb}
use lib.ListN.{length, get_or, set, take, length-set, length-map}
use mir.Syntax.{w64}
use mir.Val as val
use borrow.Author.Tests.{leb-true, leb-false}
use Rattle.chars.specs.Words.{Says}
use Rattle.chars.specs.declared.Refusal.TheVariants.{BrokenTables}
use Rattle.settle.specs.Payments.{Payment, payment, payment_at, payments_from, row_payments, how_many}
use Rattle.settle.specs.Settlement.{paid, settled}
use Rattle.settle.specs.Rules.{Fits, Payable, AllPayable, Ready}
use Rattle.tables.proofs.TestLaws.{Both, says_no, says_yes, says_map}
use Rattle.call_records.specs.declared.Account.{Account}
use Rattle.call_records.specs.Records.{balances_of}
use Rattle.call_records.proofs.Rows.{none, column, whole_row}
use Rattle.settle_records.specs.Payments.{balance_after, Bears, Stored, Settles, settles, refuses}

says_leb : {P : Type 0} (m n : ℕ) → (m ≤ n → P) → (P → m ≤ n) → Says P (leb m n)
says_leb {P = P} m n f g = go (leb m n) refl
  where
    go : (r : Bool) → leb m n ≡ r → Says P r
    go true e = f (leb-true m n e)
    go false e = λ p. omega (arith, leb-false m n e, g p)

-- ---- one balance

pub bears_credit : (b c l : ℕ) → b < 2 ^ 64 → l ≡ 0 → Says (Bears b c l) (leb c (18446744073709551615 - b))
unfolding Bears
bears_credit b c zero h e = says_leb c (18446744073709551615 - b) (λ k. omega (arith, k, h)) (λ k. omega (arith, k))
bears_credit b c (suc l) h e = absurd (omega (arith, e))

pub bears_debit : (b c l : ℕ) → (l ≡ 0 → ⊥) → Says (Bears b c l) (leb c b)
unfolding Bears
bears_debit b c zero n = absurd (n refl)
bears_debit b c (suc l) n = says_leb c b (λ k. k) (λ k. k)

-- ---- one payment

module _ (b : List ℕ) (k c l : ℕ) where
  pub pay_inside : Payable b (payment k c l) → k < length b
  unfolding payment
  pay_inside p = go l p
    where
      go : (l' : ℕ) → Payable b (payment k c l') → k < length b
      go zero p' = p'.inside
      go (suc n) p' = p'.inside

  pub pay_scaled : Payable b (payment k c l) → length b * 8 < 2 ^ 63 → val.Fits w64 (k * 8)
  pay_scaled p h = omega (arith, pay_inside p, h)

  pub pay_bears : Payable b (payment k c l) → Bears (get_or b k 0) c l
  unfolding payment Fits Bears
  pay_bears p = go l p
    where
      go : (l' : ℕ) → Payable b (payment k c l') → Bears (get_or b k 0) c l'
      go zero p' = p'.fits
      go (suc n) p' = p'.fits

  bears_pays : k < length b → Bears (get_or b k 0) c l → Payable b (payment k c l)
  unfolding payment Fits Bears
  bears_pays h x = go l x
    where
      go : (l' : ℕ) → Bears (get_or b k 0) c l' → Payable b (payment k c l')
      go zero x' = record { inside = h; fits = x' }
      go (suc n) x' = record { inside = h; fits = x' }

  pub pay_outside : length b ≤ k → Payable b (payment k c l) → ⊥
  pay_outside h p = omega (arith, h, pay_inside p)

  pub can_pay : (r : Bool) → k < length b → Says (Bears (get_or b k 0) c l) r → Says (Payable b (payment k c l)) r
  can_pay r h s = says_map r (bears_pays h) pay_bears s

  pub pays_now : (r : Bool) → Says (Payable b (payment k c l)) r → not r ≡ false → Payable b (payment k c l)
  pays_now r s e = says_yes r s e

  pub paid_so : (r : ℕ) → r ≡ balance_after (get_or b k 0) c l → set b k r ≡ paid b (payment k c l)
  unfolding payment paid balance_after
  paid_so r e = ap (set b k) e ∙ go l
    where
      go : (l' : ℕ) → set b k (balance_after (get_or b k 0) c l') ≡ paid b (payment k c l')
      go zero = refl
      go (suc n) = refl

-- ---- the payments of a batch: Q says that all of them can be made, and so do those that are left

module _ (t : List ℕ) (at : ℕ) (rest behind : List Payment) (next : rest ≡ payment_at t at ∷ behind) (b : List ℕ) {Q : Type 0} (x : Both Q (AllPayable b rest)) where
  abbrev line : Payment
  line = payment (get_or t at 0) (get_or t (at + 1) 0) (get_or t (at + 2) 0)

  cut : rest ≡ line ∷ behind
  unfolding payment_at
  cut = next

  pub try_stops : (r : Bool) → Says (Payable b line) r → not r ≡ true → Q → ⊥
  unfolding AllPayable
  try_stops r s e q = says_no r s e (rw cut at (x.to q)).0

  pub try_goes : (r : Bool) (b' : List ℕ) → Says (Payable b line) r → not r ≡ false → b' ≡ paid b line
      → Both Q (AllPayable b' behind)
  unfolding AllPayable
  try_goes r b' s f e = record {
    to = λ q. rw e (rw cut at (x.to q)).1;
    back = λ y. x.back (rw cut (says_yes r s f, rw e at y));
  }

pub try_ends : {Q : Type 0} (rest : List Payment) (b : List ℕ) → rest ≡ [] → Both Q (AllPayable b rest) → Q
unfolding AllPayable
try_ends rest b e x = x.back (rw e tt)

-- ---- the first i balances are copied

pub record Copied (row : List Account) (i : ℕ) (bs : List ℕ) : Type 0 where
  pub few : i ≤ 64
  pub row_long : length row ≡ 64
  pub long : length bs ≡ 64
  pub so : take i bs ≡ take i (balances_of row)

module _ (row : List Account) (bs : List ℕ) where
  pub copy_start : length row ≡ 64 → length bs ≡ 64 → Copied row 0 bs
  copy_start r l = record { few = omega arith; row_long = r; long = l; so = refl }

  pub copy_turn : (i : ℕ) → i < 64 → Copied row i bs → Copied row (i + 1) (set bs i (get_or row i none).balance)
  copy_turn i h x =
      let r = x.row_long in
      let l = x.long in
      record {
        few = omega (arith, h);
        row_long = r;
        long = simp length-set l;
        so = rw (add-one i) (column (λ (a : Account). a.balance) row bs i (rw r h) (rw l h) x.so);
      }

  pub copy_end : (i : ℕ) → 64 ≤ i → Copied row i bs → bs ≡ balances_of row
  copy_end i h x =
      let e : i ≡ 64 = omega (arith, h, x.few) in
      whole_row i bs (balances_of row) e x.long (length-map row (λ (a : Account). a.balance) ∙ x.row_long) x.so

-- ---- a settlement

module _ (row : List Account) (ws : List ℕ) (place : ℕ) where
  pub is_ready_lem : (bs : List ℕ) (r : Bool) → bs ≡ balances_of row → length ws ≡ 11168 → place < 32 → how_many ws place ≤ 100
      → Says (AllPayable bs (row_payments ws place)) r → Says (Ready (balances_of row) ws place) r
  is_ready_lem bs r e l p f s =
      says_map r (λ x. record { t_long = l; placed = p; few = f; payable = rw e at x }) (λ x. rw e x.payable) s

  module _ (r : Bool) (s : Says (Ready (balances_of row) ws place) r) where
    pub batch_refused : not r ≡ true → Settles row ws place (Err BrokenTables) row
    batch_refused e = refuses (says_no r s e)

    pub batch_ready : not r ≡ false → Ready (balances_of row) ws place
    batch_ready e = says_yes r s e

    pub batch_settled : (after : List Account) → not r ≡ false → Stored row after (settled (balances_of row) (row_payments ws place)) → Settles row ws place (Ok tt) after
    batch_settled after e x = settles (says_yes r s e) x
