-- One payment, stored in the record of its bank; and the payments of a batch, one after another.
use mathlib.Core.Path.{◌≡◌, refl, sym, ap, subst, ◌∙◌}
use Prim.Native.Nat.{ℕ, zero, suc, ◌+◌, ◌*◌, ◌-◌, ◌^◌, ◌≤◌, ◌<◌}
use native.Mathlib.Omega.{arith}
use mathlib.Core.List.{List, [], ◌∷◌, map}
use lib.ListN.{length, get_or, set, length-map, length-set, get_or-map}
use Rattle.settle.specs.Payments.{Payment, credit, debit, payment, payment_at, payments_from, row_payments, how_many, bank_of}
use Rattle.settle.specs.Settlement.{paid, settled}
use Rattle.settle.specs.Rules.{Fits, Payable, AllPayable, Ready}
use Rattle.settle.proofs.Laws.{payable_head, payable_tail, settled_goes, settled_none}
use Rattle.call_records.specs.declared.Account.{Account}
use Rattle.call_records.specs.Records.{codes_of, flags_of, balances_of, sublimits_of, waiting_of}
use Rattle.settle_records.specs.Payments.{balance_after, Bears, Stored}
use Rattle.tables.proofs.MemoryLaws.{map_set}
use Rattle.call_records.proofs.Rows.{none}

-- ---- one account

pub after_credit : (b c l : ℕ) → l ≡ 0 → b + c ≡ balance_after b c l
unfolding balance_after
after_credit b c l e = rw e

pub after_debit : (b c l : ℕ) → (l ≡ 0 → ⊥) → b - c ≡ balance_after b c l
unfolding balance_after
after_debit b c zero n = absurd (n refl)
after_debit b c (suc l) n = refl

pub room_credit : (b c l : ℕ) → Bears b c l → l ≡ 0 → b + c < 2 ^ 64
unfolding Bears
room_credit b c zero h e = h
room_credit b c (suc l) h e = absurd (omega (arith, e))

pub money_debit : (b c l : ℕ) → Bears b c l → (l ≡ 0 → ⊥) → c ≤ b
unfolding Bears
money_debit b c zero h n = absurd (n refl)
money_debit b c (suc l) h n = h

-- ---- the record of its bank

-- a record with another balance
abbrev pub with_balance : Account → ℕ → Account
with_balance a b = record { code = a.code; flags = a.flags; balance = b; sublimit = a.sublimit; waiting = a.waiting }

module _ (row : List Account) (k c l : ℕ) where
  abbrev here : Account
  here = get_or row k none

  balance_at_lem : get_or (balances_of row) k 0 ≡ here.balance
  balance_at_lem = get_or-map (λ (a : Account). a.balance) row k none

  pub inside_row : Payable (balances_of row) (payment k c l) → k < length row
  unfolding payment
  inside_row p = go l p
    where
      go : (l' : ℕ) → Payable (balances_of row) (payment k c l') → k < length row
      go zero p' = rw length-map at p'.inside
      go (suc n) p' = rw length-map at p'.inside

  pub bears : Payable (balances_of row) (payment k c l) → Bears here.balance c l
  unfolding payment Fits Bears
  bears p = go l p
    where
      go : (l' : ℕ) → Payable (balances_of row) (payment k c l') → Bears here.balance c l'
      go zero p' = rw balance_at_lem at p'.fits
      go (suc n) p' = rw balance_at_lem at p'.fits

  paid_at : paid (balances_of row) (payment k c l) ≡ set (balances_of row) k (balance_after here.balance c l)
  unfolding payment paid balance_after
  paid_at = go l
    where
      go : (l' : ℕ) → paid (balances_of row) (payment k c l') ≡ set (balances_of row) k (balance_after here.balance c l')
      go zero = rw balance_at_lem
      go (suc n) = rw balance_at_lem

-- a list in which a place is stored as it is
set_same : (xs : List ℕ) (k : ℕ) → set xs k (get_or xs k 0) ≡ xs
set_same [] k = refl
set_same (x ∷ xs) zero = refl
set_same (x ∷ xs) (suc k) = ap (λ (l : List ℕ). x ∷ l) (set_same xs k)

field_kept : (f : Account → ℕ) (row : List Account) (k : ℕ) (a : Account) → f none ≡ 0 → f a ≡ f (get_or row k none) → map f (set row k a) ≡ map f row
field_kept f row k a z e =
    map_set f row k a ∙ ap (set (map f row) k) (e ∙ sym (get_or-map f row k none) ∙ ap (get_or (map f row) k) z) ∙ set_same (map f row) k

pub stored_one : (row : List Account) (k c l r : ℕ) → r ≡ balance_after (get_or row k none).balance c l
    → Stored row (set row k (with_balance (get_or row k none) r)) (paid (balances_of row) (payment k c l))
stored_one row k c l r e =
    let a = with_balance (get_or row k none) r in
    record {
      balances_are = map_set (λ (x : Account). x.balance) row k a ∙ ap (set (balances_of row) k) e ∙ sym (paid_at row k c l);
      codes_kept = field_kept (λ (x : Account). x.code) row k a refl refl;
      flags_kept = field_kept (λ (x : Account). x.flags) row k a refl refl;
      sublimits_kept = field_kept (λ (x : Account). x.sublimit) row k a refl refl;
      waiting_kept = field_kept (λ (x : Account). x.waiting) row k a refl refl;
    }

-- ---- one after another

pub stored_then : {row mid end : List Account} {bs cs : List ℕ} → Stored row mid bs → Stored mid end cs → Stored row end cs
stored_then x y = record {
  balances_are = y.balances_are;
  codes_kept = y.codes_kept ∙ x.codes_kept;
  flags_kept = y.flags_kept ∙ x.flags_kept;
  sublimits_kept = y.sublimits_kept ∙ x.sublimits_kept;
  waiting_kept = y.waiting_kept ∙ x.waiting_kept;
}

-- ---- the payments of a batch: some are paid, and what is left of them, paid too, gives what the whole batch gives

pub record Settling (ys : List Account) (ws : List ℕ) (place : ℕ) (rest : List Payment) (z : List Account) : Type 0 where
  pub long : length z ≡ length ys
  pub payable : AllPayable (balances_of z) rest
  pub same : settled (balances_of z) rest ≡ settled (balances_of ys) (row_payments ws place)
  pub codes_kept : codes_of z ≡ codes_of ys
  pub flags_kept : flags_of z ≡ flags_of ys
  pub sublimits_kept : sublimits_of z ≡ sublimits_of ys
  pub waiting_kept : waiting_of z ≡ waiting_of ys

module _ (ys : List Account) (ws : List ℕ) (place : ℕ) where
  pub settle_start : Ready (balances_of ys) ws place → Settling ys ws place (row_payments ws place) ys
  settle_start r = record {
    long = refl;
    payable = r.payable;
    same = refl;
    codes_kept = refl;
    flags_kept = refl;
    sublimits_kept = refl;
    waiting_kept = refl;
  }

  abbrev pub line_at : ℕ → Payment
  line_at at = payment (get_or ws at 0) (get_or ws (at + 1) 0) (get_or ws (at + 2) 0)

  module _ (at : ℕ) (rest behind : List Payment) (cut : rest ≡ payment_at ws at ∷ behind) (z : List Account) where
    pub settle_pays : Settling ys ws place rest z → Payable (balances_of z) (line_at at)
    unfolding payment_at
    settle_pays s = payable_head ws at rest behind cut (balances_of z) s.payable

    pub settle_turn : (z' : List Account) → Settling ys ws place rest z → length z' ≡ length z → Stored z z' (paid (balances_of z) (line_at at)) → Settling ys ws place behind z'
    unfolding payment_at
    settle_turn z' s e st = record {
      long = e ∙ s.long;
      payable = payable_tail ws at rest behind cut (balances_of z) (balances_of z') st.balances_are s.payable;
      same = sym (settled_goes ws at rest behind cut (balances_of z) (balances_of z') st.balances_are (settled (balances_of ys) (row_payments ws place)) (sym s.same));
      codes_kept = st.codes_kept ∙ s.codes_kept;
      flags_kept = st.flags_kept ∙ s.flags_kept;
      sublimits_kept = st.sublimits_kept ∙ s.sublimits_kept;
      waiting_kept = st.waiting_kept ∙ s.waiting_kept;
    }

  pub settle_end : (rest : List Payment) (z : List Account) → rest ≡ [] → Settling ys ws place rest z → Stored ys z (settled (balances_of ys) (row_payments ws place))
  settle_end rest z e s = record {
    balances_are = settled_none (balances_of z) rest _ e (sym s.same);
    codes_kept = s.codes_kept;
    flags_kept = s.flags_kept;
    sublimits_kept = s.sublimits_kept;
    waiting_kept = s.waiting_kept;
  }
