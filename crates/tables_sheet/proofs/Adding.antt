-- A row's debits, added one by one: what is added and what is left make the whole.
use Prim.Native.Nat.{ℕ, ◌+◌, ◌*◌, ◌<◌}
use mathlib.Core.Path.{◌≡◌, refl, sym, ap, subst, ◌∙◌}
use mathlib.Core.List.{List, [], ◌∷◌}
use native.Mathlib.Omega.{arith}
use lib.Dec.{eqb}
use lib.ListN.{length, get_or, set, length-set}
use lib.Seq.{get_or-set_same, get_or-set_other}
use mir.Syntax.{w64}
use mir.Val as val
use borrow.Author.Tests.{eqb-true, eqb-false, eq-eqb, ne_eqb}
use Rattle.settle.specs.Payments.{Payment, credit, debit, payment_at}
use Rattle.settle.specs.Rules.{Ranged}
use Rattle.settle.proofs.Laws.{is_credit, is_debit, ranged_head, ranged_tail}
use Rattle.queue.specs.Promise.{taken}
use Rattle.queue.proofs.MemoryLaws.{by_bool}
use Rattle.tables_rules.specs.batch_rules.BatchRules.{payments_in}
use Rattle.tables_sheet.specs.Sheet.{Readable, Addable, Added}

-- ---- one payment more

taken_credit : (k j c : ℕ) (ps : List Payment) → taken k (credit j c ∷ ps) ≡ taken k ps
unfolding taken
taken_credit k j c ps = refl

taken_own : (l k c : ℕ) (ps : List Payment) → taken k (debit l k c ∷ ps) ≡ c + taken k ps
unfolding taken
taken_own l k c ps = rw (eq-eqb k k refl)

taken_other : (k l j c : ℕ) (ps : List Payment) → (j ≡ k → ⊥) → taken k (debit l j c ∷ ps) ≡ taken k ps
unfolding taken
taken_other k l j c ps n = rw (ne_eqb j k n) (omega arith)

-- ---- the loop

pub record Adding (row first sheet : List ℕ) (rest : List Payment) : Type 0 where
  pub long : length sheet ≡ length first
  pub ranged : Ranged rest
  pub totals : (k : ℕ) → k < 64 → get_or sheet k 0 + taken k rest ≡ get_or first k 0 + taken k (payments_in row)

module _ (row first : List ℕ) where
  pub adding_start : Readable row → Addable first (payments_in row) → Adding row first first (payments_in row)
  adding_start r a = record { long = refl; ranged = a.ranged; totals = λ k h. refl }

  module _ (sheet : List ℕ) (rest : List Payment) (i : Adding row first sheet rest) where
    pub adding_done : rest ≡ [] → Added first (payments_in row) sheet
    unfolding taken
    adding_done e = record { long = i.long; totals = λ k b. let t = rw e at (i.totals k b) in omega arith }

    module _ (at : ℕ) (behind : List Payment) (next : rest ≡ payment_at row at ∷ behind) where
      abbrev bank : ℕ
      bank = get_or row at 0

      abbrev cents : ℕ
      cents = get_or row (at + 1) 0

      known : bank < 64
      known = ranged_head row at rest behind next i.ranged

      pub adding_bank : Addable first (payments_in row) → get_or row at 0 < length sheet
      adding_bank a = omega (arith, known, i.long, a.long)

      pub adding_scaled : val.Fits w64 (get_or row at 0 * 8)
      adding_scaled = omega (arith, known)

      -- a credit adds nothing
      pub adding_credit : get_or row (at + 2) 0 ≡ 0 → (after : List ℕ) → after ≡ sheet → Adding row first after behind
      unfolding payment_at
      adding_credit e after f =
          let p : payment_at row at ≡ credit bank cents = is_credit bank cents (get_or row (at + 2) 0) e in
          rw f record {
            long = i.long;
            ranged = ranged_tail row at rest behind next i.ranged;
            totals = λ k h.
                let t : taken k rest ≡ taken k behind = ap (taken k) next ∙ rw p (taken_credit k bank cents behind) in
                omega (arith, i.totals k h);
          }

      module _ (d : get_or row (at + 2) 0 ≡ 0 → ⊥) where
        is : payment_at row at ≡ debit (get_or row (at + 2) 0) bank cents
        unfolding payment_at
        is = is_debit bank cents (get_or row (at + 2) 0) d

        cut : (k : ℕ) → taken k rest ≡ taken k (debit (get_or row (at + 2) 0) bank cents ∷ behind)
        cut k = ap (taken k) next ∙ ap (λ (p : Payment). taken k (p ∷ behind)) is

        own : taken bank rest ≡ cents + taken bank behind
        own = cut bank ∙ taken_own (get_or row (at + 2) 0) bank cents behind

        pub adding_room : Addable first (payments_in row) → val.Fits w64 (get_or sheet (get_or row at 0) 0 + get_or row (at + 1) 0)
        adding_room a = record { fits = omega (arith, a.room bank known, i.totals bank known, own) }

        pub adding_debit : Addable first (payments_in row) → (after : List ℕ) → after ≡ set sheet (get_or row at 0) (get_or sheet (get_or row at 0) 0 + get_or row (at + 1) 0)
            → Adding row first after behind
        adding_debit a after f = record {
          long = ap length f ∙ length-set sheet bank (get_or sheet bank 0 + cents) ∙ i.long;
          ranged = ranged_tail row at rest behind next i.ranged;
          totals = λ k h.
              by_bool (eqb bank k)
              (λ e.
              let q : bank ≡ k = eqb-true bank k e in
              let s : get_or after bank 0 ≡ get_or sheet bank 0 + cents = ap (λ (l : List ℕ). get_or l bank 0) f ∙ get_or-set_same sheet bank (get_or sheet bank 0 + cents) 0 (adding_bank a) in
              let t : get_or after bank 0 + taken bank behind ≡ get_or first bank 0 + taken bank (payments_in row) = omega (arith, i.totals bank known, own) in
              subst (λ (x : ℕ). get_or after x 0 + taken x behind ≡ get_or first x 0 + taken x (payments_in row)) q t)
              (λ e.
              let n : bank ≡ k → ⊥ = eqb-false bank k e in
              let s : get_or after k 0 ≡ get_or sheet k 0 = ap (λ (l : List ℕ). get_or l k 0) f ∙ get_or-set_other sheet bank k (get_or sheet bank 0 + cents) 0 (λ z. n (sym z)) in
              let t : taken k rest ≡ taken k behind = cut k ∙ taken_other k (get_or row (at + 2) 0) bank cents behind n in
              omega (arith, i.totals k h));
        }
