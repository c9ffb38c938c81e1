-- Laws of the tests of a row's payments.
use Rattle.std.proofs.Common.{◌≡◌, ℕ, zero, suc, ◌+◌, ◌-◌, ◌*◌, ◌<◌, ◌≤◌, Bool, true, false, not, ◌&&◌, ◌||◌, eqb, ltb, List, [], ◌∷◌, length, get_or, replicate, sym, refl, ap, ◌∙◌, arith, ltb-true, lt-ltb, eq-eqb, ne_eqb, eqb-true}
use mathlib.Core.Bool.{false≢true}
use borrow.Author.Tests.{eqb-false}
use Rattle.chars.specs.Words.{Says}
use Rattle.codes.specs.Codes.{short_text}
use Rattle.book_read.specs.Range.{Each}
use Rattle.settle.specs.Payments.{Payment, credit, debit, payment, payment_at, payments_from, bank_of, cents_of}
use Rattle.settle.specs.Rules.{credits, debits, Apart, Distinct}
use Rattle.queue.specs.Promise.{All, Off, Once}
use Rattle.queue.proofs.MemoryLaws.{by_bool}
use Rattle.model.specs.Changes.{has_debit}
use Rattle.model.specs.Rules.{Priced, Lettered, are_letters}
use Rattle.tables.specs.Rows.{word}
use Rattle.tables.proofs.TestLaws.{Both, both_same, says_no, says_yes, says_map, each_end, each_not, each_on}
use Rattle.tables_rules.specs.batch_rules.BatchRules.{payments_in, RightPayments}
use Rattle.tables_rules.specs.payments.Marks.{banks_of, Below, Marked}
use Rattle.tables_rules.proofs.payments.MarkLaws.{Fresh, fresh_start, fresh_end, fresh_not, fresh_on}
use Rattle.tables_rules.proofs.payments.MarkLaws.{says_is}

-- ---- one payment

abbrev pub Sound : ℕ → Payment → Type 0
Sound banks p = Priced banks p × Lettered p

pub bank_of_lem : (k c l : ℕ) → bank_of (payment k c l) ≡ k
unfolding payment
bank_of_lem k c zero = refl
bank_of_lem k c (suc l) = refl

pub cents_of_lem : (k c l : ℕ) → cents_of (payment k c l) ≡ c
unfolding payment
cents_of_lem k c zero = refl
cents_of_lem k c (suc l) = refl

no_letters : (k c : ℕ) → Lettered (payment k c 0)
unfolding payment
no_letters k c = tt

and_true : (a b : Bool) → a ≡ true → b ≡ true → (a && b) ≡ true
and_true a b e f = rw (e, f)

pub and_one : (a b : Bool) → (a && b) ≡ true → a ≡ true
and_one true b h = refl
and_one false b h = absurd (false≢true h)

pub and_two : (a b : Bool) → (a && b) ≡ true → b ≡ true
and_two true b h = h
and_two false b h = absurd (false≢true h)

says_letters : (k c l : ℕ) (r : Bool) → (l ≡ 0 → ⊥) → r ≡ (ltb l 4294967296 && are_letters (short_text l)) → Says (Lettered (payment k c l)) r
unfolding payment
says_letters k c zero r n e = absurd (n refl)
says_letters k c (suc l) r n e =
    let a = ltb (suc l) 4294967296 in
    let b = are_letters (short_text (suc l)) in
    says_map r (λ y. (ltb-true (suc l) 4294967296 (and_one a b y), and_two a b y)) (λ x. and_true a b (lt-ltb (suc l) 4294967296 x.0) x.1) (says_is r (a && b) e)

module _ (row : List ℕ) (at banks : ℕ) where
  pub pay_bank : banks ≤ get_or row at 0 → Sound banks (payment_at row at) → ⊥
  unfolding payment_at
  pay_bank h x = omega (arith, bank_of_lem (get_or row at 0) (get_or row (at + 1) 0) (get_or row (at + 2) 0), x.0.known)

  pub pay_cents : 999999999999 < get_or row (at + 1) 0 → Sound banks (payment_at row at) → ⊥
  unfolding payment_at
  pay_cents h x = omega (arith, cents_of_lem (get_or row at 0) (get_or row (at + 1) 0) (get_or row (at + 2) 0), x.0.money)

  module _ (b : get_or row at 0 < banks) (m : get_or row (at + 1) 0 ≤ 999999999999) where
    is_priced : Priced banks (payment_at row at)
    unfolding payment_at
    is_priced = record {
      known = rw (bank_of_lem (get_or row at 0) (get_or row (at + 1) 0) (get_or row (at + 2) 0)) b;
      money = rw (cents_of_lem (get_or row at 0) (get_or row (at + 1) 0) (get_or row (at + 2) 0)) m;
    }

    pub pay_credit : get_or row (at + 2) 0 ≡ 0 → Sound banks (payment_at row at)
    unfolding payment_at
    pay_credit e = (is_priced, rw e (no_letters (get_or row at 0) (get_or row (at + 1) 0)))

    pub pay_debit : (get_or row (at + 2) 0 ≡ 0 → ⊥) → (r : Bool) → r ≡ (ltb (get_or row (at + 2) 0) 4294967296 && are_letters (short_text (get_or row (at + 2) 0)))
        → Says (Sound banks (payment_at row at)) r
    unfolding payment_at
    pay_debit n r e =
        says_map r (λ x. (is_priced, x)) (λ x. x.1) (says_letters (get_or row at 0) (get_or row (at + 1) 0) (get_or row (at + 2) 0) r n e)

-- ---- the payments from j on

abbrev pub pays_from : List ℕ → (n j : ℕ) → List Payment
pays_from row n j = payments_from row (49 + 3 * j) (n - j)

module _ (row : List ℕ) (n : ℕ) where
  pub pays_cut : (j : ℕ) → j < n → pays_from row n j ≡ payment_at row (49 + 3 * j) ∷ pays_from row n (j + 1)
  unfolding payments_from
  pays_cut j h =
      let e : n - j ≡ suc (n - (j + 1)) = omega arith in
      let f : 49 + 3 * (j + 1) ≡ 49 + 3 * j + 3 = omega arith in
      rw (e, f)

  pub pays_none : (j : ℕ) → n ≤ j → pays_from row n j ≡ []
  unfolding payments_from
  pays_none j h = let e : n - j ≡ 0 = omega arith in rw e

  pub pays_all : pays_from row n 0 ≡ payments_from row 49 n
  pays_all = let e : n - 0 ≡ n = omega arith in rw e

  pub pays_start : (banks : ℕ) → Both (Each (Sound banks) (payments_from row 49 n)) (Each (Sound banks) (pays_from row n 0))
  pays_start banks = rw pays_all (both_same (Each (Sound banks) (payments_from row 49 n)))

  module _ {Q : Type 0} (j banks : ℕ) (b : Both Q (Each (Sound banks) (pays_from row n j))) where
    pub pays_end : n ≤ j → Q
    pays_end h = each_end (Sound banks) b (pays_none j h)

    pub pays_not : j < n → (r : Bool) → Says (Sound banks (payment_at row (49 + 3 * j))) r → not r ≡ true → Q → ⊥
    pays_not h r s e = each_not (Sound banks) b (payment_at row (49 + 3 * j)) (pays_from row n (j + 1)) (pays_cut j h) (says_no r s e)

    pub pays_on : j < n → (r : Bool) → Says (Sound banks (payment_at row (49 + 3 * j))) r → not r ≡ false → Both Q (Each (Sound banks) (pays_from row n (j + 1)))
    pays_on h r s e = each_on (Sound banks) b (payment_at row (49 + 3 * j)) (pays_from row n (j + 1)) (pays_cut j h) (says_yes r s e)

  -- banks
  bank_cut : (j : ℕ) → j < n → banks_of (pays_from row n j) ≡ get_or row (49 + 3 * j) 0 ∷ banks_of (pays_from row n (j + 1))
  unfolding payment_at
  bank_cut j h =
      ap banks_of (pays_cut j h) ∙ ap (λ (k : ℕ). k ∷ banks_of (pays_from row n (j + 1))) (bank_of_lem (get_or row (49 + 3 * j) 0) (get_or row (49 + 3 * j + 1) 0) (get_or row (49 + 3 * j + 2) 0))

  pub bank_start : (banks : ℕ) → Both (Below banks (banks_of (payments_from row 49 n))) (Fresh banks (replicate 64 0) (banks_of (pays_from row n 0)))
  bank_start banks = rw pays_all (fresh_start 64 banks (banks_of (payments_from row 49 n)))

  module _ {Q : Type 0} (j banks : ℕ) (seen : List ℕ) (b : Both Q (Fresh banks seen (banks_of (pays_from row n j)))) where
    pub bank_end : n ≤ j → Q
    bank_end h = fresh_end banks seen (banks_of (pays_from row n j)) b (ap banks_of (pays_none j h))

    module _ (h : j < n) {left : List ℕ} {r : Bool} (m : Marked banks (get_or row (49 + 3 * j) 0) seen left r) where
      pub bank_not : not r ≡ true → Q → ⊥
      bank_not e = fresh_not banks seen (banks_of (pays_from row n j)) b (get_or row (49 + 3 * j) 0) (banks_of (pays_from row n (j + 1))) (bank_cut j h) m e

      pub bank_on : not r ≡ false → banks ≤ 64 → length seen ≡ 64 → Both Q (Fresh banks left (banks_of (pays_from row n (j + 1))))
      bank_on e f l = fresh_on banks seen (banks_of (pays_from row n j)) b (get_or row (49 + 3 * j) 0) (banks_of (pays_from row n (j + 1))) (bank_cut j h) m e (omega arith)

  -- sums
  abbrev pub Cheap : List Payment → Type 0
  Cheap ps = Each (λ p. cents_of p ≤ 999999999999) ps

  pub record Summed (j c d : ℕ) : Type 0 where
    pub same_credits : c + credits (pays_from row n j) ≡ credits (payments_from row 49 n)
    pub same_debits : d + debits (pays_from row n j) ≡ debits (payments_from row 49 n)
    pub small : c + d ≤ 999999999999 * j
    pub rest : Cheap (pays_from row n j)

  pub sum_start : Cheap (payments_from row 49 n) → Summed 0 0 0
  sum_start h = record {
    same_credits = let e = ap credits pays_all in omega (arith, e);
    same_debits = let e = ap debits pays_all in omega (arith, e);
    small = omega arith;
    rest = rw pays_all h;
  }

  is_credit : (j : ℕ) → get_or row (49 + 3 * j + 2) 0 ≡ 0 → payment_at row (49 + 3 * j) ≡ credit (get_or row (49 + 3 * j) 0) (get_or row (49 + 3 * j + 1) 0)
  unfolding payment_at payment
  is_credit j e = rw e

  is_debit : (j l : ℕ) → get_or row (49 + 3 * j + 2) 0 ≡ suc l → payment_at row (49 + 3 * j) ≡ debit (suc l) (get_or row (49 + 3 * j) 0) (get_or row (49 + 3 * j + 1) 0)
  unfolding payment_at payment
  is_debit j l e = rw e

  module _ (j c d : ℕ) (s : Summed j c d) where
    pub sum_cents : j < n → get_or row (49 + 3 * j + 1) 0 ≤ 999999999999
    unfolding payment_at
    sum_cents h =
        omega (arith, (rw (pays_cut j h) at s.rest).0, cents_of_lem (get_or row (49 + 3 * j) 0) (get_or row (49 + 3 * j + 1) 0) (get_or row (49 + 3 * j + 2) 0))

    pub sum_credit : j < n → get_or row (49 + 3 * j + 2) 0 ≡ 0 → Summed (j + 1) (c + get_or row (49 + 3 * j + 1) 0) d
    unfolding credits debits
    sum_credit h e =
        let p = pays_cut j h ∙ ap (λ (x : Payment). x ∷ pays_from row n (j + 1)) (is_credit j e) in
        let a = ap credits p in
        let b = ap debits p in
        record {
          same_credits = omega (arith, a, s.same_credits);
          same_debits = omega (arith, b, s.same_debits);
          small = omega (arith, s.small, sum_cents h);
          rest = (rw (pays_cut j h) at s.rest).1;
        }

    pub sum_debit : j < n → (get_or row (49 + 3 * j + 2) 0 ≡ 0 → ⊥) → Summed (j + 1) c (d + get_or row (49 + 3 * j + 1) 0)
    unfolding credits debits
    sum_debit h z = go (get_or row (49 + 3 * j + 2) 0) refl
      where
        go : (l : ℕ) → get_or row (49 + 3 * j + 2) 0 ≡ l → Summed (j + 1) c (d + get_or row (49 + 3 * j + 1) 0)
        go zero e = absurd (z e)
        go (suc l) e =
            let p = pays_cut j h ∙ ap (λ (x : Payment). x ∷ pays_from row n (j + 1)) (is_debit j l e) in
            let a = ap credits p in
            let b = ap debits p in
            record {
              same_credits = omega (arith, a, s.same_credits);
              same_debits = omega (arith, b, s.same_debits);
              small = omega (arith, s.small, sum_cents h);
              rest = (rw (pays_cut j h) at s.rest).1;
            }

    pub sum_end : n ≤ j → Says (credits (payments_from row 49 n) ≡ debits (payments_from row 49 n)) (eqb c d)
    unfolding credits debits
    sum_end h =
        let a = ap credits (pays_none j h) in
        let b = ap debits (pays_none j h) in
        by_bool (eqb c d)
        (λ y. rw y (let z : c ≡ d = eqb-true c d y in omega (arith, a, b, s.same_credits, s.same_debits)))
        (λ y. rw y (λ x. eqb-false c d y (omega (arith, a, b, s.same_credits, s.same_debits))))

  -- a debit of a bank
  abbrev pub Sought : ℕ → ℕ → Type 0
  Sought k j = has_debit k (pays_from row n j) ≡ has_debit k (payments_from row 49 n)

  pub debit_start : (k : ℕ) → Sought k 0
  debit_start k = ap (has_debit k) pays_all

  module _ (k j : ℕ) (s : has_debit k (pays_from row n j) ≡ has_debit k (payments_from row 49 n)) where
    pub debit_skip : j < n → get_or row (49 + 3 * j + 2) 0 ≡ 0 → has_debit k (pays_from row n (j + 1)) ≡ has_debit k (payments_from row 49 n)
    unfolding has_debit
    debit_skip h e = sym (ap (has_debit k) (pays_cut j h ∙ ap (λ (x : Payment). x ∷ pays_from row n (j + 1)) (is_credit j e))) ∙ s

    debit_is : j < n → (get_or row (49 + 3 * j + 2) 0 ≡ 0 → ⊥) → has_debit k (pays_from row n j) ≡ (eqb (get_or row (49 + 3 * j) 0) k || has_debit k (pays_from row n (j + 1)))
    unfolding has_debit
    debit_is h z = go (get_or row (49 + 3 * j + 2) 0) refl
      where
        go : (l : ℕ) → get_or row (49 + 3 * j + 2) 0 ≡ l → has_debit k (pays_from row n j) ≡ (eqb (get_or row (49 + 3 * j) 0) k || has_debit k (pays_from row n (j + 1)))
        go zero e = absurd (z e)
        go (suc l) e = ap (has_debit k) (pays_cut j h ∙ ap (λ (x : Payment). x ∷ pays_from row n (j + 1)) (is_debit j l e))

    pub debit_here : j < n → (get_or row (49 + 3 * j + 2) 0 ≡ 0 → ⊥) → get_or row (49 + 3 * j) 0 ≡ k → true ≡ has_debit k (payments_from row 49 n)
    debit_here h z e = sym (rw (eq-eqb (get_or row (49 + 3 * j) 0) k e) at (debit_is h z)) ∙ s

    pub debit_on_lem : j < n → (get_or row (49 + 3 * j + 2) 0 ≡ 0 → ⊥) → (get_or row (49 + 3 * j) 0 ≡ k → ⊥) → has_debit k (pays_from row n (j + 1)) ≡ has_debit k (payments_from row 49 n)
    debit_on_lem h z e = sym (rw (ne_eqb (get_or row (49 + 3 * j) 0) k e) at (debit_is h z)) ∙ s

    pub debit_end : n ≤ j → false ≡ has_debit k (payments_from row 49 n)
    unfolding has_debit
    debit_end h = sym (ap (has_debit k) (pays_none j h)) ∙ s

-- ---- all of them

apart_off : (k : ℕ) (ps : List Payment) → Apart k ps → Off k (banks_of ps)
unfolding Apart
apart_off k [] a = tt
apart_off k (p ∷ ps) a = (a.0, apart_off k ps a.1)

off_apart : (k : ℕ) (ps : List Payment) → Off k (banks_of ps) → Apart k ps
unfolding Apart
off_apart k [] a = tt
off_apart k (p ∷ ps) a = (a.0, off_apart k ps a.1)

distinct_once : (ps : List Payment) → Distinct ps → Once (banks_of ps)
unfolding Distinct Apart
distinct_once [] a = tt
distinct_once (p ∷ ps) a = (apart_off (bank_of p) ps a.0, distinct_once ps a.1)

once_distinct : (ps : List Payment) → Once (banks_of ps) → Distinct ps
unfolding Distinct Apart
once_distinct [] a = tt
once_distinct (p ∷ ps) a = (off_apart (bank_of p) ps a.0, once_distinct ps a.1)

known_below : (banks : ℕ) (ps : List Payment) → Each (Priced banks) ps → All (λ k. k < banks) (banks_of ps)
known_below banks [] a = tt
known_below banks (p ∷ ps) a = (a.0.known, known_below banks ps a.1)

sound : (banks : ℕ) (ps : List Payment) → Each (Priced banks) ps → Each Lettered ps → Each (Sound banks) ps
sound banks [] a b = tt
sound banks (p ∷ ps) a b = ((a.0, b.0), sound banks ps a.1 b.1)

sound_priced : (banks : ℕ) (ps : List Payment) → Each (Sound banks) ps → Each (Priced banks) ps
sound_priced banks [] a = tt
sound_priced banks (p ∷ ps) a = (a.0.0, sound_priced banks ps a.1)

sound_lettered : (banks : ℕ) (ps : List Payment) → Each (Sound banks) ps → Each Lettered ps
sound_lettered banks [] a = tt
sound_lettered banks (p ∷ ps) a = (a.0.1, sound_lettered banks ps a.1)

pub priced_cheap : (banks : ℕ) (ps : List Payment) → Each (Priced banks) ps → Each (λ p. cents_of p ≤ 999999999999) ps
priced_cheap banks [] a = tt
priced_cheap banks (p ∷ ps) a = (a.0.money, priced_cheap banks ps a.1)

module _ (banks : ℕ) (row : List ℕ) (a : Bool) (s : Says (Each (λ p. Priced banks p × Lettered p) (payments_from row 49 (word row 8))) a) where
  pub pays_1 : not a ≡ true → RightPayments banks row → ⊥
  pays_1 e x = says_no a s e (sound banks (payments_in row) x.priced x.lettered)

  pub pays_2 : not a ≡ false → (c : Bool) → Says (Below banks (banks_of (payments_from row 49 (word row 8)))) c → Says (RightPayments banks row) c
  pays_2 e c t =
      let y = says_yes a s e in
      let ps = payments_in row in
      says_map c
      (λ x. record { priced = sound_priced banks ps y; lettered = sound_lettered banks ps y; differ = once_distinct ps x.1 })
      (λ x. (known_below banks ps x.priced, distinct_once ps x.differ))
      t
