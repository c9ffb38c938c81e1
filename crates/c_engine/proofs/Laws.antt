-- Laws of the calls on rows of words.
use mathlib.Core.Path.{◌≡◌, ap, subst, ◌∙◌}
use Prim.Native.Nat.{ℕ, ◌≤◌, ◌<◌}
use native.Mathlib.Omega.{arith}
use mathlib.Core.Bool.{Bool, true, false, not}
use mathlib.Core.List.{List, [], ◌∷◌}
use lib.Dec.{eqb}
use lib.ListN.{length, get_or, replicate}
use lib.Seq.{sets}
use borrow.Author.Tests.{eqb-true, eqb-false}
use Rattle.chars.specs.Words.{Says}
use Rattle.chars.specs.Refusals.{number_of}
use Rattle.chars.specs.declared.Refusal.TheVariants.{BrokenTables, ShortBuffer}
use Rattle.model.specs.declared.Action.{Action}
use Rattle.model.specs.Answers.{Answer, answer_number}
use Rattle.model.specs.Calls.{Asked}
use Rattle.queue.proofs.MemoryLaws.{by_bool}
use Rattle.tables.specs.declared.Desk.{Desk}
use Rattle.tables.specs.Rows.{Tables}
use Rattle.tables.specs.Moment.{lent_on}
use Rattle.tables.specs.Lent.{Called}
use Rattle.tables.proofs.TestLaws.{says_no, says_yes}
use Rattle.call.specs.declared.step.Told.{Told}
use Rattle.call.specs.step.Stepping.{lent_as, left_as}
use Rattle.call_records.specs.Records.{tables_in, Columns}
use Rattle.call_records.proofs.Rows.{tables_in_lem}
use Rattle.call_records.proofs.Determined.{row_back}
use Rattle.c_engine.specs.Lending.{desk_in, desk_words, banks_length, banks_in, EngineWords, engine_words, Words, lent_words, action_by, asks, Returned, Shaped, InShape, Shows, CalledWords, LongWords, no_words, clear_words, ClearedWords}
use Rattle.c_engine.proofs.Banks.{bank_words_back}

-- ---- a call on the banks' words is a call on their records

module _ (d : Desk) (b codes flags balances sublimits t rs bs sheet out r : List ℕ) (a : Asked) (n : Answer) (w k : ℕ) (d' : Desk)
    (b' codes' flags' balances' sublimits' t' rs' bs' sheet' out' r' : List ℕ) where
  pub call_banks : Columns (banks_in b) codes flags balances sublimits sheet
      → Called (lent_as d (lent_on codes flags balances sublimits t rs bs sheet) out r) a (left_as n w k d' (lent_on codes' flags' balances' sublimits' t' rs' bs' sheet') out' r')
      → Columns (banks_in b') codes' flags' balances' sublimits' sheet'
      → Called (lent_as d (tables_in (banks_in b) t rs bs) out r) a (left_as n w k d' (tables_in (banks_in b') t' rs' bs') out' r')
  call_banks x c y =
      subst (λ (z : Tables). Called (lent_as d z out r) a (left_as n w k d' (tables_in (banks_in b') t' rs' bs') out' r')) (tables_in_lem (banks_in b) codes flags balances sublimits sheet t rs bs x)
      (subst (λ (z : Tables). Called (lent_as d (lent_on codes flags balances sublimits t rs bs sheet) out r) a (left_as n w k d' z out' r')) (tables_in_lem (banks_in b') codes' flags' balances' sublimits' sheet' t' rs' bs' y) c)

-- ---- and what it leaves stands in the words

module _ (desk banks t rs bs out r report : List ℕ) (a : Asked) (d : Desk) (y : Told) (desk' banks' t' rs' bs' out' r' report' : List ℕ) (number : ℕ) where
  pub shown : length banks' ≡ banks_length → d ≡ desk_in desk
      → Called (lent_as d (tables_in (banks_in banks) t rs bs) out r) a (left_as y.answer y.written y.tried y.desk (tables_in (banks_in banks') t' rs' bs') out' r')
      → desk' ≡ desk_words y.desk → report' ≡ sets report 0 (y.written ∷ y.tried ∷ []) → number ≡ answer_number y.answer
      → Shows (lent_words desk banks t rs bs out r report) a (record { number = number; words = lent_words desk' banks' t' rs' bs' out' r' report' })
  shown l e c f g h = record {
    left = left_as y.answer y.written y.tried y.desk (tables_in (banks_in banks') t' rs' bs') out' r';
    called = rw e at c;
    is = rw (h, f, g, row_back (banks_in banks'), bank_words_back banks' l);
  }

-- ---- the tests

-- a rule whose last part is an equation is tested by it
says_last : {P : Type 0} (m n : ℕ) → (m ≡ n → P) → (P → m ≡ n) → Says P (eqb m n)
says_last m n f g = by_bool (eqb m n) (λ e. rw e (f (eqb-true m n e))) (λ e. rw e (λ p. eqb-false m n e (g p)))

pub shape_last : (desk banks : List ℕ) → length desk ≡ 22 → get_or desk 0 0 ≤ 2 → Says (Shaped desk banks) (eqb (length banks) banks_length)
shape_last desk banks k l = says_last (length banks) banks_length (λ e. record { desk_long = k; phase_right = l; banks_long = e }) (λ s. s.banks_long)

pub rows_last : (desk banks batches references bins : List ℕ) → length desk ≡ 22 → length banks ≡ banks_length → length batches ≡ 11168 → length references ≡ 6144
    → Says (LongWords (engine_words desk banks batches references bins)) (eqb (length bins) 1536)
rows_last desk banks batches references bins k l m n =
    says_last (length bins) 1536 (λ e. record { desk_long = k; banks_long = l; batches_long = m; references_long = n; bins_long = e }) (λ s. s.bins_long)

-- ---- a call: 07, 06, and the rules

module _ (x : Words) (a : Asked) (n : ℕ) where
  pub call_short : length x.report < 2 → n ≡ number_of ShortBuffer → CalledWords x a (record { number = n; words = x })
  call_short h e = record { short = λ _. rw e; broken = λ k _. absurd (omega (arith, h, k)); shows = λ k _. absurd (omega (arith, h, k)) }

  pub call_broken : 2 ≤ length x.report → (b : Bool) → Says (InShape x) b → not b ≡ true → n ≡ number_of BrokenTables
      → CalledWords x a (record { number = n; words = x })
  call_broken h b s g e = record { short = λ k. absurd (omega (arith, h, k)); broken = λ _ _. rw e; shows = λ _ k. absurd (says_no b s g k) }

module _ (x : Words) (quick clock number first second third fourth : ℕ) (input : List ℕ) (y : Returned) where
  pub call_shown : 2 ≤ length x.report → (b : Bool) → Says (InShape x) b → not b ≡ false → (q : Action) → q ≡ action_by number first second third fourth
      → Shows x (record { quick = not (eqb quick 0); clock = clock; action = q; input = input }) y → CalledWords x (asks quick clock number first second third fourth input) y
  call_shown h b s g q e z = record {
    short = λ k. absurd (omega (arith, h, k));
    broken = λ _ k. absurd (k (says_yes b s g));
    shows = λ _ _. rw e at z;
  }

-- ---- a clearing

pub clear_uneven : (x : EngineWords) (b : Bool) (n : ℕ) → Says (LongWords x) b → not b ≡ true → n ≡ number_of BrokenTables
    → ClearedWords x (record { number = n; words = x })
unfolding clear_words
clear_uneven x b n s g e = record { long = false; says = says_no b s g; is = rw e }

zeroed : (n : ℕ) (l m : List ℕ) → length l ≡ n → m ≡ replicate (length l) 0 → m ≡ replicate n 0
zeroed n l m e f = f ∙ ap (λ (k : ℕ). replicate k 0) e

module _ (desk banks batches references bins : List ℕ) (b : Bool) (s : Says (LongWords (engine_words desk banks batches references bins)) b) (g : not b ≡ false) where
  pub clear_done : (desk' banks' batches' references' bins' : List ℕ) → desk' ≡ replicate (length desk) 0 → banks' ≡ replicate (length banks) 0
      → batches' ≡ replicate (length batches) 0
      → references' ≡ replicate (length references) 0 → bins' ≡ replicate (length bins) 0
      → ClearedWords (engine_words desk banks batches references bins) (record { number = 0; words = engine_words desk' banks' batches' references' bins' })
  unfolding clear_words no_words
  clear_done desk' banks' batches' references' bins' e₁ e₂ e₃ e₄ e₅ =
      let l = says_yes b s g in
      record {
        long = true;
        says = l;
        is = rw (
          zeroed 22 desk desk' l.desk_long e₁,
          zeroed banks_length banks banks' l.banks_long e₂,
          zeroed 11168 batches batches' l.batches_long e₃,
          zeroed 6144 references references' l.references_long e₄,
          zeroed 1536 bins bins' l.bins_long e₅,
        );
      }
