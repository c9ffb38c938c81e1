-- An opening that is done leaves what its book says.
use Rattle.std.specs.Prelude.{Ok, Err}
use Prim.Native.Nat.{ℕ, zero, suc, ◌+◌, ◌≤◌}
use mathlib.Core.Path.{◌≡◌, refl, sym, ap, subst, ◌∙◌}
use mathlib.Core.List.{List, [], ◌∷◌, ◌++◌}
use native.Mathlib.Omega.{arith}
use lib.ListN.{length}
use Rattle.book_read.specs.Book.{each}
use Rattle.book_write.specs.Closing.{bank_of}
use Rattle.book_read.specs.Accounts.{Bank, column, banks_in}
use Rattle.book_read.specs.declared.Field.TheVariants.{Code, Flags, Balance, Sublimit}
use Rattle.model.specs.Answers.{Answer}
use Rattle.model.specs.declared.Action.{Action}
use Rattle.model.specs.Kinds.{kind_of}
use Rattle.model.specs.Days.{column_of, opened, opening_answer}
use Rattle.model.specs.Calls.{Call, Engine, judge, opened_by, performed, judged, call}
use Rattle.model.specs.Promises.{Opens, OpensRight}
use Rattle.model.proofs.Refusals.{not_done}
use Rattle.model.proofs.Keeping.{sound_book}
use Rattle.model.proofs.Reading.{readers, column_is}

-- ---- the banks of a book, stored in four columns, are those banks

shifted : (x y z w : ℕ) (a b c d : List ℕ) (i n : ℕ) → each (bank_of (x ∷ a) (y ∷ b) (z ∷ c) (w ∷ d)) (i + 1) n ≡ each (bank_of a b c d) i n
shifted x y z w a b c d i zero = refl
shifted x y z w a b c d i (suc n) =
    let k : i + 1 ≡ suc i = omega arith in
    ap (λ (l : List Bank). bank_of (x ∷ a) (y ∷ b) (z ∷ c) (w ∷ d) (i + 1) ∷ l) (shifted x y z w a b c d (i + 1) n)
    ∙ ap (λ (j : ℕ). bank_of (x ∷ a) (y ∷ b) (z ∷ c) (w ∷ d) j ∷ each (bank_of a b c d) (i + 1) n) k

stored : (bs : List Bank) (a b c d : List ℕ) → each (bank_of (column Code bs ++ a) (column Flags bs ++ b) (column Balance bs ++ c) (column Sublimit bs ++ d)) 0 (length bs) ≡ bs
stored [] a b c d = refl
stored (x ∷ bs) a b c d =
    ap (λ (l : List Bank). x ∷ l) (shifted _ _ _ _ (column Code bs ++ a) (column Flags bs ++ b) (column Balance bs ++ c) (column Sublimit bs ++ d) 0 (length bs) ∙ stored bs a b c d)

banks_stored : (bs : List Bank) → length bs ≤ 64 → each (bank_of (column_of Code bs) (column_of Flags bs) (column_of Balance bs) (column_of Sublimit bs)) 0 (length bs) ≡ bs
banks_stored bs h = rw (column_is Code bs h, column_is Flags bs h, column_is Balance bs h, column_is Sublimit bs h) (stored bs _ _ _ _)

module _ (e : Engine) (c : Call) where
  opens_right : opening_answer e.state.day c.asked.input ≡ Ok tt → Opens e c.asked.clock c.asked.input (opened e.state c.asked.clock c.asked.input)
  unfolding opened
  opens_right h = record {
    day = refl;
    streams = refl;
    count = refl;
    banks = banks_stored (banks_in c.asked.input) (readers.books c.asked.input (sound_book e.state c.asked.input h)).house.few_banks;
    batches = refl;
    known = refl;
  }

  opened_right : (r : Answer) → opening_answer e.state.day c.asked.input ≡ r → (opened_by r e c).answer ≡ Ok tt → Opens e c.asked.clock c.asked.input (opened_by r e c).engine.state
  opened_right (Ok tt) h d = opens_right h
  opened_right (Err q) h d = not_done (sym d)

  judged_opens : (j : Answer) → OpensRight e c (judged j e c)
  judged_opens (Ok tt) x h =
      subst (λ (z : Action). (performed (kind_of z) e c).answer ≡ Ok tt → Opens e c.asked.clock c.asked.input (performed (kind_of z) e c).engine.state) (sym x)
      (opened_right (opening_answer e.state.day c.asked.input) refl) h
  judged_opens (Err q) x h = not_done (sym h)

  pub call_opens : OpensRight e c (call e c)
  unfolding call
  call_opens = judged_opens (judge e.state c)
