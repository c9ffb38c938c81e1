-- A sub-limit change, and changes that are refused.
use Rattle.std.specs.Prelude.{Option, Some, None, Ok, Err}
use Prim.Native.Nat.{ℕ, ◌≤◌, ◌<◌}
use mathlib.Core.Path.{◌≡◌, refl, sym, ap, ◌∙◌}
use mathlib.Core.List.{List, [], map}
use borrow.Author.Tests.{le-leb, lt-leb}
use lib.Dec.{eqb}
use lib.ListN.{set}
use Rattle.chars.specs.declared.Refusal.{Refusal}
use Rattle.chars.specs.declared.Refusal.TheVariants.{OutOfRange, UnknownBank}
use Rattle.settle.specs.Settlement.{accounts}
use Rattle.book_read.specs.Book.{most_money}
use Rattle.queue.specs.Memory.{wake}
use Rattle.queue.specs.Promise.{sublimited}
use Rattle.model.specs.State.{State}
use Rattle.model.specs.Messages.{bank_place, untouched}
use Rattle.model.specs.Changes.{sub_limit}
use Rattle.model.specs.Calls.{woken}
use Rattle.model.proofs.Seeking.{bank_below}
use Rattle.tables.specs.Seeking.{found_by}
use Rattle.call_plan.specs.rules.Steps.{banks_house}
use Rattle.call_plan.proofs.rules.Meets.{bank_any}
use Rattle.call_change.specs.Changing.{Changed}

pub untouched_so : (s : State) (f : Refusal) (sublimits m : List ℕ) → s.books.sublimits ≡ sublimits → Changed s (untouched s f) (Err f) s.batches sublimits m m
unfolding woken
untouched_so s f sublimits m e = record {
  answered = refl;
  batches = refl;
  books = ap (λ (l : List ℕ). accounts s.books.balances l) (sym e);
  known = refl;
  replies = refl;
  memory = refl;
}

module _ (banks : ℕ) (codes : List ℕ) (code : ℕ) (r : Option ℕ) (is : found_by r ≡ bank_place (banks_house banks codes []) code) where
  -- the bank in the house of a state
  pub bank_there : (s : State) → s.house.banks ≡ banks → s.house.codes ≡ codes → bank_place s.house code ≡ found_by r
  bank_there s b c = sym (bank_any s.house code) ∙ rw (b, c) (sym is)

  pub bank_inside : (k : ℕ) → r ≡ Some k → k < banks
  bank_inside k e = bank_below (banks_house banks codes []) code k (sym is ∙ rw e)

  module _ (cents : ℕ) (sublimits m : List ℕ) where
    pub sublimit_unknown : r ≡ None
        → (s : State) → s.house.banks ≡ banks → s.house.codes ≡ codes → s.books.sublimits ≡ sublimits
        → Changed s (sub_limit s code cents) (Err UnknownBank) s.batches sublimits m m
    unfolding sub_limit
    sublimit_unknown e s b c l = rw (bank_there s b c, e) (untouched_so s UnknownBank sublimits m l)

    pub sublimit_out : (k : ℕ) → r ≡ Some k → 6400000000000000 < cents
        → (s : State) → s.house.banks ≡ banks → s.house.codes ≡ codes → s.books.sublimits ≡ sublimits
        → Changed s (sub_limit s code cents) (Err OutOfRange) s.batches sublimits m m
    unfolding sub_limit
    sublimit_out k e h s b c l = rw (bank_there s b c, e, lt-leb cents most_money h) (untouched_so s OutOfRange sublimits m l)

    pub sublimit_set : (k : ℕ) → r ≡ Some k → cents ≤ 6400000000000000 → (m' : List ℕ) → m' ≡ map (wake (eqb k)) m
        → (s : State) → s.house.banks ≡ banks → s.house.codes ≡ codes → s.books.sublimits ≡ sublimits
        → Changed s (sub_limit s code cents) (Ok tt) s.batches (set sublimits k cents) m m'
    unfolding sub_limit sublimited woken
    sublimit_set k e h m' f s b c l =
        rw (bank_there s b c, e, le-leb cents most_money h) (record {
          answered = refl;
          batches = refl;
          books = ap (λ (y : List ℕ). accounts s.books.balances (set y k cents)) (sym l);
          known = refl;
          replies = refl;
          memory = f;
        })
