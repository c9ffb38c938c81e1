-- What is told of a held batch: its bank is the one that a try stops at, and its money is just what is lacking.
use mathlib.Core.Path.{◌≡◌, refl, sym, ◌∙◌}
use mathlib.Core.Bool.{Bool, true, false}
use mathlib.Core.List.{List, [], ◌∷◌}
use Prim.Native.Nat.{ℕ, ◌+◌, ◌<◌}
use native.Mathlib.Omega.{arith}
use lib.Dec.{leb}
use borrow.Author.Tests.{leb-true, leb-false, le-leb, lt-leb}
use Rattle.chars.specs.Words.{bytes, member}
use Rattle.settle.specs.Cover.{esa, covered}
use Rattle.settle.specs.Payments.{Need}
use Rattle.settle.specs.Settlement.{Accounts, is_covered, first_uncovered}
use Rattle.settle.specs.declared.Verdict.TheVariants.{Stops}
use Rattle.queue_explain.specs.Holding.{word_most, short_of, holds, held_by, verdict_of}

holds_bank : (a : Accounts) (n : Need) → verdict_of (holds a n) ≡ Stops n.bank
unfolding holds
holds_bank a n = go (member (esa n.letters) (bytes "P")) (member (esa n.letters) (bytes " A")) refl refl
  where
    go : (p q : Bool) → member (esa n.letters) (bytes "P") ≡ p → member (esa n.letters) (bytes " A") ≡ q → verdict_of (holds a n) ≡ Stops n.bank
    go true q e f = rw e
    go false true e f = rw (e, f)
    go false false e f = rw (e, f)

-- the bank is the one of `Stops k` of the verdict, and a batch that is free passes
pub held_stops : (a : Accounts) (ns : List Need) → verdict_of (held_by a ns) ≡ first_uncovered a ns
unfolding held_by first_uncovered
held_stops a [] = refl
held_stops a (n ∷ ns) = go (is_covered a n) refl (held_stops a ns)
  where
    go : (r : Bool) → is_covered a n ≡ r → verdict_of (held_by a ns) ≡ first_uncovered a ns → verdict_of (held_by a (n ∷ ns)) ≡ first_uncovered a (n ∷ ns)
    go true e h = rw e h
    go false e h = rw e (holds_bank a n)

-- with so much more on the balance the debit is covered, and with no less
module _ (cents sublimit balance more : ℕ) (told : short_of cents sublimit balance < word_most) where
  just : leb (cents + sublimit) (balance + more) ≡ leb (short_of cents sublimit balance) more
  unfolding short_of
  just = go (leb (short_of cents sublimit balance) more) refl
    where
      go : (r : Bool) → leb (short_of cents sublimit balance) more ≡ r → leb (cents + sublimit) (balance + more) ≡ leb (short_of cents sublimit balance) more
      go true e = le-leb (cents + sublimit) (balance + more) (omega (arith, leb-true (short_of cents sublimit balance) more e)) ∙ sym e
      go false e = lt-leb (cents + sublimit) (balance + more) (omega (arith, leb-false (short_of cents sublimit balance) more e)) ∙ sym e

  pub short_A : (letters : ℕ) → esa letters ≡ 65 → covered letters (balance + more) sublimit cents ≡ leb (short_of cents sublimit balance) more
  unfolding covered
  short_A letters e = rw e just

  pub short_space : (letters : ℕ) → esa letters ≡ 32 → covered letters (balance + more) sublimit cents ≡ leb (short_of cents sublimit balance) more
  unfolding covered
  short_space letters e = rw e just

pub short_P : (cents balance more : ℕ) → short_of cents 0 balance < word_most → (letters sublimit : ℕ) → esa letters ≡ 80 → covered letters (balance + more) sublimit cents ≡ leb (short_of cents 0 balance) more
unfolding covered
short_P cents balance more told letters sublimit e = rw e (let z : cents + 0 ≡ cents = omega arith in rw z at (just cents 0 balance more told))
