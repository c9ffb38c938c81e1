-- What the answers of the book's check mean.
use Rattle.std.specs.Prelude.{Ok, Err}
use Prim.Native.Nat.{ℕ}
use mathlib.Core.Path.{◌≡◌, refl, ◌∙◌, ap}
use mathlib.Core.Bool.{false}
use mathlib.Core.List.{List, [], ◌∷◌, ◌++◌}
use mathlib.Core.Logic.{◌↔◌}
use native.Mathlib.Omega.{arith}
use Rattle.chars.specs.declared.Refusal.{Refusal}
use Rattle.book_read.specs.Block.{Rule, first_broken}
use Rattle.book_read.specs.Book.{book_rules, book_check}
use Rattle.book_read.proofs.Rules.{by_holds, after_sound, breaks}
use Rattle.book_read.proofs.Accepted.{AllHold, all_hold, none_broken}

-- a rule of the list is broken, those before it all hold, and its number is f
pub record First (rs : List Rule) (f : Refusal) : Type 0 where
  pub earlier : List Rule
  pub broken : Rule
  pub later : List Rule
  pub split : rs ≡ earlier ++ (broken ∷ later)
  pub hold : AllHold earlier
  pub fails : broken.holds ≡ false
  pub number : broken.fault ≡ f

first_of : (rs : List Rule) (f : Refusal) → first_broken rs ≡ Err f → First rs f
unfolding first_broken
first_of [] f h = let z : ◌≡◌ {A = ℕ} 0 1 = cc in absurd (omega arith)
first_of (r ∷ rs) f h =
    by_holds r.holds
    (λ e.
    let t = first_of rs f (rw e at h) in
    record {
      earlier = r ∷ t.earlier;
      broken = t.broken;
      later = t.later;
      split = ap (λ (l : List Rule). r ∷ l) t.split;
      hold = (e, t.hold);
      fails = t.fails;
      number = t.number;
    })
    (λ e.
    let same : Err r.fault ≡ Err f = rw e at h in
    record { earlier = []; broken = r; later = rs; split = refl; hold = tt; fails = e; number = cc })

of_first : (rs : List Rule) (f : Refusal) → First rs f → first_broken rs ≡ Err f
of_first rs f t =
    ap first_broken t.split
    ∙ after_sound t.earlier (t.broken ∷ t.later) (none_broken t.earlier t.hold)
    ∙ breaks t.broken.holds t.broken.fault t.later t.fails
    ∙ ap Err t.number

-- each of 11 to 15 is given exactly when its rule is the first to break, and a book is accepted exactly when every rule holds
pub refused_first : (s : List ℕ) (f : Refusal) → (book_check s ≡ Err f) ↔ First (book_rules s) f
unfolding book_check
refused_first s f = (first_of (book_rules s) f, of_first (book_rules s) f)

pub accepted_all : (s : List ℕ) → (book_check s ≡ Ok tt) ↔ AllHold (book_rules s)
unfolding book_check
accepted_all s = (all_hold (book_rules s), none_broken (book_rules s))
