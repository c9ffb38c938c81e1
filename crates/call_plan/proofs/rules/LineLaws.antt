-- One payment, and the payments of a message.
use Prim.Native.Nat.{ℕ, zero, suc, ◌+◌, ◌-◌, ◌*◌, ◌≤◌, ◌<◌}
use mathlib.Core.Path.{◌≡◌, refl, sym, ap, subst, ◌∙◌}
use mathlib.Core.Bool.{cond}
use mathlib.Core.List.{List, [], ◌∷◌}
use native.Mathlib.Omega.{arith}
use native.Mathlib.Numerals.{add-one}
use borrow.Author.Tests.{eq-eqb, ne_eqb}
use lib.ListN.{length, get_or, set, take, drop, drop_of_length-le}
use lib.Seq.{length-take-le, drop-cons, get_or-take}
use Rattle.chars.specs.declared.Refusal.{Refusal}
use Rattle.chars.specs.declared.Refusal.TheVariants.{UnknownBank, SuspendedBank, Malformed}
use Rattle.request_read.specs.declared.payments.Payment.{Payment as Line}
use Rattle.model.specs.Answers.{Answer}
use Rattle.model.specs.State.{Found, at, nowhere, on_found}
use Rattle.model.specs.Messages.{bank_place, is_suspended, is_member}
use Rattle.model.proofs.Seeking.{bank_below}
use Rattle.tables.specs.Seeking.{found_by}
use Rattle.std.specs.Option.{ok_or}
use Rattle.std.specs.Prelude.{Result, Ok, Err, Option, Some}
use Rattle.call_plan.proofs.rules.Asked.{some_of}
use Rattle.call_plan.specs.rules.Steps.{banks_house, standing_of, line_on, taken_on, lines_on, marked}
use Rattle.queue.proofs.MemoryLaws.{by_bool}

-- ---- a bank that is there

pub bank_inside : (banks : ℕ) (codes : List ℕ) (code : ℕ) (s : Option ℕ) (f : Refusal) (p : ℕ) {r : Result ℕ Refusal} → found_by s ≡ bank_place (banks_house banks codes []) code
    → r ≡ ok_or s f → r ≡ Ok p → p < banks
bank_inside banks codes code s f p is e g =
    let t : s ≡ Some p = some_of s f e g in
    bank_below (banks_house banks codes []) code p (sym is ∙ rw t)

-- ---- the fourth

abbrev Below : ℕ → Result ℕ Refusal → Type 0
Below banks (Ok q) = q < banks
Below banks (Err f) = Unit {0}

standing_inside : (banks : ℕ) (codes flags : List ℕ) (stream code : ℕ) → Below banks (standing_of banks codes flags stream code)
unfolding standing_of
standing_inside banks codes flags stream code = go (bank_place (banks_house banks codes []) code) refl
  where
    go : (f : Found) → bank_place (banks_house banks codes []) code ≡ f
        → Below banks (on_found f (Err UnknownBank) (λ q. cond (is_suspended (banks_house 0 [] flags) q) (Err SuspendedBank) (cond (is_member (banks_house 0 [] flags) stream q) (Ok q) (Err UnknownBank))))
    go nowhere f = tt
    go (at q) f =
        by_bool (is_suspended (banks_house 0 [] flags) q)
        (λ t. rw t tt)
        (λ t. by_bool (is_member (banks_house 0 [] flags) stream q)
        (λ u. rw (t, u) (bank_below (banks_house banks codes []) code q f))
        (λ u. rw (t, u) tt))

pub good_below : (banks : ℕ) (codes flags : List ℕ) (stream code : ℕ) (s : Result ℕ Refusal) (p : ℕ) → s ≡ standing_of banks codes flags stream code → s ≡ Ok p → p < banks
good_below banks codes flags stream code s p is e = subst (λ (x : Result ℕ Refusal). Below banks x) (sym is ∙ e) (standing_inside banks codes flags stream code)

module _ (banks : ℕ) (codes flags : List ℕ) (stream code : ℕ) (s : Result ℕ Refusal) (is : s ≡ standing_of banks codes flags stream code) where
  pub taken_below : (m : List ℕ) (p : ℕ) → s ≡ Ok p → banks ≤ length m → p < length m
  taken_below m p e k = let h : p < banks = good_below banks codes flags stream code s p is e in omega arith

  module _ (m : List ℕ) (p : ℕ) (e : s ≡ Ok p) where
    pub taken_answer : (get_or m p 0 ≡ 0 → ⊥) → Err Malformed ≡ line_on (standing_of banks codes flags stream code) m
    taken_answer h = rw (sym is, e, ne_eqb (get_or m p 0) 0 h)

    pub taken_marks : (get_or m p 0 ≡ 0 → ⊥) → m ≡ taken_on (standing_of banks codes flags stream code) m
    taken_marks h = rw (sym is, e, ne_eqb (get_or m p 0) 0 h)

    pub done_answer : get_or m p 0 ≡ 0 → (Ok tt) ≡ line_on (standing_of banks codes flags stream code) m
    done_answer h = rw (sym is, e, eq-eqb (get_or m p 0) 0 h)

    pub done_marks : get_or m p 0 ≡ 0 → set m p 1 ≡ taken_on (standing_of banks codes flags stream code) m
    done_marks h = rw (sym is, e, eq-eqb (get_or m p 0) 0 h)

-- ---- marks

pub set_past : (m : List ℕ) (p v : ℕ) → length m ≤ p → m ≡ set m p v
set_past [] zero v h = refl
set_past [] (suc p) v h = refl
set_past (x ∷ m) zero v h = absurd (omega arith)
set_past (x ∷ m) (suc p) v h = ap (λ (l : List ℕ). x ∷ l) (set_past m p v (omega arith))

-- the row's payments from i on are marked
abbrev pub marked_from : (row : List ℕ) (n : ℕ) (m : List ℕ) (i : ℕ) → List ℕ
marked_from row n m i = marked row (49 + 3 * i) (n - i) m

pub marked_start : (row : List ℕ) (n : ℕ) (m : List ℕ) → m ≡ marked_from row n m n
unfolding marked
marked_start row n m = let e : n - n ≡ 0 = omega arith in rw e

pub marked_on : (row : List ℕ) (n : ℕ) (m : List ℕ) (i : ℕ) (l l' : List ℕ) → 0 < i → i ≤ n → l ≡ marked_from row n m i
    → l' ≡ set l (get_or row (49 + 3 * (i - 1)) 0) 1 → l' ≡ marked_from row n m (i - 1)
unfolding marked
marked_on row n m i l l' a b e f =
    let g : n - (i - 1) ≡ suc (n - i) = omega arith in
    let h : 49 + 3 * (i - 1) + 3 ≡ 49 + 3 * i = omega arith in
    f ∙ rw (g, h, sym e)

pub marked_end : (row : List ℕ) (n : ℕ) (m : List ℕ) (i : ℕ) {l : List ℕ} → i ≤ 0 → l ≡ marked_from row n m i → l ≡ marked row 49 n m
marked_end row n m i h e =
    let z : i ≡ 0 = omega arith in
    let g : n - 0 ≡ n = omega arith in
    e ∙ ap (λ (j : ℕ). marked_from row n m j) z ∙ rw g

-- ---- the payments of a message

pub line_cut : (ls : List Line) (n i : ℕ) (d : Line) → i < n → n ≤ 10 → length ls ≡ 10 → drop i (take n ls) ≡ get_or ls i d ∷ drop (i + 1) (take n ls)
line_cut ls n i d h k e =
    let w : n ≤ length ls = omega arith in
    let g : length (take n ls) ≡ n = length-take-le n ls w in
    rw (add-one i) (drop-cons (take n ls) i d (omega arith) ∙ rw (get_or-take n ls i d h))

module _ (banks : ℕ) (codes flags : List ℕ) (stream : ℕ) (ls : List Line) (n i : ℕ) (m : List ℕ) {x : Answer} (inv : x ≡ lines_on banks codes flags stream m (drop i (take n ls))) where
  pub lines_end : n ≤ i → n ≤ 10 → length ls ≡ 10 → (Ok tt) ≡ x
  unfolding lines_on
  lines_end h k e =
      let w : n ≤ length ls = omega arith in
      let g : length (take n ls) ≡ n = length-take-le n ls w in
      let d : drop i (take n ls) ≡ [] = drop_of_length-le (take n ls) {i = i} (omega arith) in
      sym (inv ∙ rw d)

  module _ (h : i < n) (k : n ≤ 10) (e : length ls ≡ 10) (d : Line) (a : Answer) (is : a ≡ line_on (standing_of banks codes flags stream (get_or ls i d).bank.number) m) where
    pub lines_here : (f : Refusal) → a ≡ Err f → Err f ≡ x
    unfolding lines_on
    lines_here f g = sym (inv ∙ rw (line_cut ls n i d h k e, sym is, g))

    pub lines_on_lem : (m' : List ℕ) → a ≡ Ok tt → m' ≡ taken_on (standing_of banks codes flags stream (get_or ls i d).bank.number) m
        → x ≡ lines_on banks codes flags stream m' (drop (i + 1) (take n ls))
    unfolding lines_on
    lines_on_lem m' g w = inv ∙ rw (line_cut ls n i d h k e, sym is, g, w)
