-- Joining one by one, each behind all that are not later than it, is joining minute by minute.
use Prim.Native.Nat.{ℕ, zero, suc, ◌+◌, ◌≤◌, ◌<◌}
use mathlib.Core.Path.{◌≡◌, refl, sym, ap, ◌∙◌}
use mathlib.Core.Bool.{true}
use mathlib.Core.List.{List, [], ◌∷◌, ◌++◌, append_assoc, append-nil}
use native.Mathlib.Omega.{arith}
use lib.Dec.{eqb}
use borrow.Author.Tests.{eqb-true, eqb-false, ne_eqb, lt-ltb, le-ltb}
use Rattle.queue.specs.Promise.{All}
use Rattle.queue.proofs.MemoryLaws.{by_bool}
use Rattle.queue.proofs.Trail.{All-append}
use Rattle.model.specs.Joining.{keep, insert, by_time}
use Rattle.model.specs.Waiting.{minute_by_minute}
use Rattle.model.proofs.Keeps.{keep_append}

module _ (time : ℕ → ℕ) where
  -- behind all that are not later, before all that are
  insert_behind : (p : ℕ) (l r : List ℕ) → All (λ q. time q ≤ time p) l → insert time p (l ++ r) ≡ l ++ insert time p r
  unfolding insert
  insert_behind p [] r h = refl
  insert_behind p (x ∷ l) r h = rw (le-ltb (time p) (time x) h.0) (ap (λ (y : List ℕ). x ∷ y) (insert_behind p l r h.1))

  insert_before : (p : ℕ) (r : List ℕ) → All (λ q. time p < time q) r → insert time p r ≡ p ∷ r
  unfolding insert
  insert_before p [] h = refl
  insert_before p (x ∷ r) h = rw (lt-ltb (time p) (time x) h.0)

  at_minute : (m : ℕ) (ps : List ℕ) → All (λ q. time q ≡ m) (keep (λ p. eqb (time p) m) ps)
  unfolding keep
  at_minute m [] = tt
  at_minute m (x ∷ ps) = by_bool (eqb (time x) m) (λ e. rw e (eqb-true (time x) m e, at_minute m ps)) (λ e. rw e (at_minute m ps))

  all_map : (P Q : ℕ → Type 0) (l : List ℕ) → ((q : ℕ) → P q → Q q) → All P l → All Q l
  all_map P Q [] f h = tt
  all_map P Q (x ∷ l) f h = (f x h.0, all_map P Q l f h.1)

  from_minute : (m n : ℕ) (ps : List ℕ) → All (λ q. m ≤ time q) (minute_by_minute time m n ps)
  unfolding minute_by_minute
  from_minute m zero ps = tt
  from_minute m (suc n) ps =
      All-append (λ q. m ≤ time q) (keep (λ p. eqb (time p) m) ps) (minute_by_minute time (m + 1) n ps)
      (all_map (λ q. time q ≡ m) (λ q. m ≤ time q) (keep (λ p. eqb (time p) m) ps) (λ q e. omega arith) (at_minute m ps))
      (all_map (λ q. m + 1 ≤ time q) (λ q. m ≤ time q) (minute_by_minute time (m + 1) n ps) (λ q e. omega arith) (from_minute (m + 1) n ps))

  -- one more at the end of the list
  one_later : (m : ℕ) (ps : List ℕ) (p : ℕ) → (time p ≡ m → ⊥) → keep (λ q. eqb (time q) m) (ps ++ (p ∷ [])) ≡ keep (λ q. eqb (time q) m) ps
  unfolding keep
  one_later m ps p h = keep_append (λ q. eqb (time q) m) ps (p ∷ []) ∙ rw (ne_eqb (time p) m h) (append-nil (keep (λ q. eqb (time q) m) ps))

  before_all : (m n : ℕ) (ps : List ℕ) (p : ℕ) → time p < m → minute_by_minute time m n (ps ++ (p ∷ [])) ≡ minute_by_minute time m n ps
  unfolding minute_by_minute
  before_all m zero ps p h = refl
  before_all m (suc n) ps p h =
      ap (λ (l : List ℕ). l ++ minute_by_minute time (m + 1) n (ps ++ (p ∷ []))) (one_later m ps p (λ e. omega arith))
      ∙ ap (λ (l : List ℕ). keep (λ q. eqb (time q) m) ps ++ l) (before_all (m + 1) n ps p (omega arith))

  one_now : (m : ℕ) (ps : List ℕ) (p : ℕ) → eqb (time p) m ≡ true → keep (λ q. eqb (time q) m) (ps ++ (p ∷ [])) ≡ keep (λ q. eqb (time q) m) ps ++ (p ∷ [])
  unfolding keep
  one_now m ps p e = keep_append (λ q. eqb (time q) m) ps (p ∷ []) ∙ rw e refl

  inserted : (m n : ℕ) (ps : List ℕ) (p : ℕ) → m ≤ time p → time p < m + n → insert time p (minute_by_minute time m n ps) ≡ minute_by_minute time m n (ps ++ (p ∷ []))
  unfolding minute_by_minute keep
  inserted m zero ps p l h = absurd (omega arith)
  inserted m (suc n) ps p l h =
      let k : List ℕ = keep (λ q. eqb (time q) m) ps in
      let rest : List ℕ = minute_by_minute time (m + 1) n ps in
      let behind = insert_behind p k rest (all_map (λ q. time q ≡ m) (λ q. time q ≤ time p) k (λ q e. omega arith) (at_minute m ps)) in
      by_bool (eqb (time p) m)
      (λ e. let d : time p ≡ m = eqb-true (time p) m e in
      behind
      ∙ ap (λ (x : List ℕ). k ++ x) (insert_before p rest (all_map (λ q. m + 1 ≤ time q) (λ q. time p < time q) rest (λ q i. omega arith) (from_minute (m + 1) n ps)))
      ∙ sym (ap (λ (x : List ℕ). x ++ minute_by_minute time (m + 1) n (ps ++ (p ∷ []))) (one_now m ps p e)
      ∙ ap (λ (x : List ℕ). (k ++ (p ∷ [])) ++ x) (before_all (m + 1) n ps p (omega arith))
      ∙ append_assoc k (p ∷ []) rest))
      (λ e. let d = eqb-false (time p) m e in
      behind
      ∙ ap (λ (x : List ℕ). k ++ x) (inserted (m + 1) n ps p (omega arith) (omega arith))
      ∙ sym (ap (λ (x : List ℕ). x ++ minute_by_minute time (m + 1) n (ps ++ (p ∷ []))) (one_later m ps p d)))

  none_yet : (m n : ℕ) → minute_by_minute time m n [] ≡ []
  unfolding minute_by_minute keep
  none_yet m zero = refl
  none_yet m (suc n) = none_yet (m + 1) n

  in_turn : (n : ℕ) (qs ps : List ℕ) → All (λ p. time p < n) ps → by_time time (minute_by_minute time 0 n qs) ps ≡ minute_by_minute time 0 n (qs ++ ps)
  unfolding by_time
  in_turn n qs [] h = sym (ap (minute_by_minute time 0 n) (append-nil qs))
  in_turn n qs (p ∷ ps) h =
      ap (λ (l : List ℕ). by_time time l ps) (inserted 0 n qs p (omega arith) (omega (arith, h.0)))
      ∙ in_turn n (qs ++ (p ∷ [])) ps h.1
      ∙ ap (minute_by_minute time 0 n) (append_assoc qs (p ∷ []) ps)

  pub by_minutes : (n : ℕ) (ps : List ℕ) → All (λ p. time p < n) ps → by_time time [] ps ≡ minute_by_minute time 0 n ps
  by_minutes n ps h = ap (λ (l : List ℕ). by_time time l ps) (sym (none_yet 0 n)) ∙ in_turn n [] ps h
