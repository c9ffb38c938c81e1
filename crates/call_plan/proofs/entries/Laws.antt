-- Laws of looking through remembered entries once, and of noting one.
use Prim.Native.Nat.{ℕ, suc, ◌+◌, ◌-◌, ◌*◌, ◌≤◌, ◌<◌}
use mathlib.Core.Path.{◌≡◌, sym, ◌∙◌}
use mathlib.Core.Bool.{Bool, true, false}
use mathlib.Core.List.{List, [], ◌∷◌}
use native.Mathlib.Omega.{arith}
use lib.ListN.{set, take, drop}
use lib.Seq.{sets}
use Rattle.codes.specs.declared.Code.{Code}
use Rattle.queue.proofs.MemoryLaws.{by_bool}
use Rattle.model.specs.State.{Found, at, nowhere, Entry}
use Rattle.model.specs.Memory.{is_used, is_vacant, vacant}
use Rattle.std.specs.Prelude.{Option, Some, None}
use Rattle.call_plan.specs.declared.entries.Looked.TheVariants.{Used, Free, Full}
use Rattle.tables.specs.Rows.{entry_in, entries_in}
use Rattle.tables.proofs.MemoryLaws.{vacant_rows, vacant_start, vacant_end, vacant_here, vacant_on}
use Rattle.call_plan.specs.entries.Looking.{Looks, lowest_of}

-- ---- the place found so far

-- the lowest free place: the one found before row i, or the first from there on
abbrev pub so_far : (today n i : ℕ) → Option ℕ → List ℕ → Found
so_far today n i (Some p) t = at p
so_far today n i None t = vacant_rows today n i t

pub far_start : (today n : ℕ) (t : List ℕ) → vacant today (entries_in n t) ≡ so_far today n 0 None t
far_start today n t = vacant_start today n t

module _ (t : List ℕ) (today n i : ℕ) (found : Option ℕ) {x : Found} (inv : x ≡ so_far today n i found t) where
  pub far_none : n ≤ i → found ≡ None → nowhere ≡ x
  far_none h e = vacant_end t today n i {x = x} (inv ∙ rw e) h

  pub far_some : (p : ℕ) → found ≡ Some p → at p ≡ x
  far_some p e = sym (inv ∙ rw e)

pub far_on : (t : List ℕ) (today n i : ℕ) (found : Option ℕ) {x : Found} → x ≡ so_far today n i found t
    → (v : Bool) (f : Option ℕ) → i < n → v ≡ is_vacant today (entry_in (take (i * 3 + 3 - i * 3) (drop (i * 3) t)))
    → f ≡ lowest_of found i v → x ≡ so_far today n (i + 1) f t
far_on t today n i (Some p) inv v f more is so = inv ∙ rw so
far_on t today n i None inv v f more is so =
    by_bool v
    (λ h. let k : f ≡ Some i = so ∙ rw h in rw k (sym (vacant_here t today n i inv v more is h)))
    (λ h. let k : f ≡ None = so ∙ rw h in rw k (vacant_on t today n i inv v more is h))

-- ---- what is answered

pub looked_used : (today : ℕ) (code : Code) (es : List Entry) → true ≡ is_used today code es → Looks today code es Used
looked_used today code es h = record { used = h; free = λ z. let e : ◌≡◌ {A = ℕ} 0 1 = cc in absurd (omega arith) }

pub looked_none : (today : ℕ) (code : Code) (es : List Entry) → false ≡ is_used today code es → nowhere ≡ vacant today es → Looks today code es Full
looked_none today code es h f = record { used = h; free = λ z. f }

pub looked_free : (today : ℕ) (code : Code) (es : List Entry) (p : ℕ) → false ≡ is_used today code es → at p ≡ vacant today es
    → Looks today code es (Free p)
looked_free today code es p h f = record { used = h; free = λ z. f }

-- ---- noting

pub stored_three : (t : List ℕ) (a x y z : ℕ) → set (set (set t a x) (a + 1) y) (a + 2) z ≡ sets t a (x ∷ y ∷ z ∷ [])
stored_three t a x y z =
    let e : a + 1 ≡ suc a = omega arith in
    let f : a + 2 ≡ suc (suc a) = omega arith in
    rw (e, f)
