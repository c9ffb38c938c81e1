-- "live BINs differ and are remembered", place by place.
use Prim.Native.Nat.{ℕ, zero, suc}
use mathlib.Core.Path.{◌≡◌, refl, sym, ap, ◌∙◌}
use mathlib.Core.Logic.{◌⊎◌, inl, inr}
use mathlib.Core.Bool.{true, false, false≢true}
use mathlib.Core.List.{List, [], ◌∷◌}
use native.Mathlib.Omega.{arith}
use lib.ListN.{get_or, set}
use Rattle.codes.specs.declared.Code.{Code}
use Rattle.queue.proofs.MemoryLaws.{by_bool}
use Rattle.book_read.specs.Range.{Each}
use Rattle.model.specs.State.{same_code, Batch, Place, free, live}
use Rattle.model.specs.Rules.{Unlike, AllUnlike, has, live_bins}
use Rattle.model.proofs.Noting.{same_sym}

-- a live batch with this BIN stands at the place
abbrev pub LiveWith : Place → Code → Type 0
LiveWith free c = ⊥
LiveWith (live b) c = b.bin ≡ c

pub record Binned (rem : List Code) (ps : List Place) : Type 0 where
  pub differ : (p q : ℕ) (c d : Code) → LiveWith (get_or ps p free) c → LiveWith (get_or ps q free) d → same_code c d ≡ true → p ≡ q
  pub known : (p : ℕ) (c : Code) → LiveWith (get_or ps p free) c → has c rem ≡ true

-- ---- from the rules, and back

unlike_at : (c d : Code) (ps : List Place) (q : ℕ) → Unlike c (live_bins ps) → LiveWith (get_or ps q free) d → same_code c d ≡ false
unlike_at c d [] q u l = absurd l
unlike_at c d (free ∷ ps) zero u l = absurd l
unlike_at c d (live b ∷ ps) zero u l = rw l at u.0
unlike_at c d (free ∷ ps) (suc q) u l = unlike_at c d ps q u l
unlike_at c d (live b ∷ ps) (suc q) u l = unlike_at c d ps q u.1 l

at_unlike : (c : Code) (ps : List Place) → ((q : ℕ) (d : Code) → LiveWith (get_or ps q free) d → same_code c d ≡ false) → Unlike c (live_bins ps)
at_unlike c [] h = tt
at_unlike c (free ∷ ps) h = at_unlike c ps (λ q. h (suc q))
at_unlike c (live b ∷ ps) h = (h 0 b.bin refl, at_unlike c ps (λ q. h (suc q)))

all_differ : (ps : List Place) → AllUnlike (live_bins ps) → (p q : ℕ) (c d : Code) → LiveWith (get_or ps p free) c → LiveWith (get_or ps q free) d → same_code c d ≡ true → p ≡ q
all_differ [] u p q c d x y e = absurd x
all_differ (free ∷ ps) u zero q c d x y e = absurd x
all_differ (free ∷ ps) u (suc p) zero c d x y e = absurd y
all_differ (free ∷ ps) u (suc p) (suc q) c d x y e = ap suc (all_differ ps u p q c d x y e)
all_differ (live b ∷ ps) u zero zero c d x y e = refl
all_differ (live b ∷ ps) u zero (suc q) c d x y e = absurd (false≢true (sym (unlike_at c d ps q (rw x at u.0) y) ∙ e))
all_differ (live b ∷ ps) u (suc p) zero c d x y e = absurd (false≢true (sym (unlike_at d c ps p (rw y at u.0) x) ∙ same_sym d c ∙ e))
all_differ (live b ∷ ps) u (suc p) (suc q) c d x y e = ap suc (all_differ ps u.1 p q c d x y e)

zero_suc : {X : Type 0} {n : ℕ} → 0 ≡ suc n → X
zero_suc e = absurd (omega arith)

differ_all : (ps : List Place) → ((p q : ℕ) (c d : Code) → LiveWith (get_or ps p free) c → LiveWith (get_or ps q free) d → same_code c d ≡ true → p ≡ q) → AllUnlike (live_bins ps)
differ_all [] h = tt
differ_all (free ∷ ps) h = differ_all ps (λ p q c d x y e. let g : suc p ≡ suc q = h (suc p) (suc q) c d x y e in omega arith)
differ_all (live b ∷ ps) h = (
  at_unlike b.bin ps (λ q d l. by_bool (same_code b.bin d) (λ e. zero_suc (h 0 (suc q) b.bin d refl l e)) (λ e. e)),
  differ_all ps (λ p q c d x y e. let g : suc p ≡ suc q = h (suc p) (suc q) c d x y e in omega arith),
)

each_known : (rem : List Code) (ps : List Place) → Each (λ c. has c rem ≡ true) (live_bins ps) → (p : ℕ) (c : Code) → LiveWith (get_or ps p free) c → has c rem ≡ true
each_known rem [] h p c l = absurd l
each_known rem (free ∷ ps) h zero c l = absurd l
each_known rem (free ∷ ps) h (suc p) c l = each_known rem ps h p c l
each_known rem (live b ∷ ps) h zero c l = rw l at h.0
each_known rem (live b ∷ ps) h (suc p) c l = each_known rem ps h.1 p c l

known_each : (rem : List Code) (ps : List Place) → ((p : ℕ) (c : Code) → LiveWith (get_or ps p free) c → has c rem ≡ true) → Each (λ c. has c rem ≡ true) (live_bins ps)
known_each rem [] h = tt
known_each rem (free ∷ ps) h = known_each rem ps (λ p. h (suc p))
known_each rem (live b ∷ ps) h = (h 0 b.bin refl, known_each rem ps (λ p. h (suc p)))

pub binned : (rem : List Code) (ps : List Place) → AllUnlike (live_bins ps) → Each (λ c. has c rem ≡ true) (live_bins ps) → Binned rem ps
binned rem ps u h = record { differ = all_differ ps u; known = each_known rem ps h }

pub bins_differ : (rem : List Code) (ps : List Place) → Binned rem ps → AllUnlike (live_bins ps)
bins_differ rem ps h = differ_all ps h.differ

pub bins_known : (rem : List Code) (ps : List Place) → Binned rem ps → Each (λ c. has c rem ≡ true) (live_bins ps)
bins_known rem ps h = known_each rem ps h.known

-- ---- places that change

-- more is remembered
pub binned_more : (rem rem' : List Code) (ps : List Place) → Binned rem ps → ((c : Code) → has c rem ≡ true → has c rem' ≡ true) → Binned rem' ps
binned_more rem rem' ps h f = record { differ = h.differ; known = λ p c l. f c (h.known p c l) }

-- each live place was one with the same BIN
pub binned_less : (rem : List Code) (ps qs : List Place) → Binned rem ps → ((p : ℕ) (c : Code) → LiveWith (get_or qs p free) c → LiveWith (get_or ps p free) c) → Binned rem qs
binned_less rem ps qs h f = record { differ = λ p q c d x y e. h.differ p q c d (f p c x) (f q d y) e; known = λ p c l. h.known p c (f p c l) }

-- what stands at a place after a change
set_live : (ps : List Place) (p q : ℕ) (x : Place) (c : Code) → LiveWith (get_or (set ps p x) q free) c → ((q ≡ p) × LiveWith x c) ⊎ ((q ≡ p → ⊥) × LiveWith (get_or ps q free) c)
set_live [] p q x c l = absurd l
set_live (y ∷ ps) zero zero x c l = inl (refl, l)
set_live (y ∷ ps) zero (suc q) x c l = inr ((λ e. omega arith), l)
set_live (y ∷ ps) (suc p) zero x c l = inr ((λ e. omega arith), l)
set_live (y ∷ ps) (suc p) (suc q) x c l = step (set_live ps p q x c l)
  where
    step : ((q ≡ p) × LiveWith x c) ⊎ ((q ≡ p → ⊥) × LiveWith (get_or ps q free) c) → ((suc q ≡ suc p) × LiveWith x c) ⊎ ((suc q ≡ suc p → ⊥) × LiveWith (get_or ps q free) c)
    step (inl h) = inl (ap suc h.0, h.1)
    step (inr h) = inr ((λ e. h.0 (omega arith)), h.1)

pub binned_same : (rem : List Code) (ps : List Place) (p : ℕ) (x : Place) → Binned rem ps → ((c : Code) → LiveWith x c → LiveWith (get_or ps p free) c) → Binned rem (set ps p x)
binned_same rem ps p x h f = binned_less rem ps (set ps p x) h (λ q c l. one q c (set_live ps p q x c l))
  where
    one : (q : ℕ) (c : Code) → ((q ≡ p) × LiveWith x c) ⊎ ((q ≡ p → ⊥) × LiveWith (get_or ps q free) c) → LiveWith (get_or ps q free) c
    one q c (inl h) = rw h.0 (f c h.1)
    one q c (inr h) = h.1

-- a batch with a new BIN
pub binned_new : (rem : List Code) (ps : List Place) (p : ℕ) (b : Batch) → Binned rem ps → has b.bin rem ≡ true → ((q : ℕ) (d : Code) → LiveWith (get_or ps q free) d → same_code b.bin d ≡ false)
    → Binned rem (set ps p (live b))
binned_new rem ps p b h k u = record {
  differ = λ q r c d x y e. pair q r c d e (set_live ps p q (live b) c x) (set_live ps p r (live b) d y);
  known = λ q c l. one q c (set_live ps p q (live b) c l);
}
  where
    At : ℕ → Code → Type 0
    At q c = ((q ≡ p) × LiveWith (live b) c) ⊎ ((q ≡ p → ⊥) × LiveWith (get_or ps q free) c)

    one : (q : ℕ) (c : Code) → At q c → has c rem ≡ true
    one q c (inl g) = rw (sym g.1) k
    one q c (inr g) = h.known q c g.1

    pair : (q r : ℕ) (c d : Code) → same_code c d ≡ true → At q c → At r d → q ≡ r
    pair q r c d e (inl f) (inl g) = f.0 ∙ sym g.0
    pair q r c d e (inl f) (inr g) = absurd (false≢true (sym (rw f.1 at (u r d g.1)) ∙ e))
    pair q r c d e (inr f) (inl g) = absurd (false≢true (sym (rw g.1 at (u q c f.1)) ∙ same_sym d c ∙ e))
    pair q r c d e (inr f) (inr g) = h.differ q r c d f.1 g.1 e
