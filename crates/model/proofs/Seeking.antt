-- What is found: laws of seeking and of small lists.
use Prim.Native.Nat.{ℕ, zero, suc, ◌+◌, ◌≤◌, ◌<◌}
use mathlib.Core.Path.{◌≡◌, refl, sym, ◌∙◌}
use mathlib.Core.Bool.{Bool, true, false, false≢true}
use mathlib.Core.List.{List, [], ◌∷◌}
use native.Mathlib.Omega.{arith}
use lib.Dec.{eqb}
use lib.ListN.{set, length, get_or, take}
use Rattle.chars.specs.Words.{member}
use Rattle.queue.proofs.MemoryLaws.{by_bool}
use Rattle.codes.specs.declared.Code.{Code}
use Rattle.book_read.specs.Range.{Each}
use Rattle.model.specs.State.{Found, at, nowhere, seek_from, seek, House, free, Batches, has_bin, batch_of}
use Rattle.model.specs.Messages.{bank_place, waits, assembling, waiting}
use Rattle.model.proofs.Counting.{times, a_member}

pub by_found {ℓ} : {X : Type ℓ} (f : Found) → ((p : ℕ) → f ≡ at p → X) → (f ≡ nowhere → X) → X
by_found (at p) g h = g p refl
by_found nowhere g h = h refl

pub not_found : {X : Type 0} {p : ℕ} → nowhere ≡ at p → X
not_found h = let z : ◌≡◌ {A = ℕ} 0 1 = cc in absurd (omega arith)

-- a place that is found is inside, and answers
pub record Answers {A : Type 0} (is : A → Bool) (l : List A) (d : A) (p : ℕ) : Type 0 where
  pub inside : p < length l
  pub yes : is (get_or l p d) ≡ true

module _ {A : Type 0} (is : A → Bool) (d : A) where
  record From (i : ℕ) (l : List A) (q : ℕ) : Type 0 where
    on : ℕ
    from : q ≡ i + on
    there : Answers is l d on

  seek_from_lem : (i : ℕ) (l : List A) (q : ℕ) → seek_from is i l ≡ at q → From i l q
  unfolding seek_from
  seek_from_lem i [] q h = not_found h
  seek_from_lem i (x ∷ l) q h =
      by_bool (is x)
      (λ e. let g : at i ≡ at q = rw e at h in let k : i ≡ q = cc in record { on = 0; from = omega arith; there = record { inside = omega arith; yes = e } })
      (λ e.
      let g : seek_from is (i + 1) l ≡ at q = rw e at h in
      let r = seek_from_lem (i + 1) l q g in
      record { on = suc r.on; from = omega (arith, r.from); there = record { inside = omega (arith, r.there.inside); yes = r.there.yes } })

  pub seek_answers : (l : List A) (p : ℕ) → seek is l ≡ at p → Answers is l d p
  seek_answers l p h =
      let r = seek_from_lem 0 l p h in
      let e : p ≡ r.on = omega (arith, r.from) in
      rw e r.there

-- ---- a bank's place is below the bank count

take_most : (n : ℕ) (l : List ℕ) → length (take n l) ≤ n
take_most zero l = omega arith
take_most (suc n) [] = omega arith
take_most (suc n) (x ∷ l) = omega (arith, take_most n l)

pub bank_below : (h : House) (code p : ℕ) → bank_place h code ≡ at p → p < h.banks
unfolding bank_place
bank_below h code p e = omega (arith, (seek_answers (eqb code) 0 (take h.banks h.codes) p e).inside, take_most h.banks h.codes)

-- ---- the batch of a BIN

pub no_times : (p : ℕ) (l : List ℕ) → member p l ≡ false → times p l ≡ 0
no_times p l h = go (times p l) refl
  where
    go : (n : ℕ) → times p l ≡ n → n ≡ 0
    go zero e = refl
    go (suc n) e = absurd (false≢true (sym h ∙ a_member p l (omega arith)))

pub record Assembling (b : Batches) (bin : Code) (p : ℕ) : Type 0 where
  pub there : Answers (has_bin bin) b.places free p
  pub idle : waits b p ≡ false

pub record Waiting (b : Batches) (bin : Code) (p : ℕ) : Type 0 where
  pub there : Answers (has_bin bin) b.places free p
  pub busy : waits b p ≡ true

module _ (b : Batches) (bin : Code) where
  pub is_assembling : (p : ℕ) → assembling b bin ≡ at p → Assembling b bin p
  unfolding assembling
  is_assembling p h =
      by_found (batch_of b bin)
      (λ q e.
      by_bool (waits b q)
      (λ w. let g : nowhere ≡ at p = rw (e, w) at h in not_found g)
      (λ w. let g : at q ≡ at p = rw (e, w) at h in let k : q ≡ p = cc in rw (sym k) (record { there = seek_answers (has_bin bin) free b.places q e; idle = w })))
      (λ e. let g : nowhere ≡ at p = rw e at h in not_found g)

  pub is_waiting : (p : ℕ) → waiting b bin ≡ at p → Waiting b bin p
  unfolding waiting
  is_waiting p h =
      by_found (batch_of b bin)
      (λ q e.
      by_bool (waits b q)
      (λ w. let g : at q ≡ at p = rw (e, w) at h in let k : q ≡ p = cc in rw (sym k) (record { there = seek_answers (has_bin bin) free b.places q e; busy = w }))
      (λ w. let g : nowhere ≡ at p = rw (e, w) at h in not_found g))
      (λ e. let g : nowhere ≡ at p = rw e at h in not_found g)

-- ---- one of a list is another

pub each_set : {A : Type 0} (P : A → Type 0) (l : List A) (p : ℕ) (x : A) → Each P l → P x → Each P (set l p x)
each_set P [] p x h y = tt
each_set P (z ∷ l) zero x h y = (y, h.1)
each_set P (z ∷ l) (suc p) x h y = (h.0, each_set P l p x h.1 y)
