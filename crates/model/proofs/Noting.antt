-- Remembered references and BINs: a new entry in the lowest free place keeps the rules.
use Prim.Native.Nat.{ℕ, zero, suc, ◌+◌, ◌≤◌, ◌<◌}
use mathlib.Core.Path.{◌≡◌, refl, sym, subst, ◌∙◌}
use mathlib.Core.Logic.{inl, inr}
use mathlib.Core.Bool.{Bool, true, false, ◌||◌, ◌&&◌, not, false≢true}
use mathlib.Core.List.{List, [], ◌∷◌}
use native.Mathlib.Omega.{arith}
use lib.Dec.{eqb, leb}
use lib.ListN.{length, get_or, set, length-set}
use borrow.Author.Tests.{eqb-true, eqb-false, eq-eqb, ne_eqb, leb-true, le-leb}
use Rattle.codes.specs.declared.Code.{Code}
use Rattle.dates.specs.Dates.{is_remembered}
pub use Rattle.text_names.proofs.rules.Laws.{same_self}
use Rattle.queue.proofs.MemoryLaws.{by_bool}
use Rattle.codes.specs.Codes.{no_code}
use Rattle.model.specs.State.{at, same_code, no_entry, Entry}
use Rattle.model.specs.Memory.{holds, is_used, is_vacant, vacant, note}
use Rattle.model.specs.Messages.{is_there}
use Rattle.book_read.specs.Range.{Each}
use Rattle.model.specs.Rules.{RightEntry, remembered, Unlike, AllUnlike, has, noted_today}
use Rattle.model.specs.Answered.{times_in, noted_on}
use Rattle.model.proofs.Truth.{or_right, or_false, and_true}
use Rattle.model.proofs.Seeking.{each_set, seek_answers, by_found}

-- ---- codes

eqb_sym : (a b : ℕ) → eqb a b ≡ eqb b a
eqb_sym a b = by_bool (eqb a b) (λ e. e ∙ sym (eq-eqb b a (sym (eqb-true a b e)))) (λ e. e ∙ sym (ne_eqb b a (λ d. eqb-false a b e (sym d))))

pub same_sym : (c d : Code) → same_code c d ≡ same_code d c
same_sym c d = rw (eqb_sym c.high d.high, eqb_sym c.low d.low)

-- ---- an entry is remembered, or its place is free

abbrev counts : ℕ → Entry → Bool
counts today e = not (same_code e.code no_code) && is_remembered e.day today

free_uncounted : (today : ℕ) (e : Entry) → is_vacant today e ≡ true → counts today e ≡ false
free_uncounted today e h = go (same_code e.code no_code) (is_remembered e.day today) h
  where
    go : (x y : Bool) → (x || not y) ≡ true → (not x && y) ≡ false
    go true y h = refl
    go false true h = absurd (false≢true h)
    go false false h = refl

pub today_remembered : (d : ℕ) → is_remembered d d ≡ true
unfolding is_remembered
today_remembered d = rw (le-leb d d (omega arith), le-leb d (d + 14) (omega arith))

-- what a new entry leaves: l is es with the code noted today
pub record Noted (today : ℕ) (code : Code) (es l : List Entry) : Type 0 where
  pub size : length l ≡ length es
  pub entries : (is : Code → Bool) (last : ℕ) → is code ≡ true → today ≤ last → Each (RightEntry is last) es → Each (RightEntry is last) l
  pub once : is_used today code es ≡ false → AllUnlike (remembered today es) → AllUnlike (remembered today l)
  pub one_more : noted_today today l ≡ noted_today today es + 1
  pub this_more : (x : Code) → times_in x (noted_on today l) ≡ times_in x (noted_on today es) + times_in x (code ∷ [])
  pub stays : (c : Code) → has c (remembered today es) ≡ true → has c (remembered today l) ≡ true
  pub there : has code (remembered today l) ≡ true

module _ (today : ℕ) (code : Code) (named : same_code code no_code ≡ false) where
  abbrev new : Entry
  new = record { code = code; day = today }

  new_counts : counts today new ≡ true
  new_counts = rw (named, today_remembered today)

  -- a code that is not used is unlike all that are remembered
  unlike_one : (x : Entry) → counts today x ≡ true → holds today code x ≡ false → same_code x.code code ≡ false
  unlike_one x e h = go (same_code x.code code) (is_remembered x.day today) h (and_true (not (same_code x.code no_code)) (is_remembered x.day today) e).1
    where
      go : (u v : Bool) → (u && v) ≡ false → v ≡ true → u ≡ false
      go true v h e = absurd (false≢true (sym h ∙ e))
      go false v h e = refl

  pub unlike_used : (es : List Entry) → is_used today code es ≡ false → Unlike code (remembered today es)
  unfolding is_used
  unlike_used [] h = tt
  unlike_used (x ∷ es) h =
      let g = or_false (holds today code x) (is_used today code es) h in
      by_bool (counts today x)
      (λ e. rw e (same_sym code x.code ∙ unlike_one x e g.0, unlike_used es g.1))
      (λ e. rw e (unlike_used es g.1))

  unlike_set : (d : Code) (es : List Entry) (p : ℕ) → p < length es → is_vacant today (get_or es p no_entry) ≡ true → same_code d code ≡ false
      → Unlike d (remembered today es) → Unlike d (remembered today (set es p new))
  unlike_set d [] p l v n h = tt
  unlike_set d (x ∷ es) zero l v n h = let g : Unlike d (remembered today es) = rw (free_uncounted today x v) at h in rw new_counts (n, g)
  unlike_set d (x ∷ es) (suc p) l v n h =
      by_bool (counts today x)
      (λ e. let g : Unlike d (x.code ∷ remembered today es) = rw e at h in rw e (g.0, unlike_set d es p (omega arith) v n g.1))
      (λ e. let g : Unlike d (remembered today es) = rw e at h in rw e (unlike_set d es p (omega arith) v n g))

  all_set : (es : List Entry) (p : ℕ) → p < length es → is_vacant today (get_or es p no_entry) ≡ true → is_used today code es ≡ false
      → AllUnlike (remembered today es) → AllUnlike (remembered today (set es p new))
  unfolding is_used
  all_set [] p l v u h = tt
  all_set (x ∷ es) zero l v u h =
      let g : AllUnlike (remembered today es) = rw (free_uncounted today x v) at h in
      rw new_counts (unlike_used es (or_false (holds today code x) (is_used today code es) u).1, g)
  all_set (x ∷ es) (suc p) l v u h =
      let w = or_false (holds today code x) (is_used today code es) u in
      by_bool (counts today x)
      (λ e. let g : AllUnlike (x.code ∷ remembered today es) = rw e at h in
      rw e (unlike_set x.code es p (omega arith) v (unlike_one x e w.0) g.0, all_set es p (omega arith) v w.1 g.1))
      (λ e. let g : AllUnlike (remembered today es) = rw e at h in rw e (all_set es p (omega arith) v w.1 g))

  -- one more is noted today
  pub free_unnoted : (x : Entry) → is_vacant today x ≡ true → (not (same_code x.code no_code) && eqb x.day today) ≡ false
  free_unnoted x v =
      by_bool (eqb x.day today)
      (λ e. let d : is_remembered x.day today ≡ true = rw (eqb-true x.day today e) (today_remembered today) in go (same_code x.code no_code) (is_remembered x.day today) (eqb x.day today) v d)
      (λ e. rw e (none (not (same_code x.code no_code))))
    where
      go : (u w z : Bool) → (u || not w) ≡ true → w ≡ true → (not u && z) ≡ false
      go true w z v d = refl
      go false true z v d = absurd (false≢true v)
      go false false z v d = absurd (false≢true d)

      none : (u : Bool) → (u && false) ≡ false
      none true = refl
      none false = refl

  noted_set : (es : List Entry) (p : ℕ) → p < length es → is_vacant today (get_or es p no_entry) ≡ true → noted_today today (set es p new) ≡ noted_today today es + 1
  noted_set [] p l v = absurd (omega arith)
  noted_set (x ∷ es) zero l v = rw (free_unnoted x v, named, eq-eqb today today refl) (omega arith)
  noted_set (x ∷ es) (suc p) l v = omega (arith, noted_set es p (omega arith) v)

  on_set : (z : Code) (es : List Entry) (p : ℕ) → p < length es → is_vacant today (get_or es p no_entry) ≡ true
      → times_in z (noted_on today (set es p new)) ≡ times_in z (noted_on today es) + times_in z (code ∷ [])
  unfolding noted_on times_in
  on_set z [] p l v = absurd (omega arith)
  on_set z (x ∷ es) zero l v = rw (free_unnoted x v, named, eq-eqb today today refl) (omega arith)
  on_set z (x ∷ es) (suc p) l v =
      by_bool (not (same_code x.code no_code) && eqb x.day today)
      (λ e. rw e (omega (arith, on_set z es p (omega arith) v)))
      (λ e. rw e (omega (arith, on_set z es p (omega arith) v)))

  -- what was remembered still is, and so is the new one
  or_left : (u v : Bool) → u ≡ true → (u || v) ≡ true
  or_left true v e = refl
  or_left false v e = absurd (false≢true e)

  or_either : (u v w : Bool) → (v ≡ true → w ≡ true) → (u || v) ≡ true → (u || w) ≡ true
  or_either true v w f h = refl
  or_either false v w f h = f h

  has_set : (c : Code) (es : List Entry) (p : ℕ) → p < length es → is_vacant today (get_or es p no_entry) ≡ true
      → has c (remembered today es) ≡ true → has c (remembered today (set es p new)) ≡ true
  has_set c [] p l v h = h
  has_set c (x ∷ es) zero l v h =
      let g : has c (remembered today es) ≡ true = rw (free_uncounted today x v) at h in rw new_counts (or_right (same_code c code) (has c (remembered today es)) g)
  has_set c (x ∷ es) (suc p) l v h =
      by_bool (counts today x)
      (λ e. let g : (same_code c x.code || has c (remembered today es)) ≡ true = rw e at h in
      rw e (or_either (same_code c x.code) (has c (remembered today es)) (has c (remembered today (set es p new))) (has_set c es p (omega arith) v) g))
      (λ e. let g : has c (remembered today es) ≡ true = rw e at h in rw e (has_set c es p (omega arith) v g))

  has_new : (es : List Entry) (p : ℕ) → p < length es → has code (remembered today (set es p new)) ≡ true
  has_new [] p l = absurd (omega arith)
  has_new (x ∷ es) zero l = rw new_counts (or_left (same_code code code) _ (same_self code))
  has_new (x ∷ es) (suc p) l =
      by_bool (counts today x)
      (λ e. rw e (or_right (same_code code x.code) (has code (remembered today (set es p new))) (has_new es p (omega arith))))
      (λ e. rw e (has_new es p (omega arith)))

  -- ---- all of it, of the lowest free place

  noted_at_lem : (es : List Entry) (p : ℕ) → vacant today es ≡ at p → Noted today code es (set es p new)
  unfolding vacant
  noted_at_lem es p e =
      let f = seek_answers (is_vacant today) no_entry es p e in
      record {
        size = length-set es p new;
        entries = λ is last i l h. each_set (RightEntry is last) es p new h (inr (i, l));
        once = λ u h. all_set es p f.inside f.yes u h;
        one_more = noted_set es p f.inside f.yes;
        this_more = λ x. on_set x es p f.inside f.yes;
        stays = λ c h. has_set c es p f.inside f.yes h;
        there = has_new es p f.inside;
      }

  note_is : (es : List Entry) (p : ℕ) → vacant today es ≡ at p → note today code es ≡ set es p new
  unfolding note
  note_is es p e = rw e

  pub noted : (es : List Entry) → is_there (vacant today es) ≡ true → Noted today code es (note today code es)
  noted es h =
      by_found (vacant today es)
      (λ p e. subst (λ (l : List Entry). Noted today code es l) (sym (note_is es p e)) (noted_at_lem es p e))
      (λ e. let z : false ≡ true = rw e at h in absurd (false≢true z))

-- ---- a later day remembers no more

module _ (d later : ℕ) (order : d ≤ later) where
  counted_before : (is : Code → Bool) (x : Entry) → RightEntry is d x → counts later x ≡ true → counts d x ≡ true
  unfolding is_remembered
  counted_before is x (inl e) h = let z : false ≡ true = rw e at h in absurd (false≢true z)
  counted_before is x (inr e) h =
      let g = and_true (not (same_code x.code no_code)) (is_remembered x.day later) h in
      let l = and_true (leb x.day later) (leb later (x.day + 14)) g.1 in
      rw (g.0, le-leb x.day d e.1, le-leb d (x.day + 14) (omega (arith, leb-true later (x.day + 14) l.1)))

  unlike_later : (is : Code → Bool) (c : Code) (es : List Entry) → Each (RightEntry is d) es → Unlike c (remembered d es) → Unlike c (remembered later es)
  unlike_later is c [] h u = tt
  unlike_later is c (x ∷ es) h u =
      by_bool (counts later x)
      (λ e. let g : Unlike c (x.code ∷ remembered d es) = rw (counted_before is x h.0 e) at u in rw e (g.0, unlike_later is c es h.1 g.1))
      (λ e. rw e (unlike_later is c es h.1 (tail u)))
    where
      tail : Unlike c (remembered d (x ∷ es)) → Unlike c (remembered d es)
      tail v = by_bool (counts d x) (λ f. let g : Unlike c (x.code ∷ remembered d es) = rw f at v in g.1) (λ f. rw f at v)

  pub once_later : (is : Code → Bool) (es : List Entry) → Each (RightEntry is d) es → AllUnlike (remembered d es) → AllUnlike (remembered later es)
  once_later is [] h u = tt
  once_later is (x ∷ es) h u =
      by_bool (counts later x)
      (λ e. let g : AllUnlike (x.code ∷ remembered d es) = rw (counted_before is x h.0 e) at u in rw e (unlike_later is x.code es h.1 g.0, once_later is es h.1 g.1))
      (λ e. rw e (once_later is es h.1 (tail u)))
    where
      tail : AllUnlike (remembered d (x ∷ es)) → AllUnlike (remembered d es)
      tail v = by_bool (counts d x) (λ f. let g : AllUnlike (x.code ∷ remembered d es) = rw f at v in g.1) (λ f. rw f at v)

  pub entries_later : (is : Code → Bool) (es : List Entry) → Each (RightEntry is d) es → Each (RightEntry is later) es
  entries_later is [] h = tt
  entries_later is (x ∷ es) h = (one h.0, entries_later is es h.1)
    where
      one : RightEntry is d x → RightEntry is later x
      one (inl e) = inl e
      one (inr e) = inr (e.0, omega (arith, e.1))
