-- The desk and its 22 words.
use mathlib.Core.Path.{◌≡◌, refl, sym, ap, ◌∙◌}
use Prim.Native.Nat.{ℕ, zero, suc, ◌+◌, ◌≤◌, ◌<◌}
use native.Mathlib.Omega.{arith}
use native.Mathlib.Numerals.{add-one}
use mathlib.Core.List.{List, [], ◌∷◌, ◌++◌, append-nil}
use lib.ListN.{length, get_or, set, take, drop, length-append, length-drop, drop_of_length-le}
use lib.Seq.{sets-eq, get_or-take, get_or-drop, take_all, length-take-le, drop_at, paste, paste-suc}
use borrow.Author.Tests.{eq-eqb, ne_eqb}
use Rattle.call_day.proofs.Laws.{replace_turn, replace_end}
use Rattle.model.specs.declared.Phase.{Phase}
use Rattle.model.specs.declared.Phase.TheVariants.{Fresh, Open, Closed}
use Rattle.tables.specs.declared.Desk.{Desk}
use Rattle.c_engine.specs.Lending.{phase_by, phase_word, desk_in, desk_words}

-- ---- the phase

pub phase_fresh : (n : ℕ) → n ≡ 0 → Fresh ≡ phase_by n
phase_fresh n e = rw (eq-eqb n 0 e)

pub phase_open : (n : ℕ) → (n ≡ 0 → ⊥) → n ≡ 1 → Open ≡ phase_by n
phase_open n h e = rw (ne_eqb n 0 h, eq-eqb n 1 e)

pub phase_closed : (n : ℕ) → (n ≡ 0 → ⊥) → (n ≡ 1 → ⊥) → Closed ≡ phase_by n
phase_closed n h k = rw (ne_eqb n 0 h, ne_eqb n 1 k)

phase_back : (p : Phase) → phase_by (phase_word p) ≡ p
phase_back Fresh = refl
phase_back Open = refl
phase_back Closed = refl

pub phase_small : (p : Phase) → phase_word p ≤ 2
phase_small Fresh = omega arith
phase_small Open = omega arith
phase_small Closed = omega arith

word_back : (n : ℕ) → n ≤ 2 → phase_word (phase_by n) ≡ n
word_back zero h = refl
word_back (suc zero) h = refl
word_back (suc (suc zero)) h = refl
word_back (suc (suc (suc n))) h = absurd (omega arith)

-- ---- the streams, read and written

module _ (w : List ℕ) (long : length w ≡ 22) where
  pub streams_long : length (take 16 (drop 6 w)) ≡ 16
  streams_long = length-take-le 16 (drop 6 w) (simp length-drop (omega arith))

  pub streams_turn : (l : List ℕ) (i : ℕ) → length l ≡ 16 → i < 16 → take i l ≡ take i (take 16 (drop 6 w))
      → take (i + 1) (set l i (get_or w (6 + i) 0)) ≡ take (i + 1) (take 16 (drop 6 w))
  streams_turn l i k h e =
      let g : get_or (take 16 (drop 6 w)) i 0 ≡ get_or w (6 + i) 0 = get_or-take 16 (drop 6 w) i 0 h ∙ get_or-drop 6 w i 0 in
      rw (← g) (replace_turn l (take 16 (drop 6 w)) i (k ∙ sym streams_long) e (omega arith))

  pub streams_end : (l : List ℕ) (i : ℕ) → length l ≡ 16 → 16 ≤ i → take i l ≡ take i (take 16 (drop 6 w)) → l ≡ take 16 (drop 6 w)
  streams_end l i k h e = replace_end l (take 16 (drop 6 w)) i (k ∙ sym streams_long) e (omega arith)

  module _ (s : List ℕ) (sixteen : length s ≡ 16) where
    pub paste_turn : (l : List ℕ) (i : ℕ) → i < 16 → l ≡ paste w 6 s i → set l (6 + i) (get_or s i 0) ≡ paste w 6 s (i + 1)
    paste_turn l i h e = rw (e, add-one i) (paste-suc w 6 s i 0 (omega arith) (omega arith))

    pub paste_end : (l : List ℕ) (i : ℕ) → i ≤ 16 → 16 ≤ i → l ≡ paste w 6 s i → l ≡ take 6 w ++ s
    paste_end l i h k e =
        let m : i ≡ 16 = omega arith in
        e ∙ ap (λ (j : ℕ). paste w 6 s j) m
        ∙ ap (λ (r : List ℕ). take 6 w ++ r ++ drop 22 w) (take_all 16 s (omega arith))
        ∙ ap (λ (r : List ℕ). take 6 w ++ s ++ r) (drop_of_length-le w {i = 22} (omega arith))
        ∙ append-nil (take 6 w ++ s)

-- ---- the whole desk

pub desk_read : (w : List ℕ) (p : Phase) (s : List ℕ) → p ≡ phase_by (get_or w 0 0) → s ≡ take 16 (drop 6 w)
    → record { phase = p; date = get_or w 1 0; clock = get_or w 2 0; texts = get_or w 3 0; banks = get_or w 4 0; streams = s; n = get_or w 5 0 } ≡ desk_in w
unfolding desk_in
desk_read w p s e f = rw (e, f)

pub desk_written : (w u : List ℕ) (d : Desk) (p : ℕ) → length w ≡ 22 → u ≡ take 6 w ++ d.streams → p ≡ phase_word d.phase
    → set (set (set (set (set (set u 0 p) 1 d.date) 2 d.clock) 3 d.texts) 4 d.banks) 5 d.n ≡ desk_words d
unfolding desk_words
desk_written w u d p h e f =
    let l : length (take 6 w) ≡ 6 = length-take-le 6 w (omega arith) in
    let m : length u ≡ 6 + length d.streams = ap length e ∙ length-append (take 6 w) d.streams ∙ ap (λ (k : ℕ). k + length d.streams) l in
    let g : drop 6 u ≡ d.streams = ap (drop 6) e ∙ drop_at (take 6 w) d.streams 6 l in
    sets-eq (p ∷ d.date ∷ d.clock ∷ d.texts ∷ d.banks ∷ d.n ∷ []) u 0 (omega arith) ∙ rw (f, g)

-- ---- each way and back

pub desk_back : (d : Desk) → length d.streams ≡ 16 → desk_in (desk_words d) ≡ d
unfolding desk_in desk_words
desk_back d h = rw (phase_back d.phase, take_all 16 d.streams (omega arith))

pub desk_words_back : (w : List ℕ) → length w ≡ 22 → get_or w 0 0 ≤ 2 → desk_words (desk_in w) ≡ w
unfolding desk_in desk_words
desk_words_back (a ∷ b ∷ c ∷ d ∷ e ∷ f ∷ w) h k = rw (word_back a k, take_all 16 w (omega arith))
desk_words_back [] h k = absurd (omega arith)
desk_words_back (a ∷ []) h k = absurd (omega arith)
desk_words_back (a ∷ b ∷ []) h k = absurd (omega arith)
desk_words_back (a ∷ b ∷ c ∷ []) h k = absurd (omega arith)
desk_words_back (a ∷ b ∷ c ∷ d ∷ []) h k = absurd (omega arith)
desk_words_back (a ∷ b ∷ c ∷ d ∷ e ∷ []) h k = absurd (omega arith)
