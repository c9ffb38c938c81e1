-- Places and flags.
use Prim.Native.Nat.{ℕ, suc, ◌+◌, ◌-◌, ◌*◌, ◌/◌, ◌%◌, ◌^◌, ◌≤◌, ◌<◌}
use mathlib.Core.Path.{◌≡◌, refl, sym, ◌∙◌}
use mathlib.Core.Bool.{Bool}
use mathlib.Core.List.{List, [], ◌∷◌}
use native.Mathlib.Omega.{arith}
use borrow.Author.Tests.{eq-eqb, ne_eqb}
use lib.Dec.{eqb}
use lib.ListN.{get_or, take, drop}
use Rattle.book_read.specs.Accounts.{Stream}
use Rattle.book_read.specs.Book.{each}
use Rattle.book_write.specs.Closing.{stream_of}
use Rattle.model.specs.State.{Found, at, nowhere, seek_from}
use Rattle.model.specs.Messages.{bank_place, stream_place, is_member}
use Rattle.call_plan.specs.rules.Steps.{banks_house, streams_house}

pub banks_start : (codes flags : List ℕ) (n p : ℕ) → bank_place (banks_house n codes flags) p ≡ seek_from (eqb p) 0 (drop 0 (take n codes))
unfolding bank_place
banks_start codes flags n p = refl

-- the streams from i on
abbrev pub is_code : ℕ → Stream → Bool
is_code code s = eqb s.code code

abbrev pub streams_from : (code : ℕ) → List ℕ → (n i : ℕ) → Found
streams_from code t n i = seek_from (is_code code) i (each (stream_of t) i (n - i))

pub streams_start : (t : List ℕ) (n code : ℕ) → stream_place (streams_house t n) code ≡ streams_from code t n 0
unfolding stream_place
streams_start t n code = let e : n - 0 ≡ n = omega arith in rw e

each_cut : (t : List ℕ) (n i : ℕ) → i < n → each (stream_of t) i (n - i) ≡ stream_of t i ∷ each (stream_of t) (i + 1) (n - (i + 1))
each_cut t n i h = let e : n - i ≡ suc (n - (i + 1)) = omega arith in rw e

module _ (t : List ℕ) (n i code : ℕ) {x : Found} (inv : x ≡ streams_from code t n i) where
  pub stream_here : i < n → get_or t (2 * i) 0 ≡ code → at i ≡ x
  unfolding seek_from
  stream_here h e = sym (inv ∙ rw (each_cut t n i h, eq-eqb (get_or t (2 * i) 0) code e))

  pub stream_on : i < n → (get_or t (2 * i) 0 ≡ code → ⊥) → x ≡ streams_from code t n (i + 1)
  unfolding seek_from
  stream_on h e = inv ∙ rw (each_cut t n i h, ne_eqb (get_or t (2 * i) 0) code e)

  pub stream_end : n ≤ i → nowhere ≡ x
  unfolding seek_from
  stream_end h = let e : n - i ≡ 0 = omega arith in sym (inv ∙ rw e)

-- ---- flags

pub member_bit : (flags : List ℕ) (place stream b : ℕ) → b ≡ 2 ^ stream → eqb (get_or flags place 0 / 2 / b % 2) 1 ≡ is_member (banks_house 0 [] flags) stream place
member_bit flags place stream b e = rw e
