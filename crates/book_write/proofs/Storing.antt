-- Laws of writing: stores one after another, entries, and the check of a block.
use Prim.Native.Nat.{ℕ, zero, suc, ◌+◌, ◌-◌, ◌/◌, ◌%◌, ◌<◌}
use mathlib.Core.Path.{◌≡◌, refl, sym, ◌∙◌, ap}
use mathlib.Core.List.{List, [], ◌∷◌, ◌++◌}
use native.Mathlib.Omega.{arith}
use native.Mathlib.Numerals.{add-one}
use lib.ListN.{length, set, replicate, length-append, length-set}
use lib.Seq.{sets, length-sets}
use Rattle.checksum.specs.Sum.{block_sum}
use Rattle.codes.specs.Codes.{short_text}
use Rattle.codes.proofs.Laws.{unpack_length}
use Rattle.text_put.proofs.Laws.{sets_append, then as follows}
use Rattle.book_read.specs.Book.{each}
use Rattle.book_read.specs.Accounts.{Stream, Bank}
use Rattle.book_write.specs.Closing.{little_of, stream_bytes, bank_bytes, joined, sealed_at}

-- a text after what is written already, whose place is known first
pub then : (out p q : List ℕ) (at : ℕ) {o₁ o₂ : List ℕ} {a : ℕ} → o₁ ≡ sets out at p → a ≡ at + length p → o₂ ≡ sets o₁ a q → o₂ ≡ sets out at (p ++ q)
then out p q at e x f = follows out p q at e f x

-- what is still to be stored at j, for `text` to stand at `at` of what was lent
pub record Storing (first : List ℕ) (at : ℕ) (text out : List ℕ) (j : ℕ) (rest : List ℕ) : Type 0 where
  pub size : length out ≡ length first
  pub same : sets out j rest ≡ sets first at text

pub storing_start : (first : List ℕ) (at : ℕ) (text : List ℕ) → Storing first at text first at text
storing_start first at text = record { size = refl; same = refl }

-- the same for a loop's count of what it has stored
pub storing_first : (first : List ℕ) (at n : ℕ) (rest : ℕ → List ℕ) → Storing first at (rest n) first (at + 0) (rest (n - 0))
storing_first first at n rest = let z : at + 0 ≡ at = omega arith in let y : n - 0 ≡ n = omega arith in rw (z, y) (storing_start first at (rest n))

module _ {first : List ℕ} {at : ℕ} {text out : List ℕ} {j : ℕ} {rest : List ℕ} (g : Storing first at text out j rest) where
  pub storing_on : {b k : ℕ} {more next : List ℕ} → k ≡ j + 1 → rest ≡ b ∷ more → next ≡ set out j b → Storing first at text next k more
  storing_on q e p = record { size = rw (p, length-set) g.size; same = rw (p, q, add-one) (rw e at g.same) }

  pub storing_part : (part more : List ℕ) {next : List ℕ} {k : ℕ} → rest ≡ part ++ more → k ≡ j + length part → next ≡ sets out j part → Storing first at text next k more
  storing_part part more e q p = record {
    size = rw (p, length-sets) g.size;
    same = rw (p, q, ← sets_append part more out j) (rw e at g.same);
  }

  pub storing_done : rest ≡ [] → out ≡ sets first at text
  storing_done e = rw e at g.same

pub little_next : (w v : ℕ) {fewer : ℕ} → w ≡ suc fewer → little_of w v ≡ v % 256 ∷ little_of fewer (v / 256)
unfolding little_of
little_next w v e = rw e

pub little_none : (w v : ℕ) → w ≡ 0 → little_of w v ≡ []
unfolding little_of
little_none w v e = rw e

pub zeros_next : (n : ℕ) {fewer : ℕ} → n ≡ suc fewer → replicate {A = ℕ} n 0 ≡ 0 ∷ replicate fewer 0
zeros_next n e = rw e

pub zeros_none : (n : ℕ) → n ≡ 0 → ◌≡◌ {A = List ℕ} (replicate n 0) []
zeros_none n e = rw e

-- lengths
pub little_length : (w v : ℕ) → length (little_of w v) ≡ w
unfolding little_of
little_length zero v = refl
little_length (suc w) v = ap suc (little_length w (v / 256))

pub short_length : (v : ℕ) → length (short_text v) ≡ 4
unfolding short_text
short_length v = unpack_length 4 v

pub stream_length : (x : Stream) → length (stream_bytes x) ≡ 8
unfolding stream_bytes
stream_length x = simp (length-append, short_length)

pub bank_length : (b : Bank) → length (bank_bytes b) ≡ 24
unfolding bank_bytes
bank_length b = simp (length-append, short_length, little_length)

-- entries
pub stream_put : (out : List ℕ) (at : ℕ) (x : Stream) {a b : List ℕ} → a ≡ sets out at (short_text x.code)
    → b ≡ sets a (at + 4) (x.sender % 256 ∷ 0 ∷ 0 ∷ 0 ∷ []) → b ≡ sets out at (stream_bytes x)
unfolding stream_bytes
stream_put out at x p q =
    then out (short_text x.code) (x.sender % 256 ∷ 0 ∷ 0 ∷ 0 ∷ []) at p (ap (λ (n : ℕ). at + n) (sym (short_length x.code))) q

pub bank_put : (out : List ℕ) (at : ℕ) (x : Bank) {a b c d : List ℕ} → a ≡ sets out at (short_text x.code)
    → b ≡ sets a (at + 4) (x.flags % 2 ∷ x.flags / 2 % 256 ∷ 0 ∷ 0 ∷ []) → c ≡ sets b (at + 8) (little_of 8 x.balance)
    → d ≡ sets c (at + 16) (little_of 8 x.sublimit) → d ≡ sets out at (bank_bytes x)
unfolding bank_bytes
bank_put out at x p q r t =
    let code = short_text x.code in
    let mid = x.flags % 2 ∷ x.flags / 2 % 256 ∷ 0 ∷ 0 ∷ [] in
    let money = little_of 8 x.balance in
    let two = then out code mid at p (ap (λ (n : ℕ). at + n) (sym (short_length x.code))) q in
    let three = then out (code ++ mid) money at two (simp (length-append, short_length)) r in
    then out ((code ++ mid) ++ money) (little_of 8 x.sublimit) at three (simp (length-append, short_length, little_length)) t

-- entries one after another
pub each_next : {A : Type 0} (f : ℕ → A) (i n : ℕ) → 0 < n → each f i n ≡ f i ∷ each f (i + 1) (n - 1)
each_next f i zero h = absurd (omega arith)
each_next f i (suc n) h = let z : suc n - 1 ≡ n = omega arith in rw z

pub joined_next : {A : Type 0} (g : A → List ℕ) (f : ℕ → A) (i n : ℕ) → 0 < n → joined g (each f i n) ≡ g (f i) ++ joined g (each f (i + 1) (n - 1))
joined_next g f i n h = rw (each_next f i n h)

pub joined_none : {A : Type 0} (g : A → List ℕ) (f : ℕ → A) (i n : ℕ) → n ≡ 0 → joined g (each f i n) ≡ []
joined_none g f i n e = rw e

pub storing_entry : {A : Type 0} (g : A → List ℕ) (f : ℕ → A) (w : ℕ) → ((x : A) → length (g x) ≡ w)
    → (p j m p' j' m' : ℕ) {first : List ℕ} {at : ℕ} {text out next : List ℕ}
    → Storing first at text out p (joined g (each f j m)) → 0 < m → next ≡ sets out p (g (f j))
    → p' ≡ p + w → j' ≡ j + 1 → m' ≡ m - 1 → Storing first at text next p' (joined g (each f j' m'))
storing_entry g f w l p j m p' j' m' s h e ep ej em =
    rw (ej, em) (storing_part s (g (f j)) (joined g (each f (j + 1) (m - 1))) (joined_next g f j m h) (ep ∙ ap (λ (k : ℕ). p + k) (sym (l (f j)))) e)

pub storing_each : {A : Type 0} (g : A → List ℕ) (f : ℕ → A) (first : List ℕ) (p j m p' j' m' : ℕ) → p' ≡ p → j' ≡ j → m' ≡ m
    → Storing first p (joined g (each f j m)) first p' (joined g (each f j' m'))
storing_each g f first p j m p' j' m' ep ej em = rw (ep, ej, em) (storing_start first p (joined g (each f j m)))

-- the check of a block
pub check_put : (out : List ℕ) (at : ℕ) {sum : ℕ} {o : List ℕ} → sum ≡ block_sum out at → o ≡ sets out (at + 508) (little_of 4 sum)
    → o ≡ sets out (at + 508) (little_of 4 (block_sum out at))
check_put out at p q = rw (← p) q

pub seal_put : (out : List ℕ) (at end : ℕ) {a b : List ℕ} → a ≡ sets out (at + end) (replicate (508 - end) 0)
    → b ≡ sets a (at + 508) (little_of 4 (block_sum a at)) → b ≡ sealed_at out at end
unfolding sealed_at
seal_put out at end p q = rw (← p) q
