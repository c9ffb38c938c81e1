-- Laws of whole blocks: the sum of a block where it stands, its seal, and the two kinds of blocks.
use Prim.Native.Nat.{ℕ, zero, suc, ◌+◌, ◌*◌, ◌-◌, ◌%◌, ◌^◌, ◌≤◌, ◌<◌}
use mathlib.Core.Path.{◌≡◌, refl, sym, ◌∙◌, ap}
use mathlib.Core.List.{List, [], ◌∷◌, ◌++◌, append_assoc}
use native.Mathlib.Nat.{mul-suc}
use native.Mathlib.Omega.{arith}
use lib.ListN.{length, take, drop, replicate, length-append, length-drop, length-replicate, get_or-append}
use lib.Seq.{take_all, sets, length-sets, sets-eq, drop_at, drop-append-le, length-take-le}
use lib.Dec.{leb}
use borrow.Author.Tests.{le-leb, leb-true, leb-false}
use Rattle.book_read.proofs.Rules.{by_holds}
use Rattle.book_read.proofs.Filling.{each_length}
use Rattle.checksum.specs.Sum.{word_of, sum_words, block_sum}
use Rattle.text_put.specs.Digits.{digits_of}
use Rattle.text_put.proofs.Laws.{digits_length}
use Rattle.dates.specs.Dates.{date_of}
use Rattle.book_read.specs.Block.{head}
use Rattle.book_read.specs.Book.{each}
use Rattle.book_read.specs.Accounts.{Stream, Bank}
use Rattle.book_write.specs.Closing.{little_of, stream_bytes, bank_bytes, joined, padded, sealed, sealed_at, stream_block, bank_block, bank_blocks_of}
use Rattle.book_write.proofs.Storing.{then, Storing, storing_part, little_length, stream_length, bank_length}

-- the sum of the first words
word_first : (b r : List ℕ) → 4 ≤ length b → word_of (b ++ r) ≡ word_of b
unfolding word_of
word_first b r h =
    rw (get_or-append b r 0 0 (omega arith), get_or-append b r 0 1 (omega arith), get_or-append b r 0 2 (omega arith), get_or-append b r 0 3 (omega arith))

pub sum_first : (n : ℕ) (b r : List ℕ) → 4 * n ≤ length b → sum_words n (b ++ r) ≡ sum_words n b
unfolding sum_words
sum_first zero b r h = refl
sum_first (suc n) b r h =
    rw (word_first b r (omega arith), drop-append-le 4 b r (omega arith), sum_first n (drop 4 b) r (simp length-drop (omega arith)))

-- what stands at a place where it was put
pub drop_sets : (out b : List ℕ) (at : ℕ) → at + length b ≤ length out → drop at (sets out at b) ≡ b ++ drop (at + length b) out
drop_sets out b at h =
    ap (drop at) (sets-eq b out at h ∙ append_assoc (take at out) b (drop (at + length b) out))
    ∙ drop_at (take at out) (b ++ drop (at + length b) out) at (length-take-le at out (omega arith))

pub sum_there : (b s : List ℕ) (at : ℕ) (r : List ℕ) → length b ≡ 508 → drop at s ≡ b ++ r → at + 508 ≤ length s → block_sum s at ≡ sum_words 127 b % 2 ^ 32
unfolding block_sum
sum_there b s at r l e h = rw (le-leb (at + 508) (length s) h, e, sum_first 127 b r (omega arith))

pub sum_self : (b : List ℕ) → length b ≡ 508 → block_sum b 0 ≡ sum_words 127 b % 2 ^ 32
unfolding block_sum
sum_self b l = rw (le-leb (0 + 508) (length b) (omega arith))

pub padded_length : (l : List ℕ) → length l ≤ 508 → length (padded l) ≡ 508
padded_length l h = rw (length-append, length-replicate) (omega arith)

pub sealed_length : (l : List ℕ) → length l ≤ 508 → length (sealed l) ≡ 512
unfolding sealed
sealed_length l h = rw (length-append, padded_length l h, little_length)

pub seal_is : (out l : List ℕ) (at end : ℕ) {o e : List ℕ} → o ≡ sets out at l → end ≡ length l → end ≤ 508 → at + 512 ≤ length out
    → e ≡ sealed_at o at end → e ≡ sets out at (sealed l)
unfolding sealed sealed_at
seal_is out l at end {o = o} {e = e} p q h k r =
    then out (padded l) (little_of 4 (block_sum (padded l) 0)) at refl (ap (λ (n : ℕ). at + n) (sym size)) (r ∙ ap seal full ∙ rw sum)
  where
    size : length (padded l) ≡ 508
    size = padded_length l (omega arith)

    seal : List ℕ → List ℕ
    seal f = sets f (at + 508) (little_of 4 (block_sum f at))

    full : sets o (at + end) (replicate (508 - end) 0) ≡ sets out at (padded l)
    full = rw q (then out l (replicate (508 - length l) 0) at p refl refl)

    sum : block_sum (sets out at (padded l)) at ≡ block_sum (padded l) 0
    sum =
        sum_there (padded l) (sets out at (padded l)) at (drop (at + length (padded l)) out) size
        (drop_sets out (padded l) at (omega (arith, size))) (rw length-sets (omega arith))
        ∙ sym (sum_self (padded l) size)

-- lengths of entries one after another
pub joined_length : {A : Type 0} (g : A → List ℕ) (w : ℕ) → ((x : A) → length (g x) ≡ w) → (xs : List A) → length (joined g xs) ≡ w * length xs
joined_length g w l [] = omega arith
joined_length g w l (x ∷ xs) = rw (length-append, l x, joined_length g w l xs, mul-suc) (omega arith)

-- the two kinds of blocks
pub stream_block_put : (out : List ℕ) (day : ℕ) (f : ℕ → Stream) (n blocks : ℕ) {date : ℕ} {a b c d e : List ℕ}
    → n ≤ 8 → 512 ≤ length out → a ≡ sets out 0 (head 83 0 n blocks) → date ≡ date_of day → b ≡ sets a 8 (digits_of 6 date)
    → c ≡ sets b 14 (0 ∷ 0 ∷ []) → d ≡ sets c 16 (joined stream_bytes (each f 0 n)) → e ≡ sealed_at d 0 (16 + 8 * n)
    → e ≡ sets out 0 (stream_block day (each f 0 n) blocks)
unfolding stream_block
stream_block_put out day f n blocks h k pa pd pb pc pj pe =
    let xs = each f 0 n in
    let l₁ = head 83 0 n blocks in
    let l₂ = digits_of 6 (date_of day) in
    let two = then out l₁ l₂ 0 pa refl (rw pd at pb) in
    let three = then out (l₁ ++ l₂) (0 ∷ 0 ∷ []) 0 two (simp (length-append, digits_length)) pc in
    let four = then out ((l₁ ++ l₂) ++ (0 ∷ 0 ∷ [])) (joined stream_bytes xs) 0 three (simp (length-append, digits_length)) pj in
    rw (each_length f 0 n)
    (seal_is out (((l₁ ++ l₂) ++ (0 ∷ 0 ∷ [])) ++ joined stream_bytes xs) 0 (16 + 8 * n) four
    (simp (length-append, digits_length, joined_length stream_bytes 8 stream_length xs, each_length f 0 n)) (omega arith) (omega arith) pe)

pub bank_block_put : (out : List ℕ) (blocks k : ℕ) (f : ℕ → Bank) (from n : ℕ) {a b e : List ℕ}
    → n ≤ 20 → 512 * k + 512 ≤ length out → a ≡ sets out (512 * k) (head 66 k n blocks)
    → b ≡ sets a (512 * k + 8) (joined bank_bytes (each f from n)) → e ≡ sealed_at b (512 * k) (8 + 24 * n)
    → e ≡ sets out (512 * k) (bank_block blocks k (each f from n))
unfolding bank_block
bank_block_put out blocks k f from n h z pa pb pe =
    let xs = each f from n in
    let two = then out (head 66 k n blocks) (joined bank_bytes xs) (512 * k) pa refl pb in
    rw (each_length f from n)
    (seal_is out (head 66 k n blocks ++ joined bank_bytes xs) (512 * k) (8 + 24 * n) two
    (simp (joined_length bank_bytes 24 bank_length xs, each_length f from n) (omega arith)) (omega arith) (omega arith) pe)

-- some of the numbers, and the rest
pub each_take : {A : Type 0} (f : ℕ → A) (k i m : ℕ) → k ≤ m → take k (each f i m) ≡ each f i k
each_take f zero i m h = refl
each_take f (suc k) i zero h = absurd (omega arith)
each_take f (suc k) i (suc m) h = rw (each_take f k (i + 1) m (omega arith))

pub each_drop : {A : Type 0} (f : ℕ → A) (k i m : ℕ) → drop k (each f i m) ≡ each f (i + k) (m - k)
each_drop f zero i m = let z : i + 0 ≡ i = omega arith in let y : m - 0 ≡ m = omega arith in rw (z, y)
each_drop f (suc k) i zero = let z : 0 - suc k ≡ 0 = omega arith in rw z
each_drop f (suc k) i (suc m) =
    let z : i + suc k ≡ i + 1 + k = omega arith in
    let y : suc m - suc k ≡ m - k = omega arith in
    rw (z, y) (each_drop f k (i + 1) m)

-- the first 20 of m, or all of them
pub each_full : {A : Type 0} (f : ℕ → A) (i m n : ℕ) → (20 ≤ m → n ≡ 20) → (m < 20 → n ≡ m) → take 20 (each f i m) ≡ each f i n
each_full f i m n p q =
    by_holds (leb 20 m)
    (λ e. let h : 20 ≤ m = leb-true 20 m e in rw (p h) (each_take f 20 i m h))
    (λ e. let h : m < 20 = leb-false 20 m e in rw (q h) (take_all 20 (each f i m) (rw each_length (omega arith))))

-- blocks of banks one after another
pub blocks_next : (blocks k : ℕ) (f : ℕ → Bank) (i m n : ℕ) → k < blocks → (20 ≤ m → n ≡ 20) → (m < 20 → n ≡ m)
    → bank_blocks_of blocks k (blocks - k) (each f i m)
    ≡ bank_block blocks k (each f i n) ++ bank_blocks_of blocks (k + 1) (blocks - (k + 1)) (each f (i + 20) (m - 20))
unfolding bank_blocks_of
blocks_next blocks k f i m n h p q =
    let z : blocks - k ≡ suc (blocks - (k + 1)) = omega arith in
    rw (z, each_full f i m n p q, each_drop f 20 i m)

pub blocks_none : (blocks k : ℕ) (bs : List Bank) → blocks ≤ k → bank_blocks_of blocks k (blocks - k) bs ≡ []
unfolding bank_blocks_of
blocks_none blocks k bs h = let z : blocks - k ≡ 0 = omega arith in rw z

pub bank_block_length : (blocks k : ℕ) (f : ℕ → Bank) (i n : ℕ) → n ≤ 20 → length (bank_block blocks k (each f i n)) ≡ 512
unfolding bank_block
bank_block_length blocks k f i n h =
    sealed_length (head 66 k (length (each f i n)) blocks ++ joined bank_bytes (each f i n))
    (rw (length-append, joined_length bank_bytes 24 bank_length (each f i n), each_length f i n) (omega arith))

-- one block more
pub storing_block : (blocks k : ℕ) (f : ℕ → Bank) (i m n i' m' : ℕ) {first : List ℕ} {at : ℕ} {text out next : List ℕ}
    → Storing first at text out (512 * k) (bank_blocks_of blocks k (blocks - k) (each f i m)) → k < blocks → (20 ≤ m → n ≡ 20) → (m < 20 → n ≡ m)
    → next ≡ sets out (512 * k) (bank_block blocks k (each f i n)) → i' ≡ i + 20 → m' ≡ m - 20
    → Storing first at text next (512 * (k + 1)) (bank_blocks_of blocks (k + 1) (blocks - (k + 1)) (each f i' m'))
storing_block blocks k f i m n i' m' g h p q e ei em =
    rw (ei, em)
    (storing_part g (bank_block blocks k (each f i n)) (bank_blocks_of blocks (k + 1) (blocks - (k + 1)) (each f (i + 20) (m - 20)))
    (blocks_next blocks k f i m n h p q) (rw (bank_block_length blocks k f i n few) (omega arith)) e)
  where
    few : n ≤ 20
    few =
        by_holds (leb 20 m)
        (λ e. omega (arith, p (leb-true 20 m e)))
        (λ e. let h : m < 20 = leb-false 20 m e in omega (arith, q h))

pub stream_block_length : (day : ℕ) (f : ℕ → Stream) (n blocks : ℕ) → n ≤ 8 → length (stream_block day (each f 0 n) blocks) ≡ 512
unfolding stream_block
stream_block_length day f n blocks h =
    sealed_length (((head 83 0 (length (each f 0 n)) blocks ++ digits_of 6 (date_of day)) ++ (0 ∷ 0 ∷ [])) ++ joined stream_bytes (each f 0 n))
    (simp (length-append, digits_length, joined_length stream_bytes 8 stream_length, each_length) (omega arith))
