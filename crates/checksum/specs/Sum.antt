-- "the sum of the 127 words before it, modulo 2^32"
use Rattle.std.specs.Prelude.{ℕ, zero, suc, ◌+◌, ◌*◌, ◌%◌, ◌^◌, cond, List, length, drop, nat_le, slice_index}

-- four bytes as a number, little-endian
unfoldable pub word_of : List ℕ → ℕ
word_of l = slice_index l 0 + slice_index l 1 * 256 + slice_index l 2 * 65536 + slice_index l 3 * 16777216

-- the sum of the first n words
unfoldable pub sum_words : ℕ → List ℕ → ℕ
sum_words zero l = 0
sum_words (suc n) l = word_of l + sum_words n (drop 4 l)

-- the check of the block at a place; 0 where the text ends before 127 words
unfoldable pub block_sum : List ℕ → ℕ → ℕ
block_sum s at = cond (nat_le (at + 508) (length s)) (sum_words 127 (drop at s) % 2 ^ 32) 0
