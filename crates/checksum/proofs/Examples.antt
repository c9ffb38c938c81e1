-- Marked example (14) of document 01: two words 2^31, rest zero: check 0.
use Rattle.std.proofs.Common.{◌≡◌, ℕ, List, [], ◌∷◌, ◌++◌, replicate, refl}
use Rattle.checksum.specs.Sum.{word_of, sum_words, block_sum}

abbrev pub high_word : List ℕ
high_word = 0 ∷ 0 ∷ 0 ∷ 128 ∷ []

pub two_high_words : block_sum (high_word ++ (high_word ++ replicate 504 0)) 0 ≡ 0
unfolding block_sum sum_words word_of
two_high_words = refl

-- and it is not the rule for short texts that makes it 0: one such word has the check 2^31
pub one_high_word : block_sum (high_word ++ replicate 508 0) 0 ≡ 2147483648
unfolding block_sum sum_words word_of
one_high_word = refl
