-- A row is the words of the batch that it says, exactly where what it does not use is zero.
use Rattle.std.proofs.Common.{◌≡◌, ℕ, zero, suc, ◌+◌, ◌-◌, ◌*◌, ◌≤◌, List, [], ◌∷◌, ◌++◌, length, get_or, take, drop, replicate, sym, refl, ap, ◌∙◌, arith, length-drop, take-append-drop, length-take-le, drop-cons, take-take, drop-drop, take_at, drop_at}
use lib.Seq.{take-nil}
use Rattle.book_read.specs.Book.{each}
use Rattle.settle.specs.Payments.{payment, payment_at, payments_from}
use Rattle.model.specs.State.{payments_of}
use Rattle.tables.specs.House.{AllZero}
use Rattle.tables.specs.Rows.{word, activation_in, messages_in, batch_in}
use Rattle.tables.specs.Words.{filled, activation_word, payment_words, payments_words, messages_words, batch_words}
use Rattle.tables.proofs.Rowing.{payments_long, messages_long, filled_long}
use Rattle.tables_rules.specs.batch_rules.BatchRules.{head_at, heads_in, sizes_of, payments_in, ZeroBehind}

-- ---- zeros

pub zeros : (l : List ℕ) → AllZero l → l ≡ replicate (length l) 0
zeros [] z = refl
zeros (x ∷ l) z = rw (z.0, sym (zeros l z.1))

pub all_zero : (n : ℕ) → AllZero (replicate n 0)
all_zero zero = tt
all_zero (suc n) = (refl, all_zero n)

-- ---- lists of payments

pub from_long : (row : List ℕ) (j n : ℕ) → length (payments_from row j n) ≡ n
unfolding payments_from
from_long row j zero = refl
from_long row j (suc n) = ap suc (from_long row (j + 3) n)

pub from_append : (row : List ℕ) (j a b : ℕ) → payments_from row j (a + b) ≡ payments_from row j a ++ payments_from row (j + 3 * a) b
unfolding payments_from
from_append row j zero b =
    let e : j + 3 * 0 ≡ j = omega arith in
    let f : 0 + b ≡ b = omega arith in
    rw (e, f)
from_append row j (suc a) b =
    let e : j + 3 + 3 * a ≡ j + 3 * suc a = omega arith in
    let f : suc a + b ≡ suc (a + b) = omega arith in
    rw (f, from_append row (j + 3) a b, e)

-- a payment is its three words
three : (k c l : ℕ) → payment_words (payment k c l) ≡ k ∷ c ∷ l ∷ []
unfolding payment
three k c zero = refl
three k c (suc l) = refl

next : (row : List ℕ) (j n : ℕ) → j + 1 ≤ length row → drop j row ≡ get_or row j 0 ∷ drop (j + 1) row
next row j n h = let e : j + 1 ≡ suc j = omega arith in rw e (drop-cons row j 0 (omega arith))

cut_three : (row : List ℕ) (j : ℕ) → j + 3 ≤ length row → drop j row ≡ get_or row j 0 ∷ get_or row (j + 1) 0 ∷ get_or row (j + 2) 0 ∷ drop (j + 3) row
cut_three row j h =
    let a : j + 1 + 1 ≡ j + 2 = omega arith in
    let b : j + 2 + 1 ≡ j + 3 = omega arith in
    next row j 0 (omega arith)
    ∙ ap (λ (l : List ℕ). get_or row j 0 ∷ l) (next row (j + 1) 0 (omega arith) ∙ ap (λ (l : List ℕ). get_or row (j + 1) 0 ∷ l) (ap (λ (n : ℕ). drop n row) a ∙ next row (j + 2) 0 (omega arith) ∙ ap (λ (l : List ℕ). get_or row (j + 2) 0 ∷ l) (ap (λ (n : ℕ). drop n row) b)))

pub words_from : (row : List ℕ) (j n : ℕ) → j + 3 * n ≤ length row → payments_words (payments_from row j n) ≡ take (3 * n) (drop j row)
unfolding payments_from payments_words payment_at
words_from row j zero h = refl
words_from row j (suc n) h =
    let e : 3 * suc n ≡ suc (suc (suc (3 * n))) = omega arith in
    rw (e, three (get_or row j 0) (get_or row (j + 1) 0) (get_or row (j + 2) 0), words_from row (j + 3) n (omega arith), cut_three row j (omega arith))

-- ---- lists of messages

pub messages_many : (row : List ℕ) (i j n : ℕ) → length (messages_in row i j n) ≡ n
unfolding messages_in
messages_many row i j zero = refl
messages_many row i j (suc n) = ap suc (messages_many row (i + 1) (j + 3 * word row (12 + 4 * i)) n)

-- their payments lie one behind another
pub payments_of_lem : (row : List ℕ) (i j n : ℕ) → payments_of (messages_in row i j n) ≡ payments_from row j (sizes_of (each (head_at row) i n))
unfolding messages_in payments_from
payments_of_lem row i j zero = refl
payments_of_lem row i j (suc n) =
    rw (payments_of_lem row (i + 1) (j + 3 * word row (12 + 4 * i)) n)
    (sym (from_append row j (word row (12 + 4 * i)) (sizes_of (each (head_at row) (i + 1) n))))

pub cut_four : (row : List ℕ) (j : ℕ) → j + 4 ≤ length row → drop j row ≡ get_or row j 0 ∷ get_or row (j + 1) 0 ∷ get_or row (j + 2) 0 ∷ get_or row (j + 3) 0 ∷ drop (j + 4) row
cut_four row j h =
    let b : j + 3 + 1 ≡ j + 4 = omega arith in
    cut_three row j (omega arith)
    ∙ ap (λ (l : List ℕ). get_or row j 0 ∷ get_or row (j + 1) 0 ∷ get_or row (j + 2) 0 ∷ l) (next row (j + 3) 0 (omega arith) ∙ ap (λ (l : List ℕ). get_or row (j + 3) 0 ∷ l) (ap (λ (n : ℕ). drop n row) b))

pub words_messages : (row : List ℕ) (i j n : ℕ) → 9 + 4 * i + 4 * n ≤ length row → messages_words (messages_in row i j n) ≡ take (4 * n) (drop (9 + 4 * i) row)
unfolding messages_in messages_words
words_messages row i j zero h = refl
words_messages row i j (suc n) h =
    let e : 4 * suc n ≡ suc (suc (suc (suc (4 * n)))) = omega arith in
    let a : 9 + 4 * i + 2 ≡ 11 + 4 * i = omega arith in
    let b : 9 + 4 * i + 3 ≡ 12 + 4 * i = omega arith in
    let f : 9 + 4 * (i + 1) ≡ 9 + 4 * i + 4 = omega arith in
    rw (e, from_long row j (word row (12 + 4 * i)), words_messages row (i + 1) (j + 3 * word row (12 + 4 * i)) n (omega arith), f, cut_four row (9 + 4 * i) (omega arith), a, b)

-- ---- filled up with zeros

-- a part of w words whose words from n on are zero
pub filled_part : (w n : ℕ) (l : List ℕ) → length l ≡ w → n ≤ w → AllZero (drop n l) → filled w (take n l) ≡ l
filled_part w n l e h z =
    let a : length (take n l) ≡ n = length-take-le n l (omega arith) in
    let d : length (drop n l) ≡ w - n = omega (arith, length-drop n l) in
    let b : drop n l ≡ replicate (w - n) 0 = zeros (drop n l) z ∙ ap (λ (k : ℕ). replicate k 0) d in
    rw (a, sym b) (take-append-drop n l)

pub part_filled : (w n : ℕ) (l : List ℕ) → length l ≡ n → n ≤ w → AllZero (drop n (filled w l))
part_filled w n l e h = rw (drop_at l (replicate (w - length l) 0) n e) (all_zero (w - length l))

pub drop_take : (a b : ℕ) (l : List ℕ) → drop a (take b l) ≡ take (b - a) (drop a l)
drop_take zero b l = let e : b - 0 ≡ b = omega arith in rw e
drop_take (suc a) zero l = let e : 0 - suc a ≡ 0 = omega arith in rw e
drop_take (suc a) (suc b) [] = sym (take-nil (suc b - suc a))
drop_take (suc a) (suc b) (x ∷ l) = let e : suc b - suc a ≡ b - a = omega arith in rw e (drop_take a b l)

-- ---- the whole row

head_cut : (row : List ℕ) → 9 ≤ length row
    → row ≡ get_or row 0 0 ∷ get_or row 1 0 ∷ get_or row 2 0 ∷ get_or row 3 0 ∷ get_or row 4 0 ∷ get_or row 5 0 ∷ get_or row 6 0 ∷ get_or row 7 0 ∷ get_or row 8 0 ∷ drop 9 row
head_cut row h =
    let a : row ≡ get_or row 0 0 ∷ get_or row (0 + 1) 0 ∷ get_or row (0 + 2) 0 ∷ get_or row (0 + 3) 0 ∷ drop (0 + 4) row = cut_four row 0 (omega arith) in
    let b : drop 4 row ≡ get_or row 4 0 ∷ get_or row (4 + 1) 0 ∷ get_or row (4 + 2) 0 ∷ get_or row (4 + 3) 0 ∷ drop (4 + 4) row = cut_four row 4 (omega arith) in
    let c : drop 8 row ≡ get_or row 8 0 ∷ drop (8 + 1) row = next row 8 0 (omega arith) in
    a ∙ ap (λ (l : List ℕ). get_or row 0 0 ∷ get_or row 1 0 ∷ get_or row 2 0 ∷ get_or row 3 0 ∷ l) b
    ∙ ap (λ (l : List ℕ). get_or row 0 0 ∷ get_or row 1 0 ∷ get_or row 2 0 ∷ get_or row 3 0 ∷ get_or row 4 0 ∷ get_or row 5 0 ∷ get_or row 6 0 ∷ get_or row 7 0 ∷ l) c

minute_back : (m : ℕ) → activation_word (activation_in m) ≡ m
minute_back zero = refl
minute_back (suc m) = refl

module _ (row : List ℕ) (long : length row ≡ 349) (few : word row 7 ≤ 10) where
  middle_long : length (take 40 (drop 9 row)) ≡ 40
  middle_long = length-take-le 40 (drop 9 row) (omega (arith, length-drop 9 row))

  tail_long : length (drop 49 row) ≡ 300
  tail_long = omega (arith, length-drop 49 row)

  parts : drop 9 row ≡ take 40 (drop 9 row) ++ drop 49 row
  parts = sym (take-append-drop 40 (drop 9 row)) ∙ ap (λ (l : List ℕ). take 40 (drop 9 row) ++ l) (drop-drop 40 9 row)

  -- the messages' words, as they lie
  middle : messages_words (messages_in row 0 49 (word row 7)) ≡ take (4 * word row 7) (take 40 (drop 9 row))
  middle = words_messages row 0 49 (word row 7) (omega arith) ∙ sym (take-take (4 * word row 7) 40 (drop 9 row) (omega arith))

  behind : drop (4 * word row 7) (take 40 (drop 9 row)) ≡ take (49 - (9 + 4 * word row 7)) (drop (9 + 4 * word row 7) row)
  behind =
      let e : 40 - 4 * word row 7 ≡ 49 - (9 + 4 * word row 7) = omega arith in
      drop_take (4 * word row 7) 40 (drop 9 row) ∙ rw (e, drop-drop (4 * word row 7) 9 row)

  module _ (total : sizes_of (heads_in row) ≡ word row 8) (small : word row 8 ≤ 100) where
    pub flat : payments_of (messages_in row 0 49 (word row 7)) ≡ payments_in row
    flat = payments_of_lem row 0 49 (word row 7) ∙ ap (λ (n : ℕ). payments_from row 49 n) total

    pub row_words : ZeroBehind row → batch_words (word row 0) (word row 1) (word row 6) (batch_in row) ≡ row
    unfolding batch_words batch_in
    row_words z =
        let a : filled 40 (messages_words (messages_in row 0 49 (word row 7))) ≡ take 40 (drop 9 row) =
        ap (filled 40) middle ∙ filled_part 40 (4 * word row 7) (take 40 (drop 9 row)) middle_long (omega arith) (rw behind z.messages)
        in
        let b : filled 300 (payments_words (payments_from row 49 (word row 8))) ≡ drop 49 row =
        ap (filled 300) (words_from row 49 (word row 8) (omega arith))
        ∙ filled_part 300 (3 * word row 8) (drop 49 row) tail_long (omega arith) (rw (drop-drop (3 * word row 8) 49 row) z.payments)
        in
        rw (flat, minute_back (word row 5), messages_many row 0 49 (word row 7), from_long row 49 (word row 8), a, b, sym parts) (sym (head_cut row (omega arith)))

  -- ---- and back

  module _ (phase rank memory : ℕ) (e : batch_words phase rank memory (batch_in row) ≡ row) where
    pub words_phase : phase ≡ word row 0
    unfolding batch_words
    words_phase = ap (λ (l : List ℕ). get_or l 0 0) e

    pub words_rank : rank ≡ word row 1
    unfolding batch_words
    words_rank = ap (λ (l : List ℕ). get_or l 1 0) e

    pub words_memory : memory ≡ word row 6
    unfolding batch_words
    words_memory = ap (λ (l : List ℕ). get_or l 6 0) e

    pub words_total : sizes_of (heads_in row) ≡ word row 8
    unfolding batch_words batch_in
    words_total =
        sym (from_long row 49 (sizes_of (heads_in row))) ∙ ap length (sym (payments_of_lem row 0 49 (word row 7))) ∙ ap (λ (l : List ℕ). get_or l 8 0) e

    abbrev one : List ℕ
    one = messages_words (messages_in row 0 49 (word row 7))

    abbrev two : List ℕ
    two = payments_words (payments_of (messages_in row 0 49 (word row 7)))

    from_nine : drop 9 row ≡ filled 40 one ++ filled 300 two
    unfolding batch_words batch_in
    from_nine = ap (λ (l : List ℕ). drop 9 l) (sym e)

    one_long : length one ≡ 4 * word row 7
    one_long = messages_long (messages_in row 0 49 (word row 7)) ∙ ap (λ (n : ℕ). 4 * n) (messages_many row 0 49 (word row 7))

    two_long : length two ≡ 3 * word row 8
    two_long =
        payments_long (payments_of (messages_in row 0 49 (word row 7)))
        ∙ ap (λ (n : ℕ). 3 * n) (ap length (payments_of_lem row 0 49 (word row 7)) ∙ from_long row 49 (sizes_of (heads_in row)) ∙ words_total)

    filled_one : length (filled 40 one) ≡ 40
    filled_one = filled_long 40 one (omega (arith, one_long))

    pub words_behind : word row 8 ≤ 100 → ZeroBehind row
    words_behind small =
        let a : take 40 (drop 9 row) ≡ filled 40 one = ap (take 40) from_nine ∙ take_at (filled 40 one) (filled 300 two) 40 filled_one in
        let b : drop 40 (drop 9 row) ≡ filled 300 two = ap (λ (l : List ℕ). drop 40 l) from_nine ∙ drop_at (filled 40 one) (filled 300 two) 40 filled_one in
        let c : drop (49 + 3 * word row 8) row ≡ drop (3 * word row 8) (filled 300 two) =
        sym (drop-drop (3 * word row 8) 49 row) ∙ ap (λ (l : List ℕ). drop (3 * word row 8) l) (sym (drop-drop 40 9 row) ∙ b)
        in
        record {
          messages = rw (sym behind, a) (part_filled 40 (4 * word row 7) one one_long (omega arith));
          payments = rw c (part_filled 300 (3 * word row 8) two two_long (omega arith));
        }
