-- A book that is written is read as its day, its streams and its banks, if its bytes can hold them; in range, every rule holds of them.
use Rattle.std.specs.Prelude.{Some}
use Prim.Native.Nat.{ℕ, zero, suc, ◌+◌, ◌*◌, ◌-◌, ◌≤◌, ◌<◌}
use mathlib.Core.Path.{◌≡◌, refl, sym, ◌∙◌, ap}
use mathlib.Core.Bool.{true, false≢true}
use mathlib.Core.List.{List, [], ◌∷◌, ◌++◌, map, append_assoc, append-nil}
use native.Mathlib.Omega.{arith}
use lib.ListN.{length, take, drop, length-append, length-drop, take-append-drop}
use lib.Seq.{take_all, length-take-le}
use borrow.Author.Tests.{le-leb, eq-eqb, lt-ltb, le-ltb}
use Rattle.chars.specs.Chars.{is_code, is_letter, is_digit}
use Rattle.codes.specs.Codes.{unpacked, short_text}
use Rattle.dates.specs.Dates.{date_of}
use Rattle.dates.proofs.Laws.{date_back, date_small}
use Rattle.text_scan.specs.Scan.{number_at}
use Rattle.text_scan.proofs.Standing.{number_reads}
use Rattle.text_put.specs.Digits.{digits_of}
use Rattle.text_put.proofs.Laws.{digits_length}
use Rattle.response_read.proofs.Digits.{digits_all, value_back}
use Rattle.book_read.specs.declared.Field.TheVariants.{Code}
use Rattle.book_read.specs.Block.{head, entries_at, zeros_at}
use Rattle.book_read.specs.Book.{date_in, stream_right, bank_right, streams_counted, stream_rules, banks_counted, code_before, bank_rules, bank_blocks, each, bank_place}
use Rattle.book_read.specs.Accounts.{Stream, Bank, stream_at, bank_at, day_in, streams_in, field_of, column}
use Rattle.book_write.specs.Closing.{stream_bytes, bank_bytes, joined, stream_block, bank_block, bank_blocks_of}
use Rattle.book_read.specs.Range.{Each, is_short, Rising, stream_codes}
use Rattle.book_read.proofs.Leaves.{before_next}
use Rattle.book_read.proofs.Accepted.{AllHold, hold_join}
use Rattle.book_write.proofs.Storing.{stream_length, bank_length}
use Rattle.book_write.proofs.Sealing.{joined_length, sealed_length}
use Rattle.book_read.proofs.Ranging.{RightStream, RightBank}
use Rattle.thm_books_back.proofs.Blocks.{begins_at, after, Stands, stands, entries_stand, header_stands, Along, along, Holds, Reads, last_of, rising_split, entries_right_lem, last_short, each_reads}
use Rattle.thm_books_back.specs.Fitting.{FitStream, FitBank}
use Rattle.thm_books_back.proofs.Entries.{stream_reads, stream_holds, bank_reads, bank_holds}

-- ---- codes

-- no code is zero
pub short_some : (c : ℕ) → is_short c ≡ true → 0 < c
unfolding short_text unpacked is_code is_letter is_digit
short_some zero h = absurd (false≢true h)
short_some (suc c) h = omega arith

pub rising_first : (l : List ℕ) → Each (λ x. is_short x ≡ true) l → Rising l → Rising (0 ∷ l)
rising_first [] e h = tt
rising_first (x ∷ l) e h = (short_some x e.0, h)

pub short_codes : (xs : List Stream) → Each RightStream xs → Each (λ x. is_short x ≡ true) (stream_codes xs)
short_codes [] e = tt
short_codes (x ∷ xs) e = (e.0.code, short_codes xs e.1)

codes_map : (xs : List Stream) → stream_codes xs ≡ map (λ (x : Stream). x.code) xs
codes_map [] = refl
codes_map (x ∷ xs) = ap (λ (l : List ℕ). x.code ∷ l) (codes_map xs)

-- ---- the block of streams

module _ (s : List ℕ) (day : ℕ) (xs : List Stream) (blocks : ℕ) (r : List ℕ) (h : drop 0 s ≡ stream_block day xs blocks ++ r) (few : length xs ≤ 8) where
  abbrev date : List ℕ
  date = digits_of 6 (date_of day)

  abbrev entries : List ℕ
  entries = joined stream_bytes xs

  abbrev first : List ℕ
  first = head 83 0 (length xs) blocks

  text_long : length (((first ++ date) ++ (0 ∷ 0 ∷ [])) ++ entries) ≡ 16 + 8 * length xs
  text_long = simp (length-append, digits_length, joined_length stream_bytes 8 stream_length xs)

  block_0 : Stands s 0 (((first ++ date) ++ (0 ∷ 0 ∷ [])) ++ entries)
  unfolding stream_block
  block_0 = stands s 0 (((first ++ date) ++ (0 ∷ 0 ∷ [])) ++ entries) r h (omega (arith, text_long))

  abbrev rest : List ℕ
  rest = entries ++ block_0.rest

  in_head : drop 0 s ≡ first ++ (date ++ (0 ∷ 0 ∷ rest))
  in_head =
      block_0.here ∙ append_assoc ((first ++ date) ++ (0 ∷ 0 ∷ [])) entries block_0.rest
      ∙ append_assoc (first ++ date) (0 ∷ 0 ∷ []) rest ∙ append_assoc first date (0 ∷ 0 ∷ rest)

  in_date : drop 8 s ≡ date ++ (0 ∷ 0 ∷ rest)
  in_date = after s 0 8 first (date ++ (0 ∷ 0 ∷ rest)) in_head refl

  in_zeros : drop 14 s ≡ (0 ∷ 0 ∷ []) ++ rest
  in_zeros = after s 8 6 date (0 ∷ 0 ∷ rest) in_date (digits_length 6 (date_of day))

  in_entries : drop 16 s ≡ rest
  in_entries = after s 14 2 (0 ∷ 0 ∷ []) rest in_zeros refl

  pub streams_count : entries_at s 0 ≡ length xs
  streams_count = entries_stand s 0 83 0 (length xs) blocks (date ++ (0 ∷ 0 ∷ rest)) in_head

  module _ (true_date : day < 36525) where
    date_stands : date_in s ≡ Some day
    unfolding date_in
    date_stands =
        let v = date_of day in
        let number : number_at s 8 6 ≡ Some (v, 14) =
        simp (digits_length, value_back 6 v (date_small day)) at (number_reads s 8 date (0 ∷ 0 ∷ rest) in_date (digits_all 6 v) (rw digits_length (omega arith))) in
        rw number (date_back day true_date)

    pub day_read : day_in s ≡ day
    unfolding day_in
    day_read = rw date_stands

    counted : 1 ≤ length xs → streams_counted s ≡ true
    unfolding streams_counted zeros_at
    counted some = rw (streams_count, le-leb 1 (length xs) some, le-leb (length xs) 8 few, date_stands) (begins_at s 14 (0 ∷ 0 ∷ []) rest in_zeros)

  module _ (fit : Each FitStream xs) where
    streams_along : Along (Reads (stream_at s)) 8 16 xs
    streams_along = along s 8 stream_bytes FitStream (Reads (stream_at s)) stream_length (stream_reads s) xs 16 block_0.rest in_entries fit

    pub streams_read : streams_in s ≡ xs
    unfolding streams_in
    streams_read = rw streams_count (each_reads 8 (stream_at s) (λ i. 8 * i + 16) xs 0 16 (λ j q. omega arith) streams_along)

    pub streams_hold : day < 36525 → 1 ≤ length xs → Each RightStream xs → Rising (stream_codes xs) → AllHold (stream_rules s blocks)
    unfolding stream_rules
    streams_hold true_date some good rise =
        let up : Rising (0 ∷ map (λ (x : Stream). x.code) xs) = rw (codes_map xs) at (rising_first (stream_codes xs) (short_codes xs good) rise) in
        let right = along s 8 stream_bytes RightStream (Holds (stream_right s)) stream_length (stream_holds s) xs 16 block_0.rest in_entries good in (
          block_0.check,
          (
            header_stands s 0 83 0 (length xs) blocks (date ++ (0 ∷ 0 ∷ rest)) in_head (streams_counted s) 16 8 (counted true_date some) (rw (← text_long) block_0.unused),
            (rw streams_count (entries_right_lem s 8 (stream_at s) (λ x. x.code) (λ p. refl) (stream_right s) xs 0 16 right streams_along up), tt),
          ),
        )

-- ---- a block of banks

module _ (s : List ℕ) (blocks k : ℕ) (bs : List Bank) (r : List ℕ) (h : drop (512 * k) s ≡ bank_block blocks k bs ++ r) (few : length bs ≤ 20) where
  abbrev top : List ℕ
  top = head 66 k (length bs) blocks

  block_long : length (top ++ joined bank_bytes bs) ≡ 8 + 24 * length bs
  block_long = simp (joined_length bank_bytes 24 bank_length bs) (omega arith)

  block_k : Stands s (512 * k) (top ++ joined bank_bytes bs)
  unfolding bank_block
  block_k = stands s (512 * k) (top ++ joined bank_bytes bs) r h (omega (arith, block_long))

  at_head : drop (512 * k) s ≡ top ++ (joined bank_bytes bs ++ block_k.rest)
  at_head = block_k.here ∙ append_assoc top (joined bank_bytes bs) block_k.rest

  at_entries : drop (512 * k + 8) s ≡ joined bank_bytes bs ++ block_k.rest
  at_entries = after s (512 * k) 8 top (joined bank_bytes bs ++ block_k.rest) at_head refl

  pub banks_count : entries_at s (512 * k) ≡ length bs
  banks_count = entries_stand s (512 * k) 66 k (length bs) blocks (joined bank_bytes bs ++ block_k.rest) at_head

  pub past_block : drop (512 * (k + 1)) s ≡ r
  unfolding bank_block
  past_block =
      let z : 512 * k + 512 ≡ 512 * (k + 1) = omega arith in
      rw z at (after s (512 * k) 512 (bank_block blocks k bs) r h (sealed_length (top ++ joined bank_bytes bs) (omega (arith, block_long))))

  module _ (fit : Each FitBank bs) where
    banks_along : Along (Reads (bank_at s)) 24 (512 * k + 8) bs
    banks_along = along s 24 bank_bytes FitBank (Reads (bank_at s)) bank_length (bank_reads s) bs (512 * k + 8) block_k.rest at_entries fit

    pub block_read : 1 ≤ k → each (λ (i : ℕ). bank_at s (bank_place i)) (20 * (k - 1)) (length bs) ≡ bs
    unfolding bank_place
    block_read p = each_reads 24 (bank_at s) bank_place bs (20 * (k - 1)) (512 * k + 8) (λ j q. omega arith) banks_along

    pub block_last : (c : ℕ) → 1 ≤ k → length bs ≡ 20 → code_before s (k + 1) ≡ last_of c (column Code bs)
    block_last c p l =
        let z : 512 * k + 8 + 24 * (length bs - 1) ≡ 512 * (k + 1) - 48 = omega arith in
        sym (before_next s (k + 1) (omega arith) (sym (rw z at (last_short s 24 (bank_at s) (field_of Code) (λ p. refl) c bs (512 * k + 8) (omega arith) banks_along))))

    pub block_rules_lem : (streams : ℕ) → streams ≤ 8 → entries_at s 0 ≡ streams → Each (RightBank streams) bs → banks_counted blocks k (length bs) ≡ true
        → Rising (code_before s k ∷ column Code bs) → AllHold (bank_rules s blocks k)
    unfolding bank_rules
    block_rules_lem streams few_streams n good count rise =
        let right =
        along s 24 bank_bytes (RightBank streams) (Holds (bank_right s streams)) bank_length
        (λ x p r h. bank_holds s x p r h streams few_streams) bs (512 * k + 8) block_k.rest at_entries good in (
          block_k.check,
          (
            header_stands s (512 * k) 66 k (length bs) blocks (joined bank_bytes bs ++ block_k.rest) at_head _ 8 24 (rw banks_count count) (rw (← block_long) block_k.unused),
            (rw (n, banks_count) (entries_right_lem s 24 (bank_at s) (field_of Code) (λ p. refl) (bank_right s streams) bs (code_before s k) (512 * k + 8) right banks_along rise), tt),
          ),
        )

-- ---- blocks of banks one after another

pub take_most : {A : Type 0} (n : ℕ) (l : List A) → length (take n l) ≤ n
take_most zero l = omega arith
take_most (suc n) [] = omega arith
take_most (suc n) (x ∷ l) = omega (arith, take_most n l)

each_first : {A : Type 0} (P : A → Type 0) (n : ℕ) (l : List A) → Each P l → Each P (take n l) × Each P (drop n l)
each_first P zero l e = (tt, e)
each_first P (suc n) [] e = (tt, tt)
each_first P (suc n) (x ∷ l) e = let t = each_first P n l e.1 in ((e.0, t.0), t.1)

map_parts : {A : Type 0} (f : A → ℕ) (n : ℕ) (l : List A) → map f l ≡ map f (take n l) ++ map f (drop n l)
map_parts f zero l = refl
map_parts f (suc n) [] = refl
map_parts f (suc n) (x ∷ l) = ap (λ (r : List ℕ). f x ∷ r) (map_parts f n l)

each_parts : {A : Type 0} (f : ℕ → A) (i a b : ℕ) → each f i (a + b) ≡ each f i a ++ each f (i + a) b
each_parts f i zero b = let z : 0 + b ≡ b = omega arith in let y : i + 0 ≡ i = omega arith in rw (z, y)
each_parts f i (suc a) b =
    let z : suc a + b ≡ suc (a + b) = omega arith in
    let y : i + suc a ≡ i + 1 + a = omega arith in
    rw (z, y, each_parts f (i + 1) a b)

pub record Banked (s : List ℕ) (blocks streams k n : ℕ) (bs : List Bank) : Type 0 where
  pub read : each (λ (i : ℕ). bank_at s (bank_place i)) (20 * (k - 1)) (length bs) ≡ bs
  pub last : entries_at s (512 * (k + n - 1)) ≡ length bs - 20 * (n - 1)
  pub rules : (c : ℕ) → Each (RightBank streams) bs → Rising (c ∷ column Code bs) → code_before s k ≡ c → AllHold (bank_blocks s blocks k n)

last_counted : (blocks k n : ℕ) → blocks ≤ k + 1 → 1 ≤ n → n ≤ 20 → 20 * (k - 1) + n ≤ 64 → banks_counted blocks k n ≡ true
unfolding banks_counted
last_counted blocks k n e p q m = rw (le-ltb (k + 1) blocks e, le-leb 1 n p, le-leb n 20 q) (le-leb (20 * (k - 1) + n) 64 m)

full_counted : (blocks k n : ℕ) → k + 1 < blocks → n ≡ 20 → banks_counted blocks k n ≡ true
unfolding banks_counted
full_counted blocks k n e p = rw (lt-ltb (k + 1) blocks e) (eq-eqb n 20 p)

one_less : (a b n : ℕ) → b ≡ a - 20 → b - 20 * (suc n - 1) ≡ a - 20 * (suc (suc n) - 1)
one_less a b n e =
    let y : 20 * (suc (suc n) - 1) ≡ 20 + 20 * n = omega arith in
    let z : 20 * (suc n - 1) ≡ 20 * n = omega arith in
    rw (e, y, z) (omega arith)

module _ (s : List ℕ) (blocks streams : ℕ) (few_streams : streams ≤ 8) (here : entries_at s 0 ≡ streams) where
  pub banked : (n k : ℕ) (bs : List Bank) (r : List ℕ) → 1 ≤ k → k + n ≡ blocks → drop (512 * k) s ≡ bank_blocks_of blocks k n bs ++ r
      → 1 ≤ length bs → length bs ≤ 20 * n → 20 * n < length bs + 20 → 20 * (k - 1) + length bs ≤ 64 → Each FitBank bs → Banked s blocks streams k n bs
  unfolding bank_blocks_of bank_blocks
  banked zero k bs r p e h some few full most fit = absurd (omega arith)
  banked (suc zero) k bs r p e h some few full most fit =
      let h₀ : drop (512 * k) s ≡ bank_block blocks k bs ++ r =
      h ∙ ap (λ (l : List ℕ). l ++ r) (append-nil (bank_block blocks k (take 20 bs))) ∙ ap (λ (b : List Bank). bank_block blocks k b ++ r) (take_all 20 bs (omega arith)) in
      let z : k + suc zero - 1 ≡ k = omega arith in
      record {
        read = block_read s blocks k bs r h₀ (omega arith) fit p;
        last = rw z (banks_count s blocks k bs r h₀ (omega arith) ∙ omega arith);
        rules = λ c good rise before.
            hold_join (bank_rules s blocks k) []
            (block_rules_lem s blocks k bs r h₀ (omega arith) fit streams few_streams here good (last_counted blocks k (length bs) (omega arith) some (omega arith) most) (rw before rise)) tt;
      }
  banked (suc (suc n)) k bs r p e h some few full most fit =
      let b₀ = take 20 bs in
      let b₁ = drop 20 bs in
      let l₀ : length b₀ ≡ 20 = length-take-le 20 bs (omega arith) in
      let l₁ : length b₁ ≡ length bs - 20 = length-drop 20 bs in
      let h₀ = h ∙ append_assoc (bank_block blocks k b₀) (bank_blocks_of blocks (k + 1) (suc n) b₁) r in
      let g = each_first FitBank 20 bs fit in
      let r₁ = bank_blocks_of blocks (k + 1) (suc n) b₁ ++ r in
      let next = banked (suc n) (k + 1) b₁ r (omega arith) (omega arith) (past_block s blocks k b₀ r₁ h₀ (omega arith))
      (omega arith) (omega arith) (omega arith) (omega arith) g.1 in
      let z : k + suc (suc n) - 1 ≡ k + 1 + suc n - 1 = omega arith in
      let i : 20 * (k + 1 - 1) ≡ 20 * (k - 1) + 20 = omega arith in
      let m : length bs ≡ 20 + length b₁ = omega arith in
      let f : ℕ → Bank = λ j. bank_at s (bank_place j) in
      record {
        read =
            ap (each f (20 * (k - 1))) m ∙ each_parts f (20 * (k - 1)) 20 (length b₁)
            ∙ ap (λ (l : List Bank). l ++ each f (20 * (k - 1) + 20) (length b₁)) (ap (each f (20 * (k - 1))) (sym l₀) ∙ block_read s blocks k b₀ r₁ h₀ (omega arith) g.0 p)
            ∙ ap (λ (l : List Bank). b₀ ++ l) (ap (λ (j : ℕ). each f j (length b₁)) (sym i) ∙ next.read)
            ∙ take-append-drop 20 bs;
        last = rw z (next.last ∙ one_less (length bs) (length b₁) n l₁);
        rules = λ c good rise before.
            let q = each_first (RightBank streams) 20 bs good in
            let up = rising_split c (column Code b₀) (column Code b₁) (rw (map_parts (field_of Code) 20 bs) at rise) in
            hold_join (bank_rules s blocks k) (bank_blocks s blocks (k + 1) (suc n))
            (block_rules_lem s blocks k b₀ r₁ h₀ (omega arith) g.0 streams few_streams here q.0 (full_counted blocks k (length b₀) (omega arith) l₀) (rw before up.0))
            (next.rules (last_of c (column Code b₀)) q.1 up.1 (block_last s blocks k b₀ r₁ h₀ (omega arith) g.0 c p l₀));
      }
