-- An accepted book, read and written again, is the same bytes.
use Rattle.std.specs.Prelude.{Option, Some, None}
use Prim.Native.Nat.{ℕ, zero, suc, ◌+◌, ◌*◌, ◌-◌, ◌/◌, ◌%◌, ◌≤◌, ◌<◌}
use mathlib.Core.Path.{◌≡◌, refl, sym, ◌∙◌, ap}
use mathlib.Core.Bool.{Bool, true, ◌&&◌, false≢true}
use mathlib.Core.List.{List, [], ◌∷◌, ◌++◌, append_assoc, append-nil}
use native.Mathlib.Nat.{add-zero, mul-zero, mul-suc}
use native.Mathlib.Omega.{arith}
use native.Mathlib.Numerals.{add-one}
use lib.ListN.{length, get_or, take, drop, replicate, length-drop, length-replicate, take-append-drop}
use lib.Seq.{take-add, take_all, take-append_seam, drop-drop, drop-cons, length-take-le}
use lib.Dec.{leb, ltb, eqb}
use borrow.Author.Tests.{eqb-true, leb-true, ltb-true, ltb-false}
use Rattle.chars.specs.Chars.{is_digit, digit_value}
use Rattle.chars.proofs.Laws.{digit_low, digit_high, digit_yes}
use Rattle.codes.specs.Codes.{short_at, short_text, Bytes}
use Rattle.codes.proofs.Laws.{pack_take, short_text_lem}
use Rattle.checksum.specs.Sum.{block_sum}
use Rattle.dates.specs.Dates.{day_of, date_of}
use Rattle.dates.proofs.Laws.{day_back}
use Rattle.text_scan.specs.Scan.{begins, digits, digits_at, number_at}
use Rattle.text_put.specs.Digits.{digits_of}
use Rattle.book_read.specs.Block.{little, head, entries_at, head_right, zeros_at, unused_right, check_right, entries_right}
use Rattle.book_read.specs.Book.{is_day, date_in, numbered, blocks_in, bank_place, bank_count, code_before, each, code_right, stream_right, bank_right, bits_past}
use Rattle.book_read.specs.Accounts.{day_in, on_day, streams_in, banks_in, Stream, Bank, stream_at, bank_at}
use Rattle.book_write.specs.Closing.{little_of, stream_bytes, bank_bytes, joined, padded, sealed, stream_block, bank_block, bank_blocks_of, blocks_for, book_bytes}
use Rattle.text_scan.proofs.Pairs.{some_pair}
use Rattle.book_read.proofs.Rules.{by_holds}
use Rattle.book_read.proofs.Accepted.{both, Accepted, stream_check, stream_head, stream_entries, streams_most, dated, date_zeros, bank_check, bank_head, bank_entries, count_full, last_some, last_few}
use Rattle.book_read.proofs.Filling.{each_length}
use Rattle.book_write.proofs.Sealing.{sum_there, sum_self, each_full, each_drop}

-- bytes of a part of a text
bytes_drop : (n : ℕ) (l : List ℕ) → Bytes l → Bytes (drop n l)
bytes_drop zero l b = b
bytes_drop (suc n) [] b = tt
bytes_drop (suc n) (x ∷ l) b = bytes_drop n l b.1

bytes_take : (n : ℕ) (l : List ℕ) → Bytes l → Bytes (take n l)
bytes_take zero l b = tt
bytes_take (suc n) [] b = tt
bytes_take (suc n) (x ∷ l) b = (b.0, bytes_take n l b.1)

bytes_at : (l : List ℕ) (i : ℕ) → Bytes l → get_or l i 0 < 256
bytes_at [] i b = omega arith
bytes_at (x ∷ l) zero b = b.0
bytes_at (x ∷ l) (suc i) b = bytes_at l i b.1

-- a fixed string that stands at the head
begins_is : (p l : List ℕ) → begins p l ≡ true → l ≡ p ++ drop (length p) l
unfolding begins
begins_is [] l h = refl
begins_is (x ∷ p) [] h = absurd (false≢true h)
begins_is (x ∷ p) (y ∷ l) h =
    let t = both (eqb y x) (begins p l) h in
    let e : y ≡ x = eqb-true y x t.0 in
    ap (λ (z : ℕ). z ∷ l) e ∙ ap (λ (r : List ℕ). x ∷ r) (begins_is p l t.1)

pub begins_take : (p l : List ℕ) → begins p l ≡ true → take (length p) l ≡ p
begins_take p l h = ap (take (length p)) (begins_is p l h) ∙ take-append_seam p (drop (length p) l)

-- numbers and codes are written as they stood
pub little_back : (w : ℕ) (l : List ℕ) → Bytes l → w ≤ length l → little_of w (little w l) ≡ take w l
unfolding little little_of
little_back zero l b h = refl
little_back (suc w) [] b h = absurd (omega arith)
little_back (suc w) (x ∷ l) b h =
    let low : (x + 256 * little w l) % 256 ≡ x = omega (arith, b.0) in
    let high : (x + 256 * little w l) / 256 ≡ little w l = omega (arith, b.0) in
    rw (low, high, little_back w l b.1 (omega arith))

pub short_back : (s : List ℕ) (at : ℕ) → Bytes s → at + 4 ≤ length s → short_text (short_at s at) ≡ take 4 (drop at s)
unfolding short_at
short_back s at b h =
    ap short_text (sym (pack_take 4 0 (drop at s)))
    ∙ short_text_lem (take 4 (drop at s)) (length-take-le 4 (drop at s) (simp length-drop (omega arith))) (bytes_take 4 (drop at s) (bytes_drop at s b))

-- the parts of a text one after another
part_next : (s : List ℕ) (at n m : ℕ) → take (n + m) (drop at s) ≡ take n (drop at s) ++ take m (drop (at + n) s)
part_next s at n m = take-add n m (drop at s) ∙ rw drop-drop

-- one byte and the rest
byte_next : (s : List ℕ) (at : ℕ) → at < length s → drop at s ≡ get_or s at 0 ∷ drop (at + 1) s
byte_next s at h = drop-cons s at 0 h ∙ rw (add-one at)

-- an entry of a stream
pub stream_back : (s : List ℕ) → Bytes s → (at : ℕ) → stream_right s at ≡ true → at + 8 ≤ length s → stream_bytes (stream_at s at) ≡ take 8 (drop at s)
unfolding stream_right stream_bytes zeros_at
stream_back s b at h l =
    let a = both (code_right s at) _ h in
    let z = (both (leb 1 (get_or s (at + 4) 0) && leb (get_or s (at + 4) 0) 255) _ a.1).1 in
    let five : at + 4 + 1 ≡ at + 5 = omega arith in
    let low : get_or s (at + 4) 0 % 256 ≡ get_or s (at + 4) 0 = omega (arith, bytes_at s (at + 4) b) in
    let rest : take 4 (drop (at + 4) s) ≡ get_or s (at + 4) 0 ∷ 0 ∷ 0 ∷ 0 ∷ [] =
    rw (byte_next s (at + 4) (omega arith), five) (ap (λ (r : List ℕ). get_or s (at + 4) 0 ∷ r) (begins_take (0 ∷ 0 ∷ 0 ∷ []) (drop (at + 5) s) z)) in
    rw (low, short_back s at b (omega arith), ← rest) (sym (part_next s at 4 4))

-- the flag and the stream bits of one number
flag_part : (f g : ℕ) → f ≤ 1 → (f + 2 * g) % 2 ≡ f
flag_part f g h = omega arith

bits_part : (f g : ℕ) → f ≤ 1 → g < 256 → (f + 2 * g) / 2 % 256 ≡ g
bits_part f g h k = let half : (f + 2 * g) / 2 ≡ g = omega arith in rw half (omega arith)

-- parts that are equal, one by one
join_2 : {a b a' b' : List ℕ} → a ≡ a' → b ≡ b' → a ++ b ≡ a' ++ b'
join_2 p q = rw (p, q)

-- an entry of a bank
pub bank_back : (s : List ℕ) (streams : ℕ) → Bytes s → (at : ℕ) → bank_right s streams at ≡ true → at + 24 ≤ length s → bank_bytes (bank_at s at) ≡ take 24 (drop at s)
unfolding bank_right bank_bytes zeros_at
bank_back s streams b at h l =
    let f = get_or s (at + 4) 0 in
    let g = get_or s (at + 5) 0 in
    let a = both (code_right s at) _ h in
    let c = both (leb f 1) _ a.1 in
    let d = both (eqb (bits_past streams g) 0) _ c.1 in
    let z = (both (begins (0 ∷ 0 ∷ []) (drop (at + 6) s)) _ d.1).0 in
    let one : f ≤ 1 = leb-true f 1 c.0 in
    let byte : g < 256 = bytes_at s (at + 5) b in
    let five : at + 4 + 1 ≡ at + 5 = omega arith in
    let six : at + 5 + 1 ≡ at + 6 = omega arith in
    let flag : (f + 2 * g) % 2 ≡ f = flag_part f g one in
    let bits : (f + 2 * g) / 2 % 256 ≡ g = bits_part f g one byte in
    let mid : take 4 (drop (at + 4) s) ≡ f ∷ g ∷ 0 ∷ 0 ∷ [] =
    rw (byte_next s (at + 4) (omega arith), five, byte_next s (at + 5) (omega arith), six)
    (ap (λ (r : List ℕ). f ∷ g ∷ r) (begins_take (0 ∷ 0 ∷ []) (drop (at + 6) s) z)) in
    rw (
      flag,
      bits,
      short_back s at b (omega arith),
      ← mid,
      little_back 8 (drop (at + 8) s) (bytes_drop (at + 8) s b) (simp length-drop (omega arith)),
      little_back 8 (drop (at + 16) s) (bytes_drop (at + 16) s b) (simp length-drop (omega arith)),
    )
    (sym (part_next s at 16 8 ∙ ap (λ (r : List ℕ). r ++ take 8 (drop (at + 16) s)) (part_next s at 8 8 ∙ ap (λ (r : List ℕ). r ++ take 8 (drop (at + 8) s)) (part_next s at 4 4))))

-- entries one after another, where each is written as it stood
pub entries_back : (s : List ℕ) (w : ℕ) (right : ℕ → Bool) {A : Type 0} (g : A → List ℕ) (F : ℕ → A)
    → ((p : ℕ) → right p ≡ true → p + w ≤ length s → g (F p) ≡ take w (drop p s))
    → (place : ℕ → ℕ) (i n before at : ℕ) → ((j : ℕ) → j < n → place (i + j) ≡ at + w * j)
    → entries_right s w right before at n ≡ true → at + w * n ≤ length s
    → joined g (each (λ (k : ℕ). F (place k)) i n) ≡ take (w * n) (drop at s)
unfolding entries_right
entries_back s w right g F good place i zero before at there h l = rw mul-zero
entries_back s w right g F good place i (suc n) before at there h l =
    let a = both (ltb before (short_at s at) && right at) _ h in
    let r = (both (ltb before (short_at s at)) (right at) a.0).1 in
    let here : place i ≡ at = ap place (sym (add-zero i)) ∙ there 0 (omega arith) ∙ rw mul-zero (omega arith) in
    let size : w * suc n ≡ w + w * n = rw mul-suc (omega arith) in
    let next = entries_back s w right g F good place (i + 1) n (short_at s at) (at + w)
    (λ j q.
    let y : i + 1 + j ≡ i + suc j = omega arith in
    rw y (there (suc j) (omega arith) ∙ rw mul-suc (omega arith)))
    a.1 (omega (arith, size)) in
    rw (here, good at r (omega (arith, size)), next, size) (sym (part_next s at w (w * n)))

-- a block that is sealed right is sealed again the same
pub seal_back : (s l : List ℕ) (at end : ℕ) → Bytes s → l ≡ take end (drop at s) → end ≤ 508 → at + 512 ≤ length s
    → unused_right s at end ≡ true → check_right s at ≡ true → sealed l ≡ take 512 (drop at s)
unfolding sealed unused_right zeros_at check_right
seal_back s l at end b e h k u c = rw (full, sum, tail) (sym (part_next s at 508 4))
  where
    size : length l ≡ end
    size = ap length e ∙ length-take-le end (drop at s) (simp length-drop (omega arith))

    zeros : take (508 - end) (drop (at + end) s) ≡ replicate (508 - end) 0
    zeros = ap (λ (n : ℕ). take n (drop (at + end) s)) (sym (length-replicate (508 - end) 0)) ∙ begins_take (replicate (508 - end) 0) (drop (at + end) s) u

    full : padded l ≡ take 508 (drop at s)
    full =
        let y : end + (508 - end) ≡ 508 = omega arith in
        rw (size, e, ← zeros) (sym (part_next s at end (508 - end)) ∙ ap (λ (n : ℕ). take n (drop at s)) y)

    sum : block_sum (take 508 (drop at s)) 0 ≡ little 4 (drop (at + 508) s)
    sum =
        let long = length-take-le 508 (drop at s) (simp length-drop (omega arith)) in
        sum_self (take 508 (drop at s)) long
        ∙ sym (sum_there (take 508 (drop at s)) s at (drop 508 (drop at s)) long (sym (take-append-drop 508 (drop at s))) (omega arith))
        ∙ sym (eqb-true (little 4 (drop (at + 508) s)) (block_sum s at) c)

    tail : little_of 4 (little 4 (drop (at + 508) s)) ≡ take 4 (drop (at + 508) s)
    tail = little_back 4 (drop (at + 508) s) (bytes_drop (at + 508) s b) (simp length-drop (omega arith))

-- digits are written as they stood
digit_step : (k v d x : ℕ) (r : List ℕ) → d < 10 → x ≡ d + 48 → digits_of (k + 1) (v * 10 + d) ++ r ≡ digits_of k v ++ (x ∷ r)
unfolding digits_of
digit_step k v d x r h e =
    let q : (v * 10 + d) / 10 ≡ v = omega arith in
    let m : (v * 10 + d) % 10 ≡ d = omega arith in
    rw (add-one k, q, m, ← e) (append_assoc (digits_of k v) (x ∷ []) r)

pub digits_back : (n k at v : ℕ) (l : List ℕ) → (digits n at v l).end ≡ at + n → digits_of (k + n) (digits n at v l).value ≡ digits_of k v ++ take n l
unfolding digits
digits_back zero k at v l h = rw (add-zero, append-nil {A = ℕ})
digits_back (suc n) k at v [] h = absurd (omega arith)
digits_back (suc n) k at v (x ∷ l) h =
    by_holds (is_digit x)
    (λ e.
    let d = digit_value x in
    let dy : d ≡ x - 48 = digit_yes x e in
    let low : 48 ≤ x = digit_low x e in
    let high : x ≤ 57 = digit_high x e in
    let end : (digits n (at + 1) (v * 10 + d) l).end ≡ at + suc n = rw e at h in
    let z : k + suc n ≡ k + 1 + n = omega arith in
    rw (e, z) (digits_back n (k + 1) (at + 1) (v * 10 + d) l (end ∙ omega arith) ∙ digit_step k v d x (take n l) (omega arith) (omega arith)))
    (λ e. let no : at ≡ at + suc n = rw e at h in absurd (omega arith))

pub number_back : (s : List ℕ) {v e : ℕ} → number_at s 8 6 ≡ Some (v, e) → digits_of 6 v ≡ take 6 (drop 8 s)
unfolding number_at digits_at digits_of
number_back s {v = v} {e = e} h =
    by_holds (eqb (digits 6 8 0 (drop 8 s)).end 14)
    (λ q.
    let same : Some ((digits 6 8 0 (drop 8 s)).value, 14) ≡ Some (v, e) = rw q at h in
    let is : (digits 6 8 0 (drop 8 s)).value ≡ v = (some_pair same).0 in
    rw (← is) (digits_back 6 0 8 0 (drop 8 s) (eqb-true _ 14 q)))
    (λ q. let no : None ≡ Some (v, e) = rw q at h in let z : ◌≡◌ {A = ℕ} 0 1 = cc in absurd (omega arith))

-- the date is written as it stood
pub date_written : (s : List ℕ) → is_day (date_in s) ≡ true → digits_of 6 (date_of (day_in s)) ≡ take 6 (drop 8 s)
unfolding date_in day_in
date_written s h = fixed (number_at s 8 6) refl h
  where
    day : {v e : ℕ} → number_at s 8 6 ≡ Some (v, e) → (d : Option ℕ) → day_of v ≡ d → is_day d ≡ true → digits_of 6 (date_of (on_day d)) ≡ take 6 (drop 8 s)
    day {v = v} q (Some k) p h = rw (day_back v k p).0 (number_back s q)
    day q None p h = absurd (false≢true h)

    fixed : (f : Option (ℕ × ℕ)) → number_at s 8 6 ≡ f → is_day (numbered f) ≡ true → digits_of 6 (date_of (on_day (numbered f))) ≡ take 6 (drop 8 s)
    fixed (Some (v, e)) q h = day q (day_of v) refl h
    fixed None q h = absurd (false≢true h)

module _ (s : List ℕ) (b : Bytes s) (g : Accepted s) where
  pub size : length s ≡ 512 * blocks_in s
  size = omega (arith, g.whole)

  stream_written : stream_block (day_in s) (streams_in s) (blocks_in s) ≡ take 512 s
  unfolding stream_block streams_in head_right zeros_at
  stream_written =
      let n = entries_at s 0 in
      let f : ℕ → Stream = λ i. stream_at s (8 * i + 16) in
      let few = streams_most g in
      let h₁ = begins_take (head 83 0 n (blocks_in s)) s (stream_head g).head in
      let h₂ = date_written s (dated g) in
      let h₃ = begins_take (0 ∷ 0 ∷ []) (drop 14 s) (date_zeros g) in
      let h₄ = entries_back s 8 (stream_right s) stream_bytes (stream_at s) (stream_back s b) (λ i. 8 * i + 16) 0 n 0 16 (λ j q. omega arith) (stream_entries g) (omega (arith, size, g.few)) in
      seal_back s _ 0 (16 + 8 * n) b
      (join_2 (join_2 (join_2 (ap (λ (m : ℕ). head 83 0 m (blocks_in s)) (each_length f 0 n) ∙ sym h₁) h₂) (sym h₃)) h₄
      ∙ sym (part_next s 0 16 (8 * n) ∙ ap (λ (r : List ℕ). r ++ take (8 * n) (drop 16 s)) (part_next s 0 14 2 ∙ ap (λ (r : List ℕ). r ++ take 2 (drop 14 s)) (part_next s 0 8 6))))
      (omega arith) (omega (arith, size, g.few)) (stream_head g).unused (stream_check g)

  module _ (j : ℕ) (p : j < blocks_in s - 1) where
    entries_few : entries_at s (512 * (1 + j)) ≤ 20
    entries_few =
        by_holds (ltb (1 + j + 1) (blocks_in s))
        (λ e. omega (arith, count_full g j p (ltb-true (1 + j + 1) (blocks_in s) e)))
        (λ e. last_few g j p (ltb-false (1 + j + 1) (blocks_in s) e))

    bank_written : bank_block (blocks_in s) (1 + j) (each (λ (i : ℕ). bank_at s (bank_place i)) (20 * j) (entries_at s (512 * (1 + j)))) ≡ take 512 (drop (512 * (1 + j)) s)
    unfolding bank_block head_right bank_place
    bank_written =
        let at = 512 * (1 + j) in
        let n = entries_at s at in
        let few = entries_few in
        let h₁ = begins_take (head 66 (1 + j) n (blocks_in s)) (drop at s) (bank_head g j p).head in
        let h₂ = entries_back s 24 (bank_right s (entries_at s 0)) bank_bytes (bank_at s) (bank_back s (entries_at s 0) b) bank_place (20 * j) n (code_before s (1 + j)) (at + 8)
        (λ i q. omega arith) (bank_entries g j p) (omega (arith, size)) in
        seal_back s _ at (8 + 24 * n) b
        (join_2 (ap (λ (m : ℕ). head 66 (1 + j) m (blocks_in s)) (each_length (λ (i : ℕ). bank_at s (bank_place i)) (20 * j) n) ∙ sym h₁) h₂ ∙ sym (part_next s at 8 (24 * n)))
        (omega arith) (omega (arith, size)) (bank_head g j p).unused (bank_check g j p)

  last : ℕ
  last = entries_at s (512 * (blocks_in s - 1))

  last_is : (1 ≤ last) × (last ≤ 20)
  unfolding last
  last_is =
      let z : 1 + (blocks_in s - 2) ≡ blocks_in s - 1 = omega (arith, g.few) in
      let j = blocks_in s - 2 in
      let p : j < blocks_in s - 1 = omega (arith, g.few) in
      let h : blocks_in s ≤ 1 + j + 1 = omega (arith, g.few) in
      (rw z at (last_some g j p h), rw z at (last_few g j p h))

  full_or_last : (j : ℕ) (p : j < blocks_in s - 1)
      → ((20 ≤ bank_count s (blocks_in s) - 20 * j → entries_at s (512 * (1 + j)) ≡ 20) × (bank_count s (blocks_in s) - 20 * j < 20 → entries_at s (512 * (1 + j)) ≡ bank_count s (blocks_in s) - 20 * j))
  unfolding bank_count last
  full_or_last j p =
      by_holds (ltb (1 + j + 1) (blocks_in s))
      (λ e.
      let more : 1 + j + 1 < blocks_in s = ltb-true (1 + j + 1) (blocks_in s) e in
      let full = count_full g j p more in
      (λ h. full, λ h. absurd (omega (arith, last_is.0))))
      (λ e.
      let end : blocks_in s ≤ 1 + j + 1 = ltb-false (1 + j + 1) (blocks_in s) e in
      let z : blocks_in s - 1 ≡ 1 + j = omega arith in
      let same : last ≡ entries_at s (512 * (1 + j)) = rw z in
      (λ h. omega (arith, same, last_is.1), λ h. omega (arith, same)))

  banks_written : (n j : ℕ) → j + n ≡ blocks_in s - 1
      → bank_blocks_of (blocks_in s) (1 + j) n (each (λ (i : ℕ). bank_at s (bank_place i)) (20 * j) (bank_count s (blocks_in s) - 20 * j)) ≡ take (512 * n) (drop (512 * (1 + j)) s)
  unfolding bank_blocks_of
  banks_written zero j e = refl
  banks_written (suc n) j e =
      let f : ℕ → Bank = λ i. bank_at s (bank_place i) in
      let m = bank_count s (blocks_in s) - 20 * j in
      let p : j < blocks_in s - 1 = omega arith in
      let parts = full_or_last j p in
      let i' : 20 * j + 20 ≡ 20 * (j + 1) = omega arith in
      let m' : m - 20 ≡ bank_count s (blocks_in s) - 20 * (j + 1) = omega arith in
      let k' : 1 + j + 1 ≡ 1 + (j + 1) = omega arith in
      let a' : 512 * (1 + j) + 512 ≡ 512 * (1 + (j + 1)) = omega arith in
      let n' : 512 * suc n ≡ 512 + 512 * n = omega arith in
      rw (each_full f (20 * j) m (entries_at s (512 * (1 + j))) parts.0 parts.1, each_drop f 20 (20 * j) m, bank_written j p, i', m', k', banks_written n (j + 1) (omega arith), n', ← a')
      (sym (part_next s (512 * (1 + j)) 512 (512 * n)))

  pub blocks_are : blocks_for (bank_count s (blocks_in s)) ≡ blocks_in s
  unfolding blocks_for bank_count last
  blocks_are = omega (arith, last_is.0, last_is.1, g.few)

  pub banks_some : 1 ≤ bank_count s (blocks_in s)
  unfolding bank_count last
  banks_some = omega (arith, last_is.0)

  -- an accepted book, read and written again, is the same bytes
  pub written_again : book_bytes (day_in s) (streams_in s) (banks_in s) ≡ s
  unfolding book_bytes banks_in blocks_for bank_count last
  written_again =
      let f : ℕ → Bank = λ i. bank_at s (bank_place i) in
      let blocks : (bank_count s (blocks_in s) + 19) / 20 + 1 ≡ blocks_in s = omega (arith, last_is.0, last_is.1, g.few) in
      let zero' : bank_count s (blocks_in s) ≡ bank_count s (blocks_in s) - 20 * 0 = omega arith in
      let whole : 512 + 512 * (blocks_in s - 1) ≡ length s = omega (arith, size, g.few) in
      rw (each_length f 0 (bank_count s (blocks_in s)), blocks, stream_written)
      (ap (λ (r : List ℕ). take 512 s ++ r) (ap (λ (c : ℕ). bank_blocks_of (blocks_in s) 1 (blocks_in s - 1) (each f 0 c)) zero' ∙ banks_written (blocks_in s - 1) 0 (omega arith))
      ∙ sym (part_next s 0 512 (512 * (blocks_in s - 1))) ∙ take_all (512 + 512 * (blocks_in s - 1)) s (omega arith))
