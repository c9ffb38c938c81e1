-- Laws of reading: a field of a bank, rows filled from their first place on, and each return.
use Rattle.std.specs.Prelude.{Result, Ok, Err}
use Prim.Native.Nat.{ℕ, zero, suc, ◌+◌, ◌*◌, ◌-◌, ◌≤◌, ◌<◌}
use mathlib.Core.Path.{◌≡◌, refl, ◌∙◌, ap}
use mathlib.Core.List.{List, ◌∷◌, map}
use native.Mathlib.Omega.{arith}
use native.Mathlib.Numerals.{add-one}
use lib.ListN.{length, get_or, set, drop, length-set}
use lib.Seq.{sets}
use lib.Dec.{leb}
use borrow.Author.Tests.{leb-true, not-true, not-false}
use mathlib.Core.Bool.{Bool, true, false, not}
use Rattle.codes.specs.Codes.{short_at}
use Rattle.book_read.specs.declared.Field.{Field}
use Rattle.book_read.specs.declared.Field.TheVariants.{Code, Flags, Balance, Sublimit}
use Rattle.book_read.specs.Block.{little, entries_at}
use Rattle.book_read.specs.Book.{each, bank_place, blocks_in, bank_count, book_check}
use Rattle.book_read.proofs.Accepted.{both}
use Rattle.book_read.specs.declared.Book.{Book}
use Rattle.chars.specs.declared.Refusal.{Refusal}
use Rattle.chars.specs.declared.Refusal.TheVariants.{ShortBuffer}
use Rattle.book_read.specs.Accounts.{read_book, With, rows_of, filled_book, filled, book_in, streams_in, banks_in, day_in, room_for, Stream, stream_at, bank_at, stream_row, field_of}

module _ (s : List ℕ) (at : ℕ) (field : Field) {r : ℕ} where
  pub field_code : field ≡ Code → r ≡ short_at s at → r ≡ field_of field (bank_at s at)
  field_code e p = rw e p

  pub field_balance : field ≡ Balance → r ≡ little 8 (drop (at + 8) s) → r ≡ field_of field (bank_at s at)
  field_balance e p = rw e p

  pub field_sublimit : field ≡ Sublimit → r ≡ little 8 (drop (at + 16) s) → r ≡ field_of field (bank_at s at)
  field_sublimit e p = rw e p

pub field_flags : (s : List ℕ) (at : ℕ) (field : Field) {a b v w : ℕ} → field ≡ Flags → a ≡ get_or s (at + 4) 0 → v ≡ a → b ≡ get_or s (at + 5) 0 → w ≡ b
    → v + 2 * w ≡ field_of field (bank_at s at)
field_flags s at field e p v q w = rw (e, v, p, w, q)

-- where a loop stands that has put f of the first i numbers into a row
pub record Filling (f : ℕ → ℕ) (n : ℕ) (first out : List ℕ) (i : ℕ) : Type 0 where
  pub few : i ≤ n
  pub size : length out ≡ length first
  pub same : sets out i (each f i (n - i)) ≡ sets first 0 (each f 0 n)

pub filling_start : (f : ℕ → ℕ) (n : ℕ) (first : List ℕ) → Filling f n first first 0
filling_start f n first =
    let z : n - 0 ≡ n = omega arith in
    record { few = omega arith; size = refl; same = rw z }

module _ {f : ℕ → ℕ} {n : ℕ} {first out : List ℕ} {i : ℕ} (g : Filling f n first out i) where
  pub filling_on : {b : ℕ} → i < n → b ≡ f i → Filling f n first (set out i b) (i + 1)
  filling_on h e =
      let z : n - i ≡ suc (n - (i + 1)) = omega arith in
      record {
        few = omega arith;
        size = rw length-set g.size;
        same = rw e (ap (λ (k : ℕ). sets (set out i (f i)) k (each f (i + 1) (n - (i + 1)))) (add-one i) ∙ (rw z at g.same));
      }

  pub filling_done : n ≤ i → out ≡ sets first 0 (each f 0 n)
  filling_done h = let z : n - i ≡ 0 = omega arith in rw z at g.same

-- and one that has put both numbers of the first i streams
pub record Pairing (f : ℕ → Stream) (n : ℕ) (first out : List ℕ) (i : ℕ) : Type 0 where
  pub few : i ≤ n
  pub size : length out ≡ length first
  pub same : sets out (2 * i) (stream_row (each f i (n - i))) ≡ sets first 0 (stream_row (each f 0 n))

pub pairing_start : (f : ℕ → Stream) (n : ℕ) (first : List ℕ) → Pairing f n first first 0
pairing_start f n first =
    let z : n - 0 ≡ n = omega arith in
    record { few = omega arith; size = refl; same = rw z }

module _ {f : ℕ → Stream} {n : ℕ} {first out : List ℕ} {i : ℕ} (g : Pairing f n first out i) where
  pub pairing_on : {c a : ℕ} → i < n → c ≡ (f i).code → a ≡ (f i).sender → Pairing f n first (set (set out (2 * i) c) (2 * i + 1) a) (i + 1)
  pairing_on h p q =
      let z : n - i ≡ suc (n - (i + 1)) = omega arith in
      let y : 2 * (i + 1) ≡ suc (suc (2 * i)) = omega arith in
      record {
        few = omega arith;
        size = rw (length-set, length-set) g.size;
        same = rw (p, q, y, add-one (2 * i)) (rw z at g.same);
      }

  pub pairing_done : n ≤ i → out ≡ sets first 0 (stream_row (each f 0 n))
  pairing_done h = let z : n - i ≡ 0 = omega arith in rw z at g.same

module _ (a b c d e : ℕ) where
  pub record Room : Type 0 where
    pub for_streams : 16 ≤ a
    pub for_codes : 64 ≤ b
    pub for_flags : 64 ≤ c
    pub for_balances : 64 ≤ d
    pub for_sublimits : 64 ≤ e

  pub room : room_for a b c d e ≡ true → Room
  unfolding room_for
  room h =
      let p = both (leb 16 a) _ h in
      let q = both (leb 64 b) _ p.1 in
      let r = both (leb 64 c) _ q.1 in
      let t = both (leb 64 d) _ r.1 in
      record {
        for_streams = leb-true 16 a p.0;
        for_codes = leb-true 64 b q.0;
        for_flags = leb-true 64 c r.0;
        for_balances = leb-true 64 d t.0;
        for_sublimits = leb-true 64 e t.1;
      }

-- a column is a field of each
pub map_each : {A : Type 0} (g : A → ℕ) (f : ℕ → A) (i n : ℕ) → map g (each f i n) ≡ each (λ (j : ℕ). g (f j)) i n
map_each g f i zero = refl
map_each g f i (suc n) = ap (λ (l : List ℕ). g (f i) ∷ l) (map_each g f (i + 1) n)

pub each_length : {A : Type 0} (f : ℕ → A) (i n : ℕ) → length (each f i n) ≡ n
each_length f i zero = refl
each_length f i (suc n) = ap suc (each_length f (i + 1) n)

-- the rows of a book that is read
pub fill_is : (s r₁ r₂ r₃ r₄ r₅ : List ℕ) {a b c d e : List ℕ} {n m k : ℕ} → n ≡ entries_at s 0 → m ≡ bank_count s (blocks_in s)
    → a ≡ sets r₁ 0 (stream_row (each (λ (i : ℕ). stream_at s (8 * i + 16)) 0 n))
    → b ≡ sets r₂ 0 (each (λ (i : ℕ). field_of Code (bank_at s (bank_place i))) 0 m)
    → c ≡ sets r₃ 0 (each (λ (i : ℕ). field_of Flags (bank_at s (bank_place i))) 0 m)
    → d ≡ sets r₄ 0 (each (λ (i : ℕ). field_of Balance (bank_at s (bank_place i))) 0 m)
    → e ≡ sets r₅ 0 (each (λ (i : ℕ). field_of Sublimit (bank_at s (bank_place i))) 0 m)
    → k ≡ day_in s
    → ◌≡◌ {A = With Book} (record { rows = rows_of a b c d e; answer = record { day = k; streams = n; banks = m } }) (filled_book s (rows_of r₁ r₂ r₃ r₄ r₅))
unfolding filled_book filled book_in streams_in banks_in
fill_is s r₁ r₂ r₃ r₄ r₅ en em ea eb ec ed ee ek =
    rw (ea, eb, ec, ed, ee, ek, en, em)
    (simp map_each)

held : With Book → With (Result Book Refusal)
held w = record { rows = w.rows; answer = Ok w.answer }

-- reading: rows too short, a book that is refused, one that is held
module _ (s r₁ r₂ r₃ r₄ r₅ : List ℕ) {b : Bool} (p : b ≡ room_for (length r₁) (length r₂) (length r₃) (length r₄) (length r₅)) where
  pub read_short : not b ≡ true
      → ◌≡◌ {A = With (Result Book Refusal)} (record { rows = rows_of r₁ r₂ r₃ r₄ r₅; answer = Err ShortBuffer }) (read_book s (rows_of r₁ r₂ r₃ r₄ r₅))
  unfolding read_book
  read_short h = rw (← p, not-true b h)

  module _ (h : not b ≡ false) {x : Result (Unit {0}) Refusal} (q : x ≡ book_check s) where
    pub read_fault : {f : Refusal} → x ≡ Err f
        → ◌≡◌ {A = With (Result Book Refusal)} (record { rows = rows_of r₁ r₂ r₃ r₄ r₅; answer = Err f }) (read_book s (rows_of r₁ r₂ r₃ r₄ r₅))
    unfolding read_book
    read_fault e = rw (← p, not-false b h, ← q, e)

    pub read_held : {a₁ a₂ a₃ a₄ a₅ : List ℕ} {k : Book} → x ≡ Ok tt
        → ◌≡◌ {A = With Book} (record { rows = rows_of a₁ a₂ a₃ a₄ a₅; answer = k }) (filled_book s (rows_of r₁ r₂ r₃ r₄ r₅))
        → ◌≡◌ {A = With (Result Book Refusal)} (record { rows = rows_of a₁ a₂ a₃ a₄ a₅; answer = Ok k }) (read_book s (rows_of r₁ r₂ r₃ r₄ r₅))
    unfolding read_book filled_book held
    read_held e f =
        ap (λ (w : With Book). held w) f ∙ rw (← p, not-false b h, ← q, e)
