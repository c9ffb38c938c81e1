-- What a line of an account can tell: codes that are short, a day of the century, numbers that fit into the bytes of a book.
use Prim.Native.Nat.{ℕ, zero, suc, ◌+◌, ◌*◌, ◌-◌, ◌/◌, ◌^◌, ◌≤◌, ◌<◌}
use mathlib.Core.Path.{◌≡◌, refl}
use mathlib.Core.Bool.{Bool, true, false, cond}
use mathlib.Core.List.{List}
use native.Mathlib.Omega.{arith}
use lib.Dec.{eqb, leb}
use lib.ListN.{get_or, take, drop}
use lib.Pow.{pow_pos}
use borrow.Author.Tests.{eqb-true, leb-true}
use Rattle.chars.specs.Words.{bytes}
use Rattle.codes.specs.Codes.{short_at}
use Rattle.codes.proofs.Laws.{by_order}
use Rattle.dates.specs.Dates.{days_of_century, day_of}
use Rattle.dates.proofs.Laws.{day_back}
use Rattle.text_scan.specs.Scan.{ten, lit_at, code_at, digits_at, number_at}
use Rattle.text_scan.specs.Spelling.{value_of}
use Rattle.text_scan.proofs.Laws.{ten_mono}
use Rattle.text_scan.proofs.Standing.{digits_sound}
use Rattle.text_scan.proofs.Alike.{by_next}
use Rattle.text_values.proofs.Alike.{by_cond}
use Rattle.response_read.proofs.Digits.{value_small}
use Rattle.cli_request.specs.Account.{line_over, is_plain}
use Rattle.book_read.specs.Range.{is_short}
use Rattle.book_read.proofs.Ranging.{short_right}
use Rattle.std.specs.Prelude.{Option, Some, None}
use Rattle.cli_book.specs.declared.Bits.{Bits}
use Rattle.cli_book.specs.declared.Entry.{Entry}
use Rattle.cli_book.specs.Account.{on_read, on_day, on_given, on_money, cents_at, date_at, administrator_at, stream_at, named_at, bit_on, bits_at, standing_at, money_at, bank_at}
use Rattle.cli_book.proofs.Laws.{Gathering, gathering_on, gathering_done}
use Rattle.thm_books_back.proofs.Written.{short_some}

-- ---- what holds of a step's two ends holds of its answer

pub by_test_lem : {A : Type 0} (P : A → Type 0) (b : Bool) {x y : A} → (b ≡ true → P x) → (b ≡ false → P y) → P (cond b x y)
by_test_lem P true p q = p refl
by_test_lem P false p q = q refl

by_read : {A : Type 0} (P : A → Type 0) (r : Option (ℕ × ℕ)) {d : A} {k : ℕ → ℕ → A} → P d → ((v e : ℕ) → P (k v e)) → P (on_read r d k)
by_read P (Some (v, e)) p q = q v e
by_read P None p q = p

by_day : {A : Type 0} (P : A → Type 0) (r : Option ℕ) {d : A} {k : ℕ → A} → P d → ((n : ℕ) → r ≡ Some n → P (k n)) → P (on_day r d k)
by_day P (Some n) p q = q n refl
by_day P None p q = p

-- a number below n, if one is given
abbrev pub Below : ℕ → Option (ℕ × ℕ) → Type 0
Below n (Some w) = w.0 < n
Below n None = Unit {0}

pub by_given : {A : Type 0} (P : A → Type 0) (n : ℕ) (g : Option (ℕ × ℕ)) {d : A} {k : ℕ → ℕ → A} → Below n g → P d → ((v e : ℕ) → v < n → P (k v e)) → P (on_given g d k)
by_given P n (Some w) h p q = q w.0 w.1 h
by_given P n None h p q = p

abbrev SmallMoney : Option (ℕ × ℕ × ℕ) → Type 0
SmallMoney (Some w) = (w.0 < ten 18) × (w.1 < ten 18)
SmallMoney None = Unit {0}

by_money : {A : Type 0} (P : A → Type 0) (m : Option (ℕ × ℕ × ℕ)) {d : A} {k : ℕ → ℕ → ℕ → A} → SmallMoney m → P d → ((b l e : ℕ) → b < ten 18 → l < ten 18 → P (k b l e)) → P (on_money m d k)
by_money P (Some w) h p q = q w.0 w.1 w.2 h.0 h.1
by_money P None h p q = p

-- ---- numbers, dates, codes

digits_small : (s : List ℕ) (at n : ℕ) → (digits_at s at n).value < ten n
digits_small s at n =
    let t = digits_sound s at n refl in
    let l = take ((digits_at s at n).end - at) (drop at s) in
    let below : value_of 0 l < ten ((digits_at s at n).end - at) = rw t.0.size at (value_small l t.0.all) in
    rw t.3 (omega (arith, ten_mono ((digits_at s at n).end - at) n (omega (arith, t.2))))

module _ (s : List ℕ) (at : ℕ) where
  cents_small : Below (ten 18) (cents_at s at)
  unfolding cents_at
  cents_small = by_cond (Below (ten 18)) (is_plain s at (digits_at s at 18).end) (digits_small s at 18) tt

  pub date_small : Below days_of_century (date_at s at)
  unfolding date_at
  date_small =
      let P = Below days_of_century in
      by_next P (lit_at s at (bytes "date ")) tt (λ a p.
      by_read P (number_at s a 6) tt (λ v b.
      by_day P (day_of v) tt (λ k q.
      by_next P (line_over s b) tt (λ c r. (day_back v k q).1))))

  administrator_small : Below 256 (administrator_at s at)
  unfolding administrator_at
  administrator_small =
      by_given (Below 256) (ten 18) (cents_at s at) cents_small tt (λ v e p.
      by_test_lem (Below 256) (leb v 255) (λ q. omega (arith, leb-true v 255 q)) (λ q. tt))

  standing_small : Below 2 (standing_at s at)
  unfolding standing_at
  standing_small =
      by_next (Below 2) (lit_at s at (bytes " active "))
      (by_next (Below 2) (lit_at s at (bytes " suspended ")) tt (λ a p. omega arith))
      (λ a p. omega arith)

  code_short : {e : ℕ} → code_at s at 4 ≡ Some e → is_short (short_at s at) ≡ true
  code_short q = short_right s at (rw q)

money_small : (s : List ℕ) (at : ℕ) → SmallMoney (money_at s at)
unfolding money_at
money_small s at =
    let P = SmallMoney in
    by_given P (ten 18) (cents_at s at) (cents_small s at) tt (λ balance a p.
    by_next P (lit_at s a (bytes " ")) tt (λ b q.
    by_given P (ten 18) (cents_at s b) (cents_small s b) tt (λ sublimit c r. (p, r))))

-- ---- a stream

abbrev pub SmallStream : Option (ℕ × ℕ × ℕ) → Type 0
SmallStream (Some w) = (is_short w.0 ≡ true) × (w.1 < 256)
SmallStream None = Unit {0}

pub stream_small : (s : List ℕ) (at : ℕ) → SmallStream (stream_at s at)
unfolding stream_at
stream_small s at =
    let P = SmallStream in
    by_next P (lit_at s at (bytes "stream ")) tt (λ a p.
    by_next P (code_at s a 4) tt (λ b q.
    by_next P (lit_at s b (bytes " ")) tt (λ c r.
    by_given P 256 (administrator_at s c) (administrator_small s c) tt (λ v d h.
    by_next P (line_over s d) tt (λ e o. (code_short s a q, h))))))

-- ---- a bank

-- no code is zero: a place past the last stream is never named, and no bit stands for it
unnamed : (s : List ℕ) (at : ℕ) {e : ℕ} → named_at s at 0 ≡ Some e → ⊥
unfolding named_at
unnamed s at {e} =
    let P : Option ℕ → Type 0 = λ r. r ≡ Some e → ⊥ in
    let no : P None = λ h. let z : ◌≡◌ {A = ℕ} 0 1 = cc in omega arith in
    by_next P (lit_at s at (bytes " ")) no (λ a p.
    by_next P (code_at s a 4) no (λ b q.
    by_test_lem P (eqb (short_at s a) 0) (λ t h. omega (arith, eqb-true (short_at s a) 0 t, short_some (short_at s a) (code_short s a q))) (λ t. no)))

bit_none : (s : List ℕ) (b : Bits) (bit : ℕ) → (bit_on s b 0 bit).bits ≡ b.bits
unfolding bit_on
bit_none s b bit = by_next (λ (x : Bits). x.bits ≡ b.bits) (named_at s b.at 0) refl (λ e p. absurd (unnamed s b.at p))

bit_most : (s : List ℕ) (b : Bits) (code bit : ℕ) → (bit_on s b code bit).bits ≤ b.bits + bit
unfolding bit_on
bit_most s b code bit = by_next (λ (x : Bits). x.bits ≤ b.bits + bit) (named_at s b.at code) (omega arith) (λ e p. omega arith)

-- so the bits of n streams are below 2 ^ n
module _ (s : List ℕ) (at : ℕ) (row : List ℕ) (n : ℕ) (few : n ≤ 8) (past : (i : ℕ) → n ≤ i → get_or row (2 * i) 0 ≡ 0) where
  gathered : (left : ℕ) {found : Bits} {bit i : ℕ} → left + i ≡ 8 → Gathering s at row found bit i → (n ≤ i → found.bits < 2 ^ n) → (bits_at s at row).bits < 2 ^ n
  gathered zero e g small = rw (← gathering_done g (omega arith)) (small (omega arith))
  gathered (suc left) {found} {bit} {i} e g small =
      let next = gathering_on g (omega arith) refl (bit_most s found (get_or row (2 * i) 0) bit) in
      gathered left (omega arith) next (λ h.
      by_order i n
      (λ p.
      let same : i + 1 ≡ n = omega arith in
      rw (next.power, same) at next.small)
      (λ p. rw (past i (omega arith), bit_none s found bit) (small (omega arith)))
      (λ p. rw (past i (omega arith), bit_none s found bit) (small (omega arith))))

  bits_small : (bits_at s at row).bits < 2 ^ n
  unfolding bits_at
  bits_small =
      let start : Gathering s at row (record { bits = 0; at = at }) 1 0 = record { few = omega arith; power = refl; small = omega arith; same = refl } in
      gathered 8 refl start (λ h. pow_pos n)

pub record SmallEntry (n : ℕ) (b : Entry) : Type 0 where
  pub code : is_short b.code ≡ true
  pub flags : b.flags / 2 < 2 ^ n
  pub balance : b.balance < ten 18
  pub sublimit : b.sublimit < ten 18

abbrev pub SmallBank : ℕ → Option (Entry × ℕ) → Type 0
SmallBank n (Some w) = SmallEntry n w.0
SmallBank n None = Unit {0}

pub bank_small : (s : List ℕ) (at : ℕ) (row : List ℕ) (n : ℕ) → n ≤ 8 → ((i : ℕ) → n ≤ i → get_or row (2 * i) 0 ≡ 0) → SmallBank n (bank_at s at row)
unfolding bank_at
bank_small s at row n few past =
    let P = SmallBank n in
    by_next P (lit_at s at (bytes "bank ")) tt (λ a p.
    by_next P (code_at s a 4) tt (λ b q.
    by_given P 2 (standing_at s b) (standing_small s b) tt (λ standing c h.
    by_money P (money_at s c) (money_small s c) tt (λ balance sublimit d m l.
    by_next P (line_over s (bits_at s d row).at) tt (λ e o.
    record { code = code_short s a q; flags = omega (arith, bits_small s d row n few past); balance = m; sublimit = l })))))
