-- An account that was read to its end: its day, its counts and its rows.
use Prim.Native.Nat.{ℕ, zero, suc, ◌+◌, ◌*◌, ◌/◌, ◌^◌, ◌≤◌, ◌<◌}
use mathlib.Core.Path.{◌≡◌, refl, ◌∙◌, ap}
use mathlib.Core.Bool.{true}
use mathlib.Core.List.{List, [], ◌∷◌}
use native.Mathlib.Omega.{arith}
use lib.Dec.{ltb}
use lib.ListN.{length, get_or, set, replicate, length-set}
use borrow.Author.Tests.{ltb-false}
use Rattle.dates.specs.Dates.{days_of_century}
use Rattle.text_scan.specs.Scan.{ten}
use Rattle.text_scan.proofs.Alike.{by_next}
use Rattle.cli_request.specs.Account.{first_line}
use Rattle.book_read.specs.Range.{is_short}
use Rattle.std.specs.Prelude.{Option, Some, None, Ok}
use Rattle.cli_book.specs.declared.Entry.{Entry}
use Rattle.cli_book.specs.declared.Wanted.{Wanted}
use Rattle.cli_book.specs.declared.Wanted.TheVariants as wanted
use Rattle.cli_book.specs.declared.Streams.{Streams}
use Rattle.cli_book.specs.declared.Banks.{Banks}
use Rattle.cli_book.specs.declared.BookAccount.{BookAccount}
use Rattle.cli_book.specs.Account.{on_stream, on_bank, title_at, date_at, stream_at, streams_on, streams_at, bank_at, banks, no_banks, banks_on, banks_at, unread, rows_at, book_account}
use Rattle.thm_accounts_back.proofs.Lines.{by_test_lem, by_given, date_small, SmallStream, stream_small, SmallEntry, SmallBank, bank_small}

by_stream : {A : Type 0} (P : A → Type 0) (r : Option (ℕ × ℕ × ℕ)) {d : A} {k : ℕ → ℕ → ℕ → A} → SmallStream r → P d → ((c a e : ℕ) → is_short c ≡ true → a < 256 → P (k c a e)) → P (on_stream r d k)
by_stream P (Some w) h p q = q w.0 w.1 w.2 h.0 h.1
by_stream P None h p q = p

by_bank : {A : Type 0} (P : A → Type 0) (n : ℕ) (r : Option (Entry × ℕ)) {d : A} {k : Entry → ℕ → A} → SmallBank n r → P d → ((b : Entry) (e : ℕ) → SmallEntry n b → P (k b e)) → P (on_bank r d k)
by_bank P n (Some w) h p q = q w.0 w.1 h
by_bank P n None h p q = p

-- what holds of a number that is stored, and of the others, holds wherever a row is looked at
stored : (P : ℕ → Type 0) (l : List ℕ) (j v i : ℕ) → j < length l → (i ≡ j → P v) → ((i ≡ j → ⊥) → P (get_or l i 0)) → P (get_or (set l j v) i 0)
stored P [] j v i h p q = absurd (omega arith)
stored P (x ∷ l) zero v zero h p q = p refl
stored P (x ∷ l) zero v (suc i) h p q = q (λ e. omega arith)
stored P (x ∷ l) (suc j) v zero h p q = q (λ e. omega arith)
stored P (x ∷ l) (suc j) v (suc i) h p q = stored P l j v i (omega arith) (λ e. p (ap suc e)) (λ n. q (λ e. n (omega arith)))

-- ---- the row of streams

pub record Row (n : ℕ) (row : List ℕ) : Type 0 where
  pub few : n ≤ 8
  pub size : length row ≡ 16
  pub codes : (i : ℕ) → i < n → is_short (get_or row (2 * i) 0) ≡ true
  pub senders : (i : ℕ) → i < n → get_or row (2 * i + 1) 0 < 256
  pub past : (i : ℕ) → n ≤ i → get_or row (2 * i) 0 ≡ 0

-- a stream more, in the two places behind those that are taken
row_more : {n : ℕ} {row : List ℕ} (code administrator : ℕ) → Row n row → n < 8 → is_short code ≡ true → administrator < 256
    → Row (n + 1) (set (set row (2 * n) code) (2 * n + 1) administrator)
row_more {n} {row} code administrator g h c a =
    let coded = set row (2 * n) code in
    let long : length coded ≡ 16 = length-set row (2 * n) code ∙ g.size in
    let in_row : 2 * n < length row = omega (arith, g.size) in
    let in-coded : 2 * n + 1 < length coded = omega arith in
    let Short : ℕ → Type 0 = λ x. is_short x ≡ true in
    let Byte : ℕ → Type 0 = λ x. x < 256 in
    let None : ℕ → Type 0 = λ x. x ≡ 0 in
    record {
      few = omega arith;
      size = length-set coded (2 * n + 1) administrator ∙ long;
      codes = λ i p.
          stored Short coded (2 * n + 1) administrator (2 * i) in-coded (λ e. absurd (omega arith)) (λ d.
          stored Short row (2 * n) code (2 * i) in_row (λ e. c) (λ d₁. g.codes i (omega arith)));
      senders = λ i p.
          stored Byte coded (2 * n + 1) administrator (2 * i + 1) in-coded (λ e. a) (λ d.
          stored Byte row (2 * n) code (2 * i + 1) in_row (λ e. absurd (omega arith)) (λ d₁. g.senders i (omega arith)));
      past = λ i p.
          stored None coded (2 * n + 1) administrator (2 * i) in-coded (λ e. absurd (omega arith)) (λ d.
          stored None row (2 * n) code (2 * i) in_row (λ e. absurd (omega arith)) (λ d₁. g.past i (omega arith)));
    }

streams_on_lem : (room : ℕ) (s : List ℕ) (at n : ℕ) (row : List ℕ) → n + room ≡ 8 → Row n row → Row (streams_on room s at n row).n (streams_on room s at n row).row
unfolding streams_on
streams_on_lem zero s at n row e g = g
streams_on_lem (suc room) s at n row e g =
    by_stream (λ (x : Streams). Row x.n x.row) (stream_at s at) (stream_small s at) g (λ c a next p q.
    streams_on_lem room s next (n + 1) (set (set row (2 * n) c) (2 * n + 1) a) (omega arith) (row_more c a g (omega arith) p q))

zeros_at_lem : (k i : ℕ) → ◌≡◌ {A = ℕ} (get_or (replicate k 0) i 0) 0
zeros_at_lem zero i = refl
zeros_at_lem (suc k) zero = refl
zeros_at_lem (suc k) (suc i) = zeros_at_lem k i

streams_in_lem : (s : List ℕ) (at : ℕ) → Row (streams_at s at).n (streams_at s at).row
unfolding streams_at
streams_in_lem s at =
    let start : Row 0 (replicate 16 0) = record { few = omega arith; size = refl; codes = λ i p. absurd (omega arith); senders = λ i p. absurd (omega arith); past = λ i p. zeros_at_lem 16 (2 * i) } in
    streams_on_lem 8 s at 0 (replicate 16 0) refl start

-- ---- the columns of banks

pub record Column (P : ℕ → Type 0) (n : ℕ) (l : List ℕ) : Type 0 where
  pub size : length l ≡ 64
  pub all : (i : ℕ) → i < n → P (get_or l i 0)

column_more : {P : ℕ → Type 0} {n : ℕ} {l : List ℕ} {v : ℕ} → Column P n l → n < 64 → P v → Column P (n + 1) (set l n v)
column_more {P} {n} {l} {v} g h x =
    record { size = length-set l n v ∙ g.size; all = λ i p. stored P l n v i (omega (arith, g.size)) (λ e. x) (λ d. g.all i (omega arith)) }

-- the banks of a book of some streams
pub record Columns (streams : ℕ) (x : Banks) : Type 0 where
  pub few : x.n ≤ 64
  pub codes : Column (λ c. is_short c ≡ true) x.n x.codes
  pub flags : Column (λ f. f / 2 < 2 ^ streams) x.n x.flags
  pub balances : Column (λ b. b < ten 18) x.n x.balances
  pub sublimits : Column (λ l. l < ten 18) x.n x.sublimits

bank_more : {streams n at next : ℕ} {codes flags balances sublimits : List ℕ} {b : Entry} → Columns streams (banks codes flags balances sublimits n at) → n < 64 → SmallEntry streams b
    → Columns streams (banks (set codes n b.code) (set flags n b.flags) (set balances n b.balance) (set sublimits n b.sublimit) (n + 1) next)
bank_more g h x = record {
  few = omega arith;
  codes = column_more g.codes h x.code;
  flags = column_more g.flags h x.flags;
  balances = column_more g.balances h x.balance;
  sublimits = column_more g.sublimits h x.sublimit;
}

module _ (s row : List ℕ) (streams : ℕ) (r : Row streams row) where
  banks_on_lem : (room at n : ℕ) (codes flags balances sublimits : List ℕ) → n + room ≡ 64 → Columns streams (banks codes flags balances sublimits n at)
      → Columns streams (banks_on room s row at n codes flags balances sublimits)
  unfolding banks_on
  banks_on_lem zero at n codes flags balances sublimits e g = g
  banks_on_lem (suc room) at n codes flags balances sublimits e g =
      by_bank (Columns streams) streams (bank_at s at row) (bank_small s at row streams r.few r.past) g (λ b next h.
      banks_on_lem room next (n + 1) (set codes n b.code) (set flags n b.flags) (set balances n b.balance) (set sublimits n b.sublimit) (omega arith) (bank_more g (omega arith) h))

  banks_in_lem : (at : ℕ) → Columns streams (banks_at s at row)
  unfolding banks_at
  banks_in_lem at =
      let none : (P : ℕ → Type 0) → Column P 0 no_banks = λ P. record { size = refl; all = λ i p. absurd (omega arith) } in
      banks_on_lem 64 at 0 no_banks no_banks no_banks no_banks refl (record { few = omega arith; codes = none _; flags = none _; balances = none _; sublimits = none _ })

-- ---- the account

pub record Whole (a : BookAccount) : Type 0 where
  pub date : a.day < days_of_century
  pub some_streams : 1 ≤ a.streams.n
  pub streams : Row a.streams.n a.streams.row
  pub some_banks : 1 ≤ a.banks.n
  pub banks : Columns a.streams.n a.banks

abbrev ToEnd : BookAccount → Type 0
ToEnd a = a.stop ≡ Ok tt → Whole a

unread_not : (at : ℕ) (x : Wanted) → ToEnd (unread at x)
unfolding unread
unread_not at x h = let z : ◌≡◌ {A = ℕ} 0 1 = cc in absurd (omega arith)

rows_whole : (s : List ℕ) (at day : ℕ) → day < days_of_century → ToEnd (rows_at s at day)
unfolding rows_at
rows_whole s at day h =
    let xs = streams_at s at in
    let bs = banks_at s xs.at xs.row in
    by_test_lem ToEnd (ltb xs.n 1) (λ p. unread_not at wanted.Stream) (λ p.
    by_test_lem ToEnd (ltb bs.n 1) (λ q. unread_not xs.at wanted.StreamOrBank) (λ q e.
    record {
      date = h;
      some_streams = ltb-false xs.n 1 p;
      streams = streams_in_lem s at;
      some_banks = ltb-false bs.n 1 q;
      banks = banks_in_lem s xs.row xs.n (streams_in_lem s at) xs.at;
    }))

pub account_whole : (s : List ℕ) → (book_account s).stop ≡ Ok tt → Whole (book_account s)
unfolding book_account
account_whole s =
    by_next ToEnd (title_at s (first_line s)) (unread_not (first_line s) wanted.Title) (λ a p.
    by_given ToEnd days_of_century (date_at s a) (date_small s a) (unread_not a wanted.Date) (λ day b h.
    rows_whole s b day h))
