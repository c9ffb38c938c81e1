-- Laws of the whole writing: counts and rows, and each return.
use Rattle.std.specs.Prelude.{Ok, Err}
use Prim.Native.Nat.{ℕ, ◌*◌, ◌-◌, ◌≤◌, ◌<◌}
use mathlib.Core.Path.{◌≡◌, sym, ◌∙◌}
use mathlib.Core.Bool.{Bool, true, false, not, and-false}
use mathlib.Core.List.{List}
use native.Mathlib.Omega.{arith}
use lib.Dec.{leb}
use borrow.Author.Tests.{le-leb, lt-leb, leb-true, not-true, not-false}
use Rattle.book_read.specs.declared.Book.{Book}
use Rattle.chars.specs.Words.{within}
use Rattle.chars.specs.declared.Refusal.TheVariants.{BrokenTables, ShortBuffer}
use Rattle.chars.proofs.Laws.{range_low, range_high}
use lib.ListN.{length}
use lib.Seq.{sets}
use Rattle.book_read.specs.Book.{each}
use Rattle.book_read.specs.Accounts.{rows_of}
use Rattle.book_write.specs.Closing.{Made, write_book, book_bytes, streams_of, banks_of, stream_of, bank_of, stream_block, bank_blocks_of, blocks_for, holding_columns, holding_rows, Reaching}
use Rattle.book_write.proofs.Storing.{then}
use Rattle.book_read.proofs.Accepted.{both}
use Rattle.book_read.proofs.Filling.{each_length}
use Rattle.book_write.proofs.Sealing.{stream_block_length}

module _ (k : Book) (s a b c d : ℕ) where
  pub few_streams : s < 2 * k.streams → false ≡ holding_rows k s a b c d
  unfolding holding_rows
  few_streams h = simp (lt-leb (2 * k.streams) s h, and-false)

pub reach_part : {n : ℕ} (m : ℕ) {codes flags balances sublimits : List ℕ} → m ≤ n → Reaching n codes flags balances sublimits → Reaching m codes flags balances sublimits
reach_part m h r = record {
  in_codes = omega (arith, r.in_codes);
  in_flags = omega (arith, r.in_flags);
  in_balances = omega (arith, r.in_balances);
  in_sublimits = omega (arith, r.in_sublimits);
}

-- counts in range, and rows that hold them
pub record Holding (n m s a b c d : ℕ) : Type 0 where
  pub some_streams : 1 ≤ n
  pub few_streams : n ≤ 8
  pub some_banks : 1 ≤ m
  pub few_banks : m ≤ 64
  pub in_streams : 2 * n ≤ s
  pub in_codes : m ≤ a
  pub in_flags : m ≤ b
  pub in_balances : m ≤ c
  pub in_sublimits : m ≤ d

pub holding : (k : Book) (s a b c d : ℕ) → holding_rows k s a b c d ≡ true → Holding k.streams k.banks s a b c d
unfolding holding_rows holding_columns
holding k s a b c d h =
    let m = k.banks in
    let p = both (within 1 8 k.streams) _ h in
    let q = both (within 1 64 m) _ p.1 in
    let r = both (leb (2 * k.streams) s) _ q.1 in
    let t = both (leb m a) _ r.1 in
    let u = both (leb m b) _ t.1 in
    let v = both (leb m c) _ u.1 in
    record {
      some_streams = range_low 1 8 k.streams p.0;
      few_streams = range_high 1 8 k.streams p.0;
      some_banks = range_low 1 64 m q.0;
      few_banks = range_high 1 64 m q.0;
      in_streams = leb-true (2 * k.streams) s r.0;
      in_codes = leb-true m a t.0;
      in_flags = leb-true m b u.0;
      in_balances = leb-true m c v.0;
      in_sublimits = leb-true m d v.1;
    }

-- each return of the writing
module _ (out r₁ r₂ r₃ r₄ r₅ : List ℕ) (k : Book) {h : Bool} (p : h ≡ holding_rows k (length r₁) (length r₂) (length r₃) (length r₄) (length r₅)) where
  pub write_broken : not h ≡ true
      → ◌≡◌ {A = Made} (record { out = out; answer = Err BrokenTables }) (write_book out k (rows_of r₁ r₂ r₃ r₄ r₅))
  unfolding write_book
  write_broken q = rw (← p, not-true h q)

  module _ (q : not h ≡ false) where
    pub held : Holding k.streams k.banks (length r₁) (length r₂) (length r₃) (length r₄) (length r₅)
    held = holding k (length r₁) (length r₂) (length r₃) (length r₄) (length r₅) (sym p ∙ not-false h q)

    pub write_short : length out < 512 * blocks_for k.banks
        → ◌≡◌ {A = Made} (record { out = out; answer = Err ShortBuffer }) (write_book out k (rows_of r₁ r₂ r₃ r₄ r₅))
    unfolding write_book
    write_short z = rw (← p, not-false h q, lt-leb (512 * blocks_for k.banks) (length out) z)

    pub write_done : {a b : List ℕ} → 512 * blocks_for k.banks ≤ length out
        → a ≡ sets out 0 (stream_block k.day (each (stream_of r₁) 0 k.streams) (blocks_for k.banks))
        → b ≡ sets a 512 (bank_blocks_of (blocks_for k.banks) 1 (blocks_for k.banks - 1) (each (bank_of r₂ r₃ r₄ r₅) 0 k.banks))
        → ◌≡◌ {A = Made} (record { out = b; answer = Ok (512 * blocks_for k.banks) }) (write_book out k (rows_of r₁ r₂ r₃ r₄ r₅))
    unfolding write_book book_bytes streams_of banks_of
    write_done z e f =
        rw (
          ← p,
          not-false h q,
          le-leb (512 * blocks_for k.banks) (length out) z,
          each_length (bank_of r₂ r₃ r₄ r₅) 0 k.banks,
          then out (stream_block k.day (each (stream_of r₁) 0 k.streams) (blocks_for k.banks))
              (bank_blocks_of (blocks_for k.banks) 1 (blocks_for k.banks - 1) (each (bank_of r₂ r₃ r₄ r₅) 0 k.banks)) 0 e
              (rw (stream_block_length k.day (stream_of r₁) k.streams (blocks_for k.banks) held.few_streams)) f,
        )
