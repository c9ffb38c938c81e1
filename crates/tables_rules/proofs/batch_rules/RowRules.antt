-- The rules of one row say what the rules of its batch say.
use Rattle.std.proofs.Common.{◌≡◌, ℕ, zero, suc, ◌+◌, ◌*◌, ◌≤◌, cond, eqb, List, [], ◌∷◌, ◌++◌, length, sym, refl, ap, ◌∙◌, arith}
use Rattle.book_read.specs.Book.{each}
use Rattle.book_read.specs.Range.{Each}
use Rattle.book_read.proofs.Filling.{each_length}
use Rattle.settle.specs.Payments.{payments_from}
use Rattle.model.specs.State.{Message, payments_of}
use Rattle.model.specs.Rules.{numbers, Priced, Lettered, RightMinute, RightMessage, RightBatch, Complete, Given}
use Rattle.model.proofs.Standing.{Standing, vacant, building, awaits, stands}
use Rattle.tables.specs.Rows.{word, activation_in, messages_in, batch_in, place_in}
use Rattle.tables_rules.specs.batch_rules.BatchRules.{Head, head_at, heads_in, numbers_of, sizes_of, payments_in, RightHead, ZeroBehind, LiveRow, Whole, RowIn, RowRight}
use Rattle.tables_rules.proofs.batch_rules.RowWords.{from_long, from_append, messages_many, payments_of_lem, flat}

-- ---- lists

pub each_join : {A : Type 0} (P : A → Type 0) (a b : List A) → Each P a → Each P b → Each P (a ++ b)
each_join P [] b x y = y
each_join P (z ∷ a) b x y = (x.0, each_join P a b x.1 y)

pub each_left : {A : Type 0} (P : A → Type 0) (a b : List A) → Each P (a ++ b) → Each P a
each_left P [] b x = tt
each_left P (z ∷ a) b x = (x.0, each_left P a b x.1)

pub each_right : {A : Type 0} (P : A → Type 0) (a b : List A) → Each P (a ++ b) → Each P b
each_right P [] b x = x
each_right P (z ∷ a) b x = each_right P a b x.1

-- ---- messages

module _ (row : List ℕ) where
  pub numbers_of_lem : (i j n : ℕ) → numbers (messages_in row i j n) ≡ numbers_of (each (head_at row) i n)
  unfolding messages_in
  numbers_of_lem i j zero = refl
  numbers_of_lem i j (suc n) = ap (λ (l : List ℕ). word row (11 + 4 * i) ∷ l) (numbers_of_lem (i + 1) (j + 3 * word row (12 + 4 * i)) n)

  pub few_sizes : (count : ℕ) (hs : List Head) → Each (RightHead count) hs → sizes_of hs ≤ 10 * length hs
  few_sizes count [] h = omega arith
  few_sizes count (x ∷ hs) h = omega (arith, h.0.size.1, few_sizes count hs h.1)

  module _ (banks count : ℕ) where
    messages_right : (i j n : ℕ) → Each (RightHead count) (each (head_at row) i n)
        → Each (Priced banks) (payments_from row j (sizes_of (each (head_at row) i n)))
        → Each Lettered (payments_from row j (sizes_of (each (head_at row) i n)))
        → Each (RightMessage banks count) (messages_in row i j n)
    unfolding messages_in
    messages_right i j zero h p l = tt
    messages_right i j (suc n) h p l =
        let s = word row (12 + 4 * i) in
        let hs = each (head_at row) (i + 1) n in
        let e = from_append row j s (sizes_of hs) in
        let p' : Each (Priced banks) (payments_from row j s ++ payments_from row (j + 3 * s) (sizes_of hs)) = rw e at p in
        let l' : Each Lettered (payments_from row j s ++ payments_from row (j + 3 * s) (sizes_of hs)) = rw e at l in (
          record {
            reference = h.0.reference;
            number = h.0.number;
            some = rw (from_long row j s) h.0.size.0;
            few = rw (from_long row j s) h.0.size.1;
            priced = each_left (Priced banks) (payments_from row j s) (payments_from row (j + 3 * s) (sizes_of hs)) p';
            lettered = each_left Lettered (payments_from row j s) (payments_from row (j + 3 * s) (sizes_of hs)) l';
          },
          messages_right (i + 1) (j + 3 * s) n h.1
              (each_right (Priced banks) (payments_from row j s) (payments_from row (j + 3 * s) (sizes_of hs)) p')
              (each_right Lettered (payments_from row j s) (payments_from row (j + 3 * s) (sizes_of hs)) l'),
        )

    heads_right : (i j n : ℕ) → Each (RightMessage banks count) (messages_in row i j n) → Each (RightHead count) (each (head_at row) i n)
    unfolding messages_in
    heads_right i j zero h = tt
    heads_right i j (suc n) h =
        let s = word row (12 + 4 * i) in
        let e = from_long row j s in (
          record { reference = h.0.reference; number = h.0.number; size = (rw e at h.0.some, rw e at h.0.few) },
          heads_right (i + 1) (j + 3 * s) n h.1,
        )

    priced_of : (ms : List Message) → Each (RightMessage banks count) ms → Each (Priced banks) (payments_of ms)
    priced_of [] h = tt
    priced_of (m ∷ ms) h = each_join (Priced banks) m.payments (payments_of ms) h.0.priced (priced_of ms h.1)

    lettered_of : (ms : List Message) → Each (RightMessage banks count) ms → Each Lettered (payments_of ms)
    lettered_of [] h = tt
    lettered_of (m ∷ ms) h = each_join Lettered m.payments (payments_of ms) h.0.lettered (lettered_of ms h.1)

-- ---- the activation

minute_right : (m : ℕ) → m ≤ 1440 → RightMinute (activation_in m)
minute_right zero h = tt
minute_right (suc m) h = omega arith

right_minute : (m : ℕ) → RightMinute (activation_in m) → m ≤ 1440
right_minute zero h = omega arith
right_minute (suc m) h = omega (arith, h)

pub given_timed : (m : ℕ) → 1 ≤ m → Given (activation_in m)
given_timed zero h = absurd (omega arith)
given_timed (suc m) h = tt

pub timed_given : (m : ℕ) → Given (activation_in m) → 1 ≤ m
timed_given zero h = absurd h
timed_given (suc m) h = omega arith

-- ---- the batch

module _ (banks : ℕ) (row : List ℕ) (long : length row ≡ 349) where
  pub live_small : LiveRow banks row → word row 8 ≤ 100
  live_small h =
      omega (arith, few_sizes row (word row 4) (heads_in row) h.heads.right, each_length (head_at row) 0 (word row 7), h.heads.all, h.top.there.1, h.top.count.1)

  pub live_few : LiveRow banks row → word row 7 ≤ 10
  live_few h = omega (arith, h.top.there.1, h.top.count.1)

  pub live_flat : LiveRow banks row → payments_of (messages_in row 0 49 (word row 7)) ≡ payments_in row
  live_flat h = flat row long (live_few h) h.heads.all (live_small h)

  pub live_right : LiveRow banks row → RightBatch banks (batch_in row)
  unfolding batch_in
  live_right h =
      let e : payments_in row ≡ payments_from row 49 (sizes_of (heads_in row)) = ap (λ (n : ℕ). payments_from row 49 n) (sym h.heads.all) in
      record {
        bin = h.top.bin;
        count = h.top.count;
        minute = minute_right (word row 5) h.top.minute;
        some = rw (messages_many row 0 49 (word row 7)) h.top.there.0;
        messages = messages_right row banks (word row 4) 0 49 (word row 7) h.heads.right (rw e at h.payments.priced) (rw e at h.payments.lettered);
        apart = rw (numbers_of_lem row 0 49 (word row 7)) h.heads.apart;
        banks_differ = rw (live_flat h) h.payments.differ;
      }

  pub right_live : RightBatch banks (batch_in row) → word row 7 ≤ word row 4 → sizes_of (heads_in row) ≡ word row 8 → ZeroBehind row → LiveRow banks row
  unfolding batch_in
  right_live r few all z =
      let f : payments_of (messages_in row 0 49 (word row 7)) ≡ payments_in row = payments_of_lem row 0 49 (word row 7) ∙ ap (λ (n : ℕ). payments_from row 49 n) all in
      let ms = messages_in row 0 49 (word row 7) in
      record {
        top = record {
          bin = r.bin;
          count = r.count;
          minute = right_minute (word row 5) r.minute;
          there = (rw (messages_many row 0 49 (word row 7)) at r.some, few);
        };
        heads = record {
          right = heads_right row banks (word row 4) 0 49 (word row 7) r.messages;
          apart = rw (numbers_of_lem row 0 49 (word row 7)) at r.apart;
          all = all;
        };
        payments = record {
          priced = rw f at (priced_of row banks (word row 4) ms r.messages);
          lettered = rw f at (lettered_of row banks (word row 4) ms r.messages);
          differ = rw f at r.banks_differ;
        };
        behind = z;
      }

  -- ten messages of ten payments at the most
  pub few_right : RightBatch banks (batch_in row) → sizes_of (heads_in row) ≤ 10 * word row 7
  unfolding batch_in
  few_right r =
      omega (arith, few_sizes row (word row 4) (heads_in row) (heads_right row banks (word row 4) 0 49 (word row 7) r.messages), each_length (head_at row) 0 (word row 7))

  whole_complete : LiveRow banks row → Whole row → Complete (batch_in row)
  unfolding batch_in
  whole_complete h w = record { whole = messages_many row 0 49 (word row 7) ∙ w.whole; even = rw (live_flat h) w.even }

  pub complete_whole : payments_of (messages_in row 0 49 (word row 7)) ≡ payments_in row → Complete (batch_in row) → Whole row
  unfolding batch_in
  complete_whole f c = record { whole = sym (messages_many row 0 49 (word row 7)) ∙ c.whole; even = rw f at c.even }

  -- what stands at the place
  stands_in : (w : ℕ) → word row 0 ≡ w → RowIn w banks row → Standing banks (place_in row) (cond (eqb w 2) 1 0) (cond (eqb w 3) 1 0)
  unfolding place_in batch_in
  stands_in zero e h = rw e vacant
  stands_in (suc zero) e h = rw e (building (live_right h.0) (rw (messages_many row 0 49 (word row 7)) h.1.missing))
  stands_in (suc (suc zero)) e h = rw e (awaits (live_right h.0) (whole_complete h.0 h.1.whole) (given_timed (word row 5) h.1.timed))
  stands_in (suc (suc (suc zero))) e h = rw e (stands (live_right h.0) (whole_complete h.0 h.1.whole))
  stands_in (suc (suc (suc (suc n)))) e h = absurd h

  pub row_stands : RowRight banks row → Standing banks (place_in row) (cond (eqb (word row 0) 2) 1 0) (cond (eqb (word row 0) 3) 1 0)
  row_stands h = stands_in (word row 0) refl h
