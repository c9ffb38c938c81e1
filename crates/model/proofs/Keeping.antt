-- Every call keeps the rules of the batch places and of the house, from a fresh start on.
use Rattle.std.specs.Prelude.{Ok, Err}
use Prim.Native.Nat.{ℕ, zero, suc, ◌≤◌, ◌<◌}
use mathlib.Core.Path.{◌≡◌, refl, sym, ◌∙◌}
use mathlib.Core.Bool.{Bool, true, false, cond, false≢true}
use mathlib.Core.List.{List}
use native.Mathlib.Omega.{arith}
use lib.ListN.{length, replicate}
use borrow.Author.Tests.{not-true}
use Rattle.request_read.specs.whole.Request.{request_at}
use Rattle.book_read.specs.Book.{book_check}
use Rattle.book_read.specs.Accounts.{day_in, streams_in, banks_in}
use Rattle.book_read.specs.declared.Field.TheVariants.{Code, Flags, Balance, Sublimit}
use Rattle.queue.specs.Tests.{Outcome, fuel}
use Rattle.book_read.specs.Range.{Each}
use Rattle.model.specs.Answers.{Answer}
use Rattle.model.specs.Kinds.{Kind, opens, steps, gives, kind_of, is_close, own_of}
use Rattle.model.specs.State.{State, fresh, no_batches, payments_at}
use Rattle.model.specs.Messages.{Acted}
use Rattle.model.specs.Days.{column_of, opened, checked, opening_answer}
use Rattle.model.specs.Calls.{Call, Engine, is_open, judge, begun, act, tested, left, goes_on, closes, stepped, opened_by, performed, judged, call, day_for}
use Rattle.model.specs.Rules.{RightHouse}
use Rattle.model.proofs.Agreement.{right_day_lem}
use Rattle.model.proofs.Admitting.{Gives}
use Rattle.model.proofs.Standing.{Stood, join_stood, free_stood, test_stood}
use Rattle.model.proofs.Settling.{test_times, house_tested}
use Rattle.model.proofs.Doing.{did}
use Rattle.model.proofs.Placing.{places_kept, house_kept}

-- what a book that is accepted gives
pub record BookGives (book : List ℕ) : Type 0 where
  pub house : RightHouse
      (record { streams = streams_in book; banks = length (banks_in book); codes = column_of Code (banks_in book); flags = column_of Flags (banks_in book) })
      (column_of Balance (banks_in book))
      (column_of Sublimit (banks_in book))
  pub date : day_in book < 36525
  pub some_streams : 1 ≤ length (streams_in book)
  pub some_banks : 1 ≤ length (banks_in book)

-- what the readers of texts and books give of all that they accept
pub record Readers : Type 0 where
  pub texts : (t : List ℕ) → Gives (request_at t)
  pub books : (b : List ℕ) → book_check b ≡ Ok tt → BookGives b

pub record Kept (s : State) : Type 0 where
  pub house : RightHouse s.house s.books.balances s.books.sublimits
  pub batches : Stood s.house.banks s.batches
  -- "no live batch unless the day is open"
  pub idle : is_open s.day.phase ≡ false → s.batches ≡ no_batches

-- ---- the fresh start

each_none : (P : ℕ → Type 0) (n : ℕ) → P 0 → Each P (replicate n 0)
each_none P zero p = tt
each_none P (suc n) p = (p, each_none P n p)

pub fresh_kept : Kept fresh
fresh_kept = record {
  house = record {
    few_streams = omega arith;
    stream_codes_short = tt;
    administrators = tt;
    streams_rise = tt;
    few_banks = omega arith;
    codes_long = refl;
    flags_long = refl;
    balances_long = refl;
    sublimits_long = refl;
    bank_codes = tt;
    banks_rise = tt;
    flags_right = tt;
    sublimits_right = each_none (λ x. x ≤ 6400000000000000) 64 (omega arith);
    total = omega arith;
    codes_past = each_none (λ x. x ≡ 0) 64 refl;
    flags_past = each_none (λ x. x ≡ 0) 64 refl;
    balances_past = each_none (λ x. x ≡ 0) 64 refl;
    sublimits_past = each_none (λ x. x ≡ 0) 64 refl;
  };
  batches = free_stood 0;
  idle = λ e. refl;
}

-- ---- one call

is_sound : (a : Answer) (n : Answer) → checked a n ≡ Ok tt → a ≡ Ok tt
is_sound (Ok tt) n h = refl
is_sound (Err r) n h = let z : ◌≡◌ {A = ℕ} 0 1 = cc in absurd (omega arith)

-- an opening that is done had a sound book
pub sound_book : (s : State) (book : List ℕ) → opening_answer s.day book ≡ Ok tt → book_check book ≡ Ok tt
unfolding opening_answer
sound_book s book h = is_sound (book_check book) _ h

module _ (readers : Readers) (e : Engine) (c : Call) (k : Kept e.state) where
  abbrev s : State
  s = begun e.state c.asked.clock

  abbrev a : Acted
  a = act s (own_of c.asked.action) c.asked.input

  abbrev o : Outcome
  o = tested c.asked.quick a e.memory

  -- after (a) and (b)
  pub begun_stood : Stood s.house.banks s.batches
  unfolding begun
  begun_stood = join_stood e.state.house.banks c.asked.clock e.state.batches k.batches

  pub begun_house : RightHouse s.house s.books.balances s.books.sublimits
  unfolding begun
  begun_house = k.house

  -- after (c)
  pub acted_stood : Stood s.house.banks a.batches
  acted_stood = places_kept s begun_stood (request_at c.asked.input) (did s (own_of c.asked.action) c.asked.input) (readers.texts c.asked.input).settlement

  pub acted_house : RightHouse s.house a.books.balances a.books.sublimits
  acted_house = house_kept s (request_at c.asked.input) (did s (own_of c.asked.action) c.asked.input) begun_house

  -- after (d)
  pub tested_stood : Stood s.house.banks (left s a o)
  unfolding left tested
  tested_stood = test_stood s.house.banks a.batches o.queue o.done acted_stood (λ p. test_times c.asked.quick (payments_at a.batches) (fuel a.batches.queue) p a.books _ a.batches.queue)

  pub tested_house : RightHouse s.house o.books.balances o.books.sublimits
  unfolding tested
  tested_house = house_tested s.house a.batches a.books c.asked.quick _ acted_house acted_stood

  goes_kept : is_open e.state.day.phase ≡ true → Kept (goes_on s a o).engine.state
  unfolding goes_on begun
  goes_kept h = record { house = tested_house; batches = tested_stood; idle = λ g. absurd (false≢true (sym g ∙ h)) }

  closes_kept : Kept (closes s a o).engine.state
  unfolding closes
  closes_kept = record { house = tested_house; batches = free_stood s.house.banks; idle = λ g. refl }

  ends_kept : (t : Bool) → is_open e.state.day.phase ≡ true → Kept (cond t (closes s a o) (goes_on s a o)).engine.state
  ends_kept true h = closes_kept
  ends_kept false h = goes_kept h

  stepped_kept : is_open e.state.day.phase ≡ true → Kept (stepped e c).engine.state
  unfolding stepped
  stepped_kept h = ends_kept (is_close c.asked.action) h

  opened_kept : (r : Answer) → opening_answer e.state.day c.asked.input ≡ r → is_open e.state.day.phase ≡ false → Kept (opened_by r e c).engine.state
  unfolding opened
  opened_kept (Ok tt) d h = record {
    house = (readers.books c.asked.input (sound_book e.state c.asked.input d)).house;
    batches = rw (k.idle h) (free_stood (length (banks_in c.asked.input)));
    idle = λ g. absurd (false≢true (sym g));
  }
  opened_kept (Err r) d h = k

  performed_kept : (z : Kind) → day_for z e.state.day ≡ true → Kept (performed z e c).engine.state
  performed_kept opens h = opened_kept (opening_answer e.state.day c.asked.input) refl (not-true _ h)
  performed_kept steps h = stepped_kept h
  performed_kept (gives d) h = record { house = k.house; batches = k.batches; idle = k.idle }

  judged_kept : (r : Answer) → judge e.state c ≡ r → Kept (judged r e c).engine.state
  judged_kept (Ok tt) h = performed_kept (kind_of c.asked.action) (right_day_lem e.state c h)
  judged_kept (Err r) h = k

  pub call_kept : Kept (call e c).engine.state
  unfolding call
  call_kept = judged_kept (judge e.state c) refl
