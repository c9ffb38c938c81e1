-- What is promised of `call` and `clear` over any sequence is promised of the functions that a program in C calls.
use Prim.Native.Nat.{ℕ, ◌≤◌, ◌<◌}
use mathlib.Core.Path.{◌≡◌, refl, sym, ap, subst, ◌∙◌}
use mathlib.Core.Bool.{Bool, true, false}
use mathlib.Core.List.{List, [], ◌∷◌, map}
use native.Mathlib.Omega.{arith}
use lib.Dec.{leb}
use lib.ListN.{length, length-replicate}
use borrow.Author.Tests.{leb-true, leb-false, le-leb}
use Rattle.chars.specs.Words.{Says as Tells}
use Rattle.chars.specs.Refusals.{number_of}
use Rattle.chars.specs.declared.Refusal.TheVariants.{BrokenTables}
use Rattle.model.specs.Answers.{Answer, answer_number}
use Rattle.model.specs.declared.Phase.TheVariants.{Closed}
use Rattle.model.specs.Calls.{Asked, Call, Engine, Result, call}
use Rattle.model.specs.Course.{Deed, start, course, since}
use Rattle.model.specs.Answered.{Accounted, awaiting}
use Rattle.model.specs.Arrival.{ByArrival}
use Rattle.model.specs.Lettered.{LettersStay}
use Rattle.model.specs.LeftBehind.{LeftBehind}
use Rattle.model.specs.Happened.{history, ByRule}
use Rattle.model.specs.Waiting.{Ordered}
use Rattle.model.specs.Promises.{Numbered, StrangersLeaveAll, Written, answered, OpensRight, Closes, Followed, ledger_after, no_ledger, Covered, NonePasses, Tried, Enough}
use Rattle.tables.specs.Lent.{Right, Lent, Left, call_lent, Called, Long}
use Rattle.tables.specs.Choosing.{SameBut, AllSameBut}
use Rattle.tables.proofs.Kept.{right_long, right_left}
use Rattle.call_records.specs.Records.{balances_of, waiting_of, Outcome, seen_as}
use Rattle.c_engine.specs.Lending.{banks_length, EngineWords, lent_in, Returned, CalledWords, Seen, seen_with, LongWords, Started, clear_words, ClearedWords, no_words, Shaped}
use Rattle.c_engine.proofs.Clearing.{long_tables, cleared_as_seen, cleared_shaped}
use Rattle.c_engine.proofs.Determined as words
use Rattle.c_engine.proofs.Refusals.{broken_tables, at_once}
use Rattle.c_engine.proofs.Seen.{seen, shape_kept}
use Rattle.demands.specs.Demands.{Kept, Calls, Came, EverySince, Everywhere, Whenever, Doing, engine_of, Totals}
use Rattle.demands.specs.Demands as demanded
use Rattle.demands.specs.Words.{kept_by, LendingWords, words_of, lending_of, CallsWords, DoingWords, clears, CameWords, none, cleared, called, seen_doing, doings, outcome_by, EverySinceWords, EverywhereWords, WheneverWords, OneOfCalls, OneOfClearings, choose_words, SameWords, AllSameWords, DemandsOfWords}
use Rattle.demands.specs.Words as said
use Rattle.demands.proofs.Demands.{demand_one, demand_two, demand_three}

-- rows of the right lengths, and a phase that is one
record Fit (x : EngineWords) : Type 0 where
  long : LongWords x
  shape : Shaped x.desk x.banks

short_report : (n : ℕ) → n < 2 → leb 2 n ≡ false
short_report n h = go (leb 2 n) refl
  where
    go : (b : Bool) → leb 2 n ≡ b → b ≡ false
    go true e = absurd (omega (arith, leb-true 2 n e))
    go false e = refl

-- ---- a clearing

module _ (x : EngineWords) (y : Started) (l : LongWords x) (c : ClearedWords x y) where
  done : y ≡ clear_words true x
  done = go c.long c.says c.is
    where
      go : (b : Bool) → Tells (LongWords x) b → y ≡ clear_words b x → y ≡ clear_words true x
      go true s e = e
      go false s e = absurd (s l)

  answers_0 : y.number ≡ 0
  unfolding clear_words
  answers_0 = ap (λ (z : Started). z.number) done

  begins_fit : Fit y.words
  unfolding clear_words no_words
  begins_fit = record {
    long = subst (λ (z : Started). LongWords z.words) (sym done)
        (record { desk_long = length-replicate {A = ℕ} 22 0; banks_long = length-replicate {A = ℕ} banks_length 0; batches_long = length-replicate {A = ℕ} 11168 0; references_long = length-replicate {A = ℕ} 6144 0; bins_long = length-replicate {A = ℕ} 1536 0 });
    shape = cleared_shaped x y c answers_0;
  }

-- ---- a call

long_left : (x : Lent) (a : Asked) (y : Left) → Called x a y → Long x.tables → Long y.lent.tables
unfolding call_lent
long_left x a y c l = go c.kept c.says c.is
  where
    go : (k : Bool) → Tells (Right x.desk x.tables) k → y ≡ call_lent k x a → Long y.lent.tables
    go true r e = right_long y.lent.desk y.lent.tables (right_left x a y r c)
    go false r e = subst (λ (z : Left). Long z.lent.tables) (sym e) l

module _ (x : EngineWords) (f : Fit x) (k : LendingWords) (h : 2 ≤ length k.report) (y : Returned) (c : CalledWords (words_of x k) k.asked y) where
  look : Seen (words_of x k) k.asked y
  look = seen (words_of x k) k.asked y h f.shape c

  step : Calls (kept_by x) (lending_of k) (outcome_by look.answer y)
  step = look.called

  goes_fit : Fit y.words.engine
  goes_fit =
      let s = shape_kept (words_of x k) k.asked y h f.shape c in
      let t = long_left (lent_in (words_of x k)) k.asked (seen_with look.answer y) look.called (long_tables x f.long) in
      record { long = record { desk_long = s.desk_long; banks_long = s.banks_long; batches_long = t.batches; references_long = t.references; bins_long = t.bins }; shape = s }

-- ---- any of them

came_words : {x x' : EngineWords} {ds : List DoingWords} → Fit x → CameWords x ds x' → Fit x' × Came (kept_by x) (doings ds) (kept_by x')
came_words f none = (f, demanded.none)
came_words {x = x} f (cleared {y = y} c r) =
    let g = came_words (begins_fit x y f.long c) r in
    (g.0, demanded.cleared (cleared_as_seen x y c (answers_0 x y f.long c)) g.1)
came_words {x = x} {x' = x'} f (called {k = k} {y = y} {ds = ds} c r) = go (leb 2 (length k.report)) refl (λ g. came_words g r)
  where
    go : (b : Bool) → leb 2 (length k.report) ≡ b → (Fit y.words.engine → Fit x' × Came (kept_by y.words.engine) (doings ds) (kept_by x'))
        → Fit x' × Came (kept_by x) (seen_doing b k (doings ds)) (kept_by x')
    go true e on =
        let h = leb-true 2 (length k.report) e in
        let g = on (goes_fit x f k h y c) in
        (g.0, demanded.called (step x f k h y c) g.1)
    go false e on =
        let i : y.words.engine ≡ x = ap (λ (z : Returned). z.words.engine) (c.short (leb-false 2 (length k.report) e)) in
        let g = on (subst (λ (z : EngineWords). Fit z) (sym i) f) in
        (g.0, subst (λ (z : EngineWords). Came (kept_by z) (doings ds) (kept_by x')) i g.1)

since_words : (P : List Deed → Engine → Call → Result → Type 0) → EverySince P → EverySinceWords P
since_words P h x x' ds l (cleared {y = y} c r) k n v w =
    let g = came_words (begins_fit x y l c) r in
    let s = look x' g.0 k n v w in
    record {
      answer = s.answer;
      numbered = s.numbered;
      is = h (kept_by x) (kept_by x') (doings ds) (long_tables x l) (demanded.cleared (cleared_as_seen x y c (answers_0 x y l c)) g.1) (lending_of k) (outcome_by s.answer v) s.called;
    }

everywhere_words : (P : Engine → Call → Result → Type 0) → Everywhere P → EverywhereWords P
everywhere_words P h = since_words (λ ds. P) h

whenever_words : (P : Kept → List Deed → Type 0) → Whenever P → WheneverWords P
whenever_words P h x x' ds l (cleared {y = y} c r) =
    h (kept_by x) (kept_by x') (doings ds) (long_tables x l) (demanded.cleared (cleared_as_seen x y c (answers_0 x y l c)) (came_words (begins_fit x y l c) r).1)

-- ---- demand 1

one_of_calls : (x : EngineWords) (k : LendingWords) (y : Returned) → CallsWords x k y → OneOfCalls x k y
one_of_calls x k y c = record {
  one = λ z d. words.determined (words_of x k) k.asked y z c d;
  short = c.short;
  shape = c.broken;
  broken_tables = λ n i h. broken_tables (words_of x k) k.asked y n i c h;
  at_once = λ n i r q j. at_once (words_of x k) k.asked y n i c r q j;
  seen = λ n i.
      let s = seen (words_of x k) k.asked y n i c in
      record { answer = s.answer; numbered = s.numbered; is = demand_one (kept_by x) (lending_of k) (outcome_by s.answer y) s.called };
}

one_of_clearings : (x : EngineWords) (y : Started) → ClearedWords x y → OneOfClearings x y
unfolding clear_words
one_of_clearings x y c = record {
  one = λ z d. words.clearing_determined x y z c d;
  broken_tables = λ h. refuses c.long c.says c.is h;
  fresh = λ l. done x y l c;
}
  where
    refuses : (b : Bool) → Tells (LongWords x) b → y ≡ clear_words b x → (LongWords x → ⊥) → y ≡ record { number = number_of BrokenTables; words = x }
    refuses true s e h = absurd (h s)
    refuses false s e h = e

-- ---- demand 3: two runs of words are two runs of what they say

but_tests : {ds es : List DoingWords} → said.ButTestsWords ds es → demanded.ButTests (doings ds) (doings es)
but_tests said.none = demanded.none
but_tests (said.clear t) = demanded.clear (but_tests t)
but_tests (said.choice {ds = ds} {es = es} k p q t) = go (leb 2 (length k.report)) (but_tests t)
  where
    go : (b : Bool) → demanded.ButTests (doings ds) (doings es)
        → demanded.ButTests (seen_doing b (choose_words p k) (doings ds)) (seen_doing b (choose_words q k) (doings es))
    go true u = demanded.choice (lending_of k) p q u
    go false u = u

-- the outcomes that some calls returned
data Returns : List Outcome → List Returned → Type 0 where
  nothing : Returns [] []
  and : {os : List Outcome} {ys : List Returned} (answer : Answer) (y : Returned) → y.number ≡ answer_number answer → Returns os ys
      → Returns (outcome_by answer y ∷ os) (y ∷ ys)

record Saw (x : EngineWords) (ds : List Doing) (ys : List Returned) : Type 0 where
  outcomes : List Outcome
  ran : demanded.Ran (kept_by x) ds outcomes
  returns : Returns outcomes ys

saw : {x : EngineWords} {ds : List DoingWords} {ys : List Returned} → Fit x → said.RanWords x ds ys → Saw x (doings ds) ys
saw f said.none = record { outcomes = []; ran = demanded.none; returns = nothing }
saw {x = x} f (said.begins {y = y} c r) =
    let s = saw (begins_fit x y f.long c) r in
    record {
      outcomes = s.outcomes;
      ran = demanded.begins (cleared_as_seen x y c (answers_0 x y f.long c)) s.ran;
      returns = s.returns;
    }
saw {x = x} f (said.short {k = k} {y = y} {ds = ds} {ys = ys} n c r) =
    let e : leb 2 (length k.report) ≡ false = short_report (length k.report) n in
    let i : y.words.engine ≡ x = ap (λ (z : Returned). z.words.engine) (c.short n) in
    let s : Saw y.words.engine (doings ds) ys = saw (subst (λ (z : EngineWords). Fit z) (sym i) f) r in
    subst (λ (b : Bool). Saw x (seen_doing b k (doings ds)) ys) (sym e) (subst (λ (z : EngineWords). Saw z (doings ds) ys) i s)
saw {x = x} f (said.then {k = k} {y = y} {ds = ds} {ys = ys} n c r) =
    let e : leb 2 (length k.report) ≡ true = le-leb 2 (length k.report) n in
    let s = saw (goes_fit x f k n y c) r in
    let l = look x f k n y c in
    subst (λ (b : Bool). Saw x (seen_doing b k (doings ds)) (y ∷ ys)) (sym e)
    (record { outcomes = outcome_by l.answer y ∷ s.outcomes; ran = demanded.then (step x f k n y c) s.ran; returns = and l.answer y l.numbered s.returns })

same_words : (a b : Answer) (y z : Returned) → y.number ≡ answer_number a → z.number ≡ answer_number b → SameBut (seen_with a y) (seen_with b z) → SameWords y z
same_words a b y z m n h = record {
  number = m ∙ ap answer_number h.answer ∙ sym n;
  answer = a;
  says = subst (λ (c : Answer). SameBut (seen_with a y) (seen_with c z)) (sym h.answer) h;
}

all_same : {os us : List Outcome} {ys zs : List Returned} → Returns os ys → Returns us zs → AllSameBut (map seen_as os) (map seen_as us) → AllSameWords ys zs
all_same nothing nothing h = tt
all_same nothing (and b z n v) h = h
all_same (and a y m u) nothing h = h
all_same (and a y m u) (and b z n v) h = (same_words a b y z m n h.0, all_same u v h.1)

both_alike : (x z : EngineWords) (ds es : List DoingWords) (ys zs : List Returned) → said.ButTestsWords ds es → LongWords x → LongWords z
    → said.RanWords x (clears ∷ ds) ys → said.RanWords z (clears ∷ es) zs → AllSameWords ys zs
both_alike x z ds es ys zs t l m (said.begins {y = y} c r) (said.begins {y = w} d u) =
    let p = saw (begins_fit x y l c) r in
    let q = saw (begins_fit z w m d) u in
    all_same p.returns q.returns
    (demand_three.alike (kept_by x) (kept_by z) (doings ds) (doings es) p.outcomes q.outcomes (but_tests t) (long_tables x l) (long_tables z m)
    (demanded.begins (cleared_as_seen x y c (answers_0 x y l c)) p.ran) (demanded.begins (cleared_as_seen z w d (answers_0 z w m d)) q.ran))

-- ---- the three demands

pub demands_of_words : DemandsOfWords
demands_of_words = record {
  one_of_calls = one_of_calls;
  one_of_clearings = one_of_clearings;
  numbers = everywhere_words Numbered demand_two.numbers;
  left_behind = everywhere_words LeftBehind demand_two.left_behind;
  texts = everywhere_words Written demand_two.texts;
  accounted = whenever_words (λ x ds. Accounted (engine_of x).state (answered ds)) demand_two.accounted;
  none_left = whenever_words (λ x ds. x.desk.phase ≡ Closed → awaiting (engine_of x).state ≡ []) demand_two.none_left;
  by_arrival = everywhere_words ByArrival demand_two.by_arrival;
  strangers = everywhere_words StrangersLeaveAll demand_two.strangers;
  letters = everywhere_words LettersStay demand_two.letters;
  openings = everywhere_words OpensRight demand_two.openings;
  books = everywhere_words Closes demand_two.books;
  alike = both_alike;
  balances = whenever_words (λ x ds. Followed (balances_of x.row) (ledger_after call start no_ledger (since ds))) demand_three.balances;
  totals = whenever_words (λ x ds. Totals (waiting_of x.row) (course call start ds).state.batches) demand_three.totals;
  covered = everywhere_words Covered demand_three.covered;
  none_passes = everywhere_words NonePasses demand_three.none_passes;
  ordered = everywhere_words Ordered demand_three.ordered;
  by_rule = since_words (λ ds e c r. ByRule e (history start [] (since ds)) c r) demand_three.by_rule;
  tries = everywhere_words Tried demand_three.tries;
  enough = everywhere_words Enough demand_three.enough;
}
