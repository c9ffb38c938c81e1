-- The tests over rows are the model's rules.
use Rattle.std.specs.Prelude.{Ok, Err}
use Prim.Native.Nat.{ℕ, zero, suc, ◌+◌, ◌*◌, ◌≤◌, ◌<◌}
use mathlib.Core.Path.{◌≡◌, refl, sym, ap, ◌∙◌}
use mathlib.Core.Bool.{Bool, true, false, not, cond, ◌||◌}
use mathlib.Core.List.{List, [], ◌∷◌}
use native.Mathlib.Omega.{arith}
use borrow.Author.Tests.{eqb-true, eqb-false}
use lib.Dec.{eqb, leb}
use lib.ListN.{length, get_or, set, take, replicate, length-set, get_or-replicate}
use lib.Seq.{get_or-set_same, get_or-set_other}
use Rattle.chars.specs.Words.{member}
use Rattle.chars.specs.declared.Refusal.{Refusal}
use Rattle.chars.specs.declared.Refusal.TheVariants.{PastDate, FutureDate, Malformed}
use Rattle.request_read.specs.declared.terms.Activation.{Activation}
use Rattle.request_read.specs.declared.terms.Activation.TheVariants.{AtOnce, Minute}
use Rattle.request_read.specs.declared.payments.Payment.{Payment as Line}
use Rattle.request_read.specs.declared.whole.Reading.{Reading}
use Rattle.queue.proofs.MemoryLaws.{by_bool}
use Rattle.settle.specs.Payments.{Payment, payment, payment_at, payments_from, bank_of}
use Rattle.model.specs.Answers.{Answer}
use Rattle.model.specs.State.{Found, at, nowhere, House, State, payments_of}
use Rattle.model.specs.Messages.{first_broken, bank_place, is_suspended, is_member, line_rules, message_rules, same_activation, has_number, banks_in}
use Rattle.model.proofs.Seeking.{bank_below}
use Rattle.tables.specs.Rows.{word, activation_in, messages_in, batch_in}
use Rattle.tables.proofs.Rowing.{Fits}
use Rattle.call_orders.specs.Heads.{Neat}
use Rattle.call_orders.proofs.Bridge.{live_row}
use Rattle.call_plan.specs.rules.Steps.{banks_house, standing_of, on_done, lines_on, marked, same_word, numbered, head_on, message_on, Counted, state_of}

-- ---- marks: 1 at the places that are taken, 0 at the others

pub record Marks (m taken : List ℕ) : Type 0 where
  pub long : length m ≡ 64
  pub says : (p : ℕ) → p < 64 → get_or m p 0 ≡ cond (member p taken) 1 0

pub marks_none : Marks (replicate 64 0) []
marks_none = record { long = refl; says = λ p h. get_or-replicate 64 p 0 0 h }

pub marks_more : (m taken : List ℕ) (p : ℕ) → Marks m taken → Marks (set m p 1) (p ∷ taken)
marks_more m taken p k = record {
  long = length-set m p 1 ∙ k.long;
  says = λ q h.
      by_bool (eqb q p)
      (λ t.
      let e : q ≡ p = eqb-true q p t in
      let w : p < length m = omega (arith, e, h, k.long) in
      ap (λ (j : ℕ). get_or (set m p 1) j 0) e ∙ get_or-set_same m p 1 0 w ∙ rw t)
      (λ t. get_or-set_other m p q 1 0 (eqb-false q p t) ∙ k.says q h ∙ rw t);
}

bank_is : (row : List ℕ) (a : ℕ) → bank_of (payment_at row a) ≡ get_or row a 0
unfolding payment_at payment
bank_is row a = go (get_or row (a + 2) 0)
  where
    go : (l : ℕ) → bank_of (payment (get_or row a 0) (get_or row (a + 1) 0) l) ≡ get_or row a 0
    go zero = refl
    go (suc l) = refl

module _ (s : State) (r : Reading) where
  pub marks_row : (row : List ℕ) (a n : ℕ) (m : List ℕ) → Marks m [] → Marks (marked row a n m) (banks_in (payments_from row a n))
  unfolding marked payments_from
  marks_row row a zero m k = k
  marks_row row a (suc n) m k =
      rw (bank_is row a) (marks_more (marked row (a + 3) n m) (banks_in (payments_from row (a + 3) n)) (get_or row a 0) (marks_row row (a + 3) n m k))

-- ---- the payments

module _ (s : State) (r : Reading) (stream : ℕ) (few : s.house.banks ≤ 64) where
  abbrev ours : List ℕ → List Line → Answer
  ours m ls = lines_on s.house.banks s.house.codes s.house.flags stream m ls

  abbrev theirs : List ℕ → List Line → Answer
  theirs taken ls = first_broken (line_rules s r stream taken ls)

  same_place : (code : ℕ) → bank_place (banks_house s.house.banks s.house.codes []) code ≡ bank_place s.house code
  unfolding bank_place
  same_place code = refl

  line_meets : (m taken : List ℕ) (l : Line) (ls : List Line) → Marks m taken
      → ((m' taken' : List ℕ) → Marks m' taken' → ours m' ls ≡ theirs taken' ls)
      → ours m (l ∷ ls) ≡ theirs taken (l ∷ ls)
  unfolding lines_on standing_of line_rules first_broken
  line_meets m taken l ls k rest = go (bank_place s.house l.bank.number) refl
    where
      go : (f : Found) → bank_place s.house l.bank.number ≡ f → ours m (l ∷ ls) ≡ theirs taken (l ∷ ls)
      go nowhere f = rw (same_place l.bank.number, f)
      go (at p) f =
          let h : p < 64 = omega (arith, bank_below s.house l.bank.number p f, few) in
          by_bool (is_suspended s.house p)
          (λ t. rw (same_place l.bank.number, f, t))
          (λ t. by_bool (is_member s.house stream p)
          (λ u. by_bool (member p taken)
          (λ v.
          let e : get_or m p 0 ≡ 1 = k.says p h ∙ rw v in
          rw (same_place l.bank.number, f, t, u, v, e))
          (λ v.
          let e : get_or m p 0 ≡ 0 = k.says p h ∙ rw v in
          rw (same_place l.bank.number, f, t, u, v, e) (rest (set m p 1) (p ∷ taken) (marks_more m taken p k))))
          (λ u. rw (same_place l.bank.number, f, t, u)))

  pub lines_meet : (m taken : List ℕ) (ls : List Line) → Marks m taken → ours m ls ≡ theirs taken ls
  unfolding lines_on line_rules first_broken
  lines_meet m taken [] k = refl
  lines_meet m taken (l ∷ ls) k = line_meets m taken l ls k (λ m' taken' g. lines_meet m' taken' ls g)

-- ---- what a message says of itself

module _ (s : State) (r : Reading) where
  same_activation_lem : (a : Activation) (w : ℕ) → same_word a w ≡ same_activation a (activation_in w)
  same_activation_lem AtOnce zero = refl
  same_activation_lem AtOnce (suc n) = refl
  same_activation_lem (Minute m) zero = refl
  same_activation_lem (Minute m) (suc n) = refl

  same_numbers : (row : List ℕ) (k i j n : ℕ) → numbered row k i n ≡ has_number k (messages_in row i j n)
  unfolding numbered messages_in
  same_numbers row k i j zero = refl
  same_numbers row k i j (suc n) = ap (λ (b : Bool). eqb (word row (11 + 4 * i)) k || b) (same_numbers row k (i + 1) (j + 3 * word row (12 + 4 * i)) n)

-- ---- the whole

abbrev five : (c a n p f : Bool) → Answer → Answer
five c a n p f l = cond c (cond a (cond (not n) (cond p (cond f l (Err FutureDate)) (Err PastDate)) (Err Malformed)) (Err Malformed)) (Err Malformed)

five_done : (c a n p f : Bool) (l : Answer)
    → on_done (cond c (cond a (cond n (Err Malformed) (cond p (cond f (Ok tt) (Err FutureDate)) (Err PastDate))) (Err Malformed)) (Err Malformed)) l ≡ five c a n p f l
five_done false a n p f l = refl
five_done true false n p f l = refl
five_done true true true p f l = refl
five_done true true false false f l = refl
five_done true true false true false l = refl
five_done true true false true true l = refl

module _ (s : State) (r : Reading) (stream : ℕ) (row : List ℕ) (few : s.house.banks ≤ 64) (counted : Counted row) where
  abbrev marks : List ℕ
  marks = marked row 49 (word row 8) (replicate 64 0)

  abbrev lines : List Line
  lines = take r.n r.payments

  lines_same : lines_on s.house.banks s.house.codes s.house.flags stream marks lines ≡ first_broken (line_rules s r stream (banks_in (payments_of (batch_in row).messages)) lines)
  lines_same =
      lines_meet s r stream few marks (banks_in (payments_from row 49 (word row 8))) lines (marks_row s r row 49 (word row 8) (replicate 64 0) marks_none)
      ∙ ap (λ (ps : List Payment). first_broken (line_rules s r stream (banks_in ps) lines)) counted.same

  pub message_meets : message_on s.day.date s.house.banks s.house.codes s.house.flags stream row r ≡ first_broken (message_rules s r stream (batch_in row))
  unfolding message_on head_on message_rules first_broken batch_in
  message_meets =
      let c = eqb r.terms.count (word row 4) in
      let a = same_word r.terms.activation (word row 5) in
      let a' = same_activation r.terms.activation (activation_in (word row 5)) in
      let n = numbered row r.terms.number 0 (word row 7) in
      let n' = has_number r.terms.number (messages_in row 0 49 (word row 7)) in
      let p = leb s.day.date r.terms.date.number in
      let f = leb r.terms.date.number s.day.date in
      let l = lines_on s.house.banks s.house.codes s.house.flags stream marks lines in
      five_done c a n p f l
      ∙ ap (λ (x : Bool). five c x n p f l) (same_activation_lem s r r.terms.activation (word row 5))
      ∙ ap (λ (x : Bool). five c a' x p f l) (same_numbers s r row r.terms.number 0 49 (word row 7))
      ∙ ap (λ (x : Answer). five c a' n' p f x) lines_same

-- ---- in the terms of the code

module _ (date banks : ℕ) (codes flags : List ℕ) (stream : ℕ) (row : List ℕ) (r : Reading) (few : banks ≤ 64) (counted : Counted row) (h : Answer) (is : h ≡ head_on date row r.terms) where
  pub message_stops : (f : Refusal) → h ≡ Err f → Err f ≡ first_broken (message_rules (state_of date banks codes flags) r stream (batch_in row))
  unfolding message_on
  message_stops f e =
      let g : message_on date banks codes flags stream row r ≡ Err f = rw (sym is, e) in
      sym g ∙ message_meets (state_of date banks codes flags) r stream row few counted

  pub message_goes : (m : List ℕ) (a : Answer) → h ≡ Ok tt → m ≡ marked row 49 (get_or row 8 0) (replicate 64 0)
      → a ≡ lines_on banks codes flags stream m (take r.n r.payments)
      → a ≡ first_broken (message_rules (state_of date banks codes flags) r stream (batch_in row))
  unfolding message_on
  message_goes m a e k w =
      let g : message_on date banks codes flags stream row r ≡ a = rw (sym is, e, w, k) in
      sym g ∙ message_meets (state_of date banks codes flags) r stream row few counted

-- ---- in the terms of the state

-- only the date and the banks of a state matter
pub message_any : (s : State) (r : Reading) (stream : ℕ) (row : List ℕ) → s.house.banks ≤ 64 → Counted row
    → first_broken (message_rules (state_of s.day.date s.house.banks s.house.codes s.house.flags) r stream (batch_in row)) ≡ first_broken (message_rules s r stream (batch_in row))
message_any s r stream row few counted =
    sym (message_meets (state_of s.day.date s.house.banks s.house.codes s.house.flags) r stream row few counted)
    ∙ message_meets s r stream row few counted

pub bank_any : (h : House) (code : ℕ) → bank_place (banks_house h.banks h.codes []) code ≡ bank_place h code
unfolding bank_place
bank_any h code = refl

messages_many : (row : List ℕ) (i j n : ℕ) → length (messages_in row i j n) ≡ n
unfolding messages_in
messages_many row i j zero = refl
messages_many row i j (suc n) = ap (λ (k : ℕ). suc k) (messages_many row (i + 1) (j + 3 * word row (12 + 4 * i)) n)

-- the row of a live batch that the rules allow
pub counted : (row : List ℕ) → length row ≡ 349 → Neat row → (word row 0 ≡ 0 → ⊥) → Fits (batch_in row) → Counted row
unfolding batch_in
counted row l n h f =
    let g = live_row row n h f in
    record {
      long = l;
      messages = omega (arith, messages_many row 0 49 (word row 7), f.few);
      payments = g.1;
      same = g.0;
    }
