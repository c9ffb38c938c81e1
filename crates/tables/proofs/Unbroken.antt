-- 06 comes from tables that break the rules, and from nothing else: no call by the rules answers it.
use Rattle.std.specs.Prelude.{Ok, Err}
use Prim.Native.Nat.{ℕ, zero, suc, ◌+◌, ◌-◌}
use mathlib.Core.Path.{◌≡◌, refl, sym, ap, subst, ◌∙◌}
use mathlib.Core.Bool.{Bool, true, false, ◌&&◌, cond, false≢true}
use mathlib.Core.List.{List, [], ◌∷◌, ◌++◌}
use lib.Dec.{eqb, leb}
use Rattle.chars.specs.Words.{bytes, member, Says}
use Rattle.chars.specs.declared.Refusal.{Refusal}
use Rattle.chars.specs.declared.Refusal.TheVariants.{BrokenTables, WrongMoment}
use Rattle.codes.specs.declared.Code.{Code}
use Rattle.text_values.proofs.Alike.{by_cond}
use Rattle.request_read.specs.declared.payments.Payment.{Payment as Line}
use Rattle.request_read.specs.whole.Request.{request_at}
use Rattle.request_read.specs.declared.whole.Outcome.{Outcome as Read}
use Rattle.request_read.specs.declared.whole.Outcome.TheVariants.{Settlement, Recall, Refused as Unread}
use Rattle.request_read.specs.declared.whole.Reading.{Reading}
use Rattle.book_read.specs.Block.{Rule as BookRule, first_broken as first_fault}
use Rattle.book_read.specs.Book.{most_money, blocks_in, stream_rules, bank_rules, bank_blocks, book_rules, book_check}
use Rattle.book_read.specs.Accounts.{day_in}
use Rattle.book_read.specs.Range.{Each}
use Rattle.model.specs.Answers.{Answer}
use Rattle.model.specs.State.{Found, at, nowhere, on_found, seek, Day, Batch, Place, free, live, Batches, Known, State, is_free, on_live, place_at, payments_at}
use Rattle.model.specs.Memory.{is_used}
use Rattle.model.specs.Messages.{SubType, is131, is133, by_sub_type, Acted, Rule, first_broken, stream_place, administrator, bank_place, assembling, waiting, today, reference, bin, stream_code, line_bank, line_rules, message_rules, is_complete, is_even, completed, is_broken_part, reject_assembled, broken_part, on_text, on_sender, repeated, fits, with_reference, on_bin, on_rules, admit, is_known, recalling, message}
use Rattle.model.specs.Kinds.{Kind, opens, steps, gives, kind_of, Own, receives, changes_sublimit, changes_status, nothing, own_of}
use Rattle.model.specs.Changes.{sub_limit, has_debit, status}
use Rattle.model.specs.Days.{is_later, checked, opening_answer}
use Rattle.model.specs.Calls.{Call, Engine, right_clock, right_day, room_needed, rows_needed, judge, begun, act, call}
use Rattle.model.specs.Answered.{acted}
use Rattle.model.proofs.Settling.{each_append}
use Rattle.model.specs.Promises.{numbered_by}
use Rattle.model.proofs.Promises.{call_number}
use Rattle.tables.specs.Rows.{engine_in}
use Rattle.tables.specs.Lent.{Right, Lent, Asked, call_of, Left, broken, call_lent, Called}
use Rattle.tables.proofs.Breaks.{Other, OtherOutcome, OtherReading, request_other}
use Rattle.tables.proofs.Kept.{on_right}

abbrev OtherAnswer : Answer → Type 0
OtherAnswer (Ok tt) = Unit {0}
OtherAnswer (Err r) = Other r

by_found_lem : {A : Type 0} (P : A → Type 0) (f : Found) {d : A} {k : ℕ → A} → P d → ((p : ℕ) → P (k p)) → P (on_found f d k)
by_found_lem P (at p) x g = g p
by_found_lem P nowhere x g = x

by_live : {A : Type 0} (P : A → Type 0) (y : Place) {d : A} {k : Batch → A} → P d → ((b : Batch) → P (k b)) → P (on_live y d k)
by_live P free x g = x
by_live P (live b) x g = g b

-- ---- the book

abbrev OtherCheck : Answer → Type 0
OtherCheck (Ok tt) = Unit {0}
OtherCheck (Err r) = Other r

abbrev OtherFaults : List BookRule → Type 0
OtherFaults rs = Each (λ x. Other x.fault) rs

fault_other : (rs : List BookRule) → OtherFaults rs → OtherCheck (first_fault rs)
unfolding first_fault
fault_other [] h = tt
fault_other (r ∷ rs) h = by_cond OtherCheck r.holds (fault_other rs h.1) h.0

faults_append : (a b : List BookRule) → OtherFaults a → OtherFaults b → OtherFaults (a ++ b)
faults_append a b = each_append 0 (λ x. Other x.fault) a b

bank_blocks_other : (s : List ℕ) (blocks k n : ℕ) → OtherFaults (bank_blocks s blocks k n)
unfolding bank_blocks bank_rules
bank_blocks_other s blocks k zero = tt
bank_blocks_other s blocks k (suc n) = faults_append (bank_rules s blocks k) (bank_blocks s blocks (k + 1) n) (refl, (refl, (refl, tt))) (bank_blocks_other s blocks (k + 1) n)

book_other : (s : List ℕ) → OtherCheck (book_check s)
unfolding book_check book_rules stream_rules
book_other s =
    fault_other (book_rules s) (
      refl,
      faults_append (stream_rules s (blocks_in s)) (bank_blocks s (blocks_in s) 1 (blocks_in s - 1) ++ _) (refl, (refl, (refl, tt)))
          (faults_append (bank_blocks s (blocks_in s) 1 (blocks_in s - 1)) _ (bank_blocks_other s (blocks_in s) 1 (blocks_in s - 1)) (refl, tt)),
    )

opening_other : (d : Day) (book : List ℕ) → OtherAnswer (opening_answer d book)
unfolding opening_answer
opening_other d book = go (book_check book) (book_other book)
  where
    go : (c : Answer) → OtherCheck c → OtherAnswer (checked c (cond (is_later d (day_in book)) (Ok tt) (Err WrongMoment)))
    go (Ok tt) o = by_cond OtherAnswer (is_later d (day_in book)) tt refl
    go (Err r) o = o

-- ---- messages

abbrev OtherActed : Acted → Type 0
OtherActed a = OtherAnswer a.answer

rules_other : (rs : List Rule) → Each (λ x. Other x.fault) rs → OtherAnswer (first_broken rs)
unfolding first_broken
rules_other [] h = tt
rules_other (r ∷ rs) h = by_cond OtherAnswer r.holds (rules_other rs h.1) h.0

module _ (s : State) (r : Reading) where
  lines_other : (stream : ℕ) (taken : List ℕ) (ls : List Line) → Each (λ x. Other x.fault) (line_rules s r stream taken ls)
  unfolding line_rules
  lines_other stream taken [] = tt
  lines_other stream taken (l ∷ ls) = (refl, (refl, (refl, (refl, lines_other stream (line_bank s r l ∷ taken) ls))))

  completed_other : (b : Batches) (k : Known) (p : ℕ) (x : Batch) → OtherActed (completed s r b k p x)
  unfolding completed
  completed_other b k p x = by_cond OtherActed (is_complete x) (by_cond OtherActed (is_even x) tt refl) tt

  ruled_other : (a : Answer) (b : Batches) (k : Known) (p : ℕ) (x : Batch) → OtherAnswer a → OtherActed (on_rules s r a b k p x (completed s r b k p x))
  ruled_other (Ok tt) b k p x o = completed_other b k p x
  ruled_other (Err f) b k p x o = o

  admit_other : (stream : ℕ) (b : Batches) (k : Known) (p : ℕ) (x : Batch) → OtherActed (admit s r stream b k p x)
  unfolding admit message_rules
  admit_other stream b k p x =
      ruled_other (first_broken (message_rules s r stream x)) b k p _
      (rules_other (message_rules s r stream x) (refl, (refl, (refl, (refl, (refl, lines_other stream _ _))))))

  bin_other : (stream : ℕ) (k : Known) → OtherActed (on_bin s r k (admit s r stream))
  unfolding on_bin
  bin_other stream k =
      by_cond OtherActed (is_known s r)
      (by_found_lem OtherActed (assembling s.batches (bin s r)) refl (λ p. by_live OtherActed (place_at s.batches p) refl (λ x. admit_other stream s.batches k p x)))
      (by_found_lem OtherActed (seek is_free s.batches.places) refl (λ p. admit_other stream _ _ p _))

  recalling_other : (k : Known) → OtherActed (recalling s r k)
  unfolding recalling
  recalling_other k = by_found_lem OtherActed (waiting s.batches (bin s r)) refl (λ p. tt)

  noted_other : (t : SubType) (stream : ℕ) (k : Known) → OtherActed (by_sub_type t (on_bin s r k (admit s r stream)) (recalling s r k))
  noted_other is131 stream k = bin_other stream k
  noted_other is133 stream k = recalling_other k

  assembled_other : (q : Refusal) → Other q → OtherActed (reject_assembled s r q)
  assembled_other q h = by_found_lem OtherActed (assembling s.batches (bin s r)) h (λ p. h)

  repeated_other : (t : SubType) → OtherActed (repeated s r t)
  repeated_other is131 = assembled_other _ refl
  repeated_other is133 = refl

  part_other : (sender : ℕ) (q : Refusal) → Other q → OtherActed (broken_part s r sender q)
  unfolding broken_part
  part_other sender q h =
      by_found_lem OtherActed (stream_place s.house (stream_code s r)) h (λ i.
      by_cond OtherActed (eqb sender (administrator s.house i)) (assembled_other q h) h)

  text_other : (next : SubType → Acted) (sender : ℕ) (o : Read) → OtherOutcome o → ((t : SubType) → OtherActed (next t)) → OtherActed (on_text s r sender o next)
  text_other next sender Settlement h f = f is131
  text_other next sender Recall h f = f is133
  text_other next sender (Unread b) h f = by_cond OtherActed (is_broken_part r.head b) (part_other sender b.refusal h) h

  message_other : (sender : ℕ) → OtherReading r → OtherActed (message s sender r)
  unfolding message on_sender
  message_other sender h =
      text_other _ sender r.outcome h (λ t.
      by_found_lem OtherActed (stream_place s.house (stream_code s r)) refl (λ i.
      by_cond OtherActed (eqb sender (administrator s.house i))
      (by_cond OtherActed (is_used (today s) (reference s r) s.known.references) (repeated_other t)
      (by_cond OtherActed (fits s r t) (noted_other t i (with_reference s r)) refl))
      refl))

-- ---- the other actions, and a call

sub_limit_other : (s : State) (code cents : ℕ) → OtherActed (sub_limit s code cents)
unfolding sub_limit
sub_limit_other s code cents = by_found_lem OtherActed (bank_place s.house code) refl (λ p. by_cond OtherActed (leb cents most_money) tt refl)

status_other : (s : State) (code : ℕ) (b : Code) (letter : ℕ) → OtherActed (status s code b letter)
unfolding status
status_other s code b letter =
    by_cond OtherActed (member letter (bytes "ADP"))
    (by_found_lem OtherActed (bank_place s.house code) refl (λ k.
    by_found_lem OtherActed (waiting s.batches b) refl (λ p.
    by_cond OtherActed (has_debit k (payments_at s.batches p)) tt refl)))
    refl

act_other : (s : State) (z : Own) (input : List ℕ) → OtherActed (act s z input)
unfolding act
act_other s (receives sender) input = message_other s (request_at input) sender (request_other input)
act_other s (changes_sublimit code cents) input = sub_limit_other s code cents
act_other s (changes_status code b letter) input = status_other s code b letter
act_other s nothing input = tt

judge_other : (s : State) (c : Call) → OtherAnswer (judge s c)
unfolding judge
judge_other s c =
    by_cond OtherAnswer (right_clock c.asked.action s.day c.asked.clock && right_day c.asked.action s.day)
    (by_cond OtherAnswer (leb (room_needed c.asked.action s) c.room && leb rows_needed c.rows) tt refl)
    refl

module _ (e : Engine) (c : Call) where
  acted_other : OtherActed (acted e c)
  acted_other = act_other (begun e.state c.asked.clock) (own_of c.asked.action) c.asked.input

  numbered_other : (j : Answer) (z : Kind) → OtherAnswer j → OtherAnswer (numbered_by j z e c)
  numbered_other (Err r) z o = o
  numbered_other (Ok tt) opens o = opening_other e.state.day c.asked.input
  numbered_other (Ok tt) steps o = acted_other
  numbered_other (Ok tt) (gives d) o = tt

  call_other : OtherAnswer (call e c).answer
  call_other = subst OtherAnswer (sym (call_number e c)) (numbered_other (judge e.state c) (kind_of c.asked.action) (judge_other e.state c))

  -- no call by the rules answers 06
  pub never_broken : (call e c).answer ≡ Err BrokenTables → ⊥
  never_broken h = false≢true (sym (subst OtherAnswer h call_other))

-- 06 exactly where desk and tables break the rules, and then nothing is changed
pub record Sixes (x : Lent) (y : Left) : Type 0 where
  pub only : y.answer ≡ Err BrokenTables → Right x.desk x.tables → ⊥
  pub then : (Right x.desk x.tables → ⊥) → y ≡ broken x

pub broken_exactly : (x : Lent) (a : Asked) (y : Left) → Called x a y → Sixes x y
unfolding call_lent
broken_exactly x a y c = record {
  only = λ h r. never_broken (engine_in x.desk x.tables) (call_of x a) (sym (ap (λ (z : Left). z.answer) (on_right x a y r c)) ∙ h);
  then = λ n. go n c.kept c.says c.is;
}
  where
    go : (Right x.desk x.tables → ⊥) → (k : Bool) → Says (Right x.desk x.tables) k → y ≡ call_lent k x a → y ≡ broken x
    go n true s e = absurd (n s)
    go n false s e = e
