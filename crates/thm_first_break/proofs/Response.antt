-- A response is refused at its first break, with the number that names it, and only there.
use Rattle.response_write.specs.declared.Outcome.{Outcome}
use Rattle.response_write.specs.declared.Answer.{Answer}
use Rattle.std.specs.Prelude.{Option, Some, None, Result, Ok, Err}
use Prim.Native.Nat.{ℕ, ◌+◌, ◌/◌, ◌%◌}
use mathlib.Core.Path.{◌≡◌, refl, ap, sym, subst, ◌∙◌}
use mathlib.Core.List.{List, [], ◌∷◌, ◌++◌}
use mathlib.Core.Bool.{Bool, true, false, cond, false≢true}
use mathlib.Core.Logic.{inl, inr}
use native.Mathlib.Omega.{arith}
use borrow.Author.Tests.{eqb-true, eqb-false}
use lib.Dec.{eqb}
use lib.ListN.{length, drop}
use Rattle.chars.specs.Words.{bytes, member, crlf}
use Rattle.chars.specs.Chars.{is_digit, digit_value}
use Rattle.chars.specs.declared.Refusal.TheVariants.{OtherSubType}
use Rattle.clock.specs.Clock.{second_of}
use Rattle.dates.specs.Dates.{day_of}
use Rattle.text_put.specs.Digits.{digits_of}
use Rattle.text_scan.specs.Scan.{on_next, begins, lit_at}
use Rattle.text_scan.specs.declared.Cursor.{Cursor}
use Rattle.text_scan.proofs.Pairs.{ok_pair}
use Rattle.text_scan.proofs.Laws.{lit_yes, lit_not}
use Rattle.text_scan.specs.Spelling.{value_of}
use Rattle.text_scan.proofs.Standing.{past, lit_next, lit_sound}
use Rattle.text_values.specs.Values.{no_part, on_day}
use Rattle.text_values.specs.declared.Part.{Part}
use Rattle.text_values.specs.Grammar.{IsNumeral}
use Rattle.text_fields.specs.Fields.{absent, broken, wrong as wrong_at, item, place, on_good, field_at}
use Rattle.text_fields.specs.declared.Break.{Break}
use Rattle.text_fields.specs.declared.Item.{Item}
use Rattle.text_fields.specs.declared.Kind.TheVariants.{Empty, Reference, Numeral, Word, Bin}
use Rattle.text_fields.specs.Grammar.{Line}
use Rattle.text_fields.proofs.Grammar.{line_complete}
use Rattle.response_write.specs.declared.Outcome.TheVariants.{Settled, Rejected}
use Rattle.response_write.specs.declared.Answer.TheVariants.{Recalled, Kept}
use Rattle.response_read.specs.Reply.{by_status, on_second, on_of, on_how, on_with, ending, refused, response_number_at, request_reference_at, batch_at, settled_at, rejected_at, ended_at, answer_at, settlement_of, recall_of, settlement_at, recall_at, head, response_at}
use Rattle.response_read.specs.declared.Batch.{Batch}
use Rattle.response_read.specs.declared.Head.{Head}
use Rattle.response_read.specs.declared.Reply.{Reply}
use Rattle.response_read.specs.declared.Reply.TheVariants.{Settlement, Recall, Refused}
use Rattle.response_read.specs.declared.ReadResponse.{ReadResponse}
use Rattle.response_read.proofs.Digits.{digits_back}
use Rattle.response_read.proofs.RoundTrip.{zero_status, one_status}
use Rattle.thm_grammar.proofs.Meanings.{LineRead, line_read}
use Rattle.thm_first_break.specs.Rows.{f12, f77e, f22a, f119, f_b20, f21, f451, f13e, f432, IsOutcome, IsMoment}
use Rattle.thm_first_break.specs.Order.{Choice, choice}
use Rattle.thm_first_break.specs.Replies.{Awaiting, on20, on12, on77e, on21, on22a, on119, on451, on13e, on432, on_end, replies}
use Rattle.thm_first_break.specs.Breaks.{standing, missing, wrong, other, beginning, ResponseBreaks}
use Rattle.thm_first_break.proofs.Values.{same_long}
use Rattle.thm_first_break.proofs.First.{Verdict, step, stop, breaks_first}
use Rattle.thm_first_break.proofs.Once.{one_break}
use Rattle.thm_first_break.proofs.Steps.{fits12, fits77e, fits22a, fits119, fits21, fits432, covers451, covers13e, read_and_not, Asked, alone as row-alone, end_walk, on_field, on_line}

abbrev broken_by : Reply → Option Break
broken_by (Refused b) = Some b
broken_by (Settlement r) = None
broken_by (Recall r) = None

abbrev broken_in : ReadResponse → Option Break
broken_in r = broken_by r.reply

abbrev is_end : Awaiting → Bool
is_end on20 = false
is_end on12 = false
is_end (on77e b) = false
is_end (on21 b) = false
is_end on22a = false
is_end (on119 w) = false
is_end (on451 b) = false
is_end on13e = false
is_end on432 = false
is_end on_end = true

zero_is : value_of 0 (bytes "0") ≡ 0
unfolding digit_value is_digit
zero_is = refl

one_is : value_of 0 (bytes "1") ≡ 1
unfolding digit_value is_digit
one_is = refl

module _ (s : List ℕ) where
  abbrev Walk : Option Break → ℕ → Awaiting → Type 0
  Walk o p e = Verdict Awaiting replies on20 on_end refl s o p e

  alone : (p : ℕ) (e : Awaiting) (c : Choice Awaiting) → is_end e ≡ false → replies e ≡ c ∷ [] → Asked Awaiting replies on_end s p e c
  alone p e c n h = row-alone Awaiting replies on_end s p e c (λ k. false≢true (sym n ∙ ap is_end k)) h

  -- 20, with its `B`
  number_walk : (answer : Result (Item × Cursor) Break → Option Break) → ((b : Break) → answer (Err b) ≡ Some b) → ((i : Item) (c : Cursor) → Walk (answer (Ok (i, c))) c.at on12) → Walk (answer (response_number_at s)) 0 on20
  unfolding response_number_at
  number_walk answer ok on = go (lit_at s 0 (bytes ":20:")) refl
    where
      read : (a : ℕ) → lit_at s 0 (bytes ":20:") ≡ Some a → (x : Result (Item × Cursor) Break) → field_at s a (bytes "B") (Numeral 7) ≡ x → Walk (answer (on_good x (λ b. Err (wrong_at 0)) (λ i c. Ok (item a i.part.end i.number, c)))) 0 on20
      read a l (Ok (i, c)) q =
          let g = line_read s a (bytes "B") (Numeral 7) 0 (omega arith) q in
          let w = line_complete s a (bytes "B") (Numeral 7) 0 (omega arith) refl g.line in
          let z : c ≡ place (a + 1 + length g.line.value + 2) = (ok_pair (sym q ∙ w.is)).1 in
          step {p = 0} {e = on20} (choice f_b20 (λ v. on12)) (rw (lit_yes s 0 (bytes ":20:") l)) (record { value = bytes "B" ++ g.line.value; text = lit_sound s 0 (bytes ":20:") l ∙ ap (λ (m : List ℕ). bytes ":20:" ++ m) g.line.text; is = record { digits = g.line.value; is = refl; seven = g.line.is } }) refl (ap (λ (x : Cursor). x.at) z ∙ omega (arith, lit_next s 0 (bytes ":20:") l)) (on (item a i.part.end i.number) c)
      read a l (Err b) q = stop {e = on20} (wrong_at 0) (ok (wrong_at 0)) (wrong (choice f_b20 (λ v. on12)) refl (rw (lit_yes s 0 (bytes ":20:") l)) (λ r g.
          let h = ap (λ (k : ℕ). drop k s) (lit_next s 0 (bytes ":20:") l) ∙ past s 0 (bytes ":20:") ((g.value ++ crlf) ++ r) g.text ∙ ap (λ (v : List ℕ). (v ++ crlf) ++ r) g.is.is in
          read_and_not (line_complete s a (bytes "B") (Numeral 7) 0 (omega arith) refl (record { value = g.is.digits; text = h; is = g.is.seven })).is q))

      go : (r : Option ℕ) → lit_at s 0 (bytes ":20:") ≡ r → Walk (answer (on_next r (Err (absent 0)) (λ a. on_good (field_at s a (bytes "B") (Numeral 7)) (λ b. Err (wrong_at 0)) (λ i c. Ok (item a i.part.end i.number, c))))) 0 on20
      go (Some a) l = read a l (field_at s a (bytes "B") (Numeral 7)) refl
      go None l = stop {e = on20} (absent 0) (ok (absent 0)) (missing refl (rw (lit_not s 0 (bytes ":20:") l)) (λ h n. false≢true (ap is_end h)))

  -- 77E and 21
  reference_walk : (settles : Bool) (k : Item → Cursor → ReadResponse) → ((i : Item) (c : Cursor) → Walk (broken_in (k i c)) c.at (cond settles on22a (on451 settles))) → (p : ℕ) → Walk (broken_in (on_good (request_reference_at s p) refused k)) p (on77e settles)
  unfolding request_reference_at
  reference_walk settles k on p =
      on_line (λ (x : Result (Item × Cursor) Break). broken_in (on_good x refused k)) Err (λ b. refl) (λ i c. field_at s c.at (bytes ":21:") Reference) (choice f77e (λ v. on21 settles)) Empty (fits77e s) (alone p (on77e settles) (choice f77e (λ v. on21 settles)) refl refl) (λ v. refl) (λ i c q g.
      on_line broken_in refused (λ b. refl) k (choice f21 (λ v. cond settles on22a (on451 settles))) Reference (fits21 s) (alone c.at (on21 settles) (choice f21 (λ v. cond settles on22a (on451 settles))) refl refl) (λ v. refl) (λ j d r h.
      on j d))

  -- 22A and 119
  batch_walk : (answer : Result (Batch × Cursor) Break → Option Break) → ((b : Break) → answer (Err b) ≡ Some b) → ((b : Batch) (c : Cursor) → Walk (answer (Ok (b, c))) c.at (on451 true)) → (p : ℕ) → Walk (answer (batch_at s p)) p on22a
  unfolding batch_at
  batch_walk answer ok on p =
      on_line answer Err ok _ (choice f22a (λ v. on119 v)) (Word 4) (fits22a s) (alone p on22a (choice f22a (λ v. on119 v)) refl refl) (λ v. refl) (λ stream c q g.
      let w = g.line.value in
      let z : stream.part.end ≡ stream.part.start + 4 = rw g.span (omega (arith, g.line.is.size)) in
      on_line answer Err ok _ (choice (f119 w) (λ v. on451 true)) (Bin stream.part) (fits119 s w stream.part g.text stream.part.end (omega arith, omega (arith, z))) (alone c.at (on119 w) (choice (f119 w) (λ v. on451 true)) refl refl) (λ v. refl) (λ bin d r h.
      on (record { stream = stream; bin = bin }) d))

  -- "451 (0 or 1)"
  abbrev status : Bool → Choice Awaiting
  status settles = choice f451 (λ v. cond (begins (bytes "0") v) (cond settles on13e on_end) on432)

  status_walk : {A : Type 0} (answer : A → Option Break) (bad : Break → A) → ((b : Break) → answer (bad b) ≡ Some b) → (settles : Bool) (p : ℕ) (zero one : Item → Cursor → A) → ((i : Item) (c : Cursor) → Walk (answer (zero i c)) c.at (cond settles on13e on_end)) → ((i : Item) (c : Cursor) → Walk (answer (one i c)) c.at on432)
      → Walk (answer (on_good (field_at s p (bytes ":451:") (Numeral 1)) bad (λ i c. by_status i.number (zero i c) (one i c) (bad (wrong_at p))))) p (on451 settles)
  unfolding begins
  status_walk answer bad ok settles p zero one on₀ on₁ =
      on_field answer bad ok _ (status settles) (Numeral 1) (covers451 s) (alone p (on451 settles) (status settles) refl refl) (λ i c q g st on.
      go i c g st on (eqb i.number 0) (eqb i.number 1) refl refl)
    where
      digit : (i : Item) (c : Cursor) (g : LineRead s p (bytes ":451:") (Numeral 1) i c) (n : ℕ) → eqb i.number n ≡ true → g.line.value ≡ digits_of 1 n
      digit i c g n e = sym (digits_back g.line.value g.line.is.all) ∙ ap (λ (k : ℕ). digits_of k (value_of 0 g.line.value)) g.line.is.size ∙ ap (digits_of 1) (sym g.means ∙ eqb-true i.number n e)

      go : (i : Item) (c : Cursor) (g : LineRead s p (bytes ":451:") (Numeral 1) i c) → standing (replies (on451 settles)) (drop p s) ≡ Some (status settles) → ((o : Option Break) → IsOutcome g.line.value → true ≡ true → Walk o c.at (cond (begins (bytes "0") g.line.value) (cond settles on13e on_end) on432) → Walk o p (on451 settles)) → (x y : Bool) → eqb i.number 0 ≡ x → eqb i.number 1 ≡ y → Walk (answer (cond x (zero i c) (cond y (one i c) (bad (wrong_at p))))) p (on451 settles)
      go i c g st on true y e f =
          let v = digit i c g 0 e ∙ sym zero_status in
          on (answer (zero i c)) (inl v) refl (rw v (on₀ i c))
      go i c g st on false true e f =
          let v = digit i c g 1 f ∙ sym one_status in
          on (answer (one i c)) (inr v) refl (rw v (on₁ i c))
      go i c g st on false false e f = stop {e = on451 settles} (wrong_at p) (ok (wrong_at p)) (wrong (status settles) refl st (λ r k. neither k k.is))
        where
          same : {r : List ℕ} (k : Line (bytes ":451:") IsOutcome (drop p s) r) {w : List ℕ} → k.value ≡ w → length w ≡ 1 → i.number ≡ value_of 0 w
          same k h n = g.means ∙ ap (value_of 0) (same_long (bytes ":451:") g.line k (g.line.is.size ∙ sym (ap length h ∙ n)) ∙ h)

          neither : {r : List ℕ} (k : Line (bytes ":451:") IsOutcome (drop p s) r) → IsOutcome k.value → ⊥
          neither k (inl h) = eqb-false i.number 0 e (same k h refl ∙ zero_is)
          neither k (inr h) = eqb-false i.number 1 f (same k h refl ∙ one_is)

  -- "13E (date, HHMMSS)", "a true time"
  settled_walk : (answer : Result (Outcome × Part × Part × Cursor) Break → Option Break) → ((b : Break) → answer (Err b) ≡ Some b) → (part : Part) (p : ℕ) → ((day second : ℕ) (q : Part) (c : Cursor) → Walk (answer (Ok (Settled day second, part, q, c))) c.at on_end) → Walk (answer (settled_at s p part)) p on13e
  unfolding settled_at
  settled_walk answer ok part p end =
      on_field answer Err ok _ (choice f13e (λ v. on_end)) (Numeral 12) (covers13e s) (alone p on13e (choice f13e (λ v. on_end)) refl refl) (λ i c q g st on.
      dated i c g st on (day_of (i.number / 1000000)) refl (second_of (i.number % 1000000)) refl)
    where
      -- what is no moment, of a line that was read, is none of any line there
      untrue : (i : Item) (c : Cursor) (g : LineRead s p (bytes ":13E:") (Numeral 12) i c) → standing (replies on13e) (drop p s) ≡ Some (choice f13e (λ v. on_end)) → ((k : ℕ) (m : ℕ) → day_of (i.number / 1000000) ≡ Some k → second_of (i.number % 1000000) ≡ Some m → ⊥) → Walk (answer (Err (wrong_at p))) p on13e
      untrue i c g st never = stop {e = on13e} (wrong_at p) (ok (wrong_at p)) (wrong (choice f13e (λ v. on_end)) refl st (λ r k.
          let z : i.number ≡ value_of 0 k.value = g.means ∙ ap (value_of 0) (same_long (bytes ":13E:") g.line k (g.line.is.size ∙ sym k.is.twelve.size)) in
          never k.is.day k.is.second (ap (λ (n : ℕ). day_of (n / 1000000)) z ∙ k.is.true_date) (ap (λ (n : ℕ). second_of (n % 1000000)) z ∙ k.is.true_time)))

      dated : (i : Item) (c : Cursor) (g : LineRead s p (bytes ":13E:") (Numeral 12) i c) → standing (replies on13e) (drop p s) ≡ Some (choice f13e (λ v. on_end)) → ((o : Option Break) → IsMoment g.line.value → true ≡ true → Walk o c.at on_end → Walk o p on13e) → (x : Option ℕ) → day_of (i.number / 1000000) ≡ x → (y : Option ℕ) → second_of (i.number % 1000000) ≡ y → Walk (answer (on_day x (Err (wrong_at p)) (λ day. on_second y (Err (wrong_at p)) (λ second. Ok (Settled day second, part, i.part, c))))) p on13e
      dated i c g st on (Some k) e (Some m) f =
          on (answer (Ok (Settled k m, part, i.part, c))) (record { twelve = g.line.is; day = k; second = m; true_date = ap (λ (n : ℕ). day_of (n / 1000000)) (sym g.means) ∙ e; true_time = ap (λ (n : ℕ). second_of (n % 1000000)) (sym g.means) ∙ f }) refl (end k m i.part c)
      dated i c g st on (Some k) e None f = untrue i c g st (λ d m a b. let z : ◌≡◌ {A = ℕ} 0 1 = cc in omega arith)
      dated i c g st on None e y f = untrue i c g st (λ d m a b. let z : ◌≡◌ {A = ℕ} 0 1 = cc in omega arith)

  -- "432 (two digits)"
  two_walk : {A : Type 0} (answer : A → Option Break) (bad : Break → A) → ((b : Break) → answer (bad b) ≡ Some b) → (good : Item → Cursor → A) (p : ℕ) → ((i : Item) (c : Cursor) → Walk (answer (good i c)) c.at on_end) → Walk (answer (on_good (field_at s p (bytes ":432:") (Numeral 2)) bad good)) p on432
  two_walk answer bad ok good p end = on_line answer bad ok good (choice f432 (λ v. on_end)) (Numeral 2) (fits432 s) (alone p on432 (choice f432 (λ v. on_end)) refl refl) (λ v. refl) (λ i c q g. end i c)

  closing_walk : (p : ℕ) (r : ReadResponse) → broken_in r ≡ None → Walk (broken_in (ending s p r)) p on_end
  closing_walk p r h = end_walk broken_in (refused (absent p)) r p refl h

  settlement_walk : (h : Head) (p : ℕ) → Walk (broken_in (settlement_at s p h)) p (on77e true)
  unfolding settlement_at ended_at rejected_at settlement_of
  settlement_walk h p =
      reference_walk true _ (λ reference c.
      batch_walk (λ (x : Result (Batch × Cursor) Break). broken_in (on_of x refused (λ b d. on_how (ended_at s d.at) refused (λ o status detail e. ending s e.at (settlement_of s h reference b o status detail))))) (λ b. refl) (λ b d.
      let answer : Result (Outcome × Part × Part × Cursor) Break → Option Break = λ x. broken_in (on_how x refused (λ o status detail e. ending s e.at (settlement_of s h reference b o status detail))) in
      status_walk answer Err (λ x. refl) true d.at (λ i e. settled_at s e.at i.part) (λ i e. rejected_at s e.at i.part)
      (λ i e. settled_walk answer (λ x. refl) i.part e.at (λ day second q f. closing_walk f.at (settlement_of s h reference b (Settled day second) i.part q) refl))
      (λ i e. two_walk answer Err (λ x. refl) (λ j f. Ok (Rejected j.number, i.part, j.part, f)) e.at (λ j f. closing_walk f.at (settlement_of s h reference b (Rejected j.number) i.part j.part) refl))) c.at) p

  recall_walk : (h : Head) (p : ℕ) → Walk (broken_in (recall_at s p h)) p (on77e false)
  unfolding recall_at answer_at recall_of
  recall_walk h p =
      reference_walk false _ (λ reference c.
      let answer : Result (Answer × Part × Part × Cursor) Break → Option Break = λ x. broken_in (on_with x refused (λ a status detail d. ending s d.at (recall_of s h reference a status detail))) in
      status_walk answer Err (λ x. refl) false c.at (λ i d. Ok (Recalled, i.part, no_part, d)) (λ i d. on_good (field_at s d.at (bytes ":432:") (Numeral 2)) Err (λ n e. Ok (Kept n.number, i.part, n.part, e)))
      (λ i d. closing_walk d.at (recall_of s h reference Recalled i.part no_part) refl)
      (λ i d. two_walk answer Err (λ x. refl) (λ n e. Ok (Kept n.number, i.part, n.part, e)) d.at (λ n e. closing_walk e.at (recall_of s h reference (Kept n.number) i.part n.part) refl))) p

  abbrev sub_type : Choice Awaiting
  sub_type = choice (f12 (132 ∷ 134 ∷ [])) (λ v. on77e (eqb (value_of 0 v) 132))

  -- "88 for another sub type"
  sub_type_walk : (p : ℕ) (number t : Item) (d : Cursor) (g : LineRead s p (bytes ":12:") (Numeral 3) t d) → standing (replies on12) (drop p s) ≡ Some sub_type → ((o : Option Break) → IsNumeral 3 g.line.value → member (value_of 0 g.line.value) (132 ∷ 134 ∷ []) ≡ true → Walk o d.at (on77e (eqb (value_of 0 g.line.value) 132)) → Walk o p on12) → Walk (broken_in (cond (eqb t.number 132) (settlement_at s d.at (head number t)) (cond (eqb t.number 134) (recall_at s d.at (head number t)) (refused (broken p OtherSubType))))) p on12
  sub_type_walk p number t d g st on = go (eqb t.number 132) (eqb t.number 134) refl refl
    where
      -- a known sub type, by its number
      known_as : (o : Option Break) (n : ℕ) → t.number ≡ n → member n (132 ∷ 134 ∷ []) ≡ true → Walk o d.at (on77e (eqb n 132)) → Walk o p on12
      known_as o n e m w =
          let z : n ≡ value_of 0 g.line.value = sym e ∙ g.means in
          on o g.line.is (ap (λ (k : ℕ). member k (132 ∷ 134 ∷ [])) (sym z) ∙ m) (subst (λ (k : ℕ). Walk o d.at (on77e (eqb k 132))) z w)

      go : (x y : Bool) → eqb t.number 132 ≡ x → eqb t.number 134 ≡ y → Walk (broken_in (cond x (settlement_at s d.at (head number t)) (cond y (recall_at s d.at (head number t)) (refused (broken p OtherSubType))))) p on12
      go true y e f = known_as (broken_in (settlement_at s d.at (head number t))) 132 (eqb-true t.number 132 e) refl (settlement_walk (head number t) d.at)
      go false true e f = known_as (broken_in (recall_at s d.at (head number t))) 134 (eqb-true t.number 134 f) refl (recall_walk (head number t) d.at)
      go false false e f = stop {e = on12} (broken p OtherSubType) refl (other sub_type refl st g.line (ap (λ (k : ℕ). member k (132 ∷ 134 ∷ [])) (sym g.means) ∙ rw (e, f)))

  response_walk : Walk (broken_in (response_at s)) 0 on20
  unfolding response_at
  response_walk =
      number_walk (λ (x : Result (Item × Cursor) Break). broken_in (on_good x refused (λ number c. on_good (field_at s c.at (bytes ":12:") (Numeral 3)) refused (λ t d. cond (eqb t.number 132) (settlement_at s d.at (head number t)) (cond (eqb t.number 134) (recall_at s d.at (head number t)) (refused (broken c.at OtherSubType))))))) (λ b. refl) (λ number c.
      on_field broken_in refused (λ b. refl) _ sub_type (Numeral 3) (fits12 s (132 ∷ 134 ∷ [])).covers (alone c.at on12 sub_type refl refl) (λ t d q g st on.
      sub_type_walk c.at number t d g st on))

refused_by : (r : Reply) (b : Break) → broken_by r ≡ Some b → r ≡ Refused b
refused_by (Refused d) b h = cc
refused_by (Settlement r) b h = let z : ◌≡◌ {A = ℕ} 0 1 = cc in absurd (omega arith)
refused_by (Recall r) b h = let z : ◌≡◌ {A = ℕ} 0 1 = cc in absurd (omega arith)

-- refused with a number at a place exactly where the lines before it are the beginning of a response and what stands there breaks it in the way that the
-- number names
pub first_break : (s : List ℕ) (b : Break) → (response_at s).reply ≡ Refused b → ResponseBreaks s b
first_break s b h = breaks_first Awaiting replies on20 on_end refl s (response_walk s) beginning b (ap broken_by h)

pub breaks_there : (s : List ℕ) (b : Break) → ResponseBreaks s b → (response_at s).reply ≡ Refused b
breaks_there s b f = refused_by (response_at s).reply b (one_break Awaiting replies on20 on_end refl s (response_walk s) b f)
