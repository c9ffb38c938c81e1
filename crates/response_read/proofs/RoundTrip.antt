-- A response that is written reads back as the same response.
use Rattle.std.specs.Prelude.{Ok}
use Prim.Native.Nat.{ℕ, ◌+◌, ◌*◌, ◌-◌, ◌/◌, ◌%◌, ◌≤◌, ◌<◌}
use mathlib.Core.Path.{◌≡◌, refl, ap, sym, ◌∙◌}
use mathlib.Core.Bool.{true}
use mathlib.Core.List.{List, [], ◌++◌, append_assoc, append-nil}
use native.Mathlib.Omega.{arith}
use borrow.Author.Tests.{ltb-true}
use lib.Dec.{ltb}
use lib.ListN.{length, take, drop, length-append, length-drop}
use Rattle.chars.specs.Words.{bytes, line}
use Rattle.chars.specs.Chars.{is_digit}
use Rattle.clock.specs.Clock.{hhmmss_of, second_of}
use Rattle.clock.proofs.Laws.{digits_in, digits_back}
use Rattle.codes.specs.Codes.{long_of, short_text, long_text}
use Rattle.codes.specs.declared.Code.{Code}
use Rattle.dates.specs.Dates.{date_of, day_of}
use Rattle.dates.proofs.Laws.{date_back, date_small}
use Rattle.text_names.proofs.rules.Laws.{and_true}
use Rattle.text_put.specs.Digits.{digits_of}
use Rattle.text_put.proofs.Laws.{digits_length}
use Rattle.text_scan.specs.Spelling.{value_of}
use Rattle.text_scan.proofs.Standing.{past, lit_reads}
use Rattle.text_values.specs.Values.{no_part, text_of, code_of}
use Rattle.text_values.specs.declared.Part.{Part}
use Rattle.text_fields.specs.Fields.{place}
use Rattle.response_write.specs.Texts.{head_text, batch_text, settled_text, rejected_text, outcome_text, settlement_text, answer_text, recall_text}
use Rattle.response_write.specs.Values.{is_outcome, is_answer, is_settlement, is_recall, written_if, after_if}
use Rattle.response_write.proofs.ValueLaws.{written_held, written_whole}
use Rattle.response_write.proofs.Laws.{recalled_end, kept_end, recall_length, settlement_most}
use Rattle.response_write.specs.declared.Outcome.{Outcome}
use Rattle.response_write.specs.declared.Outcome.TheVariants.{Settled, Rejected}
use Rattle.response_write.specs.declared.Answer.{Answer}
use Rattle.response_write.specs.declared.Answer.TheVariants.{Recalled, Kept}
use Rattle.response_write.specs.declared.Settlement.{Settlement as Response132}
use Rattle.response_write.specs.declared.Recall.{Recall as Response134}
use Rattle.response_read.specs.Reply.{response_number_at, request_reference_at, batch_at, ended_at, answer_at, settlement_of, recall_of, response_at}
use Rattle.response_read.specs.declared.Reply.TheVariants.{Settlement, Recall}
use Rattle.response_read.specs.declared.ReadResponse.{ReadResponse}
use Rattle.response_read.proofs.Laws.{number_is, reference_is, batch_is, settled_is, rejected_is, ended_settled, ended_rejected, answer_recalled, answer_kept, settlement_is, recall_is, response_settlement, response_recall}
use Rattle.response_read.proofs.Digits.{all_append, value_append, value_digits, value_back, digits_all}
use Rattle.response_read.specs.Sound.{Referred, Named, Sound, SoundRecall}
use Rattle.response_read.proofs.Allowed.{referred_text, stream_text, bin_text, settlement_sound, recall_sound}
use Rattle.response_read.proofs.Lines.{Found, digits_found, numeral_found, empty_found, word_found, bin_found, reference_found}

-- 20 is found, and the rest after it
record Numbered (s : List ℕ) (n : ℕ) (rest : List ℕ) : Type 0 where
  part : Part
  next : ℕ
  good : response_number_at s ≡ Ok (record { part = part; number = n }, place next)
  left : drop next s ≡ rest

-- 22A and 119
record Addressed (s : List ℕ) (at stream : ℕ) (bin : Code) (rest : List ℕ) : Type 0 where
  sp : Part
  bp : Part
  next : ℕ
  good : batch_at s at ≡ Ok (record { stream = record { part = sp; number = stream }; bin = record { part = bp; number = 0 } }, place next)
  code : code_of s bp ≡ bin
  left : drop next s ≡ rest

-- 451 and what follows it, to the end of the text
record Closed (s : List ℕ) (at : ℕ) (o : Outcome) : Type 0 where
  status : Part
  detail : Part
  next : ℕ
  good : ended_at s at ≡ Ok (o, status, detail, place next)
  left : drop next s ≡ []

record Replied (s : List ℕ) (at : ℕ) (a : Answer) : Type 0 where
  status : Part
  detail : Part
  next : ℕ
  good : answer_at s at ≡ Ok (a, status, detail, place next)
  left : drop next s ≡ []

-- where nothing is left the text is at its end
at_end : (s : List ℕ) (n : ℕ) → drop n s ≡ [] → length s ≤ n
at_end s n h = omega (arith, length-drop n s, ap length h)

pub zero_status : bytes "0" ≡ digits_of 1 0
unfolding digits_of
zero_status = refl

pub one_status : bytes "1" ≡ digits_of 1 1
unfolding digits_of
one_status = refl

time_small : (t : ℕ) → t < 86400 → hhmmss_of t < 1000000
time_small t h = rw (← digits_in t h) (omega arith)

-- date and time as one number of twelve digits
moment_value : (d t : ℕ) → d < 1000000 → t < 1000000 → value_of 0 (digits_of 6 d ++ digits_of 6 t) ≡ d * 1000000 + t
moment_value d t hd ht =
    value_append 0 (digits_of 6 d) (digits_of 6 t) ∙ value_digits 6 (value_of 0 (digits_of 6 d)) t ht ∙ ap (λ (n : ℕ). n * 1000000 + t) (value_back 6 d hd)

moment_day : (d t : ℕ) → t < 1000000 → (d * 1000000 + t) / 1000000 ≡ d
moment_day d t h = omega arith

moment_time : (d t : ℕ) → t < 1000000 → (d * 1000000 + t) % 1000000 ≡ t
moment_time d t h = omega arith

module _ (s : List ℕ) where
  code_there : (p : Part) {v : List ℕ} {c : Code} → text_of s p ≡ v → c ≡ long_of v → code_of s p ≡ c
  unfolding code_of
  code_there p e h = ap long_of e ∙ sym h

  numbered : (n : ℕ) (rest : List ℕ) → n < 10000000 → s ≡ line (bytes ":20:B") (digits_of 7 n) ++ rest → Numbered s n rest
  numbered n rest small h =
      let h₁ = past s 0 (bytes ":20:") (line (bytes "B") (digits_of 7 n) ++ rest) h in
      let f = numeral_found s 4 (bytes "B") rest 7 n (omega arith) small h₁ in
      record {
        part = record { start = 4; end = f.stop };
        next = f.next;
        good = sym (number_is s refl (lit_reads s 0 (bytes ":20:") (line (bytes "B") (digits_of 7 n) ++ rest) h) refl f.good);
        left = f.left;
      }

  module _ (at : ℕ) (rest : List ℕ) where
    referred : {c : Code} (r : Referred c) → drop at s ≡ line (bytes ":77E:") [] ++ (line (bytes ":21:") (long_text c) ++ rest) → Found s (request_reference_at s at) r.name 0 rest
    referred r h =
        let f = empty_found s at (bytes ":77E:") (line (bytes ":21:") (long_text _) ++ rest) h in
        let g = reference_found s f.next (bytes ":21:") r.name rest r.some r.few r.codes r.free (f.left ∙ ap (λ (l : List ℕ). line (bytes ":21:") l ++ rest) (referred_text r)) in
        record { start = g.start; stop = g.stop; next = g.next; good = sym (reference_is s at refl f.good refl) ∙ g.good; text = g.text; left = g.left }

    addressed : {stream : ℕ} {bin : Code} → Named stream bin → drop at s ≡ line (bytes ":22A:") (short_text stream) ++ (line (bytes ":119:") (long_text bin) ++ rest) → Addressed s at stream bin rest
    addressed {stream = stream} {bin = bin} n h =
        let f = word_found s at (bytes ":22A:") n.four (line (bytes ":119:") (long_text bin) ++ rest) n.size n.codes (h ∙ ap (λ (l : List ℕ). line (bytes ":22A:") l ++ (line (bytes ":119:") (long_text bin) ++ rest)) (stream_text n)) in
        let g = bin_found s f.next (bytes ":119:") n.four n.digits rest (record { start = f.start; end = f.stop }) n.more n.numerals f.text (f.left ∙ ap (λ (l : List ℕ). line (bytes ":119:") l ++ rest) (bin_text n)) in
        record {
          sp = record { start = f.start; end = f.stop };
          bp = record { start = g.start; end = g.stop };
          next = g.next;
          good = sym (batch_is s at refl f.good refl g.good) ∙ ap (λ (v : ℕ). Ok (record { stream = record { part = record { start = f.start; end = f.stop }; number = v }; bin = record { part = record { start = g.start; end = g.stop }; number = 0 } }, place g.next)) (sym n.short);
          code = code_there (record { start = g.start; end = g.stop }) g.text n.long;
          left = g.left;
        }

  closed : (at : ℕ) (o : Outcome) → is_outcome o ≡ true → drop at s ≡ outcome_text o → Closed s at o
  unfolding settled_text rejected_text is_outcome
  closed at (Settled day second) b h =
      let g = and_true (ltb day 36525) (ltb second 86400) b in
      let in-century = ltb-true day 36525 g.0 in
      let in-day = ltb-true second 86400 g.1 in
      let last = line (bytes ":13E:") (digits_of 6 (date_of day) ++ digits_of 6 (hhmmss_of second)) in
      let ds = date_small day in
      let ts = time_small second in-day in
      let f = numeral_found s at (bytes ":451:") last 1 0 (omega arith) (omega arith) (h ∙ ap (λ (l : List ℕ). line (bytes ":451:") l ++ last) zero_status) in
      let g = digits_found s f.next (bytes ":13E:") (digits_of 6 (date_of day) ++ digits_of 6 (hhmmss_of second)) [] 12 (omega arith)
      (length-append (digits_of 6 (date_of day)) (digits_of 6 (hhmmss_of second)) ∙ (omega (arith, digits_length 6 (date_of day), digits_length 6 (hhmmss_of second))))
      (all_append is_digit (digits_of 6 (date_of day)) (digits_of 6 (hhmmss_of second)) (digits_all 6 (date_of day)) (digits_all 6 (hhmmss_of second)))
      (f.left ∙ sym (append-nil last)) in
      let v = moment_value (date_of day) (hhmmss_of second) ds ts in
      let status : Part = record { start = f.start; end = f.stop } in
      record {
        status = status;
        detail = record { start = g.start; end = g.stop };
        next = g.next;
        good = sym (ended_settled s at refl f.good refl
            (settled_is s f.next status refl g.good
            refl (ap (λ (n : ℕ). day_of (n / 1000000)) v ∙ ap day_of (moment_day (date_of day) (hhmmss_of second) ts) ∙ date_back day in-century)
            refl (ap (λ (n : ℕ). second_of (n % 1000000)) v ∙ ap second_of (moment_time (date_of day) (hhmmss_of second) ts) ∙ digits_back second in-day)));
        left = g.left;
      }
  closed at (Rejected n) b h =
      let last = line (bytes ":432:") (digits_of 2 n) in
      let f = numeral_found s at (bytes ":451:") last 1 1 (omega arith) (omega arith) (h ∙ ap (λ (l : List ℕ). line (bytes ":451:") l ++ last) one_status) in
      let g = numeral_found s f.next (bytes ":432:") [] 2 n (omega arith) (ltb-true n 100 b) (f.left ∙ sym (append-nil last)) in
      let status : Part = record { start = f.start; end = f.stop } in
      record {
        status = status;
        detail = record { start = g.start; end = g.stop };
        next = g.next;
        good = sym (ended_rejected s at refl f.good refl (rejected_is s f.next status refl g.good));
        left = g.left;
      }

  replied : (at : ℕ) (a : Answer) → is_answer a ≡ true → drop at s ≡ answer_text a → Replied s at a
  unfolding rejected_text is_answer
  replied at Recalled b h =
      let f = numeral_found s at (bytes ":451:") [] 1 0 (omega arith) (omega arith) (h ∙ ap (line (bytes ":451:")) zero_status ∙ sym (append-nil (line (bytes ":451:") (digits_of 1 0)))) in
      record {
        status = record { start = f.start; end = f.stop };
        detail = no_part;
        next = f.next;
        good = sym (answer_recalled s at refl f.good refl refl);
        left = f.left;
      }
  replied at (Kept n) b h =
      let last = line (bytes ":432:") (digits_of 2 n) in
      let f = numeral_found s at (bytes ":451:") last 1 1 (omega arith) (omega arith) (h ∙ ap (λ (l : List ℕ). line (bytes ":451:") l ++ last) one_status) in
      let g = numeral_found s f.next (bytes ":432:") [] 2 n (omega arith) (ltb-true n 100 b) (f.left ∙ sym (append-nil last)) in
      record {
        status = record { start = f.start; end = f.stop };
        detail = record { start = g.start; end = g.stop };
        next = g.next;
        good = sym (answer_kept s at refl f.good refl refl g.good);
        left = g.left;
      }

-- the lines of a text one after another
pub settlement_lines : (a b c d e f x : List ℕ) → (a ++ (b ++ (c ++ d))) ++ ((e ++ f) ++ x) ≡ a ++ (b ++ (c ++ (d ++ (e ++ (f ++ x)))))
settlement_lines a b c d e f x = simp append_assoc

pub recall_lines : (a b c d x : List ℕ) → (a ++ (b ++ (c ++ d))) ++ x ≡ a ++ (b ++ (c ++ (d ++ x)))
recall_lines a b c d x = simp append_assoc

reads_132 : (s : List ℕ) (r : Response132) → Sound r → s ≡ settlement_text r → (response_at s).reply ≡ Settlement r
unfolding settlement_text head_text batch_text settlement_of
reads_132 s r k h =
    let h₀ = h ∙ settlement_lines (line (bytes ":20:B") (digits_of 7 r.number)) (line (bytes ":12:") (digits_of 3 132)) (line (bytes ":77E:") []) (line (bytes ":21:") (long_text r.reference)) (line (bytes ":22A:") (short_text r.stream)) (line (bytes ":119:") (long_text r.bin)) (outcome_text r.outcome) in
    let f = numbered s r.number _ k.number h₀ in
    let g = numeral_found s f.next (bytes ":12:") _ 3 132 (omega arith) (omega arith) f.left in
    let i = referred s g.next _ k.reference g.left in
    let b = addressed s i.next _ k.batch i.left in
    let o = closed s b.next r.outcome k.outcome b.left in
    ap (λ (x : ReadResponse). x.reply)
    (sym (response_settlement s refl f.good refl g.good refl (settlement_is s g.next _ refl i.good refl b.good refl o.good (at_end s o.next o.left) refl)))
    ∙ ap (λ (c : Code). Settlement (record { number = r.number; reference = c; stream = r.stream; bin = code_of s b.bp; outcome = r.outcome })) (code_there s _ i.text k.reference.code)
    ∙ ap (λ (c : Code). Settlement (record { number = r.number; reference = r.reference; stream = r.stream; bin = c; outcome = r.outcome })) b.code

reads_134 : (s : List ℕ) (r : Response134) → SoundRecall r → s ≡ recall_text r → (response_at s).reply ≡ Recall r
unfolding recall_text head_text recall_of
reads_134 s r k h =
    let h₀ = h ∙ recall_lines (line (bytes ":20:B") (digits_of 7 r.number)) (line (bytes ":12:") (digits_of 3 134)) (line (bytes ":77E:") []) (line (bytes ":21:") (long_text r.reference)) (answer_text r.answer) in
    let f = numbered s r.number _ k.number h₀ in
    let g = numeral_found s f.next (bytes ":12:") _ 3 134 (omega arith) (omega arith) f.left in
    let i = referred s g.next _ k.reference g.left in
    let o = replied s i.next r.answer k.answer i.left in
    ap (λ (x : ReadResponse). x.reply)
    (sym (response_recall s refl f.good refl g.good refl (recall_is s g.next _ refl i.good refl o.good (at_end s o.next o.left) refl)))
    ∙ ap (λ (c : Code). Recall (record { number = r.number; reference = c; answer = r.answer })) (code_there s _ i.text k.reference.code)

-- "Their reader wants fields as in a request": what a text can hold is read from it, a 132 and a 134
pub settlement_reads : (r : Response132) → is_settlement r ≡ true → (response_at (settlement_text r)).reply ≡ Settlement r
settlement_reads r h = reads_132 (settlement_text r) r (settlement_sound r h) refl

pub recall_reads : (r : Response134) → is_recall r ≡ true → (response_at (recall_text r)).reply ≡ Recall r
recall_reads r h = reads_134 (recall_text r) r (recall_sound r h) refl

-- each response that is written reads back, from the part of the buffer where it was written
module _ (out : List ℕ) (at : ℕ) {e : ℕ} where
  pub settlement_reads_back : (r : Response132) → written_if (is_settlement r) out at (settlement_text r) ≡ Ok e
      → (response_at (take (e - at) (drop at (after_if (is_settlement r) out at (settlement_text r))))).reply ≡ Settlement r
  settlement_reads_back r w =
      let h = written_held (is_settlement r) out at (settlement_text r) w in
      ap (λ (s : List ℕ). (response_at s).reply) (written_whole (is_settlement r) out at (settlement_text r) w) ∙ settlement_reads r h

  pub recall_reads_back : (r : Response134) → written_if (is_recall r) out at (recall_text r) ≡ Ok e
      → (response_at (take (e - at) (drop at (after_if (is_recall r) out at (recall_text r))))).reply ≡ Recall r
  recall_reads_back r w =
      let h = written_held (is_recall r) out at (recall_text r) w in
      ap (λ (s : List ℕ). (response_at s).reply) (written_whole (is_recall r) out at (recall_text r) w) ∙ recall_reads r h

-- "105 bytes" is the longest text of a 132, and 69 bytes of a 134
pub settlement_short : (r : Response132) → Sound r → length (settlement_text r) ≤ 105
settlement_short r k =
    let n = k.batch in
    settlement_most r (rw (referred_text k.reference) k.reference.few) (rw (bin_text n) (omega (arith, length-append n.four n.digits, n.size, n.more)))

answer_most : (a : Answer) → length (answer_text a) ≤ 17
answer_most Recalled = omega (arith, recalled_end Recalled refl)
answer_most (Kept number) = omega (arith, kept_end (Kept number) refl)

pub recall_short : (r : Response134) → SoundRecall r → length (recall_text r) ≤ 69
recall_short r k =
    let few : length (long_text r.reference) ≤ 16 = rw (referred_text k.reference) k.reference.few in
    omega (arith, recall_length r refl refl, answer_most r.answer)
