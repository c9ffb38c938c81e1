-- The answer to a text: it is the only one, and it depends neither on the bytes after the line of the first break nor on any past the first 4,096.
use Rattle.chars.specs.declared.Refusal.{Refusal}
use Rattle.std.specs.Prelude.{Option, Some, None, Result, Ok, Err}
use Prim.Native.Nat.{ℕ, ◌+◌, ◌/◌, ◌%◌, ◌≤◌, ◌<◌}
use mathlib.Core.Path.{◌≡◌, refl, ap, sym, subst, ◌∙◌}
use mathlib.Core.List.{List}
use mathlib.Core.Bool.{Bool, true, false, cond}
use mathlib.Core.Logic.{inl, inr}
use native.Mathlib.Omega.{arith}
use borrow.Author.Tests.{ltb-true, ltb-false, leb-true, leb-false}
use lib.Dec.{eqb, ltb, leb}
use lib.ListN.{length, take}
use lib.Seq.{take-take}
use Rattle.chars.specs.Words.{bytes, crlf}
use Rattle.chars.specs.declared.Refusal.TheVariants.{OtherSubType}
use Rattle.clock.specs.Clock.{second_of}
use Rattle.dates.specs.Dates.{day_of}
use Rattle.text_scan.specs.Scan.{on_next, lit_at}
use Rattle.text_scan.specs.declared.Cursor.{Cursor}
use Rattle.text_scan.proofs.Standing.{lit_next}
use Rattle.text_scan.proofs.Alike.{Alike, lit_alike, more_alike, by_next, same_next}
use Rattle.text_values.specs.Values.{on_day, numeral_at}
use Rattle.text_values.specs.declared.Part.{Part}
use Rattle.text_values.proofs.Alike.{EndsIn, code_of_alike, numeral_alike, numeral_ends, word_ends}
use Rattle.text_fields.specs.Fields.{absent, broken, wrong, item, place, on_read, on_good, field_at}
use Rattle.text_fields.specs.declared.Break.{Break}
use Rattle.text_fields.specs.declared.Item.{Item}
use Rattle.text_fields.specs.declared.Kind.{Kind}
use Rattle.text_fields.specs.declared.Kind.TheVariants.{Empty, Reference, Numeral, Word, Bin}
use Rattle.text_fields.proofs.Alike.{Or, In, Fine, PartIn, field_in, field_near, part_in}
use Rattle.response_write.specs.declared.Outcome.{Outcome}
use Rattle.response_write.specs.declared.Answer.{Answer}
use Rattle.response_read.specs.Reply.{refused, response_number_at, request_reference_at, batch_at, on_second, settled_at, rejected_at, ended_at, answer_at, on_of, on_how, on_with, ending, settlement_of, recall_of, settlement_at, recall_at, head, response_at}
use Rattle.response_read.specs.declared.Head.{Head}
use Rattle.response_read.specs.declared.Batch.{Batch}
use Rattle.response_read.specs.declared.Reply.{Reply}
use Rattle.response_read.specs.declared.Reply.TheVariants.{Settlement, Recall, Refused}
use Rattle.response_read.specs.declared.ReadResponse.{ReadResponse}

-- where the reading of a text stops: at its break; of a response, which has none, at 228, a place that no reading passes
abbrev reply_stop : Reply → ℕ
reply_stop (Settlement x) = 228
reply_stop (Recall x) = 228
reply_stop (Refused b) = b.at

abbrev stop : ReadResponse → ℕ
stop r = reply_stop r.reply

-- two readings from a place on: they stop there or later, and are the same unless they stop too near to the end of what is alike
record Reads (n at : ℕ) (r r' : ReadResponse) : Type 0 where
  from : at ≤ stop r
  within : stop r ≤ 228
  same : Or n r r' (stop r)

sooner : {n : ℕ} (at a : ℕ) {r r' : ReadResponse} → at ≤ a → Reads n a r r' → Reads n at r r'
sooner at a h i = record { from = omega (arith, i.from); within = i.within; same = i.same }

refused_reads : (n at : ℕ) (b : Break) → at ≤ b.at → b.at ≤ 228 → Reads n at (refused b) (refused b)
refused_reads n at b h w = record { from = h; within = w; same = inl refl }

-- a choice that is the same in both
by_both : {A : Type 0} (P : A → A → Type 0) (b : Bool) {x x' y y' : A} → P x x' → P y y' → P (cond b x y) (cond b x' y')
by_both P true p q = p
by_both P false p q = q

by_day : {A : Type 0} (P : A → Type 0) (x : Option ℕ) {d : A} {k : ℕ → A} → P d → ((n : ℕ) → P (k n)) → P (on_day x d k)
by_day P (Some n) p q = q n
by_day P None p q = p

by_second : {A : Type 0} (P : A → Type 0) (x : Option ℕ) {d : A} {k : ℕ → A} → P d → ((n : ℕ) → P (k n)) → P (on_second x d k)
by_second P (Some n) p q = q n
by_second P None p q = p

-- a line and what is made of it: `h` makes a refusal of a break
good_reads : {A : Type 0} (n at : ℕ) (x y : Result (Item × Cursor) Break) (h h' : A → ReadResponse) (d : Break → A) (k k' : Item → Cursor → A) → at ≤ 228 → Or n x y at → ((b : Break) → x ≡ Err b → b.at ≡ at) → ((b : Break) → h (d b) ≡ refused b) → ((b : Break) → h' (d b) ≡ refused b) → ((i : Item) (c : Cursor) → x ≡ Ok (i, c) → Reads n at (h (k i c)) (h' (k' i c))) → Reads n at (h (on_good x d k)) (h' (on_good y d k'))
good_reads n at (Ok (i, c)) y h h' d k k' w (inl q) u e e' g = rw (← q) (g i c refl)
good_reads n at (Ok (i, c)) y h h' d k k' w (inr q) u e e' g = let r = g i c refl in record { from = r.from; within = r.within; same = inr (omega (arith, q, r.from)) }
good_reads n at (Err b) y h h' d k k' w (inl q) u e e' g = rw (← q, e b, e' b) (refused_reads n at b (omega (arith, u b refl)) (omega (arith, u b refl)))
good_reads n at (Err b) y h h' d k k' w (inr q) u e e' g = rw (e b) (record { from = omega (arith, u b refl); within = omega (arith, u b refl); same = inr (omega (arith, q, u b refl)) })

-- 20: its tag, and a field `B` after it, which ends within 32 bytes
abbrev NumberIn : Result (Item × Cursor) Break → Type 0
NumberIn (Ok (i, c)) = c.at ≤ 32
NumberIn (Err b) = b.at ≡ 0

number_in : (s : List ℕ) → NumberIn (response_number_at s)
unfolding response_number_at
number_in s = by_next NumberIn (lit_at s 0 (bytes ":20:")) refl (λ a q. go a (lit_next s 0 (bytes ":20:") q) (field_at s a (bytes "B") (Numeral 7)) (field_in s a (bytes "B") (Numeral 7) (omega arith) (omega arith)))
  where
    go : (a : ℕ) → a ≡ 0 + length (bytes ":20:") → (x : Result (Item × Cursor) Break) → In a x → NumberIn (on_good x (λ b. Err (wrong 0)) (λ i c. Ok (item a i.part.end i.number, c)))
    go a e (Ok (i, c)) h = omega (arith, e, h.1)
    go a e (Err b) h = refl

-- the stream of a BIN stands before it
stream_fine : (s : List ℕ) (at : ℕ) (i : Item) (c : Cursor) → field_at s at (bytes ":22A:") (Word 4) ≡ Ok (i, c) → c.at ≡ i.part.end + 2 → Fine c.at (Bin i.part)
stream_fine s at i c q e =
    let w : i.part.end ≤ i.part.start + 4 = subst (PartIn 4) q (part_in s at (bytes ":22A:") (Word 4) 4 (λ a. word_ends s a 4)) in
    (omega (arith, e), omega (arith, w))

settlement_stop : (s : List ℕ) (h : Head) (i : Item) (b : Batch) (o : Outcome) (p q : Part) → stop (settlement_of s h i b o p q) ≡ 228
unfolding settlement_of
settlement_stop s h i b o p q = refl

recall_stop : (s : List ℕ) (h : Head) (i : Item) (x : Answer) (p q : Part) → stop (recall_of s h i x p q) ≡ 228
unfolding recall_of
recall_stop s h i x p q = refl

module _ {n : ℕ} {s t : List ℕ} (a : Alike n s t) where
  b_same : (at : ℕ) → at + 25 ≤ n → field_at s at (bytes "B") (Numeral 7) ≡ field_at t at (bytes "B") (Numeral 7)
  unfolding field_at
  b_same at w = rw (lit_alike a at (bytes "B") (omega arith)) (same_next (lit_at t at (bytes "B")) (Err (absent at)) _ _ (λ b q.
      let i = lit_next t at (bytes "B") q in
      rw (numeral_alike a b (omega (arith, i)) 7 (omega arith)) (go b i (numeral_at t b 7) (numeral_ends t b 7))))
    where
      go : (b : ℕ) → b ≡ at + 1 → (v : Result (ℕ × ℕ) Refusal) → EndsIn b 7 v → on_read {A = Result (Item × Cursor) Break} v (λ r. Err (broken at r)) (λ v e. on_next (lit_at s e crlf) (Err (wrong at)) (λ m. Ok (item b e v, place m))) ≡ on_read v (λ r. Err (broken at r)) (λ v e. on_next (lit_at t e crlf) (Err (wrong at)) (λ m. Ok (item b e v, place m)))
      go b i (Ok (v, e)) j = rw (lit_alike a e crlf (omega (arith, i, j.1)))
      go b i (Err r) j = refl

  number_same : 32 ≤ n → response_number_at s ≡ response_number_at t
  unfolding response_number_at
  number_same w = rw (lit_alike a 0 (bytes ":20:") (omega arith)) (same_next (lit_at t 0 (bytes ":20:")) (Err (absent 0)) _ _ (λ b q.
      rw (b_same b (omega (arith, lit_next t 0 (bytes ":20:") q)))))

  number_near : Or n (response_number_at s) (response_number_at t) 0
  number_near = go (leb 32 n) refl
    where
      go : (b : Bool) → leb 32 n ≡ b → Or n (response_number_at s) (response_number_at t) 0
      go true q = inl (number_same (leb-true 32 n q))
      go false q = inr (omega (arith, leb-false 32 n q))

  line_reads : {A : Type 0} (at : ℕ) (tag : List ℕ) (kind : Kind) (h h' : A → ReadResponse) (d : Break → A) (k k' : Item → Cursor → A) → length tag ≤ 5 → Fine at kind → at ≤ 228 → ((b : Break) → h (d b) ≡ refused b) → ((b : Break) → h' (d b) ≡ refused b) → ((i : Item) (c : Cursor) → field_at s at tag kind ≡ Ok (i, c) → In at (Ok (i, c)) → Reads n at (h (k i c)) (h' (k' i c))) → Reads n at (h (on_good (field_at s at tag kind) d k)) (h' (on_good (field_at t at tag kind) d k'))
  line_reads at tag kind h h' d k k' l f w e e' g = good_reads n at (field_at s at tag kind) (field_at t at tag kind) h h' d k k' w
      (field_near a at tag kind l f)
      (λ b q. subst (In at) q (field_in s at tag kind l f))
      e e'
      (λ i c q. g i c q (subst (In at) q (field_in s at tag kind l f)))

  -- the end of a text
  ending_reads : (at : ℕ) (r r' : ReadResponse) → at ≤ 228 → stop r ≡ 228 → (at < n → r ≡ r') → Reads n at (ending s at r) (ending t at r')
  ending_reads at r r' w e f = go (ltb at n) refl
    where
      near : at < n → (b : Bool) → Reads n at (cond b (refused (absent at)) r) (cond b (refused (absent at)) r')
      near h true = refused_reads n at (absent at) (omega arith) w
      near h false = record { from = omega (arith, e); within = omega (arith, e); same = inl (f h) }

      past : n ≤ at → (b : Bool) → Reads n at (cond b (refused (absent at)) r) (ending t at r')
      past h true = record { from = omega arith; within = w; same = inr (omega (arith, h)) }
      past h false = record { from = omega (arith, e); within = omega (arith, e); same = inr (omega (arith, e, h)) }

      go : (b : Bool) → ltb at n ≡ b → Reads n at (ending s at r) (ending t at r')
      go true q = rw (more_alike a at (ltb-true at n q)) (near (ltb-true at n q) (ltb at (length t)))
      go false q = past (ltb-false at n q) (ltb at (length s))

  settlement_same : (h : Head) (i : Item) (b : Batch) (o : Outcome) (p q : Part) → i.part.end ≤ n → b.bin.part.end ≤ n → settlement_of s h i b o p q ≡ settlement_of t h i b o p q
  unfolding settlement_of
  settlement_same h i b o p q u v = rw (code_of_alike a i.part u, code_of_alike a b.bin.part v)

  recall_same : (h : Head) (i : Item) (x : Answer) (p q : Part) → i.part.end ≤ n → recall_of s h i x p q ≡ recall_of t h i x p q
  unfolding recall_of
  recall_same h i x p q u = rw (code_of_alike a i.part u)

  -- 77E and 21
  reference_reads : (at : ℕ) (k k' : Item → Cursor → ReadResponse) → at ≤ 172 → ((i : Item) (c : Cursor) → at ≤ c.at → c.at ≤ at + 56 → i.part.end ≤ c.at → Reads n c.at (k i c) (k' i c)) → Reads n at (on_good (request_reference_at s at) refused k) (on_good (request_reference_at t at) refused k')
  unfolding request_reference_at
  reference_reads at k k' w g =
      line_reads at (bytes ":77E:") Empty (λ (x : Result (Item × Cursor) Break). on_good x refused k) (λ (x : Result (Item × Cursor) Break). on_good x refused k') Err _ _ (omega arith) tt (omega arith) (λ b. refl) (λ b. refl) (λ empty c q i.
      sooner at c.at i.0 (line_reads c.at (bytes ":21:") Reference (λ (r : ReadResponse). r) (λ (r : ReadResponse). r) refused k k' (omega arith) tt (omega (arith, i.1)) (λ b. refl) (λ b. refl) (λ reference d r j.
      sooner c.at d.at j.0 (g reference d (omega (arith, i.0, j.0)) (omega (arith, i.1, j.1)) (omega (arith, j.2))))))

  -- 22A and 119
  batch_reads : (at : ℕ) (k k' : Batch → Cursor → ReadResponse) → at ≤ 172 → ((b : Batch) (c : Cursor) → at ≤ c.at → c.at ≤ at + 56 → b.bin.part.end ≤ c.at → Reads n c.at (k b c) (k' b c)) → Reads n at (on_of (batch_at s at) refused k) (on_of (batch_at t at) refused k')
  unfolding batch_at
  batch_reads at k k' w g =
      line_reads at (bytes ":22A:") (Word 4) (λ (x : Result (Batch × Cursor) Break). on_of x refused k) (λ (x : Result (Batch × Cursor) Break). on_of x refused k') Err _ _ (omega arith) (omega arith) (omega arith) (λ b. refl) (λ b. refl) (λ stream c q i.
      sooner at c.at i.0 (line_reads c.at (bytes ":119:") (Bin stream.part) (λ (x : Result (Batch × Cursor) Break). on_of x refused k) (λ (x : Result (Batch × Cursor) Break). on_of x refused k') Err _ _ (omega arith) (stream_fine s at stream c q i.2) (omega (arith, i.1)) (λ b. refl) (λ b. refl) (λ bin d r j.
      sooner c.at d.at j.0 (g (record { stream = stream; bin = bin }) d (omega (arith, i.0, j.0)) (omega (arith, i.1, j.1)) (omega (arith, j.2))))))

  -- 451, and 13E or 432
  module _ (k k' : Outcome → Part → Part → Cursor → ReadResponse) where
    abbrev Ends : ℕ → Result (Outcome × Part × Part × Cursor) Break → Result (Outcome × Part × Part × Cursor) Break → Type 0
    Ends at x y = Reads n at (on_how x refused k) (on_how y refused k')

    -- what follows is read alike from wherever these lines end
    abbrev Onward : ℕ → ℕ → Type 0
    Onward at w = (o : Outcome) (p q : Part) (c : Cursor) → at ≤ c.at → c.at ≤ at + w → Reads n c.at (k o p q c) (k' o p q c)

    settled_reads : (at : ℕ) (status : Part) → at ≤ 200 → Onward at 28 → Ends at (settled_at s at status) (settled_at t at status)
    unfolding settled_at
    settled_reads at status w g =
        line_reads at (bytes ":13E:") (Numeral 12) (λ (x : Result (Outcome × Part × Part × Cursor) Break). on_how x refused k) (λ (x : Result (Outcome × Part × Part × Cursor) Break). on_how x refused k') Err _ _ (omega arith) (omega arith) (omega arith) (λ b. refl) (λ b. refl) (λ i c q j.
        by_day (λ (x : Result (Outcome × Part × Part × Cursor) Break). Ends at x x) (day_of (i.number / 1000000)) (refused_reads n at (wrong at) (omega arith) (omega arith)) (λ day.
        by_second (λ (x : Result (Outcome × Part × Part × Cursor) Break). Ends at x x) (second_of (i.number % 1000000)) (refused_reads n at (wrong at) (omega arith) (omega arith)) (λ second.
        sooner at c.at j.0 (g _ status i.part c j.0 j.1))))

    rejected_reads : (at : ℕ) (status : Part) → at ≤ 200 → Onward at 28 → Ends at (rejected_at s at status) (rejected_at t at status)
    unfolding rejected_at
    rejected_reads at status w g =
        line_reads at (bytes ":432:") (Numeral 2) (λ (x : Result (Outcome × Part × Part × Cursor) Break). on_how x refused k) (λ (x : Result (Outcome × Part × Part × Cursor) Break). on_how x refused k') Err _ _ (omega arith) (omega arith) (omega arith) (λ b. refl) (λ b. refl) (λ i c q j.
        sooner at c.at j.0 (g _ status i.part c j.0 j.1))

    ended_reads : (at : ℕ) → at ≤ 172 → Onward at 56 → Ends at (ended_at s at) (ended_at t at)
    unfolding ended_at
    ended_reads at w g =
        line_reads at (bytes ":451:") (Numeral 1) (λ (x : Result (Outcome × Part × Part × Cursor) Break). on_how x refused k) (λ (x : Result (Outcome × Part × Part × Cursor) Break). on_how x refused k') Err _ _ (omega arith) (omega arith) (omega arith) (λ b. refl) (λ b. refl) (λ i c q j.
        let g' : Onward c.at 28 = λ o p q d u v. g o p q d (omega (arith, j.0, u)) (omega (arith, j.1, v)) in
        by_both (Ends at) (eqb i.number 0) (sooner at c.at j.0 (settled_reads c.at i.part (omega (arith, j.1)) g'))
        (by_both (Ends at) (eqb i.number 1) (sooner at c.at j.0 (rejected_reads c.at i.part (omega (arith, j.1)) g'))
        (refused_reads n at (wrong at) (omega arith) (omega arith))))

  -- 451, and 432 after 1
  module _ (k k' : Answer → Part → Part → Cursor → ReadResponse) where
    abbrev Answers : ℕ → Result (Answer × Part × Part × Cursor) Break → Result (Answer × Part × Part × Cursor) Break → Type 0
    Answers at x y = Reads n at (on_with x refused k) (on_with y refused k')

    answer_reads : (at : ℕ) → at ≤ 172 → ((x : Answer) (p q : Part) (c : Cursor) → at ≤ c.at → c.at ≤ at + 56 → Reads n c.at (k x p q c) (k' x p q c)) → Answers at (answer_at s at) (answer_at t at)
    unfolding answer_at
    answer_reads at w g =
        line_reads at (bytes ":451:") (Numeral 1) (λ (x : Result (Answer × Part × Part × Cursor) Break). on_with x refused k) (λ (x : Result (Answer × Part × Part × Cursor) Break). on_with x refused k') Err _ _ (omega arith) (omega arith) (omega arith) (λ b. refl) (λ b. refl) (λ i c q j.
        by_both (Answers at) (eqb i.number 0) (sooner at c.at j.0 (g _ _ _ c j.0 (omega (arith, j.1))))
        (by_both (Answers at) (eqb i.number 1)
        (sooner at c.at j.0 (line_reads c.at (bytes ":432:") (Numeral 2) (λ (x : Result (Answer × Part × Part × Cursor) Break). on_with x refused k) (λ (x : Result (Answer × Part × Part × Cursor) Break). on_with x refused k') Err _ _ (omega arith) (omega arith) (omega (arith, j.1)) (λ b. refl) (λ b. refl) (λ m d r l.
        sooner c.at d.at l.0 (g _ _ _ d (omega (arith, j.0, l.0)) (omega (arith, j.1, l.1))))))
        (refused_reads n at (wrong at) (omega arith) (omega arith))))

  settlement_reads : (at : ℕ) (h : Head) → at ≤ 60 → Reads n at (settlement_at s at h) (settlement_at t at h)
  unfolding settlement_at
  settlement_reads at h w =
      reference_reads at _ _ (omega arith) (λ reference c u v r.
      batch_reads c.at _ _ (omega (arith, v)) (λ b d u' v' r'.
      ended_reads _ _ d.at (omega (arith, v, v')) (λ o p q e u'' v''.
      ending_reads e.at (settlement_of s h reference b o p q) (settlement_of t h reference b o p q) (omega (arith, v, v', v'')) (settlement_stop s h reference b o p q)
      (λ l. settlement_same h reference b o p q (omega (arith, r, u', u'', l)) (omega (arith, r', u'', l))))))

  recall_reads : (at : ℕ) (h : Head) → at ≤ 60 → Reads n at (recall_at s at h) (recall_at t at h)
  unfolding recall_at
  recall_reads at h w =
      reference_reads at _ _ (omega arith) (λ reference c u v r.
      answer_reads _ _ c.at (omega (arith, v)) (λ x p q d u' v'.
      ending_reads d.at (recall_of s h reference x p q) (recall_of t h reference x p q) (omega (arith, v, v')) (recall_stop s h reference x p q)
      (λ l. recall_same h reference x p q (omega (arith, r, u', l)))))

  response_reads : Reads n 0 (response_at s) (response_at t)
  unfolding response_at
  response_reads =
      good_reads n 0 (response_number_at s) (response_number_at t) (λ (r : ReadResponse). r) (λ (r : ReadResponse). r) refused _ _ (omega arith) number_near
      (λ b q. subst NumberIn q (number_in s)) (λ b. refl) (λ b. refl) (λ number c q.
      let w : c.at ≤ 32 = subst NumberIn q (number_in s) in
      sooner 0 c.at (omega arith) (line_reads c.at (bytes ":12:") (Numeral 3) (λ (r : ReadResponse). r) (λ (r : ReadResponse). r) refused _ _ (omega arith) (omega arith) (omega (arith, w)) (λ b. refl) (λ b. refl) (λ u d r i.
      by_both (Reads n c.at) (eqb u.number 132) (sooner c.at d.at i.0 (settlement_reads d.at (head number u) (omega (arith, w, i.1))))
      (by_both (Reads n c.at) (eqb u.number 134) (sooner c.at d.at i.0 (recall_reads d.at (head number u) (omega (arith, w, i.1))))
      (refused_reads n c.at (broken c.at OtherSubType) (omega arith) (omega (arith, w)))))))

response_alike : {n : ℕ} {s t : List ℕ} → Alike n s t → stop (response_at s) + 32 ≤ n → response_at s ≡ response_at t
response_alike {n} {s} {t} a h = go (response_reads a).same
  where
    go : Or n (response_at s) (response_at t) (stop (response_at s)) → response_at s ≡ response_at t
    go (inl q) = q
    go (inr q) = absurd (omega (arith, q, h))

-- two outcomes that satisfy the contract of `read_response` are equal
pub only_answer : (s : List ℕ) (r r' : ReadResponse) → r ≡ response_at s → r' ≡ response_at s → r ≡ r'
only_answer s r r' p q = p ∙ sym q

-- a text that is refused is refused alike whatever follows the line of its first break: no line that is read is as long as 32 bytes
pub first_break : (s t : List ℕ) (b : Break) → (response_at s).reply ≡ Refused b → take (b.at + 32) s ≡ take (b.at + 32) t → response_at s ≡ response_at t
first_break s t b h e =
    let a : Alike (b.at + 32) s t = record { first = e } in
    let stops : stop (response_at s) ≡ b.at = ap reply_stop h in
    response_alike a (omega (arith, stops))

-- nothing past the first 4,096 bytes is looked at
pub first_4096 : (s t : List ℕ) → take 4096 s ≡ take 4096 t → response_at s ≡ response_at t
first_4096 s t e =
    let a : Alike 4096 s t = record { first = e } in
    response_alike a (omega (arith, (response_reads a).within))

pub within_reach : (s : List ℕ) → response_at (take 4096 s) ≡ response_at s
within_reach s = first_4096 (take 4096 s) s (take-take 4096 4096 s (omega arith))
