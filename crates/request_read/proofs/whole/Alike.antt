-- How far a request is read, and that two texts which begin alike are read alike.
use Rattle.std.specs.Prelude.{Result, Ok, Err}
use Prim.Native.Nat.{ℕ, ◌+◌, ◌≤◌}
use mathlib.Core.Path.{◌≡◌, refl, ap, sym, subst, ◌∙◌}
use mathlib.Core.List.{List, [], ◌∷◌}
use mathlib.Core.Bool.{Bool, true, false, cond}
use mathlib.Core.Logic.{inl, inr}
use native.Mathlib.Omega.{arith}
use borrow.Author.Tests.{ltb-true, ltb-false}
use lib.Dec.{eqb, ltb}
use lib.ListN.{length}
use Rattle.chars.specs.Words.{bytes, member}
use Rattle.chars.specs.declared.Refusal.TheVariants.{OtherSubType}
use Rattle.codes.specs.declared.Code.{Code}
use Rattle.text_scan.specs.declared.Cursor.{Cursor}
use Rattle.text_scan.proofs.Alike.{Alike, more_alike}
use Rattle.text_values.specs.declared.Part.{Part}
use Rattle.text_values.proofs.Alike.{code_of_alike, word_ends}
use Rattle.text_fields.specs.Fields.{absent, broken, on_good, field_at}
use Rattle.text_fields.specs.declared.Break.{Break}
use Rattle.text_fields.specs.declared.Item.{Item}
use Rattle.text_fields.specs.declared.Kind.{Kind}
use Rattle.text_fields.specs.declared.Kind.TheVariants.{Empty, Reference, Numeral, Word, Bin, Count}
use Rattle.text_fields.proofs.Alike.{Reaches, Or, In, Fine, PartIn, field_in, field_near, part_in}
use Rattle.request_read.specs.terms.Terms.{on_whole, terms_at}
use Rattle.request_read.specs.declared.terms.Terms.{Terms}
use Rattle.request_read.proofs.terms.Alike.{stated_stop, terms_in, terms_alike}
use Rattle.request_read.specs.payments.Payments.{payments_at}
use Rattle.request_read.specs.declared.payments.Payments.{Payments}
use Rattle.request_read.proofs.payments.Alike.{end_stop, list_stop, payments_in_lem, payments_alike}
use Rattle.request_read.specs.whole.Request.{named_at, address, nowhere, to_stream, head, bare, refusal, unread, settlement, address_at, on_to, on_done, ending, settlement_at, recall_at, message_at, request_at}
use Rattle.request_read.specs.declared.whole.Named.{Named}
use Rattle.request_read.specs.declared.whole.Reached.TheVariants.{Bin as Both}
use Rattle.request_read.specs.declared.whole.Address.{Address}
use Rattle.request_read.specs.declared.whole.Head.{Head}
use Rattle.request_read.specs.declared.whole.Outcome.{Outcome}
use Rattle.request_read.specs.declared.whole.Outcome.TheVariants.{Settlement, Recall, Refused}
use Rattle.request_read.specs.declared.whole.Reading.{Reading}

-- where the reading of a text stops: past its last field, or at the break
abbrev pub out_stop : Outcome → ℕ → ℕ → ℕ
out_stop Settlement a b = a
out_stop Recall a b = b
out_stop (Refused x) a b = x.at

abbrev pub reading_stop : Reading → ℕ
reading_stop r = out_stop r.outcome (r.count.part.end + 2) (r.head.address.bin.part.end + 2)

-- the end of a text, after what was read up to a place
ending_stop : (s : List ℕ) (at : ℕ) (h : Head) (r : Reading) → reading_stop r ≡ at → reading_stop (ending s at h r) ≡ at
ending_stop s at h r e = go (ltb at (length s))
  where
    go : (b : Bool) → reading_stop (cond b (refusal h.subtype (absent at) h.address) r) ≡ at
    go true = refl
    go false = e

ending_alike : {n : ℕ} {s t : List ℕ} → Alike n s t → (at : ℕ) (h : Head) (r : Reading) → Or n (ending s at h r) (ending t at h r) at
ending_alike {n} {s} {t} e at h r = go (ltb at n) refl
  where
    go : (b : Bool) → ltb at n ≡ b → Or n (ending s at h r) (ending t at h r) at
    go true q = inl (rw (more_alike e at (ltb-true at n q)))
    go false q = inr (omega (arith, ltb-false at n q))

-- 77E, 22A and 119
abbrev address_stop : Result (Address × Cursor) (Break × Address) → ℕ
address_stop (Ok (a, c)) = c.at
address_stop (Err (b, a)) = b.at

abbrev AddressIn : ℕ → ℕ → Result (Address × Cursor) (Break × Address) → Type 0
AddressIn at w (Ok (a, c)) = Reaches at w c.at × (c.at ≡ a.bin.part.end + 2)
AddressIn at w (Err (b, a)) = Reaches at w b.at

named_part : (s : List ℕ) (p : Part) → (named_at s p).part ≡ p
unfolding named_at
named_part s p = refl

module _ (s : List ℕ) (at : ℕ) (tag : List ℕ) (k : Kind) (h : length tag ≤ 5) (f : Fine at k) where
  good_at : (i : Item) (c : Cursor) → field_at s at tag k ≡ Ok (i, c) → In at (Ok (i, c))
  good_at i c q = subst (In at) q (field_in s at tag k h f)

  bad_at : (b : Break) → field_at s at tag k ≡ Err b → b.at ≡ at
  bad_at b q = subst (In at) q (field_in s at tag k h f)

by_good : {A : Type 0} (P : A → Type 0) (x : Result (Item × Cursor) Break) {d : Break → A} {k : Item → Cursor → A} → ((b : Break) → x ≡ Err b → P (d b)) → ((i : Item) (c : Cursor) → x ≡ Ok (i, c) → P (k i c)) → P (on_good x d k)
by_good P (Ok (i, c)) p q = q i c refl
by_good P (Err b) p q = p b refl

alike_good : {A : Type 0} (p : A → ℕ) (n at : ℕ) (x y : Result (Item × Cursor) Break) (d : Break → A) (k k' : Item → Cursor → A) → Or n x y at → at ≤ p (on_good x d k) → ((i : Item) (c : Cursor) → x ≡ Ok (i, c) → Or n (k i c) (k' i c) (p (k i c))) → Or n (on_good x d k) (on_good y d k') (p (on_good x d k))
alike_good p n at x y d k k' (inr q) h f = inr (omega (arith, q, h))
alike_good p n at (Err b) y d k k' (inl q) h f = inl (rw (← q))
alike_good p n at (Ok (i, c)) y d k k' (inl q) h f = rw (← q) (f i c refl)

stream_fine : (s : List ℕ) (at : ℕ) (i : Item) (c : Cursor) → field_at s at (bytes ":22A:") (Word 4) ≡ Ok (i, c) → Fine c.at (Bin i.part)
stream_fine s at i c q =
    let g = good_at s at (bytes ":22A:") (Word 4) (omega arith) (omega arith) i c q in
    let w : i.part.end ≤ i.part.start + 4 = subst (PartIn 4) q (part_in s at (bytes ":22A:") (Word 4) 4 (λ a. word_ends s a 4)) in
    (omega (arith, g.2), omega (arith, w))

abbrev third : List ℕ → Item → Cursor → Result (Address × Cursor) (Break × Address)
third s stream d = on_good (field_at s d.at (bytes ":119:") (Bin stream.part)) (λ b. Err (b, to_stream stream)) (λ bin e. Ok (address Both stream (named_at s bin.part), e))

abbrev second : List ℕ → Cursor → Result (Address × Cursor) (Break × Address)
second s c = on_good (field_at s c.at (bytes ":22A:") (Word 4)) (λ b. Err (b, nowhere)) (third s)

third_in : (s : List ℕ) (stream : Item) (d : Cursor) → Fine d.at (Bin stream.part) → AddressIn d.at 28 (third s stream d)
third_in s stream d f = by_good (AddressIn d.at 28) (field_at s d.at (bytes ":119:") (Bin stream.part))
    (λ b q. let g = bad_at s d.at (bytes ":119:") (Bin stream.part) (omega arith) f b q in (omega (arith, g), omega (arith, g)))
    (λ bin e q. let g = good_at s d.at (bytes ":119:") (Bin stream.part) (omega arith) f bin e q in ((g.0, g.1), g.2 ∙ ap (λ (p : Part). p.end + 2) (sym (named_part s bin.part))))

widen_in : (at w a m : ℕ) (x : Result (Address × Cursor) (Break × Address)) → at ≤ a → a + m ≤ at + w → AddressIn a m x → AddressIn at w x
widen_in at w a m (Ok (x, c)) h k i = ((omega (arith, i.0.0), omega (arith, i.0.1)), i.1)
widen_in at w a m (Err (b, x)) h k i = (omega (arith, i.0), omega (arith, i.1))

second_in_lem : (s : List ℕ) (c : Cursor) → AddressIn c.at 56 (second s c)
second_in_lem s c = by_good (AddressIn c.at 56) (field_at s c.at (bytes ":22A:") (Word 4))
    (λ b q. let g = bad_at s c.at (bytes ":22A:") (Word 4) (omega arith) (omega arith) b q in (omega (arith, g), omega (arith, g)))
    (λ stream d q. let g = good_at s c.at (bytes ":22A:") (Word 4) (omega arith) (omega arith) stream d q in
    widen_in c.at 56 d.at 28 (third s stream d) g.0 (omega (arith, g.1)) (third_in s stream d (stream_fine s c.at stream d q)))

address_in : (s : List ℕ) (at : ℕ) → AddressIn at 84 (address_at s at)
unfolding address_at
address_in s at = by_good (AddressIn at 84) (field_at s at (bytes ":77E:") Empty)
    (λ b q. let g = bad_at s at (bytes ":77E:") Empty (omega arith) tt b q in (omega (arith, g), omega (arith, g)))
    (λ i c q. let g = good_at s at (bytes ":77E:") Empty (omega arith) tt i c q in
    widen_in at 84 c.at 56 (second s c) g.0 (omega (arith, g.1)) (second_in_lem s c))

address_reach : (at w : ℕ) (x : Result (Address × Cursor) (Break × Address)) → AddressIn at w x → Reaches at w (address_stop x)
address_reach at w (Ok (a, c)) i = i.0
address_reach at w (Err (b, a)) i = i

module _ {n : ℕ} {s t : List ℕ} (a : Alike n s t) where
  named_alike : (p : Part) → p.end ≤ n → named_at s p ≡ named_at t p
  unfolding named_at
  named_alike p h = ap (λ (c : Code). record { part = p; code = c }) (code_of_alike a p h)

  to_alike : (stream bin : Item) (e : Cursor) → e.at ≡ bin.part.end + 2 → Or {A = Result (Address × Cursor) (Break × Address)} n (Ok (address Both stream (named_at s bin.part), e)) (Ok (address Both stream (named_at t bin.part), e)) e.at
  to_alike stream bin e h = go (ltb n bin.part.end) refl
    where
      go : (b : Bool) → ltb n bin.part.end ≡ b → Or {A = Result (Address × Cursor) (Break × Address)} n (Ok (address Both stream (named_at s bin.part), e)) (Ok (address Both stream (named_at t bin.part), e)) e.at
      go true q = inr (omega (arith, ltb-true n bin.part.end q))
      go false q = inl (rw (named_alike bin.part (ltb-false n bin.part.end q)))

  third_alike : (stream : Item) (d : Cursor) → Fine d.at (Bin stream.part) → Or n (third s stream d) (third t stream d) (address_stop (third s stream d))
  third_alike stream d f = alike_good address_stop n d.at (field_at s d.at (bytes ":119:") (Bin stream.part)) (field_at t d.at (bytes ":119:") (Bin stream.part)) _ _ _
      (field_near a d.at (bytes ":119:") (Bin stream.part) (omega arith) f)
      (address_reach d.at 28 (third s stream d) (third_in s stream d f)).0
      (λ bin e q. to_alike stream bin e (good_at s d.at (bytes ":119:") (Bin stream.part) (omega arith) f bin e q).2)

  second_alike : (c : Cursor) → Or n (second s c) (second t c) (address_stop (second s c))
  second_alike c = alike_good address_stop n c.at (field_at s c.at (bytes ":22A:") (Word 4)) (field_at t c.at (bytes ":22A:") (Word 4)) _ _ _
      (field_near a c.at (bytes ":22A:") (Word 4) (omega arith) (omega arith))
      (address_reach c.at 56 (second s c) (second_in_lem s c)).0
      (λ stream d q. third_alike stream d (stream_fine s c.at stream d q))

  address_alike : (at : ℕ) → Or n (address_at s at) (address_at t at) (address_stop (address_at s at))
  unfolding address_at
  address_alike at = alike_good address_stop n at (field_at s at (bytes ":77E:") Empty) (field_at t at (bytes ":77E:") Empty) _ _ _
      (field_near a at (bytes ":77E:") Empty (omega arith) tt)
      (address_reach at 84 (address_at s at) (address_in s at)).0
      (λ i c q. second_alike c)

-- 203 and the end
module _ (h : Head) (u : Terms) (p : Payments) where
  abbrev last : List ℕ → Cursor → Reading
  last s d = on_good (field_at s d.at (bytes ":203:") (Count p.n)) (λ b. refusal h.subtype b h.address) (λ count e. ending s e.at h (settlement h u p count))

  last_in : (s : List ℕ) (d : Cursor) → Reaches d.at 28 (reading_stop (last s d))
  last_in s d = by_good (λ (r : Reading). Reaches d.at 28 (reading_stop r)) (field_at s d.at (bytes ":203:") (Count p.n))
      (λ b q. let g = bad_at s d.at (bytes ":203:") (Count p.n) (omega arith) tt b q in (omega (arith, g), omega (arith, g)))
      (λ i e q. let g = good_at s d.at (bytes ":203:") (Count p.n) (omega arith) tt i e q in
      rw (ending_stop s e.at h (settlement h u p i) (sym g.2)) (g.0, g.1))

  last_alike : {n : ℕ} {s t : List ℕ} → Alike n s t → (d : Cursor) → Or n (last s d) (last t d) (reading_stop (last s d))
  last_alike {n} {s} {t} a d = alike_good reading_stop n d.at (field_at s d.at (bytes ":203:") (Count p.n)) (field_at t d.at (bytes ":203:") (Count p.n)) _ _ _
      (field_near a d.at (bytes ":203:") (Count p.n) (omega arith) tt)
      (last_in s d).0
      (λ i e q. let g = good_at s d.at (bytes ":203:") (Count p.n) (omega arith) tt i e q in
      rw (ending_stop s e.at h (settlement h u p i) (sym g.2)) (ending_alike a e.at h (settlement h u p i)))

-- the payments and what follows them
abbrev paid : Head → Terms → List ℕ → Payments → Reading
paid h u s p = on_done p.ending (λ b. refusal h.subtype b h.address) (last h u p s)

module _ (h : Head) (u : Terms) where
  paid_from : (s : List ℕ) (p : Payments) → Reaches (list_stop p) 28 (reading_stop (paid h u s p))
  paid_from s p = go p.ending
    where
      go : (e : Result Cursor Break) → Reaches (end_stop e) 28 (reading_stop (on_done e (λ b. refusal h.subtype b h.address) (last h u p s)))
      go (Ok d) = last_in h u p s d
      go (Err b) = (omega arith, omega arith)

  paid_in : (s : List ℕ) (c : Cursor) → Reaches c.at 1148 (reading_stop (paid h u s (payments_at s c.at)))
  paid_in s c = let i = payments_in_lem s c.at in let j = paid_from s (payments_at s c.at) in (omega (arith, i.0, j.0), omega (arith, i.1, j.1))

  paid_same : {n : ℕ} {s t : List ℕ} → Alike n s t → (p : Payments) → Or n (paid h u s p) (paid h u t p) (reading_stop (paid h u s p))
  paid_same {n} {s} {t} a p = go p.ending
    where
      go : (e : Result Cursor Break) → Or n (on_done e (λ b. refusal h.subtype b h.address) (last h u p s)) (on_done e (λ b. refusal h.subtype b h.address) (last h u p t)) (reading_stop (on_done e (λ b. refusal h.subtype b h.address) (last h u p s)))
      go (Ok d) = last_alike h u p a d
      go (Err b) = inl refl

  paid_alike : {n : ℕ} {s t : List ℕ} → Alike n s t → (c : Cursor) → Or n (paid h u s (payments_at s c.at)) (paid h u t (payments_at t c.at)) (reading_stop (paid h u s (payments_at s c.at)))
  paid_alike {n} {s} {t} a c = go (payments_at s c.at) (payments_alike a c.at)
    where
      go : (p : Payments) → Or n p (payments_at t c.at) (list_stop p) → Or n (paid h u s p) (paid h u t (payments_at t c.at)) (reading_stop (paid h u s p))
      go p (inl q) = rw (← q) (paid_same a p)
      go p (inr q) = inr (omega (arith, q, (paid_from s p).0))

module _ (h : Head) where
  settled_in : (s : List ℕ) (at : ℕ) (x : Result (Terms × Cursor) Break) → Reaches at 84 (stated_stop x) → Reaches at 1232 (reading_stop (on_whole x (λ b. refusal h.subtype b h.address) (λ u c. paid h u s (payments_at s c.at))))
  settled_in s at (Ok (u, c)) i = let j = paid_in h u s c in (omega (arith, i.0, j.0), omega (arith, i.1, j.1))
  settled_in s at (Err b) i = (i.0, omega (arith, i.1))

  settlement_in_lem : (s : List ℕ) (at : ℕ) → Reaches at 1232 (reading_stop (settlement_at s at h))
  unfolding settlement_at
  settlement_in_lem s at = settled_in s at (terms_at s at) (terms_in s at)

  settlement_alike : {n : ℕ} {s t : List ℕ} → Alike n s t → (at : ℕ) → Or n (settlement_at s at h) (settlement_at t at h) (reading_stop (settlement_at s at h))
  unfolding settlement_at
  settlement_alike {n} {s} {t} a at = go (terms_at s at) (terms_alike a at)
    where
      go : (x : Result (Terms × Cursor) Break) → Or n x (terms_at t at) (stated_stop x) → Or n (on_whole x (λ b. refusal h.subtype b h.address) (λ u c. paid h u s (payments_at s c.at))) (on_whole (terms_at t at) (λ b. refusal h.subtype b h.address) (λ u c. paid h u t (payments_at t c.at))) (reading_stop (on_whole x (λ b. refusal h.subtype b h.address) (λ u c. paid h u s (payments_at s c.at))))
      go (Ok (u, c)) (inl q) = rw (← q) (paid_alike h u a c)
      go (Err b) (inl q) = inl (rw (← q))
      go (Ok (u, c)) (inr q) = inr (omega (arith, q, (paid_in h u s c).0))
      go (Err b) (inr q) = inr q

  recall_stop : (s : List ℕ) (at : ℕ) → at ≡ h.address.bin.part.end + 2 → reading_stop (recall_at s at h) ≡ at
  unfolding recall_at
  recall_stop s at e = ending_stop s at h (bare Recall h) (sym e)

  recall_alike : {n : ℕ} {s t : List ℕ} → Alike n s t → (at : ℕ) → Or n (recall_at s at h) (recall_at t at h) at
  unfolding recall_at
  recall_alike a at = ending_alike a at h (bare Recall h)

-- what follows 12
module _ (reference : Named) (u : Item) where
  abbrev told : List ℕ → Address → Cursor → Reading
  told s x c = cond (eqb u.number 131) (settlement_at s c.at (head reference u x)) (recall_at s c.at (head reference u x))

  told_in : (s : List ℕ) (x : Address) (c : Cursor) → c.at ≡ x.bin.part.end + 2 → Reaches c.at 1232 (reading_stop (told s x c))
  told_in s x c e = go (eqb u.number 131)
    where
      go : (b : Bool) → Reaches c.at 1232 (reading_stop (cond b (settlement_at s c.at (head reference u x)) (recall_at s c.at (head reference u x))))
      go true = settlement_in_lem (head reference u x) s c.at
      go false = let r = recall_stop (head reference u x) s c.at e in (omega (arith, r), omega (arith, r))

  told_alike : {n : ℕ} {s t : List ℕ} → Alike n s t → (x : Address) (c : Cursor) → c.at ≡ x.bin.part.end + 2 → Or n (told s x c) (told t x c) (reading_stop (told s x c))
  told_alike {n} {s} {t} a x c e = go (eqb u.number 131)
    where
      near_end : Or n (recall_at s c.at (head reference u x)) (recall_at t c.at (head reference u x)) c.at → Or n (recall_at s c.at (head reference u x)) (recall_at t c.at (head reference u x)) (reading_stop (recall_at s c.at (head reference u x)))
      near_end (inl q) = inl q
      near_end (inr q) = inr (omega (arith, q, recall_stop (head reference u x) s c.at e))

      go : (b : Bool) → Or n (cond b (settlement_at s c.at (head reference u x)) (recall_at s c.at (head reference u x))) (cond b (settlement_at t c.at (head reference u x)) (recall_at t c.at (head reference u x))) (reading_stop (cond b (settlement_at s c.at (head reference u x)) (recall_at s c.at (head reference u x))))
      go true = settlement_alike (head reference u x) a c.at
      go false = near_end (recall_alike (head reference u x) a c.at)

  addressed_in : (s : List ℕ) (at : ℕ) (x : Result (Address × Cursor) (Break × Address)) → AddressIn at 84 x → Reaches at 1316 (reading_stop (on_to x (refusal u) (told s)))
  addressed_in s at (Ok (x, c)) i = let j = told_in s x c i.1 in (omega (arith, i.0.0, j.0), omega (arith, i.0.1, j.1))
  addressed_in s at (Err (b, x)) i = (i.0, omega (arith, i.1))

  message_in_lem : (s : List ℕ) (at : ℕ) → Reaches at 1316 (reading_stop (message_at s at reference u))
  unfolding message_at
  message_in_lem s at = addressed_in s at (address_at s at) (address_in s at)

  message_alike : {n : ℕ} {s t : List ℕ} → Alike n s t → (at : ℕ) → Or n (message_at s at reference u) (message_at t at reference u) (reading_stop (message_at s at reference u))
  unfolding message_at
  message_alike {n} {s} {t} a at = go (address_at s at) (address_in s at) (address_alike a at)
    where
      go : (x : Result (Address × Cursor) (Break × Address)) → AddressIn at 84 x → Or n x (address_at t at) (address_stop x) → Or n (on_to x (refusal u) (told s)) (on_to (address_at t at) (refusal u) (told t)) (reading_stop (on_to x (refusal u) (told s)))
      go (Ok (x, c)) i (inl q) = rw (← q) (told_alike a x c i.1)
      go (Err (b, x)) i (inl q) = inl (rw (← q))
      go (Ok (x, c)) i (inr q) = inr (omega (arith, q, (told_in s x c i.1).0))
      go (Err (b, x)) i (inr q) = inr q

-- what follows 20
abbrev typed : List ℕ → Item → Cursor → Item → Cursor → Reading
typed s i c u d = cond (member u.number (131 ∷ 133 ∷ [])) (message_at s d.at (named_at s i.part) u) (unread (broken c.at OtherSubType))

abbrev twelve : List ℕ → Item → Cursor → Reading
twelve s i c = on_good (field_at s c.at (bytes ":12:") (Numeral 3)) unread (typed s i c)

typed_in : (s : List ℕ) (i : Item) (c : Cursor) (u : Item) (d : Cursor) → Reaches c.at 28 d.at → Reaches c.at 1344 (reading_stop (typed s i c u d))
typed_in s i c u d h = go (member u.number (131 ∷ 133 ∷ []))
  where
    go : (b : Bool) → Reaches c.at 1344 (reading_stop (cond b (message_at s d.at (named_at s i.part) u) (unread (broken c.at OtherSubType))))
    go true = let j = message_in_lem (named_at s i.part) u s d.at in (omega (arith, h.0, j.0), omega (arith, h.1, j.1))
    go false = (omega arith, omega arith)

twelve_in : (s : List ℕ) (i : Item) (c : Cursor) → Reaches c.at 1344 (reading_stop (twelve s i c))
twelve_in s i c = by_good (λ (r : Reading). Reaches c.at 1344 (reading_stop r)) (field_at s c.at (bytes ":12:") (Numeral 3))
    (λ b q. let g = bad_at s c.at (bytes ":12:") (Numeral 3) (omega arith) (omega arith) b q in (omega (arith, g), omega (arith, g)))
    (λ u d q. let g = good_at s c.at (bytes ":12:") (Numeral 3) (omega arith) (omega arith) u d q in typed_in s i c u d (g.0, g.1))

pub request_in : (s : List ℕ) → reading_stop (request_at s) ≤ 1372
unfolding request_at
request_in s = by_good (λ (r : Reading). reading_stop r ≤ 1372) (field_at s 0 (bytes ":20:") Reference)
    (λ b q. omega (arith, bad_at s 0 (bytes ":20:") Reference (omega arith) tt b q))
    (λ i c q. omega (arith, (good_at s 0 (bytes ":20:") Reference (omega arith) tt i c q).1, (twelve_in s i c).1))

module _ {n : ℕ} {s t : List ℕ} (a : Alike n s t) where
  typed_alike : (i : Item) (c : Cursor) (u : Item) (d : Cursor) → c.at ≡ i.part.end + 2 → Reaches c.at 28 d.at → Or n (typed s i c u d) (typed t i c u d) (reading_stop (typed s i c u d))
  typed_alike i c u d e h = go (member u.number (131 ∷ 133 ∷ [])) (ltb n i.part.end) refl
    where
      go : (b l : Bool) → ltb n i.part.end ≡ l → Or n (cond b (message_at s d.at (named_at s i.part) u) (unread (broken c.at OtherSubType))) (cond b (message_at t d.at (named_at t i.part) u) (unread (broken c.at OtherSubType))) (reading_stop (cond b (message_at s d.at (named_at s i.part) u) (unread (broken c.at OtherSubType))))
      go false l q = inl refl
      go true true q = inr (omega (arith, ltb-true n i.part.end q, h.0, (message_in_lem (named_at s i.part) u s d.at).0))
      go true false q = rw (named_alike a i.part (ltb-false n i.part.end q)) (message_alike (named_at t i.part) u a d.at)

  twelve_alike : (i : Item) (c : Cursor) → c.at ≡ i.part.end + 2 → Or n (twelve s i c) (twelve t i c) (reading_stop (twelve s i c))
  twelve_alike i c e = alike_good reading_stop n c.at (field_at s c.at (bytes ":12:") (Numeral 3)) (field_at t c.at (bytes ":12:") (Numeral 3)) _ _ _
      (field_near a c.at (bytes ":12:") (Numeral 3) (omega arith) (omega arith))
      (twelve_in s i c).0
      (λ u d q. let g = good_at s c.at (bytes ":12:") (Numeral 3) (omega arith) (omega arith) u d q in typed_alike i c u d e (g.0, g.1))

  pub request_alike : Or n (request_at s) (request_at t) (reading_stop (request_at s))
  unfolding request_at
  request_alike = alike_good reading_stop n 0 (field_at s 0 (bytes ":20:") Reference) (field_at t 0 (bytes ":20:") Reference) _ _ _
      (field_near a 0 (bytes ":20:") Reference (omega arith) tt)
      (omega arith)
      (λ i c q. twelve_alike i c (good_at s 0 (bytes ":20:") Reference (omega arith) tt i c q).2)
