-- How far a line reaches, and that two texts which begin alike have the same field.
use Rattle.std.specs.Prelude.{Result, Ok, Err}
use Prim.Native.Nat.{ℕ, ◌+◌, ◌-◌, ◌≤◌, ◌<◌}
use mathlib.Core.Path.{◌≡◌, refl}
use mathlib.Core.List.{List}
use mathlib.Core.Bool.{Bool, true, false}
use mathlib.Core.Logic.{◌⊎◌, inl, inr}
use native.Mathlib.Omega.{arith}
use borrow.Author.Tests.{leb-true, leb-false}
use lib.Dec.{leb}
use lib.ListN.{length}
use Rattle.chars.specs.declared.Refusal.{Refusal}
use Rattle.chars.specs.Words.{crlf}
use Rattle.text_scan.specs.Scan.{lit_at}
use Rattle.text_scan.specs.declared.Cursor.{Cursor}
use Rattle.text_scan.proofs.Standing.{lit_next}
use Rattle.text_scan.proofs.Alike.{Alike, lit_alike, by_next, same_next}
use Rattle.text_values.proofs.Alike.{EndsIn, reference_ends, numeral_ends, word_ends, bin_ends, numbers_ends, date_ends, time_ends, side_ends, amount_ends, letters_ends, count_ends, reference_alike, numeral_alike, word_alike, bin_alike, numbers_alike, date_alike, time_alike, side_alike, amount_alike, letters_alike, count_alike}
use Rattle.text_fields.specs.Fields.{absent, on_read, on_good, value_at, field_at}
use Rattle.text_fields.specs.declared.Break.{Break}
use Rattle.text_fields.specs.declared.Item.{Item}
use Rattle.text_fields.specs.declared.Kind.{Kind}
use Rattle.text_fields.specs.declared.Kind.TheVariants.{Empty, Reference, Numeral, Word, Bin, Numbers, Date, Time, Side, Amount, Letters, Count}

-- a kind of at most 16 characters; the stream of a BIN stands before it
abbrev pub Fine : ℕ → Kind → Type 0
Fine at Empty = Unit {0}
Fine at Reference = Unit {0}
Fine at (Numeral n) = n ≤ 16
Fine at (Word n) = n ≤ 16
Fine at (Bin p) = (p.end ≤ at) × (p.end ≤ p.start + 16)
Fine at Numbers = Unit {0}
Fine at Date = Unit {0}
Fine at Time = Unit {0}
Fine at Side = Unit {0}
Fine at Amount = Unit {0}
Fine at Letters = Unit {0}
Fine at (Count n) = Unit {0}

fine_on : (at a : ℕ) → at ≤ a → (k : Kind) → Fine at k → Fine a k
fine_on at a h Empty f = tt
fine_on at a h Reference f = tt
fine_on at a h (Numeral n) f = f
fine_on at a h (Word n) f = f
fine_on at a h (Bin p) f = (omega (arith, f.0), f.1)
fine_on at a h Numbers f = tt
fine_on at a h Date f = tt
fine_on at a h Time f = tt
fine_on at a h Side f = tt
fine_on at a h Amount f = tt
fine_on at a h Letters f = tt
fine_on at a h (Count n) f = tt

widen : (at w m : ℕ) (v : Result (ℕ × ℕ) Refusal) → w ≤ m → EndsIn at w v → EndsIn at m v
widen at w m (Ok (v, e)) h i = (i.0, omega (arith, i.1))
widen at w m (Err r) h i = tt

value_ends : (s : List ℕ) (at : ℕ) (k : Kind) → Fine at k → EndsIn at 20 (value_at s at k)
value_ends s at Empty f = (omega arith, omega arith)
value_ends s at Reference f = widen at 16 20 (value_at s at Reference) (omega arith) (reference_ends s at)
value_ends s at (Numeral n) f = widen at n 20 (value_at s at (Numeral n)) (omega arith) (numeral_ends s at n)
value_ends s at (Word n) f = widen at n 20 (value_at s at (Word n)) (omega arith) (word_ends s at n)
value_ends s at (Bin p) f = widen at (p.end - p.start + 4) 20 (value_at s at (Bin p)) (omega (arith, f.1)) (bin_ends s at p)
value_ends s at Numbers f = widen at 5 20 (value_at s at Numbers) (omega arith) (numbers_ends s at)
value_ends s at Date f = widen at 6 20 (value_at s at Date) (omega arith) (date_ends s at)
value_ends s at Time f = widen at 4 20 (value_at s at Time) (omega arith) (time_ends s at)
value_ends s at Side f = widen at 2 20 (value_at s at Side) (omega arith) (side_ends s at)
value_ends s at Amount f = widen at 16 20 (value_at s at Amount) (omega arith) (amount_ends s at)
value_ends s at Letters f = widen at 4 20 (value_at s at Letters) (omega arith) (letters_ends s at)
value_ends s at (Count n) f = widen at 2 20 (value_at s at (Count n)) (omega arith) (count_ends s at n)

value_alike : {n : ℕ} {s t : List ℕ} → Alike n s t → (at : ℕ) → at + 24 ≤ n → (k : Kind) → Fine at k → value_at s at k ≡ value_at t at k
value_alike a at h Empty f = refl
value_alike a at h Reference f = reference_alike a at h
value_alike a at h (Numeral n) f = numeral_alike a at h n f
value_alike a at h (Word n) f = word_alike a at h n f
value_alike a at h (Bin p) f = bin_alike a at h p (omega (arith, f.0)) (omega (arith, f.1))
value_alike a at h Numbers f = numbers_alike a at h
value_alike a at h Date f = date_alike a at h
value_alike a at h Time f = time_alike a at h
value_alike a at h Side f = side_alike a at h
value_alike a at h Amount f = amount_alike a at h
value_alike a at h Letters f = letters_alike a at h
value_alike a at h (Count n) f = count_alike a at h n

by_read : {A : Type 0} (P : A → Type 0) (r : Result (ℕ × ℕ) Refusal) {d : Refusal → A} {k : ℕ → ℕ → A} → ((x : Refusal) → P (d x)) → ((v e : ℕ) → r ≡ Ok (v, e) → P (k v e)) → P (on_read r d k)
by_read P (Ok (v, e)) p q = q v e refl
by_read P (Err x) p q = p x

same_read : {A : Type 0} (r : Result (ℕ × ℕ) Refusal) (d : Refusal → A) (k k' : ℕ → ℕ → A) → ((v e : ℕ) → r ≡ Ok (v, e) → k v e ≡ k' v e) → on_read r d k ≡ on_read r d k'
same_read (Ok (v, e)) d k k' q = q v e refl
same_read (Err x) d k k' q = refl

-- a line that is read ends within 28 bytes, two bytes after its value; a break stands where its line begins
abbrev pub In : ℕ → Result (Item × Cursor) Break → Type 0
In at (Ok (i, c)) = (at ≤ c.at) × (c.at ≤ at + 28) × (c.at ≡ i.part.end + 2)
In at (Err b) = b.at ≡ at

read_ends : (s : List ℕ) (a : ℕ) (k : Kind) → Fine a k → (v e : ℕ) → value_at s a k ≡ Ok (v, e) → (a ≤ e) × (e ≤ a + 20)
read_ends s a k f v e q = rw q at (value_ends s a k f)

pub field_in : (s : List ℕ) (at : ℕ) (tag : List ℕ) (k : Kind) → length tag ≤ 5 → Fine at k → In at (field_at s at tag k)
unfolding field_at
field_in s at tag k h f = by_next (In at) (lit_at s at tag) refl (λ a q.
    by_read (In at) (value_at s a k) (λ x. refl) (λ v e r.
    by_next (In at) (lit_at s e crlf) refl (λ n u.
    let i = lit_next s at tag q in
    let j = read_ends s a k (fine_on at a (omega (arith, i)) k f) v e r in
    let l = lit_next s e crlf u in
    (omega (arith, i, j.0, l), omega (arith, i, j.1, l), l))))

field_same : {n : ℕ} {s t : List ℕ} → Alike n s t → (at : ℕ) (tag : List ℕ) (k : Kind) → length tag ≤ 5 → Fine at k → at + 32 ≤ n → field_at s at tag k ≡ field_at t at tag k
unfolding field_at
field_same {t = t} a at tag k h f w =
    rw (lit_alike a at tag (omega arith)) (same_next (lit_at t at tag) (Err (absent at)) _ _ (λ b q.
    let i = lit_next t at tag q in
    let g = fine_on at b (omega (arith, i)) k f in
    rw (value_alike a b (omega (arith, i)) k g) (same_read (value_at t b k) _ _ _ (λ v e r.
    let j = read_ends t b k g v e r in
    rw (lit_alike a e crlf (omega (arith, i, j.1)))))))

-- from a place on, no further than w bytes
abbrev pub Reaches : ℕ → ℕ → ℕ → Type 0
Reaches at w p = (at ≤ p) × (p ≤ at + w)

pub here : (at : ℕ) → Reaches at 0 at
here at = (omega arith, omega arith)

-- where a step stops: past what it read, or at the break
abbrev pub stop : Result (Item × Cursor) Break → ℕ
stop (Ok (i, c)) = c.at
stop (Err b) = b.at

stop_in : (at : ℕ) (x : Result (Item × Cursor) Break) → In at x → Reaches at 28 (stop x)
stop_in at (Ok (i, c)) h = (h.0, h.1)
stop_in at (Err b) h = (omega (arith, h), omega (arith, h))

-- the same answer, or a step that stops too near to the end of what is alike
abbrev pub Or : {A : Type 0} → ℕ → A → A → ℕ → Type 0
Or n x y p = (x ≡ y) ⊎ (n < p + 32)

pub field_near : {n : ℕ} {s t : List ℕ} → Alike n s t → (at : ℕ) (tag : List ℕ) (k : Kind) → length tag ≤ 5 → Fine at k → Or n (field_at s at tag k) (field_at t at tag k) at
field_near {n} {s} {t} a at tag k h f = go (leb (at + 32) n) refl
  where
    go : (b : Bool) → leb (at + 32) n ≡ b → Or n (field_at s at tag k) (field_at t at tag k) at
    go true q = inl (field_same a at tag k h f (leb-true (at + 32) n q))
    go false q = inr (omega (arith, leb-false (at + 32) n q))

pub field_alike : {n : ℕ} {s t : List ℕ} → Alike n s t → (at : ℕ) (tag : List ℕ) (k : Kind) → length tag ≤ 5 → Fine at k → Or n (field_at s at tag k) (field_at t at tag k) (stop (field_at s at tag k))
field_alike {n} {s} {t} a at tag k h f = go (field_near a at tag k h f)
  where
    go : Or n (field_at s at tag k) (field_at t at tag k) at → Or n (field_at s at tag k) (field_at t at tag k) (stop (field_at s at tag k))
    go (inl q) = inl q
    go (inr q) = inr (omega (arith, q, (stop_in at (field_at s at tag k) (field_in s at tag k h f)).0))

-- a step after a field: where it stops, and that it is alike
pub in_then : {A : Type 0} (p : A → ℕ) (at w : ℕ) (x : Result (Item × Cursor) Break) (d : Break → A) (k : Item → Cursor → A) → In at x → ((b : Break) → p (d b) ≡ b.at) → ((i : Item) (c : Cursor) → x ≡ Ok (i, c) → Reaches c.at w (p (k i c))) → Reaches at (28 + w) (p (on_good x d k))
in_then p at w (Ok (i, c)) d k h e f = let g = f i c refl in (omega (arith, h.0, g.0), omega (arith, h.1, g.1))
in_then p at w (Err b) d k h e f = (omega (arith, h, e b), omega (arith, h, e b))

pub alike_then : {A : Type 0} (p : A → ℕ) (n : ℕ) (x y : Result (Item × Cursor) Break) (d : Break → A) (k k' : Item → Cursor → A) → Or n x y (stop x) → ((b : Break) → p (d b) ≡ b.at) → ((i : Item) (c : Cursor) → x ≡ Ok (i, c) → (c.at ≤ p (k i c)) × Or n (k i c) (k' i c) (p (k i c))) → Or n (on_good x d k) (on_good y d k') (p (on_good x d k))
alike_then p n (Ok (i, c)) y d k k' (inl q) e f = go (f i c refl).1
  where
    go : Or n (k i c) (k' i c) (p (k i c)) → Or n (k i c) (on_good y d k') (p (k i c))
    go (inl r) = inl (rw (← q) r)
    go (inr r) = inr r
alike_then p n (Err b) y d k k' (inl q) e f = inl (rw (← q))
alike_then p n (Ok (i, c)) y d k k' (inr q) e f = inr (omega (arith, q, (f i c refl).0))
alike_then p n (Err b) y d k k' (inr q) e f = inr (omega (arith, q, e b))

-- a look at what stands at a place before the stop
pub look_alike : {n : ℕ} {s t : List ℕ} → Alike n s t → (at : ℕ) (tag : List ℕ) (p : ℕ) → length tag ≤ 5 → at ≤ p → Or n (lit_at s at tag) (lit_at t at tag) p
look_alike {n} {s} {t} a at tag p h g = go (leb (at + 5) n) refl
  where
    go : (b : Bool) → leb (at + 5) n ≡ b → Or n (lit_at s at tag) (lit_at t at tag) p
    go true q = inl (lit_alike a at tag (omega (arith, leb-true (at + 5) n q)))
    go false q = inr (omega (arith, leb-false (at + 5) n q))

-- how long the part of a field is
abbrev pub PartIn : ℕ → Result (Item × Cursor) Break → Type 0
PartIn w (Ok (i, c)) = i.part.end ≤ i.part.start + w
PartIn w (Err b) = Unit {0}

pub part_in : (s : List ℕ) (at : ℕ) (tag : List ℕ) (k : Kind) (w : ℕ) → ((a : ℕ) → EndsIn a w (value_at s a k)) → PartIn w (field_at s at tag k)
unfolding field_at
part_in s at tag k w f = by_next (PartIn w) (lit_at s at tag) tt (λ a q.
    by_read (PartIn w) (value_at s a k) (λ x. tt) (λ v e r.
    by_next (PartIn w) (lit_at s e crlf) tt (λ n u. ends a v e (rw r at (f a)))))
  where
    ends : (a v e : ℕ) → EndsIn a w (Ok (v, e)) → e ≤ a + w
    ends a v e i = i.1
