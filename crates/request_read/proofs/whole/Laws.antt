-- The steps over a request, by what their parts answer.
use Rattle.std.specs.Prelude.{Result, Ok, Err}
use Prim.Native.Nat.{ℕ, ◌≤◌, ◌<◌}
use mathlib.Core.Path.{◌≡◌, refl, ap, ◌∙◌}
use mathlib.Core.List.{List, [], ◌∷◌}
use mathlib.Core.Bool.{Bool, true, false, cond}
use borrow.Author.Tests.{lt-ltb, le-ltb}
use lib.Dec.{eqb}
use lib.ListN.{length}
use Rattle.chars.specs.Words.{bytes, member}
use Rattle.chars.specs.declared.Refusal.TheVariants.{OtherSubType}
use Rattle.text_scan.specs.declared.Cursor.{Cursor}
use Rattle.text_fields.specs.Fields.{absent, broken, nothing, place, on_good, field_at, why_not}
use Rattle.text_fields.specs.declared.Break.{Break}
use Rattle.text_fields.specs.declared.Item.{Item}
use Rattle.text_fields.specs.declared.Kind.TheVariants.{Reference, Numeral, Count}
use Rattle.request_read.specs.terms.Terms.{terms_at, unstated}
use Rattle.request_read.specs.declared.terms.Terms.{Terms}
use Rattle.request_read.specs.payments.Payments.{payments_at}
use Rattle.request_read.specs.declared.payments.Payments.{Payments}
use Rattle.request_read.specs.whole.Request.{no_name, named_at, nowhere, head, bare, refusal, settlement, on_to, address_at, cut_by, settlement_at, recall_at, message_at, request_at, broken_off, addressed_at, beginning_at, read_on}
use Rattle.request_read.specs.declared.whole.Address.{Address}
use Rattle.request_read.specs.declared.whole.Head.{Head}
use Rattle.request_read.specs.declared.whole.Outcome.TheVariants.{Settlement, Recall, Refused}
use Rattle.request_read.specs.declared.whole.Reading.{Reading}
use Rattle.request_read.specs.declared.whole.Begun.{Begun}

module _ (s : List ℕ) (at : ℕ) where
  module _ (h : Head) where
    pub settlement_1 : {t : Result (Terms × Cursor) Break} {b w : Break} {o : Reading} → t ≡ terms_at s at → t ≡ Err b → w ≡ unstated t → o ≡ refusal h.subtype w h.address → o ≡ settlement_at s at h
    unfolding settlement_at
    settlement_1 p p' w o = o ∙ simp (← p, w, p')

    pub settlement_2 : {t : Result (Terms × Cursor) Break} {u : Terms} {c : Cursor} {x : Payments} {b w : Break} {o : Reading} → t ≡ terms_at s at → t ≡ Ok (u, c) → x ≡ payments_at s c.at → x.ending ≡ Err b → w ≡ cut_by x.ending → o ≡ refusal h.subtype w h.address → o ≡ settlement_at s at h
    unfolding settlement_at
    settlement_2 p p' q q' w o = o ∙ simp (← p, p', ← q, w, q')

    pub settlement_3 : {t : Result (Terms × Cursor) Break} {u : Terms} {c d : Cursor} {x : Payments} {f : Result (Item × Cursor) Break} {b w : Break} {o : Reading} → t ≡ terms_at s at → t ≡ Ok (u, c) → x ≡ payments_at s c.at → x.ending ≡ Ok d → f ≡ field_at s d.at (bytes ":203:") (Count x.n) → f ≡ Err b → w ≡ why_not f → o ≡ refusal h.subtype w h.address → o ≡ settlement_at s at h
    unfolding settlement_at
    settlement_3 p p' q q' r r' w o = o ∙ simp (← p, p', ← q, q', ← r, w, r')

    pub settlement_4 : {t : Result (Terms × Cursor) Break} {u : Terms} {c d e : Cursor} {x : Payments} {f : Result (Item × Cursor) Break} {i : Item} {w : Break} {o : Reading} → t ≡ terms_at s at → t ≡ Ok (u, c) → x ≡ payments_at s c.at → x.ending ≡ Ok d → f ≡ field_at s d.at (bytes ":203:") (Count x.n) → f ≡ Ok (i, e) → e.at < length s → w ≡ absent e.at → o ≡ refusal h.subtype w h.address → o ≡ settlement_at s at h
    unfolding settlement_at
    settlement_4 p p' q q' r r' l w o = o ∙ simp (← p, p', ← q, q', ← r, r', lt-ltb _ _ l, w)

    pub settlement_5 : {t : Result (Terms × Cursor) Break} {u : Terms} {c d e : Cursor} {x : Payments} {f : Result (Item × Cursor) Break} {i : Item} → t ≡ terms_at s at → t ≡ Ok (u, c) → x ≡ payments_at s c.at → x.ending ≡ Ok d → f ≡ field_at s d.at (bytes ":203:") (Count x.n) → f ≡ Ok (i, e) → length s ≤ e.at → settlement h u x i ≡ settlement_at s at h
    unfolding settlement_at
    settlement_5 p p' q q' r r' l = simp (← p, p', ← q, q', ← r, r', le-ltb _ _ l)

    pub recall_1 : {w : Break} {o : Reading} → at < length s → w ≡ absent at → o ≡ refusal h.subtype w h.address → o ≡ recall_at s at h
    unfolding recall_at
    recall_1 l w o = o ∙ simp (lt-ltb _ _ l, w)

    pub recall_2 : {o : Reading} → length s ≤ at → o ≡ bare Recall h → o ≡ recall_at s at h
    unfolding recall_at
    recall_2 l o = o ∙ simp (le-ltb _ _ l)

abbrev off : Item → Break → Address → ℕ → Begun
off t b a at = record { outcome = Refused b; head = head no_name t a; next = place at }

module _ (s : List ℕ) where
  -- a beginning and what follows it are the request
  on_field : (f : Result (Item × Cursor) Break) (d : Break → Begun) (k : Item → Cursor → Begun) (d' : Break → Reading) (k' : Item → Cursor → Reading) → ((b : Break) → read_on s (d b) ≡ d' b) → ((i : Item) (c : Cursor) → read_on s (k i c) ≡ k' i c) → read_on s (on_good f d k) ≡ on_good f d' k'
  on_field (Ok (i, c)) d k d' k' p q = q i c
  on_field (Err b) d k d' k' p q = p b

  on_address : (x : Result (Address × Cursor) (Break × Address)) (d : Break → Address → Begun) (k : Address → Cursor → Begun) (d' : Break → Address → Reading) (k' : Address → Cursor → Reading) → ((b : Break) (a : Address) → read_on s (d b a) ≡ d' b a) → ((a : Address) (c : Cursor) → read_on s (k a c) ≡ k' a c) → read_on s (on_to x d k) ≡ on_to x d' k'
  on_address (Ok (a, c)) d k d' k' p q = q a c
  on_address (Err (b, a)) d k d' k' p q = p b a

  on_test : (y : Bool) (a b : Begun) (a' b' : Reading) → read_on s a ≡ a' → read_on s b ≡ b' → read_on s (cond y a b) ≡ cond y a' b'
  on_test true a b a' b' p q = p
  on_test false a b a' b' p q = q

  on_broken : (t : Item) (b : Break) (a : Address) → read_on s (broken_off t b a) ≡ refusal t b a
  unfolding read_on
  on_broken t b a = refl

  on_settles : (h : Head) (c : Cursor) → read_on s (record { outcome = Settlement; head = h; next = c }) ≡ settlement_at s c.at h
  unfolding read_on
  on_settles h c = refl

  on_recalls : (h : Head) (c : Cursor) → read_on s (record { outcome = Recall; head = h; next = c }) ≡ recall_at s c.at h
  unfolding read_on
  on_recalls h c = refl

  pub by_beginning : read_on s (beginning_at s) ≡ request_at s
  unfolding beginning_at request_at addressed_at message_at
  by_beginning =
      on_field (field_at s 0 (bytes ":20:") Reference) _ _ _ _ (λ b. on_broken nothing b nowhere) (λ reference c.
      on_field (field_at s c.at (bytes ":12:") (Numeral 3)) _ _ _ _ (λ b. on_broken nothing b nowhere) (λ t d.
      on_test (member t.number (131 ∷ 133 ∷ [])) _ _ _ _
      (on_address (address_at s d.at) _ _ _ _ (on_broken t) (λ a e.
      on_test (eqb t.number 131) _ _ _ _ (on_settles (head (named_at s reference.part) t a) e) (on_recalls (head (named_at s reference.part) t a) e)))
      (on_broken nothing (broken c.at OtherSubType) nowhere)))

  module _ {x : Begun} (p : x ≡ beginning_at s) where
    so : read_on s x ≡ request_at s
    so = rw p by_beginning

    pub request_settles : {o : Reading} → x.outcome ≡ Settlement → o ≡ settlement_at s x.next.at x.head → o ≡ request_at s
    unfolding read_on
    request_settles h q = q ∙ (simp h at so)

    pub request_recalls : {o : Reading} → x.outcome ≡ Recall → o ≡ recall_at s x.next.at x.head → o ≡ request_at s
    unfolding read_on
    request_recalls h q = q ∙ (simp h at so)

    pub request_breaks : {o : Reading} {b : Break} → x.outcome ≡ Refused b → o ≡ bare x.outcome x.head → o ≡ request_at s
    unfolding read_on
    request_breaks h q = q ∙ ap (λ y. bare y x.head) h ∙ (simp h at so)
