-- A request is refused at its first break, with the number that names it, and only there.
use Rattle.text_values.specs.declared.Part.{Part}
use Rattle.request_read.specs.declared.terms.Activation.{Activation}
use Rattle.std.specs.Prelude.{Option, Some, None, Result, Ok, Err}
use Prim.Native.Nat.{ℕ, ◌+◌}
use mathlib.Core.Path.{◌≡◌, refl, ap, sym, subst, ◌∙◌}
use mathlib.Core.List.{List, [], ◌∷◌}
use mathlib.Core.Bool.{Bool, true, false, cond}
use native.Mathlib.Omega.{arith}
use lib.Dec.{eqb}
use lib.ListN.{drop}
use Rattle.chars.specs.Words.{bytes, member}
use Rattle.chars.specs.declared.Refusal.TheVariants.{OtherSubType}
use Rattle.text_scan.specs.Scan.{on_next, lit_at}
use Rattle.text_scan.specs.declared.Cursor.{Cursor}
use Rattle.text_scan.proofs.Laws.{lit_yes, lit_not}
use Rattle.text_scan.specs.Spelling.{value_of}
use Rattle.text_values.specs.Values.{no_part}
use Rattle.text_values.specs.Grammar.{IsNumeral}
use Rattle.text_fields.specs.Fields.{absent, broken, place, on_good, field_at}
use Rattle.text_fields.specs.declared.Break.{Break}
use Rattle.text_fields.specs.declared.Item.{Item}
use Rattle.text_fields.specs.declared.Kind.TheVariants.{Empty, Reference, Numeral, Word, Bin, Numbers, Date, Time, Count}
use Rattle.request_read.specs.terms.Terms.{activation_at, on_given, on_whole, terms, terms_at}
use Rattle.request_read.specs.declared.terms.Terms.{Terms}
use Rattle.request_read.specs.declared.terms.Activation.TheVariants.{AtOnce, Minute}
use Rattle.request_read.specs.payments.Payments.{none as no-payments, payments_at}
use Rattle.request_read.specs.whole.Request.{refusal, unread, settlement, bare, head, named_at, nowhere, to_stream, address_at, on_to, on_done, ending, settlement_at, recall_at, message_at, request_at}
use Rattle.request_read.specs.declared.whole.Address.{Address}
use Rattle.request_read.specs.declared.whole.Head.{Head}
use Rattle.request_read.specs.declared.whole.Named.{Named}
use Rattle.request_read.specs.declared.whole.Outcome.{Outcome}
use Rattle.request_read.specs.declared.whole.Outcome.TheVariants.{Settlement, Recall, Refused}
use Rattle.thm_grammar.proofs.Meanings.{LineRead}
use Rattle.thm_first_break.specs.Rows.{f20, f12, f77e, f22a, f119, f16a, f171, f175}
use Rattle.thm_first_break.specs.Order.{Choice, choice, Expecting, at20, at12, at77e, at22a, at119, at16a, at171, at175, at127, at_end, payment, choices}
use Rattle.thm_first_break.specs.Breaks.{standing, other, beginning, RequestBreaks}
use Rattle.thm_first_break.proofs.First.{stop, breaks_first}
use Rattle.thm_first_break.proofs.Once.{one_break}
use Rattle.thm_first_break.proofs.Steps.{fits20, fits12, fits77e, fits22a, fits119, fits16a, fits171, fits175, end_walk, on_field, on_line}
use Rattle.thm_first_break.proofs.PaymentsWalk.{broken_by, broken_in, Walk, Ask, alone, second, leading, paid_for, payments_walk}

module _ (s : List ℕ) where
  -- behind the payments of a settlement request
  module _ (h : Head) where
    all_paid_walk : (t : Terms) (p : ℕ) (e : Expecting) → Ask s p e (payment 0) → Walk s (paid_for s h t (payments_at s p)) p e
    unfolding payments_at
    all_paid_walk t p e ask = payments_walk s h t 9 0 p no-payments e refl ask

    abbrev stated_for : Result (Terms × Cursor) Break → Option Break
    stated_for x = broken_in (on_whole x (λ b. refusal h.subtype b h.address) (λ t c. on_done (payments_at s c.at).ending (λ b. refusal h.subtype b h.address) (λ d. on_good (field_at s d.at (bytes ":203:") (Count (payments_at s c.at).n)) (λ b. refusal h.subtype b h.address) (λ n e. ending s e.at h (settlement h t (payments_at s c.at) n)))))

    -- "the line may be missing"
    activation_walk : (i date : Item) (p : ℕ) → Walk s (stated_for (on_given (activation_at s p) Err (λ m q e. Ok (terms s i date m q, e)))) p at175
    unfolding activation_at
    activation_walk i date p = go (lit_at s p (bytes ":175:")) refl
      where
        go : (r : Option ℕ) → lit_at s p (bytes ":175:") ≡ r → Walk s (stated_for (on_given (on_next r (Ok (AtOnce, no_part, place p)) (λ a. on_good (field_at s p (bytes ":175:") Time) Err (λ j c. Ok (Minute j.number, j.part, c)))) Err (λ m q e. Ok (terms s i date m q, e)))) p at175
        go None l = all_paid_walk (terms s i date AtOnce no_part) p at175 (second s p at175 (choice f175 (λ v. at127)) (payment 0) refl refl (lit_not s p (bytes ":175:") l))
        go (Some a) l =
            on_line (λ (x : Result (Activation × Part × Cursor) Break). stated_for (on_given x Err (λ m q e. Ok (terms s i date m q, e)))) Err (λ b. refl) (λ j c. Ok (Minute j.number, j.part, c)) (choice f175 (λ v. at127)) Time (fits175 s) (leading s p at175 (choice f175 (λ v. at127)) (payment 0) refl refl (lit_yes s p (bytes ":175:") l)) (λ v. refl) (λ j c q g.
            all_paid_walk (terms s i date (Minute j.number) j.part) c.at at127 (alone s c.at at127 (payment 0) refl refl))

    settlement_walk : (p : ℕ) → Walk s (broken_in (settlement_at s p h)) p at16a
    unfolding settlement_at terms_at
    settlement_walk p =
        on_line stated_for Err (λ b. refl) _ (choice f16a (λ v. at171)) Numbers (fits16a s) (alone s p at16a (choice f16a (λ v. at171)) refl refl) (λ v. refl) (λ i c q g.
        on_line stated_for Err (λ b. refl) _ (choice f171 (λ v. at175)) Date (fits171 s) (alone s c.at at171 (choice f171 (λ v. at175)) refl refl) (λ v. refl) (λ date d r k.
        activation_walk i date d.at))

    -- "A recall ends after 119."
    recall_walk : (p : ℕ) → Walk s (broken_in (recall_at s p h)) p at_end
    unfolding recall_at
    recall_walk p = end_walk broken_in (refusal h.subtype (absent p) h.address) (bare Recall h) p refl refl

  -- 12 to 119
  address_walk : (settles : Bool) (answer : Result (Address × Cursor) (Break × Address) → Option Break) → ((b : Break) (a : Address) → answer (Err (b, a)) ≡ Some b) → ((a : Address) (c : Cursor) → Walk s (answer (Ok (a, c))) c.at (cond settles at16a at_end)) → (p : ℕ) → Walk s (answer (address_at s p)) p (at77e settles)
  unfolding address_at
  address_walk settles answer ok on p =
      on_line answer (λ b. Err (b, nowhere)) (λ b. ok b nowhere) _ (choice f77e (λ v. at22a settles)) Empty (fits77e s) (alone s p (at77e settles) (choice f77e (λ v. at22a settles)) refl refl) (λ v. refl) (λ empty c q g.
      on_line answer (λ b. Err (b, nowhere)) (λ b. ok b nowhere) _ (choice f22a (λ v. at119 settles v)) (Word 4) (fits22a s) (alone s c.at (at22a settles) (choice f22a (λ v. at119 settles v)) refl refl) (λ v. refl) (λ stream d r k.
      let w = k.line.value in
      let z : stream.part.end ≡ stream.part.start + 4 = rw k.span (omega (arith, k.line.is.size)) in
      on_line answer (λ b. Err (b, to_stream stream)) (λ b. ok b (to_stream stream)) _ (choice (f119 w) (λ v. cond settles at16a at_end)) (Bin stream.part) (fits119 s w stream.part k.text stream.part.end (omega arith, omega (arith, z))) (alone s d.at (at119 settles w) (choice (f119 w) (λ v. cond settles at16a at_end)) refl refl) (λ v. refl) (λ bin e t l.
      on _ e)))

  message_walk : (p : ℕ) (reference : Named) (t : Item) → Walk s (broken_in (message_at s p reference t)) p (at77e (eqb t.number 131))
  unfolding message_at
  message_walk p reference t = address_walk (eqb t.number 131) (λ (x : Result (Address × Cursor) (Break × Address)). broken_in (on_to x (refusal t) (λ a c. cond (eqb t.number 131) (settlement_at s c.at (head reference t a)) (recall_at s c.at (head reference t a))))) (λ b a. refl) (λ a c. go a c (eqb t.number 131)) p
    where
      go : (a : Address) (c : Cursor) (b : Bool) → Walk s (broken_in (cond b (settlement_at s c.at (head reference t a)) (recall_at s c.at (head reference t a)))) c.at (cond b at16a at_end)
      go a c true = settlement_walk (head reference t a) c.at
      go a c false = recall_walk (head reference t a) c.at

  abbrev sub_type : Choice Expecting
  sub_type = choice (f12 (131 ∷ 133 ∷ [])) (λ v. at77e (eqb (value_of 0 v) 131))

  -- "a well-formed sub type other than 131 or 133 gives 88 at that line"
  sub_type_walk : (p : ℕ) (reference : Named) (t : Item) (d : Cursor) (g : LineRead s p (bytes ":12:") (Numeral 3) t d) → standing (choices at12) (drop p s) ≡ Some sub_type → ((o : Option Break) → IsNumeral 3 g.line.value → member (value_of 0 g.line.value) (131 ∷ 133 ∷ []) ≡ true → Walk s o d.at (at77e (eqb (value_of 0 g.line.value) 131)) → Walk s o p at12) → Walk s (broken_in (cond (member t.number (131 ∷ 133 ∷ [])) (message_at s d.at reference t) (unread (broken p OtherSubType)))) p at12
  sub_type_walk p reference t d g st on = go (member t.number (131 ∷ 133 ∷ [])) refl
    where
      go : (b : Bool) → member t.number (131 ∷ 133 ∷ []) ≡ b → Walk s (broken_in (cond b (message_at s d.at reference t) (unread (broken p OtherSubType)))) p at12
      go true m = on (broken_in (message_at s d.at reference t)) g.line.is (ap (λ (n : ℕ). member n (131 ∷ 133 ∷ [])) (sym g.means) ∙ m) (subst (λ (n : ℕ). Walk s (broken_in (message_at s d.at reference t)) d.at (at77e (eqb n 131))) g.means (message_walk d.at reference t))
      go false m = stop {e = at12} (broken p OtherSubType) refl (other sub_type refl st g.line (ap (λ (n : ℕ). member n (131 ∷ 133 ∷ [])) (sym g.means) ∙ m))

  request_walk : Walk s (broken_in (request_at s)) 0 at20
  unfolding request_at
  request_walk =
      on_line broken_in unread (λ b. refl) _ (choice f20 (λ v. at12)) Reference (fits20 s) (alone s 0 at20 (choice f20 (λ v. at12)) refl refl) (λ v. refl) (λ i c q g.
      on_field broken_in unread (λ b. refl) _ sub_type (Numeral 3) (fits12 s (131 ∷ 133 ∷ [])).covers (alone s c.at at12 sub_type refl refl) (λ t d r k st on.
      sub_type_walk c.at (named_at s i.part) t d k st on))

refused_by : (o : Outcome) (b : Break) → broken_by o ≡ Some b → o ≡ Refused b
refused_by (Refused d) b h = cc
refused_by Settlement b h = let z : ◌≡◌ {A = ℕ} 0 1 = cc in absurd (omega arith)
refused_by Recall b h = let z : ◌≡◌ {A = ℕ} 0 1 = cc in absurd (omega arith)

-- refused with a number at a place exactly where the lines before it are the beginning of a request and what stands there breaks it in the way that the
-- number names
pub first_break : (s : List ℕ) (b : Break) → (request_at s).outcome ≡ Refused b → RequestBreaks s b
first_break s b h = breaks_first Expecting choices at20 at_end refl s (request_walk s) beginning b (ap broken_by h)

pub breaks_there : (s : List ℕ) (b : Break) → RequestBreaks s b → (request_at s).outcome ≡ Refused b
breaks_there s b f = refused_by (request_at s).outcome b (one_break Expecting choices at20 at_end refl s (request_walk s) b f)
