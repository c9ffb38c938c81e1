-- What is told of a request's break.
use Rattle.std.specs.Prelude.{Some}
use Prim.Native.Nat.{ℕ, ◌-◌}
use mathlib.Core.Path.{◌≡◌, refl, ap, subst}
use mathlib.Core.List.{List, [], ◌∷◌}
use mathlib.Core.Bool.{Bool, true, false, cond}
use mathlib.Core.Logic.{◌⊎◌, inl, inr}
use native.Mathlib.Omega.{arith}
use borrow.Author.Tests.{lt-ltb, le-ltb, ltb-true, ltb-false}
use lib.Dec.{ltb, eqb}
use lib.ListN.{drop}
use Rattle.text_scan.specs.Scan.{begins}
use Rattle.text_scan.specs.Spelling.{All, value_of}
use Rattle.text_fields.specs.declared.Break.{Break}
use Rattle.request_read.specs.whole.Request.{request_at}
use Rattle.request_read.specs.declared.whole.Outcome.TheVariants.{Refused}
use Rattle.thm_first_break.specs.Rows.{f20, f12, f77e, f22a, f119, f16a, f171, f175, f127, f32b, f113, no113, f102, f203, tag_of}
use Rattle.thm_first_break.specs.Order.{Choice, choice, Expecting, at20, at12, at77e, at22a, at119, at16a, at171, at175, at127, at32b, at113, at102, at203, at_end, payment, bank, count, choices}
use Rattle.thm_first_break.specs.Breaks.{standing}
use Rattle.thm_first_break.proofs.Request.{first_break}
use Rattle.text_explain.specs.Tags.{texts_of}
use Rattle.text_explain.specs.Stages.{tags_at}
use Rattle.text_explain.specs.Faults.{told_at}
use Rattle.thm_explain.specs.Explained.{tags_in, TellsRequest}
use Rattle.text_explain.specs.declared.Tag.TheVariants.{T20, T12, T77E, T22A, T119, T16A, T171, T175, T127, T32B, T113, T102, T203}
use Rattle.text_explain.specs.declared.Tags.TheVariants.{One, Two}
use Rattle.text_explain.specs.declared.Stage.{Stage}
use Rattle.text_explain.specs.declared.Stage.TheVariants.{At20, At12, At77E, At22A, At119, At16A, At171, At175, At127, At32B, At113, At102, At203, AtEnd}
use Rattle.thm_explain.proofs.InLine.{in_line, in_line_lem}
use Rattle.thm_explain.proofs.Values.{asks, side}
use Rattle.thm_explain.proofs.Mirror.{stood, nothing, Behaves, Mirrored, never, Mirror, alone, either, no_bank, tells}

-- the stage of what is expected; behind k payments 10 - k may still come
abbrev pub stage_of : Expecting → Stage
stage_of at20 = At20
stage_of at12 = At12
stage_of (at77e settles) = At77E settles
stage_of (at22a settles) = At22A settles
stage_of (at119 settles stream) = At119 settles
stage_of at16a = At16A
stage_of at171 = At171
stage_of at175 = At175
stage_of at127 = At127
stage_of (at32b k debit) = At32B (10 - k) debit
stage_of (at113 k debit) = cond debit (At113 (10 - k)) (At102 (10 - k))
stage_of (at102 k) = At102 (10 - k)
stage_of (at203 k) = At203 (10 - k)
stage_of at_end = AtEnd

-- the stream that was read holds no CR
abbrev pub Clean : Expecting → Type 0
Clean (at119 settles stream) = All in_line stream
Clean at20 = Unit {0}
Clean at12 = Unit {0}
Clean (at77e settles) = Unit {0}
Clean (at22a settles) = Unit {0}
Clean at16a = Unit {0}
Clean at171 = Unit {0}
Clean at175 = Unit {0}
Clean at127 = Unit {0}
Clean (at32b k debit) = Unit {0}
Clean (at113 k debit) = Unit {0}
Clean (at102 k) = Unit {0}
Clean (at203 k) = Unit {0}
Clean at_end = Unit {0}

more : (k : ℕ) (b : Bool) → ltb k 10 ≡ b → ltb 0 (10 - k) ≡ b
more k true h = lt-ltb 0 (10 - k) (omega (arith, ltb-true k 10 h))
more k false h = le-ltb 0 (10 - k) (omega (arith, ltb-false k 10 h))

tags : (e : Expecting) → texts_of (tags_at (stage_of e)) ≡ tags_in (choices e)
tags at20 = refl
tags at12 = refl
tags (at77e settles) = refl
tags (at22a settles) = refl
tags (at119 settles stream) = refl
tags at16a = refl
tags at171 = refl
tags at175 = refl
tags at127 = refl
tags (at32b k debit) = refl
tags (at113 k true) = refl
tags (at113 k false) = refl
tags (at102 k) = refl
tags (at203 k) = go (ltb k 10) (more k (ltb k 10) refl)
  where
    go : (b : Bool) → ltb 0 (10 - k) ≡ b → texts_of (cond (ltb 0 (10 - k)) (Two T127 T203) (One T203)) ≡ tags_in (cond b (payment k ∷ count k ∷ []) (count k ∷ []))
    go true h = rw h
    go false h = rw h
tags at_end = refl

abbrev At : Expecting → List ℕ → ℕ → Choice Expecting → Type 0
At e s p c = Mirrored Expecting choices stage_of Clean e s p c

-- 119 ends a recall
bin : (settles : Bool) (stream : List ℕ) → Behaves Expecting choices stage_of Clean (at119 settles stream) (choice (f119 stream) (λ v. cond settles at16a at_end)) T119
bin true stream v r k i n = (refl, (in_line_lem (f119 stream) v k i, tt))
bin false stream v r k i n = (refl, (in_line_lem (f119 stream) v k i, tt))

bank_behaves : (k : ℕ) (e : Expecting) → stage_of e ≡ At102 (10 - k) → Behaves Expecting choices stage_of Clean e (bank k) T102
bank_behaves k e h v r o i n = (rw h (ap At203 (omega arith)), (in_line_lem f102 v tt i, tt))

-- 113 after CR, or the bank
credit : (k : ℕ) (s : List ℕ) (p : ℕ) (c : Choice Expecting) → standing (choices (at113 k false)) (drop p s) ≡ Some c → At (at113 k false) s p c
credit k s p c h = go (stood (choice no113 (λ v. at_end)) c (bank k ∷ []) (drop p s) h)
  where
    go : ((begins (tag_of no113) (drop p s) ≡ true) × (choice no113 (λ v. at_end) ≡ c)) ⊎ ((begins (tag_of no113) (drop p s) ≡ false) × (standing (bank k ∷ []) (drop p s) ≡ Some c)) → At (at113 k false) s p c
    go (inl x) = let i = no_bank s p x.0 in subst (At (at113 k false) s p) x.1 (never refl i.0 i.1)
    go (inr x) = alone Expecting choices stage_of Clean (at113 k false) s p c (bank k) T102 refl refl (bank_behaves k (at113 k false) refl) x.1

-- a further payment, or the count
further : (k : ℕ) (s : List ℕ) (p : ℕ) (c : Choice Expecting) → standing (choices (at203 k)) (drop p s) ≡ Some c → At (at203 k) s p c
further k s p c h = go (ltb k 10) (more k (ltb k 10) refl) h
  where
    go : (b : Bool) → ltb 0 (10 - k) ≡ b → standing (cond b (payment k ∷ count k ∷ []) (count k ∷ [])) (drop p s) ≡ Some c → At (at203 k) s p c
    go true i h = either Expecting choices stage_of Clean (at203 k) s p c (payment k) (count k) T127 T203 refl refl (ap (λ (b : Bool). cond b (Two T127 T203) (One T203)) i) (λ v r o g n. (ap (At32B (10 - k)) (side v r g), (in_line_lem f127 v tt g, tt))) (λ v r o g n. (refl, (in_line_lem (f203 k) v tt g, tt))) h
    go false i h = alone Expecting choices stage_of Clean (at203 k) s p c (count k) T203 refl (ap (λ (b : Bool). cond b (Two T127 T203) (One T203)) i) (λ v r o g n. (refl, (in_line_lem (f203 k) v tt g, tt))) h

line : (e : Expecting) (s : List ℕ) (p : ℕ) (c : Choice Expecting) → standing (choices e) (drop p s) ≡ Some c → At e s p c
line at20 s p c h = alone Expecting choices stage_of Clean at20 s p c (choice f20 (λ v. at12)) T20 refl refl (λ v r o g n. (refl, (in_line_lem f20 v tt g, tt))) h
line at12 s p c h = alone Expecting choices stage_of Clean at12 s p c (choice (f12 (131 ∷ 133 ∷ [])) (λ v. at77e (eqb (value_of 0 v) 131))) T12 refl refl (λ v r o g n. (ap At77E (asks v r g n), (in_line_lem (f12 (131 ∷ 133 ∷ [])) v tt g, tt))) h
line (at77e settles) s p c h = alone Expecting choices stage_of Clean (at77e settles) s p c (choice f77e (λ v. at22a settles)) T77E refl refl (λ v r o g n. (refl, (in_line_lem f77e v tt g, tt))) h
line (at22a settles) s p c h = alone Expecting choices stage_of Clean (at22a settles) s p c (choice f22a (λ v. at119 settles v)) T22A refl refl (λ v r o g n. (refl, (in_line_lem f22a v tt g, in_line_lem f22a v tt g))) h
line (at119 settles stream) s p c h = alone Expecting choices stage_of Clean (at119 settles stream) s p c (choice (f119 stream) (λ v. cond settles at16a at_end)) T119 refl refl (bin settles stream) h
line at16a s p c h = alone Expecting choices stage_of Clean at16a s p c (choice f16a (λ v. at171)) T16A refl refl (λ v r o g n. (refl, (in_line_lem f16a v tt g, tt))) h
line at171 s p c h = alone Expecting choices stage_of Clean at171 s p c (choice f171 (λ v. at175)) T171 refl refl (λ v r o g n. (refl, (in_line_lem f171 v tt g, tt))) h
line at175 s p c h = either Expecting choices stage_of Clean at175 s p c (choice f175 (λ v. at127)) (payment 0) T175 T127 refl refl refl (λ v r o g n. (refl, (in_line_lem f175 v tt g, tt))) (λ v r o g n. (ap (At32B 10) (side v r g), (in_line_lem f127 v tt g, tt))) h
line at127 s p c h = alone Expecting choices stage_of Clean at127 s p c (payment 0) T127 refl refl (λ v r o g n. (ap (At32B 10) (side v r g), (in_line_lem f127 v tt g, tt))) h
line (at32b k debit) s p c h = alone Expecting choices stage_of Clean (at32b k debit) s p c (choice f32b (λ v. at113 k debit)) T32B refl refl (λ v r o g n. (refl, (in_line_lem f32b v tt g, tt))) h
line (at113 k true) s p c h = alone Expecting choices stage_of Clean (at113 k true) s p c (choice f113 (λ v. at102 k)) T113 refl refl (λ v r o g n. (refl, (in_line_lem f113 v tt g, tt))) h
line (at113 k false) s p c h = credit k s p c h
line (at102 k) s p c h = alone Expecting choices stage_of Clean (at102 k) s p c (bank k) T102 refl refl (bank_behaves k (at102 k) refl) h
line (at203 k) s p c h = further k s p c h
line at_end s p c h = nothing h

mirror : Mirror Expecting choices stage_of Clean
mirror = record { tags = tags; line = line }

-- of a request that is refused, what is told is its first break: the tags that may stand there, all of them, or the one whose value is wrong
pub request_told : (s : List ℕ) (b : Break) → (request_at s).outcome ≡ Refused b → TellsRequest s b (told_at s At20 b)
request_told s b h = tells Expecting choices at20 at_end stage_of Clean mirror tt s b (first_break s b h)
