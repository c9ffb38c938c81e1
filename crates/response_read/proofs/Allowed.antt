-- A response that a text can hold is sound, and a sound one can be held.
use Prim.Native.Nat.{ℕ, ◌/◌}
use mathlib.Core.Path.{◌≡◌, refl, sym, ap, ◌∙◌}
use mathlib.Core.Bool.{Bool, true, ◌&&◌, not}
use mathlib.Core.List.{List, [], ◌∷◌, ◌++◌}
use native.Mathlib.Omega.{arith}
use lib.Dec.{eqb, ltb}
use lib.ListN.{length, take, drop, length-append, length-drop, take-append-drop}
use lib.Seq.{take_at, drop_at}
use borrow.Author.Tests.{eqb-true, eq-eqb, ltb-true, lt-ltb, not-true}
use Rattle.chars.specs.Chars.{is_code, is_digit}
use Rattle.codes.specs.Codes.{pack_on, packed, long_of, short_text, long_text, Bytes}
use Rattle.codes.specs.declared.Code.{Code}
use Rattle.codes.proofs.Laws.{long_text_lem, short_text_lem}
use Rattle.text_scan.specs.Spelling.{All}
use Rattle.text_names.specs.rules.Names.{all_are, is_whole, forbidden, is_reference, is_bin, bin_stream}
use Rattle.text_names.proofs.rules.Laws.{and_true, same_code_lem, same_self, long_most}
use Rattle.response_write.specs.Values.{is_number, is_outcome, is_answer, is_settlement, is_recall}
use Rattle.response_write.specs.declared.Settlement.{Settlement}
use Rattle.response_write.specs.declared.Recall.{Recall}
use Rattle.response_read.proofs.Digits.{all_append, digits_codes, code_bytes, code_no_zero}
use Rattle.response_read.specs.Sound.{Referred, Named, Sound, SoundRecall}

-- ---- the characters of codes

-- the characters of a sound reference are its text
pub referred_text : {c : Code} (r : Referred c) → long_text c ≡ r.name
referred_text r = ap long_text r.code ∙ long_text_lem r.name r.few (code_bytes r.name r.codes) (code_no_zero r.name r.codes)

-- the characters of a sound stream and BIN are theirs
module _ {stream : ℕ} {bin : Code} (n : Named stream bin) where
  pub stream_text : short_text stream ≡ n.four
  stream_text = ap short_text n.short ∙ short_text_lem n.four n.size (code_bytes n.four n.codes)

  pub bin_text : long_text bin ≡ n.four ++ n.digits
  bin_text =
      let all = all_append is_code n.four n.digits n.codes (digits_codes n.digits n.numerals) in
      ap long_text n.long ∙ long_text_lem (n.four ++ n.digits) (omega (arith, length-append n.four n.digits, n.size, n.more)) (code_bytes (n.four ++ n.digits) all) (code_no_zero (n.four ++ n.digits) all)

-- ---- a class of bytes, as a test and as a fact

all_are_lem : (is : ℕ → Bool) (l : List ℕ) → all_are is l ≡ true → All is l
all_are_lem is [] h = tt
all_are_lem is (x ∷ l) h = let g = and_true (is x) (all_are is l) h in (g.0, all_are_lem is l g.1)

pub are_all : (is : ℕ → Bool) (l : List ℕ) → All is l → all_are is l ≡ true
are_all is [] a = refl
are_all is (x ∷ l) a = rw a.0 (are_all is l a.1)

-- ---- references

referred : (c : Code) → is_reference c ≡ true → Referred c
referred c h =
    let l : List ℕ = long_text c in
    let g = and_true (is_whole c) (ltb 0 (length l) && (all_are is_code l && not (forbidden l))) h in
    let i = and_true (ltb 0 (length l)) (all_are is_code l && not (forbidden l)) g.1 in
    let j = and_true (all_are is_code l) (not (forbidden l)) i.1 in
    record {
      name = l;
      code = sym (same_code_lem (long_of l) c g.0);
      some = omega (arith, ltb-true 0 (length l) i.0);
      few = long_most c;
      codes = all_are_lem is_code l j.0;
      free = not-true (forbidden l) j.1;
    }

reference_is : {c : Code} → Referred c → is_reference c ≡ true
reference_is {c = c} r =
    rw (referred_text r, sym r.code, same_self c, lt-ltb 0 (length r.name) r.some, are_all is_code r.name r.codes, r.free) refl

-- ---- streams and BINs

-- the four characters of the stream are the upper half of the first eight
upper : (l : List ℕ) → length l ≡ 8 → Bytes l → packed 8 l / 4294967296 ≡ packed 4 (take 4 l)
unfolding pack_on
upper [] n y = absurd (omega arith)
upper (a ∷ []) n y = absurd (omega arith)
upper (a ∷ b ∷ []) n y = absurd (omega arith)
upper (a ∷ b ∷ c ∷ []) n y = absurd (omega arith)
upper (a ∷ b ∷ c ∷ d ∷ []) n y = absurd (omega arith)
upper (a ∷ b ∷ c ∷ d ∷ e ∷ []) n y = absurd (omega arith)
upper (a ∷ b ∷ c ∷ d ∷ e ∷ f ∷ []) n y = absurd (omega arith)
upper (a ∷ b ∷ c ∷ d ∷ e ∷ f ∷ g ∷ []) n y = absurd (omega arith)
upper (a ∷ b ∷ c ∷ d ∷ e ∷ f ∷ g ∷ h ∷ []) n y = let z = y.1.1.1.1 in omega (arith, z.0, z.1.0, z.1.1.0, z.1.1.1.0)
upper (a ∷ b ∷ c ∷ d ∷ e ∷ f ∷ g ∷ h ∷ i ∷ l) n y = absurd (omega arith)

upper_stream : (l : List ℕ) → length l ≡ 8 → Bytes l → bin_stream (long_of l) ≡ packed 4 (take 4 l)
unfolding long_of
upper_stream l n y = upper l n y

named_bin : (b : Code) → is_bin b ≡ true → Named (bin_stream b) b
named_bin b h =
    let l : List ℕ = long_text b in
    let g = and_true (is_whole b) (eqb (length l) 8 && (all_are is_code (take 4 l) && all_are is_digit (drop 4 l))) h in
    let i = and_true (eqb (length l) 8) (all_are is_code (take 4 l) && all_are is_digit (drop 4 l)) g.1 in
    let j = and_true (all_are is_code (take 4 l)) (all_are is_digit (drop 4 l)) i.1 in
    let n : length l ≡ 8 = eqb-true (length l) 8 i.0 in
    let four : All is_code (take 4 l) = all_are_lem is_code (take 4 l) j.0 in
    let rest : All is_digit (drop 4 l) = all_are_lem is_digit (drop 4 l) j.1 in
    let all : All is_code (take 4 l ++ drop 4 l) = all_append is_code (take 4 l) (drop 4 l) four (digits_codes (drop 4 l) rest) in
    let whole : long_of l ≡ b = same_code_lem (long_of l) b g.0 in
    record {
      four = take 4 l;
      digits = drop 4 l;
      short = ap (λ (c : Code). bin_stream c) (sym whole) ∙ upper_stream l n (code_bytes l (rw (take-append-drop 4 l) at all));
      long = sym whole ∙ ap long_of (sym (take-append-drop 4 l));
      size = omega (arith, length-append (take 4 l) (drop 4 l), ap length (take-append-drop 4 l), length-drop 4 l);
      more = omega (arith, length-drop 4 l);
      codes = four;
      numerals = rest;
    }

module _ {stream : ℕ} {bin : Code} (n : Named stream bin) where
  abbrev both : List ℕ
  both = n.four ++ n.digits

  eight : length both ≡ 8
  eight = length-append n.four n.digits ∙ omega (arith, n.size, n.more)

  bin_is : is_bin bin ≡ true
  bin_is =
      rw (
        bin_text n,
        sym n.long,
        same_self bin,
        eq-eqb (length both) 8 eight,
        take_at n.four n.digits 4 n.size,
        drop_at n.four n.digits 4 n.size,
        are_all is_code n.four n.codes,
        are_all is_digit n.digits n.numerals,
      ) refl

  stream_is : stream ≡ bin_stream bin
  stream_is =
      let y = code_bytes both (all_append is_code n.four n.digits n.codes (digits_codes n.digits n.numerals)) in
      n.short ∙ ap (packed 4) (sym (take_at n.four n.digits 4 n.size)) ∙ sym (upper_stream both eight y) ∙ ap (λ (c : Code). bin_stream c) (sym n.long)

-- ---- the whole

module _ (r : Settlement) where
  pub settlement_sound : is_settlement r ≡ true → Sound r
  unfolding is_settlement
  settlement_sound h =
      let a = is_outcome r.outcome in
      let s = eqb r.stream (bin_stream r.bin) in
      let g = and_true (is_number r.number) (is_reference r.reference && (is_bin r.bin && (s && a))) h in
      let i = and_true (is_reference r.reference) (is_bin r.bin && (s && a)) g.1 in
      let j = and_true (is_bin r.bin) (s && a) i.1 in
      let k = and_true s a j.1 in
      record {
        number = ltb-true r.number 10000000 g.0;
        reference = referred r.reference i.0;
        batch = rw (eqb-true r.stream (bin_stream r.bin) k.0) (named_bin r.bin j.0);
        outcome = k.1;
      }

  pub sound_settlement : Sound r → is_settlement r ≡ true
  unfolding is_settlement
  sound_settlement k =
      rw (lt-ltb r.number 10000000 k.number, reference_is k.reference, bin_is k.batch, eq-eqb r.stream (bin_stream r.bin) (stream_is k.batch)) k.outcome

module _ (r : Recall) where
  pub recall_sound : is_recall r ≡ true → SoundRecall r
  unfolding is_recall
  recall_sound h =
      let g = and_true (is_number r.number) (is_reference r.reference && is_answer r.answer) h in
      let i = and_true (is_reference r.reference) (is_answer r.answer) g.1 in
      record { number = ltb-true r.number 10000000 g.0; reference = referred r.reference i.0; answer = i.1 }

  pub sound_recall : SoundRecall r → is_recall r ≡ true
  unfolding is_recall
  sound_recall k = rw (lt-ltb r.number 10000000 k.number, reference_is k.reference) k.answer
