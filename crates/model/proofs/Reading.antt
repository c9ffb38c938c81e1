-- The readers give right values of all that they accept: each text, each book.
use Rattle.std.specs.Prelude.{Ok}
use Prim.Native.Nat.{ℕ, zero, suc, ◌+◌, ◌/◌, ◌^◌, ◌≤◌, ◌<◌}
use mathlib.Core.Path.{◌≡◌, refl, sym, ap, subst, ◌∙◌}
use mathlib.Core.Logic.{inl, inr}
use mathlib.Core.Bool.{true}
use mathlib.Core.List.{List, [], ◌∷◌, ◌++◌}
use native.Mathlib.Omega.{arith}
use lib.ListN.{length, get_or, take, drop, replicate, length-append}
use lib.Seq.{length-sets, sets-eq, take-append_seam}
use borrow.Author.Tests.{eq-eqb, lt-ltb}
use Rattle.chars.specs.Chars.{is_code, is_digit}
use Rattle.codes.specs.Codes.{long_of, long_text}
use Rattle.codes.specs.declared.Code.{Code}
use Rattle.dates.specs.Dates.{sum as total}
use Rattle.text_values.specs.Grammar.{IsWord, IsLetters}
use Rattle.request_read.specs.declared.terms.Activation.{Activation}
use Rattle.request_read.specs.declared.terms.Activation.TheVariants.{AtOnce, Minute}
use Rattle.request_read.specs.whole.Request.{request_at}
use Rattle.request_read.specs.declared.whole.Reading.{Reading}
use Rattle.request_read.specs.payments.Payments.{no_payment}
use Rattle.thm_grammar.specs.Values.{GivenReference, GivenBin, GivenSide, GivesSettlement, InDay}
use Rattle.thm_grammar.proofs.Values.{settlement_gives, recall_gives}
use Rattle.book_read.specs.Book.{book_check}
use Rattle.book_read.specs.Accounts.{Bank, column, streams_in, banks_in}
use Rattle.book_read.specs.declared.Field.{Field}
use Rattle.book_read.specs.declared.Field.TheVariants.{Code as Codes, Flags, Balance, Sublimit}
use Rattle.book_read.proofs.Ranging.{accepted_in_range}
use Rattle.settle.specs.Rules.{sum}
use Rattle.book_read.specs.Range.{Each, Rising, is_short}
use Rattle.response_read.proofs.Allowed.{are_all}
use Rattle.model.specs.Days.{column_of}
use Rattle.model.specs.Rules.{is_reference, is_bin, are_letters, RightMinute}
use Rattle.model.proofs.Noting.{same_self}
use Rattle.model.proofs.Settling.{each_append}
use Rattle.model.proofs.Admitting.{LetterWord, TextGives, Gives}
use Rattle.model.proofs.Keeping.{BookGives, Readers}

-- ---- a text

reference_given : {c : Code} → GivenReference c → is_reference c ≡ true
reference_given {c = c} g =
    rw (g.spells.text, sym g.spells.code, same_self c, lt-ltb 0 (length g.value) g.is.some, are_all is_code g.value g.is.all, g.is.free) refl

four_first : (w d : List ℕ) → length w ≡ 4 → (take 4 (w ++ d) ≡ w) × (drop 4 (w ++ d) ≡ d)
four_first (a ∷ b ∷ c ∷ e ∷ []) d h = (refl, refl)
four_first [] d h = absurd (omega arith)
four_first (a ∷ []) d h = absurd (omega arith)
four_first (a ∷ b ∷ []) d h = absurd (omega arith)
four_first (a ∷ b ∷ c ∷ []) d h = absurd (omega arith)
four_first (a ∷ b ∷ c ∷ e ∷ f ∷ w) d h = absurd (omega arith)

bin_given : {stream : List ℕ} {c : Code} → IsWord 4 stream → GivenBin stream c → is_bin c ≡ true
bin_given {stream = w} {c = c} i g =
    let d : List ℕ = g.is.digits in
    let text : long_text c ≡ w ++ d = g.spells.text ∙ g.is.is in
    let code : long_of (w ++ d) ≡ c = ap long_of (sym g.is.is) ∙ sym g.spells.code in
    let cut = four_first w d i.size in
    let size : length (w ++ d) ≡ 8 = length-append w d ∙ omega (arith, i.size, g.is.four.size) in
    rw (text, code, same_self c, eq-eqb (length (w ++ d)) 8 size, cut.0, cut.1, are_all is_code w i.all, are_all is_digit d g.is.four.all) refl

letters_given : {v : List ℕ} → IsLetters v → are_letters v ≡ true
letters_given g = rw (g.is, g.first, g.second, g.third, g.fourth) refl

side_given : (side letters : ℕ) → GivenSide side letters → LetterWord letters
side_given side n (inl h) = inl h.1
side_given side n (inr h) = inr (h.1.spells.small, rw h.1.spells.text (letters_given h.1.is))

-- the first n of a list
each_take : {A : Type 0} (P : A → Type 0) (d : A) (n : ℕ) (l : List A) → n ≤ length l → ((i : ℕ) → i < n → P (get_or l i d)) → Each P (take n l)
each_take P d zero l h f = tt
each_take P d (suc n) [] h f = absurd (omega arith)
each_take P d (suc n) (x ∷ l) h f = (f 0 (omega arith), each_take P d n l (omega arith) (λ i k. f (suc i) (omega arith)))

take_long : {A : Type 0} (n : ℕ) (l : List A) → n ≤ length l → length (take n l) ≡ n
take_long zero l h = refl
take_long (suc n) [] h = absurd (omega arith)
take_long (suc n) (x ∷ l) h = ap suc (take_long n l (omega arith))

minute_given : (a : Activation) → InDay a → RightMinute a
minute_given AtOnce h = tt
minute_given (Minute m) h = h

settlement_given : (r : Reading) → GivesSettlement r → TextGives r
settlement_given r g =
    let fits : r.n ≤ length r.payments = omega (arith, g.places, g.few) in
    let long = take_long r.n r.payments fits in
    record {
      reference = reference_given g.head.reference;
      bin = bin_given g.head.stream.is g.head.bin;
      number = (g.first, g.number);
      count = (omega (arith, g.first, g.number), g.count);
      minute = minute_given r.terms.activation g.minute;
      some = omega (arith, long, g.some);
      few = omega (arith, long, g.few);
      money = each_take (λ l. l.amount.number ≤ 999999999999) no_payment r.n r.payments fits (λ i h. (g.payments i h).money);
      letters = each_take (λ l. LetterWord l.letters.number) no_payment r.n r.payments fits (λ i h. side_given _ _ (g.payments i h).side);
    }

texts_give : (t : List ℕ) → Gives (request_at t)
texts_give t = record { settlement = λ h. settlement_given (request_at t) (settlement_gives t h); recall = λ h. reference_given (recall_gives t h).head.reference }

-- ---- a book

pub sum_same : (l : List ℕ) → sum l ≡ total l
sum_same [] = refl
sum_same (x ∷ l) = ap (λ (n : ℕ). x + n) (sum_same l)

-- ---- a column of 64: the banks' values, and zeros past them

pub column_long : (f : Field) (bs : List Bank) → length (column f bs) ≡ length bs
column_long f [] = refl
column_long f (b ∷ bs) = ap suc (column_long f bs)

pub drop_zeros : (n k : ℕ) → Each {A = ℕ} (λ x. x ≡ 0) (drop k (replicate n 0))
drop_zeros zero zero = tt
drop_zeros zero (suc k) = tt
drop_zeros (suc n) zero = (refl, drop_zeros n zero)
drop_zeros (suc n) (suc k) = drop_zeros n k

drop_seam : (a b : List ℕ) → drop (length a) (a ++ b) ≡ b
drop_seam [] b = refl
drop_seam (x ∷ a) b = drop_seam a b

sum_zeros : (l : List ℕ) → Each (λ x. x ≡ 0) l → sum l ≡ 0
sum_zeros [] h = refl
sum_zeros (x ∷ l) h = omega (arith, h.0, sum_zeros l h.1)

pub sum_append : (a b : List ℕ) → sum (a ++ b) ≡ sum a + sum b
sum_append [] b = omega arith
sum_append (x ∷ a) b = omega (arith, sum_append a b)

each_zero : (P : ℕ → Type 0) → P 0 → (l : List ℕ) → Each (λ x. x ≡ 0) l → Each P l
each_zero P p [] h = tt
each_zero P p (x ∷ l) h = (rw h.0 p, each_zero P p l h.1)

module _ (f : Field) (bs : List Bank) (few : length bs ≤ 64) where
  abbrev col : List ℕ
  col = column f bs

  abbrev zeros : List ℕ
  zeros = drop (0 + length col) (replicate 64 0)

  pub column_is : column_of f bs ≡ col ++ zeros
  column_is = sets-eq col (replicate 64 0) 0 (omega (arith, column_long f bs))

  column_first : take (length bs) (column_of f bs) ≡ col
  column_first = ap (take (length bs)) column_is ∙ ap (λ (n : ℕ). take n (col ++ zeros)) (sym (column_long f bs)) ∙ take-append_seam col zeros

  column_rest : drop (length bs) (column_of f bs) ≡ zeros
  column_rest = ap (drop (length bs)) column_is ∙ ap (λ (n : ℕ). drop n (col ++ zeros)) (sym (column_long f bs)) ∙ drop_seam col zeros

  column_past : Each (λ x. x ≡ 0) (drop (length bs) (column_of f bs))
  column_past = subst (λ (l : List ℕ). Each (λ x. x ≡ 0) l) (sym column_rest) (drop_zeros 64 (0 + length col))

  column_64 : length (column_of f bs) ≡ 64
  column_64 = length-sets (replicate 64 0) 0 col

  column_each : (P : ℕ → Type 0) → P 0 → Each P col → Each P (column_of f bs)
  column_each P p h = subst (λ (l : List ℕ). Each P l) (sym column_is) (each_append 0 P col zeros h (each_zero P p zeros (drop_zeros 64 (0 + length col))))

  column_sum : sum (column_of f bs) ≡ total col
  column_sum = ap sum column_is ∙ sum_append col zeros ∙ omega (arith, sum_zeros zeros (drop_zeros 64 (0 + length col)), sum_same col)

books_give : (b : List ℕ) → book_check b ≡ Ok tt → BookGives b
books_give b h =
    let g = accepted_in_range b h in
    let bs : List Bank = banks_in b in
    record {
      house = record {
        few_streams = g.few_streams;
        stream_codes_short = g.stream_codes_short;
        administrators = g.administrators;
        streams_rise = g.streams_rise;
        few_banks = g.few_banks;
        codes_long = column_64 Codes bs g.few_banks;
        flags_long = column_64 Flags bs g.few_banks;
        balances_long = column_64 Balance bs g.few_banks;
        sublimits_long = column_64 Sublimit bs g.few_banks;
        bank_codes = subst (λ (l : List ℕ). Each (λ x. is_short x ≡ true) l) (sym (column_first Codes bs g.few_banks)) g.bank_codes;
        banks_rise = subst (λ (l : List ℕ). Rising l) (sym (column_first Codes bs g.few_banks)) g.banks_rise;
        flags_right = subst (λ (l : List ℕ). Each (λ x. x / 2 < 2 ^ length (streams_in b)) l) (sym (column_first Flags bs g.few_banks)) g.flags_right;
        sublimits_right = column_each Sublimit bs g.few_banks (λ x. x ≤ 6400000000000000) (omega arith) g.sublimits_right;
        total = omega (arith, column_sum Balance bs g.few_banks, g.total);
        codes_past = column_past Codes bs g.few_banks;
        flags_past = column_past Flags bs g.few_banks;
        balances_past = column_past Balance bs g.few_banks;
        sublimits_past = column_past Sublimit bs g.few_banks;
      };
      date = g.date;
      some_streams = g.some_streams;
      some_banks = g.some_banks;
    }

-- the premise of the engine's theorems holds
pub readers : Readers
readers = record { texts = texts_give; books = books_give }
