-- A status change.
use Rattle.std.specs.Prelude.{Option, Some, None, Ok, Err}
use Prim.Native.Nat.{ℕ, zero, suc, ◌+◌, ◌≤◌, ◌<◌}
use mathlib.Core.Path.{◌≡◌, refl, sym, ap, subst, ◌∙◌}
use mathlib.Core.Bool.{Bool, true, false, not}
use mathlib.Core.List.{List, [], ◌∷◌}
use native.Mathlib.Omega.{arith}
use borrow.Author.Tests.{not-true, not-false}
use lib.ListN.{length, get_or, set}
use Rattle.chars.specs.Words.{bytes, member}
use Rattle.chars.specs.declared.Refusal.{Refusal}
use Rattle.chars.specs.declared.Refusal.TheVariants.{NothingThere, UnknownBank, WrongEsa}
use Rattle.codes.specs.declared.Code.{Code}
use Rattle.book_read.specs.Range.{Each}
use Rattle.settle.specs.Payments.{Payment, payment, payment_at, payments_from}
use Rattle.queue.proofs.MemoryLaws.{by_bool}
use Rattle.model.specs.State.{at, nowhere, Batch, Place, live, Batches, State, place_at, payments_at, payments_of, with_place}
use Rattle.model.specs.Messages.{place, bank_place, waiting, leaving, untouched}
use Rattle.model.specs.Changes.{has_debit, with_letter, status}
use Rattle.model.specs.Calls.{woken}
use Rattle.model.proofs.Seeking.{by_found, not_found}
use Rattle.model.proofs.Standing.{Standing, vacant, building, awaits, stands, Stood}
use Rattle.model.proofs.Lettering.{a_status, a_byte, lettered_standing}
use Rattle.tables.specs.Seeking.{found_by}
use Rattle.tables.specs.Rows.{word, batch_rows}
use Rattle.tables.specs.Words.{batch_words}
use Rattle.tables.proofs.Rowing.{Fits}
use Rattle.tables.proofs.Held.{messages_fit}
use Rattle.call_orders.specs.Lettering.{reletter_from}
use Rattle.call_orders.specs.Stages.{seen, Ready, Became}
use Rattle.call_orders.proofs.ArriveLaws.{own_words, words_eight, Placed, placed_so}
use Rattle.call_orders.proofs.LetterLaws.{HasLetters, batch_with, row_relettered}
use Rattle.call_plan.specs.rules.Steps.{banks_house, batch_at}
use Rattle.call_plan.proofs.rules.LiveRows.{not_free, live_word, word_live, neat_row, row_counted, placed_became}
use Rattle.call_change.specs.Changing.{Changed, AllCounted, debit_on}
use Rattle.call_change.proofs.SublimitLaws.{untouched_so, bank_there}
use Rattle.call_change.proofs.DebitLaws.{Waits, waits_at}

-- ---- what the rules say of a live batch

fits_there : (banks : ℕ) (x : Batch) {y : Place} {i j : ℕ} → Standing banks y i j → y ≡ live x → Fits x
fits_there banks x vacant e = not_free e
fits_there banks x (building {b = z} r l) e =
    let g : z ≡ x = cc in subst (λ (y : Batch). Fits y) g (messages_fit banks z r.count.1 r.messages (omega arith))
fits_there banks x (awaits {b = z} r c v) e =
    let g : z ≡ x = cc in subst (λ (y : Batch). Fits y) g (messages_fit banks z r.count.1 r.messages (omega (arith, c.whole)))
fits_there banks x (stands {b = z} r c) e =
    let g : z ≡ x = cc in subst (λ (y : Batch). Fits y) g (messages_fit banks z r.count.1 r.messages (omega (arith, c.whole)))

-- a payment without letters is read as a credit
one_letters : (k c l : ℕ) → HasLetters (payment k c l)
unfolding payment
one_letters k c zero = tt
one_letters k c (suc l) = λ e. omega arith

all_letters : (row : List ℕ) (a n : ℕ) → Each HasLetters (payments_from row a n)
unfolding payments_from payment_at
all_letters row a zero = tt
all_letters row a (suc n) = (one_letters (get_or row a 0) (get_or row (a + 1) 0) (get_or row (a + 2) 0), all_letters row (a + 3) n)

module _ (banks : ℕ) (t q : List ℕ) (nq : ℕ) (w : List ℕ) (nw : ℕ) (ready : Ready t q nq w nw) (stood : Stood banks (seen t q nq w nw)) where
  abbrev b : Batches
  b = seen t q nq w nw

  fits_at : (p : ℕ) → place_at b p ≡ live (batch_at t p) → Fits (batch_at t p)
  fits_at p e = fits_there banks (batch_at t p) (stood.each p) e

  pub all_counted : AllCounted t
  all_counted p h n = let e = word_live t p n in row_counted t ready.table p h e (fits_at p e)

  -- ---- the row with the letter

  module _ (k x p : ℕ) (below : p < 32) (there : place_at b p ≡ live (batch_at t p)) (esa : member x (bytes "ADP") ≡ true) where
    abbrev row : List ℕ
    row = get_or (batch_rows t) p []

    abbrev y : Batch
    y = batch_at t p

    same_row : row ≡ batch_words (word row 0) (word row 1) (word row 6) y
    same_row = own_words row (neat_row t ready.table p below) (live_word t p there)

    many : word row 8 ≡ length (payments_of y.messages)
    many = ap (λ (l : List ℕ). word l 8) same_row ∙ words_eight (word row 0) (word row 1) (word row 6) y

    letters : Each HasLetters (payments_of y.messages)
    letters = subst (λ (ps : List Payment). Each HasLetters ps) (all_counted p below (live_word t p there)).same (all_letters row 49 (word row 8))

    relettered_row : reletter_from k x row 49 (word row 8) ≡ batch_words (word row 0) (word row 1) (word row 6) (batch_with k x y)
    relettered_row =
        ap (λ (n : ℕ). reletter_from k x row 49 n) many
        ∙ ap (λ (l : List ℕ). reletter_from k x l 49 (length (payments_of y.messages))) same_row
        ∙ row_relettered k x (word row 0) (word row 1) (word row 6) y (fits_at p there) letters

    changed_fits : Fits (batch_with k x y)
    changed_fits =
        fits_there banks (batch_with k x y) (lettered_standing k x banks (a_byte x esa) (a_status x esa) (stood.each p))
        (ap (λ (z : Place). with_letter k x z) there)

    pub relettered_became : (t' : List ℕ) → length t' ≡ length t → batch_rows t' ≡ set (batch_rows t) p (reletter_from k x row 49 (word row 8))
        → Became (with_place b p (with_letter k x (place_at b p))) t' q nq w nw
    relettered_became t' l e =
        let h : Placed t p (batch_with k x y) t' =
        placed_so t t' p (word row 0) (word row 1) (word row 6) (batch_with k x y) ready.table changed_fits (live_word t p there) l
        (e ∙ ap (λ (r : List ℕ). set (batch_rows t) p r) relettered_row) in
        rw there (placed_became t q nq w nw p (batch_with k x y) t' ready h)

-- ---- the model's status change

module _ (b : Batches) (k : ℕ) (bin : Code) where
  pub record DebitAt (p : ℕ) : Type 0 where
    pub waits : waiting b bin ≡ at p
    pub has : has_debit k (payments_at b p) ≡ true

  pub debit_at_lem : (p : ℕ) → debit_on b k bin ≡ at p → DebitAt p
  unfolding debit_on
  debit_at_lem p h =
      by_found (waiting b bin)
      (λ j e.
      by_bool (has_debit k (payments_at b j))
      (λ f. let g : at j ≡ at p = rw (e, f) at h in let i : j ≡ p = cc in rw (sym i) (record { waits = e; has = f }))
      (λ f. let g : nowhere ≡ at p = rw (e, f) at h in not_found g))
      (λ e. let g : nowhere ≡ at p = rw e at h in not_found g)

module _ (s : State) (code letter k : ℕ) (bin : Code) (esa : member letter (bytes "ADP") ≡ true) (bank : bank_place s.house code ≡ at k) where
  status_nothing : debit_on s.batches k bin ≡ nowhere → status s code bin letter ≡ untouched s NothingThere
  unfolding status debit_on
  status_nothing h =
      by_found (waiting s.batches bin)
      (λ p e.
      by_bool (has_debit k (payments_at s.batches p))
      (λ f. let g : at p ≡ nowhere = rw (e, f) at h in not_found (sym g))
      (λ f. rw (esa, bank, e, f)))
      (λ e. rw (esa, bank, e))

  status_changes : (p : ℕ) → DebitAt s.batches k bin p
      → status s code bin letter ≡ leaving s (Ok tt) [] (place p ∷ []) (with_place s.batches p (with_letter k letter (place_at s.batches p))) s.known
  unfolding status
  status_changes p d = rw (esa, bank, d.waits, d.has)

-- ---- in the terms of the code

module _ (banks : ℕ) (codes : List ℕ) (t q : List ℕ) (nq : ℕ) (w : List ℕ) (nw : ℕ) (code letter : ℕ) (bin : Code)
    (pre : Ready t q nq w nw × Stood banks (seen t q nq w nw) × (banks ≤ length codes)) (v : Bool) (esa : v ≡ member letter (bytes "ADP")) where
  abbrev Leaves : List ℕ → Refusal → Type 0
  Leaves m f =
      Ready t q nq w nw
      × ((s : State) → s.house.banks ≡ banks → s.house.codes ≡ codes → s.batches ≡ seen t q nq w nw
      → Changed s (status s code bin letter) (Err f) (seen t q nq w nw) s.books.sublimits m m)

  leaves : (m : List ℕ) (f : Refusal)
      → ((s : State) → s.house.banks ≡ banks → s.house.codes ≡ codes → s.batches ≡ seen t q nq w nw → status s code bin letter ≡ untouched s f) → Leaves m f
  leaves m f h = (pre.0, λ s b c e. rw (h s b c e, sym e) (untouched_so s f s.books.sublimits m refl))

  pub wrong_letter_lem : (m : List ℕ) → not v ≡ true → Leaves m WrongEsa
  unfolding status
  wrong_letter_lem m n = leaves m WrongEsa (λ s b c e. let g : member letter (bytes "ADP") ≡ false = sym esa ∙ not-true v n in rw g)

  module _ (n : not v ≡ false) (r : Option ℕ) (is : found_by r ≡ bank_place (banks_house banks codes []) code) where
    is_letter_lem : member letter (bytes "ADP") ≡ true
    is_letter_lem = sym esa ∙ not-false v n

    pub unknown_bank : (m : List ℕ) → r ≡ None → Leaves m UnknownBank
    unfolding status
    unknown_bank m h = leaves m UnknownBank (λ s b c e. let g : bank_place s.house code ≡ nowhere = bank_there banks codes code r is s b c ∙ rw h in rw (is_letter_lem, g))

    module _ (k : ℕ) (h : r ≡ Some k) (d : Option ℕ) (so : found_by d ≡ debit_on (seen t q nq w nw) k bin) where
      known_bank : (s : State) → s.house.banks ≡ banks → s.house.codes ≡ codes → bank_place s.house code ≡ at k
      known_bank s b c = bank_there banks codes code r is s b c ∙ rw h

      pub no_debit : (m : List ℕ) → d ≡ None → Leaves m NothingThere
      no_debit m f = leaves m NothingThere (λ s b c e. status_nothing s code letter k bin is_letter_lem (known_bank s b c) (rw e (sym so ∙ rw f)))

      module _ (p : ℕ) (f : d ≡ Some p) where
        debit : DebitAt (seen t q nq w nw) k bin p
        debit = debit_at_lem (seen t q nq w nw) k bin p (sym so ∙ rw f)

        waits : Waits t q nq w nw bin p
        waits = waits_at t q nq w nw bin p debit.waits

        pub letterable : (p < 32) × (length t ≡ 11168) × (word (get_or (batch_rows t) p []) 8 ≤ 100) × (letter < 256)
        letterable = (
          waits.below,
          pre.0.table.long,
          (all_counted banks t q nq w nw pre.0 pre.1 p waits.below (live_word t p waits.there)).payments,
          a_byte letter is_letter_lem,
        )

        pub changes : (m t' : List ℕ) → length t' ≡ length t
            → batch_rows t' ≡ set (batch_rows t) p (reletter_from k letter (get_or (batch_rows t) p []) 49 (word (get_or (batch_rows t) p []) 8))
            → (m' : List ℕ) → m' ≡ set m p 0
            → Ready t' q nq w nw
            × ((s : State) → s.house.banks ≡ banks → s.house.codes ≡ codes → s.batches ≡ seen t q nq w nw
            → Changed s (status s code bin letter) (Ok tt) (seen t' q nq w nw) s.books.sublimits m m')
        unfolding woken
        changes m t' l i m' j =
            let z = relettered_became banks t q nq w nw pre.0 pre.1 k letter p waits.below waits.there is_letter_lem t' l i in (
              z.ready,
              λ s b c e.
                  rw (status_changes s code letter k bin is_letter_lem (known_bank s b c) p (rw e debit), e) (record {
                    answered = refl;
                    batches = z.is;
                    books = refl;
                    known = refl;
                    replies = refl;
                    memory = j;
                  }),
            )
