-- Every action keeps the rules of references and BINs, and of live BINs.
use Prim.Native.Nat.{ℕ}
use mathlib.Core.Path.{◌≡◌, refl, sym, ap, ◌∙◌}
use mathlib.Core.Logic.{◌⊎◌, inl, inr}
use mathlib.Core.Bool.{Bool, true, false, false≢true}
use mathlib.Core.List.{List, [], ◌∷◌}
use native.Mathlib.Omega.{arith}
use lib.ListN.{get_or, set}
use lib.Seq.{get_or-set_same}
use Rattle.codes.specs.Codes.{unpacked, named, spelled, long_text, long_of, pack_on, no_code}
use Rattle.codes.specs.declared.Code.{Code}
pub use Rattle.text_names.proofs.rules.Laws.{same_code_lem}
use Rattle.request_read.specs.declared.whole.Outcome.TheVariants.{Settlement, Recall}
use Rattle.request_read.specs.declared.whole.Reading.{Reading}
use Rattle.queue.proofs.MemoryLaws.{by_bool}
use Rattle.model.specs.State.{same_code, Batch, Place, free, live, Batches, Known, State, place_at}
use Rattle.model.specs.Messages.{Acted, today, reference, bin, with_reference, with_message, ended, first_batch}
use Rattle.model.specs.Changes.{with_letter}
use Rattle.model.specs.Ending.{emptied}
use Rattle.model.specs.Rules.{is_reference, is_bin, RightKnown, remembered, Unlike, has}
use Rattle.model.proofs.Admitting.{Gives}
use Rattle.model.proofs.Noting.{unlike_used, Noted}
use Rattle.model.proofs.Noting.{noted as note-keeps}
use Rattle.model.proofs.Bins.{LiveWith, Binned, binned_more, binned_same, binned_new}
use Rattle.model.proofs.Doing.{New, Start, going, begun, Joins, Did, sent, idle, sublimits, letters, alone, repeats, recalls, completes, grows, rejects}

-- ---- a right reference or BIN is a code

no_reference_lem : is_reference no_code ≡ false
unfolding long_text named spelled unpacked long_of pack_on
no_reference_lem = refl

no_bin_lem : is_bin no_code ≡ false
unfolding long_text named spelled unpacked long_of pack_on
no_bin_lem = refl

pub some_code : (is : Code → Bool) → is no_code ≡ false → (c : Code) → is c ≡ true → same_code c no_code ≡ false
some_code is n c h = by_bool (same_code c no_code) (λ e. absurd (false≢true (sym n ∙ ap is (sym (same_code_lem c no_code e)) ∙ h))) (λ e. e)

pub bin_code : (c : Code) → is_bin c ≡ true → same_code c no_code ≡ false
bin_code c h = some_code (λ d. is_bin d) no_bin_lem c h

pub unlike_none : (c : Code) (l : List Code) → Unlike c l → has c l ≡ false
unlike_none c [] u = refl
unlike_none c (d ∷ l) u = rw u.0 (unlike_none c l u.1)

unlike_has : (c d : Code) (l : List Code) → Unlike c l → has d l ≡ true → same_code c d ≡ false
unlike_has c d l u h = by_bool (same_code c d) (λ e. absurd (false≢true (sym (unlike_none c l u) ∙ ap (λ (x : Code). has x l) (same_code_lem c d e) ∙ h))) (λ e. e)

module _ (s : State) (r : Reading) (g : Gives r) where
  -- ---- references

  pub named_reference : New s r → is_reference (reference s r) ≡ true
  named_reference n = go n.read
    where
      go : (r.outcome ≡ Settlement) ⊎ (r.outcome ≡ Recall) → is_reference (reference s r) ≡ true
      go (inl e) = (g.settlement e).reference
      go (inr e) = g.recall e

  pub reference_noted : New s r → Noted (today s) (reference s r) s.known.references (with_reference s r).references
  reference_noted n = note-keeps (today s) (reference s r) (some_code (λ d. is_reference d) no_reference_lem (reference s r) (named_reference n)) s.known.references n.fits

  module _ (h : RightKnown (today s) s.known) where
    noted_right : New s r → RightKnown (today s) (with_reference s r)
    noted_right n =
        let k = reference_noted n in
        record {
          references_long = k.size ∙ h.references_long;
          bins_long = h.bins_long;
          references = k.entries (λ d. is_reference d) (today s) (named_reference n) (omega arith) h.references;
          bins = h.bins;
          references_once = k.once n.unused h.references_once;
          bins_once = h.bins_once;
        }

    -- a BIN that was not remembered is noted too
    start_right : {b : Batches} {k : Known} {p : ℕ} {x : Batch} → r.outcome ≡ Settlement → New s r → Start s r b k p x → RightKnown (today s) k
    start_right i n (going a e) = noted_right n
    start_right i n (begun a u v) =
        let t = g.settlement i in
        let m = note-keeps (today s) (bin s r) (bin_code (bin s r) t.bin) s.known.bins v in
        let w = noted_right n in
        record {
          references_long = w.references_long;
          bins_long = m.size ∙ h.bins_long;
          references = w.references;
          bins = m.entries (λ d. is_bin d) (today s) t.bin (omega arith) h.bins;
          references_once = w.references_once;
          bins_once = m.once u h.bins_once;
        }

    joins_right : {b : Batches} {k : Known} {p : ℕ} {x : Batch} → Joins s r b k p x → RightKnown (today s) k
    joins_right j = start_right j.settlement j.new j.start

    pub known_kept : {a : Acted} → Did s r a → RightKnown (today s) a.known
    known_kept (sent (idle n)) = h
    known_kept (sublimits k x b l) = h
    known_kept (letters k x p c m w) = h
    known_kept (sent (alone n y q w)) = noted_right w
    known_kept (sent (repeats p c f i)) = h
    known_kept (sent (recalls p f n w)) = noted_right n
    known_kept (sent (completes stream b k p x j d e f)) = joins_right j
    known_kept (sent (grows stream b k p x j d e)) = joins_right j
    known_kept (sent (rejects f b k p x j)) = joins_right j

  -- ---- live BINs

  abbrev rem : Known → List Code
  rem k = remembered (today s) k.bins

  module _ (h : Binned (rem s.known) s.batches.places) where
    pub record Started (b : Batches) (k : Known) (p : ℕ) (x : Batch) : Type 0 where
      pub binned : Binned (rem k) b.places
      pub there : LiveWith (place_at b p) x.bin

    start_binned : {b : Batches} {k : Known} {p : ℕ} {x : Batch} → r.outcome ≡ Settlement → Start s r b k p x → Started b k p x
    start_binned i (going {p = p} {x = x} a e) = record { binned = h; there = rw e refl }
    start_binned i (begun {p = p} a u v) =
        let m = note-keeps (today s) (bin s r) (bin_code (bin s r) (g.settlement i).bin) s.known.bins v in
        let old = unlike_used (today s) (bin s r) (bin_code (bin s r) (g.settlement i).bin) s.known.bins u in
        record {
          binned = binned_new _ s.batches.places p (first_batch s r) (binned_more (rem s.known) _ s.batches.places h m.stays) m.there
              (λ q d l. unlike_has (bin s r) d (rem s.known) old (h.known q d l));
          there = rw (get_or-set_same s.batches.places p (live (first_batch s r)) free a.inside) refl;
        }

    none_live : (k : List Code) (ps : List Place) (p : ℕ) → Binned k ps → Binned k (set ps p free)
    none_live k ps p b = binned_same k ps p free b (λ c l. absurd l)

    bin_stays : (k : List Code) (ps : List Place) (p : ℕ) (x : Batch) → Binned k ps → LiveWith (get_or ps p free) x.bin → Binned k (set ps p (live (with_message s r x)))
    bin_stays k ps p x b l = binned_same k ps p (live (with_message s r x)) b (λ c e. rw e at l)

    letter_bin : (k x : ℕ) (y : Place) (c : Code) → LiveWith (with_letter k x y) c → LiveWith y c
    letter_bin k x free c l = l
    letter_bin k x (live b) c l = l

    pub bins_kept : {a : Acted} → Did s r a → Binned (rem a.known) a.batches.places
    unfolding ended
    bins_kept (sent (idle n)) = h
    bins_kept (sublimits k x b l) = h
    bins_kept (letters k x p c m w) = binned_same (rem s.known) s.batches.places p _ h (letter_bin k x (place_at s.batches p))
    bins_kept (sent (alone n y q w)) = h
    bins_kept (sent (repeats p c f i)) = none_live (rem s.known) s.batches.places p h
    bins_kept (sent (recalls p f n w)) = none_live (rem s.known) s.batches.places p h
    bins_kept (sent (completes stream b k p x j d e f)) = let i = start_binned j.settlement j.start in bin_stays (rem k) b.places p x i.binned i.there
    bins_kept (sent (grows stream b k p x j d e)) = let i = start_binned j.settlement j.start in bin_stays (rem k) b.places p x i.binned i.there
    bins_kept (sent (rejects f b k p x j)) = none_live (rem k) b.places p (start_binned j.settlement j.start).binned

-- the places that the test empties
pub bins_emptied : (k : List Code) (done : List ℕ) (ps : List Place) → Binned k ps → Binned k (emptied done ps)
unfolding emptied
bins_emptied k [] ps h = h
bins_emptied k (p ∷ done) ps h = bins_emptied k done (set ps p free) (binned_same k ps p free h (λ c l. absurd l))
