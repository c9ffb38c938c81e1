-- Laws of written texts: one list of replies behind another, and when there is room.
use Prim.Native.Nat.{ℕ, ◌+◌, ◌*◌, ◌≤◌, ◌<◌}
use mathlib.Core.Path.{◌≡◌, refl, sym, ap, ◌∙◌}
use mathlib.Core.List.{List, [], ◌∷◌, ◌++◌, map, append_assoc}
use native.Mathlib.Omega.{arith}
use lib.ListN.{length, length-append}
use lib.Seq.{sets, length-sets}
use Rattle.codes.specs.declared.Code.{Code}
use Rattle.text_put.proofs.Laws.{sets_append}
use Rattle.response_write.specs.declared.Outcome.{Outcome}
use Rattle.response_write.specs.declared.Outcome.TheVariants.{Settled}
use Rattle.book_read.specs.Range.{Each}
use Rattle.model.specs.State.{Day, Message, Place, Batches, Entry, place_at, place_messages, place_bin}
use Rattle.model.specs.Replies.{Reply, replies_to, text_of, texts_from}
use Rattle.model.specs.Ending.{settled_replies, close_replies}
use Rattle.model.specs.Rules.{RightMemory}
use Rattle.model.proofs.Standing.{Stood}
use Rattle.model.proofs.Fitting.{Fits, texts_fit, ten}
use Rattle.tables.specs.Rows.{place_in, batch_rows, batches_in}
use Rattle.tables.specs.Words.{places_words}
use Rattle.tables.proofs.Held.{batches_held, batches_long}
use Rattle.call_texts.specs.Writing.{Wrote, Room, Legible}

-- ---- texts one after another

pub texts_append : (n : ℕ) (rs ss : List Reply) → texts_from n (rs ++ ss) ≡ texts_from n rs ++ texts_from (n + length rs) ss
unfolding texts_from
texts_append n [] ss = let e : n + 0 ≡ n = omega arith in rw e
texts_append n (r ∷ rs) ss =
    let e : n + length (r ∷ rs) ≡ n + 1 + length rs = omega arith in
    rw (e, append_assoc (text_of (n + 1) r) (texts_from (n + 1) rs) (texts_from (n + 1 + length rs) ss)) (ap (λ (l : List ℕ). text_of (n + 1) r ++ l) (texts_append (n + 1) rs ss))

module _ (n : ℕ) (rs ss : List Reply) where
  texts_longer : length (texts_from n (rs ++ ss)) ≡ length (texts_from n rs) + length (texts_from (n + length rs) ss)
  texts_longer = ap length (texts_append n rs ss) ∙ length-append (texts_from n rs) (texts_from (n + length rs) ss)

  pub room_first : {out : List ℕ} {at : ℕ} → Room out at n (rs ++ ss) → Room out at n rs
  room_first r = record { fits = omega (arith, r.fits, texts_longer); few = omega (arith, r.few, length-append rs ss) }

pub wrote_none : (out : List ℕ) (at n : ℕ) → Wrote out at n [] out at n
unfolding texts_from
wrote_none out at n = record { bytes = refl; end = omega arith; count = omega arith }

module _ {out : List ℕ} {at n : ℕ} {rs : List Reply} {out' : List ℕ} {at' n' : ℕ} (w : Wrote out at n rs out' at' n') where
  pub wrote_long : length out' ≡ length out
  wrote_long = ap length w.bytes ∙ length-sets out at (texts_from n rs)

  module _ (ss : List Reply) where
    on : texts_from n' ss ≡ texts_from (n + length rs) ss
    on = ap (λ (k : ℕ). texts_from k ss) w.count

    -- the rest is written where these end
    pub wrote_rest : sets out' at' (texts_from n' ss) ≡ sets out at (texts_from n (rs ++ ss))
    wrote_rest = rw (on, w.bytes, w.end, texts_append n rs ss) (sym (sets_append (texts_from n rs) (texts_from (n + length rs) ss) out at))

    pub wrote_end : at' + length (texts_from n' ss) ≡ at + length (texts_from n (rs ++ ss))
    wrote_end = omega (arith, ap length on, w.end, texts_longer n rs ss)

    pub wrote_count : n' + length ss ≡ n + length (rs ++ ss)
    wrote_count = omega (arith, w.count, length-append rs ss)

    pub room_rest : Room out at n (rs ++ ss) → Room out' at' n' ss
    room_rest r = record { fits = omega (arith, wrote_end, r.fits, wrote_long); few = omega (arith, wrote_count, r.few) }

    pub wrote_then : {out'' : List ℕ} {at'' n'' : ℕ} → Wrote out' at' n' ss out'' at'' n'' → Wrote out at n (rs ++ ss) out'' at'' n''
    wrote_then v = record { bytes = v.bytes ∙ wrote_rest; end = v.end ∙ wrote_end; count = v.count ∙ wrote_count }

-- ---- room from the engine's laws: "105 bytes" at the most for each

pub room_of : (out : List ℕ) (at n : ℕ) (rs : List Reply) → Each (λ y. Fits y) rs → at + 105 * length rs ≤ length out → n + length rs < 10000000 → Room out at n rs
room_of out at n rs f h k = record { fits = omega (arith, texts_fit n rs f, h); few = k }

-- ---- only places tell what is answered

pub replies_append : (ms ns : List Message) (bin : Code) (o : Outcome) → replies_to (ms ++ ns) bin o ≡ replies_to ms bin o ++ replies_to ns bin o
unfolding replies_to
replies_append [] ns bin o = refl
replies_append (m ∷ ms) ns bin o = rw (replies_append ms ns bin o)

module _ (b c : Batches) (same : b.places ≡ c.places) where
  places_same : (p : ℕ) → place_at b p ≡ place_at c p
  places_same p = rw same

  -- of the day only its date and clock
  pub settled_any : (d e : Day) → d.date ≡ e.date → d.clock ≡ e.clock → (done : List ℕ) → settled_replies d b done ≡ settled_replies e c done
  unfolding settled_replies
  settled_any d e f g [] = refl
  settled_any d e f g (p ∷ done) =
      let at_c : Outcome → List Reply = λ o. replies_to (place_messages (place_at c p)) (place_bin (place_at c p)) o in
      ap (λ (l : List Reply). l ++ settled_replies d b done)
      (ap (λ (x : Place). replies_to (place_messages x) (place_bin x) (Settled d.date d.clock)) (places_same p)
      ∙ ap (λ (k : ℕ). at_c (Settled k d.clock)) f
      ∙ ap (λ (k : ℕ). at_c (Settled e.date k)) g)
      ∙ ap (λ (l : List Reply). at_c (Settled e.date e.clock) ++ l) (settled_any d e f g done)

  pub close_any : (today : ℕ) (es : List Entry) → close_replies today b es ≡ close_replies today c es
  unfolding close_replies
  close_any today [] = refl
  close_any today (x ∷ es) = rw (close_any today es, same)

-- ---- the rules give ten messages at the most

module _ (banks : ℕ) (b : Batches) (s : Stood banks b) where
  pub legible : (t : List ℕ) → length t ≡ 11168 → map place_in (batch_rows t) ≡ b.places → Legible t
  legible t l e = record { long = l; few = λ p. rw e (ten banks b s (s.each p)) }

  pub words_legible : (t m : List ℕ) → RightMemory b m → t ≡ places_words b m 0 b.places → Legible t
  unfolding batches_in
  words_legible t m r e =
      legible t (ap length e ∙ batches_long banks b m s r)
      (ap (λ (x : List ℕ). map place_in (batch_rows x)) e ∙ ap (λ (x : Batches). x.places) (batches_held banks b m s r))
