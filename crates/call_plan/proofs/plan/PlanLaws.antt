-- What is chosen at each step.
use Prim.Native.Nat.{ℕ, zero, suc, ◌+◌, ◌*◌, ◌<◌}
use mathlib.Core.Path.{◌≡◌, sym, ap, ◌∙◌}
use mathlib.Core.Bool.{Bool, false, not}
use mathlib.Core.List.{List}
use native.Mathlib.Omega.{arith}
use borrow.Author.Tests.{eq-eqb, ne_eqb, not-false}
use lib.Dec.{eqb}
use lib.ListN.{get_or}
use Rattle.chars.specs.declared.Refusal.{Refusal}
use Rattle.chars.specs.declared.Refusal.TheVariants.{NoRoom, WrongSender, UsedReference, Malformed}
use Rattle.codes.specs.declared.Code.{Code}
use Rattle.text_fields.specs.declared.Break.{Break}
use Rattle.request_read.specs.declared.whole.Head.{Head}
use Rattle.request_read.specs.declared.whole.Reached.TheVariants.{Nothing, Stream as ToStream, Bin as ToBin}
use Rattle.book_read.specs.Accounts.{Stream}
use Rattle.book_read.specs.Book.{each}
use Rattle.book_write.specs.Closing.{stream_of}
use Rattle.book_read.proofs.Filling.{each_length}
use Rattle.model.specs.State.{at, nowhere, seek, Place, Batches, Entry, is_free}
use Rattle.model.specs.Memory.{vacant}
use Rattle.model.specs.Messages.{no_stream, is_broken_part, stream_place, assembling, waiting}
use Rattle.model.proofs.Seeking.{seek_answers, by_found}
use Rattle.tables.specs.declared.Desk.{Desk}
use Rattle.tables.specs.Seeking.{found_by}
use Rattle.tables.specs.Rows.{streams_on}
use Rattle.call_plan.specs.declared.entries.Looked.{Looked}
use Rattle.call_plan.specs.declared.entries.Looked.TheVariants.{Used, Free, Full}
use Rattle.call_plan.specs.entries.Looking.{Looks}
use Rattle.call_plan.specs.rules.Steps.{streams_house}
use Rattle.call_plan.specs.declared.plan.Plan.{Plan}
use Rattle.call_plan.specs.declared.plan.Plan.TheVariants.{Untouched, Rejects, Alone, Comes, Begins, RecallsNone, Recalls}
use Rattle.std.specs.Prelude.{Result, Ok, Err, Option, Some, None}
use Rattle.call_plan.specs.plan.Plans.{sent_on, rejects_on, known_on, new_on, noted_on, settlement_on, recall_on, broken_on}

-- ---- the sender's stream

each_at : {A : Type 0} (f : ℕ → A) (i n j : ℕ) (d : A) → j < n → get_or (each f i n) j d ≡ f (i + j)
each_at f i zero j d h = absurd (omega arith)
each_at f i (suc n) zero d h = let e : i + 0 ≡ i = omega arith in rw e
each_at f i (suc n) (suc j) d h = each_at f (i + 1) n j d (omega arith) ∙ ap f (omega arith)

module _ (d : Desk) (sender code : ℕ) (s : Option ℕ) (is : found_by s ≡ stream_place (streams_house d.streams d.n) code) where
  sought : found_by s ≡ seek (λ (x : Stream). eqb x.code code) (streams_on d)
  unfolding stream_place
  sought = is

  pub sent_none : s ≡ None → Err Malformed ≡ sent_on (streams_on d) sender code
  unfolding sent_on
  sent_none e = rw (sym sought, e)

  module _ {i : ℕ} (e : s ≡ Some i) where
    found : seek (λ (x : Stream). eqb x.code code) (streams_on d) ≡ at i
    found = sym sought ∙ rw e

    pub stream_below : i < d.n
    stream_below = omega (arith, (seek_answers (λ (x : Stream). eqb x.code code) no_stream (streams_on d) i found).inside, each_length (stream_of d.streams) 0 d.n)

    sender_at : (get_or (streams_on d) i no_stream).sender ≡ get_or d.streams (2 * i + 1) 0
    sender_at =
        let e : 0 + i ≡ i = omega arith in
        let f : get_or (streams_on d) i no_stream ≡ stream_of d.streams (0 + i) = each_at (stream_of d.streams) 0 d.n i no_stream stream_below in
        ap (λ (x : Stream). x.sender) f ∙ ap (λ (k : ℕ). get_or d.streams (2 * k + 1) 0) e

    pub sent_in : sender ≡ get_or d.streams (2 * i + 1) 0 → Ok i ≡ sent_on (streams_on d) sender code
    unfolding sent_on
    sent_in f = rw (found, sender_at, eq-eqb sender (get_or d.streams (2 * i + 1) 0) f)

    pub sent_not : (sender ≡ get_or d.streams (2 * i + 1) 0 → ⊥) → Err WrongSender ≡ sent_on (streams_on d) sender code
    unfolding sent_on
    sent_not f = rw (found, sender_at, ne_eqb sender (get_or d.streams (2 * i + 1) 0) f)

-- ---- a 131

module _ (s : Option ℕ) where
  pub refused_here : (f : Refusal) (p : ℕ) → s ≡ Some p → Rejects p f ≡ rejects_on (found_by s) f
  refused_here f p e = rw e

  pub refused_none : (f : Refusal) → s ≡ None → Untouched f ≡ rejects_on (found_by s) f
  refused_none f e = rw e

  module _ (stream q : ℕ) where
    pub known_here : (p : ℕ) → s ≡ Some p → Comes p stream q ≡ known_on (found_by s) stream q
    known_here p e = rw e

    pub known_none : s ≡ None → Alone q ≡ known_on (found_by s) stream q
    known_none e = rw e

    module _ (k : ℕ) where
      pub new_none : s ≡ None → Untouched NoRoom ≡ new_on (found_by s) (at k) stream q
      new_none e = rw e

      pub new_here : (p : ℕ) → s ≡ Some p → Begins p stream q k ≡ new_on (found_by s) (at k) stream q
      new_here p e = rw e

-- what was looked for: there is no place, or there is one
module _ (today : ℕ) (code : Code) (es : List Entry) {l : Looked} (is : Looks today code es l) where
  is_full : l ≡ Full → vacant today es ≡ nowhere
  is_full e = sym (is.free (rw e)) ∙ rw e

  is_at : {p : ℕ} → l ≡ Free p → vacant today es ≡ at p
  is_at e = sym (is.free (rw e)) ∙ rw e

module _ (today : ℕ) (places : List Place) (bins : List Entry) (s : Option ℕ) (stream q : ℕ) (bin : Code) {l : Looked} (is : Looks today bin bins l) where
  pub noted_known : {c : Plan} → l ≡ Used → c ≡ known_on (found_by s) stream q → c ≡ noted_on today places bins (found_by s) stream q bin
  unfolding noted_on
  noted_known e f = f ∙ rw (sym is.used, e)

  pub noted_full : l ≡ Full → Untouched NoRoom ≡ noted_on today places bins (found_by s) stream q bin
  unfolding noted_on
  noted_full e =
      let v : vacant today bins ≡ nowhere = is_full today bin bins is e in
      by_found (seek is_free places)
      (λ p f. rw (sym is.used, e, v, f))
      (λ f. rw (sym is.used, e, v, f))

  pub noted_new : {c : Plan} {k : ℕ} (u : Option ℕ) → l ≡ Free k → found_by u ≡ seek is_free places → c ≡ new_on (found_by u) (at k) stream q
      → c ≡ noted_on today places bins (found_by s) stream q bin
  unfolding noted_on
  noted_new u e f g = let v = is_at today bin bins is e in g ∙ rw (sym is.used, e, v, sym f)

module _ (today : ℕ) (b : Batches) (references bins : List Entry) (stream : ℕ) (reference bin : Code) (s : Option ℕ) (there : found_by s ≡ assembling b bin)
    {l : Looked} (is : Looks today reference references l) where
  pub settlement_used : {c : Plan} → l ≡ Used → c ≡ rejects_on (found_by s) UsedReference → c ≡ settlement_on today b references bins stream reference bin
  unfolding settlement_on
  settlement_used e f = f ∙ rw (sym is.used, e, sym there)

  pub settlement_full : l ≡ Full → Untouched NoRoom ≡ settlement_on today b references bins stream reference bin
  unfolding settlement_on
  settlement_full e = let v = is_full today reference references is e in rw (sym is.used, e, v)

  pub settlement_noted : {c : Plan} {q : ℕ} → l ≡ Free q → c ≡ noted_on today b.places bins (found_by s) stream q bin
      → c ≡ settlement_on today b references bins stream reference bin
  unfolding settlement_on
  settlement_noted e g = let v = is_at today reference references is e in g ∙ rw (sym is.used, e, v, sym there)

-- ---- a 133

module _ (today : ℕ) (b : Batches) (references : List Entry) (reference bin : Code) {l : Looked} (is : Looks today reference references l) where
  pub recall_used : l ≡ Used → Untouched UsedReference ≡ recall_on today b references reference bin
  unfolding recall_on
  recall_used e = rw (sym is.used, e)

  pub recall_full : l ≡ Full → Untouched NoRoom ≡ recall_on today b references reference bin
  unfolding recall_on
  recall_full e = let v = is_full today reference references is e in rw (sym is.used, e, v)

  module _ {q : ℕ} (e : l ≡ Free q) {s : Option ℕ} (there : found_by s ≡ waiting b bin) where
    pub recall_here : {p : ℕ} → s ≡ Some p → Recalls p q ≡ recall_on today b references reference bin
    unfolding recall_on
    recall_here g = let v = is_at today reference references is e in rw (sym is.used, e, v, sym there, g)

    pub recall_none : s ≡ None → RecallsNone q ≡ recall_on today b references reference bin
    unfolding recall_on
    recall_none g = let v = is_at today reference references is e in rw (sym is.used, e, v, sym there, g)

-- ---- a broken text

module _ (h : Head) (k : Break) where
  pub part_other : (h.subtype.number ≡ 131 → ⊥) → false ≡ is_broken_part h k
  part_other e = rw (ne_eqb h.subtype.number 131 e)

  module _ (e : h.subtype.number ≡ 131) where
    pub part_nothing : h.address.reached ≡ Nothing → false ≡ is_broken_part h k
    part_nothing f = rw (eq-eqb h.subtype.number 131 e, f)

    pub part_stream : h.address.reached ≡ ToStream → false ≡ is_broken_part h k
    part_stream f = rw (eq-eqb h.subtype.number 131 e, f)

    pub part_bin : h.address.reached ≡ ToBin → not k.missing ≡ is_broken_part h k
    part_bin f = rw (eq-eqb h.subtype.number 131 e, f)

module _ (streams : List Stream) (sender : ℕ) (h : Head) (k : Break) (b : Batches) {part : Bool} (is : part ≡ is_broken_part h k) where
  module _ (e : not part ≡ false) {s : Result ℕ Refusal} (from : s ≡ sent_on streams sender h.address.stream.number) where
    pub broken_not : {f : Refusal} → s ≡ Err f → Untouched k.refusal ≡ broken_on streams sender h k b
    unfolding broken_on
    broken_not g = rw (sym is, not-false part e, sym from, g)

    pub broken_in : {i : ℕ} {c : Plan} (u : Option ℕ) → s ≡ Ok i → found_by u ≡ assembling b h.address.bin.code → c ≡ rejects_on (found_by u) k.refusal
        → c ≡ broken_on streams sender h k b
    unfolding broken_on
    broken_in u g j l = l ∙ rw (sym is, not-false part e, sym from, g, sym j)
