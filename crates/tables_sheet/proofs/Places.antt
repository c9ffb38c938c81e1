-- A batch waits exactly where the phase of its row is pending or queued.
use Prim.Native.Nat.{ℕ, zero, suc, ◌+◌, ◌-◌, ◌*◌, ◌≤◌, ◌<◌}
use mathlib.Core.Path.{◌≡◌, refl, sym, ap, subst, ◌∙◌}
use mathlib.Core.Bool.{true, false, ◌||◌}
use mathlib.Core.List.{List, [], ◌∷◌}
use native.Mathlib.Omega.{arith}
use lib.Dec.{eqb, ltb}
use lib.ListN.{length, get_or, take, drop}
use borrow.Author.Tests.{ltb-true, ltb-false, ne_eqb}
use Rattle.chars.specs.Words.{member}
use Rattle.book_read.specs.Range.{Each}
use Rattle.settle.specs.Payments.{Payment}
use Rattle.settle.specs.Rules.{Ranged}
use Rattle.queue.specs.Promise.{taken}
use Rattle.queue.proofs.MemoryLaws.{by_bool}
use Rattle.model.specs.State.{place_payments, payments_at}
use Rattle.model.specs.Messages.{waits}
use Rattle.model.specs.Rules.{Priced}
use Rattle.tables.specs.Rows.{word, place_in, batch_rows, batches_in, ranked}
use Rattle.tables.proofs.RowLaws.{row_at, row_word}
use Rattle.tables_rules.specs.batch_rules.BatchRules.{payments_in, LiveRow, RowIn, RowRight, Ranked}
use Rattle.tables_rules.proofs.batch_rules.Ranks.{told}
use Rattle.tables_rules.proofs.batch_rules.RowWords.{from_long}
use Rattle.tables_rules.proofs.batch_rules.RowRules.{live_small}
use Rattle.tables_rules.proofs.batch_rules.Exact.{rows_many, rows_wide, each_at, live_in, batch_flat, place_at_lem}
use Rattle.tables_sheet.specs.Sheet.{Ruled, waiting_at, Readable, Addable, Added}

priced_ranged : (banks : ℕ) → banks ≤ 64 → (ps : List Payment) → Each (Priced banks) ps → Ranged ps
unfolding Ranged
priced_ranged banks l [] h = tt
priced_ranged banks l (p ∷ ps) h = ((omega (arith, h.0.known), h.0.money), priced_ranged banks l ps h.1)

module _ (t : List ℕ) (r : Ruled t) (p : ℕ) (h : p < 32) where
  abbrev rs : List (List ℕ)
  rs = batch_rows t

  abbrev row : List ℕ
  row = take 349 (drop (p * 349) t)

  here : get_or rs p [] ≡ row
  here = row_at 349 32 p t [] h

  wide : length row ≡ 349
  wide = rw here at (rows_wide 32 p t (omega (arith, r.rules.long)) h)

  kept : RowRight r.banks row
  kept = subst (λ (x : List ℕ). RowRight r.banks x) here (each_at r.banks rs p r.rules.rows)

  phase_at : word row 0 ≡ get_or t (p * 349 + 0) 0
  phase_at = row_word t p 0 (omega arith)

  told_here : (phase : ℕ) → Ranked phase rs → member p (ranked phase rs) ≡ eqb (word row 0) phase
  told_here phase k = sym (subst (λ (x : List ℕ). eqb (word x 0) phase ≡ member p (ranked phase rs)) here (told phase rs k p (omega (arith, rows_many 349 32 t))).on)

  waits_is : waits (batches_in t) p ≡ (eqb (word row 0) 2 || eqb (word row 0) 3)
  unfolding batches_in
  waits_is = rw (told_here 2 r.rules.pending, told_here 3 r.rules.queue)

  idle : word row 0 < 2 → waiting_at (batches_in t) p ≡ []
  idle l =
      let n : waits (batches_in t) p ≡ false = waits_is ∙ rw (ne_eqb (word row 0) 2 (λ e. omega arith), ne_eqb (word row 0) 3 (λ e. omega arith)) in
      rw n

  payments_here : LiveRow r.banks row → (n : ℕ) → word row 0 ≡ suc n → payments_at (batches_in t) p ≡ payments_in row
  unfolding batches_in
  payments_here v n e = ap place_payments (place_at_lem rs p ∙ ap place_in here ∙ live_in row n e) ∙ batch_flat r.banks row wide v

  -- what waits there is the row's payments
  record Waiting : Type 0 where
    live : LiveRow r.banks row
    payments : waiting_at (batches_in t) p ≡ payments_in row

  waiting_in : (w : ℕ) → word row 0 ≡ w → RowIn w r.banks row → 2 ≤ w → Waiting
  waiting_in zero e x l = absurd (omega arith)
  waiting_in (suc zero) e x l = absurd (omega arith)
  waiting_in (suc (suc zero)) e x l =
      let y : waits (batches_in t) p ≡ true = waits_is ∙ rw e in
      record { live = x.0; payments = rw y (payments_here x.0 1 e) }
  waiting_in (suc (suc (suc zero))) e x l =
      let y : waits (batches_in t) p ≡ true = waits_is ∙ rw e in
      record { live = x.0; payments = rw y (payments_here x.0 2 e) }
  waiting_in (suc (suc (suc (suc n)))) e x l = absurd x

  waiting : 2 ≤ word row 0 → Waiting
  waiting l = waiting_in (word row 0) refl kept l

  pub waiting_ranged : Ranged (waiting_at (batches_in t) p)
  unfolding Ranged
  waiting_ranged =
      by_bool (ltb (word row 0) 2)
      (λ e. rw (idle (ltb-true (word row 0) 2 e)) tt)
      (λ e. let w = waiting (ltb-false (word row 0) 2 e) in rw w.payments (priced_ranged r.banks r.few (payments_in row) w.live.payments.priced))

  pub waiting_few : length (waiting_at (batches_in t) p) ≤ 100
  waiting_few =
      by_bool (ltb (word row 0) 2)
      (λ e. rw (idle (ltb-true (word row 0) 2 e)) (omega arith))
      (λ e.
      let w = waiting (ltb-false (word row 0) 2 e) in
      rw w.payments (omega (arith, from_long row 49 (word row 8), live_small r.banks row wide w.live)))

  -- ---- the place, in the terms of the code

  abbrev lent : List ℕ
  lent = take (p * 349 + 349 - p * 349) (drop (p * 349) t)

  lent_is : lent ≡ row
  lent_is = let e : p * 349 + 349 - p * 349 ≡ 349 = omega arith in ap (λ (n : ℕ). take n (drop (p * 349) t)) e

  pub place_idle : get_or t (p * 349 + 0) 0 < 2 → (s : List ℕ) → Added s (waiting_at (batches_in t) p) s
  unfolding taken
  place_idle l s = rw (idle (omega (arith, phase_at))) (record { long = refl; totals = λ k b. omega arith })

  module _ (l : 2 ≤ get_or t (p * 349 + 0) 0) where
    w : Waiting
    w = waiting (omega (arith, phase_at))

    pub place_readable : Readable (take (p * 349 + 349 - p * 349) (drop (p * 349) t))
    place_readable = rw lent_is (record { long = wide; few = live_small r.banks row wide w.live })

    pub place_addable : (s : List ℕ) → Addable s (waiting_at (batches_in t) p) → Addable s (payments_in (take (p * 349 + 349 - p * 349) (drop (p * 349) t)))
    place_addable s a = rw lent_is (rw w.payments at a)

    pub place_added : (s after : List ℕ) → Added s (payments_in (take (p * 349 + 349 - p * 349) (drop (p * 349) t))) after → Added s (waiting_at (batches_in t) p) after
    place_added s after a = rw w.payments (rw lent_is at a)
