-- What the queue test does to the batch places and to the accounts.
use Prim.Native.Nat.{ℕ, zero, suc, ◌+◌, ◌-◌, ◌≤◌, ◌<◌}
use mathlib.Core.Path.{◌≡◌, refl, ap, ◌∙◌}
use mathlib.Core.Bool.{Bool}
use mathlib.Core.List.{List, [], ◌∷◌, ◌++◌}
use native.Mathlib.Omega.{arith}
use lib.ListN.{length, get_or, set, drop, length-set}
use lib.Seq.{get_or-set_other, drop-set-lt}
use Rattle.settle.specs.Payments.{Payment, credit, debit}
use Rattle.settle.specs.Settlement.{Accounts, paid, settled}
use Rattle.settle.specs.Rules.{Ranged, Books}
use Rattle.queue.specs.Promise.{All, Trail, halt, pass, Fair, sublimited}
use Rattle.queue.specs.Tests.{Turn, Outcome, stays, leaves, some, turn, walk, test, fuel}
use Rattle.queue.specs.declared.Step.{Step}
use Rattle.queue.specs.declared.Step.TheVariants.{Omitted, Failed, Passed}
use Rattle.queue.proofs.MemoryLaws.{by_bool}
use Rattle.queue.proofs.Steps.{test_stop, test_more}
use Rattle.queue.proofs.Trail.{test_trail, test_each}
use Rattle.queue.proofs.Balances.{trail_length, trail_sublimits, trail_total}
use Rattle.book_read.specs.Range.{Each}
use Rattle.model.specs.State.{House, Message, Place, Batches, place_payments, payments_at, payments_of}
use Rattle.model.specs.Rules.{Priced, RightMessage, RightHouse}
use Rattle.model.proofs.Seeking.{each_set}
use Rattle.model.proofs.Counting.{times, times_append, times_all}
use Rattle.model.proofs.Standing.{Standing, vacant, building, awaits, stands, Stood}

-- ---- each queued place is left in the queue or settled

module _ (quick : Bool) (batch : ℕ → List Payment) where
  step_times : (s : Step) (p x : ℕ) → times p (stays s x) + times p (leaves s x) ≡ times p (x ∷ [])
  unfolding times
  step_times Omitted p x = omega arith
  step_times Failed p x = omega arith
  step_times Passed p x = omega arith

  walk_times : (p : ℕ) (a : Accounts) (m q : List ℕ) → times p (walk quick batch a m q).queue + times p (walk quick batch a m q).done ≡ times p q
  unfolding walk times
  walk_times p a m [] = refl
  walk_times p a m (x ∷ q) =
      let t : Turn = turn quick batch a m x in
      let w : Outcome = walk quick batch t.books t.memory q in
      omega (arith, walk_times p t.books t.memory q, step_times t.step p x, times_append p (stays t.step x) w.queue, times_append p (leaves t.step x) w.done)

  pub test_times : (f p : ℕ) (a : Accounts) (m q : List ℕ) → times p (test quick batch f a m q).queue + times p (test quick batch f a m q).done ≡ times p q
  unfolding test times
  test_times zero p a m q = omega arith
  test_times (suc f) p a m q =
      let r : Outcome = walk quick batch a m q in
      let s : Outcome = test quick batch f r.books r.memory r.queue in
      by_bool (some r.done)
      (λ e. rw (test_more quick batch f a m q e) (omega (arith, walk_times p a m q, test_times f p r.books r.memory r.queue, times_append p r.done s.done)))
      (λ e. rw (test_stop quick batch f a m q e) (walk_times p a m q))

-- ---- queued batches are fair

module _ (banks : ℕ) where
  pub each_append : {A : Type 0} (P : A → Type 0) (a b : List A) → Each P a → Each P b → Each P (a ++ b)
  each_append P [] b f g = g
  each_append P (x ∷ a) b f g = (f.0, each_append P a b f.1 g)

  pub payments_priced : (n : ℕ) (ms : List Message) → Each (RightMessage banks n) ms → Each (Priced banks) (payments_of ms)
  payments_priced n [] h = tt
  payments_priced n (m ∷ ms) h = each_append (Priced banks) m.payments (payments_of ms) h.0.priced (payments_priced n ms h.1)

  ranged : banks ≤ 64 → (ps : List Payment) → Each (Priced banks) ps → Ranged ps
  unfolding Ranged
  ranged l [] h = tt
  ranged l (p ∷ ps) h = ((omega (arith, h.0.known), h.0.money), ranged l ps h.1)

  -- a batch that may settle
  pub record Settles (ps : List Payment) : Type 0 where
    pub fair : Fair ps
    pub priced : Each (Priced banks) ps

  queued_settles : banks ≤ 64 → {x : Place} {m n : ℕ} → Standing banks x m n → 0 < n → Settles (place_payments x)
  queued_settles l vacant h = absurd (omega arith)
  queued_settles l (building r c) h = absurd (omega arith)
  queued_settles l (awaits r c g) h = absurd (omega arith)
  queued_settles l (stands {b = b} r c) h =
      let e : Each (Priced banks) (payments_of b.messages) = payments_priced b.count b.messages r.messages in
      record { fair = record { ranged = ranged l (payments_of b.messages) e; distinct = r.banks_differ; even = c.even }; priced = e }

  pub all_settle : banks ≤ 64 → (b : Batches) → Stood banks b → All (λ p. Settles (payments_at b p)) b.queue
  all_settle l b h = times_all (λ p. Settles (payments_at b p)) b.queue (λ p. queued_settles l (h.each p))

-- ---- accounts past the banks stay zero

past_at : (n k : ℕ) (l : List ℕ) → Each (λ x. x ≡ 0) (drop n l) → n ≤ k → get_or l k 0 ≡ 0
past_at n k [] h e = refl
past_at zero zero (x ∷ l) h e = h.0
past_at zero (suc k) (x ∷ l) h e = past_at zero k l h.1 (omega arith)
past_at (suc n) zero (x ∷ l) h e = absurd (omega arith)
past_at (suc n) (suc k) (x ∷ l) h e = past_at n k l h (omega arith)

at_past : (n : ℕ) (l : List ℕ) → ((k : ℕ) → n ≤ k → get_or l k 0 ≡ 0) → Each (λ x. x ≡ 0) (drop n l)
at_past zero [] h = tt
at_past zero (x ∷ l) h = (h 0 (omega arith), at_past zero l (λ k e. h (suc k) (omega arith)))
at_past (suc n) [] h = tt
at_past (suc n) (x ∷ l) h = at_past n l (λ k e. h (suc k) (omega arith))

module _ (n k : ℕ) (past : n ≤ k) where
  settled_past : (b : List ℕ) (ps : List Payment) → Each (Priced n) ps → get_or (settled b ps) k 0 ≡ get_or b k 0
  unfolding settled paid
  settled_past b [] h = refl
  settled_past b (credit j c ∷ ps) h = settled_past (set b j (get_or b j 0 + c)) ps h.1 ∙ get_or-set_other b j k _ 0 (λ e. omega (arith, h.0.known))
  settled_past b (debit l j c ∷ ps) h = settled_past (set b j (get_or b j 0 - c)) ps h.1 ∙ get_or-set_other b j k _ 0 (λ e. omega (arith, h.0.known))

  trail_past : {batch : ℕ → List Payment} {a v : Accounts} {ps : List ℕ} → All (λ p. Settles n (batch p)) ps → Trail batch a ps v → get_or v.balances k 0 ≡ get_or a.balances k 0
  trail_past f halt = refl
  trail_past {batch = batch} f (pass {a = a} {p = p} e t) = trail_past f.1 t ∙ settled_past a.balances (batch p) f.0.priced

all_fair : (n : ℕ) (batch : ℕ → List Payment) (ps : List ℕ) → All (λ p. Settles n (batch p)) ps → All (λ p. Fair (batch p)) ps
all_fair n batch [] h = tt
all_fair n batch (p ∷ ps) h = (h.0.fair, all_fair n batch ps h.1)

pub house_books : (h : House) (a : Accounts) → RightHouse h a.balances a.sublimits → Books a.balances a.sublimits
house_books h a r = record { b_long = r.balances_long; l_long = r.sublimits_long; bounded = r.total }

-- "total in range", and all that is said of the accounts, after any settled batches
pub house_after : (h : House) {batch : ℕ → List Payment} {a v : Accounts} {ps : List ℕ} → RightHouse h a.balances a.sublimits → All (λ p. Settles h.banks (batch p)) ps
    → Trail batch a ps v → RightHouse h v.balances v.sublimits
house_after h {batch = batch} {a = a} {v = v} {ps = ps} r f t =
    let e : v.sublimits ≡ a.sublimits = trail_sublimits t in
    record {
      few_streams = r.few_streams;
      stream_codes_short = r.stream_codes_short;
      administrators = r.administrators;
      streams_rise = r.streams_rise;
      few_banks = r.few_banks;
      codes_long = r.codes_long;
      flags_long = r.flags_long;
      balances_long = trail_length t ∙ r.balances_long;
      sublimits_long = ap length e ∙ r.sublimits_long;
      bank_codes = r.bank_codes;
      banks_rise = r.banks_rise;
      flags_right = r.flags_right;
      sublimits_right = rw e r.sublimits_right;
      total = omega (arith, trail_total (all_fair h.banks batch ps f) (house_books h a r) t, r.total);
      codes_past = r.codes_past;
      flags_past = r.flags_past;
      balances_past = at_past h.banks v.balances (λ k l. trail_past h.banks k l f t ∙ past_at h.banks k a.balances r.balances_past l);
      sublimits_past = rw e r.sublimits_past;
    }

-- ---- a sub-limit change

pub house_sublimited : (h : House) (a : Accounts) (k v : ℕ) → RightHouse h a.balances a.sublimits → k < h.banks → v ≤ 6400000000000000
    → RightHouse h (sublimited a k v).balances (sublimited a k v).sublimits
unfolding sublimited
house_sublimited h a k v r b l = record {
  few_streams = r.few_streams;
  stream_codes_short = r.stream_codes_short;
  administrators = r.administrators;
  streams_rise = r.streams_rise;
  few_banks = r.few_banks;
  codes_long = r.codes_long;
  flags_long = r.flags_long;
  balances_long = r.balances_long;
  sublimits_long = length-set a.sublimits k v ∙ r.sublimits_long;
  bank_codes = r.bank_codes;
  banks_rise = r.banks_rise;
  flags_right = r.flags_right;
  sublimits_right = each_set (λ x. x ≤ 6400000000000000) a.sublimits k v r.sublimits_right l;
  total = r.total;
  codes_past = r.codes_past;
  flags_past = r.flags_past;
  balances_past = r.balances_past;
  sublimits_past = rw (drop-set-lt h.banks a.sublimits k v b) r.sublimits_past;
}

-- ---- the whole test

module _ (h : House) (b : Batches) (a : Accounts) (quick : Bool) (m : List ℕ) (r : RightHouse h a.balances a.sublimits) (s : Stood h.banks b) where
  abbrev out : Outcome
  out = test quick (payments_at b) (fuel b.queue) a m b.queue

  pub gone_settle : All (λ p. Settles h.banks (payments_at b p)) out.done
  gone_settle = (test_each quick (payments_at b) (λ p. Settles h.banks (payments_at b p)) (fuel b.queue) a m b.queue (all_settle h.banks r.few_banks b s)).gone

  pub gone_fair : All (λ p. Fair (payments_at b p)) out.done
  gone_fair = all_fair h.banks (payments_at b) out.done gone_settle

  pub house_tested : RightHouse h out.books.balances out.books.sublimits
  house_tested = house_after h r gone_settle (test_trail quick (payments_at b) (fuel b.queue) a m b.queue)
