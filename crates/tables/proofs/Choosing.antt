-- Whichever test each call chooses, the tables that are left are equal but for the memory words.
use Prim.Native.Nat.{ℕ, zero, suc, ◌+◌, ◌-◌, ◌≤◌}
use mathlib.Core.Path.{◌≡◌, refl, sym, ap, subst, ◌∙◌}
use mathlib.Core.Bool.{Bool}
use mathlib.Core.List.{List, [], ◌∷◌, ◌++◌, map}
use native.Mathlib.Omega.{arith}
use lib.Dec.{ltb}
use lib.ListN.{length, get_or, get_or-append}
use lib.Seq.{sets, get_or-append-add}
use borrow.Author.Tests.{ltb-true, ltb-false}
use Rattle.queue.specs.Promise.{True}
use Rattle.queue.proofs.MemoryLaws.{by_bool}
use Rattle.model.specs.State.{Place, free, live, Batch, Batches, State, payments_at}
use Rattle.model.specs.Calls.{Call, Engine, Result, call, cleared, run}
use Rattle.model.specs.Promises.{View, by, view}
use Rattle.model.specs.Rules.{Valid, RightMemory}
use Rattle.model.proofs.Standing.{Stood}
use Rattle.model.proofs.Reading.{readers}
use Rattle.model.proofs.Agreement.{Faithful, call_alike, call_faithful, cleared_faithful}
use Rattle.model.proofs.Validity.{valid_kept, call_valid}
use Rattle.model.proofs.Holding.{call_memory, cleared_memory}
use Rattle.tables.specs.declared.Desk.{Desk}
use Rattle.tables.specs.Rows.{Tables}
use Rattle.tables.specs.Words.{batch_words, phase_of, rank_of, place_words, places_words, entries_words, sheet_words, tables_of, desk_of}
use Rattle.tables.specs.Lent.{Left, Long, Wiped, Cleared}
use Rattle.tables.specs.Running.{Lending, call_in, Ran, left_in, left_all}
use Rattle.tables.specs.Choosing.{choosing, is_memory, SameBut, AllSameBut}
use Rattle.tables.proofs.Batching.{AllLie, place_long}
use Rattle.tables.proofs.Held.{places_lie}
use Rattle.tables.proofs.Kept.{ran_by_the_rules}

-- ---- the words of two memories

same_batch : (phase rank m n : ℕ) (x : Batch) (i : ℕ) → (i ≡ 6 → ⊥) → get_or (batch_words phase rank m x) i 0 ≡ get_or (batch_words phase rank n x) i 0
unfolding batch_words
same_batch phase rank m n x zero h = refl
same_batch phase rank m n x (suc zero) h = refl
same_batch phase rank m n x (suc (suc zero)) h = refl
same_batch phase rank m n x (suc (suc (suc zero))) h = refl
same_batch phase rank m n x (suc (suc (suc (suc zero)))) h = refl
same_batch phase rank m n x (suc (suc (suc (suc (suc zero))))) h = refl
same_batch phase rank m n x (suc (suc (suc (suc (suc (suc zero)))))) h = absurd (h refl)
same_batch phase rank m n x (suc (suc (suc (suc (suc (suc (suc i))))))) h = refl

module _ (b : Batches) (m n : List ℕ) where
  same_place : (p : ℕ) (x : Place) (i : ℕ) → (i ≡ 6 → ⊥) → get_or (place_words b m p x) i 0 ≡ get_or (place_words b n p x) i 0
  same_place p free i h = refl
  same_place p (live x) i h = same_batch (phase_of b p) (rank_of b p) (get_or m p 0) (get_or n p 0) x i h

  same_words : (p : ℕ) (xs : List Place) → AllLie b m p xs → AllLie b n p xs → (i : ℕ) → (is_memory i → ⊥) → get_or (places_words b m p xs) i 0 ≡ get_or (places_words b n p xs) i 0
  unfolding places_words
  same_words p [] g h i w = refl
  same_words p (x ∷ xs) g h i w =
      let k = place_long b m p x g.0 in
      let l = place_long b n p x h.0 in
      by_bool (ltb i 349)
      (λ e. let j = ltb-true i 349 e in
      get_or-append (place_words b m p x) (places_words b m (p + 1) xs) 0 i (omega arith)
      ∙ same_place p x i (λ z. w (omega arith))
      ∙ sym (get_or-append (place_words b n p x) (places_words b n (p + 1) xs) 0 i (omega arith)))
      (λ e. let j = ltb-false i 349 e in
      let d : i ≡ 349 + (i - 349) = omega arith in
      behind (place_words b m p x) (places_words b m (p + 1) xs) i k j
      ∙ same_words (p + 1) xs g.1 h.1 (i - 349) (λ z. w (omega arith))
      ∙ sym (behind (place_words b n p x) (places_words b n (p + 1) xs) i l j))
    where
      behind : (a r : List ℕ) (i : ℕ) → length a ≡ 349 → 349 ≤ i → get_or (a ++ r) i 0 ≡ get_or r (i - 349) 0
      behind a r i e l =
          let d : i ≡ length a + (i - 349) = omega arith in
          ap (λ (x : ℕ). get_or (a ++ r) x 0) d ∙ get_or-append-add a r (i - 349) 0

-- ---- one call

module _ (k : Lending) (r x : Result) (h : view r ≡ view x) (v : Valid r.engine.state) (m : RightMemory r.engine.state.batches r.engine.memory)
    (n : RightMemory x.engine.state.batches x.engine.memory) where
  same_state : r.engine.state ≡ x.engine.state
  same_state = ap (λ (z : View). z.state) h

  pub same_left : SameBut (left_in k r) (left_in k x)
  unfolding tables_of
  same_left =
      let t : State = x.engine.state in
      let e : r.engine.state ≡ t = same_state in
      record {
        answer = ap (λ (z : View). z.answer) h;
        written = ap (λ (z : View). length z.out) h;
        out = ap (λ (z : View). sets k.out 0 z.out) h;
        desk = ap desk_of e;
        codes = ap (λ (z : State). z.house.codes) e;
        flags = ap (λ (z : State). z.house.flags) e;
        balances = ap (λ (z : State). z.books.balances) e;
        sublimits = ap (λ (z : State). z.books.sublimits) e;
        batches = λ i w.
            ap (λ (z : State). get_or (places_words z.batches r.engine.memory 0 z.batches.places) i 0) e
            ∙ same_words t.batches r.engine.memory x.engine.memory 0 t.batches.places
            (places_lie t.house.banks t.batches r.engine.memory (stood e) (subst (λ (z : State). RightMemory z.batches r.engine.memory) e m))
            (places_lie t.house.banks t.batches x.engine.memory (stood e) n) i w;
        references = ap (λ (z : State). entries_words z.known.references) e;
        bins = ap (λ (z : State). entries_words z.known.bins) e;
        sheet = ap (λ (z : State). sheet_words z.batches) e;
      }
    where
      stood : r.engine.state ≡ x.engine.state → Stood x.engine.state.house.banks x.engine.state.batches
      stood e = (valid_kept x.engine.state (subst (λ (z : State). Valid z) e v)).batches

-- ---- any calls

all_same : (ks : List Lending) (x y : ℕ → Bool) (e f : Engine) → e.state ≡ f.state → Faithful e → Faithful f → Valid e.state → RightMemory e.state.batches e.memory
    → RightMemory f.state.batches f.memory → AllSameBut (left_all (choosing x ks) (run e (map call_in (choosing x ks)))) (left_all (choosing y ks) (run f (map call_in (choosing y ks))))
unfolding choosing run left_all
all_same [] x y e f h p q v m n = tt
all_same (k ∷ ks) x y e f h p q v m n =
    let c : Call = call_in k in
    let t : True (payments_at e.state.batches) e.state.books f.memory = rw h q.true in
    let w : view (call e (by (x 0) c)) ≡ view (call f (by (y 0) c)) =
    call_alike e.state e.memory f.memory c (x 0) (y 0) p.true t
    ∙ ap (λ (z : State). view (call (record { state = z; memory = f.memory }) (by (y 0) c))) h in
    let v₁ = call_valid readers e (by (x 0) c) v in
    let m₁ = call_memory e (by (x 0) c) m in
    let n₁ = call_memory f (by (y 0) c) n in (
      same_left k (call e (by (x 0) c)) (call f (by (y 0) c)) w v₁ m₁ n₁,
      all_same ks (λ i. x (suc i)) (λ i. y (suc i)) (call e (by (x 0) c)).engine (call f (by (y 0) c)).engine
          (ap (λ (z : View). z.state) w) (call_faithful e (by (x 0) c) p) (call_faithful f (by (y 0) c) q) v₁ m₁ n₁,
    )

-- calls after a clearing, with the tests that x or y choose, leave tables that are equal but for the memory words
pub tests_leave_the_same : (d : Desk) (t : Tables) (w : Wiped) (ks : List Lending) (x y : ℕ → Bool) (ys zs : List Left) → Long t → Cleared d t w
    → Ran w.desk w.tables (choosing x ks) ys → Ran w.desk w.tables (choosing y ks) zs → AllSameBut ys zs
tests_leave_the_same d t w ks x y ys zs g c p q =
    subst (λ (l : List Left). AllSameBut l zs) (sym (ran_by_the_rules d t w (choosing x ks) ys g c p))
    (subst (λ (l : List Left). AllSameBut (left_all (choosing x ks) (run cleared (map call_in (choosing x ks)))) l) (sym (ran_by_the_rules d t w (choosing y ks) zs g c q))
    (all_same ks x y cleared cleared refl cleared_faithful cleared_faithful refl cleared_memory cleared_memory))
