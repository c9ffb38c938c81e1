-- The functions keep the three demands: their contracts, and the model's promises.
use Rattle.std.specs.Prelude.{Ok, Err}
use Prim.Native.Nat.{ℕ, ◌<◌}
use mathlib.Core.Path.{◌≡◌, refl, sym, ap, subst, ◌∙◌}
use mathlib.Core.Bool.{Bool, true, false}
use mathlib.Core.List.{List, [], ◌∷◌, map}
use lib.ListN.{length, get_or}
use Rattle.chars.specs.Words.{Says}
use Rattle.chars.specs.declared.Refusal.{Refusal}
use Rattle.chars.specs.declared.Refusal.TheVariants.{BrokenTables}
use Rattle.model.specs.Answers.{Answer}
use Rattle.model.specs.declared.Action.TheVariants.{Opening}
use Rattle.model.specs.declared.Phase.TheVariants.{Closed}
use Rattle.queue.specs.Promise.{True}
use Rattle.model.specs.State.{State, payments_at}
use Rattle.model.specs.Calls.{Call, Engine, Result, refused, call}
use Rattle.model.specs.Course.{Deed, start, course, since}
use Rattle.model.specs.Rules.{Valid, RightMemory}
use Rattle.model.specs.Answered.{Accounted, awaiting}
use Rattle.model.specs.Arrival.{ByArrival}
use Rattle.model.specs.Lettered.{LettersStay}
use Rattle.model.specs.LeftBehind.{LeftBehind}
use Rattle.model.specs.Happened.{history, ByRule}
use Rattle.model.specs.Waiting.{Ordered}
use Rattle.model.specs.Promises.{Always, Numbered, StrangersLeaveAll, Written, answered, OpensRight, Closes, Followed, ledger_after, no_ledger, Covered, NonePasses, Tried, Enough, View, view, by}
use Rattle.model.proofs.Agreement.{Faithful, call_alike, call_faithful, cleared_faithful}
use Rattle.model.proofs.Arriving.{batches_by_arrival}
use Rattle.model.proofs.Reading.{readers}
use Rattle.model.proofs.Validity.{call_valid}
use Rattle.model.proofs.Holding.{call_memory, cleared_memory}
use Rattle.model.proofs.Refusals.{refusals_change_nothing, refused_openings_change_nothing}
use Rattle.model.proofs.Promises.{numbers_are_right, strangers_leave_all, letters_stay, rows_are_kept, texts_read_back, accounted, none_left_at_close, openings_are_right, closing_book_reads_back, balances_follow, payers_covered, none_would_pass, orders_are_kept, tests_by_rule, tries_are_right, room_is_enough}
use Rattle.tables.specs.declared.Desk.{Desk}
use Rattle.tables.specs.Rows.{Tables, engine_in}
use Rattle.tables.specs.Words.{sheet_words, desk_of, tables_of}
use Rattle.tables.specs.Lent.{Right, Lent, Left, left_by as lent_by, call_lent, Long, Wiped, clear_lent}
use Rattle.tables.specs.Running.{Lending, lent_to, call_in, left_in}
use Rattle.tables.specs.Choosing.{choose, SameBut, AllSameBut}
use Rattle.tables.proofs.Held.{sheet_long, held, held_long}
use Rattle.tables.proofs.Kept.{right_of, on_right}
use Rattle.tables.proofs.Reported.{as_before, reported}
use Rattle.tables.proofs.Choosing.{same_left}
use Rattle.tables_sheet.proofs.Filling.{total_at_lem}
use Rattle.tables_sheet.proofs.Waiting.{total_sum}
use Rattle.call_records.specs.Records.{balances_of, waiting_of, Outcome, seen_as, outcome_of, Beginning, wiped_as, beginning_of}
use Rattle.call_records.proofs.Determined.{row_back, seen_back, determined, wiped_back, clearing_determined}
use Rattle.demands.specs.Demands.{Kept, tables_on, engine_of, Calls, Clears, left_by, begun_by, Doing, clearing, Came, none, cleared, called, deeds, told, EverySince, Everywhere, as_it_was, DemandOne, not_begun, DemandOneOfClearing, Whenever, DemandTwo, Totals, DemandThree}
use Rattle.demands.specs.Demands as demanded

-- ---- what is kept says the model's engine

record At (e : Engine) (x : Kept) : Type 0 where
  pub valid : Valid e.state
  pub memory : RightMemory e.state.batches e.memory
  pub desk : x.desk ≡ desk_of e.state
  pub tables : tables_on x ≡ tables_of e

module _ (e : Engine) (x : Kept) (h : At e x) where
  says : engine_of x ≡ e
  says = ap (λ (z : Desk). engine_in z (tables_on x)) h.desk ∙ ap (λ (z : Tables). engine_in (desk_of e.state) z) h.tables ∙ held e h.valid h.memory

  rights : Right x.desk (tables_on x)
  rights = subst (λ (z : Desk). Right z (tables_on x)) (sym h.desk) (subst (λ (z : Tables). Right (desk_of e.state) z) (sym h.tables) (right_of e h.valid h.memory))

  long : Long (tables_on x)
  long = subst (λ (z : Tables). Long z) (sym h.tables) (held_long e h.valid h.memory)

  module _ (k : Lending) (y : Outcome) (c : Calls x k y) where
    leaves : seen_as y ≡ left_in k (call e (call_in k))
    leaves = on_right (lent_to x.desk (tables_on x) k) k.asked (seen_as y) rights c ∙ ap (λ (z : Engine). left_in k (call z (call_in k))) says

    goes : At (call e (call_in k)).engine (left_by y)
    goes = record {
      valid = call_valid readers e (call_in k) h.valid;
      memory = call_memory e (call_in k) h.memory;
      desk = ap (λ (z : Left). z.lent.desk) leaves;
      tables = ap (λ (z : Left). z.lent.tables) leaves;
    }

from_start : (x : Kept) (y : Beginning) → Long (tables_on x) → Clears x y → At start (begun_by y)
unfolding clear_lent
from_start x y g c = go c.long c.says c.is
  where
    go : (b : Bool) → Says (Long (tables_on x)) b → wiped_as y ≡ clear_lent b x.desk (tables_on x) → At start (begun_by y)
    go true s e = record { valid = refl; memory = cleared_memory; desk = ap (λ (z : Wiped). z.desk) e; tables = ap (λ (z : Wiped). z.tables) e }
    go false s e = absurd (s g)

came_on : {x x' : Kept} {ds : List Doing} (e : Engine) → At e x → Came x ds x' → At (course call e (deeds ds)) x'
unfolding course
came_on e h none = h
came_on {x = x} e h (cleared {y = y} c r) = came_on start (from_start x y (long e x h) c) r
came_on {x = x} e h (called {k = k} {y = y} c r) = came_on (call e (call_in k)).engine (goes e x h k y c) r

came : {x x' : Kept} {ds : List Doing} → Long (tables_on x) → Came x (clearing ∷ ds) x' → At (course call start (deeds ds)) x'
came {x = x} g (cleared {y = y} c r) = came_on start (from_start x y g c) r

-- ---- what is promised of the model is promised of the functions

same_result : (r : Result) {n : Answer} {o u : List ℕ} {e : Engine} → n ≡ r.answer → o ≡ r.out → u ≡ r.tries → e ≡ r.engine
    → ◌≡◌ {A = Result} (record { answer = n; out = o; tries = u; engine = e }) r
same_result r a b c d = rw (a, b, c, d)

every_since : (P : List Deed → Engine → Call → Result → Type 0) → ((ds : List Deed) (c : Call) → P ds (course call start ds) c (call (course call start ds) c)) → EverySince P
every_since P h x x' ds g w k y c =
    let e : Engine = course call start (deeds ds) in
    let a : At e x' = came g w in
    let s : engine_of x' ≡ e = says e x' a in
    let u = reported (lent_to x'.desk (tables_on x') k) k.asked (seen_as y) (rights e x' a) c in
    let v : told y ≡ call (engine_of x') (call_in k) =
    same_result (call (engine_of x') (call_in k))
    (ap (λ (z : Left). z.answer) (on_right (lent_to x'.desk (tables_on x') k) k.asked (seen_as y) (rights e x' a) c))
    u.0
    u.1
    (says (call e (call_in k)).engine (left_by y) (goes e x' a k y c) ∙ ap (λ (z : Engine). (call z (call_in k)).engine) (sym s))
    in
    subst (λ (z : Result). P (deeds ds) e (call_in k) z) (sym (v ∙ ap (λ (z : Engine). call z (call_in k)) s)) (h (deeds ds) (call_in k))

everywhere : (P : Engine → Call → Result → Type 0) → Always call P → Everywhere P
everywhere P h = every_since (λ ds. P) h

-- ---- demand 1

module _ (x : Kept) (k : Lending) (y : Outcome) (c : Calls x k y) where
  abbrev l : Lent
  l = lent_to x.desk (tables_on x) k

  -- an outcome is what is seen of it
  is_as_was : (q : Refusal) → seen_as y ≡ record { answer = Err q; written = 0; tried = 0; lent = l } → y ≡ as_it_was x k q
  is_as_was q h = sym (seen_back y) ∙ ap outcome_of h ∙ rw (row_back x.row)

  nothing_changed : Right x.desk (tables_on x) → (q : Refusal) → call (engine_of x) (call_in k) ≡ refused (engine_of x) q → y ≡ as_it_was x k q
  nothing_changed r q h = is_as_was q (on_right l k.asked (seen_as y) r c ∙ ap (lent_by l) h ∙ rw (r.desk, r.tables))

  broken_so : (b : Bool) → Says (Right x.desk (tables_on x)) b → seen_as y ≡ call_lent b l k.asked → (Right x.desk (tables_on x) → ⊥) → y ≡ as_it_was x k BrokenTables
  unfolding call_lent
  broken_so true s i h = absurd (h s)
  broken_so false s i h = is_as_was BrokenTables i

  opening_so : (b : Bool) → Says (Right x.desk (tables_on x)) b → seen_as y ≡ call_lent b l k.asked → (q : Refusal) → k.asked.action ≡ Opening → y.told.answer ≡ Err q
      → y ≡ as_it_was x k q
  unfolding call_lent
  opening_so true s i q o g = nothing_changed s q (refused_openings_change_nothing (engine_of x) (call_in k) q o (sym (ap (λ (z : Left). z.answer) i) ∙ g))
  opening_so false s i q o g =
      let u : Err BrokenTables ≡ Err q = sym (ap (λ (z : Left). z.answer) i) ∙ g in
      is_as_was q (i ∙ ap (λ (n : Answer). record { answer = n; written = 0; tried = 0; lent = l }) u)

  pub demand_one : DemandOne x k y
  demand_one = record {
    one = λ z g. determined l k.asked y z c g;
    broken_tables = broken_so c.kept c.says c.is;
    at_once = λ r q h. nothing_changed r q (refusals_change_nothing (engine_of x) (call_in k) q h);
    opening = opening_so c.kept c.says c.is;
    out = (as_before l k.asked (seen_as y) c).0;
    tries = (as_before l k.asked (seen_as y) c).1;
  }

-- of a clearing
module _ (x : Kept) (y : Beginning) (c : Clears x y) where
  refuses : (b : Bool) → Says (Long (tables_on x)) b → wiped_as y ≡ clear_lent b x.desk (tables_on x) → (Long (tables_on x) → ⊥) → y ≡ not_begun x
  unfolding clear_lent
  refuses true s i h = absurd (h s)
  refuses false s i h = sym (wiped_back y) ∙ ap beginning_of i ∙ rw (row_back x.row)

  accepts : (b : Bool) → Says (Long (tables_on x)) b → wiped_as y ≡ clear_lent b x.desk (tables_on x) → Long (tables_on x) → y.start.answer ≡ Ok tt
  unfolding clear_lent
  accepts true s i g = ap (λ (z : Wiped). z.answer) i
  accepts false s i g = absurd (s g)

  pub demand_one_of_clearing : DemandOneOfClearing x y
  demand_one_of_clearing = record {
    one = λ z d. clearing_determined x.desk (tables_on x) y z c d;
    broken_tables = refuses c.long c.says c.is;
    accepts = accepts c.long c.says c.is;
    fresh = λ g. says start (begun_by y) (from_start x y g c);
  }

-- ---- demand 2

answered_once : Whenever (λ x ds. Accounted (engine_of x).state (answered ds))
answered_once x x' ds g w = subst (λ (z : Engine). Accounted z.state (answered (deeds ds))) (sym (says (course call start (deeds ds)) x' (came g w))) (accounted (deeds ds))

none_awaits : Whenever (λ x ds. x.desk.phase ≡ Closed → awaiting (engine_of x).state ≡ [])
unfolding desk_of
none_awaits x x' ds g w h =
    let a = came g w in
    subst (λ (z : Engine). awaiting z.state ≡ []) (sym (says (course call start (deeds ds)) x' a)) (none_left_at_close (deeds ds) (sym (ap (λ (z : Desk). z.phase) a.desk) ∙ h))

pub demand_two : DemandTwo
demand_two = record {
  numbers = everywhere Numbered numbers_are_right;
  left_behind = everywhere LeftBehind rows_are_kept;
  texts = everywhere Written texts_read_back;
  accounted = answered_once;
  none_left = none_awaits;
  by_arrival = everywhere ByArrival batches_by_arrival;
  strangers = everywhere StrangersLeaveAll strangers_leave_all;
  letters = everywhere LettersStay letters_stay;
  openings = everywhere OpensRight openings_are_right;
  books = everywhere Closes closing_book_reads_back;
}

-- ---- demand 3

module _ (k : Lending) (p q : Bool) (e h : Engine) (s : e.state ≡ h.state) (f : Faithful e) (g : Faithful h) where
  -- the same call with two tests
  same_view : view (call e (by p (call_in k))) ≡ view (call h (by q (call_in k)))
  same_view =
      let t : True (payments_at e.state.batches) e.state.books h.memory = rw s g.true in
      call_alike e.state e.memory h.memory (call_in k) p q f.true t
      ∙ ap (λ (z : State). view (call (record { state = z; memory = h.memory }) (by q (call_in k)))) s

  module _ (x z : Kept) (a : At e x) (b : At h z) (y w : Outcome) (c : Calls x (choose p k) y) (d : Calls z (choose q k) w) where
    same_outcome : SameBut (seen_as y) (seen_as w)
    same_outcome =
        let m = goes e x a (choose p k) y c in
        let n = goes h z b (choose q k) w d in
        subst (λ (l : Left). SameBut l (seen_as w)) (sym (leaves e x a (choose p k) y c))
        (subst (λ (l : Left). SameBut (left_in k (call e (by p (call_in k)))) l) (sym (leaves h z b (choose q k) w d))
        (same_left k (call e (by p (call_in k))) (call h (by q (call_in k))) same_view m.valid m.memory n.memory))

alike_on : {ds es : List Doing} {x z : Kept} {ys zs : List Outcome} (e h : Engine) → e.state ≡ h.state → Faithful e → Faithful h → At e x → At h z
    → demanded.ButTests ds es → demanded.Ran x ds ys → demanded.Ran z es zs → AllSameBut (map seen_as ys) (map seen_as zs)
alike_on e h s f g a b demanded.none demanded.none demanded.none = tt
alike_on {x = x} {z = z} e h s f g a b (demanded.clear t) (demanded.begins {y = y} c m) (demanded.begins {y = w} d n) =
    alike_on start start refl cleared_faithful cleared_faithful (from_start x y (long e x a) c) (from_start z w (long h z b) d) t m n
alike_on {x = x} {z = z} e h s f g a b (demanded.choice k p q t) (demanded.then {y = y} c m) (demanded.then {y = w} d n) = (
  same_outcome k p q e h s f g x z a b y w c d,
  alike_on (call e (by p (call_in k))).engine (call h (by q (call_in k))).engine (ap (λ (v : View). v.state) (same_view k p q e h s f g))
      (call_faithful e (by p (call_in k)) f) (call_faithful h (by q (call_in k)) g) (goes e x a (choose p k) y c) (goes h z b (choose q k) w d) t m n,
)

both_alike : (x z : Kept) (ds es : List Doing) (ys zs : List Outcome) → demanded.ButTests ds es → Long (tables_on x) → Long (tables_on z)
    → demanded.Ran x (clearing ∷ ds) ys → demanded.Ran z (clearing ∷ es) zs → AllSameBut (map seen_as ys) (map seen_as zs)
both_alike x z ds es ys zs t l m (demanded.begins {y = y} c r) (demanded.begins {y = w} d u) =
    alike_on start start refl cleared_faithful cleared_faithful (from_start x y l c) (from_start z w m d) t r u

follow : Whenever (λ x ds. Followed (balances_of x.row) (ledger_after call start no_ledger (since ds)))
unfolding tables_of
follow x x' ds g w =
    let u : balances_of x'.row ≡ (course call start (deeds ds)).state.books.balances = ap (λ (z : Tables). z.balances) (came g w).tables in
    subst (λ (l : List ℕ). Followed l (ledger_after call start no_ledger (since (deeds ds)))) (sym u) (balances_follow (deeds ds))

follow_totals : Whenever (λ x ds. Totals (waiting_of x.row) (course call start ds).state.batches)
unfolding tables_of
follow_totals x x' ds g w =
    let e : Engine = course call start (deeds ds) in
    let u : waiting_of x'.row ≡ sheet_words e.state.batches = ap (λ (z : Tables). z.sheet) (came g w).tables in
    record {
      all = ap length u ∙ sheet_long e.state.batches;
      each = λ k h. ap (λ (l : List ℕ). get_or l k 0) u ∙ total_at_lem e.state.batches k h ∙ total_sum e.state (came g w).valid k;
    }

pub demand_three : DemandThree
demand_three = record {
  alike = both_alike;
  balances = follow;
  totals = follow_totals;
  covered = everywhere Covered payers_covered;
  none_passes = everywhere NonePasses none_would_pass;
  ordered = everywhere Ordered orders_are_kept;
  by_rule = every_since (λ ds e c r. ByRule e (history start [] (since ds)) c r) tests_by_rule;
  tries = everywhere Tried tries_are_right;
  enough = everywhere Enough room_is_enough;
}
