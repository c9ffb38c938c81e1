-- The engine's own tables keep the rules, and calls on them leave what the rules say.
use mathlib.Core.Path.{◌≡◌, refl, sym, ap, subst, ◌∙◌}
use mathlib.Core.Bool.{Bool, true, false}
use mathlib.Core.List.{List, [], ◌∷◌, map}
use Rattle.chars.specs.Words.{Says}
use Rattle.book_read.specs.Range.{Each}
use Rattle.model.specs.Calls.{Call, Engine, call, cleared, run}
use Rattle.model.specs.Rules.{Valid, RightMemory}
use Rattle.model.proofs.Reading.{readers}
use Rattle.model.proofs.Validity.{call_valid}
use Rattle.model.proofs.Holding.{call_memory, cleared_memory}
use Rattle.tables.specs.declared.Desk.{Desk}
use Rattle.tables.specs.Rows.{Tables, engine_in}
use Rattle.tables.specs.Words.{tables_of, desk_of}
use Rattle.tables.specs.Lent.{Right, Lent, Asked, call_of, Left, left_by, call_lent, Called, Long, Wiped, clear_lent, Cleared}
use Rattle.tables.specs.Running.{Lending, lent_to, call_in, Ran, done, then, left_in, left_all}
use Rattle.tables.proofs.Held.{held, held_long}

-- ---- the tables of a state that keeps the rules

abbrev RightOf : Engine → Type 0
RightOf e = Right (desk_of e.state) (tables_of e)

pub right_of : (e : Engine) → Valid e.state → RightMemory e.state.batches e.memory → Right (desk_of e.state) (tables_of e)
right_of e v r =
    let h = held e v r in
    record {
      valid = subst (λ (x : Engine). Valid x.state) (sym h) v;
      memory = subst (λ (x : Engine). RightMemory x.state.batches x.memory) (sym h) r;
      desk = ap (λ (x : Engine). desk_of x.state) h;
      tables = ap (λ (x : Engine). tables_of x) h;
    }

-- tables that keep the rules have the right lengths
pub right_long : (d : Desk) (t : Tables) → Right d t → Long t
right_long d t r = subst (λ (x : Tables). Long x) r.tables (held_long (engine_in d t) r.valid r.memory)

called_right : (e : Engine) (c : Call) → Valid e.state → RightMemory e.state.batches e.memory → RightOf (call e c).engine
called_right e c v r = right_of (call e c).engine (call_valid readers e c v) (call_memory e c r)

runs_right : (cs : List Call) (e : Engine) → Valid e.state → RightMemory e.state.batches e.memory → Each (λ r. RightOf r.engine) (run e cs)
unfolding run
runs_right [] e v r = tt
runs_right (c ∷ cs) e v r = (called_right e c v r, runs_right cs (call e c).engine (call_valid readers e c v) (call_memory e c r))

-- after any calls from a fresh start the tables keep the rules
pub right_kept : (cs : List Call) → Each (λ r. Right (desk_of r.engine.state) (tables_of r.engine)) (run cleared cs)
right_kept cs = runs_right cs cleared refl cleared_memory

-- ---- one call

-- on tables that keep the rules a call leaves what the rules say
pub on_right : (x : Lent) (a : Asked) (y : Left) → Right x.desk x.tables → Called x a y → y ≡ left_by x (call (engine_in x.desk x.tables) (call_of x a))
unfolding call_lent
on_right x a y r c = go c.kept c.says c.is
  where
    go : (k : Bool) → Says (Right x.desk x.tables) k → y ≡ call_lent k x a → y ≡ left_by x (call (engine_in x.desk x.tables) (call_of x a))
    go true s e = e
    go false s e = absurd (s r)

-- and tables that keep the rules
pub right_left : (x : Lent) (a : Asked) (y : Left) → Right x.desk x.tables → Called x a y → Right y.lent.desk y.lent.tables
right_left x a y r c =
    subst (λ (z : Left). Right z.lent.desk z.lent.tables) (sym (on_right x a y r c))
    (called_right (engine_in x.desk x.tables) (call_of x a) r.valid r.memory)

-- ---- any calls

ran_from : (e : Engine) {d : Desk} {t : Tables} {ks : List Lending} {ys : List Left} → Valid e.state → RightMemory e.state.batches e.memory → d ≡ desk_of e.state
    → t ≡ tables_of e → Ran d t ks ys → ys ≡ left_all ks (run e (map call_in ks))
unfolding left_all run
ran_from e v r i j done = refl
ran_from e v r i j (then {d = d} {t = t} {k = k} {ks = ks} {y = y} {ys = ys} c w) =
    let h : engine_in d t ≡ e = ap (λ (z : Desk). engine_in z t) i ∙ ap (λ (z : Tables). engine_in (desk_of e.state) z) j ∙ held e v r in
    let g : Right d t = subst (λ (z : Desk). Right z t) (sym i) (subst (λ (z : Tables). Right (desk_of e.state) z) (sym j) (right_of e v r)) in
    let l : y ≡ left_in k (call e (call_in k)) = on_right (lent_to d t k) k.asked y g c ∙ ap (λ (z : Engine). left_in k (call z (call_in k))) h in
    let rest : ys ≡ left_all ks (run (call e (call_in k)).engine (map call_in ks)) =
    ran_from (call e (call_in k)).engine (call_valid readers e (call_in k) v) (call_memory e (call_in k) r) (ap (λ (z : Left). z.lent.desk) l) (ap (λ (z : Left). z.lent.tables) l) w
    in
    ap (λ (z : Left). z ∷ ys) l ∙ ap (λ (z : List Left). left_in k (call e (call_in k)) ∷ z) rest

-- what calls leave after a clearing is what the rules' own results leave: answers, bytes, tries and tables
pub ran_by_the_rules : (d : Desk) (t : Tables) (w : Wiped) (ks : List Lending) (ys : List Left) → Long t → Cleared d t w → Ran w.desk w.tables ks ys → ys ≡ left_all ks (run cleared (map call_in ks))
unfolding clear_lent
ran_by_the_rules d t w ks ys g c = go c.long c.says c.is
  where
    go : (k : Bool) → Says (Long t) k → w ≡ clear_lent k d t → Ran w.desk w.tables ks ys → ys ≡ left_all ks (run cleared (map call_in ks))
    go true s e q = ran_from cleared refl cleared_memory (ap (λ (z : Wiped). z.desk) e) (ap (λ (z : Wiped). z.tables) e) q
    go false s e q = absurd (s g)

-- and there are such calls
runs_from : (e : Engine) (ks : List Lending) → Valid e.state → RightMemory e.state.batches e.memory → Ran (desk_of e.state) (tables_of e) ks (left_all ks (run e (map call_in ks)))
unfolding left_all run call_lent
runs_from e [] v r = done
runs_from e (k ∷ ks) v r =
    then (record { kept = true; says = right_of e v r; is = ap (λ (z : Engine). left_in k (call z (call_in k))) (sym (held e v r)) })
    (runs_from (call e (call_in k)).engine ks (call_valid readers e (call_in k) v) (call_memory e (call_in k) r))

pub runs_by_the_rules : (ks : List Lending) → Ran (desk_of cleared.state) (tables_of cleared) ks (left_all ks (run cleared (map call_in ks)))
runs_by_the_rules ks = runs_from cleared ks refl cleared_memory
