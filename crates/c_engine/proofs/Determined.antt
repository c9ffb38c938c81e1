-- Any two outcomes that a promise on words allows are equal.
use mathlib.Core.Path.{◌≡◌, sym, ap, ◌∙◌}
use Prim.Native.Nat.{ℕ}
use native.Mathlib.Omega.{arith}
use mathlib.Core.Bool.{Bool}
use mathlib.Core.List.{List}
use lib.Dec.{eqb, leb, ltb}
use lib.ListN.{length, get_or}
use borrow.Author.Tests.{eqb-true, eqb-false, leb-true, leb-false, ltb-true, ltb-false}
use Rattle.queue.proofs.MemoryLaws.{by_bool}
use Rattle.model.specs.Calls.{Asked}
use Rattle.tables.proofs.Determined as rules
use Rattle.tables.proofs.TestLaws.{says_once}
use Rattle.c_engine.specs.Lending.{banks_length, Words, lent_in, Returned, returned, Shaped, CalledWords, EngineWords, Started, LongWords, clear_words, ClearedWords}

by_shape : {X : Type 0} (desk banks : List ℕ) → (Shaped desk banks → X) → ((Shaped desk banks → ⊥) → X) → X
by_shape desk banks f g =
    by_bool (eqb (length desk) 22)
    (λ e. by_bool (leb (get_or desk 0 0) 2)
    (λ h. by_bool (eqb (length banks) banks_length)
    (λ k. f (record { desk_long = eqb-true (length desk) 22 e; phase_right = leb-true (get_or desk 0 0) 2 h; banks_long = eqb-true (length banks) banks_length k }))
    (λ k. g (λ s. eqb-false (length banks) banks_length k s.banks_long)))
    (λ h. g (λ s. omega (arith, s.phase_right, leb-false (get_or desk 0 0) 2 h))))
    (λ e. g (λ s. eqb-false (length desk) 22 e s.desk_long))

pub determined : (x : Words) (a : Asked) (y z : Returned) → CalledWords x a y → CalledWords x a z → y ≡ z
determined x a y z c d =
    by_bool (ltb (length x.report) 2)
    (λ e. let h = ltb-true _ _ e in c.short h ∙ sym (d.short h))
    (λ e. let h = ltb-false _ _ e in
    by_shape x.engine.desk x.engine.banks
    (λ s. let p = c.shows h s in let q = d.shows h s in
    p.is ∙ ap (returned x) (rules.determined (lent_in x) a p.left q.left p.called q.called) ∙ sym q.is)
    (λ s. c.broken h s ∙ sym (d.broken h s)))

pub clearing_determined : (x : EngineWords) (y z : Started) → ClearedWords x y → ClearedWords x z → y ≡ z
clearing_determined x y z c d = c.is ∙ ap (λ (k : Bool). clear_words k x) (says_once (LongWords x) c.long d.long c.says d.says) ∙ sym d.is
