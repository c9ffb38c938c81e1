-- How far 16A, 171 and 175 reach, and that two texts which begin alike have the same ones.
use Rattle.text_values.specs.declared.Part.{Part}
use Rattle.text_fields.specs.declared.Break.{Break}
use Rattle.request_read.specs.declared.terms.Terms.{Terms}
use Rattle.request_read.specs.declared.terms.Activation.{Activation}
use Rattle.std.specs.Prelude.{Option, Some, None, Result, Ok, Err}
use Prim.Native.Nat.{ℕ, ◌≤◌}
use mathlib.Core.Path.{◌≡◌, refl, ap, subst, ◌∙◌}
use mathlib.Core.List.{List}
use mathlib.Core.Bool.{Bool, true, false}
use mathlib.Core.Logic.{inl, inr}
use native.Mathlib.Omega.{arith}
use borrow.Author.Tests.{leb-true, leb-false}
use lib.Dec.{leb}
use Rattle.chars.specs.Words.{bytes}
use Rattle.text_scan.specs.Scan.{on_next, lit_at}
use Rattle.text_scan.specs.declared.Cursor.{Cursor}
use Rattle.text_scan.proofs.Alike.{Alike, by_next}
use Rattle.text_values.specs.Values.{no_part, count_in}
use Rattle.text_values.proofs.Alike.{text_alike}
use Rattle.text_fields.specs.Fields.{place, on_good, field_at}
use Rattle.text_fields.specs.declared.Item.{Item}
use Rattle.text_fields.specs.declared.Kind.TheVariants.{Numbers, Date, Time}
use Rattle.text_fields.proofs.Alike.{Reaches, In, here, Or, field_in, field_alike, in_then, alike_then, look_alike}
use Rattle.request_read.specs.terms.Terms.{activation_at, on_given, terms, terms_at}
use Rattle.request_read.specs.declared.terms.Activation.TheVariants.{AtOnce, Minute}

abbrev given_stop : Result (Activation × Part × Cursor) Break → ℕ
given_stop (Ok (m, p, c)) = c.at
given_stop (Err b) = b.at

-- 175 where its tag stands
abbrev timed : List ℕ → ℕ → Result (Activation × Part × Cursor) Break
timed s at = on_good (field_at s at (bytes ":175:") Time) Err (λ i c. Ok (Minute i.number, i.part, c))

activation_in_lem : (s : List ℕ) (at : ℕ) → Reaches at 28 (given_stop (activation_at s at))
unfolding activation_at
activation_in_lem s at = by_next (λ (x : Result (Activation × Part × Cursor) Break). Reaches at 28 (given_stop x)) (lit_at s at (bytes ":175:")) (omega arith, omega arith) (λ e q.
    in_then given_stop at 0 (field_at s at (bytes ":175:") Time) Err (λ i c. Ok (Minute i.number, i.part, c))
    (field_in s at (bytes ":175:") Time (omega arith) tt) (λ b. refl) (λ i c r. here c.at))

activation_alike : {n : ℕ} {s t : List ℕ} → Alike n s t → (at : ℕ) → Or n (activation_at s at) (activation_at t at) (given_stop (activation_at s at))
unfolding activation_at
activation_alike {n} {s} {t} a at = go (look_alike a at (bytes ":175:") (given_stop (activation_at s at)) (omega arith) (activation_in_lem s at).0)
  where
    pick : (r : Option ℕ) → Or n (on_next r (Ok (AtOnce, no_part, place at)) (λ e. timed s at)) (on_next r (Ok (AtOnce, no_part, place at)) (λ e. timed t at)) (given_stop (on_next r (Ok (AtOnce, no_part, place at)) (λ e. timed s at)))
    pick None = inl refl
    pick (Some e) = alike_then given_stop n (field_at s at (bytes ":175:") Time) (field_at t at (bytes ":175:") Time) Err _ _
        (field_alike a at (bytes ":175:") Time (omega arith) tt) (λ b. refl) (λ i c r. (omega arith, inl refl))

    go : Or n (lit_at s at (bytes ":175:")) (lit_at t at (bytes ":175:")) (given_stop (activation_at s at)) → Or n (activation_at s at) (activation_at t at) (given_stop (activation_at s at))
    go (inl q) = rw (← q) (pick (lit_at s at (bytes ":175:")))
    go (inr q) = inr q

abbrev pub stated_stop : Result (Terms × Cursor) Break → ℕ
stated_stop (Ok (t, c)) = c.at
stated_stop (Err b) = b.at

-- what follows 171
abbrev dated : List ℕ → Item → Item → Result (Activation × Part × Cursor) Break → Result (Terms × Cursor) Break
dated s i date x = on_given x Err (λ m p e. Ok (terms s i date m p, e))

dated_stop : (s : List ℕ) (i date : Item) (x : Result (Activation × Part × Cursor) Break) → stated_stop (dated s i date x) ≡ given_stop x
dated_stop s i date (Ok (m, p, e)) = refl
dated_stop s i date (Err b) = refl

dated_in : (s : List ℕ) (i date : Item) (at : ℕ) → Reaches at 28 (stated_stop (dated s i date (activation_at s at)))
dated_in s i date at = rw (dated_stop s i date (activation_at s at)) (activation_in_lem s at)

terms_rest : (s : List ℕ) (i : Item) (c : Cursor) → Reaches c.at 56 (stated_stop (on_good (field_at s c.at (bytes ":171:") Date) Err (λ date d. dated s i date (activation_at s d.at))))
terms_rest s i c = in_then stated_stop c.at 28 (field_at s c.at (bytes ":171:") Date) Err _
    (field_in s c.at (bytes ":171:") Date (omega arith) tt) (λ b. refl) (λ date d r. dated_in s i date d.at)

pub terms_in : (s : List ℕ) (at : ℕ) → Reaches at 84 (stated_stop (terms_at s at))
unfolding terms_at
terms_in s at = in_then stated_stop at 56 (field_at s at (bytes ":16A:") Numbers) Err _
    (field_in s at (bytes ":16A:") Numbers (omega arith) tt) (λ b. refl) (λ i c q. terms_rest s i c)

pub terms_alike : {n : ℕ} {s t : List ℕ} → Alike n s t → (at : ℕ) → Or n (terms_at s at) (terms_at t at) (stated_stop (terms_at s at))
unfolding terms_at
terms_alike {n} {s} {t} a at = alike_then stated_stop n (field_at s at (bytes ":16A:") Numbers) (field_at t at (bytes ":16A:") Numbers) Err _ _
    (field_alike a at (bytes ":16A:") Numbers (omega arith) tt) (λ b. refl) (λ i c q. (
      (terms_rest s i c).0,
      alike_then stated_stop n (field_at s c.at (bytes ":171:") Date) (field_at t c.at (bytes ":171:") Date) Err _ _
          (field_alike a c.at (bytes ":171:") Date (omega arith) tt) (λ b. refl) (λ date d r. (
            (dated_in s i date d.at).0,
            go i date (activation_at s d.at) (activation_at t d.at) (within i c date d q r) (activation_alike a d.at) (leb i.part.end n) refl,
          )),
    ))
  where
    -- the part of 16A, in which the count stands, ends before what follows it
    within : (i : Item) (c : Cursor) (date : Item) (d : Cursor) → field_at s at (bytes ":16A:") Numbers ≡ Ok (i, c) → field_at s c.at (bytes ":171:") Date ≡ Ok (date, d) → i.part.end ≤ given_stop (activation_at s d.at)
    within i c date d q r =
        let g = subst (In at) q (field_in s at (bytes ":16A:") Numbers (omega arith) tt) in
        let k = subst (In c.at) r (field_in s c.at (bytes ":171:") Date (omega arith) tt) in
        omega (arith, g.2, k.0, (activation_in_lem s d.at).0)

    counted : (i date : Item) (x : Result (Activation × Part × Cursor) Break) → i.part.end ≤ n → dated s i date x ≡ dated t i date x
    counted i date x h = ap (λ (v : List ℕ). on_given x Err (λ m p e. Ok (record { numbers = i.part; number = i.number; count = count_in v; date = date; activation = m; activated = p }, e))) (text_alike a i.part h)

    go : (i date : Item) (x y : Result (Activation × Part × Cursor) Break) → i.part.end ≤ given_stop x → Or n x y (given_stop x) → (b : Bool) → leb i.part.end n ≡ b → Or n (dated s i date x) (dated t i date y) (stated_stop (dated s i date x))
    go i date x y h (inl q) true k = inl (counted i date x (leb-true i.part.end n k) ∙ rw q)
    go i date x y h (inl q) false k = inr (rw (dated_stop s i date x) (omega (arith, h, leb-false i.part.end n k)))
    go i date x y h (inr q) b k = inr (rw (dated_stop s i date x) q)
