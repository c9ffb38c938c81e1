-- The payments of a message as words.
use Prim.Native.Nat.{ℕ, zero, suc, ◌+◌, ◌*◌, ◌≤◌, ◌<◌}
use mathlib.Core.Path.{◌≡◌, refl, sym, ap, ◌∙◌}
use mathlib.Core.List.{List, [], ◌∷◌, ◌++◌}
use native.Mathlib.Omega.{arith}
use lib.ListN.{length, get_or, set, take, drop, drop_of_length-le}
use lib.Seq.{sets, sets-eq, length-take-le, get_or-drop, drop-nil}
use Rattle.request_read.specs.declared.payments.Payment.{Payment as Line}
use Rattle.request_read.specs.declared.whole.Reading.{Reading}
use Rattle.settle.specs.Payments.{Payment, payment_at, payments_from}
use Rattle.model.specs.State.{State}
use Rattle.model.specs.Messages.{bank_place, line_payment, line_payments, arrived}
use Rattle.call_orders.specs.Arriving.{message_of}
use Rattle.call_plan.specs.rules.Steps.{banks_house, place_or, line_words, state_of}
use Rattle.call_plan.proofs.rules.LineLaws.{line_cut}

pub put_triple : (banks : ℕ) (codes : List ℕ) (code : ℕ) (w : List ℕ) (a k x y : ℕ) → k ≡ place_or banks codes code
    → set (set (set w a k) (a + 1) x) (a + 2) y ≡ set (set (set w a (place_or banks codes code)) (a + 1) x) (a + 2) y
put_triple banks codes code w a k x y e = ap (λ (j : ℕ). set (set (set w a j) (a + 1) x) (a + 2) y) e

-- ---- the loop

abbrev pub put_from : (banks : ℕ) (codes : List ℕ) (ls : List Line) (n i : ℕ) (w : List ℕ) → List ℕ
put_from banks codes ls n i w = sets w (3 * i) (line_words banks codes (drop i (take n ls)))

pub put_start : (banks : ℕ) (codes : List ℕ) (ls : List Line) (n : ℕ) (w : List ℕ) → sets w 0 (line_words banks codes (take n ls)) ≡ put_from banks codes ls n 0 w
put_start banks codes ls n w = refl

module _ (banks : ℕ) (codes : List ℕ) (ls : List Line) (n i : ℕ) (w : List ℕ) {x : List ℕ} (inv : x ≡ put_from banks codes ls n i w) where
  pub put_end : n ≤ i → n ≤ 10 → length ls ≡ 10 → w ≡ x
  unfolding line_words
  put_end h k e =
      let v : n ≤ length ls = omega arith in
      let g : length (take n ls) ≡ n = length-take-le n ls v in
      let d : drop i (take n ls) ≡ [] = drop_of_length-le (take n ls) {i = i} (omega arith) in
      sym (inv ∙ rw d)

  pub put_on : i < n → n ≤ 10 → length ls ≡ 10 → (d : Line) (w' : List ℕ)
      → w' ≡ set (set (set w (3 * i) (place_or banks codes (get_or ls i d).bank.number)) (3 * i + 1) (get_or ls i d).amount.number) (3 * i + 2) (get_or ls i d).letters.number
      → x ≡ put_from banks codes ls n (i + 1) w'
  unfolding line_words
  put_on h k e d w' g =
      let a : 3 * i + 1 ≡ suc (3 * i) = omega arith in
      let b : 3 * i + 2 ≡ suc (suc (3 * i)) = omega arith in
      let c : 3 * (i + 1) ≡ suc (suc (suc (3 * i))) = omega arith in
      inv ∙ rw (line_cut ls n i d h k e, g, a, b, c)

pub take_full : (ls : List Line) (n : ℕ) → n ≤ 10 → length ls ≡ 10 → length (take n ls) ≡ n
take_full ls n h e = length-take-le n ls (omega arith)

-- ---- what the words say

drop_more : (l : List ℕ) (a b : ℕ) → drop (a + b) l ≡ drop b (drop a l)
drop_more l zero b = let z : 0 + b ≡ b = omega arith in rw z
drop_more [] (suc a) b = drop-nil {A = ℕ} (suc a + b) ∙ sym (drop-nil {A = ℕ} b)
drop_more (x ∷ l) (suc a) b = let z : suc a + b ≡ suc (a + b) = omega arith in rw z (drop_more l a b)

module _ (s : State) (r : Reading) where
  abbrev ws : List Line → List ℕ
  ws ls = line_words s.house.banks s.house.codes ls

  words_many : (ls : List Line) → length (ws ls) ≡ 3 * length ls
  unfolding line_words
  words_many [] = refl
  words_many (l ∷ ls) = let e = words_many ls in omega (arith, e)

  same_or : (code : ℕ) → bank_place (banks_house s.house.banks s.house.codes []) code ≡ bank_place s.house code
  unfolding bank_place
  same_or code = refl

  words_say : (l : List ℕ) (a : ℕ) (ls : List Line) (rest : List ℕ) → drop a l ≡ ws ls ++ rest → payments_from l a (length ls) ≡ line_payments s r ls
  unfolding line_words payments_from payment_at line_payments
  words_say l a [] rest e = refl
  words_say l a (x ∷ ls) rest e =
      let k = x.bank.number in
      let z : a + 0 ≡ a = omega arith in
      let f : get_or l (a + 0) 0 ≡ place_or s.house.banks s.house.codes k = sym (get_or-drop a l 0 0) ∙ rw e in
      let f' : get_or l a 0 ≡ place_or s.house.banks s.house.codes k = ap (λ (j : ℕ). get_or l j 0) (sym z) ∙ f in
      let g : get_or l (a + 1) 0 ≡ x.amount.number = sym (get_or-drop a l 1 0) ∙ rw e in
      let h : get_or l (a + 2) 0 ≡ x.letters.number = sym (get_or-drop a l 2 0) ∙ rw e in
      let d : drop (a + 3) l ≡ ws ls ++ rest = drop_more l a 3 ∙ rw e in
      rw (f', g, h, same_or k, words_say l (a + 3) ls rest d)

  -- the whole message
  words_message : (w : List ℕ) → 30 ≤ length w → r.n ≤ 10 → length (take r.n r.payments) ≡ r.n
      → message_of r.head.reference.code r.terms.number (sets w 0 (ws (take r.n r.payments))) r.n ≡ arrived s r
  words_message w a b g =
      let ls = take r.n r.payments in
      let m = words_many ls in
      let k : 0 + length (ws ls) ≤ length w = omega (arith, m, g) in
      let e : sets w 0 (ws ls) ≡ ws ls ++ drop (0 + length (ws ls)) w = sets-eq (ws ls) w 0 k in
      let p : payments_from (sets w 0 (ws ls)) 0 (length ls) ≡ line_payments s r ls = words_say (sets w 0 (ws ls)) 0 ls (drop (0 + length (ws ls)) w) e in
      let q : payments_from (sets w 0 (ws ls)) 0 r.n ≡ line_payments s r ls = ap (λ (j : ℕ). payments_from (sets w 0 (ws ls)) 0 j) (sym g) ∙ p in
      ap (λ (ps : List Payment). record { reference = r.head.reference.code; number = r.terms.number; payments = ps }) q

pub put_message : (banks : ℕ) (codes : List ℕ) (r : Reading) (w w' : List ℕ) → 30 ≤ length w → r.n ≤ 10 → length (take r.n r.payments) ≡ r.n
    → w' ≡ sets w 0 (line_words banks codes (take r.n r.payments))
    → message_of r.head.reference.code r.terms.number w' r.n ≡ arrived (state_of 0 banks codes []) r
put_message banks codes r w w' a b c e = rw e (words_message (state_of 0 banks codes []) r w a b c)

-- only the banks of a state matter
payments_any : (s : State) (r : Reading) (ls : List Line) → line_payments (state_of 0 s.house.banks s.house.codes []) r ls ≡ line_payments s r ls
unfolding line_payments bank_place
payments_any s r [] = refl
payments_any s r (l ∷ ls) = ap (λ (ps : List Payment). line_payment s r l ∷ ps) (payments_any s r ls)

pub arrived_any : (s : State) (r : Reading) → arrived (state_of 0 s.house.banks s.house.codes []) r ≡ arrived s r
arrived_any s r = ap (λ (ps : List Payment). record { reference = r.head.reference.code; number = r.terms.number; payments = ps }) (payments_any s r (take r.n r.payments))
