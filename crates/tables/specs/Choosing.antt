-- The two tests on lent tables: what they leave is the same but for the quick test's memory and the tries.
use Rattle.std.specs.Prelude.{ℕ, suc, ◌%◌, ◌≡◌, Bool, List, [], ◌∷◌, get_or}
use Rattle.tables.specs.Lent.{Left}
use Rattle.tables.specs.Running.{Lending}

-- a call with a test of one's choice, and calls with the tests that `quick` chooses
abbrev pub choose : Bool → Lending → Lending
choose q k = record {
  asked = record { quick = q; clock = k.asked.clock; action = k.asked.action; input = k.asked.input };
  out = k.out;
  tries = k.tries;
}

unfoldable pub choosing : (ℕ → Bool) → List Lending → List Lending
choosing quick [] = []
choosing quick (k ∷ ks) = choose (quick 0) k ∷ choosing (λ i. quick (suc i)) ks

-- word 6 of a batch's 349 words is the quick test's memory
abbrev pub is_memory : ℕ → Type 0
is_memory i = ◌≡◌ {A = ℕ} (i % 349) 6

pub record SameBut (y z : Left) : Type 0 where
  pub answer : y.answer ≡ z.answer
  pub written : y.written ≡ z.written
  pub out : y.lent.out ≡ z.lent.out
  pub desk : y.lent.desk ≡ z.lent.desk
  pub codes : y.lent.tables.codes ≡ z.lent.tables.codes
  pub flags : y.lent.tables.flags ≡ z.lent.tables.flags
  pub balances : y.lent.tables.balances ≡ z.lent.tables.balances
  pub sublimits : y.lent.tables.sublimits ≡ z.lent.tables.sublimits
  pub batches : (i : ℕ) → (is_memory i → ⊥) → get_or y.lent.tables.batches i 0 ≡ get_or z.lent.tables.batches i 0
  pub references : y.lent.tables.references ≡ z.lent.tables.references
  pub bins : y.lent.tables.bins ≡ z.lent.tables.bins
  pub sheet : y.lent.tables.sheet ≡ z.lent.tables.sheet

abbrev pub AllSameBut : List Left → List Left → Type 0
AllSameBut [] [] = Unit {0}
AllSameBut [] (z ∷ zs) = ⊥
AllSameBut (y ∷ ys) [] = ⊥
AllSameBut (y ∷ ys) (z ∷ zs) = SameBut y z × AllSameBut ys zs
