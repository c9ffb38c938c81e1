-- The answer to a text: it is the only one, and it depends neither on the bytes after the line of the first break nor on any past the first 4,096.
use Prim.Native.Nat.{ℕ, ◌+◌}
use mathlib.Core.Path.{◌≡◌, ap, sym, ◌∙◌}
use mathlib.Core.List.{List}
use mathlib.Core.Logic.{inl, inr}
use native.Mathlib.Omega.{arith}
use lib.ListN.{take}
use lib.Seq.{take-take}
use Rattle.text_fields.specs.declared.Break.{Break}
use Rattle.text_fields.proofs.Alike.{Or}
use Rattle.request_read.specs.whole.Request.{request_at}
use Rattle.request_read.specs.declared.whole.Outcome.{Outcome}
use Rattle.request_read.specs.declared.whole.Outcome.TheVariants.{Refused}
use Rattle.request_read.specs.declared.whole.Reading.{Reading}
use Rattle.request_read.proofs.whole.Alike.{out_stop, reading_stop, request_in, request_alike}

-- two outcomes that satisfy the contract of `read_request` are equal
pub only_answer : (s : List ℕ) (r r' : Reading) → r ≡ request_at s → r' ≡ request_at s → r ≡ r'
only_answer s r r' p q = p ∙ sym q

-- a text that is refused is refused alike whatever follows the line of its first break: no line that is read is as long as 32 bytes
pub first_break : (s t : List ℕ) (b : Break) → (request_at s).outcome ≡ Refused b → take (b.at + 32) s ≡ take (b.at + 32) t → request_at s ≡ request_at t
first_break s t b h e = go (request_alike (record { first = e }))
  where
    stops : reading_stop (request_at s) ≡ b.at
    stops = ap (λ (o : Outcome). out_stop o ((request_at s).count.part.end + 2) ((request_at s).head.address.bin.part.end + 2)) h

    go : Or (b.at + 32) (request_at s) (request_at t) (reading_stop (request_at s)) → request_at s ≡ request_at t
    go (inl q) = q
    go (inr q) = absurd (omega (arith, q, stops))

-- nothing past the first 4,096 bytes is looked at
pub first_4096 : (s t : List ℕ) → take 4096 s ≡ take 4096 t → request_at s ≡ request_at t
first_4096 s t e = go (request_alike (record { first = e }))
  where
    go : Or 4096 (request_at s) (request_at t) (reading_stop (request_at s)) → request_at s ≡ request_at t
    go (inl q) = q
    go (inr q) = absurd (omega (arith, q, request_in s))

pub within_reach : (s : List ℕ) → request_at (take 4096 s) ≡ request_at s
within_reach s = first_4096 (take 4096 s) s (take-take 4096 4096 s (omega arith))
