-- The room that a call asks for is enough for all its texts.
use Prim.Native.Nat.{ℕ, ◌+◌, ◌≤◌, ◌<◌}
use mathlib.Core.Bool.{Bool, true, false, cond}
use mathlib.Core.List.{List, ◌++◌}
use native.Mathlib.Omega.{arith}
use lib.ListN.{length, length-append}
use Rattle.model.specs.State.{State}
use Rattle.model.specs.Replies.{Reply}
use Rattle.model.specs.Kinds.{is_close}
use Rattle.model.specs.Calls.{Call, Engine, begun, replies, last_replies}
use Rattle.model.specs.Rules.{Opened, Valid}
use Rattle.model.specs.Answered.{acted, outcome, stepped_replies}
use Rattle.model.proofs.Keeping.{Readers}
use Rattle.model.proofs.Output.{stepped_right, few_texts}
use Rattle.model.proofs.ReadBack.{few_texts as few-today}
use Rattle.call_texts.specs.Writing.{Room}
use Rattle.call_texts.proofs.Laws.{room_of}

-- those of the action, of the test and, at the close, the last ones
few : (u : Bool) (rs ss : List Reply) → length rs + length ss ≤ 321 → length (cond u (rs ++ ss) rs) ≤ 321
few true rs ss h = omega (arith, length-append rs ss)
few false rs ss h = omega arith

module _ (readers : Readers) (e : Engine) (c : Call) (v : Valid e.state) (h : Opened e.state) (t : c.asked.clock < 86400) where
  abbrev s : State
  s = begun e.state c.asked.clock

  -- "33,705 bytes"; "texts written today and live messages together no more than today's references"
  pub stepped_room : (out : List ℕ) → 33705 ≤ length out → Room out 0 e.state.day.texts (stepped_replies e c)
  stepped_room out l =
      let u = is_close c.asked.action in
      room_of out 0 e.state.day.texts (stepped_replies e c) (stepped_right readers e c v h t u)
      (omega (arith, few u (replies s (acted e c) (outcome e c)) (last_replies s (acted e c) (outcome e c)) (few_texts readers e c v h t)))
      (omega (arith, few-today readers e c v h t u))
