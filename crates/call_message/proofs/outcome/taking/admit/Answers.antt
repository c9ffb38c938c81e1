use Rattle.call_message.proofs.outcome.TakeLaws.{lent_counted, bin_is, fair, fault_room, rejected, accepted}
use borrow.Author.Rules.{rules}
use Rattle.call_message.proofs.outcome.taking.admit.Goals as goal

-- src/taking.rt:74:9
pub message_fault-fault-requires : goal.message_fault-fault-requires
message_fault-fault-requires c = record { banks_in_bounds = (c.requires.0.in_codes, c.requires.0.in_flags, c.requires.1); banks_bound = (c.requires.0.few_banks, c.requires.0.few, lent_counted _ _ _ _ _ _ _ _ _ _ _ c.requires.0) }

-- src/taking.rt:92:13
pub end_with_message-requires : goal.end_with_message-requires
end_with_message-requires c = record { ready = (c.requires.0.ready, c.requires.0.legible, c.requires.0.below); room = fault_room _ _ _ _ _ _ _ _ _ _ _ c.requires.0 _ _ c.message_fault-fault.ensures _ c.in-Err.is _ (bin_is _ _ _ _ _ _ _ _ _ _ _ c.requires.0) }

-- src/taking.rt:96:25
pub take_in-requires : goal.take_in-requires
take_in-requires c = record { takeable = c.requires.0; fair = fair _ _ _ _ _ _ _ _ _ _ _ c.requires.0 _ _ c.message_fault-fault.ensures (search rules) }

-- src/taking.rt:54:1
pub returns-in-Err : goal.returns-in-Err
returns-in-Err c = rejected _ _ _ _ _ _ _ _ _ _ _ c.requires.0 _ _ c.message_fault-fault.ensures _ c.in-Err.is _ (bin_is _ _ _ _ _ _ _ _ _ _ _ c.requires.0) _ _ _ _ _ _ _ _ _ _ _ c.end_with_message.ensures

-- src/taking.rt:54:1
pub returns-in-Ok : goal.returns-in-Ok
returns-in-Ok c = accepted _ _ _ _ _ _ _ _ _ _ _ c.requires.0 _ _ c.message_fault-fault.ensures (search rules) _ _ _ _ _ _ _ _ _ _ _ c.take_in.ensures
