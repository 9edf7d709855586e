-- The cores so far took the message, and the others are as they were.
use Rattle.std.proofs.Common.{◌≡◌, ◌<◌, ◌≤◌, ℕ, get_or}
use Rattle.scr_wire.specs.declared.message.Message.{Message}
use Rattle.scr_wire.specs.Spelling.{Spells}
use Rattle.scr_replica.specs.Told.{untold, Tells}
use Rattle.scr_replica.proofs.filling.give_all.Given as goal

abbrev pub invariant-loop-core : goal.invariant-loop-core
invariant-loop-core l = record {
  done : (message : Message) → Spells message l.packet → (c : ℕ) → c < l.core-index → Tells l.plan.history message (get_or l.fn.cores c untold) (get_or l.cores c untold);
  rest : (c : ℕ) → l.core-index ≤ c → get_or l.cores c untold ≡ get_or l.fn.cores c untold;
}
