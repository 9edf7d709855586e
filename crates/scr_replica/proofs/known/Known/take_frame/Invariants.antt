-- What is known is final, as far as the rows were taken.
use Rattle.std.proofs.Common.{◌≡◌, ◌+◌, ◌-◌, ◌≤◌, ℕ, length}
use Rattle.scr_plan.specs.Plan.{Plan}
use Rattle.scr_wire.specs.Spelling.{number_of}
use Rattle.scr_replica.specs.Entries.{Knows, IsFrameTo}
use Rattle.scr_replica.proofs.Knowing.{IsFinal}
use Rattle.scr_replica.proofs.known.Known.take_frame.Given as goal

abbrev pub invariant-loop-i : goal.invariant-loop-i
invariant-loop-i l = record {
  here : length l.self-inside.entries.items ≡ l.before + l.i;
  more : length l.fn.self ≤ l.before + l.known;
  final : (plan : Plan) (core : ℕ) → IsFrameTo plan core l.frame → Knows plan core (number_of l.frame - 1) l.fn.self → IsFinal plan core l.self-inside.entries.items;
}
