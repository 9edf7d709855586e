use Rattle.std.proofs.Common.{◌≡◌, ◌<◌, ℕ, None}
use Rattle.scr_plan.specs.FinalEntry.{final_entry}
use Rattle.scr_replica.specs.Replicas.{at_hand, asked}
use Rattle.scr_replica.proofs.replica.Replica.next_to_ask.Given as goal

abbrev pub invariant-loop-place : goal.invariant-loop-place
invariant-loop-place g l =
    (i : ℕ) → i < l.place → final_entry l.self.pass.logs.plan (asked l.self.pass.logs.plan (at_hand l.self) i) (at_hand l.self) ≡ None
