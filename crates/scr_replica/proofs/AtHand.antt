-- The packet at hand: its number, and once it is published whether it is delivered or carried to this core.
use Rattle.std.proofs.Common.{◌≡◌, ◌≢◌, ℕ, ◌+◌, ◌≤◌, ◌&&◌, Option, arith, sym, ap, ◌∙◌, eqb}
use Rattle.std.specs.Prelude.{is_some}
use Rattle.scr_base.specs.declared.row.Row.{Row}
use Rattle.scr_plan.specs.Plan.{Plan, frame_count}
use Rattle.scr_plan.specs.Delivered.{delivers_to}
use Rattle.scr_plan.specs.Kept.{carries_to}
use Rattle.scr_plan.specs.FinalEntry.{final_entry}
use Rattle.scr_wire.specs.Lane.{decided}
use Rattle.scr_wire.proofs.Decides.{decided-le}
use Rattle.scr_replica.specs.declared.heard.Heard.{Heard}
use Rattle.scr_replica.specs.declared.standing.Standing.TheVariants as standing
use Rattle.scr_replica.specs.Replicas.{Replica, IsReplica, at_hand}
use Rattle.scr_replica.proofs.Packets.{row_in-entry_with, is_some-entry}
use Rattle.scr_replica.proofs.Saying.{own-of}
use Rattle.scr_replica.specs.Stages.{Keeps}

module _ {State : Type 0} where
  pub going : (it : Replica State) → it.standing ≡ standing.Running → it.standing ≢ standing.Ended
  going it running ended = let e : standing.Running ≡ standing.Ended = sym running ∙ ended in absurd cc

  -- the packet at hand has a small number
  pub few-hand : (it : Replica State) (p : ℕ) → IsReplica it → p ≤ decided it.pass.logs.plan it.pass.core it.lane.count → p ≤ 1000000
  few-hand it p is le =
      let most = decided-le it.pass.logs.plan it.pass.core it.lane.count in
      let rows = is.is_logs.plan.few_rows in
      omega arith

  pub within-run : (it : Replica State) (p : ℕ) → p ≤ decided it.pass.logs.plan it.pass.core it.lane.count → p ≤ frame_count it.pass.logs.plan
  within-run it p le = let most = decided-le it.pass.logs.plan it.pass.core it.lane.count in omega arith

  module _ (it : Replica State) (h : Heard) (row : Option Row) (done k history : ℕ) (was : Keeps it h row done k history)
      (hand : it.pass.published ≡ at_hand it) where
    to-decided : at_hand it ≤ decided it.pass.logs.plan it.pass.core it.lane.count
    to-decided = let up = was.replica.published in omega arith

    pub hand-in-run : at_hand it ≤ frame_count it.pass.logs.plan
    hand-in-run = within-run it (at_hand it) to-decided

    pub hand-small : at_hand it ≤ 1000000
    hand-small = few-hand it (at_hand it) was.replica to-decided

    pub own-here : (is_some row && eqb (done + 1) h.decided) ≡ delivers_to it.pass.logs.plan it.pass.core (at_hand it)
    own-here =
        let plan : Plan = it.pass.logs.plan in
        let core : ℕ = it.pass.core in
        let earlier = was.earlier in
        ap (λ (o : Option Row). is_some o && eqb (done + 1) h.decided) (was.row hand)
        ∙ ap (λ (n : ℕ). is_some (final_entry plan core (at_hand it)) && eqb (n + 1) h.decided) was.finished
        ∙ ap (λ (n : ℕ). is_some (final_entry plan core (at_hand it)) && eqb (at_hand it) n) was.heard.decided
        ∙ own-of plan core it.lane.count was.replica.is_logs.plan h.packet (at_hand it) was.heard.last (omega arith) to-decided

    pub knows-here : is_some row ≡ carries_to it.pass.logs.plan it.pass.core (at_hand it)
    knows-here =
        let plan : Plan = it.pass.logs.plan in
        let core : ℕ = it.pass.core in
        ap is_some (was.row hand)
        ∙ ap is_some (sym (row_in-entry_with (delivers_to plan core (at_hand it)) (final_entry plan core (at_hand it))))
        ∙ is_some-entry plan (at_hand it) (omega arith) hand-in-run core
