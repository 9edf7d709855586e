-- The receiving ends of new lanes.
use Rattle.std.proofs.Common.{ℕ, List, ap}
use Rattle.scr_plan.specs.Plan.{Plan}
use Rattle.scr_lane.specs.Messages.{Route}
use Rattle.scr_lane.specs.Ends.{End}
use Rattle.scr_feed.specs.Made.{AreLanes}
use Rattle.scr_crew.specs.Cores.{OfCores}
use Rattle.scr_crew.specs.Workers.{IsNewEnd}

pub new_ends : (plan : Plan) (capacity : ℕ) (sends receives : List (End Route)) → AreLanes plan capacity plan.cores sends receives
    → OfCores (IsNewEnd plan) plan.cores receives
new_ends plan capacity sends receives lanes = record {
  all = lanes.all_receives;
  each = λ core end within.
      let ends = lanes.each core end end within in
      record {
        about = ap (λ (it : End Route). it.about) ends.new_receive;
        untaken = ap (λ (it : End Route). it.count) ends.new_receive;
      };
}
