-- The counts of a core add up: what its frames carry and what it recovers is what is kept, and what is kept and what is
-- skipped is all.
use Rattle.std.proofs.Common.{◌≡◌, ℕ, ◌+◌, ◌-◌, ◌≤◌, arith, ◌∙◌}
use Rattle.std.specs.List.{range_with_len}
use Rattle.std.proofs.lemmas.List.FromFn.{length-range_with_len}
use Rattle.scr_plan.specs.declared.counting.CoreCounts.{CoreCounts}
use Rattle.scr_plan.specs.declared.counting.Tally.{Tally}
use Rattle.scr_plan.specs.Plan.{Plan, frame_count}
use Rattle.scr_plan.specs.Delivered.{delivers, delivers_to}
use Rattle.scr_plan.specs.Kept.{keeps, carries_to}
use Rattle.scr_plan.specs.Counts.{plan_counts, kept_count}
use Rattle.scr_plan.proofs.Tallies.{IsTally}
use Rattle.scr_plan.proofs.FromOne.{count-without, count-not}
use Rattle.scr_plan.proofs.Packets.{kept-carried}

pub recovered-total : (plan : Plan) (core : ℕ) → (plan_counts plan core).recovered + (plan_counts plan core).carried ≡ kept_count plan
recovered-total plan core =
    count-without (λ p. keeps plan p) (λ p. carries_to plan core p) (range_with_len 1 (frame_count plan))
    (λ p is. kept-carried plan core p is)

pub skipped-total : (plan : Plan) (core : ℕ) → (plan_counts plan core).skipped + kept_count plan ≡ frame_count plan
skipped-total plan core =
    count-not (λ p. keeps plan p) (range_with_len 1 (frame_count plan)) ∙ length-range_with_len 1 (frame_count plan)

-- what the tallies of all frames hold
tally-kept : (plan : Plan) (all : Tally) → IsTally (λ n. delivers plan n) plan.history (frame_count plan) all
    → all.packets ≡ kept_count plan
unfolding keeps
tally-kept plan all is = is.packets

tally-carried : (plan : Plan) (core : ℕ) (own : Tally) → IsTally (λ n. delivers_to plan core n) plan.history (frame_count plan) own
    → own.packets ≡ (plan_counts plan core).carried
unfolding carries_to
tally-carried plan core own is = is.packets

-- the counts, from the tally of the core's frames and that of all
pub record IsCounted (plan : Plan) (core : ℕ) (own all : Tally) : Type 0 where
  pub fewer : own.packets ≤ all.packets
  pub within : all.packets ≤ frame_count plan
  pub result : record {
    delivered = own.frames;
    carried = own.packets;
    recovered = all.packets - own.packets;
    skipped = frame_count plan - all.packets;
  } ≡ plan_counts plan core

pub IsCounted-from_tallies : (plan : Plan) (core : ℕ) (own all : Tally)
    → IsTally (λ n. delivers_to plan core n) plan.history (frame_count plan) own
    → IsTally (λ n. delivers plan n) plan.history (frame_count plan) all
    → IsCounted plan core own all
IsCounted-from_tallies plan core own all is_own is_all =
    let counts : CoreCounts = plan_counts plan core in
    let carries = tally-carried plan core own is_own in
    let keeps = tally-kept plan all is_all in
    let by_own = recovered-total plan core in
    let by_all = skipped-total plan core in
    let a : own.frames ≡ counts.delivered = is_own.frames in
    let b : own.packets ≡ counts.carried = carries in
    let d : all.packets - own.packets ≡ counts.recovered = omega (arith, carries, keeps, by_own) in
    let e : frame_count plan - all.packets ≡ counts.skipped = omega (arith, keeps, by_all) in
    record {
      fewer = omega (arith, carries, keeps, by_own);
      within = omega (arith, keeps, by_all);
      result = λ i. record { delivered = a i; carried = b i; recovered = d i; skipped = e i };
    }
