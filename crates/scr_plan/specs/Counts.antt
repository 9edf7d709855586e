-- The counts of a core, each over the numbers from 1 to the last frame.
use Rattle.std.specs.Prelude.{ℕ, ◌&&◌, not, count_by}
use Rattle.std.specs.List.{range_with_len}
use Rattle.scr_plan.specs.Plan.{Plan, frame_count}
use Rattle.scr_plan.specs.Delivered.{delivers, delivers_to}
use Rattle.scr_plan.specs.Kept.{keeps, carries_to}
use Rattle.scr_plan.specs.declared.counting.CoreCounts.{CoreCounts}

-- how many frames are delivered, and how many packets are kept, in all
abbrev pub delivered_count : Plan → ℕ
delivered_count plan = count_by (λ n. delivers plan n) (range_with_len 1 (frame_count plan))

abbrev pub kept_count : Plan → ℕ
kept_count plan = count_by (λ p. keeps plan p) (range_with_len 1 (frame_count plan))

-- of a core, over the numbers up to p: the frames that are delivered to it; the packets that some of its frames carries;
-- the kept packets that none of them carries; the packets that aren't kept
abbrev pub counts_up_to : Plan → (core p : ℕ) → CoreCounts
counts_up_to plan core p = record {
  delivered = count_by (λ n. delivers_to plan core n) (range_with_len 1 p);
  carried = count_by (λ n. carries_to plan core n) (range_with_len 1 p);
  recovered = count_by (λ n. keeps plan n && not (carries_to plan core n)) (range_with_len 1 p);
  skipped = count_by (λ n. not (keeps plan n)) (range_with_len 1 p);
}

-- the same over all numbers
abbrev pub plan_counts : Plan → (core : ℕ) → CoreCounts
plan_counts plan core = counts_up_to plan core (frame_count plan)
