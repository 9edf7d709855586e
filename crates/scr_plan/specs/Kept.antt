-- Which packets the delivered frames carry. A frame carries its own packet and as many before it as the history says.
use Rattle.std.specs.Prelude.{ℕ, ◌-◌, ◌≤◌, max, Bool, ◌&&◌, nat_le}
use Rattle.std.specs.List.{list_any, range_with_len}
use Rattle.scr_plan.specs.Plan.{Plan, frame_count}
use Rattle.scr_plan.specs.Delivered.{IsDelivered, IsDeliveredTo, delivers, delivers_to}

-- the first packet that frame n carries
abbrev pub first_carried : ℕ → ℕ → ℕ
first_carried history n = max 1 (n - history)

-- whether frame n carries packet p
abbrev pub carries : ℕ → ℕ → ℕ → Bool
carries history n p = nat_le (first_carried history n) p && nat_le p n

-- the same as a fact
pub record Carries (history n p : ℕ) : Type 0 where
  pub from : first_carried history n ≤ p
  pub to : p ≤ n

-- whether one of the frames 1 to `frames` that pass a test carries packet p
abbrev pub some_carries : (ℕ → Bool) → (history frames p : ℕ) → Bool
some_carries test history frames p = list_any (λ n. test n && carries history n p) (range_with_len 1 frames)

-- whether packet p is kept: some delivered frame carries it
unfoldable pub keeps : Plan → ℕ → Bool
keeps plan p = some_carries (λ n. delivers plan n) plan.history (frame_count plan) p

-- the same as a fact
pub record IsKept (plan : Plan) (p : ℕ) : Type 0 where
  pub frame : ℕ
  pub is_delivered : IsDelivered plan frame
  pub carries_it : Carries plan.history frame p

-- whether some frame that is delivered to this core carries packet p
unfoldable pub carries_to : Plan → (core p : ℕ) → Bool
carries_to plan core p = some_carries (λ n. delivers_to plan core n) plan.history (frame_count plan) p

-- the same as a fact
pub record IsCarried (plan : Plan) (core p : ℕ) : Type 0 where
  pub frame : ℕ
  pub is_delivered : IsDeliveredTo plan core frame
  pub carries_it : Carries plan.history frame p
