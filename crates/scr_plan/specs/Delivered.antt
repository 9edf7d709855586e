-- Which frames are delivered, and to which core. Frames are numbered from 1.
use Rattle.std.specs.Prelude.{◌≡◌, ℕ, ◌≤◌, Bool, true, false, ◌&&◌, List, ◌==◌, nat_lt}
use Rattle.std.specs.List.{before_first, list_all}
use Rattle.scr_plan.specs.Plan.{Plan, frame_count}
use Rattle.scr_plan.specs.Order.{Item, Beacon, Frame, order, sends}
pub use Rattle.scr_plan.specs.Order.{core_number}

-- the number of a beacon or a frame
abbrev pub number_of : Item → ℕ
number_of (Beacon n) = n
number_of (Frame n) = n

-- whether it is frame n
abbrev pub is_frame : (n : ℕ) → Item → Bool
is_frame n (Beacon m) = false
is_frame n (Frame m) = m == n

-- what stands before the first copy of frame n in the lane of its core
abbrev pub ahead_of : Plan → (n : ℕ) → List Item
ahead_of plan n = before_first (is_frame n) (order plan (core_number plan.cores n))

-- frame n is delivered: it is sent, and each frame and beacon before its first copy has a number below n
unfoldable pub delivers : Plan → (n : ℕ) → Bool
delivers plan n = sends plan n && list_all (λ item. nat_lt (number_of item) n) (ahead_of plan n)

-- the same as a fact
pub record IsDelivered (plan : Plan) (n : ℕ) : Type 0 where
  pub from : 1 ≤ n
  pub to : n ≤ frame_count plan
  pub delivered : delivers plan n ≡ true

-- whether frame n is delivered to this core
unfoldable pub delivers_to : Plan → (core n : ℕ) → Bool
delivers_to plan core n = delivers plan n && (core_number plan.cores n == core)

-- the same as a fact
pub record IsDeliveredTo (plan : Plan) (core n : ℕ) : Type 0 where
  pub is : IsDelivered plan n
  pub its_core : core_number plan.cores n ≡ core
