-- The lane of a core: the list of messages that it is given over a whole run. They are those of the order of its beacons
-- and frames, and last the end.
use Rattle.std.specs.Prelude.{ℕ, ◌+◌, ◌-◌, List, [], ◌∷◌, ◌++◌, take, drop, map, fold, max, if◌then◌else◌}
use Rattle.scr_base.specs.declared.row.Row.{Row}
use Rattle.scr_plan.specs.Plan.{Plan, frame_count}
use Rattle.scr_plan.specs.Delivered.{delivers}
use Rattle.scr_plan.specs.Kept.{first_carried}
use Rattle.scr_plan.specs.Delays.{greatest_delay}
use Rattle.scr_plan.specs.Order.{Item, items_at, items_to}
use Rattle.scr_plan.specs.Order as item
use Rattle.scr_wire.specs.declared.message.Message.{Message}
use Rattle.scr_wire.specs.declared.message.Message.TheVariants.{Frame, Beacon, End}

-- the rows that frame n carries: from the first to its own
abbrev pub rows_carried : Plan → (n : ℕ) → List Row
rows_carried plan n = drop (first_carried plan.history n - 1) (take n plan.rows)

-- the message of frame n
abbrev pub frame : Plan → (n : ℕ) → Message
frame plan n = Frame n (rows_carried plan n)

-- the message of a beacon or a frame
abbrev pub message_of : Plan → Item → Message
message_of plan (item.Beacon n) = Beacon n
message_of plan (item.Frame n) = frame plan n

-- what a step adds to the lane of a core
abbrev pub added : Plan → (core step : ℕ) → List Message
added plan core step = map (message_of plan) (items_at plan core step)

-- what the steps from 1 to n add
unfoldable pub lane_so_far : Plan → (core n : ℕ) → List Message
lane_so_far plan core n = map (message_of plan) (items_to plan core n)

-- the step behind which nothing more comes
abbrev pub last_step : Plan → ℕ
last_step plan = frame_count plan + greatest_delay

-- the whole lane
abbrev pub lane : Plan → (core : ℕ) → List Message
lane plan core = lane_so_far plan core (last_step plan) ++ End (frame_count plan) ∷ []

-- the number up to which a message decides what a core will ever know by its own frames: a delivered frame up to itself,
-- and one that came too late nothing; a beacon up to the history before it, as later frames carry no earlier packets; and
-- the end up to the last
abbrev pub decided_by : Plan → Message → ℕ
decided_by plan (Frame n rows) = if delivers plan n then n else 0
decided_by plan (Beacon n) = n - plan.history
decided_by plan (End n) = n

-- the same of several messages: the greatest, and 0 for none
abbrev pub decided_by_all : Plan → List Message → ℕ
decided_by_all plan messages = fold max 0 (map (decided_by plan) messages)

-- the number up to which the first m messages of the lane decide
unfoldable pub decided : Plan → (core m : ℕ) → ℕ
decided plan core m = decided_by_all plan (take m (lane plan core))
