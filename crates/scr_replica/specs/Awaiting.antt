-- The cores of a run by phases, while they are given what the steps add to their lanes.
use Rattle.std.specs.Prelude.{◌≡◌, ℕ, ◌<◌, ◌≤◌, List, [], ◌++◌, length, slice_index_or}
use Rattle.std.specs.List.{AllZip}
use Rattle.scr_plan.specs.Plan.{Plan, IsPlan}
use Rattle.scr_wire.specs.declared.message.Message.{Message}
use Rattle.scr_wire.specs.Spelling.{Spells}
use Rattle.scr_wire.specs.Lane.{lane_so_far, last_step}
use Rattle.scr_replica.specs.Told.{Told, untold, IsTold}

-- a core took a front of what the steps up to n add to its lane, and these packets spell the rest
pub record Awaits (plan : Plan) (core n : ℕ) (packets : List (List ℕ)) (it : Told) : Type 0 where
  pub front : List Message
  pub coming : List Message
  pub all : lane_so_far plan core n ≡ front ++ coming
  pub spelled : AllZip Spells coming packets
  pub told : IsTold plan core (length front) it

-- the same of each core, in order
pub record AllAwait (plan : Plan) (n : ℕ) (packets : (core : ℕ) → List (List ℕ)) (cores : List Told) : Type 0 where
  pub is_plan : IsPlan plan
  pub within : n ≤ last_step plan
  pub count : length cores ≡ plan.cores
  pub each : (core : ℕ) → core < plan.cores → Awaits plan core n (packets core) (slice_index_or cores core untold)

-- the cores took all that the steps up to n add
abbrev pub AllTook : Plan → (n : ℕ) → List Told → Type 0
AllTook plan n cores = AllAwait plan n (λ core. []) cores
