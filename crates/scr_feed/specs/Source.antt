-- Where a feed takes frames from: the rows of the plan, and behind the last one what was held back.
use Rattle.std.specs.Prelude.{◌≡◌, ℕ, ◌+◌, ◌<◌, ◌≤◌, length}
use Rattle.scr_plan.specs.Limits.{most_packets}
use Rattle.scr_plan.specs.Plan.{Plan, frame_count}
use Rattle.scr_wire.specs.Lane.{last_step}
use Rattle.scr_sequencer.specs.Answers.{Follows, AddsFrom}
use Rattle.scr_feed.specs.declared.source.Source.{Source}
use Rattle.scr_feed.specs.declared.source.Source.TheVariants.{Rows, Held, Nothing}

-- there is a row more, as far as the limit of a run says
abbrev pub TakesRow : Source → Type 0
TakesRow (Rows sequencer) = sequencer.taken < most_packets
TakesRow (Held rest) = ⊥
TakesRow Nothing = ⊥

-- it has given what the steps of a plan from 1 to n add
abbrev pub Gives : Plan → (n : ℕ) → Source → Type 0
Gives plan n (Rows sequencer) = Follows plan sequencer × (sequencer.taken ≡ n)
Gives plan n (Held rest) = (frame_count plan ≤ n) × (n + length rest.held ≡ last_step plan) × AddsFrom plan (n + 1) rest.held
Gives plan n Nothing = ⊥
