-- What a step of a feed tells.
use Rattle.std.specs.Prelude.{◌≡◌, ℕ, ◌+◌, ◌<◌, ◌⊎◌, true, false, slice_index_or, slice_set}
use Rattle.scr_lane.specs.Messages.{Route}
use Rattle.scr_lane.specs.Ends.{End, HasLooked, ShowsRoom, FoundNoRoom, moved}
use Rattle.scr_feed.specs.declared.step.Step.{Step}
use Rattle.scr_feed.specs.declared.step.Step.TheVariants.{Taken, Sent, Full, Done}
use Rattle.scr_feed.specs.Feeding.{Feeding, IsWhole}

-- one packet was sent, where the newest look showed room
abbrev pub HasSent : (before after : End Route) → Type 0
HasSent before after = (looked : End Route) × HasLooked before looked × ShowsRoom looked × (after ≡ moved looked)

-- the end of this core's lane has changed in this way, and no other end
pub record Changes (how : End Route → End Route → Type 0) (core : ℕ) (old new : Feeding) : Type 0 where
  pub within : core < old.plan.cores
  pub end : End Route
  pub ends : new.ends ≡ slice_set old.ends core end
  pub change : (before : End Route) → how (slice_index_or old.ends core before) end

-- the next step of the plan was taken, or the end behind the last; a packet was sent; the lane whose turn it is was full, by this
-- call's look, and nothing else has changed; or all was sent before this call, which has done nothing
abbrev pub StepTells : (old new : Feeding) → Step → Type 0
StepTells old new Taken =
    (new ≡ record old { taken = new.taken; ended = new.ended; left = new.left })
    × (((new.taken ≡ old.taken + 1) × (new.ended ≡ false))
    ⊎ ((new.taken ≡ old.taken) × (old.ended ≡ false) × (new.ended ≡ true)))
StepTells old new (Sent core) =
    (new ≡ record old { ends = new.ends; left = new.left }) × Changes HasSent core old new
StepTells old new (Full core) = (new ≡ record old { ends = new.ends }) × Changes FoundNoRoom core old new
StepTells old new Done = (new ≡ old) × IsWhole new
