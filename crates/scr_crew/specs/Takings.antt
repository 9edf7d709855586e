-- Verdicts come by the lanes of all cores, and are taken in the order of the frames.
use Rattle.std.specs.Prelude.{◌≡◌, ℕ, ◌+◌, ◌-◌, ◌≤◌, List, [], ◌∷◌, drop, filter_map, Option, Some, None}
use Rattle.std.specs.List.{range_with_len}
use Rattle.scr_base.specs.declared.row.Row.{Row}
use Rattle.scr_base.specs.declared.row.Verdict.{Verdict}
use Rattle.scr_plan.specs.declared.given.Given.{Given}
use Rattle.scr_plan.specs.Plan.{Plan, frame_count}
use Rattle.scr_lane.specs.Ends.{End}
use Rattle.scr_replica.specs.OneCore.{given_at, given_to}
use Rattle.scr_crew.specs.Cores.{OfCores}
use Rattle.scr_crew.specs.declared.taking.Ready.{Ready}
use Rattle.scr_crew.specs.declared.taking.Ready.TheVariants as ready
use Rattle.scr_crew.specs.declared.arrivals.Front.{Front}
use Rattle.scr_crew.specs.declared.arrivals.Front.TheVariants as front

-- what is still to come of a lane: the verdict that was taken from it before its turn, and what the lane has yet
abbrev pub still_to_come : End (List Given) → (held : Option Given) → List Given
still_to_come end (Some given) = given ∷ drop end.count end.about
still_to_come end None = drop end.count end.about

-- of what is to come, the first is frame n's and is taken; or there is one, and it isn't; or none has arrived
abbrev pub FrontTells : (n : ℕ) → (old new : List Given) → Front → Type 0
FrontTells n old new (front.Its given) = (old ≡ given ∷ new) × (given.number ≡ n)
FrontTells n old new front.Later = (new ≡ old) × ((given : Given) × (rest : List Given) × (old ≡ given ∷ rest) × (given.number ≡ n → ⊥))
FrontTells n old new front.Empty = new ≡ old

-- the number of the frame whose turn it is, and what is still to come of the lane of each core
pub record Takings : Type 0 where
  pub next : ℕ
  pub to_come : List (List Given)

module _ (verdict_after : List Row → Row → Verdict) (plan : Plan) where
  -- the verdicts at the delivered frames from n on, in order
  unfoldable pub verdicts_from : (n : ℕ) → List Given
  verdicts_from n = filter_map (given_at verdict_after plan) (range_with_len n (frame_count plan + 1 - n))

  -- those at the frames that are delivered to this core
  unfoldable pub course_from : (core n : ℕ) → List Given
  course_from core n = filter_map (given_to verdict_after plan core) (range_with_len n (frame_count plan + 1 - n))

  -- of each core its verdicts from the next frame on are still to come
  pub record AreToCome (takings : Takings) : Type 0 where
    pub from : 1 ≤ takings.next
    pub to : takings.next ≤ frame_count plan + 1
    pub each : OfCores (λ core list. list ≡ course_from core takings.next) plan.cores takings.to_come

  -- the next verdict in the order of the frames is this; or the frame has none; or it isn't there yet; or no frame is left
  abbrev pub ReadyTells : (old new : Takings) → Ready → Type 0
  ReadyTells old new (ready.Given given) = (verdicts_from old.next ≡ given ∷ verdicts_from new.next) × AreToCome new
  ReadyTells old new ready.Passed = (verdicts_from old.next ≡ verdicts_from new.next) × AreToCome new
  ReadyTells old new ready.NotYet = new ≡ old
  ReadyTells old new ready.All = (new ≡ old) × (verdicts_from old.next ≡ [])
