-- The lane by which the verdicts of a core leave while it runs. Its two ends have the whole list of them, the course, and
-- each verdict has its place there, counted from 0.
use Rattle.std.specs.Prelude.{◌≡◌, ℕ, zero, suc, ◌<◌, List, [], ◌∷◌, ◌++◌, length, Some}
use Rattle.std.specs.List.{slice_get}
use Rattle.std.proofs.Common.{arith}
use Rattle.scr_base.specs.declared.row.Row.{Row}
use Rattle.scr_base.specs.declared.row.Verdict.{Verdict}
use Rattle.scr_plan.specs.declared.given.Given.{Given}
use Rattle.scr_plan.specs.Plan.{Plan}
use Rattle.scr_replica.specs.OneCore.{course}
use Rattle.scr_lane.specs.Ends.{End, HasLooked, moved}

-- this verdict stands at this place
abbrev pub StandsIn : (course : List Given) (place : ℕ) → Given → Type 0
StandsIn course place given = slice_get course place ≡ Some given

-- an end of the verdict lane of a core, which has sent or taken nothing
pub record IsNewVerdictEnd (verdict_after : List Row → Row → Verdict) (plan : Plan) (core : ℕ) (end : End (List Given)) : Type 0 where
  pub about : end.about ≡ course verdict_after plan core
  pub unmoved : end.count ≡ 0

-- an end has sent or taken one verdict more, and has looked before, or not
abbrev pub HasMoved : {A : Type 0} → (old new : End A) → Type 0
HasMoved {A} old new = (looked : End A) × HasLooked old looked × (new ≡ moved looked)

-- a sending end that was given a front of this course, and is to get the rest
pub record IsToGet (end : End (List Given)) (whole rest : List Given) : Type 0 where
  pub about : end.about ≡ whole
  pub front : List Given
  pub parts : whole ≡ front ++ rest
  pub count : end.count ≡ length front

-- what stands in a list has a place below its length
pub stands_within : (course : List Given) (place : ℕ) (given : Given) → StandsIn course place given → place < length course
stands_within [] place given e = absurd cc
stands_within (x ∷ course) zero given e = omega arith
stands_within (x ∷ course) (suc place) given e = let more = stands_within course place given e in omega arith
