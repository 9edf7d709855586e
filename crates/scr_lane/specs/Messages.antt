-- The lane of a core, as the list of messages that a plan says, each spelled as one packet.
use Rattle.std.specs.Prelude.{◌≡◌, ℕ, zero, suc, ◌<◌, List, [], ◌∷◌, length, Some}
use Rattle.std.specs.List.{slice_get}
use Rattle.std.proofs.Common.{arith}
use Rattle.scr_plan.specs.Link.{empty_link}
use Rattle.scr_plan.specs.Plan.{Plan}
use Rattle.scr_wire.specs.declared.message.Message.{Message}
use Rattle.scr_wire.specs.Lane.{lane}
use Rattle.scr_wire.specs.Spelling.{Spells}

-- whose lane it is
pub record Route : Type 0 where
  pub plan : Plan
  pub core : ℕ

abbrev pub route : Plan → (core : ℕ) → Route
route plan core = record { plan = plan; core = core }

-- a lane of no plan
abbrev pub no_route : Route
no_route = route (record { rows = []; cores = 1; history = 0; link = empty_link }) 0

-- how many messages it has
abbrev pub message_count : Route → ℕ
message_count route = length (lane route.plan route.core)

-- the packet spells the message at this place, counted from 0
pub record SpellsMessage (route : Route) (place : ℕ) (packet : List ℕ) : Type 0 where
  pub message : Message
  pub stands : slice_get (lane route.plan route.core) place ≡ Some message
  pub spells : Spells message packet

-- what stands in a list has a place below its length
get_within : {X : Type 0} (xs : List X) (n : ℕ) (x : X) → slice_get xs n ≡ Some x → n < length xs
get_within [] n x e = absurd cc
get_within (y ∷ xs) zero x e = omega arith
get_within (y ∷ xs) (suc n) x e = let more = get_within xs n x e in omega arith

pub stands_within : (route : Route) (place : ℕ) (packet : List ℕ) → SpellsMessage route place packet → place < message_count route
stands_within route place packet h = get_within (lane route.plan route.core) place h.message h.stands
