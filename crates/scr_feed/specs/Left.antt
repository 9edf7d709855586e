-- What a feed has taken from its sequencer and not sent yet: a message for the lane of every core from one core on, and
-- then frames, each for the lane of its core.
use Rattle.std.specs.Prelude.{◌≡◌, ℕ, ◌<◌, List, [], ◌∷◌, ◌++◌, map, Option, Some, None, nat_le, if◌then◌else◌}
use Rattle.std.specs.List.{flat_map}
use Rattle.scr_wire.specs.declared.message.Message.{Message}
use Rattle.scr_wire.specs.declared.message.Message.TheVariants as message
use Rattle.scr_wire.specs.Spelling.{spelling}
use Rattle.scr_sequencer.specs.Sequence.{Arriving}
use Rattle.scr_sequencer.specs.Answers.{packets_to}
use Rattle.scr_feed.specs.declared.to_all.ToAll.{ToAll}
use Rattle.scr_feed.specs.declared.to_all.ToAll.TheVariants.{Nothing, Beacon, End}

-- the message for every lane, where there is one
abbrev pub messages_of : ToAll → List Message
messages_of Nothing = []
messages_of (Beacon number) = message.Beacon number ∷ []
messages_of (End number) = message.End number ∷ []

pub record Left : Type 0 where
  pub to_all : List Message
  pub from : ℕ
  pub frames : List Arriving

-- what of it is for the lane of this core, in order
abbrev pub left_for : Left → (core : ℕ) → List (List ℕ)
left_for left core =
    (if nat_le left.from core then map spelling left.to_all else []) ++ flat_map (packets_to core) left.frames

-- nothing of it is for all cores
abbrev pub NoneToAll : (cores : ℕ) → Left → Type 0
NoneToAll cores left = (core : ℕ) → core < cores → left_for left core ≡ flat_map (packets_to core) left.frames

-- what is left of a frame once its packet was sent: its copy, where it comes twice
abbrev pub second : (core : ℕ) → (copy : Option (List ℕ)) → Option Arriving
second core None = None
second core (Some packet) = Some (record { core = core; packet = packet; copy = None })
