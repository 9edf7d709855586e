-- What the rules of a lane see of its two ends.
use Rattle.std.specs.Prelude.{◌≡◌, ℕ, List}
use Rattle.atomic_table.specs.Seated.{TableId}
use Rattle.scr_lane.specs.declared.view.Role.{Role}
use Rattle.scr_lane.specs.declared.view.Role.TheVariants.{Both}
use Rattle.scr_lane.specs.declared.view.Hand.{Hand}
use Rattle.scr_lane.specs.declared.view.Tally.{Tally}

-- an end at the queue: what its lane is about, the capacity, and how many items it has sent or taken
abbrev pub hand : {A : Type 0} → Role → A → (capacity count : ℕ) → Hand A
hand role about capacity count = record { role = role; about = about; capacity = capacity; count = count }

-- both ends at the queue, before they are parted. What it is about then means nothing
abbrev pub blank : {A : Type 0} → (nothing : A) → Hand A
blank nothing = hand Both nothing 0 0

-- an end at the two words: the number that it has stored, and its looks at the other word
abbrev pub tally : Role → (stored : ℕ) → (looks : List ℕ) → Tally
tally role stored looks = record { role = role; stored = stored; looks = looks }

-- an end has sent or taken so many items, as the queue and the two words see it. Its seat is one of the lane's words
abbrev pub StandsAt : {A : Type 0} → Role → Hand A → Tally → (seat counts : TableId) → (capacity count : ℕ) → Type 0
StandsAt role held told seat counts capacity count =
    (held ≡ hand role held.about capacity count) × (seat ≡ counts) × (told.stored ≡ count)
