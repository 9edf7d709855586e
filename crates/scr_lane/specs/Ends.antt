-- An end of a lane as its callers see it.
use Rattle.std.specs.Prelude.{◌≡◌, ℕ, ◌+◌, ◌<◌, ◌≤◌, ◌⊎◌, List, [], ◌∷◌, ◌++◌}
use Rattle.atomic_table.specs.Seated.{TableId}

-- which lane it is: the table of its queue, and that of its two counts
pub record LaneId : Type 0 where
  pub queue : TableId
  pub counts : TableId

-- which lane it is of and what that is about, the capacity, how many items this end has sent or taken, and its looks at the
-- other's count
pub record End (A : Type 0) : Type 0 where
  pub lane : LaneId
  pub about : A
  pub capacity : ℕ
  pub count : ℕ
  pub looks : List ℕ

-- how many items may be under way at most
abbrev pub most_waiting : ℕ
most_waiting = 1024

-- an end that has done nothing yet
abbrev pub begun : {A : Type 0} → LaneId → A → (capacity : ℕ) → End A
begun lane about capacity = record { lane = lane; about = about; capacity = capacity; count = 0; looks = [] }

-- what the newest look found, where there is one
unfoldable pub last_or : ℕ → List ℕ → ℕ
last_or before [] = before
last_or before (look ∷ looks) = last_or look looks

-- by the newest look there is room for one item more. Before the first look none was taken
abbrev pub ShowsRoom : {A : Type 0} → End A → Type 0
ShowsRoom end = end.count < last_or 0 end.looks + end.capacity

-- by the newest look one item more was sent than were taken
abbrev pub ShowsItem : {A : Type 0} → End A → Type 0
ShowsItem end = end.count < last_or 0 end.looks

-- one item more was sent or taken
abbrev pub moved : {A : Type 0} → End A → End A
moved end = record end { count = end.count + 1 }

module _ {A : Type 0} where
  -- one look more, which found this
  abbrev pub Found : (old new : End A) → ℕ → Type 0
  Found old new look = new ≡ record old { looks = old.looks ++ look ∷ [] }

  -- a call has looked once, or not at all
  abbrev pub HasLooked : (old new : End A) → Type 0
  HasLooked old new = (new ≡ old) ⊎ ((look : ℕ) × Found old new look)

  -- the call's own look found as many items under way as there may be
  abbrev pub FoundNoRoom : (old new : End A) → Type 0
  FoundNoRoom old new = (taken : ℕ) × Found old new taken × (taken + old.capacity ≤ old.count)

  -- the call's own look found no item more than were taken
  abbrev pub FoundNothing : (old new : End A) → Type 0
  FoundNothing old new = (sent : ℕ) × Found old new sent × (sent ≤ old.count)
