-- The rule of a lane's queue. A lane is a list of items that one end sends and the other takes, in order. Which item may
-- stand at which place, counted from 0, is given by `fits`, and how many there are by `total`, so that the same rule
-- serves every kind of lane.
use Rattle.std.specs.Prelude.{◌≡◌, ℕ, ◌+◌, ◌<◌, ◌≤◌, ◌⊎◌, List, [], ◌∷◌, length, Option, Some, None}
use Rattle.scr_lane.specs.declared.view.Role.TheVariants.{Sender, Receiver}
use Rattle.scr_lane.specs.declared.view.Hand.{Hand}
use Rattle.scr_lane.specs.Views.{hand, blank}

-- these items fit the places from `place` on
abbrev pub FitFrom : {T : Type 0} → (ℕ → T → Type 0) → (place : ℕ) → List T → Type 0
FitFrom fits place [] = Unit {0}
FitFrom fits place (item ∷ items) = fits place item × FitFrom fits (place + 1) items

-- before the ends are parted, one pass is both, and the queue is empty
pub record IsBlank {T A : Type 0} (nothing : A) (items : List T) (views : List (Hand A)) : Type 0 where
  pub pass : views ≡ blank nothing ∷ []
  pub empty : items ≡ []

module _ {T A : Type 0} (total : A → ℕ) (fits : A → ℕ → T → Type 0) where
  -- afterwards the two ends have one lane and one capacity. What was taken was sent before, and what was sent is no more
  -- than the lane has. No more is under way than the capacity, and the queue holds just what is: from front to back, the
  -- items behind those that were taken
  pub record IsUnderWay (items : List T) (views : List (Hand A)) : Type 0 where
    pub about : A
    pub capacity : ℕ
    pub sent : ℕ
    pub taken : ℕ
    pub ends : views ≡ hand Sender about capacity sent ∷ hand Receiver about capacity taken ∷ []
    pub order : taken ≤ sent
    pub within : sent ≤ total about
    pub room : sent ≤ taken + capacity
    pub count : taken + length items ≡ sent
    pub fit : FitFrom (fits about) taken items

  abbrev pub InLane : (nothing : A) → List T → List (Hand A) → Type 0
  InLane nothing items views = IsBlank nothing items views ⊎ IsUnderWay items views

-- one item more was sent or taken
abbrev pub one_more : {A : Type 0} → Hand A → Hand A
one_more v = record { role = v.role; about = v.about; capacity = v.capacity; count = v.count + 1 }

-- a push: one item more was sent
abbrev pub Sends : {T A : Type 0} → Hand A → T → Hand A → Type 0
Sends v item w = w ≡ one_more v

-- a pop: one item more was taken, and it fits its place in the lane
abbrev pub Takes : {T A : Type 0} → (A → ℕ) → (A → ℕ → T → Type 0) → Hand A → T → Hand A → Type 0
Takes total fits v item w = (w ≡ one_more v) × fits v.about v.count item × (v.count < total v.about)

-- what was picked, where something was
abbrev pub picked_or : {A : Type 0} → A → Option A → A
picked_or about None = about
picked_or about (Some picked) = picked
