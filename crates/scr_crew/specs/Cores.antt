-- Lists with an item for each core.
use Rattle.std.specs.Prelude.{◌≡◌, ℕ, ◌<◌, List, length, slice_index_or}

-- a list has so many items, from core 0 on, and each is such a one of its core
pub record OfCores {X : Type 0} (what : (core : ℕ) → X → Type 0) (cores : ℕ) (items : List X) : Type 0 where
  pub all : length items ≡ cores
  pub each : (core : ℕ) (item : X) → core < cores → what core (slice_index_or items core item)
