-- The links of an order: a ring through all places, forth and back, that begins and ends at the bound.
use Rattle.std.specs.Prelude.{◌≡◌, ℕ, ◌+◌, ◌<◌, ◌≤◌, ⊤, List, [], ◌∷◌, length, reverse, slice_index, Contains}

-- the first of these places, or `end`
abbrev pub first_or : List ℕ → ℕ → ℕ
first_or [] end = end
first_or (place ∷ places) end = place

-- the last of these places, or the one before them
abbrev pub last_or : ℕ → List ℕ → ℕ
last_or place [] = place
last_or place (next ∷ places) = last_or next places

-- the links lead from a place through these places to the end
abbrev pub Leads : List ℕ → ℕ → List ℕ → ℕ → Type 0
Leads links place [] end = slice_index links place ≡ end
Leads links place (next ∷ places) end = (slice_index links place ≡ next) × Leads links next places end

-- no place comes twice
abbrev pub IsApart : List ℕ → Type 0
IsApart [] = ⊤
IsApart (place ∷ places) = (Contains places place → ⊥) × IsApart places

pub record IsRing (older newer : List ℕ) (end : ℕ) (places : List ℕ) : Type 0 where
  pub older_len : length older ≡ end + 1
  pub newer_len : length newer ≡ end + 1
  pub forth : Leads older end places end
  pub back : Leads newer end (reverse places) end
  pub apart : IsApart places
  pub below : (place : ℕ) → Contains places place → place < end
  pub fits : length places ≤ end
