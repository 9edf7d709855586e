-- Flows at their places, and in the order of their last use.
use Rattle.std.specs.Prelude.{◌≡◌, ℕ, ◌<◌, ◌≤◌, Bool, true, List, [], ◌∷◌, length, slice_get, Contains, Some, None, refl}
use Rattle.std.specs.Option.{option_map_or}
use Rattle.std.specs.List.{IsDistinct}
use Rattle.std.specs.Map.{keys_of, lookup}
use Rattle.std.specs.Coded.{Coded, code_by, coded×, coded_list, coded_ℕ}
use Rattle.scr_flows.specs.Ring.{IsApart}

-- how many flows there may be, the flow at each place, the places with the most recently used first, and how many more
-- keys memory was taken for
pub record Known (K V : Type 0) : Type 0 where
  pub most : ℕ
  pub pairs : List (K × V)
  pub places : List ℕ
  pub spare : ℕ

module _ {K V : Type 0} where
  abbrev pub known_code : Coded K → Coded V → Coded (Known K V)
  known_code key entry = code_by (ℕ × (List (K × V) × (List ℕ × ℕ))) (coded× coded_ℕ (coded× (coded_list (coded× key entry)) (coded× (coded_list coded_ℕ) coded_ℕ))) (λ k. (k.most, (k.pairs, (k.places, k.spare)))) (λ p. record { most = p.0; pairs = p.1.0; places = p.1.1.0; spare = p.1.1.1 }) (λ _. refl)

  -- the pairs at these places
  abbrev pub listed : List (K × V) → List ℕ → List (K × V)
  listed pairs [] = []
  listed pairs (place ∷ places) = option_map_or (λ pair. pair ∷ listed pairs places) (slice_get pairs place) (listed pairs places)

  -- the flows, the most recently used first
  abbrev pub list_of : Known K V → List (K × V)
  list_of known = listed known.pairs known.places

  -- no flow has this key
  abbrev pub IsAbsent : (K → K → Bool) → Known K V → K → Type 0
  IsAbsent same known key = (lookup (same key) known.pairs ≡ None) × (lookup (same key) (list_of known) ≡ None)

  -- the flow of this key is at this place
  abbrev pub IsAt : (K → K → Bool) → Known K V → K → ℕ → Type 0
  IsAt same known key place = (pair : K × V) × (slice_get known.pairs place ≡ Some pair) × (same key pair.0 ≡ true) × (lookup (same key) (list_of known) ≡ Some pair.1)

  -- each place with a flow is there once, and no two flows have the same key
  pub record IsKnown (same : K → K → Bool) (most : ℕ) (pairs : List (K × V)) (end : ℕ) (places : List ℕ) : Type 0 where
    pub some : 1 ≤ most
    pub end_is : end ≡ most
    pub fits : length pairs ≤ most
    pub distinct : IsDistinct same (keys_of pairs)
    pub count : length places ≡ length pairs
    pub below : (place : ℕ) → Contains places place → place < length pairs
    pub every : (place : ℕ) → place < length pairs → Contains places place
    pub apart : IsApart places
