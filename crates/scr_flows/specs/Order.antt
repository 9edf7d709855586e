-- Places in the order of their last use.
use Rattle.std.specs.Prelude.{ℕ, zero, suc, List, [], ◌∷◌, slice_index, refl}
use Rattle.std.specs.Coded.{Coded, code_by, coded×, coded_list, coded_ℕ}

-- the bound of the places, and the places, the most recently used first
pub record Places : Type 0 where
  pub end : ℕ
  pub places : List ℕ

abbrev pub places_code : Coded Places
places_code = code_by (ℕ × List ℕ) (coded× coded_ℕ (coded_list coded_ℕ)) (λ p. (p.end, p.places)) (λ p. record { end = p.0; places = p.1 }) (λ _. refl)

-- so many places that are met one after another behind this one, where each place's link leads to the next
abbrev pub walk : List ℕ → ℕ → ℕ → List ℕ
walk links place zero = []
walk links place (suc count) = slice_index links place ∷ walk links (slice_index links place) count
