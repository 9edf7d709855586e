-- The list of flows where a key has a new entry.
use Rattle.std.proofs.Common.{◌≡◌, Bool, true, false, List, [], ◌∷◌, take, slice_get, ℕ, Option, Some, None, refl, sym, ap, ◌∙◌}
use Rattle.std.specs.Map.{lookup, remove_entry}
use Rattle.std.specs.Option.{MatchOption}
use Rattle.scr_flows.specs.Flows.{Known, list_of, IsAbsent, IsAt}
use Rattle.scr_program.specs.FlowList.{set_key}

-- a key that isn't there
pub remove_entry-absent : {K V : Type 0} (test : K → Bool) (list : List (K × V)) → lookup test list ≡ None → remove_entry test list ≡ list
remove_entry-absent test [] none = refl
remove_entry-absent {K = K} {V = V} test (pair ∷ list) none = (elim (test pair.0) as (λ y. test pair.0 ≡ y → remove_entry test (pair ∷ list) ≡ pair ∷ list) [
  | true ↦ λ t. let none' = rw t at none in cc
  | false ↦ λ t. rw t (ap (λ (rest : List (K × V)). pair ∷ rest) (remove_entry-absent test list (rw t at none)))
]) refl

module _ {K V : Type 0} (same : K → K → Bool) (most : ℕ) (list : List (K × V)) (key : K) (entry : V) where
  -- the new pair comes to the front where no other had its key
  pub set-new : lookup (same key) list ≡ None → take most ((key, entry) ∷ list) ≡ set_key same most list key entry
  set-new none = ap (λ (l : List (K × V)). take most ((key, entry) ∷ l)) (sym (remove_entry-absent (same key) list none))

  -- a key that is the same is the key
  pub set-same : ((a b : K) → same a b ≡ true → a ≡ b) → (held : K) → same key held ≡ true → take most ((held, entry) ∷ remove_entry (same held) list) ≡ set_key same most list key entry
  set-same one held passes = ap (λ (k : K). take most ((k, entry) ∷ remove_entry (same k) list)) (sym (one key held passes))

-- the entry at the place of a key is the one that the flows have
pub entry-known : {K V : Type 0} (same : K → K → Bool) (flows : Known K V) (key : K) (place : Option ℕ) (found : Option V) → MatchOption place (IsAbsent same flows key) (IsAt same flows key)
    → MatchOption place (found ≡ None) (λ at. (pair : K × V) → slice_get flows.pairs at ≡ Some pair → found ≡ Some pair.1) → found ≡ lookup (same key) (list_of flows)
entry-known same flows key None found absent none = none ∙ sym absent.1
entry-known same flows key (Some place) found at is = is at.0 at.1 ∙ sym at.3
