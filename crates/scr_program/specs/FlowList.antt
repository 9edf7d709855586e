-- A flow table as a list of pairs of a key and an entry, the most recently used first.
use Rattle.std.specs.Prelude.{ℕ, Bool, List, ◌∷◌, take, Option, Some, None}
use Rattle.std.specs.Map.{remove_entry}

-- To set a key: its old pair goes, if there is one, and the new pair comes to the front. Where a table that may have
-- so many pairs was full and the key is new, the last pair is dropped.
abbrev pub set_key : {K V : Type 0} → (K → K → Bool) → ℕ → List (K × V) → K → V → List (K × V)
set_key same flows list key entry = take flows ((key, entry) ∷ remove_entry (same key) list)

-- to set a key to an entry, or, where there is none, to change nothing, the order included
abbrev pub entered_list : {K V : Type 0} → (K → K → Bool) → ℕ → List (K × V) → K → Option V → List (K × V)
entered_list same flows list key None = list
entered_list same flows list key (Some entry) = set_key same flows list key entry
