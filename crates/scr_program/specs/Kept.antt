-- What a ready key is.
use Rattle.std.specs.Prelude.{ℕ, ◌<◌, ◌⊎◌, Bool, Option, None, IfSome, IsSome, slice_get}
use Rattle.std.specs.Option.{option_map}
use Rattle.std.specs.Map.{lookup}
use Rattle.scr_flows.specs.Flows.{Known, list_of}
use Rattle.scr_program.specs.declared.ready.Ready.{Ready}
use Rattle.scr_program.specs.declared.ready.Ready.TheVariants.{Nothing, Likely, Apart}

-- the key that is ready: none, that of the flow at the likely place, or one that stands apart
abbrev pub ready_key : {K V : Type 0} → Known K V → ℕ → Option K → Ready → Option K
ready_key flows likely apart Nothing = None
ready_key flows likely apart Likely = option_map (λ pair. pair.0) (slice_get flows.pairs likely)
ready_key flows likely apart Apart = apart

-- the ready key is a flow's, or there is memory for one more key
abbrev pub IsReady : {K V : Type 0} → (K → K → Bool) → Known K V → Option K → Type 0
IsReady same flows ready = IfSome ready (λ key. IsSome (lookup (same key) (list_of flows)) ⊎ (0 < flows.spare))
