-- Why a core stopped before its end, and what its pass shows then.
use Rattle.std.specs.Prelude.{◌≡◌, ◌<◌}
use Rattle.scr_log.specs.declared.view.Noted.TheVariants.{Halt}
use Rattle.scr_log.specs.Passes.{OfCore}
use Rattle.scr_log.specs.Answers.{EndsWith}
use Rattle.scr_replica.specs.declared.worker.CoreCause.{CoreCause}
use Rattle.scr_replica.specs.declared.worker.CoreCause.TheVariants.{Halted, OutOfMemory}
use Rattle.scr_replica.specs.Turns.{HasMoreLooks}

pub record Stop : Type 0 where
  pub pass : OfCore
  pub cause : CoreCause

-- the last look of this call found the halt word set, and the core hasn't set it itself; or it had no memory, and has set it
abbrev pub HasCause : (old new : OfCore) → CoreCause → Type 0
HasCause old new Halted = EndsWith old new (Halt 1) × (new.halts ≡ old.halts)
HasCause old new (OutOfMemory error) = old.halts < new.halts

-- a core that began with this pass hands it back
pub record StopTells (old : OfCore) (stop : Stop) : Type 0 where
  pub of_these : stop.pass.logs ≡ old.logs
  pub core : stop.pass.core ≡ old.core
  pub looks : HasMoreLooks old stop.pass
  pub cause : HasCause old stop.pass stop.cause
