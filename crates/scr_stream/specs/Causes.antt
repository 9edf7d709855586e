-- What is counted of a call that takes memory of its own before it writes.
use Rattle.std.specs.Prelude.{◌≡◌, ◌⊎◌, ℕ, Result, Err}
use Rattle.scr_base.specs.Causes.{CountsError}
use Rattle.scr_base.specs.declared.out_of_memory.OutOfMemory.{OutOfMemory}
use Rattle.scr_base.specs.declared.sink.SinkError.{SinkError}
use Rattle.scr_base.specs.declared.sink.SinkError.TheVariants as sink_error

-- there was no memory for the call itself, and the sink is as it was
pub record WantsBefore {O T : Type 0} (old new : O) (result : Result T SinkError) : Type 0 where
  pub want : OutOfMemory
  pub wanted : result ≡ Err (sink_error.OutOfMemory want)
  pub same : new ≡ old

-- the sink counts an error that is answered, or there was no memory for the call itself
abbrev pub CountsErrorOrNothing : {O T : Type 0} → (O → ℕ) → (O → ℕ) → (old new : O) → Result T SinkError → Type 0
CountsErrorOrNothing faults wants old new result = CountsError faults wants old new result ⊎ WantsBefore old new result
