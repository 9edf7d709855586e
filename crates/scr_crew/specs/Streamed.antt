-- What leaves while a run goes on: a line for each delivered frame, in the order of the frames.
use Rattle.std.specs.Prelude.{◌≡◌, ◌≢◌, ◌⊎◌, ℕ, List, map, Option, Result, Err, OnOk, MatchResult}
use Rattle.std.specs.List.{concat}
use Rattle.std.specs.Io.KnownBytes.{Appends}
use Rattle.scr_base.specs.Causes.{counted}
use Rattle.scr_base.specs.Streams.{AppendsPrefix}
use Rattle.scr_base.specs.declared.out_of_memory.OutOfMemory as memory
use Rattle.scr_base.specs.declared.sink.SinkError.{SinkError}
use Rattle.scr_base.specs.declared.sink.SinkError.TheVariants as sink
use Rattle.scr_plan.specs.declared.given.Given.{Given}
use Rattle.scr_report.specs.Text.{verdict_line}
use Rattle.scr_crew.specs.declared.run_stop.RunStop.{RunStop}
use Rattle.scr_crew.specs.declared.run_stop.RunStop.TheVariants.{WriteFault, OutOfMemory}

-- the lines of these verdicts
abbrev pub lines_of : (names : List (List ℕ)) → List Given → List ℕ
lines_of names given = concat (map (verdict_line names) given)

-- why a run stops whose sink answers this
abbrev pub stop_of_sink : SinkError → RunStop
stop_of_sink sink.Failed = WriteFault
stop_of_sink (sink.OutOfMemory want) = OutOfMemory want

-- want of memory is no failed write
pub no-fault : (want : memory.OutOfMemory) → OutOfMemory want ≢ WriteFault
no-fault want e = absurd cc

-- the text is written whole, or a front of it, maybe all
abbrev pub StreamsText : {T : Type 0} → Option (List ℕ) → Option (List ℕ) → Result T RunStop → List ℕ → Type 0
StreamsText before now result text = MatchResult result (λ _. Appends before now text) (λ _. AppendsPrefix before now text)

-- a sink, by its two counts, counts what stopped the run where it was the sink's, and nothing else
pub record CountsStop {O T : Type 0} (faults wants : O → ℕ) (old new : O) (result : Result T RunStop) : Type 0 where
  pub ok : OnOk result ((faults new ≡ faults old) × (wants new ≡ wants old))
  pub write_fault : result ≡ Err WriteFault → (faults new ≡ counted (faults old)) × (wants new ≡ wants old)
  pub out_of_memory : (want : memory.OutOfMemory) → result ≡ Err (OutOfMemory want)
      → (faults new ≡ faults old) × ((wants new ≡ wants old) ⊎ (wants new ≡ counted (wants old)))
