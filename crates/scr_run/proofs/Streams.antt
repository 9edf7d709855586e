-- How a run that writes a stream, or reads one, ends; and which status the reading of a stream asks for.
use Rattle.std.proofs.Common.{◌≡◌, ℕ, List, Option, Some, None, Result, Ok, Err, IfSome, MatchResult, refl, sym, ap, ◌∙◌, subst, inl, inr}
use Rattle.scr_base.specs.Causes.{counted}
use Rattle.scr_base.specs.Streams.{WritesText}
use Rattle.scr_base.specs.declared.sink.SinkError.{SinkError}
use Rattle.scr_plan.specs.Plan.{Plan}
use Rattle.scr_stream.specs.Causes.{CountsErrorOrNothing}
use Rattle.scr_stream.specs.Reading as stream
use Rattle.scr_stream.specs.Taken.{IsFound, CountsReadFault}
use Rattle.scr_stream.proofs.OneReading.{same-readings}
use Rattle.scr_stream.specs.declared.error.StreamError.{StreamError}
use Rattle.scr_stream.specs.declared.error.StreamError.TheVariants as fault
use Rattle.scr_run.specs.declared.status.Status.{Status}
use Rattle.scr_run.specs.declared.status.Status.TheVariants.{Done, Words, Capture, ReadFault, WriteFault, OutOfMemory, TooMany, Pcapng, Stream}
use Rattle.scr_run.specs.Asked.{IsOfStream, asked_by_plan, status_of_stream}
use Rattle.scr_run.specs.Ends.{Ends, IsText, IsUnlessOutOfMemory, Stands, IsStreamStop, StopsStream, reads_behind, status_of_sink}
use Rattle.scr_run.proofs.Ending.{Ends-of_write, status_asked, status-is}

-- the writing of a text by a call that takes memory of its own first
module _ {O : Type 0} (written : O → Option (List ℕ)) (faults wants : O → ℕ) (old new : O) where
  pub Ends-of_making : (text : List ℕ) (answer : Result (Unit {0}) SinkError) → WritesText (written old) (written new) answer text
      → CountsErrorOrNothing faults wants old new answer
      → (status : Status) → MatchResult answer (λ done. status ≡ Done) (λ error. status ≡ status_of_sink error)
      → Ends (IsText text) ⊥ (Unit {0}) written 0 0 faults wants old new status
  Ends-of_making text answer gained (inl counts) status is = Ends-of_write written faults wants old new text answer gained counts status is
  Ends-of_making text answer gained (inr none) status is =
      let no_memory : status ≡ OutOfMemory none.want =
      subst (λ (a : Result (Unit {0}) SinkError). MatchResult a (λ done. status ≡ Done) (λ error. status ≡ status_of_sink error)) none.wanted is in
      subst (λ (s : Status). Ends (IsText text) ⊥ (Unit {0}) written 0 0 faults wants old new s) (sym no_memory) (record {
        stands = inl none.same;
        reads = refl;
        writes = ap faults none.same;
        wants_behind = inl (ap wants none.same);
      })

-- where the reading of the stream stopped, nothing was written
pub Ends-stopped_stream : (code : ℕ) (text : Plan → List ℕ) (left : Option (List ℕ)) (Takes AtEnd : Type 0) {O : Type 0} (written : O → Option (List ℕ))
    (faults wants : O → ℕ) (out : O) (failed_before failed : ℕ) (status : Status) → Takes → StopsStream code left failed_before failed status
    → Ends (IsOfStream code text left) Takes AtEnd written failed_before failed faults wants out out status
Ends-stopped_stream code text left Takes AtEnd written faults wants out failed_before failed (Stream fault) takes stops = record {
  stands = (record { reading = Err stops.why.fault; read = stops.why.read; told = ap (λ (s : Status). Err s) stops.why.told }, refl);
  reads = stops.reads;
  writes = refl;
  wants_behind = refl;
}
Ends-stopped_stream code text left Takes AtEnd written faults wants out failed_before failed ReadFault takes stops = record {
  stands = (takes, refl);
  reads = stops.reads;
  writes = refl;
  wants_behind = refl;
}
Ends-stopped_stream code text left Takes AtEnd written faults wants out failed_before failed (OutOfMemory want) takes stops = record {
  stands = inl refl;
  reads = stops.reads;
  writes = refl;
  wants_behind = inl refl;
}
Ends-stopped_stream code text left Takes AtEnd written faults wants out failed_before failed Done takes stops = absurd stops.why
Ends-stopped_stream code text left Takes AtEnd written faults wants out failed_before failed (Words fault) takes stops = absurd stops.why
Ends-stopped_stream code text left Takes AtEnd written faults wants out failed_before failed (Capture error) takes stops = absurd stops.why
Ends-stopped_stream code text left Takes AtEnd written faults wants out failed_before failed WriteFault takes stops = absurd stops.why
Ends-stopped_stream code text left Takes AtEnd written faults wants out failed_before failed (TooMany limit) takes stops = absurd stops.why
Ends-stopped_stream code text left Takes AtEnd written faults wants out failed_before failed (Pcapng error) takes stops = absurd stops.why

-- the status of a reader's fault, where the stream has it
module _ (code : ℕ) (left : Option (List ℕ)) where
  abbrev has : (error : StreamError) → Type 0
  has error = IfSome left (λ bytes. stream.IsReading code bytes (Err error))

  stop-of_stream : (error : StreamError) → (IsFound error → has error) → IsStreamStop code left (status_of_stream error)
  stop-of_stream fault.ShortHeader found = record { fault = fault.ShortHeader; read = found tt; told = refl }
  stop-of_stream fault.Mark found = record { fault = fault.Mark; read = found tt; told = refl }
  stop-of_stream fault.Version found = record { fault = fault.Version; read = found tt; told = refl }
  stop-of_stream fault.Program found = record { fault = fault.Program; read = found tt; told = refl }
  stop-of_stream fault.Shape found = record { fault = fault.Shape; read = found tt; told = refl }
  stop-of_stream (fault.Cut entry) found = record { fault = fault.Cut entry; read = found tt; told = refl }
  stop-of_stream (fault.Message entry cause) found = record { fault = fault.Message entry cause; read = found tt; told = refl }
  stop-of_stream (fault.Beacon entry) found = record { fault = fault.Beacon entry; read = found tt; told = refl }
  stop-of_stream (fault.Number entry) found = record { fault = fault.Number entry; read = found tt; told = refl }
  stop-of_stream (fault.Rows entry) found = record { fault = fault.Rows entry; read = found tt; told = refl }
  stop-of_stream (fault.Differs entry) found = record { fault = fault.Differs entry; read = found tt; told = refl }
  stop-of_stream fault.Trailing found = record { fault = fault.Trailing; read = found tt; told = refl }
  stop-of_stream fault.ReadFault found = tt
  stop-of_stream (fault.OutOfMemory want) found = tt

-- a stream's faults and those of its source are no success
no_fault-done : (error : StreamError) → status_of_stream error ≡ Done → ⊥
no_fault-done error same = subst (IsStreamStop 0 None) same (stop-of_stream 0 None error (λ any. tt))

-- how often reading failed
reads-of_stream : {S T : Type 0} (faults : S → ℕ) (old new : S) (error : StreamError) → CountsReadFault {T = T} faults old new (Err error)
    → faults new ≡ reads_behind (status_of_stream error) (faults old)
reads-of_stream faults old new fault.ShortHeader counts = counts.other (λ is. cc)
reads-of_stream faults old new fault.Mark counts = counts.other (λ is. cc)
reads-of_stream faults old new fault.Version counts = counts.other (λ is. cc)
reads-of_stream faults old new fault.Program counts = counts.other (λ is. cc)
reads-of_stream faults old new fault.Shape counts = counts.other (λ is. cc)
reads-of_stream faults old new (fault.Cut entry) counts = counts.other (λ is. cc)
reads-of_stream faults old new (fault.Message entry cause) counts = counts.other (λ is. cc)
reads-of_stream faults old new (fault.Beacon entry) counts = counts.other (λ is. cc)
reads-of_stream faults old new (fault.Number entry) counts = counts.other (λ is. cc)
reads-of_stream faults old new (fault.Rows entry) counts = counts.other (λ is. cc)
reads-of_stream faults old new (fault.Differs entry) counts = counts.other (λ is. cc)
reads-of_stream faults old new fault.Trailing counts = counts.other (λ is. cc)
reads-of_stream faults old new fault.ReadFault counts = counts.failed refl
reads-of_stream faults old new (fault.OutOfMemory want) counts = counts.other (λ is. cc)

found-of : (left : Option (List ℕ)) (Found : Type 0) (Read : List ℕ → Type 0) → IfSome left (λ bytes. Found → Read bytes) → Found → IfSome left Read
found-of None Found Read told found = tt
found-of (Some bytes) Found Read told found = told found

pub StopsStream-from : {S T : Type 0} (code : ℕ) (left : Option (List ℕ)) (faults : S → ℕ) (old new : S) (error : StreamError) (status : Status)
    → CountsReadFault {T = T} faults old new (Err error) → IfSome left (λ bytes. IsFound error → stream.IsReading code bytes (Err error))
    → status ≡ status_of_stream error → StopsStream code left (faults old) (faults new) status
StopsStream-from code left faults old new error status counts refused is =
    subst (StopsStream code left (faults old) (faults new)) (sym is) (record {
      why = stop-of_stream code left error (found-of left (IsFound error) (λ bytes. stream.IsReading code bytes (Err error)) refused);
      reads = reads-of_stream faults old new error counts;
    })

-- the report of the plan that was read is asked for
pub IsOfStream-from : (code : ℕ) (text : Plan → List ℕ) (left : Option (List ℕ)) (plan : Plan)
    → IfSome left (λ bytes. stream.IsReading code bytes (Ok plan)) → IsOfStream code text left (Ok (text plan))
IsOfStream-from code text left plan read = record { reading = Ok plan; read = read; told = refl }

-- a stream has one reading, so that one status is asked for
pub IsOfStream-by : (code : ℕ) (text : Plan → List ℕ) (bytes : List ℕ) (left : Option (List ℕ)) (reading : Result Plan StreamError) (asked : Result (List ℕ) Status)
    → left ≡ Some bytes → stream.IsReading code bytes reading → IsOfStream code text left asked → asked ≡ asked_by_plan text reading
IsOfStream-by code text bytes left reading asked is read of =
    let read' : stream.IsReading code bytes of.reading = subst (λ (l : Option (List ℕ)). IfSome l (λ bytes. stream.IsReading code bytes of.reading)) is of.read in
    of.told ∙ ap (asked_by_plan text) (same-readings code bytes of.reading reading read' read)

-- the status that a reading asks for, whatever the text
abbrev pub status_planned : Result Plan StreamError → Status
status_planned (Ok plan) = Done
status_planned (Err fault) = status_of_stream fault

pub status_asked-by_plan : (text : Plan → List ℕ) (reading : Result Plan StreamError) → status_asked (asked_by_plan text reading) ≡ status_planned reading
status_asked-by_plan text (Ok plan) = refl
status_asked-by_plan text (Err fault) = refl

-- where the reading of a stream is asked for: a fault is answered where no read failed, and the report is written where no
-- write failed either
module _ (Asked : Result (List ℕ) Status → Type 0) (Takes AtEnd : Type 0) {O : Type 0} (written : O → Option (List ℕ)) (faults wants : O → ℕ) (old new : O)
    (failed_before failed : ℕ) (status : Status) (calm : failed ≡ counted failed_before → ⊥) where
  pub malformed_stream : (error : StreamError) → ((asked : Result (List ℕ) Status) → Asked asked → status_asked asked ≡ status_planned (Err error))
      → Ends Asked Takes AtEnd written failed_before failed faults wants old new status → IsUnlessOutOfMemory status (status_of_stream error)
  malformed_stream error only ends =
      status-is Asked Takes AtEnd written faults wants old new failed_before failed (status_of_stream error) only (λ takes. calm)
      (λ done rose. no_fault-done error done) status ends

  pub complete_stream : (plan : Plan) → ((asked : Result (List ℕ) Status) → Asked asked → status_asked asked ≡ status_planned (Ok plan))
      → (faults new ≡ counted (faults old) → ⊥) → Ends Asked Takes AtEnd written failed_before failed faults wants old new status
      → IsUnlessOutOfMemory status Done
  complete_stream plan only calm_out ends =
      status-is Asked Takes AtEnd written faults wants old new failed_before failed Done only (λ takes. calm) (λ done. calm_out) status ends

-- where the status of a stream comes, it is asked for
pub Ends-asked_stream : (Asked : Result (List ℕ) Status → Type 0) (Takes AtEnd : Type 0) {O : Type 0} (written : O → Option (List ℕ)) (faults wants : O → ℕ) (old new : O)
    (failed_before failed : ℕ) (status : Status) (fault : StreamError) → status ≡ Stream fault
    → Ends Asked Takes AtEnd written failed_before failed faults wants old new status → Asked (Err (Stream fault))
Ends-asked_stream Asked Takes AtEnd written faults wants old new failed_before failed status fault is ends =
    (subst (Stands Asked Takes AtEnd written old new) is ends.stands).0
