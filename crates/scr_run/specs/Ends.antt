-- How a run ends over what it is asked for, status by status: what was written, and how the counts stand. Bytes that a
-- stream doesn't tell are not spoken of.
use Rattle.std.specs.Prelude.{◌≡◌, ◌⊎◌, ℕ, List, Option, Result, Ok, Err, IfSome}
use Rattle.std.specs.Io.KnownBytes.{Appends}
use Rattle.scr_base.specs.Causes.{counted}
use Rattle.scr_base.specs.Streams.{AppendsPrefix, StopsWithin}
use Rattle.scr_base.specs.declared.out_of_memory.OutOfMemory as memory
use Rattle.scr_base.specs.declared.sink.SinkError.{SinkError}
use Rattle.scr_base.specs.declared.sink.SinkError.TheVariants as sink
use Rattle.scr_pcapng.specs.Reading.{IsReading}
use Rattle.scr_pcapng.specs.declared.error.AnyError.{AnyError}
use Rattle.scr_stream.specs.Reading as stream
use Rattle.scr_stream.specs.declared.error.StreamError.{StreamError}
use Rattle.scr_crew.specs.declared.run_stop.RunStop.{RunStop}
use Rattle.scr_crew.specs.declared.run_stop.RunStop.TheVariants as stops
use Rattle.scr_words.specs.declared.reading.WordsError.{WordsError}
use Rattle.scr_words.specs.declared.reading.WordsError.TheVariants as words
use Rattle.scr_run.specs.declared.status.Status.{Status}
use Rattle.scr_run.specs.declared.status.Status.TheVariants.{Done, Words, Capture, ReadFault, WriteFault, OutOfMemory, TooMany, Pcapng, Stream}
use Rattle.scr_run.specs.Asked.{status_of, status_of_stream}

-- the status of a sink's error
abbrev pub status_of_sink : SinkError → Status
status_of_sink sink.Failed = WriteFault
status_of_sink (sink.OutOfMemory want) = OutOfMemory want

-- the status of a run that stopped while its verdicts were leaving
abbrev pub status_of_stop : RunStop → Status
status_of_stop stops.WriteFault = WriteFault
status_of_stop (stops.OutOfMemory want) = OutOfMemory want

-- the status of words that aren't accepted
abbrev pub status_of_words : WordsError → Status
status_of_words (words.Refused fault) = Words fault
status_of_words (words.OutOfMemory want) = OutOfMemory want

-- the status of a run that was done, or stopped with another
abbrev pub ended : Result Unit Status → Status
ended (Ok done) = Done
ended (Err status) = status

abbrev pub IsOutOfMemory : Status → Type 0
IsOutOfMemory status = (want : memory.OutOfMemory) × (status ≡ OutOfMemory want)

-- this status, unless memory ran out
abbrev pub IsUnlessOutOfMemory : Status → Status → Type 0
IsUnlessOutOfMemory status wanted = (status ≡ wanted) ⊎ IsOutOfMemory status

-- the words, the capture or the stream are refused
abbrev pub IsRefusal : Status → Type 0
IsRefusal (Words fault) = Unit {0}
IsRefusal (Capture error) = Unit {0}
IsRefusal (TooMany limit) = Unit {0}
IsRefusal (Pcapng error) = Unit {0}
IsRefusal (Stream fault) = Unit {0}
IsRefusal Done = ⊥
IsRefusal ReadFault = ⊥
IsRefusal WriteFault = ⊥
IsRefusal (OutOfMemory want) = ⊥

-- how often reading has failed behind a run that ended so, from how often before it
abbrev pub reads_behind : Status → ℕ → ℕ
reads_behind ReadFault faults = counted faults
reads_behind Done faults = faults
reads_behind (Words fault) faults = faults
reads_behind (Capture error) faults = faults
reads_behind WriteFault faults = faults
reads_behind (OutOfMemory want) faults = faults
reads_behind (TooMany limit) faults = faults
reads_behind (Pcapng error) faults = faults
reads_behind (Stream fault) faults = faults

-- how often writing has failed, the same way
abbrev pub writes_behind : Status → ℕ → ℕ
writes_behind WriteFault faults = counted faults
writes_behind Done faults = faults
writes_behind (Words fault) faults = faults
writes_behind (Capture error) faults = faults
writes_behind ReadFault faults = faults
writes_behind (OutOfMemory want) faults = faults
writes_behind (TooMany limit) faults = faults
writes_behind (Pcapng error) faults = faults
writes_behind (Stream fault) faults = faults

-- how often the sink wanted memory in vain: once more at most, and only where memory ran out
abbrev pub IsWantsBehind : Status → (before now : ℕ) → Type 0
IsWantsBehind (OutOfMemory want) before now = (now ≡ before) ⊎ (now ≡ counted before)
IsWantsBehind Done before now = now ≡ before
IsWantsBehind (Words fault) before now = now ≡ before
IsWantsBehind (Capture error) before now = now ≡ before
IsWantsBehind ReadFault before now = now ≡ before
IsWantsBehind WriteFault before now = now ≡ before
IsWantsBehind (TooMany limit) before now = now ≡ before
IsWantsBehind (Pcapng error) before now = now ≡ before
IsWantsBehind (Stream fault) before now = now ≡ before

-- this text, and nothing else, is asked for
abbrev pub IsText : List ℕ → Result (List ℕ) Status → Type 0
IsText text asked = asked ≡ Ok text

-- A run is seen by what it is asked for; by two facts, that it takes an input and that this was read to its end; and by
-- the bytes of the sink before it and now.
module _ (Asked : Result (List ℕ) Status → Type 0) (AtEnd : Type 0) (before now : Option (List ℕ)) where
  -- the sink gained the text that is asked for, whole and alone
  pub record Writes : Type 0 where
    pub text : List ℕ
    pub asked : Asked (Ok text)
    pub gained : Appends before now text
    pub end : AtEnd

  -- it gained a front of it, and not all
  pub record StopsWriting : Type 0 where
    pub text : List ℕ
    pub asked : Asked (Ok text)
    pub front : StopsWithin before now text
    pub end : AtEnd

  -- it gained a front of it, maybe all
  pub record BeginsWriting : Type 0 where
    pub text : List ℕ
    pub asked : Asked (Ok text)
    pub front : AppendsPrefix before now text
    pub end : AtEnd

module _ (Asked : Result (List ℕ) Status → Type 0) (Takes AtEnd : Type 0) {O : Type 0} (written : O → Option (List ℕ)) where
  -- what stands behind a run that ended so
  abbrev pub Stands : (old new : O) → Status → Type 0
  Stands old new Done = Writes Asked AtEnd (written old) (written new)
  Stands old new (Words fault) = Asked (Err (Words fault)) × (new ≡ old)
  Stands old new (Capture error) = Asked (Err (Capture error)) × (new ≡ old)
  Stands old new (TooMany limit) = Asked (Err (TooMany limit)) × (new ≡ old)
  Stands old new (Pcapng error) = Asked (Err (Pcapng error)) × (new ≡ old)
  Stands old new (Stream fault) = Asked (Err (Stream fault)) × (new ≡ old)
  Stands old new ReadFault = Takes × (new ≡ old)
  Stands old new WriteFault = StopsWriting Asked AtEnd (written old) (written new)
  Stands old new (OutOfMemory want) = (new ≡ old) ⊎ StopsWriting Asked AtEnd (written old) (written new)

  -- how a run ended: `failed_before` and `failed` are the counts of the input's failures
  pub record Ends (failed_before failed : ℕ) (faults wants : O → ℕ) (old new : O) (status : Status) : Type 0 where
    pub stands : Stands old new status
    pub reads : failed ≡ reads_behind status failed_before
    pub writes : faults new ≡ writes_behind status (faults old)
    pub wants_behind : IsWantsBehind status (wants old) (wants new)

-- the capture whose bytes were left has a fault of this status
pub record HasFault (left : Option (List ℕ)) (status : Status) : Type 0 where
  pub fault : AnyError
  pub read : IfSome left (λ bytes. IsReading bytes (Err fault))
  pub told : status ≡ status_of fault

-- why the reading of a capture stops
abbrev pub IsStop : Option (List ℕ) → Status → Type 0
IsStop left ReadFault = Unit {0}
IsStop left (OutOfMemory want) = Unit {0}
IsStop left (Capture error) = HasFault left (Capture error)
IsStop left (TooMany limit) = HasFault left (TooMany limit)
IsStop left (Pcapng error) = HasFault left (Pcapng error)
IsStop left Done = ⊥
IsStop left (Words fault) = ⊥
IsStop left WriteFault = ⊥
IsStop left (Stream fault) = ⊥

-- the reading of a capture stopped so
pub record StopsReading (left : Option (List ℕ)) (failed_before failed : ℕ) (status : Status) : Type 0 where
  pub why : IsStop left status
  pub reads : failed ≡ reads_behind status failed_before

-- the stream whose bytes were left has a fault of this status
pub record HasStreamFault (code : ℕ) (left : Option (List ℕ)) (status : Status) : Type 0 where
  pub fault : StreamError
  pub read : IfSome left (λ bytes. stream.IsReading code bytes (Err fault))
  pub told : status ≡ status_of_stream fault

-- why the reading of a stream stops
abbrev pub IsStreamStop : (code : ℕ) → Option (List ℕ) → Status → Type 0
IsStreamStop code left ReadFault = Unit {0}
IsStreamStop code left (OutOfMemory want) = Unit {0}
IsStreamStop code left (Stream fault) = HasStreamFault code left (Stream fault)
IsStreamStop code left Done = ⊥
IsStreamStop code left (Words fault) = ⊥
IsStreamStop code left (Capture error) = ⊥
IsStreamStop code left WriteFault = ⊥
IsStreamStop code left (TooMany limit) = ⊥
IsStreamStop code left (Pcapng error) = ⊥

-- the reading of a stream stopped so
pub record StopsStream (code : ℕ) (left : Option (List ℕ)) (failed_before failed : ℕ) (status : Status) : Type 0 where
  pub why : IsStreamStop code left status
  pub reads : failed ≡ reads_behind status failed_before
