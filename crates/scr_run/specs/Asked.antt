-- What a run is asked for: a text to be written, or the status that refuses. It comes of the words, and of the bytes of
-- the capture or the stream that they ask for.
use Rattle.std.specs.Prelude.{◌≡◌, ◌⊎◌, ℕ, Bool, true, false, List, Option, Some, Result, Ok, Err, IfSome, MatchOption}
use Rattle.scr_pcap.specs.Generated.{generated_records}
use Rattle.scr_pcap.specs.Records.{Record}
use Rattle.scr_pcap.specs.declared.error.CaptureError.{CaptureError}
use Rattle.scr_pcap.specs.declared.error.CaptureError.TheVariants as capture
use Rattle.scr_pcapng.specs.declared.error.AnyError.{AnyError}
use Rattle.scr_pcapng.specs.declared.error.AnyError.TheVariants as any
use Rattle.scr_pcapng.specs.declared.error.NgError.{NgError}
use Rattle.scr_pcapng.specs.declared.error.NgError.TheVariants as blocks
use Rattle.scr_pcapng.specs.Reading.{IsReading}
use Rattle.scr_plan.specs.Plan.{Plan}
use Rattle.scr_stream.specs.declared.error.StreamError.{StreamError}
use Rattle.scr_stream.specs.declared.error.StreamError.TheVariants as fault
use Rattle.scr_stream.specs.Reading as stream
use Rattle.scr_run.specs.declared.status.Status.{Status}
use Rattle.scr_run.specs.declared.status.Status.TheVariants.{Words, Capture, ReadFault, OutOfMemory, TooMany, Pcapng, Stream}
use Rattle.scr_words.specs.declared.settings.Command.{Command}
use Rattle.scr_words.specs.declared.settings.Command.TheVariants.{Run, Plain, Load, Spray, Replay}
use Rattle.scr_words.specs.declared.settings.RunSettings.{RunSettings}
use Rattle.scr_words.specs.declared.settings.Shape.{Shape}
use Rattle.scr_words.specs.declared.word_fault.WordFault.{WordFault}
use Rattle.scr_words.specs.Operands.{makes_load}
use Rattle.scr_words.specs.WordFaults.{AreRefused}
use Rattle.scr_words.specs.GivenSettings.{AreAccepted}
use Rattle.scr_run.specs.Rules.{Rules, rules_of, stream_code}
use Rattle.scr_run.specs.RunReport.{plan_text, shaped_text, plain_text, sprayed_text}

-- the status of a fault of a capture in the libpcap file format
abbrev pub status_of_classic : CaptureError → Status
status_of_classic capture.ShortHeader = Capture capture.ShortHeader
status_of_classic capture.Magic = Capture capture.Magic
status_of_classic capture.Version = Capture capture.Version
status_of_classic capture.LinkType = Capture capture.LinkType
status_of_classic (capture.ShortRecord number) = Capture (capture.ShortRecord number)
status_of_classic (capture.LongRecord number length) = Capture (capture.LongRecord number length)
status_of_classic (capture.TooMany limit) = TooMany limit
status_of_classic capture.ReadFault = ReadFault

-- the status of a fault of a capture in blocks
abbrev pub status_of_blocks : NgError → Status
status_of_blocks (blocks.Cut block) = Pcapng (blocks.Cut block)
status_of_blocks (blocks.Mark block) = Pcapng (blocks.Mark block)
status_of_blocks (blocks.Length block) = Pcapng (blocks.Length block)
status_of_blocks (blocks.Version block) = Pcapng (blocks.Version block)
status_of_blocks (blocks.Resolution block) = Pcapng (blocks.Resolution block)
status_of_blocks (blocks.Interface block) = Pcapng (blocks.Interface block)
status_of_blocks (blocks.Captured block length) = Pcapng (blocks.Captured block length)
status_of_blocks (blocks.LinkType block) = Pcapng (blocks.LinkType block)
status_of_blocks (blocks.TooMany limit) = TooMany limit
status_of_blocks (blocks.TooManyBlocks limit) = Pcapng (blocks.TooManyBlocks limit)

-- the status of a fault of a capture, or of its source
abbrev pub status_of : AnyError → Status
status_of (any.Classic fault) = status_of_classic fault
status_of (any.Ng fault) = status_of_blocks fault
status_of any.ReadFault = ReadFault
status_of (any.OutOfMemory want) = OutOfMemory want

-- over a capture with this reading: the report of its records, or the status of its fault
abbrev pub asked_by : (List Record → List ℕ) → Result (List Record) AnyError → Result (List ℕ) Status
asked_by text (Ok records) = Ok (text records)
asked_by text (Err fault) = Err (status_of fault)

-- what a run over a capture is asked for: what some reading tells, and where the source tells its bytes, their reading
pub record IsOfCapture (text : List Record → List ℕ) (left : Option (List ℕ)) (asked : Result (List ℕ) Status) : Type 0 where
  pub reading : Result (List Record) AnyError
  pub read : IfSome left (λ bytes. IsReading bytes reading)
  pub told : asked ≡ asked_by text reading

-- the status of a fault of a stream, or of its source
abbrev pub status_of_stream : StreamError → Status
status_of_stream fault.ShortHeader = Stream fault.ShortHeader
status_of_stream fault.Mark = Stream fault.Mark
status_of_stream fault.Version = Stream fault.Version
status_of_stream fault.Program = Stream fault.Program
status_of_stream fault.Shape = Stream fault.Shape
status_of_stream (fault.Cut entry) = Stream (fault.Cut entry)
status_of_stream (fault.Message entry cause) = Stream (fault.Message entry cause)
status_of_stream (fault.Beacon entry) = Stream (fault.Beacon entry)
status_of_stream (fault.Number entry) = Stream (fault.Number entry)
status_of_stream (fault.Rows entry) = Stream (fault.Rows entry)
status_of_stream (fault.Differs entry) = Stream (fault.Differs entry)
status_of_stream fault.Trailing = Stream fault.Trailing
status_of_stream fault.ReadFault = ReadFault
status_of_stream (fault.OutOfMemory want) = OutOfMemory want

-- over a stream with this reading: the report of its plan, or the status of its fault
abbrev pub asked_by_plan : (Plan → List ℕ) → Result Plan StreamError → Result (List ℕ) Status
asked_by_plan text (Ok plan) = Ok (text plan)
asked_by_plan text (Err fault) = Err (status_of_stream fault)

-- what a replay is asked for: what some reading of the stream tells, and where the source tells its bytes, theirs
pub record IsOfStream (code : ℕ) (text : Plan → List ℕ) (left : Option (List ℕ)) (asked : Result (List ℕ) Status) : Type 0 where
  pub reading : Result Plan StreamError
  pub read : IfSome left (λ bytes. stream.IsReading code bytes reading)
  pub told : asked ≡ asked_by_plan text reading

-- what a command is asked for, with a program of these rules, which has this number in a stream; these are the records of
-- a capture that is made up. No words ask for the stream of a program without a number.
module _ (rules : Rules) (code : Option ℕ) (shape : Shape) (made : List Record) (left : Option (List ℕ)) where
  abbrev pub IsByCommand : Command → Result (List ℕ) Status → Type 0
  IsByCommand Run asked = IsOfCapture (shaped_text rules shape true) left asked
  IsByCommand Plain asked = IsOfCapture (plain_text rules) left asked
  IsByCommand Load asked = asked ≡ Ok (shaped_text rules shape false made)
  IsByCommand Spray asked = MatchOption code ⊥ (λ number. IsOfCapture (sprayed_text number rules shape) left asked)
  IsByCommand Replay asked = MatchOption code ⊥ (λ number. IsOfStream number (plan_text rules true) left asked)

-- the same by the settings
abbrev pub IsBySettings : RunSettings → Option (List ℕ) → Result (List ℕ) Status → Type 0
IsBySettings settings left asked = IsByCommand (rules_of settings.program) (stream_code settings.program) settings.shape
    (generated_records settings.start settings.frames settings.hosts) left settings.command asked

-- the words are refused with a fault, whose status is asked for
pub record AreForNothing (words : List (List ℕ)) (asked : Result (List ℕ) Status) : Type 0 where
  pub fault : WordFault
  pub refused : AreRefused words fault
  pub told : asked ≡ Err (Words fault)

-- the words are accepted, and this is asked for by their settings
pub record AreForRun (words : List (List ℕ)) (left : Option (List ℕ)) (asked : Result (List ℕ) Status) : Type 0 where
  pub settings : RunSettings
  pub accepted : AreAccepted words settings
  pub told : IsBySettings settings left asked

-- what words and input ask for
abbrev pub IsAsked : (words : List (List ℕ)) (left : Option (List ℕ)) → Result (List ℕ) Status → Type 0
IsAsked words left asked = AreForNothing words asked ⊎ AreForRun words left asked

-- the words are accepted, and their command takes an input: all but a load do
pub record TakeInput (words : List (List ℕ)) : Type 0 where
  pub settings : RunSettings
  pub accepted : AreAccepted words settings
  pub takes : makes_load settings.command ≡ false

-- it takes a capture
abbrev pub takes_capture : Command → Bool
takes_capture Run = true
takes_capture Plain = true
takes_capture Load = false
takes_capture Spray = true
takes_capture Replay = false

pub record TakeCapture (words : List (List ℕ)) : Type 0 where
  pub settings : RunSettings
  pub accepted : AreAccepted words settings
  pub takes : takes_capture settings.command ≡ true

-- it takes a stream of the program with this number
pub record TakeStream (words : List (List ℕ)) (code : ℕ) : Type 0 where
  pub settings : RunSettings
  pub accepted : AreAccepted words settings
  pub takes : settings.command ≡ Replay
  pub program : stream_code settings.program ≡ Some code
