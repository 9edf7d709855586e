-- What a run that ends so writes to standard error, and its exit code.
use Rattle.std.specs.Prelude.{ℕ, List, [], ◌++◌, Option, Result, codes, decimal}
use Rattle.scr_base.specs.Causes.{CountsError}
use Rattle.scr_base.specs.Streams.{WritesText}
use Rattle.scr_base.specs.declared.sink.SinkError.{SinkError}
use Rattle.scr_pcap.specs.declared.error.CaptureError.{CaptureError}
use Rattle.scr_pcap.specs.declared.error.CaptureError.TheVariants as capture
use Rattle.scr_pcapng.specs.declared.error.NgError.{NgError}
use Rattle.scr_pcapng.specs.declared.error.NgError.TheVariants as blocks
use Rattle.scr_stream.specs.declared.error.StreamError.{StreamError}
use Rattle.scr_stream.specs.declared.error.StreamError.TheVariants as fault
use Rattle.scr_wire.specs.declared.error.WireError.{WireError}
use Rattle.scr_wire.specs.declared.error.WireError.TheVariants as wire
use Rattle.scr_run.specs.declared.status.Status.{Status}
use Rattle.scr_run.specs.declared.status.Status.TheVariants.{Done, Words, Capture, ReadFault, WriteFault, OutOfMemory, TooMany, Pcapng, Stream}
use Rattle.scr_words.specs.WordLines.{word_line}

-- the code and the line of a run that had no memory
abbrev pub want_code : ℕ
want_code = 5

abbrev pub want_line : List ℕ
want_line = codes "scr: out of memory\n"

abbrev pub code_of : Status → ℕ
code_of Done = 0
code_of (Words fault) = 1
code_of (Capture error) = 2
code_of ReadFault = 3
code_of WriteFault = 4
code_of (OutOfMemory want) = want_code
code_of (TooMany limit) = 6
code_of (Pcapng error) = 7
code_of (Stream fault) = 8

abbrev pub short_record_line : ℕ → List ℕ
short_record_line number = codes "scr: record " ++ decimal number ++ codes ": ShortRecord\n"

abbrev pub long_record_line : ℕ → ℕ → List ℕ
long_record_line number length =
    codes "scr: record " ++ (decimal number ++ (codes ": LongRecord " ++ (decimal length ++ codes "\n")))

abbrev pub too_many_line : ℕ → List ℕ
too_many_line limit = codes "scr: more than " ++ decimal limit ++ codes " records\n"

-- the line of a malformed capture; the last two are no faults of its form
abbrev pub capture_line : CaptureError → List ℕ
capture_line capture.ShortHeader = codes "scr: header: ShortHeader\n"
capture_line capture.Magic = codes "scr: header: Magic\n"
capture_line capture.Version = codes "scr: header: Version\n"
capture_line capture.LinkType = codes "scr: header: LinkType\n"
capture_line (capture.ShortRecord number) = short_record_line number
capture_line (capture.LongRecord number length) = long_record_line number length
capture_line (capture.TooMany limit) = too_many_line limit
capture_line capture.ReadFault = codes "scr: read fault\n"

-- the line of a fault of a block: its number, and the cause
abbrev pub block_line : (block : ℕ) → (cause : List ℕ) → List ℕ
block_line block cause = codes "scr: block " ++ (decimal block ++ (codes ": " ++ (cause ++ codes "\n")))

abbrev pub captured_line : (block length : ℕ) → List ℕ
captured_line block length = codes "scr: block " ++ (decimal block ++ (codes ": Captured " ++ (decimal length ++ codes "\n")))

abbrev pub too_many_blocks_line : ℕ → List ℕ
too_many_blocks_line limit = codes "scr: more than " ++ decimal limit ++ codes " blocks\n"

-- the line of a malformed capture in blocks; too many packets are no fault of its form
abbrev pub blocks_line : NgError → List ℕ
blocks_line (blocks.Cut block) = block_line block (codes "Cut")
blocks_line (blocks.Mark block) = block_line block (codes "Mark")
blocks_line (blocks.Length block) = block_line block (codes "Length")
blocks_line (blocks.Version block) = block_line block (codes "Version")
blocks_line (blocks.Resolution block) = block_line block (codes "Resolution")
blocks_line (blocks.Interface block) = block_line block (codes "Interface")
blocks_line (blocks.Captured block length) = captured_line block length
blocks_line (blocks.LinkType block) = block_line block (codes "LinkType")
blocks_line (blocks.TooMany limit) = too_many_line limit
blocks_line (blocks.TooManyBlocks limit) = too_many_blocks_line limit

-- the line of a fault of a stream's header, or of what stands behind its end
abbrev pub stream_cause_line : (cause : List ℕ) → List ℕ
stream_cause_line cause = codes "scr: stream: " ++ (cause ++ codes "\n")

-- the line of a fault of an entry: its number, and the cause
abbrev pub entry_line : (entry : ℕ) → (cause : List ℕ) → List ℕ
entry_line entry cause = codes "scr: entry " ++ (decimal entry ++ (codes ": " ++ (cause ++ codes "\n")))

abbrev pub wire_cause : WireError → List ℕ
wire_cause wire.Short = codes "Short"
wire_cause wire.Mark = codes "Mark"
wire_cause wire.Version = codes "Version"
wire_cause wire.Kind = codes "Kind"
wire_cause wire.Count = codes "Count"
wire_cause wire.Length = codes "Length"

abbrev pub entry_message_line : (entry : ℕ) → WireError → List ℕ
entry_message_line entry cause =
    codes "scr: entry " ++ (decimal entry ++ (codes ": Message " ++ (wire_cause cause ++ codes "\n")))

-- the line of a malformed stream; the last two are no faults of its form
abbrev pub stream_line : StreamError → List ℕ
stream_line fault.ShortHeader = stream_cause_line (codes "ShortHeader")
stream_line fault.Mark = stream_cause_line (codes "Mark")
stream_line fault.Version = stream_cause_line (codes "Version")
stream_line fault.Program = stream_cause_line (codes "Program")
stream_line fault.Shape = stream_cause_line (codes "Shape")
stream_line (fault.Cut entry) = entry_line entry (codes "Cut")
stream_line (fault.Message entry cause) = entry_message_line entry cause
stream_line (fault.Beacon entry) = entry_line entry (codes "Beacon")
stream_line (fault.Number entry) = entry_line entry (codes "Number")
stream_line (fault.Rows entry) = entry_line entry (codes "Rows")
stream_line (fault.Differs entry) = entry_line entry (codes "Differs")
stream_line fault.Trailing = stream_cause_line (codes "Trailing")
stream_line fault.ReadFault = codes "scr: read fault\n"
stream_line (fault.OutOfMemory want) = want_line

-- the line of a status; a run that is done writes none
abbrev pub fault_line : Status → List ℕ
fault_line Done = []
fault_line (Words fault) = word_line fault
fault_line (Capture error) = capture_line error
fault_line ReadFault = codes "scr: read fault\n"
fault_line WriteFault = codes "scr: write fault\n"
fault_line (OutOfMemory want) = want_line
fault_line (TooMany limit) = too_many_line limit
fault_line (Pcapng error) = blocks_line error
fault_line (Stream fault) = stream_line fault

-- a line was written, or an error of the sink stopped its writing: some answer tells what the sink gained, and its counts
pub record IsTold {O : Type 0} (written : O → Option (List ℕ)) (faults wants : O → ℕ) (old new : O) (line : List ℕ) : Type 0 where
  pub answer : Result (Unit {0}) SinkError
  pub text : WritesText (written old) (written new) answer line
  pub counts : CountsError faults wants old new answer
