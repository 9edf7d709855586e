-- What a reader keeps of the frames that it took, and what it takes of its source.
use Rattle.std.specs.Prelude.{◌≡◌, ◌≢◌, ℕ, ◌+◌, ◌*◌, ◌<◌, ◌≤◌, ⊤, Bool, true, false, List, ◌∷◌, [], ◌++◌, length, Option, Some, None, IfSome, Result, Err}
use Rattle.std.specs.Io.KnownBytes.{Consumes, IsAtEnd}
use Rattle.scr_base.specs.Causes.{counted}
use Rattle.scr_base.specs.declared.row.Row.{Row}
use Rattle.scr_plan.specs.Limits.{most_packets}
use Rattle.scr_wire.specs.declared.message.Message.TheVariants.{End}
use Rattle.scr_wire.specs.declared.message.MessageKind.TheVariants as kind
use Rattle.scr_wire.specs.Reading.{number_in, count_in}
use Rattle.scr_wire.specs.Refusals.{refusal}
use Rattle.scr_wire.specs.Kinds.{most_rows}
use Rattle.scr_wire.specs.Spelling.{spelling}
use Rattle.scr_stream.specs.Frames.{StreamFrame, frame_bytes, row_in, last_number}
use Rattle.scr_stream.specs.Tests.{kind_in, header_refusal}
use Rattle.scr_stream.specs.Reading.{Follows, BeginWith, rows_from, missing_from}
use Rattle.scr_stream.specs.declared.error.StreamError.{StreamError}
use Rattle.scr_stream.specs.declared.error.StreamError.TheVariants as fault

-- the rows and the missing numbers are those of these frames, up to the last of them; the frames that were taken are few;
-- and the last of them carries each packet that the history reaches, so that a later frame has no other packet in common
-- with any of them
pub record StandsFor (history : ℕ) (frames : List StreamFrame) (rows : List Row) (missing : List ℕ) (count : ℕ) : Type 0 where
  pub rows_are : rows ≡ rows_from frames (last_number frames)
  pub missing_are : missing ≡ missing_from frames (last_number frames)
  pub count_is : count ≡ length frames
  pub few : last_number frames ≤ most_packets
  pub fewer : length frames ≤ last_number frames
  pub none_above : (p : ℕ) → last_number frames < p → row_in frames p ≡ None
  pub known : (p : ℕ) → 1 ≤ p → p ≤ last_number frames → last_number frames < p + (history + 1) → row_in frames p ≢ None

-- the most bytes of an entry: a header, and the rows of a frame with the longest history
abbrev pub longest_entry : ℕ
longest_entry = 10 + 56 * most_rows

-- the most bytes that are taken up to an error: the header, a million frames, and the entry behind them
abbrev pub most_bytes : ℕ
most_bytes = 8 + (most_packets + 1) * longest_entry

-- an error that a test found: the others are a fault of the source and want of memory
abbrev pub IsFound : StreamError → Type 0
IsFound fault.ReadFault = ⊥
IsFound (fault.OutOfMemory want) = ⊥
IsFound error = ⊤

-- a call counts the failed read that it answers, and no other fault
pub record CountsReadFault {S T : Type 0} (faults : S → ℕ) (old new : S) (result : Result T StreamError) : Type 0 where
  pub failed : result ≡ Err fault.ReadFault → faults new ≡ counted (faults old)
  pub other : result ≢ Err fault.ReadFault → faults new ≡ faults old

-- behind these first bytes stand those that were taken of the source
pub record IsFilledBehind (first : List ℕ) (old new : Option (List ℕ)) (all : List ℕ) : Type 0 where
  pub content : List ℕ
  pub parts : all ≡ first ++ content
  pub taken : Consumes old new content

-- the header of a frame that may stand behind the frame with the last number
pub record IsFrameHeader (last : ℕ) (header : List ℕ) : Type 0 where
  pub whole : length header ≡ 10
  pub kind : kind_in header ≡ kind.Frame
  pub starts : header_refusal (refusal header) ≡ None
  pub later : last < number_in header
  pub few : number_in header ≤ most_packets
  pub no_more : count_in header ≤ number_in header
  pub few_rows : count_in header ≤ most_rows

-- the next frame was taken and kept
pub record TakesFrame (history : ℕ) (frames : List StreamFrame) (old new : Option (List ℕ)) (rows : List Row) (missing : List ℕ) (count : ℕ) : Type 0 where
  pub it : StreamFrame
  pub follows : Follows history frames it
  pub taken : Consumes old new (frame_bytes it)
  pub stands : StandsFor history (frames ++ it ∷ []) rows missing count

-- the end was taken, with nothing behind it, and the rows and the missing numbers are told up to its number
pub record TakesEnd (frames : List StreamFrame) (old new : Option (List ℕ)) (rows : List Row) (missing : List ℕ) : Type 0 where
  pub last : ℕ
  pub within : last_number frames ≤ last
  pub few : last ≤ most_packets
  pub taken : Consumes old new (spelling (End last))
  pub end : IsAtEnd new
  pub rows_are : rows ≡ rows_from frames last
  pub missing_are : missing ≡ missing_from frames last

-- one or the other
abbrev pub TakesEntry : (more : Bool) → (history : ℕ) → List StreamFrame → (old new : Option (List ℕ)) → List Row → List ℕ → (count : ℕ) → Type 0
TakesEntry true history frames old new rows missing count = TakesFrame history frames old new rows missing count
TakesEntry false history frames old new rows missing count = TakesEnd frames old new rows missing

-- behind these frames stands what a source has left of the bytes that followed the header
abbrev pub LeavesBehind : (history : ℕ) → List StreamFrame → (start now : Option (List ℕ)) → Type 0
LeavesBehind history frames None now = ⊤
LeavesBehind history frames (Some bytes) None = ⊥
LeavesBehind history frames (Some bytes) (Some rest) = BeginWith history [] frames bytes rest

-- so far only frames were taken, and kept
pub record HasTakenFrames (history : ℕ) (start now : Option (List ℕ)) (rows : List Row) (missing : List ℕ) (count : ℕ) : Type 0 where
  pub frames : List StreamFrame
  pub stands : StandsFor history frames rows missing count
  pub behind : LeavesBehind history frames start now

-- frames and the end were taken, with nothing behind, and the rows and the missing numbers are told up to its number
pub record HasTakenAll (history : ℕ) (start now : Option (List ℕ)) (rows : List Row) (missing : List ℕ) : Type 0 where
  pub frames : List StreamFrame
  pub last : ℕ
  pub within : last_number frames ≤ last
  pub few : last ≤ most_packets
  pub spelled : IfSome start (λ bytes. BeginWith history [] frames bytes (spelling (End last)))
  pub end : IsAtEnd now
  pub rows_are : rows ≡ rows_from frames last
  pub missing_are : missing ≡ missing_from frames last

-- one or the other
abbrev pub HasTaken : (more : Bool) → (history : ℕ) → (start now : Option (List ℕ)) → List Row → List ℕ → (count : ℕ) → Type 0
HasTaken true history start now rows missing count = HasTakenFrames history start now rows missing count
HasTaken false history start now rows missing count = HasTakenAll history start now rows missing
