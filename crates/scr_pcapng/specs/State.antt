-- What a contract sees of a reader of blocks.
use Rattle.std.specs.Prelude.{◌≡◌, ◌<◌, ◌+◌, ◌-◌, ◌*◌, ◌^◌, ◌==◌, ℕ, List, [], ◌∷◌, ◌++◌, length, Option, Some, None, Result, Ok, Err, IfSome, ⊤, if◌then◌else◌}
use Rattle.std.specs.Io.KnownBytes.{prepend_known}
use Rattle.scr_base.specs.Causes.{counted}
use Rattle.scr_pcap.specs.declared.reader.RecordInfo.{RecordInfo}
use Rattle.scr_pcap.specs.Records.{Record}
use Rattle.scr_pcapng.specs.declared.error.AnyError.{AnyError}
use Rattle.scr_pcapng.specs.declared.error.AnyError.TheVariants as any_error
use Rattle.scr_pcap.specs.declared.error.CaptureError.{CaptureError}
use Rattle.scr_pcap.specs.declared.error.CaptureError.TheVariants as pcap_error
use Rattle.scr_pcapng.specs.declared.progress.Progress.{Progress}
use Rattle.scr_pcapng.specs.declared.progress.Progress.TheVariants.{Reading, Ended, Refused}
use Rattle.scr_pcapng.specs.declared.content.InterfaceInfo.{InterfaceInfo}
use Rattle.scr_pcapng.specs.Blocks.{BLOCKS}
use Rattle.scr_pcapng.specs.Contents.{Position}
use Rattle.scr_pcapng.specs.Reading.{IsRestInBlocks, SECTION}

-- an interface's times have a unit
abbrev pub HasUnits : InterfaceInfo → Type 0
HasUnits interface = 0 < interface.units

-- where the next block stands, and how far it has come
pub record BlockReaderState : Type 0 where
  pub position : Position
  pub progress : Progress

-- what a reader that doesn't read on answers
abbrev pub answer_of : Progress → Option (Result (Option RecordInfo) AnyError)
answer_of Reading = None
answer_of Ended = Some (Ok None)
answer_of (Refused fault) = Some (Err fault)

-- how far a reader has come that answers so
abbrev pub progress_behind : Result (Option RecordInfo) AnyError → Progress
progress_behind (Ok (Some info)) = Reading
progress_behind (Ok None) = Ended
progress_behind (Err fault) = Refused fault

-- the bytes from a block on, by what a source has left: the first four of a capture were taken ahead
abbrev pub ahead : Position → Option (List ℕ) → Option (List ℕ)
ahead position left = if position.blocks == 0 then prepend_known SECTION left else left

-- a reading with records in front
abbrev pub put_before : {E : Type 0} → List Record → Result (List Record) E → Result (List Record) E
put_before records (Ok behind) = Ok (records ++ behind)
put_before records (Err fault) = Err fault

-- which readings the rest of a capture has, from a place on
abbrev pub Rest : Type 1
Rest = Result (List Record) AnyError → Type 0

abbrev pub rest_in_blocks : Position → (left : Option (List ℕ)) → Rest
rest_in_blocks position left reading = IfSome (ahead position left) (λ bytes. IsRestInBlocks position bytes reading)

-- from one place to another: whatever the reading from the second is, that from the first is this with these records in front
abbrev pub ReadsOn : (old new : Rest) → List Record → Type 0
ReadsOn old new records = (reading : Result (List Record) AnyError) → new reading → old (put_before records reading)

-- an error that is a cause of the capture is the reading from this place
abbrev pub IsCauseOf : Rest → AnyError → Type 0
IsCauseOf rest (any_error.Classic fault) = rest (Err (any_error.Classic fault))
IsCauseOf rest (any_error.Ng fault) = rest (Err (any_error.Ng fault))
IsCauseOf rest any_error.ReadFault = ⊤
IsCauseOf rest (any_error.OutOfMemory want) = ⊤

-- the causes of a capture in blocks
abbrev pub IsBlockCause : AnyError → Type 0
IsBlockCause (any_error.Classic fault) = ⊥
IsBlockCause (any_error.Ng fault) = ⊤
IsBlockCause any_error.ReadFault = ⊤
IsBlockCause (any_error.OutOfMemory want) = ⊤

-- what an answer tells of the capture, from the place before a call and that behind it: a packet stands in front, with these
-- bytes; nothing is left; or the reading ends in this cause
abbrev pub Answers : (old new : Rest) (frame : List ℕ) → Result (Option RecordInfo) AnyError → Type 0
Answers old new frame (Ok (Some info)) = ReadsOn old new (record { time = info.time; content = frame } ∷ [])
Answers old new frame (Ok None) = old (Ok [])
Answers old new frame (Err fault) = IsCauseOf old fault

-- how many packets were taken behind an answer, and the number and the length of the packet
abbrev pub IsCounted : (old new : ℕ) (frame : List ℕ) → Result (Option RecordInfo) AnyError → Type 0
IsCounted old new frame (Ok (Some info)) = (new ≡ old + 1) × (info.number ≡ old + 1) × (info.length ≡ length frame)
IsCounted old new frame (Ok None) = new ≡ old
IsCounted old new frame (Err fault) = new ≡ old

-- how often a source has failed behind an answer: once more where the answer says so
abbrev pub faults_counted : {T : Type 0} → Result T AnyError → ℕ → ℕ
faults_counted (Ok value) faults = faults
faults_counted (Err (any_error.Classic fault)) faults = faults
faults_counted (Err (any_error.Ng fault)) faults = faults
faults_counted (Err any_error.ReadFault) faults = counted faults
faults_counted (Err (any_error.OutOfMemory want)) faults = faults

-- the most bytes of a block, and of what is taken of one that isn't accepted: behind the last block one byte
abbrev pub LONGEST_BLOCK : ℕ
LONGEST_BLOCK = 2 ^ 32 - 1

abbrev pub most_of_block : Position → ℕ
most_of_block position = if position.blocks == BLOCKS then 1 else LONGEST_BLOCK

-- the most bytes that were taken with a reader in this state: its blocks, and what was taken to its error
abbrev pub reach_in : Position → Progress → ℕ
reach_in position Reading = position.blocks * LONGEST_BLOCK
reach_in position Ended = position.blocks * LONGEST_BLOCK
reach_in position (Refused fault) = position.blocks * LONGEST_BLOCK + most_of_block position

abbrev pub reach : BlockReaderState → ℕ
reach reader = reach_in reader.position reader.progress

-- what a source has left from a reader's place on
abbrev pub left_in : Position → Progress → Option (List ℕ) → Option (List ℕ)
left_in position Reading left = ahead position left
left_in position Ended left = left
left_in position (Refused fault) left = left

abbrev pub left_of : BlockReaderState → Option (List ℕ) → Option (List ℕ)
left_of reader left = left_in reader.position reader.progress left

-- a cause of the libpcap file format, among those of both
abbrev pub any_of : CaptureError → AnyError
any_of pcap_error.ShortHeader = any_error.Classic pcap_error.ShortHeader
any_of pcap_error.Magic = any_error.Classic pcap_error.Magic
any_of pcap_error.Version = any_error.Classic pcap_error.Version
any_of pcap_error.LinkType = any_error.Classic pcap_error.LinkType
any_of (pcap_error.ShortRecord number) = any_error.Classic (pcap_error.ShortRecord number)
any_of (pcap_error.LongRecord number length) = any_error.Classic (pcap_error.LongRecord number length)
any_of (pcap_error.TooMany limit) = any_error.Classic (pcap_error.TooMany limit)
any_of pcap_error.ReadFault = any_error.ReadFault
