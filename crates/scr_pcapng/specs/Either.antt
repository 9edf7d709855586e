-- What a contract sees of a reader of either format.
use Rattle.std.specs.Prelude.{ℕ, ◌+◌, ◌≤◌, List, [], length, Option, Result, Ok, Err, IfSome, ⊤}
use Rattle.scr_pcap.specs.declared.error.CaptureError.{CaptureError}
use Rattle.scr_pcap.specs.declared.error.CaptureError.TheVariants as pcap_error
use Rattle.scr_pcap.specs.declared.format.Format.{Format}
use Rattle.scr_pcap.specs.declared.reader.Progress as classic
use Rattle.scr_pcap.specs.declared.reader.Progress.TheVariants as classic_progress
use Rattle.scr_pcap.specs.Records.{Record, RECORDS, BeginWith, IsFaultyRest}
use Rattle.scr_pcap.specs.State as pcap
use Rattle.scr_pcapng.specs.declared.any.AnyReader.{AnyReader}
use Rattle.scr_pcapng.specs.declared.any.AnyReader.TheVariants.{Classic, Blocks}
use Rattle.scr_pcapng.specs.declared.error.AnyError.{AnyError}
use Rattle.scr_pcapng.specs.declared.error.AnyError.TheVariants as any_error
use Rattle.scr_pcapng.specs.declared.progress.Progress.{Progress}
use Rattle.scr_pcapng.specs.declared.progress.Progress.TheVariants.{Reading, Ended, Refused}
use Rattle.scr_pcapng.specs.Blocks.{BLOCKS}
use Rattle.scr_pcapng.specs.Reading.{IsReading}
use Rattle.scr_pcapng.specs.State.{IsBlockCause, Rest, any_of, left_of, reach, rest_in_blocks}

-- the readings of a whole capture
abbrev pub reading_of : (left : Option (List ℕ)) → Rest
reading_of left reading = IfSome left (λ bytes. IsReading bytes reading)

-- behind so many records of the libpcap file format, further ones stand before a rest with a fault
pub record IsCutBehind (format : Format) (taken : ℕ) (bytes : List ℕ) (fault : CaptureError) : Type 0 where
  pub records : List Record
  pub rest : List ℕ
  pub few : taken + length records ≤ RECORDS
  pub spelled : BeginWith format records bytes rest
  pub faulty : IsFaultyRest format (taken + length records) rest fault

-- the reading behind so many records
abbrev pub IsRestBehind : Format → (taken : ℕ) → List ℕ → Result (List Record) AnyError → Type 0
IsRestBehind format taken bytes (Ok records) = (taken + length records ≤ RECORDS) × BeginWith format records bytes []
IsRestBehind format taken bytes (Err (any_error.Classic fault)) = IsCutBehind format taken bytes fault
IsRestBehind format taken bytes (Err (any_error.Ng fault)) = ⊥
IsRestBehind format taken bytes (Err any_error.ReadFault) = ⊥
IsRestBehind format taken bytes (Err (any_error.OutOfMemory want)) = ⊥

abbrev pub rest_behind : pcap.ReaderState → (left : Option (List ℕ)) → Rest
rest_behind reader left reading = IfSome left (λ bytes. IsRestBehind reader.format reader.taken bytes reading)

-- the readings of the rest, from a reader's place on
abbrev pub rest_of : AnyReader → (left : Option (List ℕ)) → Rest
rest_of (Classic reader) left = rest_behind reader left
rest_of (Blocks reader) left = rest_in_blocks reader.position left

-- how many records were taken
abbrev pub records_of : AnyReader → ℕ
records_of (Classic reader) = reader.taken
records_of (Blocks reader) = reader.position.packets

-- how many blocks were taken; the libpcap file format has none
abbrev pub blocks_of : AnyReader → ℕ
blocks_of (Classic reader) = 0
blocks_of (Blocks reader) = reader.position.blocks

-- no more records, and no more blocks, than are taken of a capture
pub record IsWithinLimits (reader : AnyReader) : Type 0 where
  pub few_records : records_of reader ≤ RECORDS
  pub few_blocks : blocks_of reader ≤ BLOCKS

-- how far a reader has come, by the causes of both formats
abbrev pub progress_in : classic.Progress → Progress
progress_in classic_progress.Reading = Reading
progress_in classic_progress.Ended = Ended
progress_in (classic_progress.Refused fault) = Refused (any_of fault)

abbrev pub progress_of : AnyReader → Progress
progress_of (Classic reader) = progress_in reader.progress
progress_of (Blocks reader) = reader.progress

-- the most bytes that were taken with a reader in this state, and what a source has left from its place on
abbrev pub most_of : AnyReader → ℕ
most_of (Classic reader) = pcap.reach reader
most_of (Blocks reader) = reach reader

abbrev pub left_behind : AnyReader → Option (List ℕ) → Option (List ℕ)
left_behind (Classic reader) left = left
left_behind (Blocks reader) left = left_of reader left

-- a cause of the libpcap file format, among which a failure of the source is none; and the causes of each format
abbrev pub IsNamed : CaptureError → Type 0
IsNamed pcap_error.ShortHeader = ⊤
IsNamed pcap_error.Magic = ⊤
IsNamed pcap_error.Version = ⊤
IsNamed pcap_error.LinkType = ⊤
IsNamed (pcap_error.ShortRecord number) = ⊤
IsNamed (pcap_error.LongRecord number length) = ⊤
IsNamed (pcap_error.TooMany limit) = ⊤
IsNamed pcap_error.ReadFault = ⊥

abbrev pub IsClassicCause : AnyError → Type 0
IsClassicCause (any_error.Classic fault) = IsNamed fault
IsClassicCause (any_error.Ng fault) = ⊥
IsClassicCause any_error.ReadFault = ⊤
IsClassicCause (any_error.OutOfMemory want) = ⊥

abbrev pub IsCauseIn : AnyReader → AnyError → Type 0
IsCauseIn (Classic reader) error = IsClassicCause error
IsCauseIn (Blocks reader) error = IsBlockCause error

-- what may come before any record
abbrev pub IsBeginFault : AnyError → Type 0
IsBeginFault (any_error.Classic pcap_error.ShortHeader) = ⊤
IsBeginFault (any_error.Classic pcap_error.Magic) = ⊤
IsBeginFault (any_error.Classic pcap_error.Version) = ⊤
IsBeginFault (any_error.Classic pcap_error.LinkType) = ⊤
IsBeginFault (any_error.Classic (pcap_error.ShortRecord number)) = ⊥
IsBeginFault (any_error.Classic (pcap_error.LongRecord number length)) = ⊥
IsBeginFault (any_error.Classic (pcap_error.TooMany limit)) = ⊥
IsBeginFault (any_error.Classic pcap_error.ReadFault) = ⊥
IsBeginFault (any_error.Ng fault) = ⊥
IsBeginFault any_error.ReadFault = ⊤
IsBeginFault (any_error.OutOfMemory want) = ⊥
