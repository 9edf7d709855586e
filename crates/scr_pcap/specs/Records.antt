-- The records of a capture (libpcap file format, version 2.4): a header of 16 bytes with seconds at 0, a fraction of
-- a second at 4, the captured length at 8 and the original length, which is not looked at, at 12; then as many bytes
-- as the captured length says, which is at most 262,144.
use Rattle.std.specs.Prelude.{◌≡◌, ◌≢◌, ◌⊎◌, ℕ, ◌+◌, ◌*◌, ◌/◌, ◌<◌, ◌≤◌, List, [], ◌∷◌, ◌++◌, length, drop, Option, Some, None, ⊤, ◌==◌, nat_lt, if◌then◌else◌}
use Rattle.std.specs.Io.KnownBytes.{Consumes}
use Rattle.scr_pcap.specs.declared.error.CaptureError.{CaptureError}
use Rattle.scr_pcap.specs.declared.error.CaptureError.TheVariants.{ShortHeader, Magic, Version, LinkType, ShortRecord, LongRecord, TooMany, ReadFault}
use Rattle.scr_pcap.specs.declared.format.Format.{Format}
use Rattle.scr_pcap.specs.declared.format.Fraction.{Fraction}
use Rattle.scr_pcap.specs.declared.format.Fraction.TheVariants.{Microseconds, Nanoseconds}
use Rattle.scr_pcap.specs.Header.{number_at}

-- a record: its time in microseconds, and its bytes
pub record Record : Type 0 where
  pub time : ℕ
  pub content : List ℕ

-- the length of what stands in front of a record's bytes
abbrev pub RECORD_HEADER_SIZE : ℕ
RECORD_HEADER_SIZE = 16

-- the most records that are taken, and the greatest captured length
abbrev pub RECORDS : ℕ
RECORDS = 1000000

abbrev pub CAPTURED : ℕ
CAPTURED = 262144

-- a fraction of a second in microseconds, rounded down; an oversized one is taken as it stands
abbrev pub microseconds : Fraction → ℕ → ℕ
microseconds Microseconds fraction = fraction
microseconds Nanoseconds fraction = fraction / 1000

abbrev pub time_in : Format → List ℕ → ℕ
time_in format bytes =
    number_at format.order 0 4 bytes * 1000000 + microseconds format.fraction (number_at format.order 4 4 bytes)

abbrev pub captured_in : Format → List ℕ → ℕ
captured_in format bytes = number_at format.order 8 4 bytes

-- these bytes are this record
pub record IsRecord (format : Format) (bytes : List ℕ) (r : Record) : Type 0 where
  pub whole : length bytes ≡ RECORD_HEADER_SIZE + captured_in format bytes
  pub within : captured_in format bytes ≤ CAPTURED
  pub time : r.time ≡ time_in format bytes
  pub content : r.content ≡ drop RECORD_HEADER_SIZE bytes

-- these records stand at the front of the bytes, one after another, and the rest stands behind them
abbrev pub BeginWith : Format → List Record → List ℕ → List ℕ → Type 0
BeginWith format [] bytes rest = bytes ≡ rest
BeginWith format (r ∷ records) bytes rest =
    (first : List ℕ) × (behind : List ℕ) × (bytes ≡ first ++ behind) × IsRecord format first r × BeginWith format records behind rest

-- no record stands at the front of the bytes
abbrev pub NoRecord : Format → List ℕ → Type 0
NoRecord format bytes = (r : Record) (first behind : List ℕ) → bytes ≡ first ++ behind → IsRecord format first r → ⊥

-- what is wrong with a rest of which no record is taken: the first test that fails
unfoldable pub rest_fault : Format → ℕ → List ℕ → CaptureError
rest_fault format taken rest =
    if taken == RECORDS then TooMany RECORDS else
    (if nat_lt (length rest) RECORD_HEADER_SIZE then ShortRecord (taken + 1) else
    (if nat_lt CAPTURED (captured_in format rest) then LongRecord (taken + 1) (captured_in format rest)
    else ShortRecord (taken + 1)))

-- behind so many records stands a rest of which no further record is taken, and this is its fault
pub record IsFaultyRest (format : Format) (taken : ℕ) (rest : List ℕ) (fault : CaptureError) : Type 0 where
  pub more : rest ≢ []
  pub greatest : (taken ≡ RECORDS) ⊎ NoRecord format rest
  pub first_test : fault ≡ rest_fault format taken rest

-- the faults that may come behind so many records
abbrev pub IsRecordFault : ℕ → CaptureError → Type 0
IsRecordFault taken ShortHeader = ⊥
IsRecordFault taken Magic = ⊥
IsRecordFault taken Version = ⊥
IsRecordFault taken LinkType = ⊥
IsRecordFault taken (ShortRecord number) = number ≡ taken + 1
IsRecordFault taken (LongRecord number length) = (number ≡ taken + 1) × (CAPTURED < length)
IsRecordFault taken (TooMany limit) = (taken ≡ RECORDS) × (limit ≡ RECORDS)
IsRecordFault taken ReadFault = Unit {0}

-- a source, by the bytes that it had left before a call and after it, gave the bytes of this record
abbrev pub TakesRecord : Format → Option (List ℕ) → Option (List ℕ) → Record → Type 0
TakesRecord format old new r = (bytes : List ℕ) × IsRecord format bytes r × Consumes old new bytes

-- a source gave these records, one after another
abbrev pub TakesRecords : Format → Option (List ℕ) → Option (List ℕ) → List Record → Type 0
TakesRecords format None new records = ⊤
TakesRecords format (Some old) None records = ⊥
TakesRecords format (Some old) (Some new) records = BeginWith format records old new
