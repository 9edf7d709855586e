-- The reading of a capture, from all its bytes at once: its records, or the first fault.
use Rattle.std.specs.Prelude.{◌≡◌, ◌⊎◌, ℕ, ◌≤◌, List, [], length, drop, Result, Ok, Err}
use Rattle.scr_pcap.specs.declared.error.CaptureError.{CaptureError}
use Rattle.scr_pcap.specs.declared.format.Format.{Format}
use Rattle.scr_pcap.specs.Header.{HEADER_SIZE, header_of}
use Rattle.scr_pcap.specs.Records.{Record, RECORDS, BeginWith, IsFaultyRest}

-- a valid header and at most a million records spell all the bytes
pub record IsCapture (bytes : List ℕ) (records : List Record) : Type 0 where
  pub format : Format
  pub header : header_of bytes ≡ Ok format
  pub few : length records ≤ RECORDS
  pub spelled : BeginWith format records (drop HEADER_SIZE bytes) []

-- a valid header and as many records as there are, at most a million, stand before a rest with a fault
pub record IsCutShort (bytes : List ℕ) (fault : CaptureError) : Type 0 where
  pub format : Format
  pub header : header_of bytes ≡ Ok format
  pub records : List Record
  pub few : length records ≤ RECORDS
  pub rest : List ℕ
  pub spelled : BeginWith format records (drop HEADER_SIZE bytes) rest
  pub faulty : IsFaultyRest format (length records) rest fault

-- the reading of these bytes
abbrev pub IsReading : List ℕ → Result (List Record) CaptureError → Type 0
IsReading bytes (Ok records) = IsCapture bytes records
IsReading bytes (Err fault) = (header_of bytes ≡ Err fault) ⊎ IsCutShort bytes fault
