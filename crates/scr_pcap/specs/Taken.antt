-- How many bytes a call takes of its source, and what it counts. Bytes that the source doesn't tell are not spoken of.
use Rattle.std.specs.Prelude.{◌≡◌, ◌≢◌, ◌||◌, ℕ, ◌+◌, ◌≤◌, ◌<◌, ◌==◌, nat_lt, List, length, Option, Result, Err, if◌then◌else◌}
use Rattle.std.specs.Io.KnownBytes.{Consumes}
use Rattle.scr_base.specs.Causes.{counted}
use Rattle.scr_pcap.specs.declared.error.CaptureError.{CaptureError}
use Rattle.scr_pcap.specs.declared.error.CaptureError.TheVariants.{ReadFault}
use Rattle.scr_pcap.specs.declared.format.Format.{Format}
use Rattle.scr_pcap.specs.Records.{RECORDS, CAPTURED, RECORD_HEADER_SIZE, captured_in}

-- a source gave a front of at most so many bytes
pub record GivesAtMost (most : ℕ) (old new : Option (List ℕ)) : Type 0 where
  pub front : List ℕ
  pub given : Consumes old new front
  pub within : length front ≤ most

-- a source gave a front of fewer bytes than so many
pub record GivesFewer (size : ℕ) (old new : Option (List ℕ)) : Type 0 where
  pub front : List ℕ
  pub given : Consumes old new front
  pub within : length front < size

-- a call that tests a front of so many bytes took no more; where a read failed it took fewer, so that no test was due
pub record Takes {T : Type 0} (size : ℕ) (old new : Option (List ℕ)) (result : Result T CaptureError) : Type 0 where
  pub most : GivesAtMost size old new
  pub untested : result ≡ Err ReadFault → GivesFewer size old new

-- the size of the front that is tested behind so many records: a byte behind the last that is taken, else the header of the
-- next record, with its bytes where these are all there and their count is accepted
abbrev pub next_size : Format → ℕ → List ℕ → ℕ
next_size format taken bytes =
    if taken == RECORDS then 1 else
    (if nat_lt (length bytes) RECORD_HEADER_SIZE || nat_lt CAPTURED (captured_in format bytes) then RECORD_HEADER_SIZE
    else RECORD_HEADER_SIZE + captured_in format bytes)

-- a call counts the failed read that it answers, and no other fault
pub record CountsReadFault {S T : Type 0} (faults : S → ℕ) (old new : S) (result : Result T CaptureError) : Type 0 where
  pub failed : result ≡ Err ReadFault → faults new ≡ counted (faults old)
  pub other : result ≢ Err ReadFault → faults new ≡ faults old
