-- What a contract sees of a reader.
use Rattle.std.specs.Prelude.{◌≡◌, ℕ, ◌+◌, ◌*◌, ◌==◌, Bool, true, false, Option, Some, None, Result, Ok, Err, if◌then◌else◌}
use Rattle.scr_pcap.specs.declared.error.CaptureError.{CaptureError}
use Rattle.scr_pcap.specs.declared.format.Format.{Format}
use Rattle.scr_pcap.specs.Header.{HEADER_SIZE}
use Rattle.scr_pcap.specs.Records.{RECORD_HEADER_SIZE, RECORDS, CAPTURED}
use Rattle.scr_pcap.specs.declared.reader.Progress.{Progress}
use Rattle.scr_pcap.specs.declared.reader.Progress.TheVariants.{Reading, Ended, Refused}
use Rattle.scr_pcap.specs.declared.reader.RecordInfo.{RecordInfo}

-- the format of its capture, how many records it took, and how far it has come
pub record ReaderState : Type 0 where
  pub format : Format
  pub taken : ℕ
  pub progress : Progress

-- it has taken the header alone
pub record IsFresh (reader : ReaderState) : Type 0 where
  pub none_taken : reader.taken ≡ 0
  pub reading : reader.progress ≡ Reading

abbrev pub is_refused : Progress → Bool
is_refused Reading = false
is_refused Ended = false
is_refused (Refused fault) = true

-- what a reader that doesn't read on answers
abbrev pub answer_of : Progress → Option (Result (Option RecordInfo) CaptureError)
answer_of Reading = None
answer_of Ended = Some (Ok None)
answer_of (Refused fault) = Some (Err fault)

-- the most bytes that were taken with a reader in this state: the header, the records, and what was taken to its error
abbrev pub reach : ReaderState → ℕ
reach reader =
    HEADER_SIZE + reader.taken * (RECORD_HEADER_SIZE + CAPTURED)
    + (if is_refused reader.progress then (if reader.taken == RECORDS then 1 else RECORD_HEADER_SIZE + CAPTURED) else 0)
