-- How a reader's steps join into the reading of a whole capture.
use Rattle.std.proofs.Common.{◌≡◌, ℕ, ◌≤◌, List, [], ◌∷◌, ◌++◌, length, drop, Option, Some, None, Ok, Err, IfSome, refl, subst, ◌∙◌, inl, inr}
use Rattle.std.specs.Io.KnownBytes.{IsAtEnd}
use Rattle.scr_pcap.specs.declared.error.CaptureError.{CaptureError}
use Rattle.scr_pcap.specs.declared.format.Format.{Format}
use Rattle.scr_pcap.specs.Header.{header_of}
use Rattle.scr_pcap.specs.Records.{Record, RECORDS, IsRecord, BeginWith, IsFaultyRest, TakesRecord, TakesRecords}
use Rattle.scr_pcap.specs.Reading.{IsCutShort, IsReading}

-- one more record behind others
pub BeginWith-push : (format : Format) (records : List Record) (r : Record) (bytes middle first rest : List ℕ)
    → BeginWith format records bytes middle → middle ≡ first ++ rest → IsRecord format first r
    → BeginWith format (records ++ r ∷ []) bytes rest
BeginWith-push format [] r bytes middle first rest spelled parts front = (first, rest, spelled ∙ parts, front, refl)
BeginWith-push format (s ∷ records) r bytes middle first rest (front, behind, cut, is, spelled) parts last =
    (front, behind, cut, is, BeginWith-push format records r behind middle first rest spelled parts last)

-- nothing taken yet
pub TakesRecords-none : (format : Format) (left : Option (List ℕ)) → TakesRecords format left left []
TakesRecords-none format None = tt
TakesRecords-none format (Some left) = refl

-- one more record taken
pub TakesRecords-push : (format : Format) (old middle new : Option (List ℕ)) (records : List Record) (r : Record)
    → TakesRecords format old middle records → TakesRecord format middle new r → TakesRecords format old new (records ++ r ∷ [])
TakesRecords-push format None middle new records r taken (first, is, rest) = tt
TakesRecords-push format (Some old) None new records r taken (first, is, rest) = absurd taken
TakesRecords-push format (Some old) (Some middle) None records r taken (first, is, rest) = absurd rest
TakesRecords-push format (Some old) (Some middle) (Some new) records r taken (first, is, rest) =
    BeginWith-push format records r old middle first new taken rest is

spelled_at_end : (format : Format) (bytes : List ℕ) (now : Option (List ℕ)) (records : List Record)
    → TakesRecords format (Some bytes) now records → IsAtEnd now → BeginWith format records bytes []
spelled_at_end format bytes None records taken end = absurd taken
spelled_at_end format bytes (Some rest) records taken end = subst (BeginWith format records bytes) end taken

cut_short : (format : Format) (bytes : List ℕ) (now : Option (List ℕ)) (records : List Record) (fault : CaptureError)
    → header_of bytes ≡ Ok format → TakesRecords format (Some (drop 24 bytes)) now records → length records ≤ RECORDS
    → IfSome now (λ rest. IsFaultyRest format (length records) rest fault) → IsCutShort bytes fault
cut_short format bytes None records fault valid taken few faulty = absurd taken
cut_short format bytes (Some rest) records fault valid taken few faulty =
    record { format = format; header = valid; records = records; few = few; rest = rest; spelled = taken; faulty = faulty }

-- at a fault of the header
pub IsReading-at_header : (old : Option (List ℕ)) (fault : CaptureError)
    → IfSome old (λ bytes. header_of bytes ≡ Err fault) → IfSome old (λ bytes. IsReading bytes (Err fault))
IsReading-at_header None fault refused = tt
IsReading-at_header (Some bytes) fault refused = inl refused

-- at the end: by what a source had at first, what it had behind the header, and what it has now
pub IsReading-at_end : (format : Format) (old begun now : Option (List ℕ)) (records : List Record)
    → IfSome old (λ bytes. (header_of bytes ≡ Ok format) × (begun ≡ Some (drop 24 bytes)))
    → TakesRecords format begun now records → length records ≤ RECORDS → IsAtEnd now
    → IfSome old (λ bytes. IsReading bytes (Ok records))
IsReading-at_end format None begun now records valid taken few end = tt
IsReading-at_end format (Some bytes) begun now records valid taken few end =
    let from_header = subst (λ (left : Option (List ℕ)). TakesRecords format left now records) valid.1 taken in
    record { format = format; header = valid.0; few = few; spelled = spelled_at_end format (drop 24 bytes) now records from_header end }

-- at a fault behind the header
pub IsReading-at_fault : (format : Format) (old begun now : Option (List ℕ)) (records : List Record) (fault : CaptureError)
    → IfSome old (λ bytes. (header_of bytes ≡ Ok format) × (begun ≡ Some (drop 24 bytes)))
    → TakesRecords format begun now records → length records ≤ RECORDS
    → IfSome now (λ rest. IsFaultyRest format (length records) rest fault)
    → IfSome old (λ bytes. IsReading bytes (Err fault))
IsReading-at_fault format None begun now records fault valid taken few faulty = tt
IsReading-at_fault format (Some bytes) begun now records fault valid taken few faulty =
    let from_header = subst (λ (left : Option (List ℕ)). TakesRecords format left now records) valid.1 taken in
    inr (cut_short format bytes now records fault valid.0 from_header few faulty)
