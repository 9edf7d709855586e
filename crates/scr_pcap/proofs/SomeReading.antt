-- A list of bytes has a reading.
use Rattle.std.proofs.Common.{◌≡◌, ◌≢◌, ◌⊎◌, ℕ, zero, suc, ◌+◌, ◌≤◌, List, [], ◌∷◌, ◌++◌, length, take, drop, Result, Ok, Err, refl, sym, ap, subst, ◌∙◌, inl, inr, arith}
use Rattle.std.proofs.lemmas.Bool.{cases_lt}
use Rattle.std.proofs.lemmas.List.{length-take-le, take-append-drop}
use Rattle.scr_pcap.specs.declared.error.CaptureError.{CaptureError}
use Rattle.scr_pcap.specs.declared.format.Format.{Format}
use Rattle.scr_pcap.specs.Header.{header_of}
use Rattle.scr_pcap.specs.Records.{Record, RECORDS, CAPTURED, IsRecord, NoRecord, BeginWith, time_in, captured_in, rest_fault}
use Rattle.scr_pcap.specs.Reading.{IsReading}
use Rattle.scr_pcap.proofs.FirstBytes.{captured_in-append}
use Rattle.scr_pcap.proofs.Front.{IsFront, NoRecord-from_short, NoRecord-from_long, NoRecord-from_cut}

front_or_none : (format : Format) (bytes : List ℕ) → IsFront format bytes ⊎ NoRecord format bytes
front_or_none format bytes =
    elim (cases_lt (length bytes) 16) [
      | inl short ↦ inr (NoRecord-from_short format bytes short)
      | inr header ↦ elim (cases_lt CAPTURED (captured_in format bytes)) [
        | inl long ↦ inr (NoRecord-from_long format bytes long)
        | inr within ↦ elim (cases_lt (length bytes) (16 + captured_in format bytes)) [
          | inl cut ↦ inr (NoRecord-from_cut format bytes cut)
          | inr whole ↦ inl (record { header = header; within = within; whole = whole })
        ]
      ]
    ]

-- the bytes of the record in front are a record
record_in_front : (format : Format) (bytes : List ℕ) → IsFront format bytes
    → (r : Record) × IsRecord format (take (16 + captured_in format bytes) bytes) r
record_in_front format bytes front =
    let first = take (16 + captured_in format bytes) bytes in
    let count : length first ≡ 16 + captured_in format bytes = length-take-le _ bytes front.whole in
    let parts : first ++ drop (16 + captured_in format bytes) bytes ≡ bytes = take-append-drop _ bytes in
    let captured : captured_in format bytes ≡ captured_in format first =
    ap (captured_in format) (sym parts) ∙ captured_in-append format first (drop (16 + captured_in format bytes) bytes) (omega arith) in
    let within = front.within in (
      record { time = time_in format first; content = drop 16 first },
      record { whole = omega arith; within = omega arith; time = refl; content = refl },
    )

-- behind so many records, these stand next, and no further one is taken of the rest
record Split (format : Format) (taken : ℕ) (bytes : List ℕ) : Type 0 where
  records : List Record
  rest : List ℕ
  spelled : BeginWith format records bytes rest
  few : taken + length records ≤ RECORDS
  stops : (taken + length records ≡ RECORDS) ⊎ NoRecord format rest

split : (format : Format) (room taken : ℕ) (bytes : List ℕ) → taken + room ≡ RECORDS → Split format taken bytes
split format zero taken bytes full = record { records = []; rest = bytes; spelled = refl; few = omega arith; stops = inl full }
split format (suc room) taken bytes full =
    elim (front_or_none format bytes) [
      | inr none ↦ record { records = []; rest = bytes; spelled = refl; few = omega arith; stops = inr none }
      | inl front ↦
          let end = 16 + captured_in format bytes in
          let more = split format room (taken + 1) (drop end bytes) (omega arith) in
          let found = record_in_front format bytes front in
          let few = more.few in
          let one_more : taken + 1 + length more.records ≡ taken + (length more.records + 1) = omega arith in
          record {
            records = found.0 ∷ more.records;
            rest = more.rest;
            spelled = (take end bytes, drop end bytes, sym (take-append-drop end bytes), found.1, more.spelled);
            few = omega arith;
            stops = subst (λ (n : ℕ). (n ≡ RECORDS) ⊎ NoRecord format more.rest) (omega arith) more.stops;
          }
    ]

abbrev SomeReading : List ℕ → Type 0
SomeReading bytes = (reading : Result (List Record) CaptureError) × IsReading bytes reading

behind_header : (format : Format) (bytes : List ℕ) (records : List Record) (rest : List ℕ) → header_of bytes ≡ Ok format
    → BeginWith format records (drop 24 bytes) rest → length records ≤ RECORDS → (length records ≡ RECORDS) ⊎ NoRecord format rest
    → SomeReading bytes
behind_header format bytes records [] valid spelled few stops = (Ok records, record { format = format; header = valid; few = few; spelled = spelled })
behind_header format bytes records (b ∷ rest) valid spelled few stops =
    let more : b ∷ rest ≢ [] = λ none. cc in (
      Err (rest_fault format (length records) (b ∷ rest)),
      inr (record {
        format = format;
        header = valid;
        records = records;
        few = few;
        rest = b ∷ rest;
        spelled = spelled;
        faulty = record { more = more; greatest = stops; first_test = refl };
      }),
    )

from_header : (bytes : List ℕ) (header : Result Format CaptureError) → header_of bytes ≡ header → SomeReading bytes
from_header bytes (Err fault) invalid = (Err fault, inl invalid)
from_header bytes (Ok format) valid =
    let parts = split format RECORDS 0 (drop 24 bytes) (omega arith) in
    let few = parts.few in
    behind_header format bytes parts.records parts.rest valid parts.spelled (omega arith)
    (subst (λ (n : ℕ). (n ≡ RECORDS) ⊎ NoRecord format parts.rest) (omega arith) parts.stops)

pub some_reading : (bytes : List ℕ) → (reading : Result (List Record) CaptureError) × IsReading bytes reading
some_reading bytes = from_header bytes (header_of bytes) refl
