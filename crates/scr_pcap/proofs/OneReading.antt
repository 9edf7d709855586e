-- A list of bytes has one reading.
use Rattle.std.proofs.Common.{◌≡◌, ◌⊎◌, ℕ, ◌+◌, ◌≤◌, ◌<◌, List, [], ◌∷◌, ◌++◌, length, take, drop, Result, Ok, Err, refl, sym, ap, subst, ◌∙◌, inl, inr, arith}
use Rattle.std.proofs.lemmas.List.{drop_at, take_at}
use Rattle.scr_pcap.specs.declared.error.CaptureError.{CaptureError}
use Rattle.scr_pcap.specs.declared.format.Format.{Format}
use Rattle.scr_pcap.specs.Header.{header_of}
use Rattle.scr_pcap.specs.Records.{Record, RECORDS, IsRecord, NoRecord, BeginWith, IsFaultyRest, time_in, captured_in, rest_fault}
use Rattle.scr_pcap.specs.Reading.{IsCapture, IsCutShort, IsReading}
use Rattle.scr_pcap.proofs.FirstBytes.{captured_in-append, time_in-append}
use Rattle.scr_pcap.proofs.Front.{NoRecord-from_short}

-- where the first record ends
abbrev end_of_first : Format → List ℕ → ℕ
end_of_first format bytes = 16 + captured_in format bytes

-- the first record, if there is one
abbrev first_record : Format → List ℕ → Record
first_record format bytes = record { time = time_in format bytes; content = drop 16 (take (end_of_first format bytes) bytes) }

same_record : (r : Record) (time : ℕ) (content : List ℕ) → r.time ≡ time → r.content ≡ content → r ≡ record { time = time; content = content }
same_record r time content same_time same_content =
    let with_time : ℕ → Record = λ t. record { time = t; content = r.content } in
    let with_content : List ℕ → Record = λ c. record { time = time; content = c } in
    ap with_time same_time ∙ ap with_content same_content

-- the bytes tell the record in front and what stands behind it
first_told : (format : Format) (first behind : List ℕ) (r : Record) → IsRecord format first r
    → (r ≡ first_record format (first ++ behind)) × (behind ≡ drop (end_of_first format (first ++ behind)) (first ++ behind))
first_told format first behind r front =
    let whole = front.whole in
    let enough : 16 ≤ length first = omega arith in
    let captured = captured_in-append format first behind enough in
    let end : length first ≡ end_of_first format (first ++ behind) = omega arith in (
      same_record r _ _ (front.time ∙ sym (time_in-append format first behind enough)) (front.content ∙ ap (drop 16) (sym (take_at first behind _ end))),
      sym (drop_at first behind _ end),
    )

same_first : (format : Format) (bytes first behind first' behind' : List ℕ) (r r' : Record)
    → bytes ≡ first ++ behind → IsRecord format first r → bytes ≡ first' ++ behind' → IsRecord format first' r'
    → (r ≡ r') × (behind ≡ behind')
same_first format bytes first behind first' behind' r r' parts front parts' front' =
    let one = first_told format first behind r front in
    let other = first_told format first' behind' r' front' in
    let same : first ++ behind ≡ first' ++ behind' = sym parts ∙ parts' in (
      one.0 ∙ ap (first_record format) same ∙ sym other.0,
      one.1 ∙ ap (λ (b : List ℕ). drop (end_of_first format b) b) same ∙ sym other.1,
    )

-- no further record is taken of this rest
abbrev Stops : Format → ℕ → List ℕ → Type 0
Stops format taken rest = (taken ≡ RECORDS) ⊎ NoRecord format rest

-- a further record can't stand where the records stop
stops_before_record : {A : Type 0} (format : Format) (taken more : ℕ) (bytes first behind : List ℕ) (r : Record)
    → Stops format taken bytes → taken < more → more ≤ RECORDS → bytes ≡ first ++ behind → IsRecord format first r → A
stops_before_record format taken more bytes first behind r stops longer few parts front =
    elim stops [ inl many ↦ absurd (omega arith) | inr none ↦ absurd (none r first behind parts front) ]

-- behind as many records as were taken, the records up to where they stop are the same
same_records : (format : Format) (taken : ℕ) (records records' : List Record) (bytes rest rest' : List ℕ)
    → BeginWith format records bytes rest → taken + length records ≤ RECORDS → Stops format (taken + length records) rest
    → BeginWith format records' bytes rest' → taken + length records' ≤ RECORDS → Stops format (taken + length records') rest'
    → (records ≡ records') × (rest ≡ rest')
same_records format taken [] [] bytes rest rest' spelled few stops spelled' few' stops' = (refl, sym spelled ∙ spelled')
same_records format taken [] (r ∷ records) bytes rest rest' spelled few stops (first, behind, parts, front, spelled') few' stops' =
    stops_before_record format (taken + 0) (taken + length (r ∷ records)) bytes first behind r (subst (Stops format (taken + 0)) (sym spelled) stops) (omega arith) few' parts front
same_records format taken (r ∷ records) [] bytes rest rest' (first, behind, parts, front, spelled) few stops spelled' few' stops' =
    stops_before_record format (taken + 0) (taken + length (r ∷ records)) bytes first behind r (subst (Stops format (taken + 0)) (sym spelled') stops') (omega arith) few parts front
same_records format taken (r ∷ records) (r' ∷ records') bytes rest rest' (first, behind, parts, front, spelled) few stops (first', behind', parts', front', spelled') few' stops' =
    let same = same_first format bytes first behind first' behind' r r' parts front parts' front' in
    let moved : (n : ℕ) → taken + (n + 1) ≡ taken + 1 + n = λ n. omega arith in
    let tails = same_records format (taken + 1) records records' behind rest rest'
    spelled (omega arith) (subst (λ (n : ℕ). Stops format n rest) (omega arith) stops)
    (subst (λ (b : List ℕ). BeginWith format records' b rest') (sym same.1) spelled') (omega arith) (subst (λ (n : ℕ). Stops format n rest') (omega arith) stops') in
    (ap (λ (head : Record). head ∷ records) same.0 ∙ ap (λ (tail : List Record). r' ∷ tail) tails.0, tails.1)

same_format : (bytes : List ℕ) (format format' : Format) → header_of bytes ≡ Ok format → header_of bytes ≡ Ok format' → format ≡ format'
same_format bytes format format' told told' = let same = sym told ∙ told' in cc

NoRecord-nil : (format : Format) → NoRecord format []
NoRecord-nil format = NoRecord-from_short format [] (omega arith)

-- a capture's records stop at its end
same_captures : (bytes : List ℕ) (records records' : List Record) → IsCapture bytes records → IsCapture bytes records' → records ≡ records'
same_captures bytes records records' one other =
    let format = same_format bytes other.format one.format other.header one.header in
    let spelled = subst (λ (f : Format). BeginWith f records' (drop 24 bytes) []) format other.spelled in
    let few = one.few in
    let few' = other.few in
    let none = NoRecord-nil one.format in
    (same_records one.format 0 records records' (drop 24 bytes) [] [] one.spelled (omega arith) (inr none) spelled (omega arith) (inr none)).0

same_cuts : (bytes : List ℕ) (fault fault' : CaptureError) → IsCutShort bytes fault → IsCutShort bytes fault' → fault ≡ fault'
same_cuts bytes fault fault' one other =
    let format = same_format bytes other.format one.format other.header one.header in
    let spelled = subst (λ (f : Format). BeginWith f other.records (drop 24 bytes) other.rest) format other.spelled in
    let faulty = subst (λ (f : Format). IsFaultyRest f (length other.records) other.rest fault') format other.faulty in
    let few = one.few in
    let few' = other.few in
    let stops = let at_none : 0 + length one.records ≡ length one.records = omega arith in subst (λ (n : ℕ). Stops one.format n one.rest) (sym at_none) one.faulty.greatest in
    let stops' = let at_none : 0 + length other.records ≡ length other.records = omega arith in subst (λ (n : ℕ). Stops one.format n other.rest) (sym at_none) faulty.greatest in
    let same = same_records one.format 0 one.records other.records (drop 24 bytes) one.rest other.rest one.spelled (omega arith) stops spelled (omega arith) stops' in
    one.faulty.first_test ∙ ap (λ (rs : List Record). rest_fault one.format (length rs) one.rest) same.0
    ∙ ap (λ (rest : List ℕ). rest_fault one.format (length other.records) rest) same.1 ∙ sym faulty.first_test

-- a capture isn't cut short
not_both : {A : Type 0} (bytes : List ℕ) (records : List Record) (fault : CaptureError) → IsCapture bytes records → IsCutShort bytes fault → A
not_both bytes records fault whole cut =
    let format = same_format bytes cut.format whole.format cut.header whole.header in
    let spelled = subst (λ (f : Format). BeginWith f cut.records (drop 24 bytes) cut.rest) format cut.spelled in
    let faulty = subst (λ (f : Format). IsFaultyRest f (length cut.records) cut.rest fault) format cut.faulty in
    let few = whole.few in
    let few' = cut.few in
    let stops = let at_none : 0 + length cut.records ≡ length cut.records = omega arith in subst (λ (n : ℕ). Stops whole.format n cut.rest) (sym at_none) faulty.greatest in
    let same = same_records whole.format 0 records cut.records (drop 24 bytes) [] cut.rest whole.spelled (omega arith) (inr (NoRecord-nil whole.format)) spelled (omega arith) stops in
    absurd (cut.faulty.more (sym same.1))

-- a header isn't both valid and not
valid_or_not : {A : Type 0} (bytes : List ℕ) (format : Format) (fault : CaptureError) → header_of bytes ≡ Ok format → header_of bytes ≡ Err fault → A
valid_or_not bytes format fault valid invalid = let both : Ok format ≡ Err fault = sym valid ∙ invalid in absurd (cc)

same_refusals : (bytes : List ℕ) (fault fault' : CaptureError) → header_of bytes ≡ Err fault → header_of bytes ≡ Err fault' → fault ≡ fault'
same_refusals bytes fault fault' told told' = let same = sym told ∙ told' in cc

pub same_readings : (bytes : List ℕ) (one other : Result (List Record) CaptureError) → IsReading bytes one → IsReading bytes other → one ≡ other
same_readings bytes (Ok records) (Ok records') one other = ap (λ (rs : List Record). Ok rs) (same_captures bytes records records' one other)
same_readings bytes (Ok records) (Err fault) one (inl invalid) = valid_or_not bytes one.format fault one.header invalid
same_readings bytes (Ok records) (Err fault) one (inr cut) = not_both bytes records fault one cut
same_readings bytes (Err fault) (Ok records) (inl invalid) other = valid_or_not bytes other.format fault other.header invalid
same_readings bytes (Err fault) (Ok records) (inr cut) other = not_both bytes records fault other cut
same_readings bytes (Err fault) (Err fault') (inl invalid) (inl invalid') = ap (λ (e : CaptureError). Err e) (same_refusals bytes fault fault' invalid invalid')
same_readings bytes (Err fault) (Err fault') (inl invalid) (inr cut') = valid_or_not bytes cut'.format fault cut'.header invalid
same_readings bytes (Err fault) (Err fault') (inr cut) (inl invalid') = valid_or_not bytes cut.format fault' cut.header invalid'
same_readings bytes (Err fault) (Err fault') (inr cut) (inr cut') = ap (λ (e : CaptureError). Err e) (same_cuts bytes fault fault' cut cut')
