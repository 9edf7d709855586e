-- What the first bytes that were read of a source tell of all that it had left.
use Rattle.std.proofs.Common.{◌≡◌, ℕ, ◌+◌, ◌≤◌, ◌<◌, true, List, [], ◌++◌, length, take, drop, Option, Some, None, Ok, Err, IfSome, nat_lt, sym, ap, subst, ◌∙◌, inl, inr, arith, rules, tests}
use Rattle.std.proofs.lemmas.Bool.{cases_lt}
use Rattle.std.proofs.lemmas.List.{append-nil, drop_at, length-take, length-take-le, take_all}
use Rattle.std.specs.Io.KnownBytes.{Consumes, IsAtEnd}
use Rattle.scr_pcap.specs.declared.error.CaptureError.{CaptureError}
use Rattle.scr_pcap.specs.declared.error.CaptureError.TheVariants.{ShortHeader, ShortRecord, ReadFault}
use Rattle.scr_pcap.specs.declared.format.Format.{Format}
use Rattle.scr_pcap.specs.Header.{header_of}
use Rattle.scr_pcap.specs.Records.{RECORDS, CAPTURED, IsFaultyRest, TakesRecord, captured_in, time_in, rest_fault}
use Rattle.scr_pcap.proofs.FirstBytes.{header_of-append}
use Rattle.scr_pcap.proofs.Front.{IsRecord-joined}
use Rattle.scr_pcap.proofs.Faults.{HeaderFails, IsFaultyRest-from_header, IsFaultyRest-from_cut}
use Rattle.scr_pcap.proofs.Taking.{Consumes-then}

-- these bytes were read in front, as many as were asked for or all that there were
pub record IsReadInFront (old new : Option (List ℕ)) (first : List ℕ) (size : ℕ) : Type 0 where
  pub taken : Consumes old new first
  pub within : length first ≤ size
  pub end : length first < size → IsAtEnd new

pub IsReadInFront-from_fill : (old new : Option (List ℕ)) (buf : List ℕ) (count size : ℕ) → length buf ≡ size → count ≤ size
    → Consumes old new (take count buf) → (count < size → IsAtEnd new) → IsReadInFront old new (take count buf) size
IsReadInFront-from_fill old new buf count size whole within taken end =
    let all = length-take-le count buf (omega arith) in
    record { taken = taken; within = omega arith; end = λ short. end (omega arith) }

-- all that there were
alone : (first behind : List ℕ) → behind ≡ [] → first ++ behind ≡ first
alone first behind none = ap (λ (t : List ℕ). first ++ t) none ∙ append-nil first

header_of-same : (bytes first behind : List ℕ) → bytes ≡ first ++ behind → (length first < 24 → behind ≡ []) → header_of bytes ≡ header_of first
header_of-same bytes first behind parts end =
    elim (cases_lt (length first) 24) [
      | inl short ↦ ap header_of (parts ∙ alone first behind (end short))
      | inr enough ↦ ap header_of parts ∙ header_of-append first behind enough
    ]

-- an invalid header was read
pub header-refused : (old new : Option (List ℕ)) (first : List ℕ) (fault : CaptureError) → IsReadInFront old new first 24 → Err fault ≡ header_of first
    → IfSome old (λ bytes. (fault ≡ ReadFault → ⊥) → header_of bytes ≡ Err fault)
header-refused None new first fault read told = tt
header-refused (Some bytes) None first fault read told = absurd read.taken
header-refused (Some bytes) (Some behind) first fault read told = λ _. header_of-same bytes first behind read.taken read.end ∙ sym told

long_from_ok : (first : List ℕ) (format : Format) → header_of first ≡ Ok format → 24 ≤ length first
unfolding header_of
long_from_ok first format told =
    elim (cases_lt (length first) 24) [
      | inl short ↦
          let test : nat_lt (length first) 24 ≡ true = search (rules, tests) in
          let refused : Err ShortHeader ≡ Ok format = rw test at told in
          absurd (cc)
      | inr enough ↦ enough
    ]

-- a valid header was read
pub header-taken : (old new : Option (List ℕ)) (first : List ℕ) (format : Format) → IsReadInFront old new first 24 → Ok format ≡ header_of first
    → IfSome old (λ bytes. (header_of bytes ≡ Ok format) × (new ≡ Some (drop 24 bytes)))
header-taken None new first format read told = tt
header-taken (Some bytes) None first format read told = absurd read.taken
header-taken (Some bytes) (Some behind) first format read told =
    let enough = long_from_ok first format (sym told) in
    let within = read.within in (
      header_of-same bytes first behind read.taken read.end ∙ sym told,
      ap (λ (t : List ℕ). Some t) (sym (ap (drop 24) read.taken ∙ drop_at first behind 24 (omega arith))),
    )

-- a test failed at the first bytes of a record
pub header-fails : (format : Format) (taken : ℕ) (fault : CaptureError) (old new : Option (List ℕ)) (first : List ℕ)
    → IsReadInFront old new first 16 → 0 < length first → HeaderFails format taken first → fault ≡ rest_fault format taken first
    → IfSome old (λ bytes. IsFaultyRest format taken bytes fault)
header-fails format taken fault None new first read some fails told = tt
header-fails format taken fault (Some bytes) None first read some fails told = absurd read.taken
header-fails format taken fault (Some bytes) (Some behind) first read some fails told =
    subst (λ (b : List ℕ). IsFaultyRest format taken b fault) (sym read.taken)
    (IsFaultyRest-from_header format taken first behind fault some read.end fails told)

-- the header of a record was read whole, and tells this captured length
pub record IsHeaderTaken (format : Format) (old new : Option (List ℕ)) (header : List ℕ) (captured : ℕ) : Type 0 where
  pub taken : Consumes old new header
  pub whole : length header ≡ 16
  pub told : captured ≡ captured_in format header
  pub within : captured ≤ CAPTURED

pub IsHeaderTaken-from_fill : (format : Format) (old new : Option (List ℕ)) (buf : List ℕ) (count captured : ℕ)
    → length buf ≡ 16 → Consumes old new (take count buf)
    → 16 ≤ length (take count buf) → captured ≡ captured_in format (take count buf) → captured ≤ CAPTURED
    → IsHeaderTaken format old new buf captured
IsHeaderTaken-from_fill format old new buf count captured whole taken enough told within =
    let front = length-take count buf in
    let all : take count buf ≡ buf = take_all count buf (omega arith) in
    record {
      taken = subst (Consumes old new) all taken;
      whole = whole;
      told = told ∙ ap (captured_in format) all;
      within = within;
    }

-- the bytes ended within a record's content
pub content-cut : (format : Format) (taken captured : ℕ) (fault : CaptureError) (old mid new : Option (List ℕ)) (header content : List ℕ)
    → IsHeaderTaken format old mid header captured → Consumes mid new content → IsAtEnd new
    → taken < RECORDS → length content < captured → fault ≡ ShortRecord (taken + 1)
    → IfSome old (λ bytes. IsFaultyRest format taken bytes fault)
content-cut format taken captured fault None mid new header content first second end few cut is = tt
content-cut format taken captured fault (Some bytes) None new header content first second end few cut is = absurd first.taken
content-cut format taken captured fault (Some bytes) (Some mid) None header content first second end few cut is = absurd second
content-cut format taken captured fault (Some bytes) (Some mid) (Some new) header content first second end few cut is =
    let parts : bytes ≡ header ++ content = first.taken ∙ ap (λ (t : List ℕ). header ++ t) (second ∙ alone content new end) in
    let told = first.told in
    let within = first.within in
    rw (parts, is) (IsFaultyRest-from_cut format taken header content first.whole (omega arith) few (omega arith))

-- a header and its content were read
pub record-taken : (format : Format) (captured time : ℕ) (old mid new : Option (List ℕ)) (header content : List ℕ)
    → IsHeaderTaken format old mid header captured → Consumes mid new content
    → length content ≡ captured → time ≡ time_in format header
    → TakesRecord format old new (record { time = time; content = content })
record-taken format captured time old mid new header content first second all is =
    let told = first.told in
    let within = first.within in
    let whole : length content ≡ captured_in format header = omega arith in
    let joined = IsRecord-joined format header content first.whole whole (omega arith) in (
      header ++ content,
      record { whole = joined.whole; within = joined.within; time = is ∙ joined.time; content = joined.content },
      Consumes-then old mid new header content first.taken second,
    )
