-- How the steps of a reader of either format tell the reading of a capture.
use Rattle.std.proofs.Common.{◌≡◌, ◌≢◌, ℕ, ◌+◌, ◌≤◌, ◌<◌, Bool, true, false, List, [], ◌∷◌, ◌++◌, length, take, drop, Option, Some, None, Result, Ok, Err, IfSome, MatchBool, nat_eq, nat_lt, refl, sym, ap, subst, ◌∙◌, inl, inr, arith}
use Rattle.std.proofs.lemmas.Bool.{cases_Bool, lt-ltb}
use Rattle.std.proofs.lemmas.Bool.Decides.{Decides-eqb}
use Rattle.std.proofs.lemmas.List.{append-nil, length-append, length-take-le, take_at}
use Rattle.std.proofs.lemmas.Slice.Eq.{starts_is}
use Rattle.std.specs.Io.KnownBytes.{Consumes, IsAtEnd, prepend_known}
use lib.Pointwise.{pointwise}
use Rattle.scr_pcap.specs.declared.error.CaptureError.{CaptureError}
use Rattle.scr_pcap.specs.declared.error.CaptureError.TheVariants.{ShortHeader, Magic, Version, LinkType, ShortRecord, LongRecord, TooMany}
use Rattle.scr_pcap.specs.declared.error.CaptureError.TheVariants as pcap_error
use Rattle.scr_pcap.specs.declared.format.Format.{Format}
use Rattle.scr_pcap.specs.declared.reader.Progress as classic
use Rattle.scr_pcap.specs.declared.reader.Progress.TheVariants as classic_progress
use Rattle.scr_pcap.specs.declared.reader.RecordInfo.{RecordInfo}
use Rattle.scr_pcap.specs.Header.{header_of}
use Rattle.scr_pcap.specs.Records.{Record, RECORDS, IsFaultyRest, IsRecord, TakesRecord}
use Rattle.scr_pcap.specs.State.{ReaderState}
use Rattle.scr_pcapng.specs.declared.error.AnyError.{AnyError}
use Rattle.scr_pcapng.specs.declared.error.AnyError.TheVariants.{Classic, Ng, ReadFault, OutOfMemory}
use Rattle.scr_pcapng.specs.declared.progress.Progress.TheVariants.{Reading}
use Rattle.scr_pcapng.specs.Either.{IsRestBehind, progress_in, reading_of, rest_behind}
use Rattle.scr_pcapng.specs.Reading.{IsBlockReading, IsClassicReading, IsReading, IsRestInBlocks, SECTION, START, is_in_blocks}
use Rattle.scr_pcapng.specs.State.{Answers, IsCauseOf, ReadsOn, Rest, any_of, put_before, rest_in_blocks}
use Rattle.scr_pcapng.proofs.Stepping.{put_none}

-- a reader of the libpcap file format that may read on
pub reading-in : (progress : classic.Progress) → progress_in progress ≡ Reading → progress ≡ classic_progress.Reading
reading-in classic_progress.Reading same = refl
reading-in classic_progress.Ended same = absurd (cc)
reading-in (classic_progress.Refused fault) same = absurd (cc)

-- a cause, among those of both formats
pub IsCauseOf-any : (rest : Rest) (error : CaptureError) → (error ≢ pcap_error.ReadFault → rest (Err (Classic error))) → IsCauseOf rest (any_of error)
IsCauseOf-any rest ShortHeader cause = cause (λ same. cc)
IsCauseOf-any rest Magic cause = cause (λ same. cc)
IsCauseOf-any rest Version cause = cause (λ same. cc)
IsCauseOf-any rest LinkType cause = cause (λ same. cc)
IsCauseOf-any rest (ShortRecord number) cause = cause (λ same. cc)
IsCauseOf-any rest (LongRecord number length) cause = cause (λ same. cc)
IsCauseOf-any rest (TooMany limit) cause = cause (λ same. cc)
IsCauseOf-any rest pcap_error.ReadFault cause = tt

-- a record more in front
behind-record : (format : Format) (taken : ℕ) (first behind : List ℕ) (r : Record) (reading : Result (List Record) AnyError) → IsRecord format first r
    → IsRestBehind format (taken + 1) behind reading → IsRestBehind format taken (first ++ behind) (put_before (r ∷ []) reading)
behind-record format taken first behind r (Ok records) is rest =
    let few = rest.0 in (
      omega arith,
      (first, behind, refl, is, rest.1),
    )
behind-record format taken first behind r (Err (Classic fault)) is rest =
    let few = rest.few in
    let moved : taken + 1 + length rest.records ≡ taken + length (r ∷ rest.records) = omega arith in
    record {
      records = r ∷ rest.records;
      rest = rest.rest;
      few = omega arith;
      spelled = (first, behind, refl, is, rest.spelled);
      faulty = subst (λ (n : ℕ). IsFaultyRest format n rest.rest fault) moved rest.faulty;
    }
behind-record format taken first behind r (Err (Ng fault)) is rest = absurd rest
behind-record format taken first behind r (Err ReadFault) is rest = absurd rest
behind-record format taken first behind r (Err (OutOfMemory want)) is rest = absurd rest

reads-record : (format : Format) (taken : ℕ) (old new : Option (List ℕ)) (r : Record) (reading : Result (List Record) AnyError) → TakesRecord format old new r
    → IfSome new (λ bytes. IsRestBehind format (taken + 1) bytes reading) → IfSome old (λ bytes. IsRestBehind format taken bytes (put_before (r ∷ []) reading))
reads-record format taken None new r reading took rest = tt
reads-record format taken (Some old) None r reading took rest = absurd took.2
reads-record format taken (Some old) (Some new) r reading took rest =
    subst (λ (bytes : List ℕ). IsRestBehind format taken bytes (put_before (r ∷ []) reading)) (sym took.2) (behind-record format taken took.0 new r reading took.1 rest)

pub ReadsOn-record : (old new : ReaderState) (left rest : Option (List ℕ)) (r : Record) → new ≡ record old { taken = old.taken + 1 }
    → TakesRecord old.format left rest r → ReadsOn (rest_behind old left) (rest_behind new rest) (r ∷ [])
ReadsOn-record old new left rest r same took = λ reading behind.
    reads-record old.format old.taken left rest r reading took
    (subst (λ (reader : ReaderState). IfSome rest (λ bytes. IsRestBehind reader.format reader.taken bytes reading)) same behind)

pub rest_behind-ended : (reader : ReaderState) (left : Option (List ℕ)) → reader.taken ≤ RECORDS → IsAtEnd left → rest_behind reader left (Ok [])
rest_behind-ended reader None few end = tt
rest_behind-ended reader (Some bytes) few end = (omega arith, end)

pub rest_behind-refused : (reader : ReaderState) (left : Option (List ℕ)) (fault : CaptureError) → reader.taken ≤ RECORDS
    → IfSome left (λ bytes. IsFaultyRest reader.format reader.taken bytes fault) → rest_behind reader left (Err (Classic fault))
rest_behind-refused reader None fault few faulty = tt
rest_behind-refused reader (Some bytes) fault few faulty = record {
  records = [];
  rest = bytes;
  few = omega arith;
  spelled = refl;
  faulty = (let none : reader.taken ≡ reader.taken + 0 = omega arith in subst (λ (n : ℕ). IsFaultyRest reader.format n bytes fault) none faulty);
}

-- the answer where no error came
pub classic-answers : (old new : ReaderState) (left rest : Option (List ℕ)) (frame : List ℕ) (next : Option RecordInfo) → new.taken ≤ RECORDS
    → IfSome next (λ info. (old.taken < RECORDS) × (new ≡ record old { taken = old.taken + 1 }) × (info.number ≡ old.taken + 1) × (info.length ≡ length frame)
    × TakesRecord old.format left rest (record { time = info.time; content = frame }))
    → (next ≡ None → new ≡ record old { progress = classic_progress.Ended }) → (next ≡ None → IsAtEnd left)
    → Answers (rest_behind old left) (rest_behind new rest) frame (Ok next)
classic-answers old new left rest frame (Some info) within told ended end =
    ReadsOn-record old new left rest (record { time = info.time; content = frame }) told.1 told.4
classic-answers old new left rest frame None within told ended end =
    rest_behind-ended old left (subst (λ (n : ℕ). n ≤ RECORDS) (ap (λ (reader : ReaderState). reader.taken) (ended refl)) within) (end refl)

-- the format of a capture, by its first four bytes
in_blocks : (behind : List ℕ) → is_in_blocks (SECTION ++ behind) ≡ true
in_blocks behind = refl

not_in_blocks : (bytes : List ℕ) → ((behind : List ℕ) → bytes ≡ SECTION ++ behind → ⊥) → is_in_blocks bytes ≡ false
not_in_blocks bytes other =
    elim (cases_Bool (is_in_blocks bytes)) [
      | inl is ↦ absurd (other (drop 4 bytes) ((starts_is Decides-eqb bytes SECTION (is_in_blocks bytes) refl).0 is))
      | inr is_not ↦ is_not
    ]

read_in : (format : Bool) (bytes : List ℕ) (reading : Result (List Record) AnyError) → is_in_blocks bytes ≡ format
    → MatchBool format (IsBlockReading bytes reading) (IsClassicReading bytes reading) → IsReading bytes reading
read_in format bytes reading is told = subst (λ (f : Bool). MatchBool f (IsBlockReading bytes reading) (IsClassicReading bytes reading)) (sym is) told

whole-in_blocks : (old mid : Option (List ℕ)) (reading : Result (List Record) AnyError) → Consumes old mid SECTION
    → IfSome (prepend_known SECTION mid) (λ bytes. IsRestInBlocks START bytes reading) → IfSome old (λ bytes. IsReading bytes reading)
whole-in_blocks None mid reading taken rest = tt
whole-in_blocks (Some bytes) None reading taken rest = absurd taken
whole-in_blocks (Some bytes) (Some behind) reading taken rest =
    subst (λ (xs : List ℕ). IsReading xs reading) (sym taken) (read_in true (SECTION ++ behind) reading (in_blocks behind) rest)

pub ReadsOn-blocks : (old mid : Option (List ℕ)) (first : List ℕ) → Consumes old mid first → first ≡ SECTION → ReadsOn (reading_of old) (rest_in_blocks START mid) []
ReadsOn-blocks old mid first taken is = λ reading rest.
    subst (reading_of old) (sym (put_none reading)) (whole-in_blocks old mid reading (subst (Consumes old mid) is taken) rest)

-- the reading behind a valid header
behind-header : (bytes : List ℕ) (format : Format) (reading : Result (List Record) AnyError) → header_of bytes ≡ Ok format
    → IsRestBehind format 0 (drop 24 bytes) reading → IsClassicReading bytes reading
behind-header bytes format (Ok records) valid rest = (let few = rest.0 in record { format = format; header = valid; few = omega arith; spelled = rest.1 })
behind-header bytes format (Err (Classic fault)) valid rest =
    let few = rest.few in
    let none : 0 + length rest.records ≡ length rest.records = omega arith in
    inr (record {
      format = format;
      header = valid;
      records = rest.records;
      few = omega arith;
      rest = rest.rest;
      spelled = rest.spelled;
      faulty = subst (λ (n : ℕ). IsFaultyRest format n rest.rest fault) none rest.faulty;
    })
behind-header bytes format (Err (Ng fault)) valid rest = absurd rest
behind-header bytes format (Err ReadFault) valid rest = absurd rest
behind-header bytes format (Err (OutOfMemory want)) valid rest = absurd rest

other-format : (bytes first behind : List ℕ) → bytes ≡ first ++ behind → length first ≡ 4 → first ≢ SECTION → is_in_blocks bytes ≡ false
other-format bytes first behind parts four other =
    not_in_blocks bytes (λ rest same.
    other (sym (ap (take 4) parts ∙ take_at first behind 4 four) ∙ ap (take 4) same))

whole-classic : (old mid new : Option (List ℕ)) (first : List ℕ) (format : Format) (reading : Result (List Record) AnyError) → Consumes old mid first → length first ≡ 4
    → first ≢ SECTION → IfSome (prepend_known first mid) (λ bytes. (header_of bytes ≡ Ok format) × (new ≡ Some (drop 24 bytes)))
    → IfSome new (λ bytes. IsRestBehind format 0 bytes reading) → IfSome old (λ bytes. IsReading bytes reading)
whole-classic None mid new first format reading taken four other valid rest = tt
whole-classic (Some bytes) None new first format reading taken four other valid rest = absurd taken
whole-classic (Some bytes) (Some behind) new first format reading taken four other valid rest =
    let here : IsRestBehind format 0 (drop 24 (first ++ behind)) reading =
    subst (λ (left : Option (List ℕ)). IfSome left (λ bs. IsRestBehind format 0 bs reading)) valid.1 rest in
    subst (λ (xs : List ℕ). IsReading xs reading) (sym taken)
    (read_in false (first ++ behind) reading (other-format (first ++ behind) first behind refl four other)
    (behind-header (first ++ behind) format reading valid.0 here))

pub ReadsOn-classic : (old mid new : Option (List ℕ)) (first : List ℕ) (reader : ReaderState) → Consumes old mid first → length first ≡ 4 → first ≢ SECTION
    → IfSome (prepend_known first mid) (λ bytes. (header_of bytes ≡ Ok reader.format) × (new ≡ Some (drop 24 bytes))) → reader.taken ≡ 0
    → ReadsOn (reading_of old) (rest_behind reader new) []
ReadsOn-classic old mid new first reader taken four other valid none = λ reading rest.
    subst (reading_of old) (sym (put_none reading))
    (whole-classic old mid new first reader.format reading taken four other valid
    (subst (λ (n : ℕ). IfSome new (λ bytes. IsRestBehind reader.format n bytes reading)) none rest))

-- a fault of the header
pub refused-classic : (old mid : Option (List ℕ)) (first : List ℕ) (error : CaptureError) → Consumes old mid first → length first ≡ 4 → first ≢ SECTION
    → IfSome (prepend_known first mid) (λ bytes. error ≢ pcap_error.ReadFault → header_of bytes ≡ Err error) → IsCauseOf (reading_of old) (any_of error)
refused-classic old mid first error taken four other refused = IsCauseOf-any (reading_of old) error (λ cause. told old mid taken refused cause)
  where
    told : (old mid : Option (List ℕ)) → Consumes old mid first
        → IfSome (prepend_known first mid) (λ bytes. error ≢ pcap_error.ReadFault → header_of bytes ≡ Err error)
        → error ≢ pcap_error.ReadFault → IfSome old (λ bytes. IsReading bytes (Err (Classic error)))
    told None mid taken refused cause = tt
    told (Some bytes) None taken refused cause = absurd taken
    told (Some bytes) (Some behind) taken refused cause =
        subst (λ (xs : List ℕ). IsReading xs (Err (Classic error))) (sym taken)
        (read_in false (first ++ behind) (Err (Classic error)) (other-format (first ++ behind) first behind refl four other) (inl (refused cause)))

header-short : (bytes : List ℕ) → length bytes < 24 → header_of bytes ≡ Err ShortHeader
unfolding header_of
header-short bytes short = let few : nat_lt (length bytes) 24 ≡ true = lt-ltb _ _ short in rw few refl

-- not even four bytes
pub short-told : (old new : Option (List ℕ)) (buf : List ℕ) (count : ℕ) → Consumes old new (take count buf) → IsAtEnd new → count ≤ length buf → count < 4
    → IsCauseOf (reading_of old) (Classic ShortHeader)
short-told None new buf count taken end within short = tt
short-told (Some bytes) None buf count taken end within short = absurd taken
short-told (Some bytes) (Some behind) buf count taken end within short =
    let size : length bytes ≡ count = ap length (taken ∙ ap (λ (rest : List ℕ). take count buf ++ rest) end ∙ append-nil (take count buf)) ∙ length-take-le count buf within in
    read_in false bytes (Err (Classic ShortHeader))
    (not_in_blocks bytes (λ rest same. (let long : length bytes ≡ 4 + length rest = ap length same ∙ length-append SECTION rest in omega arith)))
    (inl (header-short bytes (omega arith)))

pub other-first : (first : List ℕ) → false ≡ pointwise nat_eq first SECTION → first ≢ SECTION
other-first first differs = λ same.
    let both : false ≡ true = differs ∙ ap (λ (xs : List ℕ). pointwise nat_eq xs SECTION) same in
    cc
