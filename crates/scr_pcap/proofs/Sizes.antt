-- How many bytes were taken, by one read after another.
use Rattle.std.proofs.Common.{◌≡◌, ◌≢◌, ℕ, ◌+◌, ◌≤◌, ◌<◌, false, List, [], ◌++◌, length, Option, Some, None, Result, Ok, Err, IfSome, ◌==◌, nat_lt, refl, ap, ◌∙◌, arith, rules, tests, if◌then◌else◌}
use Rattle.std.proofs.lemmas.List.{length-append}
use Rattle.std.specs.Io.KnownBytes.{Consumes}
use Rattle.scr_pcap.specs.declared.error.CaptureError.{CaptureError}
use Rattle.scr_pcap.specs.declared.error.CaptureError.TheVariants.{ReadFault}
use Rattle.scr_pcap.specs.declared.format.Format.{Format}
use Rattle.scr_pcap.specs.Records.{Record, RECORDS, CAPTURED, TakesRecord, captured_in}
use Rattle.scr_pcap.specs.State.{ReaderState, reach}
use Rattle.scr_pcap.specs.declared.reader.Progress.TheVariants.{Reading, Refused}
use Rattle.scr_pcap.specs.Taken.{GivesAtMost, Takes, next_size}
use Rattle.scr_pcap.proofs.FirstBytes.{captured_in-append}
use Rattle.scr_pcap.proofs.Taking.{Consumes-then}
use Rattle.scr_pcap.proofs.Told.{IsHeaderTaken}

pub GivesAtMost-more : (n m : ℕ) (a b : Option (List ℕ)) → n ≤ m → GivesAtMost n a b → GivesAtMost m a b
GivesAtMost-more n m a b le gives = record { front = gives.front; given = gives.given; within = (let few = gives.within in omega arith) }

pub GivesAtMost-then : (n m : ℕ) (a b c : Option (List ℕ)) (taken : List ℕ) → GivesAtMost n a b → Consumes b c taken → length taken ≤ m
    → GivesAtMost (n + m) a c
GivesAtMost-then n m a b c taken first second le = record {
  front = first.front ++ taken;
  given = Consumes-then a b c first.front taken first.given second;
  within = (let few = first.within in omega (arith, length-append first.front taken));
}

-- a header is no more than what is tested
header-within : (format : Format) (taken : ℕ) (bytes : List ℕ) → taken < RECORDS → 16 ≤ next_size format taken bytes
header-within format taken bytes few = grind (arith, tests)

abbrev error_of : {T : Type 0} → Result T CaptureError → CaptureError
error_of (Ok x) = ReadFault
error_of (Err error) = error

-- the first bytes of a record were tested, or there were too few of them
pub Takes-header : (T : Type 0) (format : Format) (taken : ℕ) (old new : Option (List ℕ)) (first : List ℕ) (error : CaptureError)
    → taken < RECORDS → Consumes old new first → length first ≤ 16 → error ≢ ReadFault
    → IfSome old (λ bytes. Takes {T = T} (next_size format taken bytes) (Some bytes) new (Err error))
Takes-header T format taken None new first error few took within told = tt
Takes-header T format taken (Some bytes) new first error few took within told =
    let enough = header-within format taken bytes few in
    record {
      most = record { front = first; given = took; within = omega arith };
      untested = λ failed. absurd (told (ap (error_of {T = T}) failed));
    }

-- the size that a whole header tells
size_told : (format : Format) (taken : ℕ) (header rest : List ℕ) → taken < RECORDS → length header ≡ 16 → captured_in format header ≤ CAPTURED
    → next_size format taken (header ++ rest) ≡ 16 + captured_in format header
size_told format taken header rest few whole within =
    let enough : 16 ≤ length header = omega arith in
    let captured = captured_in-append format header rest enough in
    let count = length-append header rest in
    let few_taken : (taken == RECORDS) ≡ false = search (rules, tests) in
    let whole_header : nat_lt (length (header ++ rest)) 16 ≡ false = grind (arith, tests) in
    let not_long : nat_lt CAPTURED (captured_in format (header ++ rest)) ≡ false = grind (arith, tests) in
    rw (few_taken, whole_header, not_long, captured) refl

-- bytes of a record were taken behind its header
pub Takes-behind : {T : Type 0} (format : Format) (taken captured : ℕ) (old mid new : Option (List ℕ)) (header content : List ℕ) (result : Result T CaptureError)
    → taken < RECORDS → IsHeaderTaken format old mid header captured → Consumes mid new content → length content ≤ captured
    → (result ≡ Err ReadFault → length content < captured)
    → IfSome old (λ bytes. Takes (next_size format taken bytes) (Some bytes) new result)
Takes-behind format taken captured None mid new header content result few first second within fewer = tt
Takes-behind format taken captured (Some bytes) None new header content result few first second within fewer = absurd first.taken
Takes-behind format taken captured (Some bytes) (Some rest) new header content result few first second within fewer =
    let told = first.told in
    let accepted = first.within in
    let whole = first.whole in
    let both = Consumes-then (Some bytes) (Some rest) new header content first.taken second in
    let size : next_size format taken bytes ≡ 16 + captured_in format header =
    ap (next_size format taken) first.taken ∙ size_told format taken header rest few whole (omega arith) in
    let count = length-append header content in
    record {
      most = record { front = header ++ content; given = both; within = omega arith };
      untested = λ failed. (let less = fewer failed in record { front = header ++ content; given = both; within = omega arith });
    }

-- what stands behind so many records is no longer than a record, and behind the last that is taken it is a byte
size_within : (format : Format) (taken : ℕ) (bytes : List ℕ)
    → next_size format taken bytes ≤ (if taken == RECORDS then 1 else 16 + CAPTURED)
size_within format taken bytes = grind (arith, tests)

nothing_of_none : (n m : ℕ) (start new : Option (List ℕ)) → GivesAtMost n start None → GivesAtMost m start new
nothing_of_none n m None new gives = record { front = []; given = tt; within = omega arith }
nothing_of_none n m (Some x) new gives = absurd gives.given

-- a record more
pub reach-record : (reader : ReaderState) (start old new : Option (List ℕ)) (r : Record) → reader.progress ≡ Reading → TakesRecord reader.format old new r
    → GivesAtMost (reach reader) start old → GivesAtMost (reach (record reader { taken = reader.taken + 1 })) start new
reach-record reader start old new r reading took gives =
    let whole = took.1.whole in
    let within = took.1.within in
    let bounded : length took.0 ≤ 16 + CAPTURED = omega arith in
    let more = GivesAtMost-then (reach reader) (16 + CAPTURED) start old new took.0 gives took.2 bounded in
    GivesAtMost-more _ _ start new (rw reading (omega arith)) more

-- an error
pub reach-refused : (T : Type 0) (reader : ReaderState) (start old new : Option (List ℕ)) (error : CaptureError) → reader.progress ≡ Reading
    → IfSome old (λ bytes. Takes {T = T} (next_size reader.format reader.taken bytes) (Some bytes) new (Err error))
    → GivesAtMost (reach reader) start old → GivesAtMost (reach (record reader { progress = Refused error })) start new
reach-refused T reader start None new error reading takes gives = nothing_of_none _ _ start new gives
reach-refused T reader start (Some bytes) new error reading takes gives =
    let size = size_within reader.format reader.taken bytes in
    let within = takes.most.within in
    let more = GivesAtMost-then (reach reader) (next_size reader.format reader.taken bytes) start (Some bytes) new takes.most.front gives takes.most.given within in
    GivesAtMost-more _ _ start new (rw reading (omega (arith, size))) more
