-- An entry read of a source, by what was kept of the frames before it.
use Rattle.std.proofs.Common.{◌≡◌, ◌≢◌, ℕ, ◌+◌, ◌-◌, ◌<◌, ◌≤◌, true, List, ◌++◌, length, Option, Some, None, Ok, Err, IfSome, refl, sym, ap, subst, ◌∙◌, inl, inr, arith, rules, tests}
use Rattle.std.specs.Prelude.{nat_lt, map}
use Rattle.std.specs.List.{range_with_len}
use Rattle.std.proofs.lemmas.Bool.{cases_lt}
use Rattle.std.specs.Io.KnownBytes.{Consumes, IsAtEnd, prepend_known}
use Rattle.scr_base.specs.declared.row.Row.{Row}
use Rattle.scr_base.specs.Causes.{counted}
use Rattle.scr_pcap.specs.Taken.{GivesAtMost}
use Rattle.scr_pcap.proofs.Told.{IsReadInFront}
use Rattle.scr_wire.specs.declared.message.Message.TheVariants as message
use Rattle.scr_wire.specs.Spelling.{spelling}
use Rattle.scr_stream.specs.Reading.{no_row}
use Rattle.scr_wire.specs.declared.message.MessageKind.{MessageKind}
use Rattle.scr_wire.specs.declared.message.MessageKind.TheVariants.{Frame, Beacon, End}
use Rattle.scr_wire.specs.Reading.{number_in, count_in}
use Rattle.scr_stream.specs.Frames.{StreamFrame, last_number}
use Rattle.scr_stream.specs.Tests.{kind_in, field_fault, header_fault, entry_fault}
use Rattle.scr_stream.specs.Taken.{StandsFor, IsFound, CountsReadFault, TakesFrame, TakesEnd}
use Rattle.scr_stream.specs.declared.error.StreamError.{StreamError}
use Rattle.scr_stream.specs.declared.error.StreamError.TheVariants as fault
use Rattle.scr_stream.proofs.EntryTests.{header-refused, header-parts}
use Rattle.scr_stream.proofs.EndRead.{end-placed, end-taken, end-refused}
use Rattle.scr_stream.proofs.Keeping.{kept-length, numbers-kept}

-- a header that passes is whole
pub header-whole : (history entry last : ℕ) (first : List ℕ) → header_fault history entry last first ≡ None → 10 ≤ length first
unfolding header_fault
header-whole history entry last first passed =
    elim (cases_lt (length first) 10) [
      | inl short ↦
          let test : nat_lt (length first) 10 ≡ true = search (rules, tests) in
          let refused : Some (fault.Cut entry) ≡ None = rw test at passed in
          absurd (cc)
      | inr enough ↦ enough
    ]

-- where an entry stands
pub at-place : (history : ℕ) (frames : List StreamFrame) (rows : List Row) (missing : List ℕ) (count : ℕ) (stands : StandsFor history frames rows missing count)
    (first : List ℕ)
    → header_fault history (count + 1) (length rows) first ≡ header_fault history (length frames + 1) (last_number frames) first
at-place history frames rows missing count stands first =
    ap (λ (n : ℕ). header_fault history (n + 1) (length rows) first) stands.count_is
    ∙ ap (λ (n : ℕ). header_fault history (length frames + 1) n first) (kept-length history frames rows missing count stands)

-- its header is refused
pub header-told : (history : ℕ) (rows : List Row) (missing : List ℕ) (count : ℕ) (old new : Option (List ℕ)) (first : List ℕ) (error : StreamError)
    → IsReadInFront old new first 10 → header_fault history (count + 1) (length rows) first ≡ Some error
    → IfSome old (λ bytes. IsFound error → (frames : List StreamFrame) → StandsFor history frames rows missing count → entry_fault history frames bytes ≡ Some error)
header-told history rows missing count None new first error read refused = tt
header-told history rows missing count (Some bytes) None first error read refused = absurd read.taken
header-told history rows missing count (Some bytes) (Some left) first error read refused = λ found frames stands.
    ap (entry_fault history frames) read.taken
    ∙ header-refused history frames first left error read.within read.end (sym (at-place history frames rows missing count stands first) ∙ refused)

-- its header was taken before
pub Consumes-joined : (old mid new : Option (List ℕ)) (header bytes : List ℕ) → Consumes old mid header → Consumes (prepend_known header mid) new bytes → Consumes old new bytes
Consumes-joined None mid new header bytes first second = tt
Consumes-joined (Some old) None new header bytes first second = absurd first
Consumes-joined (Some old) (Some mid) None header bytes first second = absurd second
Consumes-joined (Some old) (Some mid) (Some new) header bytes first second = first ∙ second

pub TakesFrame-joined : (history : ℕ) (frames : List StreamFrame) (old mid new : Option (List ℕ)) (header : List ℕ) (rows : List Row) (missing : List ℕ) (count : ℕ)
    → Consumes old mid header → TakesFrame history frames (prepend_known header mid) new rows missing count → TakesFrame history frames old new rows missing count
TakesFrame-joined history frames old mid new header rows missing count first taken = record {
  it = taken.it;
  follows = taken.follows;
  taken = Consumes-joined old mid new header _ first taken.taken;
  stands = taken.stands;
}

-- a header that passes and is no frame's is that of an end
pub kind-end : (history entry last : ℕ) (header : List ℕ) → length header ≡ 10 → header_fault history entry last header ≡ None → kind_in header ≢ Frame → kind_in header ≡ End
kind-end history entry last header ten passed other = by (kind_in header) other (header-parts history entry last header ten passed).1
  where
    by : (k : MessageKind) → k ≢ Frame → field_fault history entry last k (number_in header) (count_in header) ≡ None → k ≡ End
    by Frame not_it none = absurd (not_it refl)
    by Beacon not_it none = absurd cc
    by End not_it none = refl

-- ---- the header of an entry was read, and passes its tests behind what was kept

pub record IsEntryHeader (history : ℕ) (rows : List Row) (count : ℕ) (old mid : Option (List ℕ)) (header : List ℕ) : Type 0 where
  pub taken : Consumes old mid header
  pub ten : length header ≡ 10
  pub passed : header_fault history (count + 1) (length rows) header ≡ None

pub IsEntryHeader-from_fill : (history : ℕ) (rows : List Row) (count last : ℕ) (old mid : Option (List ℕ)) (header : List ℕ) → last ≡ length rows
    → IsReadInFront old mid header 10 → header_fault history (count + 1) last header ≡ None → IsEntryHeader history rows count old mid header
IsEntryHeader-from_fill history rows count last old mid header is read passed =
    let whole = header-whole history (count + 1) last header passed in
    let within = read.within in
    record {
      taken = read.taken;
      ten = omega arith;
      passed = ap (λ (n : ℕ). header_fault history (count + 1) n header) (sym is) ∙ passed;
    }

-- it passes behind the frames that were kept
pub passed-behind : (history : ℕ) (frames : List StreamFrame) (rows : List Row) (missing : List ℕ) (count : ℕ) (old mid : Option (List ℕ)) (header : List ℕ)
    → IsEntryHeader history rows count old mid header → StandsFor history frames rows missing count
    → header_fault history (length frames + 1) (last_number frames) header ≡ None
passed-behind history frames rows missing count old mid header it stands = sym (at-place history frames rows missing count stands header) ∙ it.passed

-- the rest of a frame is refused
pub frame-refused : (history : ℕ) (rows : List Row) (missing : List ℕ) (count : ℕ) (old mid : Option (List ℕ)) (header : List ℕ) (error : StreamError)
    → IsEntryHeader history rows count old mid header
    → IfSome mid (λ behind. IsFound error → (history : ℕ) (frames : List StreamFrame) → StandsFor history frames rows missing count
    → header_fault history (length frames + 1) (last_number frames) header ≡ None → entry_fault history frames (header ++ behind) ≡ Some error)
    → IfSome old (λ bytes. IsFound error → (frames : List StreamFrame) → StandsFor history frames rows missing count → entry_fault history frames bytes ≡ Some error)
frame-refused history rows missing count None mid header error it told = tt
frame-refused history rows missing count (Some bytes) None header error it told = absurd it.taken
frame-refused history rows missing count (Some bytes) (Some behind) header error it told = λ found frames stands.
    ap (entry_fault history frames) it.taken
    ∙ told found history frames stands (passed-behind history frames rows missing count (Some bytes) (Some behind) header it stands)

-- a frame was taken
pub frame-taken : (history : ℕ) (rows : List Row) (missing : List ℕ) (count : ℕ) (old mid new : Option (List ℕ)) (header : List ℕ)
    (new_rows : List Row) (new_missing : List ℕ) (new_count : ℕ) → IsEntryHeader history rows count old mid header
    → ((history : ℕ) (frames : List StreamFrame) → StandsFor history frames rows missing count
    → header_fault history (length frames + 1) (last_number frames) header ≡ None
    → TakesFrame history frames (prepend_known header mid) new new_rows new_missing new_count)
    → (frames : List StreamFrame) → StandsFor history frames rows missing count → TakesFrame history frames old new new_rows new_missing new_count
frame-taken history rows missing count old mid new header new_rows new_missing new_count it told frames stands =
    TakesFrame-joined history frames old mid new header new_rows new_missing new_count it.taken
    (told history frames stands (passed-behind history frames rows missing count old mid header it stands))

-- a byte stands behind an end
pub trailing-told : (history : ℕ) (rows : List Row) (missing : List ℕ) (count : ℕ) (old mid : Option (List ℕ)) (header : List ℕ) (error : StreamError)
    → IsEntryHeader history rows count old mid header → kind_in header ≡ End
    → IfSome mid (λ bytes. IsFound error → (error ≡ fault.Trailing) × (0 < length bytes))
    → IfSome old (λ bytes. IsFound error → (frames : List StreamFrame) → StandsFor history frames rows missing count → entry_fault history frames bytes ≡ Some error)
trailing-told history rows missing count None mid header error it kind-is told = tt
trailing-told history rows missing count (Some bytes) None header error it kind-is told = absurd it.taken
trailing-told history rows missing count (Some bytes) (Some behind) header error it kind-is told = λ found frames stands.
    end-refused history frames (Some bytes) (Some behind) header error it.ten
    (passed-behind history frames rows missing count (Some bytes) (Some behind) header it stands) kind-is it.taken told found

-- the end was taken
pub end-told : (history : ℕ) (rows : List Row) (missing : List ℕ) (count : ℕ) (old mid new : Option (List ℕ)) (header : List ℕ) (number : ℕ)
    (new_rows : List Row) (new_missing : List ℕ) → IsEntryHeader history rows count old mid header → kind_in header ≡ End → number ≡ number_in header
    → header ≡ spelling (message.End number) → GivesAtMost 1 mid new → IsAtEnd mid → IsAtEnd new
    → new_rows ≡ rows ++ map (λ p. no_row) (range_with_len (length rows + 1) (number - length rows))
    → new_missing ≡ missing ++ range_with_len (length rows + 1) (number - length rows)
    → (frames : List StreamFrame) → StandsFor history frames rows missing count → TakesEnd frames old new new_rows new_missing
end-told history rows missing count old mid new header number new_rows new_missing it kind-is number-is spelled few end_before end rows_are missing_are frames stands =
    let placed = end-placed history (count + 1) (length rows) header it.ten it.passed kind-is in
    let last = kept-length history frames rows missing count stands in
    let later : length rows ≤ number = omega (arith, placed.1) in
    let kept = numbers-kept history frames rows missing count stands number later new_rows new_missing rows_are missing_are in
    record {
      last = number;
      within = omega arith;
      few = omega (arith, placed.0);
      taken = subst (Consumes old new) spelled (end-taken old mid new header few.front it.taken few.given end_before);
      end = end;
      rows_are = kept.0;
      missing_are = kept.1;
    }

-- ---- what is counted

pub counts-error : {S T U : Type 0} (faults : S → ℕ) (old mid new : S) (error : StreamError) → faults mid ≡ faults old
    → CountsReadFault {S = S} {T = T} faults mid new (Err error) → CountsReadFault {S = S} {T = U} faults old new (Err error)
counts-error faults old mid new error same counts = record {
  failed = λ is. let e : error ≡ fault.ReadFault = cc in counts.failed (ap (λ (x : StreamError). Err x) e) ∙ ap counted same;
  other = λ is. counts.other (λ e. let it : error ≡ fault.ReadFault = cc in is (ap (λ (x : StreamError). Err x) it)) ∙ same;
}

pub counts-value : {S T U : Type 0} (faults : S → ℕ) (old mid new : S) (x : T) (y : U) → faults mid ≡ faults old
    → CountsReadFault {S = S} {T = T} faults mid new (Ok x) → CountsReadFault {S = S} {T = U} faults old new (Ok y)
counts-value faults old mid new x y same counts = record {
  failed = λ is. absurd cc;
  other = λ is. counts.other (λ e. cc) ∙ same;
}

pub some-nothing : (o : Option (List ℕ)) → IfSome o (λ _. Unit {0})
some-nothing None = tt
some-nothing (Some x) = tt
