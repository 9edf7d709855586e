-- How a caller joins the answers of a reader: what it has read, and the reading of the rest.
use Rattle.std.proofs.Common.{◌≡◌, ◌≢◌, ℕ, Bool, true, false, List, [], ◌∷◌, ◌++◌, length, drop, Result, Ok, Err, MatchBool, nat_lt, append_assoc, sym, ap, ◌∙◌, subst, refl, inl, inr}
use Rattle.std.proofs.lemmas.Bool.{cases_Bool}
use Rattle.std.proofs.lemmas.Bool.Decides.{Decides-eqb}
use Rattle.std.proofs.lemmas.List.{append-nil}
use Rattle.std.proofs.lemmas.Slice.Eq.{starts_is}
use Rattle.scr_pcap.specs.declared.error.CaptureError.TheVariants as capture
use Rattle.scr_pcap.specs.declared.format.Format.{Format}
use Rattle.scr_pcap.specs.Header.{HEADER_SIZE, format_of, header_of}
use Rattle.scr_pcap.specs.Reading as classic
use Rattle.scr_pcap.specs.Records.{Record}
use Rattle.scr_pcapng.specs.declared.any.AnyReader.{AnyReader}
use Rattle.scr_pcapng.specs.declared.any.AnyReader.TheVariants as reader
use Rattle.scr_pcapng.specs.declared.error.AnyError.{AnyError}
use Rattle.scr_pcapng.specs.declared.error.AnyError.TheVariants.{Classic, Ng, ReadFault, OutOfMemory}
use Rattle.scr_pcapng.specs.Either.{IsBeginFault, IsCauseIn, IsClassicCause}
use Rattle.scr_pcapng.specs.Reading.{IsBlockReading, IsClassicReading, IsReading, SECTION, is_in_blocks}
use Rattle.scr_pcapng.specs.State.{IsBlockCause, IsCauseOf, ReadsOn, Rest, put_before}

put_before-push : (records : List Record) (r : Record) (reading : Result (List Record) AnyError)
    → put_before records (put_before (r ∷ []) reading) ≡ put_before (records ++ r ∷ []) reading
put_before-push records r (Ok others) = ap (λ (rs : List Record). Ok rs) (sym (append_assoc records (r ∷ []) others))
put_before-push records r (Err fault) = refl

-- one record more behind others
pub ReadsOn-push : (a b c : Rest) (records : List Record) (r : Record) → ReadsOn a b records → ReadsOn b c (r ∷ []) → ReadsOn a c (records ++ r ∷ [])
ReadsOn-push a b c records r first second = λ reading rest. subst a (put_before-push records r reading) (first (put_before (r ∷ []) reading) (second reading rest))

-- at the end
pub ReadsOn-end : (a b : Rest) (records : List Record) → ReadsOn a b records → b (Ok []) → a (Ok records)
ReadsOn-end a b records reads end = subst (λ (rs : List Record). a (Ok rs)) (append-nil records) (reads (Ok []) end)

-- at a cause
pub ReadsOn-fault : (a b : Rest) (records : List Record) (fault : AnyError) → ReadsOn a b records → b (Err fault) → a (Err fault)
ReadsOn-fault a b records fault reads cause = reads (Err fault) cause

-- the same, where an error may be no cause
pub IsCauseOf-fault : (a b : Rest) (records : List Record) (fault : AnyError) → ReadsOn a b records → IsCauseOf b fault → IsCauseOf a fault
IsCauseOf-fault a b records (Classic fault) reads cause = ReadsOn-fault a b records (Classic fault) reads cause
IsCauseOf-fault a b records (Ng fault) reads cause = ReadsOn-fault a b records (Ng fault) reads cause
IsCauseOf-fault a b records ReadFault reads cause = tt
IsCauseOf-fault a b records (OutOfMemory want) reads cause = tt

-- no failure of the source is called a cause of the libpcap file format
pub begin-named : (fault : AnyError) → IsBeginFault fault → fault ≢ Classic capture.ReadFault
begin-named fault named = λ is. subst IsBeginFault is named

pub next-named : (reader : AnyReader) (fault : AnyError) → IsCauseIn reader fault → fault ≢ Classic capture.ReadFault
next-named (reader.Classic classic) fault named = λ is. subst IsClassicCause is named
next-named (reader.Blocks blocks) fault named = λ is. subst IsBlockCause is named

-- records of the libpcap file format are those of either
no_section : (behind : List ℕ) (format : Format) → header_of (SECTION ++ behind) ≡ Ok format → ⊥
unfolding header_of format_of
no_section behind format valid =
    elim (cases_Bool (nat_lt (length (SECTION ++ behind)) HEADER_SIZE)) [
      | inl short ↦ let told : Err capture.ShortHeader ≡ Ok format = sym (rw short refl) ∙ valid in cc
      | inr long ↦ let told : Err capture.Magic ≡ Ok format = sym (rw long refl) ∙ valid in cc
    ]

in_format : (format : Bool) (bytes : List ℕ) (records : List Record) → is_in_blocks bytes ≡ format → classic.IsReading bytes (Ok records)
    → MatchBool format (IsBlockReading bytes (Ok records)) (IsClassicReading bytes (Ok records))
in_format true bytes records is read =
    let parts = (starts_is Decides-eqb bytes SECTION (is_in_blocks bytes) refl).0 is in
    absurd (no_section (drop 4 bytes) read.format (subst (λ (xs : List ℕ). header_of xs ≡ Ok read.format) parts read.header))
in_format false bytes records is read = read

pub IsReading-classic : (bytes : List ℕ) (records : List Record) → classic.IsReading bytes (Ok records) → IsReading bytes (Ok records)
IsReading-classic bytes records read = in_format (is_in_blocks bytes) bytes records refl read
