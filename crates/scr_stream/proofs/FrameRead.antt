-- A frame read of a source, behind its header.
use Rattle.std.proofs.Common.{◌≡◌, ℕ, ◌+◌, ◌*◌, ◌<◌, ◌≤◌, true, false, List, [], ◌∷◌, ◌++◌, length, take, Option, Some, None, Result, Ok, Err, IfSome, IfErr, OnOk, sym, ap, subst, ◌∙◌, append_assoc, arith}
use Rattle.std.proofs.lemmas.List.{length-append, length-take, length-take-le, take_at, take_all, append-nil}
use Rattle.std.specs.Io.KnownBytes.{Consumes, IsAtEnd, prepend_known}
use Rattle.scr_base.specs.declared.row.Row.{Row}
use Rattle.scr_pcap.proofs.Taking.{Consumes-ahead}
use Rattle.scr_wire.specs.declared.message.Message.{Message}
use Rattle.scr_plan.specs.Limits.{most_packets}
use Rattle.scr_wire.specs.Reading.{count_in}
use Rattle.scr_wire.specs.Refusals.{refusal}
use Rattle.scr_wire.specs.Spelling.{Spells, number_of, rows_of}
use Rattle.scr_wire.specs.declared.error.WireError.{WireError}
use Rattle.scr_stream.specs.Frames.{StreamFrame, frame_of, last_number}
use Rattle.scr_stream.specs.Tests.{frame_in, rows_due, header_fault, entry_fault, differs}
use Rattle.scr_stream.specs.Taken.{StandsFor, IsFound, IsFilledBehind, IsFrameHeader, TakesFrame}
use Rattle.scr_stream.specs.Reading.{Follows}
use Rattle.scr_stream.specs.declared.error.StreamError.{StreamError}
use Rattle.scr_stream.specs.declared.error.StreamError.TheVariants as fault
use Rattle.scr_stream.proofs.EntryTests.{count_in-append, frame_in-append, frame-cut, frame-differs, refusal-whole}
use Rattle.scr_stream.proofs.FrameTaken.{frame-spelled, frame-follows, frame-in, frame-due, frame-counts}

-- the bytes ended within its rows
pub cut-told : (last : ℕ) (header all : List ℕ) (old new : Option (List ℕ)) → IsFrameHeader last header → IsFilledBehind header old new all
    → length all < 10 + 56 * count_in header → IsAtEnd new
    → IfSome old (λ behind. (history : ℕ) (frames : List StreamFrame) → header_fault history (length frames + 1) (last_number frames) header ≡ None
    → entry_fault history frames (header ++ behind) ≡ Some (fault.Cut (length frames + 1)))
cut-told last header all None new is filled short end = tt
cut-told last header all (Some behind) None is filled short end = absurd filled.taken
cut-told last header all (Some behind) (Some left) is filled short end = λ history frames passed.
    let count = ap length filled.parts ∙ length-append header filled.content in
    let ten = is.whole in
    let alone : behind ≡ filled.content = filled.taken ∙ ap (λ (t : List ℕ). filled.content ++ t) end ∙ append-nil filled.content in
    let few = ap length alone in
    frame-cut history frames header behind is.whole passed is.kind (omega arith)

-- it differs from an earlier frame
pub differs-told : (last : ℕ) (header all : List ℕ) (old new : Option (List ℕ)) (it : Message) → IsFrameHeader last header → IsFilledBehind header old new all
    → length all ≡ 10 + 56 * count_in header → Spells it all
    → IfSome old (λ behind. (history : ℕ) (frames : List StreamFrame) → header_fault history (length frames + 1) (last_number frames) header ≡ None
    → differs frames (frame_of it) ≡ true → entry_fault history frames (header ++ behind) ≡ Some (fault.Differs (length frames + 1)))
differs-told last header all None new it is filled whole spells = tt
differs-told last header all (Some behind) None it is filled whole spells = absurd filled.taken
differs-told last header all (Some behind) (Some left) it is filled whole spells = λ history frames passed differ.
    let ten = is.whole in
    let content = filled.content in
    let count = ap length filled.parts ∙ length-append header content in
    let more = ap length filled.taken ∙ length-append content left in
    let size = count_in-append header content (omega arith) in
    let joined : header ++ behind ≡ (header ++ content) ++ left = ap (λ (t : List ℕ). header ++ t) filled.taken ∙ sym (append_assoc header content left) in
    let both = length-append header content in
    let the_frame : frame_in (header ++ behind) ≡ frame_of it =
    ap frame_in joined ∙ frame_in-append (header ++ content) left (omega arith)
    ∙ frame-in header content it is.whole is.kind (subst (Spells it) filled.parts spells) in
    frame-differs history frames header behind (frame_of it) is.whole passed is.kind (omega arith) the_frame differ

-- it was kept
pub frame-told : (last : ℕ) (header all : List ℕ) (old new : Option (List ℕ)) (it : Message) → IsFrameHeader last header → IsFilledBehind header old new all
    → Spells it all → (history : ℕ) (frames : List StreamFrame) (rows : List Row) (missing : List ℕ) (count : ℕ)
    → header_fault history (length frames + 1) (last_number frames) header ≡ None → differs frames (frame_of it) ≡ false
    → StandsFor history (frames ++ frame_of it ∷ []) rows missing count → TakesFrame history frames (prepend_known header old) new rows missing count
frame-told last header all old new it is filled spells history frames rows missing count passed agrees stands =
    let content = filled.content in
    let there = subst (Spells it) filled.parts spells in
    record {
      it = frame_of it;
      follows = frame-follows header content it is.whole is.kind there history frames passed agrees;
      taken = subst (Consumes (prepend_known header old) new) (frame-spelled header content it is.whole is.kind there) (Consumes-ahead header content old new filled.taken);
      stands = stands;
    }

-- ---- the same, as it is read into a buffer

-- all that was asked for is there, and is what is read again
pub read-whole : (size count : ℕ) (room filled rest : List ℕ) → size ≤ length room → length filled ≡ length (take size room) → count ≤ length (take size room)
    → size ≤ count → (take size (filled ++ rest) ≡ take count filled) × (length (take count filled) ≡ size)
read-whole size count room filled rest within whole most least =
    let all = length-take-le size room within in
    let same : count ≡ size = omega arith in (
      take_at filled rest size (omega arith) ∙ sym (take_all count filled (omega arith)),
      length-take-le count filled (omega arith) ∙ same,
    )

pub read-short : (size count : ℕ) (room filled : List ℕ) → size ≤ length room → count < size
    → (length (take count filled) < size) × (count < length (take size room))
read-short size count room filled within short =
    let all = length-take-le size room within in
    let few = length-take count filled in
    (omega arith, omega arith)

-- what the frame tells by its header
pub frame-numbers : (last : ℕ) (header all : List ℕ) (old new : Option (List ℕ)) (it : Message) → IsFrameHeader last header → IsFilledBehind header old new all
    → Spells it all → (last < number_of it) × (number_of it ≤ most_packets)
frame-numbers last header all old new it is filled spells =
    let told = frame-counts header filled.content it is.whole is.kind (subst (Spells it) filled.parts spells) in
    let number = told.0 in
    let later = is.later in
    let few = is.few in
    (omega arith, omega arith)

-- the bytes ended within its rows
pub cut-refused : (last count : ℕ) (rows : List Row) (missing : List ℕ) (header all : List ℕ) (old new : Option (List ℕ)) → IsFrameHeader last header
    → IsFilledBehind header old new all → length all < 10 + 56 * count_in header → IsAtEnd new
    → IfSome old (λ behind. IsFound (fault.Cut (count + 1)) → (history : ℕ) (frames : List StreamFrame) → StandsFor history frames rows missing count
    → header_fault history (length frames + 1) (last_number frames) header ≡ None
    → entry_fault history frames (header ++ behind) ≡ Some (fault.Cut (count + 1)))
cut-refused last count rows missing header all None new is filled short end = tt
cut-refused last count rows missing header all (Some behind) new is filled short end = λ found history frames stands passed.
    cut-told last header all (Some behind) new is filled short end history frames passed
    ∙ ap (λ (n : ℕ). Some (fault.Cut (n + 1))) (sym stands.count_is)

-- it can't fail any other test
pub frame-reads : (last : ℕ) (header all : List ℕ) (old new : Option (List ℕ)) (cause : WireError) → IsFrameHeader last header → IsFilledBehind header old new all
    → length all ≡ 10 + 56 * count_in header → refusal all ≡ Some cause → ⊥
frame-reads last header all old new cause is filled whole refused =
    let ten = is.whole in
    let count = ap length filled.parts ∙ length-append header filled.content in
    let none = refusal-whole header filled.content is.whole is.starts (omega arith) in
    let both : Some cause ≡ None = sym refused ∙ ap refusal filled.parts ∙ none in
    absurd cc

-- what adding the frame answers
pub added-told : {T : Type 0} (result : Result T StreamError) (last : ℕ) (header all : List ℕ) (old new : Option (List ℕ)) (it : Message)
    (rows new_rows : List Row) (missing new_missing : List ℕ) (count new_count : ℕ) → IsFrameHeader last header → IsFilledBehind header old new all → Spells it all
    → OnOk result ((history : ℕ) (frames : List StreamFrame) → StandsFor history frames rows missing count
    → length (rows_of it) ≡ rows_due history (number_of it)
    → (differs frames (frame_of it) ≡ false) × ((Follows history frames (frame_of it)) → StandsFor history (frames ++ frame_of it ∷ []) new_rows new_missing new_count))
    → OnOk result ((history : ℕ) (frames : List StreamFrame) → StandsFor history frames rows missing count
    → header_fault history (length frames + 1) (last_number frames) header ≡ None
    → TakesFrame history frames (prepend_known header old) new new_rows new_missing new_count)
added-told (Err error) last header all old new it rows new_rows missing new_missing count new_count is filled spells added = tt
added-told (Ok x) last header all old new it rows new_rows missing new_missing count new_count is filled spells added = λ history frames stands passed.
    let there = subst (Spells it) filled.parts spells in
    let both = added history frames stands (frame-due header filled.content it is.whole is.kind there history frames passed) in
    let follows = frame-follows header filled.content it is.whole is.kind there history frames passed both.0 in
    frame-told last header all old new it is filled spells history frames new_rows new_missing new_count passed both.0 (both.1 follows)

pub added-refused : {T : Type 0} (result : Result T StreamError) (last : ℕ) (header all : List ℕ) (old new : Option (List ℕ)) (it : Message)
    (rows : List Row) (missing : List ℕ) (count : ℕ) → IsFrameHeader last header → IsFilledBehind header old new all → length all ≡ 10 + 56 * count_in header → Spells it all
    → IfErr result (λ error. IsFound error → (error ≡ fault.Differs (count + 1))
    × ((history : ℕ) (frames : List StreamFrame) → StandsFor history frames rows missing count
    → length (rows_of it) ≡ rows_due history (number_of it) → differs frames (frame_of it) ≡ true))
    → IfSome old (λ behind. IfErr result (λ error. IsFound error → (history : ℕ) (frames : List StreamFrame)
    → StandsFor history frames rows missing count → header_fault history (length frames + 1) (last_number frames) header ≡ None
    → entry_fault history frames (header ++ behind) ≡ Some error))
added-refused result last header all None new it rows missing count is filled whole spells refused = tt
added-refused (Ok x) last header all (Some behind) new it rows missing count is filled whole spells refused = tt
added-refused (Err error) last header all (Some behind) new it rows missing count is filled whole spells refused = λ found history frames stands passed.
    let there = subst (Spells it) filled.parts spells in
    let both = refused found in
    let differ = both.1 history frames stands (frame-due header filled.content it is.whole is.kind there history frames passed) in
    differs-told last header all (Some behind) new it is filled whole spells history frames passed differ
    ∙ ap (λ (n : ℕ). Some (fault.Differs (n + 1))) (sym stands.count_is)
    ∙ ap (λ (e : StreamError). Some e) (sym both.0)
