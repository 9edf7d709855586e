-- An end read of a source: its header, and nothing behind it.
use Rattle.std.proofs.Common.{◌≡◌, ℕ, ◌+◌, ◌<◌, ◌≤◌, true, List, [], ◌∷◌, ◌++◌, length, drop, Option, Some, None, IfSome, refl, sym, ap, ◌∙◌, arith}
use Rattle.std.proofs.lemmas.Bool.{eqb-true}
use Rattle.std.proofs.lemmas.List.{length-append, append-nil}
use Rattle.std.specs.Io.KnownBytes.{Consumes, IsAtEnd}
use Rattle.scr_plan.specs.Limits.{most_packets}
use Rattle.scr_wire.specs.declared.message.Message.TheVariants as message
use Rattle.scr_wire.specs.declared.message.MessageKind.{MessageKind}
use Rattle.scr_wire.specs.declared.message.MessageKind.TheVariants.{End}
use Rattle.scr_wire.specs.Kinds.{allows}
use Rattle.scr_wire.specs.Reading.{number_in, count_in, rows_in, message_of}
use Rattle.scr_wire.specs.Refusals.{refusal}
use Rattle.scr_wire.specs.Spelling.{spelling}
use Rattle.scr_wire.proofs.MessagesRead.{spells_itself}
use Rattle.scr_wire.proofs.WordsRead.{IsBytes}
use Rattle.scr_stream.specs.Frames.{StreamFrame, last_number}
use Rattle.scr_stream.specs.Tests.{kind_in, header_refusal, field_fault, header_fault, entry_fault}
use Rattle.scr_stream.specs.Taken.{IsFound}
use Rattle.scr_stream.specs.declared.error.StreamError.{StreamError}
use Rattle.scr_stream.specs.declared.error.StreamError.TheVariants as fault
use Rattle.scr_stream.proofs.EntryTests.{header-parts, header-count, refusal-whole, end-followed}
use Rattle.scr_stream.proofs.FrameTaken.{end-fields}

-- a byte stands there
pub byte-told : (old new : Option (List ℕ)) (first : List ℕ) → Consumes old new first → 0 < length first
    → IfSome old (λ bytes. IsFound fault.Trailing → (fault.Trailing ≡ fault.Trailing) × (0 < length bytes))
byte-told None new first taken some = tt
byte-told (Some bytes) None first taken some = absurd taken
byte-told (Some bytes) (Some left) first taken some = λ found.
    let count = ap length taken ∙ length-append first left in (refl, omega arith)

module _ (history entry last : ℕ) (header : List ℕ) (ten : length header ≡ 10) (passed : header_fault history entry last header ≡ None) (kind-is : kind_in header ≡ End) where
  -- its number may stand there
  pub end-placed : (number_in header ≤ most_packets) × (last ≤ number_in header)
  end-placed =
      let parts = header-parts history entry last header ten passed in
      end-fields history entry last (number_in header) (count_in header)
      (ap (λ (k : MessageKind). field_fault history entry last k (number_in header) (count_in header)) (sym kind-is) ∙ parts.1)

-- the bytes of such a header are an end
pub end-spelled : (header : List ℕ) → length header ≡ 10 → header_refusal (refusal header) ≡ None → kind_in header ≡ End → IsBytes header
    → header ≡ spelling (message.End (number_in header))
end-spelled header ten starts kind-is fits =
    let allowed : allows End (number_in header) (count_in header) ≡ true =
    ap (λ (k : MessageKind). allows k (number_in header) (count_in header)) (sym kind-is) ∙ header-count header starts in
    let none : count_in header ≡ 0 = eqb-true (count_in header) 0 allowed in
    let whole : refusal header ≡ None = ap refusal (sym (append-nil header)) ∙ refusal-whole header [] ten starts (omega arith) in
    (spells_itself header fits whole).spelled
    ∙ ap (λ (k : MessageKind). spelling (message_of k (number_in header) (rows_in (count_in header) (drop 10 header)))) kind-is

-- with nothing behind it, all was taken
pub end-taken : (old mid new : Option (List ℕ)) (header front : List ℕ) → Consumes old mid header → Consumes mid new front → IsAtEnd mid → Consumes old new header
end-taken None mid new header front first second none = tt
end-taken (Some bytes) None new header front first second none = absurd first
end-taken (Some bytes) (Some behind) None header front first second none = absurd second
end-taken (Some bytes) (Some behind) (Some left) header [] first second none = first ∙ ap (λ (t : List ℕ). header ++ t) second
end-taken (Some bytes) (Some behind) (Some left) header (byte ∷ front) first second none = let both : [] ≡ byte ∷ (front ++ left) = sym none ∙ second in absurd cc

-- a byte stands behind it
pub end-refused : (history : ℕ) (frames : List StreamFrame) (old mid : Option (List ℕ)) (header : List ℕ) (error : StreamError) → length header ≡ 10
    → header_fault history (length frames + 1) (last_number frames) header ≡ None → kind_in header ≡ End → Consumes old mid header
    → IfSome mid (λ bytes. IsFound error → (error ≡ fault.Trailing) × (0 < length bytes))
    → IfSome old (λ bytes. IsFound error → entry_fault history frames bytes ≡ Some error)
end-refused history frames None mid header error ten passed kind-is taken told = tt
end-refused history frames (Some bytes) None header error ten passed kind-is taken told = absurd taken
end-refused history frames (Some bytes) (Some behind) header error ten passed kind-is taken told = λ found.
    ap (entry_fault history frames) taken
    ∙ end-followed history frames header behind ten passed kind-is (told found).1
    ∙ ap (λ (e : StreamError). Some e) (sym (told found).0)
