-- Bytes that are bytes have some reading.
use Rattle.std.proofs.Common.{◌≡◌, ◌⊎◌, ℕ, zero, suc, ◌+◌, ◌*◌, ◌<◌, ◌≤◌, List, [], ◌∷◌, ◌++◌, length, take, drop, All, Option, Some, None, Result, Ok, Err, refl, sym, ap, subst, ◌∙◌, append_assoc, inl, inr, arith}
use Rattle.std.proofs.lemmas.Bool.{cases_lt, cases_Bool}
use Rattle.std.proofs.lemmas.List.{length-append, length-take-le, take-append-drop, take_at, append-nil, get_or_past}
use Rattle.scr_plan.specs.Limits.{most_packets}
use Rattle.scr_plan.specs.Plan.{Plan}
use Rattle.scr_wire.specs.declared.message.Message.{Message}
use Rattle.scr_wire.specs.declared.message.Message.TheVariants as message
use Rattle.scr_wire.specs.declared.message.MessageKind.{MessageKind}
use Rattle.scr_wire.specs.declared.message.MessageKind.TheVariants.{Frame, Beacon, End}
use Rattle.scr_wire.specs.Reading.{number_in, count_in, message_in}
use Rattle.scr_wire.specs.Spelling.{Spells, spelling}
use Rattle.scr_wire.proofs.MessagesRead.{spells_itself}
use Rattle.scr_wire.proofs.WordsRead.{IsBytes, IsBytes-drop, IsBytes-take}
use Rattle.scr_stream.specs.Frames.{StreamFrame, frame_of, frame_bytes, last_number}
use Rattle.scr_stream.specs.Tests.{shape_of, kind_in, length_in, frame_in, header_fault, differs, either_fault, entry_fault}
use Rattle.scr_stream.specs.Reading.{Follows, BeginWith, plan_from, IsReading}
use Rattle.scr_stream.specs.declared.error.StreamError.{StreamError}
use Rattle.scr_stream.specs.declared.header.Shape.{Shape}
use Rattle.scr_stream.proofs.EntryTests.{count_in-append, frame_in-append, header-refused, header-parts, frame-cut, frame-differs, end-followed, refusal-whole}
use Rattle.scr_stream.proofs.FramesInFront.{BeginWith-more}
use Rattle.scr_stream.proofs.FrameTaken.{frame-spelled, frame-follows, frame-in}
use Rattle.scr_stream.proofs.EndRead.{end-placed, end-spelled}
use Rattle.scr_stream.proofs.EntryRead.{header-whole, kind-end}
use Rattle.scr_stream.proofs.EntryStands.{frame-length, frame-behind}

-- past their end stands 0, which is a byte too
IsBytes-from_all : (bytes : List ℕ) → All (λ b. b < 256) bytes → IsBytes bytes
IsBytes-from_all bytes fits i =
    elim (cases_lt i (length bytes)) [
      | inl within ↦ fits i 0 within
      | inr past ↦ rw (get_or_past bytes i 0 past) (omega arith)
    ]

-- a frame in front, which may stand behind these
record FrameInFront (history : ℕ) (frames : List StreamFrame) (rest : List ℕ) : Type 0 where
  pub it : StreamFrame
  pub behind : List ℕ
  pub parts : rest ≡ frame_bytes it ++ behind
  pub follows : Follows history frames it

-- an end, which may stand behind these, and nothing more
record EndAlone (frames : List StreamFrame) (rest : List ℕ) : Type 0 where
  pub last : ℕ
  pub within : last_number frames ≤ last
  pub few : last ≤ most_packets
  pub spelled : rest ≡ spelling (message.End last)

-- no test fails of an entry
module _ (history : ℕ) (frames : List StreamFrame) (header behind : List ℕ) (ten : length header ≡ 10) (fits : IsBytes (header ++ behind))
    (passes : entry_fault history frames (header ++ behind) ≡ None) where
  refused : {A : Type 0} (error : StreamError) → entry_fault history frames (header ++ behind) ≡ Some error → A
  refused error fails = let both : Some error ≡ None = sym fails ∙ passes in absurd cc

  passed : header_fault history (length frames + 1) (last_number frames) header ≡ None
  passed = by (header_fault history (length frames + 1) (last_number frames) header) refl
    where
      by : (o : Option StreamError) → header_fault history (length frames + 1) (last_number frames) header ≡ o
          → header_fault history (length frames + 1) (last_number frames) header ≡ None
      by None is = is
      by (Some error) is = refused error (header-refused history frames header behind error (omega arith) (λ short. absurd (omega arith)) is)

  fits-front : (front rest : List ℕ) → header ++ behind ≡ front ++ rest → IsBytes front
  fits-front front rest parts =
      subst IsBytes (take_at front rest (length front) refl) (IsBytes-take (length front) (front ++ rest) (subst IsBytes parts fits))

  end-alone : kind_in header ≡ End → EndAlone frames (header ++ behind)
  end-alone kind-is = by behind refl
    where
      by : (left : List ℕ) → behind ≡ left → EndAlone frames (header ++ behind)
      by (b ∷ left) is = refused _ (end-followed history frames header behind ten passed kind-is (omega (arith, ap length is)))
      by [] is =
          let alone : header ++ behind ≡ header = ap (λ (t : List ℕ). header ++ t) is ∙ append-nil header in
          let placed = end-placed history (length frames + 1) (last_number frames) header ten passed kind-is in
          let starts = (header-parts history (length frames + 1) (last_number frames) header ten passed).0 in
          record {
            last = number_in header;
            within = placed.1;
            few = placed.0;
            spelled = alone ∙ end-spelled header ten starts kind-is (subst IsBytes alone fits);
          }

  frame-front : kind_in header ≡ Frame → FrameInFront history frames (header ++ behind)
  frame-front kind-is =
      elim (cases_lt (length behind) (56 * count_in header)) [
        | inl cut ↦ refused _ (frame-cut history frames header behind ten passed kind-is cut)
        | inr enough ↦
            let content = take (56 * count_in header) behind in
            let left = drop (56 * count_in header) behind in
            let all : length content ≡ 56 * count_in header = length-take-le (56 * count_in header) behind enough in
            let joined : header ++ behind ≡ (header ++ content) ++ left =
            ap (λ (t : List ℕ). header ++ t) (sym (take-append-drop (56 * count_in header) behind)) ∙ sym (append_assoc header content left) in
            let starts = (header-parts history (length frames + 1) (last_number frames) header ten passed).0 in
            let it : Message = message_in (header ++ content) in
            let spells : Spells it (header ++ content) =
            spells_itself (header ++ content) (fits-front (header ++ content) left joined) (refusal-whole header content ten starts all) in
            let count = count_in-append header content (omega arith) in
            let both = length-append header content in
            let the_frame : frame_in (header ++ behind) ≡ frame_of it =
            ap frame_in joined ∙ frame_in-append (header ++ content) left (omega arith) ∙ frame-in header content it ten kind-is spells in
            elim (cases_Bool (differs frames (frame_of it))) [
              | inl differ ↦ refused _ (frame-differs history frames header behind (frame_of it) ten passed kind-is enough the_frame differ)
              | inr agrees ↦ record {
                it = frame_of it;
                behind = left;
                parts = joined ∙ ap (λ (t : List ℕ). t ++ left) (frame-spelled header content it ten kind-is spells);
                follows = frame-follows header content it ten kind-is spells history frames passed agrees;
              }
            ]
      ]

  frame-or_end : FrameInFront history frames (header ++ behind) ⊎ EndAlone frames (header ++ behind)
  frame-or_end = by (kind_in header) refl
    where
      by : (k : MessageKind) → kind_in header ≡ k → FrameInFront history frames (header ++ behind) ⊎ EndAlone frames (header ++ behind)
      by Frame is = inl (frame-front is)
      by Beacon is =
          let not_it : Beacon ≡ End = sym is ∙ kind-end history (length frames + 1) (last_number frames) header ten passed (λ frame. absurd cc) in
          absurd cc
      by End is = inr (end-alone is)

no-fault : (first second : Option StreamError) → either_fault first second ≡ None → first ≡ None
no-fault None second none = refl
no-fault (Some error) second none = absurd cc

entry-whole : (history : ℕ) (frames : List StreamFrame) (rest : List ℕ) → entry_fault history frames rest ≡ None → 10 ≤ length rest
unfolding entry_fault
entry-whole history frames rest passes = header-whole history (length frames + 1) (last_number frames) rest (no-fault _ _ passes)

-- a rest that passes the tests of its first entry
first-entry : (history : ℕ) (frames : List StreamFrame) (rest : List ℕ) → IsBytes rest → entry_fault history frames rest ≡ None
    → FrameInFront history frames rest ⊎ EndAlone frames rest
first-entry history frames rest fits passes =
    let parts : take 10 rest ++ drop 10 rest ≡ rest = take-append-drop 10 rest in
    let whole : length (take 10 rest) ≡ 10 = length-take-le 10 rest (entry-whole history frames rest passes) in
    subst (λ (bytes : List ℕ). FrameInFront history frames bytes ⊎ EndAlone frames bytes) parts
    (frame-or_end history frames (take 10 rest) (drop 10 rest) whole (subst IsBytes (sym parts) fits) (ap (entry_fault history frames) parts ∙ passes))

abbrev SomeReading : (program : ℕ) → List ℕ → Type 0
SomeReading program bytes = (reading : Result Plan StreamError) × IsReading program bytes reading

module _ (program : ℕ) (bytes : List ℕ) (shape : Shape) (header : shape_of program bytes ≡ Ok shape) where
  abbrev Continues : ℕ → Type 0
  Continues most = (frames : List StreamFrame) (rest : List ℕ) → length rest < most → IsBytes rest → BeginWith shape.history [] frames (drop 8 bytes) rest
      → SomeReading program bytes

  -- each frame has bytes, so some entry is the last
  behind-frames : (most : ℕ) → Continues most
  behind-frames zero frames rest few fits begin = absurd (omega arith)
  behind-frames (suc most) frames rest few fits begin = by (behind-frames most) (entry_fault shape.history frames rest) refl
    where
      by : Continues most → (fails : Option StreamError) → entry_fault shape.history frames rest ≡ fails → SomeReading program bytes
      by more (Some error) fails = (
        Err error,
        inr (record { shape = shape; header = header; frames = frames; rest = rest; spelled = begin; first_test = fails }),
      )
      by more None passes =
          elim (first-entry shape.history frames rest fits passes) [
            | inl front ↦
                let spelled = front.follows.has_spelling in
                let size = frame-length front.it front.behind spelled in
                let all = ap length front.parts ∙ length-append (frame_bytes front.it) front.behind in
                let left : drop (length_in rest) rest ≡ front.behind =
                ap (λ (b : List ℕ). drop (length_in b) b) front.parts ∙ sym (frame-behind front.it front.behind spelled) in
                more (frames ++ front.it ∷ []) front.behind (omega arith) (subst IsBytes left (IsBytes-drop (length_in rest) rest fits))
                (BeginWith-more shape.history [] frames front.it (drop 8 bytes) rest front.behind begin front.parts front.follows)
            | inr end ↦ (
              Ok (plan_from shape frames end.last),
              record {
                shape = shape;
                header = header;
                frames = frames;
                last = end.last;
                within = end.within;
                few = end.few;
                spelled = subst (BeginWith shape.history [] frames (drop 8 bytes)) end.spelled begin;
                told = refl;
              },
            )
          ]

from-header : (program : ℕ) (bytes : List ℕ) (header : Result Shape StreamError) → IsBytes bytes → shape_of program bytes ≡ header → SomeReading program bytes
from-header program bytes (Err error) fits refused = (Err error, inl refused)
from-header program bytes (Ok shape) fits valid =
    behind-frames program bytes shape valid (length (drop 8 bytes) + 1) [] (drop 8 bytes) (omega arith) (IsBytes-drop 8 bytes fits) refl

pub some-reading : (program : ℕ) (bytes : List ℕ) → All (λ b. b < 256) bytes → SomeReading program bytes
some-reading program bytes fits = from-header program bytes (shape_of program bytes) (IsBytes-from_all bytes fits) refl
