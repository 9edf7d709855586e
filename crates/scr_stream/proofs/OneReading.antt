-- A list of bytes has one reading.
use Rattle.std.proofs.Common.{◌≡◌, ℕ, ◌≤◌, List, [], ◌∷◌, ◌++◌, drop, Some, None, Result, Ok, Err, refl, sym, ap, subst, ◌∙◌, append_assoc, inl, inr}
use Rattle.std.proofs.lemmas.List.{append-nil}
use Rattle.scr_plan.specs.Limits.{most_packets}
use Rattle.scr_plan.specs.Plan.{Plan}
use Rattle.scr_wire.specs.declared.message.Message.TheVariants as message
use Rattle.scr_wire.specs.declared.message.MessageKind.TheVariants.{Frame, End}
use Rattle.scr_wire.specs.Reading.{number_in}
use Rattle.scr_wire.specs.Spelling.{spelling}
use Rattle.scr_stream.specs.Frames.{StreamFrame, frame_bytes}
use Rattle.scr_stream.specs.Tests.{shape_of, kind_in, length_in, frame_in, entry_fault}
use Rattle.scr_stream.specs.Reading.{Follows, BeginWith, plan_from, IsStream, IsCutShort, IsReading}
use Rattle.scr_stream.specs.declared.error.StreamError.{StreamError}
use Rattle.scr_stream.specs.declared.header.Shape.{Shape}
use Rattle.scr_stream.proofs.EntryStands.{frame-kind, frame-behind, frame-itself, frame-passes, end-kind, end-number, end-passes}

-- the bytes tell the frame in front and what stands behind it
same-first : (bytes : List ℕ) (history : ℕ) (frames : List StreamFrame) (it other : StreamFrame) (behind behind' : List ℕ)
    → bytes ≡ frame_bytes it ++ behind → Follows history frames it → bytes ≡ frame_bytes other ++ behind' → Follows history frames other
    → (it ≡ other) × (behind ≡ behind')
same-first bytes history frames it other behind behind' parts follows parts' follows' = (
  sym (frame-itself it behind follows.has_spelling) ∙ ap frame_in (sym parts ∙ parts') ∙ frame-itself other behind' follows'.has_spelling,
  frame-behind it behind follows.has_spelling ∙ ap (λ (b : List ℕ). drop (length_in b) b) (sym parts ∙ parts') ∙ sym (frame-behind other behind' follows'.has_spelling),
)

-- no further frame stands in front of this rest
abbrev Stops : (history : ℕ) → List StreamFrame → (rest : List ℕ) → Type 0
Stops history frames rest = (it : StreamFrame) (behind : List ℕ) → rest ≡ frame_bytes it ++ behind → Follows history frames it → ⊥

-- the frames up to where they stop are the same
same-frames : (history : ℕ) (earlier frames frames' : List StreamFrame) (bytes rest rest' : List ℕ)
    → BeginWith history earlier frames bytes rest → Stops history (earlier ++ frames) rest
    → BeginWith history earlier frames' bytes rest' → Stops history (earlier ++ frames') rest'
    → (frames ≡ frames') × (rest ≡ rest')
same-frames history earlier [] [] bytes rest rest' begins stops begins' stops' = (refl, sym begins ∙ begins')
same-frames history earlier [] (it ∷ frames') bytes rest rest' begins stops (behind, parts, follows, begins') stops' =
    absurd (stops it behind (sym begins ∙ parts) (subst (λ (all : List StreamFrame). Follows history all it) (sym (append-nil earlier)) follows))
same-frames history earlier (it ∷ frames) [] bytes rest rest' (behind, parts, follows, begins) stops begins' stops' =
    absurd (stops' it behind (sym begins' ∙ parts) (subst (λ (all : List StreamFrame). Follows history all it) (sym (append-nil earlier)) follows))
same-frames history earlier (it ∷ frames) (other ∷ frames') bytes rest rest' (behind, parts, follows, begins) stops (behind', parts', follows', begins') stops' =
    let same = same-first bytes history earlier it other behind behind' parts follows parts' follows' in
    let moved = λ (x : StreamFrame) (xs : List StreamFrame) (r : List ℕ) (s : Stops history (earlier ++ x ∷ xs) r).
    subst (λ (all : List StreamFrame). Stops history all r) (sym (append_assoc earlier (x ∷ []) xs)) s in
    let begins'' : BeginWith history (earlier ++ it ∷ []) frames' behind rest' =
    subst (λ (b : List ℕ). BeginWith history (earlier ++ it ∷ []) frames' b rest') (sym same.1)
    (subst (λ (x : StreamFrame). BeginWith history (earlier ++ x ∷ []) frames' behind' rest') (sym same.0) begins') in
    let stops'' : Stops history (earlier ++ it ∷ frames') rest' = subst (λ (x : StreamFrame). Stops history (earlier ++ x ∷ frames') rest') (sym same.0) stops' in
    let tails = same-frames history (earlier ++ it ∷ []) frames frames' behind rest rest' begins (moved it frames rest stops) begins'' (moved it frames' rest' stops'') in
    (ap (λ (head : StreamFrame). head ∷ frames) same.0 ∙ ap (λ (tail : List StreamFrame). other ∷ tail) tails.0, tails.1)

-- behind frames stands the end, or a fault
stops-at_end : (history : ℕ) (frames : List StreamFrame) (last : ℕ) → last ≤ most_packets → Stops history frames (spelling (message.End last))
stops-at_end history frames last few it behind parts follows =
    let kinds : Frame ≡ End = sym (frame-kind it behind follows.has_spelling) ∙ ap kind_in (sym parts) ∙ end-kind last few in
    absurd cc

stops-at_fault : (history : ℕ) (frames : List StreamFrame) (rest : List ℕ) (error : StreamError) → entry_fault history frames rest ≡ Some error → Stops history frames rest
stops-at_fault history frames rest error fails it behind parts follows =
    let both : Some error ≡ None = sym fails ∙ ap (entry_fault history frames) parts ∙ frame-passes it behind follows.has_spelling history frames follows in
    absurd cc

same-shape : (program : ℕ) (bytes : List ℕ) (shape shape' : Shape) → shape_of program bytes ≡ Ok shape → shape_of program bytes ≡ Ok shape' → shape ≡ shape'
same-shape program bytes shape shape' told told' = let same = sym told ∙ told' in cc

-- a stream's frames stop at its end
same-streams : (program : ℕ) (bytes : List ℕ) (plan plan' : Plan) → IsStream program bytes plan → IsStream program bytes plan' → plan ≡ plan'
same-streams program bytes plan plan' one other =
    let shape = same-shape program bytes other.shape one.shape other.header one.header in
    let spelled = subst (λ (s : Shape). BeginWith s.history [] other.frames (drop 8 bytes) (spelling (message.End other.last))) shape other.spelled in
    let same = same-frames one.shape.history [] one.frames other.frames (drop 8 bytes) _ _ one.spelled (stops-at_end one.shape.history one.frames one.last one.few)
    spelled (stops-at_end one.shape.history other.frames other.last other.few) in
    let lasts : one.last ≡ other.last = sym (end-number one.last one.few) ∙ ap number_in same.1 ∙ end-number other.last other.few in
    one.told ∙ ap (λ (s : Shape). plan_from s one.frames one.last) (sym shape)
    ∙ ap (λ (frames : List StreamFrame). plan_from other.shape frames one.last) same.0
    ∙ ap (plan_from other.shape other.frames) lasts ∙ sym other.told

same-cuts : (program : ℕ) (bytes : List ℕ) (error error' : StreamError) → IsCutShort program bytes error → IsCutShort program bytes error' → error ≡ error'
same-cuts program bytes error error' one other =
    let shape = same-shape program bytes other.shape one.shape other.header one.header in
    let spelled = subst (λ (s : Shape). BeginWith s.history [] other.frames (drop 8 bytes) other.rest) shape other.spelled in
    let fails = subst (λ (s : Shape). entry_fault s.history other.frames other.rest ≡ Some error') shape other.first_test in
    let same = same-frames one.shape.history [] one.frames other.frames (drop 8 bytes) one.rest other.rest
    one.spelled (stops-at_fault one.shape.history one.frames one.rest error one.first_test)
    spelled (stops-at_fault one.shape.history other.frames other.rest error' fails) in
    let both : Some error ≡ Some error' =
    sym one.first_test ∙ ap (λ (frames : List StreamFrame). entry_fault one.shape.history frames one.rest) same.0
    ∙ ap (entry_fault one.shape.history other.frames) same.1 ∙ fails in
    cc

-- a stream isn't cut short
not-both : {A : Type 0} (program : ℕ) (bytes : List ℕ) (plan : Plan) (error : StreamError) → IsStream program bytes plan → IsCutShort program bytes error → A
not-both program bytes plan error whole cut =
    let shape = same-shape program bytes cut.shape whole.shape cut.header whole.header in
    let spelled = subst (λ (s : Shape). BeginWith s.history [] cut.frames (drop 8 bytes) cut.rest) shape cut.spelled in
    let fails = subst (λ (s : Shape). entry_fault s.history cut.frames cut.rest ≡ Some error) shape cut.first_test in
    let same = same-frames whole.shape.history [] whole.frames cut.frames (drop 8 bytes) _ cut.rest
    whole.spelled (stops-at_end whole.shape.history whole.frames whole.last whole.few)
    spelled (stops-at_fault whole.shape.history cut.frames cut.rest error fails) in
    let both : Some error ≡ None =
    sym fails ∙ ap (λ (frames : List StreamFrame). entry_fault whole.shape.history frames cut.rest) (sym same.0)
    ∙ ap (entry_fault whole.shape.history whole.frames) (sym same.1) ∙ end-passes whole.last whole.few whole.shape.history whole.frames whole.within in
    absurd cc

-- a header isn't both valid and not
valid-or_not : {A : Type 0} (program : ℕ) (bytes : List ℕ) (shape : Shape) (error : StreamError) → shape_of program bytes ≡ Ok shape → shape_of program bytes ≡ Err error → A
valid-or_not program bytes shape error valid invalid = let both : Ok shape ≡ Err error = sym valid ∙ invalid in absurd cc

same-refusals : (program : ℕ) (bytes : List ℕ) (error error' : StreamError) → shape_of program bytes ≡ Err error → shape_of program bytes ≡ Err error' → error ≡ error'
same-refusals program bytes error error' told told' = let same = sym told ∙ told' in cc

pub same-readings : (program : ℕ) (bytes : List ℕ) (one other : Result Plan StreamError) → IsReading program bytes one → IsReading program bytes other → one ≡ other
same-readings program bytes (Ok plan) (Ok plan') one other = ap (λ (p : Plan). Ok p) (same-streams program bytes plan plan' one other)
same-readings program bytes (Ok plan) (Err error) one (inl invalid) = valid-or_not program bytes one.shape error one.header invalid
same-readings program bytes (Ok plan) (Err error) one (inr cut) = not-both program bytes plan error one cut
same-readings program bytes (Err error) (Ok plan) (inl invalid) other = valid-or_not program bytes other.shape error other.header invalid
same-readings program bytes (Err error) (Ok plan) (inr cut) other = not-both program bytes plan error other cut
same-readings program bytes (Err error) (Err error') (inl invalid) (inl invalid') = ap (λ (e : StreamError). Err e) (same-refusals program bytes error error' invalid invalid')
same-readings program bytes (Err error) (Err error') (inl invalid) (inr cut') = valid-or_not program bytes cut'.shape error cut'.header invalid
same-readings program bytes (Err error) (Err error') (inr cut) (inl invalid') = valid-or_not program bytes cut.shape error' cut.header invalid'
same-readings program bytes (Err error) (Err error') (inr cut) (inr cut') = ap (λ (e : StreamError). Err e) (same-cuts program bytes error error' cut cut')
