-- A frame that was read behind others: its bytes, and that it may stand there.
use Rattle.std.proofs.Common.{◌≡◌, ℕ, zero, suc, ◌+◌, ◌<◌, ◌≤◌, Bool, true, false, cond, not, ◌||◌, List, ◌++◌, length, drop, Option, Some, None, refl, sym, ap, subst, ◌∙◌, arith, eqb}
use Rattle.std.specs.Prelude.{nat_lt, nat_le}
use Rattle.std.proofs.lemmas.Bool.Decides.{nat_tests}
use Rattle.std.proofs.lemmas.List.{drop_at}
use Rattle.scr_plan.specs.Limits.{most_packets, longest_history}
use Rattle.scr_wire.specs.declared.message.Message.{Message}
use Rattle.scr_wire.specs.declared.message.Message.TheVariants as message
use Rattle.scr_wire.specs.declared.message.MessageKind.{MessageKind}
use Rattle.scr_wire.specs.declared.message.MessageKind.TheVariants.{Frame, End}
use Rattle.scr_wire.specs.Reading.{number_in, count_in, rows_in, message_of}
use Rattle.scr_wire.specs.Spelling.{Spells, HasSpelling, spelling, number_of, rows_of}
use Rattle.scr_wire.proofs.MessagesRead.{one_message_in}
use Rattle.scr_stream.specs.Frames.{StreamFrame, frame_of, frame_bytes, last_number}
use Rattle.scr_stream.specs.Tests.{kind_in, frame_in, rows_due, is_misplaced, field_fault, header_fault, differs}
use Rattle.scr_stream.specs.Reading.{Follows}
use Rattle.scr_stream.specs.Taken.{IsFrameHeader}
use Rattle.scr_stream.specs.declared.error.StreamError.{StreamError}
use Rattle.scr_stream.specs.declared.error.StreamError.TheVariants as fault
use Rattle.scr_stream.proofs.EntryTests.{kind_in-append, number_in-append, count_in-append, header-parts}

guard : (b : Bool) (e : StreamError) (rest : Option StreamError) → cond b (Some e) rest ≡ None → (b ≡ false) × (rest ≡ None)
guard true e rest none = absurd cc
guard false e rest none = (refl, none)

neither : (a b : Bool) → (a || b) ≡ false → (a ≡ false) × (b ≡ false)
neither true b none = absurd cc
neither false b none = (refl, none)

-- what the tests of a frame's header tell
pub frame-fields : (history entry last number count : ℕ) → field_fault history entry last Frame number count ≡ None
    → (number ≤ most_packets) × (last < number) × (count ≡ rows_due history number)
frame-fields history entry last number count none =
    let placed = guard (is_misplaced Frame last number) (fault.Number entry) _ none in
    let both = neither (nat_lt most_packets number) (nat_le number last) placed.0 in
    let counted = guard (not (eqb count (rows_due history number))) (fault.Rows entry) None placed.1 in
    let few : number ≤ most_packets = grind (arith, nat_tests, both.0) in
    let later : last < number = grind (arith, nat_tests, both.1) in
    let all : count ≡ rows_due history number = grind (arith, nat_tests, counted.0) in
    (few, later, all)

-- what the tests of an end's header tell
pub end-fields : (history entry last number count : ℕ) → field_fault history entry last End number count ≡ None
    → (number ≤ most_packets) × (last ≤ number)
end-fields history entry last number count none =
    let placed = guard (is_misplaced End last number) (fault.Number entry) None none in
    let both = neither (nat_lt most_packets number) (nat_lt number last) placed.0 in
    let few : number ≤ most_packets = grind (arith, nat_tests, both.0) in
    let later : last ≤ number = grind (arith, nat_tests, both.1) in
    (few, later)

-- such a header, where its other tests pass too
pub frame-header : (history entry last : ℕ) (header : List ℕ) → length header ≡ 10 → history ≤ longest_history
    → header_fault history entry last header ≡ None → kind_in header ≡ Frame → IsFrameHeader last header
frame-header history entry last header ten short passed kind-is =
    let parts = header-parts history entry last header ten passed in
    let fields : field_fault history entry last Frame (number_in header) (count_in header) ≡ None =
    ap (λ (k : MessageKind). field_fault history entry last k (number_in header) (count_in header)) (sym kind-is) ∙ parts.1 in
    let told = frame-fields history entry last (number_in header) (count_in header) fields in
    let due = told.2 in
    record {
      whole = ten;
      kind = kind-is;
      starts = parts.0;
      later = told.1;
      few = told.0;
      no_more = omega arith;
      few_rows = omega arith;
    }

length-rows : (count : ℕ) (bytes : List ℕ) → length (rows_in count bytes) ≡ count
unfolding rows_in
length-rows zero bytes = refl
length-rows (suc count) bytes = ap suc (length-rows count (drop 56 bytes))

module _ (header content : List ℕ) (it : Message) (ten : length header ≡ 10) (kind-is : kind_in header ≡ Frame) (spells : Spells it (header ++ content)) where
  -- the message is a frame, with the fields of its header
  pub is-frame : it ≡ message.Frame (number_in header) (rows_in (count_in header) content)
  is-frame =
      let bytes : List ℕ = header ++ content in
      sym (one_message_in it bytes spells).1
      ∙ ap (λ (k : MessageKind). message_of k (number_in bytes) (rows_in (count_in bytes) (drop 10 bytes))) (kind_in-append header content (omega arith) ∙ kind-is)
      ∙ ap (λ (n : ℕ). message.Frame n (rows_in (count_in bytes) (drop 10 bytes))) (number_in-append header content (omega arith))
      ∙ ap (λ (n : ℕ). message.Frame (number_in header) (rows_in n (drop 10 bytes))) (count_in-append header content (omega arith))
      ∙ ap (λ (xs : List ℕ). message.Frame (number_in header) (rows_in (count_in header) xs)) (drop_at header content 10 ten)

  whole : message.Frame (number_of it) (rows_of it) ≡ it
  whole = subst (λ (m : Message). message.Frame (number_of m) (rows_of m) ≡ m) (sym is-frame) refl

  -- its bytes
  pub frame-spelled : header ++ content ≡ frame_bytes (frame_of it)
  frame-spelled = spells.spelled ∙ ap spelling (sym whole)

  rows-counted : length (rows_of it) ≡ count_in header
  rows-counted = ap (λ (m : Message). length (rows_of m)) is-frame ∙ length-rows (count_in header) content

  -- its number and its count of rows are those of its header
  pub frame-counts : (number_of it ≡ number_in header) × (length (rows_of it) ≡ count_in header)
  frame-counts = (ap number_of is-frame, rows-counted)

  -- it has as many rows as it must
  pub frame-due : (history : ℕ) (frames : List StreamFrame) → header_fault history (length frames + 1) (last_number frames) header ≡ None
      → length (rows_of it) ≡ rows_due history (number_of it)
  frame-due history frames passed =
      let fields : field_fault history (length frames + 1) (last_number frames) Frame (number_in header) (count_in header) ≡ None =
      ap (λ (k : MessageKind). field_fault history (length frames + 1) (last_number frames) k (number_in header) (count_in header)) (sym kind-is)
      ∙ (header-parts history (length frames + 1) (last_number frames) header ten passed).1 in
      rows-counted ∙ (frame-fields history (length frames + 1) (last_number frames) (number_in header) (count_in header) fields).2
      ∙ ap (rows_due history) (sym (ap number_of is-frame))

  -- it may stand behind these frames
  pub frame-follows : (history : ℕ) (frames : List StreamFrame) → header_fault history (length frames + 1) (last_number frames) header ≡ None
      → differs frames (frame_of it) ≡ false → Follows history frames (frame_of it)
  frame-follows history frames passed agrees =
      let fields : field_fault history (length frames + 1) (last_number frames) Frame (number_in header) (count_in header) ≡ None =
      ap (λ (k : MessageKind). field_fault history (length frames + 1) (last_number frames) k (number_in header) (count_in header)) (sym kind-is)
      ∙ (header-parts history (length frames + 1) (last_number frames) header ten passed).1 in
      let told = frame-fields history (length frames + 1) (last_number frames) (number_in header) (count_in header) fields in
      let number-is : number_of it ≡ number_in header = ap number_of is-frame in
      let rows-are : length (rows_of it) ≡ count_in header = ap (λ (m : Message). length (rows_of m)) is-frame ∙ length-rows (count_in header) content in
      record {
        has_spelling = subst HasSpelling (sym whole) spells.has_spelling;
        few = subst (λ (n : ℕ). n ≤ most_packets) (sym number-is) told.0;
        later = subst (λ (n : ℕ). last_number frames < n) (sym number-is) told.1;
        all_rows = rows-are ∙ told.2 ∙ ap (rows_due history) (sym number-is);
        agrees = agrees;
      }

  -- it is the frame in front
  pub frame-in : frame_in (header ++ content) ≡ frame_of it
  frame-in =
      let number = number_in-append header content (omega arith) in
      let rows : rows_in (count_in (header ++ content)) (drop 10 (header ++ content)) ≡ rows_in (count_in header) content =
      ap (λ (n : ℕ). rows_in n (drop 10 (header ++ content))) (count_in-append header content (omega arith))
      ∙ ap (rows_in (count_in header)) (drop_at header content 10 ten) in
      let fields : frame_in (header ++ content) ≡ frame_of (message.Frame (number_in header) (rows_in (count_in header) content)) = cc in
      fields ∙ ap frame_of (sym is-frame)
