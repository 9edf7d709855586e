-- An entry that stands where it may: it passes all tests, and its bytes tell what it is.
use Rattle.std.proofs.Common.{◌≡◌, ℕ, ◌+◌, ◌*◌, ◌<◌, ◌≤◌, Bool, true, false, cond, not, ◌&&◌, List, [], ◌++◌, length, take, drop, All, Option, Some, None, refl, sym, ap, ◌∙◌, append_assoc, arith, eqb, rules, tests}
use Rattle.std.specs.Prelude.{slice_index, nat_lt}
use Rattle.std.proofs.lemmas.Bool.Decides.{nat_tests}
use Rattle.std.proofs.lemmas.List.{length-append, append-nil, take_all, drop_at}
use Rattle.std.proofs.lemmas.List.Elements.{All-nil}
use Rattle.scr_base.specs.declared.row.Row.{Row}
use Rattle.scr_plan.specs.Limits.{most_packets}
use Rattle.scr_wire.specs.declared.error.WireError.{WireError}
use Rattle.scr_wire.specs.declared.error.WireError.TheVariants as wire
use Rattle.scr_wire.specs.declared.message.Message.TheVariants as message
use Rattle.scr_wire.specs.declared.message.MessageKind.{MessageKind}
use Rattle.scr_wire.specs.declared.message.MessageKind.TheVariants.{Frame, Beacon, End}
use Rattle.scr_wire.specs.Kinds.{is_code, allows}
use Rattle.scr_wire.specs.Reading.{number_in, count_in, rows_in, message_of}
use Rattle.scr_wire.specs.Refusals.{has_mark, has_count, has_length, refusal}
use Rattle.scr_wire.specs.Spelling.{IsRow, HasSpelling, Spells, header_bytes, rows_bytes, spelling}
use Rattle.scr_wire.proofs.MessagesRead.{one_message_in}
use Rattle.scr_wire.proofs.RowsRead.{length-rows_in, length-rows_bytes}
use Rattle.scr_stream.specs.Frames.{StreamFrame, frame_bytes, last_number}
use Rattle.scr_stream.specs.Tests.{kind_in, length_in, frame_in, header_refusal, message_fault, field_fault, is_misplaced, rows_due, header_fault, behind_fault, differs, entry_fault}
use Rattle.scr_stream.specs.Reading.{Follows}
use Rattle.scr_stream.specs.declared.error.StreamError.TheVariants as fault
use Rattle.scr_stream.proofs.EntryTests.{behind-length, behind-mark, behind-version, behind-code, behind-count, byte-append, kind_in-append, number_in-append, count_in-append, frame_in-append, header-passed}

guard : {E : Type 0} (b : Bool) (e : E) (rest : Option E) → cond b (Some e) rest ≡ None → (b ≡ false) × (rest ≡ None)
guard true e rest none = absurd cc
guard false e rest none = (refl, none)

length-only : (b : Bool) → header_refusal (cond b (Some wire.Length) None) ≡ None
length-only true = refl
length-only false = refl

-- the first ten bytes of a message are a header
pub refusal-front : (header content : List ℕ) → length header ≡ 10 → refusal (header ++ content) ≡ None → header_refusal (refusal header) ≡ None
unfolding refusal
refusal-front header content ten none =
    let all : List ℕ = header ++ content in
    let long = guard (nat_lt (length all) 10) wire.Short (behind-length all) none in
    let mark = guard (not (has_mark all)) wire.Mark (behind-mark all) long.1 in
    let version = guard (not (eqb (slice_index all 2) 2)) wire.Version (behind-version all) mark.1 in
    let code = guard (not (is_code (slice_index all 3))) wire.Kind (behind-code all) version.1 in
    let count = guard (not (has_count all)) wire.Count (behind-count all) code.1 in
    let enough : 10 ≤ length header = omega arith in
    let t0 : nat_lt (length header) 10 ≡ false = search (rules, tests) in
    let test : ℕ → ℕ → Bool = λ a b. eqb a 0x53 && eqb b 0x43 in
    let t1 : not (has_mark header) ≡ false =
    ap not (ap (λ (n : ℕ). test n (slice_index header 1)) (sym (byte-append 0 header content (omega arith)))
    ∙ ap (test (slice_index (header ++ content) 0)) (sym (byte-append 1 header content (omega arith)))) ∙ mark.0 in
    let t2 : not (eqb (slice_index header 2) 2) ≡ false = ap (λ (n : ℕ). not (eqb n 2)) (sym (byte-append 2 header content (omega arith))) ∙ version.0 in
    let t3 : not (is_code (slice_index header 3)) ≡ false = ap (λ (n : ℕ). not (is_code n)) (sym (byte-append 3 header content (omega arith))) ∙ code.0 in
    let t4 : not (allows (kind_in header) (number_in header) (count_in header)) ≡ false =
    ap (λ (k : MessageKind). not (allows k (number_in header) (count_in header))) (sym (kind_in-append header content enough))
    ∙ ap (λ (n : ℕ). not (allows (kind_in (header ++ content)) n (count_in header))) (sym (number_in-append header content enough))
    ∙ ap (λ (n : ℕ). not (allows (kind_in (header ++ content)) (number_in (header ++ content)) n)) (sym (count_in-append header content enough))
    ∙ count.0 in
    rw (t0, t1, t2, t3, t4) (length-only (not (has_length header)))

message-parts : (k : MessageKind) (number : ℕ) (rows : List Row) (n : ℕ) (carried : List Row) → message_of k number rows ≡ message.Frame n carried
    → (k ≡ Frame) × (number ≡ n) × (rows ≡ carried)
message-parts Frame number rows n carried same = (refl, cc, cc)
message-parts Beacon number rows n carried same = absurd cc
message-parts End number rows n carried same = absurd cc

end-parts : (k : MessageKind) (number : ℕ) (rows : List Row) (n : ℕ) → message_of k number rows ≡ message.End n → (k ≡ End) × (number ≡ n)
end-parts Frame number rows n same = absurd cc
end-parts Beacon number rows n same = absurd cc
end-parts End number rows n same = (refl, cc)

pub length-header : (k : MessageKind) (number count : ℕ) → length (header_bytes k number count) ≡ 10
unfolding header_bytes
length-header k number count = omega arith

-- a header that passes its tests
header-passes : (history entry last : ℕ) (header : List ℕ) → length header ≡ 10 → header_refusal (refusal header) ≡ None
    → field_fault history entry last (kind_in header) (number_in header) (count_in header) ≡ None → header_fault history entry last header ≡ None
unfolding header_fault
header-passes history entry last header ten starts fields =
    let whole : nat_lt (length header) 10 ≡ false = search (rules, tests) in
    let same : take 10 header ≡ header = take_all 10 header (omega arith) in
    let refuses : header_refusal (refusal (take 10 header)) ≡ None = ap (λ (t : List ℕ). header_refusal (refusal t)) same ∙ starts in
    ap (λ (b : Bool). cond b (Some (fault.Cut entry)) (message_fault entry (header_refusal (refusal (take 10 header))) (field_fault history entry last (kind_in header) (number_in header) (count_in header)))) whole
    ∙ ap (λ (o : Option WireError). message_fault entry o (field_fault history entry last (kind_in header) (number_in header) (count_in header))) refuses
    ∙ fields

frame-fits : (history entry last number count : ℕ) → last < number → number ≤ most_packets → count ≡ rows_due history number
    → field_fault history entry last Frame number count ≡ None
frame-fits history entry last number count later few due =
    let placed : is_misplaced Frame last number ≡ false = grind (arith, nat_tests) in
    let counted : not (eqb count (rows_due history number)) ≡ false = grind (arith, nat_tests) in
    rw (placed, counted) refl

end-fits : (history entry last number count : ℕ) → last ≤ number → number ≤ most_packets → field_fault history entry last End number count ≡ None
end-fits history entry last number count later few =
    let placed : is_misplaced End last number ≡ false = grind (arith, nat_tests) in
    rw placed refl

module _ (it : StreamFrame) (behind : List ℕ) (spelled : HasSpelling (message.Frame it.number it.rows)) where
  abbrev header : List ℕ
  header = header_bytes Frame it.number (length it.rows)

  abbrev content : List ℕ
  content = rows_bytes it.rows

  abbrev bytes : List ℕ
  bytes = frame_bytes it ++ behind

  spells : Spells (message.Frame it.number it.rows) (frame_bytes it)
  spells = record { has_spelling = spelled; spelled = refl }

  ten : length header ≡ 10
  ten = length-header Frame it.number (length it.rows)

  told : (kind_in (frame_bytes it) ≡ Frame) × (number_in (frame_bytes it) ≡ it.number) × (rows_in (count_in (frame_bytes it)) (drop 10 (frame_bytes it)) ≡ it.rows)
  told = message-parts _ _ _ it.number it.rows (one_message_in (message.Frame it.number it.rows) (frame_bytes it) spells).1

  long : 10 ≤ length (frame_bytes it)
  long = omega (arith, ten, length-append header content)

  count-is : count_in (frame_bytes it) ≡ length it.rows
  count-is = sym (length-rows_in (count_in (frame_bytes it)) (drop 10 (frame_bytes it))) ∙ ap (λ (rows : List Row). length rows) told.2

  pub frame-kind : kind_in bytes ≡ Frame
  frame-kind = kind_in-append (frame_bytes it) behind long ∙ told.0

  joined : (frame_bytes it) ++ behind ≡ header ++ (content ++ behind)
  joined = append_assoc header content behind

  whole : length (frame_bytes it) ≡ 10 + 56 * length it.rows
  whole = omega (arith, ten, length-append header content, length-rows_bytes it.rows)

  pub frame-length : length_in bytes ≡ length (frame_bytes it)
  frame-length =
      let count = count_in-append (frame_bytes it) behind long in
      omega (arith, count, count-is, whole)

  pub frame-behind : behind ≡ drop (length_in bytes) bytes
  frame-behind = sym (drop_at (frame_bytes it) behind (length_in bytes) (sym frame-length))

  pub frame-itself : frame_in bytes ≡ it
  frame-itself =
      let all : frame_in bytes ≡ frame_in (frame_bytes it) = frame_in-append (frame_bytes it) behind (omega (arith, whole, count-is)) in
      let with_number : ℕ → StreamFrame = λ n. record { number = n; rows = rows_in (count_in (frame_bytes it)) (drop 10 (frame_bytes it)) } in
      let with_rows : List Row → StreamFrame = λ rows. record { number = it.number; rows = rows } in
      all ∙ ap with_number told.1 ∙ ap with_rows told.2

  pub frame-passes : (history : ℕ) (frames : List StreamFrame) → Follows history frames it → entry_fault history frames bytes ≡ None
  frame-passes history frames follows =
      let front = refusal-front header content ten (one_message_in (message.Frame it.number it.rows) (frame_bytes it) spells).0 in
      let kind-is : kind_in header ≡ Frame = sym (kind_in-append header content (omega (arith, ten))) ∙ told.0 in
      let number-is : number_in header ≡ it.number = sym (number_in-append header content (omega (arith, ten))) ∙ told.1 in
      let size-is : count_in header ≡ length it.rows = sym (count_in-append header content (omega (arith, ten))) ∙ count-is in
      let due : count_in header ≡ rows_due history (number_in header) = size-is ∙ follows.all_rows ∙ ap (rows_due history) (sym number-is) in
      let fields : field_fault history (length frames + 1) (last_number frames) (kind_in header) (number_in header) (count_in header) ≡ None =
      ap (λ (k : MessageKind). field_fault history (length frames + 1) (last_number frames) k (number_in header) (count_in header)) kind-is
      ∙ frame-fits history (length frames + 1) (last_number frames) (number_in header) (count_in header)
      (omega (arith, number-is, follows.later)) (omega (arith, number-is, follows.few)) due in
      let passed = header-passes history (length frames + 1) (last_number frames) header ten front fields in
      let enough : nat_lt (length bytes) (length_in bytes) ≡ false = let more = length-append (frame_bytes it) behind in let size = frame-length in search (rules, tests) in
      let agrees : differs frames (frame_in bytes) ≡ false = ap (differs frames) frame-itself ∙ follows.agrees in
      let rest : behind_fault frames (length frames + 1) Frame bytes ≡ None = rw (enough, agrees) refl in
      ap (entry_fault history frames) joined
      ∙ header-passed history frames header (content ++ behind) ten passed
      ∙ ap (λ (k : MessageKind). behind_fault frames (length frames + 1) k (header ++ (content ++ behind))) kind-is
      ∙ ap (behind_fault frames (length frames + 1) Frame) (sym joined)
      ∙ rest

module _ (last : ℕ) (few : last ≤ most_packets) where
  abbrev end : List ℕ
  end = spelling (message.End last)

  end-spelled : Spells (message.End last) end
  end-spelled =
      let none : All IsRow [] = All-nil IsRow in
      record { has_spelling = record { number = omega arith; count = refl; rows = none }; spelled = refl }

  end-told : (kind_in end ≡ End) × (number_in end ≡ last)
  end-told = end-parts _ _ _ last (one_message_in (message.End last) end end-spelled).1

  pub end-kind : kind_in end ≡ End
  end-kind = end-told.0

  pub end-number : number_in end ≡ last
  end-number = end-told.1

  end-ten : length end ≡ 10
  end-ten = omega (arith, length-header End last 0, length-append (header_bytes End last 0) [])

  pub end-passes : (history : ℕ) (frames : List StreamFrame) → last_number frames ≤ last → entry_fault history frames end ≡ None
  end-passes history frames later =
      let alone = append-nil end in
      let front = refusal-front end [] end-ten (ap refusal alone ∙ (one_message_in (message.End last) end end-spelled).0) in
      let fields : field_fault history (length frames + 1) (last_number frames) (kind_in end) (number_in end) (count_in end) ≡ None =
      ap (λ (k : MessageKind). field_fault history (length frames + 1) (last_number frames) k (number_in end) (count_in end)) end-kind
      ∙ end-fits history (length frames + 1) (last_number frames) (number_in end) (count_in end) (omega (arith, end-number)) (omega (arith, end-number)) in
      let passed = header-passes history (length frames + 1) (last_number frames) end end-ten front fields in
      let none : nat_lt 10 (length end) ≡ false = let size = end-ten in search (rules, tests) in
      let rest : behind_fault frames (length frames + 1) End end ≡ None = rw none refl in
      ap (entry_fault history frames) (sym alone)
      ∙ header-passed history frames end [] end-ten passed
      ∙ ap (λ (k : MessageKind). behind_fault frames (length frames + 1) k (end ++ [])) end-kind
      ∙ ap (behind_fault frames (length frames + 1) End) alone
      ∙ rest
