-- The tests of an entry, from what was read of it.
use Rattle.std.proofs.Common.{◌≡◌, ◌≢◌, ℕ, zero, suc, ◌+◌, ◌*◌, ◌<◌, ◌≤◌, Bool, true, false, cond, ◌&&◌, not, List, [], ◌∷◌, ◌++◌, length, take, drop, Option, Some, None, refl, sym, ap, ◌∙◌, inl, inr, arith, eqb, rules, tests}
use Rattle.std.specs.Prelude.{slice_index, nat_lt}
use Rattle.std.proofs.Math.ListN.{get_or-append}
use Rattle.std.proofs.lemmas.Bool.{cases_lt}
use Rattle.std.proofs.lemmas.Bool.Decides.{nat_tests}
use Rattle.std.proofs.lemmas.List.{take_at, take_all, length-append, append-nil, length-drop, drop-append-le}
use Rattle.scr_base.specs.declared.row.Row.{Row}
use Rattle.scr_pcap.specs.declared.format.Order.TheVariants.{Big}
use Rattle.scr_pcap.proofs.FirstBytes.{number_at-append}
use Rattle.scr_wire.specs.declared.error.WireError.{WireError}
use Rattle.scr_wire.specs.declared.error.WireError.TheVariants as wire
use Rattle.scr_wire.specs.declared.message.MessageKind.{MessageKind}
use Rattle.scr_wire.specs.declared.message.MessageKind.TheVariants.{Frame, End}
use Rattle.scr_wire.specs.Kinds.{is_code, kind_with, allows}
use Rattle.scr_wire.specs.Reading.{word_at, row_in, number_in, count_in, rows_in}
use Rattle.scr_wire.specs.Refusals.{has_mark, has_count, has_length, refusal}
use Rattle.scr_stream.specs.Frames.{StreamFrame, last_number}
use Rattle.scr_stream.specs.Tests.{kind_in, length_in, frame_in, header_refusal, message_fault, field_fault, header_fault, differs, behind_fault, either_fault, entry_fault}
use Rattle.scr_stream.specs.declared.error.StreamError.{StreamError}
use Rattle.scr_stream.specs.declared.error.StreamError.TheVariants as fault

-- ---- fields, with more bytes behind them

pub byte-append : (i : ℕ) (first behind : List ℕ) → i < length first → slice_index (first ++ behind) i ≡ slice_index first i
byte-append i first behind below = get_or-append first behind 0 i below

pub number_in-append : (first behind : List ℕ) → 10 ≤ length first → number_in (first ++ behind) ≡ number_in first
unfolding number_in
number_in-append first behind enough = number_at-append Big 4 4 first behind (omega arith)

pub count_in-append : (first behind : List ℕ) → 10 ≤ length first → count_in (first ++ behind) ≡ count_in first
unfolding count_in
count_in-append first behind enough = number_at-append Big 8 2 first behind (omega arith)

pub kind_in-append : (first behind : List ℕ) → 10 ≤ length first → kind_in (first ++ behind) ≡ kind_in first
kind_in-append first behind enough = ap kind_with (byte-append 3 first behind (omega arith))

word_at-append : (place : ℕ) (first behind : List ℕ) → place + 8 ≤ length first → word_at place (first ++ behind) ≡ word_at place first
unfolding word_at
word_at-append place first behind enough = number_at-append Big place 8 first behind enough

row_in-append : (first behind : List ℕ) → 56 ≤ length first → row_in (first ++ behind) ≡ row_in first
unfolding row_in
row_in-append first behind enough =
    let e0 = word_at-append 0 first behind (omega arith) in
    let e1 = word_at-append 8 first behind (omega arith) in
    let e2 = word_at-append 16 first behind (omega arith) in
    let e3 = word_at-append 24 first behind (omega arith) in
    let e4 = word_at-append 32 first behind (omega arith) in
    let e5 = word_at-append 40 first behind (omega arith) in
    let e6 = word_at-append 48 first behind (omega arith) in
    cc

rows_in-append : (count : ℕ) (first behind : List ℕ) → 56 * count ≤ length first → rows_in count (first ++ behind) ≡ rows_in count first
unfolding rows_in
rows_in-append zero first behind enough = refl
rows_in-append (suc count) first behind enough =
    ap (λ (r : Row). r ∷ rows_in count (drop 56 (first ++ behind))) (row_in-append first behind (omega arith))
    ∙ ap (λ (xs : List ℕ). row_in first ∷ rows_in count xs) (drop-append-le 56 first behind (omega arith))
    ∙ ap (λ (xs : List Row). row_in first ∷ xs) (rows_in-append count (drop 56 first) behind (omega (arith, length-drop 56 first)))

pub frame_in-append : (first behind : List ℕ) → 10 + 56 * count_in first ≤ length first → frame_in (first ++ behind) ≡ frame_in first
frame_in-append first behind enough =
    let number = number_in-append first behind (omega arith) in
    let rows : rows_in (count_in (first ++ behind)) (drop 10 (first ++ behind)) ≡ rows_in (count_in first) (drop 10 first) =
    ap (λ (n : ℕ). rows_in n (drop 10 (first ++ behind))) (count_in-append first behind (omega arith))
    ∙ ap (rows_in (count_in first)) (drop-append-le 10 first behind (omega arith))
    ∙ rows_in-append (count_in first) (drop 10 first) behind (omega (arith, length-drop 10 first)) in
    cc

-- ---- the tests of the header

pub header_fault-append : (history entry last : ℕ) (header behind : List ℕ) → length header ≤ 10 → (length header < 10 → behind ≡ [])
    → header_fault history entry last (header ++ behind) ≡ header_fault history entry last header
unfolding header_fault
header_fault-append history entry last header behind few end =
    elim (cases_lt (length header) 10) [
      | inl short ↦ ap (header_fault history entry last) (ap (λ (t : List ℕ). header ++ t) (end short) ∙ append-nil header)
      | inr enough ↦
          let count = length-append header behind in
          let long : nat_lt (length (header ++ behind)) 10 ≡ false = search (rules, tests) in
          let whole : nat_lt (length header) 10 ≡ false = search (rules, tests) in
          let ten : length header ≡ 10 = omega arith in
          let same : take 10 (header ++ behind) ≡ take 10 header = take_at header behind 10 ten ∙ sym (take_all 10 header few) in
          let test : List ℕ → MessageKind → ℕ → ℕ → Option StreamError =
          λ t k n c. message_fault entry (header_refusal (refusal t)) (field_fault history entry last k n c) in
          rw (long, whole)
          (ap (λ (t : List ℕ). test t (kind_in (header ++ behind)) (number_in (header ++ behind)) (count_in (header ++ behind))) same
          ∙ ap (λ (k : MessageKind). test (take 10 header) k (number_in (header ++ behind)) (count_in (header ++ behind))) (kind_in-append header behind enough)
          ∙ ap (λ (n : ℕ). test (take 10 header) (kind_in header) n (count_in (header ++ behind))) (number_in-append header behind enough)
          ∙ ap (test (take 10 header) (kind_in header) (number_in header)) (count_in-append header behind enough))
    ]

-- ---- an entry is refused

pub header-refused : (history : ℕ) (frames : List StreamFrame) (header behind : List ℕ) (error : StreamError) → length header ≤ 10 → (length header < 10 → behind ≡ [])
    → header_fault history (length frames + 1) (last_number frames) header ≡ Some error → entry_fault history frames (header ++ behind) ≡ Some error
unfolding entry_fault
header-refused history frames header behind error few end refused =
    ap (λ (f : Option StreamError). either_fault f (behind_fault frames (length frames + 1) (kind_in (header ++ behind)) (header ++ behind)))
    (header_fault-append history (length frames + 1) (last_number frames) header behind few end ∙ refused)

pub header-passed : (history : ℕ) (frames : List StreamFrame) (header behind : List ℕ) → length header ≡ 10
    → header_fault history (length frames + 1) (last_number frames) header ≡ None
    → entry_fault history frames (header ++ behind) ≡ behind_fault frames (length frames + 1) (kind_in header) (header ++ behind)
unfolding entry_fault
header-passed history frames header behind ten passed =
    ap (λ (f : Option StreamError). either_fault f (behind_fault frames (length frames + 1) (kind_in (header ++ behind)) (header ++ behind)))
    (header_fault-append history (length frames + 1) (last_number frames) header behind (omega arith) (λ short. absurd (omega arith)) ∙ passed)
    ∙ ap (λ (k : MessageKind). behind_fault frames (length frames + 1) k (header ++ behind)) (kind_in-append header behind (omega arith))

pub frame-cut : (history : ℕ) (frames : List StreamFrame) (header behind : List ℕ) → length header ≡ 10
    → header_fault history (length frames + 1) (last_number frames) header ≡ None → kind_in header ≡ Frame → length behind < 56 * count_in header
    → entry_fault history frames (header ++ behind) ≡ Some (fault.Cut (length frames + 1))
frame-cut history frames header behind ten passed kind-is cut =
    let count = count_in-append header behind (omega arith) in
    let all = length-append header behind in
    let test : nat_lt (length (header ++ behind)) (length_in (header ++ behind)) ≡ true = search (rules, tests) in
    header-passed history frames header behind ten passed
    ∙ ap (λ (k : MessageKind). behind_fault frames (length frames + 1) k (header ++ behind)) kind-is
    ∙ rw test refl

pub frame-differs : (history : ℕ) (frames : List StreamFrame) (header behind : List ℕ) (it : StreamFrame) → length header ≡ 10
    → header_fault history (length frames + 1) (last_number frames) header ≡ None → kind_in header ≡ Frame → 56 * count_in header ≤ length behind
    → frame_in (header ++ behind) ≡ it → differs frames it ≡ true
    → entry_fault history frames (header ++ behind) ≡ Some (fault.Differs (length frames + 1))
frame-differs history frames header behind it ten passed kind-is enough it-is differ =
    let count = count_in-append header behind (omega arith) in
    let all = length-append header behind in
    let test : nat_lt (length (header ++ behind)) (length_in (header ++ behind)) ≡ false = search (rules, tests) in
    let differ_there : differs frames (frame_in (header ++ behind)) ≡ true = ap (differs frames) it-is ∙ differ in
    header-passed history frames header behind ten passed
    ∙ ap (λ (k : MessageKind). behind_fault frames (length frames + 1) k (header ++ behind)) kind-is
    ∙ rw (test, differ_there) refl

pub end-followed : (history : ℕ) (frames : List StreamFrame) (header behind : List ℕ) → length header ≡ 10
    → header_fault history (length frames + 1) (last_number frames) header ≡ None → kind_in header ≡ End → 0 < length behind
    → entry_fault history frames (header ++ behind) ≡ Some fault.Trailing
end-followed history frames header behind ten passed kind-is some =
    let all = length-append header behind in
    let test : nat_lt 10 (length (header ++ behind)) ≡ true = search (rules, tests) in
    header-passed history frames header behind ten passed
    ∙ ap (λ (k : MessageKind). behind_fault frames (length frames + 1) k (header ++ behind)) kind-is
    ∙ rw test refl

-- ---- a header that passes

message-passes : (entry : ℕ) (o : Option WireError) (f : Option StreamError) → message_fault entry o f ≡ None → (o ≡ None) × (f ≡ None)
message-passes entry None f none = (refl, none)
message-passes entry (Some cause) f none = absurd cc

pub header-parts : (history entry last : ℕ) (header : List ℕ) → length header ≡ 10 → header_fault history entry last header ≡ None
    → (header_refusal (refusal header) ≡ None) × (field_fault history entry last (kind_in header) (number_in header) (count_in header) ≡ None)
unfolding header_fault
header-parts history entry last header ten passed =
    let whole : nat_lt (length header) 10 ≡ false = search (rules, tests) in
    let same : take 10 header ≡ header = take_all 10 header (omega arith) in
    let both : message_fault entry (header_refusal (refusal (take 10 header))) (field_fault history entry last (kind_in header) (number_in header) (count_in header)) ≡ None =
    sym (ap (λ (b : Bool). cond b (Some (fault.Cut entry)) (message_fault entry (header_refusal (refusal (take 10 header))) (field_fault history entry last (kind_in header) (number_in header) (count_in header)))) whole) ∙ passed in
    let two = message-passes entry _ _ both in
    (sym (ap (λ (t : List ℕ). header_refusal (refusal t)) same) ∙ two.0, two.1)

some-apart : (e : WireError) → Some e ≢ None
some-apart e is = absurd cc

guard : (b : Bool) (e : WireError) (rest : Option WireError) → header_refusal (Some e) ≢ None → header_refusal (cond b (Some e) rest) ≡ None
    → (b ≡ false) × (header_refusal rest ≡ None)
guard true e rest there none = absurd (there none)
guard false e rest there none = (refl, none)

holds : (b : Bool) → not b ≡ false → b ≡ true
holds true none = refl
holds false none = absurd cc

-- what is left of the tests, behind each of them
abbrev pub behind-count : List ℕ → Option WireError
behind-count bytes = cond (not (has_length bytes)) (Some wire.Length) None

abbrev pub behind-code : List ℕ → Option WireError
behind-code bytes = cond (not (has_count bytes)) (Some wire.Count) (behind-count bytes)

abbrev pub behind-version : List ℕ → Option WireError
behind-version bytes = cond (not (is_code (slice_index bytes 3))) (Some wire.Kind) (behind-code bytes)

abbrev pub behind-mark : List ℕ → Option WireError
behind-mark bytes = cond (not (eqb (slice_index bytes 2) 2)) (Some wire.Version) (behind-version bytes)

abbrev pub behind-length : List ℕ → Option WireError
behind-length bytes = cond (not (has_mark bytes)) (Some wire.Mark) (behind-mark bytes)

-- all tests of a header pass
record PassesTests (header : List ℕ) : Type 0 where
  mark : not (has_mark header) ≡ false
  version : not (eqb (slice_index header 2) 2) ≡ false
  code : not (is_code (slice_index header 3)) ≡ false
  count : not (has_count header) ≡ false

passes-tests : (header : List ℕ) → header_refusal (refusal header) ≡ None → PassesTests header
unfolding refusal
passes-tests header none =
    let long = guard (nat_lt (length header) 10) wire.Short (behind-length header) (some-apart wire.Short) none in
    let mark = guard (not (has_mark header)) wire.Mark (behind-mark header) (some-apart wire.Mark) long.1 in
    let version = guard (not (eqb (slice_index header 2) 2)) wire.Version (behind-version header) (some-apart wire.Version) mark.1 in
    let code = guard (not (is_code (slice_index header 3))) wire.Kind (behind-code header) (some-apart wire.Kind) version.1 in
    let count = guard (not (has_count header)) wire.Count (behind-count header) (some-apart wire.Count) code.1 in
    record { mark = mark.0; version = version.0; code = code.0; count = count.0 }

-- its count of rows is allowed
pub header-count : (header : List ℕ) → header_refusal (refusal header) ≡ None → has_count header ≡ true
header-count header none = holds (has_count header) (passes-tests header none).count

-- with its rows behind it, it is a message
pub refusal-whole : (header content : List ℕ) → length header ≡ 10 → header_refusal (refusal header) ≡ None → length content ≡ 56 * count_in header
    → refusal (header ++ content) ≡ None
unfolding refusal
refusal-whole header content ten none all =
    let passes = passes-tests header none in
    let enough : 10 ≤ length header = omega arith in
    let whole = length-append header content in
    let size = count_in-append header content enough in
    let t0 : nat_lt (length (header ++ content)) 10 ≡ false = search (rules, tests) in
    let test : ℕ → ℕ → Bool = λ a b. eqb a 0x53 && eqb b 0x43 in
    let t1 : not (has_mark (header ++ content)) ≡ false =
    ap not (ap (λ (n : ℕ). test n (slice_index (header ++ content) 1)) (byte-append 0 header content (omega arith))
    ∙ ap (test (slice_index header 0)) (byte-append 1 header content (omega arith))) ∙ passes.mark in
    let t2 : not (eqb (slice_index (header ++ content) 2) 2) ≡ false = ap (λ (n : ℕ). not (eqb n 2)) (byte-append 2 header content (omega arith)) ∙ passes.version in
    let t3 : not (is_code (slice_index (header ++ content) 3)) ≡ false = ap (λ (n : ℕ). not (is_code n)) (byte-append 3 header content (omega arith)) ∙ passes.code in
    let t4 : not (has_count (header ++ content)) ≡ false =
    ap (λ (k : MessageKind). not (allows k (number_in (header ++ content)) (count_in (header ++ content)))) (kind_in-append header content enough)
    ∙ ap (λ (n : ℕ). not (allows (kind_in header) n (count_in (header ++ content)))) (number_in-append header content enough)
    ∙ ap (λ (n : ℕ). not (allows (kind_in header) (number_in header) n)) size
    ∙ passes.count in
    let t5 : not (has_length (header ++ content)) ≡ false = grind (arith, nat_tests) in
    rw (t0, t1, t2, t3, t4, t5) refl
