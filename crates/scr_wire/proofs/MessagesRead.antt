-- Messages: what is read is what was written, and what was written is read again.
use Rattle.std.proofs.Common.{◌≡◌, ℕ, ◌+◌, ◌*◌, ◌^◌, ◌<◌, ◌≤◌, Bool, true, false, cond, List, [], ◌∷◌, ◌++◌, length, get_or, drop, All, Option, Some, None, refl, sym, ap, subst, ◌∙◌, arith}
use Rattle.std.specs.Prelude.{slice_index, IsTrue, not, Result, Ok, Err, OnOk, IfOk, IfErr, IsOkAnd}
use Rattle.scr_wire.specs.declared.error.WireError.{WireError}
use Rattle.std.proofs.lemmas.Bool.{ltb-false, le-ltb, eqb-true}
use Rattle.std.proofs.lemmas.Bool.Decides.{nat_tests}
use Rattle.std.proofs.Common.{eq-eqb}
use Rattle.std.proofs.lemmas.List.{length-drop, nil_from_length, drop-drop, drop_all, append-nil}
use Rattle.std.proofs.lemmas.List.Elements.{recursion_from_All}
use Rattle.byteorder.specs.Endian.{big_number, big_bytes}
use Rattle.byteorder.specs.Numbers.{big_from-lt, big_number-reads_back}
use Rattle.scr_base.specs.declared.row.Row.{Row}
use Rattle.scr_wire.specs.declared.message.Message.{Message}
use Rattle.scr_wire.specs.declared.message.Message.TheVariants.{Frame, Beacon, End}
use Rattle.scr_wire.specs.declared.message.MessageKind.{MessageKind}
use Rattle.scr_wire.specs.declared.message.MessageKind.TheVariants as kind
use Rattle.scr_wire.specs.Kinds.{code_of, is_code, kind_with, most_rows, allows}
use Rattle.scr_wire.specs.Spelling.{kind_of, number_of, rows_of, header_bytes, rows_bytes, IsRow, Spells}
use Rattle.scr_wire.specs.Reading.{rows_in, number_in, count_in, message_of, message_in}
use Rattle.scr_wire.specs.Refusals.{has_mark, has_count, refusal}
use Rattle.scr_wire.proofs.WordsRead.{IsBytes, IsBytes-drop, big_bytes_2, big_bytes_4, number_back}
use Rattle.scr_wire.proofs.RowsRead.{length-rows_in, length-rows_bytes, rows_again, rows_back, rows_in-fit}

-- ---- kinds

kind_again : (k : MessageKind) → kind_with (code_of k) ≡ k
kind_again kind.Frame = refl
kind_again kind.Beacon = refl
kind_again kind.End = refl

is_code_of : (k : MessageKind) → is_code (code_of k) ≡ true
is_code_of kind.Frame = refl
is_code_of kind.Beacon = refl
is_code_of kind.End = refl

code_back : (code : ℕ) → is_code code ≡ true → code_of (kind_with code) ≡ code
code_back code h = grind (arith, nat_tests)

-- ---- the parts of a message

no_rows_in : (count : ℕ) (bytes : List ℕ) → count ≡ 0 → rows_in count bytes ≡ []
no_rows_in count bytes h = nil_from_length (rows_in count bytes) (length-rows_in count bytes ∙ h)

-- a beacon and an end have no rows to lose
pub rows_of_message : (k : MessageKind) (number count : ℕ) (bytes : List ℕ) → IsTrue (allows k number count) → rows_of (message_of k number (rows_in count bytes)) ≡ rows_in count bytes
rows_of_message kind.Frame number count bytes h = refl
rows_of_message kind.Beacon number count bytes h = sym (no_rows_in count bytes (eqb-true count 0 h))
rows_of_message kind.End number count bytes h = sym (no_rows_in count bytes (eqb-true count 0 h))

whole_message : (m : Message) → message_of (kind_of m) (number_of m) (rows_of m) ≡ m
whole_message (Frame number rows) = refl
whole_message (Beacon number) = refl
whole_message (End number) = refl

kind_of_message : (k : MessageKind) (number : ℕ) (rows : List Row) → kind_of (message_of k number rows) ≡ k
kind_of_message kind.Frame number rows = refl
kind_of_message kind.Beacon number rows = refl
kind_of_message kind.End number rows = refl

number_of_message : (k : MessageKind) (number : ℕ) (rows : List Row) → number_of (message_of k number rows) ≡ number
number_of_message kind.Frame number rows = refl
number_of_message kind.Beacon number rows = refl
number_of_message kind.End number rows = refl

few_rows : (k : MessageKind) (number count : ℕ) → IsTrue (allows k number count) → count ≤ most_rows
few_rows kind.Frame number count h = grind (arith, nat_tests)
few_rows kind.Beacon number count h = grind (arith, nat_tests)
few_rows kind.End number count h = grind (arith, nat_tests)

-- ---- the tests

record Passes (bytes : List ℕ) : Type 0 where
  pub long : 10 ≤ length bytes
  pub mark : has_mark bytes ≡ true
  pub version : slice_index bytes 2 ≡ 2
  pub code : is_code (slice_index bytes 3) ≡ true
  pub count : has_count bytes ≡ true
  pub len : length bytes ≡ 10 + 56 * count_in bytes

-- a test that did not fail
guard : {E : Type 0} (b : Bool) (e : E) (rest : Option E) → cond b (Some e) rest ≡ None → (b ≡ false) × (rest ≡ None)
guard true e rest h = absurd cc
guard false e rest h = (refl, h)

holds : (b : Bool) → not b ≡ false → b ≡ true
holds true h = refl
holds false h = absurd cc

fails : (b : Bool) → b ≡ true → not b ≡ false
fails true h = refl
fails false h = absurd cc

passes : (bytes : List ℕ) → refusal bytes ≡ None → Passes bytes
unfolding refusal
passes bytes h =
    let long = guard _ _ _ h in
    let mark = guard _ _ _ long.1 in
    let version = guard _ _ _ mark.1 in
    let code = guard _ _ _ version.1 in
    let count = guard _ _ _ code.1 in
    let len = guard _ _ _ count.1 in
    record {
      long = ltb-false _ _ long.0;
      mark = holds _ mark.0;
      version = eqb-true _ _ (holds _ version.0);
      code = holds _ code.0;
      count = holds _ count.0;
      len = eqb-true _ _ (holds _ len.0);
    }

passed : (bytes : List ℕ) → Passes bytes → refusal bytes ≡ None
unfolding refusal
passed bytes p =
    rw (le-ltb _ _ p.long, fails _ p.mark, fails _ (eq-eqb _ _ p.version), fails _ p.code, fails _ p.count, fails _ (eq-eqb _ _ p.len)) refl

-- ---- what passes spells itself

-- the first four bytes
front_four : (bytes : List ℕ) → 4 ≤ length bytes → get_or bytes 0 0 ∷ get_or bytes 1 0 ∷ get_or bytes 2 0 ∷ get_or bytes 3 0 ∷ drop 4 bytes ≡ bytes
front_four [] le = absurd (omega arith)
front_four (a ∷ []) le = absurd (omega arith)
front_four (a ∷ b ∷ []) le = absurd (omega arith)
front_four (a ∷ b ∷ c ∷ []) le = absurd (omega arith)
front_four (a ∷ b ∷ c ∷ d ∷ rest) le = refl

number_there : (bytes : List ℕ) → 8 ≤ length bytes → IsBytes bytes → big_bytes 4 (number_in bytes) ++ drop 8 bytes ≡ drop 4 bytes
unfolding number_in
number_there bytes le fits =
    ap (λ (x : List ℕ). big_bytes 4 (big_number 4 (drop 4 bytes)) ++ x) (sym (drop-drop 4 4 bytes))
    ∙ number_back 4 big_bytes_4 (drop 4 bytes) (omega (arith, length-drop 4 bytes)) (IsBytes-drop 4 bytes fits)

count_there : (bytes : List ℕ) → 10 ≤ length bytes → IsBytes bytes → big_bytes 2 (count_in bytes) ++ drop 10 bytes ≡ drop 8 bytes
unfolding count_in
count_there bytes le fits =
    ap (λ (x : List ℕ). big_bytes 2 (big_number 2 (drop 8 bytes)) ++ x) (sym (drop-drop 2 8 bytes))
    ∙ number_back 2 big_bytes_2 (drop 8 bytes) (omega (arith, length-drop 8 bytes)) (IsBytes-drop 8 bytes fits)

header_there : (bytes : List ℕ) → Passes bytes → IsBytes bytes → header_bytes (kind_with (slice_index bytes 3)) (number_in bytes) (count_in bytes) ++ drop 10 bytes ≡ bytes
unfolding header_bytes
header_there bytes p fits =
    let k = kind_with (slice_index bytes 3) in
    let number = number_in bytes in
    let long = p.long in
    let mark = p.mark in
    let first : slice_index bytes 0 ≡ 0x53 = grind (arith, nat_tests) in
    let second : slice_index bytes 1 ≡ 0x43 = grind (arith, nat_tests) in
    ap (λ (x : List ℕ). 0x53 ∷ 0x43 ∷ 2 ∷ code_of k ∷ (big_bytes 4 number ++ x)) (count_there bytes long fits)
    ∙ ap (λ (x : List ℕ). 0x53 ∷ 0x43 ∷ 2 ∷ code_of k ∷ x) (number_there bytes (omega arith) fits)
    ∙ ap (λ (x : ℕ). x ∷ 0x43 ∷ 2 ∷ code_of k ∷ drop 4 bytes) (sym first)
    ∙ ap (λ (x : ℕ). get_or bytes 0 0 ∷ x ∷ 2 ∷ code_of k ∷ drop 4 bytes) (sym second)
    ∙ ap (λ (x : ℕ). get_or bytes 0 0 ∷ get_or bytes 1 0 ∷ x ∷ code_of k ∷ drop 4 bytes) (sym p.version)
    ∙ ap (λ (x : ℕ). get_or bytes 0 0 ∷ get_or bytes 1 0 ∷ get_or bytes 2 0 ∷ x ∷ drop 4 bytes) (code_back (slice_index bytes 3) p.code)
    ∙ front_four bytes (omega arith)

rows_there : (bytes : List ℕ) → Passes bytes → IsBytes bytes → rows_bytes (rows_in (count_in bytes) (drop 10 bytes)) ≡ drop 10 bytes
rows_there bytes p fits =
    let long = p.long in
    let len = p.len in
    let all : length (drop 10 bytes) ≡ 56 * count_in bytes = omega (arith, length-drop 10 bytes) in
    let none : drop (56 * count_in bytes) (drop 10 bytes) ≡ [] = drop_all (56 * count_in bytes) (drop 10 bytes) (omega arith) in
    sym (append-nil (rows_bytes (rows_in (count_in bytes) (drop 10 bytes))))
    ∙ ap (λ (x : List ℕ). rows_bytes (rows_in (count_in bytes) (drop 10 bytes)) ++ x) (sym none)
    ∙ rows_back (count_in bytes) (drop 10 bytes) (omega arith) (IsBytes-drop 10 bytes fits)

spells_by_parts : (m : Message) (k : MessageKind) (number count : ℕ) (rows : List Row) (bytes : List ℕ)
    → kind_of m ≡ k → number_of m ≡ number → rows_of m ≡ rows → length rows ≡ count
    → number < 2 ^ 32 → allows k number count ≡ true → All IsRow rows → header_bytes k number count ++ rows_bytes rows ≡ bytes → Spells m bytes
spells_by_parts m k number count rows bytes k-is number-is rows-is count-is within allowed fit parts =
    record {
      has_spelling = record { number = omega arith; count = cc; rows = subst (All IsRow) (sym rows-is) fit };
      spelled = cc;
    }

number_in-lt : (bytes : List ℕ) → IsBytes bytes → number_in bytes < 2 ^ 32
unfolding number_in
number_in-lt bytes fits = big_from-lt 0 4 (drop 4 bytes) (IsBytes-drop 4 bytes fits)

-- the message in bytes that pass all tests spells them
pub spells_itself : (bytes : List ℕ) → IsBytes bytes → refusal bytes ≡ None → Spells (message_in bytes) bytes
spells_itself bytes fits none =
    let p = passes bytes none in
    let k = kind_with (slice_index bytes 3) in
    let rows = rows_in (count_in bytes) (drop 10 bytes) in
    let parts : header_bytes k (number_in bytes) (count_in bytes) ++ rows_bytes rows ≡ bytes =
    ap (λ (x : List ℕ). header_bytes k (number_in bytes) (count_in bytes) ++ x) (rows_there bytes p fits) ∙ header_there bytes p fits in
    spells_by_parts (message_in bytes) k (number_in bytes) (count_in bytes) rows bytes
    (kind_of_message k (number_in bytes) rows) (number_of_message k (number_in bytes) rows)
    (rows_of_message k (number_in bytes) (count_in bytes) (drop 10 bytes) p.count)
    (length-rows_in (count_in bytes) (drop 10 bytes)) (number_in-lt bytes fits) p.count (rows_in-fit (count_in bytes) (drop 10 bytes) (IsBytes-drop 10 bytes fits)) parts

-- ---- what is spelled passes

-- the fields of a header that was written
record Fields (k : MessageKind) (number count : ℕ) (rest bytes : List ℕ) : Type 0 where
  pub mark : has_mark bytes ≡ true
  pub version : slice_index bytes 2 ≡ 2
  pub code_is : slice_index bytes 3 ≡ code_of k
  pub number_is : number_in bytes ≡ number
  pub count_is : count_in bytes ≡ count
  pub rest_is : drop 10 bytes ≡ rest
  pub len : length bytes ≡ 10 + length rest

fields_again : (k : MessageKind) (number count : ℕ) (rest : List ℕ) → number < 2 ^ 32 → count < 2 ^ 16 → Fields k number count rest (header_bytes k number count ++ rest)
unfolding header_bytes number_in count_in
fields_again k number count rest number_lt count_lt =
    record {
      mark = refl;
      version = refl;
      code_is = refl;
      number_is = big_number-reads_back 4 number (big_bytes 2 count ++ rest) number_lt;
      count_is = big_number-reads_back 2 count rest count_lt;
      rest_is = refl;
      len = omega arith;
    }

passes_by_fields : (k : MessageKind) (number count : ℕ) (rest bytes : List ℕ) → Fields k number count rest bytes → allows k number count ≡ true → length rest ≡ 56 * count → Passes bytes
passes_by_fields k number count rest bytes f allowed len =
    let counted = f.count_is in
    let all = f.len in
    let kind-is : kind_with (slice_index bytes 3) ≡ k = ap kind_with f.code_is ∙ kind_again k in
    record {
      long = omega arith;
      mark = f.mark;
      version = f.version;
      code = ap is_code f.code_is ∙ is_code_of k;
      count = ap (λ (x : MessageKind). allows x (number_in bytes) (count_in bytes)) kind-is ∙ ap (λ (x : ℕ). allows k x (count_in bytes)) f.number_is ∙ ap (allows k number) f.count_is ∙ allowed;
      len = omega arith;
    }

-- a message that spells bytes is the one in them, and they pass all tests
pub one_message_in : (m : Message) (bytes : List ℕ) → Spells m bytes → (refusal bytes ≡ None) × (message_in bytes ≡ m)
one_message_in m bytes s =
    let k = kind_of m in
    let number = number_of m in
    let rows = rows_of m in
    let few : length rows ≤ most_rows = few_rows k number (length rows) s.has_spelling.count in
    let f : Fields k number (length rows) (rows_bytes rows) bytes =
    subst (Fields k number (length rows) (rows_bytes rows)) (sym s.spelled) (fields_again k number (length rows) (rows_bytes rows) s.has_spelling.number (omega arith)) in
    let p = passes_by_fields k number (length rows) (rows_bytes rows) bytes f s.has_spelling.count (length-rows_bytes rows) in
    let kind-is : kind_with (slice_index bytes 3) ≡ k = ap kind_with f.code_is ∙ kind_again k in
    let rows-are : rows_in (count_in bytes) (drop 10 bytes) ≡ rows =
    ap (λ (x : ℕ). rows_in x (drop 10 bytes)) f.count_is ∙ ap (rows_in (length rows)) f.rest_is ∙ rows_again rows (recursion_from_All IsRow rows s.has_spelling.rows) in (
      passed bytes p,
      ap (λ (x : MessageKind). message_of x (number_in bytes) (rows_in (count_in bytes) (drop 10 bytes))) kind-is
          ∙ ap (λ (x : ℕ). message_of k x (rows_in (count_in bytes) (drop 10 bytes))) f.number_is
          ∙ ap (message_of k number) rows-are
          ∙ whole_message m,
    )

-- bytes are spelled by one message at most
pub one_message : (one other : Message) (bytes : List ℕ) → Spells one bytes → Spells other bytes → one ≡ other
one_message one other bytes s t = sym (one_message_in one bytes s).1 ∙ (one_message_in other bytes t).1

-- ---- what decoding answers

pub is_shown : (r : Result Message WireError) (bytes : List ℕ) → IsBytes bytes → OnOk r (refusal bytes ≡ None) → IfOk r (λ view. view ≡ message_in bytes) → IfOk r (λ view. Spells view bytes)
is_shown (Ok view) bytes fits none shown = subst (λ (m : Message). Spells m bytes) (sym shown) (spells_itself bytes fits none)
is_shown (Err error) bytes fits none shown = tt

pub is_spelled : (r : Result Message WireError) (bytes : List ℕ) → IfOk r (λ view. view ≡ message_in bytes) → IfErr r (λ error. refusal bytes ≡ Some error)
    → (m : Message) → Spells m bytes → IsOkAnd r (λ view. view ≡ m)
is_spelled (Ok view) bytes shown refused m s = shown ∙ (one_message_in m bytes s).1
is_spelled (Err error) bytes shown refused m s = let none = (one_message_in m bytes s).0 in absurd cc
