-- What is written piece by piece is the whole.
use Rattle.std.proofs.Common.{◌≡◌, ℕ, ◌+◌, ◌-◌, ◌*◌, ◌<◌, ◌≤◌, List, [], ◌∷◌, ◌++◌, length, get_or, take, drop, sym, ap, ◌∙◌, append_assoc, arith}
use Rattle.std.proofs.lemmas.List.{length-drop, length-take, take_all, drop_all, take_at, drop_at, drop-drop, take_more, append-nil}
use Rattle.std.proofs.lemmas.List.Concat.{flat_map-cons}
use borrow.Rule.Slice.PartMut.{put_mid}
use Rattle.std.proofs.lemmas.Grind.{flat_map-append}
use Rattle.byteorder.specs.Endian.{big_bytes}
use Rattle.scr_base.specs.declared.row.Row.{Row}
use Rattle.scr_wire.specs.declared.message.MessageKind.{MessageKind}
use Rattle.scr_wire.specs.Kinds.{code_of}
use Rattle.scr_wire.specs.Spelling.{header_bytes, row_bytes, rows_bytes}
use Rattle.scr_wire.proofs.RowsRead.{length-rows_bytes}

-- a header from the bytes of its fields
abbrev header_from : ℕ → List ℕ → List ℕ → List ℕ
header_from code number count =
    0x53 ∷ 0x43 ∷ 2 ∷ code ∷ get_or number 0 0 ∷ get_or number 1 0 ∷ get_or number 2 0 ∷ get_or number 3 0 ∷ get_or count 0 0 ∷ get_or count 1 0 ∷ []

pub header_written : (header rest : List ℕ) (k : MessageKind) (number count code : ℕ) (number_bytes count_bytes : List ℕ)
    → header ≡ header_from code number_bytes count_bytes → code ≡ code_of k → number_bytes ≡ big_bytes 4 number → count_bytes ≡ big_bytes 2 count
    → header ++ rest ≡ header_bytes k number count ++ rest
unfolding header_bytes
header_written header rest k number count code number_bytes count_bytes h code-is number-is count-is =
    ap (λ (x : List ℕ). x ++ rest) h
    ∙ ap (λ (x : ℕ). header_from x number_bytes count_bytes ++ rest) code-is
    ∙ ap (λ (x : List ℕ). header_from (code_of k) x count_bytes ++ rest) number-is
    ∙ ap (λ (x : List ℕ). header_from (code_of k) (big_bytes 4 number) x ++ rest) count-is

rows_bytes_more : (rows : List Row) (i : ℕ) (d : Row) → i < length rows → rows_bytes (take (i + 1) rows) ≡ rows_bytes (take i rows) ++ row_bytes (get_or rows i d)
rows_bytes_more rows i d lt =
    ap rows_bytes (take_more rows i d lt)
    ∙ flat_map-append row_bytes (take i rows) (get_or rows i d ∷ [])
    ∙ ap (λ (x : List ℕ). rows_bytes (take i rows) ++ x) (flat_map-cons row_bytes (get_or rows i d) [] ∙ append-nil (row_bytes (get_or rows i d)))

-- one row more, behind those before it
pub row_written : (rows : List Row) (i : ℕ) (d : Row) (start out new : List ℕ) → i < length rows → 56 * length rows ≤ length start → length out ≡ length start
    → out ≡ rows_bytes (take i rows) ++ drop (56 * i) start
    → new ≡ row_bytes (get_or rows i d) ++ drop 56 (take (length out - 56 * i) (drop (56 * i) out))
    → put_mid (56 * i) (length out - 56 * i) out new ≡ rows_bytes (take (i + 1) rows) ++ drop (56 * (i + 1)) start
row_written rows i d start out new lt room len so_far written =
    let before : List ℕ = rows_bytes (take i rows) in
    let row : List ℕ = row_bytes (get_or rows i d) in
    let rest : List ℕ = drop (56 * (i + 1)) start in
    let before-len : length before ≡ 56 * i = omega (arith, length-rows_bytes (take i rows), length-take i rows) in
    let front : take (56 * i) out ≡ before = ap (take (56 * i)) so_far ∙ take_at before (drop (56 * i) start) (56 * i) before-len in
    let back : drop (56 * i) out ≡ drop (56 * i) start = ap (drop (56 * i)) so_far ∙ drop_at before (drop (56 * i) start) (56 * i) before-len in
    let whole : take (length out - 56 * i) (drop (56 * i) out) ≡ drop (56 * i) start = take_all (length out - 56 * i) (drop (56 * i) out) (omega (arith, length-drop (56 * i) out)) ∙ back in
    let place : 56 * i + 56 ≡ 56 * (i + 1) = omega arith in
    let behind : drop 56 (take (length out - 56 * i) (drop (56 * i) out)) ≡ rest = ap (drop 56) whole ∙ drop-drop 56 (56 * i) start ∙ ap (λ (n : ℕ). drop n start) place in
    let nothing : drop (length out - 56 * i) (drop (56 * i) out) ≡ [] = drop_all (length out - 56 * i) (drop (56 * i) out) (omega (arith, length-drop (56 * i) out)) in
    let new-is : new ≡ row ++ rest = written ∙ ap (λ (x : List ℕ). row ++ x) behind in
    ap (λ (x : List ℕ). x ++ (new ++ drop (length out - 56 * i) (drop (56 * i) out))) front
    ∙ ap (λ (x : List ℕ). before ++ (new ++ x)) nothing
    ∙ ap (λ (x : List ℕ). before ++ x) (append-nil new ∙ new-is)
    ∙ sym (append_assoc before row rest)
    ∙ ap (λ (x : List ℕ). x ++ rest) (sym (rows_bytes_more rows i d lt))
