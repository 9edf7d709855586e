-- Rows: what is read is what was written, and what was written is read again.
use Rattle.std.proofs.Common.{◌≡◌, ℕ, zero, suc, ◌+◌, ◌*◌, ◌<◌, ◌≤◌, List, [], ◌∷◌, ◌++◌, length, get_or, drop, All, Some, refl, sym, ap, ◌∙◌, append_assoc, arith}
use Rattle.std.specs.Prelude.{slice_get}
use Rattle.std.specs.List.{flat_map, AllByRecursion}
use Rattle.std.proofs.lemmas.List.{drop_at, length-append, length-drop, drop-drop}
use Rattle.std.proofs.lemmas.List.Concat.{flat_map-cons}
use Rattle.std.proofs.lemmas.List.Elements.{All-nil, All-cons}
use Rattle.byteorder.specs.Endian.{big_bytes}
use Rattle.byteorder.specs.Numbers.{big_from-lt}
use Rattle.scr_base.specs.declared.row.Row.{Row}
use Rattle.scr_base.specs.RowWords.{row_words}
use Rattle.scr_wire.specs.Spelling.{row_bytes, rows_bytes, IsRow}
use Rattle.scr_wire.specs.Reading.{word_at, row_in, rows_in}
use Rattle.scr_wire.proofs.WordsRead.{IsBytes, IsBytes-drop, words_in, words_back, words_again}

-- the words of the row in front
words_of_row_in : (bytes : List ℕ) → row_words (row_in bytes) ≡ words_in 7 bytes
unfolding word_at row_in words_in
words_of_row_in bytes = simp drop-drop refl

-- a row by its words
row_of : List ℕ → Row
row_of ws = record { w0 = get_or ws 0 0; w1 = get_or ws 1 0; w2 = get_or ws 2 0; w3 = get_or ws 3 0; w4 = get_or ws 4 0; w5 = get_or ws 5 0; w6 = get_or ws 6 0 }

same_row : (one other : Row) → row_words one ≡ row_words other → one ≡ other
unfolding row_of
same_row one other e = ap row_of e

pub length-row_bytes : (row : Row) → length (row_bytes row) ≡ 56
unfolding row_bytes
length-row_bytes row = refl

-- the row that stands in the bytes of a row
pub row_again : (row : Row) (rest : List ℕ) → IsRow row → row_in (row_bytes row ++ rest) ≡ row
unfolding row_bytes IsRow
row_again row rest fits = same_row (row_in (row_bytes row ++ rest)) row (words_of_row_in (row_bytes row ++ rest) ∙ words_again (row_words row) rest fits)

-- the bytes of the row that stands in bytes, and what stands behind them
pub row_back : (bytes : List ℕ) → 56 ≤ length bytes → IsBytes bytes → row_bytes (row_in bytes) ++ drop 56 bytes ≡ bytes
unfolding row_bytes
row_back bytes le fits = ap (λ (x : List ℕ). flat_map (big_bytes 8) x ++ drop 56 bytes) (words_of_row_in bytes) ∙ words_back 7 bytes le fits

-- the row that stands in bytes has words of 64 bits
pub row_in-fits : (bytes : List ℕ) → IsBytes bytes → IsRow (row_in bytes)
unfolding word_at row_in IsRow
row_in-fits bytes fits =
    let word = λ (place : ℕ). big_from-lt 0 8 (drop place bytes) (IsBytes-drop place bytes fits) in
    (big_from-lt 0 8 bytes fits, (word 8, (word 16, (word 24, (word 32, (word 40, (word 48, tt)))))))

-- ---- rows, one after the other

pub length-rows_in : (count : ℕ) (bytes : List ℕ) → length (rows_in count bytes) ≡ count
unfolding rows_in
length-rows_in zero bytes = refl
length-rows_in (suc count) bytes = ap suc (length-rows_in count (drop 56 bytes))

pub length-rows_bytes : (rows : List Row) → length (rows_bytes rows) ≡ 56 * length rows
length-rows_bytes [] = refl
length-rows_bytes (row ∷ rows) =
    let first = length-row_bytes row in
    let behind = length-rows_bytes rows in
    rw flat_map-cons (omega (arith, length-append (row_bytes row) (rows_bytes rows)))

-- the rows that stand in the bytes of rows
pub rows_again : (rows : List Row) → AllByRecursion IsRow rows → rows_in (length rows) (rows_bytes rows) ≡ rows
unfolding rows_in
rows_again [] fits = refl
rows_again (row ∷ rows) fits =
    let regrouped : rows_bytes (row ∷ rows) ≡ row_bytes row ++ rows_bytes rows = flat_map-cons row_bytes row rows in
    ap (rows_in (suc (length rows))) regrouped
    ∙ ap (λ (x : Row). x ∷ rows_in (length rows) (drop 56 (row_bytes row ++ rows_bytes rows))) (row_again row (rows_bytes rows) fits.0)
    ∙ ap (λ (x : List ℕ). row ∷ rows_in (length rows) x) (drop_at (row_bytes row) (rows_bytes rows) 56 (length-row_bytes row))
    ∙ ap (λ (x : List Row). row ∷ x) (rows_again rows fits.1)

-- the bytes of the rows that stand in bytes, and what stands behind them
pub rows_back : (count : ℕ) (bytes : List ℕ) → 56 * count ≤ length bytes → IsBytes bytes → rows_bytes (rows_in count bytes) ++ drop (56 * count) bytes ≡ bytes
unfolding rows_in
rows_back zero bytes le fits = refl
rows_back (suc count) bytes le fits =
    let behind : List ℕ = rows_bytes (rows_in count (drop 56 bytes)) in
    let place : 56 * suc count ≡ 56 + 56 * count = omega arith in
    let rest = rows_back count (drop 56 bytes) (omega (arith, length-drop 56 bytes)) (IsBytes-drop 56 bytes fits) in
    ap (λ (x : List ℕ). x ++ drop (56 * suc count) bytes) (flat_map-cons row_bytes (row_in bytes) (rows_in count (drop 56 bytes)))
    ∙ append_assoc (row_bytes (row_in bytes)) behind (drop (56 * suc count) bytes)
    ∙ ap (λ (k : ℕ). row_bytes (row_in bytes) ++ (behind ++ drop k bytes)) place
    ∙ ap (λ (x : List ℕ). row_bytes (row_in bytes) ++ (behind ++ x)) (sym (drop-drop (56 * count) 56 bytes))
    ∙ ap (λ (x : List ℕ). row_bytes (row_in bytes) ++ x) rest
    ∙ row_back bytes (omega arith) fits

-- rows that stand in bytes have words of 64 bits
pub rows_in-fit : (count : ℕ) (bytes : List ℕ) → IsBytes bytes → All IsRow (rows_in count bytes)
unfolding rows_in
rows_in-fit zero bytes fits = All-nil IsRow
rows_in-fit (suc count) bytes fits =
    All-cons IsRow (row_in bytes) (rows_in count (drop 56 bytes)) (row_in-fits bytes fits) (rows_in-fit count (drop 56 bytes) (IsBytes-drop 56 bytes fits))

-- the row at a place
pub slice_get-rows_in : (count i : ℕ) (bytes : List ℕ) → i < count → slice_get (rows_in count bytes) i ≡ Some (row_in (drop (56 * i) bytes))
unfolding rows_in
slice_get-rows_in zero i bytes lt = absurd (omega arith)
slice_get-rows_in (suc count) zero bytes lt = refl
slice_get-rows_in (suc count) (suc i) bytes lt =
    let place : 56 + 56 * i ≡ 56 * suc i = omega arith in
    slice_get-rows_in count i (drop 56 bytes) (omega arith) ∙ ap (λ (x : List ℕ). Some (row_in x)) (drop-drop (56 * i) 56 bytes ∙ ap (λ (n : ℕ). drop n bytes) place)
