-- The pieces of a drop list, read one after another.
use Rattle.std.proofs.Common.{◌≡◌, ℕ, suc, ◌+◌, ◌<◌, ◌≤◌, List, [], ◌∷◌, ◌++◌, length, get_or, Bool, true, false, cond, eqb, leb, ltb, not, Result, Ok, Err, inl, inr, arith, refl, sym, ap, ◌∙◌, subst}
use Rattle.std.specs.List.{slice_split, onto_first, sum_by}
use Rattle.std.specs.Result.{IsOk}
use Rattle.std.proofs.lemmas.Bool.{cases_lt}
use Rattle.std.proofs.lemmas.Bool.Decides.{nat_tests}
use Rattle.std.proofs.lemmas.List.{get_or_default, get_or_append_left, get_or_push, length_push}
use Rattle.std.proofs.lemmas.List.Sums.{sum_by-cons, sum_by_more, sum_by-take-le}
use Rattle.scr_base.specs.Numbers.{number_of}
use Rattle.scr_plan.specs.Drops.{IsRange, IsDropList, most_ranges}
use Rattle.scr_plan.specs.Spelling.{Texts, pieces_of, piece_read, numbers_read, named_range, texts_of, are_numbers, has_zero, has_large, read_at, place_of, SpellsRanges, IsRefused}
use Rattle.scr_plan.specs.declared.drops.DropRange.{DropRange}
use Rattle.scr_plan.specs.declared.reading.DropCause.{DropCause}
use Rattle.scr_plan.specs.declared.reading.DropCause.TheVariants.{Digit, Zero, TooLarge, Range, Pieces}

-- these ranges are what the first pieces read as
abbrev pub ReadsTo : List ℕ → List DropRange → Type 0
ReadsTo text ranges = (i : ℕ) (d : DropRange) → i < length ranges → read_at text i ≡ Ok (get_or ranges i d)

-- the piece at a place, whatever stands past the end
read_at-piece : (text piece : List ℕ) (i : ℕ) → i < length (pieces_of text) → piece ≡ get_or (pieces_of text) i piece
    → read_at text i ≡ piece_read i piece
read_at-piece text piece i below same =
    ap (piece_read i) (get_or_default (pieces_of text) i [] piece below ∙ sym same)

-- one piece more
pub ReadsTo-more : (text : List ℕ) (ranges : List DropRange) (piece : List ℕ) (range : DropRange) (k : ℕ)
    → length ranges ≡ k → k < length (pieces_of text) → piece ≡ get_or (pieces_of text) k piece → Ok range ≡ piece_read k piece
    → ReadsTo text ranges → ReadsTo text (ranges ++ range ∷ [])
ReadsTo-more text ranges piece range k count below same read before = λ i d within.
    elim (cases_lt i (length ranges)) [
      | inl front ↦ before i d front ∙ ap Ok (sym (get_or_append_left ranges (range ∷ []) d i front))
      | inr back ↦ (
          let at : k ≡ i = omega (arith, length_push ranges range) in
          let here : read_at text k ≡ Ok range = read_at-piece text piece k below same ∙ sym read in
          let there : get_or (ranges ++ range ∷ []) i d ≡ range = get_or_push ranges range d i (count ∙ at) in
          ap (read_at text) (sym at) ∙ here ∙ ap Ok (sym there))
    ]

-- the first piece that is refused
pub IsRefused-here : (text : List ℕ) (ranges : List DropRange) (piece : List ℕ) (cause : DropCause) (place k : ℕ)
    → 0 < length text → length ranges ≡ k → k < length (pieces_of text) → piece ≡ get_or (pieces_of text) k piece
    → Err cause ≡ piece_read k piece → ReadsTo text ranges → place ≡ place_of text k → IsRefused text cause place
IsRefused-here text ranges piece cause place k some count below same read before at = record {
  some = some;
  faulty = k;
  within = below;
  before = λ i front.
      let d : DropRange = record { first = 0; last = 0; step = 0 } in
      let is : read_at text i ≡ Ok (get_or ranges i d) = before i d (omega arith) in
      subst IsOk (sym is) refl;
  why = read_at-piece text piece k below same ∙ sym read;
  where_it_stands = at;
}

-- the place of the next piece, which is no further than one byte behind the text
pub place_of-more : (text piece : List ℕ) (k : ℕ) → k < length (pieces_of text) → piece ≡ get_or (pieces_of text) k piece
    → place_of text (k + 1) ≡ place_of text k + (length piece + 1)
place_of-more text piece k below same =
    sum_by_more (λ (p : List ℕ). length p + 1) (pieces_of text) k piece below
    ∙ ap (λ (p : List ℕ). place_of text k + (length p + 1)) (sym same)

-- all pieces with the commas between them are the text
sum_by-onto_first : (x : ℕ) (parts : List (List ℕ)) → 0 < length parts
    → sum_by (λ p. length p + 1) (onto_first x parts) ≡ sum_by (λ p. length p + 1) parts + 1
sum_by-onto_first x [] some = absurd (omega arith)
sum_by-onto_first x (part ∷ parts) some =
    let longer : length (x ∷ part) ≡ suc (length part) = refl in
    omega (arith, longer, sum_by-cons (λ (p : List ℕ). length p + 1) (x ∷ part) parts, sum_by-cons (λ (p : List ℕ). length p + 1) part parts)

length-onto_first : (x : ℕ) (parts : List (List ℕ)) → 0 < length (onto_first x parts)
length-onto_first x [] = omega arith
length-onto_first x (part ∷ parts) = omega arith

some_pieces : (p : ℕ → Bool) (xs : List ℕ) → 0 < length (slice_split p xs)
some_pieces p [] = omega arith
some_pieces p (x ∷ xs) =
    elim (p x) as (λ b. 0 < length (cond b ([] ∷ slice_split p xs) (onto_first x (slice_split p xs)))) [
      | true ↦ omega arith
      | false ↦ length-onto_first x (slice_split p xs)
    ]

sum_by-pieces : (p : ℕ → Bool) (xs : List ℕ) → sum_by (λ piece. length piece + 1) (slice_split p xs) ≡ length xs + 1
sum_by-pieces p [] = omega arith
sum_by-pieces p (x ∷ xs) =
    let before = sum_by-pieces p xs in
    let longer : length (x ∷ xs) ≡ suc (length xs) = refl in
    elim (p x) as (λ b. sum_by (λ piece. length piece + 1) (cond b ([] ∷ slice_split p xs) (onto_first x (slice_split p xs))) ≡ length (x ∷ xs) + 1) [
      | true ↦ omega (arith, before, longer, sum_by-cons (λ (piece : List ℕ). length piece + 1) [] (slice_split p xs))
      | false ↦ omega (arith, before, longer, sum_by-onto_first x (slice_split p xs) (some_pieces p xs))
    ]

pub place_of-fits : (text : List ℕ) (k : ℕ) → place_of text k ≤ length text + 1
place_of-fits text k =
    omega (arith, sum_by-take-le (λ (piece : List ℕ). length piece + 1) (pieces_of text) k, sum_by-pieces (λ byte. eqb byte 44) text)

-- all pieces were read
pub SpellsRanges-all : (text : List ℕ) (ranges : List DropRange) → 0 < length text → length ranges ≡ length (pieces_of text)
    → ReadsTo text ranges → SpellsRanges text ranges
SpellsRanges-all [] ranges some count reads = absurd (omega arith)
SpellsRanges-all (byte ∷ text) ranges some count reads = record { count = count; each = reads }

-- a piece that reads as a range has its numbers within bounds, and fewer than 256 pieces before it
refused-unless : (b : Bool) (cause : DropCause) (rest : Result DropRange DropCause) (range : DropRange)
    → cond b (Err cause) rest ≡ Ok range → (b ≡ false) × (rest ≡ Ok range)
refused-unless true cause rest range same = absurd cc
refused-unless false cause rest range same = (refl, same)

IsRange-named : (texts : Texts) → has_zero texts ≡ false → has_large texts ≡ false
    → ltb (number_of texts.last) (number_of texts.first) ≡ false → IsRange (named_range texts)
IsRange-named texts some small order = record {
  first = grind (arith, nat_tests);
  order = grind (arith, nat_tests);
  last = grind (arith, nat_tests);
  step = grind (arith, nat_tests);
  step_above = grind (arith, nat_tests);
}

Ok-same : (a b : DropRange) (x y : Result DropRange DropCause) → x ≡ Ok a → y ≡ Ok b → x ≡ y → a ≡ b
Ok-same a b x y is_a is_b same = cc

numbers-read : (before : ℕ) (texts : Texts) (range : DropRange) → numbers_read before texts ≡ Ok range → IsRange range × (before < most_ranges)
numbers-read before texts range read =
    let few_of : Result DropRange DropCause = cond (leb most_ranges before) (Err Pieces) (Ok (named_range texts)) in
    let order_of : Result DropRange DropCause = cond (ltb (number_of texts.last) (number_of texts.first)) (Err Range) few_of in
    let small_of : Result DropRange DropCause = cond (has_large texts) (Err TooLarge) order_of in
    let some_of : Result DropRange DropCause = cond (has_zero texts) (Err Zero) small_of in
    let digit = refused-unless (not (are_numbers texts)) Digit some_of range read in
    let zero_free = refused-unless (has_zero texts) Zero small_of range digit.1 in
    let small = refused-unless (has_large texts) TooLarge order_of range zero_free.1 in
    let order = refused-unless (ltb (number_of texts.last) (number_of texts.first)) Range few_of range small.1 in
    let few = refused-unless (leb most_ranges before) Pieces (Ok (named_range texts)) range order.1 in
    let named : named_range texts ≡ range = Ok-same (named_range texts) range (Ok (named_range texts)) (Ok range) refl refl few.1 in
    let a : has_zero texts ≡ false = zero_free.0 in
    let b : has_large texts ≡ false = small.0 in
    let c : ltb (number_of texts.last) (number_of texts.first) ≡ false = order.0 in
    let d : leb most_ranges before ≡ false = few.0 in
    (subst IsRange named (IsRange-named texts a b c), grind (arith, nat_tests, d))

piece-read : (before : ℕ) (piece : List ℕ) (range : DropRange) → piece_read before piece ≡ Ok range → IsRange range × (before < most_ranges)
piece-read before piece range read = numbers-read before (texts_of piece) range (refused-unless _ _ _ _ read).1

few-from_reads : (text : List ℕ) (ranges : List DropRange) → ReadsTo text ranges → length ranges ≤ most_ranges
few-from_reads text [] reads = omega arith
few-from_reads text (range ∷ ranges) reads =
    let more : length (range ∷ ranges) ≡ suc (length ranges) = refl in
    let k : ℕ = length ranges in
    let last : k < most_ranges = (piece-read k (get_or (pieces_of text) k []) (get_or (range ∷ ranges) k range) (reads k range (omega (arith, more)))).1 in
    omega (arith, more, last)

-- what a text spells is a drop list
pub IsDropList-from_reads : (text : List ℕ) (ranges : List DropRange) → ReadsTo text ranges → IsDropList ranges
IsDropList-from_reads text ranges reads = record {
  each = λ i d within. (piece-read i (get_or (pieces_of text) i []) (get_or ranges i d) (reads i d within)).0;
  few = few-from_reads text ranges reads;
}

pub IsDropList-none : IsDropList []
IsDropList-none = record { each = λ i d within. absurd (omega arith); few = omega arith }

pub IsDropList-from_SpellsRanges : (text : List ℕ) (ranges : List DropRange) → SpellsRanges text ranges → IsDropList ranges
IsDropList-from_SpellsRanges [] ranges spells = subst IsDropList (sym spells) IsDropList-none
IsDropList-from_SpellsRanges (byte ∷ text) ranges spells = IsDropList-from_reads (byte ∷ text) ranges spells.each
