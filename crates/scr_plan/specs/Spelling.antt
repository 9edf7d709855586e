-- A drop list as text. It is empty, or pieces parted by commas. A piece is `a`, `a-b` or `a-b/s`, where a, b and s are
-- decimal numbers of any length, with any zeros in front.
use Rattle.std.specs.Prelude.{◌≡◌, ℕ, ◌+◌, ◌<◌, Bool, true, ◌&&◌, ◌||◌, not, List, [], ◌∷◌, length, take, sum_by, Result, Ok, Err, ◌==◌, nat_lt, nat_le, if◌then◌else◌}
use Rattle.std.specs.List.{slice_split, list_any, before_first, after_first, slice_index_or}
use Rattle.std.specs.Result.{IsOk}
use Rattle.scr_base.specs.Numbers.{is_number, number_of}
use Rattle.scr_plan.specs.Drops.{greatest_number, most_ranges}
use Rattle.scr_plan.specs.declared.drops.DropRange.{DropRange}
use Rattle.scr_plan.specs.declared.reading.DropCause.{DropCause}
use Rattle.scr_plan.specs.declared.reading.DropError.{DropError}
use Rattle.scr_plan.specs.declared.reading.DropError.TheVariants.{Refused, OutOfMemory}
use Rattle.scr_plan.specs.declared.reading.DropCause.TheVariants.{Empty, Digit, Zero, TooLarge, Range, Pieces}

-- the pieces of a text that isn't empty
abbrev pub pieces_of : List ℕ → List (List ℕ)
pieces_of text = slice_split (λ byte. byte == 44) text

-- whether a text has this byte, what stands in front of the first one, and what stands behind it
abbrev pub has_byte : ℕ → List ℕ → Bool
has_byte mark text = list_any (λ byte. byte == mark) text

abbrev pub in_front : ℕ → List ℕ → List ℕ
in_front mark text = before_first (λ byte. byte == mark) text

abbrev pub behind : ℕ → List ℕ → List ℕ
behind mark text = after_first (λ byte. byte == mark) text

-- a text is cut in two at the first of these bytes
pub record IsCut (mark : ℕ) (text front back : List ℕ) : Type 0 where
  pub has : has_byte mark text ≡ true
  pub front_is : front ≡ in_front mark text
  pub back_is : back ≡ behind mark text

-- the texts of the three numbers of a piece: `a` stands for `a-a`, and `a-b` for `a-b/1`
pub record Texts : Type 0 where
  pub first : List ℕ
  pub last : List ℕ
  pub step : List ℕ

abbrev pub one : List ℕ
one = 49 ∷ []

-- what stands behind the `-` is `b` or `b/s`
abbrev pub with_end : List ℕ → List ℕ → Texts
with_end first end =
    if has_byte 47 end then record { first = first; last = in_front 47 end; step = behind 47 end }
    else record { first = first; last = end; step = one }

abbrev pub texts_of : List ℕ → Texts
texts_of piece =
    if has_byte 45 piece then with_end (in_front 45 piece) (behind 45 piece)
    else record { first = piece; last = piece; step = one }

-- whether the three are numbers; whether one of them is 0; whether one of them is too large
abbrev pub are_numbers : Texts → Bool
are_numbers texts = is_number texts.first && (is_number texts.last && is_number texts.step)

abbrev pub has_zero : Texts → Bool
has_zero texts = (number_of texts.first == 0) || ((number_of texts.last == 0) || (number_of texts.step == 0))

abbrev pub has_large : Texts → Bool
has_large texts =
    nat_lt greatest_number (number_of texts.first)
    || (nat_lt greatest_number (number_of texts.last) || nat_lt greatest_number (number_of texts.step))

-- the range that three numbers name
abbrev pub named_range : Texts → DropRange
named_range texts = record { first = number_of texts.first; last = number_of texts.last; step = number_of texts.step }

-- the numbers of a piece behind so many other pieces: the range, or the first cause of refusal, in this order
abbrev pub numbers_read : ℕ → Texts → Result DropRange DropCause
numbers_read before texts =
    if not (are_numbers texts) then Err Digit else
    (if has_zero texts then Err Zero else
    (if has_large texts then Err TooLarge else
    (if nat_lt (number_of texts.last) (number_of texts.first) then Err Range else
    (if nat_le most_ranges before then Err Pieces
    else Ok (named_range texts)))))

abbrev pub piece_read : ℕ → List ℕ → Result DropRange DropCause
piece_read before piece = if length piece == 0 then Err Empty else numbers_read before (texts_of piece)

-- what the piece at this place in the list of pieces reads as
abbrev pub read_at : List ℕ → ℕ → Result DropRange DropCause
read_at text i = piece_read i (slice_index_or (pieces_of text) i [])

-- how many bytes stand before it: each piece in front of it, and the comma behind each of these
abbrev pub place_of : List ℕ → ℕ → ℕ
place_of text i = sum_by (λ piece. length piece + 1) (take i (pieces_of text))

-- a text spells a list of ranges: both are empty, or each piece reads as the range at its place
pub record SpellsPieces (text : List ℕ) (ranges : List DropRange) : Type 0 where
  pub count : length ranges ≡ length (pieces_of text)
  pub each : (i : ℕ) (d : DropRange) → i < length ranges → read_at text i ≡ Ok (slice_index_or ranges i d)

abbrev pub SpellsRanges : List ℕ → List DropRange → Type 0
SpellsRanges [] ranges = ranges ≡ []
SpellsRanges (byte ∷ text) ranges = SpellsPieces (byte ∷ text) ranges

-- a text is refused: it isn't empty, and this is the cause and the place of its first piece that is refused
pub record IsRefused (text : List ℕ) (cause : DropCause) (place : ℕ) : Type 0 where
  pub some : 0 < length text
  pub faulty : ℕ
  pub within : faulty < length (pieces_of text)
  pub before : (i : ℕ) → i < faulty → IsOk (read_at text i)
  pub why : read_at text faulty ≡ Err cause
  pub where_it_stands : place ≡ place_of text faulty

-- the error of a text that isn't read
abbrev pub RefusedBy : List ℕ → DropError → Type 0
RefusedBy text (Refused cause place) = IsRefused text cause place
RefusedBy text (OutOfMemory want) = Unit {0}
