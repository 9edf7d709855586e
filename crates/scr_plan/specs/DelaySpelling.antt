-- A list of delays as text. It is empty, or pieces parted by commas. A piece is `n:d`, where n and d are decimal numbers
-- of any length, with any zeros in front: frame n comes d steps late.
use Rattle.std.specs.Prelude.{◌≡◌, ℕ, ◌<◌, Bool, ◌&&◌, ◌||◌, List, [], ◌∷◌, length, take, map, Result, Ok, Err, ◌==◌, nat_lt, nat_le, if◌then◌else◌}
use Rattle.std.specs.List.{list_any, slice_index_or}
use Rattle.std.specs.Result.{IsOk}
use Rattle.scr_base.specs.Numbers.{is_number, number_of}
use Rattle.scr_plan.specs.Drops.{greatest_number, most_ranges}
use Rattle.scr_plan.specs.Delays.{greatest_delay}
use Rattle.scr_plan.specs.Spelling.{pieces_of, has_byte, in_front, behind, place_of}
use Rattle.scr_plan.specs.declared.delays.FrameDelay.{FrameDelay}
use Rattle.scr_plan.specs.declared.reading_delays.DelayCause.{DelayCause}
use Rattle.scr_plan.specs.declared.reading_delays.DelayError.{DelayError}
use Rattle.scr_plan.specs.declared.reading_delays.DelayError.TheVariants.{Refused, OutOfMemory}
use Rattle.scr_plan.specs.declared.reading_delays.DelayCause.TheVariants.{Empty, Digit, Zero, TooLarge, Twice, Pieces}

-- whether the two numbers of a piece are 0 or too large
abbrev pub has_zero : (frame steps : ℕ) → Bool
has_zero frame steps = (frame == 0) || (steps == 0)

abbrev pub has_large : (frame steps : ℕ) → Bool
has_large frame steps = nat_lt greatest_number frame || nat_lt greatest_delay steps

-- the delay of two numbers behind pieces that name these frames, or the first cause of refusal, in this order
abbrev pub delay_with : (earlier : List ℕ) → (frame steps : ℕ) → Result FrameDelay DelayCause
delay_with earlier frame steps =
    if has_zero frame steps then Err Zero else
    (if has_large frame steps then Err TooLarge else
    (if list_any (λ n. n == frame) earlier then Err Twice else
    (if nat_le most_ranges (length earlier) then Err Pieces
    else Ok (record { frame = frame; steps = steps }))))

-- the same of two texts, which are to be numbers
abbrev pub pair_read : (earlier : List ℕ) → (frame steps : List ℕ) → Result FrameDelay DelayCause
pair_read earlier frame steps =
    if is_number frame && is_number steps then delay_with earlier (number_of frame) (number_of steps) else Err Digit

-- and of a piece, which is to have a `:`
abbrev pub delay_read : (earlier : List ℕ) → (piece : List ℕ) → Result FrameDelay DelayCause
delay_read earlier piece =
    if length piece == 0 then Err Empty else
    (if has_byte 58 piece then pair_read earlier (in_front 58 piece) (behind 58 piece) else Err Digit)

-- the frame that a piece names
abbrev pub named_frame : List ℕ → ℕ
named_frame piece = number_of (in_front 58 piece)

-- what the piece at this place in the list of pieces reads as
abbrev pub delay_read_at : List ℕ → ℕ → Result FrameDelay DelayCause
delay_read_at text i = delay_read (map named_frame (take i (pieces_of text))) (slice_index_or (pieces_of text) i [])

-- a text spells a list of delays: both are empty, or each piece reads as the delay at its place
pub record SpellsDelayPieces (text : List ℕ) (delays : List FrameDelay) : Type 0 where
  pub count : length delays ≡ length (pieces_of text)
  pub each : (i : ℕ) (d : FrameDelay) → i < length delays → delay_read_at text i ≡ Ok (slice_index_or delays i d)

abbrev pub SpellsDelays : List ℕ → List FrameDelay → Type 0
SpellsDelays [] delays = delays ≡ []
SpellsDelays (byte ∷ text) delays = SpellsDelayPieces (byte ∷ text) delays

-- a text is refused: it isn't empty, and this is the cause and the place of its first piece that is refused
pub record IsDelayRefused (text : List ℕ) (cause : DelayCause) (place : ℕ) : Type 0 where
  pub some : 0 < length text
  pub faulty : ℕ
  pub within : faulty < length (pieces_of text)
  pub before : (i : ℕ) → i < faulty → IsOk (delay_read_at text i)
  pub why : delay_read_at text faulty ≡ Err cause
  pub where_it_stands : place ≡ place_of text faulty

-- the error of a text that isn't read
abbrev pub DelaysRefusedBy : List ℕ → DelayError → Type 0
DelaysRefusedBy text (Refused cause place) = IsDelayRefused text cause place
DelaysRefusedBy text (OutOfMemory want) = Unit {0}
