-- The reading of a stream, from all its bytes at once: the plan that it stands for, or the first test that fails.
use Rattle.std.specs.Prelude.{◌≡◌, ◌⊎◌, ℕ, ◌<◌, ◌≤◌, false, not, List, [], ◌∷◌, ◌++◌, length, drop, map, filter, Some, unwrap_or, Result, Ok, Err}
use Rattle.std.specs.List.{range_with_len}
use Rattle.scr_base.specs.declared.row.Row.{Row}
use Rattle.scr_plan.specs.Limits.{most_packets}
use Rattle.scr_plan.specs.Plan.{Plan}
use Rattle.scr_wire.specs.declared.message.Message.TheVariants.{Frame, End}
use Rattle.scr_wire.specs.Spelling.{HasSpelling, spelling}
use Rattle.scr_stream.specs.Frames.{StreamFrame, frame_bytes, row_in, has_frame, last_number}
use Rattle.scr_stream.specs.Tests.{shape_of, rows_due, differs, entry_fault}
use Rattle.scr_stream.specs.declared.error.StreamError.{StreamError}
use Rattle.scr_stream.specs.declared.header.Shape.{Shape}

-- a frame may stand behind these
pub record Follows (history : ℕ) (frames : List StreamFrame) (it : StreamFrame) : Type 0 where
  pub has_spelling : HasSpelling (Frame it.number it.rows)
  pub few : it.number ≤ most_packets
  pub later : last_number frames < it.number
  pub all_rows : length it.rows ≡ rows_due history it.number
  pub agrees : differs frames it ≡ false

-- these frames stand in front of the bytes, each behind those before it and some earlier ones, and the rest behind them
abbrev pub BeginWith : (history : ℕ) → (earlier frames : List StreamFrame) → (bytes rest : List ℕ) → Type 0
BeginWith history earlier [] bytes rest = bytes ≡ rest
BeginWith history earlier (it ∷ frames) bytes rest =
    (behind : List ℕ) × (bytes ≡ frame_bytes it ++ behind) × Follows history earlier it
    × BeginWith history (earlier ++ it ∷ []) frames behind rest

-- the row of a packet that no frame carries
abbrev pub no_row : Row
no_row = record { w0 = 0; w1 = 0; w2 = 0; w3 = 0; w4 = 0; w5 = 0; w6 = 0 }

-- the numbers up to the last without a frame
abbrev pub missing_from : List StreamFrame → (last : ℕ) → List ℕ
missing_from frames last = filter (λ n. not (has_frame frames n)) (range_with_len 1 last)

-- the rows of the packets up to the last: those that frames carry, and zeros for the others
abbrev pub rows_from : List StreamFrame → (last : ℕ) → List Row
rows_from frames last = map (λ p. unwrap_or (row_in frames p) no_row) (range_with_len 1 last)

-- the plan that frames and the number of the end stand for
abbrev pub plan_from : Shape → List StreamFrame → (last : ℕ) → Plan
plan_from shape frames last = record {
  rows = rows_from frames last;
  cores = shape.cores;
  history = shape.history;
  link = record { drops = []; repeats = []; delays = []; missing = missing_from frames last };
}

-- a header, frames and an end spell all the bytes, and this is what they stand for
pub record IsStream (program : ℕ) (bytes : List ℕ) (plan : Plan) : Type 0 where
  pub shape : Shape
  pub header : shape_of program bytes ≡ Ok shape
  pub frames : List StreamFrame
  pub last : ℕ
  pub within : last_number frames ≤ last
  pub few : last ≤ most_packets
  pub spelled : BeginWith shape.history [] frames (drop 8 bytes) (spelling (End last))
  pub told : plan ≡ plan_from shape frames last

-- a header and as many frames as there are stand before a rest whose first entry fails: the first test that
-- fails there is this one
pub record IsCutShort (program : ℕ) (bytes : List ℕ) (error : StreamError) : Type 0 where
  pub shape : Shape
  pub header : shape_of program bytes ≡ Ok shape
  pub frames : List StreamFrame
  pub rest : List ℕ
  pub spelled : BeginWith shape.history [] frames (drop 8 bytes) rest
  pub first_test : entry_fault shape.history frames rest ≡ Some error

-- the reading of these bytes as a stream of this program
abbrev pub IsReading : (program : ℕ) → List ℕ → Result Plan StreamError → Type 0
IsReading program bytes (Ok plan) = IsStream program bytes plan
IsReading program bytes (Err error) = (shape_of program bytes ≡ Err error) ⊎ IsCutShort program bytes error
