-- A run as one stream of bytes: the mark 53 43 52 53, the version 01, the program (0 to 4), the cores and the history in
-- a byte each; then the messages of the frames that are delivered, in growing order of their numbers; and last the end,
-- with the number of the last frame. The messages are spelled as in a lane.
use Rattle.std.specs.Prelude.{ℕ, List, [], ◌∷◌, ◌++◌, if◌then◌else◌}
use Rattle.std.specs.List.{flat_map, range_with_len}
use Rattle.scr_plan.specs.Plan.{Plan, frame_count}
use Rattle.scr_plan.specs.Delivered.{delivers}
use Rattle.scr_wire.specs.declared.message.Message.TheVariants.{End}
use Rattle.scr_wire.specs.Spelling.{spelling}
use Rattle.scr_wire.specs.Lane.{frame}

-- what stands in front
abbrev pub stream_header : (program cores history : ℕ) → List ℕ
stream_header program cores history = 0x53 ∷ 0x43 ∷ 0x52 ∷ 0x53 ∷ 1 ∷ program ∷ cores ∷ history ∷ []

-- the message of frame n, where it is delivered
unfoldable pub frame_at : Plan → (n : ℕ) → List ℕ
frame_at plan n = if delivers plan n then spelling (frame plan n) else []

-- the messages of all frames that are delivered
abbrev pub frames_of : Plan → List ℕ
frames_of plan = flat_map (frame_at plan) (range_with_len 1 (frame_count plan))

-- the stream of a plan
abbrev pub streamed : (program : ℕ) → Plan → List ℕ
streamed program plan =
    stream_header program plan.cores plan.history ++ (frames_of plan ++ spelling (End (frame_count plan)))
