-- What a sequencer keeps: how many cores there are, how many packets before its own a frame carries, how many rows were
-- given, the last of them, as many as the next frames may carry, and the frames that it holds back for later steps.
use Rattle.std.specs.Prelude.{◌≡◌, ℕ, ◌+◌, ◌≤◌, Bool, true, false, List, [], ◌∷◌, ◌++◌, length, min, drop, replicate, Option, Some, None, slice_index_or, slice_set, ◌==◌, if◌then◌else◌}
use Rattle.std.specs.Option.{option_to_list}
use Rattle.circular_buffer.specs.Buffer.{keep_last}
use Rattle.scr_base.specs.declared.row.Row.{Row}
use Rattle.scr_plan.specs.Limits.{most_packets, most_cores, longest_history}
use Rattle.scr_plan.specs.Delays.{greatest_delay}
use Rattle.scr_plan.specs.Link.{delay_in}
use Rattle.scr_plan.specs.Order.{core_number}
use Rattle.scr_plan.specs.declared.link.Fate.{Fate}
use Rattle.scr_plan.specs.declared.link.Fate.TheVariants.{Lost, Once, Twice}
use Rattle.scr_wire.specs.declared.message.Message.TheVariants.{Frame}
use Rattle.scr_wire.specs.Spelling.{spelling}

-- a frame on its way to its core: its packet, and a second one where it comes twice
pub record Arriving : Type 0 where
  pub core : ℕ
  pub packet : List ℕ
  pub copy : Option (List ℕ)

-- of the frames held back, those of each later step, from the next step on
pub record Sequence : Type 0 where
  pub cores : ℕ
  pub history : ℕ
  pub taken : ℕ
  pub rows : List Row
  pub held : List (List Arriving)

-- for how many steps a sequencer holds frames; nothing is held for the last of them, which makes room for the next frame
abbrev pub steps_ahead : ℕ
steps_ahead = greatest_delay + 1

-- what is true of every sequencer
pub record IsSequence (s : Sequence) : Type 0 where
  pub a_core : 1 ≤ s.cores
  pub few_cores : s.cores ≤ most_cores
  pub short_history : s.history ≤ longest_history
  pub few_rows : s.taken ≤ most_packets
  pub last_rows : length s.rows ≡ min s.taken (s.history + 1)
  pub steps : length s.held ≡ steps_ahead
  pub last_step : slice_index_or s.held greatest_delay [] ≡ []

-- no frame is held for any step
unfoldable pub nothing_held : List (List Arriving)
nothing_held = replicate steps_ahead []

-- no row was given yet
abbrev pub begun : (cores history : ℕ) → Sequence
begun cores history = record { cores = cores; history = history; taken = 0; rows = []; held = nothing_held }

-- the rows that the next frame carries, its own last
abbrev pub carried_next : Sequence → Row → List Row
carried_next s row = keep_last (s.history + 1) (s.rows ++ row ∷ [])

-- the next frame, with as many packets as its fate says
abbrev pub arriving : Sequence → Row → (twice : Bool) → Arriving
arriving s row twice =
    record {
      core = core_number s.cores (s.taken + 1);
      packet = spelling (Frame (s.taken + 1) (carried_next s row));
      copy = if twice then Some (spelling (Frame (s.taken + 1) (carried_next s row))) else None;
    }

-- a frame put behind those that are held for a step
abbrev pub put : List (List Arriving) → (step : ℕ) → Arriving → List (List Arriving)
put held step it = slice_set held step (slice_index_or held step [] ++ it ∷ [])

-- the next frame, where it arrives
abbrev pub next_frame : Sequence → Row → Fate → Option Arriving
next_frame s row Lost = None
next_frame s row (Once delay) = Some (arriving s row false)
next_frame s row (Twice delay) = Some (arriving s row true)

-- the frame where it comes in its turn, and what is held where it comes so many steps later
abbrev pub in_turn : (delay : ℕ) → Option Arriving → Option Arriving
in_turn delay frame = if delay == 0 then frame else None

abbrev pub held_with : List (List Arriving) → (delay : ℕ) → Option Arriving → List (List Arriving)
held_with held delay None = held
held_with held delay (Some it) = if delay == 0 then held else put held delay it

-- what goes out at the next step: its own frame, and what is held for it
abbrev pub due : Sequence → Row → Fate → List Arriving
due s row fate = option_to_list (in_turn (delay_in fate) (next_frame s row fate)) ++ slice_index_or s.held 0 []

-- one row more
abbrev pub after : Sequence → Row → Fate → Sequence
after s row fate = record {
  cores = s.cores;
  history = s.history;
  taken = s.taken + 1;
  rows = carried_next s row;
  held = drop 1 (held_with s.held (delay_in fate) (next_frame s row fate)) ++ [] ∷ [];
}
