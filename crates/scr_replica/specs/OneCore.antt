-- The one-core answer of a plan: one core takes the rows of the kept packets in order, each once, and the answer is the
-- verdict of each delivered frame's packet, and how many entries there are at the end. A program is given by its verdict
-- of a row that comes after a list of rows, and by its count of entries after such a list.
use Rattle.std.specs.Prelude.{ℕ, ◌-◌, List, length, take, Option, None, filter_map, if◌then◌else◌}
use Rattle.std.specs.List.{range_with_len, slice_get}
use Rattle.std.specs.Option.{option_map}
use Rattle.scr_base.specs.declared.row.Row.{Row}
use Rattle.scr_base.specs.declared.row.Verdict.{Verdict}
use Rattle.scr_plan.specs.declared.given.Given.{Given}
use Rattle.scr_plan.specs.Link.{empty_link}
use Rattle.scr_plan.specs.Plan.{Plan, frame_count, row_of_packet}
use Rattle.scr_plan.specs.Delivered.{delivers, delivers_to}
use Rattle.scr_plan.specs.Kept.{keeps}

-- the row of packet p, where it is kept
abbrev pub kept_row : Plan → ℕ → Option Row
kept_row plan p = if keeps plan p then row_of_packet plan p else None

-- the rows of the kept packets up to p, in order
unfoldable pub kept_rows : Plan → ℕ → List Row
kept_rows plan p = filter_map (kept_row plan) (range_with_len 1 p)

-- how many entries there are after all kept packets
abbrev pub entries : (List Row → ℕ) → Plan → ℕ
entries count_after plan = count_after (kept_rows plan (frame_count plan))

module _ (verdict_after : List Row → Row → Verdict) where
  -- the verdict of packet n, which has this row: it comes after the kept packets below n
  abbrev pub given_with : Plan → ℕ → Row → Given
  given_with plan n row = record { number = n; verdict = verdict_after (kept_rows plan (n - 1)) row }

  -- the verdict at frame n, where it is delivered
  abbrev pub given_at : Plan → ℕ → Option Given
  given_at plan n = if delivers plan n then option_map (given_with plan n) (row_of_packet plan n) else None

  -- the verdicts at the delivered frames, in order
  unfoldable pub verdicts : Plan → List Given
  verdicts plan = filter_map (given_at plan) (range_with_len 1 (frame_count plan))

  -- the verdict at frame n, where it is delivered to this core
  abbrev pub given_to : Plan → (core n : ℕ) → Option Given
  given_to plan core n = if delivers_to plan core n then option_map (given_with plan n) (row_of_packet plan n) else None

  -- the verdicts at the frames up to n that are delivered to this core, in order
  unfoldable pub course_up_to : Plan → (core n : ℕ) → List Given
  course_up_to plan core n = filter_map (given_to plan core) (range_with_len 1 n)

  -- all of these
  abbrev pub course : Plan → (core : ℕ) → List Given
  course plan core = course_up_to plan core (frame_count plan)

  -- Where the link does nothing, the same can be said over the rows alone: the verdict of packet n, where there is such a
  -- packet, comes after all rows before it.
  abbrev pub given_in : List Row → ℕ → Option Given
  given_in rows n =
      option_map (λ row. record { number = n; verdict = verdict_after (take (n - 1) rows) row }) (slice_get rows (n - 1))

  unfoldable pub all_verdicts : List Row → List Given
  all_verdicts rows = filter_map (given_in rows) (range_with_len 1 (length rows))

-- the plan of a run where one core is given every frame
abbrev pub undivided : List Row → Plan
undivided rows = record { rows = rows; cores = 1; history = 0; link = empty_link }
