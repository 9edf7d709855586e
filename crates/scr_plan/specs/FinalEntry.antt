-- What a core ends up knowing of a packet by its own frames: the row, or nothing, which is called lost.
use Rattle.std.specs.Prelude.{ℕ, Option, None, if◌then◌else◌}
use Rattle.scr_base.specs.declared.row.Row.{Row}
use Rattle.scr_plan.specs.Plan.{Plan, row_of_packet}
use Rattle.scr_plan.specs.Kept.{carries_to}

-- row p, where some frame that is delivered to the core carries packet p
abbrev pub final_entry : Plan → (core p : ℕ) → Option Row
final_entry plan core p = if carries_to plan core p then row_of_packet plan p else None
