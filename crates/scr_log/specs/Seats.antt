-- What contracts see of a seat at the table, and what is true of it between two calls.
use Rattle.std.specs.Prelude.{◌≡◌, ◌≢◌, ℕ, ◌+◌, ◌-◌, ◌<◌, ◌≤◌, [], Some, None, length, slice_index}
use Rattle.atomic_table.specs.Seated.{TableId}
use Rattle.scr_base.specs.declared.row.Row.{Row}
use Rattle.scr_plan.specs.Plan.{frame_count}
use Rattle.scr_plan.specs.FinalEntry.{final_entry}
use Rattle.scr_log.specs.declared.view.PassView.{PassView}
use Rattle.scr_log.specs.Passes.{LogsOf, Free, OfCore, free_view}
use Rattle.scr_log.specs.Layout.{place, tag_offset}
use Rattle.scr_log.specs.Steps.{Mine}

abbrev pub logs_of : TableId → PassView → LogsOf
logs_of table v = record { plan = v.plan; slots = v.slots; table = table }

abbrev pub free_seen : TableId → PassView → Free
free_seen table v = record { logs = logs_of table v; stock = v.stock; looks = v.looks; halts = v.halts }

abbrev pub core_seen : TableId → PassView → ℕ → OfCore
core_seen table v core = record {
  logs = logs_of table v;
  core = core;
  published = v.published;
  finished = v.finished;
  noted = v.noted;
  looks = v.looks;
  halts = v.halts;
}

-- the seat of a free pass
abbrev pub IsFreeSeat : Mine → Type 0
IsFreeSeat me = me ≡ (free_view me.0.plan me.0.slots me.0.stock me.0.looks me.0.halts, [])

-- the seat of the pass of a core, which has noted of each other core that it has finished at least `known`
pub record IsCoreSeat (me : Mine) (core published known : ℕ) : Type 0 where
  pub no_slot : me.1 ≡ []
  pub its_core : me.0.core ≡ Some core
  pub nothing_stored : me.0.stored ≡ 0
  pub nothing_found : me.0.found ≡ None
  pub its_number : published ≡ me.0.published
  pub below : core < me.0.plan.cores
  pub each_core : length me.0.noted ≡ me.0.plan.cores
  pub known_of_all : (j : ℕ) → j < me.0.plan.cores → j ≢ core → known ≤ slice_index me.0.noted j

-- the tag of packet p in the log of a core stands here, and the words of its row behind it
pub record IsTagPlace (logs : LogsOf) (core p at : ℕ) : Type 0 where
  pub place : at ≡ place logs.slots core (tag_offset logs.slots (p - 1))
  pub within : at + 7 < logs.table.words

-- between the calls on the table: the seat of a core that is about to publish p
pub record MayPublish (logs : LogsOf) (table : TableId) (me : Mine) (core p : ℕ) : Type 0 where
  pub of_these : table ≡ logs.table
  pub its_core : me.0.core ≡ Some core
  pub nothing_found : me.0.found ≡ None
  pub idle : me.0.finished ≡ me.0.published
  pub next : p ≡ me.0.published + 1
  pub left : p ≤ frame_count logs.plan
  pub room : (j : ℕ) → j < logs.plan.cores → j ≢ core → p ≤ slice_index me.0.noted j + logs.slots

-- the seat of a core that has found the row of p in the log of another core
pub record IsReading (logs : LogsOf) (table : TableId) (me : Mine) (core p : ℕ) : Type 0 where
  pub of_these : table ≡ logs.table
  pub same_plan : me.0.plan ≡ logs.plan
  pub same_slots : me.0.slots ≡ logs.slots
  pub own : ℕ
  pub its_core : me.0.core ≡ Some own
  pub found : me.0.found ≡ Some (record { core = core; number = p })
  pub current : p ≡ me.0.finished + 1
  pub row : Row
  pub is_row : final_entry logs.plan core p ≡ Some row
