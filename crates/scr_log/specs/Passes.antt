-- What contracts see of the logs and of a pass, and what the log rule sees of a pass between two calls.
use Rattle.std.specs.Prelude.{◌≡◌, ◌≢◌, ℕ, ◌+◌, ◌-◌, ◌^◌, ◌<◌, ◌≤◌, List, [], ◌∷◌, ◌++◌, None, replicate, slice_index, slice_set, max}
use Rattle.atomic_table.specs.Seated.{TableId}
use Rattle.scr_plan.specs.Plan.{Plan, IsPlan, frame_count}
use Rattle.scr_log.specs.declared.view.PassView.{PassView}
use Rattle.scr_log.specs.declared.view.Noted.{Noted}
use Rattle.scr_log.specs.declared.view.Noted.TheVariants.{Finished, Drawn}
use Rattle.scr_log.specs.Layout.{most_slots, word_count}

-- the logs: their plan, the slots of each core, and which table they are, with the count of its words
pub record LogsOf : Type 0 where
  pub plan : Plan
  pub slots : ℕ
  pub table : TableId

-- what is true of all logs
pub record IsLogs (logs : LogsOf) : Type 0 where
  pub plan : IsPlan logs.plan
  pub some_slots : 1 ≤ logs.slots
  pub few_slots : logs.slots ≤ most_slots
  pub words : logs.table.words ≡ word_count logs.plan.cores logs.slots

-- a pass that has no core: how many draws it may make or hand on, what it has looked at, and how many times it has set the
-- halt word
pub record Free : Type 0 where
  pub logs : LogsOf
  pub stock : ℕ
  pub looks : List Noted
  pub halts : ℕ

-- the pass of a core. `noted` has, of each core, the greatest finished number that the pass has loaded
pub record OfCore : Type 0 where
  pub logs : LogsOf
  pub core : ℕ
  pub published : ℕ
  pub finished : ℕ
  pub noted : List ℕ
  pub looks : List Noted
  pub halts : ℕ

-- how many draws there are in all
abbrev pub all_draws : ℕ
all_draws = 2 ^ 32

-- the pass that new logs come with, and one that was split off
abbrev pub first_pass : LogsOf → Free
first_pass logs = record { logs = logs; stock = all_draws; looks = []; halts = 0 }

abbrev pub split_off : LogsOf → Free
split_off logs = record { logs = logs; stock = 1; looks = []; halts = 0 }

-- a free pass after it has drawn a number: the pass of that core, or a pass that came too late
abbrev pub claimed : Free → ℕ → OfCore
claimed pass core = record {
  logs = pass.logs;
  core = core;
  published = 0;
  finished = 0;
  noted = replicate pass.logs.plan.cores 0;
  looks = pass.looks;
  halts = pass.halts;
}

abbrev pub came_late : Free → ℕ → Free
came_late pass number = record pass { stock = pass.stock - 1; looks = pass.looks ++ Drawn number ∷ [] }

-- the pass of a core with a look more
abbrev pub looked : OfCore → Noted → OfCore
looked pass look = record pass { looks = pass.looks ++ look ∷ [] }

-- the pass of a core after it has loaded the finished word of a core
abbrev pub noted_finished : OfCore → (core done : ℕ) → OfCore
noted_finished pass core done = record pass {
  looks = pass.looks ++ Finished core done ∷ [];
  noted = slice_set pass.noted core (max (slice_index pass.noted core) done);
}

-- the pass comes from these logs, and may publish packet p of their plan: it has published and finished all before p, and
-- nothing else
pub record IsNext (logs : LogsOf) (pass : OfCore) (p : ℕ) : Type 0 where
  pub of_these : pass.logs ≡ logs
  pub of_the_run : p ≤ frame_count logs.plan
  pub published : p ≡ pass.published + 1
  pub finished : p ≡ pass.finished + 1

-- the pass comes from these logs, and p is the packet at hand: the pass has published it, and finished all before it
pub record IsCurrent (logs : LogsOf) (pass : OfCore) (p : ℕ) : Type 0 where
  pub of_these : pass.logs ≡ logs
  pub published : p ≡ pass.published
  pub finished : p ≡ pass.finished + 1

-- by what the pass has noted, each other core has finished so much that the slot of p may be used again
abbrev pub IsFreeFor : OfCore → ℕ → Type 0
IsFreeFor pass p =
    (j : ℕ) → j < pass.logs.plan.cores → j ≢ pass.core → p ≤ slice_index pass.noted j + pass.logs.slots

-- what the rule sees of a pass between two calls
abbrev pub free_view : Plan → (slots stock : ℕ) → List Noted → ℕ → PassView
free_view plan slots stock looks halts = record {
  plan = plan;
  slots = slots;
  stock = stock;
  core = None;
  published = 0;
  finished = 0;
  stored = 0;
  noted = [];
  found = None;
  looks = looks;
  halts = halts;
}
