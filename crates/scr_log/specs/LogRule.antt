-- The log rule: what holds of the words of the logs and of all passes between any two steps, whichever thread makes them.
-- Numbers of packets are counted from 0 in it: `q` stands for packet q + 1. A core that has published up to the number u
-- has published the packets with q below u.
use Rattle.std.specs.Prelude.{◌≡◌, ◌≢◌, ℕ, ◌+◌, ◌-◌, ◌%◌, ◌^◌, ◌<◌, ◌≤◌, ◌⊎◌, List, [], ◌∷◌, All, length, Some, slice_index}
use mathlib.Core.Option.{some}
use lib.ListN.{get_elem?}
use Rattle.atomic_table.specs.Table.{State}
use Rattle.scr_base.specs.declared.row.Row.{Row}
use Rattle.scr_plan.specs.Plan.{Plan, frame_count}
use Rattle.scr_log.specs.declared.view.PassView.{PassView}
use Rattle.scr_log.specs.declared.view.Found.{Found}
use Rattle.scr_log.specs.declared.view.Noted.{Noted}
use Rattle.scr_log.specs.declared.view.Noted.TheVariants.{Tag, Finished, Halt, Drawn}
use Rattle.scr_log.specs.Layout.{core_size, word_count, tag_offset, data_offset, finished_offset, place, claim_place, halt_place}
use Rattle.scr_log.specs.Entries.{entry, tag, row_word}
use Rattle.scr_log.specs.Progress.{Progress, fresh, progress_of, IsCleared}

-- a core has a row for packet q + 1
abbrev pub HasRow : Plan → (core q : ℕ) → Type 0
HasRow plan core q = (row : Row) × (entry plan core q ≡ Some row)

-- the words of one core, by their offsets
abbrev pub core_words : (slots : ℕ) → List ℕ → (core : ℕ) → ℕ → ℕ
core_words slots words core offset = slice_index words (place slots core offset)

-- a core may store words of its next row: it has finished all that it has published, there is a next packet, and it has a
-- row for it
pub record MayWrite (plan : Plan) (core : ℕ) (progress : Progress) : Type 0 where
  pub idle : progress.finished ≡ progress.published
  pub left : progress.published < frame_count plan
  pub row : HasRow plan core progress.published

-- the words of a core, which only its own pass stores
pub record IsLog (plan : Plan) (slots core : ℕ) (progress : Progress) (word : ℕ → ℕ) : Type 0 where
  -- it finishes what it has published, and goes on only when it has
  pub finished_below : progress.finished ≤ progress.published
  pub finished_next : progress.published ≤ progress.finished + 1
  pub within : progress.published ≤ frame_count plan
  pub finished_word : word (finished_offset slots) ≡ progress.finished
  -- a slot has the tag of the last number that was published in it, or 0
  pub tags :
      (q : ℕ) → q < progress.published → progress.published ≤ q + slots → word (tag_offset slots q) ≡ tag plan core q
  pub unset : (q : ℕ) → progress.published ≤ q → q < slots → word (tag_offset slots q) ≡ 0
  -- where that tag says that there is a row, the words are those of the row, but for those that the next row in this slot
  -- has taken over
  pub rows :
      (q i : ℕ) (row : Row) → q < progress.published → progress.published ≤ q + slots
      → (progress.published < q + slots) ⊎ (progress.stored ≤ i) → i < 7
      → entry plan core q ≡ Some row → word (data_offset slots q i) ≡ row_word row i
  -- the row that is being written
  pub few_stored : progress.stored ≤ 7
  pub may_write : 0 < progress.stored → MayWrite plan core progress
  pub written :
      (i : ℕ) (row : Row) → i < progress.stored → entry plan core progress.published ≡ Some row
      → word (data_offset slots progress.published i) ≡ row_word row i

-- a row was found in the log of another core: it is of the packet that this core has published last and not finished, and
-- the other core has published it too
pub record IsFound (plan : Plan) (progress : ℕ → Progress) (core : ℕ) (own : Progress) (found : Found) : Type 0 where
  pub other : found.core ≢ core
  pub below : found.core < plan.cores
  pub current : found.number ≡ own.finished + 1
  pub own_published : own.published ≡ found.number
  pub published : found.number ≤ (progress found.core).published
  pub row : HasRow plan found.core own.finished

-- the pass of a core
pub record IsCorePass (plan : Plan) (slots : ℕ) (words : List ℕ) (progress : ℕ → Progress) (owner : ℕ → ℕ) (id : ℕ)
    (v : PassView) (core : ℕ) : Type 0 where
  pub below : core < plan.cores
  pub drawn : core < slice_index words (claim_place plan.cores slots)
  pub only : owner core ≡ id
  pub own : progress core ≡ progress_of v
  -- its noted finished numbers are never above the finished words, and each slot that it uses again is free by them
  pub each_core : length v.noted ≡ plan.cores
  pub noted : (j : ℕ) → j < plan.cores → slice_index v.noted j ≤ (progress j).finished
  pub room : (j : ℕ) → j < plan.cores → j ≢ core → v.published ≤ slice_index v.noted j + slots
  pub room_to_write :
      (j : ℕ) → j < plan.cores → j ≢ core → 0 < v.stored → v.published + 1 ≤ slice_index v.noted j + slots
  pub found : (found : Found) → v.found ≡ Some found → IsFound plan progress core (progress_of v) found

-- a look gave a value that was there: a tag that is 0 or of a number that the core has published in that slot, a finished
-- number that isn't above the word, a halt value that is 1 only if the word is, a number that was drawn and is no core's
abbrev pub WasThere : Plan → ℕ → List ℕ → (ℕ → Progress) → Noted → Type 0
WasThere plan slots words progress (Tag core number value) =
    (core < plan.cores)
    × ((value ≡ 0)
    ⊎ ((q : ℕ) × (q < (progress core).published) × (q % slots ≡ (number - 1) % slots) × (value ≡ tag plan core q)))
WasThere plan slots words progress (Finished core value) = (core < plan.cores) × (value ≤ (progress core).finished)
WasThere plan slots words progress (Halt value) = value ≡ 1 → slice_index words (halt_place plan.cores slots) ≡ 1
WasThere plan slots words progress (Drawn number) =
    (plan.cores ≤ number) × (number < slice_index words (claim_place plan.cores slots))

-- any pass
pub record IsPass (plan : Plan) (slots : ℕ) (words : List ℕ) (progress : ℕ → Progress) (owner : ℕ → ℕ) (id : ℕ)
    (v : PassView) : Type 0 where
  pub same_plan : v.plan ≡ plan
  pub same_slots : v.slots ≡ slots
  pub looks : All (WasThere plan slots words progress) v.looks
  pub core : (core : ℕ) → v.core ≡ Some core → IsCorePass plan slots words progress owner id v core

-- no pass has a core
abbrev pub IsNobodys : List PassView → ℕ → Type 0
IsNobodys views core = (id : ℕ) (v : PassView) → get_elem? views id ≡ some v → v.core ≢ Some core

-- the words of such a core are 0
pub record IsUntouched (slots core : ℕ) (progress : Progress) (word : ℕ → ℕ) : Type 0 where
  pub nothing_done : progress ≡ fresh
  pub zero_words : (offset : ℕ) → offset < core_size slots → word offset ≡ 0

-- all stocks of draws together
abbrev pub total_stock : List PassView → ℕ
total_stock [] = 0
total_stock (v ∷ views) = v.stock + total_stock views

-- the halt word is 0 and no pass has set it, or it is 1 and some pass has
abbrev pub HaltIs : List PassView → ℕ → Type 0
HaltIs views word =
    ((word ≡ 0) × ((id : ℕ) (v : PassView) → get_elem? views id ≡ some v → v.halts ≡ 0))
    ⊎ ((word ≡ 1) × ((id : ℕ) × (v : PassView) × (get_elem? views id ≡ some v) × (0 < v.halts)))

-- the whole rule
pub record LogRule (plan : Plan) (slots : ℕ) (words : List ℕ) (views : List PassView) : Type 0 where
  -- how far each core has come, and which pass has it: so no two passes have one core
  pub progress : ℕ → Progress
  pub owner : ℕ → ℕ
  pub some_slots : 0 < slots
  pub all_words : length words ≡ word_count plan.cores slots
  pub stocks : slice_index words (claim_place plan.cores slots) + total_stock views ≤ 2 ^ 32
  pub nobodys :
      (core : ℕ) → core < plan.cores → IsNobodys views core
      → IsUntouched slots core (progress core) (core_words slots words core)
  pub logs : (core : ℕ) → core < plan.cores → IsLog plan slots core (progress core) (core_words slots words core)
  pub cleared :
      (core j : ℕ) → core < plan.cores → j < plan.cores → core ≢ j → IsCleared slots (progress core) (progress j)
  pub passes : (id : ℕ) (v : PassView) → get_elem? views id ≡ some v → IsPass plan slots words progress owner id v
  pub halt : HaltIs views (slice_index words (halt_place plan.cores slots))

-- the same of a table
abbrev pub Keeps : Plan → ℕ → State (Unit {0}) PassView → Type 0
Keeps plan slots s = LogRule plan slots s.words s.views
