-- How far a core has come: up to which number it has published, how many words of the next row it has stored in its log,
-- and up to which number it has finished.
use Rattle.std.specs.Prelude.{ℕ, ◌+◌, ◌<◌, ◌≤◌, ◌==◌, if◌then◌else◌}
use Rattle.scr_log.specs.declared.view.PassView.{PassView}

pub record Progress : Type 0 where
  pub published : ℕ
  pub stored : ℕ
  pub finished : ℕ

-- a core that has done nothing
abbrev pub fresh : Progress
fresh = record { published = 0; stored = 0; finished = 0 }

-- the progress that a pass knows of its own core
abbrev pub progress_of : PassView → Progress
progress_of v = record { published = v.published; stored = v.stored; finished = v.finished }

-- the progress of all cores, where one core's is another
unfoldable pub updated : (ℕ → Progress) → ℕ → Progress → ℕ → Progress
updated progress core next c = if c == core then next else progress c

-- a core with the first progress may use a slot again, as far as a core with the second is concerned: that one has
-- finished the packet whose slot it is
pub record IsCleared (slots : ℕ) (writer reader : Progress) : Type 0 where
  pub published : writer.published ≤ reader.finished + slots
  pub writing : 0 < writer.stored → writer.published + 1 ≤ reader.finished + slots
