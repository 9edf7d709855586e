-- The lines of a report. Words are parted by one space, numbers are decimal without zeros in front, and each line ends
-- with a line feed.
use Rattle.std.specs.Prelude.{ℕ, List, [], ◌∷◌, ◌++◌, codes, decimal, slice_index_or}
use Rattle.scr_plan.specs.declared.given.Given.{Given}
use Rattle.scr_plan.specs.declared.counting.CoreCounts.{CoreCounts}

-- a line of words
abbrev pub line : List (List ℕ) → List ℕ
line [] = 10 ∷ []
line (word ∷ []) = word ++ 10 ∷ []
line (word ∷ words) = word ++ 32 ∷ line words

-- how many names there may be
abbrev pub most_names : ℕ
most_names = 255

-- the name at a place of the list of names
abbrev pub name_at : List (List ℕ) → ℕ → List ℕ
name_at names place = slice_index_or names place []

-- the number of a frame, and a name
abbrev pub named_line : List ℕ → ℕ → List ℕ
named_line name number = line (decimal number ∷ name ∷ [])

-- what stands behind the number in the line of a name
abbrev pub line_ending : List ℕ → List ℕ
line_ending name = 32 ∷ line (name ∷ [])

-- the verdict that was given at a frame
abbrev pub verdict_line : List (List ℕ) → Given → List ℕ
verdict_line names given = named_line (name_at names given.verdict.0) given.number

-- how many frames there are, how many of them were delivered, and how many packets were kept
abbrev pub frames_line : (frames delivered kept : ℕ) → List ℕ
frames_line frames delivered kept =
    line (codes "frames" ∷ decimal frames ∷ codes "delivered" ∷ decimal delivered ∷ codes "kept" ∷ decimal kept ∷ [])

-- a core by its number, and its counts
abbrev pub core_line : ℕ × CoreCounts → List ℕ
core_line (core, counts) = line (
    codes "core" ∷ decimal core ∷ codes "delivered" ∷ decimal counts.delivered ∷ codes "carried" ∷ decimal counts.carried
    ∷ codes "recovered" ∷ decimal counts.recovered ∷ codes "skipped" ∷ decimal counts.skipped ∷ [])

-- how many flows the last state has
abbrev pub flows_line : ℕ → List ℕ
flows_line flows = line (codes "flows" ∷ decimal flows ∷ [])

-- a name, and how often it was given
abbrev pub total_line : List ℕ × ℕ → List ℕ
total_line (name, total) = line (codes "verdict" ∷ name ∷ decimal total ∷ [])
