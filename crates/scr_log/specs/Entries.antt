-- What a core's log says of a packet in the end: a tag, which holds the packet's number and whether there is a row, and
-- the words of the row.
use Rattle.std.specs.Prelude.{ℕ, ◌+◌, ◌*◌, ◌/◌, Option, Some, None, slice_index}
use Rattle.scr_base.specs.RowWords.{row_words}
use Rattle.scr_base.specs.declared.row.Row.{Row}
use Rattle.scr_plan.specs.Plan.{Plan}
use Rattle.scr_plan.specs.FinalEntry.{final_entry}

-- the tags of packet p: with a row, and lost
abbrev pub row_tag : ℕ → ℕ
row_tag p = 4 * p + 1

abbrev pub lost_tag : ℕ → ℕ
lost_tag p = 4 * p + 2

-- the packet that a tag speaks of; 0 for a slot that holds nothing yet
abbrev pub tag_number : ℕ → ℕ
tag_number tag = tag / 4

-- a word of a row
abbrev pub row_word : Row → ℕ → ℕ
row_word row i = slice_index (row_words row) i

-- the final entry of a core for packet q + 1
unfoldable pub entry : Plan → (core q : ℕ) → Option Row
entry plan core q = final_entry plan core (q + 1)

-- its tag
abbrev pub tag_of : Option Row → ℕ → ℕ
tag_of (Some _) p = row_tag p
tag_of None p = lost_tag p

unfoldable pub tag : Plan → (core q : ℕ) → ℕ
tag plan core q = tag_of (entry plan core q) (q + 1)
