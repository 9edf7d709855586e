-- The kinds of messages: the byte that spells each, and the counts of rows that it may have.
use Rattle.std.specs.Prelude.{ℕ, ◌+◌, Bool, ◌&&◌, ◌==◌, nat_le, if◌then◌else◌}
use Rattle.scr_plan.specs.Limits.{longest_history}
use Rattle.scr_wire.specs.declared.message.MessageKind.{MessageKind}
use Rattle.scr_wire.specs.declared.message.MessageKind.TheVariants.{Frame, Beacon, End}

-- the byte that spells a kind
abbrev pub code_of : MessageKind → ℕ
code_of Frame = 1
code_of Beacon = 2
code_of End = 3

-- whether a byte spells a kind
abbrev pub is_code : ℕ → Bool
is_code code = nat_le 1 code && nat_le code 3

-- the kind that a byte spells, where it spells one
abbrev pub kind_with : ℕ → MessageKind
kind_with code = if code == 1 then Frame else (if code == 2 then Beacon else End)

-- the most rows that a frame may have: its own behind the longest history
abbrev pub most_rows : ℕ
most_rows = longest_history + 1

-- a frame has at least its own row, at most so many, and no more than its number; the others have none
abbrev pub allows : MessageKind → (number count : ℕ) → Bool
allows Frame number count = nat_le 1 count && nat_le count most_rows && nat_le count number
allows Beacon number count = count == 0
allows End number count = count == 0
