use Rattle.std.specs.Prelude.{Some}
use Rattle.scr_lane.proofs.ends.make_ends.Given as goal

-- what the new lane is about, and its capacity
abbrev pub ghosts-part : goal.ghosts-part
ghosts-part g a = record { about = Some a.about.now; capacity = a.capacity }
