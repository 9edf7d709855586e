-- The plan of a run: the rows of its packets, the cores, the history and the link. Packet p has row p, from 1 on, and
-- frame p is the frame of packet p.
use Rattle.std.specs.Prelude.{◌≡◌, ℕ, ◌-◌, ◌≤◌, List, length, Option}
use Rattle.std.specs.List.{slice_get}
use Rattle.scr_base.specs.declared.row.Row.{Row}
use Rattle.scr_plan.specs.Limits.{most_packets, most_cores, longest_history}
use Rattle.scr_plan.specs.Link.{Link, IsLink}

pub record Plan : Type 0 where
  pub rows : List Row
  pub cores : ℕ
  pub history : ℕ
  pub link : Link

-- what is true of every plan
pub record IsPlan (plan : Plan) : Type 0 where
  pub few_rows : length plan.rows ≤ most_packets
  pub a_core : 1 ≤ plan.cores
  pub few_cores : plan.cores ≤ most_cores
  pub short_history : plan.history ≤ longest_history
  pub is_link : IsLink plan.link

-- how many packets there are, and as many frames
abbrev pub frame_count : Plan → ℕ
frame_count plan = length plan.rows

-- the row of packet p, where there is such a packet
abbrev pub row_of_packet : Plan → ℕ → Option Row
row_of_packet plan p = slice_get plan.rows (p - 1)

-- the plan has these, whatever its rows and its history are
pub record HasParts (plan : Plan) (link : Link) (cores frames : ℕ) : Type 0 where
  pub link_is : plan.link ≡ link
  pub cores_are : plan.cores ≡ cores
  pub frames_are : frame_count plan ≡ frames
