-- The limits of a run.
use Rattle.std.specs.Prelude.{ℕ}

-- how many packets a run may have, and as many frames
abbrev pub most_packets : ℕ
most_packets = 1000000

-- how many cores, and how many packets before its own a frame may carry
abbrev pub most_cores : ℕ
most_cores = 16

abbrev pub longest_history : ℕ
longest_history = 64

-- how many numbers there are from one beacon to the next
abbrev pub beacon_distance : ℕ
beacon_distance = 256
