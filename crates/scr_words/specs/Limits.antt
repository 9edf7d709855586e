-- The greatest values of settings that no crate below limits.
use Rattle.std.specs.Prelude.{ℕ}

-- messages that wait for a core
abbrev pub most_ring : ℕ
most_ring = 4096

-- frames and senders of a capture that is made up
abbrev pub most_frames : ℕ
most_frames = 1000000

abbrev pub most_hosts : ℕ
most_hosts = 65536
