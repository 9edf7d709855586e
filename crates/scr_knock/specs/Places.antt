-- The place of a source: how many of the three knocks it has made in turn, or open.
use Rattle.std.specs.Prelude.{ℕ, ◌==◌, if◌then◌else◌}
use Rattle.scr_knock.specs.declared.place.Place.{Place}
use Rattle.scr_knock.specs.declared.place.Place.TheVariants.{Start, First, Second, Open}
use Rattle.scr_knock.specs.declared.settings.KnockSettings.{KnockSettings}

-- a port that isn't the next one begins anew: with the first knock made, if it is the first port
abbrev pub missed : KnockSettings → ℕ → Place
missed settings port = if port == settings.first then First else Start

-- the place after a packet to this port: the next port leads one further, and open stays open
abbrev pub next_place : KnockSettings → Place → ℕ → Place
next_place settings Start port = if port == settings.first then First else missed settings port
next_place settings First port = if port == settings.second then Second else missed settings port
next_place settings Second port = if port == settings.third then Open else missed settings port
next_place settings Open port = Open
