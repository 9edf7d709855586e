-- The kinds of rows, by which a program tells the packets that it looks at.
use Rattle.std.specs.Prelude.{ℕ, Bool, ◌||◌, ◌==◌}
use Rattle.scr_frame.specs.declared.parsed.Kind.TheVariants.{Bare, Tcp, Udp}
use Rattle.scr_program.specs.Rows.{kind_number}

abbrev pub is_tcp : ℕ → Bool
is_tcp kind = kind == kind_number Tcp

abbrev pub is_udp : ℕ → Bool
is_udp kind = kind == kind_number Udp

-- the kind is that of a packet with ports
abbrev pub has_ports : ℕ → Bool
has_ports kind = is_tcp kind || is_udp kind

-- the kind is that of an IP packet
abbrev pub is_packet : ℕ → Bool
is_packet kind = (kind == kind_number Bare) || has_ports kind
