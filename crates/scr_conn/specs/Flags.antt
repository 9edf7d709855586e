-- The class of a segment, by four of its flags as RFC 9293 numbers them. The other flags don't matter.
use Rattle.std.specs.Prelude.{ℕ, Bool, ◌&&◌, not, ◌==◌, bit_and, if◌then◌else◌}
use Rattle.scr_conn.specs.declared.class.Class.{Class}
use Rattle.scr_conn.specs.declared.class.Class.TheVariants.{Reset, SynFin, SynAck, Syn, Fin, Ack, Unmarked}

-- one bit of the flags
abbrev pub has_flag : ℕ → ℕ → Bool
has_flag flags flag = not (bit_and flags flag == 0)

abbrev pub has_fin : ℕ → Bool
has_fin flags = has_flag flags 1

abbrev pub has_syn : ℕ → Bool
has_syn flags = has_flag flags 2

abbrev pub has_rst : ℕ → Bool
has_rst flags = has_flag flags 4

abbrev pub has_ack : ℕ → Bool
has_ack flags = has_flag flags 16

-- the first class that fits
abbrev pub class_of : ℕ → Class
class_of flags =
    if has_rst flags then Reset else
    (if has_syn flags && has_fin flags then SynFin else
    (if has_syn flags && has_ack flags then SynAck else
    (if has_syn flags then Syn else
    (if has_fin flags then Fin else
    (if has_ack flags then Ack else Unmarked)))))
