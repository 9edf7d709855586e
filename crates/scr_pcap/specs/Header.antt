-- The header of a capture (libpcap file format, version 2.4): 24 bytes, with a magic number that tells the order of
-- the bytes and the unit of fractions, the version at 4 and 6, and the link type at 20, whose low 16 bits count.
-- Zone (8), significant figures (12) and snap length (16) are not looked at.
use Rattle.std.specs.Prelude.{ℕ, ◌%◌, ◌^◌, Bool, ◌&&◌, not, List, length, drop, Option, Some, None, Result, Ok, Err, ◌==◌, nat_lt, if◌then◌else◌}
use Rattle.std.specs.Option.{option_map, option_or}
use Rattle.byteorder.specs.Endian.{little_number, big_number}
use Rattle.scr_pcap.specs.declared.error.CaptureError.{CaptureError}
use Rattle.scr_pcap.specs.declared.error.CaptureError.TheVariants.{ShortHeader, Magic, Version, LinkType, ShortRecord, LongRecord, TooMany, ReadFault}
use Rattle.scr_pcap.specs.declared.format.Format.{Format}
use Rattle.scr_pcap.specs.declared.format.Order.{Order}
use Rattle.scr_pcap.specs.declared.format.Order.TheVariants.{Little, Big}
use Rattle.scr_pcap.specs.declared.format.Fraction.{Fraction}
use Rattle.scr_pcap.specs.declared.format.Fraction.TheVariants.{Microseconds, Nanoseconds}

-- the length of the header
abbrev pub HEADER_SIZE : ℕ
HEADER_SIZE = 24

-- the number in the first n bytes
abbrev pub number : Order → ℕ → List ℕ → ℕ
number Little n bytes = little_number n bytes
number Big n bytes = big_number n bytes

-- the number in the n bytes from a place on
abbrev pub number_at : Order → ℕ → ℕ → List ℕ → ℕ
number_at order place n bytes = number order n (drop place bytes)

-- what the fractions of seconds count behind this magic number, where it is one
abbrev pub fraction_of : ℕ → Option Fraction
fraction_of magic =
    if magic == 0xA1B2C3D4 then Some Microseconds else
    (if magic == 0xA1B23C4D then Some Nanoseconds else None)

-- the format whose magic number stands in front, in this order
abbrev pub format_in : Order → List ℕ → Option Format
format_in order bytes =
    option_map (λ fraction. record { order = order; fraction = fraction }) (fraction_of (number_at order 0 4 bytes))

-- the format whose magic number stands in front, in one of the two orders
unfoldable pub format_of : List ℕ → Option Format
format_of bytes = option_or (format_in Little bytes) (format_in Big bytes)

abbrev pub is_version_2_4 : Order → List ℕ → Bool
is_version_2_4 order bytes = (number_at order 4 2 bytes == 2) && (number_at order 6 2 bytes == 4)

abbrev pub is_ethernet : Order → List ℕ → Bool
is_ethernet order bytes = number_at order 20 4 bytes % 2 ^ 16 == 1

-- the tests behind the magic number
abbrev pub header_in : Option Format → List ℕ → Result Format CaptureError
header_in None bytes = Err Magic
header_in (Some format) bytes =
    if not (is_version_2_4 format.order bytes) then Err Version else
    (if not (is_ethernet format.order bytes) then Err LinkType else Ok format)

-- the format of a capture that begins with a valid header, or the first test that fails
unfoldable pub header_of : List ℕ → Result Format CaptureError
header_of bytes = if nat_lt (length bytes) HEADER_SIZE then Err ShortHeader else header_in (format_of bytes) bytes

-- the causes that the reading of a header may have
abbrev pub IsHeaderFault : CaptureError → Type 0
IsHeaderFault ShortHeader = Unit {0}
IsHeaderFault Magic = Unit {0}
IsHeaderFault Version = Unit {0}
IsHeaderFault LinkType = Unit {0}
IsHeaderFault (ShortRecord number) = ⊥
IsHeaderFault (LongRecord number length) = ⊥
IsHeaderFault (TooMany limit) = ⊥
IsHeaderFault ReadFault = Unit {0}
