-- What the blocks of a capture tell (pcapng): a section its version at 12; an interface its link type at 8, its snap
-- length at 12 and options from 16 on; a simple packet its original length at 8 and its bytes from 12 on; an enhanced
-- packet its interface at 8, its time at 12, high half first, its captured length at 20, and its bytes from 28 on.
-- Other blocks are passed over.
use Rattle.std.specs.Prelude.{ℕ, ◌≡◌, ◌≤◌, ◌<◌, ◌+◌, ◌-◌, ◌*◌, ◌^◌, min, ◌||◌, not, List, [], ◌∷◌, ◌++◌, length, take, drop, Option, Some, None, Result, Ok, Err, ◌==◌, nat_lt, slice_get, if◌then◌else◌}
use Rattle.scr_pcap.specs.declared.format.Order.{Order}
use Rattle.scr_pcap.specs.Header.{number_at}
use Rattle.scr_pcap.specs.Records.{Record, RECORDS, CAPTURED}
use Rattle.scr_pcapng.specs.declared.content.InterfaceInfo.{InterfaceInfo}
use Rattle.scr_pcapng.specs.declared.content.Content.{Content}
use Rattle.scr_pcapng.specs.declared.content.Content.TheVariants.{NewSection, NewInterface, Packet, Passed}
use Rattle.scr_pcapng.specs.declared.error.NgError.{NgError}
use Rattle.scr_pcapng.specs.declared.error.NgError.TheVariants.{Version, Resolution, Interface, Captured, LinkType, TooMany}
use Rattle.scr_pcapng.specs.declared.kind.Kind.{Kind}
use Rattle.scr_pcapng.specs.declared.kind.Kind.TheVariants.{SectionHeader, InterfaceDescription, SimplePacket, EnhancedPacket, Other}
use Rattle.scr_pcapng.specs.Options.{padded, unit_in}
use Rattle.scr_pcapng.specs.Units.{MICROSECONDS, is_beyond, microseconds, units_of}

-- where a block stands: how many blocks and packets stand before it, and the order and the interfaces of its section
pub record Position : Type 0 where
  pub blocks : ℕ
  pub packets : ℕ
  pub order : Order
  pub interfaces : List InterfaceInfo

-- the number of the block there, from 1
abbrev pub number_of : Position → ℕ
number_of position = position.blocks + 1

-- version 1, whatever the minor version
abbrev pub section_in : Position → Order → List ℕ → Result Content NgError
section_in position order block =
    if not (number_at order 12 2 block == 1) then Err (Version (number_of position)) else Ok (NewSection order)

-- an interface, by the value that tells its unit
abbrev pub interface_with : Position → Order → List ℕ → Option ℕ → Result Content NgError
interface_with position order block None =
    Ok (NewInterface (record { link_type = number_at order 8 2 block; snap = number_at order 12 4 block; units = MICROSECONDS }))
interface_with position order block (Some value) =
    if is_beyond value then Err (Resolution (number_of position)) else
    Ok (NewInterface (record { link_type = number_at order 8 2 block; snap = number_at order 12 4 block; units = units_of value }))

-- the bytes of its options: all behind the snap length, up to the second total length
abbrev pub option_bytes : List ℕ → List ℕ
option_bytes block = take (length block - 20) (drop 16 block)

-- a packet of an interface that is there, with room for so many bytes from a place on
unfoldable pub packet_on : Position → InterfaceInfo → (time captured place room : ℕ) → Result Content NgError
packet_on position interface time captured place room =
    if nat_lt CAPTURED captured || nat_lt room (padded captured) then Err (Captured (number_of position) captured) else
    (if not (interface.link_type == 1) then Err (LinkType (number_of position)) else
    (if position.packets == RECORDS then Err (TooMany RECORDS) else Ok (Packet time place captured)))

-- how much of a packet is captured where its block doesn't say it: all of it where the snap length is 0
abbrev pub cut_to : (snap original : ℕ) → ℕ
cut_to snap original = if snap == 0 then original else min original snap

-- a simple packet is of interface 0, and has no time
abbrev pub simple_on : Position → Order → (size : ℕ) → List ℕ → Option InterfaceInfo → Result Content NgError
simple_on position order size block None = Err (Interface (number_of position))
simple_on position order size block (Some interface) =
    packet_on position interface 0 (cut_to interface.snap (number_at order 8 4 block)) 12 (size - 16)

-- the time of an enhanced packet, in the units of its interface
abbrev pub time_in : Order → List ℕ → ℕ
time_in order block = number_at order 12 4 block * 2 ^ 32 + number_at order 16 4 block

abbrev pub enhanced_on : Position → Order → (size : ℕ) → List ℕ → Option InterfaceInfo → Result Content NgError
enhanced_on position order size block None = Err (Interface (number_of position))
enhanced_on position order size block (Some interface) =
    packet_on position interface (microseconds interface.units (time_in order block)) (number_at order 20 4 block) 28 (size - 32)

-- the same, by the bytes behind the total length
abbrev pub enhanced_behind : Position → (size : ℕ) → (rest : List ℕ) → Option InterfaceInfo → Result Content NgError
enhanced_behind position size rest None = Err (Interface (number_of position))
enhanced_behind position size rest (Some interface) =
    packet_on position interface (microseconds interface.units (number_at position.order 4 4 rest * 2 ^ 32 + number_at position.order 8 4 rest))
    (number_at position.order 12 4 rest) 28 (size - 32)

-- what a block of this size tells, by its first bytes and, of an interface, by the value that tells its unit; or the first
-- test of its content that fails
unfoldable pub content_by : Position → Kind → Order → (size : ℕ) → List ℕ → (unit : Option ℕ) → Result Content NgError
content_by position SectionHeader order size block unit = section_in position order block
content_by position InterfaceDescription order size block unit = interface_with position order block unit
content_by position SimplePacket order size block unit = simple_on position order size block (slice_get position.interfaces 0)
content_by position EnhancedPacket order size block unit =
    enhanced_on position order size block (slice_get position.interfaces (number_at order 8 4 block))
content_by position Other order size block unit = Ok Passed

-- the same of a block that is all there
abbrev pub content_in : Position → Kind → Order → List ℕ → Result Content NgError
content_in position kind order block = content_by position kind order (length block) block (unit_in order (option_bytes block))

-- where the next block stands. A section begins without interfaces
abbrev pub position_behind : Position → Content → Position
position_behind position (NewSection order) =
    record { blocks = position.blocks + 1; packets = position.packets; order = order; interfaces = [] }
position_behind position (NewInterface interface) =
    record position { blocks = position.blocks + 1; interfaces = position.interfaces ++ interface ∷ [] }
position_behind position (Packet time place captured) =
    record position { blocks = position.blocks + 1; packets = position.packets + 1 }
position_behind position Passed = record position { blocks = position.blocks + 1 }

-- the record of a packet's block; other blocks have none
abbrev pub records_in : Content → List ℕ → List Record
records_in (NewSection order) block = []
records_in (NewInterface interface) block = []
records_in (Packet time place captured) block = record { time = time; content = take captured (drop place block) } ∷ []
records_in Passed block = []

-- the same, by the bytes of the packet
abbrev pub records_with : Content → List ℕ → List Record
records_with (NewSection order) frame = []
records_with (NewInterface interface) frame = []
records_with (Packet time place captured) frame = record { time = time; content = frame } ∷ []
records_with Passed frame = []

-- how many bytes a packet has
abbrev pub captured_by : Content → ℕ
captured_by (NewSection order) = 0
captured_by (NewInterface interface) = 0
captured_by (Packet time place captured) = captured
captured_by Passed = 0

-- the bytes of a packet stand behind a head of this size, and within a block of that size
abbrev pub IsPlaced : (head size : ℕ) → Content → Type 0
IsPlaced head size (NewSection order) = Unit {0}
IsPlaced head size (NewInterface interface) = Unit {0}
IsPlaced head size (Packet time place captured) = (place ≡ head) × (captured ≤ CAPTURED) × (head + captured + 4 ≤ size)
IsPlaced head size Passed = Unit {0}

-- a reader can go behind a block that tells this: an interface has a unit, and a packet isn't one too many
abbrev pub IsAccepted : Position → Content → Type 0
IsAccepted position (NewSection order) = Unit {0}
IsAccepted position (NewInterface interface) = 0 < interface.units
IsAccepted position (Packet time place captured) = position.packets < RECORDS
IsAccepted position Passed = Unit {0}
