-- The fields of a frame, layer by layer, each layer from all the bytes from its header on:
-- Ethernet II with at most one tag (IEEE 802.1Q), IPv4 (RFC 791, section 3.1), IPv6 (RFC 8200, section 3),
-- TCP (RFC 9293, section 3.1) and UDP (RFC 768). No checksum is tested, and no option or extension header is read.
-- A length of 0 in an IP header stands for the captured bytes, which is this product's rule and not a standard's.
-- What the header of an IP packet says is the struct Packet of src/packet.rt.
use Rattle.std.specs.Prelude.{ℕ, ◌+◌, ◌*◌, ◌/◌, ◌%◌, Bool, ◌&&◌, List, length, take, drop, slice_index, Option, Some, None, ◌==◌, nat_lt, nat_le, if◌then◌else◌}
use Rattle.std.specs.Int.{Width, w16, w32, w128, byte_len, from_be_bytes}
use Rattle.scr_frame.specs.Codes.{TYPE_IPV4, TYPE_IPV6, TYPE_TAG, TCP, UDP, ETHERNET_HEADER, TAGGED_HEADER, IPV4_WORDS, IPV4_HEADER, IPV6_HEADER, TCP_WORDS, TCP_HEADER, UDP_HEADER}
use Rattle.scr_frame.specs.declared.packet.Packet.{Packet}
use Rattle.scr_frame.specs.declared.parsed.Kind.{Kind}
use Rattle.scr_frame.specs.declared.parsed.Kind.TheVariants.{Other, Bare, Tcp, Udp}
use Rattle.scr_frame.specs.declared.parsed.Parsed.{Parsed}

-- the number of a width that stands in network order from a place on
abbrev pub network_number : Width → ℕ → List ℕ → ℕ
network_number w place bytes = from_be_bytes w (take (byte_len w) (drop place bytes))

-- a frame without an IP packet that can be read
abbrev pub other : Parsed
other = record {
  kind = Other;
  family = 0;
  source = 0;
  destination = 0;
  source_port = 0;
  destination_port = 0;
  protocol = 0;
  flags = 0;
  length = 0;
}

-- Ethernet: the type, and the bytes behind it. Two addresses of six bytes stand before the type; a tag is four
-- bytes that begin with a type of its own, and at most one is passed over.
unfoldable pub ethernet : List ℕ → Option (ℕ × List ℕ)
ethernet frame =
    if nat_lt (length frame) ETHERNET_HEADER then None else
    (if network_number w16 12 frame == TYPE_TAG
    then (if nat_lt (length frame) TAGGED_HEADER then None else Some (network_number w16 16 frame, drop TAGGED_HEADER frame))
    else Some (network_number w16 12 frame, drop ETHERNET_HEADER frame))

-- the length that a header tells, unless its field is 0, which stands for the captured bytes
abbrev pub told_or_captured : ℕ → ℕ → List ℕ → ℕ
told_or_captured field told bytes = if field == 0 then length bytes else told

-- IPv4: version in the high half of byte 0, header length in 32-bit words in its low half, total length at 2,
-- fragment offset in the low 13 bits at 6, protocol at 9, source at 12, destination at 16. The header has at least
-- 5 words, and is whole both among the captured bytes and within the length.
unfoldable pub ipv4 : List ℕ → Option Packet
ipv4 bytes =
    let words = slice_index bytes 0 % 16 in
    let total = network_number w16 2 bytes in
    let packet_length = told_or_captured total total bytes in
    if nat_le IPV4_HEADER (length bytes) && (slice_index bytes 0 / 16 == 4) && nat_le IPV4_WORDS words
    && nat_le (4 * words) (length bytes) && nat_le (4 * words) packet_length
    then Some (record {
      family = 0;
      source = network_number w32 12 bytes;
      destination = network_number w32 16 bytes;
      protocol = slice_index bytes 9;
      fragment = network_number w16 6 bytes % 8192;
      header = 4 * words;
      length = packet_length;
    })
    else None

-- IPv6: version in the high half of byte 0, payload length, which leaves out the 40 bytes of the header, at 4,
-- next header at 6, source at 8, destination at 24
unfoldable pub ipv6 : List ℕ → Option Packet
ipv6 bytes =
    if nat_le IPV6_HEADER (length bytes) && (slice_index bytes 0 / 16 == 6)
    then Some (record {
      family = 1;
      source = network_number w128 8 bytes;
      destination = network_number w128 24 bytes;
      protocol = slice_index bytes 6;
      fragment = 0;
      header = IPV6_HEADER;
      length = told_or_captured (network_number w16 4 bytes) (IPV6_HEADER + network_number w16 4 bytes) bytes;
    })
    else None

-- whether a transport header of so many bytes is whole, both among the captured bytes and within the packet
abbrev pub holds_header : ℕ → Packet → List ℕ → Bool
holds_header size packet bytes =
    nat_le (packet.header + size) (length bytes) && nat_le (packet.header + size) packet.length

-- the packet, and what its transport header says
abbrev pub with_transport : Kind → Packet → ℕ → ℕ → ℕ → Parsed
with_transport kind packet source_port destination_port flags = record {
  kind = kind;
  family = packet.family;
  source = packet.source;
  destination = packet.destination;
  source_port = source_port;
  destination_port = destination_port;
  protocol = packet.protocol;
  flags = flags;
  length = packet.length;
}

-- whether there is a TCP header, which has 20 bytes and a data offset of at least 5 in the high half of its byte 12.
-- A fragment behind the first has no header of it.
abbrev pub has_tcp : Packet → List ℕ → Bool
has_tcp packet bytes =
    (packet.fragment == 0) && (packet.protocol == TCP) && holds_header TCP_HEADER packet bytes
    && nat_le TCP_WORDS (slice_index (drop packet.header bytes) 12 / 16)

-- whether there is a UDP header, which has 8 bytes
abbrev pub has_udp : Packet → List ℕ → Bool
has_udp packet bytes = (packet.fragment == 0) && (packet.protocol == UDP) && holds_header UDP_HEADER packet bytes

-- TCP: ports at 0 and 2, flags in byte 13. UDP: ports at 0 and 2.
unfoldable pub transport : Packet → List ℕ → Parsed
transport packet bytes =
    let header = drop packet.header bytes in
    if has_tcp packet bytes
    then with_transport Tcp packet (network_number w16 0 header) (network_number w16 2 header) (slice_index header 13)
    else (if has_udp packet bytes
    then with_transport Udp packet (network_number w16 0 header) (network_number w16 2 header) 0
    else with_transport Bare packet 0 0 0)

-- the fields of an IP packet, where there is one
abbrev pub packet_or_other : Option Packet → List ℕ → Parsed
packet_or_other None bytes = other
packet_or_other (Some packet) bytes = transport packet bytes

-- the fields behind an Ethernet header, where its type is that of IPv4 or IPv6
abbrev pub network : Option (ℕ × List ℕ) → Parsed
network None = other
network (Some (ethertype, bytes)) =
    if ethertype == TYPE_IPV4 then packet_or_other (ipv4 bytes) bytes
    else (if ethertype == TYPE_IPV6 then packet_or_other (ipv6 bytes) bytes else other)

-- the fields of a frame
unfoldable pub fields : List ℕ → Parsed
fields frame = network (ethernet frame)
