-- A made-up capture: so many records of some hosts that talk to one server, drawn from a start.
-- Record i, from 1 on, has the i-th number behind the start; the high 32 bits of this number pick the host and the frame.
-- A host is the client with the address 10.0.0.1 or one above, at port 40000. The server is 10.128.0.1, at port 80 for TCP
-- and 53 for UDP. Frames have no data, and their checksums are 0.
use Rattle.std.specs.Prelude.{ℕ, zero, suc, ◌+◌, ◌*◌, ◌/◌, ◌%◌, ◌^◌, List, [], ◌∷◌, ◌++◌, length, map, slice_index_or}
use Rattle.std.specs.List.{flat_map, range_with_len}
use Rattle.byteorder.specs.Endian.{little_bytes, big_bytes}
use Rattle.scr_pcap.specs.declared.format.Format.{Format}
use Rattle.scr_pcap.specs.declared.format.Order.TheVariants.{Little}
use Rattle.scr_pcap.specs.declared.format.Fraction.TheVariants.{Microseconds}
use Rattle.scr_pcap.specs.declared.generated.Sender.TheVariants.{Client, Server}
use Rattle.scr_pcap.specs.declared.generated.Sent.{Sent}
use Rattle.scr_pcap.specs.declared.generated.Sent.TheVariants.{Tcp, Udp}
use Rattle.scr_pcap.specs.Records.{Record}

-- the number of record i; behind the start of all, number 0
unfoldable pub drawn : (start i : ℕ) → ℕ
drawn start zero = start
drawn start (suc i) = (drawn start i * 6364136223846793005 + 1442695040888963407) % 2 ^ 64

-- how many hosts there may be
abbrev pub most_hosts : ℕ
most_hosts = 65536

-- what the high half of a record's number picks: the host, from 0, and the place in the exchange below
abbrev pub host : (number hosts : ℕ) → ℕ
host number hosts = number / 2 ^ 32 % hosts

abbrev pub place : (number hosts : ℕ) → ℕ
place number hosts = number / 2 ^ 32 / hosts % 16

-- who sends which frame, with the flags of TCP
abbrev pub exchange : List Sent
exchange =
    Tcp Client 0x02 ∷
    Tcp Server 0x12 ∷
    Tcp Client 0x10 ∷
    Tcp Client 0x10 ∷
    Tcp Server 0x10 ∷
    Tcp Client 0x18 ∷
    Tcp Server 0x18 ∷
    Tcp Client 0x11 ∷
    Tcp Server 0x11 ∷
    Tcp Client 0x10 ∷
    Tcp Server 0x04 ∷
    Udp Client ∷
    Udp Server ∷
    Udp Client ∷
    Tcp Client 0x02 ∷
    Tcp Server 0x10 ∷
    []

abbrev pub sent_at : (place : ℕ) → Sent
sent_at place = slice_index_or exchange place (Udp Client)

-- Ethernet II: to 02:00:00:00:00:02, from 02:00:00:00:00:01, an IPv4 packet
abbrev pub ethernet : List ℕ
ethernet = 2 ∷ 0 ∷ 0 ∷ 0 ∷ 0 ∷ 2 ∷ 2 ∷ 0 ∷ 0 ∷ 0 ∷ 0 ∷ 1 ∷ 0x08 ∷ 0x00 ∷ []

-- RFC 791: version 4 with five words, the total length, neither identification nor fragments, a time to live of 64
abbrev pub ipv4 : (total protocol source destination : ℕ) → List ℕ
ipv4 total protocol source destination =
    0x45 ∷ 0 ∷ big_bytes 2 total ++ 0 ∷ 0 ∷ 0 ∷ 0 ∷ 64 ∷ protocol ∷ 0 ∷ 0 ∷ big_bytes 4 source ++ big_bytes 4 destination

-- RFC 9293: sequence and acknowledgement 0, five words, the flags, the largest window
abbrev pub tcp : (source_port destination_port flags : ℕ) → List ℕ
tcp source_port destination_port flags =
    big_bytes 2 source_port ++ big_bytes 2 destination_port ++ 0 ∷ 0 ∷ 0 ∷ 0 ∷ 0 ∷ 0 ∷ 0 ∷ 0 ∷ 0x50 ∷ flags ∷ 0xFF ∷ 0xFF ∷ 0 ∷ 0 ∷ 0 ∷ 0 ∷ []

-- RFC 768: a datagram of 8 bytes
abbrev pub udp : (source_port destination_port : ℕ) → List ℕ
udp source_port destination_port = big_bytes 2 source_port ++ big_bytes 2 destination_port ++ 0 ∷ 8 ∷ 0 ∷ 0 ∷ []

-- a frame of 42 bytes, and one of 54
unfoldable pub udp_frame : (source source_port destination destination_port : ℕ) → List ℕ
udp_frame source source_port destination destination_port =
    ethernet ++ ipv4 28 17 source destination ++ udp source_port destination_port

unfoldable pub tcp_frame : (source source_port destination destination_port flags : ℕ) → List ℕ
tcp_frame source source_port destination destination_port flags =
    ethernet ++ ipv4 40 6 source destination ++ tcp source_port destination_port flags

-- the frame between a client and the server
unfoldable pub frame_between : (client : ℕ) → Sent → List ℕ
frame_between client (Tcp Client flags) = tcp_frame client 40000 0x0A800001 80 flags
frame_between client (Tcp Server flags) = tcp_frame 0x0A800001 80 client 40000 flags
frame_between client (Udp Client) = udp_frame client 40000 0x0A800001 53
frame_between client (Udp Server) = udp_frame 0x0A800001 53 client 40000

-- the frame that a record's number picks
abbrev pub frame_of : (number hosts : ℕ) → List ℕ
frame_of number hosts = frame_between (0x0A000001 + host number hosts) (sent_at (place number hosts))

-- the time of record i: 100 microseconds behind the one before, from second 1,700,000,000 on
abbrev pub time_of : (i : ℕ) → ℕ
time_of i = 1700000000000000 + 100 * i

-- record i
unfoldable pub generated_record : (start hosts i : ℕ) → Record
generated_record start hosts i = record { time = time_of i; content = frame_of (drawn start i) hosts }

-- the records, from 1 on
abbrev pub generated_records : (start frames hosts : ℕ) → List Record
generated_records start frames hosts = map (generated_record start hosts) (range_with_len 1 frames)

-- the header of a capture in little order with microseconds: version 2.4, snap length 262,144, Ethernet
abbrev pub generated_header : List ℕ
generated_header =
    0xD4 ∷ 0xC3 ∷ 0xB2 ∷ 0xA1 ∷ 2 ∷ 0 ∷ 4 ∷ 0 ∷ 0 ∷ 0 ∷ 0 ∷ 0 ∷ 0 ∷ 0 ∷ 0 ∷ 0 ∷ 0 ∷ 0 ∷ 4 ∷ 0 ∷ 1 ∷ 0 ∷ 0 ∷ 0 ∷ []

-- the format that this header tells
abbrev pub generated_format : Format
generated_format = record { order = Little; fraction = Microseconds }

-- what stands in front of a frame of this length: seconds, microseconds, captured and original length
abbrev pub record_header : (time size : ℕ) → List ℕ
record_header time size =
    little_bytes 4 (time / 1000000) ++ little_bytes 4 (time % 1000000) ++ little_bytes 4 size ++ little_bytes 4 size

-- a record as bytes
unfoldable pub record_bytes : Record → List ℕ
record_bytes r = record_header r.time (length r.content) ++ r.content

-- the capture
unfoldable pub generated : (start frames hosts : ℕ) → List ℕ
generated start frames hosts = generated_header ++ flat_map record_bytes (generated_records start frames hosts)
