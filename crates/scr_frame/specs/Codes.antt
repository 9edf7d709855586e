-- The codes and lengths of the headers that are read: Ethernet II and its tag (IEEE 802.1Q), IPv4 (RFC 791), IPv6 (RFC
-- 8200), TCP (RFC 9293) and UDP (RFC 768). Lengths are in bytes.
use Rattle.std.specs.Prelude.{ℕ}

-- types of Ethernet
abbrev pub TYPE_IPV4 : ℕ
TYPE_IPV4 = 0x0800

abbrev pub TYPE_IPV6 : ℕ
TYPE_IPV6 = 0x86DD

abbrev pub TYPE_TAG : ℕ
TYPE_TAG = 0x8100

-- protocols of IP
abbrev pub TCP : ℕ
TCP = 6

abbrev pub UDP : ℕ
UDP = 17

-- a header of Ethernet, and one with a tag
abbrev pub ETHERNET_HEADER : ℕ
ETHERNET_HEADER = 14

abbrev pub TAGGED_HEADER : ℕ
TAGGED_HEADER = 18

-- the header of IPv4 without options, in words of 32 bits and in bytes
abbrev pub IPV4_WORDS : ℕ
IPV4_WORDS = 5

abbrev pub IPV4_HEADER : ℕ
IPV4_HEADER = 20

abbrev pub IPV6_HEADER : ℕ
IPV6_HEADER = 40

-- the header of TCP without options, in words of 32 bits and in bytes
abbrev pub TCP_WORDS : ℕ
TCP_WORDS = 5

abbrev pub TCP_HEADER : ℕ
TCP_HEADER = 20

abbrev pub UDP_HEADER : ℕ
UDP_HEADER = 8
