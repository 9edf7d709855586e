use Rattle.std.proofs.Common.{◌++◌}
use Rattle.byteorder.specs.Endian.{big_bytes}
use Rattle.scr_pcap.specs.Generated.{udp_frame}
use Rattle.scr_pcap.proofs.Appended.{three_appended}
use Rattle.scr_pcap.proofs.generated.put_udp.Goals as goal

pub returns : goal.returns
unfolding udp_frame
returns c =
    let ends = c.args.ends in
    three_appended c.args.bytes.now.items _ _ _ _ (big_bytes 4 ends.source ++ big_bytes 4 ends.destination ++ big_bytes 2 ends.source_port ++ big_bytes 2 ends.destination_port) _
    c.in_ok-extend_from_slice.ensures.items c.in_ok-put_ends.ensures c.in_ok-extend_from_slice-2.ensures.items
