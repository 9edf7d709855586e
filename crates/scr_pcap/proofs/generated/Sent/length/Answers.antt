use Rattle.std.proofs.Common.{sym}
use Rattle.scr_pcap.proofs.GeneratedFrames.{length-frame_of_tcp, length-frame_of_udp}
use Rattle.scr_pcap.proofs.generated.Sent.length.Goals as goal

pub returns-in-Tcp : goal.returns-in-Tcp
returns-in-Tcp c = λ client. rw c.in-Tcp.is (sym (length-frame_of_tcp client c.in-Tcp.field-0 c.in-Tcp.field-1))

pub returns-in-Udp : goal.returns-in-Udp
returns-in-Udp c = λ client. rw c.in-Udp.is (sym (length-frame_of_udp client c.in-Udp.field-0))
