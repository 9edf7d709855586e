use Rattle.std.proofs.Common.{◌≡◌, List, ℕ, ◌++◌, subst, ap, sym, ◌∙◌}
use Rattle.std.specs.Prelude.{OnOk}
use Rattle.scr_pcap.specs.declared.generated.Sent.{Sent}
use Rattle.scr_pcap.specs.Generated.{frame_between}
use Rattle.scr_pcap.proofs.GeneratedFrames.{AreEnds, frame-from_tcp, frame-from_udp}
use Rattle.scr_pcap.proofs.generated.put_frame.Goals as goal

pub returns-in-Tcp : goal.returns-in-Tcp
returns-in-Tcp c =
    let are : AreEnds c.ends_of.result c.in-Tcp.sender c.args.client 80 = record { client_sends = c.ends_of.ensures.client; server_sends = c.ends_of.ensures.server } in
    let frame = frame-from_tcp c.ends_of.result c.args.client c.in-Tcp.sender c.in-Tcp.flags are in
    subst (λ (t : List ℕ). OnOk c.put_tcp.result (c.put_tcp.new.bytes.items ≡ c.args.bytes.now.items ++ t))
    (frame ∙ ap (λ (sent : Sent). frame_between c.args.client sent) (sym c.in-Tcp.is)) c.put_tcp.ensures

pub returns-in-Udp : goal.returns-in-Udp
returns-in-Udp c =
    let are : AreEnds c.ends_of-in-Udp.result c.in-Udp.sender c.args.client 53 = record { client_sends = c.ends_of-in-Udp.ensures.client; server_sends = c.ends_of-in-Udp.ensures.server } in
    let frame = frame-from_udp c.ends_of-in-Udp.result c.args.client c.in-Udp.sender are in
    subst (λ (t : List ℕ). OnOk c.put_udp.result (c.put_udp.new.bytes.items ≡ c.args.bytes.now.items ++ t))
    (frame ∙ ap (λ (sent : Sent). frame_between c.args.client sent) (sym c.in-Udp.is)) c.put_udp.ensures
