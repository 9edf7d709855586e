-- The frames of a generated capture: how long they are, and how they are made of their ends.
use Rattle.std.proofs.Common.{◌≡◌, ℕ, ◌≤◌, length, refl, arith}
use Rattle.scr_pcap.specs.declared.generated.Ends.{Ends}
use Rattle.scr_pcap.specs.declared.generated.Sender.{Sender}
use Rattle.scr_pcap.specs.declared.generated.Sender.TheVariants.{Client, Server}
use Rattle.scr_pcap.specs.declared.generated.Sent.{Sent}
use Rattle.scr_pcap.specs.declared.generated.Sent.TheVariants.{Tcp, Udp}
use Rattle.scr_pcap.specs.Generated.{frame_between, tcp_frame, udp_frame}

pub length-frame_of_tcp : (client : ℕ) (sender : Sender) (flags : ℕ) → length (frame_between client (Tcp sender flags)) ≡ 54
unfolding frame_between tcp_frame
length-frame_of_tcp client Client flags = refl
length-frame_of_tcp client Server flags = refl

pub length-frame_of_udp : (client : ℕ) (sender : Sender) → length (frame_between client (Udp sender)) ≡ 42
unfolding frame_between udp_frame
length-frame_of_udp client Client = refl
length-frame_of_udp client Server = refl

pub frame_fits : (client : ℕ) (sent : Sent) → length (frame_between client sent) ≤ 54
frame_fits client (Tcp sender flags) = let e = length-frame_of_tcp client sender flags in omega arith
frame_fits client (Udp sender) = let e = length-frame_of_udp client sender in omega arith

-- who sends tells the ends
pub record AreEnds (ends : Ends) (sender : Sender) (client port : ℕ) : Type 0 where
  pub client_sends : sender ≡ Client → ends ≡ record { source = client; source_port = 40000; destination = 0x0A800001; destination_port = port }
  pub server_sends : sender ≡ Server → ends ≡ record { source = 0x0A800001; source_port = port; destination = client; destination_port = 40000 }

pub frame-from_tcp : (ends : Ends) (client : ℕ) (sender : Sender) (flags : ℕ) → AreEnds ends sender client 80
    → tcp_frame ends.source ends.source_port ends.destination ends.destination_port flags ≡ frame_between client (Tcp sender flags)
unfolding frame_between
frame-from_tcp ends client Client flags are = rw (are.client_sends refl) refl
frame-from_tcp ends client Server flags are = rw (are.server_sends refl) refl

pub frame-from_udp : (ends : Ends) (client : ℕ) (sender : Sender) → AreEnds ends sender client 53
    → udp_frame ends.source ends.source_port ends.destination ends.destination_port ≡ frame_between client (Udp sender)
unfolding frame_between
frame-from_udp ends client Client are = rw (are.client_sends refl) refl
frame-from_udp ends client Server are = rw (are.server_sends refl) refl
