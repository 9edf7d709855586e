use Rattle.std.proofs.Common.{List, ℕ, ◌++◌, ap, ◌∙◌}
use Rattle.byteorder.specs.Endian.{big_bytes}
use Rattle.scr_pcap.proofs.Appended.{four_appended}
use Rattle.scr_pcap.proofs.generated.put_ends.Goals as goal

pub returns : goal.returns
returns c =
    four_appended c.args.bytes.now.items _ _ _ _ (big_bytes 4 c.args.ends.source) (big_bytes 4 c.args.ends.destination) (big_bytes 2 c.args.ends.source_port) (big_bytes 2 c.args.ends.destination_port)
    (c.in_ok-extend_from_slice.ensures.items ∙ ap (λ (t : List ℕ). c.args.bytes.now.items ++ t) c.to_be_bytes.ensures)
    (c.in_ok-extend_from_slice-2.ensures.items ∙ ap (λ (t : List ℕ). c.extend_from_slice.new.self.items ++ t) c.to_be_bytes-2.ensures)
    (c.in_ok-extend_from_slice-3.ensures.items ∙ ap (λ (t : List ℕ). c.extend_from_slice-2.new.self.items ++ t) c.to_be_bytes-3.ensures)
    (c.in_ok-extend_from_slice-4.ensures.items ∙ ap (λ (t : List ℕ). c.extend_from_slice-3.new.self.items ++ t) c.to_be_bytes-4.ensures)
