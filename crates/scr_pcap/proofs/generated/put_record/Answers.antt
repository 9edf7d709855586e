use Rattle.std.proofs.Common.{◌≡◌, List, ℕ, ◌+◌, ◌*◌, subst, ap, refl}
use Rattle.std.specs.Prelude.{OnOk}
use Rattle.scr_pcap.proofs.GeneratedRecords.{record_written}
use Rattle.scr_pcap.proofs.generated.put_record.Goals as goal

pub returns : goal.returns
returns c =
    subst (λ (t : List ℕ). OnOk c.put_frame.result (c.put_frame.new.bytes.items ≡ t))
    (record_written c.args.bytes.now.items c.put_record_header.new.bytes.items _ _ _ c.sent_at-sent.result c.args.i c.args.number c.args.hosts
    c.in_ok-put_record_header.ensures (ap (λ (n : ℕ). 1700000000000000 + 100 * n) c.from.ensures) (c.length.ensures _) refl c.sent_at-sent.ensures)
    c.put_frame.ensures
