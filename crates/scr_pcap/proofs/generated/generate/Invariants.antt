use Rattle.std.proofs.Common.{◌≡◌}
use Rattle.scr_pcap.specs.Generated.{drawn, generated}
use Rattle.scr_pcap.proofs.generated.generate.Given as goal

abbrev pub invariant-loop-i : goal.invariant-loop-i
invariant-loop-i l = (l.number ≡ drawn l.fn.start l.i) × (l.bytes.items ≡ generated l.fn.start l.i l.hosts)
