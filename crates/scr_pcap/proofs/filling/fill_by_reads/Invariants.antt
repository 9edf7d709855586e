use Rattle.std.proofs.Common.{◌≡◌, length, ◌-◌, ◌≤◌, take}
use Rattle.std.specs.Io.KnownBytes.{Consumes}
use Rattle.scr_pcap.proofs.filling.fill_by_reads.Given as goal

abbrev pub invariant-loop-count : goal.invariant-loop-count
invariant-loop-count g l =
    let source = g.S.Source in
    (l.count ≤ length l.buf) × Consumes (source.left l.initial.source) (source.left l.source) (take l.count l.buf)
    × (source.faults l.source ≡ source.faults l.initial.source)

abbrev pub decreases-loop-count : goal.decreases-loop-count
decreases-loop-count g l = length l.initial.buf - l.count
