use Rattle.scr_pcapng.specs.Steps.{Steps}
use Rattle.scr_pcapng.proofs.Stepping.{rounds}
use Rattle.scr_pcapng.proofs.reader.BlockReader.take_packet.Given as goal

abbrev pub invariant-loop-self : goal.invariant-loop-self
invariant-loop-self g l =
    let source = g.S.Source in
    Steps l.initial.self (source.left l.initial.source) (source.faults l.initial.source) l.self (source.left l.source) (source.faults l.source) l.frame l.found

abbrev pub decreases-loop-self : goal.decreases-loop-self
decreases-loop-self g l = rounds l.self.progress l.self.position.blocks
