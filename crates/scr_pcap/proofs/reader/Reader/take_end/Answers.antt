use Rattle.std.proofs.Common.{◌<◌, length, take, arith}
use Rattle.std.proofs.lemmas.List.{length-take}
use Rattle.scr_pcap.proofs.Faults.{IsFaultyRest-from_byte}
use Rattle.scr_pcap.proofs.reader.Reader.take_end.Goals as goal

pub returns-clause-faulty : goal.returns-clause-faulty
returns-clause-faulty g c =
    let first = take c.in_ok-count.count c.fill.new.buf in
    let some : 0 < length first = omega (arith, length-take c.in_ok-count.count c.fill.new.buf, c.fill.auto.buf) in
    λ _. IsFaultyRest-from_byte _ _ _ _ first c.requires some c.in_ok-count.ensures.taken
