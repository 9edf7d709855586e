use Rattle.std.proofs.Common.{◌<◌, length, take, refl, arith}
use Rattle.std.proofs.lemmas.List.{length-take}
use Rattle.scr_pcapng.proofs.HeadsTaken.{IsFaultOf-from, byte-behind}
use Rattle.scr_pcapng.proofs.reader.BlockReader.take_end.Goals as goal

pub returns-clause-faulty : goal.returns-clause-faulty
returns-clause-faulty g c =
    let first = take c.in_ok-fill.field-0 c.fill.new.buf in
    let other = c.if-branch-eq0.false in
    let some : 0 < length first = omega (arith, length-take c.in_ok-fill.field-0 c.fill.new.buf, c.fill.auto.buf) in
    IsFaultOf-from c.args.self.now.position _ _ _ _ c.into.ensures refl
    (byte-behind c.args.self.now.position _ _ first c.requires c.in_ok-fill.ensures.taken some)
