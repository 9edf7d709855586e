use Rattle.std.proofs.Common.{◌≢◌, ◌≤◌, length, subst, arith}
use Rattle.std.proofs.lemmas.Grind.{common_steps}
use Rattle.scr_pcapng.specs.Blocks.{BLOCKS}
use Rattle.scr_pcapng.specs.State.{BlockReaderState}
use Rattle.scr_pcapng.proofs.HeadsTaken.{IsFaultOf-from, cut-before_kind, cut-in_front}
use Rattle.scr_pcapng.proofs.reader.BlockReader.take_block.Goals as goal

pub returns-then-count-lt-FRONT-clause-faulty : goal.returns-then-count-lt-FRONT-clause-faulty
returns-then-count-lt-FRONT-clause-faulty g c =
    let position = c.args.self.now.position in
    let first = c.in_ok-count.ensures in
    let short = c.if-count-lt-FRONT.true in
    let some = c.if-count-eq0.false in
    let within : c.in_ok-count.count ≤ length c.take_front.new.bytes = grind (arith, common_steps) in
    let few = subst (λ (reader : BlockReaderState). reader.position.blocks ≢ BLOCKS) c.self.view_is c.if-self-eq-BLOCKS.false in
    IsFaultOf-from position _ _ c.cut.result _ c.into.ensures c.cut.ensures
    (cut-in_front position _ _ c.take_front.new.bytes c.in_ok-count.count few first.taken (first.end short) (omega arith) within
    (cut-before_kind position _ c.in_ok-count.count short))
