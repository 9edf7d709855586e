use Rattle.std.proofs.Common.{refl, ap, ◌∙◌}
use Rattle.scr_pcapng.specs.State.{BlockReaderState}
use Rattle.scr_pcapng.proofs.Stepping.{Steps-block, Steps-refused}
use Rattle.scr_pcapng.proofs.reader.BlockReader.advance.Goals as goal

pub returns-in-Err-clause-steps : goal.returns-in-Err-clause-steps
returns-in-Err-clause-steps g c =
    let told = c.in-Err.ensures in
    let same = ap (λ (reader : BlockReaderState). reader.position) (c.self.view_is ∙ told.unchanged) in
    Steps-refused c.args.self.now _ _ _ _ _ c.take_block.new.frame c.in-Err.error c.requires refl same told.faulty told.few told.counts

pub returns-in-Ok-Some-clause-steps : goal.returns-in-Ok-Some-clause-steps
returns-in-Ok-Some-clause-steps g c =
    let told = c.in-Ok-Some.ensures in
    let block = rw c.in-Ok-Some.field-0-is at told.block in
    Steps-block c.args.self.now _ _ c.take_block.new.self _ _ c.take_block.new.frame c.in-Ok-Some.content c.packet.result c.packet.ensures
    c.requires (told.progress ∙ c.requires) block.0 block.1 block.2 block.3 told.few told.counts
