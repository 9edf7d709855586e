use Rattle.scr_base.proofs.Streams.{WritesText-finish}
use Rattle.scr_run.proofs.fault_line.write_fault_line.Goals as goal

pub returns-clause-text : goal.returns-clause-text
returns-clause-text g c =
    WritesText-finish _ _ _ _ _ _ c.finish.result c.new-batch.ensures c.in_ok-put_fault_line.ensures.text c.finish.ensures.text
