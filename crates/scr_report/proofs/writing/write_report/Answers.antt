use Rattle.scr_base.proofs.Streams.{WritesText-finish}
use Rattle.scr_report.proofs.writing.write_report.Goals as goal

pub returns-clause-text : goal.returns-clause-text
returns-clause-text g c =
    WritesText-finish _ _ _ _ _ _ c.finish.result c.new-batch.ensures c.in_ok-put_report.ensures.text c.finish.ensures.text
