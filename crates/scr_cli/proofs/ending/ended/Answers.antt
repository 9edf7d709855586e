use Rattle.scr_run.proofs.Ending.{Ends-shown}
use Rattle.scr_cli.proofs.ending.ended.Goals as goal

pub returns-in-Ok-clause-run : goal.returns-in-Ok-clause-run
returns-in-Ok-clause-run g c =
    let ran = c.scr_main.ensures in
    rw (c.in-Ok.is, ← c.deref.ensures.value) (
      c.scr_main.result,
      c.code.ensures,
      Ends-shown _ _ _ g.O.Sink.written g.O.Sink.faults g.O.Sink.wants _ _ _ _ c.scr_main.result
          ran.done ran.refused ran.read_fault ran.write_fault ran.out_of_memory ran.reads ran.writes ran.wants,
      ran.line,
    )
