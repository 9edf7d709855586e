use Rattle.std.proofs.Common.{◌≡◌, ◌≤◌, ◌-◌}
use Rattle.scr_pcap.specs.Records.{RECORDS}
use Rattle.scr_pcapng.specs.declared.progress.Progress.TheVariants.{Reading}
use Rattle.scr_pcapng.specs.Either.{progress_of, reading_of, records_of, rest_of}
use Rattle.scr_replica.specs.OneCore.{verdicts, undivided}
use Rattle.scr_run.proofs.Progress.{HasTaken}
use Rattle.scr_run.proofs.plain.one_core_answer.Given as goal

abbrev pub invariant-loop-core : goal.invariant-loop-core
invariant-loop-core g l = record {
  taken : HasTaken (g.P.Program.row_of l.settings)
      (λ rows. (l.core.given.items ≡ verdicts (g.P.Program.verdict_after l.settings) (undivided rows)) × g.P.Program.StandsFor l.settings l.core.state rows)
      (records_of l.reader) (reading_of (g.S.Source.left l.fn.capture)) (rest_of l.reader (g.S.Source.left l.capture));
  reading : progress_of l.reader ≡ Reading;
  few : records_of l.reader ≤ RECORDS;
  calm : g.S.Source.faults l.capture ≡ g.S.Source.faults l.fn.capture;
}

abbrev pub decreases-loop-core : goal.decreases-loop-core
decreases-loop-core g l = RECORDS - records_of l.reader
