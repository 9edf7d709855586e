use Rattle.std.proofs.Common.{◌≡◌, ◌≤◌, ◌-◌}
use Rattle.scr_pcap.specs.Records.{RECORDS}
use Rattle.scr_pcapng.specs.declared.progress.Progress.TheVariants.{Reading}
use Rattle.scr_pcapng.specs.Either.{progress_of, reading_of, records_of, rest_of}
use Rattle.scr_run.proofs.Progress.{HasTaken}
use Rattle.scr_run.proofs.engine.rows_read.Given as goal

abbrev pub invariant-loop-rows : goal.invariant-loop-rows
invariant-loop-rows g l = record {
  taken : HasTaken (g.P.Program.row_of l.settings) (λ rows. l.rows.items ≡ rows) (records_of l.reader) (reading_of (g.S.Source.left l.fn.capture))
      (rest_of l.reader (g.S.Source.left l.capture));
  reading : progress_of l.reader ≡ Reading;
  few : records_of l.reader ≤ RECORDS;
  calm : g.S.Source.faults l.capture ≡ g.S.Source.faults l.fn.capture;
}

abbrev pub decreases-loop-rows : goal.decreases-loop-rows
decreases-loop-rows g l = RECORDS - records_of l.reader
