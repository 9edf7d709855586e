use Rattle.std.proofs.Common.{Some, ap, refl, ℕ, List}
use Rattle.scr_pcap.specs.Generated.{generated_records}
use Rattle.scr_pcapng.proofs.Joining.{IsReading-classic}
use Rattle.scr_pcapng.proofs.OneReading.{same_readings}
use Rattle.scr_run.specs.Ends.{ended}
use Rattle.scr_run.proofs.Loading.{Ends-of_load}
use Rattle.scr_run.proofs.commands.run_load.Goals as goal

pub returns : goal.returns
returns g c =
    let task = c.args.task in
    record {
      ends = Ends-of_load _ c.in_ok-bytes.bytes.items _ (generated_records task.start task.frames task.hosts) _ g.O.Sink.written g.O.Sink.faults g.O.Sink.wants _ _ _ _ _ 0
          (ended c.run_cores.result) (same_readings c.in_ok-bytes.bytes.items) (ap (λ (b : List ℕ). Some b) c.new-made.ensures.left) (IsReading-classic c.in_ok-bytes.bytes.items _ c.in_ok-bytes.ensures.reading) refl tt c.run_cores.ensures.ends;
    }
