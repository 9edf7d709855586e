-- What is asked for by what is to be done with a program that has these rules.
use Rattle.std.specs.Prelude.{ℕ, List, Option, Result}
use Rattle.scr_pcap.specs.Generated.{generated_records}
use Rattle.scr_run.specs.declared.task.Task.{Task}
use Rattle.scr_run.specs.declared.status.Status.{Status}
use Rattle.scr_run.specs.Asked.{IsByCommand}
use Rattle.scr_run.specs.Rules.{Rules}

abbrev pub IsByTask : Rules → Task → Option (List ℕ) → Result (List ℕ) Status → Type 0
IsByTask rules task left asked =
    IsByCommand rules task.code task.shape (generated_records task.start task.frames task.hosts) left task.command asked
