use Rattle.std.proofs.Common.{refl, sym, ◌∙◌}
use Rattle.scr_replica.specs.OneCore.{undivided}
use Rattle.scr_replica.proofs.OneCoreOfAll.{verdicts-all, entries-all}
use Rattle.scr_replica.proofs.Counted.{delivered_count-all, kept_count-all}
use Rattle.scr_replica.proofs.laws.none_dropped.Goals as goal

pub returns : goal.returns
returns c = record {
  verdicts = λ verdict_after plan none. verdicts-all plan none verdict_after ∙ sym (verdicts-all (undivided plan.rows) refl verdict_after);
  entries = λ count_after plan none. entries-all plan none count_after ∙ sym (entries-all (undivided plan.rows) refl count_after);
  delivered = λ plan none. delivered_count-all plan none;
  kept = λ plan none. kept_count-all plan none;
}
