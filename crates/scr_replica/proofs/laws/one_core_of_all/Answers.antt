use Rattle.scr_replica.proofs.OneCoreOfAll.{verdicts-all, entries-all, all_verdicts-push}
use Rattle.scr_replica.proofs.laws.one_core_of_all.Goals as goal

pub returns : goal.returns
returns c = record {
  verdicts = λ verdict_after plan none. verdicts-all plan none verdict_after;
  entries = λ count_after plan none. entries-all plan none count_after;
  one_more = λ verdict_after rows row. all_verdicts-push verdict_after rows row;
}
