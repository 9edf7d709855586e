use Rattle.scr_words.proofs.TextFaults.{table_fault-none, table_fault-refused}
use Rattle.scr_words.proofs.texts.test_table.Goals.{in-Ok, in-Err-Refused, in-Err-OutOfMemory}
use Rattle.scr_words.proofs.texts.test_table.Goals as goal

pub returns : goal.returns
returns c =
    elim c.match-read.branch [
      | in-Ok w ↦ rw w.result-is (table_fault-none c.args.text.now w.in-Ok.field-0 w.in-Ok.ensures)
      | in-Err-Refused w ↦ (
          let refused = rw w.in-Err-Refused.field-0-is at w.in-Err-Refused.ensures in
          rw (w.result-is, w.refused.ensures) (table_fault-refused c.args.text.now _ _ refused))
      | in-Err-OutOfMemory w ↦ rw w.result-is tt
    ]
