use Rattle.std.proofs.Common.{◌≡◌, Some, None, sym, ap, ◌∙◌, refl, below_more}
use Rattle.scr_words.specs.WordFaults.{fault_at}
use Rattle.scr_words.proofs.OperandFaults.{fault_at-is}
use Rattle.scr_words.proofs.faults.test_operands.Goals as goal

pub returns-in-Err-Refused-clause-refused : goal.returns-in-Err-Refused-clause-refused
returns-in-Err-Refused-clause-refused c =
    let told = rw c.in-Err-Refused.field-0-is at c.in-Err-Refused.ensures in
    record {
      place = c.loop-place.place;
      within = c.loop-place-test.true;
      before = c.loop-place.invariant;
      cause =
          sym (fault_at-is c.args.command c.args.operands.now c.loop-place.place c.chosen-choice.result c.bytes.result.now c.index-operands-place.result
          c.chosen-choice.ensures c.bytes.ensures c.index-operands-place.is c.loop-place-test.true)
          ∙ told ∙ ap Some (sym c.in-Err-Refused.cause-is);
      number = refl;
    }

pub loop-place-preserved : goal.loop-place-preserved
loop-place-preserved c =
    let here : fault_at c.args.command c.args.operands.now c.loop-place.place ≡ None =
    sym (fault_at-is c.args.command c.args.operands.now c.loop-place.place c.chosen-choice.result c.bytes.result.now c.index-operands-place.result
    c.chosen-choice.ensures c.bytes.ensures c.index-operands-place.is c.loop-place-test.true)
    ∙ c.in-Ok.ensures in
    below_more _ _ c.loop-place.invariant here
