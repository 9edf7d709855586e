use Rattle.scr_words.specs.Operands.{line_of}
use Rattle.scr_words.specs.GivenSettings.{value_for}
use Rattle.scr_words.proofs.GivenValues.{value_for-passes}
use Rattle.scr_words.proofs.FaultlessValues.{number_fault-none}
use Rattle.scr_words.proofs.choosing.number.Goals as goal

pub spelled-requires-clause-faultless : goal.spelled-requires-clause-faultless
spelled-requires-clause-faultless c =
    let command = c.args.tested.command in
    let operands = c.args.tested.operands.now in
    let passes = value_for-passes command c.args.operand operands c.requires.values c.requires.default in
    rw c.value.ensures (number_fault-none command (line_of c.args.operand).form (value_for c.args.operand operands) c.requires.numeric passes)
