use Rattle.std.proofs.Common.{arith}
use Rattle.scr_report.proofs.Numbers.{lacks-label, lacks-number, has-number}
use Rattle.scr_report.proofs.number.number_behind.Goals as goal

pub returns-in_err-behind : goal.returns-in_err-behind
returns-in_err-behind c = rw c.from_residual.ensures (lacks-label c.args.label.now c.args.greatest c.args.text.now c.in_err-behind.ensures)

pub returns-in_err-number : goal.returns-in_err-number
returns-in_err-number c =
    rw c.from_residual-in_err-number.ensures
    (lacks-number c.args.label.now c.args.greatest c.args.text.now _ _ _ (omega arith) c.in_ok-behind.ensures c.split_digits.ensures.parts c.split_digits.ensures.digits
    c.split_digits.ensures.ends c.in_err-number.ensures)

pub returns : goal.returns
returns c =
    has-number c.args.label.now c.args.greatest c.args.text.now _ _ _ c.in_ok-number.number c.in_ok-behind.ensures c.split_digits.ensures.parts c.split_digits.ensures.ends
    c.in_ok-number.ensures
