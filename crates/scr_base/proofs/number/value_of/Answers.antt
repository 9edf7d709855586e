use Rattle.std.proofs.Common.{◌≡◌, ◌+◌, take, arith, ap, take_all, ◌∙◌}
use Rattle.scr_base.specs.Numbers.{number_of}
use Rattle.scr_base.proofs.Numbers.{number-each, number-more, number-front}
use Rattle.scr_base.proofs.number.value_of.Goals as goal

pub overflow_sub-digit : goal.overflow_sub-digit
overflow_sub-digit c = (number-each c.args.digits.now c.requires c.loop-digit.digit-index c.loop-digit-test.true).0

pub returns-in_err-checked_mul : goal.returns-in_err-checked_mul
returns-in_err-checked_mul c =
    rw c.from_residual.ensures
    (λ below. omega (
      arith,
      number-more c.args.digits.now c.loop-digit.digit-index c.requires c.loop-digit-test.true,
      number-front c.args.digits.now (c.loop-digit.digit-index + 1),
    ))

pub returns-in_err-value : goal.returns-in_err-value
returns-in_err-value c =
    rw c.from_residual-in_err-value.ensures
    (λ below. omega (
      arith,
      number-more c.args.digits.now c.loop-digit.digit-index c.requires c.loop-digit-test.true,
      number-front c.args.digits.now (c.loop-digit.digit-index + 1),
    ))

pub loop-digit-preserved : goal.loop-digit-preserved
loop-digit-preserved c =
    let more = number-more c.args.digits.now c.loop-digit.digit-index c.requires c.loop-digit-test.true in
    (omega arith, omega (arith, more))

pub returns : goal.returns
returns c =
    let all : take c.loop-digit.digit-index c.args.digits.now ≡ c.args.digits.now = take_all c.loop-digit.digit-index c.args.digits.now (omega arith) in
    let same : c.loop-digit.value ≡ number_of c.args.digits.now = c.loop-digit.invariant.1 ∙ ap number_of all in
    (omega arith, same)
