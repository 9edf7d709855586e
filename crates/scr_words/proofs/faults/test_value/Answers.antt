use Rattle.std.proofs.Common.{refl}
use Rattle.std.proofs.lemmas.Result.{err_from_is_err_and}
use Rattle.scr_knock.specs.Ports.{ports_in}
use Rattle.scr_words.proofs.GivenValues.{setting_fault-refused}
use Rattle.scr_words.proofs.faults.test_value.Goals as goal

pub returns-in_err-set-in-ThreePorts : goal.returns-in_err-set-in-ThreePorts
returns-in_err-set-in-ThreePorts c =
    let failed = err_from_is_err_and c.from_residual-in_err-set-in-ThreePorts.result c.from_residual-in_err-set-in-ThreePorts.ensures.1 in
    let set = c.in_err-set-in-ThreePorts.ensures.ports refl in
    rw (c.in-ThreePorts.is, failed.1, failed.2)
    (setting_fault-refused (ports_in c.args.value.now) _ c.in_err-set-in-ThreePorts.field-0.0 (λ ports taken. taken.0) set)
