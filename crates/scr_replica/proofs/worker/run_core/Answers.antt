use Rattle.std.proofs.Common.{◌++◌, List, sym, ap}
use Rattle.scr_plan.specs.declared.given.Given.{Given}
use Rattle.scr_replica.specs.OneCore.{course}
use Rattle.scr_replica.proofs.Going.{core-answer}
use Rattle.scr_replica.proofs.worker.run_core.Goals as goal

pub run_core_into-requires-clause-awaits : goal.run_core_into-requires-clause-awaits
run_core_into-requires-clause-awaits g c κs within =
    let whole : List Given = course (g.P.Program.verdict_after c.args.settings.now) c.args.logs.now.plan c.args.pass.core in
    sym (ap (λ (list : List Given). list ++ whole) c.new-verdicts.ensures.items)

pub returns-clause-answer : goal.returns-clause-answer
returns-clause-answer g c =
    core-answer (g.P.Program.verdict_after c.args.settings.now) (g.P.Program.count_after c.args.settings.now) c.args.logs.now.plan c.args.pass.core
    c.in_ok-tally.tally c.in_ok-tally.ensures.tally c.run_core_into.new.outlet.items c.in_ok-tally.ensures.given
