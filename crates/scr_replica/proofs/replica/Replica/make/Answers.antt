use Rattle.std.proofs.Common.{◌<◌, ℕ, List, sym, ap, subst, ◌∙◌}
use Rattle.scr_base.specs.declared.row.Row.{Row}
use Rattle.scr_log.specs.Passes.{LogsOf, IsLogs}
use Rattle.scr_replica.specs.OneCore.{kept_rows}
use Rattle.scr_replica.proofs.Taking.{kept_rows-zero}
use Rattle.scr_replica.proofs.Keeping.{keeps-begin}
use Rattle.scr_replica.proofs.replica.Replica.make.Goals as goal

pub invariant_of-result : goal.invariant_of-result
invariant_of-result g c =
    keeps-begin c.args.lane c.args.pass c.in-Ok.state c.nothing.result c.requires.begin
    (subst IsLogs (sym c.requires.of_these) c.cores-cores.ensures.logs)
    (subst (λ (n : ℕ). n < c.args.pass.logs.plan.cores) c.core-core.ensures.core c.core-core.ensures.below) (c.nothing.ensures c.args.pass.logs.plan c.args.pass.core)
    c.cores-cores.result c.history-history.result
    (c.cores-cores.ensures.cores ∙ ap (λ (l : LogsOf). l.plan.cores) (sym c.requires.of_these))
    (c.history-history.ensures.history ∙ ap (λ (l : LogsOf). l.plan.history) (sym c.requires.of_these))

pub returns-in-Ok-clause-stands : goal.returns-in-Ok-clause-stands
returns-in-Ok-clause-stands g c =
    let none = c.requires.begin.unfinished in
    subst (λ (rows : List Row). g.P.Program.StandsFor c.args.settings.now c.in-Ok.state rows)
    (sym (ap (kept_rows c.args.pass.logs.plan) none ∙ kept_rows-zero c.args.pass.logs.plan)) c.in-Ok.ensures
