use Rattle.std.proofs.Common.{ℕ, ◌+◌, ◌*◌, ap, ◌∙◌}
use Rattle.scr_log.specs.Layout.{halt_place}
use Rattle.scr_log.specs.Passes.{LogsOf}
use Rattle.scr_log.proofs.logs.Logs.halt_place.Goals as goal

pub returns-clause-place : goal.returns-clause-place
unfolding halt_place
returns-clause-place c =
    rw c.core_words.ensures (ap (λ (n : ℕ). n * (8 * c.self.inside.slots + 1) + 1) c.self.invariant.0
    ∙ ap (λ (n : ℕ). c.self.inside.table.shared.key.plan.value.cores * (8 * n + 1) + 1) c.self.invariant.2
    ∙ ap (λ (l : LogsOf). l.plan.cores * (8 * l.slots + 1) + 1) c.self.view_is)
