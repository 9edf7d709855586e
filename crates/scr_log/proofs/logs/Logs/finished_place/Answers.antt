use Rattle.std.proofs.Common.{ℕ, ◌+◌, ◌*◌, ap, ◌∙◌}
use Rattle.scr_log.specs.Layout.{place, finished_offset}
use Rattle.scr_log.specs.Passes.{LogsOf}
use Rattle.scr_log.proofs.logs.Logs.finished_place.Goals as goal

pub returns-clause-place : goal.returns-clause-place
unfolding place finished_offset
returns-clause-place c =
    rw c.core_words.ensures (ap (λ (n : ℕ). c.args.core * (8 * n + 1) + 8 * n) c.self.invariant.2
    ∙ ap (λ (l : LogsOf). c.args.core * (8 * l.slots + 1) + 8 * l.slots) c.self.view_is)
