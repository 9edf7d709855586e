use Rattle.std.proofs.Common.{ℕ, ◌+◌, ◌-◌, ◌*◌, ◌%◌, ap, ◌∙◌}
use Rattle.scr_log.specs.Layout.{place, tag_offset}
use Rattle.scr_log.specs.Passes.{LogsOf}
use Rattle.scr_log.proofs.logs.Logs.tag_place.Goals as goal

pub returns-clause-place : goal.returns-clause-place
unfolding place tag_offset
returns-clause-place c =
    let q : ℕ = c.args.p - 1 in
    rw c.core_words.ensures (ap (λ (n : ℕ). c.args.core * (8 * n + 1) + 8 * (q % n)) c.self.invariant.2
    ∙ ap (λ (l : LogsOf). c.args.core * (8 * l.slots + 1) + 8 * (q % l.slots)) c.self.view_is)
