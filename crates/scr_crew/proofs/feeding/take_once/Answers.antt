use Rattle.std.proofs.Common.{◌≡◌}
use Rattle.scr_crew.proofs.feeding.take_once.Goals as goal

pub returns-in-NotYet : goal.returns-in-NotYet
returns-in-NotYet g c =
    λ verdict_after before is.
    let same : c.take_next.new.self ≡ c.args.taking.now = c.in-NotYet.ensures verdict_after is.coming in
    rw same (record { each = (is, λ e. absurd cc) })
