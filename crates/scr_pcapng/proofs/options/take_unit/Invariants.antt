use Rattle.std.proofs.Common.{◌≡◌, ◌≤◌}
use Rattle.scr_pcapng.specs.Parts.{TakesOption}
use Rattle.scr_pcapng.proofs.options.take_unit.Given as goal

abbrev pub invariant-loop-left : goal.invariant-loop-left
invariant-loop-left g l =
    let source = g.S.Source in
    (l.left ≤ l.size) × TakesOption (source.left l.initial.source) (source.left l.source) l.order l.size l.left l.found
    × (source.faults l.source ≡ source.faults l.initial.source)

abbrev pub decreases-loop-left : goal.decreases-loop-left
decreases-loop-left g l = l.left
