use Rattle.std.proofs.Common.{◌≡◌, ◌-◌, length, arith, ◌∙◌}
use Rattle.std.proofs.lemmas.Grind.{common_steps}
use Rattle.scr_pcapng.proofs.Taken.{GivesFewer-more, GivesFewer-then, TakesBytes-from, TakesBytes-then, any_on_err}
use Rattle.scr_pcapng.proofs.passing.pass.Goals as goal

pub loop-left-preserved : goal.loop-left-preserved
loop-left-preserved g c =
    let kept = c.take_whole.auto.buf in
    let size : length c.take_whole.new.buf ≡ c.min-count.result = grind (arith, common_steps) in
    let invariant = c.loop-left.invariant in
    let within = invariant.0 in
    let least = c.min-count.ensures in (
      omega arith,
      TakesBytes-then _ _ _ (c.args.size - c.loop-left.left) c.min-count.result _ invariant.1
          (TakesBytes-from _ _ c.take_whole.new.buf c.min-count.result c.in_ok-take_whole.ensures.taken size) (omega arith),
      c.in_ok-take_whole.ensures.counts ∙ invariant.2,
    )

pub returns-in_err-take_whole-clause-fewer : goal.returns-in_err-take_whole-clause-fewer
returns-in_err-take_whole-clause-fewer g c =
    let invariant = c.loop-left.invariant in
    let within = invariant.0 in
    let least = c.min-count.ensures in
    any_on_err _
    (GivesFewer-then _ _ _ (c.args.size - c.loop-left.left) c.min-count.result c.args.size invariant.1
    (GivesFewer-more _ _ _ c.min-count.result c.in_err-take_whole.ensures.fewer (grind (arith, common_steps))) (omega arith))
