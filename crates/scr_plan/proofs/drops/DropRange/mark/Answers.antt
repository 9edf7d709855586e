use Rattle.std.proofs.Common.{◌≡◌, ◌≤◌, ◌+◌, ◌*◌, length, arith}
use Rattle.scr_plan.proofs.Marking.{marked}
use Rattle.scr_plan.proofs.drops.DropRange.mark.Goals as goal

pub loop-n-preserved : goal.loop-n-preserved
loop-n-preserved c =
    let n = c.loop-n.n in
    let j = c.loop-n.invariant.number in
    let is : n ≡ c.args.self.now.first + j.0 * c.args.self.now.step = j.1 in
    let from : 1 ≤ n = c.loop-n.invariant.from in
    let below : n ≤ c.args.self.now.last = omega (arith, c.min-last.ensures) in
    let within : n ≤ length c.loop-n.marks = omega (arith, c.min-last.ensures) in
    record {
      from = omega arith;
      number = (j.0 + 1, omega arith);
      marks = λ k to. marked c.args.self.now c.requires.step c.loop-n.marks c.args.marks.now n j.0 k from within is below (c.loop-n.invariant.marks k to);
    }
