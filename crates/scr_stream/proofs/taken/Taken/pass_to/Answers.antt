use Rattle.std.proofs.Common.{ℕ, refl}
use Rattle.scr_base.specs.declared.row.Row.{Row}
use Rattle.scr_stream.specs.Reading.{no_row}
use Rattle.scr_stream.proofs.Growing.{map-grown, range-grown}
use Rattle.scr_stream.proofs.taken.Taken.pass_to.Goals as goal

pub loop-p-preserved : goal.loop-p-preserved
loop-p-preserved c =
    let f : ℕ → Row = λ k. no_row in
    let from = c.loop-p.auto.p in
    record {
      rows = map-grown f _ _ _ _ c.loop-p.p _ from c.loop-p.invariant.rows c.in_ok-push.ensures.items refl;
      missing = range-grown _ _ _ _ c.loop-p.p from c.loop-p.invariant.missing c.in_ok-push-2.ensures.items;
    }
