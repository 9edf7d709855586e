use Rattle.std.proofs.Common.{eqb, rules, tests}
use Rattle.std.proofs.lemmas.Iterator.{YieldsList-from_slice}
use Rattle.std.proofs.lemmas.Iterator.Search.{any_from_yields_List}
use Rattle.scr_plan.specs.declared.delays.FrameDelay.{FrameDelay}
use Rattle.scr_plan.proofs.reading_delays.names.Goals as goal

pub returns : goal.returns
returns c =
    any_from_yields_List (λ (it : FrameDelay). eqb it.frame c.args.frame) _ _ c.any.result c.any.ensures.ran
    (YieldsList-from_slice c.args.delays.now c.iter.ensures.rest) (λ x b q k. search (rules, tests))
