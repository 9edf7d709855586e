use Rattle.scr_plan.proofs.EmptyLink.{order-plain, delivered-all, kept-all}
use Rattle.scr_plan.proofs.laws.empty_link_delivers_all.Goals as goal

pub returns : goal.returns
returns c = record {
  order = λ plan core empty. order-plain plan empty core;
  delivered = λ plan n empty from to. delivered-all plan empty n from to;
  kept = λ plan p empty from to. kept-all plan empty p from to;
}
