use Rattle.std.proofs.Common.{◌≡◌, ◌+◌, ◌∷◌, ℕ, List, length, sym, ap, subst, arith, ◌∙◌}
use Rattle.std.proofs.lemmas.List.{length_push}
use Rattle.std.specs.Vec.Iter.{into_iter_items}
use Rattle.scr_base.specs.declared.row.Row.{Row}
use Rattle.scr_base.specs.declared.row.Verdict.{Verdict}
use Rattle.scr_lane.specs.Messages.{Route, route}
use Rattle.scr_lane.specs.Ends.{End}
use Rattle.scr_plan.specs.declared.given.Given.{Given}
use Rattle.scr_plan.specs.Plan.{Plan}
use Rattle.scr_log.specs.Passes.{LogsOf}
use Rattle.scr_crew.specs.Cores.{OfCores}
use Rattle.scr_crew.specs.Verdicts.{IsNewVerdictEnd}
use Rattle.scr_crew.specs.Workers.{IsNewEnd, IsWorker}
use Rattle.scr_crew.specs.declared.workers.Worker.{Worker}
use Rattle.scr_crew.proofs.Coming.{Coming, first_comes, others_come, one_more}
use Rattle.scr_crew.proofs.workers.claim_all.Goals as goal

pub loop-lane-preserved : goal.loop-lane-preserved
loop-lane-preserved g c =
    let verdict_after : List Row → Row → Verdict = g.P.Program.verdict_after c.args.settings.now in
    let plan : Plan = c.args.plan.now in
    let core : ℕ = c.loop-lane.core in
    let rest : List (End Route) = into_iter_items c.next.new.self in
    let lane : End Route = c.in-Some.lane in
    let coming : Coming (IsNewEnd plan) core plan.cores (lane ∷ rest) =
    subst (Coming (IsNewEnd plan) core plan.cores) c.in-Some.ensures.steps.0 c.loop-lane.invariant.coming in
    let new : IsNewEnd plan core lane = first_comes (IsNewEnd plan) core plan.cores lane rest coming in
    let its = c.in-Some-claim.ensures in
    let planned : plan ≡ c.in-Some-claim.pass.logs.plan = sym c.requires.plan ∙ ap (λ (l : LogsOf). l.plan) (sym its.logs) in
    let send : End (List Given) = c.in_ok-send.send in
    let receive : End (List Given) = c.in_ok-send.receive in
    let new_send : IsNewVerdictEnd verdict_after plan core send = record {
      about = ap (λ (end : End (List Given)). end.about) c.in_ok-send.ensures.send;
      unmoved = ap (λ (end : End (List Given)). end.count) c.in_ok-send.ensures.send;
    } in
    let new_receive : IsNewVerdictEnd verdict_after plan core receive = record {
      about = ap (λ (end : End (List Given)). end.about) c.in_ok-send.ensures.receive;
      unmoved = ap (λ (end : End (List Given)). end.count) c.in_ok-send.ensures.receive;
    } in
    let worker : Worker g.row.P.Denot g.row.P-Settings.Denot g.row.P-State.Denot =
    record { lane = lane; pass = c.in-Some-claim.pass; out = c.in_ok-out.out } in
    let is_worker : IsWorker verdict_after c.args.logs.now core worker = record {
      of_these = its.logs;
      its_core = its.core;
      begin = record {
        its_lane = new.about ∙ (λ i. route (planned i) (sym its.core i));
        untaken = new.untaken;
        unpublished = its.unpublished;
        unfinished = its.unfinished;
      };
      verdicts = subst (λ (of : Plan). IsNewVerdictEnd verdict_after of core worker.out.outlet) (sym c.requires.plan)
          (subst (λ (end : End (List Given)). IsNewVerdictEnd verdict_after plan core end) (sym c.in_ok-out.ensures) new_send);
    } in
    record {
      of_these = c.claim.ensures.free;
      stock = (let less = c.claim.ensures.stock in let was = c.loop-lane.invariant.stock in omega arith);
      claimed = subst (OfCores (IsWorker verdict_after c.args.logs.now) (core + 1)) (sym c.in_ok-push.ensures.items)
          (one_more (IsWorker verdict_after c.args.logs.now) core c.loop-lane.workers.items worker c.loop-lane.invariant.claimed is_worker);
      verdicts = subst (OfCores (IsNewVerdictEnd verdict_after plan) (core + 1)) (sym c.in_ok-push-2.ensures.items)
          (one_more (IsNewVerdictEnd verdict_after plan) core c.loop-lane.verdicts.items receive c.loop-lane.invariant.verdicts new_receive);
      spent = ap length c.in_ok-push-3.ensures.items ∙ length_push c.loop-lane.spent.items c.in_ok-out.home ∙ ap (λ (n : ℕ). n + 1) c.loop-lane.invariant.spent;
      coming = others_come (IsNewEnd plan) core plan.cores lane rest coming;
    }
