use Rattle.std.proofs.Common.{◌≡◌, ◌+◌, ◌∷◌, [], ◌++◌, ℕ, List, length, sym, ap, subst, rules, ◌∙◌}
use Rattle.std.proofs.lemmas.List.{length_push}
use Rattle.std.specs.Vec.Iter.{into_iter_items}
use Rattle.scr_base.specs.declared.row.Row.{Row}
use Rattle.scr_base.specs.declared.row.Verdict.{Verdict}
use Rattle.scr_plan.specs.Plan.{Plan}
use Rattle.scr_crew.specs.Cores.{OfCores}
use Rattle.scr_crew.specs.Workers.{IsWorker}
use Rattle.scr_crew.specs.Threads.{IsThread}
use Rattle.scr_crew.specs.declared.workers.Worker.{Worker}
use Rattle.scr_crew.proofs.Coming.{Coming, first_comes, others_come, one_more}
use Rattle.scr_crew.proofs.work.start_all.Goals as goal

pub loop-worker-preserved : goal.loop-worker-preserved
loop-worker-preserved g c =
    let logs = c.args.logs.now in
    let settings = c.args.settings.now in
    let verdict_after : List Row → Row → Verdict = g.P.Program.verdict_after settings in
    let plan : Plan = c.args.plan.now in
    let started = c.loop-worker.started.items in
    let n : ℕ = length started in
    let all : ℕ = length c.args.workers.items in
    let worker : Worker g.row.P.Denot g.row.P-Settings.Denot g.row.P-State.Denot = c.in-Some.worker in
    let thread = c.in-Some-thread.thread in
    let rest : List (Worker g.row.P.Denot g.row.P-Settings.Denot g.row.P-State.Denot) = into_iter_items c.next.new.self in
    let coming : Coming (IsWorker verdict_after logs) n all (worker ∷ rest) =
    subst (Coming (IsWorker verdict_after logs) n all) c.in-Some.ensures.steps.0 c.loop-worker.invariant.1 in
    let its : IsWorker verdict_after logs n worker = first_comes (IsWorker verdict_after logs) n all worker rest coming in
    let is_thread : IsThread settings plan n thread = subst (λ (k : ℕ). IsThread settings plan k thread) its.its_core c.in-Some-thread.ensures in
    let grown : c.push.new.self.items ≡ started ++ thread ∷ [] = search rules in
    let longer : n + 1 ≡ length c.push.new.self.items = sym (length_push started thread) ∙ ap length (sym grown) in (
      subst (λ xs. OfCores (IsThread settings plan) (length xs) xs) (sym grown)
          (subst (λ (k : ℕ). OfCores (IsThread settings plan) k (started ++ thread ∷ [])) (sym (length_push started thread))
          (one_more (IsThread settings plan) n started thread c.loop-worker.invariant.0 is_thread)),
      subst (λ (k : ℕ). Coming (IsWorker verdict_after logs) k all rest) longer (others_come (IsWorker verdict_after logs) n all worker rest coming),
    )
