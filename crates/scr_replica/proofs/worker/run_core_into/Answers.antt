use Rattle.std.proofs.Common.{◌≡◌, ℕ, sym, ap, subst, ◌∙◌}
use Rattle.scr_log.specs.Passes.{LogsOf, OfCore}
use Rattle.scr_plan.specs.Plan.{Plan, frame_count}
use Rattle.scr_replica.specs.OneCore.{course}
use Rattle.scr_replica.proofs.Going.{begins, core-tally, none-awaited, published-all}
use Rattle.scr_replica.proofs.worker.run_core_into.Goals as goal

pub go_through-requires-clause-begin : goal.go_through-requires-clause-begin
go_through-requires-clause-begin g c κs within =
    let verdict_after = g.P.Program.verdict_after c.args.settings.now in
    let Awaits = g.O.Outlet.Awaits c.args.outlet.now in
    let pass : c.in-Ok.replica.pass ≡ c.args.pass = c.in-Ok.ensures.pass in
    let logs : c.args.pass.logs ≡ c.args.logs.now = c.requires.of_these in
    let plan : c.args.logs.now.plan ≡ c.in-Ok.replica.pass.logs.plan = sym (ap (λ (p : OfCore). p.logs.plan) pass ∙ ap (λ (l : LogsOf). l.plan) logs) in
    let core : c.args.pass.core ≡ c.in-Ok.replica.pass.core = sym (ap (λ (p : OfCore). p.core) pass) in
    let W : Plan → ℕ → Type 0 = λ p k. Awaits (course verdict_after p k) (course verdict_after p k) in
    begins (g.P.Program.StandsFor c.args.settings.now) verdict_after Awaits c.in-Ok.replica
    c.in-Ok.ensures.replica c.in-Ok.ensures.stands (ap (λ (p : OfCore). p.finished) pass ∙ c.requires.begin.unfinished)
    (subst (λ (p : Plan). W p c.in-Ok.replica.pass.core) plan (subst (λ (k : ℕ). W c.args.logs.now.plan k) core c.requires.awaits))

pub leave-requires-clause-published : goal.leave-requires-clause-published
leave-requires-clause-published g c =
    let it = c.go_through.new.replica in
    let is = c.in-Ok-go_through.ensures.way.came.replica in
    subst (λ (p : OfCore). p.published ≡ frame_count p.logs.plan) (sym c.pass.ensures.pass)
    (published-all it is (is.through c.in-Ok-go_through.ensures.ended))

pub returns-in-Ok-go_through-clause-tally : goal.returns-in-Ok-go_through-clause-tally
returns-in-Ok-go_through-clause-tally g c =
    let it = c.go_through.new.replica in
    core-tally (g.P.Program.StandsFor c.args.settings.now) (g.P.Program.verdict_after c.args.settings.now) (g.O.Outlet.Awaits c.go_through.new.outlet)
    c.in-Ok.replica.pass it c.in-Ok-go_through.ensures.way c.in-Ok-go_through.ensures.ended
    c.args.logs.now.plan (ap (λ (p : OfCore). p.logs.plan) c.in-Ok.ensures.pass ∙ ap (λ (l : LogsOf). l.plan) c.requires.of_these)
    c.args.pass.core (ap (λ (p : OfCore). p.core) c.in-Ok.ensures.pass)
    c.take_apart-pass.result.2 (g.P.Program.count_after c.args.settings.now) c.take_apart-pass.ensures.flows
    c.take_apart-pass.result.1 c.take_apart-pass.ensures.counts
    c.core.result (c.core.ensures.core ∙ ap (λ (p : OfCore). p.core) c.take_apart-pass.ensures.pass)

pub returns-in-Ok-go_through-clause-given : goal.returns-in-Ok-go_through-clause-given
returns-in-Ok-go_through-clause-given g c =
    none-awaited (g.P.Program.StandsFor c.args.settings.now) (g.P.Program.verdict_after c.args.settings.now) (g.O.Outlet.Awaits c.go_through.new.outlet)
    c.in-Ok.replica.pass c.go_through.new.replica c.in-Ok-go_through.ensures.way c.in-Ok-go_through.ensures.ended
    c.args.logs.now.plan (ap (λ (p : OfCore). p.logs.plan) c.in-Ok.ensures.pass ∙ ap (λ (l : LogsOf). l.plan) c.requires.of_these)
    c.args.pass.core (ap (λ (p : OfCore). p.core) c.in-Ok.ensures.pass)
