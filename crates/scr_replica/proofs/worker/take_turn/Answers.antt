use Rattle.std.proofs.Common.{ap, ◌∙◌, subst}
use Rattle.scr_log.specs.declared.view.Noted.TheVariants.{Halt}
use Rattle.scr_replica.specs.declared.turn.Turn.{Turn}
use Rattle.scr_replica.specs.Replicas.{Replica}
use Rattle.scr_replica.specs.Turns.{given_in, Answers}
use Rattle.scr_replica.proofs.Going.{ends-then, came-watched, awaits-on, came-further, goes-without, some-awaited, goes-with}
use Rattle.scr_replica.proofs.worker.take_turn.Goals as goal

pub returns-in-Moved : goal.returns-in-Moved
returns-in-Moved g c start way =
    let S = g.P.Program.StandsFor c.args.settings.now in
    let V = g.P.Program.verdict_after c.args.settings.now in
    let A = g.O.Outlet.Awaits c.args.outlet.now in
    let old = c.args.replica.now in
    let new = c.turn.new.self in
    let e = c.turn.ensures in
    let same = c.give_back.ensures.same in
    let told = subst (λ (t : Turn). Answers old new t) c.in-Moved.is (e.tells.running c.requires.running) in (
      awaits-on S V A (g.O.Outlet.Awaits c.give_back.new.outlet) c.give_back.ensures.awaits start new c.give_back.new.replica same
          (goes-without S V A start old new c.turn.result way e.tells.goes_on e.replica e.stands e.verdict (ap given_in c.in-Moved.is)),
      ap (λ (r : Replica _). r.standing) same ∙ told.0,
    )

pub give_out-requires-clause-awaited : goal.give_out-requires-clause-awaited
give_out-requires-clause-awaited g c κs within =
    let e = c.turn.ensures in
    some-awaited (g.P.Program.StandsFor c.args.settings.now) (g.P.Program.verdict_after c.args.settings.now) (g.O.Outlet.Awaits c.args.outlet.now)
    c.requires.way.0 c.args.replica.now c.turn.new.self c.turn.result c.requires.way.1 e.tells.goes_on e.replica e.stands e.verdict
    (record { number = c.in-Verdict.number; verdict = c.in-Verdict.verdict }) (ap given_in c.in-Verdict.is)

pub returns-in-Ok : goal.returns-in-Ok
returns-in-Ok g c start way =
    let e = c.turn.ensures in
    let old = c.args.replica.now in
    let new = c.turn.new.self in
    let told = subst (λ (t : Turn). Answers old new t) c.in-Verdict.is (e.tells.running c.requires.running) in (
      goes-with (g.P.Program.StandsFor c.args.settings.now) (g.P.Program.verdict_after c.args.settings.now) (g.O.Outlet.Awaits c.args.outlet.now)
          start old new c.turn.result way e.tells.goes_on e.replica e.stands e.verdict
          (record { number = c.in-Verdict.number; verdict = c.in-Verdict.verdict }) (ap given_in c.in-Verdict.is)
          (g.O.Outlet.Awaits c.give_out.new.outlet) c.in-Ok.ensures.given c.give_out.new.replica c.give_out.ensures.watched,
      ap (λ (r : Replica _). r.standing) c.give_out.ensures.watched.same ∙ told.0,
    )

pub returns-in-Err : goal.returns-in-Err
returns-in-Err g c start way =
    let S = g.P.Program.StandsFor c.args.settings.now in
    let e = c.turn.ensures in
    let old = c.args.replica.now in
    let new = c.turn.new.self in
    let last = c.give_out.new.replica in
    let came = came-further S (g.P.Program.verdict_after c.args.settings.now) (g.O.Outlet.Awaits c.args.outlet.now)
    start old new c.turn.result way e.tells.goes_on e.replica e.stands e.verdict in (
      came-watched S start new last came c.give_out.ensures.watched,
      λ halted. ends-then start new.pass last.pass (Halt 1) came.looks (c.in-Err.ensures.halted halted),
    )

pub returns-in-Waiting : goal.returns-in-Waiting
returns-in-Waiting g c start way =
    let e = c.turn.ensures in
    let old = c.args.replica.now in
    let new = c.turn.new.self in
    let told = subst (λ (t : Turn). Answers old new t) c.in-Waiting.is (e.tells.running c.requires.running) in (
      goes-without (g.P.Program.StandsFor c.args.settings.now) (g.P.Program.verdict_after c.args.settings.now) (g.O.Outlet.Awaits c.args.outlet.now)
          start old new c.turn.result way e.tells.goes_on e.replica e.stands e.verdict (ap given_in c.in-Waiting.is),
      told.0,
    )

pub returns-in-Ended : goal.returns-in-Ended
returns-in-Ended g c start way =
    let e = c.turn.ensures in
    let old = c.args.replica.now in
    let new = c.turn.new.self in
    let told = subst (λ (t : Turn). Answers old new t) c.in-Ended.is (e.tells.running c.requires.running) in (
      goes-without (g.P.Program.StandsFor c.args.settings.now) (g.P.Program.verdict_after c.args.settings.now) (g.O.Outlet.Awaits c.args.outlet.now)
          start old new c.turn.result way e.tells.goes_on e.replica e.stands e.verdict (ap given_in c.in-Ended.is),
      told,
    )

pub returns-in-Halted : goal.returns-in-Halted
returns-in-Halted g c start way =
    let e = c.turn.ensures in
    let old = c.args.replica.now in
    let new = c.turn.new.self in
    let told = subst (λ (t : Turn). Answers old new t) c.in-Halted.is (e.tells.running c.requires.running) in (
      came-further (g.P.Program.StandsFor c.args.settings.now) (g.P.Program.verdict_after c.args.settings.now) (g.O.Outlet.Awaits c.args.outlet.now)
          start old new c.turn.result way e.tells.goes_on e.replica e.stands e.verdict,
      λ _. ends-then start old.pass new.pass (Halt 1) way.came.looks told.1,
    )

pub returns-in-OutOfMemory : goal.returns-in-OutOfMemory
returns-in-OutOfMemory g c start way =
    let e = c.turn.ensures in
    let old = c.args.replica.now in
    let new = c.turn.new.self in (
      came-further (g.P.Program.StandsFor c.args.settings.now) (g.P.Program.verdict_after c.args.settings.now) (g.O.Outlet.Awaits c.args.outlet.now)
          start old new c.turn.result way e.tells.goes_on e.replica e.stands e.verdict,
      λ same. absurd cc,
    )
