use Rattle.std.proofs.Common.{subst}
use Rattle.scr_replica.specs.Ways.{Leads}
use Rattle.scr_replica.proofs.worker.go_through.Goals as goal

pub loop-preserved-in-On : goal.loop-preserved-in-On
loop-preserved-in-On g c =
    let led = subst (Leads (g.P.Program.StandsFor c.args.settings.now) (g.P.Program.verdict_after c.args.settings.now) (g.O.Outlet.Awaits c.take_turn.new.outlet) c.args.replica.now.pass c.take_turn.new.replica)
    c.in-On.is (c.take_turn.ensures c.args.replica.now.pass c.loop.invariant.way) in
    record { can_go = (tt, tt); way = led.0; running = led.1 }

pub loop-preserved : goal.loop-preserved
loop-preserved g c =
    let led = subst (Leads (g.P.Program.StandsFor c.args.settings.now) (g.P.Program.verdict_after c.args.settings.now) (g.O.Outlet.Awaits c.take_turn.new.outlet) c.args.replica.now.pass c.take_turn.new.replica)
    c.in-Waits.is (c.take_turn.ensures c.args.replica.now.pass c.loop.invariant.way) in
    record { can_go = (tt, tt); way = led.0; running = led.1 }

pub returns-in-Through-clause-ended : goal.returns-in-Through-clause-ended
returns-in-Through-clause-ended g c =
    let led = subst (Leads (g.P.Program.StandsFor c.args.settings.now) (g.P.Program.verdict_after c.args.settings.now) (g.O.Outlet.Awaits c.take_turn.new.outlet) c.args.replica.now.pass c.take_turn.new.replica)
    c.in-Through.is (c.take_turn.ensures c.args.replica.now.pass c.loop.invariant.way) in
    led.1

pub returns-in-Stops-clause-stopped : goal.returns-in-Stops-clause-stopped
returns-in-Stops-clause-stopped g c =
    let led = subst (Leads (g.P.Program.StandsFor c.args.settings.now) (g.P.Program.verdict_after c.args.settings.now) (g.O.Outlet.Awaits c.take_turn.new.outlet) c.args.replica.now.pass c.take_turn.new.replica)
    c.in-Stops.is (c.take_turn.ensures c.args.replica.now.pass c.loop.invariant.way) in
    led.0

pub returns-in-Stops-clause-halted : goal.returns-in-Stops-clause-halted
returns-in-Stops-clause-halted g c =
    let led = subst (Leads (g.P.Program.StandsFor c.args.settings.now) (g.P.Program.verdict_after c.args.settings.now) (g.O.Outlet.Awaits c.take_turn.new.outlet) c.args.replica.now.pass c.take_turn.new.replica)
    c.in-Stops.is (c.take_turn.ensures c.args.replica.now.pass c.loop.invariant.way) in
    led.1
