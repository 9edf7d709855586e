use Rattle.std.proofs.Common.{◌≡◌, ℕ, [], List, ◌∷◌, ◌++◌}
use Rattle.scr_base.specs.declared.row.Row.{Row}
use Rattle.scr_base.specs.declared.row.Verdict.{Verdict}
use Rattle.scr_chain.specs.Chains.{passing}
use Rattle.scr_chain.proofs.Passing.{stands-stopped, stands-passed}
use Rattle.scr_chain.proofs.chain.ChainProgram.step.Goals as goal

pub returns-then-not-state-from-clause-stands : goal.returns-then-not-state-from-clause-stands
returns-then-not-state-from-clause-stands g c rows stands =
    let laws = g.met.A.Program in
    let settings = c.args.settings.now in
    let first : List Row → Row → Verdict = g.A.Program.verdict_after settings.first in
    let given : c.in_ok-verdict.verdict ≡ first rows c.args.row.now = c.in_ok-verdict.ensures.verdict rows stands.0 in (
      c.in_ok-verdict.ensures.stands rows stands.0,
      stands-stopped g.A.Program.verdict_names first (g.B.Program.StandsFor settings.second c.prepare.new.state) c.args.state.now.passes rows c.args.row.now
          c.in_ok-verdict.verdict c.from.result c.from.ensures given (laws.is_named settings.first rows c.args.row.now) stands.2 c.if-not-state-from.true
          (c.prepare.ensures.stands (passing g.A.Program.verdict_names first rows) stands.1),
      stands.2,
    )

pub returns-clause-stands : goal.returns-clause-stands
returns-clause-stands g c rows stands =
    let laws = g.met.A.Program in
    let settings = c.args.settings.now in
    let names : List (List ℕ) = g.A.Program.verdict_names in
    let first : List Row → Row → Verdict = g.A.Program.verdict_after settings.first in
    let given : c.in_ok-verdict.verdict ≡ first rows c.args.row.now = c.in_ok-verdict.ensures.verdict rows stands.0 in
    let second = g.B.Program.StandsFor settings.second c.step-2.new.state in
    stands-passed names first second c.args.state.now.passes rows c.args.row.now
    c.in_ok-verdict.verdict c.from.result c.from.ensures given (laws.is_named settings.first rows c.args.row.now) stands.2 c.if-not-state-from.false
    c.step-2.result (g.A.Program.StandsFor settings.first c.step.new.state (rows ++ c.args.row.now ∷ [])) (c.in_ok-verdict.ensures.stands rows stands.0)
    (c.step-2.ensures.stands (passing names first rows) (c.prepare.ensures.stands (passing names first rows) stands.1))
