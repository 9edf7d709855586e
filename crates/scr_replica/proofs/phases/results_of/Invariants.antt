use Rattle.std.proofs.Common.{◌≡◌, map}
use Rattle.std.specs.List.{range_with_len}
use Rattle.scr_replica.specs.Answers.{core_answer}
use Rattle.scr_replica.proofs.phases.results_of.Given as goal

abbrev pub invariant-loop-core : goal.invariant-loop-core
invariant-loop-core g l =
    l.results.items ≡ map (core_answer (g.P.Program.verdict_after l.settings) (g.P.Program.count_after l.settings) l.plan) (range_with_len 0 l.core)
