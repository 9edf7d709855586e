use Rattle.std.proofs.Common.{◌≡◌, map, take}
use Rattle.scr_replica.specs.Answers.{CoreAnswer}
use Rattle.scr_replica.proofs.merging.counts_of_all.Given as goal

abbrev pub invariant-loop-result : goal.invariant-loop-result
invariant-loop-result l = l.counts.items ≡ map (λ (it : CoreAnswer). it.counts) (take l.result-index l.results)
