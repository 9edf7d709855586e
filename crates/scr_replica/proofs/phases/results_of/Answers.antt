use Rattle.std.proofs.Common.{◌++◌, ◌∷◌, [], ℕ, List, length, map, arith, ap, sym, ◌∙◌}
use Rattle.std.specs.List.{range_with_len}
use Rattle.std.proofs.lemmas.List.FromFn.{map-range_with_len_more, length-map-range_with_len}
use Rattle.scr_replica.specs.Answers.{CoreAnswer, core_answer}
use Rattle.scr_replica.proofs.phases.results_of.Goals as goal

pub loop-core-preserved : goal.loop-core-preserved
loop-core-preserved g c =
    let one = core_answer (g.P.Program.verdict_after c.args.settings.now) (g.P.Program.count_after c.args.settings.now) c.args.plan.now in
    let n : ℕ = c.loop-core.core in
    c.in_ok-push.ensures.items
    ∙ ap (λ (xs : List CoreAnswer). xs ++ c.in_ok-replay.field-0 ∷ []) c.loop-core.invariant
    ∙ ap (λ (it : CoreAnswer). map one (range_with_len 0 n) ++ it ∷ []) c.in_ok-replay.ensures
    ∙ sym (map-range_with_len_more one 0 n n (omega arith))

pub returns-clause-count : goal.returns-clause-count
returns-clause-count g c =
    let one = core_answer (g.P.Program.verdict_after c.args.settings.now) (g.P.Program.count_after c.args.settings.now) c.args.plan.now in
    omega (
      arith,
      ap length c.loop-core.invariant,
      length-map-range_with_len one 0 c.loop-core.core,
      c.loop-core-test.false,
      c.loop-core.auto.core-end,
      c.cores-core-end.ensures.cores,
    )
