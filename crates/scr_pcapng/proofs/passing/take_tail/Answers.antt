use Rattle.std.proofs.Common.{◌≡◌, length, arith}
use Rattle.std.proofs.lemmas.Grind.{common_steps}
use Rattle.scr_pcapng.proofs.Taken.{GivesFewer-more, GivesFewer-then, TakesTail-from, any_on_err}
use Rattle.scr_pcapng.proofs.passing.take_tail.Goals as goal

pub returns-in_err-pass_over-clause-fewer : goal.returns-in_err-pass_over-clause-fewer
returns-in_err-pass_over-clause-fewer g c =
    let least = c.min-short.ensures in
    any_on_err _ (GivesFewer-more _ _ _ _ c.in_err-pass_over.ensures.fewer (omega arith))

pub returns-in_err-take_whole-clause-fewer : goal.returns-in_err-take_whole-clause-fewer
returns-in_err-take_whole-clause-fewer g c =
    let least = c.min-short.ensures in
    any_on_err _
    (GivesFewer-then _ _ _ _ c.min-short.result _ c.in_ok-pass_over.ensures.taken
    (GivesFewer-more _ _ _ c.min-short.result c.in_err-take_whole.ensures.fewer (grind (arith, common_steps))) (omega arith))

pub returns-clause-taken : goal.returns-clause-taken
returns-clause-taken g c =
    let least = c.min-short.ensures in
    let size : length c.take_whole.new.buf ≡ c.min-short.result = grind (arith, common_steps) in
    TakesTail-from _ _ _ _ _ c.min-short.result _ _ c.take_whole.new.buf c.in_ok-pass_over.ensures.taken c.in_ok-take_whole.ensures.taken
    size (omega arith) (omega arith) c.u32_at.ensures
