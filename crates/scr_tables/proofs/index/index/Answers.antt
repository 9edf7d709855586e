-- The rules of one state after the other.
use Rattle.std.proofs.Common.{◌∙◌, ◌+◌, length, ap}
use Rattle.std.proofs.lemmas.List.{length_push}
use Rattle.scr_tables.proofs.Special.{each-push}
use Rattle.scr_tables.proofs.index.index.Goals as goal

pub loop-state-preserved : goal.loop-state-preserved
loop-state-preserved c = record {
  count = ap length c.in_ok-push.ensures.items ∙ length_push c.loop-state.by_state.items c.in_ok-found.found ∙ ap (λ n. n + 1) c.loop-state.invariant.count;
  each = rw c.in_ok-push.ensures.items
      (each-push c.args.rules.now c.loop-state.by_state.items c.in_ok-found.found c.loop-state.state c.loop-state.invariant.count
      c.in_ok-found.ensures c.loop-state.invariant.each);
}
