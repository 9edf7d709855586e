use Rattle.std.proofs.Common.{◌≡◌, ◌<◌, ap, sym, ◌∙◌, subst, arith}
use Rattle.scr_log.specs.Layout.{place, finished_offset}
use Rattle.scr_log.specs.Passes.{LogsOf, OfCore}
use Rattle.scr_log.proofs.Stores.{stores_finished}
use Rattle.scr_log.proofs.logs.Logs.finish.Goals as goal

pub store-requires : goal.store-requires
store-requires c =
    let same = ap (λ (p : OfCore). p.logs) c.pass.view_is ∙ c.requires.of_these ∙ sym c.self.view_is in
    let published : c.pass.inside.seat.me.0.published ≡ c.args.pass.now.published = ap (λ (p : OfCore). p.published) c.pass.view_is in
    let finished : c.pass.inside.seat.me.0.finished ≡ c.args.pass.now.finished = ap (λ (p : OfCore). p.finished) c.pass.view_is in
    let current = c.requires in
    let value = c.from.ensures in (
      ap (λ (l : LogsOf). l.table) same,
      subst (λ (l : LogsOf). c.finished_place-at.result < l.table.words) (sym c.self.view_is) c.finished_place-at.ensures.within,
      stores_finished c.self.inside.table.shared.key.plan.value c.self.inside.table.shared.key.slots _ _ _ c.pass.inside.core _ _
          c.pass.invariant.its_core c.pass.invariant.nothing_found (omega arith) (omega arith)
          (c.finished_place-at.ensures.place ∙ ap (λ (l : LogsOf). place l.slots c.pass.inside.core (finished_offset l.slots)) (sym c.self.view_is)),
    )
