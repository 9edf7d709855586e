use Rattle.std.proofs.Common.{◌<◌, ap, sym, ◌∙◌, subst}
use Rattle.scr_log.specs.Layout.{place, finished_offset}
use Rattle.scr_log.specs.Passes.{LogsOf, OfCore}
use Rattle.scr_log.proofs.Loads.{loads_finished}
use Rattle.scr_log.proofs.logs.Logs.load_finished.Goals as goal

pub load-requires : goal.load-requires
load-requires c =
    let same = ap (λ (p : OfCore). p.logs) c.pass.view_is ∙ c.requires.of_these ∙ sym c.self.view_is in (
      ap (λ (l : LogsOf). l.table) same,
      subst (λ (l : LogsOf). c.finished_place-at.result < l.table.words) (sym c.self.view_is) c.finished_place-at.ensures.within,
      loads_finished c.self.inside.table.shared.key.plan.value c.self.inside.table.shared.key.slots _ _ _ c.args.core _
          (subst (λ (l : LogsOf). c.args.core < l.plan.cores) (sym c.self.view_is) c.requires.core)
          (c.finished_place-at.ensures.place ∙ ap (λ (l : LogsOf). place l.slots c.args.core (finished_offset l.slots)) (sym c.self.view_is)),
    )
