use Rattle.std.proofs.Common.{◌<◌, ap, sym, ◌∙◌, subst}
use Rattle.scr_log.specs.Layout.{halt_place}
use Rattle.scr_log.specs.Passes.{LogsOf}
use Rattle.scr_log.proofs.Loads.{loads_halt}
use Rattle.scr_log.proofs.logs.Logs.load_halt.Goals as goal

pub load-requires : goal.load-requires
load-requires c = (
  c.requires ∙ ap (λ (l : LogsOf). l.table) (sym c.self.view_is),
  subst (λ (l : LogsOf). c.halt_place-at.result < l.table.words) (sym c.self.view_is) c.halt_place-at.ensures.within,
  loads_halt c.self.inside.table.shared.key.plan.value c.self.inside.table.shared.key.slots _ _ _ _
      (c.halt_place-at.ensures.place ∙ ap (λ (l : LogsOf). halt_place l.plan.cores l.slots) (sym c.self.view_is)),
)
