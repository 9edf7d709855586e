use Rattle.std.proofs.Common.{◌<◌, ap, sym, ◌∙◌, subst}
use Rattle.scr_log.specs.Layout.{halt_place}
use Rattle.scr_log.specs.Passes.{LogsOf}
use Rattle.scr_log.proofs.Halts.{sets_halt}
use Rattle.scr_log.proofs.logs.Logs.set_halt.Goals as goal

pub fetch_or-requires : goal.fetch_or-requires
fetch_or-requires c = (
  c.requires ∙ ap (λ (l : LogsOf). l.table) (sym c.self.view_is),
  subst (λ (l : LogsOf). c.halt_place-at.result < l.table.words) (sym c.self.view_is) c.halt_place-at.ensures.within,
  sets_halt c.self.inside.table.shared.key.plan.value c.self.inside.table.shared.key.slots _ _ _ _
      (c.halt_place-at.ensures.place ∙ ap (λ (l : LogsOf). halt_place l.plan.cores l.slots) (sym c.self.view_is)),
)
