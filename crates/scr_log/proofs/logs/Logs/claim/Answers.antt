use Rattle.std.proofs.Common.{◌≡◌, ◌<◌, ap, sym, ◌∙◌, subst, arith}
use Rattle.scr_log.specs.Layout.{claim_place}
use Rattle.scr_log.specs.Progress.{progress_of}
use Rattle.scr_log.specs.Passes.{LogsOf, Free}
use Rattle.scr_log.specs.Steps.{Mine}
use Rattle.scr_log.proofs.Draws.{draws}
use Rattle.scr_log.proofs.logs.Logs.claim.Goals as goal

pub fetch_add-number-requires : goal.fetch_add-number-requires
fetch_add-number-requires c =
    let same = ap (λ (p : Free). p.logs) c.pass.view_is ∙ c.requires.of_these ∙ sym c.self.view_is in
    let stock : c.pass.inside.seat.me.0.stock ≡ c.args.pass.stock = ap (λ (p : Free). p.stock) c.pass.view_is in
    let free = c.pass.invariant in (
      ap (λ (l : LogsOf). l.table) same,
      subst (λ (l : LogsOf). c.claim_place.result < l.table.words) (sym c.self.view_is) c.claim_place.ensures.within,
      draws c.self.inside.table.shared.key.plan.value c.self.inside.table.shared.key.slots _ _ _ _
          (ap (λ (me : Mine). me.0.core) free) (ap (λ (me : Mine). me.0.found) free) (ap (λ (me : Mine). progress_of me.0) free)
          (let more = c.requires.stock in omega arith)
          (c.claim_place.ensures.place ∙ ap (λ (l : LogsOf). claim_place l.plan.cores l.slots) (sym c.self.view_is)),
    )
