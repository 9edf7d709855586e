use Rattle.std.proofs.Common.{◌≡◌, ap, sym, ◌∙◌, arith}
use Rattle.scr_log.specs.Passes.{LogsOf, Free}
use Rattle.scr_log.proofs.Draws.{splits}
use Rattle.scr_log.proofs.pass.FreePass.split.Goals as goal

pub split_seat-seat-requires : goal.split_seat-seat-requires
split_seat-seat-requires c =
    let same = ap (λ (p : Free). p.logs) c.self.view_is ∙ c.requires.of_these ∙ sym c.logs.view_is in
    let words = c.logs.invariant.3.words in
    let stock : c.self.inside.seat.me.0.stock ≡ c.args.self.now.stock = ap (λ (p : Free). p.stock) c.self.view_is in (
      ap (λ (l : LogsOf). l.table) same,
      omega arith,
      splits c.logs.inside.table.shared.key.plan.value c.logs.inside.table.shared.key.slots _ _ (omega arith),
    )
