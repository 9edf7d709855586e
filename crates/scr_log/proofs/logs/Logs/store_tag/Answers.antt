use Rattle.std.proofs.Common.{◌<◌, ℕ, ap, sym, ◌∙◌, subst, arith}
use mathlib.Core.Option.{none}
use Rattle.atomic_table.specs.Table.{step, Allows}
use Rattle.scr_log.specs.LogRule.{Keeps}
use Rattle.scr_log.specs.Steps.{StoresTag}
use Rattle.scr_log.specs.Passes.{LogsOf}
use Rattle.scr_log.proofs.Calls.{tag_allowed}
use Rattle.scr_log.proofs.logs.Logs.store_tag.Goals as goal

pub store-requires : goal.store-requires
store-requires c =
    let homes : ℕ = c.self.inside.table.shared.table_id.slots in
    let within : c.args.at < c.args.self.now.table.words = let all = c.requires.place.within in omega arith in (
      c.requires.may.of_these ∙ ap (λ (l : LogsOf). l.table) (sym c.self.view_is),
      subst (λ (l : LogsOf). c.args.at < l.table.words) (sym c.self.view_is) within,
      subst
          (λ (l : LogsOf). Allows (Keeps l.plan l.slots) homes c.args.seat.now.id c.args.seat.now.me c.args.at (λ _. c.args.tag)
          (λ _. StoresTag (step homes c.args.at c.args.tag 0 none) c.args.seat.now.me c.args.tag))
          (sym c.self.view_is)
          (tag_allowed c.args.self.now c.args.seat.now.table_id homes c.args.seat.now.id c.args.seat.now.me c.args.core c.args.p c.args.at c.args.tag
          c.requires.may c.requires.whole c.requires.tag c.requires.place.place),
    )
