use Rattle.std.proofs.Common.{◌<◌, ℕ, ◌+◌, ap, sym, ◌∙◌, subst, arith}
use mathlib.Core.Option.{none}
use Rattle.atomic_table.specs.Table.{step, Allows}
use Rattle.scr_log.specs.Entries.{row_word}
use Rattle.scr_log.specs.LogRule.{Keeps}
use Rattle.scr_log.specs.Steps.{StoresWord}
use Rattle.scr_log.specs.Passes.{LogsOf}
use Rattle.scr_log.proofs.Calls.{word_allowed}
use Rattle.scr_log.proofs.logs.Logs.store_row.Goals as goal

pub store-requires : goal.store-requires
store-requires c =
    let homes : ℕ = c.self.inside.table.shared.table_id.slots in
    let i : ℕ = c.loop-i.i in
    let few : i < 7 = c.loop-i-test.true in
    let within : c.args.at + 1 + i < c.args.self.now.table.words = let all = c.requires.place.within in omega arith in (
      c.loop-i.invariant.table ∙ c.requires.may.of_these ∙ ap (λ (l : LogsOf). l.table) (sym c.self.view_is),
      subst (λ (l : LogsOf). c.args.at + 1 + i < l.table.words) (sym c.self.view_is) within,
      subst
          (λ (l : LogsOf). Allows (Keeps l.plan l.slots) homes c.loop-i.seat.id c.loop-i.seat.me (c.args.at + 1 + i) (λ _. row_word c.args.row.now i)
          (λ _. StoresWord (step homes (c.args.at + 1 + i) (row_word c.args.row.now i) 0 none) c.loop-i.seat.me (row_word c.args.row.now i)))
          (sym c.self.view_is)
          (word_allowed c.args.self.now c.args.seat.now.table_id homes c.loop-i.seat.id c.args.seat.now.me c.loop-i.seat.me c.args.core c.args.p c.args.at i
          c.args.row.now c.requires.may c.loop-i.invariant.stored few c.requires.entry c.requires.place.place),
    )
